-- The state of the whole log since founding, as the tail behind b bytes of records has it.
--     local-zero, local-past, local-later, local-before     places
--     synced-seen                     what is synced
--     request-seen, fetch-seen, sync-seen, notice-seen, give-seen, image-seen, take-seen, receipt-seen, release-seen     decisions
--     apply-seen, mark-seen           a record applied, a mark moved
--     size-seen, marked-seen          length and mark in the whole log
--     recovered-seen, replay-seen     recovery of the tail's entries
--     rebase_any, rebase_rebase, rebased-seen, rebased-whole, rebase_seen     a checkpoint on a tail
--     seen-zero, seen-founded         before the first checkpoint
-- Assumes nothing.
use Rattle.std.specs.Prelude.{Option}
use Prim.Native.Nat.{ℕ, zero, suc, ◌+◌, ◌-◌, ◌≤◌}
use mathlib.Core.Path.{◌≡◌, refl, sym, ap, ◌∙◌}
use mathlib.Core.Bool.{Bool, true, false}
use mathlib.Core.List.{List, [], ◌∷◌, map, map-map}
use mathlib.Core.Option
use mathlib.Core.Option.{Option as Maybe, none}
use native.Mathlib.Omega.{arith}
use lib.Dec.{leb, ltb}
use borrow.Author.Tests.{ne_eqb, leb-true, leb-false, le-leb, lt-leb, lt-ltb, le-ltb, ltb-true, ltb-false}
use Rattle.model.specs.declared.PlanEntry.{PlanEntry}
use Rattle.model.specs.declared.Packet.{Packet}
use Rattle.model.specs.Versions.{Versions}
use Rattle.model.specs.Choice.{pick, Decision, marks, unless_refused, is_passed}
use Rattle.model.specs.Limits.{head_size}
use Rattle.model.specs.Images.{Image}
use Rattle.model.specs.Logs.{LogRecord, Entry}
use Rattle.model.specs.States.{State, is_synced}
use Rattle.model.specs.Apply.{apply_record, apply, founded, founded_point, replay_from, with_mark}
use Rattle.model.specs.Decisions.{on_request, on_fetch, sync_refusal, on_sync, on_notice, on_give, on_image, on_take, on_receipt, on_release, follows}
use Rattle.model.specs.Operations.{recovered}
use Rattle.model.specs.Checkpoints.{placed_point, placed, end_before, rebased}
use Rattle.model_laws.specs.Bytes.{All}
use Rattle.model_invariants.specs.Sound.{GoodEnd, SoundBy}
use Rattle.model_invariants.specs.Placed.{local, seen_from, later_entry, later, marks_from, KeepsSynced, PastHead}
use Rattle.model_invariants.proofs.Placed.{placed-placed, placed_any, placed-good, placed-id, follows-placed, apply-placed}
use Rattle.model_invariants.proofs.Placed.{request-placed, fetch-placed, notice-placed, give-placed, image-placed, take-placed, receipt-placed, release-placed}

-- ---- places

pub local-zero : (b : ℕ) → local b 0 ≡ 0
unfolding local
local-zero b = refl

local-some : (b e : ℕ) → 1 ≤ e → local b e ≡ head_size + (e - (b + head_size))
unfolding local
local-some b e h = rw (ne_eqb e 0 (λ (z : e ≡ 0). omega arith))

-- past what was replaced
pub local-past : (b e : ℕ) → b + head_size ≤ e → b + local b e ≡ e
local-past b e h = let k = local-some b e (omega arith) in omega arith

pub local-later : (b e : ℕ) → head_size ≤ e → local b (b + e) ≡ e
local-later b e h = let k = local-some b (b + e) (omega arith) in omega arith

-- what was replaced
pub local-before : (b e : ℕ) → 1 ≤ e → e ≤ b + head_size → local b e ≡ head_size
local-before b e h l = let k = local-some b e h in omega arith

pub synced-seen : (b mark : ℕ) → b + head_size ≤ mark → (e : ℕ) → is_synced (local b mark) (local b e) ≡ is_synced mark e
unfolding is_synced
synced-seen b mark h zero = le-leb (local b 0) (local b mark) (omega (arith, local-zero b)) ∙ sym (le-leb 0 mark (omega arith))
synced-seen b mark h (suc e) =
    let k = local-some b (suc e) (omega arith) in
    let m = local-past b mark h in
    go (leb (suc e) mark) refl k m
  where
    go : (t : Bool) → leb (suc e) mark ≡ t → local b (suc e) ≡ head_size + (suc e - (b + head_size)) → b + local b mark ≡ mark → leb (local b (suc e)) (local b mark) ≡ t
    go true q k m = le-leb (local b (suc e)) (local b mark) (omega (arith, leb-true (suc e) mark q))
    go false q k m = lt-leb (local b (suc e)) (local b mark) (omega (arith, leb-false (suc e) mark q))

-- ---- decisions

module _ (b : ℕ) (st : State) (h : b + head_size ≤ st.mark) where
  synced-here : KeepsSynced (local b) st.mark
  synced-here = synced-seen b st.mark h

pub request-seen : (b : ℕ) (v : Versions) (st : State) (free : ℕ) (p : Option Packet) → b + head_size ≤ st.mark → on_request v (seen_from b st) free p ≡ on_request v st free p
unfolding seen_from
request-seen b v st free p h = request-placed (local b) st (synced-here b st h) v free p

pub fetch-seen : (b : ℕ) (v : Versions) (st : State) (x c : ℕ) → b + head_size ≤ st.mark → on_fetch v (seen_from b st) x c ≡ on_fetch v st x c
unfolding seen_from
fetch-seen b v st x c h = fetch-placed (local b) st (synced-here b st h) v x c

pub notice-seen : (b : ℕ) (st : State) (free : ℕ) (p : Option Packet) → on_notice (seen_from b st) free p ≡ on_notice st free p
unfolding seen_from
notice-seen b st free p = notice-placed (local b) st free p

pub give-seen : (b : ℕ) (st : State) (free p d : ℕ) → on_give (seen_from b st) free p d ≡ on_give st free p d
unfolding seen_from
give-seen b st free p d = give-placed (local b) st free p d

pub image-seen : (b : ℕ) (v : Versions) (st : State) (p : ℕ) → b + head_size ≤ st.mark → on_image v (seen_from b st) p ≡ on_image v st p
unfolding seen_from
image-seen b v st p h = image-placed (local b) st (synced-here b st h) (local-zero b) v p

pub take-seen : (b : ℕ) (st : State) (free : ℕ) (o : Maybe Image) → on_take (seen_from b st) free o ≡ on_take st free o
unfolding seen_from
take-seen b st free o = take-placed (local b) st free o

pub receipt-seen : (b : ℕ) (st : State) (p : ℕ) → b + head_size ≤ st.mark → on_receipt (seen_from b st) p ≡ on_receipt st p
unfolding seen_from
receipt-seen b st p h = receipt-placed (local b) st (synced-here b st h) (local-zero b) p

pub release-seen : (b : ℕ) (st : State) (free : ℕ) (p : Option Packet) → on_release (seen_from b st) free p ≡ on_release st free p
unfolding seen_from
release-seen b st free p = release-placed (local b) st free p

-- a comparison of places, both moved by b
moved-below : (b m n l : ℕ) → b + l ≡ n → ltb m l ≡ ltb (b + m) n
moved-below b m n l e = go (ltb m l) refl
  where
    go : (t : Bool) → ltb m l ≡ t → t ≡ ltb (b + m) n
    go true q = sym (lt-ltb (b + m) n (omega (arith, ltb-true m l q)))
    go false q = sym (le-ltb (b + m) n (omega (arith, ltb-false m l q)))

moved_above : (b m n l : ℕ) → b + l ≡ n → ltb l m ≡ ltb n (b + m)
moved_above b m n l e = go (ltb l m) refl
  where
    go : (t : Bool) → ltb l m ≡ t → t ≡ ltb n (b + m)
    go true q = sym (lt-ltb n (b + m) (omega (arith, ltb-true l m q)))
    go false q = sym (le-ltb n (b + m) (omega (arith, ltb-false l m q)))

marks-moved : (b n m : ℕ) → marks_from b (unless_refused n (marks m)) ≡ unless_refused n (marks (b + m))
unfolding unless_refused marks_from
marks-moved b n m = go (is_passed n)
  where
    go : (t : Bool) → marks_from b (pick t (marks m) (Decision.refuse n)) ≡ pick t (marks (b + m)) (Decision.refuse n)
    go true = refl
    go false = refl

pub size-seen : (b : ℕ) (st : State) → b + head_size ≤ st.size → b + (seen_from b st).size ≡ st.size
unfolding seen_from placed
size-seen b st h = local-past b st.size h

pub marked-seen : (b : ℕ) (st : State) → b + head_size ≤ st.mark → b + (seen_from b st).mark ≡ st.mark
unfolding seen_from placed
marked-seen b st h = local-past b st.mark h

pub sync-seen : (b : ℕ) (st : State) → b + head_size ≤ st.mark → st.mark ≤ st.size → (m : ℕ) → marks_from b (on_sync (seen_from b st) m) ≡ on_sync st (b + m)
unfolding on_sync sync_refusal
sync-seen b st h l m =
    let low : ltb m (seen_from b st).mark ≡ ltb (b + m) st.mark = moved-below b m st.mark (seen_from b st).mark (marked-seen b st h) in
    let high : ltb (seen_from b st).size m ≡ ltb st.size (b + m) = moved_above b m st.size (seen_from b st).size (size-seen b st (omega arith)) in
    marks-moved b (sync_refusal (seen_from b st).mark (seen_from b st).size m) m ∙ rw (low, high)

-- ---- a record applied, a mark moved

pub apply-seen : (b : ℕ) (r : LogRecord) (end : ℕ) (st : State) → head_size ≤ end → apply_record r end (seen_from b st) ≡ seen_from b (apply_record r (b + end) st)
unfolding seen_from
apply-seen b r end st h =
    ap (λ (e : ℕ). apply_record r e (placed (local b) st)) (sym (local-later b end h)) ∙ apply-placed (local b) (local-zero b) r (b + end) st

pub mark-seen : (b m : ℕ) (st : State) → head_size ≤ m → with_mark m (seen_from b st) ≡ seen_from b (with_mark (b + m) st)
unfolding seen_from placed with_mark
mark-seen b m st h = rw (local-later b m h)

-- ---- recovery of the tail's entries

pub replay-seen : (b : ℕ) (st : State) (es : List Entry) → All PastHead es → replay_from (seen_from b st) es ≡ seen_from b (replay_from st (later b es))
unfolding replay_from later apply
replay-seen b st [] h = refl
replay-seen b st (e ∷ es) h =
    ap (λ (s : State). replay_from s es) (apply-seen b e.item e.end st h.0) ∙ replay-seen b (apply st (later_entry b e)) es h.1

pub recovered-seen : (b : ℕ) (st : State) (es : List Entry) → All PastHead es → recovered (seen_from b st) es ≡ Option.map (seen_from b) (recovered st (later b es))
unfolding recovered later apply
recovered-seen b st [] h = refl
recovered-seen b st (e ∷ es) h = go (follows st e.item) (unfold seen_from in follows-placed (local b) st e.item) (recovered-seen b (apply st (later_entry b e)) es h.1)
  where
    next : State
    next = apply_record e.item (b + e.end) st

    go : (t : Bool) → follows (seen_from b st) e.item ≡ t → recovered (seen_from b next) es ≡ Option.map (seen_from b) (recovered next (later b es))
        → elim (follows (seen_from b st) e.item) [ true ↦ recovered (apply_record e.item e.end (seen_from b st)) es | false ↦ none ]
        ≡ Option.map (seen_from b) (elim t [ true ↦ recovered next (later b es) | false ↦ none ])
    go true q ih = rw q (ap (λ (s : State). recovered s es) (apply-seen b e.item e.end st h.0) ∙ ih)
    go false q ih = rw q

-- ---- a checkpoint on a tail

pub before-some : (e : ℕ) → 1 ≤ e → end_before e ≡ head_size
unfolding end_before
before-some e h = rw (ne_eqb e 0 (λ (z : e ≡ 0). omega arith))

-- a function that keeps 0, and makes no other place 0, is not seen in a checkpoint
pub rebase_any : (f : ℕ → ℕ) → f 0 ≡ 0 → ((e : ℕ) → 1 ≤ e → 1 ≤ f e) → (st : State) → rebased (placed f st) ≡ rebased st
unfolding rebased
rebase_any f z h st = placed-placed end_before f st ∙ placed_any (λ (e : ℕ). end_before (f e)) end_before go st
  where
    go : (e : ℕ) → end_before (f e) ≡ end_before e
    go zero = ap end_before z
    go (suc e) = before-some (f (suc e)) (h (suc e) (omega arith)) ∙ sym (before-some (suc e) (omega arith))

pub rebase_rebase : (st : State) → rebased (rebased st) ≡ rebased st
unfolding rebased
rebase_rebase st = rebase_any end_before (unfold end_before in refl) (λ (e : ℕ) (h : 1 ≤ e). let k = before-some e h in omega arith) st

pub rebased-seen : (b : ℕ) (st : State) → rebased (seen_from b st) ≡ rebased st
unfolding seen_from
rebased-seen b st = rebase_any (local b) (local-zero b) (λ (e : ℕ) (h : 1 ≤ e). let k = local-some b e h in omega arith) st

-- a checkpoint replaces the whole log
pub rebased-whole : {P : ℕ → Type 0} (st : State) → SoundBy P st → rebased st ≡ seen_from (st.size - head_size) st
unfolding rebased seen_from
rebased-whole st S = placed-good end_before (local (st.size - head_size)) st S go
  where
    go : (e : ℕ) → GoodEnd st.size e → end_before e ≡ local (st.size - head_size) e
    go zero g = unfold end_before local in refl
    go (suc e) g = before-some (suc e) (omega arith) ∙ sym (local-before (st.size - head_size) (suc e) (omega arith) (omega (arith, g.within, S.head, S.mark)))

pub rebase_seen : {P : ℕ → Type 0} (b : ℕ) (st : State) → SoundBy P st → rebased (seen_from b st) ≡ seen_from (st.size - head_size) st
rebase_seen b st S = rebased-seen b st ∙ rebased-whole st S

-- ---- before the first checkpoint

pub seen-zero : {P : ℕ → Type 0} (st : State) → SoundBy P st → seen_from 0 st ≡ st
unfolding seen_from
seen-zero st S = placed-good (local 0) (λ (e : ℕ). e) st S go ∙ placed-id st
  where
    go : (e : ℕ) → GoodEnd st.size e → local 0 e ≡ e
    go zero g = local-zero 0
    go (suc e) g = let k = local-past 0 (suc e) (g.past (λ (z : suc e ≡ 0). omega arith)) in omega arith

pub seen-founded : (plan : List PlanEntry) (n : ℕ) → seen_from 0 (founded plan n) ≡ founded plan n
unfolding seen_from placed founded local
seen-founded plan n =
    let xs : map (placed_point (local 0)) (map (founded_point n) plan) ≡ map (founded_point n) plan
    = unfold placed_point local founded_point in map-map (placed_point (local 0)) (founded_point n) plan in
    rw xs
