-- Every call not refused leaves the state sound.
--     lent-number, found_number, recover-number     the refusal's number of a call, case by case
--     lent_elim, found_elim, recover_elim     what a call comes to
--     operated-is         a call of an operation carries out what it decides
--     decision-allowed    it appends only what some operation decides, and sets only a mark within the log
--     sets-mark           only sync sets a mark
--     handed-over         an operation with what is handed over for the packet or image that it names
--     call-sound          number 0: the buffer passes the test of soundness
--     call-bytes          state and log stay bytes
--     call_kept           a call on a sound buffer, refused or not, leaves a sound buffer (of the two calls with a checkpoint: TailCalls)
-- Assumes nothing.
use Rattle.std.specs.Prelude.{Option}
use Prim.Native.Nat.{ℕ, ◌+◌, ◌-◌, ◌*◌, ◌≤◌, ◌<◌}
use mathlib.Core.Path.{◌≡◌, refl, sym, ◌∙◌, ap, subst}
use mathlib.Core.Bool.{Bool, true, false, ◌||◌, not}
use mathlib.Core.List.{List, []}
use mathlib.Core.Option.{Option as Maybe, none, some}
use mathlib.Core.Logic.{◌⊎◌, inl, inr}
use native.Mathlib.Omega.{arith}
use lib.ListN.{length}
use lib.Dec.{ltb}
use borrow.Author.Tests.{ltb-false, not-false}
use Rattle.model.specs.Versions.{Versions}
use Rattle.model.specs.declared.Completion.{Completion}
use Rattle.model.specs.declared.Request.{Request}
use Rattle.model.specs.declared.Packet.{Packet}
use Rattle.model.specs.Choice.{or_else, refuse, deny, reply, append, marks, unless_refused}
use Rattle.model.specs.Refusals
use Rattle.model.specs.Numbers.{word}
use Rattle.model.specs.Limits.{last_server, state_size, head_size}
use Rattle.model.specs.Plan.{plan_ok, plan_of}
use Rattle.model.specs.Packets.{result_size_of, parse_packet, as_request, as_receipt, as_notice}
use Rattle.model.specs.Images.{Image, parse_image, greatest_of}
use Rattle.model.specs.Tables.{written}
use Rattle.model.specs.Logs.{LogRecord, record_size, record_bytes, head_bytes}
use Rattle.model.specs.States.{State, load, sound, state_bytes}
use Rattle.model.specs.Apply.{apply_record, founded, with_mark}
use Rattle.model.specs.Decisions.{Decided, timed_by, or_malformed, find, on_held, on_new, on_id, decide_request, denying, on_request, on_fetched, on_fetch, on_sync, decide_notice, on_notice, on_give, on_image, decide_take, on_take, on_receipt, decide_release, on_release}
use Rattle.model.specs.Operations.{After, answer_of, after, short, unfit, free_in, stored, settle, lent_refusal, lent, left_unless, found_refusal, found_of, request_of, fetch_of, sync_of, notice_of, give_of, image_of, take_of, receipt_of, release_of, recover_refusal, recover_of, settle_recovered, recovered_state}
use Rattle.model.specs.Calls.{OperationOf, Operation, request, fetch, sync, notice, give, image, take_in, receipt, release, handed, operated, decision}
use Rattle.model_laws.specs.Bytes.{Bytes}
use Rattle.model_invariants.specs.History.{GoodPlan, Decides, by_give}
use Rattle.model_invariants.specs.Calls.{Only, refuses, denies, replies, appends, sets, Allowed, Named, LentBytes, output_size, has_output, output, HandedOver, decided_on, Call, found, operate, recover, left, CallBytes}
use Rattle.model_laws.proofs.Tests.{choose, or_left, or_right}
use Rattle.model_laws.proofs.Refused.{unless}
use Rattle.model_laws.proofs.Written.{bytes-written}
use Rattle.model_laws.proofs.Logs.{head_bytes_lem, record-bytes}
use Rattle.model_laws.proofs.States.{state-bytes}
use Rattle.model_invariants.proofs.Tests.{fits_of}
use Rattle.model_invariants.proofs.Decided.{sync-passed}
use Rattle.model_invariants.proofs.Steps.{sound-mark}
use Rattle.model_invariants.proofs.Kept.{founded-sound, decided-good, decided-sound, decided-space}
use Rattle.model_invariants.proofs.Formats.{record-good, on_request_lem, on_notice_lem, on_take_lem, on_release_lem}
use Rattle.model_invariants.proofs.Crash.{recovered-bytes}
use Rattle.model_invariants.proofs.Loaded.{plan-good, loaded_sound, stored-sound}

-- ---- what an operation may decide

AnyRecord : LogRecord → Type 0
AnyRecord r = Unit

NoRecord : LogRecord → Type 0
NoRecord r = ⊥

AnyMark : ℕ → Type 0
AnyMark m = Unit

NoMark : ℕ → Type 0
NoMark m = ⊥

module _ {A : LogRecord → Type 0} {M : ℕ → Type 0} where
  only_unless : (n : ℕ) {d : Decided} → Only A M d → Only A M (unless_refused n d)
  only_unless n h = unless (Only A M) n (λ k. refuses) h

  only-kind : {B : Type 0} (o : Maybe B) {f : B → Decided} → ((x : B) → Only A M (f x)) → Only A M (or_malformed o f)
  unfolding or_malformed
  only-kind none h = refuses
  only-kind (some x) h = h x

  with_packet_lem : (q : Request) {d : Decided} → Only A M d → Only A M (denying q d)
  unfolding denying
  with_packet_lem q refuses = denies
  with_packet_lem q denies = denies
  with_packet_lem q replies = replies
  with_packet_lem q (appends h) = appends h
  with_packet_lem q (sets h) = sets h

any : (r : LogRecord) → AnyRecord r
unfolding AnyRecord
any r = tt

any_mark : (m : ℕ) → AnyMark m
unfolding AnyMark
any_mark m = tt

only-id : (v : Versions) (st : State) (free : ℕ) (q : Request) (o : Maybe Completion) → Only AnyRecord NoMark (on_id v st free q o)
unfolding on_id on_new on_held
only-id v st free q none = only_unless _ (appends (any _))
only-id v st free q (some r) = only_unless _ replies

only-request : (v : Versions) (st : State) (free : ℕ) (p : Option Packet) → Only AnyRecord NoMark (on_request v st free p)
unfolding on_request decide_request
only-request v st free p = only-kind (as_request p) (λ q. with_packet_lem q (only_unless _ (only-id v st free q (find q.command.client q.command.call st.records))))

only-notice : (st : State) (free : ℕ) (p : Option Packet) → Only AnyRecord NoMark (on_notice st free p)
unfolding on_notice decide_notice
only-notice st free p = only-kind (as_notice p) (λ n. only_unless _ (appends (any _)))

only-give : (st : State) (free p d : ℕ) → Only AnyRecord NoMark (on_give st free p d)
unfolding on_give
only-give st free p d = only_unless _ (appends (any _))

only-take : (st : State) (free : ℕ) (o : Maybe Image) → Only AnyRecord NoMark (on_take st free o)
unfolding on_take decide_take
only-take st free o = only-kind o (λ i. only_unless _ (appends (any _)))

only-release : (st : State) (free : ℕ) (p : Option Packet) → Only AnyRecord NoMark (on_release st free p)
unfolding on_release decide_release
only-release st free p = only-kind (as_receipt p) (λ r. only_unless _ (appends (any _)))

only-fetch : (v : Versions) (st : State) (o : Maybe Completion) → Only NoRecord NoMark (on_fetched v st o)
unfolding on_fetched
only-fetch v st none = refuses
only-fetch v st (some r) = only_unless _ replies

fetch-only : (v : Versions) (st : State) (x c : ℕ) → Only NoRecord NoMark (on_fetch v st x c)
unfolding on_fetch
fetch-only v st x c = only-fetch v st (find x c st.records)

only-image : (v : Versions) (st : State) (p : ℕ) → Only NoRecord NoMark (on_image v st p)
unfolding on_image
only-image v st p = only_unless _ replies

only-receipt : (st : State) (p : ℕ) → Only NoRecord NoMark (on_receipt st p)
unfolding on_receipt
only-receipt st p = only_unless _ replies

-- ---- a decision carried out

settled : (state log out : List ℕ) (d : Decided) → Bytes state → state_size ≤ length state → sound state ≡ true → (load state).size ≤ length log
    → length log < word * word → Allowed state log d → sound (settle state log out d).state ≡ true
unfolding settle Allowed free_in
settled state log out (refuse n) b l s f z k = s
settled state log out (deny n x) b l s f z k = s
settled state log out (reply x) b l s f z k = s
settled state log out (append r) b l s f z (appends D) =
    let st = load state in
    let S = loaded_sound state b s in
    let room : record_size r ≤ length log - st.size = decided-space st (length log - st.size) r D in
    stored-sound state (apply_record r (st.size + record_size r) st) (decided-sound st (length log - st.size) r S D (omega arith)) (omega arith)
settled state log out (marks m) b l s f z (sets k) =
    stored-sound state (with_mark m (load state)) (sound-mark (load state) m (loaded_sound state b s) k.0 k.1) (omega arith)

only_kept : (state log : List ℕ) (d : Decided) → Only AnyRecord NoMark d → ((r : LogRecord) → d ≡ append r → Decides (load state) (free_in state log) r) → Allowed state log d
unfolding Allowed NoMark
only_kept state log d refuses h = refuses
only_kept state log d denies h = denies
only_kept state log d replies h = replies
only_kept state log d (appends {r = r} k) h = appends (h r refl)
only_kept state log d (sets k) h = absurd k

quiet-kept : (state log : List ℕ) (d : Decided) → Only NoRecord NoMark d → Allowed state log d
unfolding Allowed NoRecord NoMark
quiet-kept state log d refuses = refuses
quiet-kept state log d denies = denies
quiet-kept state log d replies = replies
quiet-kept state log d (appends k) = absurd k
quiet-kept state log d (sets k) = absurd k

only-sync : (st : State) (m : ℕ) → Only NoRecord AnyMark (on_sync st m)
unfolding on_sync
only-sync st m = only_unless _ (sets (any_mark m))

sync-kept : (state log : List ℕ) (m : ℕ) → Allowed state log (on_sync (load state) m)
unfolding Allowed NoRecord
sync-kept state log m = go (on_sync (load state) m) refl (only-sync (load state) m)
  where
    go : (d : Decided) → on_sync (load state) m ≡ d → Only NoRecord AnyMark d
        → Only (Decides (load state) (free_in state log)) (λ (k : ℕ). ((load state).mark ≤ k) × (k ≤ (load state).size)) d
    go d e refuses = refuses
    go d e denies = denies
    go d e replies = replies
    go d e (appends k) = absurd k
    go d e (sets {m = k} h) =
        let p = sync-passed (load state) m k e in
        sets {m = k} (rw p.0 (p.1, p.2))

-- ---- what a call comes to

pub fit_parts : (state log : List ℕ) → unfit state log ≡ false → (sound state ≡ true) × ((load state).size ≤ length log)
unfolding unfit
fit_parts state log e = (
  not-false _ (or_left (not (sound state)) (ltb (length log) (load state).size) e),
  ltb-false _ _ (or_right (not (sound state)) (ltb (length log) (load state).size) e),
)

-- 2, 19, or a sound state with its log: the refusal's number
pub lent-number : (P : ℕ → Type 0) (state log : List ℕ) (n need : ℕ) → P Refusals.too_short → P Refusals.unsound
    → (state_size ≤ length state → sound state ≡ true → (load state).size ≤ length log → P Refusals.no_refusal) → P (lent_refusal state log n need)
unfolding lent_refusal short
lent-number P state log n need two nineteen k =
    choose P (ltb (length state) state_size || ltb n need) (λ e. two)
    (λ e.
    choose P (unfit state log) (λ f. nineteen)
    (λ f.
    let g = fit_parts state log f in
    k (ltb-false _ _ (or_left (ltb (length state) state_size) (ltb n need) e)) g.0 g.1))

-- or what the operation decides
pub lent_elim : (P : Decided → Type 0) (state log out : List ℕ) (need : ℕ) (d : Decided) → P (refuse Refusals.too_short) → P (refuse Refusals.unsound)
    → (state_size ≤ length state → sound state ≡ true → (load state).size ≤ length log → P d) → P (lent state log out need d)
unfolding lent unless_refused
lent_elim P state log out need d two nineteen k = lent-number (λ (n : ℕ). P (unless_refused n d)) state log (length out) need two nineteen k

-- 2, 1, or a plan and a server number for lent memory that is long enough
pub found_number : (P : ℕ → Type 0) (states logs : ℕ) (plan : List ℕ) (n : ℕ) → Bytes plan → P Refusals.too_short → P Refusals.malformed
    → (state_size ≤ states → head_size ≤ logs → GoodPlan (plan_of plan) → plan_ok plan ≡ true → n ≤ last_server → P Refusals.no_refusal) → P (found_refusal states logs (plan_ok plan) n)
unfolding found_refusal
found_number P states logs plan n b two one k =
    let s : Bool = ltb states state_size in
    let l : Bool = ltb logs head_size in
    choose P (s || l) (λ e. two)
    (λ e.
    choose P (not (plan_ok plan) || ltb last_server n) (λ f. one)
    (λ f.
    let p : plan_ok plan ≡ true = not-false _ (or_left (not (plan_ok plan)) (ltb last_server n) f) in
    k (ltb-false _ _ (or_left s l e)) (ltb-false _ _ (or_right s l e)) (plan-good plan b p) p (ltb-false _ _ (or_right (not (plan_ok plan)) (ltb last_server n) f))))

-- or the founding state
pub found_elim : (P : After → Type 0) (state log plan : List ℕ) (n : ℕ) → Bytes plan → P (after (answer_of Refusals.too_short 0) state log [])
    → P (after (answer_of Refusals.malformed 0) state log [])
    → (state_size ≤ length state → head_size ≤ length log → GoodPlan (plan_of plan) → plan_ok plan ≡ true → n ≤ last_server
    → P (after (answer_of Refusals.no_refusal 0) (stored state (founded (plan_of plan) n)) (written log 0 (head_bytes n)) []))
    → P (found_of state log plan n)
unfolding found_of left_unless settle
found_elim P state log plan n b two one k =
    let a : After = after (answer_of Refusals.no_refusal 0) (stored state (founded (plan_of plan) n)) (written log 0 (head_bytes n)) [] in
    found_number (λ (m : ℕ). P (left_unless m state log a)) (length state) (length log) plan n b two one k

-- 2, 1, or a plan for lent memory that is long enough
pub recover-number : (P : ℕ → Type 0) (states : ℕ) (plan : List ℕ) → P Refusals.too_short → P Refusals.malformed
    → (state_size ≤ states → plan_ok plan ≡ true → P Refusals.no_refusal) → P (recover_refusal states (plan_ok plan))
unfolding recover_refusal
recover-number P states plan two one k =
    choose P (ltb states state_size) (λ e. two) (λ e. choose P (not (plan_ok plan)) (λ f. one) (λ f. k (ltb-false _ _ e) (not-false _ f)))

-- 14, or the state that the log gives
pub recover_elim : (P : After → Type 0) (state log plan : List ℕ) → P (after (answer_of Refusals.too_short 0) state log [])
    → P (after (answer_of Refusals.malformed 0) state log []) → P (after (answer_of Refusals.bad_log 0) state log [])
    → ((st : State) → state_size ≤ length state → plan_ok plan ≡ true → recovered_state (plan_of plan) log ≡ some st
    → P (after (answer_of Refusals.no_refusal 0) (stored state (with_mark st.size st)) log []))
    → P (recover_of state log plan)
unfolding recover_of left_unless settle settle_recovered
recover_elim P state log plan two one fourteen k =
    let a : After = settle_recovered state log (recovered_state (plan_of plan) log) in
    recover-number (λ (m : ℕ). P (left_unless m state log a)) (length state) plan two one (λ l g. go (recovered_state (plan_of plan) log) refl l g)
  where
    go : (o : Maybe State) → recovered_state (plan_of plan) log ≡ o → state_size ≤ length state → plan_ok plan ≡ true → P (settle_recovered state log o)
    go none r l g = fourteen
    go (some st) r l g = k st l g r

-- a call of an operation carries out what it decides
pub operated-is : (o : Operation) (state log out : List ℕ) → operated o state log out ≡ settle state log (output o out) (decided_on o state log out)
unfolding operated decided_on decision output has_output output_size request_of fetch_of sync_of notice_of give_of image_of take_of receipt_of release_of
operated-is (request v packet) state log out = refl
operated-is (fetch v client call) state log out = refl
operated-is (sync mark) state log out = refl
operated-is (notice packet) state log out = refl
operated-is (give point destination) state log out = refl
operated-is (image v point) state log out = refl
operated-is (take_in img) state log out = refl
operated-is (receipt point) state log out = refl
operated-is (release packet) state log out = refl

-- on two states that a program writes in one form, an operation asks one length of its output
pub output-same : {P : Type 0} (a b : State) → ((v : Versions) → timed_by v a ≡ timed_by v b) → (o : OperationOf P) → output_size a o ≡ output_size b o
unfolding output_size
output-same a b h (request v packet) = ap result_size_of (h v)
output-same a b h (fetch v client call) = ap result_size_of (h v)
output-same a b h (sync mark) = refl
output-same a b h (notice packet) = refl
output-same a b h (give point destination) = refl
output-same a b h (image v point) = ap greatest_of (h v)
output-same a b h (take_in img) = refl
output-same a b h (receipt point) = refl
output-same a b h (release packet) = refl

-- it appends what some operation decides, and sets a mark from the present one to the log's length
pub decision-allowed : (o : Operation) (state log : List ℕ) → LentBytes o → Allowed state log (decision o (load state) (free_in state log))
unfolding decision
decision-allowed (request v packet) state log h =
    only_kept state log (on_request v (load state) (free_in state log) (parse_packet packet)) (only-request v (load state) (free_in state log) (parse_packet packet))
    (λ r. on_request_lem (load state) (free_in state log) packet h r v)
decision-allowed (fetch v client call) state log h = quiet-kept state log (on_fetch v (load state) client call) (fetch-only v (load state) client call)
decision-allowed (sync mark) state log h = sync-kept state log mark
decision-allowed (notice packet) state log h =
    only_kept state log (on_notice (load state) (free_in state log) (parse_packet packet)) (only-notice (load state) (free_in state log) (parse_packet packet))
    (on_notice_lem (load state) (free_in state log) packet h)
decision-allowed (give point destination) state log h =
    only_kept state log (on_give (load state) (free_in state log) point destination) (only-give (load state) (free_in state log) point destination)
    (λ (r : LogRecord) (e : on_give (load state) (free_in state log) point destination ≡ append r). by_give point destination e)
decision-allowed (image v point) state log h = quiet-kept state log (on_image v (load state) point) (only-image v (load state) point)
decision-allowed (take_in img) state log h =
    only_kept state log (on_take (load state) (free_in state log) (parse_image img)) (only-take (load state) (free_in state log) (parse_image img))
    (on_take_lem (load state) (free_in state log) img h)
decision-allowed (receipt point) state log h = quiet-kept state log (on_receipt (load state) point) (only-receipt (load state) point)
decision-allowed (release packet) state log h =
    only_kept state log (on_release (load state) (free_in state log) (parse_packet packet)) (only-release (load state) (free_in state log) (parse_packet packet))
    (on_release_lem (load state) (free_in state log) packet h)

-- only sync sets a mark
no_mark : {A : LogRecord → Type 0} {d : Decided} {m : ℕ} → Only A NoMark d → d ≡ marks m → ⊥
unfolding NoMark
no_mark refuses e = let z : ◌≡◌ {A = ℕ} 0 1 = cc in omega arith
no_mark denies e = let z : ◌≡◌ {A = ℕ} 0 1 = cc in omega arith
no_mark replies e = let z : ◌≡◌ {A = ℕ} 0 1 = cc in omega arith
no_mark (appends a) e = let z : ◌≡◌ {A = ℕ} 0 1 = cc in omega arith
no_mark (sets h) e = h

pub sets-mark : (o : Operation) (st : State) (free m : ℕ) → decision o st free ≡ marks m → (k : ℕ) × (o ≡ sync k)
unfolding decision
sets-mark (request v packet) st free m e = absurd (no_mark (only-request v st free (parse_packet packet)) e)
sets-mark (fetch v client call) st free m e = absurd (no_mark (fetch-only v st client call) e)
sets-mark (sync mark) st free m e = (mark, refl)
sets-mark (notice packet) st free m e = absurd (no_mark (only-notice st free (parse_packet packet)) e)
sets-mark (give point destination) st free m e = absurd (no_mark (only-give st free point destination) e)
sets-mark (image v point) st free m e = absurd (no_mark (only-image v st point) e)
sets-mark (take_in img) st free m e = absurd (no_mark (only-take st free (parse_image img)) e)
sets-mark (receipt point) st free m e = absurd (no_mark (only-receipt st point) e)
sets-mark (release packet) st free m e = absurd (no_mark (only-release st free (parse_packet packet)) e)

-- ---- what is handed over

-- unlike constructors
unlike : ◌≡◌ {A = ℕ} 0 1 → ⊥
unlike e = omega arith

module _ {P Q : Type 0} (f : P → Maybe Q) where
  -- no request: one that names no packet, and one that names p
  plain_over : (o : OperationOf P) (x y : OperationOf Q) → ((B : Q → Type 0) → Named B x) → ((st : State) → output_size st x ≡ output_size st o) → has_output x ≡ has_output o
      → ((v : Versions) (b : Q) → x ≡ request v b → ⊥)
      → some x ≡ some y → HandedOver f o y
  plain_over o x y n e w r q = let z : x ≡ y = cc in subst (HandedOver f o) z (record { named = λ B h. n B; size = e; has = w; requests = λ v b k. absurd (r v b k) })

  named-over : (p : P) (b : Q) → f p ≡ some b → {o : OperationOf P} {x : OperationOf Q} → ((st : State) → output_size st x ≡ output_size st o) → has_output x ≡ has_output o
      → ((B : Q → Type 0) → B b → Named B x)
      → ((v : Versions) (c : Q) → x ≡ request v c → ⊥) → HandedOver f o x
  named-over p b d e w n r = record { named = λ B h. n B (h p b d); size = e; has = w; requests = λ v c k. absurd (r v c k) }

  -- what is handed over for p
  packet-over : (p : P) (o : OperationOf P) (k : Q → OperationOf Q) (y : OperationOf Q) → ((b : Q) → f p ≡ some b → HandedOver f o (k b))
      → or_else (f p) none (λ (b : Q). some (k b)) ≡ some y → HandedOver f o y
  packet-over p o k y h = go (f p) refl
    where
      go : (u : Maybe Q) → f p ≡ u → or_else u none (λ (b : Q). some (k b)) ≡ some y → HandedOver f o y
      go none q e = absurd (unlike (cc))
      go (some b) q e = let z : k b ≡ y = cc in subst (HandedOver f o) z (h b q)

  pub handed-over : (o : OperationOf P) (x : OperationOf Q) → handed f o ≡ some x → HandedOver f o x
  unfolding handed output_size has_output
  handed-over (request v p) x e =
      packet-over p (request v p) (request v) x
      (λ b d.
      record {
        named = λ B h. h p b d;
        size = λ st. refl;
        has = refl;
        requests = λ w c z. let i : v ≡ w = cc in let j : b ≡ c = cc in (p, ap (λ (u : Versions). request u p) i, d ∙ ap some j);
      })
      e
  handed-over (fetch v c n) x e = plain_over (fetch v c n) (fetch v c n) x (λ B. tt) (λ st. refl) refl (λ w b q. unlike (cc)) e
  handed-over (sync m) x e = plain_over (sync m) (sync m) x (λ B. tt) (λ st. refl) refl (λ w b q. unlike (cc)) e
  handed-over (notice p) x e = packet-over p (notice p) notice x (λ b d. named-over p b d (λ st. refl) refl (λ B h. h) (λ v c q. unlike (cc))) e
  handed-over (give p d) x e = plain_over (give p d) (give p d) x (λ B. tt) (λ st. refl) refl (λ w b q. unlike (cc)) e
  handed-over (image v p) x e = plain_over (image v p) (image v p) x (λ B. tt) (λ st. refl) refl (λ w b q. unlike (cc)) e
  handed-over (take_in p) x e = packet-over p (take_in p) take_in x (λ b d. named-over p b d (λ st. refl) refl (λ B h. h) (λ v c q. unlike (cc))) e
  handed-over (receipt p) x e = plain_over (receipt p) (receipt p) x (λ B. tt) (λ st. refl) refl (λ w b q. unlike (cc)) e
  handed-over (release p) x e = packet-over p (release p) release x (λ b d. named-over p b d (λ st. refl) refl (λ B h. h) (λ v c q. unlike (cc))) e

-- ---- every call leaves a sound state

-- a call that answers n was not refused, or the buffer was sound before it
abbrev pub Begun : ℕ → List ℕ → Type 0
Begun n state = (n ≡ Refusals.no_refusal) ⊎ (sound state ≡ true)

pub refused : (state : List ℕ) (n : ℕ) → (n ≡ Refusals.no_refusal → ⊥) → Begun n state → sound state ≡ true
refused state n h (inl e) = absurd (h e)
refused state n h (inr e) = e

abbrev SoundAfter : List ℕ → After → Type 0
SoundAfter state a = Begun a.answer.refusal state → sound a.state ≡ true

begun-sound : (c : Call) (state log out : List ℕ) → Bytes state → Bytes log → length log < word * word → CallBytes c → SoundAfter state (left c state log out)
unfolding left decided_on settle
begun-sound (found plan n) state log out b c z h =
    found_elim (SoundAfter state) state log plan n h (refused state Refusals.too_short (λ e. omega arith)) (refused state Refusals.malformed (λ e. omega arith))
    (λ l k g p m e. stored-sound state (founded (plan_of plan) n) (founded-sound (plan_of plan) n g m) (omega arith))
begun-sound (operate o) state log out b c z h =
    subst (SoundAfter state) (sym (operated-is o state log out))
    (lent_elim (λ d. SoundAfter state (settle state log (output o out) d)) state log (output o out) (output_size (load state) o)
    (decision o (load state) (free_in state log)) (refused state Refusals.too_short (λ e. omega arith)) (refused state Refusals.unsound (λ e. omega arith))
    (λ l s f e. settled state log (output o out) (decision o (load state) (free_in state log)) b l s f z (decision-allowed o state log h)))
begun-sound (recover plan) state log out b c z h =
    recover_elim (SoundAfter state) state log plan (refused state Refusals.too_short (λ e. omega arith)) (refused state Refusals.malformed (λ e. omega arith))
    (refused state Refusals.bad_log (λ e. omega arith))
    (λ st l g r e. stored-sound state (with_mark st.size st) (recovered-bytes (plan_of plan) log st (plan-good plan h g) c z r).marked (omega arith))

-- every call not refused leaves it sound
pub call-sound : (c : Call) (state log out : List ℕ) → Bytes state → Bytes log → length log < word * word → CallBytes c
    → (left c state log out).answer.refusal ≡ Refusals.no_refusal → sound (left c state log out).state ≡ true
call-sound c state log out b k z h e = begun-sound c state log out b k z h (inl e)

-- a call on a sound buffer leaves a sound buffer, refused or not
pub call_kept : (c : Call) (state log out : List ℕ) → Bytes state → Bytes log → length log < word * word → CallBytes c
    → sound state ≡ true → sound (left c state log out).state ≡ true
call_kept c state log out b k z h e = begun-sound c state log out b k z h (inr e)

-- ---- bytes stay bytes

settled_bytes : (state log out : List ℕ) (d : Decided) → Bytes state → Bytes log → sound state ≡ true → (load state).size ≤ length log
    → length log < word * word → Allowed state log d → Bytes (settle state log out d).state × Bytes (settle state log out d).log
unfolding settle Allowed free_in stored
settled_bytes state log out d b c s f z refuses = (b, c)
settled_bytes state log out d b c s f z denies = (b, c)
settled_bytes state log out d b c s f z replies = (b, c)
settled_bytes state log out d b c s f z (appends {r = r} D) =
    let st = load state in
    let S = loaded_sound state b s in
    let room : record_size r ≤ length log - st.size = decided-space st (length log - st.size) r D in
    let G = record-good r (decided-good st (length log - st.size) r S D) in
    let new = apply_record r (st.size + record_size r) st in
    let N = decided-sound st (length log - st.size) r S D (omega arith) in (
      bytes-written state 0 (state_bytes new) b (state-bytes new (fits_of new N)),
      bytes-written log st.size (record_bytes r) c (record-bytes r G.0 G.1),
    )
settled_bytes state log out d b c s f z (sets {m = m} k) =
    let new = with_mark m (load state) in
    let N = sound-mark (load state) m (loaded_sound state b s) k.0 k.1 in
    (bytes-written state 0 (state_bytes new) b (state-bytes new (fits_of new N)), c)

pub call-bytes : (c : Call) (state log out : List ℕ) → Bytes state → Bytes log → length log < word * word → CallBytes c
    → Bytes (left c state log out).state × Bytes (left c state log out).log
unfolding left decided_on settle stored
call-bytes (found plan n) state log out b c z h =
    found_elim (λ a. Bytes a.state × Bytes a.log) state log plan n h (b, c) (b, c)
    (λ l k g p m.
    let st = founded (plan_of plan) n in (
      bytes-written state 0 (state_bytes st) b (state-bytes st (fits_of st (founded-sound (plan_of plan) n g m))),
      bytes-written log 0 (head_bytes n) c (head_bytes_lem n (omega arith)),
    ))
call-bytes (operate o) state log out b c z h =
    subst (λ (a : After). Bytes a.state × Bytes a.log) (sym (operated-is o state log out))
    (lent_elim (λ d. Bytes (settle state log (output o out) d).state × Bytes (settle state log (output o out) d).log) state log (output o out) (output_size (load state) o)
    (decision o (load state) (free_in state log)) (b, c) (b, c)
    (λ l s f. settled_bytes state log (output o out) (decision o (load state) (free_in state log)) b c s f z (decision-allowed o state log h)))
call-bytes (recover plan) state log out b c z h =
    recover_elim (λ a. Bytes a.state × Bytes a.log) state log plan (b, c) (b, c) (b, c)
    (λ st l g r.
    let new = with_mark st.size st in
    (bytes-written state 0 (state_bytes new) b (state-bytes new (fits_of new (recovered-bytes (plan_of plan) log st (plan-good plan h g) c z r).marked)), c))
