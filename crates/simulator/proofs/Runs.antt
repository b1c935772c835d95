-- The run of a text, line by line.
--     run-append                                       running two lists of lines one after the other is running both
--     running-start, running-next, running-end         what is printed and what is left is what the definition prints
--     length_answers                                   the answers of every text fit 2,700 bytes
-- Assumes nothing.
use Prim.Native.Nat.{ℕ, zero, suc, ◌+◌, ◌-◌, ◌*◌, ◌≤◌, ◌<◌}
use mathlib.Core.Path.{◌≡◌, refl, sym, ap, ◌∙◌}
use mathlib.Core.Bool.{Bool, true, false, ◌&&◌}
use mathlib.Core.List.{List, [], ◌∷◌, ◌++◌, append_assoc, append-nil}
use native.Mathlib.Omega.{arith}
use native.Mathlib.Numerals.{add-one}
use lib.Dec.{leb, ltb}
use lib.ListN.{length, take, drop, length-append, length-drop, drop_of_length-le}
use lib.Seq.{drop-drop, take-nil, length-take-le}
use borrow.Author.Tests.{ltb-true, ltb-false, leb-true, leb-false, lt-ltb, le-ltb}
use borrow.Rule.Slice.PartMut.{mid_of}
use Rattle.model.specs.Choice.{pick}
use Rattle.model.specs.Refusals.{too_short, no_refusal}
use Rattle.model.specs.States.{state_end}
use Rattle.model.specs.Tables.{written}
use Rattle.model.specs.Operations.{answer_of}
use Rattle.model.specs.Simulator.{Simulator, Line, Reply, step, new_simulator, most_lines, ran, run_lines, line_of, lines_from, lines_of, reply_text, replies_text, answers_of}
use Rattle.model_laws.proofs.Written.{take-written-run, length-written, tail-part, written-front}
use Rattle.model_laws.proofs.Tests.{and_left, and_right}
use Rattle.model.specs.Letters.{line_feed, reply_room}
use Rattle.simulator_text.specs.Values.{reply_is, first_of, Put}
use Rattle.simulator_text.proofs.Fields.{lines_next, lines_none}
use Rattle.simulator_text.proofs.Texts.{length-reply}
use Rattle.simulator_memory.specs.Store.{row_size, Next}
use Rattle.simulator.specs.Whole.{Ready}
use Rattle.simulator.specs.declared.Lent.{Lent}
use Rattle.simulator.specs.Lending.{SameSlice, SameSlices}
use Rattle.std.specs.Borrow.{MutBor}
use Rattle.simulator.specs.declared.Turn.{Turn}
use Rattle.simulator.specs.Run.{next_place, Turned, Printed, Simulated, simulated, handed, simulate_of}

-- ---- two lists of lines

unfoldable pub simulator_after : Simulator → List Line → Simulator
simulator_after y [] = y
simulator_after y (l ∷ ls) = simulator_after (ran y l).simulator ls

pub run-append : (y : Simulator) (ls ms : List Line) → run_lines y (ls ++ ms) ≡ run_lines y ls ++ run_lines (simulator_after y ls) ms
unfolding run_lines simulator_after
run-append y [] ms = refl
run-append y (l ∷ ls) ms = ap (λ (rs : List Reply). (ran y l).reply ∷ rs) (run-append (ran y l).simulator ls ms)

-- ---- the length of the answers

length_run : (y : Simulator) (ls : List Line) → length (run_lines y ls) ≡ length ls
unfolding run_lines
length_run y [] = refl
length_run y (l ∷ ls) = ap suc (length_run (ran y l).simulator ls)

length-replies : (k : ℕ) (rs : List Reply) → length (replies_text k rs) ≤ reply_room * length rs
unfolding replies_text
length-replies k [] = omega arith
length-replies k (r ∷ rs) = omega (arith, length-append (reply_text k r) (replies_text (suc k) rs), length-reply k r, length-replies (suc k) rs)

take-least : {A : Type 0} (n : ℕ) (l : List A) → length (take n l) ≤ n
take-least zero l = omega arith
take-least (suc n) [] = omega arith
take-least (suc n) (x ∷ l) = omega (arith, take-least n l)

pub length_answers : (s : List ℕ) → length (answers_of s) ≤ reply_room * most_lines
unfolding answers_of lines_of
length_answers s =
    let ls : List Line = take most_lines (lines_from [] s) in
    let l : length (run_lines new_simulator ls) ≤ most_lines = rw (length_run new_simulator ls) (take-least most_lines (lines_from [] s)) in
    omega (arith, length-replies 1 (run_lines new_simulator ls))

-- ---- a run on its way: n bytes are printed, line k stands at a place of the text

pub record Running (text : List ℕ) (y : Simulator) (page : List ℕ) (z : Simulator) (count at n k : ℕ) : Type 0 where
  pub left : take n page ++ replies_text k (run_lines z (take (suc most_lines - k) (lines_from [] (drop at text)))) ≡ replies_text 1 (run_lines y (lines_of text))
  pub wrote : n ≤ reply_room * (k - 1)
  pub long : reply_room * most_lines ≤ length page
  pub least : 1 ≤ k
  pub most : k ≤ suc most_lines
  pub packets : count + 1 ≤ k

pub running-start : (text : List ℕ) (y : Simulator) (page : List ℕ) (count : ℕ) → reply_room * most_lines ≤ length page → count ≡ 0 → Running text y page y count 0 0 1
unfolding lines_of
running-start text y page count h e =
    record { left = refl; wrote = omega arith; long = h; least = omega arith; most = omega arith; packets = omega arith }

place : (text : List ℕ) (at f : ℕ) → drop (next_place (at + f) (length text)) text ≡ drop (suc f) (drop at text)
place text at f = go (ltb (at + f) (length text)) refl
  where
    go : (t : Bool) → ltb (at + f) (length text) ≡ t → drop (pick t (at + f + 1) (length text)) text ≡ drop (suc f) (drop at text)
    go true e = let q : at + f + 1 ≡ at + suc f = omega arith in rw q (sym (drop-drop (suc f) at text))
    go false e =
        let l : length text ≤ at + f = ltb-false (at + f) (length text) e in
        drop_of_length-le text {i = length text} (omega arith) ∙ sym (drop-drop (suc f) at text ∙ drop_of_length-le text {i = at + suc f} (omega arith))

-- one line more
line_more : (z : Simulator) (k : ℕ) (t : List ℕ) {x : Simulator} {r : Reply} → k ≤ most_lines → 0 < length t → step x r ≡ ran z (line_of (take (first_of line_feed t) t))
    → replies_text k (run_lines z (take (suc most_lines - k) (lines_from [] t)))
    ≡ reply_text k r ++ replies_text (k + 1) (run_lines x (take (suc most_lines - (k + 1)) (lines_from [] (drop (suc (first_of line_feed t)) t))))
unfolding run_lines replies_text
line_more z k t {x} {r} h l e =
    let q : suc most_lines - k ≡ suc (suc most_lines - (k + 1)) = omega arith in
    rw (lines_next t l, q, ← e, add-one) refl

pub running-next : (text : List ℕ) (y : Simulator) (page : List ℕ) (z : Simulator) (count at n k : ℕ) {r : Turn} {x : Simulator} {q : List ℕ}
    → Running text y page z count at n k → k ≤ most_lines → at < length text → Turned text at k n z page count r x q → Running text y q x r.memory.count r.at r.n (k + 1)
running-next text y page z count at n k {r} {x} {q} u h l w =
    let t : List ℕ = drop at text in
    let f : ℕ = first_of line_feed t in
    let vs : List ℕ = reply_text k (reply_is r.reply) in
    let lt : length t ≡ length text - at = length-drop at text in
    let fits : n + length vs ≤ length page = omega (arith, u.wrote, u.long, u.least, length-reply k (reply_is r.reply)) in
    let same : length q ≡ length page = ap length w.put.text ∙ length-written page n vs in
    let printed : take r.n q ≡ take n page ++ vs = rw (w.put.behind, w.put.text) (take-written-run page n vs fits) in
    let rest : List ℕ = replies_text (k + 1) (run_lines x (take (suc most_lines - (k + 1)) (lines_from [] (drop (suc f) t)))) in
    let more : replies_text k (run_lines z (take (suc most_lines - k) (lines_from [] t))) ≡ vs ++ rest = line_more z k t h (omega arith) w.ran in
    let p : drop r.at text ≡ drop (suc f) t = rw w.next (place text at f) in
    record {
      left = rw (printed, p) (append_assoc (take n page) vs rest ∙ rw (← more) u.left);
      wrote = omega (arith, u.wrote, u.least, w.put.behind, length-reply k (reply_is r.reply));
      long = omega (arith, u.long, same);
      least = omega arith;
      most = omega arith;
      packets = omega (arith, u.packets, w.packets.most);
    }

pub running-end : (text : List ℕ) (y : Simulator) (page : List ℕ) (z : Simulator) (count at n k : ℕ) → Running text y page z count at n k → (leb k most_lines && ltb at (length text)) ≡ false →
    Printed text y page n
unfolding run_lines replies_text
running-end text y page z count at n k u e =
    record {
      same = go (leb k most_lines) refl e;
      most = omega (arith, u.wrote, u.most, u.least);
    }
  where
    over : take (suc most_lines - k) (lines_from [] (drop at text)) ≡ [] → take n page ≡ replies_text 1 (run_lines y (lines_of text))
    over q = sym (append-nil (take n page)) ∙ rw q at u.left

    go : (t : Bool) → leb k most_lines ≡ t → (t && ltb at (length text)) ≡ false → take n page ≡ replies_text 1 (run_lines y (lines_of text))
    go false q e' = let z : suc most_lines - k ≡ 0 = omega (arith, leb-false k most_lines q) in over (rw z refl)
    go true q e' = over (rw (drop_of_length-le text {i = at} (ltb-false at (length text) e'), lines_none) (take-nil (suc most_lines - k)))

-- the page is what the definition says
pub printed_answers : (text page : List ℕ) (n : ℕ) → Printed text new_simulator page n → n ≤ length page → (take n page ≡ answers_of text) × (n ≡ length (answers_of text))
unfolding answers_of
printed_answers text page n p h = (p.same, sym (length-take-le n page h) ∙ ap length p.same)

pub simulate_is : {x : Simulated} (text page : List ℕ) (n : ℕ) (out : List ℕ) → Printed text new_simulator page n → n ≤ length page → x ≡ handed out n (take n page) → x ≡ simulate_of text out
unfolding simulate_of
simulate_is text page n out p h e =
    let y = printed_answers text page n p h in
    e ∙ ap (λ (l : List ℕ). handed out n l) y.0 ∙ ap (λ (k : ℕ). handed out k (answers_of text)) y.1

pub handed-over : (out page q : List ℕ) (n : ℕ) → n ≤ length out → n ≤ length page → q ≡ take n page
    → simulated (answer_of no_refusal n) (q ++ drop n out) ≡ handed out n (take n page)
unfolding handed
handed-over out page q n h m e =
    let l : length (take n page) ≡ n = length-take-le n page m in
    let f : written out 0 (take n page) ≡ take n page ++ drop n out = written-front out (take n page) (omega arith) ∙ rw l refl in
    rw (le-ltb (length out) n h, e, f) refl

pub kept_back : (out : List ℕ) (n : ℕ) (t : List ℕ) → length out < n → simulated (answer_of too_short 0) out ≡ handed out n t
unfolding handed
kept_back out n t h = rw (lt-ltb (length out) n h) refl

-- ---- one line of a text, by the parts that the code lends

pub part_length : (t : List ℕ) (at : ℕ) → length (mid_of at (length t - at) t) ≡ length t - at
part_length t at = ap length (tail-part at t) ∙ length-drop at t

pub turned : (text : List ℕ) (at k n : ℕ) (y : Simulator) (page : List ℕ) (count : ℕ) (r : Turn) (z : Simulator) (q : List ℕ) (f : ℕ) {l : Line}
    → f ≡ first_of line_feed (mid_of at (length text - at) text)
    → l ≡ line_of (mid_of at (at + f - at) text) → step z (reply_is r.reply) ≡ ran y l → r.at ≡ next_place (at + f) (length text)
    → Put page n (reply_text k (reply_is r.reply)) q r.n → Next count r.memory.count → Turned text at k n y page count r z q
turned text at k n y page count r z q f {l} e g h i j c =
    let w : f ≡ first_of line_feed (drop at text) = e ∙ ap (λ (t : List ℕ). first_of line_feed t) (tail-part at text) in
    let d : at + f - at ≡ f = omega arith in
    record {
      ran = h ∙ ap (ran y) (g ∙ rw (d, w) refl);
      next = i ∙ rw w refl;
      put = j;
      packets = c;
    }

pub ready : (s0 s1 store u0 u1 ustore : List ℕ) (count k : ℕ) → state_end ≤ length u0 → state_end ≤ length u1 → row_size * most_lines ≤ length ustore → length s0 ≡ length u0 →
    length s1 ≡ length u1
    → length store ≡ length ustore → count + 1 ≤ k → k ≤ most_lines → Ready s0 s1 store count
ready s0 s1 store u0 u1 ustore count k a b c d e f g h =
    record { first = omega arith; second = omega arith; room = record { rows = omega arith; small = omega arith } }

pub test-left : (k at n : ℕ) → (leb k most_lines && ltb at n) ≡ true → k ≤ most_lines
test-left k at n e = leb-true k most_lines (and_left (leb k most_lines) (ltb at n) e)

pub test_right : (k at n : ℕ) → (leb k most_lines && ltb at n) ≡ true → at < n
test_right k at n e = ltb-true at n (and_right (leb k most_lines) (ltb at n) e)

-- ---- the lent slices, kept from call to call

same_slice : (x y z : MutBor (List ℕ)) → SameSlice x y → SameSlice y z → SameSlice x z
same_slice x y z p q = (q.0 ∙ p.0, q.1 ∙ p.1)

pub same_slices : (x y z : Lent) → SameSlices x y → SameSlices y z → SameSlices x z
same_slices x y z p q = (
  same_slice x.s0 y.s0 z.s0 p.0 q.0,
  same_slice x.log0 y.log0 z.log0 p.1 q.1,
  same_slice x.s1 y.s1 z.s1 p.2 q.2,
  same_slice x.log1 y.log1 z.log1 p.3 q.3,
  same_slice x.store y.store z.store p.4 q.4,
)
