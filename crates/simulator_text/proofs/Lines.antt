-- A line read: its letter, the numbers behind it, the line of both.
--     letter_one, letter_other                       the letter of a field
--     reading-start, -off, -next, -end               the numbers of the fields, one after the other
--     fields_start, fields_next, fields_end          and of the fields that an iterator gives
--     line_chosen, lines_by                          the line of a letter and its numbers
--     argument-none, -minus, -plain                  a signed number
-- Assumes nothing.
use Prim.Native.Nat.{ℕ, zero, suc, ◌+◌, ◌≤◌, ◌<◌}
use mathlib.Core.Path.{◌≡◌, refl, sym, ap, ◌∙◌}
use mathlib.Core.Bool.{Bool, true, false, ◌&&◌}
use mathlib.Core.List.{List, [], ◌∷◌, ◌++◌, append_assoc, append-nil}
use mathlib.Core.Option.{Option, none, some}
use Rattle.std.specs.Prelude as std
use Rattle.std.specs.Prelude.{Some, None}
use Rattle.std.specs.Iterator.{AlwaysYields}
use Rattle.std.specs.List.{slice_split}
use Rattle.std.proofs.lemmas.Iterator.{YieldsList}
use denote.Ref.{Bor}
use native.Mathlib.Omega.{arith}
use native.Mathlib.Numerals.{add-one}
use lib.Dec.{eqb, leb, ltb}
use lib.ListN.{length, take, drop, get_or}
use lib.Seq.{sets, take_all}
use borrow.Author.Tests.{eq-eqb, ne_eqb, eqb-true, lt-leb, leb-false, ltb-true}
use Rattle.model.specs.Choice.{pick}
use Rattle.model.specs.Tables.{written}
use Rattle.model.specs.Simulator as simulator
use Rattle.model.specs.Simulator.{number_in, argument_in, negative, positive, letter_in, letter_line, line_by, field_in, and_then, numbers_from, line_with, fields_from}
use Rattle.model.specs.Letters.{space, minus, issue_letter, sync_letter, give_letter}
use Rattle.model_laws.proofs.Written.{written-sets, length-written, take-written-run}
use Rattle.simulator_text.specs.Values.{most_numbers}
use Rattle.simulator_text.proofs.Fields.{fields-split}

pub letter_one : (s : List ℕ) → length s ≡ 1 → get_or s 0 0 ≡ letter_in s
unfolding letter_in
letter_one [] h = refl
letter_one (b ∷ []) h = refl
letter_one (b ∷ a ∷ s) h = absurd (omega arith)

pub letter_other : (s : List ℕ) → (length s ≡ 1 → ⊥) → 0 ≡ letter_in s
unfolding letter_in
letter_other [] h = refl
letter_other (b ∷ []) h = absurd (h refl)
letter_other (b ∷ a ∷ s) h = rw (ne_eqb (length (a ∷ s)) 0 (λ g. omega arith)) refl

-- ---- the numbers of the fields behind the letter

-- numbers, and those that follow
unfoldable pub joined : List ℕ → Option (List ℕ) → Option (List ℕ)
joined l none = none
joined l (some m) = some (l ++ m)

joined-next : (l : List ℕ) (v : ℕ) (o : Option (List ℕ)) → joined l (and_then (some v) o) ≡ joined (l ++ (v ∷ [])) o
unfolding joined and_then
joined-next l v none = refl
joined-next l v (some m) = ap some (sym (append_assoc l (v ∷ []) m))

-- a line's text on its way: k numbers are read, the fields fs are left
pub record Reading (s ns : List ℕ) (k : ℕ) (fs : List (List ℕ)) : Type 0 where
  pub long : length ns ≡ most_numbers
  pub most : k ≤ most_numbers
  pub left : joined (take k ns) (numbers_from k fs) ≡ numbers_from 0 (fields_from [] s)

pub reading-start : (s ns : List ℕ) → length ns ≡ most_numbers → Reading s ns 0 (slice_split (λ b. eqb b space) s)
unfolding joined
reading-start s ns h =
    record { long = h; most = omega arith; left = go _ ∙ ap (numbers_from 0) (sym (fields-split s)) }
  where
    go : (o : Option (List ℕ)) → joined [] o ≡ o
    go none = refl
    go (some l) = refl

pub field_most : (k : ℕ) (s : List ℕ) {v : ℕ} → some v ≡ field_in k s → k < most_numbers
unfolding field_in
field_most k s {v} h = go (ltb k 3) refl (eqb k 3) refl
  where
    go : (t : Bool) → ltb k 3 ≡ t → (u : Bool) → eqb k 3 ≡ u → k < most_numbers
    go true p u q = omega (arith, ltb-true k 3 p)
    go false p true q = omega (arith, eqb-true k 3 q)
    go false p false q =
        let o : ◌≡◌ {A = Option ℕ} none (some v) = rw (p, q) at (sym h) in
        let z : ◌≡◌ {A = ℕ} 0 1 = cc in
        absurd (omega arith)

module _ {s ns : List ℕ} {k : ℕ} {f : List ℕ} {fs : List (List ℕ)} (r : Reading s ns k (f ∷ fs)) where
  pub reading-off : none ≡ field_in k f → none ≡ numbers_from 0 (fields_from [] s)
  unfolding joined and_then numbers_from
  reading-off e = (rw (← e) at r.left)

  pub reading-next : {v : ℕ} → some v ≡ field_in k f → Reading s (sets ns k (v ∷ [])) (k + 1) fs
  unfolding numbers_from
  reading-next {v} e =
      let w : sets ns k (v ∷ []) ≡ written ns k (v ∷ []) = sym (written-sets ns k (v ∷ [])) in
      let l : k < most_numbers = field_most k f e in
      let t : take (k + 1) (sets ns k (v ∷ [])) ≡ take k ns ++ (v ∷ []) = rw w (take-written-run ns k (v ∷ []) (omega (arith, r.long))) in
      record {
        long = ap length w ∙ length-written ns k (v ∷ []) ∙ r.long;
        most = omega arith;
        left = rw (t, add-one) (sym (joined-next (take k ns) v (numbers_from (suc k) fs)) ∙ rw (← e) at r.left);
      }

pub reading-end : {s ns : List ℕ} {k : ℕ} → Reading s ns k [] → some (take k ns) ≡ numbers_from 0 (fields_from [] s)
unfolding joined numbers_from
reading-end {s} {ns} {k} r = ap some (sym (append-nil (take k ns))) ∙ r.left

-- the fields that an iterator has left are those left to read
pub record Fields {S : Type 0} (steps : S → std.Option (Bor (List ℕ)) → S → Type 0) (s : List ℕ) (it : S) (ns : List ℕ) (k : ℕ) : Type 0 where
  pub fields : List (List ℕ)
  pub gives : AlwaysYields steps (λ x. x.now) it fields
  pub reading : Reading s ns k fields

module _ {S : Type 0} {steps : S → std.Option (Bor (List ℕ)) → S → Type 0} {s : List ℕ} where
  pub fields_start : {it : S} (ns : List ℕ) → YieldsList steps (λ x. x.now) it (slice_split (λ b. eqb b space) s) → length ns ≡ most_numbers → Fields steps s it ns 0
  fields_start ns y h = record { fields = slice_split (λ b. eqb b space) s; gives = y.runs; reading = reading-start s ns h }

  pub fields_next : {it : S} {ns : List ℕ} {k : ℕ} → Fields steps s it ns k → (x : Bor (List ℕ)) (jt : S) → steps it (Some x) jt
      → (fs : List (List ℕ)) × AlwaysYields steps (λ y. y.now) jt fs × Reading s ns k (x.now ∷ fs)
  fields_next {it} {ns} {k} r x jt h = go r.fields r.gives r.reading
    where
      go : (fs : List (List ℕ)) → AlwaysYields steps (λ y. y.now) it fs → Reading s ns k fs → (gs : List (List ℕ)) × AlwaysYields steps (λ y. y.now) jt gs × Reading s ns k (x.now ∷ gs)
      go [] a q = absurd (a x jt h)
      go (f ∷ fs) a q = let m = a.1 x jt h in (fs, m.1, rw m.0 q)

  pub fields_end : {it : S} {ns : List ℕ} {k : ℕ} → Fields steps s it ns k → (jt : S) → steps it None jt → Reading s ns k []
  fields_end {it} {ns} {k} r jt h = go r.fields r.gives r.reading
    where
      go : (fs : List (List ℕ)) → AlwaysYields steps (λ y. y.now) it fs → Reading s ns k fs → Reading s ns k []
      go [] a q = q
      go (f ∷ fs) a q = absurd (a.0 jt h)

-- ---- the line of a letter and the numbers behind it

-- the tests of the code, one after the other, by the count n of the numbers
abbrev pub chosen : ℕ → ℕ → List ℕ → simulator.Line
chosen c n ns =
    pick (eqb n 1 && eqb c sync_letter) (simulator.sync (get_or ns 0 0)) (pick (eqb n 2) (letter_line c (get_or ns 0 0) (get_or ns 1 0))
    (pick (eqb n 3 && eqb c give_letter) (simulator.give (get_or ns 0 0) (get_or ns 1 0) (get_or ns 2 0))
    (pick (eqb n 4 && eqb c issue_letter) (simulator.issue (get_or ns 0 0) (get_or ns 1 0) (get_or ns 2 0) (get_or ns 3 0)) simulator.unreadable)))

-- the first n of the numbers, none where they are more than a line has
abbrev pub counted : ℕ → List ℕ → Option (List ℕ)
counted n ns = pick (leb n most_numbers) (some (take n ns)) none

first_ones : (c n : ℕ) (ns : List ℕ) → (n ≤ most_numbers → n ≤ length ns) → chosen c n ns ≡ line_with c (counted n ns)
unfolding line_with line_by
first_ones c zero ns h = refl
first_ones c (suc zero) (a ∷ ns) h = refl
first_ones c (suc zero) [] h = absurd (omega (arith, h (omega arith)))
first_ones c (suc (suc zero)) (a ∷ b ∷ ns) h = refl
first_ones c (suc (suc zero)) [] h = absurd (omega (arith, h (omega arith)))
first_ones c (suc (suc zero)) (a ∷ []) h = absurd (omega (arith, h (omega arith)))
first_ones c (suc (suc (suc zero))) (a ∷ b ∷ d ∷ ns) h = refl
first_ones c (suc (suc (suc zero))) [] h = absurd (omega (arith, h (omega arith)))
first_ones c (suc (suc (suc zero))) (a ∷ []) h = absurd (omega (arith, h (omega arith)))
first_ones c (suc (suc (suc zero))) (a ∷ b ∷ []) h = absurd (omega (arith, h (omega arith)))
first_ones c (suc (suc (suc (suc zero)))) (a ∷ b ∷ d ∷ e ∷ ns) h = refl
first_ones c (suc (suc (suc (suc zero)))) [] h = absurd (omega (arith, h (omega arith)))
first_ones c (suc (suc (suc (suc zero)))) (a ∷ []) h = absurd (omega (arith, h (omega arith)))
first_ones c (suc (suc (suc (suc zero)))) (a ∷ b ∷ []) h = absurd (omega (arith, h (omega arith)))
first_ones c (suc (suc (suc (suc zero)))) (a ∷ b ∷ d ∷ []) h = absurd (omega (arith, h (omega arith)))
first_ones c (suc (suc (suc (suc (suc n))))) ns h =
    let m : ℕ = suc (suc (suc (suc (suc n)))) in
    let other : (k : ℕ) → k ≤ most_numbers → eqb m k ≡ false = λ k h. ne_eqb m k (λ g. omega arith) in
    rw (lt-leb m most_numbers (omega arith), other 1 (omega arith), other 2 (omega arith), other 3 (omega arith), other 4 (omega arith)) refl

-- the line of the first n numbers
pub line_chosen : (c n : ℕ) (ns : List ℕ) {l : simulator.Line} → (n ≤ most_numbers → n ≤ length ns) → l ≡ chosen c n ns → l ≡ line_with c (counted n ns)
line_chosen c n ns h p = p ∙ first_ones c n ns h

too_many : (c : ℕ) (ns : List ℕ) → most_numbers < length ns → line_by c ns ≡ simulator.unreadable
unfolding line_by
too_many c (a ∷ b ∷ d ∷ e ∷ g ∷ ns) h = refl
too_many c [] h = absurd (omega arith)
too_many c (a ∷ []) h = absurd (omega arith)
too_many c (a ∷ b ∷ []) h = absurd (omega arith)
too_many c (a ∷ b ∷ d ∷ []) h = absurd (omega arith)
too_many c (a ∷ b ∷ d ∷ e ∷ []) h = absurd (omega arith)

-- and of all, by how many they are
module _ (c : ℕ) (ns : List ℕ) where
  chosen_all : chosen c (length ns) ns ≡ line_by c ns
  unfolding line_with
  chosen_all = line_chosen c (length ns) ns (λ h. omega arith) refl ∙ go (leb (length ns) most_numbers) refl
    where
      go : (t : Bool) → leb (length ns) most_numbers ≡ t → line_with c (pick t (some (take (length ns) ns)) none) ≡ line_by c ns
      go true e = rw (take_all (length ns) ns (omega arith)) refl
      go false e = sym (too_many c ns (leb-false (length ns) most_numbers e))

  counts : (n : ℕ) → length ns ≡ n → line_by c ns ≡ chosen c n ns
  counts n e = sym chosen_all ∙ rw e refl

  pub line_by_none : length ns < 1 → line_by c ns ≡ simulator.unreadable
  line_by_none h = counts 0 (omega arith)

  pub line_by_one : 1 ≤ length ns → length ns < 2 → line_by c ns ≡ pick (eqb c sync_letter) (simulator.sync (get_or ns 0 0)) simulator.unreadable
  line_by_one h l = counts 1 (omega arith)

  pub line_by_two : 2 ≤ length ns → length ns < 3 → line_by c ns ≡ letter_line c (get_or ns 0 0) (get_or ns 1 0)
  line_by_two h l = counts 2 (omega arith)

  pub line_by_three : 3 ≤ length ns → length ns < 4 → line_by c ns ≡ pick (eqb c give_letter) (simulator.give (get_or ns 0 0) (get_or ns 1 0) (get_or ns 2 0)) simulator.unreadable
  line_by_three h l = counts 3 (omega arith)

  pub line_by_four : 4 ≤ length ns → length ns < 5
      → line_by c ns ≡ pick (eqb c issue_letter) (simulator.issue (get_or ns 0 0) (get_or ns 1 0) (get_or ns 2 0) (get_or ns 3 0)) simulator.unreadable
  line_by_four h l = counts 4 (omega arith)

  pub line_by_more : 5 ≤ length ns → line_by c ns ≡ simulator.unreadable
  line_by_more h = too_many c ns (omega arith)

pub ruleset lines_by = (line_by_none, line_by_one, line_by_two, line_by_three, line_by_four, line_by_more)

-- ---- a signed number

pub argument-none : (s : List ℕ) → length s ≡ 0 → none ≡ argument_in s
unfolding argument_in
argument-none [] h = refl
argument-none (b ∷ s) h = absurd (omega arith)

pub argument-minus : (s : List ℕ) {o y : Option ℕ} → (length s ≡ 0 → ⊥) → get_or s 0 0 ≡ minus → o ≡ number_in (drop 1 s) → y ≡ negative o → y ≡ argument_in s
unfolding argument_in
argument-minus [] h e p q = absurd (h refl)
argument-minus (b ∷ s) h e p q = q ∙ rw (p, eq-eqb b minus e) refl

pub argument-plain : (s : List ℕ) {o y : Option ℕ} → (length s ≡ 0 → ⊥) → (get_or s 0 0 ≡ minus → ⊥) → o ≡ number_in s → y ≡ positive o → y ≡ argument_in s
unfolding argument_in
argument-plain [] h e p q = absurd (h refl)
argument-plain (b ∷ s) h e p q = q ∙ rw (p, ne_eqb b minus e) refl
