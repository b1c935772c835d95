-- How a text falls apart, and the numbers in it.
--     first-found                           the place of a byte, in std's words
--     counted_feed, counted-other, counted-end      the line feeds of a text, from a place on
--     fields-last, fields-parts             the fields of a line, by the place of its first space
--     fields-split                          and as the parts that `split` gives
--     lines_next, lines_none                the lines of a text, by the place of its first line feed
--     digits_next, digits_off, digits_big   a number, digit by digit
-- Assumes nothing.
use Prim.Native.Nat.{ℕ, suc, ◌+◌, ◌-◌, ◌*◌, ◌≤◌, ◌<◌}
use mathlib.Core.Path.{◌≡◌, refl, sym, ap, ◌∙◌}
use mathlib.Core.Bool.{Bool, true, false, cond}
use mathlib.Core.List.{List, [], ◌∷◌, ◌++◌, append-nil}
use mathlib.Core.Option.{none, some}
use native.Mathlib.Omega.{arith}
use native.Mathlib.Numerals.{add-one}
use native.Mathlib.Nat.{le_of_suc-le-suc, not-suc-le-zero}
use lib.Dec.{eqb, leb, ltb}
use lib.ListN.{length, take, drop, get_or, drop_of_length-le}
use borrow.Rule.Slice.PartMut.{mid_of}
use lib.Seq.{drop-cons, take_all, append_snoc}
use borrow.Author.Tests.{eq-eqb, ne_eqb, lt-leb, le-leb, leb-true, ltb-true, ltb-false}
use Rattle.std.specs.Prelude as std
use Rattle.std.specs.Option.{unwrap_or}
use Rattle.std.specs.List.{position_or_len, slice_split, onto_first, position}
use Rattle.std.proofs.lemmas.List.Splits.{length-slice_split}
use Rattle.std.proofs.lemmas.List.Recursion.{is_position_or_len}
use Rattle.model.specs.Choice.{pick}
use Rattle.model.specs.Limits.{last32}
use Rattle.model.specs.Simulator.{is_digit, digits_from, at_most, number_in, fields_from, line_of, end_line, lines_from}
use Rattle.model_laws.proofs.Written.{tail-part}
use Rattle.model_laws.proofs.Tests.{and_left, and_right, choose}
use Rattle.model.specs.Letters.{space, line_feed, first_digit, last_digit}
use Rattle.simulator_text.specs.Values.{first_of, line_feeds}

pick_is : {A : Type 0} (t : Bool) (a b : A) → pick t a b ≡ cond t a b
pick_is true a b = refl
pick_is false a b = refl

-- ---- the place of a byte, in std's words

pub first_of_lem : (x : ℕ) (s : List ℕ) → first_of x s ≡ position_or_len (λ b. eqb b x) s
unfolding first_of
first_of_lem x s = is_position_or_len (first_of x) (λ b. eqb b x) refl (λ b t. pick_is (eqb b x) _ _ ∙ ap (λ n. cond (eqb b x) 0 n) (omega arith)) s

first_length : (x : ℕ) (s : List ℕ) → first_of x s ≤ length s
unfolding first_of
first_length x [] = omega arith
first_length x (b ∷ s) = choose (λ n. n ≤ suc (length s)) (eqb b x) (λ _. omega arith) (λ _. omega (arith, first_length x s))

-- what `position` found, or the length
pub first-found : (x : ℕ) (s : List ℕ) {o : std.Option ℕ} {n : ℕ} → n ≡ unwrap_or o (length s) → o ≡ position (λ b. eqb b x) s
    → (n ≡ first_of x s) × (n ≤ length s)
first-found x s {o} {n} p q = let e : n ≡ first_of x s = go (ltb (position_or_len (λ b. eqb b x) s) (length s)) refl in (e, omega (arith, first_length x s))
  where
    go : (t : Bool) → ltb (position_or_len (λ b. eqb b x) s) (length s) ≡ t → n ≡ first_of x s
    go true e = rw (first_of_lem x s) (p ∙ rw q (rw e refl))
    go false e =
        let l : length s ≤ position_or_len (λ b. eqb b x) s = ltb-false _ _ e in
        let m : n ≡ length s = p ∙ rw q (rw e refl) in
        omega (arith, first_length x s, first_of_lem x s)

-- ---- line feeds, from a place on: those before it are n

abbrev pub Counted : List ℕ → ℕ → ℕ → Type 0
Counted s n i = (i ≤ length s) × (n ≤ i) × (n + line_feeds (drop i s) ≡ line_feeds s)

pub counted_feed : (s : List ℕ) (n i : ℕ) → Counted s n i → i < length s → get_or s i 0 ≡ line_feed → Counted s (n + 1) (i + 1)
unfolding line_feeds
counted_feed s n i c h e =
    let f : line_feeds (drop i s) ≡ suc (line_feeds (drop (i + 1) s)) = rw (add-one, drop-cons s i 0 h, eq-eqb (get_or s i 0) line_feed e) in
    (omega arith, omega arith, omega arith)

pub counted-other : (s : List ℕ) (n i : ℕ) → Counted s n i → i < length s → (get_or s i 0 ≡ line_feed → ⊥) → Counted s n (i + 1)
unfolding line_feeds
counted-other s n i c h e =
    let f : line_feeds (drop i s) ≡ line_feeds (drop (i + 1) s) = rw (add-one, drop-cons s i 0 h, ne_eqb (get_or s i 0) line_feed e) in
    (omega arith, omega arith, omega arith)

pub counted-end : (s : List ℕ) (n i : ℕ) → Counted s n i → length s ≤ i → n ≡ line_feeds s
unfolding line_feeds
counted-end s n i c h =
    let f : line_feeds (drop i s) ≡ 0 = rw (drop_of_length-le s h) in
    omega arith

-- ---- a text cut at a byte x: F f s reads s with f before it

module _ {A : Type 0} (x : ℕ) (F : List ℕ → List ℕ → A) (E : List ℕ → A) (C : List ℕ → A → A)
    (at-end : (f : List ℕ) → F f [] ≡ E f)
    (at_byte : (f : List ℕ) (b : ℕ) (s : List ℕ) → F f (b ∷ s) ≡ pick (eqb b x) (C f (F [] s)) (F (f ++ (b ∷ [])) s)) where
  cut-more : (f s : List ℕ) → first_of x s < length s → F f s ≡ C (f ++ take (first_of x s) s) (F [] (drop (suc (first_of x s)) s))
  unfolding first_of
  cut-more f [] h = absurd (not-suc-le-zero h)
  cut-more f (b ∷ s) h = at_byte f b s ∙ go (eqb b x) (λ k. cut-more (f ++ (b ∷ [])) s k) h
    where
      go : (t : Bool) → (first_of x s < length s → F (f ++ (b ∷ [])) s ≡ C ((f ++ (b ∷ [])) ++ take (first_of x s) s) (F [] (drop (suc (first_of x s)) s)))
          → pick t 0 (suc (first_of x s)) < suc (length s)
          → pick t (C f (F [] s)) (F (f ++ (b ∷ [])) s)
          ≡ C (f ++ take (pick t 0 (suc (first_of x s))) (b ∷ s)) (F [] (drop (suc (pick t 0 (suc (first_of x s)))) (b ∷ s)))
      go true again k = ap (λ (g : List ℕ). C g (F [] s)) (sym (append-nil f))
      go false again k =
          again (le_of_suc-le-suc k) ∙ ap (λ (g : List ℕ). C g (F [] (drop (suc (first_of x s)) s))) (append_snoc f b (take (first_of x s) s))

  cut-last : (f s : List ℕ) → length s ≤ first_of x s → F f s ≡ E (f ++ s)
  unfolding first_of
  cut-last f [] h = at-end f ∙ ap E (sym (append-nil f))
  cut-last f (b ∷ s) h = at_byte f b s ∙ go (eqb b x) (λ k. cut-last (f ++ (b ∷ [])) s k) h
    where
      go : (t : Bool) → (length s ≤ first_of x s → F (f ++ (b ∷ [])) s ≡ E ((f ++ (b ∷ [])) ++ s))
          → suc (length s) ≤ pick t 0 (suc (first_of x s)) → pick t (C f (F [] s)) (F (f ++ (b ∷ [])) s) ≡ E (f ++ (b ∷ s))
      go true again k = absurd (not-suc-le-zero k)
      go false again k = again (le_of_suc-le-suc k) ∙ ap E (append_snoc f b s)

-- ---- fields

pub fields-more : (s : List ℕ) (e : ℕ) → e ≡ first_of space s → e < length s → fields_from [] s ≡ take e s ∷ fields_from [] (drop (e + 1) s)
unfolding fields_from
fields-more s e p h =
    rw (p, add-one) (cut-more space fields_from (λ f. f ∷ []) (λ f r. f ∷ r) (λ f. refl) (λ f b s. refl) [] s (omega arith))

pub fields-last : (s : List ℕ) (e : ℕ) → e ≡ first_of space s → length s ≤ e → fields_from [] s ≡ s ∷ []
unfolding fields_from
fields-last s e p h = cut-last space fields_from (λ f. f ∷ []) (λ f r. f ∷ r) (λ f. refl) (λ f b s. refl) [] s (omega arith)

-- the fields are the parts that `split` gives: those of a text behind the text f
onto_part : List ℕ → List (List ℕ) → List (List ℕ)
onto_part f [] = f ∷ []
onto_part f (p ∷ ps) = (f ++ p) ∷ ps

onto_none : (ps : List (List ℕ)) → 0 < length ps → onto_part [] ps ≡ ps
unfolding onto_part
onto_none [] h = absurd (not-suc-le-zero h)
onto_none (p ∷ ps) h = refl

onto_byte : (f : List ℕ) (b : ℕ) (ps : List (List ℕ)) → onto_part (f ++ (b ∷ [])) ps ≡ onto_part f (onto_first b ps)
unfolding onto_part
onto_byte f b [] = refl
onto_byte f b (p ∷ ps) = ap (λ (q : List ℕ). q ∷ ps) (append_snoc f b p)

split_fields : (f s : List ℕ) → fields_from f s ≡ onto_part f (slice_split (λ b. eqb b space) s)
unfolding fields_from onto_part
split_fields f [] = ap (λ (q : List ℕ). q ∷ []) (sym (append-nil f))
split_fields f (b ∷ s) = go (eqb b space) (split_fields [] s) (split_fields (f ++ (b ∷ [])) s)
  where
    parts : List (List ℕ)
    parts = slice_split (λ b. eqb b space) s

    go : (t : Bool) → fields_from [] s ≡ onto_part [] parts → fields_from (f ++ (b ∷ [])) s ≡ onto_part (f ++ (b ∷ [])) parts
        → pick t (f ∷ fields_from [] s) (fields_from (f ++ (b ∷ [])) s) ≡ onto_part f (cond t ([] ∷ parts) (onto_first b parts))
    go true p q =
        let e : fields_from [] s ≡ parts = p ∙ onto_none parts (omega (arith, length-slice_split (λ b. eqb b space) s)) in
        rw (e, append-nil f) refl
    go false p q = q ∙ onto_byte f b parts

pub fields-split : (s : List ℕ) → fields_from [] s ≡ slice_split (λ b. eqb b space) s
fields-split s = split_fields [] s ∙ onto_none _ (omega (arith, length-slice_split (λ b. eqb b space) s))

-- ---- lines

lines_more : (s : List ℕ) → first_of line_feed s < length s → lines_from [] s ≡ line_of (take (first_of line_feed s) s) ∷ lines_from [] (drop (suc (first_of line_feed s)) s)
unfolding lines_from
lines_more s h = cut-more line_feed lines_from end_line (λ f r. line_of f ∷ r) (λ f. refl) (λ f b s. refl) [] s h

lines_last : (s : List ℕ) → length s ≤ first_of line_feed s → lines_from [] s ≡ end_line s
unfolding lines_from
lines_last s h = cut-last line_feed lines_from end_line (λ f r. line_of f ∷ r) (λ f. refl) (λ f b s. refl) [] s h

end_line_lem : (s : List ℕ) → 0 < length s → end_line s ≡ line_of s ∷ []
unfolding end_line
end_line_lem [] h = absurd (not-suc-le-zero h)
end_line_lem (b ∷ s) h = refl

pub lines_none : lines_from [] [] ≡ []
unfolding lines_from end_line
lines_none = refl

-- a text that is not empty: its first line, and those behind its first line feed
pub lines_next : (s : List ℕ) → 0 < length s → lines_from [] s ≡ line_of (take (first_of line_feed s) s) ∷ lines_from [] (drop (suc (first_of line_feed s)) s)
lines_next s h = go (ltb (first_of line_feed s) (length s)) refl
  where
    go : (t : Bool) → ltb (first_of line_feed s) (length s) ≡ t → lines_from [] s ≡ line_of (take (first_of line_feed s) s) ∷ lines_from [] (drop (suc (first_of line_feed s)) s)
    go true e = lines_more s (omega (arith, ltb-true, e))
    go false e =
        let l : length s ≤ first_of line_feed s = omega (arith, ltb-false, e) in
        lines_last s l ∙ end_line_lem s h ∙ rw (take_all (first_of line_feed s) s l, drop_of_length-le s {i = suc (first_of line_feed s)} (omega arith), lines_none)

-- ---- numbers

pub digits_next : (n : ℕ) (s : List ℕ) (i : ℕ) → i < length s → is_digit (get_or s i 0) ≡ true
    → digits_from n (drop i s) ≡ digits_from (10 * n + (get_or s i 0 - first_digit)) (drop (i + 1) s)
unfolding digits_from
digits_next n s i h e = rw (add-one, drop-cons s i 0 h, e)

pub digits_off : (n : ℕ) (s : List ℕ) (i : ℕ) → i < length s → is_digit (get_or s i 0) ≡ false → digits_from n (drop i s) ≡ none
unfolding digits_from
digits_off n s i h e = rw (drop-cons s i 0 h, e)

pub digits_big : (n : ℕ) (s : List ℕ) → last32 < n → at_most last32 (digits_from n s) ≡ none
unfolding digits_from at_most
digits_big n [] h = rw (lt-leb n last32 h)
digits_big n (b ∷ s) h =
    choose (λ o. at_most last32 o ≡ none) (is_digit b) (λ _. digits_big (10 * n + (b - first_digit)) s (omega arith)) (λ _. refl)

pub digit_range : (b : ℕ) → is_digit b ≡ true → (first_digit ≤ b) × (b ≤ last_digit)
unfolding is_digit
digit_range b e =
    let low : Bool = leb first_digit b in
    let high : Bool = leb b last_digit in
    (leb-true first_digit b (and_left low high e), leb-true b last_digit (and_right low high e))

-- ---- a number read digit by digit: what is left of it at a place

pub number-empty : (s : List ℕ) → length s ≡ 0 → none ≡ number_in s
unfolding number_in
number-empty [] h = refl
number-empty (b ∷ s) h = absurd (omega arith)

pub number_is_lem : (s : List ℕ) → (length s ≡ 0 → ⊥) → number_in s ≡ at_most last32 (digits_from 0 s)
unfolding number_in
number_is_lem [] h = absurd (h refl)
number_is_lem (b ∷ s) h = refl

-- what stands before a place is the number n
abbrev pub Left : List ℕ → ℕ → ℕ → Type 0
Left s n i = at_most last32 (digits_from 0 s) ≡ at_most last32 (digits_from n (drop i s))

pub left-off : (s : List ℕ) (n i : ℕ) {t : Bool} → (length s ≡ 0 → ⊥) → Left s n i → i < length s → t ≡ is_digit (get_or s i 0) → t ≡ false → none ≡ number_in s
unfolding at_most
left-off s n i h l k p q = sym (number_is_lem s h ∙ l ∙ rw (digits_off n s i k (sym p ∙ q)) refl)

pub left-next : (s : List ℕ) (n i : ℕ) {t : Bool} {m : ℕ} → Left s n i → i < length s → t ≡ is_digit (get_or s i 0) → t ≡ true → m ≡ 10 * n + (get_or s i 0 - first_digit) → Left s m (i + 1)
left-next s n i l k p q e = l ∙ rw (digits_next n s i k (sym p ∙ q), e) refl

pub left_big : (s : List ℕ) (n i : ℕ) → (length s ≡ 0 → ⊥) → Left s n i → last32 < n → none ≡ number_in s
left_big s n i h l k = sym (number_is_lem s h ∙ l ∙ digits_big n (drop i s) k)

pub left_end : (s : List ℕ) (n i : ℕ) → (length s ≡ 0 → ⊥) → Left s n i → n ≤ last32 → length s ≤ i → some n ≡ number_in s
unfolding at_most digits_from
left_end s n i h l k m = sym (number_is_lem s h ∙ l ∙ rw (drop_of_length-le s {i = i} m, le-leb n last32 k) refl)

-- the same by the two parts that the code lends
pub fields-parts : (s : List ℕ) (e : ℕ) → e ≡ first_of space s → e < length s → fields_from [] s ≡ take e s ∷ fields_from [] (mid_of (e + 1) (length s - (e + 1)) s)
fields-parts s e p h = fields-more s e p h ∙ rw (tail-part (e + 1) s) refl
