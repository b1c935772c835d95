-- Texts put one behind the other.
--     put_then         two of them
--     put-room         the room that is left behind one
--     length_digits    a number's digits are at most as many as allowed
--     length-signed, length-reply
-- Assumes nothing.
use Prim.Native.Nat.{ℕ, zero, suc, ◌+◌, ◌-◌, ◌/◌, ◌%◌, ◌≤◌, ◌<◌}
use mathlib.Core.Path.{◌≡◌, refl, sym, ap, ◌∙◌}
use mathlib.Core.List.{List, [], ◌∷◌, ◌++◌, append_assoc}
use native.Mathlib.Omega.{arith}
use lib.Dec.{ltb}
use lib.ListN.{length, length-append}
use borrow.Author.Tests.{lt-ltb, le-ltb}
use Rattle.model.specs.Numbers.{half}
use Rattle.model.specs.Simulator.{Reply, digits_of, shown, shown_signed, reply_text}
use Rattle.model_laws.proofs.Tests.{choose}
use Rattle.model_laws.proofs.Written.{written-append, length-written, written_none}
use Rattle.model.specs.Letters.{space, line_feed, minus, first_digit, most_digits, signed_room, field_room, reply_room}
use Rattle.simulator_text.specs.Values.{Put}

pub put_then : {p q r us vs : List ℕ} {a b c : ℕ} → Put p a us q b → Put q b vs r c → Put p a (us ++ vs) r c
put_then {p} {q} {r} {us} {vs} {a} {b} {c} x y =
    record {
      text = y.text ∙ rw (x.text, x.behind) (sym (written-append p a us vs));
      behind = y.behind ∙ rw (x.behind, length-append us vs) (omega arith);
    }

pub put-length : {p q vs : List ℕ} {a b : ℕ} → Put p a vs q b → length q ≡ length p
put-length {p} {q} {vs} {a} x = ap length x.text ∙ length-written p a vs

pub length_digits : (k n : ℕ) → length (digits_of k n) ≤ k
unfolding digits_of
length_digits zero n = omega arith
length_digits (suc k) n =
    choose (λ l. length l ≤ suc k) (ltb n 10) {a = (first_digit + n) ∷ []} {b = digits_of k (n / 10) ++ ((first_digit + n % 10) ∷ [])} (λ _. omega arith)
    (λ _. omega (arith, length-append (digits_of k (n / 10)) ((first_digit + n % 10) ∷ []), length_digits k (n / 10)))

pub length-shown : (n : ℕ) → length (shown n) ≤ most_digits
unfolding shown
length-shown n = length_digits most_digits n

pub length-signed : (x : ℕ) → length (shown_signed x) ≤ signed_room
unfolding shown_signed
length-signed x =
    choose (λ l. length l ≤ signed_room) (ltb x half) {a = minus ∷ shown (half - x)} {b = shown (x - half)} (λ _. omega (arith, length-shown (half - x))) (λ _. omega (arith, length-shown (x - half)))

pub put_as : {p q us vs : List ℕ} {a b : ℕ} → us ≡ vs → Put p a us q b → Put p a vs q b
put_as e x = rw e at x

pub length_field : (n : ℕ) → length (shown n ++ (space ∷ [])) ≤ field_room
length_field n = omega (arith, length-append (shown n) (space ∷ []), length-shown n)

-- of the room for a text and m bytes more, the m bytes are left behind the text
pub put-room : {p q vs : List ℕ} {a b : ℕ} (n m : ℕ) → length vs ≤ n → a + (n + m) ≤ length p → Put p a vs q b → b + m ≤ length q
put-room n m h r x = omega (arith, put-length x, x.behind)

pub field_room_lem : {p q : List ℕ} {a b : ℕ} (m k : ℕ) → a + (field_room + m) ≤ length p → Put p a (shown k ++ (space ∷ [])) q b → b + m ≤ length q
field_room_lem m k r x = put-room field_room m (length_field k) r x

-- ---- digits: none more, the last, one more

pub digits_none : (p : List ℕ) (a k v : ℕ) → k ≡ 0 → Put p a (digits_of k v) p a
unfolding digits_of
digits_none p a k v e = rw e (record { text = sym (written_none p a); behind = omega arith })

pub digits_one : {p q : List ℕ} {a b : ℕ} (k v : ℕ) → (k ≡ 0 → ⊥) → v < 10 → Put p a ((first_digit + v) ∷ []) q b → Put p a (digits_of k v) q b
unfolding digits_of
digits_one zero v h l x = absurd (h refl)
digits_one (suc k) v h l x = rw (lt-ltb v 10 l) x

pub digits_more : {p q r : List ℕ} {a b c : ℕ} (k v : ℕ) → (k ≡ 0 → ⊥) → 10 ≤ v → Put p a (digits_of (k - 1) (v / 10)) q b
    → Put q b ((first_digit + v % 10) ∷ []) r c → Put p a (digits_of k v) r c
unfolding digits_of
digits_more zero v h l x y = absurd (h refl)
digits_more (suc k) v h l x y =
    let e : suc k - 1 ≡ k = omega arith in
    rw (le-ltb v 10 l) (put_then (rw e at x) y)

-- a signed number below 0
pub signed-minus : {p q r : List ℕ} {a b c : ℕ} (x : ℕ) → x < half → Put p a (minus ∷ []) q b → Put q b (shown (half - x)) r c → Put p a (shown_signed x) r c
unfolding shown_signed
signed-minus x h y z = rw (lt-ltb x half h) (put_then y z)

pub signed-plain : {p q : List ℕ} {a b : ℕ} (x : ℕ) → half ≤ x → Put p a (shown (x - half)) q b → Put p a (shown_signed x) q b
unfolding shown_signed
signed-plain x h y = rw (le-ltb x half h) y

-- the text of an answer as its parts are put
pub reply-parts : (k : ℕ) (r : Reply)
    → (((shown k ++ (space ∷ [])) ++ (shown r.number ++ (space ∷ []))) ++ (shown r.made ++ (space ∷ []))) ++ (shown_signed r.value ++ (line_feed ∷ [])) ≡ reply_text k r
unfolding reply_text
reply-parts k r = simp append_assoc

pub length-reply : (k : ℕ) (r : Reply) → length (reply_text k r) ≤ reply_room
unfolding reply_text
length-reply k r =
    simp length-append (omega (arith, length-shown k, length-shown r.number, length-shown r.made, length-signed r.value))
