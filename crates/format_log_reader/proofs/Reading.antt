-- Laws of the readers.
--     size-least, size-timed     an executed record has at least the bytes of the first form; with a time, that time's too
--     then-pick     a choice between a value and none
--     parsed     what record_from answers of the log's part is what the record says
-- Assumes nothing.
use Prim.Native.Nat.{ℕ, ◌+◌, ◌-◌, ◌≤◌}
use mathlib.Core.Path.{◌≡◌, refl, sym, ap, ◌∙◌}
use mathlib.Core.Bool.{Bool, true, false, ◌&&◌, false≢true}
use mathlib.Core.List.{List}
use mathlib.Core.Option.{none, some}
use native.Mathlib.Omega.{arith}
use borrow.Author.Tests.{eqb-true}
use lib.ListN.{length, take, drop}
use lib.Seq.{drop-drop}
use lib.Dec.{eqb}
use Rattle.std.specs.Prelude.{Option, Some, None}
use Rattle.std.specs.Bool.{then_some}
use Rattle.model.specs.Choice.{pick}
use Rattle.model.specs.Numbers.{byte_at, le32_at, zero_at, zeros3_at}
use Rattle.model.specs.Limits.{take_head, first_executed_kind, gone_kind, give_kind, take_kind, release_kind, executed_kind, first_executed_size, executed_size}
use Rattle.model.specs.Packets.{notice_at, notice_ok}
use Rattle.model.specs.Images.{Image, image_at, parse_image, image_ok}
use Rattle.model.specs.Logs.{took, executed_size_of, executed_at, executed_ok, give_at, give_ok, release_at, release_ok, spans, extent_of, take_parsed, executed_parsed, record_at}
use Rattle.model_laws.proofs.Tests.{and_right, choose}
use Rattle.model_laws.proofs.Written.{tail-part}
use Rattle.format_log_ends.specs.Answers.{extent_from}
use Rattle.format_log_ends.proofs.Ends.{spans-take, from-spans}
use Rattle.format_log_reader.specs.declared.Span.{Span}
use Rattle.format_log_reader.specs.declared.Record.{Record}
use Rattle.format_log_reader.specs.declared.Record.TheVariants.{Took}
use Rattle.format_log_reader.specs.Answers.{image_in, span_in, record_means, record_placed, Parsed, executed_from, gone_from, give_from, take_from, release_from, record_from}

pub size-least : (timed : Bool) (n : ℕ) → executed_size_of timed ≤ n → first_executed_size ≤ n
unfolding executed_size_of
size-least true n h = omega arith
size-least false n h = h

pub size-timed : (timed : Bool) (n : ℕ) → executed_size_of timed ≤ n → timed ≡ true → executed_size ≤ n
unfolding executed_size_of
size-timed true n h e = h
size-timed false n h e = absurd (false≢true e)

pub then-pick : {A : Type 0} (t : Bool) (a : A) → then_some t a ≡ pick t (Some a) None
then-pick true a = refl
then-pick false a = refl

-- a choice on both sides
pick-map : {A B : Type 0} (f : A → B) (t : Bool) {a b : A} {p q : B} → (t ≡ true → f a ≡ p) → f b ≡ q → f (pick t a b) ≡ pick t p q
pick-map f true h g = h refl
pick-map f false h g = g

take-means : (log : List ℕ) (z ok : Bool) (p : Span) (i : Image) → record_means log (Some (Took p)) ≡ some (took i)
    → record_means log (pick (z && ok) (Some (Took p)) None) ≡ pick z (take_parsed (pick ok (some i) none)) none
unfolding record_means take_parsed
take-means log true true p i e = e
take-means log true false p i e = refl
take-means log false ok p i e = refl

module _ (log : List ℕ) (at n : ℕ) (ext : extent_of (drop at log) ≡ spans n) where
  -- the image's bytes, seen from the log and from the record's front
  image_span : take (n - take_head) (drop (at + take_head) log) ≡ take (n - take_head) (drop take_head (drop at log))
  image_span = ap (λ (x : List ℕ). take (n - take_head) x) (sym (drop-drop take_head at log))

  took-means : byte_at (drop at log) 0 ≡ take_kind
      → record_means log (take_from (drop at log) at n) ≡ pick (zeros3_at (drop at log) 1) (take_parsed (parse_image (take (le32_at (drop at log) 4) (drop take_head (drop at log))))) none
  unfolding take_from parse_image image_in image_at
  took-means k =
      let q : le32_at (drop at log) 4 ≡ n - take_head = omega (arith, spans-take (drop at log) n ext k) in
      let b : List ℕ = take (n - take_head) (drop take_head (drop at log)) in
      rw q
      (take-means log (zeros3_at (drop at log) 1) (image_ok b) (record { from = at + take_head; len = n - take_head }) (image_in b)
      (unfold record_means span_in in ap (λ (x : List ℕ). some (took (image_in x))) image_span))

  executed-means : (timed : Bool) → record_means log (executed_from timed (drop at log)) ≡ executed_parsed timed (drop at log)
  unfolding record_means executed_from executed_parsed
  executed-means timed = pick-map (record_means log) (zeros3_at (drop at log) 25 && executed_ok (executed_at timed (drop at log))) (λ u. refl) refl

  record-means : record_means log (record_from (drop at log) at n) ≡ record_at (drop at log)
  unfolding record_from record_at record_means gone_from give_from release_from
  record-means =
      let t : List ℕ = drop at log in
      pick-map (record_means log) (eqb (byte_at t 0) first_executed_kind) (λ k. executed-means false)
      (pick-map (record_means log) (eqb (byte_at t 0) gone_kind) (λ k. pick-map (record_means log) (zeros3_at t 1 && notice_ok (notice_at t)) (λ u. refl) refl)
      (pick-map (record_means log) (eqb (byte_at t 0) give_kind) (λ k. pick-map (record_means log) (zero_at t 3 && give_ok (give_at t)) (λ u. refl) refl)
      (pick-map (record_means log) (eqb (byte_at t 0) take_kind) (λ k. took-means (eqb-true (byte_at t 0) take_kind k))
      (pick-map (record_means log) (eqb (byte_at t 0) release_kind) (λ k. pick-map (record_means log) (zero_at t 2 && (zero_at t 3 && release_ok (release_at t))) (λ u. refl) refl)
      (pick-map (record_means log) (eqb (byte_at t 0) executed_kind) (λ k. executed-means true) refl)))))

  took-placed : byte_at (drop at log) 0 ≡ take_kind → record_placed log at n (take_from (drop at log) at n)
  unfolding take_from span_in
  took-placed k =
      let b : List ℕ = take (n - take_head) (drop take_head (drop at log)) in
      let z : Bool = zeros3_at (drop at log) 1 in
      choose (record_placed log at n) (z && image_ok b)
      (λ t.
      record {
        start = refl;
        end = omega (arith, spans-take (drop at log) n ext k);
        ok = ap image_ok image_span ∙ and_right z (image_ok b) t;
      })
      (λ t. tt)

  executed-placed : (timed : Bool) → record_placed log at n (executed_from timed (drop at log))
  unfolding executed_from
  executed-placed timed = choose (record_placed log at n) (zeros3_at (drop at log) 25 && executed_ok (executed_at timed (drop at log))) (λ u. tt) (λ u. tt)

  record-placed : record_placed log at n (record_from (drop at log) at n)
  unfolding record_from gone_from give_from release_from
  record-placed =
      let t : List ℕ = drop at log in
      let P : Option Record → Type 0 = record_placed log at n in
      choose P (eqb (byte_at t 0) first_executed_kind) (λ k. executed-placed false)
      (λ k1. choose P (eqb (byte_at t 0) gone_kind) (λ k. choose P (zeros3_at t 1 && notice_ok (notice_at t)) (λ u. tt) (λ u. tt))
      (λ k2. choose P (eqb (byte_at t 0) give_kind) (λ k. choose P (zero_at t 3 && give_ok (give_at t)) (λ u. tt) (λ u. tt))
      (λ k3. choose P (eqb (byte_at t 0) take_kind) (λ k. took-placed (eqb-true (byte_at t 0) take_kind k))
      (λ k4. choose P (eqb (byte_at t 0) release_kind) (λ k. choose P (zero_at t 2 && (zero_at t 3 && release_ok (release_at t))) (λ u. tt) (λ u. tt))
      (λ k5. choose P (eqb (byte_at t 0) executed_kind) (λ k. executed-placed true) (λ k6. tt))))))

pub parsed : (log : List ℕ) (at n : ℕ) {r : Option Record} → extent_from log at ≡ spans n → r ≡ record_from (take (length log - at) (drop at log)) at n → Parsed log at n r
parsed log at n e q =
    let x : extent_of (drop at log) ≡ spans n = from-spans log at n e in
    rw (q, tail-part at log) (record { means = record-means log at n x; placed = record-placed log at n x })
