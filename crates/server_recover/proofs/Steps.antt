-- One record of a log on the state in a buffer.
--     said, ready, image-part       what a record's answer says; it is ready to be replayed; a take's image at its place
--     broken_by, replayed_by        what replaying it leaves
--     stops, goes                   one step of the second walk
--     On, on-..                     all steps, one after the other
-- Assumes nothing.
use Prim.Native.Nat.{ℕ, ◌+◌, ◌-◌, ◌*◌, ◌≤◌, ◌<◌}
use mathlib.Core.Path.{◌≡◌, refl, sym, ap, ◌∙◌}
use mathlib.Core.Bool.{Bool, true, false, false≢true}
use mathlib.Core.List.{List}
use mathlib.Core.Option.{Option as Maybe, none, some}
use native.Mathlib.Omega.{arith}
use denote.Ref.{Bor}
use Rattle.std.specs.Prelude.{Option, Some, None}
use lib.ListN.{length, drop}
use Rattle.model.specs.Numbers.{word}
use Rattle.model.specs.Images.{image_ok}
use Rattle.model.specs.Logs.{LogRecord, took, spans, record_at}
use Rattle.model.specs.States.{State, load}
use Rattle.model.specs.Apply.{apply_record}
use Rattle.model.specs.Decisions.{follows}
use Rattle.model.specs.Operations.{stored}
use Rattle.model.specs.Limits.{head_size}
use Rattle.model_laws.specs.Bytes.{Bytes, part}
use Rattle.model_laws.specs.Fits.{IsRecord}
use Rattle.model_laws.proofs.Numbers.{bytes_drop}
use Rattle.model_laws.proofs.Logs.{record_is}
use Rattle.model_invariants.proofs.Formats.{good-record}
use Rattle.model_invariants.proofs.Recovery.{apply-size}
use Rattle.format_log_reader.specs.declared.Span.{Span}
use Rattle.format_log_reader.specs.declared.Record.{Record}
use Rattle.format_log_reader.specs.declared.Record.TheVariants.{Took}
use Rattle.format_log_ends.specs.Answers.{extent_from}
use Rattle.format_log_ends.specs.declared.whole.Records.{Records}
use Rattle.format_log_ends.specs.Records.{Ahead, Stepped, from_head}
use Rattle.format_log_reader.specs.Answers.{image_in, span_in, record_means, ImagePlaced, Parsed}
use Rattle.format_log_ends.proofs.Ends.{from-spans, from_inside}
use Rattle.format_log_ends.proofs.Walked.{ends_reached}
use Rattle.server_replay.specs.Standing.{Ready, replayed}
use Rattle.server_replay.proofs.Rooms.{ready_standing}
use Rattle.server_recover.specs.Remaining.{remaining, image_between, record_follows, record_replayed, RecordReplayedBy, StandsAt, Ended}
use Rattle.server_recover.proofs.SecondWalk.{remaining-done, remaining_broken, remaining-next, remaining_stops}

-- ---- what stands at a place

pub said : (log : List ℕ) (at n : ℕ) {x y : Option Record} → Parsed log at n x → x ≡ y → record_at (drop at log) ≡ record_means log y
said log at n p e = sym p.means ∙ ap (record_means log) e

-- a whole record, well-formed, behind the recorded length
pub ready : (s log : List ℕ) (at n : ℕ) (r : LogRecord) → StandsAt s at → Bytes log → extent_from log at ≡ spans n → record_at (drop at log) ≡ some r → Ready s r (at + n)
ready s log at n r w b e q =
    let i : IsRecord (drop at log) n r = record_is (drop at log) (bytes_drop at log b) n (from-spans log at n e) r q in
    record {
      standing = w.standing;
      good = good-record r i.ok i.fits;
      behind = rw (w.place, ← i.size);
    }

-- a take's image, between its two places
pub record ImagePart (log : List ℕ) (at n : ℕ) (p : Span) : Type 0 where
  pub from : p.from ≤ p.from + p.len
  pub to : p.from + p.len ≤ length log
  pub says : record_at (drop at log) ≡ some (took (image_between log p.from (p.from + p.len)))
  pub ok : image_ok (part p.from (p.from + p.len - p.from) log) ≡ true

pub image-part : (log : List ℕ) (at n : ℕ) {x : Option Record} {p : Span} → Parsed log at n x → x ≡ Some (Took p) → at + n ≤ length log → ImagePart log at n p
unfolding record_means span_in image_in
image-part log at n {x} {p} h e l =
    let i : ImagePlaced log at n p = rw e at h.placed in
    let k : p.from + p.len - p.from ≡ p.len = omega arith in
    record {
      from = omega arith;
      to = omega (arith, i.end);
      says = rw k (said log at n h e);
      ok = rw k i.ok;
    }

-- ---- what replaying it leaves

module _ (s log : List ℕ) (at end : ℕ) where
  pub broken_by : record_at (drop at log) ≡ none → (false ≡ record_follows (load s) (record_at (drop at log))) × (s ≡ record_replayed (record_at (drop at log)) end s)
  unfolding record_follows record_replayed
  broken_by q = rw q (refl, refl)

  pub replayed_by : (r : LogRecord) {t : Bool} {s' : List ℕ} → record_at (drop at log) ≡ some r → (t ≡ follows (load s) r) × (s' ≡ replayed r end s)
      → (t ≡ record_follows (load s) (record_at (drop at log))) × (s' ≡ record_replayed (record_at (drop at log)) end s)
  unfolding record_follows record_replayed
  replayed_by r q e = rw q e

-- ---- one step

-- the same state is recovered from the next place
record Goes (log : List ℕ) (at : ℕ) (s s' : List ℕ) (m : ℕ) : Type 0 where
  pub stands : StandsAt s' m
  pub same : remaining log at (load s) ≡ remaining log m (load s')

module _ (s log : List ℕ) (at n : ℕ) (e : extent_from log at ≡ spans n) {t : Bool} (f : t ≡ record_follows (load s) (record_at (drop at log))) where
  followed : (r : LogRecord) → record_at (drop at log) ≡ some r → record_follows (load s) (record_at (drop at log)) ≡ follows (load s) r
  unfolding record_follows
  followed r q = rw q

  followed_none : record_at (drop at log) ≡ none → record_follows (load s) (record_at (drop at log)) ≡ false
  unfolding record_follows
  followed_none q = rw q

  changed : (r : LogRecord) → record_at (drop at log) ≡ some r → true ≡ follows (load s) r
      → record_replayed (record_at (drop at log)) (at + n) s ≡ stored s (apply_record r (at + n) (load s))
  unfolding record_replayed replayed
  changed r q y = rw (q, ← y)

  stops : t ≡ false → remaining log at (load s) ≡ none
  stops p = go (record_at (drop at log)) refl
    where
      go : (o : Maybe LogRecord) → record_at (drop at log) ≡ o → remaining log at (load s) ≡ none
      go none q = remaining_broken log at (load s) n e q
      go (some r) q = remaining_stops log at (load s) n e r q (sym (f ∙ followed r q) ∙ p)

  goes : {s' : List ℕ} → StandsAt s at → Bytes log → length log < word * word → t ≡ true → s' ≡ record_replayed (record_at (drop at log)) (at + n) s → Goes log at s s' (at + n)
  goes {s'} w b z p c = go (record_at (drop at log)) refl
    where
      with : (r : LogRecord) → record_at (drop at log) ≡ some r → true ≡ follows (load s) r → s' ≡ stored s (apply_record r (at + n) (load s)) → Goes log at s s' (at + n)
      with r q y k =
          let l : at + n ≤ length log = from_inside log at n e in
          let d = ready_standing s r (at + n) (ready s log at n r w b e q) (omega arith) y k in
          record {
            stands = record { standing = d.0; place = ap (λ (v : State). v.size) d.1 ∙ apply-size r (at + n) (load s) };
            same = remaining-next log at (load s) n e r q (sym y) ∙ ap (remaining log (at + n)) (sym d.1);
          }

      go : (o : Maybe LogRecord) → record_at (drop at log) ≡ o → Goes log at s s' (at + n)
      go none q = absurd (false≢true (sym (f ∙ followed_none q) ∙ p))
      go (some r) q =
          let y : true ≡ follows (load s) r = sym p ∙ f ∙ followed r q in
          with r q y (c ∙ changed r q y)

-- ---- all steps

-- the buffer s₀ became s, at a place of the log: the state that is recovered is the same from there
pub record On (log s₀ s : List ℕ) (w : Records) : Type 0 where
  pub of : w.log.now ≡ log
  pub stands : StandsAt s w.at
  pub long : length s ≡ length s₀
  pub same : remaining log head_size (load s₀) ≡ remaining log w.at (load s)

module _ {log : List ℕ} {w : Records} where
  pub on_start : (s : List ℕ) {end : ℕ} → StandsAt s head_size → from_head log end w → On log s s w
  on_start s a e = record { of = e.0; stands = rw e.1 a; long = refl; same = rw e.1 }

  module _ {s₀ s : List ℕ} (o : On log s₀ s w) where
    pub on_done : Ahead w → {w' : Records} → Stepped w None w' → Ended log head_size (load s₀) s true
    on_done a e =
        record { found = (o.stands.standing, o.same ∙ remaining-done log w.at (load s) (ends_reached log w.at w.end (rw o.of at a) e.0)) }

    module _ {at n : ℕ} {w' : Records} (e : Stepped w (Some (at, n)) w') where
      pub on_place : StandsAt s at
      on_place = rw e.0 o.stands

      pub on_spans : extent_from log at ≡ spans n
      on_spans = rw o.of at e.1

      same_here : remaining log head_size (load s₀) ≡ remaining log at (load s)
      same_here = rw e.0 o.same

      module _ {s' : List ℕ} {t : Bool} (d : RecordReplayedBy (record_at (drop at log)) (at + n) s s' t) where
        pub on_stop : t ≡ false → Ended log head_size (load s₀) s' false
        on_stop p = record { found = same_here ∙ stops s log at n on_spans d.0 p }

        pub on_next : Bytes log → length log < word * word → t ≡ true → length s' ≡ length s → On log s₀ s' w'
        on_next b z p l =
            let g : Goes log at s s' (at + n) = goes s log at n on_spans d.0 on_place b z p d.1 in record {
              of = ap (λ (b : Bor (List ℕ)). b.now) e.3 ∙ o.of;
              stands = rw e.2 g.stands;
              long = l ∙ o.long;
              same = same_here ∙ g.same ∙ ap (λ (k : ℕ). remaining log k (load s')) (sym e.2);
            }
