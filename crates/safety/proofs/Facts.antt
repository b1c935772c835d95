-- What is known of a running server's log and state.
--     take-front                    a prefix past the first of two lists
--     local-from                    a place of the log, counted from the founding
--     holds-sound                   the state in the buffer is sound
--     holds-size                    the recorded length is the log's
--     holds-log                     the log is the bytes of its entries
--     holds-mark                    the sync mark lies between the head and the log's length
--     held                          buffers that open with such a state and such a log, the log up to its recorded length
-- Assumes nothing.
use Prim.Native.Nat.{ℕ, ◌+◌, ◌-◌, ◌≤◌}
use mathlib.Core.Path.{◌≡◌, sym, ap, ◌∙◌}
use mathlib.Core.List.{List, ◌++◌}
use native.Mathlib.Omega.{arith}
use lib.ListN.{length, take, length-take}
use borrow.Author.Tests.{ne_eqb}
use lib.Seq.{take-append-add, take-append-le, take_all, take-take}
use Rattle.model.specs.Limits.{head_size, state_size}
use Rattle.model.specs.Logs.{Entry, head_bytes, entries_bytes}
use Rattle.model.specs.States.{State, load, state_end}
use Rattle.model_laws.specs.Bytes.{Bytes}
use Rattle.model_laws.specs.Fits.{last_end}
use Rattle.model_laws.proofs.Numbers.{bytes-append}
use Rattle.model_laws.proofs.Logs.{log-length}
use Rattle.model_invariants.specs.Sound.{Sound}
use Rattle.model_invariants.specs.History.{Start}
use Rattle.model_invariants.specs.Placed.{local}
use Rattle.model_invariants.specs.Calls as Limits
use Rattle.model_invariants.proofs.Crash.{replay-end, decided-from}
use Rattle.model_invariants.proofs.Loaded.{loaded_sound}
use Rattle.model_invariants.proofs.Running.{part-load, holds-part}
use Rattle.model_invariants.proofs.Running as Running
use Rattle.safety.specs.Holds.{Holds}

-- a prefix past the first of two lists
pub take-front : (k : ℕ) (us vs : List ℕ) → length us ≤ k → take k (us ++ vs) ≡ us ++ take (k - length us) vs
take-front k us vs h =
    let e : k ≡ length us + (k - length us) = omega arith in
    ap (λ (x : ℕ). take x (us ++ vs)) e ∙ take-append-add us vs (k - length us)

-- a place behind what checkpoints replaced
pub local-from : (b e : ℕ) → b + head_size ≤ e → b + local b e ≡ e
unfolding local
local-from b e h = rw (ne_eqb e 0 (λ q. omega (arith, q, h))) (omega (arith, h))

module _ {start : State} {es : List Entry} {state log : List ℕ} (H : Holds start es state log) where
  pub holds-sound : Sound (load state)
  holds-sound = loaded_sound state H.bytes H.opens.sound

  pub holds-size : (load state).size ≡ length log
  holds-size = Running.holds-size H.from es state log H.opens ∙ replay-end H.from es ∙ sym H.end

  pub holds-log : log ≡ head_bytes start.server ++ entries_bytes es
  holds-log = sym (take_all (last_end head_size es) log (omega (arith, H.end))) ∙ H.opens.logged

  pub holds-mark : (head_size ≤ (load state).mark) × ((load state).mark ≤ length log)
  holds-mark = let S = holds-sound in (S.head, omega (arith, S.mark, holds-size))

-- the state buffer s and the log h at the front of longer ones
pub held : {start : State} {es : List Entry} → Start start → (s rest h tail : List ℕ) → Limits.Holds start es s h → Bytes s → Bytes rest → state_end ≤ length s
    → state_size ≤ length (s ++ rest) → Holds start es (s ++ rest) (take (load (s ++ rest)).size (h ++ tail)) × (load (s ++ rest) ≡ load s)
held {start} {es} from s rest h tail H b k n long =
    let p : take state_end (s ++ rest) ≡ take state_end s = take-append-le state_end s rest n in
    let loads = (part-load s (s ++ rest) b H.sound p).0 in
    let m : ℕ = last_end head_size es in
    let size : (load (s ++ rest)).size ≡ m = ap (λ (x : State). x.size) loads ∙ Running.holds-size from es s h H ∙ replay-end from es in
    let enough : m ≤ length h = omega (arith, ap length H.logged, length-take m h, log-length start.server es (decided-from from es H.decided)) in
    let back : take (load (s ++ rest)).size (h ++ tail) ≡ take m h = ap (λ (x : ℕ). take x (h ++ tail)) size ∙ take-append-le m h tail enough in (
      record {
        from = from;
        opens = holds-part start es s h (s ++ rest) (take (load (s ++ rest)).size (h ++ tail)) b H p (ap (take m) back ∙ take-take m m h (omega arith));
        bytes = bytes-append s rest b k;
        long = long;
        end = ap length back ∙ omega (arith, length-take m h);
      },
      loads,
    )
