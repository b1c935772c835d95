-- The event of each operation, spelled out: it runs the definition that the call's contract cites on what the server's last call left, and an operation
-- whose packet was not made does nothing.
--     spelled
-- Assumes nothing.
use Prim.Native.Nat.{ℕ}
use mathlib.Core.Path.{◌≡◌, refl}
use mathlib.Core.List.{List}
use mathlib.Core.Option.{Option, none, some}
use Rattle.model.specs.Choice.{or_else}
use Rattle.model.specs.Versions.{Versions}
use Rattle.model.specs.Operations.{After, answer_of, after, request_of, fetch_of, sync_of, notice_of, give_of, image_of, take_of, receipt_of, release_of}
use Rattle.model.specs.Checkpoints.{inspect_of}
use Rattle.model.specs.Calls.{Operation, request, fetch, sync, notice, give, image, take_in, receipt, release, handed, operated, inspect, inquired}
use Rattle.claim.specs.World.{World, Lent, call, inquire, packet, calls, calls_on, looked, step}

module _ (w : World) (c : ℕ) (l : Lent) where
  abbrev alone : (List ℕ → List ℕ → After) → World
  alone f = calls c l f (w.servers c) w

  -- on a packet or image made
  abbrev handing : Option (List ℕ) → (List ℕ → List ℕ → List ℕ → After) → World
  handing o f = or_else o w (λ b. alone (λ s g. f s g b))

  pub record Spelled : Type 0 where
    pub request : (v : Versions) (p : ℕ) → step w (call c (request v p) l) ≡ handing (packet w p) (λ s g b. request_of v s g b l.out)
    pub fetch : (v : Versions) (x n : ℕ) → step w (call c (fetch v x n) l) ≡ alone (λ s g. fetch_of v s g x n l.out)
    pub sync : (m : ℕ) → step w (call c (sync m) l) ≡ alone (λ s g. sync_of s g m)
    pub notice : (p : ℕ) → step w (call c (notice p) l) ≡ handing (packet w p) notice_of
    pub give : (p d : ℕ) → step w (call c (give p d) l) ≡ alone (λ s g. give_of s g p d)
    pub image : (v : Versions) (p : ℕ) → step w (call c (image v p) l) ≡ alone (λ s g. image_of v s g p l.out)
    pub take_in : (p : ℕ) → step w (call c (take_in p) l) ≡ handing (packet w p) take_of
    pub receipt : (p : ℕ) → step w (call c (receipt p) l) ≡ alone (λ s g. receipt_of s g p l.out)
    pub release : (p : ℕ) → step w (call c (release p) l) ≡ handing (packet w p) release_of
    pub inspect : (k : List ℕ) (x n : ℕ) → step w (inquire c (inspect k x n) l) ≡ alone (λ s g. after (answer_of (inspect_of s k g x n).refusal 0) s g l.out)

  -- an operation on a packet, made or not
  on_packet_lem : (k : List ℕ → Operation) (f : List ℕ → List ℕ → List ℕ → After) → ((b : List ℕ) → calls_on c l (some (k b)) w ≡ alone (λ s g. f s g b)) → (o : Option (List ℕ))
      → calls_on c l (or_else o none (λ (b : List ℕ). some (k b))) w ≡ handing o f
  unfolding calls_on
  on_packet_lem k f h none = refl
  on_packet_lem k f h (some b) = h b

  pub spelled : Spelled
  unfolding step calls_on handed operated inquired looked
  spelled =
      record {
        request = λ v p. on_packet_lem (request v) (λ s g b. request_of v s g b l.out) (λ b. refl) (packet w p);
        fetch = λ v x n. refl;
        sync = λ m. refl;
        notice = λ p. on_packet_lem notice notice_of (λ b. refl) (packet w p);
        give = λ p d. refl;
        image = λ v p. refl;
        take_in = λ p. on_packet_lem take_in take_of (λ b. refl) (packet w p);
        receipt = λ p. refl;
        release = λ p. on_packet_lem release release_of (λ b. refl) (packet w p);
        inspect = λ k x n. refl;
      }
