-- A line's step is its work at the party that it calls.
--     ran-server, ran-client     server or client 0 or 1
--     no_server, no_client_lem       no such one
-- Assumes nothing.
use Prim.Native.Nat.{ℕ, zero, suc, ◌≤◌}
use mathlib.Core.Path.{◌≡◌, refl, sym, ap, ◌∙◌, subst}
use mathlib.Core.Bool.{Bool, true, false}
use mathlib.Core.List.{List, [], ◌∷◌, ◌++◌}
use mathlib.Core.Option.{Option, none, some}
use Rattle.std.specs.Prelude.{Some, None}
use Rattle.std.proofs.lemmas.Option.{none-some, same_Some}
use native.Mathlib.Omega.{arith}
use lib.Dec.{eqb, ltb}
use borrow.Author.Tests.{le-ltb, ne_eqb}
use lib.ListN.{length, take}
use Rattle.model.specs.declared.Client.{Client}
use Rattle.model.specs.declared.SendAnswer.{SendAnswer}
use Rattle.model.specs.Choice.{pick}
use Rattle.model.specs.Numbers.{half}
use Rattle.model.specs.Refusals.{malformed, bad_mark, unknown, no_refusal}
use Rattle.model.specs.Operations.{After}
use Rattle.model.specs.States.{load}
use Rattle.model.specs.Clients.{send_number, sent_bytes}
use Rattle.model.specs.Simulator.{Simulator, Step, step, Server, plain, answered, server_of, client_of, with_server, with_client, with_packet, called, delivered, deliver_to, deliver_at, cut_at, cut_server, issued, received_at, receive_at, packet_at, known, ran, unreadable}
use Rattle.simulator_text.specs.declared.ServerLine.{ServerLine}
use Rattle.simulator_text.specs.declared.ServerLine.TheVariants.{Deliver, Sync, Cut, Give, Image, Receipt}
use Rattle.simulator_text.specs.declared.ClientLine.{ClientLine}
use Rattle.simulator_text.specs.declared.ClientLine.TheVariants.{Issue, Resend, Receive}
use Rattle.simulator_text.specs.Values.{server_line, client_line, reply_is}
use Rattle.simulator_memory.specs.Store.{numbered, packets_in, outside, Outcome, outcome, outcome_is, outcome_by, sent_outcome, Next}
use Rattle.simulator.specs.Served.{served, served_by, deliver_by, delivering}
use Rattle.simulator.specs.Server.{Cutting, cut_by, cutting, server_ran}
use Rattle.simulator.specs.Attended.{attended, sent_by, received_by, receiving, client_ran, attended_is}
use Rattle.simulator_memory.specs.declared.Made.{Made}
use Rattle.simulator_memory.specs.declared.ClientMade.{ClientMade}
use Rattle.simulator_memory.specs.declared.Memory.{Memory}
use Rattle.simulator.specs.Whole.{join_server, join_client, simulator_in, step_is}
use Rattle.simulator_memory.specs.declared.Stepped.{Stepped}
use Rattle.simulator_memory.specs.Steps.{server_stepped, client_in, client_stepped}

number_is_lem : (y : Simulator) (k : ℕ) → packet_at y k ≡ numbered y.packets k
unfolding packet_at numbered
number_is_lem y zero = refl
number_is_lem y (suc k) = refl

-- ---- servers

same-server : (y : Simulator) (n : ℕ) (r : Outcome) → r.packets ≡ y.packets → step y r.reply ≡ join_server y n (served (server_of y n).state (server_of y n).log r)
unfolding join_server server_of
same-server y n r e = go (eqb n 0)
  where
    go : (t : Bool) → step y r.reply ≡ step (record {
      server0 = pick t (record { state = (pick t y.server0 y.server1).state; log = (pick t y.server0 y.server1).log }) y.server0;
      server1 = pick t y.server1 (record { state = (pick t y.server0 y.server1).state; log = (pick t y.server0 y.server1).log });
      client0 = y.client0;
      client1 = y.client1;
      packets = r.packets;
    }) r.reply
    go true = rw e refl
    go false = rw e refl

called_join : (y : Simulator) (n : ℕ) (a : After) → called y n a ≡ join_server y n (served_by y.packets a)
unfolding called join_server served_by outcome_by with_server with_packet
called_join y n a = go (eqb a.answer.wrote 0)
  where
    go : (t : Bool) → pick t (step (with_server y n (record { state = a.state; log = a.log })) (plain a.answer.refusal))
        (step (with_packet (with_server y n (record { state = a.state; log = a.log })) (take a.answer.wrote a.out)) (answered a.answer.refusal (suc (length y.packets)) half))
        ≡ join_server y n (served a.state a.log (pick t (outcome y.packets (plain a.answer.refusal))
        (outcome (y.packets ++ (take a.answer.wrote a.out ∷ [])) (answered a.answer.refusal (suc (length y.packets)) half))))
    go true = refl
    go false = refl

deliver_join : (y : Simulator) (n : ℕ) (o : Option (List ℕ)) → deliver_at y n o ≡ join_server y n (delivering (server_of y n).state (server_of y n).log y.packets o)
unfolding deliver_at delivering deliver_to deliver_by
deliver_join y n none = same-server y n _ refl
deliver_join y n (some b) = go (delivered (server_of y n) b)
  where
    go : (x : Option After) → deliver_to y n x ≡ join_server y n (deliver_by (server_of y n).state (server_of y n).log y.packets x)
    go none = same-server y n _ refl
    go (some a) = called_join y n a

-- what is left of a server where the cut is refused, and after it
abbrev not_cut : Server → Cutting
not_cut s = record { state = s.state; reply = plain bad_mark }

abbrev after_cut : Server → ℕ → Cutting
after_cut s k = record { state = (cut_at s k).state; reply = plain (cut_at s k).answer.refusal }

cut_join : (y : Simulator) (n k : ℕ) → cut_server y n k ≡ join_server y n (cutting (server_of y n).state (server_of y n).log y.packets k)
unfolding cut_server cutting cut_by join_server with_server
cut_join y n k =
    go (outside (load (server_of y n).state).mark (load (server_of y n).state).size k)
  where
    left : Bool → Cutting
    left t = pick t (not_cut (server_of y n)) (after_cut (server_of y n) k)

    go : (t : Bool) → pick t (step y (plain bad_mark))
        (step (with_server y n (record { state = (cut_at (server_of y n) k).state; log = (server_of y n).log })) (plain (cut_at (server_of y n) k).answer.refusal))
        ≡ join_server y n (served (left t).state (server_of y n).log (outcome y.packets (left t).reply))
    go true = same-server y n (outcome y.packets (plain bad_mark)) refl
    go false = refl

known_yes : (n : ℕ) (y : Simulator) (s : Step) → ltb n 2 ≡ true → known n y s ≡ s
unfolding known
known_yes n y s e = subst (λ (t : Bool). elim t [ true ↦ s | false ↦ step y (plain malformed) ] ≡ s) (sym e) refl

known_no : (n : ℕ) (y : Simulator) (s : Step) → ltb n 2 ≡ false → known n y s ≡ step y (plain malformed)
unfolding known
known_no n y s e = subst (λ (t : Bool). elim t [ true ↦ s | false ↦ step y (plain malformed) ] ≡ step y (plain malformed)) (sym e) refl

pub ran-server : (y : Simulator) (n : ℕ) (l : ServerLine) → ltb n 2 ≡ true → ran y (server_line n l) ≡ join_server y n (server_ran (server_of y n).state (server_of y n).log y.packets l)
unfolding ran server_ran
ran-server y n (Deliver k) e = known_yes n y _ e ∙ ap (deliver_at y n) (number_is_lem y k) ∙ deliver_join y n (numbered y.packets k)
ran-server y n Sync e = known_yes n y _ e ∙ called_join y n _
ran-server y n (Cut k) e = known_yes n y _ e ∙ cut_join y n k
ran-server y n (Give p d) e = known_yes n y _ e ∙ called_join y n _
ran-server y n (Image p) e = known_yes n y _ e ∙ called_join y n _
ran-server y n (Receipt p) e = known_yes n y _ e ∙ called_join y n _

pub no_server : (y : Simulator) (n : ℕ) (l : ServerLine) → ltb n 2 ≡ false → ran y (server_line n l) ≡ step y (plain malformed)
unfolding ran
no_server y n (Deliver k) e = known_no n y _ e
no_server y n Sync e = known_no n y _ e
no_server y n (Cut k) e = known_no n y _ e
no_server y n (Give p d) e = known_no n y _ e
no_server y n (Image p) e = known_no n y _ e
no_server y n (Receipt p) e = known_no n y _ e

-- ---- clients

sent_join : (y : Simulator) (n : ℕ) (a : SendAnswer) → issued y n a ≡ join_client y n (sent_by y.packets a)
unfolding issued join_client sent_by sent_outcome with_client with_packet
sent_join y n a = go (eqb (send_number a.answer) no_refusal)
  where
    go : (t : Bool) → pick t (step (with_packet (with_client y n a.client) (sent_bytes a.answer)) (answered no_refusal (suc (length y.packets)) half))
        (step (with_client y n a.client) (plain (send_number a.answer)))
        ≡ join_client y n
        (attended a.client (pick t (outcome (y.packets ++ (sent_bytes a.answer ∷ [])) (answered no_refusal (suc (length y.packets)) half))
        (outcome y.packets (plain (send_number a.answer)))))
    go true = refl
    go false = refl

receive_join : (y : Simulator) (n : ℕ) (o : Option (List ℕ)) → receive_at y n o ≡ join_client y n (receiving (client_of y n) y.packets o)
unfolding receive_at receiving received_by received_at join_client with_client client_of
receive_join y n none = go (eqb n 0)
  where
    go : (t : Bool) → step y (plain unknown) ≡ step (record {
      server0 = y.server0;
      server1 = y.server1;
      client0 = pick t (pick t y.client0 y.client1) y.client0;
      client1 = pick t y.client1 (pick t y.client0 y.client1);
      packets = y.packets;
    }) (plain unknown)
    go true = refl
    go false = refl
receive_join y n (some b) = refl

pub ran-client : (y : Simulator) (n : ℕ) (l : ClientLine) → ltb n 2 ≡ true → ran y (client_line n l) ≡ join_client y n (client_ran (client_of y n) y.packets l)
unfolding ran client_ran
ran-client y n (Issue op p a) e = known_yes n y _ e ∙ sent_join y n _
ran-client y n (Resend c) e = known_yes n y _ e ∙ sent_join y n _
ran-client y n (Receive k) e = known_yes n y _ e ∙ ap (receive_at y n) (number_is_lem y k) ∙ receive_join y n (numbered y.packets k)

pub no_client_lem : (y : Simulator) (n : ℕ) (l : ClientLine) → ltb n 2 ≡ false → ran y (client_line n l) ≡ step y (plain malformed)
unfolding ran
no_client_lem y n (Issue op p a) e = known_no n y _ e
no_client_lem y n (Resend c) e = known_no n y _ e
no_client_lem y n (Receive k) e = known_no n y _ e

-- a client that there is, and one that there is not
no_third : (m : Memory) (n : ℕ) → 2 ≤ n → client_in m n ≡ None
no_third m n h = rw (ne_eqb n 0 (λ e. omega arith), ne_eqb n 1 (λ e. omega arith)) refl

client_below : (m : Memory) (n : ℕ) {d : Client} → client_in m n ≡ Some d → ltb n 2 ≡ true
client_below m zero e = refl
client_below m (suc zero) e = refl
client_below m (suc (suc n)) e = absurd (none-some _ (sym (no_third m (suc (suc n)) (omega arith)) ∙ e))

client_same : (m : Memory) (n : ℕ) {d : Client} → client_in m n ≡ Some d → pick (eqb n 0) m.client0 m.client1 ≡ d
client_same m zero e = same_Some _ _ e
client_same m (suc zero) e = same_Some _ _ e
client_same m (suc (suc n)) e = absurd (none-some _ (sym (no_third m (suc (suc n)) (omega arith)) ∙ e))

client_past : (m : Memory) (n : ℕ) → client_in m n ≡ None → ltb n 2 ≡ false
client_past m zero e = absurd (none-some _ (sym e))
client_past m (suc zero) e = absurd (none-some _ (sym e))
client_past m (suc (suc n)) e = le-ltb (suc (suc n)) 2 (omega arith)

-- ---- by the lent slices

module _ (s0 l0 s1 l1 store t : List ℕ) (m : Memory) (n : ℕ) where
  pub ran-at-client : {d : Client} (l : ClientLine) (a : ClientMade) → client_in m n ≡ Some d → attended_is a t ≡ client_ran d (packets_in store m.count) l
      → step_is (client_stepped m n a) s0 l0 s1 l1 t ≡ ran (simulator_in s0 l0 s1 l1 store m) (client_line n l)
  unfolding join_client client_of attended_is outcome_is
  ran-at-client {d} l a e p = sym (ran-client (simulator_in s0 l0 s1 l1 store m) n l (client_below m n e) ∙ rw (client_same m n e, ← p) refl)

  pub first-server : {v w : List ℕ} (l : ServerLine) (a : Made) → n ≡ 0 → served v w (outcome_is a t) ≡ server_ran s0 l0 (packets_in store m.count) l
      → step_is (server_stepped m a) v w s1 l1 t ≡ ran (simulator_in s0 l0 s1 l1 store m) (server_line n l)
  unfolding join_server server_of outcome_is
  first-server l a e p = sym (rw e (ran-server (simulator_in s0 l0 s1 l1 store m) 0 l refl ∙ rw (← p) refl))

  pub second-server : {v w : List ℕ} (l : ServerLine) (a : Made) → n ≡ 1 → served v w (outcome_is a t) ≡ server_ran s1 l1 (packets_in store m.count) l
      → step_is (server_stepped m a) s0 l0 v w t ≡ ran (simulator_in s0 l0 s1 l1 store m) (server_line n l)
  unfolding join_server server_of outcome_is
  second-server l a e p = sym (rw e (ran-server (simulator_in s0 l0 s1 l1 store m) 1 l refl ∙ rw (← p) refl))

  pub no_such_client : {r : Stepped} (l : ClientLine) → client_in m n ≡ None → r.memory ≡ m → reply_is r.reply ≡ plain malformed
      → step_is r s0 l0 s1 l1 store ≡ ran (simulator_in s0 l0 s1 l1 store m) (client_line n l)
  no_such_client {r} l e p q = sym (no_client_lem (simulator_in s0 l0 s1 l1 store m) n l (client_past m n e) ∙ rw (p, q) refl)

  pub no_such_server : (l : ServerLine) (a : Made) → (n ≡ 0 → ⊥) → (n ≡ 1 → ⊥) → a.count ≡ m.count → reply_is a.reply ≡ plain malformed
      → step_is (server_stepped m a) s0 l0 s1 l1 store ≡ ran (simulator_in s0 l0 s1 l1 store m) (server_line n l)
  no_such_server l a f g p q = sym (no_server (simulator_in s0 l0 s1 l1 store m) n l (le-ltb n 2 (omega arith)) ∙ rw (p, q) refl)

pub no_line : (s0 l0 s1 l1 store : List ℕ) (m : Memory) {r : Stepped} → r.memory ≡ m → reply_is r.reply ≡ plain malformed
    → step_is r s0 l0 s1 l1 store ≡ ran (simulator_in s0 l0 s1 l1 store m) unreadable
unfolding ran
no_line s0 l0 s1 l1 store m p q = rw (p, q) refl

pub same_memory : (r : Stepped) {m : Memory} → r.memory ≡ m → Next m.count r.memory.count
same_memory r e = let c = ap (λ (x : Memory). x.count) e in record { least = omega arith; most = omega arith }

pub same_count : {n k : ℕ} → k ≡ n → Next n k
same_count e = record { least = omega arith; most = omega arith }
