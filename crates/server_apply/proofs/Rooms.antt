-- An executed record finds room in the tables of a sound state, if the state that it leaves is sound.
--     room_of_lem
-- Assumes nothing.
use Prim.Native.Nat.{ℕ, ◌≤◌, max}
use mathlib.Core.Path.{◌≡◌, refl, ap}
use mathlib.Core.Bool.{Bool, true, false, ◌||◌, not}
use mathlib.Core.List.{List, [], ◌∷◌}
use native.Mathlib.Omega.{arith}
use lib.ListN.{length, length-append}
use lib.Dec.{eqb, leb}
use borrow.Author.Tests.{eqb-true, le-leb}
use Rattle.model.specs.declared.Executed.{Executed}
use Rattle.model.specs.declared.Floor.{Floor}
use Rattle.model.specs.declared.Completion.{Completion}
use Rattle.model.specs.Tables.{keep}
use Rattle.model.specs.Images.{floor_of}
use Rattle.model.specs.States.{State}
use Rattle.model.specs.Apply.{stays_over, completion, apply_executed}
use Rattle.model_laws.proofs.Tables.{keep_yes, all_every, all_map}
use Rattle.model_invariants.specs.Sound.{Sound, Tested, Windowed}
use Rattle.model_invariants.proofs.Floors.{raise-same}
use Rattle.server_apply.specs.Room.{floor_with, Room}
use Rattle.server_apply.proofs.Composed.{executed-stays}

-- a record in its client's window is not under the client's floor
windowed_over : (x : ℕ) (fs : List Floor) (r : Completion) → Windowed fs r → stays_over x (floor_of x fs) r ≡ true
unfolding stays_over
windowed_over x fs r w = go (eqb r.command.client x) refl
  where
    go : (b : Bool) → eqb r.command.client x ≡ b → (not b || leb (floor_of x fs) r.command.call) ≡ true
    go true e = rw (← eqb-true r.command.client x e) (le-leb (floor_of r.command.client fs) r.command.call w.low)
    go false e = refl

module _ (st : State) (x : Executed) (S : Sound st) (T : Tested x) (over : floor_of x.command.client st.floors ≤ x.command.call) where
  pub room_of_lem : (end : ℕ) → Sound (apply_executed x end st) → Room x st
  unfolding apply_executed
  room_of_lem end A =
      let floor : floor_with x st ≡ max (floor_of x.command.client st.floors) x.done = raise-same x.command.client x.done st.floors S.ascending in
      let call : floor_with x st ≤ x.command.call = omega (arith, floor, over, T.low) in
      let stays : Completion → Bool = stays_over x.command.client (floor_with x st) in
      let one = keep_yes stays st.records (completion x end) (executed-stays x end call) in
      record {
        clients = A.clients;
        call = call;
        records = omega (arith, A.count, ap length one, length-append (keep stays st.records) (completion x end ∷ []));
        floor = floor;
        over = all_every _ st.records (all_map (Windowed st.floors) _ (windowed_over x.command.client st.floors) st.records S.windows);
      }
