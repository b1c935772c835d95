-- What a record that follows a sound state finds there, and leaves.
--     executed-place                the point of an executed record
--     executed-space                it has the space of its own form, in every form
--     executed-room                 the tables have room for it
--     ready_sound, ready_standing   the state that a record leaves is sound; so its buffer stands again
-- Assumes nothing.
use Prim.Native.Nat.{ℕ, ◌*◌, ◌≤◌, ◌<◌}
use mathlib.Core.Path.{◌≡◌, refl, sym, ap, ◌∙◌, subst}
use mathlib.Core.Bool.{Bool, true, false}
use mathlib.Core.List.{List}
use Rattle.model.specs.declared.Executed.{Executed}
use Rattle.model.specs.Limits.{last_point, executed_size}
use Rattle.model.specs.Numbers.{word}
use Rattle.model.specs.Logs.{LogRecord, executed, executed_size_of}
use Rattle.model.specs.States.{load}
use Rattle.model.specs.Apply.{apply_record}
use Rattle.model.specs.Decisions.{new_refusal, follows}
use Rattle.model.specs.Operations.{stored}
use Rattle.model_invariants.specs.Sound.{Sound, GoodExecuted}
use Rattle.model_invariants.proofs.Steps.{tested}
use Rattle.model_invariants.proofs.Tests.{fits_of, command-fits}
use Rattle.model_invariants.proofs.Kept.{executed-follows, follows-sound}
use Rattle.state_rows.proofs.Chains.{canonical-stored, load_stored}
use Rattle.server_apply.specs.Room.{Room}
use Rattle.server_apply.proofs.Rooms.{room_of_lem}
use Rattle.server_replay.specs.Standing.{Standing, Ready}

pub executed-place : (x : Executed) → GoodExecuted x → x.command.point ≤ last_point
executed-place x G = (command-fits x.command.op x.command.point x.command.argument (tested x G.ok).command).point

pub executed-space : (timed : Bool) (floor clients : ℕ)
    → new_refusal floor clients (executed_size_of timed) (executed_size_of timed) ≡ new_refusal floor clients executed_size executed_size
unfolding new_refusal executed_size_of
executed-space true floor clients = refl
executed-space false floor clients = refl

-- ---- the state that a record leaves

module _ (s : List ℕ) (r : LogRecord) (end : ℕ) (w : Ready s r end) (z : end < word * word) (f : true ≡ follows (load s) r) where
  pub ready_sound : Sound (apply_record r end (load s))
  ready_sound =
      subst (λ (k : ℕ). Sound (apply_record r k (load s))) (sym w.behind)
      (follows-sound (load s) r w.standing.sound w.good (sym f) (subst (λ (k : ℕ). k < word * word) w.behind z))

  pub ready_standing : {s' : List ℕ} → s' ≡ stored s (apply_record r end (load s)) → Standing s' × (load s' ≡ apply_record r end (load s))
  ready_standing {s'} e =
      let fits = fits_of (apply_record r end (load s)) ready_sound in
      let l : load s' ≡ apply_record r end (load s) = ap load e ∙ load_stored s w.standing.canonical.long (apply_record r end (load s)) fits in (
        record {
          canonical = rw e (canonical-stored s w.standing.canonical.long (apply_record r end (load s)) fits);
          sound = rw l ready_sound;
        },
        l,
      )

-- ---- room

pub executed-room : (s : List ℕ) (x : Executed) (end : ℕ) → Ready s (executed x) end → end < word * word → true ≡ follows (load s) (executed x) → Room x (load s)
unfolding apply_record
executed-room s x end w z f =
    room_of_lem (load s) x w.standing.sound (tested x w.good.ok) (executed-follows (load s) x (sym f)).0.over end (ready_sound s (executed x) end w z f)
