-- The walk over the places of a client's open calls.
--     least_folded    the least open call, place after place
-- Assumes nothing.
use mathlib.Core.Path.{◌≡◌, refl}
use mathlib.Core.Bool.{◌&&◌}
use mathlib.Core.List.{List, [], ◌∷◌}
use Prim.Native.Nat.{ℕ}
use lib.Dec.{leb, ltb}
use Rattle.std.specs.List.{fold}
use Rattle.model.specs.declared.OpenCall.{OpenCall}
use Rattle.model.specs.Choice.{pick}
use Rattle.model.specs.Clients.{least_open}

pub least_folded : (n : ℕ) (ks : List OpenCall) → fold (λ least k. pick (leb 1 k.call && ltb k.call least) k.call least) n ks ≡ least_open n ks
unfolding least_open
least_folded n [] = refl
least_folded n (k ∷ ks) = least_folded (pick (leb 1 k.call && ltb k.call n) k.call n) ks
