-- Packets and images: the bytes made, and what they are for the protocol. A refusal packet, and whatever is malformed, tells nothing.
-- Assumes nothing.
use Rattle.std.specs.Prelude.{ℕ, ◌≤◌, List, Option, Some, None}
use Rattle.std.proofs.Math.Option.{Option as Maybe, none, some}
use Rattle.model.specs.declared.Packet.{Packet}
use Rattle.model.specs.declared.Packet.TheVariants.{Requested, Resulted, Refused, Receipted, Noticed, Granted}
use Rattle.model.specs.Limits.{last_point}
use Rattle.model.specs.Packets.{parse_packet}
use Rattle.model.specs.Images.{Image, parse_image}
use Rattle.model_laws.specs.Fits.{ResultFits, GrantFits}
use Rattle.model_invariants.specs.Sound.{GoodRequest, GoodNotice, GoodImage}
use Rattle.proof_protocol.specs.Servers as S
use Rattle.proof_protocol.specs.World.{asked_in}
use Rattle.proof_records.specs.Likeness.{result_of, ImageLike}

-- `Made p`: the protocol's packet p was made
module _ (Made : S.Packet → Type 0) where
  -- what a parsed packet is
  unfoldable pub Means : Option Packet → Type 0
  Means None = Unit
  Means (Some (Requested q)) = GoodRequest q × Made (S.request (asked_in q))
  Means (Some (Resulted r)) = ResultFits r × Made (S.answered (record { client = r.client; call = r.call }) r.point (result_of r.result))
  Means (Some (Refused r)) = Unit
  Means (Some (Receipted r)) = (r.point ≤ last_point) × Made (S.receipt r.point r.server r.move_number)
  Means (Some (Noticed n)) = GoodNotice n × Made (S.notice n.client n.time)
  Means (Some (Granted g)) = (1 ≤ g.client) × GrantFits g × Made (S.grant g.client g.lease)

  unfoldable pub ImageMeans : Maybe Image → Type 0
  ImageMeans none = Unit
  ImageMeans (some i) = GoodImage i × ((a : S.Image) × ImageLike i a × Made (S.image a))

  -- what the bytes b are, whoever reads them
  pub record PacketLike (b : List ℕ) : Type 0 where
    pub packet : Means (parse_packet b)
    pub image : ImageMeans (parse_image b)
