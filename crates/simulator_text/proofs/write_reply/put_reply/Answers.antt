-- What is left to show of `simulator_text::write_reply::put_reply`.
use Rattle.simulator_text.proofs.Texts.{put_then, put_as, put-room, field_room_lem, length-signed, reply-parts}
use Prim.Native.Nat.{ℕ, ◌+◌, ◌*◌}
use native.Mathlib.Omega.{arith}
use Rattle.model.specs.Letters.{signed_room, field_room}
use Rattle.simulator_text.specs.Values.{reply_is}
use Rattle.simulator_text.proofs.write_reply.put_reply.Goals as goal

abbrev left1 : ℕ
left1 = 2 * field_room + signed_room + 1

abbrev left2 : ℕ
left2 = field_room + signed_room + 1

abbrev left3 : ℕ
left3 = signed_room + 1

pub put_field-j-requires : goal.put_field-j-requires
put_field-j-requires c =
    omega (arith, field_room_lem left1 c.args.number (omega (arith, c.requires)) c.put_field-i.ensures)

pub put_field-k-requires : goal.put_field-k-requires
put_field-k-requires c =
    let l = field_room_lem left1 c.args.number (omega (arith, c.requires)) c.put_field-i.ensures in
    omega (arith, field_room_lem left2 c.args.reply.number (omega (arith, l)) c.put_field-j.ensures)

pub put_signed-n-requires : goal.put_signed-n-requires
put_signed-n-requires c =
    let l = field_room_lem left1 c.args.number (omega (arith, c.requires)) c.put_field-i.ensures in
    let m = field_room_lem left2 c.args.reply.number (omega (arith, l)) c.put_field-j.ensures in
    omega (arith, field_room_lem left3 c.args.reply.made (omega (arith, m)) c.put_field-k.ensures)

pub put_byte-requires : goal.put_byte-requires
put_byte-requires c =
    let l = field_room_lem left1 c.args.number (omega (arith, c.requires)) c.put_field-i.ensures in
    let m = field_room_lem left2 c.args.reply.number (omega (arith, l)) c.put_field-j.ensures in
    let n = field_room_lem left3 c.args.reply.made (omega (arith, m)) c.put_field-k.ensures in
    omega (arith, put-room signed_room 1 (length-signed c.args.reply.value) (omega (arith, n)) c.put_signed-n.ensures)

pub returns : goal.returns
returns c =
    put_as (reply-parts c.args.number (reply_is c.args.reply))
    (put_then (put_then (put_then c.put_field-i.ensures c.put_field-j.ensures) c.put_field-k.ensures) (put_then c.put_signed-n.ensures c.put_byte.ensures))
