-- What is left to show of `state_image::write_image`.
use native.Mathlib.Omega.{arith}
use Rattle.state_image.proofs.Whole.{entries-most, headed, imaged, sized}
use borrow.Author.Rules.{rules}
use Rattle.state_image.proofs.write_image.Goals as goal

-- ---- the needs

pub overflow_cast-n : goal.overflow_cast-n
overflow_cast-n c =
    omega (arith, entries-most c.args.point c.args.s.now c.requires.0 c.write_entries-n.ensures.1)

pub write_head-requires : goal.write_head-requires
write_head-requires c =
    let made = headed c.args.point c.args.s.now c.requires.0 c.head_for-h.ensures in
    (search rules, made.0, made.1, made.2)

pub overflow_mul-result : goal.overflow_mul-result
overflow_mul-result c =
    omega (arith, entries-most c.args.point c.args.s.now c.requires.0 c.write_entries-n.ensures.1)

pub overflow_add-result : goal.overflow_add-result
overflow_add-result c =
    rw c.entries_start-at.ensures
    (omega (
      arith,
      c.requires.0.few_clients,
      c.clients_in-floors.ensures,
      entries-most c.args.point c.args.s.now
          c.requires.0 c.write_entries-n.ensures.1,
    ))

pub returns : goal.returns
returns c =
    let a = c.args in (
      imaged a.point a.s.now c.clients_in-floors.ensures a.out.now c.write_floors.ensures c.entries_start-at.ensures
          c.write_entries-n.ensures.0 c.head_for-h.ensures c.write_head.ensures,
      sized a.point a.s.now c.clients_in-floors.ensures c.write_entries-n.ensures.1 c.entries_start-at.ensures,
    )
