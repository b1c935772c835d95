-- What is left to show of `format_image_writer::write_head`.
use Rattle.format_image_writer.proofs.Runs.{head-written}
use Rattle.format_image_writer.proofs.write_head.Goals as goal

pub returns : goal.returns
returns c =
    rw (c.write_point.ensures, c.write_pairs.ensures, c.write_frame.ensures) (head-written c.args.out.now c.args.h c.requires.3)
