-- What is left to show of `format_image_reader::entries_in_range`.
use borrow.Author.Rules.{rules}
use borrow.Author.Tests.{tests}
use Rattle.model.specs.Images.{image_entry_of, entry_in_range}
use Rattle.format_numbers.proofs.Chains.{every_steps, all_walked}
use Rattle.format_image_reader.proofs.entries_in_range.Goals as goal

pub returns : goal.returns
returns c =
    let a = c.args in
    all_walked (every_steps (image_entry_of a.timed) a.width a.at (entry_in_range a.e) a.s.now a.entries) _ _ _ c.all.ensures.ran (cc) (λ i q k. search (rules, tests))
    (λ i q k. search (rules, tests))
