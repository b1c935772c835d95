-- The simulator's definition gives the answers of tests/yard, the paper's whole case among them.
-- Assumes nothing.
use mathlib.Core.Path.{◌≡◌, refl}
use Rattle.model_laws.specs.Opened.{open_parties, open_simulator}
use Rattle.model_cases.specs.Schedules.{lines_answers, lines_schedule, move_answers, move_schedule, paper_answers, paper_schedule, parts_answers, parts_schedule, repeat_answers, repeat_schedule, reply_answers, reply_schedule}
use Rattle.model.specs.Simulator.{answers_of}

pub paper_case : answers_of paper_schedule ≡ paper_answers
unfolding open_parties open_simulator paper_schedule paper_answers
paper_case = refl

pub lines_case : answers_of lines_schedule ≡ lines_answers
unfolding open_parties open_simulator lines_schedule lines_answers
lines_case = refl

pub move_case : answers_of move_schedule ≡ move_answers
unfolding open_parties open_simulator move_schedule move_answers
move_case = refl

pub parts_case : answers_of parts_schedule ≡ parts_answers
unfolding open_parties open_simulator parts_schedule parts_answers
parts_case = refl

pub repeat_case : answers_of repeat_schedule ≡ repeat_answers
unfolding open_parties open_simulator repeat_schedule repeat_answers
repeat_case = refl

pub reply_case : answers_of reply_schedule ≡ reply_answers
unfolding open_parties open_simulator reply_schedule reply_answers
reply_case = refl
