-- The values of the code in the definitions' terms: numbers, lines, answers; and where a text falls apart.
-- Assumes nothing.
use Rattle.std.specs.Prelude.{ℕ, suc, ◌+◌, ◌≡◌, Bool, List, [], ◌∷◌, eqb, leb, length, take}
use Rattle.std.specs.Prelude as std
use Rattle.std.specs.Prelude.{Some, None}
use Rattle.std.proofs.Math.Option.{Option, none, some}
use Rattle.model.specs.Choice.{pick}
use Rattle.model.specs.Tables.{written}
use Rattle.model.specs.Simulator as simulator
use Rattle.model.specs.Simulator.{most_lines}
use Rattle.model.specs.Letters.{line_feed}
use Rattle.simulator_text.specs.declared.ServerLine.{ServerLine}
use Rattle.simulator_text.specs.declared.ServerLine.TheVariants.{Deliver, Sync, Cut, Give, Image, Receipt}
use Rattle.simulator_text.specs.declared.ClientLine.{ClientLine}
use Rattle.simulator_text.specs.declared.ClientLine.TheVariants.{Issue, Resend, Receive}
use Rattle.simulator_text.specs.declared.Line.{Line}
use Rattle.simulator_text.specs.declared.Line.TheVariants.{AtServer, AtClient}
use Rattle.simulator_text.specs.declared.Reply.{Reply}

abbrev pub number_is : std.Option ℕ → Option ℕ
number_is None = none
number_is (Some n) = some n

-- the numbers of a line: three, and an argument behind them
abbrev pub most_numbers : ℕ
most_numbers = 4

-- the first n of them, none where one could not be read
abbrev pub numbers_is : std.Option ℕ → List ℕ → Option (List ℕ)
numbers_is None ns = none
numbers_is (Some n) ns = some (take n ns)

abbrev pub server_line : ℕ → ServerLine → simulator.Line
server_line n (Deliver k) = simulator.deliver k n
server_line n Sync = simulator.sync n
server_line n (Cut k) = simulator.cut n k
server_line n (Give p d) = simulator.give n p d
server_line n (Image p) = simulator.image n p
server_line n (Receipt p) = simulator.receipt n p

abbrev pub client_line : ℕ → ClientLine → simulator.Line
client_line n (Issue op p a) = simulator.issue n op p a
client_line n (Resend c) = simulator.resend n c
client_line n (Receive k) = simulator.receive k n

abbrev pub line_is : std.Option Line → simulator.Line
line_is None = simulator.unreadable
line_is (Some (AtServer n l)) = server_line n l
line_is (Some (AtClient n l)) = client_line n l

abbrev pub reply_is : Reply → simulator.Reply
reply_is r = simulator.answered r.number r.made r.value

-- the place of the first byte x, the length where there is none
unfoldable pub first_of : ℕ → List ℕ → ℕ
first_of x [] = 0
first_of x (b ∷ s) = pick (eqb b x) 0 (suc (first_of x s))

-- the line feeds of a text
unfoldable pub line_feeds : List ℕ → ℕ
line_feeds [] = 0
line_feeds (b ∷ s) = pick (eqb b line_feed) (suc (line_feeds s)) (line_feeds s)

-- the text has as many line feeds as lines are read
unfoldable pub closed : List ℕ → Bool
closed t = leb most_lines (line_feeds t)

-- the text vs was put into p from a place on, which leaves q and the place behind it
pub record Put (p : List ℕ) (at : ℕ) (vs : List ℕ) (q : List ℕ) (next : ℕ) : Type 0 where
  pub text : q ≡ written p at vs
  pub behind : next ≡ at + length vs
