-- The run of a schedule's text: one line, all lines, and the text of the answers in a lent slice.
-- Assumes nothing.
use Rattle.std.specs.Prelude.{ℕ, ◌+◌, ◌*◌, ◌≤◌, ◌≡◌, List, ltb, length, take, drop}
use Rattle.model.specs.declared.Answer.{Answer}
use Rattle.model.specs.Choice.{pick}
use Rattle.model.specs.Refusals.{too_short, no_refusal}
use Rattle.model.specs.Limits.{state_size}
use Rattle.model.specs.States.{state_end}
use Rattle.model.specs.Tables.{written}
use Rattle.model.specs.Operations.{answer_of}
use Rattle.model.specs.Simulator.{Simulator, step, most_lines, simulator_log, ran, run_lines, line_of, lines_of, reply_text, replies_text, answers_of}
use Rattle.model.specs.Letters.{line_feed, reply_room}
use Rattle.simulator_text.specs.Values.{reply_is, first_of, Put}
use Rattle.simulator_memory.specs.Store.{row_size, Next}
use Rattle.simulator.specs.declared.Turn.{Turn}

-- the place behind a line that ends at e, in a text of n bytes
abbrev pub next_place : ℕ → ℕ → ℕ
next_place e n = pick (ltb e n) (e + 1) n

-- one line of a text was run: y, page and count before it, z and q after it
pub record Turned (text : List ℕ) (at k n : ℕ) (y : Simulator) (page : List ℕ) (count : ℕ) (r : Turn) (z : Simulator) (q : List ℕ) : Type 0 where
  pub ran : step z (reply_is r.reply) ≡ ran y (line_of (take (first_of line_feed (drop at text)) (drop at text)))
  pub next : r.at ≡ next_place (at + first_of line_feed (drop at text)) (length text)
  pub put : Put page n (reply_text k (reply_is r.reply)) q r.n
  pub packets : Next count r.memory.count

-- the memory that a run asks: two whole states, a row for each line, a page for the answers, and no packet made
pub record Space (page s0 s1 store : List ℕ) (count : ℕ) : Type 0 where
  pub pages : reply_room * most_lines ≤ length page
  pub first : state_end ≤ length s0
  pub second : state_end ≤ length s1
  pub rows : row_size * most_lines ≤ length store
  pub none : count ≡ 0

-- the memory that a new simulator asks, and its run
pub record Fresh (page s0 l0 s1 l1 store : List ℕ) : Type 0 where
  pub pages : reply_room * most_lines ≤ length page
  pub first : length s0 ≡ state_size
  pub log0 : length l0 ≡ simulator_log
  pub second : length s1 ≡ state_size
  pub log1 : length l1 ≡ simulator_log
  pub rows : row_size * most_lines ≤ length store

-- the page's first n bytes are the answers of the text, run from y
pub record Printed (text : List ℕ) (y : Simulator) (page : List ℕ) (n : ℕ) : Type 0 where
  pub same : take n page ≡ replies_text 1 (run_lines y (lines_of text))
  pub most : n ≤ reply_room * most_lines

pub record Simulated : Type 0 where
  pub answer : Answer
  pub out : List ℕ

abbrev pub simulated : Answer → List ℕ → Simulated
simulated a o = record { answer = a; out = o }

-- n bytes of a text into an output: 2 they do not fit, and it is kept; else they stand at its front
unfoldable pub handed : List ℕ → ℕ → List ℕ → Simulated
handed out n t = pick (ltb (length out) n) (simulated (answer_of too_short 0) out) (simulated (answer_of no_refusal n) (written out 0 t))

-- the answers of a schedule's text
unfoldable pub simulate_of : List ℕ → List ℕ → Simulated
simulate_of t out = handed out (length (answers_of t)) (answers_of t)
