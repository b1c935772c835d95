-- What a server's bytes hold while it runs, and what a crash keeps of them.
-- Assumes nothing.
use Rattle.std.specs.Prelude.{ℕ, ◌-◌, ◌≤◌, ◌≡◌, List, ◌++◌, length, take, leb}
use Rattle.model.specs.Limits.{state_size, head_size}
use Rattle.model.specs.Tables.{keep}
use Rattle.model.specs.Logs.{Entry, head_bytes, entries_bytes}
use Rattle.model.specs.States.{State}
use Rattle.model_laws.specs.Bytes.{Bytes}
use Rattle.model_laws.specs.Fits.{Incomplete, last_end}
use Rattle.model_invariants.specs.History.{Start, DecidedFrom}
use Rattle.model_invariants.specs.Calls as Limits

-- a server runs with the state buffer `state` and the log `log`, whose records from `start` on are es, and no more
pub record Holds (start : State) (es : List Entry) (state log : List ℕ) : Type 0 where
  pub from : Start start
  pub opens : Limits.Holds start es state log
  pub bytes : Bytes state
  pub long : state_size ≤ length state
  pub end : length log ≡ last_end head_size es

-- a crash kept the records es and a part of one more
pub record Kept (start : State) (es : List Entry) (kept : List ℕ) (mark : ℕ) : Type 0 where
  pub from : Start start
  pub rest : List ℕ
  pub incomplete : Incomplete rest
  pub logged : kept ≡ head_bytes start.server ++ (entries_bytes es ++ rest)
  pub decided : DecidedFrom start es
  pub head : head_size ≤ mark
  pub within : mark ≤ length kept

-- the entries that a cut at k keeps whole
abbrev pub kept_entries : ℕ → List Entry → List Entry
kept_entries k es = keep (λ e. leb e.end k) es

-- the bytes of entries from place p on and an incomplete record, cut at k: the entries kept and an incomplete record
pub record Cut (k p : ℕ) (es : List Entry) (tail : List ℕ) : Type 0 where
  pub rest : List ℕ
  pub incomplete : Incomplete rest
  pub split : take (k - p) (entries_bytes es ++ tail) ≡ entries_bytes (kept_entries k es) ++ rest
