-- The bytes of a state with its counts and its two tables apart, as code that changes them leaves them between two stores; and a state
-- with one field replaced.
-- Assumes nothing.
use Rattle.std.specs.Prelude.{ℕ, List, ◌++◌, set}
use Rattle.model.specs.declared.Floor.{Floor}
use Rattle.model.specs.declared.Point.{Point}
use Rattle.model.specs.declared.Completion.{Completion}
use Rattle.model.specs.Numbers.{le32, le64, quad}
use Rattle.model.specs.Tables.{bytes_of}
use Rattle.model.specs.Plan.{plan_bytes}
use Rattle.model.specs.States.{State, state_magic, point_bytes}

-- m clients and n completion records in the head
unfoldable pub head_with : State → ℕ → ℕ → List ℕ
head_with st m n =
    state_magic
    ++ (quad st.server 0 0 0
    ++ (le32 st.heard ++ (le32 m ++ (le32 n ++ (quad 0 0 0 0 ++ (le64 st.size ++ le64 st.mark))))))

-- and the bytes fs and rs for the two tables
unfoldable pub layout : State → ℕ → ℕ → List ℕ → List ℕ → List ℕ
layout st m n fs rs = head_with st m n ++ (plan_bytes st.plan ++ (bytes_of point_bytes st.points ++ (fs ++ rs)))

unfoldable pub with_heard : ℕ → State → State
with_heard t st =
    record { server = st.server; heard = t; size = st.size; mark = st.mark; plan = st.plan; points = st.points; floors = st.floors; records = st.records }

unfoldable pub with_size : ℕ → State → State
with_size n st =
    record { server = st.server; heard = st.heard; size = n; mark = st.mark; plan = st.plan; points = st.points; floors = st.floors; records = st.records }

unfoldable pub with_point : ℕ → Point → State → State
with_point p x st =
    record {
      server = st.server;
      heard = st.heard;
      size = st.size;
      mark = st.mark;
      plan = st.plan;
      points = set st.points p x;
      floors = st.floors;
      records = st.records;
    }

unfoldable pub with_floors : List Floor → State → State
with_floors fs st =
    record { server = st.server; heard = st.heard; size = st.size; mark = st.mark; plan = st.plan; points = st.points; floors = fs; records = st.records }

unfoldable pub with_records : List Completion → State → State
with_records rs st =
    record { server = st.server; heard = st.heard; size = st.size; mark = st.mark; plan = st.plan; points = st.points; floors = st.floors; records = rs }
