-- The two servers of Forgetting break demand 3: no order explains their schedules, which keep every proviso, since the value at the holder is not
-- the sequential specification's.
--     crash-values             the value of point 5 after commands of which each is the set
--     values_broken            so the founding state at the holder is not explained
--     crash_provisos, not_explained     the server that recovers to the founding state
--     store_provisos, store_completed, store-recovers, checkpoint-not_explained     the one that forgets the checkpoint
-- Assumes nothing.
use Prim.Native.Nat.{ℕ, zero, suc}
use mathlib.Core.Bool.{true}
use mathlib.Core.Path.{◌≡◌, refl, sym, ap, ◌∙◌, subst}
use mathlib.Core.List.{List, [], ◌∷◌, Memᴰ}
use mathlib.Core.Logic.{◌↔◌}
use mathlib.Core.Option.{Option, none, some}
use native.Mathlib.Omega.{arith}
use lib.Dec.{lit<}
use lib.IntN.{pos}
use Rattle.std.specs.Prelude.{Ok, Some}
use Rattle.model.specs.declared.Command.{Command}
use Rattle.model.specs.declared.Request.{Request}
use Rattle.model.specs.declared.Packet.TheVariants.{Requested}
use Rattle.model.specs.declared.Received.TheVariants.{Completed}
use Rattle.model.specs.Numbers.{signed, flip, le32_at, signed_at, zeros3_at}
use Rattle.model.specs.Tables.{rows, bytes_of, every}
use Rattle.model.specs.Plan.{plan_entry_of, plan_entry_bytes, plan_of, plan_bytes, entry_at}
use Rattle.model.specs.Rules.{argument_range, in_arguments, argument_ok}
use Rattle.model.specs.Packets.{packet_length, id_ok, done_ok, command_ok, request_at, request_ok, request_bytes, result_bytes, whole, parse_request, parse_packet}
use Rattle.model.specs.Logs.{head_bytes, head_server}
use Rattle.model.specs.States.{State, point_at}
use Rattle.model.specs.Apply.{founded_point, founded}
use Rattle.model.specs.Versions.{Version, today}
use Rattle.model.specs.Sequential.{one, result_meant, OrderEntry, single, parts, values_with, marked_by, Marked, ReadingZ, Values, reading_meant, opened, values_after, entered, answer_z, after_z, rule_z, set_z, in_range_z, entry_z}
use Rattle.model.specs.Checkpoints.{rebased, checkpoint_magic_of, checkpoint_bytes, recovered_tail}
use Rattle.model.specs.Calls.{sync}
use Rattle.model.specs.Clients.{place_of, call_at, receive_of}
use Rattle.model.specs.Simulator.{simulator_plan}
use Rattle.model_laws.specs.Opened.{open_numbers, open_packets, open_clients}
use Rattle.claim.specs.World.{Event, call, outside, receive, nothing_stored, Server, nothing, crashed, empty_world, run}
use Rattle.claim.specs.Provisos.{At, Provisos}
use Rattle.claim.specs.Claim.{command_at, reading_at, Executes, SurvivesAt, Completes, SurvivesBy, HolderBy, ExplainedBy, Account, recovered_by, state_given, final_state}
use Rattle.proof_sanity.specs.Trace.{Call, Seen, call_seen, requests_only, asks_only, same_bytes, keeps_many, below, Ended, end_seen, Trace, trace_from, call_with, done}
use Rattle.proof_sanity.specs.Moved.{setting, setting_result, setting_asked, setting_answer, lent_all, asks, setter}
use Rattle.proof_sanity.specs.Forgetting.{founding_state, given_by, tail_only, counting, after_set, rows_after_set, set_state, set_and_crash, kept_whole, set_and_crash_seen, set_and_store, set_stored, set_and_store_seen}
use Rattle.proof_sanity.proofs.Traced.{call-at, end-at, down_of, provisos_kept, untouched, survives-seen, completes_seen, executes-only}
use Rattle.proof_sanity.proofs.Computed.{crash_trace_is, store_trace_is, kept-recovers, stored-recovers, head_alone}

parsed : parse_packet (request_bytes setting_asked) ≡ Some (Requested setting_asked)
unfolding flip le32_at signed_at zeros3_at packet_length argument_range in_arguments argument_ok id_ok done_ok command_ok request_at request_ok request_bytes whole parse_request parse_packet
parsed = refl

-- ---- the sequential specification

-- point 5 has the value 40; its quality is by the version of set's rule
abbrev IsSet : Values → Type 0
IsSet b = (b 5).value ≡ pos 40

entered-set : (b : Values) (v : Version) → IsSet (entered (plan_of simulator_plan) b (record { version = v; command = setting }))
unfolding simulator_plan rows bytes_of flip le32_at signed_at plan_entry_of plan_entry_bytes plan_of plan_bytes entry_at signed reading_meant entered answer_z after_z rule_z set_z in_range_z entry_z
entered-set b v = refl

entered-marked : (b : Values) (m : Marked) → m.command ≡ setting → IsSet (entered (plan_of simulator_plan) b m)
entered-marked b m e =
    subst (λ (k : Command). IsSet (entered (plan_of simulator_plan) b (record { version = m.version; command = k }))) (sym e) (entered-set b m.version)

-- every part of an entry is the command
abbrev Sets : OrderEntry → Type 0
Sets o = (m : Marked) → Memᴰ m (parts o) → m.command ≡ setting

with_set : (b : Values) (o : OrderEntry) → Sets o → IsSet (values_with (plan_of simulator_plan) b o)
unfolding values_with parts
with_set b (single m) h = entered-marked b m (h m (mathlib.Core.List.Memᴰ.head refl))

stays-set : (os : List OrderEntry) → ((o : OrderEntry) → Memᴰ o os → Sets o) → (b : Values) → IsSet b → IsSet (values_after (plan_of simulator_plan) b os)
unfolding values_after
stays-set [] h b e = e
stays-set (o ∷ os) h b e = stays-set os (λ x i. h x (mathlib.Core.List.Memᴰ.tail i)) (values_with (plan_of simulator_plan) b o) (with_set b o (h o (mathlib.Core.List.Memᴰ.head refl)))

first-set : (x : OrderEntry) (os : List OrderEntry) → ((o : OrderEntry) → Memᴰ o (x ∷ os) → Sets o) → (b : Values)
    → IsSet (values_after (plan_of simulator_plan) b (x ∷ os))
unfolding values_after
first-set x os h b = stays-set os (λ o j. h o (mathlib.Core.List.Memᴰ.tail j)) (values_with (plan_of simulator_plan) b x) (with_set b x (h x (mathlib.Core.List.Memᴰ.head refl)))

pub crash-values : {os : List OrderEntry} {o : OrderEntry} → Memᴰ o os → ((x : OrderEntry) → Memᴰ x os → Sets x) → (b : Values)
    → IsSet (values_after (plan_of simulator_plan) b os)
crash-values (mathlib.Core.List.Memᴰ.head {x = x} {xs = xs} e) h b = first-set x xs h b
crash-values (mathlib.Core.List.Memᴰ.tail {x = x} {xs = xs} i) h b = first-set x xs h b

-- ---- the holder

some_same : {A : Type 0} {a b : A} → some a ≡ some b → a ≡ b
some_same e = cc

at_home : (entry_at (plan_of simulator_plan) 5).home ≡ 0
unfolding simulator_plan rows bytes_of flip le32_at signed_at plan_entry_of plan_entry_bytes plan_of plan_bytes entry_at
at_home = refl

value-lost : (reading_meant (reading_at (point_at (founded (plan_of simulator_plan) 0) 5))).value ≡ pos 0
unfolding simulator_plan rows bytes_of flip le32_at signed_at plan_entry_of plan_entry_bytes plan_of plan_bytes reading_meant reading_at point_at founded founded_point signed
value-lost = refl

-- ---- schedules that begin with the set: `rs` and `x` are what is seen of the rest

module _ (es : List Event) (rs : List Seen) (x : Ended) (is : trace_from simulator_plan 5 empty_world (after_set es) ≡ record { rows = rows_after_set rs; end = x }) where
  abbrev seen : Trace
  seen = record { rows = rows_after_set rs; end = x }

  provisos : every (λ (r : Seen). r.ok) rs ≡ true → Provisos simulator_plan (after_set es)
  unfolding every
  provisos h = provisos_kept simulator_plan 5 (after_set es) seen is h

  -- event 4 executes the command, and it survives
  set-survives : every (keeps_many 0 40) rs ≡ true → SurvivesAt (after_set es) 4 (marked_by today setting)
  unfolding At call_seen call_with done every keeps_many
  set-survives h =
      survives-seen simulator_plan (after_set es) 5 seen is 4 0 1 8 40 today lent_all setting_asked refl parsed (call-at simulator_plan 5 (after_set es) seen is 4 (asks 0 1) _ refl refl)
      (ap (λ (y : Call). y.size) (call-at simulator_plan 5 (after_set es) seen is 5 (call 0 (sync 40) lent_all) _ refl refl)) h

  -- and no other is executed
  only-setting : every (asks_only (request_bytes setting_asked)) rs ≡ true → (n c : ℕ) (k : Marked) → Executes (after_set es) n c k → k.command ≡ setting
  unfolding every asks_only requests_only same_bytes request_bytes flip
  only-setting h n c k E =
      let b = executes-only simulator_plan (after_set es) 5 seen is (request_bytes setting_asked) h n c k E in
      let q : Some (Requested E.asked) ≡ Some (Requested setting_asked) = sym E.parsed ∙ ap parse_packet b ∙ parsed in
      let r : E.asked ≡ setting_asked = cc in
      ap (λ (y : Marked). y.command) (sym E.its) ∙ ap (λ (y : Request). y.command) r

  -- the server counts with the founding state, and there is no other
  module _ (given : Server → Option State) (none-given : given nothing ≡ none) (first : given ((run (after_set es)).servers 0) ≡ some (founded (plan_of simulator_plan) 0))
      (kept : every (keeps_many 0 40) rs ≡ true) (only : every (asks_only (request_bytes setting_asked)) rs ≡ true) (home : every (below 1) es ≡ true) where
    abbrev told : Account
    told = counting simulator_plan (after_set es) given

    no_other : (d : ℕ) (st : State) → told.final (suc d) ≡ some st → ⊥
    unfolding every below
    no_other d st q =
        let n : (run (after_set es)).servers (suc d) ≡ nothing = untouched (suc d) 1 (omega arith) (after_set es) home in
        let e : none ≡ some st = sym none-given ∙ ap given (sym n) ∙ q in
        let z : ◌≡◌ {A = ℕ} 0 1 = cc in
        omega arith

    founded-only : (d : ℕ) (st : State) → told.final d ≡ some st → founded (plan_of simulator_plan) 0 ≡ st
    founded-only zero st q = some_same (sym first ∙ q)
    founded-only (suc d) st q = absurd (no_other d st q)

    holder : HolderBy simulator_plan told 5 0 (founded (plan_of simulator_plan) 0)
    holder =
        record {
          founded = first;
          greatest = λ d other q. rw (sym (founded-only d other q)) (omega arith);
          taker = λ d other q z. rw (sym (founded-only d other q)) (omega arith);
          home = λ z. at_home;
        }

    -- whatever order has just the surviving commands: the value at the holder is not the order's
    pub values_broken : (order : List OrderEntry) → ((e : OrderEntry) → SurvivesBy simulator_plan told e ↔ Memᴰ e order)
        → reading_meant (reading_at (point_at (founded (plan_of simulator_plan) 0) 5)) ≡ values_after (plan_of simulator_plan) (opened (plan_of simulator_plan)) order 5 → ⊥
    unfolding reading_meant parts
    values_broken order s e =
        let m : Marked = marked_by today setting in
        let i : Memᴰ (single m) order = (s (single m)).0 (record { part = m; among = mathlib.Core.List.Memᴰ.head refl; at = 4; survives = set-survives kept }) in
        let h : (o : OrderEntry) → Memᴰ o order → Sets o = λ o j. own o ((s o).1 j) in
        let q : pos 0 ≡ pos 40 = sym value-lost ∙ ap (λ (y : ReadingZ). y.value) e ∙ crash-values i h (opened (plan_of simulator_plan)) in
        let z : ◌≡◌ {A = ℕ} 0 40 = cc in
        omega arith
      where
        own : (o : OrderEntry) → SurvivesBy simulator_plan told o → Sets o
        own (single n) S k (mathlib.Core.List.Memᴰ.head q) =
            let y = S.survives in
            let z : S.part ≡ n = sole S.among in
            ap (λ (y : Marked). y.command) (q ∙ sym z) ∙ only-setting only S.at y.server S.part y.executes
          where
            sole : {y : Marked} → Memᴰ y (n ∷ []) → y ≡ n
            sole (mathlib.Core.List.Memᴰ.head p) = p
            sole {y = y} (mathlib.Core.List.Memᴰ.tail m) = elim m [ ]
        own (single n) S k (mathlib.Core.List.Memᴰ.tail m) = elim m [ ]

    no_order : (order : List OrderEntry) → ExplainedBy simulator_plan told order → ⊥
    no_order order E = values_broken order E.survivors (E.values 5 0 (founded (plan_of simulator_plan) 0) (lit< tt) holder)

-- ---- recovery to the founding state

pub crash_provisos : Provisos simulator_plan set_and_crash
unfolding set_and_crash set_and_crash_seen every
crash_provisos = provisos _ _ _ crash_trace_is refl

pub not_explained : (order : List OrderEntry) → ExplainedBy simulator_plan (counting simulator_plan set_and_crash (given_by simulator_plan)) order → ⊥
unfolding set_and_crash set_and_crash_seen end_seen given_by founding_state recovered_by head_server head_bytes every keeps_many asks_only below
not_explained = no_order _ _ _ crash_trace_is (given_by simulator_plan) refl first refl refl refl
  where
    first : given_by simulator_plan ((run set_and_crash).servers 0) ≡ some (founded (plan_of simulator_plan) 0)
    first =
        let s = down_of 5 ((run set_and_crash).servers 0) nothing_stored kept_whole 40 (ap (λ (y : Ended). y.first) (end-at simulator_plan 5 set_and_crash set_and_crash_seen crash_trace_is)) in
        rw (s, kept-recovers)

-- ---- recovery that forgets the checkpoint

pub store_provisos : Provisos simulator_plan set_and_store
unfolding set_and_store set_and_store_seen every
store_provisos = provisos _ _ _ store_trace_is refl

received : (receive_of setter (result_bytes setting_answer)).answer ≡ Ok (Completed setting_answer)
unfolding open_numbers open_packets open_clients
received = refl

-- event 7 completes the command
pub store_completed : Completes set_and_store 7 (setting ∷ []) (one (result_meant setting_result))
unfolding At set_and_store set_and_store_seen command_at call_at place_of
store_completed =
    completes_seen simulator_plan set_and_store 7 1 2 setter setting_answer refl received
    (call-at simulator_plan 5 set_and_store set_and_store_seen store_trace_is 7 (outside (receive 1 2)) _ refl refl)

store-down : (run set_and_store).servers 0 ≡ crashed set_stored (head_bytes 0) 8
unfolding end_seen set_and_store_seen
store-down = down_of 5 ((run set_and_store).servers 0) set_stored (head_bytes 0) 8 (ap (λ (y : Ended). y.first) (end-at simulator_plan 5 set_and_store set_and_store_seen store_trace_is))

-- the true server recovers what it had
pub store-recovers : final_state simulator_plan set_and_store 0 ≡ some (rebased set_state)
unfolding final_state state_given recovered_by checkpoint_bytes checkpoint_magic_of recovered_tail
store-recovers = rw store-down stored-recovers

pub checkpoint-not_explained : (order : List OrderEntry) → ExplainedBy simulator_plan (counting simulator_plan set_and_store (tail_only simulator_plan)) order → ⊥
unfolding set_and_store set_and_store_seen tail_only every keeps_many asks_only requests_only below same_bytes request_bytes flip
checkpoint-not_explained = no_order _ _ _ store_trace_is (tail_only simulator_plan) refl first refl refl refl
  where
    first : tail_only simulator_plan ((run set_and_store).servers 0) ≡ some (founded (plan_of simulator_plan) 0)
    first = rw store-down head_alone
