-- Worked cases of the dispatcher, computed by its definitions.
--     dispatcher-cases     calls one after another: what each answers, and who waits then
-- Assumes nothing.
use Prim.Native.Nat.{ℕ}
use mathlib.Core.Path.{◌≡◌, refl}
use mathlib.Core.List.{List, [], ◌∷◌, ◌++◌, map}
use lib.ListN.{drop, replicate}
use Rattle.model.specs.declared.Request.{Request}
use Rattle.model.specs.Numbers.{half}
use Rattle.model.specs.Limits.{set_op}
use Rattle.model.specs.Refusals.{no_refusal, malformed, too_short, clients_full, unknown, already_waiting}
use Rattle.model.specs.Versions.{today}
use Rattle.model.specs.Packets.{request_bytes, grant_bytes}
use Rattle.dispatch_claim.specs.declared.Dispatcher.{Dispatcher}
use Rattle.dispatch_claim.specs.Dispatcher.{places, no_request, no_waiting, waiting, enqueue_of, serve_of}
use Rattle.dispatch_claim.proofs.Opened.{open_dispatcher}

pub data Step : Type 0 where
  comes : ℕ → ℕ → Step  -- client, call: a set on point 5
  other : List ℕ → Step  -- a packet that is no request
  served : List ℕ → List ℕ → Step  -- state and output lent

abbrev pub asks : ℕ → ℕ → Request
asks x c = record { command = record { client = x; call = c; op = set_op; point = 5; argument = half }; done = c; lease = 600 }

-- the numbers answered, and behind them who waits then
unfoldable pub runs : Dispatcher → List Step → List ℕ
runs d [] = map (λ q. q.command.client) (waiting d)
runs d (comes x c ∷ ss) = let a = enqueue_of d (request_bytes (asks x c)) in a.number ∷ runs a.dispatcher ss
runs d (other p ∷ ss) = let a = enqueue_of d p in a.number ∷ runs a.dispatcher ss
runs d (served state out ∷ ss) = let a = serve_of today d state [] out in a.left.answer.refusal ∷ runs a.dispatcher ss

pub record Case : Type 0 where
  pub from : Dispatcher
  pub run : List Step
  pub wanted : List ℕ

unfoldable pub got : Case → List ℕ
got k = runs k.from k.run

unfoldable pub wanted_of : Case → List ℕ
wanted_of k = k.wanted

abbrev pub case : List Step → List ℕ → Case
case ss ns = record { from = no_waiting; run = ss; wanted = ns }

-- clients 1 to 32, a request each
abbrev pub everybody : List ℕ
everybody =
    1 ∷ 2 ∷ 3 ∷ 4 ∷ 5 ∷ 6 ∷ 7 ∷ 8 ∷ 9 ∷ 10 ∷ 11 ∷ 12 ∷ 13 ∷ 14 ∷ 15 ∷ 16
    ∷ 17 ∷ 18 ∷ 19 ∷ 20 ∷ 21 ∷ 22 ∷ 23 ∷ 24 ∷ 25 ∷ 26 ∷ 27 ∷ 28 ∷ 29 ∷ 30 ∷ 31 ∷ 32 ∷ []

abbrev pub all : List Step
all = map (λ x. comes x 1) everybody

abbrev pub grant : List ℕ
grant = grant_bytes (record { client = 7; lease = 600 })

-- no call made this one: far more count than places, and none is a request
abbrev pub odd : Dispatcher
odd = record { count = 4000000000; requests = replicate places no_request }

unfoldable pub cases : List Case
cases =
    -- nobody waits: 17 with a state of 0 bytes
    case (served [] [] ∷ []) (unknown ∷ [])
    -- a request is taken in; no packet, and another kind, is none
    ∷ case (comes 7 1 ∷ []) (no_refusal ∷ 7 ∷ [])
    ∷ case (other [] ∷ other grant ∷ []) (malformed ∷ malformed ∷ [])
    -- the same client waits already: with the same call, with another one
    ∷ case (comes 7 1 ∷ comes 7 1 ∷ comes 7 2 ∷ []) (no_refusal ∷ already_waiting ∷ already_waiting ∷ 7 ∷ [])
    -- 32 wait: 8 for another, 21 for one of them, 1 for no request
    ∷ case (all ++ (comes 33 1 ∷ comes 32 1 ∷ comes 1 2 ∷ other grant ∷ [])) (replicate places no_refusal ++ (clients_full ∷ already_waiting ∷ already_waiting ∷ malformed ∷ everybody))
    -- 31 wait: the 32nd has a place; one served, and there is one again, behind all others
    ∷ case (all ++ (served [] [] ∷ comes 33 1 ∷ comes 1 1 ∷ [])) (replicate places no_refusal ++ (too_short ∷ no_refusal ∷ clients_full ∷ drop 1 everybody ++ (33 ∷ [])))
    -- 2 with one waiting: its place is free, and the next one is served
    ∷ case (comes 7 1 ∷ comes 9 1 ∷ served [] [] ∷ []) (no_refusal ∷ no_refusal ∷ too_short ∷ 9 ∷ [])
    ∷ case (comes 7 1 ∷ comes 9 1 ∷ served [] [] ∷ served [] [] ∷ served [] [] ∷ []) (no_refusal ∷ no_refusal ∷ too_short ∷ too_short ∷ unknown ∷ [])
    -- first come first, whatever their numbers; who was served may wait again
    ∷ case (comes 9 1 ∷ comes 7 1 ∷ comes 8 1 ∷ served [] [] ∷ comes 9 1 ∷ []) (no_refusal ∷ no_refusal ∷ no_refusal ∷ too_short ∷ no_refusal ∷ 7 ∷ 8 ∷ 9 ∷ [])
    -- a count over 32 is read as 32
    ∷ record { from = odd; run = comes 7 1 ∷ []; wanted = clients_full ∷ replicate places 0 }
    ∷ record { from = odd; run = served [] [] ∷ comes 7 1 ∷ []; wanted = too_short ∷ no_refusal ∷ replicate 31 0 ++ (7 ∷ []) }
    ∷ []

pub dispatcher-cases : map got cases ≡ map wanted_of cases
unfolding open_dispatcher cases got wanted_of runs
dispatcher-cases = refl
