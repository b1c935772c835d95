-- What a call leaves of the packets, as its definition says.
--     packet-part                    a row's packet by the part that the code lends
--     told_by, made_by_lem               a server's call that wrote nothing, or a packet
--     told-sent, made-sent           a client's issue or resend that was refused, or made a request
-- Assumes nothing.
use Prim.Native.Nat.{ℕ, suc, ◌+◌, ◌-◌, ◌*◌, ◌≤◌}
use mathlib.Core.Path.{◌≡◌, refl, sym, ◌∙◌}
use mathlib.Core.List.{List, [], ◌∷◌, ◌++◌}
use native.Mathlib.Omega.{arith}
use native.Mathlib.Numerals.{add-one}
use lib.ListN.{length, take}
use borrow.Author.Tests.{eq-eqb, ne_eqb}
use borrow.Rule.Slice.PartMut.{mid_of, put_mid}
use Rattle.model.specs.declared.Answer.{Answer}
use Rattle.model.specs.declared.Request.{Request}
use Rattle.model.specs.declared.Refusal.{Refusal}
use Rattle.model.specs.Numbers.{half, le32, le32_at}
use Rattle.model.specs.Limits.{greatest_image}
use Rattle.model.specs.Tables.{written}
use Rattle.model.specs.Packets.{request_bytes}
use Rattle.model.specs.Clients.{send_number, sent_bytes}
use Rattle.model.specs.Simulator.{plain, answered}
use Rattle.model.specs.Refusals.{no_refusal, number_of}
use Rattle.refusals.proofs.Numbers.{number-some}
use Rattle.std.proofs.Common.{Result, Ok, Err}
use Rattle.model_laws.proofs.Written.{tail-back, written-append}
use Rattle.simulator_text.specs.Values.{reply_is}
use Rattle.simulator_memory.specs.declared.Made.{Made}
use Rattle.simulator_memory.specs.Store.{row_head, row_size, lesser_of, packet_in, put_in, packets_in, outcome_is, outcome_by, sent_outcome, Room, Next}
use Rattle.simulator_memory.proofs.Rows.{packets-put, length-packets}

pub packet-part : (s : List ℕ) (k : ℕ) {n l : ℕ} → n ≡ le32_at s (row_size * k) → l ≡ lesser_of n greatest_image
    → mid_of (row_size * k + row_head) (row_size * k + row_head + l - (row_size * k + row_head)) s ≡ packet_in s k
unfolding packet_in
packet-part s k {n} {l} p q =
    let e : row_size * k + row_head + l - (row_size * k + row_head) ≡ l = omega arith in
    rw (e, q, p) refl

-- the length's word, then the bytes behind it
pub put-part : (s : List ℕ) (k : ℕ) (b t u : List ℕ) → t ≡ written s (row_size * k) (le32 (length b))
    → u ≡ written (mid_of (row_size * k + row_head) (length t - (row_size * k + row_head)) t) 0 b
    → put_mid (row_size * k + row_head) (length t - (row_size * k + row_head)) t u ≡ put_in s k b
unfolding put_in
put-part s k b t u p q =
    rw q (tail-back (row_size * k + row_head) t b ∙ rw p (sym (written-append s (row_size * k) (le32 (length b)) b)))

pub told_by : (m : Made) (s : List ℕ) (n : ℕ) (a : Answer) (out : List ℕ) → m.count ≡ n → reply_is m.reply ≡ plain a.refusal → a.wrote ≡ 0
    → (outcome_is m s ≡ outcome_by (packets_in s n) a out) × Next n m.count
unfolding outcome_is outcome_by
told_by m s n a out p q e = (rw (p, q, eq-eqb a.wrote 0 e) refl, record { least = omega arith; most = omega arith })

-- the packet b was put into the next row
packets-next : (m : Made) (s t : List ℕ) (n : ℕ) (b : List ℕ) → Room s n → length b ≤ greatest_image → t ≡ put_in s n b → m.count ≡ n + 1
    → packets_in t m.count ≡ packets_in s n ++ (b ∷ [])
packets-next m s t n b r h e p = rw (e, p, add-one) (packets-put s n b r.rows h)

pub made_by_lem : (m : Made) (s t : List ℕ) (n : ℕ) (a : Answer) (out b : List ℕ) → Room s n → length b ≤ greatest_image → b ≡ take a.wrote out → t ≡ put_in s n b
    → m.count ≡ n + 1 → reply_is m.reply ≡ answered a.refusal (n + 1) half → (a.wrote ≡ 0 → ⊥)
    → (outcome_is m t ≡ outcome_by (packets_in s n) a out) × Next n m.count
unfolding outcome_is outcome_by
made_by_lem m s t n a out b r h f e p q w =
    let l : suc (length (packets_in s n)) ≡ n + 1 = omega (arith, length-packets s n) in (
      rw (packets-next m s t n b r h e p, q, ne_eqb a.wrote 0 w, l, f) refl,
      record { least = omega arith; most = omega arith },
    )

pub told-sent : (m : Made) (s : List ℕ) (n : ℕ) (a : Result Request Refusal) {e : Refusal} {k : ℕ} → a ≡ Err e → k ≡ number_of e → m.count ≡ n → reply_is m.reply ≡ plain k
    → (outcome_is m s ≡ sent_outcome (packets_in s n) a) × Next n m.count
unfolding outcome_is sent_outcome send_number
told-sent m s n a {e} is numbered p q =
    (rw (is, p, q, numbered, ne_eqb (number_of e) no_refusal (number-some e)) refl, record { least = omega arith; most = omega arith })

short : (y : Request) → length (request_bytes y) ≤ greatest_image
unfolding request_bytes
short y = omega arith

pub made-sent : (m : Made) (s t : List ℕ) (n : ℕ) (a : Result Request Refusal) {x : Request} {b : List ℕ} → a ≡ Ok x → Room s n → b ≡ request_bytes x → t ≡ put_in s n b
    → m.count ≡ n + 1 → reply_is m.reply ≡ answered no_refusal (n + 1) half
    → (outcome_is m t ≡ sent_outcome (packets_in s n) a) × Next n m.count
unfolding outcome_is sent_outcome send_number sent_bytes
made-sent m s t n a {x} {b} d r f e p q =
    let l : suc (length (packets_in s n)) ≡ n + 1 = omega (arith, length-packets s n) in
    let h : length b ≤ greatest_image = rw f (short x) in (
      rw (packets-next m s t n b r h e p, q, d, l, f) refl,
      record { least = omega arith; most = omega arith },
    )
