-- Open calls of a well-formed client.
--     open_once               a call is open at one place only
--     open_below_lem, open_within    an open call is below next, and next is at most 16 over it
--     none_over               no call from next on is open
--     first_found             the first open call is next, where none is open, or is open
--     first-from              it is from 1
--     apart                   an open call and next stand at two places, while next is less than 16 over the first open one
--     issued-at, issued-keeps, issued_open, issued-only    the lookups after a new call: just it and those before, with their data
--     closed-off, closed-keeps, closed_open, closed-only   the lookups after a call is closed: just the others, with their data
-- Assumes nothing.
use mathlib.Core.Path.{◌≡◌, refl, sym, ◌∙◌, ap}
use mathlib.Core.Bool.{Bool, true, false}
use mathlib.Core.Logic.{◌⊎◌, inl, inr}
use Prim.Native.Nat.{ℕ, ◌+◌, ◌≤◌, ◌<◌}
use native.Mathlib.Omega.{arith}
use lib.Dec.{eqb}
use lib.ListN.{length, get_or, set}
use lib.Seq.{get_or-set_same, get_or-set_other}
use borrow.Author.Tests.{eqb-true, eqb-false}
use Rattle.model_laws.proofs.Least.{least-over, least-found, Found}
use Rattle.model_laws.proofs.Clients.{Open, not_open, place_under, open_from}
use Rattle.model.specs.declared.OpenCall.{OpenCall}
use Rattle.model.specs.declared.Client.{Client}
use Rattle.model.specs.Clients.{no_call, place_of, call_at, is_open, first_open, with_calls, with_call, closed}
use Rattle.model.specs.Limits.{call_window}
use Rattle.model_laws.specs.ClientForm.{WellFormed, call_in}

-- ---- a well-formed client

module _ {d : Client} (w : WellFormed d) where
  place_in : (c : ℕ) → place_of c < length d.calls
  place_in c = omega (arith, w.places, place_under c)

  pub open_once : (i j : ℕ) → i < call_window → j < call_window → 1 ≤ (call_in d i).call → (call_in d i).call ≡ (call_in d j).call → i ≡ j
  open_once i j h k p e = sym (w.placed i h p) ∙ ap place_of e ∙ w.placed j k (omega arith)

  pub open_below_lem : (c : ℕ) → Open d c → c < d.next
  unfolding call_at
  open_below_lem c o = let f = o.at in let h = w.below (place_of c) (place_under c) in omega arith

  pub open_within : (c : ℕ) → Open d c → d.next ≤ c + call_window
  open_within c o = let h = open_from d c o in omega (arith, w.window)

  pub none_over : (c : ℕ) → d.next ≤ c → is_open d c ≡ false
  none_over c h = not_open d c (λ o. let k = open_below_lem c o in omega arith)

  pub first-from : 1 ≤ first_open d
  unfolding first_open
  first-from = least-over 1 d.next d.calls w.started (λ i h p. p)

  pub first_found : (first_open d ≡ d.next) ⊎ Open d (first_open d)
  unfolding first_open call_at
  first_found = go (least-found d.next d.calls)
    where
      go : (first_open d ≡ d.next) ⊎ Found d.next d.calls → (first_open d ≡ d.next) ⊎ Open d (first_open d)
      go (inl e) = inl e
      go (inr f) =
          let s : place_of (first_open d) ≡ f.place = ap place_of f.is ∙ w.placed f.place (omega (arith, f.inside, w.places)) f.from in
          inr (record { from = omega (arith, f.is, f.from); at = ap (λ (i : ℕ). (call_in d i).call) s ∙ sym f.is })

  -- ---- a new call

  module _ (room : d.next < first_open d + call_window) (k : OpenCall) (new : k.call ≡ d.next) where
    pub apart : (c : ℕ) → Open d c → place_of c ≡ place_of k.call → ⊥
    unfolding place_of
    apart c o e = let f = open_from d c o in let b = open_below_lem c o in omega arith

    pub issued-at : call_at (with_call d k) d.next ≡ k
    unfolding call_at with_call with_calls
    issued-at = rw (← new) (get_or-set_same d.calls (place_of k.call) k no_call (place_in k.call))

    pub issued-keeps : (c : ℕ) → Open d c → call_at (with_call d k) c ≡ call_at d c
    unfolding call_at with_call with_calls
    issued-keeps c o = get_or-set_other d.calls (place_of k.call) (place_of c) k no_call (apart c o)

    pub issued-next : Open (with_call d k) d.next
    issued-next = record { from = w.started; at = ap (λ (x : OpenCall). x.call) issued-at ∙ new }

    pub issued_open : (c : ℕ) → Open d c → Open (with_call d k) c
    issued_open c o = record { from = o.from; at = ap (λ (x : OpenCall). x.call) (issued-keeps c o) ∙ o.at }

    pub issued-only : (c : ℕ) → Open (with_call d k) c → (c ≡ d.next) ⊎ Open d c
    unfolding call_at with_call with_calls
    issued-only c o = go (eqb (place_of c) (place_of k.call)) refl
      where
        go : (b : Bool) → eqb (place_of c) (place_of k.call) ≡ b → (c ≡ d.next) ⊎ Open d c
        go true e =
            let s = eqb-true _ _ e in
            let g = get_or-set_same d.calls (place_of k.call) k no_call (place_in k.call) in
            inl (sym o.at ∙ ap (λ (i : ℕ). (get_or (set d.calls (place_of k.call) k) i no_call).call) s ∙ ap (λ (x : OpenCall). x.call) g ∙ new)
        go false e =
            let g = get_or-set_other d.calls (place_of k.call) (place_of c) k no_call (eqb-false _ _ e) in
            inr (record { from = o.from; at = sym (ap (λ (x : OpenCall). x.call) g) ∙ o.at })

  -- ---- a call is closed

  module _ (c : ℕ) (o : Open d c) where
    pub two_apart : (e : ℕ) → Open d e → (e ≡ c → ⊥) → place_of e ≡ place_of c → ⊥
    unfolding call_at
    two_apart e p n s = n (sym p.at ∙ ap (λ (i : ℕ). (call_in d i).call) s ∙ o.at)

    pub closed-off : Open (closed d c) c → ⊥
    unfolding call_at closed with_calls
    closed-off p =
        let g = get_or-set_same d.calls (place_of c) no_call no_call (place_in c) in
        let z : ◌≡◌ {A = ℕ} c 0 = sym p.at ∙ ap (λ (x : OpenCall). x.call) g in
        omega (arith, p.from)

    pub closed-keeps : (e : ℕ) → Open d e → (e ≡ c → ⊥) → call_at (closed d c) e ≡ call_at d e
    unfolding call_at closed with_calls
    closed-keeps e p n = get_or-set_other d.calls (place_of c) (place_of e) no_call no_call (two_apart e p n)

    pub closed_open : (e : ℕ) → Open d e → (e ≡ c → ⊥) → Open (closed d c) e
    closed_open e p n = record { from = p.from; at = ap (λ (x : OpenCall). x.call) (closed-keeps e p n) ∙ p.at }

    pub closed-only : (e : ℕ) → Open (closed d c) e → Open d e
    unfolding call_at closed with_calls
    closed-only e p = go (eqb (place_of e) (place_of c)) refl
      where
        go : (b : Bool) → eqb (place_of e) (place_of c) ≡ b → Open d e
        go true q =
            let g = get_or-set_same d.calls (place_of c) no_call no_call (place_in c) in
            let z : ◌≡◌ {A = ℕ} e 0 = sym p.at ∙ ap (λ (i : ℕ). (get_or (set d.calls (place_of c) no_call) i no_call).call) (eqb-true _ _ q) ∙ ap (λ (x : OpenCall). x.call) g in
            absurd (omega (arith, p.from))
        go false q =
            let g = get_or-set_other d.calls (place_of c) (place_of e) no_call no_call (eqb-false _ _ q) in
            record { from = p.from; at = sym (ap (λ (x : OpenCall). x.call) g) ∙ p.at }
