-- Declared supertypes, one step at a time.
use Rattle.std.proofs.Common.{◌≡◌, ℕ, zero, suc, ◌-◌, ◌+◌, ◌<◌, ◌≤◌, true, false, ◌||◌, eqb, Some, None, slice_get, refl, ap, sym, ◌∙◌, arith}
use Rattle.std.proofs.lemmas.Bool.{eq-eqb, ne_eqb}
use Rattle.wast_valid_machine.specs.Types.{Types, extends, parent_of}

pub extends_same : (ts : Types) (n i j : ℕ) → i ≡ j → true ≡ extends ts n (Some i) j
unfolding extends
extends_same ts zero i j h = sym (eq-eqb i j h)
extends_same ts (suc n) i j h = sym (ap (λ b. b || extends ts n (parent_of (slice_get ts i)) j) (eq-eqb i j h))

one_up : (ts : Types) (n i j : ℕ) → (i ≡ j → ⊥) → extends ts (suc n) (Some i) j ≡ extends ts n (parent_of (slice_get ts i)) j
unfolding extends
one_up ts n i j h = ap (λ b. b || extends ts n (parent_of (slice_get ts i)) j) (ne_eqb i j h)

at_top : (ts : Types) (n j : ℕ) → extends ts n None j ≡ false
unfolding extends
at_top ts zero j = refl
at_top ts (suc n) j = refl

pub extends_on : (ts : Types) (n steps i j p : ℕ) → steps < n → (i ≡ j → ⊥) → parent_of (slice_get ts i) ≡ Some p
    → extends ts (n - steps) (Some i) j ≡ extends ts (n - (steps + 1)) (Some p) j
extends_on ts n steps i j p lt h is =
    let e : n - steps ≡ suc (n - (steps + 1)) = omega (arith, lt) in
    ap (λ m. extends ts m (Some i) j) e ∙ (one_up ts (n - (steps + 1)) i j h ∙ ap (λ o. extends ts (n - (steps + 1)) o j) is)

pub extends_none : (ts : Types) (n steps i j : ℕ) → steps < n → (i ≡ j → ⊥) → parent_of (slice_get ts i) ≡ None
    → extends ts (n - steps) (Some i) j ≡ false
extends_none ts n steps i j lt h is =
    let e : n - steps ≡ suc (n - (steps + 1)) = omega (arith, lt) in
    ap (λ m. extends ts m (Some i) j) e ∙ (one_up ts (n - (steps + 1)) i j h ∙ (ap (λ o. extends ts (n - (steps + 1)) o j) is ∙ at_top ts (n - (steps + 1)) j))

pub extends_last : (ts : Types) (n steps i j : ℕ) → n ≤ steps → extends ts (n - steps) (Some i) j ≡ eqb i j
unfolding extends
extends_last ts n steps i j le =
    let e : n - steps ≡ 0 = omega (arith, le) in
    ap (λ m. extends ts m (Some i) j) e
