-- Lemmas about counts of the openers and closers in a list of effects.
use Rattle.std.proofs.Common.{◌≡◌, ℕ, zero, suc, ◌+◌, ◌≤◌, List, [], ◌∷◌, ◌++◌, true, take, arith, inl, inr, ◌⊎◌, refl}
use Rattle.std.proofs.lemmas.Bool.{cases_eq, and_parts, and_from, leb-true, le-leb}
use Rattle.wast_base.specs.Blocks.{BlockEffect, Opens, Closes, Stays, openers, closers, never_closed}

-- Each prefix of at most n effects has at most d more closers than openers.
abbrev pub Within : List BlockEffect → ℕ → ℕ → Type 0
Within ts d n = (k : ℕ) → k ≤ n → closers (take k ts) ≤ openers (take k ts) + d

up_to : (n k : ℕ) → k ≤ suc n → (k ≤ n) ⊎ (k ≡ suc n)
up_to n k le = elim (cases_eq k (suc n)) [ inl e ↦ inr e | inr e ↦ inl (omega arith) ]

pub never_within : (ts : List BlockEffect) (n : ℕ) → never_closed ts n ≡ true → Within ts 0 n
never_within ts zero h k le = let z : k ≡ 0 = omega arith in rw z (omega arith)
never_within ts (suc n) h k le =
    let parts = and_parts _ _ h in
    elim (up_to n k le) [
      | inl below ↦ never_within ts n parts.0 k below
      | inr here ↦ rw here (omega (arith, leb-true _ _ parts.1))
    ]

pub within_never : (ts : List BlockEffect) (n : ℕ) → Within ts 0 n → never_closed ts n ≡ true
within_never ts zero h = refl
within_never ts (suc n) h = and_from _ _ (within_never ts n (λ k le. h k (omega arith))) (le-leb _ _ (omega (arith, h (suc n) (omega arith))))

pub openers-append : (ts us : List BlockEffect) → openers (ts ++ us) ≡ openers ts + openers us
openers-append [] us = omega arith
openers-append (Opens l ∷ ts) us = omega (arith, openers-append ts us)
openers-append (Closes ∷ ts) us = openers-append ts us
openers-append (Stays ∷ ts) us = openers-append ts us
