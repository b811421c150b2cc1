-- Numbers of at most so many bytes, by their first byte.
use Rattle.std.proofs.Common.{◌≡◌, ◌≢◌, ℕ, zero, suc, ◌+◌, ◌-◌, ◌*◌, ◌%◌, ◌<◌, ◌≤◌, true, false, nat_lt, List, [], ◌∷◌, None, Some, refl, ap, ◌∙◌, subst, arith}
use Rattle.wat.specs.Sections.{number_from, number_at, bound_of}

pub none : (most : ℕ) → number_at most [] ≡ None
none zero = refl
none (suc most) = refl

pub last : (most b : ℕ) (bs : List ℕ) → most ≢ 0 → nat_lt b 128 ≡ true → number_at most (b ∷ bs) ≡ Some (b, 1)
last zero b bs n e = absurd (n refl)
last (suc most) b bs n e = ap (λ t. number_from t b (number_at most bs)) e

before : (most : ℕ) (bs : List ℕ) → number_at most bs ≡ number_at (suc most - 1) bs
before most bs = let e : most ≡ suc most - 1 = omega arith in ap (λ m. number_at m bs) e

pub more : (most b n c : ℕ) (bs : List ℕ) → most ≢ 0 → nat_lt b 128 ≡ false → number_at (most - 1) bs ≡ Some (n, c)
    → number_at most (b ∷ bs) ≡ Some (b % 128 + 128 * n, 1 + c)
more zero b n c bs m e f = absurd (m refl)
more (suc most) b n c bs m e f = ap (λ t. number_from t b (number_at most bs)) e ∙ ap (number_from false b) (before most bs ∙ f)

pub no_more : (most b : ℕ) (bs : List ℕ) → most ≢ 0 → nat_lt b 128 ≡ false → number_at (most - 1) bs ≡ None → number_at most (b ∷ bs) ≡ None
no_more zero b bs m e f = absurd (m refl)
no_more (suc most) b bs m e f = ap (λ t. number_from t b (number_at most bs)) e ∙ ap (number_from false b) (before most bs ∙ f)

-- four bytes at most give a number below 2 to the 28th
pub bounded : (most n : ℕ) → most ≤ 4 → n < bound_of most → n < 268435456
bounded zero n h p = omega arith
bounded (suc zero) n h p = omega arith
bounded (suc (suc zero)) n h p = omega arith
bounded (suc (suc (suc zero))) n h p = omega arith
bounded (suc (suc (suc (suc zero)))) n h p = omega arith
bounded (suc (suc (suc (suc (suc most))))) n h p = absurd (omega arith)

at_least : (most : ℕ) → 1 ≤ bound_of most
at_least zero = omega arith
at_least (suc most) = let h = at_least most in omega arith

pub last_small : (most b : ℕ) → most ≢ 0 → b < 128 → b < bound_of most
last_small zero b m h = absurd (m refl)
last_small (suc most) b m h = let one = at_least most in omega arith

pub more_small : (most b n : ℕ) → most ≢ 0 → n < bound_of (most - 1) → b % 128 + 128 * n < bound_of most
more_small zero b n m h = absurd (m refl)
more_small (suc most) b n m h =
    let e : suc most - 1 ≡ most = omega arith in
    let low : n < bound_of most = subst (λ k. n < bound_of k) e h in
    omega arith
