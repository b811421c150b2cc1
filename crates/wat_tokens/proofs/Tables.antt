-- Closes the look-up of a byte in a table of all bytes.
use Rattle.std.proofs.Common.{◌≡◌, ◌∙◌, ℕ, zero, suc, ◌+◌, ◌<◌, Bool, true, false, List, [], ◌∷◌, length, slice_index_or, refl, sym, ap, arith}
use Rattle.std.specs.Prelude.{◌&&◌}

abbrev same : Bool → Bool → Bool
same true b = b
same false true = false
same false false = true

same_is : (a b : Bool) → same a b ≡ true → a ≡ b
same_is true b h = sym h
same_is false true h = absurd cc
same_is false false h = refl

-- the table says of each number from n on whether it passes the test
abbrev pub tabled : (ℕ → Bool) → ℕ → List Bool → Bool
tabled is n [] = true
tabled is n (x ∷ xs) = same x (is n) && tabled is (suc n) xs

both : (a b : Bool) → a && b ≡ true → (a ≡ true) × (b ≡ true)
both true true h = (refl, refl)
both true false h = absurd cc
both false b h = absurd cc

pub in_table : (is : ℕ → Bool) (n i : ℕ) (xs : List Bool) → tabled is n xs ≡ true → i < length xs → slice_index_or xs i false ≡ is (n + i)
in_table is n i [] h below = absurd (omega arith)
in_table is n zero (x ∷ xs) h below = let p = both (same x (is n)) (tabled is (suc n) xs) h in same_is x (is n) p.0 ∙ ap is {x = n} {y = n + 0} (omega arith)
in_table is n (suc i) (x ∷ xs) h below = let p = both (same x (is n)) (tabled is (suc n) xs) h in
    in_table is (suc n) i xs p.1 (omega arith) ∙ ap is {x = suc n + i} {y = n + suc i} (omega arith)

pub whole_table : (is : ℕ → Bool) (i : ℕ) (xs : List Bool) → tabled is 0 xs ≡ true → length xs ≡ 256 → i < 256 → slice_index_or xs i false ≡ is i
whole_table is i xs h long below = in_table is 0 i xs h (omega (arith, long, below)) ∙ ap is {x = 0 + i} {y = i} (omega arith)
