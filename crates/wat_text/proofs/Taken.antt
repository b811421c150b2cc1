-- Whether all tokens are taken, by how many are left.
use Rattle.std.proofs.Common.{◌≡◌, ℕ, ◌<◌, ◌≤◌, List, [], ◌∷◌, length, None, Some, refl, arith}
use Rattle.wat_tokens.specs.declared.tokens.Placed.{Placed}
use Rattle.wat_syntax.specs.Tokens.{Toks, count}
use Rattle.wat_text.specs.Denotes.{taken_in, all_taken}

none_in : (xs : List Placed) (toks : Toks) → length xs ≤ 0 → taken_in xs toks ≡ Some toks
none_in [] toks h = refl
none_in (x ∷ xs) toks h = absurd (omega (arith, h))

some_in : (xs : List Placed) (toks : Toks) → 0 < length xs → taken_in xs toks ≡ None
some_in [] toks h = absurd (omega (arith, h))
some_in (x ∷ xs) toks h = refl

pub none_left : (toks : Toks) (n : ℕ) → n ≡ count toks → n ≤ 0 → all_taken toks ≡ Some toks
unfolding count
none_left toks n e h = none_in toks.left toks (omega (arith, e, h))

pub some_left : (toks : Toks) (n : ℕ) → n ≡ count toks → 0 < n → all_taken toks ≡ None
unfolding count
some_left toks n e h = some_in toks.left toks (omega (arith, e, h))
