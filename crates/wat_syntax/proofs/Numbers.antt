-- A text that begins with no digit is no number.
use Rattle.std.proofs.Common.{◌≡◌, ◌∙◌, ℕ, Bool, true, false, List, [], ◌∷◌, ◌++◌, reverse, Option, None, Some, refl, ap, eqb-true, subst}
use Rattle.std.specs.Prelude.{◌==◌, ◌||◌, ◌^◌, nat_lt, if◌then◌else◌}
use Rattle.std.specs.Int.{is_in_range}
use Rattle.std.proofs.lemmas.List.{reverse-append}
use Rattle.wat_grammar.specs.Parts.{◌>>=◌, after}
use Rattle.wat_grammar.specs.Characters.{digit}
use Rattle.wat_grammar.specs.Integers.{backwards, num, natural, uN}
use Rattle.wat_syntax.specs.Values.{begins_number}

none_after : (o a : Option ℕ) (f : ℕ → ℕ → Option ℕ) → a ≡ None → (o >>= λ d. a >>= f d) ≡ None
none_after None a f h = refl
none_after (Some d) a f h = ap (λ b. b >>= f d) h

none_either : (b : Bool) (p q : Option ℕ) → p ≡ None → q ≡ None → elim b as (λ b. Option ℕ) [ true ↦ p | false ↦ q ] ≡ None
none_either true p q h k = h
none_either false p q h k = k

-- the first character is the last of those backwards
first_digit : (digit_of : ℕ → Option ℕ) (radix c : ℕ) → digit_of c ≡ None → (xs : List ℕ) → backwards digit_of radix (xs ++ c ∷ []) ≡ None
unfolding backwards
first_digit digit_of radix c none [] = none
first_digit digit_of radix c none (x ∷ []) = none_after (digit_of x) _ _ (none_either (c == 0x5f) _ _ refl none)
first_digit digit_of radix c none (x ∷ y ∷ xs) =
    none_after (digit_of x) _ _ (none_either (y == 0x5f) _ _ (first_digit digit_of radix c none xs) (first_digit digit_of radix c none (y ∷ xs)))

both_false : (a b : Bool) → (a || b) ≡ false → a ≡ false
both_false true b h = h
both_false false b h = refl

no_digit : (c : ℕ) → is_in_range 0x30 0x39 c ≡ false → digit c ≡ None
no_digit c h = rw (digit, h) refl

not_zero : (c : ℕ) → is_in_range 0x30 0x39 c ≡ false → (c == 0x30) ≡ false
not_zero c h = go (c == 0x30) refl
  where
    go : (b : Bool) → (c == 0x30) ≡ b → (c == 0x30) ≡ false
    go false e = e
    go true e = absurd (cc (subst (λ n. is_in_range 0x30 0x39 n ≡ false) (eqb-true c 0x30 e) h))

-- no number of any size
pub not_natural : (text : List ℕ) → begins_number text ≡ false → natural text ≡ None
unfolding backwards
not_natural [] h = refl
not_natural (c ∷ cs) h =
    let no = both_false (is_in_range 0x30 0x39 c) _ h in
    ap (λ b. elim (elim b as (λ b. Option (List ℕ)) [ true ↦ after (0x78 ∷ []) cs | false ↦ None ]) as (λ o. Option ℕ)
    [ Some digits ↦ Rattle.wat_grammar.specs.Integers.hexnum digits | None ↦ num (c ∷ cs) ]) (not_zero c no)
    ∙ ap (backwards digit 10) (reverse-append (c ∷ []) cs) ∙ first_digit digit 10 c (no_digit c no) (reverse cs)

pub not_unsigned : (N : ℕ) (text : List ℕ) → begins_number text ≡ false → uN N text ≡ None
not_unsigned N text h = ap (λ o. o >>= λ n. if nat_lt n (2 ^ N) then Some n else None) (not_natural text h)
