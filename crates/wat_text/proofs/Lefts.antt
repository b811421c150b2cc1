-- The tokens that are left, without addresses, by the tokens of the code: the next ones, and those after the next one.
use Rattle.std.proofs.Common.{◌≡◌, ◌∙◌, ℕ, zero, suc, ◌+◌, ◌-◌, ◌<◌, ◌≤◌, List, [], ◌∷◌, length, map, drop, get_or, None, Some, refl, sym, ap, arith, add-one}
use Rattle.wast_base.specs.declared.ids.Span.{Span}
use Rattle.wat_tokens.specs.declared.tokens.Placed.{Placed}
use Rattle.wat_syntax.specs.Tokens.{Toks, first, position_in, after_first}
use Rattle.wat_syntax.specs.Bare.{bare_token, bare_placed}
use Rattle.wat_text.specs.Readers.{left_of}

-- the token after so many others
pub peeked : (at ahead k : ℕ) (found : List Placed) (p : Placed) → k ≡ at + ahead → k < length found → p ≡ get_or found k p
    → Some (bare_token p.token) ≡ first (drop ahead (drop at (map bare_placed found)))
peeked at ahead k [] p e few h = absurd (omega (arith, few))
peeked zero zero zero (x ∷ xs) p e few h = ap (λ (q : Placed). Some (bare_token q.token)) h
peeked zero zero (suc k) (x ∷ xs) p e few h = absurd (omega (arith, e))
peeked zero (suc ahead) zero (x ∷ xs) p e few h = absurd (omega (arith, e))
peeked zero (suc ahead) (suc k) (x ∷ xs) p e few h = peeked zero ahead k xs p (omega (arith, e)) (omega (arith, few)) h
peeked (suc at) ahead zero (x ∷ xs) p e few h = absurd (omega (arith, e))
peeked (suc at) ahead (suc k) (x ∷ xs) p e few h = peeked at ahead k xs p (omega (arith, e)) (omega (arith, few)) h

pub none_peeked : (at ahead : ℕ) (found : List Placed) → length found ≤ at + ahead → first (drop ahead (drop at (map bare_placed found))) ≡ None
none_peeked zero zero [] h = refl
none_peeked zero (suc ahead) [] h = refl
none_peeked (suc at) zero [] h = refl
none_peeked (suc at) (suc ahead) [] h = refl
none_peeked zero zero (x ∷ xs) h = absurd (omega (arith, h))
none_peeked zero (suc ahead) (x ∷ xs) h = none_peeked zero ahead xs (omega (arith, h))
none_peeked (suc at) ahead (x ∷ xs) h = none_peeked at ahead xs (omega (arith, h))

-- the position of the next token
pub placed : (at : ℕ) (found : List Placed) (end : Span) (p : Placed) → at < length found → p ≡ get_or found at p
    → p.span ≡ position_in (drop at (map bare_placed found)) end
placed at [] end p few h = absurd (omega (arith, few))
placed zero (x ∷ xs) end p few h = ap (λ (q : Placed). q.span) h
placed (suc at) (x ∷ xs) end p few h = placed at xs end p (omega (arith, few)) h

pub none_placed : (at : ℕ) (found : List Placed) (end : Span) → length found ≤ at → position_in (drop at (map bare_placed found)) end ≡ end
none_placed zero [] end h = refl
none_placed (suc at) [] end h = refl
none_placed zero (x ∷ xs) end h = absurd (omega (arith, h))
none_placed (suc at) (x ∷ xs) end h = none_placed at xs end (omega (arith, h))

-- how many tokens are left
pub counted : (at : ℕ) (found : List Placed) → length (drop at (map bare_placed found)) ≡ length found - at
counted zero [] = refl
counted (suc at) [] = omega arith
counted zero (x ∷ xs) = omega (arith, counted zero xs)
counted (suc at) (x ∷ xs) = omega (arith, counted at xs)

-- the tokens that are left after one more token is read
pub skipped : (n : ℕ) (found : List Placed) (end : Span) → n < length found
    → left_of (n + 1) (map bare_placed found) end ≡ after_first (drop n (map bare_placed found)) (left_of n (map bare_placed found) end)
skipped n found end few =
    let xs = map bare_placed found in
    let same : (n + 1) - 1 ≡ n = omega arith in
    ap (λ m. record { before = position_in (drop m xs) end; left = drop (n + 1) xs; end = end }) same
    ∙ ap (λ m. record { before = position_in (drop n xs) end; left = drop m xs; end = end }) (add-one n)
    ∙ moves n found few (left_of n xs end) refl
  where
    moves : (n : ℕ) (found : List Placed) → n < length found → (toks : Toks) → toks.end ≡ end
        → record {
          before = position_in (drop n (map bare_placed found)) end;
          left = drop (suc n) (map bare_placed found);
          end = end;
        } ≡ after_first (drop n (map bare_placed found)) toks
    moves n [] few toks e = absurd (omega (arith, few))
    moves zero (x ∷ xs) few toks e = ap (λ o. record { before = x.span; left = map bare_placed xs; end = o }) (sym e)
    moves (suc n) (x ∷ xs) few toks e = moves n xs (omega (arith, few)) toks e

-- no token is left
pub none_skipped : (n : ℕ) (found : List Placed) (end : Span) → length found ≤ n
    → left_of n (map bare_placed found) end ≡ after_first (drop n (map bare_placed found)) (left_of n (map bare_placed found) end)
none_skipped n found end all = stays n found all (left_of n (map bare_placed found) end)
  where
    stays : (n : ℕ) (found : List Placed) → length found ≤ n → (toks : Toks) → toks ≡ after_first (drop n (map bare_placed found)) toks
    stays zero [] h toks = refl
    stays (suc n) [] h toks = refl
    stays zero (x ∷ xs) h toks = absurd (omega (arith, h))
    stays (suc n) (x ∷ xs) h toks = stays n xs (omega (arith, h)) toks
