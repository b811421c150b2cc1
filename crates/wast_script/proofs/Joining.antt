-- The bytes of strings, one after another.
use Rattle.std.proofs.Common.{◌≡◌, ◌∙◌, ℕ, zero, suc, ◌+◌, ◌<◌, ◌≤◌, List, [], ◌∷◌, ◌++◌, length, map}
use Rattle.std.proofs.Common.{take, get_or, refl, sym, ap, arith, append_assoc, add-one, append-nil}
use Rattle.std.proofs.lemmas.List.{take_all}
use Rattle.wat_tokens.specs.declared.tokens.Token.{Token}
use Rattle.wat_tokens.specs.declared.tokens.Token.TheVariants as token
use Rattle.wat_tokens.specs.declared.tokens.Placed.{Placed}
use Rattle.wat_syntax.specs.Bare.{bare_token, bare_placed}
use Rattle.wast_script.specs.declared.values.Part.{Part}
use Rattle.wast_script.specs.Scripts.{part, string_bytes, joined_bytes}
use Rattle.wast_script.proofs.Parts.{part_mapped}

joined_more : (xs : List Placed) (i : ℕ) (d : Placed) → i < length xs
    → joined_bytes (take (i + 1) xs) ≡ joined_bytes (take i xs) ++ string_bytes (get_or xs i d).token
joined_more xs i d few = ap (λ n. joined_bytes (take n xs)) (add-one i) ∙ go xs i few
  where
    go : (xs : List Placed) (i : ℕ) → i < length xs → joined_bytes (take (suc i) xs) ≡ joined_bytes (take i xs) ++ string_bytes (get_or xs i d).token
    go [] i few = absurd (omega (arith, few))
    go (x ∷ xs) zero few = append-nil (string_bytes x.token)
    go (x ∷ xs) (suc i) few = ap (λ bs. string_bytes x.token ++ bs) (go xs i (omega (arith, few)))
        ∙ sym (append_assoc (string_bytes x.token) (joined_bytes (take i xs)) (string_bytes (get_or xs i d).token))

one_bare : (t : Token) → string_bytes (bare_token t) ≡ string_bytes t
one_bare (token.String bytes) = refl
one_bare t = refl

joined_bare : (xs : List Placed) → joined_bytes (map bare_placed xs) ≡ joined_bytes xs
joined_bare [] = refl
joined_bare (x ∷ xs) = λ i. one_bare x.token i ++ joined_bare xs i

-- The loop over strings begins with no bytes, adds those of the next one, and has all of them at its end.
pub joined_none : (xs : List Placed) → [] ≡ joined_bytes (take 0 xs)
joined_none xs = refl

pub joined_next : (xs : List Placed) (i : ℕ) (d : Placed) (before piece behind : List ℕ) → i < length xs → before ≡ joined_bytes (take i xs)
    → piece ≡ string_bytes (get_or xs i d).token → behind ≡ before ++ piece → behind ≡ joined_bytes (take (i + 1) xs)
joined_next xs i d before piece behind few was one now = now ∙ (λ k. was k ++ one k) ∙ sym (joined_more xs i d few)

pub joined_all : (tokens strings : List Placed) (p : Part) (i : ℕ) (bytes : List ℕ)
    → strings ≡ part p tokens → length strings ≤ i → bytes ≡ joined_bytes (take i strings)
    → bytes ≡ joined_bytes (part p (map bare_placed tokens))
joined_all tokens strings p i bytes same all was =
    was ∙ ap joined_bytes (take_all i strings all ∙ same) ∙ sym (joined_bare (part p tokens)) ∙ ap joined_bytes (sym (part_mapped bare_placed p tokens))
