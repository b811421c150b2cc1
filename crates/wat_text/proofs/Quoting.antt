-- The places of the bytes of strings in quotes, and a loop that puts each token at the place of its first byte.
use Rattle.std.proofs.Common.{◌≡◌, ◌≢◌, ◌∙◌, ℕ, zero, suc, ◌+◌, ◌<◌, true, false, List, [], ◌∷◌, ◌++◌, length, take, drop}
use Rattle.std.proofs.Common.{set, map, replicate, All, Option, None, Some, refl, sym, ap, arith, add-one, eq-eqb, ne_eqb}
use Rattle.std.specs.Prelude.{slice_get}
use Rattle.std.specs.Str.{IsUtf8, is_utf8}
use Rattle.wast_base.specs.declared.ids.Span.{Span}
use Rattle.wat_grammar.specs.Parts.{◌>>=◌}
use Rattle.wat_grammar.specs.Tokens as grammar
use Rattle.wat_grammar.specs.Tokens.{tokens, bytes_of}
use Rattle.wat_tokens.specs.Scans.{seen_all, IsNamed}
use Rattle.wat_tokens.specs.declared.tokens.Placed.{Placed}
use Rattle.wat_syntax.specs.Bare.{bare_placed}
use Rattle.wat_syntax.specs.AtZero.{all_at_zero, tokens_at_zero}
use Rattle.wat_syntax.proofs.AtZero.{bare_tokens}
use Rattle.wat_text.specs.declared.quotes.Quote.{Quote}
use Rattle.wat_text.specs.Denotes.{text_in, exact, sources, put_in, tokens_if, tokens_in_quotes}
use Rattle.wat_text.proofs.Names.{utf8_is, utf8_not}

the_same : {A : Type 0} {x y : A} → Some x ≡ Some y → x ≡ y
the_same e = cc

-- as many places as bytes, and another number of places
pub exact_same : (places : List ℕ) (count at : ℕ) → length places ≡ count → exact count at places ≡ places
exact_same places count at same = ap (λ b. elim b as (λ x. List ℕ) [ true ↦ places | false ↦ replicate count at ]) (eq-eqb (length places) count same)

pub exact_other : (places : List ℕ) (count at : ℕ) → length places ≢ count → exact count at places ≡ replicate count at
exact_other places count at other = ap (λ b. elim b as (λ x. List ℕ) [ true ↦ places | false ↦ replicate count at ]) (ne_eqb (length places) count other)

module _ {A : Type 0} (f : A → A) where
  some_at : (xs : List A) (n : ℕ) → n < length xs → (x : A) × (slice_get xs n ≡ Some x)
  some_at [] n h = absurd (omega (arith, h))
  some_at (x ∷ xs) zero h = (x, refl)
  some_at (x ∷ xs) (suc n) h = some_at xs n (omega (arith, h))

  -- what is changed up to a number has the others as they were
  same_at : (n : ℕ) (xs : List A) → slice_get (map f (take n xs) ++ drop n xs) n ≡ slice_get xs n
  same_at zero xs = refl
  same_at (suc n) [] = refl
  same_at (suc n) (x ∷ xs) = same_at n xs

  put_more : (n : ℕ) (xs : List A) (y : A) → slice_get xs n ≡ Some y
      → set (map f (take n xs) ++ drop n xs) n (f y) ≡ map f (take (suc n) xs) ++ drop (suc n) xs
  put_more n [] y e = absurd cc
  put_more zero (x ∷ xs) y e = ap (λ z. f z ∷ xs) (sym (the_same e))
  put_more (suc n) (x ∷ xs) y e = ap (λ zs. f x ∷ zs) (put_more n xs y e)

  -- one more is changed
  pub placed_more : (before items after : List A) (n : ℕ) → n < length before → items ≡ map f (take n before) ++ drop n before
      → ((x : A) → slice_get items n ≡ Some x → after ≡ set items n (f x)) → after ≡ map f (take (n + 1) before) ++ drop (n + 1) before
  placed_more before items after n few was put = go (some_at before n few)
    where
      go : (x : A) × (slice_get before n ≡ Some x) → after ≡ map f (take (n + 1) before) ++ drop (n + 1) before
      go (x, e) =
          put x (ap (λ xs. slice_get xs n) was ∙ same_at n before ∙ e)
          ∙ ap (λ xs. set xs n (f x)) was ∙ put_more n before x e
          ∙ ap (λ k. map f (take k before) ++ drop k before) (sym (add-one n))

-- the tokens of the text that strings make, if it is one
module _ (source : List ℕ) (none : Span) (qs : List Quote) (text bytes : List ℕ) (same : text ≡ bytes) (made : bytes ≡ text_in qs) where
  abbrev placed : Option (List Placed) → Option (List Placed)
  placed o = o >>= λ found. Some (map (put_in none (sources source qs)) found)

  of_text : IsUtf8 bytes → tokens_in_quotes source none qs ≡ placed (tokens_at_zero text)
  of_text utf8 =
      ap (λ b. placed (tokens_if b (text_in qs))) (ap is_utf8 (sym made) ∙ utf8_is bytes utf8)
      ∙ ap (λ xs. placed (tokens_at_zero xs)) (sym made ∙ sym same)

  put_bare : (places : List ℕ) (found : List Placed) → map (put_in none places) (map bare_placed found) ≡ map bare_placed (map (put_in none places) found)
  put_bare places [] = refl
  put_bare places (p ∷ ps) = ap (λ xs. bare_placed (put_in none places p) ∷ xs) (put_bare places ps)

  pub cut_ok : (found put : List Placed) (places : List ℕ) → IsUtf8 bytes → tokens bytes_of text ≡ Some (seen_all found) → All (λ p. IsNamed p.token) found
      → places ≡ sources source qs → put ≡ map (put_in none places) found → tokens_in_quotes source none qs ≡ Some (map bare_placed put)
  cut_ok found put places utf8 lexed named at is =
      of_text utf8 ∙ ap placed (bare_tokens text found lexed named)
      ∙ ap (λ xs. Some (map (put_in none xs) (map bare_placed found))) (sym at)
      ∙ ap Some (put_bare places found ∙ ap (map bare_placed) (sym is))

  pub cut_none : IsUtf8 bytes → tokens bytes_of text ≡ None → tokens_in_quotes source none qs ≡ None
  cut_none utf8 lexed = of_text utf8 ∙ ap (λ (o : Option (List grammar.Placed)). placed (o >>= λ ts. all_at_zero ts)) lexed

pub cut_not : (source : List ℕ) (none : Span) (qs : List Quote) (bytes : List ℕ)
    → bytes ≡ text_in qs → (IsUtf8 bytes → ⊥) → tokens_in_quotes source none qs ≡ None
cut_not source none qs bytes made not =
    ap (λ b. tokens_if b (text_in qs) >>= λ found. Some (map (put_in none (sources source qs)) found)) (ap is_utf8 (sym made) ∙ utf8_not bytes not)
