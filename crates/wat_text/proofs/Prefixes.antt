-- What comes after a prefix of a word, as for `offset=` in `offset=4`.
use Rattle.std.proofs.Common.{◌≡◌, ◌∙◌, ◌≢◌, ℕ, ◌==◌, Bool, true, false, List, [], ◌∷◌, ◌++◌, Option, None, Some, eqb-true, refl, ap, arith}
use Rattle.wat_grammar.specs.Parts.{after}

same : (c : ℕ) → (c == c) ≡ true
same c = grind arith

after_front : (p rest : List ℕ) → after p (p ++ rest) ≡ Some rest
after_front [] rest = refl
after_front (c ∷ cs) rest = ap (λ b. elim b as (λ b. Option (List ℕ)) [ true ↦ after cs (cs ++ rest) | false ↦ None ]) (same c) ∙ after_front cs rest

front_of : (p text rest : List ℕ) → after p text ≡ Some rest → text ≡ p ++ rest
front_of [] text rest e = cc
front_of (c ∷ cs) [] rest e = absurd cc
front_of (c ∷ cs) (d ∷ ds) rest e = go (d == c) refl e (front_of cs ds rest)
  where
    go : (b : Bool) → (d == c) ≡ b → elim b as (λ b. Option (List ℕ)) [ true ↦ after cs ds | false ↦ None ] ≡ Some rest
        → (after cs ds ≡ Some rest → ds ≡ cs ++ rest) → d ∷ ds ≡ c ∷ (cs ++ rest)
    go true is h step = ap (λ x. x ∷ ds) (eqb-true d c is) ∙ ap (λ xs. c ∷ xs) (step h)
    go false is h step = absurd cc

pub after_is : (p text rest : List ℕ) → text ≡ p ++ rest → after p text ≡ Some rest
after_is p text rest e = ap (after p) e ∙ after_front p rest

pub after_not : (p text : List ℕ) → ((rest : List ℕ) → text ≢ p ++ rest) → after p text ≡ None
after_not p text lacks = go (after p text) refl
  where
    go : (o : Option (List ℕ)) → after p text ≡ o → after p text ≡ None
    go None e = e
    go (Some rest) e = absurd (lacks rest (front_of p text rest e))
