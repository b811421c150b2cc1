-- The last of the instructions that wait for their operands, as an instruction of the tree and without addresses.
use Rattle.std.proofs.Common.{◌≡◌, ◌∙◌, ◌<◌, List, [], ◌∷◌, ◌++◌, map, length, Option, None, Some, option_map, refl, sym, ap, arith}
use Rattle.std.specs.Prelude.{option_to_list}
use Rattle.wat_text.specs.Machine.{last_of, before_last}
use Rattle.wat_text.proofs.Loops.{mapped, no_more}

pub last_is : {T : Type 0} (ws : List T) (i : T) → last_of (ws ++ i ∷ []) ≡ Some i
last_is [] i = refl
last_is (w ∷ []) i = refl
last_is (w ∷ v ∷ ws) i = last_is (v ∷ ws) i

pub before_is : {T : Type 0} (ws : List T) (i : T) → before_last (ws ++ i ∷ []) ≡ ws
before_is [] i = refl
before_is (w ∷ []) i = refl
before_is (w ∷ v ∷ ws) i = ap (λ vs. w ∷ vs) (before_is (v ∷ ws) i)

-- one is taken from the end, and none only if there is none
pub popped_last : {S T : Type 0} (bare : S → T) (old new : List S) (r : Option S)
    → old ≡ new ++ option_to_list r → (r ≡ None → old ≡ []) → option_map bare r ≡ last_of (map bare old)
popped_last bare old new None is empty = sym (ap (λ xs. last_of (map bare xs)) (empty refl))
popped_last bare old new (Some x) is empty = sym (ap (λ xs. last_of (map bare xs)) is ∙ ap last_of (mapped bare new x) ∙ last_is (map bare new) (bare x))

pub popped_others : {S T : Type 0} (bare : S → T) (old new : List S) (r : Option S)
    → old ≡ new ++ option_to_list r → (r ≡ None → old ≡ []) → map bare new ≡ before_last (map bare old)
popped_others bare old new None is empty = ap (map bare) (sym (no_more new) ∙ sym is ∙ empty refl) ∙ sym (ap (λ xs. before_last (map bare xs)) (empty refl))
popped_others bare old new (Some x) is empty =
    sym (ap (λ xs. before_last (map bare xs)) is ∙ ap before_last (mapped bare new x) ∙ before_is (map bare new) (bare x))

pub empty_if : {S : Type 0} (old : List S) → (0 < length old → ⊥) → old ≡ []
empty_if [] none = refl
empty_if (x ∷ xs) none = absurd (none (omega arith))
