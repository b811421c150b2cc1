-- A visit of a list: a visitor is called for each element, once and in order.
--
-- `told` is the change that one call makes to the visitor. It is a parameter, because each visitor defines its own.
--
--   told = "the count rises by one", elements $a, $b, old count 3     new count 5
use Rattle.std.specs.Prelude.{◌≡◌, List, [], ◌∷◌}

-- the visitor after a call for each element, by the change that one call makes
abbrev pub TellsEach : {V A : Type 0} → (V → A → V → Type 0) → V → List A → V → Type 0
TellsEach told old [] new = new ≡ old
TellsEach {V} told old (x ∷ xs) new = (next : V) × (told old x next × TellsEach told next xs new)

-- the visitor before and after a visit of a list
pub record Visits {V A : Type 0} (told : V → A → V → Type 0) (old : V) (xs : List A) (new : V) : Type 0 where
  pub tells : TellsEach told old xs new
