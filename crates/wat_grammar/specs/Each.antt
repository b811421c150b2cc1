-- The values of an enum without fields, in the order in which it declares them.
--
-- `enum` of an enum's module in `specs.contracts` has its variants, and a proof that it has no others.
use Rattle.std.specs.Prelude.{List, [], ◌∷◌, map}
use mathlib.Core.Logic.{inl, inr}
use denote.Struct.Field.{Field}
use denote.Enum.Declared.{Record, Choice}

-- the choice of each variant, by the fields of the variants
abbrev pub choices : (variants : List (List Field)) → List (Choice variants)
choices [] = []
choices ([] ∷ others) = inl tt ∷ map (λ c. inr c) (choices others)
choices ((f ∷ fs) ∷ others) = map (λ c. inr c) (choices others)

-- each value
abbrev pub each : (type : Record) → List type.D
each type = map type.make (choices type.parts)
