-- Checks with their positions, the first that fails, and the errors that may report it (text format: identifiers, indices).
--
-- A check (`Demand`) is an error, its position, and whether it passes. A phase of resolving is a list of checks, in the order
-- in which they are reported, so that "the first error" needs no further definition.
--
--   E4 at 8, passes; E2 at 20, fails; E4 at 30, fails     `first_unmet` is E2 at 20
use Rattle.std.specs.Prelude.{◌≡◌, ℕ, Bool, is_some, if◌then◌else◌, List, [], ◌∷◌, Option, Some, None}
use Rattle.wast_base.specs.declared.ids.Span.{Span}
use Rattle.wast_base.specs.declared.ids.Index.{Index}
use Rattle.wast_base.specs.declared.ids.Index.TheVariants as index
use Rattle.wast_base.specs.Ids.{Name, text_of, Mark, mark_of, name_of}
use Rattle.wast_base.specs.Faults.{Cause, Unknown, TooLarge, Memory, Diagnostic, At, Nowhere}

-- a check: its error, its position, and whether it passes
pub record Demand : Type 0 where
  pub fault : Cause
  pub place : Span
  pub met : Bool

-- a list of one check
abbrev pub one_demand : Cause → Span → Bool → List Demand
one_demand fault place met = record { fault = fault; place = place; met = met } ∷ []

-- the error of the first check that fails, with its position
abbrev pub first_unmet : List Demand → Option (Cause × Span)
first_unmet [] = None
first_unmet (d ∷ ds) = if d.met then first_unmet ds else Some (d.fault, d.place)

-- The check that an id used as an index is defined: E4 with this word otherwise.
abbrev pub unknown_demand : List ℕ → Mark → Bool → List Demand
unknown_demand word m met = one_demand (Unknown word (text_of m.0)) m.1 met

-- the same check for an index; a number is not checked
abbrev pub known_index : (Name → Option ℕ) → List ℕ → Index → List Demand
known_index number word (index.Num n span) = []
known_index number word (index.Id id) = unknown_demand word (mark_of id) (is_some (number (name_of id)))

-- Whether an error may be returned. An error with a position has to be that of the first failed check. `memory` is the
-- condition under which E12 is permitted, and `many` that for E10. No other error without a position is permitted.
abbrev pub Answers : (memory many : Type 0) → Diagnostic → Option (Cause × Span) → Type 0
Answers memory many (At fault place) unmet = unmet ≡ Some (fault, place)
Answers memory many (Nowhere Memory) unmet = memory
Answers memory many (Nowhere TooLarge) unmet = many
Answers memory many (Nowhere fault) unmet = ⊥
