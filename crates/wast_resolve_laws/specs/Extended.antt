-- A finite map of names, as a caller has it for one module, and its extension to all names.
--
-- Theorems about renaming need a map of all names that stays injective. A name outside of the finite map gets more zeros
-- before it than any new name is long. A generated id gets a number past all new ones. So neither can be a new name.
--
--   with $f to $rf alone: $f becomes $rf, $g becomes three zeros and then g, generated id 1 becomes 2
use Rattle.std.specs.Prelude.{◌≡◌, ℕ, ◌+◌, List, [], ◌∷◌, ◌++◌, length, replicate, Option, Some, None}
use Rattle.std.specs.Map.{lookup}
use Rattle.wast_base.specs.Ids.{Name, Written, Generated, same_name, text_of, generation_of}
use Rattle.wast_tree_map.specs.Named.{Naming}

-- names, each with its new name
abbrev pub FiniteNaming : Type 0
FiniteNaming = List (Name × Name)

-- the new name of a name, if it is in the map
abbrev pub renamed_name : FiniteNaming → Name → Option Name
renamed_name m name = lookup (same_name name) m

-- No two names have the same new name.
abbrev pub IsInjective : FiniteNaming → Type 0
IsInjective m = (a b c : Name) → renamed_name m a ≡ Some c → renamed_name m b ≡ Some c → a ≡ b

-- at least the length of each new name, and at least each new generated id
abbrev pub longest : FiniteNaming → ℕ
longest [] = 0
longest (e ∷ m) = length (text_of e.1) + longest m

abbrev pub newest : FiniteNaming → ℕ
newest [] = 0
newest (e ∷ m) = generation_of e.1 + newest m

-- the new name of a name that is not in the map
abbrev pub other_name : FiniteNaming → Name → Name
other_name m (Written text) = Written (replicate (1 + longest m) 0 ++ text)
other_name m (Generated n) = Generated (1 + newest m + n)

abbrev pub name_or : Name → Option Name → Name
name_or other None = other
name_or other (Some name) = name

-- the map of all names
abbrev pub extended : FiniteNaming → Naming
extended m name = name_or (other_name m name) (renamed_name m name)

-- The extension is injective if the finite map is.
abbrev pub ExtendedIsInjective : Type 0
ExtendedIsInjective = (m : FiniteNaming) → IsInjective m → (a b : Name) → extended m a ≡ extended m b → a ≡ b

-- The extension agrees with the finite map.
abbrev pub ExtendedAgrees : Type 0
ExtendedAgrees = (m : FiniteNaming) (a b : Name) → renamed_name m a ≡ Some b → extended m a ≡ b
