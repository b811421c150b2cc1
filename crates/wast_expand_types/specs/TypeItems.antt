-- Errors while the ids of the source's types are collected. Only contracts of private functions use this.
--
-- For example, collecting from `(type $a (func))` fails only with E12, because there is one type.
use Rattle.std.specs.Prelude.{ℕ, ◌≡◌, ◌≤◌, ◌^◌, ◌⊎◌, List, length, Option}
use Rattle.wast_base.specs.declared.faults.Error.{Error}
use Rattle.wast_base.specs.Faults.{out_of_memory, too_large}
use Rattle.wast_base.specs.Filling.{RunsOut}
use Rattle.wast_base.specs.Ids.{Name}

-- The error is E12, or E10 if there are 2^32 types or more.
abbrev pub StopsGathering : List (Option Name) → Error → Type 0
StopsGathering names e = (e ≡ out_of_memory) ⊎ ((e ≡ too_large) × (2 ^ 32 ≤ length names))

-- The same, or E10 if the counter would overflow a `u64`.
abbrev pub StopsNaming : ℕ → List (Option Name) → Error → Type 0
StopsNaming next names e = RunsOut next e ⊎ ((e ≡ too_large) × (2 ^ 32 ≤ length names))
