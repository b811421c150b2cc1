-- Checkpoints in a list of fields: how many types are before some positions, so that a type is found in few steps.
--
--   types (type) (type) (func) (rec (type) (type)), a checkpoint at every second field: 0, 2 types before
use Rattle.std.specs.Prelude.{ℕ, ◌≡◌, ◌<◌, ◌≤◌, ◌+◌, ◌*◌, ◌^◌, ◌-◌, List, length, take, slice_index}
use Rattle.std.specs.List.{flat_map}
use Rattle.wast_core_name_section.specs.declared.arities.Places.{Places}

-- There is a first checkpoint, with no types before it. Each checkpoint is in the list, and its number is the number of
-- types before it. The total, if known, is the number of types of all fields.
pub record AreCheckpoints {A B : Type 0} (types : A → List B) (fields : List A) (p : Places) (before : List ℕ) : Type 0 where
  pub some : 0 < p.count
  pub within : p.count ≤ length before
  pub first : slice_index before 0 ≡ 0
  pub told : (k : ℕ) → k < p.count → (p.first + k * p.every ≤ length fields) × (slice_index before k ≡ length (flat_map types (take (p.first + k * p.every) fields)))
  pub total : p.total < 2 ^ 64 - 1 → p.total ≡ length (flat_map types fields)
