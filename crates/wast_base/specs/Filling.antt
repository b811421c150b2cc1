-- Generated ids for the items of a list that need one, in order.
--
-- The counter is the generation of its next id. `wants` tests whether an item needs an id, and `give n` writes the generated
-- id n into an item.
--
--   counter 5; items: without id, with id, without id     ids 5 and 6 are generated; `missing_id_count` is 2
use Rattle.std.specs.Prelude.{◌≡◌, ℕ, ◌+◌, ◌≤◌, ◌^◌, ◌⊎◌, Bool, true, false, List, [], ◌∷◌}
use Rattle.wast_base.specs.Faults.{too_large, out_of_memory}
use Rattle.wast_base.specs.declared.faults.Error.{Error}

-- the number of ids that an item takes: 1 if it needs one
abbrev pub one_if : Bool → ℕ
one_if true = 1
one_if false = 0

-- an item, with the generated id n if it needs an id
abbrev pub given_if : {A : Type 0} → Bool → (ℕ → A → A) → ℕ → A → A
given_if true give n x = give n x
given_if false give n x = x

-- the items, each with the next generated id if it needs an id
abbrev pub with_ids_from : {A : Type 0} → (A → Bool) → (ℕ → A → A) → ℕ → List A → List A
with_ids_from wants give n [] = []
with_ids_from wants give n (x ∷ xs) = given_if (wants x) give n x ∷ with_ids_from wants give (n + one_if (wants x)) xs

-- the number of items that need an id
abbrev pub missing_id_count : {A : Type 0} → (A → Bool) → List A → ℕ
missing_id_count wants [] = 0
missing_id_count wants (x ∷ xs) = one_if (wants x) + missing_id_count wants xs

-- Allocation failed, or the counter would exceed 64 bits.
abbrev pub RunsOut : ℕ → Error → Type 0
RunsOut next e = (e ≡ out_of_memory) ⊎ ((e ≡ too_large) × (2 ^ 64 ≤ next))
