-- Collecting the items of each index space: their ids, or an error.
--
-- For `(func $a) (func)` the space `func` has the ids $a and none, in this order.
use Rattle.std.specs.Prelude.{◌≡◌, ℕ, ◌+◌, ◌<◌, ◌≤◌, ◌^◌, List, [], ◌++◌, length, slice_index_or, Option, Result, Ok, Err}
use Rattle.wast_base.specs.declared.faults.Error.{Error}
use Rattle.wast_base.specs.Ids.{Name}
use Rattle.wast_base.specs.Faults.{Diagnostic, At, Nowhere, Memory, TooLarge, diagnostic_of}
use Rattle.wast_base.specs.Spaces.{rank_of}
use Rattle.wast_tree_nodes.specs.Items.{Item}
use Rattle.wast_tree_nodes.specs.Known.{name_in}
use Rattle.wast_resolve_names.specs.Tree.{Space}

-- The error of collecting, which began after some items and ends with some: E12 if one more item could be counted, or
-- E10 if there are 2^32 or more.
abbrev pub Stops : Diagnostic → (begun all : ℕ) → Type 0
Stops (Nowhere Memory) begun all = begun + 1 < 2 ^ 32
Stops (Nowhere TooLarge) begun all = 2 ^ 32 ≤ all
Stops (Nowhere fault) begun all = ⊥
Stops (At fault place) begun all = ⊥

-- more ids after those that were collected
abbrev pub Gathers : Result (List (Option Name)) Error → List (Option Name) → Result (List (Option Name)) Error → Type 0
Gathers (Err e) more new = new ≡ Err e
Gathers (Ok names) more (Ok new) = new ≡ names ++ more
Gathers (Ok names) more (Err e) = Stops (diagnostic_of e) (length names) (length (names ++ more))

-- what was collected for a space, from a list by rank
abbrev pub gathered_of : List (Result (List (Option Name)) Error) → Space → Result (List (Option Name)) Error
gathered_of gathered s = slice_index_or gathered (rank_of s) (Ok [])

-- The effect of an item: its id is added to its space.
pub record GathersItem (old : List (Result (List (Option Name)) Error)) (x : Item) (new : List (Result (List (Option Name)) Error)) : Type 0 where
  pub slots : length new ≡ length old
  pub each : length old ≡ 8 → (s : Space) → Gathers (gathered_of old s) (name_in s x) (gathered_of new s)

-- what a call leaves: the collected ids, or its error
abbrev pub with_gathered : {T : Type 0} → Result T Error → List (Option Name) → Result (List (Option Name)) Error
with_gathered (Ok x) names = Ok names
with_gathered (Err e) names = Err e
