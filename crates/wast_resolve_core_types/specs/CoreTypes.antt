-- Resolving the indices in a type by calls of a caller's function (text format: types, indices).
--
-- Contracts of the generic calls describe the user-defined function as a relation, because they must hold for any. The
-- calls are on each index in order, and stop at the first error.
--
--   (func (param (ref $a)) (result (ref $b)))      calls on $a, then on $b if the first succeeds
use Rattle.std.specs.Prelude.{ℕ, List, [], ◌∷◌, flat_map, Contains, Result, Ok, Err}
use Rattle.wast_base.specs.declared.faults.Error.{Error}
use Rattle.wast_tree_nodes.specs.Sites.{Check, ItemIndex, InnerIndex, PlainId, Clause, Covered}
use Rattle.wast_tree_map.specs.Mapped.{Indices, mapped_def}
use Rattle.wast_resolve_core_types.specs.Tree.{Index}
use Rattle.wast_resolve_core_types.specs.Tree.index
use Rattle.wast_resolve_core_types.specs.Tree.ty

-- Calls on a list of indices in order, up to the first error: the context and the indices before and after.
pub data Calls {C : Type 0} (called : C → Index → C → Index → Result ℕ Error → Type 0) : C → List Index → C → List Index → Result (Unit {0}) Error → Type 0 where
  none_left : {a : C} {x : Unit {0}} → Calls called a [] a [] (Ok x)
  answered : {a b c : C} {i j : Index} {is js : List Index} {n : ℕ} {result : Result (Unit {0}) Error} → called a i b j (Ok n) → Calls called b is c js result → Calls called a (i ∷ is) c (j ∷ js) result
  -- after an error the remaining indices are unchanged
  refused : {a b : C} {i j : Index} {is : List Index} {e : Error} → called a i b j (Err e) → Calls called a (i ∷ is) b (j ∷ is) (Err e)

-- the index of a check that looks one up
abbrev pub index_asked : Check → List Index
index_asked (ItemIndex s i) = i ∷ []
index_asked (InnerIndex i) = []
index_asked (PlainId m) = []
index_asked (Clause n holds) = []
index_asked (Covered form holds) = []

-- the indices of a list of checks
abbrev pub indices_of : List Check → List Index
indices_of asks = flat_map index_asked asks

-- The calls on the indices of a part of a type, with its checks before and after.
pub record CallsOn {C : Type 0} (called : C → Index → C → Index → Result ℕ Error → Type 0) (old : C) (before : List Check) (new : C) (after : List Check) (result : Result (Unit {0}) Error) : Type 0 where
  pub calls : Calls called old (indices_of before) new (indices_of after) result

-- Each index of these checks has what a call requires.
pub record HasNeeds {C : Type 0} (needs : C → Index → Type 0) (cx : C) (asks : List Check) : Type 0 where
  pub each : (i : Index) → Contains (indices_of asks) i → needs cx i

-- replaces every index by 0
abbrev pub blank : Indices
blank s i = index.Num 0 (record { offset = 0 })

-- a type with its definition changed
abbrev pub with_def : Indices → ty.«Type» → ty.«Type»
with_def f t = record t { def = mapped_def f t.def }
