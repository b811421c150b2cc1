-- What a look-up of an index requires, and what it returns (text format: indices).
--
-- In `(module (func $f) (func $g))` the index $g of `func` is looked up as 1. The index $h fails with E4 and is
-- unchanged. A number is returned as it is.
use Rattle.std.specs.Prelude.{◌≡◌, ℕ, Bool, true, List, Some, None, Result, IfOk, IfErr, IsTrue}
use Rattle.std.specs.List.{list_all}
use Rattle.wast_base.specs.declared.faults.Error.{Error}
use Rattle.wast_base.specs.Faults.{diagnostic_of}
use Rattle.wast_base.specs.Spaces.{is_settled_index}
use Rattle.wast_tree_nodes.specs.Sites.{Check, ItemIndex, InnerIndex, PlainId, Clause, Covered, in_index}
use Rattle.wast_tree_nodes.specs.Known.{IdContext}
use Rattle.wast_resolve_names.specs.Tree.{Space, Index}
use Rattle.wast_resolve_names.specs.Tree.space
use Rattle.wast_resolve_rules.specs.Demands.{first_unmet, ask_demands, Answers}
use Rattle.wast_resolve_rules.specs.Scopes.{denoted}
use Rattle.wast_resolve_rules.specs.Resolved.{numbered_at}

-- whether an index is known, if it is a generated id
abbrev pub is_settled : IdContext → Check → Bool
is_settled k (ItemIndex s i) = is_settled_index (k.number s) i
is_settled k (InnerIndex i) = true
is_settled k (PlainId m) = true
is_settled k (Clause n holds) = true
is_settled k (Covered form holds) = true

-- the same for a list of checks
abbrev pub are_settled : IdContext → List Check → Bool
are_settled k asks = list_all (is_settled k) asks

-- an index of a space is known, if it is a generated id
abbrev pub IsSettledFor : IdContext → Space → Index → Type 0
IsSettledFor k s i = IsTrue (are_settled k (in_index s i))

-- an id is known
abbrev pub IsMetBy : IdContext → Space → Index → Type 0
IsMetBy k s i = first_unmet (ask_demands k (in_index s i)) ≡ None

-- the error is E4 at an unknown id
abbrev pub AnswersFor : IdContext → Space → Index → Error → Type 0
AnswersFor k s i e = Answers ⊥ ⊥ (diagnostic_of e) (first_unmet (ask_demands k (in_index s i)))

-- an index before and after its look-up, and the result
pub record LooksUp (k : IdContext) (s : Space) (old new : Index) (result : Result ℕ Error) : Type 0 where
  pub number : IfOk result (λ n. denoted (k.number s) old ≡ Some n)
  pub refusal : IfErr result (AnswersFor k s old)
  pub index : new ≡ numbered_at k s old

-- a call on the index of a type that looks it up and changes nothing else
abbrev pub LooksTypesUp : {C : Type 0} → (C → IdContext) → C → Index → C → Index → Result ℕ Error → Type 0
LooksTypesUp known_by old i new j result = (new ≡ old) × LooksUp (known_by old) space.Ty i j result
