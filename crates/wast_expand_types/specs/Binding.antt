-- How type uses are resolved one after another, and when there are none to resolve.
--
-- For example, in `(func) (func) (func (param i32))` the first use appends `(type (func))`, the second appends nothing,
-- and the third appends `(type (func (param i32)))`.
use Rattle.std.specs.Prelude.{◌≡◌, ℕ, ◌+◌, is_some, Bool, false, List, [], ◌++◌, map, length, Option, Some, None}
use Rattle.wast_expand_types.specs.Tree.{Index, FunctionType, TypeUse, Instruction, FuncKind, ModuleField}
use Rattle.wast_expand_types.specs.Tree.field
use Rattle.wast_expand_types.specs.declared.binder.Binder.{Binder}
use Rattle.wast_expand_keys.specs.Signatures.{Signature}
use Rattle.wast_tree_nodes.specs.Sites.{OfBlock, constant_context, in_instr, in_func_kind}
use Rattle.wast_expand_keys.specs.NeedingUses.{needs_type, needed_in}
use Rattle.wast_expand_keys.specs.Numbers.{numbered_signature}
use Rattle.wast_expand_keys.specs.ImpliedTypes.{first_new}
use Rattle.wast_expand_keys.specs.Expanders.{BoundSignatures, Bound, LookUp, numbers_in, index_of, Extends}
use Rattle.wast_expand_keys.specs.Expanded.{binding_change, implied_types, bindings}
use Rattle.wast_tree_map.specs.Mapped.{mapped_instr, mapped_func_kind}

-- a type use without index and inline type
abbrev pub no_use : TypeUse FunctionType
no_use = record { index = None; inline = None }

-- whether the type use of a block needs a type
abbrev pub wants_type : Option Index → Option FunctionType → Bool
wants_type (Some i) inline = false
wants_type None inline = needs_type OfBlock inline

-- the signatures that are not resolved yet, each once, with ids of source types replaced by numbers
abbrev pub new_signatures : Bound → List Signature → List Signature
new_signatures cx ss = first_new (λ s. is_some (index_of cx.bound s)) (map (numbered_signature (numbers_in cx)) ss)

-- the types to append for them
abbrev pub new_types : Binder → List Signature → List ModuleField
new_types a ss = implied_types a.gensym (new_signatures a.cx ss)

-- those signatures with the ids of their types
abbrev pub new_bindings : Binder → List Signature → BoundSignatures
new_bindings a ss = bindings (numbers_in a.cx) (new_types a ss)

-- the counter after these types are appended
abbrev pub next_after : Binder → List Signature → ℕ
next_after a ss = a.gensym + length (new_signatures a.cx ss)

-- The state after a list of signatures is resolved: exactly the missing types are appended.
pub record AddsTypes (a b : Binder) (ss : List Signature) : Type 0 where
  pub names : b.cx.names ≡ a.cx.names
  pub types : Extends a.cx.bound b.cx.bound (new_bindings a ss)
  pub fields : b.implied ≡ a.implied ++ new_types a ss
  pub counter : b.gensym ≡ next_after a ss

-- There is nothing to resolve in an instruction.
pub record IsPassed (i : Instruction) : Type 0 where
  pub needs : needed_in (in_instr constant_context i) ≡ []
  pub stays : (find : LookUp) → mapped_instr (binding_change find) constant_context i ≡ i

-- There is nothing to resolve in the body of a function. For example, this is so of `call 0` and of `block (result i32)`,
-- and not of `block` alone, which gets the empty inline type.
pub record IsPassedBody (k : FuncKind) : Type 0 where
  pub needs : needed_in (in_func_kind no_use k) ≡ []
  pub stays : (find : LookUp) → mapped_func_kind (binding_change find) no_use k ≡ k

-- the same for a field, if it is a function
abbrev pub IsPassedField : ModuleField → Type 0
IsPassedField (field.Func f) = IsPassedBody f.kind
IsPassedField x = Unit {0}
