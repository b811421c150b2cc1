-- The whole list of fields after the pass: types have ids, and type uses have indices (text format, type uses:
-- abbreviations).
--
-- Type uses refer to types by id, as in the `wast` crate. Generated ids come from a counter: first those of the
-- source's types, then those of the appended types.
--
--   (func)                    from counter 1: (func (type [1])) (type [1] (func))
--   (type (func)) (func)      from counter 1: (type [1] (func)) (func (type [1]))
use Rattle.std.specs.Prelude.{◌≡◌, ℕ, ◌+◌, ◌≤◌, ◌^◌, ◌⊎◌, is_none, length, Bool, true, false, List, [], ◌∷◌, ◌++◌, map, flat_map, Option, Some, None}
use Rattle.wast_expand_keys.specs.Tree.{Span, Id, Index, NameAnnotation, ValType, FunctionType, TypeUse, TypeDef, ModuleField}
use Rattle.wast_expand_keys.specs.Tree.index
use Rattle.wast_expand_keys.specs.Tree.space
use Rattle.wast_expand_keys.specs.Tree.inner
use Rattle.wast_expand_keys.specs.Tree.ty
use Rattle.wast_expand_keys.specs.Tree.field
use Rattle.wast_base.specs.Ids.{gensym_id}
use Rattle.wast_tree_nodes.specs.Sites.{Where, OfItem, OfCall, OfBlock, if_there}
use Rattle.wast_tree_nodes.specs.Types.{lone_type}
use Rattle.wast_tree_map.specs.Mapped.{Change, mapped_field}
use Rattle.wast_expand_keys.specs.Signatures.{Signature}
use Rattle.wast_expand_keys.specs.NeedingUses.{inline_signature, needs_type}
use Rattle.wast_expand_keys.specs.Numbers.{TypeNames, type_names, numbered_signature}
use Rattle.wast_expand_keys.specs.EligibleTypes.{taken_by}
use Rattle.wast_expand_keys.specs.ImpliedTypes.{implied_signatures}
use Rattle.wast_base.specs.declared.faults.Error.{Error}
use Rattle.wast_base.specs.Faults.{too_large}
use Rattle.wast_base.specs.Filling.{with_ids_from, missing_id_count, RunsOut}
use Rattle.wast_tree_nodes.specs.Items.{items}
use Rattle.wast_tree_nodes.specs.Known.{names_in}
use Rattle.wast_expand_keys.specs.Expanders.{BoundSignatures, LookUp, index_of}

-- A type definition without an id needs one, unless it is inside a `rec` group. For example `(type (func))` does, and
-- the member of `(rec (type (func)))` does not.
abbrev pub is_unnamed : Option ty.«Type» → Bool
is_unnamed None = false
is_unnamed (Some t) = is_none t.id

-- whether a field is a type definition that needs an id
abbrev pub lacks_id : ModuleField → Bool
lacks_id x = is_unnamed (lone_type x)

-- the type definition with a generated id at its position; other fields are unchanged
abbrev pub with_type_id : ℕ → ModuleField → ModuleField
with_type_id n (field.Ty t) = field.Ty (record t { id = Some (gensym_id n t.span) })
with_type_id n x = x

-- a parameter without ids
abbrev pub unnamed_param : ValType → Option Id × Option NameAnnotation × ValType
unnamed_param v = (None, None, v)

-- the definition of a type with this signature: final, without supertypes, with unnamed parameters
abbrev pub def_of : Signature → Bool → TypeDef
def_of s is_shared = record {
  kind = inner.Func (record { params = map unnamed_param s.0; results = s.1 });
  shared = is_shared;
  parents = [];
  descriptor = None;
  describes = None;
  final_type = None;
}

-- the position of appended types: offset 0, because the source does not have them
abbrev pub start_of_text : Span
start_of_text = record { offset = 0 }

-- an appended type without an id
abbrev pub unnamed_type : Signature → ModuleField
unnamed_type s = field.Ty (record { span = start_of_text; id = None; name = None; def = def_of s false })

-- an appended type with a generated id
abbrev pub implied_type : ℕ → Signature → ModuleField
implied_type n s = with_type_id n (unnamed_type s)

-- one type for each signature, with ids that count up
abbrev pub implied_types : ℕ → List Signature → List ModuleField
implied_types n [] = []
implied_types n (s ∷ ss) = implied_type n s ∷ implied_types (n + 1) ss

-- The fields with ids on their types, followed by the appended types.
abbrev pub fields_with_types : ℕ → List ModuleField → List ModuleField
fields_with_types n fields = with_ids_from lacks_id with_type_id n fields ++ implied_types (n + missing_id_count lacks_id fields) (implied_signatures fields)

-- a signature with the id of its type, if there are both
abbrev pub binding_of : Option Signature → Option Id → BoundSignatures
binding_of None id = []
binding_of (Some s) None = []
binding_of (Some s) (Some id) = (s, index.Id id) ∷ []

-- the signature of the eligible type in a field, with its id
abbrev pub bindings_in : TypeNames → ModuleField → BoundSignatures
bindings_in k x = if_there (λ (t : ty.«Type»). binding_of (taken_by k t.def) t.id) (lone_type x)

-- the same for all fields
abbrev pub bindings : TypeNames → List ModuleField → BoundSignatures
bindings k fields = flat_map (bindings_in k) fields

-- the index for a signature: the id of the first type with an equal signature
abbrev pub found_for : List ModuleField → ℕ → LookUp
found_for fields n s = index_of (bindings (type_names fields) (fields_with_types n fields)) (numbered_signature (type_names fields) s)

-- the index, if a type is needed
abbrev pub bound_if : Bool → Option Index → Option Index
bound_if true index = index
bound_if false index = None

-- The index of a type use after the pass. An index of the source is unchanged.
abbrev pub bound_index : LookUp → Where → Option Index → Option FunctionType → Option Index
bound_index find w None inline = bound_if (needs_type w inline) (find (inline_signature inline))
bound_index find w (Some i) inline = Some i

-- `(func)`
abbrev pub empty_type : FunctionType
empty_type = record { params = []; results = [] }

-- A block without index and inline type gets the empty inline type. Other inline types are unchanged.
abbrev pub bound_inline : Where → Option Index → Option FunctionType → Option FunctionType
bound_inline OfItem index inline = inline
bound_inline OfCall index inline = inline
bound_inline OfBlock (Some i) inline = inline
bound_inline OfBlock None (Some t) = Some t
bound_inline OfBlock None None = Some empty_type

-- a type use with its index and inline type after the pass
abbrev pub bound_use : LookUp → Where → TypeUse FunctionType → TypeUse FunctionType
bound_use find w u = record { index = bound_index find w u.index u.inline; inline = bound_inline w u.index u.inline }

-- The change of the tree: type uses change, and no other index or id.
abbrev pub binding_change : LookUp → Change
binding_change find = record { index = λ s i. i; used = λ w u. bound_use find w u; local = λ l i. i; field = λ o i. i; label = λ b i. i; id = λ o. o; own = λ o. o }

-- a field with its type uses resolved
abbrev pub bound_field : LookUp → ModuleField → ModuleField
bound_field find x = mapped_field (binding_change find) x

-- The list that the pass returns, from a counter.
abbrev pub expanded_fields : ℕ → List ModuleField → List ModuleField
expanded_fields n fields = map (bound_field (found_for fields n)) (fields_with_types n fields)

-- the number of ids that the pass generates
abbrev pub type_id_count : List ModuleField → ℕ
type_id_count fields = missing_id_count lacks_id fields + length (implied_signatures fields)

-- There are 2^32 types in the source or more, members of groups included.
abbrev pub HasManyTypes : List ModuleField → Type 0
HasManyTypes fields = 2 ^ 32 ≤ length (names_in space.Ty (items fields))

-- The errors of the pass: E12, or E10 if the counter would overflow a `u64` or there are too many types.
abbrev pub StopsExpanding : ℕ → List ModuleField → Error → Type 0
StopsExpanding n fields e = RunsOut (n + type_id_count fields) e ⊎ ((e ≡ too_large) × HasManyTypes fields)
