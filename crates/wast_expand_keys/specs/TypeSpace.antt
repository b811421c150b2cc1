-- The type index space: the source's types, and then the appended types (text format: indices, type uses).
--
-- A list has for each type the signature by which a type use can match it, or nothing if it is not eligible. Members of
-- groups have an index, but are not eligible.
--
--   (rec (type (func))) (func)      type space: none, (func). The function gets type 1, which is appended.
use Rattle.std.specs.Prelude.{ℕ, Bool, false, List, [], ◌∷◌, ◌++◌, map, flat_map, Option, Some, None, position, slice_get}
use Rattle.wast_expand_keys.specs.Tree.{Id, Index, ModuleField}
use Rattle.wast_expand_keys.specs.Tree.index
use Rattle.wast_expand_keys.specs.Tree.ty
use Rattle.wast_expand_keys.specs.Tree.field
use Rattle.wast_tree_nodes.specs.Types.{types_of}
use Rattle.wast_expand_keys.specs.Signatures.{Signature, same_signature}
use Rattle.wast_expand_keys.specs.Numbers.{TypeNames, type_names, numbered_signature}
use Rattle.wast_expand_keys.specs.EligibleTypes.{taken_by}
use Rattle.wast_expand_keys.specs.ImpliedTypes.{implied_signatures}

-- the entries for the types of a field
abbrev pub types_in : TypeNames → ModuleField → List (Option Signature)
types_in k (field.Ty t) = taken_by k t.def ∷ []
types_in k x = map (λ t. None) (types_of x)

-- the entries for all types, by index
abbrev pub type_space : List ModuleField → List (Option Signature)
type_space fields = flat_map (types_in (type_names fields)) fields ++ map Some (implied_signatures fields)

-- whether an entry has this signature
abbrev pub has_signature : Signature → Option Signature → Bool
has_signature s None = false
has_signature s (Some t) = same_signature s t

-- The index of the type for a signature: the least whose entry is equal, after ids of source types are replaced by
-- numbers.
abbrev pub index_for : List ModuleField → Signature → Option ℕ
index_for fields s = position (has_signature (numbered_signature (type_names fields) s)) (type_space fields)

-- the ids of the types of a field
abbrev pub ids_in : ModuleField → List (Option Id)
ids_in x = map (λ (t : ty.«Type»). t.id) (types_of x)

-- the ids of the types of all fields
abbrev pub type_ids : List ModuleField → List (Option Id)
type_ids fields = flat_map ids_in fields

-- the id at an index of the list, as an index
abbrev pub index_by_id : Option (Option Id) → Option Index
index_by_id None = None
index_by_id (Some None) = None
index_by_id (Some (Some id)) = Some (index.Id id)

-- the same, if there is an index
abbrev pub index_by_id_at : Option ℕ → List (Option Id) → Option Index
index_by_id_at None ids = None
index_by_id_at (Some k) ids = index_by_id (slice_get ids k)
