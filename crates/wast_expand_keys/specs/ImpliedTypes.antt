-- The types that type uses need and the source does not define, which are appended (text format, type uses:
-- abbreviations).
--
--   (func) (func (param i32)) (func)                        (func), (func (param i32))
--   (func (result i32)) (type $t (func (result i32)))       none: the function gets $t
use Rattle.std.specs.Prelude.{Bool, true, not, ◌&&◌, ◌||◌, if◌then◌else◌, List, [], ◌∷◌, map, flat_map}
use Rattle.std.specs.List.{list_any}
use Rattle.wast_expand_keys.specs.Tree.{ModuleField}
use Rattle.wast_expand_keys.specs.Tree.ty
use Rattle.wast_tree_nodes.specs.Sites.{if_there}
use Rattle.wast_tree_nodes.specs.Types.{lone_type}
use Rattle.wast_expand_keys.specs.Signatures.{Signature, same_signature}
use Rattle.wast_expand_keys.specs.NeedingUses.{needed_signatures}
use Rattle.wast_expand_keys.specs.Numbers.{TypeNames, type_names, numbered_signature}
use Rattle.wast_expand_keys.specs.EligibleTypes.{taken_by}

-- the signature of the eligible type in a field; members of groups are not eligible
abbrev pub eligible_in : TypeNames → ModuleField → List Signature
eligible_in k x = if_there (λ (t : ty.«Type»). if_there (λ s. s ∷ []) (taken_by k t.def)) (lone_type x)

-- the signatures of all eligible types, with ids of source types replaced by numbers
abbrev pub eligible_signatures : List ModuleField → List Signature
eligible_signatures fields = flat_map (eligible_in (type_names fields)) fields

-- the signatures that type uses need, likewise
abbrev pub needed_numbers : List ModuleField → List Signature
needed_numbers fields = map (numbered_signature (type_names fields)) (needed_signatures fields)

-- whether a signature is in the list
abbrev pub is_among : List Signature → Signature → Bool
is_among ts s = list_any (same_signature s) ts

-- the signatures that are not known, each at its first occurrence
abbrev pub first_new : (Signature → Bool) → List Signature → List Signature
first_new known [] = []
first_new known (s ∷ ss) = if known s then first_new known ss else (s ∷ first_new (λ t. known t || same_signature t s) ss)

-- The signatures of the appended types: those that are needed and that no eligible type has.
abbrev pub implied_signatures : List ModuleField → List Signature
implied_signatures fields = first_new (is_among (eligible_signatures fields)) (needed_numbers fields)

-- whether no signature occurs twice
abbrev pub are_distinct : List Signature → Bool
are_distinct [] = true
are_distinct (s ∷ ss) = not (list_any (λ t. same_signature t s) ss) && are_distinct ss
