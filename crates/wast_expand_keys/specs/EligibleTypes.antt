-- Which type definitions a type use without an index can resolve to (text format: types, type uses).
--
-- A type definition is eligible if it is a function type, final, not shared, and has no supertypes, descriptor or
-- describes clause. Other definitions are skipped, because the specification's abbreviation is for a plain
-- `(type (func ..))`, which is final.
--
--   (type $a (sub (func)))  (type $b (func))  (func)      the function gets type $b, because $a is open
use Rattle.std.specs.Prelude.{Bool, true, false, not, is_none, ◌&&◌, if◌then◌else◌, List, [], ◌∷◌, Option, Some, None, option_map}
use Rattle.wast_expand_keys.specs.Tree.{InnerTypeKind, TypeDef}
use Rattle.wast_expand_keys.specs.Tree.inner
use Rattle.wast_expand_keys.specs.Signatures.{Signature, signature_of}
use Rattle.wast_expand_keys.specs.Numbers.{TypeNames, numbered_signature}

-- A type is final unless it is marked as open.
abbrev pub is_final : Option Bool → Bool
is_final None = true
is_final (Some b) = b

-- whether a list is empty
abbrev pub has_no : {A : Type 0} → List A → Bool
has_no [] = true
has_no (x ∷ xs) = false

-- Whether a definition is final and unshared, without supertypes, descriptor and describes.
abbrev pub is_eligible : TypeDef → Bool
is_eligible d = is_final d.final_type && (not d.shared && (has_no d.parents && (is_none d.descriptor && is_none d.describes)))

-- the signature of a function type
abbrev pub kind_signature : InnerTypeKind → Option Signature
kind_signature (inner.Func t) = Some (signature_of t)
kind_signature (inner.Struct t) = None
kind_signature (inner.Array t) = None
kind_signature (inner.Cont t) = None

-- the signature of an eligible function type, with ids of source types replaced by numbers
abbrev pub taken_by : TypeNames → TypeDef → Option Signature
taken_by k d = if is_eligible d then option_map (numbered_signature k) (kind_signature d.kind) else None
