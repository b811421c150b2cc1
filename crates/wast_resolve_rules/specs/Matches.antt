-- When an inline type has the signature of the type at the index beside it (text format: type uses).
--
-- Indices are compared by the type that they name, so an id and a number can be equal.
--
--   (type $t (func)) (type $a (func (param (ref $t)))) (func (type $a) (param (ref 0)))      they match
use Rattle.std.specs.Prelude.{ℕ, ◌==◌, Bool, false, Option, Some, None}
use Rattle.wast_tree_nodes.specs.Known.{IdContext}
use Rattle.wast_expand_keys.specs.Signatures.{Signature, signature_of, same_signature_by}
use Rattle.wast_resolve_rules.specs.Tree.{Index, FunctionType}
use Rattle.wast_resolve_rules.specs.Tree.space
use Rattle.wast_resolve_rules.specs.Scopes.{denoted}

-- two numbers that exist and are equal
abbrev pub same_number : Option ℕ → Option ℕ → Bool
same_number None None = false
same_number None (Some n) = false
same_number (Some m) None = false
same_number (Some m) (Some n) = m == n

-- Whether two indices name the same type. An unknown id equals nothing.
abbrev pub same_type : IdContext → Index → Index → Bool
same_type k i j = same_number (denoted (k.number space.Ty) i) (denoted (k.number space.Ty) j)

-- Whether signatures are equal after each index is replaced by its number.
abbrev pub signatures_match : IdContext → FunctionType → Signature → Bool
signatures_match k t s = same_signature_by (same_type k) (signature_of t) s
