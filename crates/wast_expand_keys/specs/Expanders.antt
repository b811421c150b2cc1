-- The model of an `Expander` in contracts: signatures with the indices of their types, and the ids of the source's
-- types.
--
-- The order of the list has no meaning. What matters is which index a look-up finds.
--
--   index_of [((func), $t)] (func)           $t
--   index_of [((func), $t)] (func (param i32))    none
use Rattle.std.specs.Prelude.{◌≡◌, List, [], Option, Some}
use Rattle.std.specs.Option.{option_or}
use Rattle.std.specs.Map.{lookup}
use Rattle.wast_base.specs.Ids.{Name}
use Rattle.wast_base.specs.Spaces.{position_of}
use Rattle.wast_expand_keys.specs.Tree.{Index}
use Rattle.wast_expand_keys.specs.Signatures.{Signature, same_signature}
use Rattle.wast_expand_keys.specs.Numbers.{TypeNames, numbered_signature}

-- signatures, each with the index of a type
abbrev pub BoundSignatures : Type 0
BoundSignatures = List (Signature × Index)

-- a look-up of signatures
abbrev pub LookUp : Type 0
LookUp = Signature → Option Index

-- the first index whose signature is equal
abbrev pub index_of : BoundSignatures → LookUp
index_of bindings s = lookup (same_signature s) bindings

-- a look-up that tries more signatures if the first fails
abbrev pub with_more : LookUp → BoundSignatures → LookUp
with_more find more s = option_or (find s) (index_of more s)

-- The new list finds what the old one finds, and else what the additions find.
abbrev pub Extends : BoundSignatures → BoundSignatures → BoundSignatures → Type 0
Extends old new more = (s : Signature) → index_of new s ≡ with_more (index_of old) more s

-- every signature that had an index still has the same
abbrev pub Keeps : BoundSignatures → BoundSignatures → Type 0
Keeps old new = (s : Signature) (i : Index) → index_of old s ≡ Some i → index_of new s ≡ Some i

-- the model: the ids of the source's types in order, and signatures with indices
pub record Bound : Type 0 where
  pub names : List (Option Name)
  pub bound : BoundSignatures

-- The model of a new `Expander`.
abbrev pub nothing_bound : Bound
nothing_bound = record { names = []; bound = [] }

-- the number of the source type with an id; of equal ids the first counts
abbrev pub numbers_in : Bound → TypeNames
numbers_in cx name = position_of name cx.names

-- the look-up of a signature after its ids of source types are replaced by numbers, with additions
abbrev pub found_in : Bound → BoundSignatures → LookUp
found_in cx more s = with_more (index_of cx.bound) more (numbered_signature (numbers_in cx) s)
