-- Resolved fields without the parts that no encoding depends on: generated ids, and the positions of indices in type
-- uses.
--
-- Theorems compare fields after this change, because two ways of resolving differ only in those parts.
--
--   (func [1] (type 0))      (func (type 0))
use Rattle.std.specs.Prelude.{cond, Option, Some, None, option_map}
use Rattle.wast_base.specs.Ids.{name_of, is_generated}
use Rattle.wast_expand_keys.specs.Expanded.{start_of_text}
use Rattle.wast_tree_map.specs.Mapped.{Change}
use Rattle.wast_resolve_rules.specs.Tree.{Id, Index, FunctionType, TypeUse}
use Rattle.wast_resolve_rules.specs.Tree.index

-- an id, unless it is generated
abbrev pub written_id : Option Id → Option Id
written_id None = None
written_id (Some id) = cond (is_generated (name_of id)) None (Some id)

-- a number without its position; an id is unchanged
abbrev pub at_start : Index → Index
at_start (index.Num n span) = index.Num n start_of_text
at_start (index.Id id) = index.Id id

-- a type use whose index has no position
abbrev pub stripped_use : TypeUse FunctionType → TypeUse FunctionType
stripped_use u = record u { index = option_map at_start u.index }

-- the change that removes both
abbrev pub stripping : Change
stripping = record { index = λ s i. i; used = λ w. stripped_use; local = λ l i. i; field = λ o i. i; label = λ b i. i; id = written_id; own = λ o. o }
