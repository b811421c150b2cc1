-- The change that sets the address of every id to 0, and keeps its name and its position.
--
-- A tree that was read has addresses of the text that its ids are in. What the rules read has each id at address 0.
--
--   (func $f), with `$f` at any address      (func $f), with `$f` at address 0
use Rattle.std.specs.Prelude.{List, option_map}
use Rattle.wast_tree_map.specs.Mapped.{Change, named_signature}
use Rattle.wast_tree_map.specs.Laws.{all_mapped}
use Rattle.wat_syntax.specs.Tree.{FunctionType, TypeUse, ModuleField}
use Rattle.wat_syntax.specs.Bare.{bare_id, bare_index}

-- a function type: the ids of its parameters, and its indices
abbrev pub erased_type : FunctionType → FunctionType
erased_type t = named_signature (option_map bare_id) (λ s. bare_index) t

-- a type use
abbrev pub erased_use : TypeUse FunctionType → TypeUse FunctionType
erased_use u = record { index = option_map bare_index u.index; inline = option_map erased_type u.inline }

-- the change of every id in the tree
abbrev pub erased : Change
erased = record {
  index = λ s. bare_index;
  used = λ w. erased_use;
  local = λ l. bare_index;
  field = λ owner. bare_index;
  label = λ blocks. bare_index;
  id = option_map bare_id;
  own = option_map bare_id;
}

-- a list of fields
abbrev pub erased_fields : List ModuleField → List ModuleField
erased_fields fields = all_mapped erased fields
