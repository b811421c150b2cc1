-- The list of the ids of a module, as the prover computes it. Names may be at any address.
use Rattle.std.specs.Prelude.{◌≡◌, false, List, [], ◌∷◌, Some, None, codes}
use Rattle.wast_base.specs.Ids.{Written}
use Rattle.wast_base.specs.declared.spaces.Space.TheVariants as space
use Rattle.wast_tree_nodes.specs.WorkedModules.{Address, text, place, id_at, by_id, plain_type, plain_func, import_field}
use Rattle.wast_core.specs.Tree.{ModuleField}
use Rattle.wast_core.specs.Tree.memory
use Rattle.wast_core.specs.Tree.data_kind
use Rattle.wast_core.specs.Tree.bytes
use Rattle.wast_core.specs.Tree.func
use Rattle.wast_core.specs.Tree.field
use Rattle.wast_core.specs.declared.module.ModuleKind.TheVariants as kind
use Rattle.wat_bytes.specs.Names.{entries_of, items_of}

-- `(memory $m (data "a"))` at 41
abbrev filled_memory : (a b : Address) → ModuleField
filled_memory a b = field.Memory (record {
  span = place 42;
  id = Some (id_at a (codes "m") 49);
  name = None;
  exports = record { names = [] };
  kind = memory.Inline false (bytes.«String» (text b (codes "a")) ∷ []) None;
})

-- `(data $d "b")` at 64
abbrev named_data : (a b : Address) → ModuleField
named_data a b = field.Data (record {
  span = place 65;
  id = Some (id_at a (codes "d") 70);
  name = None;
  kind = data_kind.Passive;
  bytes = bytes.«String» (text b (codes "b")) ∷ [];
})

-- `(func (export "a"))` at 115
abbrev exported_func : Address → ModuleField
exported_func a = field.Func (record {
  span = place 116;
  id = None;
  name = None;
  exports = record { names = text a (codes "a") ∷ [] };
  kind = func.Inline [] (record { instrs = []; branch_hints = [] });
  ty = record { index = None; inline = None };
})

-- `(module (import "e" "g" (global $g i32)) (memory $m (data "a")) (data $d "b") (rec (type (func)) (type $t (func)))
-- (func (export "a")) (func $f (type $t)))`
abbrev each_kind : (a b c d e f g h i : Address) → List ModuleField
each_kind a b c d e f g h i =
    import_field a 8
    ∷ filled_memory b c
    ∷ named_data d e
    ∷ field.Rec (record { span = place 79; types = plain_type None 83 ∷ plain_type (Some (id_at f (codes "t") 103)) 97 ∷ [] })
    ∷ exported_func g
    ∷ field.Func (plain_func (Some (id_at h (codes "f") 141)) 135 (by_id i (codes "t") 150) [])
    ∷ []

-- Its list. The memory has an inline segment, so $d is the data segment 1; the first type of the group has no id, so $t is the type 1.
abbrev pub EachKind : Type 0
EachKind = (a b c d e f g h i : Address) →
    entries_of (items_of (kind.Text (each_kind a b c d e f g h i)))
    ≡ (space.Func, (1, (Written (codes "f"), place 141)))
    ∷ (space.Memory, (0, (Written (codes "m"), place 49)))
    ∷ (space.Global, (0, (Written (codes "g"), place 32)))
    ∷ (space.Data, (1, (Written (codes "d"), place 70)))
    ∷ (space.Ty, (1, (Written (codes "t"), place 103)))
    ∷ []
