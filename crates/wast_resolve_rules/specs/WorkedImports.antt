-- Example modules with imports, with the error. Names may be at any address.
use Rattle.std.specs.Prelude.{◌≡◌, ℕ, ◌+◌, false, List, [], ◌∷◌, Option, Some, None, codes}
use Rattle.wast_base.specs.Faults.{ImportAfter, Duplicate, Unknown}
use Rattle.wast_tree_nodes.specs.WorkedModules.{Address, text, place, id_at, by_id}
use Rattle.wast_expand_keys.specs.Completed.{fields_with_implied_types}
use Rattle.wast_expand_keys.specs.WorkedExpansions.{func_at}
use Rattle.wast_resolve_rules.specs.Tree.{Id, FunctionType, TypeUse, MemoryType, ModuleField}
use Rattle.wast_resolve_rules.specs.Tree.func
use Rattle.wast_resolve_rules.specs.Tree.tag
use Rattle.wast_resolve_rules.specs.Tree.tag_kind
use Rattle.wast_resolve_rules.specs.Tree.memory
use Rattle.wast_resolve_rules.specs.Tree.kind
use Rattle.wast_resolve_rules.specs.Tree.import_items
use Rattle.wast_resolve_rules.specs.Tree.field
use Rattle.wast_resolve_rules.specs.Demands.{first_unmet, demands}

-- an empty type use
abbrev pub no_use : TypeUse FunctionType
no_use = record { index = None; inline = None }

-- `(import "" "" (func ..))` at position n
abbrev pub import_at : (a b : Address) → ℕ → Option Id → ModuleField
import_at a b n id = field.Import (record {
  span = place (n + 1);
  items = import_items.Single (text a []) (text b []) (record { span = place (n + 15); id = id; name = None; kind = kind.Func no_use });
})

-- `(memory 1)` and `(tag)` at position n
abbrev pub one_page : MemoryType
one_page = record { limits = record { is64 = false; min = 1; max = None }; shared = false; page_size_log2 = None }

abbrev pub memory_at : ℕ → ModuleField
memory_at n = field.Memory (record { span = place (n + 1); id = None; name = None; exports = record { names = [] }; kind = memory.Normal one_page })

abbrev pub tag_at : ℕ → ModuleField
tag_at n = field.Tag (record { span = place (n + 1); id = None; name = None; exports = record { names = [] }; ty = tag.Exception no_use; kind = tag_kind.Inline })

-- `(module (func) (import "" "" (func)))`, `(module (tag) (import "" "" (func)))` and
-- `(module (memory 1) (import "" "" (func)))`: E1 at the import.
abbrev pub Row12 : Type 0
Row12 = (a b : Address) → first_unmet (demands (fields_with_implied_types (func_at 8 None None ∷ import_at a b 15 None ∷ []))) ≡ Some (ImportAfter (codes "function"), place 16)

abbrev pub Row21 : Type 0
Row21 = (a b : Address) → first_unmet (demands (fields_with_implied_types (tag_at 8 ∷ import_at a b 14 None ∷ []))) ≡ Some (ImportAfter (codes "tag"), place 15)

abbrev pub BehindAMemory : Type 0
BehindAMemory = (a b : Address) → first_unmet (demands (fields_with_implied_types (memory_at 8 ∷ import_at a b 19 None ∷ []))) ≡ Some (ImportAfter (codes "memory"), place 20)

-- `(module (memory 1) (tag) (import "" "" (func)) (import "" "" (func)))`: E1 at the first import, after a tag. And
-- `(module (import "" "" (func)) (memory 1))`: no error.
abbrev pub ImportsInOrder : Type 0
ImportsInOrder = (a b c d : Address) →
    (first_unmet (demands (fields_with_implied_types (memory_at 8 ∷ tag_at 19 ∷ import_at a b 25 None ∷ import_at c d 47 None ∷ []))) ≡ Some (ImportAfter (codes "tag"), place 26))
    × (first_unmet (demands (fields_with_implied_types (import_at a b 8 None ∷ memory_at 30 ∷ []))) ≡ None)

-- `(module (import "" "" (func $f)) (import "" "" (func $f)))`: E2 at the second. After `(memory 1)` it is E1.
abbrev pub twice_imported : (a b c d e f : Address) → ℕ → List ModuleField
twice_imported a b c d e f n = import_at a b n (Some (id_at c (codes "f") (n + 20))) ∷ import_at d e (n + 25) (Some (id_at f (codes "f") (n + 45))) ∷ []

abbrev pub ImportedTwice : Type 0
ImportedTwice = (a b c d e f : Address) →
    (first_unmet (demands (fields_with_implied_types (twice_imported a b c d e f 8))) ≡ Some (Duplicate (codes "func"), place 53))
    × (first_unmet (demands (fields_with_implied_types (memory_at 8 ∷ twice_imported a b c d e f 19))) ≡ Some (ImportAfter (codes "memory"), place 20))

-- `(module (start $f))`: E4 at the id.
abbrev pub UnknownStart : Type 0
UnknownStart = (a : Address) → first_unmet (demands (fields_with_implied_types (field.Start (by_id a (codes "f") 15) ∷ []))) ≡ Some (Unknown (codes "func") (codes "f"), place 15)

-- `(func $a)` at position n
abbrev pub named_func : Address → ℕ → ModuleField
named_func a n = field.Func (record {
  span = place (n + 1);
  id = Some (id_at a (codes "a") (n + 6));
  name = None;
  exports = record { names = [] };
  kind = func.Inline [] (record { instrs = []; branch_hints = [] });
  ty = no_use;
})

-- `(module (start $x) (func $a) (func $a))`: E2 at the second function, before E4 at `$x`.
abbrev pub Row13 : Type 0
Row13 = (a b c : Address) → first_unmet (demands (fields_with_implied_types (field.Start (by_id a (codes "x") 15) ∷ named_func b 19 ∷ named_func c 29 ∷ []))) ≡ Some (Duplicate (codes "func"), place 35)
