-- Example modules with the error that the checks before resolving report. Names may be at any address.
use Rattle.std.specs.Prelude.{◌≡◌, ℕ, ◌+◌, false, [], ◌∷◌, Option, Some, None, codes}
use Rattle.wast_base.specs.Faults.{ImportAfter, Duplicate}
use Rattle.wast_tree_nodes.specs.WorkedModules.{Address, text, place, id_at, by_id, row32}
use Rattle.wast_expand_keys.specs.WorkedExpansions.{func_at}
use Rattle.wast_resolve_rules.specs.Tree.{Id, ModuleField}
use Rattle.wast_resolve_rules.specs.Tree.func
use Rattle.wast_resolve_rules.specs.Tree.field
use Rattle.wast_resolve_rules.specs.Demands.{first_unmet}
use Rattle.wast_resolve_rules.specs.Early.{early_demands}
use Rattle.wast_resolve_rules.specs.WorkedImports.{no_use, import_at, tag_at, named_func}

-- rows 12 and 21: E1 at the import; row 13: E2 at the second function, although the start function is unknown; row 32:
-- E2 at the second type
abbrev pub RowsEarly : Type 0
RowsEarly = (a b c : Address) →
    (first_unmet (early_demands (func_at 8 None None ∷ import_at a b 15 None ∷ [])) ≡ Some (ImportAfter (codes "function"), place 16))
    × (first_unmet (early_demands (tag_at 8 ∷ import_at a b 14 None ∷ [])) ≡ Some (ImportAfter (codes "tag"), place 15))
    × (first_unmet (early_demands (field.Start (by_id a (codes "x") 15) ∷ named_func b 19 ∷ named_func c 29 ∷ [])) ≡ Some (Duplicate (codes "func"), place 35))
    × (first_unmet (early_demands (row32 a b)) ≡ Some (Duplicate (codes "type"), place 31))

-- `(func .. (import "" ""))` at position n
abbrev pub imported_func : (a b : Address) → ℕ → Option Id → ModuleField
imported_func a b n id = field.Func (record {
  span = place (n + 1);
  id = id;
  name = None;
  exports = record { names = [] };
  kind = func.Import (record { «module» = text a []; field = text b [] }) false;
  ty = no_use;
})

-- `(module (func) (func (import "" "")))`: E1 at the second.
-- `(module (func $a (import "" "")) (func $a (import "" "")))` has no definition: E2 at the second.
abbrev pub ImportedInPlace : Type 0
ImportedInPlace = (a b c d e f : Address) →
    (first_unmet (early_demands (func_at 8 None None ∷ imported_func a b 15 None ∷ [])) ≡ Some (ImportAfter (codes "function"), place 16))
    × (first_unmet (early_demands (imported_func a b 8 (Some (id_at c (codes "a") 14)) ∷ imported_func d e 33 (Some (id_at f (codes "a") 39)) ∷ [])) ≡ Some (Duplicate (codes "func"), place 39))
