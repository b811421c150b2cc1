-- What is known of a module's exports. How it is read from the bytes of the module is tested and not stated.
use Rattle.std.specs.Prelude.{ℕ, ◌==◌, List, codes, slice_get, string_bytes, Option, None, option_map, option_and_then, unwrap_or, if◌then◌else◌}
use Rattle.std.specs.BTreeMap.{get_by}
use Rattle.std.specs.Cmp.Lexicographic.{slice_cmp}
use Rattle.std.specs.Global.{Vec}
use Rattle.std.specs.Ordering.{nat_cmp}
use Rattle.wast_script_json.specs.declared.interfaces.Item.{Item}
use Rattle.wast_script_json.specs.declared.interfaces.Interface.{Interface}

-- the item that is exported under a name
abbrev pub exported : Interface → List ℕ → Option Item
exported i name = get_by (λ (k : Vec ℕ). slice_cmp nat_cmp name k.items) i.exports

-- the types of the results of the function of a number, and the type of the global of one, as lists in JSON
abbrev pub function_types : Interface → ℕ → Option (List ℕ)
function_types i n = option_map string_bytes (option_and_then (slice_get i.types.items) (slice_get i.functions.items n))

abbrev pub global_types : Interface → ℕ → Option (List ℕ)
global_types i n = option_map string_bytes (slice_get i.globals.items n)

-- the types of an item
abbrev pub item_types : Interface → Item → Option (List ℕ)
item_types i x = if x.kind == 0 then function_types i x.number else (if x.kind == 3 then global_types i x.number else None)

-- the types of the results of an export; none if there is no such export
abbrev pub types_of : Interface → List ℕ → List ℕ
types_of i name = unwrap_or (option_and_then (item_types i) (exported i name)) (codes "[]")
