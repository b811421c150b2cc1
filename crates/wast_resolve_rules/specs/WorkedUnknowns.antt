-- Example modules with several unknown ids in a field, with the one that is reported. Names may be at any address.
use Rattle.std.specs.Prelude.{◌≡◌, false, true, List, [], ◌∷◌, Some, None, codes}
use Rattle.wast_base.specs.Faults.{Unknown}
use Rattle.wast_tree_nodes.specs.WorkedModules.{Address, place, by_id, by_number}
use Rattle.wast_resolve_rules.specs.Tree.{Index, RefType, Instruction, Expression, ModuleField}
use Rattle.wast_resolve_rules.specs.Tree.heap
use Rattle.wast_resolve_rules.specs.Tree.value
use Rattle.wast_resolve_rules.specs.Tree.instr
use Rattle.wast_resolve_rules.specs.Tree.elem
use Rattle.wast_resolve_rules.specs.Tree.payload
use Rattle.wast_resolve_rules.specs.Tree.table
use Rattle.wast_resolve_rules.specs.Tree.global
use Rattle.wast_resolve_rules.specs.Tree.field
use Rattle.wast_resolve_rules.specs.Demands.{first_unmet, demands}
use Rattle.wast_resolve_rules.specs.Explicit.{explicit_fields}

-- a constant expression of one instruction, and `(ref null ..)`
abbrev pub one : Instruction → Expression
one i = record { instrs = i ∷ []; branch_hints = [] }

abbrev pub nullable_to : Index → RefType
nullable_to i = record { nullable = true; heap = heap.Concrete i }

-- `(elem (table ..) (global.get ..) func ..)`: the table, the offset, then the functions
abbrev pub filling : Index → Index → Index → List ModuleField
filling filled start held =
    field.Elem (record { span = place 9; id = None; name = None; kind = elem.Active (Some filled) (one (instr.global_get start)); payload = payload.Indices (held ∷ []) }) ∷ []

-- `(module (elem (table $t) (global.get $g) func $f))`, and with numbers instead of the first ids
abbrev pub UnknownInSegments : Type 0
UnknownInSegments = (a b c : Address) →
    (first_unmet (demands (explicit_fields (filling (by_id a (codes "t") 21) (by_id b (codes "g") 37) (by_id c (codes "f") 46)))) ≡ Some (Unknown (codes "table") (codes "t"), place 21))
    × (first_unmet (demands (explicit_fields (filling (by_number 0 21) (by_id b (codes "g") 36) (by_id c (codes "f") 45)))) ≡ Some (Unknown (codes "global") (codes "g"), place 36))
    × (first_unmet (demands (explicit_fields (filling (by_number 0 21) (by_number 0 36) (by_id c (codes "f") 44)))) ≡ Some (Unknown (codes "func") (codes "f"), place 44))

-- `(table 1 (ref null ..) (global.get ..))`: the type, then the initial value
abbrev pub table_of : Index → Index → List ModuleField
table_of type start =
    field.Table (record {
      span = place 9;
      id = None;
      name = None;
      exports = record { names = [] };
      kind = table.Normal (record { limits = record { is64 = false; min = 1; max = None }; elem = nullable_to type; shared = false }) (Some (one (instr.global_get start)));
    })
    ∷ []

-- `(module (table 1 (ref null $t) (global.get $g)))`, and with a number for the type
abbrev pub UnknownInTables : Type 0
UnknownInTables = (a b : Address) →
    (first_unmet (demands (explicit_fields (table_of (by_id a (codes "t") 27) (by_id b (codes "g") 43)))) ≡ Some (Unknown (codes "type") (codes "t"), place 27))
    × (first_unmet (demands (explicit_fields (table_of (by_number 0 27) (by_id b (codes "g") 42)))) ≡ Some (Unknown (codes "global") (codes "g"), place 42))

-- `(global (ref null ..) (ref.func ..))`: the type, then the value
abbrev pub global_of : Index → Index → List ModuleField
global_of type held =
    field.Global (record {
      span = place 9;
      id = None;
      name = None;
      exports = record { names = [] };
      ty = record { ty = value.Ref (nullable_to type); mutable = false; shared = false };
      kind = global.Inline (one (instr.ref_func held));
    })
    ∷ []

-- `(module (global (ref null $t) (ref.func $f)))`, and with a number for the type
abbrev pub UnknownInGlobals : Type 0
UnknownInGlobals = (a b : Address) →
    (first_unmet (demands (explicit_fields (global_of (by_id a (codes "t") 26) (by_id b (codes "f") 40)))) ≡ Some (Unknown (codes "type") (codes "t"), place 26))
    × (first_unmet (demands (explicit_fields (global_of (by_number 0 26) (by_id b (codes "f") 39)))) ≡ Some (Unknown (codes "func") (codes "f"), place 39))
