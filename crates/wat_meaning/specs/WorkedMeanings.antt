-- Two trees of one text, and what they mean, as the prover computes it.
--
-- The text is `(module (func $f) (export "a" (func $f)))`. Each tree has the three texts at addresses of its own.
use Rattle.std.specs.Prelude.{◌≡◌, List, [], ◌∷◌, Some, None, codes}
use Rattle.std.specs.List.{flat_map}
use Rattle.wasm_out.specs.Parts.{part}
use Rattle.wast_tree_nodes.specs.WorkedModules.{Address, id_at, by_id, place, export_field}
use Rattle.wast_resolve_rules.specs.Demands.{first_unmet, demands}
use Rattle.wast_resolve_rules.specs.Explicit.{explicit_fields, generated_id_count}
use Rattle.wast_core.specs.Meaning.{meaning}
use Rattle.wast_core.specs.Tree.{ModuleField}
use Rattle.wast_core.specs.Tree.func
use Rattle.wast_core.specs.Tree.field
use Rattle.wat_syntax.specs.BareFields.{bare_fields}

-- `(func $f)` at 8, without a type
abbrev func_alone : Address → ModuleField
func_alone a = field.Func (record {
  span = place 9;
  id = Some (id_at a (codes "f") 14);
  name = None;
  exports = record { names = [] };
  kind = func.Inline [] (record { instrs = []; branch_hints = [] });
  ty = record { index = None; inline = None };
})

-- the fields, with the text of the function's id, that of the name of the export, and that of the exported id
abbrev pub exported : (a b c : Address) → List ModuleField
exported a b c = func_alone a ∷ export_field b 18 (by_id c (codes "f") 36) ∷ []

-- Two trees are alike but for addresses. Each passes the checks, has one generated id, and means the same sections: a type, a function,
-- an export, a body, and the name of the function.
abbrev pub TwoTrees : Type 0
TwoTrees = (a b c d e f : Address) →
    (bare_fields (exported a b c) ≡ bare_fields (exported d e f))
    × (first_unmet (demands (explicit_fields (exported a b c))) ≡ None)
    × (generated_id_count (exported a b c) ≡ 1)
    × (meaning None (exported a b c) ≡ meaning None (exported d e f))
    × (flat_map part (meaning None (exported a b c))
    ≡ 0x01 ∷ 0x04 ∷ 0x01 ∷ 0x60 ∷ 0x00 ∷ 0x00
    ∷ 0x03 ∷ 0x02 ∷ 0x01 ∷ 0x00
    ∷ 0x07 ∷ 0x05 ∷ 0x01 ∷ 0x01 ∷ 0x61 ∷ 0x00 ∷ 0x00
    ∷ 0x0a ∷ 0x04 ∷ 0x01 ∷ 0x02 ∷ 0x00 ∷ 0x0b
    ∷ 0x00 ∷ 0x0b ∷ 0x04 ∷ 0x6e ∷ 0x61 ∷ 0x6d ∷ 0x65 ∷ 0x01 ∷ 0x04 ∷ 0x01 ∷ 0x00 ∷ 0x01 ∷ 0x66 ∷ [])
