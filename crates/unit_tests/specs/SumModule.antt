-- The module that the example writes, as a list of sections.
--
-- It has a type, a function of this type, its export "sum", its body, and a custom section.
use Rattle.std.specs.Prelude.{true, false, List, [], ◌∷◌, None, codes}
use Rattle.wast_base.specs.declared.plain.Plain.TheVariants as plain
use Rattle.wast_base.specs.declared.plain.I32Op.TheVariants as i32
use Rattle.wasm_ops.specs.declared.types.CompositeInnerType.TheVariants as inner
use Rattle.wasm_ops.specs.declared.types.ExportKind.TheVariants as kind
use Rattle.wasm_ops.specs.declared.types.SubType.{SubType}
use Rattle.wasm_ops.specs.declared.types.ValType.TheVariants as val
use Rattle.wast_base.specs.declared.index_ops.IndexOp.TheVariants as op
use Rattle.wasm_ops.specs.IndexInstrs.{index_instr}
use Rattle.wasm_ops.specs.PlainInstrs.{plain_instr}
use Rattle.wasm_ops.specs.Table.{Instr}
use Rattle.wasm_out.specs.Bodies.{Body}
use Rattle.wasm_out.specs.Parts.{Types, Functions, Exports, Code, Single, Custom, Listed, ExportEntry, Part}

-- (func (param i32 i32) (result i32))
abbrev pub sum_type : SubType
sum_type = record {
  composite_type = record {
    inner = inner.Func (record { params = val.I32 ∷ val.I32 ∷ []; results = val.I32 ∷ [] });
    shared = false;
    descriptor = None;
    describes = None;
  };
  is_final = true;
  supertype_idxs = [];
}

-- local.get 0 local.get 1 i32.add
abbrev pub sum_instrs : List Instr
sum_instrs = index_instr op.LocalGet 0 ∷ index_instr op.LocalGet 1 ∷ plain_instr (plain.I32 i32.i32_add) ∷ []

-- A body of these instructions, without locals.
abbrev pub sum_body : Body
sum_body = record { locals = []; instrs = sum_instrs }

-- The export "sum" of function 0.
abbrev pub sum_export : ExportEntry
sum_export = record { name = codes "sum"; kind = kind.Func; index = 0 }

-- The sections, in the order of the module.
abbrev pub sum_module : List Part
sum_module =
    record { kind = Listed Types; items = Single sum_type ∷ [] }
    ∷ record { kind = Listed Functions; items = 0 ∷ [] }
    ∷ record { kind = Listed Exports; items = sum_export ∷ [] }
    ∷ record { kind = Listed Code; items = sum_body ∷ [] }
    ∷ record { kind = Custom; items = record { name = codes "made"; bytes = codes "by hand" } }
    ∷ []
