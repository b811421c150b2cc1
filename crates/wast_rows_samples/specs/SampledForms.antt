-- Fields with one unsupported construct, and no other (text format: modules).
--
--   (func i64.add128)      has `Beyond` alone
use Rattle.std.specs.Prelude.{◌≡◌, List, [], ◌∷◌, None}
use Rattle.wast_base.specs.declared.faults.Form.{Form}
use Rattle.wast_base.specs.declared.ids.Span.{Span}
use Rattle.wast_tree_nodes.specs.declared.instrs.Instruction.{Instruction}
use Rattle.wast_tree_nodes.specs.declared.fields.FuncKind.TheVariants as func
use Rattle.wast_tree_nodes.specs.declared.fields.ModuleField.{ModuleField}
use Rattle.wast_tree_nodes.specs.declared.fields.ModuleField.TheVariants as field
use Rattle.wast_tree_nodes.specs.Uncovered.{uncovered_forms}

-- The fields have this unsupported construct once, and no other.
abbrev pub HoldsAlone : Form → List ModuleField → Type 0
HoldsAlone f fields = uncovered_forms fields ≡ f ∷ []

-- `(func ..)` with these instructions.
abbrev pub plain_func : Span → List Instruction → ModuleField
plain_func span instrs = field.Func (record {
  span = span;
  id = None;
  name = None;
  exports = record { names = [] };
  kind = func.Inline [] (record { instrs = instrs; branch_hints = [] });
  ty = record { index = None; inline = None };
})
