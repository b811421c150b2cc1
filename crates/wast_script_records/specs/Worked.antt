-- Examples that compute: the number of one value of each kind.
use Rattle.std.specs.Prelude.{◌≡◌}
use Rattle.wast_tree_nodes.specs.declared.types.AbstractHeapType.TheVariants as heap
use Rattle.wast_script.specs.declared.commands.ActionKind.TheVariants as action
use Rattle.wast_script.specs.declared.commands.CommandKind.TheVariants as command
use Rattle.wast_script.specs.declared.commands.ModuleForm.TheVariants as form
use Rattle.wast_script.specs.declared.values.Shape.TheVariants as shape
use Rattle.wast_script_records.specs.Numbers.{command_number, action_number, form_number, shape_number, heap_number}

-- The end of a thread, `get`, a quoted module, the shape `i64x2` and the heap type `none`.
abbrev pub NumbersOfFive : Type 0
NumbersOfFive =
    (command_number command.ThreadEnd ≡ 16) × (action_number action.Get ≡ 1) × (form_number form.Quote ≡ 2)
    × (shape_number shape.I64x2 ≡ 3) × (heap_number heap.None ≡ 10)
