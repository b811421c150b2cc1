-- The numbers that records have for what a script says in words: types of commands, forms of modules, shapes and heap types.
--
--   (assert_trap (invoke "f") "a")      a command of type 6, with an action of kind 0
use Rattle.std.specs.Prelude.{ℕ}
use Rattle.wast_tree_nodes.specs.declared.types.AbstractHeapType.{AbstractHeapType}
use Rattle.wast_tree_nodes.specs.declared.types.AbstractHeapType.TheVariants as heap
use Rattle.wast_script.specs.declared.commands.ActionKind.{ActionKind}
use Rattle.wast_script.specs.declared.commands.ActionKind.TheVariants as action
use Rattle.wast_script.specs.declared.commands.CommandKind.{CommandKind}
use Rattle.wast_script.specs.declared.commands.CommandKind.TheVariants as command
use Rattle.wast_script.specs.declared.commands.ModuleForm.{ModuleForm}
use Rattle.wast_script.specs.declared.commands.ModuleForm.TheVariants as form
use Rattle.wast_script.specs.declared.values.Shape.{Shape}
use Rattle.wast_script.specs.declared.values.Shape.TheVariants as shape

-- The number of what a command does or asserts.
abbrev pub command_number : CommandKind → ℕ
command_number (command.Module m) = 0
command_number (command.Definition m) = 1
command_number (command.Instance i m) = 2
command_number (command.Register n m) = 3
command_number (command.Action a) = 4
command_number (command.AssertReturn e r) = 5
command_number (command.AssertTrap e t) = 6
command_number (command.AssertExhaustion a t) = 7
command_number (command.AssertException e) = 8
command_number (command.AssertSuspension e t) = 9
command_number (command.AssertMalformed m t) = 10
command_number (command.AssertMalformedCustom m t) = 11
command_number (command.AssertInvalid m t) = 12
command_number (command.AssertInvalidCustom m t) = 13
command_number (command.AssertUnlinkable m t) = 14
command_number (command.Thread i m) = 15
command_number command.ThreadEnd = 16
command_number (command.Wait i) = 17

-- The number of what an action does.
abbrev pub action_number : ActionKind → ℕ
action_number action.Invoke = 0
action_number action.Get = 1

-- The number of the form in which a script has a module.
abbrev pub form_number : ModuleForm → ℕ
form_number form.Fields = 0
form_number form.Binary = 1
form_number form.Quote = 2

-- The number of the shape of a vector (text format: vector instructions).
abbrev pub shape_number : Shape → ℕ
shape_number shape.I8x16 = 0
shape_number shape.I16x8 = 1
shape_number shape.I32x4 = 2
shape_number shape.I64x2 = 3
shape_number shape.F32x4 = 4
shape_number shape.F64x2 = 5

-- The number of an abstract heap type (text format: heap types).
abbrev pub heap_number : AbstractHeapType → ℕ
heap_number heap.Func = 0
heap_number heap.Extern = 1
heap_number heap.Exn = 2
heap_number heap.NoExn = 3
heap_number heap.Any = 4
heap_number heap.Eq = 5
heap_number heap.Struct = 6
heap_number heap.Array = 7
heap_number heap.NoFunc = 8
heap_number heap.NoExtern = 9
heap_number heap.None = 10
heap_number heap.I31 = 11
heap_number heap.Cont = 12
heap_number heap.NoCont = 13
