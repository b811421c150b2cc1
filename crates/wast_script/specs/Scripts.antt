-- What a script holds, without addresses: its commands and values as the rules of Grammar and Constants have them.
--
-- A `Part` is the elements of a list from a number on: of `a b c d` the part from 1 up to 3 is `b c`.
use Rattle.std.specs.Prelude.{◌≡◌, ℕ, nat_le, ◌&&◌, if◌then◌else◌, List, [], ◌∷◌, ◌++◌, length, map, min, take, drop, slice_range, option_map}
use Rattle.wast_base.specs.Ids.{text_start}
use Rattle.wat_tokens.specs.declared.tokens.Token.{Token}
use Rattle.wat_tokens.specs.declared.tokens.Token.TheVariants as token
use Rattle.wat_tokens.specs.declared.tokens.Placed.{Placed}
use Rattle.wat_syntax.specs.Tree.{Span}
use Rattle.wat_syntax.specs.Tokens.{position_in}
use Rattle.wat_syntax.specs.Bare.{bare_placed, bare_id, bare_id_option, bare_heap, bare_index_option}
use Rattle.wast_script.specs.Constants.{Value, I32, I64, F32, F64, V128, RefNull, RefExtern, RefHost, RefFunc, Ref, Either}
use Rattle.wast_script.specs.Grammar.{Contents, Module, Action, Execution, Runs, Instantiates, Kind, Module_, Definition, Instance, Register, Acts}
use Rattle.wast_script.specs.Grammar.{AssertReturn, AssertTrap, AssertExhaustion, AssertException, AssertSuspension, AssertMalformed}
use Rattle.wast_script.specs.Grammar.{AssertMalformedCustom, AssertInvalid, AssertInvalidCustom, AssertUnlinkable, Thread, ThreadEnd, Wait, Command}
use Rattle.wast_script.specs.declared.values.Part.{Part}
use Rattle.wast_script.specs.declared.values.Number.{Number}
use Rattle.wast_script.specs.declared.values.Value as code_value
use Rattle.wast_script.specs.declared.values.Value.TheVariants as val
use Rattle.wast_script.specs.declared.commands.ModuleForm.{ModuleForm}
use Rattle.wast_script.specs.declared.commands.ScriptModule.{ScriptModule}
use Rattle.wast_script.specs.declared.commands.Action as code_action
use Rattle.wast_script.specs.declared.commands.Execution as code_execution
use Rattle.wast_script.specs.declared.commands.Execution.TheVariants as run
use Rattle.wast_script.specs.declared.commands.CommandKind.{CommandKind}
use Rattle.wast_script.specs.declared.commands.CommandKind.TheVariants as kind
use Rattle.wast_script.specs.declared.commands.Command as code_command
use Rattle.wast_script.specs.declared.scripts.Script.{Script}

-- the elements of a part of a list; none if the list has no such part
abbrev pub part : {T : Type 0} → Part → List T → List T
part p xs = if nat_le p.start p.end && nat_le p.end (length xs) then slice_range xs p.start p.end else []

-- a value, by the lanes of all vectors
abbrev pub value_in : List Number → code_value.Value → Value
value_in lanes (val.I32 n) = I32 n
value_in lanes (val.I64 n) = I64 n
value_in lanes (val.F32 n) = F32 n
value_in lanes (val.F64 n) = F64 n
value_in lanes (val.V128 s p) = V128 s (part p lanes)
value_in lanes (val.RefNull t) = RefNull (option_map bare_heap t)
value_in lanes (val.RefExtern n) = RefExtern n
value_in lanes (val.RefHost n) = RefHost n
value_in lanes (val.RefFunc x) = RefFunc (bare_index_option x)
value_in lanes (val.Ref t) = Ref (bare_heap t)
value_in lanes (val.Either n) = Either n

-- the form and the strings of a module, by the tokens of the script
abbrev pub contents_in : ModuleForm × Part → List Placed → Contents
contents_in c tokens = record { form = c.0; strings = part c.1 tokens }

-- a module, by the tokens of the script
abbrev pub module_in : List Placed → ScriptModule → Module
module_in tokens m = record {
  span = m.span;
  id = bare_id_option m.id;
  form = m.form;
  tokens = part m.head tokens ++ part m.rest tokens;
  strings = part m.strings tokens;
}

-- an action, by the values of all commands
abbrev pub action_in : List Value → code_action.Action → Action
action_in values a = record { span = a.span; kind = a.kind; «module» = bare_id_option a.«module»; name = a.name.now; arguments = part a.arguments values }

abbrev pub execution_in : List Placed → List Value → code_execution.Execution → Execution
execution_in tokens values (run.Action a) = Runs (action_in values a)
execution_in tokens values (run.Module m) = Instantiates (module_in tokens m)

abbrev pub kind_in : List Placed → List Value → CommandKind → Kind
kind_in tokens values (kind.Module m) = Module_ (module_in tokens m)
kind_in tokens values (kind.Definition m) = Definition (module_in tokens m)
kind_in tokens values (kind.Instance i m) = Instance (bare_id_option i) (bare_id_option m)
kind_in tokens values (kind.Register name m) = Register name.now (bare_id_option m)
kind_in tokens values (kind.Action a) = Acts (action_in values a)
kind_in tokens values (kind.AssertReturn e results) = AssertReturn (execution_in tokens values e) (part results values)
kind_in tokens values (kind.AssertTrap e text) = AssertTrap (execution_in tokens values e) text.now
kind_in tokens values (kind.AssertExhaustion a text) = AssertExhaustion (action_in values a) text.now
kind_in tokens values (kind.AssertException e) = AssertException (execution_in tokens values e)
kind_in tokens values (kind.AssertSuspension e text) = AssertSuspension (execution_in tokens values e) text.now
kind_in tokens values (kind.AssertMalformed m text) = AssertMalformed (module_in tokens m) text.now
kind_in tokens values (kind.AssertMalformedCustom m text) = AssertMalformedCustom (module_in tokens m) text.now
kind_in tokens values (kind.AssertInvalid m text) = AssertInvalid (module_in tokens m) text.now
kind_in tokens values (kind.AssertInvalidCustom m text) = AssertInvalidCustom (module_in tokens m) text.now
kind_in tokens values (kind.AssertUnlinkable m text) = AssertUnlinkable (module_in tokens m) text.now
kind_in tokens values (kind.Thread x m) = Thread (bare_id x) (bare_id_option m)
kind_in tokens values kind.ThreadEnd = ThreadEnd
kind_in tokens values (kind.Wait x) = Wait (bare_id x)

abbrev pub command_in : List Placed → List Value → code_command.Command → Command
command_in tokens values c = record { span = c.span; kind = kind_in tokens values c.kind }

-- the bytes of strings, one after another
abbrev pub string_bytes : Token → List ℕ
string_bytes (token.String bytes) = bytes.now
string_bytes t = []

abbrev pub joined_bytes : List Placed → List ℕ
joined_bytes [] = []
joined_bytes (p ∷ ps) = string_bytes p.token ++ joined_bytes ps

-- a command at its position, or at the end of a text of so many bytes if it is after it
abbrev pub placed_up_to : ℕ → code_command.Command → code_command.Command
placed_up_to n c = record { span = record { offset = min c.span.offset n }; kind = c.kind }

-- where a module begins: at its first token, or at the start of the text if it has no parentheses
abbrev pub start_in : List Placed → ScriptModule → Span
start_in tokens m = position_in (part m.head tokens) text_start

-- A piece of a text that begins at an offset.
pub record IsPieceAt (text : List ℕ) (start : ℕ) (piece : List ℕ) : Type 0 where
  pub size : ℕ
  pub is : piece ≡ take size (drop start text)

-- the tokens, the values and the commands of a script
abbrev pub script_tokens : Script → List Placed
script_tokens s = map bare_placed s.tokens.items

abbrev pub values_of : Script → List Value
values_of s = map (value_in s.lanes.items) s.values.items

abbrev pub commands_of : Script → List Command
commands_of s = map (command_in (script_tokens s) (values_of s)) s.commands.items
