-- What each command is in JSON: its type, and the module or the action that it has, with the message and the results of an assertion.
--
--   (assert_trap (invoke "f") "a")      assert_trap, with an action
--   (assert_trap (module ..) "a")       assert_uninstantiable, with a module
use Rattle.std.specs.Prelude.{ℕ, ◌&&◌, nat_le, Bool, true, false, List, [], ◌∷◌, length, codes, Option, None, Some, option_map, if◌then◌else◌}
use Rattle.std.specs.Borrow.{Bor}
use Rattle.wast_script.specs.declared.values.Part.{Part}
use Rattle.wast_script.specs.declared.commands.ModuleForm.{ModuleForm}
use Rattle.wast_script.specs.declared.commands.ModuleForm.TheVariants as form
use Rattle.wast_script.specs.declared.commands.ScriptModule.{ScriptModule}
use Rattle.wast_script.specs.declared.commands.Action.{Action}
use Rattle.wast_script.specs.declared.commands.Execution.{Execution}
use Rattle.wast_script.specs.declared.commands.Execution.TheVariants as run
use Rattle.wast_script.specs.declared.commands.CommandKind.{CommandKind}
use Rattle.wast_script.specs.declared.commands.CommandKind.TheVariants as kind
use Rattle.wast_script.specs.declared.commands.Command.{Command}
use Rattle.wast_script.specs.declared.scripts.Script.{Script}
use Rattle.wast_script_json.specs.declared.kinds.Role.{Role}
use Rattle.wast_script_json.specs.declared.kinds.Role.TheVariants as role
use Rattle.wast_script_json.specs.declared.kinds.Entry as code
use Rattle.wast_script_json.specs.declared.kinds.Entry.TheVariants as entry

-- a command by what it has: its type, its module with what that is for and whether it is only defined, or its action, and its message
-- and results
pub data Entry : Type 0 where
  OfModule : List ℕ → ScriptModule → Role → Bool → Option (List ℕ) → Entry
  OfAction : List ℕ → Action → Option (List ℕ) → Option Part → Entry
  Other : Entry

-- a message without its address
abbrev pub told : Option (Bor (List ℕ)) → Option (List ℕ)
told message = option_map (λ (t : Bor (List ℕ)). t.now) message

-- the code's entry, without the addresses of its texts
abbrev pub entry_in : code.Entry → Entry
entry_in (entry.Module e) = OfModule e.ty.now e.«module» e.role e.is_definition (told e.message)
entry_in (entry.Action e) = OfAction e.ty.now e.action (told e.message) e.results
entry_in entry.Other = Other

-- what is run: an action, or a module that is instantiated, each with its own type
abbrev pub executed : List ℕ → List ℕ → Execution → Option (List ℕ) → Option Part → Entry
executed of_action of_module (run.Action a) message results = OfAction of_action a message results
executed of_action of_module (run.Module m) message results = OfModule of_module m role.Started false message

-- an assertion that a module is wrong
abbrev pub wrong : List ℕ → ScriptModule → List ℕ → Entry
wrong ty m message = OfModule ty m role.Wrong false (Some message)

abbrev pub entry_of : CommandKind → Entry
entry_of (kind.Module m) = OfModule (codes "module") m role.Run false None
entry_of (kind.Definition m) = OfModule (codes "module") m role.Run true None
entry_of (kind.Instance i m) = Other
entry_of (kind.Register name m) = Other
entry_of (kind.Action a) = OfAction (codes "action") a None None
entry_of (kind.AssertReturn e results) = executed (codes "assert_return") (codes "assert_return") e None (Some results)
entry_of (kind.AssertTrap e text) = executed (codes "assert_trap") (codes "assert_uninstantiable") e (Some text.now) None
entry_of (kind.AssertExhaustion a text) = OfAction (codes "assert_exhaustion") a (Some text.now) None
entry_of (kind.AssertException e) = executed (codes "assert_exception") (codes "assert_exception") e None None
entry_of (kind.AssertSuspension e text) = executed (codes "assert_suspension") (codes "assert_suspension") e (Some text.now) None
entry_of (kind.AssertMalformed m text) = wrong (codes "assert_malformed") m text.now
entry_of (kind.AssertMalformedCustom m text) = wrong (codes "assert_malformed_custom") m text.now
entry_of (kind.AssertInvalid m text) = wrong (codes "assert_invalid") m text.now
entry_of (kind.AssertInvalidCustom m text) = wrong (codes "assert_invalid_custom") m text.now
entry_of (kind.AssertUnlinkable m text) = OfModule (codes "assert_unlinkable") m role.Started false (Some text.now)
entry_of (kind.Thread i m) = Other
entry_of kind.ThreadEnd = Other
entry_of (kind.Wait i) = Other

-- the module of an entry, and what it is for
abbrev pub module_in : Entry → Option (ScriptModule × Role)
module_in (OfModule ty m r d message) = Some (m, r)
module_in (OfAction ty a message results) = None
module_in Other = None

-- whether a module has fields
abbrev pub has_fields : ModuleForm → Bool
has_fields form.Fields = true
has_fields form.Binary = false
has_fields form.Quote = false

-- whether a command is a module of no tokens, which a text of blanks and comments is read as
abbrev pub is_nothing : List ℕ → CommandKind → Bool
is_nothing text (kind.Module m) = has_fields m.form && nat_le (length text) m.span.offset
is_nothing text k = false

-- whether the first of the commands is none
abbrev pub starts_with_nothing : List ℕ → List Command → Bool
starts_with_nothing text [] = true
starts_with_nothing text (c ∷ cs) = is_nothing text c.kind

-- whether a script has blanks and comments alone
abbrev pub has_nothing : Script → Bool
has_nothing s = starts_with_nothing s.text.now s.commands.items

-- the commands of a script; one of blanks and comments has none
abbrev pub commands_in : Script → List Command
commands_in s = if has_nothing s then [] else s.commands.items
