-- The object of each command in JSON, by the number of its line.
--
--   (register "a" $m) on line 2      {"type": "register", "line": 2, "name": "$m", "as": "a"}
--   (wait $t) on line 9              {"type": "wait", "line": 9, "thread": "$t"}
--
-- WorkedCommands computes these.
use Rattle.std.specs.Prelude.{ℕ, Bool, true, false, List, [], ◌++◌, codes, decimal, string_bytes, Option, None, Some, if◌then◌else◌}
use Rattle.wast_base.specs.Ids.{name_of, text_of}
use Rattle.wast_base.specs.Lines.{line_of, column_of}
use Rattle.wast_base.specs.declared.ids.Id.{Id}
use Rattle.wast_base.specs.declared.ids.Span.{Span}
use Rattle.wast_script.specs.Scripts.{part}
use Rattle.wast_script.specs.declared.values.Number.{Number}
use Rattle.wast_script.specs.declared.values.Part.{Part}
use Rattle.wast_script.specs.declared.values.Value.{Value}
use Rattle.wast_script.specs.declared.commands.ScriptModule.{ScriptModule}
use Rattle.wast_script.specs.declared.commands.ActionKind.{ActionKind}
use Rattle.wast_script.specs.declared.commands.ActionKind.TheVariants as act
use Rattle.wast_script.specs.declared.commands.Action.{Action}
use Rattle.wast_script.specs.declared.commands.CommandKind.{CommandKind}
use Rattle.wast_script.specs.declared.commands.CommandKind.TheVariants as kind
use Rattle.wast_script.specs.declared.commands.Command.{Command}
use Rattle.wast_script.specs.declared.scripts.Script.{Script}
use Rattle.wast_script_json.specs.declared.kinds.Role.{Role}
use Rattle.wast_script_json.specs.declared.kinds.Role.TheVariants as role
use Rattle.wast_script_json.specs.declared.modules.ConvertedModule.{ConvertedModule}
use Rattle.wast_script_json.specs.declared.modules.ConvertedModule.TheVariants as form
use Rattle.wast_script_json.specs.Json.{string, id_string, key, member}
use Rattle.wast_script_json.specs.Values.{list_text, results_text}
use Rattle.wast_script_json.specs.Entries.{Entry, OfModule, OfAction, Other, entry_of}
use Rattle.wast_script_json.specs.References.{State, of_instance, of_module, skips, types_in}

-- the beginning of a command: its type, and then its line
unfoldable pub typed_as : List ℕ → List ℕ
typed_as ty = codes "  {\"type\": " ++ string ty

unfoldable pub on_line : ℕ → List ℕ
on_line n = key (codes "line") ++ decimal n

unfoldable pub head : ℕ → List ℕ → List ℕ
head line ty = typed_as ty ++ on_line line

-- an id under a key, and a message, if there are any
abbrev pub id_member : List ℕ → Option Id → List ℕ
id_member name None = []
id_member name (Some id) = key name ++ id_string (text_of (name_of id))

abbrev pub message_member : Option (List ℕ) → List ℕ
message_member None = []
message_member (Some text) = member (codes "text") text

-- a command that is skipped, with its own type
unfoldable pub skipped_head : ℕ → List ℕ → List ℕ
skipped_head line ty = head line (codes "skipped") ++ member (codes "command") ty

-- one that refers to a module that is skipped
unfoldable pub dependent : ℕ → List ℕ → List ℕ
dependent line ty = skipped_head line ty ++ (member (codes "reason") (codes "its module is skipped") ++ codes "}")

-- a line and a column
abbrev pub column_text : ℕ → List ℕ
column_text n = key (codes "column") ++ (decimal n ++ codes "}")

unfoldable pub place_text : ℕ × ℕ → List ℕ
place_text place = codes "{\"line\": " ++ (decimal place.0 ++ column_text place.1)

-- one whose module is skipped, with the reason and its place
unfoldable pub unsupported : ℕ → List ℕ → Option Id → List ℕ → ℕ × ℕ → List ℕ
unsupported line ty id reason place =
    skipped_head line ty ++ (id_member (codes "name") id ++ (member (codes "reason") reason ++ (key (codes "place") ++ (place_text place ++ codes "}"))))

-- a module that is instantiated or defined
abbrev pub definition_member : Bool → List ℕ
definition_member false = []
definition_member true = member (codes "definition") (codes "true")

unfoldable pub module_text : ℕ → List ℕ → Bool → Option Id → List ℕ → List ℕ
module_text line ty is_definition id file =
    typed_as ty ++ (definition_member is_definition ++ (on_line line ++ (id_member (codes "name") id ++ (member (codes "filename") file ++ codes "}"))))

-- an assertion about a module
abbrev pub file_type : Bool → List ℕ
file_type false = codes "binary"
file_type true = codes "text"

unfoldable pub assertion_text : ℕ → List ℕ → List ℕ → Option (List ℕ) → Bool → List ℕ
assertion_text line ty file message is_text =
    head line ty ++ (member (codes "filename") file ++ (message_member message ++ (member (codes "module_type") (file_type is_text) ++ codes "}")))

-- a command with a module that was converted so
abbrev pub of_file : Role → ℕ → List ℕ → ScriptModule → Bool → Option (List ℕ) → List ℕ → Bool → List ℕ
of_file role.Run line ty m is_definition message file is_text = module_text line ty is_definition m.id file
of_file role.Started line ty m is_definition message file is_text = assertion_text line ty file message is_text
of_file role.Wrong line ty m is_definition message file is_text = assertion_text line ty file message is_text

abbrev pub of_converted : Option ConvertedModule → ℕ → ℕ × ℕ → List ℕ → ScriptModule → Role → Bool → Option (List ℕ) → List ℕ
of_converted None line place ty m r is_definition message = dependent line ty
of_converted (Some (form.Skipped reason span)) line place ty m r is_definition message = unsupported line ty m.id (string_bytes reason) place
of_converted (Some (form.File f)) line place ty m r is_definition message = of_file r line ty m is_definition message (string_bytes f.name) f.is_text

-- an action
abbrev pub verb : ActionKind → List ℕ
verb act.Invoke = codes "{\"type\": \"invoke\""
verb act.Get = codes "{\"type\": \"get\""

abbrev pub arguments_member : ActionKind → List Number → List Value → List ℕ
arguments_member act.Invoke lanes arguments = key (codes "args") ++ list_text lanes arguments
arguments_member act.Get lanes arguments = []

unfoldable pub action_text : Script → Action → List ℕ
action_text s a =
    key (codes "action") ++ (verb a.kind ++ (id_member (codes "module") a.«module» ++ (member (codes "field") a.name.now
    ++ (arguments_member a.kind s.lanes.items (part a.arguments s.values.items) ++ codes "}"))))

-- what is expected of an action: its results, or only their types
abbrev pub expected_text : Script → Option Part → List ℕ → List ℕ
expected_text s None types = key (codes "expected") ++ types
expected_text s (Some results) types = results_text s.lanes.items (part results s.values.items)

-- a command with an action, from its message on, and whole
abbrev pub outcome_text : Script → Option (List ℕ) → Option Part → List ℕ → List ℕ
outcome_text s message results types = message_member message ++ (expected_text s results types ++ codes "}")

unfoldable pub of_action : Script → ℕ → List ℕ → Action → Option (List ℕ) → Option Part → List ℕ → List ℕ
of_action s line ty a message results types = head line ty ++ (action_text s a ++ outcome_text s message results types)

-- one that may be skipped
abbrev pub unless_skipped : Bool → ℕ → List ℕ → List ℕ → List ℕ
unless_skipped true line ty text = dependent line ty
unless_skipped false line ty text = text

-- an instance, a registration, the beginning of a thread, and the wait for its end
unfoldable pub instance_text : ℕ → Option Id → Option Id → List ℕ
instance_text line id original = head line (codes "instance") ++ (id_member (codes "instance") id ++ (id_member (codes "definition") original ++ codes "}"))

unfoldable pub register_text : ℕ → List ℕ → Option Id → List ℕ
register_text line name id = head line (codes "register") ++ (id_member (codes "name") id ++ (member (codes "as") name ++ codes "}"))

unfoldable pub thread_text : ℕ → Id → Option Id → List ℕ
thread_text line id shared =
    head line (codes "thread") ++ (id_member (codes "name") (Some id) ++ (id_member (codes "shared_module") shared ++ (key (codes "commands") ++ codes "[\n")))

unfoldable pub wait_text : ℕ → Id → List ℕ
wait_text line id = head line (codes "wait") ++ (id_member (codes "thread") (Some id) ++ codes "}")

-- a command without a module and an action
abbrev pub of_other : CommandKind → ℕ → Bool → List ℕ
of_other (kind.Instance id original) line is_skipped = unless_skipped is_skipped line (codes "instance") (instance_text line id original)
of_other (kind.Register name id) line is_skipped = unless_skipped is_skipped line (codes "register") (register_text line name.now id)
of_other (kind.Thread id shared) line is_skipped = thread_text line id shared
of_other kind.ThreadEnd line is_skipped = codes "\n  ]}"
of_other (kind.Wait id) line is_skipped = wait_text line id
of_other k line is_skipped = []

-- the position of an id, if there is one
abbrev pub place_or : Option Id → Span → Span
place_or None span = span
place_or (Some id) span = id.span

-- the position of the line of such a command: of `register` that of its id, if it has one
abbrev pub other_place : CommandKind → Span → Span
other_place (kind.Register name id) span = place_or id span
other_place k span = span

-- whether such a command refers to a module that is skipped
abbrev pub other_skipped : State → CommandKind → Bool
other_skipped s (kind.Instance id original) = skips (of_module s original)
other_skipped s (kind.Register name id) = skips (of_instance s id)
other_skipped s k = false

-- the position of an unsupported construct, and the line and the column of one
abbrev pub construct_in : Option ConvertedModule → Option Span
construct_in None = None
construct_in (Some (form.File f)) = None
construct_in (Some (form.Skipped reason span)) = Some span

abbrev pub place_of : List ℕ → Option Span → ℕ × ℕ
place_of text None = (0, 0)
place_of text (Some span) = (line_of text span, column_of text span)

-- the types of an action's results, if the command has no results
abbrev pub types_for : State → Action → Option Part → List ℕ
types_for s a None = types_in (of_instance s a.«module») a.name.now
types_for s a (Some results) = []

-- a command with an action, by what is known before it
abbrev pub acted_text : Script → State → List ℕ → Action → Option (List ℕ) → Option Part → List ℕ
acted_text script s ty a message results =
    unless_skipped (skips (of_instance s a.«module»)) (line_of script.text.now a.span) ty
    (of_action script (line_of script.text.now a.span) ty a message results (types_for s a results))

-- the object of a command, by what is known before it and what its module was converted to
abbrev pub entry_text : Script → State → Command → Option ConvertedModule → Entry → List ℕ
entry_text script s c converted (OfModule ty m r is_definition message) =
    of_converted converted (line_of script.text.now m.span) (place_of script.text.now (construct_in converted)) ty m r is_definition message
entry_text script s c converted (OfAction ty a message results) = acted_text script s ty a message results
entry_text script s c converted Other = of_other c.kind (line_of script.text.now (other_place c.kind c.span)) (other_skipped s c.kind)

abbrev pub object_text : Script → State → Command → Option ConvertedModule → List ℕ
object_text script s c converted = entry_text script s c converted (entry_of c.kind)

-- whether a command is the end of a thread, and whether the next one is the first of a thread
abbrev pub closes : CommandKind → Bool
closes kind.ThreadEnd = true
closes k = false

abbrev pub opens : CommandKind → Bool
opens (kind.Thread id shared) = true
opens k = false

-- what is before a command: nothing before the first of the script or of a thread, and before the end of one
abbrev pub separator : Bool → List ℕ
separator is_first = if is_first then [] else codes ",\n"

abbrev pub before_command : Bool → Bool → List ℕ
before_command is_first is_end = if is_end then [] else separator is_first

abbrev pub command_text : Script → State → Bool → Command → Option ConvertedModule → List ℕ
command_text script s is_first c converted = before_command is_first (closes c.kind) ++ object_text script s c converted
