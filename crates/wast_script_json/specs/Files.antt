-- The whole JSON of a script, and how it is written: command by command, in pieces of any length.
--
--   the file of a script `s.wast` without commands      {"source_filename": "s.wast", "commands": []}
--
-- It has a line feed before `"commands"` and after `[`.
use Rattle.std.specs.Prelude.{◌≡◌, ℕ, Bool, true, false, List, [], ◌∷◌, ◌++◌, codes, Option, Some, None, is_some}
use Rattle.std.specs.Io.KnownBytes.{Appends}
use Rattle.wast_script.specs.declared.commands.CommandKind.{CommandKind}
use Rattle.wast_script.specs.declared.commands.Command.{Command}
use Rattle.wast_script.specs.declared.scripts.Script.{Script}
use Rattle.wast_script_json.specs.declared.modules.ConvertedModule.{ConvertedModule}
use Rattle.wast_script_json.specs.declared.commands.ScriptJson.{ScriptJson}
use Rattle.wast_script_json.specs.Json.{written, string}
use Rattle.wast_script_json.specs.Entries.{entry_of, module_in}
use Rattle.wast_script_json.specs.Commands.{command_text, opens}
use Rattle.wast_script_json.specs.Known.{Knows}
use Rattle.wast_script_json.specs.Places.{Counts}
use Rattle.wast_script_json.specs.References.{State, nothing_known, After}

-- the beginning of the file, with the name of the script's file
abbrev pub beginning : List ℕ → List ℕ
beginning source = codes "{\"source_filename\": " ++ (string source ++ codes ",\n \"commands\": [\n")

-- the end of the file
abbrev pub closing : List ℕ
closing = codes "]}\n"

-- commands with what their modules were converted to
abbrev pub Converted : Type 0
Converted = List (Command × Option ConvertedModule)

-- the first of the modules that are left, for a command that has one, and those that are left after it
abbrev pub module_for : Bool → List ConvertedModule → Option ConvertedModule
module_for false ms = None
module_for true [] = None
module_for true (m ∷ ms) = Some m

abbrev pub modules_after : Bool → List ConvertedModule → List ConvertedModule
modules_after false ms = ms
modules_after true [] = []
modules_after true (m ∷ ms) = ms

-- commands with modules in their order
abbrev pub has_module : CommandKind → Bool
has_module k = is_some (module_in (entry_of k))

unfoldable pub with_modules : List Command → List ConvertedModule → Converted
with_modules [] ms = []
with_modules (c ∷ cs) ms = (c, module_for (has_module c.kind) ms) ∷ with_modules cs (modules_after (has_module c.kind) ms)

-- the texts of commands, one after another, by what is known before the first of them
unfoldable pub AreCommands : Script → State → Bool → Converted → List ℕ → Type 0
AreCommands script s is_first [] text = text ≡ []
AreCommands script s is_first (c ∷ cs) text =
    (t : State) × (rest : List ℕ) × After c.0.kind c.1 s t × AreCommands script t (opens c.0.kind) cs rest × (text ≡ command_text script s is_first c.0 c.1 ++ rest)

-- the JSON of a script with these commands
unfoldable pub IsJson : Script → List ℕ → Converted → List ℕ → Type 0
IsJson script source cs text = (all : List ℕ) × AreCommands script nothing_known true cs all × (text ≡ beginning source ++ (all ++ closing))

-- where the writer stands in a text before a command: what is known, and whether the command is the first of the script or of a thread
pub record Stands (text : List ℕ) (s : State) (is_first : Bool) (w : ScriptJson) : Type 0 where
  pub counts : Counts text w.lines
  pub knows : Knows w.instances s
  pub first : w.is_first ≡ is_first

-- a command was written, whose module was converted so
pub record Writes (script : Script) (s : State) (is_first : Bool) (c : Command) (converted : Option ConvertedModule) (v w : ScriptJson) : Type 0 where
  pub next : State
  pub after : After c.kind converted s next
  pub stands : Stands script.text.now next (opens c.kind) w
  pub text : written w.json ≡ written v.json ++ command_text script s is_first c converted

-- the text from its beginning on went to an output, which has these bytes before and these after it
pub record IsCut (v w : ScriptJson) (old new : Option (List ℕ)) : Type 0 where
  pub piece : List ℕ
  pub printed : Appends old new piece
  pub text : piece ++ written w.json ≡ written v.json
  pub stands : (text : List ℕ) (s : State) (is_first : Bool) → Stands text s is_first v → Stands text s is_first w

-- a command was written, and perhaps a piece of the text went to the output
pub record Passes (script : Script) (s : State) (is_first : Bool) (c : Command) (converted : Option ConvertedModule) (v w : ScriptJson) (old new : Option (List ℕ)) : Type 0 where
  pub next : State
  pub after : After c.kind converted s next
  pub stands : Stands script.text.now next (opens c.kind) w
  pub piece : List ℕ
  pub printed : Appends old new piece
  pub text : piece ++ written w.json ≡ written v.json ++ command_text script s is_first c converted

-- so were all commands
pub record PassesAll (script : Script) (s : State) (is_first : Bool) (cs : Converted) (v w : ScriptJson) (old new : Option (List ℕ)) : Type 0 where
  pub all : List ℕ
  pub commands : AreCommands script s is_first cs all
  pub piece : List ℕ
  pub printed : Appends old new piece
  pub text : piece ++ written w.json ≡ written v.json ++ all

-- the whole JSON went to the output
pub record PrintsJson (script : Script) (source : List ℕ) (cs : Converted) (old new : Option (List ℕ)) : Type 0 where
  pub text : List ℕ
  pub is_json : IsJson script source cs text
  pub printed : Appends old new text
