-- What the file of a module of a script has, and its name (test scripts: module).
--
--   (module (func))                                      a.0.wasm: its bytes
--   (assert_malformed (module quote "(") "..")           a.1.wat: the text `(`
--   (assert_invalid (module (func (call $x))) "..")      a.2.wat: its text, because its names are wrong
use Rattle.std.specs.Prelude.{◌≡◌, ℕ, Bool, true, false, List, ◌++◌, codes, decimal}
use Rattle.wast_script.specs.Scripts.{IsPieceAt, start_in, module_in, joined_bytes, script_tokens}
use Rattle.wast_script.specs.declared.commands.ModuleForm.{ModuleForm}
use Rattle.wast_script.specs.declared.commands.ModuleForm.TheVariants as form
use Rattle.wast_script.specs.declared.commands.ScriptModule.{ScriptModule}
use Rattle.wast_script.specs.declared.scripts.Script.{Script}
use Rattle.wast_script_json.specs.declared.kinds.Role.{Role}
use Rattle.wast_script_json.specs.declared.kinds.Role.TheVariants as role
use Rattle.wast_script_records.specs.Encoded.{HasBytes}
use Rattle.wat2json.specs.declared.conversions.Contents.{Contents}

-- whether a module is encoded: one that actions run, and one that is not in strings
abbrev pub is_encoded : Role → ModuleForm → Bool
is_encoded role.Run f = true
is_encoded r form.Fields = true
is_encoded r f = false

abbrev pub is_quote : ModuleForm → Bool
is_quote form.Quote = true
is_quote f = false

-- The bytes of a module; or its text, if it may be wrong on purpose.
abbrev pub IsEncoded : Script → ScriptModule → Role → Contents → Type 0
IsEncoded s m r c = elim c.is_text [
  | false ↦ HasBytes (module_in (script_tokens s) m) c.bytes
  | true ↦ (r ≡ role.Wrong) × IsPieceAt s.text.now (start_in s.tokens.items m).offset c.bytes.items
]

-- The strings of a module, one after another.
abbrev pub IsStrings : Script → ScriptModule → Contents → Type 0
IsStrings s m c = (c.is_text ≡ is_quote m.form) × (c.bytes.items ≡ joined_bytes (module_in (script_tokens s) m).strings)

-- What the file of a module has.
abbrev pub IsContents : Script → ScriptModule → Role → Contents → Type 0
IsContents s m r c = elim (is_encoded r m.form) [ true ↦ IsEncoded s m r c | false ↦ IsStrings s m c ]

-- the name of a file: that of number 1 with the stem `a` is `a.1.wat` if it is a text, and else `a.1.wasm`
abbrev pub ending : Bool → List ℕ
ending true = codes "wat"
ending false = codes "wasm"

abbrev pub file_name : List ℕ → ℕ → Bool → List ℕ
file_name stem n is_text = stem ++ (codes "." ++ (decimal n ++ (codes "." ++ ending is_text)))
