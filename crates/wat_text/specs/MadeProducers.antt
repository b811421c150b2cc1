-- The values of the fields of `producers`, as the code keeps them while it reads (tool conventions: producers section).
--
-- The rules have one list of values, each with its field, in the order of the text. The code has a list for each field.
--
--   (sdk "a" "1") (language "C" "17") (sdk "b" "2")      languages: C 17; sdks: a 1, b 2
use Rattle.std.specs.Prelude.{◌≡◌, ◌≢◌, List, [], ◌∷◌, ◌++◌, false, map, None, Some}
use Rattle.wat_grammar.specs.Parts.{◌>>=◌}
use Rattle.wat_syntax.specs.Tokens.{Toks, Parse}
use Rattle.wat_syntax.specs.Customs.{ProducersField, Language, Sdk, ProcessedBy, Version, versions_of}
use Rattle.wat_syntax.specs.BareFields.{bare_version}
use Rattle.wat_text.specs.declared.customs.Made.{Made}
use Rattle.wat_text.specs.declared.customs.Tool.{Tool}
use Rattle.wat_text.specs.declared.customs.Tool.TheVariants as tool
use Rattle.wat_text.specs.declared.reader.Reader.{Reader}
use Rattle.wat_text.specs.Readers.{left, IsClean, IsRefused}

-- a field and a value of it, as the rules have them
abbrev pub tool_field : Tool → ProducersField
tool_field tool.Language = Language
tool_field tool.Sdk = Sdk
tool_field tool.ProcessedBy = ProcessedBy

abbrev pub bare_value : Tool × Version → ProducersField × Version
bare_value v = (tool_field v.0, bare_version v.1)

-- one more value, after the others of its field
abbrev pub IsPut : Tool × Version → Made → Made → Type 0
IsPut (tool.Language, v) before after = (after.languages ≡ before.languages ++ v ∷ []) × (after.sdks ≡ before.sdks) × (after.processors ≡ before.processors)
IsPut (tool.Sdk, v) before after = (after.languages ≡ before.languages) × (after.sdks ≡ before.sdks ++ v ∷ []) × (after.processors ≡ before.processors)
IsPut (tool.ProcessedBy, v) before after = (after.languages ≡ before.languages) × (after.sdks ≡ before.sdks) × (after.processors ≡ before.processors ++ v ∷ [])

-- A reader appended a value to those of its field, or stored that an allocation failed.
pub record PushesValue (old new : Reader) (value : Tool × Version) (before after : Made) : Type 0 where
  pub make : new.make ≡ old.make
  pub clean : new.fault ≡ None → old.fault ≡ None
  pub pushed : new.fault ≡ None → IsPut value before after
  pub left : new.fault ≡ None → left new ≡ left old
  pub keeps : old.fault ≢ None → new.fault ≡ old.fault
  pub memory : old.fault ≡ None → IsRefused new.fault → ⊥

-- the values of a field after those that it had before
abbrev pub versions_with : List Version → ProducersField → Parse (List (ProducersField × Version)) → Parse (List Version)
versions_with versions f rest = rest >>= λ ps. Some (versions ++ versions_of f ps.0, ps.1)

-- A reader read values by a rule, and appended each to those of its field.
pub record ReadsProducers (rule : Toks → Parse (List (ProducersField × Version))) (old new : Reader) (before after : Made) : Type 0 where
  pub made : new.make ≡ false → old.make ≡ false
  pub clean : new.fault ≡ None → old.fault ≡ None
  pub languages : IsClean new → versions_with (map bare_version before.languages) Language (rule (left old)) ≡ Some (map bare_version after.languages, left new)
  pub sdks : IsClean new → versions_with (map bare_version before.sdks) Sdk (rule (left old)) ≡ Some (map bare_version after.sdks, left new)
  pub processors : IsClean new
      → versions_with (map bare_version before.processors) ProcessedBy (rule (left old)) ≡ Some (map bare_version after.processors, left new)
  pub keeps : old.fault ≢ None → new.fault ≡ old.fault
  pub refuses : old.fault ≡ None → new.make ≡ false → IsRefused new.fault → rule (left old) ≡ None
