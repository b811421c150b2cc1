-- The bytes of a text: what encoding returns for the module that the text denotes (text format: modules; binary format:
-- modules). That module is a function of the text (module_of in wat_text), and has each name and string at address 0.
--
--   (module (func))      the bytes of a module with one type and one function
--   (module (func $f) (func $f))      an error of that module: $f is a duplicate identifier
--   (module (func)      an error of the text: it denotes no module
use Rattle.std.specs.Prelude.{◌≡◌, ◌≢◌, ◌⊎◌, ℕ, ◌≤◌, List, length, Option, Some, None, Result, Ok, Err, ⊤}
use Rattle.std.specs.Option.{unwrap_or}
use Rattle.std.specs.Global.{Vec}
use Rattle.wast_base.specs.declared.faults.Error.{Error}
use Rattle.wast_base.specs.declared.faults.Fault.TheVariants as fault
use Rattle.wast_base.specs.declared.faults.Form.{Form}
use Rattle.wast_base.specs.Faults.{error_without_place, fault_of, fault_number, span_of}
use Rattle.wast_base.specs.declared.ids.Span.{Span}
use Rattle.wast_base.specs.Ids.{text_start}
use Rattle.wat_tokens.specs.declared.faults.TextError.{TextError}
use Rattle.wat_tokens.specs.declared.faults.TextFault.{TextFault}
use Rattle.wat_tokens.specs.declared.faults.TextFault.TheVariants as text
use Rattle.wat_text.specs.declared.modules.TextKind.{TextKind}
use Rattle.wat_text.specs.declared.modules.TextKind.TheVariants as held
use Rattle.wat_text.specs.declared.modules.TextModule.{TextModule}
use Rattle.wat_text.specs.Denotes.{module_of as denoted, Denotes, DenotesNothing}
use Rattle.wast_core_sections.specs.Uncovered.{head_of, uncovered_forms}
use Rattle.wast_core.specs.declared.module.Module.{Module}
use Rattle.wast_core.specs.declared.module.ModuleKind.{ModuleKind}
use Rattle.wast_core.specs.declared.module.ModuleKind.TheVariants as kind
use Rattle.wast_core.specs.Modules.{IsReady, ill_formed}
use Rattle.wast_core.specs.Headline.{EncodesKind, name_of_module}
use Rattle.wat_bytes.specs.declared.refusals.Refused.{Refused}
use Rattle.wat_bytes.specs.declared.refusals.Refused.TheVariants as answer

-- The content of a parsed module, as that of a module of wast_core: its fields, or the bytes of a binary module.
abbrev pub kind_of : TextKind → ModuleKind
kind_of (held.Fields fields) = kind.Text fields
kind_of (held.Binary pieces) = kind.Binary pieces

-- A parsed module, as a module of wast_core.
abbrev pub module_of : TextModule → Module
module_of t = record { span = t.span; id = t.id; name = t.name; kind = kind_of t.kind }

-- Why a parsed module that a caller has changed may not be resolved: the first rule of well-formedness that it breaks, or else rule 6 about
-- generated ids. The module of a text may be resolved, because the rules read no other (wat_ready).
abbrev pub unready : Module → TextError
unready m = record { fault = text.IllFormed (unwrap_or (ill_formed m) 6); span = text_start }

-- A module that may not be resolved, and why.
pub record IsUnready (m : Module) (e : TextError) : Type 0 where
  pub is_not_ready : IsReady m 1 → ⊥
  pub why : e ≡ unready m

-- The result of encoding a module that may be resolved, as the headline theorem states it, with the id counter at 1.
pub record EncodesReady (m : Module) (r : Result (Vec ℕ) Error) : Type 0 where
  pub ready : IsReady m 1
  pub left : ModuleKind
  pub encodes : EncodesKind 1 (name_of_module m) m.kind r left

-- The same, with the errors of this crate. The token of an unsupported construct is not part of it, because a module has no text.
abbrev pub EncodesModule : Module → Result (Vec ℕ) Refused → Type 0
EncodesModule m (Ok bytes) = EncodesReady m (Ok bytes)
EncodesModule m (Err (answer.Text e)) = ⊥
EncodesModule m (Err (answer.Module e)) = EncodesReady m (Err e)
EncodesModule m (Err (answer.Uncovered u)) = EncodesReady m (Err (error_without_place (fault.Uncovered u.form)))

-- The result of encoding a parsed module.
abbrev pub EncodesText : TextModule → Result (Vec ℕ) Refused → Type 0
EncodesText t r = EncodesModule (module_of t) r

-- The result for a parsed module, which a caller may have changed: that of a module that may be resolved, or why it may not.
abbrev pub OrUnready : {A : Type 0} → (Module → Result A Refused → Type 0) → Module → Result A Refused → Type 0
OrUnready is_answer m (Err (answer.Text e)) = IsUnready m e
OrUnready is_answer m r = is_answer m r

-- What parsing a text returns: the module that the text denotes. Otherwise it is an error with a position in the text, and the text
-- denotes no module, unless an allocation failed.
unfoldable pub IsRead : List ℕ → Result TextModule TextError → Type 0
IsRead bytes (Ok t) = Denotes bytes t
IsRead bytes (Err e) = (e.fault ≢ text.Memory → DenotesNothing bytes) × (e.span.offset ≤ length bytes)

-- The result for the module of a text: there is one, and this is its result.
abbrev pub OfModule : {A : Type 0} → (TextModule → Result A Refused → Type 0) → Option TextModule → Result A Refused → Type 0
OfModule is_answer (Some m) r = is_answer m r
OfModule is_answer None r = ⊥

-- Why a text has no result of a module: it has no module, or an allocation failed.
abbrev pub RefusesText : Option TextModule → Refused → Type 0
RefusesText m (answer.Text e) = e.fault ≢ text.Memory → m ≡ None
RefusesText m (answer.Module e) = ⊥
RefusesText m (answer.Uncovered u) = ⊥

-- The result for a text: that of the module that the text denotes, or an error of the text.
unfoldable pub OfText : {A : Type 0} → (TextModule → Result A Refused → Type 0) → List ℕ → Result A Refused → Type 0
OfText is_answer bytes (Ok x) = OfModule is_answer (denoted bytes) (Ok x)
OfText is_answer bytes (Err e) = OfModule is_answer (denoted bytes) (Err e) ⊎ RefusesText (denoted bytes) e

-- An error of a text is in the text or at its end.
abbrev pub IsPlaced : List ℕ → Refused → Type 0
IsPlaced bytes (answer.Text e) = e.span.offset ≤ length bytes
IsPlaced bytes (answer.Module e) = ⊤
IsPlaced bytes (answer.Uncovered u) = ⊤

-- The number of an error of a text: 12 if an allocation failed, and otherwise none.
abbrev pub number_of_text : TextFault → Option ℕ
number_of_text text.Memory = Some 12
number_of_text f = None

-- The number of an error.
abbrev pub number_of : Refused → Option ℕ
number_of (answer.Text e) = number_of_text e.fault
number_of (answer.Module e) = Some (fault_number (fault_of e))
number_of (answer.Uncovered u) = Some 11

-- The position of an error, if it has one.
abbrev pub place_of : Refused → Option Span
place_of (answer.Text e) = Some e.span
place_of (answer.Module e) = span_of e
place_of (answer.Uncovered u) = Some u.span

-- The first unsupported construct in the content of a module.
abbrev pub first_form : ModuleKind → Option Form
first_form (kind.Text fields) = head_of (uncovered_forms fields)
first_form (kind.Binary pieces) = None
first_form (kind.Refused e) = None

-- The error of a module, from the error of encoding and from the content that it leaves.
abbrev pub RefusesWith : ModuleKind → Error → Refused → Type 0
RefusesWith left e (answer.Text t) = ⊥
RefusesWith left e (answer.Module d) = d ≡ e
RefusesWith left e (answer.Uncovered u) = first_form left ≡ Some u.form
