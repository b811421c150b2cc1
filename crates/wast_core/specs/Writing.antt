-- What encoding a resolved module returns, and what it appends to a sink (EncodeOptions::put_module).
--
--   fields with an unsupported construct     E11 that names the first one
--   other fields                             their bytes; or the error of the sink, or E10
use Rattle.std.specs.Prelude.{◌≡◌, ℕ, List, Option, Result, Ok, Err, IsTrue}
use Rattle.std.specs.Global.{Vec}
use Rattle.wast_base.specs.declared.faults.Error.{Error}
use Rattle.wast_base.specs.Faults.{out_of_memory}
use Rattle.wasm_ops.specs.Sinks.{SinkRules}
use Rattle.wasm_out.specs.Parts.{Part}
use Rattle.wasm_out.specs.Reads.{Reads}
use Rattle.wast_core.specs.declared.module.ModuleKind.{ModuleKind}
use Rattle.wast_core.specs.declared.module.ModuleKind.TheVariants as kind
use Rattle.wast_core_conv.specs.Encodable.{is_at_rest}
use Rattle.wast_core.specs.Headline.{joined_pieces}
use Rattle.wast_core_sections.specs.Encoding.{EncodesFields, PutsFields}
use Rattle.wast_core_sections.specs.StandardOrder.{StandardOrder}

-- A text module that is already resolved. It may have unsupported constructs.
abbrev pub IsTextAtRest : ModuleKind → Type 0
IsTextAtRest (kind.Text fields) = IsTrue (is_at_rest fields)
IsTextAtRest (kind.Binary pieces) = ⊥
IsTextAtRest (kind.Refused e) = ⊥

-- The same for a text module. Other modules need nothing.
abbrev pub IsAtRest : ModuleKind → Type 0
IsAtRest (kind.Text fields) = IsTrue (is_at_rest fields)
IsAtRest (kind.Binary pieces) = Unit {0}
IsAtRest (kind.Refused e) = Unit {0}

-- Encoding the content of a module with this name, if it is resolved.
abbrev pub EncodesResolved : Option (List ℕ) → ModuleKind → Result (Vec ℕ) Error → Type 0
EncodesResolved name (kind.Text fields) result = EncodesFields name fields result
EncodesResolved name (kind.Binary pieces) (Ok bytes) = bytes.items ≡ joined_pieces pieces
EncodesResolved name (kind.Binary pieces) (Err e) = e ≡ out_of_memory
EncodesResolved name (kind.Refused e) (Ok bytes) = ⊥
EncodesResolved name (kind.Refused e) (Err d) = d ≡ e

-- The same for the content of a module, which is a text module.
abbrev pub PutsModule : {S : Type 0} → SinkRules S → Option (List ℕ) → ModuleKind → S → S → Result (Unit {0}) Error → Type 0
PutsModule rules name (kind.Text fields) old new result = PutsFields rules name fields old new result
PutsModule rules name (kind.Binary pieces) old new result = ⊥
PutsModule rules name (kind.Refused e) old new result = ⊥

-- The sections of the bytes of a text module are in the standard's order, however the bytes are read.
abbrev pub WritesInOrder : ModuleKind → List ℕ → Type 0
WritesInOrder (kind.Text fields) bytes = (ps : List Part) → Reads bytes ps → StandardOrder ps
WritesInOrder (kind.Binary pieces) bytes = Unit {0}
WritesInOrder (kind.Refused e) bytes = Unit {0}
