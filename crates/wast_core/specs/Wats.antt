-- What encoding a text returns: the result for its module, or E13 for a component.
--
--   (module (func))     the bytes of the module
--   (component)         E13
use Rattle.std.specs.Prelude.{◌≡◌, ⊤, ℕ, Result, Err}
use Rattle.std.specs.Global.{Vec}
use Rattle.wast_base.specs.declared.faults.Error.{Error}
use Rattle.wast_base.specs.declared.faults.Fault.TheVariants as fault
use Rattle.wast_base.specs.Faults.{error_without_place}
use Rattle.wast_core.specs.declared.wat.Wat.{Wat}
use Rattle.wast_core.specs.declared.wat.Wat.TheVariants as wat
use Rattle.wast_core.specs.Headline.{Encodes}
use Rattle.wast_core.specs.Modules.{IsReady}

-- A module that may be resolved, or a component, which is not checked.
abbrev pub IsReadyWat : Wat → ℕ → Type 0
IsReadyWat (wat.Module m) counter = IsReady m counter
IsReadyWat (wat.Component span) counter = ⊤

-- The result for a module is that of encoding it, and only its content changes. A component is an error, and does not
-- change.
abbrev pub EncodesWat : Wat → ℕ → Result (Vec ℕ) Error → Wat → ℕ → Type 0
EncodesWat (wat.Module old) before result (wat.Module new) after = Encodes old before result new after × (new ≡ record old { kind = new.kind })
EncodesWat (wat.Module old) before result (wat.Component span) after = ⊥
EncodesWat (wat.Component span) before result new after = (result ≡ Err (error_without_place fault.Component)) × (new ≡ wat.Component span) × (after ≡ before)
