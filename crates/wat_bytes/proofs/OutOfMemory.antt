-- Encoding a module that was parsed from a text may fail with E12 whenever it may fail.
use Rattle.std.proofs.Common.{◌⊎◌, inl, List, ℕ, Option, Err, refl}
use Rattle.wast_base.specs.declared.faults.Error.{Error}
use Rattle.wast_base.specs.Faults.{out_of_memory}
use Rattle.wast_core.specs.declared.module.ModuleKind.{ModuleKind}
use Rattle.wast_core.specs.declared.module.ModuleKind.TheVariants as kind
use Rattle.wast_core.specs.Headline.{EncodesKind, name_of_module}
use Rattle.wat_text.specs.declared.modules.TextKind.{TextKind}
use Rattle.wat_text.specs.declared.modules.TextKind.TheVariants as held
use Rattle.wat_text.specs.declared.modules.TextModule.{TextModule}
use Rattle.wat_bytes.specs.Texts.{EncodesReady, kind_of, module_of}

abbrev left_of : TextKind → ModuleKind
left_of (held.Fields fields) = kind.Refused out_of_memory
left_of (held.Binary pieces) = kind.Binary pieces

refused : (name : Option (List ℕ)) (k : TextKind) → EncodesKind 1 name (kind_of k) (Err out_of_memory) (left_of k)
refused name (held.Fields fields) = inl (tt, refl)
refused name (held.Binary pieces) = (refl, refl)

pub memory_instead : (t : TextModule) (e : Error) → EncodesReady (module_of t) (Err e) → EncodesReady (module_of t) (Err out_of_memory)
memory_instead t e r = record { ready = r.ready; left = left_of t.kind; encodes = refused (name_of_module (module_of t)) t.kind }
