-- Modules with one unsupported construct, and no other.
--
--   (module (func i64.add128))      has `Beyond` alone
use Rattle.wast_base.specs.declared.faults.Form.{Form}
use Rattle.wast_core.specs.declared.module.ModuleKind.{ModuleKind}
use Rattle.wast_core.specs.declared.module.ModuleKind.TheVariants as kind
use Rattle.wast_rows_samples.specs.SampledForms.{HoldsAlone}

-- A text module whose fields have this unsupported construct once, and no other.
abbrev pub IsTextOf : Form → ModuleKind → Type 0
IsTextOf form (kind.Text fields) = HoldsAlone form fields
IsTextOf form other = ⊥
