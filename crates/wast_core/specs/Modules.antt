-- Which modules may be resolved: the well-formed ones, with an id counter past their generated ids.
--
--   (module (func (call $f)))       well formed: that $f is not defined is an error of resolving (E4)
--   a counter at 1, and no generated id in the module           the counter is past the bound, which is 0
use Rattle.std.specs.Prelude.{ℕ, max, ◌<◌, Bool, true, Option, None, IsTrue}
use Rattle.wast_base.specs.Ids.{mark_of_option}
use Rattle.wast_tree_nodes.specs.WellFormed as fields
use Rattle.wast_tree_nodes.specs.Generations.{generation_or_zero, greatest_generation}
use Rattle.wast_core.specs.declared.module.Module.{Module}
use Rattle.wast_core.specs.declared.module.ModuleKind.{ModuleKind}
use Rattle.wast_core.specs.declared.module.ModuleKind.TheVariants as kind

-- Whether the content is well formed. Without fields it is.
abbrev pub is_well_formed_kind : ModuleKind → Bool
is_well_formed_kind (kind.Text fs) = fields.is_well_formed fs
is_well_formed_kind (kind.Binary pieces) = true
is_well_formed_kind (kind.Refused e) = true

-- Whether a module is well formed: its fields are.
abbrev pub is_well_formed : Module → Bool
is_well_formed m = is_well_formed_kind m.kind

-- The first rule of well-formedness that the fields break.
abbrev pub ill_formed_kind : ModuleKind → Option ℕ
ill_formed_kind (kind.Text fs) = fields.ill_formed fs
ill_formed_kind (kind.Binary pieces) = None
ill_formed_kind (kind.Refused e) = None

-- The first rule of well-formedness that the module breaks.
abbrev pub ill_formed : Module → Option ℕ
ill_formed m = ill_formed_kind m.kind

-- The largest generation of a generated id in the fields, or 0.
abbrev pub bound_of_kind : ModuleKind → ℕ
bound_of_kind (kind.Text fs) = greatest_generation fs
bound_of_kind (kind.Binary pieces) = 0
bound_of_kind (kind.Refused e) = 0

-- The largest generation of a generated id in the module, its own id included.
abbrev pub generation_bound : Module → ℕ
generation_bound m = max (generation_or_zero (mark_of_option m.id)) (bound_of_kind m.kind)

-- The module is well formed, and the counter is past its generated ids.
pub record IsReady (m : Module) (counter : ℕ) : Type 0 where
  pub well_formed : IsTrue (is_well_formed m)
  pub above : generation_bound m < counter
