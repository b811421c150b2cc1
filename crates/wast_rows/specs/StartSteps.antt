-- The steps of adding a start field to a module: looking up its function, and appending the field.
--
--   (module (func $f)) and the index $f      found: the number 0          and then: (func $f) (start 0)
use Rattle.std.specs.Prelude.{◌≡◌, ◌⊎◌, ℕ, Result, Ok, Err}
use Rattle.wast_base.specs.declared.faults.Error.{Error}
use Rattle.wast_base.specs.declared.ids.Index.{Index}
use Rattle.wast_base.specs.declared.spaces.Space.TheVariants as space
use Rattle.wast_base.specs.Faults.{out_of_memory}
use Rattle.wast_resolve_rules.specs.Finished.{resolved_fields_from}
use Rattle.wast_resolve_rules.specs.Resolved.{numbered_at}
use Rattle.wast_resolve_names.specs.LookUps.{IsMetBy, AnswersFor}
use Rattle.wast_resolve_laws.specs.Rests.{final_names}
use Rattle.wast_core.specs.declared.module.ModuleKind.{ModuleKind}
use Rattle.wast_core.specs.declared.module.ModuleKind.TheVariants as kind
use Rattle.wast_core.specs.Headline.{IsMet}
use Rattle.wast_rows.specs.Starting.{with_start, IsRefusedFirst}

-- Resolving, and then looking up an index of a function.
abbrev pub FindsStart : ℕ → ModuleKind → Index → Result Index Error → ModuleKind → Type 0
FindsStart n (kind.Text fields) i (Ok j) new = IsMet fields × IsMetBy (final_names n fields) space.Func i × (j ≡ numbered_at (final_names n fields) space.Func i) × (new ≡ kind.Text (resolved_fields_from n fields))
FindsStart n (kind.Text fields) i (Err e) new = IsRefusedFirst n fields e new ⊎ (IsMet fields × AnswersFor (final_names n fields) space.Func i e × (new ≡ kind.Text (resolved_fields_from n fields)))
FindsStart n (kind.Binary pieces) i result new = ⊥
FindsStart n (kind.Refused e) i (Ok j) new = ⊥
FindsStart n (kind.Refused e) i (Err d) new = (d ≡ e) × (new ≡ kind.Refused e)

-- A text module.
abbrev pub IsText : ModuleKind → Type 0
IsText (kind.Text fields) = Unit {0}
IsText (kind.Binary pieces) = ⊥
IsText (kind.Refused e) = ⊥

-- Appending a start field to the fields of a text module.
abbrev pub PutsStart : ModuleKind → Index → Result (Unit {0}) Error → ModuleKind → Type 0
PutsStart (kind.Text fields) i (Ok x) new = new ≡ kind.Text (with_start fields i)
PutsStart (kind.Text fields) i (Err e) new = (e ≡ out_of_memory) × (new ≡ kind.Text fields)
PutsStart (kind.Binary pieces) i result new = ⊥
PutsStart (kind.Refused e) i result new = ⊥
