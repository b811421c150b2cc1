-- Adding a start field to a module that a caller has resolved (text format: start functions; binary format: start
-- section).
--
-- It is a model of callers that have indices outside of the module.
--
--   (module (func $f)) and the index $f      the bytes of (module (func $f) (start $f))
--   (module (func $f)) and the index $g      E4 at $g; the module is resolved, without the field
use Rattle.std.specs.Prelude.{◌≡◌, ◌⊎◌, ⊤, ℕ, ◌+◌, List, [], ◌∷◌, ◌++◌, Option, Result, Ok, Err}
use Rattle.std.specs.Global.{Vec}
use Rattle.wast_base.specs.declared.faults.Error.{Error}
use Rattle.wast_base.specs.declared.ids.Index.{Index}
use Rattle.wast_base.specs.declared.spaces.Space.TheVariants as space
use Rattle.wast_base.specs.Faults.{out_of_memory}
use Rattle.wast_tree_nodes.specs.Items.{items}
use Rattle.wast_tree_nodes.specs.Known.{id_context}
use Rattle.wast_tree_nodes.specs.declared.fields.ModuleField.{ModuleField}
use Rattle.wast_tree_nodes.specs.declared.fields.ModuleField.TheVariants as field
use Rattle.wasm_out.specs.Parts.{Part}
use Rattle.wasm_out.specs.Reads.{Reads}
use Rattle.wast_resolve_rules.specs.Demands.{IsTooLarge, IsUnresolved}
use Rattle.wast_resolve_rules.specs.Explicit.{generated_id_count}
use Rattle.wast_resolve_rules.specs.Finished.{resolved_fields_from}
use Rattle.wast_resolve_rules.specs.Resolved.{numbered_at}
use Rattle.wast_resolve_names.specs.LookUps.{IsSettledFor, IsMetBy, AnswersFor}
use Rattle.wast_resolve_laws.specs.Rests.{final_names}
use Rattle.wast_core.specs.declared.module.ModuleKind.{ModuleKind}
use Rattle.wast_core.specs.declared.module.ModuleKind.TheVariants as kind
use Rattle.wast_core.specs.AtRest.{IsWithheld}
use Rattle.wast_core.specs.Bounded.{IsBounded}
use Rattle.wast_core_sections.specs.Encoding.{IsUnwritten}
use Rattle.wast_core.specs.Headline.{IsMet}
use Rattle.wast_core.specs.Meaning.{meaning}
use Rattle.wast_core_sections.specs.Uncovered.{head_of, uncovered_forms}

-- A text module, or one with an earlier error.
abbrev pub IsNoBinary : ModuleKind → Type 0
IsNoBinary (kind.Text fields) = ⊤
IsNoBinary (kind.Binary pieces) = ⊥
IsNoBinary (kind.Refused e) = ⊤

-- If the index is a generated id, a function of the fields has it.
abbrev pub IsSettledStart : ModuleKind → Index → Type 0
IsSettledStart (kind.Text fields) i = IsSettledFor (id_context (items fields)) space.Func i
IsSettledStart (kind.Binary pieces) i = ⊤
IsSettledStart (kind.Refused e) i = ⊤

-- The fields with a start field after them.
abbrev pub with_start : List ModuleField → Index → List ModuleField
with_start fields i = fields ++ field.Start i ∷ []

-- The resolved fields with the start field after them, with its number.
abbrev pub finished_start : ℕ → List ModuleField → Index → List ModuleField
finished_start n fields i = with_start (resolved_fields_from n fields) (numbered_at (final_names n fields) space.Func i)

-- The grammar reads the bytes as these parts, and as no others.
abbrev pub IsReadAs : List ℕ → List Part → Type 0
IsReadAs bytes parts = Reads bytes parts × ((others : List Part) → Reads bytes others → others ≡ parts)

-- Resolving fails, and the module keeps the error.
abbrev pub IsRefusedFirst : ℕ → List ModuleField → Error → ModuleKind → Type 0
IsRefusedFirst n fields e new = IsUnresolved n fields e × (new ≡ kind.Refused e)

-- Or no function has the name, or there is no memory for the field. The module is resolved without it.
abbrev pub IsUnstarted : ℕ → List ModuleField → Index → Error → ModuleKind → Type 0
IsUnstarted n fields i e new = IsMet fields × (AnswersFor (final_names n fields) space.Func i e ⊎ (IsMetBy (final_names n fields) space.Func i × (e ≡ out_of_memory))) × (new ≡ kind.Text (resolved_fields_from n fields))

-- Or the fields with the start field are not resolved, because allocation failed or they are too large. The module
-- keeps the error.
abbrev pub IsRefusedThen : ℕ → List ModuleField → Index → Error → ModuleKind → Type 0
IsRefusedThen n fields i e new = IsMet (with_start fields i) × IsWithheld (IsTooLarge (n + generated_id_count fields) (finished_start n fields i)) e × (new ≡ kind.Refused e)

-- Or they are not encoded. The module is resolved, with the field.
abbrev pub IsStartUnwritten : ℕ → Option (List ℕ) → List ModuleField → Index → Error → ModuleKind → Type 0
IsStartUnwritten n name fields i e new =
    IsMet (with_start fields i)
    × IsUnwritten (head_of (uncovered_forms (finished_start n fields i))) (IsBounded (n + generated_id_count fields) name (finished_start n fields i)) e
    × (new ≡ kind.Text (finished_start n fields i))

-- On success the bytes are those of the module with the start field at the end. Otherwise the error is the first of
-- these.
abbrev pub AddsStart : ℕ → Option (List ℕ) → ModuleKind → Index → Result (Vec ℕ) Error → ModuleKind → Type 0
AddsStart n name (kind.Text fields) i (Ok bytes) new = IsMet (with_start fields i) × IsReadAs bytes.items (meaning name (with_start fields i)) × (new ≡ kind.Text (finished_start n fields i))
AddsStart n name (kind.Text fields) i (Err e) new = IsRefusedFirst n fields e new ⊎ (IsUnstarted n fields i e new ⊎ (IsRefusedThen n fields i e new ⊎ IsStartUnwritten n name fields i e new))
AddsStart n name (kind.Binary pieces) i result new = ⊥
AddsStart n name (kind.Refused e) i (Ok bytes) new = ⊥
AddsStart n name (kind.Refused e) i (Err d) new = (d ≡ e) × (new ≡ kind.Refused e)

-- How the counter changes. It rises by the number of ids that resolving the module generates, because a start field
-- needs no id. If resolving fails first, it does not change. For example, for `(module (func $f))` it rises by 1, for
-- the type of `$f`. If the index is `$g`, E4 comes after that, and the counter has risen by 1 too.
abbrev pub CountsStart : ℕ → ModuleKind → Result (Vec ℕ) Error → ModuleKind → ℕ → Type 0
CountsStart n (kind.Text fields) (Ok bytes) new after = after ≡ n + generated_id_count fields
CountsStart n (kind.Text fields) (Err e) new after = (IsRefusedFirst n fields e new × (after ≡ n)) ⊎ (IsMet fields × (after ≡ n + generated_id_count fields))
CountsStart n (kind.Binary pieces) result new after = ⊥
CountsStart n (kind.Refused e) result new after = after ≡ n
