-- The parts of a module do not depend on generated ids or on positions of type uses. So fields resolved with a counter
-- have the parts of fields numbered by position.
use Rattle.std.proofs.Common.{◌≡◌, ℕ, ◌<◌, ◌^◌, ◌||◌, List, [], ◌∷◌, ◌++◌, length, Option, refl, sym, ap, ◌∙◌, subst}
use Rattle.std.specs.Prelude.{All, codes, if◌then◌else◌}
use Rattle.std.specs.List.{flat_map}
use mathlib.Core.Path.{fun_ext}
use Rattle.wasm_ops.proofs.Everywhere.{all_both}
use Rattle.wasm_out.specs.NameSectionBytes.{name_subsection}
use Rattle.wasm_out.specs.Parts.{Part, part, InRangePart}
use Rattle.wasm_out.specs.Reads.{header}
use Rattle.wast_tree_nodes.specs.Generations.{greatest_generation}
use Rattle.wast_tree_map.specs.Mapped.{mapped_field}
use Rattle.wast_tree_map.specs.Laws.{all_mapped}
use Rattle.wast_resolve_rules.specs.Explicit.{by_positions}
use Rattle.wast_resolve_rules.specs.Resolved.{resolved_fields}
use Rattle.wast_resolve_rules.specs.Finished.{resolved_fields_from}
use Rattle.wast_resolve_rules.specs.Stripped.{stripping}
use Rattle.wast_resolve_laws.specs.Laws.{SamePositions}
use Rattle.wast_core.specs.Tree.{ModuleField}
use Rattle.wast_core_sections.specs.declared.slots.Slot.{Slot}
use Rattle.wast_core_sections.specs.declared.slots.Slot.TheVariants as slot
use Rattle.wast_core_sections.specs.Slots.{order}
use Rattle.wast_tree_nodes.specs.Customs.{customs_at, is_custom_called}
use Rattle.wast_core.specs.Tree.{CustomPlace}
use Rattle.wast_core_conv.specs.Customs.{custom_bytes}
use Rattle.wast_core.specs.Tree.field
use Rattle.wast_core_name_section.specs.NamesPart.{names_part}
use Rattle.wast_core_sections.specs.Hints.{hinted_functions, InRangeHints}
use Rattle.wast_core_sections.specs.Sections.{has_own_names, subsections_of, in_slot, parts}
use Rattle.wast_core_sections.specs.Writable.{InRangeHeld, InRangeSlot, InRangeModule, IsWritable}
use Rattle.wast_core.specs.Headline.{IsMet}
use Rattle.wast_core.specs.Laws.{MeansWhatIsWritten}
use Rattle.wast_core.proofs.Fronts.{same_customs, same_hinted, same_slot}
use Rattle.wast_core.proofs.Stripping.{stripping_tells}
use Rattle.wast_core.proofs.StrippedNames.{keeps_names}
use Rattle.wast_core_name_section.proofs.SameNameSection.{same_subsections}

same_own : (xs : List ModuleField) → has_own_names (all_mapped stripping xs) ≡ has_own_names xs
same_own [] = refl
same_own (x ∷ xs) = λ i. each x i || same_own xs i
  where
    each : (x : ModuleField) → is_custom_called (codes "name") (mapped_field stripping x) ≡ is_custom_called (codes "name") x
    each (field.Ty t) = refl
    each x = refl

module _ (name : Option (List ℕ)) where
  same_given : (xs : List ModuleField) → subsections_of name (all_mapped stripping xs) ≡ subsections_of name xs
  same_given xs = λ i. if same_own xs i then [] else same_subsections (mapped_field stripping) keeps_names name xs i

  slot_same : (xs : List ModuleField) (s : Slot) → in_slot name (all_mapped stripping xs) s ≡ in_slot name xs s
  slot_same xs slot.Names = ap names_part (same_given xs)
  slot_same xs (slot.Custom place) = same_slot stripping stripping_tells name xs (slot.Custom place) refl
  slot_same xs (slot.Section kind) = same_slot stripping stripping_tells name xs (slot.Section kind) refl
  slot_same xs slot.Start = same_slot stripping stripping_tells name xs slot.Start refl
  slot_same xs slot.DataCount = same_slot stripping stripping_tells name xs slot.DataCount refl
  slot_same xs slot.Hints = same_slot stripping stripping_tells name xs slot.Hints refl

  -- Two lists that differ in nothing else.
  module _ (xs ys : List ModuleField) (alike : all_mapped stripping xs ≡ all_mapped stripping ys) where
    slots_same : in_slot name xs ≡ in_slot name ys
    slots_same = fun_ext (λ (s : Slot). sym (slot_same xs s) ∙ (ap (λ zs. in_slot name zs s) alike ∙ slot_same ys s))

    names_same : subsections_of name xs ≡ subsections_of name ys
    names_same = sym (same_given xs) ∙ (ap (subsections_of name) alike ∙ same_given ys)

    customs_same : (place : CustomPlace) → customs_at place xs ≡ customs_at place ys
    customs_same place = sym (same_customs stripping stripping_tells place xs) ∙ (ap (customs_at place) alike ∙ same_customs stripping stripping_tells place ys)

    hinted_same : hinted_functions xs ≡ hinted_functions ys
    hinted_same = sym (same_hinted stripping stripping_tells xs) ∙ (ap hinted_functions alike ∙ same_hinted stripping stripping_tells ys)

    pub parts_same : parts name xs ≡ parts name ys
    parts_same = ap (λ (f : Slot → List Part). flat_map f order) slots_same

    held_same : (s : Slot) → InRangeHeld name xs s → InRangeHeld name ys s
    held_same (slot.Custom place) h = subst (All (λ x. (custom_bytes x).in_range)) (customs_same place) h
    held_same slot.Hints h = subst InRangeHints hinted_same h
    held_same slot.Names h = subst (All (λ x. (name_subsection x).in_range)) names_same h
    held_same s h = h

    range_same : InRangeModule name xs → InRangeModule name ys
    range_same h =
        all_both (InRangeSlot name xs) (InRangeSlot name xs) (InRangeSlot name ys)
        (λ s p q. (subst (λ (f : Slot → List Part). All InRangePart (f s)) slots_same p.0, held_same s p.1)) order h h

    pub writable_same : IsWritable name xs → IsWritable name ys
    writable_same w = record {
      in_range = range_same w.in_range;
      length = subst (λ (ps : List Part). length (header ++ flat_map part ps) < 2 ^ 64) parts_same w.length;
    }

-- If each check passes, the ids of a counter do not matter.
pub means_what_is_written : SamePositions → MeansWhatIsWritten
means_what_is_written positions n name fields above met = parts_same name (resolved_fields_from n fields) (resolved_fields (by_positions fields))
    (positions n fields above met)

pub written_where_meant : SamePositions → (n : ℕ) (name : Option (List ℕ)) (fields : List ModuleField) → greatest_generation fields < n
    → IsMet fields → IsWritable name (resolved_fields (by_positions fields)) → IsWritable name (resolved_fields_from n fields)
written_where_meant positions n name fields above met w = writable_same name (resolved_fields (by_positions fields)) (resolved_fields_from n fields)
    (sym (positions n fields above met)) w
