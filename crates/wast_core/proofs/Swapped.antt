-- Parts are grouped by kind, so start fields may come before or after types that are fields of their own.
use Rattle.std.proofs.Common.{◌≡◌, ℕ, Bool, true, false, ◌||◌, List, [], ◌∷◌, ◌++◌, map, length, append-nil, Option, refl, sym, ap, ◌∙◌}
use Rattle.std.specs.Prelude.{if◌then◌else◌, codes}
use Rattle.std.specs.List.{flat_map, list_any}
use Rattle.std.proofs.lemmas.Grind.{flat_map-append}
use Rattle.std.proofs.lemmas.List.Folds.{list_any-append}
use mathlib.Core.Path.{fun_ext}
use Rattle.wast_tree_nodes.specs.Customs.{customs_in, is_custom_called}
use Rattle.wasm_out.specs.Parts.{SectionKind, Types, Data, Part}
use Rattle.wast_resolve_laws.specs.Rests.{start_fields_of}
use Rattle.wast_resolve_laws.proofs.StartsBehind.{among, behind_all}
use Rattle.wast_core_conv.specs.Customs.{custom_part}
use Rattle.wast_core_name_section.specs.GivenNames.{named_from}
use Rattle.wast_core_name_section.specs.WithinItems.{types_within, types_of, lists_within}
use Rattle.wast_core_name_section.specs.ModuleNames.{names_given, name_subsections}
use Rattle.wast_core_name_section.proofs.SameNameSection.{subsections_alike}
use Rattle.wast_core_name_section.specs.NamesPart.{names_part}
use Rattle.wast_core.specs.Tree.{Index, ModuleField}
use Rattle.wast_core.specs.Tree.ty
use Rattle.wast_core.specs.Tree.field
use Rattle.wast_core_sections.specs.declared.slots.Slot.{Slot}
use Rattle.wast_core_sections.specs.declared.slots.Slot.TheVariants as slot
use Rattle.wast_core_sections.specs.DataCounts.{body_needs_count, count_parts}
use Rattle.wast_core_sections.specs.Hints.{functions_in, hints_part}
use Rattle.wast_core_sections.specs.Sections.{entries_in, section_part, starts_in, in_slot, parts}
use Rattle.wast_core_sections.specs.Slots.{section_kind, order}

-- A start field has no entry in a list.
no_entries : (kind : SectionKind) (i : Index) → entries_in kind (field.Start i) ≡ []
no_entries Types i = refl
no_entries x i = refl

-- A test that no start field passes.
module _ (t : ModuleField → Bool) (none : (i : Index) → t (field.Start i) ≡ false) where
  starts_fail : (is : List Index) → list_any t (start_fields_of is) ≡ false
  starts_fail [] = refl
  starts_fail (i ∷ is) = λ j. none i j || starts_fail is j

  or_false : (b : Bool) → (b || false) ≡ b
  or_false true = refl
  or_false false = refl

  any_swapped : (is : List Index) (xs ys : List ModuleField) → list_any t (xs ++ (start_fields_of is ++ ys)) ≡ list_any t ((xs ++ ys) ++ start_fields_of is)
  any_swapped is xs ys =
      list_any-append t xs (start_fields_of is ++ ys)
      ∙ (ap (λ b. list_any t xs || b) (list_any-append t (start_fields_of is) ys ∙ ap (λ b. b || list_any t ys) (starts_fail is))
      ∙ (sym (list_any-append t xs ys)
      ∙ (sym (or_false (list_any t (xs ++ ys))) ∙ (ap (λ b. list_any t (xs ++ ys) || b) (sym (starts_fail is))
      ∙ sym (list_any-append t (xs ++ ys) (start_fields_of is))))))

-- Types have no start section.
no_starts : (ts : List ty.«Type») → flat_map starts_in (map field.Ty ts) ≡ []
no_starts [] = refl
no_starts (t ∷ ts) = no_starts ts

module _ (name : Option (List ℕ)) (is : List Index) (xs : List ModuleField) (ts : List ty.«Type») where
  abbrev ys : List ModuleField
  ys = map field.Ty ts

  abbrev before : List ModuleField
  before = xs ++ (start_fields_of is ++ ys)

  abbrev after : List ModuleField
  after = (xs ++ ys) ++ start_fields_of is

  swapped : {A : Type 0} (g : ModuleField → List A) → ((i : Index) → g (field.Start i) ≡ []) → flat_map g before ≡ flat_map g after
  swapped g none = among g none is xs ys ∙ sym (behind_all g none is (xs ++ ys))

  starts_swapped : flat_map starts_in before ≡ flat_map starts_in after
  starts_swapped =
      flat_map-append starts_in xs (start_fields_of is ++ ys)
      ∙ (ap (λ ps. flat_map starts_in xs ++ ps) (flat_map-append starts_in (start_fields_of is) ys
      ∙ (ap (λ ps. flat_map starts_in (start_fields_of is) ++ ps) (no_starts ts) ∙ append-nil (flat_map starts_in (start_fields_of is))))
      ∙ (ap (λ ps. ps ++ flat_map starts_in (start_fields_of is)) (sym (append-nil (flat_map starts_in xs))
      ∙ (ap (λ ps. flat_map starts_in xs ++ ps) (sym (no_starts ts)) ∙ sym (flat_map-append starts_in xs ys)))
      ∙ sym (flat_map-append starts_in (xs ++ ys) (start_fields_of is))))

  names_swapped : name_subsections name before ≡ name_subsections name after
  names_swapped =
      subsections_alike before after (λ s. swapped (names_given s) (λ i. refl))
      (λ w. swapped (lists_within (types_of before) w) (λ i. refl)
      ∙ ap (λ types. flat_map (lists_within types w) after) (swapped types_within (λ i. refl))) name

  slot_swapped : (s : Slot) → in_slot name before s ≡ in_slot name after s
  slot_swapped (slot.Custom place) = ap (map custom_part) (swapped (customs_in place) (λ i. refl))
  slot_swapped (slot.Section kind) = ap (section_part (section_kind kind)) (swapped (entries_in (section_kind kind)) (no_entries (section_kind kind)))
  slot_swapped slot.Start = starts_swapped
  slot_swapped slot.DataCount = λ j. count_parts (any_swapped body_needs_count (λ i. refl) is xs ys j) (length (swapped (entries_in Data) (no_entries Data) j))
  slot_swapped slot.Hints = ap (λ fs. hints_part (named_from 0 fs)) (swapped functions_in (λ i. refl))
  slot_swapped slot.Names =
      ap names_part (λ j. if any_swapped (is_custom_called (codes "name")) (λ i. refl) is xs ys j then [] else names_swapped j)

  pub parts_swapped : parts name before ≡ parts name after
  parts_swapped = ap (λ (g : Slot → List Part). flat_map g order) (fun_ext slot_swapped)
