-- A change of fields that keeps what the bytes are made of keeps the parts of a module, and whether it can be written.
--
-- For example, another address of `$f` in `(func $f)` keeps the function, its body and its name, and so the parts.
use Rattle.std.proofs.Common.{◌≡◌, ℕ, ◌<◌, ◌^◌, List, [], ◌++◌, length, map, All, Option, ap, subst}
use Rattle.std.specs.List.{flat_map}
use Rattle.std.specs.Prelude.{if◌then◌else◌}
use mathlib.Core.Path.{fun_ext}
use Rattle.wasm_ops.proofs.Everywhere.{all_both}
use Rattle.wasm_out.specs.NameSectionBytes.{name_subsection}
use Rattle.wasm_out.specs.Parts.{SectionKind, Data, Part, part, InRangePart}
use Rattle.wasm_out.specs.Reads.{header}
use Rattle.wast_tree_nodes.specs.Customs.{customs_at}
use Rattle.wast_core_conv.specs.Customs.{custom_bytes, custom_part}
use Rattle.wast_core_name_section.specs.NamesPart.{names_part}
use Rattle.wast_core_name_section.proofs.Each.{each_like}
use Rattle.wast_core_name_section.proofs.SameNameSection.{KeepsNames, same_subsections}
use Rattle.wast_core_sections.specs.declared.slots.Slot.{Slot}
use Rattle.wast_core_sections.specs.declared.slots.Slot.TheVariants as slot
use Rattle.wast_core_sections.specs.Slots.{section_kind, order}
use Rattle.wast_core_sections.specs.DataCounts.{needs_count, count_parts}
use Rattle.wast_core_sections.specs.Hints.{hinted_functions, hints_part, InRangeHints}
use Rattle.wast_core_sections.specs.Sections.{Contribution, contribution_of, of_kind, entries_in, entries, start_part, starts_in}
use Rattle.wast_core_sections.specs.Sections.{has_own_names, section_part, subsections_of, in_slot, parts}
use Rattle.wast_core_sections.specs.Writable.{InRangeHeld, InRangeSlot, InRangeModule, IsWritable}
use Rattle.wast_core.specs.Tree.{CustomPlace, ModuleField}

-- What the bytes of a module are made of does not change.
pub record KeepsParts (f : ModuleField → ModuleField) : Type 0 where
  pub contribution : (x : ModuleField) → contribution_of (f x) ≡ contribution_of x
  pub customs : (place : CustomPlace) (xs : List ModuleField)
      → map custom_part (customs_at place (map f xs)) ≡ map custom_part (customs_at place xs)
  pub ranges : (place : CustomPlace) (xs : List ModuleField)
      → All (λ c. (custom_bytes c).in_range) (customs_at place (map f xs)) → All (λ c. (custom_bytes c).in_range) (customs_at place xs)
  pub hinted : (xs : List ModuleField) → hinted_functions (map f xs) ≡ hinted_functions xs
  pub needed : (xs : List ModuleField) → needs_count (map f xs) ≡ needs_count xs
  pub called : (xs : List ModuleField) → has_own_names (map f xs) ≡ has_own_names xs
  pub names : KeepsNames f

module _ (f : ModuleField → ModuleField) (keeps : KeepsParts f) (name : Option (List ℕ)) (xs : List ModuleField) where
  entries_stay : (k : SectionKind) → entries k (map f xs) ≡ entries k xs
  entries_stay k = each_like f (entries_in k) (entries_in k) (λ x. ap (of_kind k) (keeps.contribution x)) xs

  subsections_stay : subsections_of name (map f xs) ≡ subsections_of name xs
  subsections_stay = λ i. if keeps.called xs i then [] else same_subsections f keeps.names name xs i

  -- the parts at each position
  slot_stays : (s : Slot) → in_slot name (map f xs) s ≡ in_slot name xs s
  slot_stays (slot.Custom place) = keeps.customs place xs
  slot_stays (slot.Section kind) = ap (section_part (section_kind kind)) (entries_stay (section_kind kind))
  slot_stays slot.Start = each_like f starts_in starts_in (λ x. ap (λ (c : Contribution). map start_part c.starts) (keeps.contribution x)) xs
  slot_stays slot.DataCount = λ i. count_parts (keeps.needed xs i) (length (entries_stay Data i))
  slot_stays slot.Hints = ap hints_part (keeps.hinted xs)
  slot_stays slot.Names = ap names_part subsections_stay

  slots_stay : in_slot name (map f xs) ≡ in_slot name xs
  slots_stay = fun_ext slot_stays

  pub parts_stay : parts name (map f xs) ≡ parts name xs
  parts_stay = ap (λ (g : Slot → List Part). flat_map g order) slots_stay

  -- so the fields can be written if the changed ones can
  held_stays : (s : Slot) → InRangeHeld name (map f xs) s → InRangeHeld name xs s
  held_stays (slot.Custom place) h = keeps.ranges place xs h
  held_stays slot.Hints h = subst InRangeHints (keeps.hinted xs) h
  held_stays slot.Names h = subst (All (λ x. (name_subsection x).in_range)) subsections_stay h
  held_stays s h = h

  range_stays : InRangeModule name (map f xs) → InRangeModule name xs
  range_stays h =
      all_both (InRangeSlot name (map f xs)) (InRangeSlot name (map f xs)) (InRangeSlot name xs)
      (λ s p q. (subst (λ (g : Slot → List Part). All InRangePart (g s)) slots_stay p.0, held_stays s p.1)) order h h

  pub writable_stays : IsWritable name (map f xs) → IsWritable name xs
  writable_stays w = record {
    in_range = range_stays w.in_range;
    length = subst (λ (ps : List Part). length (header ++ flat_map part ps) < 2 ^ 64) parts_stay w.length;
  }
