-- The custom sections at a position, as sections and as parts of a module.
use Rattle.std.proofs.Common.{◌≡◌, List, map, Result, refl, sym}
use Rattle.std.specs.Prelude.{All}
use Rattle.std.specs.List.{flat_map}
use Rattle.wasm_ops.specs.Sinks.{SinkRules, Writes}
use Rattle.wasm_ops.specs.declared.sink.Refusal.{Refusal}
use Rattle.wasm_ops.proofs.Everywhere.{all_map, all_unmap, all_both}
use Rattle.wasm_ops.proofs.Sinking.{written_as}
use Rattle.wasm_out.specs.Parts.{part, InRangePart}
use Rattle.wast_core_conv.specs.Customs.{custom_part, InRangeCustom, custom_bytes}
use Rattle.wast_core_sections.specs.Sections.{custom_section}
use Rattle.wast_core_sections.specs.Tree.{Custom}
use Rattle.wast_core_name_section.proofs.Each.{each_like}

-- A section is in range if its part and its content are.
in_range_apart : (cs : List Custom) → All InRangeCustom cs → All InRangePart (map custom_part cs) × All (λ x. (custom_bytes x).in_range) cs
in_range_apart cs h = (
  all_map InRangePart custom_part cs (each_part cs h),
  all_both InRangeCustom InRangeCustom (λ x. (custom_bytes x).in_range) (λ c p q. p.1.1) cs h h,
)
  where
    each_part : (cs : List Custom) → All InRangeCustom cs → All (λ c. InRangePart (custom_part c)) cs
    each_part cs h = all_both InRangeCustom InRangeCustom (λ c. InRangePart (custom_part c)) (λ c p q. (p.0, p.1.0)) cs h h

in_range_joined : (cs : List Custom) → All InRangePart (map custom_part cs) × All (λ x. (custom_bytes x).in_range) cs → All InRangeCustom cs
in_range_joined cs h = all_both (λ c. InRangePart (custom_part c)) (λ x. (custom_bytes x).in_range) InRangeCustom (λ c p q. (p.0, (p.1, q))) cs
    (all_unmap InRangePart custom_part cs h.0) h.1

sections_are_parts : (cs : List Custom) → flat_map custom_section cs ≡ flat_map part (map custom_part cs)
sections_are_parts cs = sym (each_like custom_part part custom_section (λ c. refl) cs)

-- So written sections are written parts.
pub parts_written : {S A : Type 0} (rules : SinkRules S) (cs : List Custom) (a b : S) (r : Result A Refusal)
    → Writes rules (All InRangeCustom cs) a b (flat_map custom_section cs) r
    → Writes rules (All InRangePart (map custom_part cs) × All (λ x. (custom_bytes x).in_range) cs) a b (flat_map part (map custom_part cs)) r
parts_written rules cs a b r p =
    written_as rules (All InRangeCustom cs) (All InRangePart (map custom_part cs) × All (λ x. (custom_bytes x).in_range) cs) a b
    (flat_map custom_section cs) (flat_map part (map custom_part cs)) r (in_range_apart cs) (in_range_joined cs) (sections_are_parts cs) p
