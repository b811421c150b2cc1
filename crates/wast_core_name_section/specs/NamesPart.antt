-- The name section as a custom section, by its subsections (binary format, modules: custom section; custom sections:
-- name section).
--
--   no subsection        no section
--   one or more          00, the length, 04 "name", and the subsections
use Rattle.std.specs.Prelude.{ℕ, List, [], ◌∷◌, codes, All}
use Rattle.std.specs.List.{flat_map}
use Rattle.wasm_ops.specs.Spelling.{InRangeName}
use Rattle.wasm_out.specs.NameSectionBytes.{NameSubsection, name_payload, name_subsection}
use Rattle.wasm_out.specs.Parts.{Custom, Part}

-- The part of a module. It is left out if there are no subsections.
abbrev pub names_part : List NameSubsection → List Part
names_part [] = []
names_part (s ∷ ss) = record { kind = Custom; items = record { name = codes "name"; bytes = flat_map (λ x. (name_subsection x).bytes) (s ∷ ss) } } ∷ []

-- The payload of the section, after its length.
abbrev pub payload_of : List NameSubsection → List ℕ
payload_of subsections = name_payload (flat_map (λ x. (name_subsection x).bytes) subsections)

-- Whether the numbers, counts and lengths of the payload are in range.
abbrev pub InRangePayload : List NameSubsection → Type 0
InRangePayload subsections = InRangeName (codes "name") × All (λ x. (name_subsection x).in_range) subsections
