-- Reading bytes as a module: the header, then sections to the end of the bytes (binary format: modules).
--
-- It is a relation, because not all bytes are a module. It has at most one list of sections for given bytes: the
-- theorem `reading_laws`.
--
--   Reads (00 61 73 6d 01 00 00 00) []       a module without sections
use Rattle.std.specs.Prelude.{◌≡◌, ◌<◌, ℕ, List, [], ◌∷◌, ◌++◌, All}
use Rattle.std.specs.List.{flat_map}
use Rattle.wasm_out.specs.Parts.{Part, part, InRangePart}
use Rattle.wasm_out.specs.Readable.{IsReadablePart}

-- The magic number and the version.
abbrev pub header : List ℕ
header = 0x00 ∷ 0x61 ∷ 0x73 ∷ 0x6d ∷ 0x01 ∷ 0x00 ∷ 0x00 ∷ 0x00 ∷ []

-- The bytes are a module with these sections: the header, and their encodings one after another.
pub record Reads (bytes : List ℕ) (parts : List Part) : Type 0 where
  pub in_range : All InRangePart parts
  pub readable : All IsReadablePart parts
  pub spelled : bytes ≡ header ++ flat_map part parts
  pub are_bytes : All (λ b. b < 256) bytes
