-- A binary module without its custom sections called `name` (binary format: modules, sections, custom sections).
--
--   a header, a type section, a section `name`      the header and the type section
--   bytes that are no sections                      as they are
use Rattle.std.specs.Prelude.{ℕ, zero, suc, ◌+◌, ◌*◌, ◌%◌, ◌==◌, nat_eq, nat_lt, nat_le, ◌&&◌, Bool, true, false, List, [], ◌∷◌, ◌++◌, length, take, drop, codes, Option, None, Some, option_map, if◌then◌else◌}
use Rattle.std.specs.List.{starts_with}

-- a number by its first byte, and by the number after that byte: a first byte below 128 is the last
abbrev pub number_from : Bool → ℕ → Option (ℕ × ℕ) → Option (ℕ × ℕ)
number_from true b more = Some (b, 1)
number_from false b more = option_map (λ (r : ℕ × ℕ). (b % 128 + 128 * r.0, 1 + r.1)) more

-- The number at the start of bytes, with at most so many bytes, and how many it has (binary format: integers). Each byte has seven bits of
-- it, the lowest first.
abbrev pub number_at : ℕ → List ℕ → Option (ℕ × ℕ)
number_at zero bytes = None
number_at (suc most) [] = None
number_at (suc most) (b ∷ bs) = number_from (nat_lt b 128) b (number_at most bs)

-- what such a number is below: 128 for each byte
abbrev pub bound_of : ℕ → ℕ
bound_of zero = 1
bound_of (suc most) = 128 * bound_of most

-- how many bytes the number of a 32-bit size has at most
abbrev pub longest : ℕ
longest = 5

-- how many bytes a section has: its id, the size of its contents, and these
abbrev pub section_of : List ℕ → Option (ℕ × ℕ) → Option ℕ
section_of bytes None = None
section_of bytes (Some r) = if nat_le (1 + r.1 + r.0) (length bytes) then Some (1 + r.1 + r.0) else None

-- how many bytes the section at the start of bytes has, if there is one
abbrev pub section_length : List ℕ → Option ℕ
section_length bytes = section_of bytes (number_at longest (drop 1 bytes))

-- whether contents begin with a name of four bytes that is `name`
abbrev pub is_called_name : List ℕ → Option (ℕ × ℕ) → Bool
is_called_name contents None = false
is_called_name contents (Some r) = r.0 == 4 && starts_with nat_eq (drop r.1 contents) (codes "name")

-- the contents of a section, by the size before them
abbrev pub contents_of : List ℕ → Option (ℕ × ℕ) → List ℕ
contents_of section None = []
contents_of section (Some r) = drop (1 + r.1) section

abbrev pub contents : List ℕ → List ℕ
contents section = contents_of section (number_at longest (drop 1 section))

-- whether a section is a custom section called `name`
abbrev pub is_name_section : List ℕ → Bool
is_name_section section = starts_with nat_eq section (0 ∷ []) && is_called_name (contents section) (number_at longest (contents section))

-- what is kept of a section
abbrev pub kept_of : List ℕ → List ℕ
kept_of section = if is_name_section section then [] else section

-- What is kept of bytes, by how many bytes the section at their start has, and by what is kept of those after it. Bytes that do not begin
-- with a section are kept.
abbrev pub kept_by : List ℕ → (List ℕ → List ℕ) → Option ℕ → List ℕ
kept_by bytes more None = bytes
kept_by bytes more (Some n) = kept_of (take n bytes) ++ more (drop n bytes)

-- what is kept of at most so many sections, and the bytes after them
abbrev pub kept : ℕ → List ℕ → List ℕ
kept zero bytes = bytes
kept (suc most) bytes = kept_by bytes (kept most) (section_length bytes)

-- a module without its custom sections called `name`
abbrev pub without_names : List ℕ → List ℕ
without_names bytes = take 8 bytes ++ kept (length (drop 8 bytes)) (drop 8 bytes)
