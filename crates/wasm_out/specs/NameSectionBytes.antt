-- The name section, a custom section of subsections with an id and a length (custom sections: name section).
--
--   subsection Functions (01 00 01 66)       01 04 01 00 01 66: function 0 is "f"
use Rattle.std.specs.Prelude.{ℕ, List, ◌∷◌, ◌++◌, length, codes, Result}
use Rattle.wast_base.specs.declared.faults.Error.{Error}
use Rattle.wasm_ops.specs.Leb128.{unsigned}
use Rattle.wasm_ops.specs.Spelling.{InRangeU32, Encoding, u32, named, byte_then, seq, list_of, with_length, name}
use Rattle.wasm_out.specs.Built.{Built, behind_count, Appends}

-- The kinds of subsections, by what has the names.
pub data Named : Type 0 where
  Whole : Named
  Functions : Named
  Locals : Named
  Labels : Named
  Types : Named
  Tables : Named
  Memories : Named
  Globals : Named
  Elements : Named
  DataSegments : Named
  Fields : Named
  Tags : Named
  Parameters : Named
  TagParameters : Named

-- The ids of subsections, from the specification and its proposals. Only this project uses 12 and 13.
abbrev pub subsection_id : Named → ℕ
subsection_id Whole = 0
subsection_id Functions = 1
subsection_id Locals = 2
subsection_id Labels = 3
subsection_id Types = 4
subsection_id Tables = 5
subsection_id Memories = 6
subsection_id Globals = 7
subsection_id Elements = 8
subsection_id DataSegments = 9
subsection_id Fields = 10
subsection_id Tags = 11
subsection_id Parameters = 12
subsection_id TagParameters = 13

-- The bytes of a subsection: its id, the length of its content, and its content.
abbrev pub subsection : Named → List ℕ → List ℕ
subsection named content = subsection_id named ∷ (unsigned (length content) ++ content)

-- On success a name map is appended as a subsection, and its length is in range. After an error nothing is changed.
abbrev pub AppendsNames : {A : Type 0} → Named → Built → List ℕ → List ℕ → Result A Error → Type 0
AppendsNames named names old new result =
    Appends (InRangeU32 (length (behind_count names))) old new (subsection named (behind_count names)) result

-- An entry of a name map: an index and a name.
abbrev pub name_entry : ℕ × List ℕ → Encoding
name_entry e = seq (u32 e.0) (named e.1)

-- The content of a subsection: one name, names by index, or name maps by index.
pub data NameContent : Type 0 where
  One : List ℕ → NameContent
  Direct : List (ℕ × List ℕ) → NameContent
  Indirect : List (ℕ × List (ℕ × List ℕ)) → NameContent

-- A subsection: its kind and its content.
pub record NameSubsection : Type 0 where
  pub of : Named
  pub content : NameContent

-- An entry of an indirect name map: an index and a name map.
abbrev pub map_entry : ℕ × List (ℕ × List ℕ) → Encoding
map_entry e = seq (u32 e.0) (list_of name_entry e.1)

-- The content of a subsection.
abbrev pub name_content : NameContent → Encoding
name_content (One text) = named text
name_content (Direct names) = list_of name_entry names
name_content (Indirect maps) = list_of map_entry maps

-- A subsection: its id, the length of its content, and the content.
abbrev pub name_subsection : NameSubsection → Encoding
name_subsection s = byte_then (subsection_id s.of) (with_length (name_content s.content))

-- The payload of the section, from the bytes of its subsections.
abbrev pub name_payload : List ℕ → List ℕ
name_payload subsections = name (codes "name") ++ subsections
