-- Ids and indices: their names, their positions, when two are equal, and how they are printed (text format: identifiers,
-- indices).
--
-- A `Name` has the bytes of a text, because a `&str` in a contract also has an address.
--
--   `$f` at 8 and `$f` at 20     the same name, so the same id
--   `$gensym`, generated id 1    both have the text "gensym", but the ids differ: one is generated
--   printed                      `$f`, `$gensym`, `gensym 1`
use Rattle.std.specs.Prelude.{ℕ, ◌==◌, Bool, true, false, List, ◌++◌, codes, Option, option_map}
use Rattle.std.specs.Fmt.{decimal}
use lib.Pointwise.{pointwise}
use Rattle.std.specs.Borrow.{Bor}
use Rattle.wast_base.specs.declared.ids.Span.{Span}
use Rattle.wast_base.specs.declared.ids.Name as code
use Rattle.wast_base.specs.declared.ids.Name.TheVariants as name
use Rattle.wast_base.specs.declared.ids.Id.{Id}
use Rattle.wast_base.specs.declared.ids.Index.{Index}
use Rattle.wast_base.specs.declared.ids.Index.TheVariants as index

-- the start of the source
abbrev pub text_start : Span
text_start = record { offset = 0 }

-- the bytes of a source id, or the generation of a generated one; the generations of a counter begin at 1
pub data Name : Type 0 where
  Written : List ℕ → Name
  Generated : ℕ → Name

-- whether two texts have the same bytes
abbrev pub same_text : List ℕ → List ℕ → Bool
same_text a b = pointwise ◌==◌ a b

-- whether two names have the same text, or the same generation
abbrev pub same_name : Name → Name → Bool
same_name (Written a) (Written b) = same_text a b
same_name (Generated a) (Generated b) = a == b
same_name (Written a) (Generated b) = false
same_name (Generated a) (Written b) = false

-- the text of a name, which is `gensym` for a generated one
abbrev pub text_of : Name → List ℕ
text_of (Written text) = text
text_of (Generated n) = codes "gensym"

-- the generation of a name, which is 0 for a source id
abbrev pub generation_of : Name → ℕ
generation_of (Written text) = 0
generation_of (Generated n) = n

-- whether a name is generated
abbrev pub is_generated : Name → Bool
is_generated (Written text) = false
is_generated (Generated n) = true

-- the name of the code's `Name`, without the address of its text
abbrev pub named_by : code.Name → Name
named_by (name.Written text) = Written text.now
named_by (name.Generated n) = Generated n

-- the name of an id
abbrev pub name_of : Id → Name
name_of id = named_by id.name

-- the position of an id
abbrev pub place_of : Id → Span
place_of id = id.span

-- a name with a position
abbrev pub Mark : Type 0
Mark = Name × Span

-- the name of an id, with its position
abbrev pub mark_of : Id → Mark
mark_of id = (name_of id, place_of id)

-- the same for an optional id
abbrev pub mark_of_option : Option Id → Option Mark
mark_of_option id = option_map mark_of id

-- a source id
abbrev pub source_id : Bor (List ℕ) → Span → Id
source_id text span = record { name = name.Written text; span = span }

-- a generated id
abbrev pub gensym_id : ℕ → Span → Id
gensym_id n span = record { name = name.Generated n; span = span }

-- whether two ids have the same name and generation; positions are ignored
abbrev pub same_id : Id → Id → Bool
same_id a b = same_name (name_of a) (name_of b)

-- whether two indices are the same number or the same id; positions are ignored
abbrev pub same_index : Index → Index → Bool
same_index (index.Num m p) (index.Num n q) = m == n
same_index (index.Id a) (index.Id b) = same_id a b
same_index (index.Num m p) (index.Id b) = false
same_index (index.Id a) (index.Num n q) = false

-- the position of an index
abbrev pub span_of_index : Index → Span
span_of_index (index.Num n span) = span
span_of_index (index.Id id) = place_of id

-- whether an index is a number
abbrev pub is_number : Index → Bool
is_number (index.Num n span) = true
is_number (index.Id id) = false

-- an index that is a number, at the start of the source
abbrev pub index_of_number : ℕ → Index
index_of_number n = index.Num n text_start

-- an index that is an id
abbrev pub by_id : Id → Index
by_id id = index.Id id

-- the printed form of an id: `$` and its text, or `gensym` and the generation of a generated one
abbrev pub id_text : Name → List ℕ
id_text (Written text) = codes "$" ++ text
id_text (Generated n) = codes "gensym " ++ decimal n

-- the printed form of an index
abbrev pub index_text : Index → List ℕ
index_text (index.Num n span) = decimal n
index_text (index.Id id) = id_text (name_of id)
