-- The name of an item, and the entries of a name map (custom sections: name section).
--
--   (func $f)                named "f"
--   (func $f (@name "g"))    named "g": the annotation comes before the id
--   (func)                   has no name, also if desugaring generates an id for it
use Rattle.std.specs.Prelude.{ℕ, ◌+◌, List, [], ◌∷◌, Option, Some, None}
use Rattle.wast_base.specs.Ids.{Name, Written, Generated, name_of}
use Rattle.wast_core_name_section.specs.Tree.{Id, NameAnnotation}

-- The text of an id from the source. A generated id has none.
abbrev pub written_text : Name → Option (List ℕ)
written_text (Written text) = Some text
written_text (Generated n) = None

-- The text of an id, if it is from the source.
abbrev pub id_text : Option Id → Option (List ℕ)
id_text None = None
id_text (Some id) = written_text (name_of id)

-- The name of an item: its annotation, or else its id from the source.
abbrev pub given_name : Option NameAnnotation → Option Id → Option (List ℕ)
given_name (Some annotation) id = Some annotation.name.now
given_name None id = id_text id

-- The items that have an entry, each with its position, counted from `n` on.
abbrev pub named_from : {A : Type 0} → ℕ → List (Option A) → List (ℕ × A)
named_from n [] = []
named_from n (None ∷ items) = named_from (n + 1) items
named_from n (Some given ∷ items) = (n, given) ∷ named_from (n + 1) items
