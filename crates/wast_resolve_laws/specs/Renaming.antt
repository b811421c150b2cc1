-- Modules with other ids: each id has another name at the same position, and no two names become one (text format:
-- identifiers).
--
-- Ids have no meaning apart from equality, so resolving must not depend on them. With `r` before each name:
--
--   (func $f) (export "a" (func $f))     (func $rf) (export "a" (func $rf)): the same indices
--   (export "a" (func $g))               E4 at the same position, with the name rg instead of g
use Rattle.std.specs.Prelude.{◌≡◌, ⊤, ℕ, ◌<◌, List, [], ◌∷◌, ◌++◌, flat_map, Option, Some, None, option_map, Contains}
use Rattle.wast_base.specs.Ids.{Name, name_of, place_of, text_of, Mark, mark_of}
use Rattle.wast_base.specs.Faults.{Cause, Unknown, DuplicateField, NoNamedFields}
use Rattle.wast_tree_nodes.specs.Generations.{greatest_generation}
use Rattle.wast_tree_nodes.specs.Items.{items}
use Rattle.wast_tree_nodes.specs.Sites.{Check, ItemIndex, InnerIndex, PlainId, Clause, Covered, checks_of, in_module}
use Rattle.wast_tree_map.specs.Mapped.{Change, named_signature}
use Rattle.wast_tree_map.specs.Laws.{all_mapped}
use Rattle.wast_tree_map.specs.Named.{Naming}
use Rattle.wast_expand_inline.specs.Written.{desugared_from}
use Rattle.wast_resolve_laws.specs.Tree.{Span, Id, Index, FunctionType, TypeUse, ModuleField}
use Rattle.wast_resolve_laws.specs.Tree.index
use Rattle.wast_resolve_rules.specs.Demands.{first_unmet, demands, item_counts, body_counts, IsTooLarge}
use Rattle.wast_resolve_rules.specs.Explicit.{explicit_fields, by_positions, generated_id_count}
use Rattle.wast_resolve_rules.specs.Resolved.{resolved_fields}
use Rattle.wast_resolve_rules.specs.Stripped.{stripping}

-- the new name of each name, and the new id of each id
pub record Renaming : Type 0 where
  pub name : Naming
  pub id : Id → Id

-- An id gets the new name at its position, and no two names become one.
pub record IsRenaming (r : Renaming) : Type 0 where
  pub calls : (id : Id) → mark_of (r.id id) ≡ (r.name (name_of id), place_of id)
  pub injective : (a b : Name) → r.name a ≡ r.name b → a ≡ b

-- an index, in any space
abbrev pub renamed_index : Renaming → Index → Index
renamed_index r (index.Num n span) = index.Num n span
renamed_index r (index.Id id) = index.Id (r.id id)

-- a function type: the ids of its parameters, and its indices
abbrev pub renamed_type : Renaming → FunctionType → FunctionType
renamed_type r t = named_signature (option_map r.id) (λ s. renamed_index r) t

-- a type use
abbrev pub renamed_use : Renaming → TypeUse FunctionType → TypeUse FunctionType
renamed_use r u = record { index = option_map (renamed_index r) u.index; inline = option_map (renamed_type r) u.inline }

-- the change of every id in the tree
abbrev pub renaming : Renaming → Change
renaming r = record {
  index = λ s. renamed_index r;
  used = λ w. renamed_use r;
  local = λ l. renamed_index r;
  field = λ owner. renamed_index r;
  label = λ blocks. renamed_index r;
  id = option_map r.id;
  own = option_map r.id;
}

-- a list of fields
abbrev pub renamed_fields : Renaming → List ModuleField → List ModuleField
renamed_fields r fields = all_mapped (renaming r) fields

-- The ids that errors can have: those of struct fields, and indices that are ids.
abbrev pub mark_if : Option Mark → List Mark
mark_if None = []
mark_if (Some m) = m ∷ []

abbrev pub index_marks : Index → List Mark
index_marks (index.Num n span) = []
index_marks (index.Id id) = mark_of id ∷ []

-- the ids of a check
abbrev pub ask_marks : Check → List Mark
ask_marks (ItemIndex s i) = index_marks i
ask_marks (InnerIndex i) = index_marks i
ask_marks (PlainId m) = []
ask_marks (Clause n holds) = []
ask_marks (Covered form holds) = []

-- the ids of all fields that an error can have, with their positions
abbrev pub told_marks : List ModuleField → List Mark
told_marks fields = flat_map (λ x. flat_map mark_if x.fields) (items fields) ++ flat_map ask_marks (checks_of (in_module fields))

-- The error is the same at its position. A name in it is the new name of an id at that position.
abbrev pub RenamesName : Naming → List Mark → Span → (List ℕ → Cause) → List ℕ → Cause → Type 0
RenamesName n marks place fault text other = (name : Name) × (Contains marks (name, place) × ((text ≡ text_of name) × (other ≡ fault (text_of (n name)))))

abbrev pub RenamesCause : Naming → List Mark → Span → Cause → Cause → Type 0
RenamesCause n marks place (Unknown word text) other = RenamesName n marks place (Unknown word) text other
RenamesCause n marks place (DuplicateField word text) other = RenamesName n marks place (DuplicateField word) text other
RenamesCause n marks place (NoNamedFields text number) other = RenamesName n marks place (λ t. NoNamedFields t number) text other
RenamesCause n marks place fault other = other ≡ fault

-- the same for two results
abbrev pub RenamesFault : Naming → List Mark → Option (Cause × Span) → Option (Cause × Span) → Type 0
RenamesFault n marks None None = ⊤
RenamesFault n marks None (Some g) = ⊥
RenamesFault n marks (Some f) None = ⊥
RenamesFault n marks (Some f) (Some g) = RenamesCause n marks f.1 f.0 g.0 × (g.1 ≡ f.1)

-- With other names the first check that fails is the same.
abbrev pub RenamedAnswer : Type 0
RenamedAnswer = (r : Renaming) → IsRenaming r → (fields : List ModuleField)
    → RenamesFault r.name (told_marks (explicit_fields fields)) (first_unmet (demands (explicit_fields fields))) (first_unmet (demands (explicit_fields (renamed_fields r fields))))

-- The resolved fields by positions are the same, with the other names.
abbrev pub RenamedPositions : Type 0
RenamedPositions = (r : Renaming) → IsRenaming r → (fields : List ModuleField) → resolved_fields (by_positions (renamed_fields r fields)) ≡ renamed_fields r (resolved_fields (by_positions fields))

-- The sizes of items, struct fields, parameters, locals and enclosing blocks are the same.
abbrev pub RenamedCounts : Type 0
RenamedCounts = (r : Renaming) → IsRenaming r → (fields : List ModuleField)
    → (item_counts (items (explicit_fields (renamed_fields r fields))) ≡ item_counts (items (explicit_fields fields))) × (body_counts (explicit_fields (renamed_fields r fields)) ≡ body_counts (explicit_fields fields))

-- The number of generated ids is the same.
abbrev pub RenamedFilled : Type 0
RenamedFilled = (r : Renaming) → IsRenaming r → (fields : List ModuleField) → generated_id_count (renamed_fields r fields) ≡ generated_id_count fields

-- The condition for E10 is the same.
abbrev pub RenamedTooLarge : Type 0
RenamedTooLarge = (r : Renaming) → IsRenaming r → (n : ℕ) (fields : List ModuleField)
    → (IsTooLarge n fields → IsTooLarge n (renamed_fields r fields)) × (IsTooLarge n (renamed_fields r fields) → IsTooLarge n fields)

-- Expanding inline parts first does not change which check fails first.
abbrev pub WrittenAnswer : Type 0
WrittenAnswer = (n : ℕ) (fields : List ModuleField) → greatest_generation fields < n → first_unmet (demands (explicit_fields (desugared_from n fields))) ≡ first_unmet (demands (explicit_fields fields))

-- If all checks pass, it does not change the result by positions, apart from generated ids and the positions of indices
-- in type uses.
abbrev pub WrittenPositions : Type 0
WrittenPositions = (n : ℕ) (fields : List ModuleField) → greatest_generation fields < n → first_unmet (demands (explicit_fields fields)) ≡ None
    → all_mapped stripping (resolved_fields (by_positions (desugared_from n fields))) ≡ all_mapped stripping (resolved_fields (by_positions fields))
