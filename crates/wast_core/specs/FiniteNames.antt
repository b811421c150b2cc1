-- Renaming by a finite map, which a caller has for the names of one module (text format: identifiers).
use Rattle.std.specs.Prelude.{◌≡◌, ℕ, Bool, true, false, not, ◌&&◌, List, [], ◌∷◌}
use Rattle.std.specs.List.{list_any}
use Rattle.wast_base.specs.declared.ids.Name as code
use Rattle.wast_base.specs.declared.ids.Name.TheVariants as name
use Rattle.wast_base.specs.Ids.{Name, Written, Generated, same_name, name_of}
use Rattle.wast_resolve_laws.specs.Extended.{FiniteNaming, extended}
use Rattle.wast_resolve_laws.specs.Renaming.{Renaming, IsRenaming}
use Rattle.wast_core.specs.Tree.{Id}

-- Whether no two entries of a map have the same new name. For example, the map from `f` to `g` and from `h` to `g` is
-- not injective.
abbrev pub is_injective : FiniteNaming → Bool
is_injective [] = true
is_injective (e ∷ m) = not (list_any (λ d. same_name e.1 d.1) m) && is_injective m

-- The address of the text that an id has after the change. An id that becomes a generated one has no text, and needs
-- none.
abbrev pub Addresses : Type 0
Addresses = Id → ℕ × ℕ

-- A name as an id stores it: a source name with its text at an address, or a generated name with its number.
abbrev pub held_at : ℕ × ℕ → Name → code.Name
held_at a (Written text) = name.Written (record { ref_ptr = a; now = text })
held_at a (Generated n) = name.Generated n

-- The renaming by a finite map: each id keeps its position and gets the name that `extended` returns for its own. For
-- example, by the map from `f` to `g` the id `$f` at 31 becomes `$g` at 31.
abbrev pub renaming_by : Addresses → FiniteNaming → Renaming
renaming_by at m = record { name = extended m; id = λ id. record id { name = held_at (at id) (extended m (name_of id)) } }

-- It is a renaming, so all theorems about renaming hold of it, because `extended` never maps two names to one.
abbrev pub RenamesFinitely : Type 0
RenamesFinitely = (at : Addresses) (m : FiniteNaming) → is_injective m ≡ true → IsRenaming (renaming_by at m)
