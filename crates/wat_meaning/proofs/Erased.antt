-- A bare tree is the tree with each id renamed to itself at address 0, and then with each name and string at address 0 too.
--
-- wat_ready has this for the change of a tree that `erasing` makes.
use Rattle.std.proofs.Common.{◌≡◌, List, ap, ◌∙◌}
use Rattle.wast_base.specs.Ids.{Name, place_of}
use Rattle.wast_tree_map.specs.Mapped.{mapped_field}
use Rattle.wast_resolve_laws.specs.Renaming.{IsRenaming, renaming, renamed_fields}
use Rattle.wat_syntax.specs.Tree.{ModuleField}
use Rattle.wat_syntax.specs.BareFields.{bare_field, bare_fields}
use Rattle.wat_ready.specs.Shown.{shown_field, shown_fields}
use Rattle.wat_ready.proofs.Erased.{name_kept, field_is, bare_is_erased}
use Rattle.wat_meaning.specs.Erasing.{erasing}

pub is_renaming : IsRenaming erasing
is_renaming = record { calls = λ id. ap (λ (n : Name). (n, place_of id)) (name_kept id.name); injective = λ a b same. same }

pub field_is_shown : (x : ModuleField) → bare_field x ≡ shown_field (mapped_field (renaming erasing) x)
field_is_shown x = field_is x

pub bare_is_shown : (xs : List ModuleField) → bare_fields xs ≡ shown_fields (renamed_fields erasing xs)
bare_is_shown xs = bare_is_erased xs

-- What does not depend on the addresses of ids, nor on those of names and strings, is the same for the bare tree.
module _ {A : Type 0} (f : List ModuleField → A) (shown : (xs : List ModuleField) → f (shown_fields xs) ≡ f xs) where
  pub of_bare : (xs : List ModuleField) → f (renamed_fields erasing xs) ≡ f xs → f (bare_fields xs) ≡ f xs
  of_bare xs erased = ap f (bare_is_shown xs) ∙ (shown (renamed_fields erasing xs) ∙ erased)
