-- The parts of a module do not depend on addresses.
--
-- For example, `(func $f) (export "a" (func $f))` has the same parts, wherever the two texts of `$f` and that of "a" are. Each of the two
-- steps to a bare tree keeps what parts are made of: the first is a renaming that keeps each number.
use Rattle.std.proofs.Common.{◌≡◌, ℕ, ◌||◌, List, [], ◌∷◌, map, All, Option, refl, ap, ◌∙◌, subst}
use Rattle.std.specs.Prelude.{codes}
use Rattle.wast_tree_nodes.specs.Customs.{is_custom_called, customs_at}
use Rattle.wast_tree_map.specs.Mapped.{Change, mapped_field}
use Rattle.wast_tree_map.specs.Laws.{all_mapped}
use Rattle.wast_resolve_laws.specs.Renaming.{renaming, renamed_fields}
use Rattle.wast_core_conv.specs.Customs.{custom_bytes, custom_part}
use Rattle.wast_core_sections.specs.DataCounts.{needs_count}
use Rattle.wast_core_sections.specs.Hints.{hinted_functions}
use Rattle.wast_core_sections.specs.Sections.{contribution_of, has_own_names, parts}
use Rattle.wast_core_sections.specs.Writable.{IsWritable}
use Rattle.wast_core.specs.Front.{KeepsNumbers}
use Rattle.wast_core.specs.Tree.{ModuleField}
use Rattle.wast_core.specs.Tree.field
use Rattle.wast_core.proofs.Counting.{same_need}
use Rattle.wast_core.proofs.Fronts.{same_customs, same_hinted}
use Rattle.wast_core.proofs.RenamedFronts.{renaming_tells}
use Rattle.wast_core.proofs.Told.{contributed_told}
use Rattle.wat_syntax.specs.BareFields.{bare_field, bare_fields}
use Rattle.wat_meaning.specs.Erasing.{erasing}
use Rattle.wat_meaning.proofs.Erased.{field_is_shown, bare_is_shown, of_bare}
use Rattle.wat_meaning.proofs.BareNames.{keeps_names}
use Rattle.wat_meaning.proofs.SameParts.{KeepsParts, parts_stay, writable_stays}
use Rattle.wat_meaning.proofs.ShownCustoms.{customs_same, ranges_same, own_same}
use Rattle.wat_meaning.proofs.ShownEntries.{contributed_same, hinted_same, count_same}

-- The change that sets ids to address 0. It keeps each number.
abbrev erased : Change
erased = renaming erasing

tells : KeepsNumbers erased
tells = renaming_tells erasing

called_erased : (x : ModuleField) → is_custom_called (codes "name") (mapped_field erased x) ≡ is_custom_called (codes "name") x
called_erased (field.Ty t) = refl
called_erased x = refl

own_erased : (xs : List ModuleField) → has_own_names (all_mapped erased xs) ≡ has_own_names xs
own_erased [] = refl
own_erased (x ∷ xs) = λ i. called_erased x i || own_erased xs i

bare_keeps : KeepsParts bare_field
bare_keeps = record {
  contribution = λ x. ap contribution_of (field_is_shown x) ∙ (contributed_same (mapped_field erased x) ∙ contributed_told erased tells x);
  customs = λ place xs.
      of_bare (λ ys. map custom_part (customs_at place ys)) (customs_same place) xs (ap (map custom_part) (same_customs erased tells place xs));
  ranges = λ place xs h.
      subst (All (λ c. (custom_bytes c).in_range)) (same_customs erased tells place xs)
      (ranges_same place (renamed_fields erasing xs)
      (subst (λ (ys : List ModuleField). All (λ c. (custom_bytes c).in_range) (customs_at place ys)) (bare_is_shown xs) h));
  hinted = λ xs. of_bare hinted_functions hinted_same xs (same_hinted erased tells xs);
  needed = λ xs. of_bare needs_count count_same xs (same_need erased xs);
  called = λ xs. of_bare has_own_names own_same xs (own_erased xs);
  names = keeps_names;
}

pub bare_parts : (name : Option (List ℕ)) (xs : List ModuleField) → parts name (bare_fields xs) ≡ parts name xs
bare_parts name xs = parts_stay bare_field bare_keeps name xs

-- The fields can be written if their bare fields can.
pub bare_writable : (name : Option (List ℕ)) (xs : List ModuleField) → IsWritable name (bare_fields xs) → IsWritable name xs
bare_writable name xs w = writable_stays bare_field bare_keeps name xs w
