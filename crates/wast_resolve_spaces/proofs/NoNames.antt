-- If no field of a struct has an id, no two have the same.
use Rattle.std.proofs.Common.{◌≡◌, List, map, Option, None, false, refl, sym, ap, ◌∙◌}
use Rattle.std.specs.Prelude.{is_some}
use Rattle.std.specs.List.{list_any}
use Rattle.std.proofs.lemmas.Simd.{map-map}
use Rattle.wast_base.specs.Ids.{Mark, mark_of_option}
use Rattle.wast_base.specs.Spaces.{name_if}
use Rattle.wast_tree_nodes.specs.Items.{field_ids}
use Rattle.wast_resolve_spaces.specs.Tree.{StructField}
use Rattle.wast_resolve_spaces.specs.Clashes.{FindsAmong}
use Rattle.wast_resolve_names.proofs.NoIds.{none_at}
use Rattle.wast_resolve_spaces.proofs.FieldClashes.{finds_none}

-- whether a field has an id
pub some_ids : (fields : List StructField)
    → list_any is_some (map name_if (field_ids fields)) ≡ list_any is_some (map (λ f. name_if (mark_of_option f.id)) fields)
some_ids fields = ap (list_any is_some) (map-map name_if (λ f. mark_of_option f.id) fields)

-- without ids no check fails
pub none_clashes : (ids : List (Option Mark)) → list_any is_some (map name_if ids) ≡ false → FindsAmong ids None
none_clashes ids h = finds_none ids refl (λ p c. absurd (cc (sym (none_at (map name_if ids) p h) ∙ c.bears)))
