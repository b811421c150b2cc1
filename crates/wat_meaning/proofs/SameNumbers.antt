-- A tree has the items of its bare tree, and so each source id denotes the same index.
--
-- The counter of resolving adds generated ids to items without one, so the index of a source id is that before. For example, in
-- `(module (func) (func $g))` the first function gets a generated id, and `$g` stays 1.
use Rattle.std.proofs.Common.{◌≡◌, ℕ, ◌+◌, ◌<◌, List, sym, ap, ◌∙◌, subst, arith}
use Rattle.wast_base.specs.Ids.{Written}
use Rattle.wast_tree_nodes.specs.Generations.{greatest_generation}
use Rattle.wast_tree_nodes.specs.Items.{Item, items}
use Rattle.wast_tree_nodes.specs.Known.{id_context}
use Rattle.wast_expand_inline.specs.Written.{desugared_from, reference_id_count}
use Rattle.wast_expand_inline.proofs.Below.{written_below}
use Rattle.wast_resolve_rules.specs.Explicit.{explicit_fields, explicit_fields_from}
use Rattle.wast_resolve_laws.specs.Renaming.{renamed_fields}
use Rattle.wast_resolve_laws.proofs.ExpandedItems.{expanded_position}
use Rattle.wast_resolve_laws.proofs.Renamed.{same_explicit}
use Rattle.wast_resolve_laws.proofs.WrittenItems.{written_position}
use Rattle.wast_core.specs.Tree.{Space, ModuleField}
use Rattle.wat_syntax.specs.BareFields.{bare_fields}
use Rattle.wat_meaning.specs.Erasing.{erasing}
use Rattle.wat_meaning.specs.Laws.{SameNumbers}
use Rattle.wat_ready.specs.Shown.{shown_fields}
use Rattle.wat_meaning.proofs.Erased.{is_renaming, of_bare}
use Rattle.wat_meaning.proofs.ErasedRules.{items_erased}
use Rattle.wat_meaning.proofs.OneMeaning.{same_generation}
use Rattle.wat_meaning.proofs.ShownItems.{items_shown}
use Rattle.wat_meaning.proofs.ShownResolved.{shown_explicit}

-- A source id denotes the same index with generated ids and without.
without_generated : (n : ℕ) (xs : List ModuleField) (s : Space) (text : List ℕ) → greatest_generation xs < n
    → (id_context (items (explicit_fields_from n xs))).number s (Written text) ≡ (id_context (items (explicit_fields xs))).number s (Written text)
without_generated n xs s text above =
    let later = written_below n xs above in
    expanded_position (n + reference_id_count xs) (desugared_from n xs) (omega (arith, later)) (Written text) s (omega (arith, above))
    ∙ written_position n xs (omega (arith, above)) (Written text) s (omega (arith, above))

-- The items before ids are generated.
shown_before : (xs : List ModuleField) → items (explicit_fields (shown_fields xs)) ≡ items (explicit_fields xs)
shown_before xs = ap items (shown_explicit xs) ∙ items_shown (explicit_fields xs)

erased_before : (xs : List ModuleField) → items (explicit_fields (renamed_fields erasing xs)) ≡ items (explicit_fields xs)
erased_before xs = ap items (same_explicit erasing is_renaming xs) ∙ items_erased (explicit_fields xs)

pub same_items : (xs : List ModuleField) → items (explicit_fields (bare_fields xs)) ≡ items (explicit_fields xs)
same_items xs = of_bare (λ zs. items (explicit_fields zs)) shown_before xs (erased_before xs)

pub same_numbers : SameNumbers
same_numbers n xs above s text =
    without_generated n (bare_fields xs) s text (subst (λ (k : ℕ). k < n) (sym (same_generation xs)) above)
    ∙ (ap (λ (is : List Item). (id_context is).number s (Written text)) (same_items xs)
    ∙ sym (without_generated n xs s text above))
