-- The items of the expansion by ids are those of the one by positions, some with generated ids.
use Rattle.std.proofs.Common.{◌≡◌, ℕ, ◌+◌, ◌<◌, Bool, true, false, List, [], ◌∷◌, ◌++◌, map, append_assoc, refl, sym, ap, ◌∙◌, subst, arith}
use Rattle.std.specs.Prelude.{max}
use Rattle.std.proofs.lemmas.Grind.{flat_map-append}
use Rattle.wast_base.specs.Ids.{Name, generation_of}
use Rattle.wast_tree_nodes.specs.Items.{Item, items_in, items}
use Rattle.wast_tree_nodes.specs.Known.{id_context}
use Rattle.wast_tree_nodes.specs.Generations.{generation_or_zero, greatest_item}
use Rattle.wast_base.specs.Filling.{one_if, given_if}
use Rattle.wast_expand_keys.specs.ImpliedTypes.{implied_signatures}
use Rattle.wast_expand_keys.specs.Expanded.{unnamed_type}
use Rattle.wast_expand_keys.specs.Completed.{fields_with_implied_types}
use Rattle.wast_expand_inline.specs.Tree.{ModuleField}
use Rattle.wast_expand_inline.specs.Tree.field
use Rattle.wast_expand_inline.specs.WriteOut.{Reference, desugar_field}
use Rattle.wast_expand_inline.specs.Referring.{by_id, by_position, wants_id, with_item_id}
use Rattle.wast_expand_inline.specs.Written.{desugared_from, written_after, desugared_by_position}
use Rattle.wast_expand_inline.proofs.WrittenItems.{segments, field_items, same_after, given}
use Rattle.wast_resolve_laws.specs.Tree.{Space}
use Rattle.wast_resolve_rules.specs.Demands.{first_unmet, item_demands, item_counts}
use Rattle.wast_resolve_laws.proofs.Changes.{Change, Kept, Given, old_of, new_of, olds, news, changed_position, changed_clashes, changed_counts}
use Rattle.wast_resolve_laws.proofs.ExpandedItems.{completed_items_below}
use Rattle.wast_resolve_laws.proofs.WrittenLooks.{alike_implied, written_looks}

-- the second items are the first, some with ids from a counter on
record AreChanged (n : ℕ) (xs ys : List Item) : Type 0 where
  cs : List Change
  old : xs ≡ olds cs
  new : ys ≡ news n cs

all_kept : (n : ℕ) (xs : List Item) → AreChanged n xs xs
all_kept n [] = record { cs = []; old = refl; new = refl }
all_kept n (x ∷ xs) = let h = all_kept n xs in record { cs = Kept x ∷ h.cs; old = ap (λ ys. x ∷ ys) h.old; new = ap (λ ys. x ∷ ys) h.new }

module _ (n : ℕ) (ys zs : List Item) where
  behind_kept : (xs : List Item) → AreChanged n ys zs → AreChanged n (xs ++ ys) (xs ++ zs)
  behind_kept [] h = h
  behind_kept (x ∷ xs) h = let k = behind_kept xs h in record { cs = Kept x ∷ k.cs; old = ap (λ ws. x ∷ ws) k.old; new = ap (λ ws. x ∷ ws) k.new }

  behind_own : (b : Bool) (x : ModuleField) → wants_id x ≡ b → AreChanged (n + one_if b) ys zs
      → AreChanged n (items_in x ++ ys) (items_in (given_if b with_item_id n x) ++ zs)
  behind_own false x e h = behind_kept (items_in x) (subst (λ m. AreChanged m ys zs) (omega arith) h)
  behind_own true x e h = let g = given n x e in record {
    cs = Given g.s g.p [] ∷ h.cs;
    old = ap (λ ws. ws ++ ys) g.old ∙ ap (λ ws. old_of (Given g.s g.p []) ∷ ws) h.old;
    new = ap (λ ws. ws ++ zs) g.new ∙ ap (λ ws. new_of n (Given g.s g.p []) ∷ ws) h.new;
  }

same_segments : (b : Bool) (n : ℕ) (x : ModuleField) → segments (given_if b with_item_id n x) ≡ segments x
same_segments false n x = refl
same_segments true n (field.Func f) = refl
same_segments true n x = refl

parts : (r : Reference) (x : ModuleField) (xs : List ModuleField) (ts : List Item)
    → items (desugar_field r x ++ xs) ++ ts ≡ segments x ++ (items_in x ++ (items xs ++ ts))
parts r x xs ts =
    ap (λ ys. ys ++ ts) (flat_map-append items_in (desugar_field r x) xs ∙ ap (λ ys. ys ++ items xs) (field_items r x))
    ∙ (append_assoc (segments x ++ items_in x) (items xs) ts ∙ append_assoc (segments x) (items_in x) (items xs ++ ts))

fields_changed : (n : ℕ) (before ts : List Item) (xs : List ModuleField)
    → AreChanged n (items (written_after before xs) ++ ts) (items (desugared_from n xs) ++ ts)
fields_changed n before ts [] = all_kept n ts
fields_changed n before ts (x ∷ xs) =
    let b = wants_id x in
    let y = given_if b with_item_id n x in
    let olds : List ModuleField = written_after (before ++ items_in x) xs in
    let news : List ModuleField = desugared_from (n + one_if b) xs in
    let own = behind_own n (items olds ++ ts) (items news ++ ts) b x refl (fields_changed (n + one_if b) (before ++ items_in x) ts xs) in
    let all = behind_kept n (items_in x ++ (items olds ++ ts)) (items_in y ++ (items news ++ ts)) (segments x) own in
    subst (λ ws. AreChanged n (items (desugar_field (by_position before) x ++ olds) ++ ts) ws)
    (ap (λ ws. ws ++ (items_in y ++ (items news ++ ts))) (sym (same_segments b n x)) ∙ sym (parts by_id y news ts))
    (subst (λ ws. AreChanged n ws (segments x ++ (items_in y ++ (items news ++ ts)))) (sym (parts (by_position before) x olds ts)) all)

-- Compares the items of both lists, if the counter is past the ids of the fields.
module _ (n : ℕ) (fields : List ModuleField) where
  abbrev new : List Item
  new = items (fields_with_implied_types (desugared_from n fields))

  abbrev old : List Item
  old = items (fields_with_implied_types (desugared_by_position fields))

  abbrev implied_items : List Item
  implied_items = items (map unnamed_type (implied_signatures (desugared_by_position fields)))

  new_parts : new ≡ items (desugared_from n fields) ++ implied_items
  new_parts =
      flat_map-append items_in (desugared_from n fields) (map unnamed_type (implied_signatures (desugared_from n fields)))
      ∙ ap (λ ss. items (desugared_from n fields) ++ items (map unnamed_type ss)) (alike_implied (written_looks n fields))

  old_parts : old ≡ items (desugared_by_position fields) ++ implied_items
  old_parts = flat_map-append items_in (desugared_by_position fields) (map unnamed_type (implied_signatures (desugared_by_position fields)))

  are_changed : AreChanged n old new
  are_changed = let h = fields_changed n [] implied_items fields in record { cs = h.cs; old = old_parts ∙ h.old; new = new_parts ∙ h.new }

  module _ (above : greatest_item (items fields) < n) where
    below : greatest_item old < n
    below =
        let same = same_after greatest_item (λ s xs h. omega arith) (λ x xs ys e. ap (λ m. max (generation_or_zero x.id) m) e) [] fields in
        completed_items_below n (desugared_by_position fields) (omega (arith, above, same))

    pub written_position : (q : Name) (s : Space) → generation_of q < n → (id_context new).number s q ≡ (id_context old).number s q
    written_position = changed_position n are_changed.cs old new are_changed.old are_changed.new below

    pub written_clashes : first_unmet (item_demands new) ≡ first_unmet (item_demands old)
    written_clashes = changed_clashes n are_changed.cs old new are_changed.old are_changed.new below

    pub written_item_counts : item_counts new ≡ item_counts old
    written_item_counts = changed_counts n are_changed.cs old new are_changed.old are_changed.new below
