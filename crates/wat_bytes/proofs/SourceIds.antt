-- Resolving keeps the source ids of the items, with their positions and their indices: it only generates ids.
use Rattle.std.proofs.Common.{◌≡◌, ℕ, ◌+◌, Bool, true, false, List, [], ◌∷◌, ◌++◌, map, flat_map, Option, Result, Ok, Err, IfOk, IfErr, inr, refl, sym, ap, ◌∙◌}
use Rattle.std.proofs.lemmas.Grind.{flat_map-append}
use Rattle.std.specs.Global.{Vec}
use Rattle.wast_base.specs.declared.faults.Error.{Error}
use Rattle.wast_base.specs.Faults.{out_of_memory}
use Rattle.wast_base.specs.Filling.{one_if, given_if}
use Rattle.wast_base.specs.Ids.{Mark}
use Rattle.wast_base.specs.Spaces.{spaces}
use Rattle.wast_base.specs.declared.spaces.Space.{Space}
use Rattle.wast_tree_nodes.specs.Items.{Item, items_in, items}
use Rattle.wast_expand_inline.specs.Referring.{by_id, by_position, wants_id, with_item_id}
use Rattle.wast_expand_inline.specs.WriteOut.{Reference, desugar_field}
use Rattle.wast_expand_inline.specs.Written.{desugared_from, written_after, desugared_by_position, reference_id_count}
use Rattle.wast_expand_inline.proofs.WrittenItems.{segments, field_items, given}
use Rattle.wast_expand_keys.specs.Completed.{fields_with_implied_types}
use Rattle.wast_expand_keys.specs.Expanded.{unnamed_type, expanded_fields}
use Rattle.wast_expand_keys.specs.ImpliedTypes.{implied_signatures}
use Rattle.wast_resolve_names.specs.Resolvers.{KnownNames}
use Rattle.wast_resolve_rules.specs.Explicit.{explicit_fields, explicit_fields_from}
use Rattle.wast_resolve_rules.specs.Finished.{resolved_fields_from}
use Rattle.wast_resolve_laws.proofs.Changes.{Change, Kept, Given, old_of, olds, news}
use Rattle.wast_resolve_laws.proofs.Explicit.{finished_items}
use Rattle.wast_resolve_laws.proofs.ExpandedItems.{changes, new_items, old_items}
use Rattle.wast_resolve_laws.proofs.WrittenLooks.{alike_implied, written_looks}
use Rattle.wast_core_name_section.specs.GivenNames.{named_from}
use Rattle.wast_core.specs.Tree.{ModuleField}
use Rattle.wast_core.specs.Tree.field
use Rattle.wast_core.specs.Headline.{ResolvesKind}
use Rattle.wast_core.specs.Modules.{IsReady}
use Rattle.wast_core.specs.declared.module.Module.{Module}
use Rattle.wast_core.specs.declared.module.ModuleKind.{ModuleKind}
use Rattle.wast_core.specs.declared.module.ModuleKind.TheVariants as kind
use Rattle.wat_bytes.specs.Listing.{items_held}
use Rattle.wat_bytes.specs.Names.{ListsReady, content_of, entries_in, entries_of, id_in, items_of}
use Rattle.wat_bytes.specs.declared.names.Denoted.{Denoted}
use Rattle.wat_bytes.proofs.Resolvable.{resolvable}

same_segments : (b : Bool) (n : ℕ) (x : ModuleField) → segments (given_if b with_item_id n x) ≡ segments x
same_segments false n x = refl
same_segments true n (field.Func f) = refl
same_segments true n x = refl

module _ (s : Space) where
  -- the source ids of the items of the index space
  abbrev ids : List Item → List (Option Mark)
  ids xs = flat_map (id_in s) xs

  ids_both : (xs ys : List Item) → ids (xs ++ ys) ≡ ids xs ++ ids ys
  ids_both xs ys = flat_map-append (id_in s) xs ys

  -- An item that gets a generated id has no source id, before and after.
  changed : (n : ℕ) (cs : List Change) → ids (news n cs) ≡ ids (olds cs)
  changed n [] = refl
  changed n (Kept x ∷ cs) = ap (λ l. id_in s x ++ l) (changed n cs)
  changed n (Given t p fields ∷ cs) = ap (λ l. id_in s (old_of (Given t p fields)) ++ l) (changed (n + 1) cs)

  expanded : (n : ℕ) (xs : List ModuleField) → ids (items (expanded_fields n xs)) ≡ ids (items (fields_with_implied_types xs))
  expanded n xs = ap ids (new_items n xs) ∙ (changed n (changes xs) ∙ sym (ap ids (old_items xs)))

  own : (b : Bool) (n : ℕ) (x : ModuleField) → wants_id x ≡ b → ids (items_in (given_if b with_item_id n x)) ≡ ids (items_in x)
  own false n x e = refl
  own true n x e = let g = given n x e in ap ids g.new ∙ sym (ap ids g.old)

  -- the source ids of a field whose inline parts are expanded, and of the fields after it
  of_field : (r : Reference) (x : ModuleField) (ys : List ModuleField)
      → ids (items (desugar_field r x ++ ys)) ≡ (ids (segments x) ++ ids (items_in x)) ++ ids (items ys)
  of_field r x ys =
      ap ids (flat_map-append items_in (desugar_field r x) ys ∙ ap (λ zs. zs ++ items ys) (field_items r x))
      ∙ (ids_both (segments x ++ items_in x) (items ys) ∙ ap (λ l. l ++ ids (items ys)) (ids_both (segments x) (items_in x)))

  desugared : (n : ℕ) (before : List Item) (xs : List ModuleField) → ids (items (desugared_from n xs)) ≡ ids (items (written_after before xs))
  desugared n before [] = refl
  desugared n before (x ∷ xs) =
      let b = wants_id x in
      let y = given_if b with_item_id n x in
      let rest = desugared (n + one_if b) (before ++ items_in x) xs in
      of_field by_id y (desugared_from (n + one_if b) xs)
      ∙ ((λ i. (ids (same_segments b n x i) ++ own b n x refl i) ++ rest i) ∙ sym (of_field (by_position before) x (written_after (before ++ items_in x) xs)))

  completed : (xs : List ModuleField) → ids (items (fields_with_implied_types xs)) ≡ ids (items xs) ++ ids (items (map unnamed_type (implied_signatures xs)))
  completed xs =
      ap ids (flat_map-append items_in xs (map unnamed_type (implied_signatures xs))) ∙ ids_both (items xs) (items (map unnamed_type (implied_signatures xs)))

  both_completed : (n : ℕ) (xs : List ModuleField)
      → ids (items (fields_with_implied_types (desugared_from n xs))) ≡ ids (items (fields_with_implied_types (desugared_by_position xs)))
  both_completed n xs =
      let types = alike_implied (written_looks n xs) in
      completed (desugared_from n xs)
      ∙ ((λ i. desugared n [] xs i ++ ids (items (map unnamed_type (types i)))) ∙ sym (completed (desugared_by_position xs)))

  explicit : (n : ℕ) (xs : List ModuleField) → ids (items (explicit_fields_from n xs)) ≡ ids (items (explicit_fields xs))
  explicit n xs = expanded (n + reference_id_count xs) (desugared_from n xs) ∙ both_completed n xs

  resolved : (n : ℕ) (xs : List ModuleField) → ids (items (resolved_fields_from n xs)) ≡ ids (items (explicit_fields xs))
  resolved n xs = ap ids (finished_items n xs) ∙ explicit n xs

-- Items with the same source ids in each index space have the same entries.
entries_alike : (xs ys : List Item) → ((s : Space) → flat_map (id_in s) xs ≡ flat_map (id_in s) ys)
    → (ss : List Space) → flat_map (entries_in xs) ss ≡ flat_map (entries_in ys) ss
entries_alike xs ys same [] = refl
entries_alike xs ys same (s ∷ ss) = λ i. map (λ e. (s, e)) (named_from 0 (same s i)) ++ entries_alike xs ys same ss i

-- The entries of a resolved module are those of the module before.
pub entries_held : (old new : ModuleKind) (names : KnownNames) → ResolvesKind 1 old (Ok names) new → entries_of (items_held new) ≡ entries_of (items_of old)
entries_held (kind.Text fields) new names h =
    ap (λ k. entries_of (items_held k)) h.1
    ∙ entries_alike (items (resolved_fields_from 1 fields)) (items (explicit_fields fields)) (λ s. resolved s 1 fields) spaces
entries_held (kind.Binary pieces) new names h = ap (λ k. entries_of (items_held k)) h.1
entries_held (kind.Refused e) new names h = absurd h

-- The result of listing what resolving leaves.
pub listed : (m : Module) (left : ModuleKind) (names : KnownNames) (r : Result (Vec Denoted) Error) → IsReady m 1 → ResolvesKind 1 m.kind (Ok names) left
    → IfOk r (λ all. map content_of all.items ≡ entries_of (items_held left)) → IfErr r (λ e. e ≡ out_of_memory) → ListsReady m r
listed m left names (Ok all) ready resolves list refusal =
    record {
      resolves = resolvable m names (record { ready = ready; left = left; resolves = resolves });
      listed = list ∙ entries_held m.kind left names resolves;
    }
listed m left names (Err e) ready resolves list refusal = inr (ready, refusal)
