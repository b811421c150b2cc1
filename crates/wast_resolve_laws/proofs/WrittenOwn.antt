-- If no two items have the same id, the references of the expansion by ids have the positions of their items as
-- numbers.
use Rattle.std.proofs.Common.{◌≡◌, ℕ, ◌+◌, Bool, true, false, true≢false, cond, List, [], ◌∷◌, ◌++◌, map, length, length-append}
use Rattle.std.proofs.Common.{append_assoc, get_or, Option, Some, None, refl, sym, ap, ◌∙◌, arith}
use Rattle.std.specs.List.{flat_map}
use Rattle.std.proofs.Math.Seq.{get_or-append_seam}
use Rattle.std.proofs.lemmas.Bool.{eqb-true}
use Rattle.std.proofs.lemmas.Grind.{flat_map-append}
use Rattle.wast_base.specs.Ids.{Name, name_of, place_of, mark_of_option, gensym_id}
use Rattle.wast_base.specs.Spaces.{rank_of, same_space, name_if}
use Rattle.wast_tree_nodes.specs.Items.{Item, item, items_in, items}
use Rattle.wast_tree_nodes.specs.Known.{IdContext, id_context, name_in, names_in}
use Rattle.wast_base.specs.Filling.{one_if, given_if}
use Rattle.wast_expand_inline.specs.WriteOut.{desugar_field}
use Rattle.wast_expand_inline.specs.Referring.{by_id, wants_id, with_item_id}
use Rattle.wast_expand_inline.specs.Written.{with_referred_ids, desugared_from}
use Rattle.wast_expand_keys.specs.ImpliedTypes.{implied_signatures}
use Rattle.wast_expand_keys.specs.Expanded.{unnamed_type}
use Rattle.wast_expand_keys.specs.Completed.{fields_with_implied_types}
use Rattle.wast_expand_inline.proofs.WrittenItems.{is_of_segments, same_in_field, given}
use Rattle.wast_resolve_laws.specs.Tree.{Id, Index, Space, ModuleField}
use Rattle.wast_resolve_laws.specs.Tree.index
use Rattle.wast_resolve_rules.specs.Demands.{first_unmet, item_demands}
use Rattle.wast_resolve_rules.specs.Resolved.{numbered_by, numbered_at}
use Rattle.wast_resolve_rules.proofs.Ranks.{same_rank, itself}
use Rattle.wast_resolve_laws.proofs.FreeNames.{free_position}
use Rattle.wast_resolve_laws.proofs.WrittenSame.{AllOwn}

-- one index has the number of another
abbrev pub Numbers : IdContext → Space → Index → Index → Type 0
Numbers k s i j = numbered_at k s i ≡ numbered_at k s j

apart : (s t : Space) → is_of_segments s ≡ false → is_of_segments t ≡ true → same_space s t ≡ false
apart s t out there = by_test (same_space s t) refl
  where
    by_test : (b : Bool) → same_space s t ≡ b → b ≡ false
    by_test false e = refl
    by_test true e = absurd (true≢false (sym there ∙ (ap is_of_segments (sym (same_rank s t (eqb-true (rank_of s) (rank_of t) e))) ∙ out)))

module _ (s : Space) where
  abbrev names : List ModuleField → List (Option Name)
  names xs = names_in s (items xs)

  names_both : (xs ys : List ModuleField) → names (xs ++ ys) ≡ names xs ++ names ys
  names_both xs ys = ap (names_in s) (flat_map-append items_in xs ys) ∙ flat_map-append (name_in s) (items xs) (items ys)

  names_written : is_of_segments s ≡ false → (x : ModuleField) → names (desugar_field by_id x) ≡ names_in s (items_in x)
  names_written its = same_in_field (names_in s) (λ t xs h. ap (λ b. cond b (None ∷ []) [] ++ names_in s xs) (apart s t its h))
      (λ y xs ys e. ap (λ ns. name_in s y ++ ns) e) by_id

  one_name : (t : Space) (x y : Option Id) → length (names_in s (item t x [] ∷ [])) ≡ length (names_in s (item t y [] ∷ []))
  one_name t x y = by_space (same_space s t) (name_if (mark_of_option x)) (name_if (mark_of_option y))
    where
      by_space : (b : Bool) (o p : Option Name) → length (cond b (o ∷ []) [] ++ []) ≡ length (cond b (p ∷ []) [] ++ [])
      by_space true o p = refl
      by_space false o p = refl

  -- as many items after an id is generated
  as_many : (b : Bool) (m : ℕ) (x : ModuleField) → wants_id x ≡ b
      → length (names_in s (items_in (given_if b with_item_id m x))) ≡ length (names_in s (items_in x))
  as_many false m x e = refl
  as_many true m x e = let g = given m x e in ap (λ xs. length (names_in s xs)) g.new
      ∙ (one_name g.s (Some (gensym_id m g.p)) None ∙ sym (ap (λ xs. length (names_in s xs)) g.old))

  own_name : (id : Id) → names_in s (item s (Some id) [] ∷ []) ≡ Some (name_of id) ∷ []
  own_name id = ap (λ b. cond b (Some (name_of id) ∷ []) [] ++ []) (itself s)

module _ (all rest : List ModuleField) (free : first_unmet (item_demands (items all)) ≡ None) where
  own_position : (s : Space) (id : Id) (before ws tail : List ModuleField) → all ≡ before ++ (ws ++ tail) → names s ws ≡ Some (name_of id) ∷ []
      → (id_context (items all)).number s (name_of id) ≡ Some (length (names s before))
  own_position s id before ws tail is here =
      let there : names s all ≡ names s before ++ (Some (name_of id) ∷ names s tail) =
      ap (names s) is ∙ (names_both s before (ws ++ tail) ∙ ap (λ ns. names s before ++ ns) (names_both s ws tail ∙ ap (λ ns. ns ++ names s tail) here)) in
      let long = ap length there ∙ length-append (names s before) (Some (name_of id) ∷ names s tail) in
      free_position s (name_of id) (items all) free (length (names s before)) (omega (arith, long))
      (ap (λ ns. get_or ns (length (names s before)) None) there ∙ get_or-append_seam (names s before) (Some (name_of id)) (names s tail) None)

  all_own : (m : ℕ) (before : List Item) (xs pre : List ModuleField) → all ≡ pre ++ (flat_map (desugar_field by_id) (with_referred_ids m xs) ++ rest)
      → ((s : Space) → is_of_segments s ≡ false → length (names s pre) ≡ length (names_in s before)) → AllOwn (Numbers (id_context (items all))) m before xs
  all_own m before [] pre is same = tt
  all_own m before (x ∷ xs) pre is same =
      let next = m + one_if (wants_id x) in
      let y : ModuleField = given_if (wants_id x) with_item_id m x in
      let ws : List ModuleField = desugar_field by_id y in
      let more : List ModuleField = flat_map (desugar_field by_id) (with_referred_ids next xs) in
      let parts : all ≡ pre ++ (ws ++ (more ++ rest)) = is ∙ ap (λ zs. pre ++ zs) (append_assoc ws more rest) in (
        (λ s id its bears.
            ap (λ p. numbered_by p id) (own_position s id pre ws (more ++ rest) parts (names_written s its y
            ∙ (ap (names_in s) bears ∙ own_name s id))) ∙ ap (λ p. index.Num p (place_of id)) (same s its)),
        all_own next (before ++ items_in x) xs (pre ++ ws) (parts ∙ sym (append_assoc pre ws (more ++ rest))) (λ s its.
            let now = ap length (names_both s pre ws) ∙ length-append (names s pre) (names s ws) in
            let then = ap length (flat_map-append (name_in s) before (items_in x)) ∙ length-append (names_in s before) (names_in s (items_in x)) in
            let one = ap length (names_written s its y) ∙ as_many s (wants_id x) m x refl in
            omega (arith, now, then, one, same s its)),
      )

pub completed_own : (n : ℕ) (fields : List ModuleField)
    → first_unmet (item_demands (items (fields_with_implied_types (desugared_from n fields)))) ≡ None
    → AllOwn (Numbers (id_context (items (fields_with_implied_types (desugared_from n fields))))) n [] fields
completed_own n fields free = all_own (fields_with_implied_types (desugared_from n fields))
    (map unnamed_type (implied_signatures (desugared_from n fields))) free n [] fields [] refl (λ s its. refl)
