-- Proves StaysWellFormed: well-formed fields stay well formed.
use Rattle.std.proofs.Common.{◌≡◌, ℕ, Bool, true, not, ◌&&◌, ◌||◌, List, [], ◌∷◌, Option, Some, None, is_some, refl, ap, sym, ◌∙◌}
use Rattle.std.specs.List.{list_all, list_any}
use Rattle.std.specs.Cmp.Derive.{both_true}
use Rattle.std.proofs.Math.Bool.{and-false, or-true}
use Rattle.std.proofs.lemmas.Bool.{and_parts, eq-eqb}
use Rattle.wast_base.specs.Ids.{Name, Written, Generated, Mark, name_of, is_generated}
use Rattle.wast_base.specs.Spaces.{rank_of, same_space, name_if, is_called, is_borne}
use Rattle.wast_tree_nodes.specs.Items.{Item, item, items}
use Rattle.wast_tree_nodes.specs.Known.{IdContext, id_context, names_in}
use Rattle.wast_tree_nodes.specs.Sites.{Check, ItemIndex, InnerIndex, PlainId, Clause, Covered, in_module, checks_of}
use Rattle.wast_tree_nodes.specs.WellFormed.{is_kept, are_kept}
use Rattle.wast_tree_nodes.proofs.Bearing.{borne_among, borne_by_both}
use Rattle.wast_expand_inline.specs.Tree.{Span, Id, Space, ModuleField}
use Rattle.wast_expand_inline.specs.Tree.index
use Rattle.wast_expand_inline.specs.Referring.{by_id}
use Rattle.wast_expand_inline.specs.Written.{with_referred_ids, desugared_from}
use Rattle.wast_expand_inline.specs.Laws.{StaysWellFormed}
use Rattle.wast_expand_inline.proofs.BothPass.{either_stays}
use Rattle.wast_expand_inline.proofs.WrittenItems.{same_of_items, any_referable}
use Rattle.wast_expand_inline.proofs.WrittenAsks.{written_pass}

-- Every id of these items is in the identifier context.
abbrev Knows : IdContext → List Item → Type 0
Knows k xs = (s : Space) (q : Name) → is_borne q (names_in s xs) ≡ true → is_some (k.number s q) ≡ true

module _ (k : IdContext) where
  -- a generated id is in the index space of its item
  abbrev is_settled_id : (Name → Option ℕ) → Option Mark → Bool
  is_settled_id number None = true
  is_settled_id number (Some m) = not (is_generated m.0) || is_some (number m.0)

  abbrev is_settled_item : Item → Bool
  is_settled_item x = is_settled_id (k.number x.space) x.id

  own_settled : (s : Space) (span : Span) (id : Option Id) → is_settled_item (item s id []) ≡ true → is_kept k (ItemIndex s (by_id s span id)) ≡ true
  own_settled s span None h = refl
  own_settled s span (Some id) h = h

  -- each item has its own id
  one_settled : (s : Space) (id : Option Mark) (fields : List (Option Mark)) (xs : List Item)
      → Knows k (record { space = s; id = id; fields = fields } ∷ xs) → is_settled_id (k.number s) id ≡ true
  one_settled s None fields xs knows = refl
  one_settled s (Some (Written text, p)) fields xs knows = refl
  one_settled s (Some (Generated n, p)) fields xs knows =
      knows s (Generated n) (borne_among s (Generated n) (record { space = s; id = Some (Generated n, p); fields = fields } ∷ xs)
      ∙ ap (λ b. b || list_any (λ (x : Item). same_space s x.space && is_called (Generated n) (name_if x.id)) xs)
      (both_true (eq-eqb (rank_of s) (rank_of s) refl) (eq-eqb n n refl)))

  all_settled : (xs : List Item) → Knows k xs → list_all is_settled_item xs ≡ true
  all_settled [] knows = refl
  all_settled (x ∷ xs) knows =
      both_true (one_settled x.space x.id x.fields xs knows)
      (all_settled xs (λ s q h. knows s q (borne_by_both s q (x ∷ []) xs
      ∙ (ap (λ b. is_borne q (names_in s (x ∷ [])) || b) h ∙ or-true (is_borne q (names_in s (x ∷ [])))))))

  -- what was in the context of the known items still is
  still_kept : (xs : List Item) → Knows k xs → (asks : List Check) → are_kept (id_context xs) asks ≡ true → are_kept k asks ≡ true
  still_kept xs knows [] h = refl
  still_kept xs knows (a ∷ asks) h =
      let parts = and_parts (is_kept (id_context xs) a) (are_kept (id_context xs) asks) h in
      both_true (one a parts.0) (still_kept xs knows asks parts.1)
    where
      one : (a : Check) → is_kept (id_context xs) a ≡ true → is_kept k a ≡ true
      one (ItemIndex s (index.Num m p)) h = refl
      one (ItemIndex s (index.Id id)) h =
          let old = not (is_generated (name_of id)) in
          either_stays old (is_some ((id_context xs).number s (name_of id))) old (is_some (k.number s (name_of id))) (λ e. e) (knows s (name_of id)) h
      one (InnerIndex i) h = h
      one (PlainId m) h = refl
      one (Clause n holds) h = h
      one (Covered form holds) h = refl

module _ (n : ℕ) (fields : List ModuleField) where
  abbrev new : IdContext
  new = id_context (items (desugared_from n fields))

  -- An id of an item is still an id of one.
  abbrev bears : Space → Name → Item → Bool
  bears s q x = same_space s x.space && is_called q (name_if x.id)

  knows_referable : Knows new (items (with_referred_ids n fields))
  knows_referable s q h =
      borne_among s q (items (desugared_from n fields))
      ∙ (same_of_items (list_any (bears s q)) (λ t xs h. ap (λ b. b || list_any (bears s q) xs) (and-false (same_space s t)))
      (λ x xs ys e. ap (λ b. bears s q x || b) e) (with_referred_ids n fields)
      ∙ (sym (borne_among s q (items (with_referred_ids n fields))) ∙ h))

  knows_old : Knows new (items fields)
  knows_old s q h =
      knows_referable s q (borne_among s q (items (with_referred_ids n fields))
      ∙ any_referable (bears s q) (λ t. and-false (same_space s t)) n fields (sym (borne_among s q (items fields)) ∙ h))

pub written_well_formed : StaysWellFormed
written_well_formed n fields h =
    let k : IdContext = new n fields in
    written_pass (is_kept k) (λ c. refl) (is_settled_item k) (own_settled k) n fields
    (all_settled k (items (with_referred_ids n fields)) (knows_referable n fields))
    (still_kept k (items fields) (knows_old n fields) (checks_of (in_module fields)) h)
