-- Types get ids while the ids that the source has are collected.
use Rattle.std.proofs.Common.{◌≡◌, ℕ, ◌+◌, ◌<◌, ◌≤◌, List, [], ◌∷◌, ◌++◌, length, get_or, set, take, drop, append_assoc, length-append}
use Rattle.std.proofs.Common.{Option, inl, inr, refl, sym, ap, ◌∙◌, arith}
use Rattle.std.proofs.lemmas.Grind.{take-set_at}
use Rattle.std.proofs.lemmas.List.{drop_more, drop-set-lt}
use Rattle.std.proofs.lemmas.List.Concat.{flat_map-append}
use Rattle.wast_base.specs.declared.faults.Error.{Error}
use Rattle.wast_base.specs.Ids.{Name}
use Rattle.wast_base.specs.Filling.{one_if, given_if, with_ids_from, missing_id_count}
use Rattle.wast_tree_nodes.specs.Items.{items_in, items}
use Rattle.wast_tree_nodes.specs.Known.{name_in, names_in}
use Rattle.wast_expand_types.specs.Tree.{ModuleField}
use Rattle.wast_expand_types.specs.Tree.space
use Rattle.wast_expand_keys.specs.Expanded.{lacks_id, with_type_id}
use Rattle.wast_expand_types.specs.TypeItems.{StopsNaming}
use Rattle.wast_expand_types.proofs.Adding.{less_runs_out}
use Rattle.wast_expand_types.proofs.TypeItems.{in_fields}

first_field : (x : ModuleField) (xs : List ModuleField) → in_fields (x ∷ xs) ≡ names_in space.Ty (items_in x) ++ in_fields xs
first_field x xs = flat_map-append (name_in space.Ty) (items_in x) (items xs)

later : (m n : ℕ) (names more : List (Option Name)) (e : Error) → m ≤ n → length names ≤ length more → StopsNaming m names e → StopsNaming n more e
later m n names more e le long (inl out) = inl (less_runs_out m n e le out)
later m n names more e le long (inr many) = inr (many.0, omega (arith, many.1, long))

-- The field x is at i in ys, the fields before it have ids, and xs are the fields as they were.
module _ (old new : List (Option Name)) (xs ys : List ModuleField) (m n i : ℕ) (x : ModuleField) (lt : i < length ys) (is : x ≡ get_or ys i x)
    (counted : m + missing_id_count lacks_id (drop i ys) ≡ n + missing_id_count lacks_id xs)
    (gathered : new ++ in_fields (drop i ys) ≡ old ++ in_fields xs) where
  abbrev rest : List ModuleField
  rest = drop (i + 1) ys

  here : drop i ys ≡ x ∷ rest
  here = drop_more ys i x lt ∙ ap (λ y. y ∷ rest) (sym is)

  one_gathered : (new ++ names_in space.Ty (items_in x)) ++ in_fields rest ≡ old ++ in_fields xs
  one_gathered =
      append_assoc new (names_in space.Ty (items_in x)) (in_fields rest)
      ∙ (ap (λ ns. new ++ ns) (sym (first_field x rest)) ∙ (ap (λ zs. new ++ in_fields zs) (sym here) ∙ gathered))

  ids : m + (one_if (lacks_id x) + missing_id_count lacks_id rest) ≡ n + missing_id_count lacks_id xs
  ids = ap (λ zs. m + missing_id_count lacks_id zs) (sym here) ∙ counted

  pub stops_in_field : (e : Error) → StopsNaming (m + one_if (lacks_id x)) (new ++ names_in space.Ty (items_in x)) e
      → StopsNaming (n + missing_id_count lacks_id xs) (old ++ in_fields xs) e
  stops_in_field e h =
      let names : length (new ++ names_in space.Ty (items_in x)) + length (in_fields rest) ≡ length (old ++ in_fields xs) =
      sym (length-append (new ++ names_in space.Ty (items_in x)) (in_fields rest)) ∙ ap length one_gathered in
      later (m + one_if (lacks_id x)) (n + missing_id_count lacks_id xs) (new ++ names_in space.Ty (items_in x)) (old ++ in_fields xs) e
      (omega (arith, ids)) (omega (arith, names)) h

  -- The field is v once it has its id, k is the counter then, and got are all ids up to it.
  module _ (v : ModuleField) (k : ℕ) (got : List (Option Name)) where
    left : drop (i + 1) (set ys i v) ≡ rest
    left = drop-set-lt (i + 1) ys i v (omega arith)

    pub names_next : got ≡ new ++ names_in space.Ty (items_in x) → got ++ in_fields (drop (i + 1) (set ys i v)) ≡ old ++ in_fields xs
    names_next e = (λ j. e j ++ in_fields (left j)) ∙ one_gathered

    pub counted_next : k ≡ m + one_if (lacks_id x) → k + missing_id_count lacks_id (drop (i + 1) (set ys i v)) ≡ n + missing_id_count lacks_id xs
    counted_next e = let same : missing_id_count lacks_id (drop (i + 1) (set ys i v)) ≡ missing_id_count lacks_id rest = ap
        (missing_id_count lacks_id) left in omega (arith, e, same, ids)

    pub fields_next : {all : List ModuleField} → v ≡ given_if (lacks_id x) with_type_id m x → k ≡ m + one_if (lacks_id x)
        → take i ys ++ with_ids_from lacks_id with_type_id m (drop i ys) ≡ all
        → take (i + 1) (set ys i v) ++ with_ids_from lacks_id with_type_id k (drop (i + 1) (set ys i v)) ≡ all
    fields_next {all} named e h =
        let more : List ModuleField = with_ids_from lacks_id with_type_id (m + one_if (lacks_id x)) rest in
        (λ j. take-set_at ys i (i + 1) v refl lt j ++ with_ids_from lacks_id with_type_id (e j) (left j))
        ∙ (append_assoc (take i ys) (v ∷ []) more
        ∙ (ap (λ w. take i ys ++ w ∷ more) named ∙ (ap (λ zs. take i ys ++ with_ids_from lacks_id with_type_id m zs) (sym here) ∙ h)))
