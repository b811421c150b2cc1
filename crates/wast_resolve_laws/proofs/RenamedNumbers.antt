-- With other names the numbers are the same.
use Rattle.std.proofs.Common.{◌≡◌, ℕ, List, [], ◌∷◌, map, Option, Some, None, option_map, refl, sym, ap, ◌∙◌}
use Rattle.wast_base.specs.Denoted.{numbered_by, resolved_index}
use Rattle.wast_base.specs.Ids.{Name, name_of, Mark}
use Rattle.wast_resolve_labels.specs.OpenBlocks.{label_depth}
use Rattle.wast_tree_nodes.specs.Sites.{Check, ItemIndex, Where, OfItem, OfCall, OfBlock, Site, Asked, Used, LocalAt, FieldAt, LabelAt, in_module}
use Rattle.wast_tree_nodes.specs.Types.{said_once}
use Rattle.wast_tree_map.specs.Mapped.{Indices, Change, JoinsAsk, Joins, mapped_heap, mapped_val, mapped_param, named_param, mapped_signature, mapped_field}
use Rattle.wast_tree_map.specs.Named.{renamed, named_locals, NamedJoins}
use Rattle.wast_tree_map.proofs.Laws.{joins_named, joins, each_so}
use Rattle.wast_resolve_laws.specs.Tree.{Id, Index, Space, NameAnnotation, HeapType, ValType, FunctionType, TypeUse, ModuleField}
use Rattle.wast_resolve_laws.specs.Tree.index
use Rattle.wast_resolve_laws.specs.Tree.space
use Rattle.wast_resolve_laws.specs.Tree.heap
use Rattle.wast_resolve_laws.specs.Tree.value
use Rattle.wast_resolve_rules.specs.Scopes.{Scope, module_scope, local_number, field_number}
use Rattle.wast_resolve_rules.specs.Resolved.{numbered_at, numbered_use, resolved_use, numbering_change, resolved_fields}
use Rattle.wast_resolve_rules.proofs.Numbering.{numbering_keeps}
use Rattle.wast_resolve_laws.specs.Renaming.{Renaming, IsRenaming, renamed_index, renamed_type, renamed_use, renaming, renamed_fields}
use Rattle.wast_resolve_laws.proofs.OtherNames.{names, position_same}
use Rattle.wast_resolve_laws.proofs.RenamedShapes.{ShapesAlike, shapes_alike, numbers_are, local_same, field_same}

module _ (r : Renaming) (is : IsRenaming r) where
  -- An index has the same number with another name.
  by_number : (id : Id) (o : Option ℕ) → numbered_by o (r.id id) ≡ renamed_index r (numbered_by o id)
  by_number id None = refl
  by_number id (Some k) = ap (λ (m : Mark). index.Num k m.1) (is.calls id)

  pub number_same : (number other : Name → Option ℕ) → ((q : Name) → other (r.name q) ≡ number q) → (i : Index)
      → resolved_index other (renamed_index r i) ≡ renamed_index r (resolved_index number i)
  number_same number other h (index.Num k place) = refl
  number_same number other h (index.Id id) = ap (λ o. numbered_by o (r.id id)) (ap (λ (m : Mark). other m.0) (is.calls id) ∙ h (name_of id))
      ∙ by_number id (number (name_of id))

  -- Types.
  module _ (num other : Indices) (h : (s : Space) (i : Index) → other s (renamed_index r i) ≡ renamed_index r (num s i)) where
    heap_same : (t : HeapType) → mapped_heap other (mapped_heap (λ s. renamed_index r) t) ≡ mapped_heap (λ s. renamed_index r) (mapped_heap num t)
    heap_same (heap.Abstract shared t) = refl
    heap_same (heap.Concrete i) = ap heap.Concrete (h space.Ty i)
    heap_same (heap.Exact i) = ap heap.Exact (h space.Ty i)

    value_same : (t : ValType) → mapped_val other (mapped_val (λ s. renamed_index r) t) ≡ mapped_val (λ s. renamed_index r) (mapped_val num t)
    value_same (value.Ref q) = ap (λ (t : HeapType). value.Ref (record q { heap = t })) (heap_same q.heap)
    value_same t = refl

    pub values_same : (ts : List ValType) → map (mapped_val other) (map (mapped_val (λ s. renamed_index r)) ts) ≡ map
        (mapped_val (λ s. renamed_index r)) (map (mapped_val num) ts)
    values_same [] = refl
    values_same (t ∷ ts) = λ i. value_same t i ∷ values_same ts i

    params_same : (ps : List (Option Id × Option NameAnnotation × ValType))
        → map (mapped_param other) (map (named_param (option_map r.id) (λ s. renamed_index r)) ps) ≡ map
        (named_param (option_map r.id) (λ s. renamed_index r)) (map (mapped_param num) ps)
    params_same [] = refl
    params_same (p ∷ ps) = λ i. (option_map r.id p.0, p.1, value_same p.2 i) ∷ params_same ps i

    type_same : (t : Option FunctionType) → option_map (mapped_signature other) (option_map (renamed_type r) t) ≡ option_map (renamed_type r)
        (option_map (mapped_signature num) t)
    type_same None = refl
    type_same (Some t) = λ i. Some (record { params = params_same t.params i; results = values_same t.results i })

    index_same : (o : Option Index) → option_map (other space.Ty) (option_map (renamed_index r) o) ≡ option_map (renamed_index r) (option_map (num space.Ty) o)
    index_same None = refl
    index_same (Some i) = ap Some (h space.Ty i)

  once_by : (o : Option Index) (t : Option FunctionType) → said_once (renamed_use r (record { index = o; inline = t })) ≡ renamed_use r
      (said_once (record { index = o; inline = t }))
  once_by None t = refl
  once_by (Some i) t = refl

  -- In two scopes.
  module _ (c d : Scope) (numbers : (s : Space) (q : Name) → d.known.number s (r.name q) ≡ c.known.number s q) (types : ShapesAlike r c.types d.types) where
    index_numbered : (s : Space) (i : Index) → numbered_at d.known s (renamed_index r i) ≡ renamed_index r (numbered_at c.known s i)
    index_numbered s i = number_same (c.known.number s) (d.known.number s) (numbers s) i

    use_numbered : (u : TypeUse FunctionType) → numbered_use d.known (renamed_use r u) ≡ renamed_use r (numbered_use c.known u)
    use_numbered u = λ i. record {
      index = index_same (numbered_at c.known) (numbered_at d.known) index_numbered u.index i;
      inline = type_same (numbered_at c.known) (numbered_at d.known) index_numbered u.inline i;
    }

    once_same : (u : TypeUse FunctionType) → said_once (numbered_use d.known (renamed_use r u)) ≡ renamed_use r (said_once (numbered_use c.known u))
    once_same u = ap said_once (use_numbered u) ∙ once_by (numbered_use c.known u).index (numbered_use c.known u).inline

    use_resolved : (w : Where) (u : TypeUse FunctionType) → resolved_use d.known w (renamed_use r u) ≡ renamed_use r (resolved_use c.known w u)
    use_resolved OfItem u = use_numbered u
    use_resolved OfCall u = once_same u
    use_resolved OfBlock u = once_same u

    -- other names, and then numbers
    abbrev both : Change
    both = record {
      index = λ s i. numbered_at d.known s (renamed_index r i);
      used = λ w u. resolved_use d.known w (renamed_use r u);
      local = λ l i. resolved_index (local_number d (named_locals r.name (renaming r) l)) (renamed_index r i);
      field = λ owner i. resolved_index (field_number d (renamed_index r owner)) (renamed_index r i);
      label = λ blocks i. resolved_index (λ name. label_depth name (renamed r.name blocks)) (renamed_index r i);
      id = option_map r.id;
      own = option_map r.id;
    }

    asks_named : (a : Check) → JoinsAsk (renaming r).index (numbering_change d).index both.index a
    asks_named (ItemIndex s i) = refl
    asks_named x = tt

    named : (s : Site) → NamedJoins r.name (renaming r) (numbering_change d) both s
    named (Asked a) = asks_named a
    named (Used w u) = refl
    named (LocalAt locals i) = refl
    named (FieldAt owner i) = (refl, refl)
    named (LabelAt blocks i) = refl
    named x = tt

    -- numbers first
    asks_numbered : (a : Check) → JoinsAsk (numbering_change c).index (renaming r).index both.index a
    asks_numbered (ItemIndex s i) = sym (index_numbered s i)
    asks_numbered x = tt

    site_numbered : (s : Site) → Joins (numbering_change c) (renaming r) both s
    site_numbered (Asked a) = asks_numbered a
    site_numbered (Used w u) = sym (use_resolved w u)
    site_numbered (LocalAt locals i) =
        sym (number_same (local_number c locals) (local_number d (named_locals r.name (renaming r) locals)) (local_same r is c d numbers types locals) i)
    site_numbered (FieldAt owner i) = (
      sym (index_numbered space.Ty owner),
      sym (number_same (field_number c owner) (field_number d (renamed_index r owner))
          (field_same r is c d numbers types owner) i),
    )
    site_numbered (LabelAt blocks i) =
        sym (number_same (λ name. label_depth name blocks) (λ name. label_depth name (renamed r.name blocks))
        (λ q. position_same r.name is.injective q blocks) i)
    site_numbered x = tt

    all_numbered : (xs : List ModuleField) → map (mapped_field (numbering_change d)) (renamed_fields r xs) ≡ renamed_fields r
        (map (mapped_field (numbering_change c)) xs)
    all_numbered xs =
        joins_named r.name (renaming r) (numbering_change d) both (record { names = names r is; ids = λ o. refl; owns = λ o. refl }) xs
        (each_so (NamedJoins r.name (renaming r) (numbering_change d) both) named (in_module xs))
        ∙ sym (joins (numbering_change c) (renaming r) both (record { keeps = numbering_keeps c; ids = λ o. refl; owns = λ o. refl }) xs
        (each_so (Joins (numbering_change c) (renaming r) both) site_numbered (in_module xs)))

  pub same_resolved : (xs : List ModuleField) → resolved_fields (renamed_fields r xs) ≡ renamed_fields r (resolved_fields xs)
  same_resolved xs = all_numbered (module_scope xs) (module_scope (renamed_fields r xs)) (numbers_are r is xs) (shapes_alike r is xs) xs
