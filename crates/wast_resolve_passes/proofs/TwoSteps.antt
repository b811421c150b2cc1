-- Walks in two steps, and walks over a part of a field.
use Rattle.std.specs.Prelude.{⊤}
use Rattle.std.proofs.Common.{◌≡◌, ◌∙◌, ap, sym, subst, List, [], ◌∷◌, ◌++◌, append-nil, append_assoc, None, refl, Result}
use Rattle.std.proofs.lemmas.Grind.{flat_map-append}
use Rattle.wast_base.specs.Faults.{Diagnostic}
use Rattle.wast_base.specs.declared.faults.Error.{Error}
use Rattle.std.specs.Prelude.{not}
use Rattle.wast_tree_nodes.specs.Clauses.{is_segment_type_allowed}
use Rattle.wast_tree_nodes.specs.Sites.{Check, Site, Asked, Clause, Covered, check_sites, in_ref, in_table_type, in_table_kind}
use Rattle.wast_tree_nodes.specs.Sites.{in_global_type, in_global_kind, in_global, in_elem_kind, in_payload, in_elem, in_data_kind}
use Rattle.wast_tree_map.specs.Mapped.{Change, mapped_table_kind, mapped_elem_kind, mapped_payload, mapped_data_kind}
use Rattle.wast_resolve_passes.specs.Tree.{TableKind, Global, Elem, ElemKind, ElemPayload, DataKind, ModuleField}
use Rattle.wast_resolve_passes.specs.Tree.table
use Rattle.wast_resolve_passes.specs.Tree.elem
use Rattle.wast_resolve_passes.specs.Tree.payload
use Rattle.wast_resolve_passes.specs.Tree.data_kind
use Rattle.wast_base.specs.Blocks.{Blocks}
use Rattle.wast_resolve_passes.specs.Tree.{Handle}
use Rattle.wast_resolve_passes.specs.Tree.handle
use Rattle.wast_tree_nodes.specs.Sites.{in_handle}
use Rattle.wast_tree_map.specs.Mapped.{mapped_handle}
use Rattle.wast_resolve_passes.specs.TwoSteps.{in_handler_tag, in_handler_label, with_handler_tag, with_handler_label}
use Rattle.wast_resolve_passes.specs.Tree.form
use Rattle.wast_resolve_rules.specs.Scopes.{Scope}
use Rattle.wast_resolve_rules.specs.Demands.{first_unmet, Answers, ask_demand, site_demand, site_demands, open_counts_at, open_counts, HasMany}
use Rattle.wast_resolve_names.specs.Walking.{Walks}
use Rattle.wast_resolve_passes.specs.TwoSteps.{in_type_of_table, in_init, with_table_type, with_init, in_elem_table, in_elem_offset}
use Rattle.wast_resolve_passes.specs.TwoSteps.{with_elem_table, with_elem_offset, in_elements, in_element_type, with_elements}
use Rattle.wast_resolve_passes.specs.TwoSteps.{with_element_type, in_data_memory, in_data_offset, with_data_memory, with_data_offset}
use Rattle.wast_resolve_rules.proofs.Unmet.{first_unmet-append, answers_first, answers_after}
use Rattle.wast_resolve_names.proofs.Parts.{all_but_last, all_counts_but_last, walks_as}
use Rattle.wast_resolve_rules.proofs.Counted.{many_left, many_right}

-- The sites are those of two parts, with the same enclosing blocks.
pub record IsBoth (c : Scope) (all first second : List Site) : Type 0 where
  pub demands : site_demands c all ≡ site_demands c (first ++ second)
  pub counts : open_counts all ≡ open_counts (first ++ second)

module _ {c : Scope} {all first second : List Site} (parts : IsBoth c all first second) where
  two_demands : site_demands c all ≡ site_demands c first ++ site_demands c second
  two_demands = parts.demands ∙ flat_map-append (site_demand c) first second

  two_counts : open_counts all ≡ open_counts first ++ open_counts second
  two_counts = parts.counts ∙ flat_map-append open_counts_at first second

  many_first : HasMany (open_counts first) → HasMany (open_counts all)
  many_first m = subst HasMany (sym two_counts) (many_left (open_counts first) (open_counts second) m)

  many_second : (later : List Site) → later ≡ second → HasMany (open_counts later) → HasMany (open_counts all)
  many_second later same m = subst HasMany (sym two_counts)
      (many_right (open_counts first) (open_counts second) (subst (λ ss. HasMany (open_counts ss)) same m))

  -- the result of the first part, with the conditions K for E12 and M for E10
  first_answers : {K M : Type 0} (t : Diagnostic) → (K → ⊤) → (M → HasMany (open_counts all)) → Answers K M t (first_unmet (site_demands c first))
      → Answers ⊤ (HasMany (open_counts all)) t (first_unmet (site_demands c all))
  first_answers t k m a =
      subst (λ ds. Answers ⊤ (HasMany (open_counts all)) t (first_unmet ds)) (sym two_demands)
      (answers_first t (site_demands c first) (site_demands c second) k m a)

  -- the result of the second part after the first is walked
  second_answers : {K M : Type 0} (t : Diagnostic) → (K → ⊤) → (M → HasMany (open_counts all)) → (later : List Site) → later ≡ second
      → first_unmet (site_demands c first) ≡ None
      → Answers K M t (first_unmet (site_demands c later)) → Answers ⊤ (HasMany (open_counts all)) t (first_unmet (site_demands c all))
  second_answers {K} {M} t k m later same met a =
      subst (λ ds. Answers ⊤ (HasMany (open_counts all)) t (first_unmet ds)) (sym two_demands)
      (answers_after t (site_demands c first) (site_demands c second) k m met (subst (λ ss. Answers K M t (first_unmet (site_demands c ss))) same a))

  pub first_fails : (t : Diagnostic) → Answers ⊥ ⊥ t (first_unmet (site_demands c first))
      → Answers ⊤ (HasMany (open_counts all)) t (first_unmet (site_demands c all))
  first_fails t a = first_answers t (λ l. absurd l) (λ m. absurd m) a

  pub first_stops : (t : Diagnostic) → Answers ⊤ (HasMany (open_counts first)) t (first_unmet (site_demands c first))
      → Answers ⊤ (HasMany (open_counts all)) t (first_unmet (site_demands c all))
  first_stops t a = first_answers t (λ l. l) many_first a

  pub second_fails : (t : Diagnostic) (later : List Site) → later ≡ second → first_unmet (site_demands c first) ≡ None
      → Answers ⊥ ⊥ t (first_unmet (site_demands c later))
      → Answers ⊤ (HasMany (open_counts all)) t (first_unmet (site_demands c all))
  second_fails t later same met a = second_answers t (λ l. absurd l) (λ m. absurd m) later same met a

  pub second_stops : (t : Diagnostic) (later : List Site) → later ≡ second → first_unmet (site_demands c first) ≡ None
      → Answers ⊤ (HasMany (open_counts later)) t (first_unmet (site_demands c later))
      → Answers ⊤ (HasMany (open_counts all)) t (first_unmet (site_demands c all))
  second_stops t later same met a = second_answers t (λ l. l) (many_second later same) later same met a

  pub both_met : (later : List Site) → later ≡ second → first_unmet (site_demands c first) ≡ None → first_unmet (site_demands c later) ≡ None
      → first_unmet (site_demands c all) ≡ None
  both_met later same met then = ap first_unmet two_demands ∙ (first_unmet-append (site_demands c first) (site_demands c second) met
      ∙ (ap (λ ss. first_unmet (site_demands c ss)) (sym same) ∙ then))

-- the two parts alone, or with a check that passes
module _ (c : Scope) where
  pub as_both : (all first second : List Site) → all ≡ first ++ second → IsBoth c all first second
  as_both all first second is = record { demands = ap (site_demands c) is; counts = ap open_counts is }

  but_last : (all first second : List Site) (last : Check) → all ≡ (first ++ second) ++ Asked last ∷ [] → ask_demand c.known last ≡ []
      → IsBoth c all first second
  but_last all first second last is none = record {
    demands = ap (site_demands c) is ∙ all_but_last c (first ++ second) last none;
    counts = ap open_counts is ∙ all_counts_but_last (first ++ second) last;
  }

  -- the type and the initial value of a table
  pub table_parts : (t : TableKind) → IsBoth c (in_table_kind t) (in_type_of_table t) (in_init t)
  table_parts (table.Import import ty) = as_both (in_table_kind (table.Import import ty)) (check_sites (in_table_type ty)) []
      (sym (append-nil (check_sites (in_table_type ty))))
  table_parts (table.Normal ty init) = as_both (in_table_kind (table.Normal ty init)) (in_type_of_table (table.Normal ty init))
      (in_init (table.Normal ty init)) refl
  table_parts (table.Inline ty is64 shared elements) =
      but_last (in_table_kind (table.Inline ty is64 shared elements)) (check_sites (in_ref ty)) (in_payload elements) (Covered form.Shared (not shared))
      (sym (append_assoc (check_sites (in_ref ty)) (in_payload elements) (Asked (Covered form.Shared (not shared)) ∷ []))) refl

  pub segment_parts : (e : Elem) → IsBoth c (in_elem e) (in_elem_kind e.kind) (in_payload e.payload)
  segment_parts e =
      let last = Clause 4 (is_segment_type_allowed e.kind e.payload) in
      but_last (in_elem e) (in_elem_kind e.kind) (in_payload e.payload) last
      (sym (append_assoc (in_elem_kind e.kind) (in_payload e.payload) (Asked last ∷ []))) refl

  elem_sites : (e : ElemKind) → in_elem_kind e ≡ in_elem_table e ++ in_elem_offset e
  elem_sites elem.Passive = refl
  elem_sites x = refl

  pub elem_parts : (e : ElemKind) → IsBoth c (in_elem_kind e) (in_elem_table e) (in_elem_offset e)
  elem_parts e = as_both (in_elem_kind e) (in_elem_table e) (in_elem_offset e) (elem_sites e)

  payload_sites : (p : ElemPayload) → in_payload p ≡ in_elements p ++ in_element_type p
  payload_sites (payload.Indices is) = sym (append-nil (in_elements (payload.Indices is)))
  payload_sites (payload.Exprs ty es) = refl

  pub payload_parts : (p : ElemPayload) → IsBoth c (in_payload p) (in_elements p) (in_element_type p)
  payload_parts p = as_both (in_payload p) (in_elements p) (in_element_type p) (payload_sites p)

  data_sites : (d : DataKind) → in_data_kind d ≡ in_data_memory d ++ in_data_offset d
  data_sites data_kind.Passive = refl
  data_sites (data_kind.Active memory offset) = refl

  pub data_parts : (d : DataKind) → IsBoth c (in_data_kind d) (in_data_memory d) (in_data_offset d)
  data_parts d = as_both (in_data_kind d) (in_data_memory d) (in_data_offset d) (data_sites d)

  -- the type and the value of a global
  pub global_parts : (g : Global) → IsBoth c (in_global g) (check_sites (in_global_type g.ty)) (in_global_kind g.kind)
  global_parts g = as_both (in_global g) (check_sites (in_global_type g.ty)) (in_global_kind g.kind) refl

module _ (f : Change) where
  pub table_stays : (t : TableKind) → in_init (with_table_type f t) ≡ in_init t
  table_stays (table.Import import ty) = refl
  table_stays x = refl

  pub table_becomes : (t : TableKind) → with_init f (with_table_type f t) ≡ mapped_table_kind f t
  table_becomes (table.Import import ty) = refl
  table_becomes x = refl

  pub elem_stays : (e : ElemKind) → in_elem_offset (with_elem_table f e) ≡ in_elem_offset e
  elem_stays elem.Passive = refl
  elem_stays x = refl

  pub elem_becomes : (e : ElemKind) → with_elem_offset f (with_elem_table f e) ≡ mapped_elem_kind f e
  elem_becomes elem.Passive = refl
  elem_becomes x = refl

  pub payload_stays : (p : ElemPayload) → in_element_type (with_elements f p) ≡ in_element_type p
  payload_stays (payload.Indices is) = refl
  payload_stays (payload.Exprs ty es) = refl

  pub payload_becomes : (p : ElemPayload) → with_element_type f (with_elements f p) ≡ mapped_payload f p
  payload_becomes (payload.Indices is) = refl
  payload_becomes (payload.Exprs ty es) = refl

  pub data_stays : (d : DataKind) → in_data_offset (with_data_memory f d) ≡ in_data_offset d
  data_stays data_kind.Passive = refl
  data_stays (data_kind.Active memory offset) = refl

  pub data_becomes : (d : DataKind) → with_data_offset f (with_data_memory f d) ≡ mapped_data_kind f d
  data_becomes data_kind.Passive = refl
  data_becomes (data_kind.Active memory offset) = refl

-- after a walk over a part, the field is the same with the new part
pub of_field : {T : Type 0} (many : Type 0) (wrap : T → ModuleField) (c : Scope) (ss : List Site) (want new : T) (result : Result (Unit {0}) Error)
    → Walks ⊥ ⊥ (site_demands c ss) want new result → Walks ⊤ many (site_demands c ss) (wrap want) (wrap new) result
of_field many wrap c ss want new result walked = walks_as (λ l. absurd l) (λ m. absurd m) (site_demands c ss) (site_demands c ss) want new
    (wrap want) (wrap new) result refl (ap wrap) walked

-- a `resume` handler
pub handle_sites : (blocks : Blocks) (h : Handle) → in_handle blocks h ≡ in_handler_tag h ++ in_handler_label blocks h
handle_sites blocks (handle.OnLabel e l) = refl
handle_sites blocks (handle.OnSwitch e) = refl

pub handle_stays : (f : Change) (blocks : Blocks) (h : Handle) → in_handler_label blocks (with_handler_tag f h) ≡ in_handler_label blocks h
handle_stays f blocks (handle.OnLabel e l) = refl
handle_stays f blocks (handle.OnSwitch e) = refl

pub handle_becomes : (f : Change) (blocks : Blocks) (h : Handle) → with_handler_label f blocks (with_handler_tag f h) ≡ mapped_handle f blocks h
handle_becomes f blocks (handle.OnLabel e l) = refl
handle_becomes f blocks (handle.OnSwitch e) = refl
