-- Calls that look up indices in an identifier context number them, and fail with the first check that fails.
use Rattle.std.proofs.Common.{◌≡◌, ℕ, zero, suc, arith, Bool, true, false, ◌&&◌, List, [], ◌∷◌, ◌++◌, refl, sym, ap, ◌∙◌, subst, map}
use Rattle.std.proofs.Common.{Result, Ok, Err, Some, None}
use Rattle.std.specs.List.{flat_map, Contains}
use Rattle.wast_base.specs.declared.faults.Error.{Error}
use Rattle.wast_base.specs.Faults.{diagnostic_of}
use Rattle.wast_tree_nodes.specs.Sites.{Check, ItemIndex, InnerIndex, PlainId, Clause, Covered}
use Rattle.wast_tree_nodes.specs.Known.{IdContext}
use Rattle.wast_resolve_names.specs.Tree.{Index}
use Rattle.wast_resolve_names.specs.Tree.index
use Rattle.wast_resolve_names.specs.Tree.space
use Rattle.wast_resolve_rules.specs.Demands.{Demand, first_unmet, ask_demand, ask_demands, Answers}
use Rattle.wast_resolve_rules.specs.Scopes.{denoted}
use Rattle.wast_resolve_names.specs.LookUps.{are_settled, IsSettledFor, LooksTypesUp}
use Rattle.wast_resolve_names.specs.Resolvers.{known_of}
use Rattle.wast_resolve_names.specs.Laws.{ByResolver, NeedsOfResolver}
use Rattle.wast_base.specs.Spaces.{is_settled_index}
use Rattle.wast_tree_map.specs.Mapped.{Indices}
use Rattle.wast_resolve_rules.specs.Resolved.{numbered_at}
use Rattle.wast_resolve_names.specs.Walking.{Walks}
use Rattle.wast_resolve_core_types.specs.CoreTypes.{Calls, none_left, answered, refused, indices_of, CallsOn, blank}
use Rattle.wast_resolve_names.proofs.Parts.{both_met, first_fails, second_fails}
use Rattle.wast_resolve_core_types.proofs.TypeParts.{IsTypePart, as_type}

abbrev type_demand : IdContext → Index → List Demand
type_demand k i = ask_demand k (ItemIndex space.Ty i)

typed_demands : (k : IdContext) (asks : List Check) → ask_demands k (map as_type asks) ≡ flat_map (type_demand k) (indices_of asks)
typed_demands k [] = refl
typed_demands k (ItemIndex s i ∷ asks) = ap (λ ds. type_demand k i ++ ds) (typed_demands k asks)
typed_demands k (InnerIndex i ∷ asks) = typed_demands k asks
typed_demands k (PlainId m ∷ asks) = typed_demands k asks
typed_demands k (Clause n holds ∷ asks) = typed_demands k asks
typed_demands k (Covered form holds ∷ asks) = typed_demands k asks

both_true : (a b : Bool) → (a && b) ≡ true → (a ≡ true) × (b ≡ true)
both_true true b h = (refl, h)
both_true false b h = absurd (cc h)

-- a condition on checks holds for each index among them
settled_each : (k : IdContext) (asks : List Check) → are_settled k (map as_type asks) ≡ true → (i : Index) → Contains (indices_of asks) i
    → IsSettledFor k space.Ty i
settled_each k [] h i (n, lt, is) = absurd (omega (arith, lt))
settled_each k (InnerIndex j ∷ asks) h i c = settled_each k asks h i c
settled_each k (PlainId m ∷ asks) h i c = settled_each k asks h i c
settled_each k (Clause n holds ∷ asks) h i c = settled_each k asks h i c
settled_each k (Covered form holds ∷ asks) h i c = settled_each k asks h i c
settled_each k (ItemIndex s j ∷ asks) h i (zero, lt, is) =
    subst (IsSettledFor k space.Ty) is (ap (λ b. b && true) (both_true (is_settled_index (k.number space.Ty) j) (are_settled k (map as_type asks)) h).0)
settled_each k (ItemIndex s j ∷ asks) h i (suc n, lt, is) =
    settled_each k asks (both_true (is_settled_index (k.number space.Ty) j) (are_settled k (map as_type asks)) h).1 i (n, omega (arith, lt), is)

denoted_met : (k : IdContext) (i : Index) (n : ℕ) → denoted (k.number space.Ty) i ≡ Some n → first_unmet (flat_map (type_demand k) (i ∷ [])) ≡ None
denoted_met k (index.Num m span) n h = refl
denoted_met k (index.Id id) n h = rw h refl

module _ {T : Type 0} {asks : T → List Check} {changed : Indices → T → T} (p : IsTypePart asks changed) where
  typed_of : (k : IdContext) (x : T) → ask_demands k (asks x) ≡ flat_map (type_demand k) (indices_of (asks x))
  typed_of k x = sym (ap (ask_demands k) (p.typed x)) ∙ typed_demands k (asks x)

  settled_of : (k : IdContext) (x : T) → are_settled k (asks x) ≡ true → (i : Index) → Contains (indices_of (asks x)) i → IsSettledFor k space.Ty i
  settled_of k x h = settled_each k (asks x) (ap (are_settled k) (p.typed x) ∙ h)

module _ {C : Type 0} (known_by : C → IdContext) where
  all_numbered : {a b : C} {is js : List Index} {u : Unit {0}} → Calls (LooksTypesUp known_by) a is b js (Ok u)
      → (js ≡ map (numbered_at (known_by a) space.Ty) is) × (first_unmet (flat_map (type_demand (known_by a)) is) ≡ None)
  all_numbered none_left = (refl, refl)
  all_numbered {a} (answered {i = i} {is = is} {js = js} {n = n} h t) =
      let k = known_by a in
      let r = subst (λ c. (js ≡ map (numbered_at (known_by c) space.Ty) is) × (first_unmet (flat_map (type_demand (known_by c)) is) ≡ None))
      h.0 (all_numbered t) in
      (λ m. h.1.index m ∷ r.0 m, both_met (type_demand k) (i ∷ []) is (denoted_met k i n h.1.number) r.1)

  first_unknown : {a b : C} {is js : List Index} {e : Error} → Calls (LooksTypesUp known_by) a is b js (Err e)
      → Answers ⊥ ⊥ (diagnostic_of e) (first_unmet (flat_map (type_demand (known_by a)) is))
  first_unknown {a} {e = e} (answered {i = i} {is = is} {n = n} h t) =
      let k = known_by a in
      second_fails (type_demand k) (i ∷ []) is ⊥ ⊥ (diagnostic_of e) (denoted_met k i n h.1.number)
      (subst (λ c. Answers ⊥ ⊥ (diagnostic_of e) (first_unmet (flat_map (type_demand (known_by c)) is))) h.0 (first_unknown t))
  first_unknown {a} {e = e} (refused {i = i} {is = is} h) = first_fails (type_demand (known_by a)) (i ∷ []) is ⊥ ⊥ (diagnostic_of e) h.1.refusal

  -- and the resolver does not change
  kept : {a b : C} {is js : List Index} {result : Result (Unit {0}) Error} → Calls (LooksTypesUp known_by) a is b js result → b ≡ a
  kept none_left = refl
  kept (answered h t) = kept t ∙ h.0
  kept (refused h) = h.0

  pub calls_kept : {a b : C} {xs ys : List Check} {result : Result (Unit {0}) Error} → CallsOn (LooksTypesUp known_by) a xs b ys result
      → CallsOn (LooksTypesUp known_by) a xs a ys result
  calls_kept {a = a} {xs = xs} {ys = ys} {result = result} c = subst (λ b. CallsOn (LooksTypesUp known_by) a xs b ys result) (kept c.calls) c

  -- so they are a walk over a part of a type
  pub calls_walk : {T : Type 0} {asks : T → List Check} {changed : Indices → T → T} {a b : C} {x y : T} (result : Result (Unit {0}) Error)
      → IsTypePart asks changed
      → CallsOn (LooksTypesUp known_by) a (asks x) b (asks y) result → changed blank y ≡ changed blank x
      → Walks ⊥ ⊥ (ask_demands (known_by a) (asks x)) (changed (numbered_at (known_by a)) x) y result
  calls_walk {a = a} {x = x} {y = y} (Ok u) p c rest =
      let n = all_numbered c.calls in (ap first_unmet (typed_of p (known_by a) x) ∙ n.1, p.same (numbered_at (known_by a)) x y rest n.0)
  calls_walk {a = a} {x = x} (Err e) p c rest = subst (λ ds. Answers ⊥ ⊥ (diagnostic_of e) (first_unmet ds)) (sym (typed_of p (known_by a) x))
      (first_unknown c.calls)

module _ {T : Type 0} {asks : T → List Check} {changed : Indices → T → T} (p : IsTypePart asks changed) where
  pub by_resolver : ByResolver asks changed
  by_resolver old new before after result called rest = calls_walk (λ names. known_of names.now) result p called rest

  pub needs_of_resolver : NeedsOfResolver asks
  needs_of_resolver names x h = record { each = settled_of p (known_of names.now) x h }
