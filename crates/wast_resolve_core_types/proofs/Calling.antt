-- Calls on the indices of consecutive parts.
use Rattle.std.proofs.Common.{◌≡◌, ℕ, List, [], ◌∷◌, ◌++◌, not, refl, sym, ap, ◌∙◌, append-nil, flat_map, Result, Ok, Err, Option, Some, None}
use Rattle.std.proofs.lemmas.List.Elements.{Contains-append_left, Contains-append_right}
use native.Mathlib.Omega.{arith}
use Rattle.wast_base.specs.declared.faults.Error.{Error}
use Rattle.wast_tree_nodes.specs.Sites.{Check, ItemIndex, Covered, if_there, in_id, in_index, in_descriptor, in_inner, in_def}
use Rattle.wast_resolve_core_types.specs.Tree.{Id, Index, Space, TypeDef}
use Rattle.wast_resolve_core_types.specs.Tree.space
use Rattle.wast_resolve_core_types.specs.Tree.form
use Rattle.wast_resolve_core_types.specs.CoreTypes.{Calls, none_left, answered, refused, indices_of, CallsOn, HasNeeds}
use Rattle.wast_resolve_core_types.proofs.TypeParts.{indices-append}

pub calls_both : {C : Type 0} {called : C → Index → C → Index → Result ℕ Error
    → Type 0} {a b c : C} {is js ks ls : List Index} {x : Unit {0}} {result : Result (Unit {0}) Error}
    → Calls called a is b js (Ok x) → Calls called b ks c ls result → Calls called a (is ++ ks) c (js ++ ls) result
calls_both none_left k = k
calls_both (answered h t) k = answered h (calls_both t k)

pub calls_stop : {C : Type 0} {called : C → Index → C → Index → Result ℕ Error → Type 0} {a b : C} {is js : List Index} {e : Error} (ks : List Index)
    → Calls called a is b js (Err e) → Calls called a (is ++ ks) b (js ++ ks) (Err e)
calls_stop ks (answered h t) = answered h (calls_stop ks t)
calls_stop ks (refused h) = refused h

module _ {C : Type 0} {called : C → Index → C → Index → Result ℕ Error → Type 0} where
  pub calls_on_none : {a : C} {x : Unit {0}} → CallsOn called a [] a [] (Ok x)
  calls_on_none = record { calls = none_left }

  pub calls_on_one : {a b : C} {s : Space} {i j : Index} {x : Unit {0}} (n : ℕ) → called a i b j (Ok n)
      → CallsOn called a (ItemIndex s i ∷ []) b (ItemIndex s j ∷ []) (Ok x)
  calls_on_one n h = record { calls = answered h none_left }

  pub one_refused : {a b : C} {s : Space} {i j : Index} {e : Error} → called a i b j (Err e)
      → CallsOn called a (ItemIndex s i ∷ []) b (ItemIndex s j ∷ []) (Err e)
  one_refused h = record { calls = refused h }

  pub calls_on_both : {a b c : C} {xs ys zs ws : List Check} {x : Unit {0}} {result : Result (Unit {0}) Error} → CallsOn called a xs b ys (Ok x)
      → CallsOn called b zs c ws result → CallsOn called a (xs ++ zs) c (ys ++ ws) result
  calls_on_both {xs = xs} {ys = ys} {zs = zs} {ws = ws} h k = record { calls = rw (indices-append xs zs, indices-append ys ws) (calls_both h.calls k.calls) }

  pub first_refused : {a b : C} {xs ys : List Check} {e : Error} (zs : List Check) → CallsOn called a xs b ys (Err e)
      → CallsOn called a (xs ++ zs) b (ys ++ zs) (Err e)
  first_refused {xs = xs} {ys = ys} zs h = record { calls = rw (indices-append xs zs, indices-append ys zs) (calls_stop (indices_of zs) h.calls) }

  -- an id without a check, before other parts
  pub past_id : {a b : C} {xs ys : List Check} {result : Result (Unit {0}) Error} (id : Option Id) → CallsOn called a xs b ys result
      → CallsOn called a (if_there in_id id ++ xs) b (if_there in_id id ++ ys) result
  past_id None h = h
  past_id (Some id) h = record { calls = h.calls }

module _ {C : Type 0} {needs : C → Index → Type 0} where
  pub needs_one : {a : C} (s : Space) {i : Index} → HasNeeds needs a (ItemIndex s i ∷ []) → needs a i
  needs_one s {i} h = h.each i (0, omega arith, refl)

  pub needs_first : {a : C} {xs : List Check} (ys : List Check) → HasNeeds needs a (xs ++ ys) → HasNeeds needs a xs
  needs_first {xs = xs} ys h = record { each = λ i in_xs. h.each i (rw (indices-append xs ys) (Contains-append_left (indices_of xs) (indices_of ys) i in_xs)) }

  pub needs_second : {a : C} (xs : List Check) {ys : List Check} → HasNeeds needs a (xs ++ ys) → HasNeeds needs a ys
  needs_second xs {ys = ys} h = record {
    each = λ i in_ys. h.each i
        (rw (indices-append xs ys) (Contains-append_right (indices_of xs) (indices_of ys) i in_ys));
  }

  pub needs_kept : {a b : C} {xs : List Check} → ((i : Index) → needs a i → needs b i) → HasNeeds needs a xs → HasNeeds needs b xs
  needs_kept f h = record { each = λ i in_xs. f i (h.each i in_xs) }

-- the checks of a type, without those of its constructs
abbrev pub asked_in_def : TypeDef → List Check
asked_in_def d = flat_map (in_index space.Ty) d.parents ++
    (if_there (in_index space.Ty) d.descriptor ++ (if_there (in_index space.Ty) d.describes ++ in_inner d.kind))

both_alike : (xs ys zs ws : List Check) → indices_of xs ≡ indices_of zs → indices_of ys ≡ indices_of ws → indices_of (xs ++ ys) ≡ indices_of (zs ++ ws)
both_alike xs ys zs ws p q = indices-append xs ys ∙ (ap (λ is. is ++ indices_of ys) p ∙ (ap (λ is. indices_of zs ++ is) q ∙ sym (indices-append zs ws)))

descriptor_alike : (o : Option Index) → indices_of (if_there in_descriptor o) ≡ indices_of (if_there (in_index space.Ty) o)
descriptor_alike None = refl
descriptor_alike (Some i) = refl

-- they have the same indices
def_alike : (d : TypeDef) → indices_of (in_def d) ≡ indices_of (asked_in_def d)
def_alike d =
    let last : List Check = Covered form.Shared (not d.shared) ∷ [] in
    let at = if_there (in_index space.Ty) in
    both_alike (flat_map (in_index space.Ty) d.parents)
    (if_there in_descriptor d.descriptor ++ (if_there in_descriptor d.describes ++ (in_inner d.kind ++ last))) (flat_map (in_index space.Ty) d.parents)
    (at d.descriptor ++ (at d.describes ++ in_inner d.kind)) refl
    (both_alike (if_there in_descriptor d.descriptor) (if_there in_descriptor d.describes ++ (in_inner d.kind ++ last)) (at d.descriptor)
    (at d.describes ++ in_inner d.kind) (descriptor_alike d.descriptor)
    (both_alike (if_there in_descriptor d.describes) (in_inner d.kind ++ last) (at d.describes) (in_inner d.kind) (descriptor_alike d.describes)
    (indices-append (in_inner d.kind) last ∙ append-nil (indices_of (in_inner d.kind)))))

-- so the calls on the indices are the same, and so is their requirement
pub calls_in_def : {C : Type 0} {called : C → Index → C → Index → Result ℕ Error → Type 0} {a b : C} {result : Result (Unit {0}) Error} (d e : TypeDef)
    → CallsOn called a (asked_in_def d) b (asked_in_def e) result → CallsOn called a (in_def d) b (in_def e) result
calls_in_def d e h = record { calls = rw (def_alike d, def_alike e) h.calls }

pub needs_in_def : {C : Type 0} {needs : C → Index → Type 0} {a : C} (d : TypeDef) → HasNeeds needs a (in_def d) → HasNeeds needs a (asked_in_def d)
needs_in_def d h = record { each = λ i c. h.each i (rw (def_alike d) c) }
