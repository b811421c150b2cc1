-- Lists of types, one by one from the end, and stacks that grow by them.
use Rattle.std.proofs.Common.{◌≡◌, ℕ, zero, suc, ◌+◌, ◌-◌, ◌<◌, ◌≤◌, List, [], ◌∷◌, length, take, drop, reverse, get_or, Some, Ok, refl, ap, sym, ◌∙◌, subst, arith, drop-cons, slice_get}
use Rattle.std.proofs.Math.Seq.{take-suc}
use Rattle.std.proofs.lemmas.List.{reverse-append}
use Rattle.std.proofs.lemmas.Option.{get_or_from_slice_get}
use Rattle.wast_valid_machine.specs.declared.types.Ty.{Ty}
use Rattle.wast_valid_machine.specs.declared.state.State.{State}
use Rattle.wast_valid_machine.specs.declared.state.Stop.{Stop}
use Rattle.wast_valid_machine.specs.Types.{Types}
use Rattle.wast_valid_machine.specs.Machine.{pop_as, keep_all, expect, expect_all, push, push_all}
use Rattle.wast_valid_machine.specs.Control.{target, targets}
use Rattle.wast_valid_machine.specs.declared.types.Field.{Field}
use Rattle.std.proofs.Common.{map}
use Rattle.std.proofs.lemmas.List.{length-map}
use Rattle.wast_valid_machine.specs.Reports.{Reports}
use Rattle.wast_valid_machine.proofs.Binds.{bind_ok, reports_bind}

-- the last type that is left comes first
pub last_first : (xs : List Ty) (k : ℕ) (x : Ty) → 0 < k → k ≤ length xs → slice_get xs (k - 1) ≡ Some x → reverse (take k xs) ≡ x ∷ reverse (take (k - 1) xs)
last_first xs zero x lt le is = absurd (omega (arith, lt))
last_first xs (suc k) x lt le is =
    let e : suc k - 1 ≡ k = omega arith in
    let here : x ≡ get_or xs k x = sym (get_or_from_slice_get xs k x x (ap (slice_get xs) (sym e) ∙ is)) in
    ap reverse (take-suc xs k x (omega (arith, le))) ∙ (reverse-append (take k xs) (get_or xs k x ∷ [])
    ∙ ((λ j. sym here j ∷ reverse (take k xs)) ∙ ap (λ n. x ∷ reverse (take n xs)) (sym e)))

module _ (ts : Types) (xs : List Ty) (k : ℕ) (x : Ty) (lt : 0 < k) (le : k ≤ length xs) (is : slice_get xs (k - 1) ≡ Some x) (s : State) where
  -- one operand more was there
  pub one_taken : (t : State) → expect ts x s ≡ Ok t → expect_all ts (reverse (take k xs)) s ≡ expect_all ts (reverse (take (k - 1) xs)) t
  unfolding expect_all
  one_taken t h = ap (λ ys. expect_all ts ys s) (last_first xs k x lt le is) ∙ bind_ok (expect ts x s) (λ s. expect_all ts (reverse (take (k - 1) xs)) s) t h

  -- or not
  pub one_missed : (e : Stop) → Reports (expect ts x s) e → Reports (expect_all ts (reverse (take k xs)) s) e
  unfolding expect_all
  one_missed e h = subst (λ ys. Reports (expect_all ts ys s) e) (sym (last_first xs k x lt le is)) (reports_bind (expect ts x s) (λ s. expect_all ts (reverse (take (k - 1) xs)) s) e h)

pub none_left : (ts : Types) (xs : List Ty) (k : ℕ) (s : State) → k ≤ 0 → expect_all ts (reverse (take k xs)) s ≡ Ok s
unfolding expect_all
none_left ts xs zero s le = refl
none_left ts xs (suc k) s le = absurd (omega (arith, le))

pub one_put : (xs : List Ty) (k : ℕ) (x : Ty) (s t : State) → k < length xs → slice_get xs k ≡ Some x → t ≡ push x s → push_all (drop k xs) s ≡ push_all (drop (k + 1) xs) t
unfolding push_all
one_put xs k x s t lt is new =
    let e : suc k ≡ k + 1 = omega arith in
    ap (λ ys. push_all ys s) (drop-cons xs k x lt) ∙ (ap (λ y. push_all (drop (suc k) xs) (push y s)) (get_or_from_slice_get xs k x x is)
    ∙ (ap (λ u. push_all (drop (suc k) xs) u) (sym new) ∙ ap (λ n. push_all (drop n xs) t) e))

pub all_put : (xs : List Ty) (k : ℕ) (s : State) → length xs ≤ k → push_all (drop k xs) s ≡ s
unfolding push_all
all_put [] zero s le = refl
all_put [] (suc k) s le = refl
all_put (x ∷ xs) zero s le = absurd (omega (arith, le))
all_put (x ∷ xs) (suc k) s le = all_put xs k s (omega (arith, le))

-- the same for operands that are kept
module _ (ts : Types) (xs : List Ty) (k : ℕ) (x : Ty) (lt : 0 < k) (le : k ≤ length xs) (is : slice_get xs (k - 1) ≡ Some x) (s : State) (kept : List Ty) where
  pub one_kept : (t : Ty) (r : State) (more : List Ty) → pop_as ts x s ≡ Ok (record { ty = t; rest = r }) → more ≡ t ∷ kept
      → keep_all ts (reverse (take k xs)) kept s ≡ keep_all ts (reverse (take (k - 1) xs)) more r
  unfolding keep_all
  one_kept t r more h e = ap (λ ys. keep_all ts ys kept s) (last_first xs k x lt le is)
      ∙ (bind_ok (pop_as ts x s) (λ p. keep_all ts (reverse (take (k - 1) xs)) (p.ty ∷ kept) p.rest) (record { ty = t; rest = r }) h
      ∙ ap (λ m. keep_all ts (reverse (take (k - 1) xs)) m r) (sym e))

  pub one_not_kept : (e : Stop) → Reports (pop_as ts x s) e → Reports (keep_all ts (reverse (take k xs)) kept s) e
  unfolding keep_all
  one_not_kept e h = subst (λ ys. Reports (keep_all ts ys kept s) e) (sym (last_first xs k x lt le is))
      (reports_bind (pop_as ts x s) (λ p. keep_all ts (reverse (take (k - 1) xs)) (p.ty ∷ kept) p.rest) e h)

pub all_kept : (ts : Types) (xs : List Ty) (k : ℕ) (kept : List Ty) (s : State) → k ≤ 0 → keep_all ts (reverse (take k xs)) kept s ≡ Ok (push_all kept s)
unfolding keep_all
all_kept ts xs zero kept s le = refl
all_kept ts xs (suc k) kept s le = absurd (omega (arith, le))

-- operands that are put back
pub one_back : (old new : List Ty) (t : Ty) (s r : State) → old ≡ t ∷ new → r ≡ push t s → push_all old s ≡ push_all new r
unfolding push_all
one_back old new t s r h e = ap (λ ys. push_all ys s) h ∙ ap (push_all new) (sym e)

pub all_back : (old : List Ty) (s : State) → old ≡ [] → push_all old s ≡ s
unfolding push_all
all_back old s h = ap (λ ys. push_all ys s) h

-- the types of fields
pub all_fields : (fs : List Field) → take (length fs) (map (λ f. f.ty) fs) ≡ map (λ f. f.ty) fs
all_fields [] = refl
all_fields (f ∷ fs) = ap (λ ys. f.ty ∷ ys) (all_fields fs)

pub as_many_fields : (fs : List Field) → length (map (λ f. f.ty) fs) ≡ length fs
as_many_fields fs = length-map fs (λ f. f.ty)

-- labels, one by one
module _ (ts : Types) (arity : ℕ) (ns : List ℕ) (k n : ℕ) (lt : k < length ns) (is : n ≡ get_or ns k 0) (s : State) where
  this_label : drop k ns ≡ n ∷ drop (k + 1) ns
  this_label = let e : suc k ≡ k + 1 = omega arith in drop-cons ns k 0 lt ∙ (λ j. sym is j ∷ drop (e j) ns)

  pub one_target : (t : State) → target ts arity n s ≡ Ok t → targets ts arity (drop k ns) s ≡ targets ts arity (drop (k + 1) ns) t
  unfolding targets
  one_target t h = ap (λ ys. targets ts arity ys s) this_label ∙ bind_ok (target ts arity n s) (λ s. targets ts arity (drop (k + 1) ns) s) t h

  pub no_target : (e : Stop) → Reports (target ts arity n s) e → Reports (targets ts arity (drop k ns) s) e
  unfolding targets
  no_target e h = subst (λ ys. Reports (targets ts arity ys s) e) (sym this_label) (reports_bind (target ts arity n s) (λ s. targets ts arity (drop (k + 1) ns) s) e h)

pub all_targets : (ts : Types) (arity : ℕ) (ns : List ℕ) (k : ℕ) (s : State) → length ns ≤ k → targets ts arity (drop k ns) s ≡ Ok s
unfolding targets
all_targets ts arity [] zero s le = refl
all_targets ts arity [] (suc k) s le = refl
all_targets ts arity (n ∷ ns) zero s le = absurd (omega (arith, le))
all_targets ts arity (n ∷ ns) (suc k) s le = all_targets ts arity ns k s (omega (arith, le))
