-- The loop invariant of calls on the indices of each part of a list.
use Rattle.std.proofs.Common.{◌≡◌, ℕ, suc, ◌+◌, ◌<◌, List, [], ◌∷◌, ◌++◌, sym, ap, ◌∙◌, subst, length, map, get_or, drop, take, arith, add-one, Result, Ok, Err}
use Rattle.std.proofs.Math.ListN.{set, length-set}
use Rattle.std.proofs.Math.Seq.{drop-cons, take-suc}
use Rattle.std.specs.Prelude.{flat_map}
use Rattle.std.proofs.lemmas.List.{append-nil, append_assoc, drop-drop, drop-set-lt, take_more_set, take-append-drop, map-append}
use Rattle.std.proofs.lemmas.Grind.{flat_map-append}
use Rattle.wast_base.specs.declared.faults.Error.{Error}
use Rattle.wast_tree_nodes.specs.Sites.{Check}
use Rattle.wast_resolve_core_types.specs.Tree.{Index}
use Rattle.wast_resolve_core_types.specs.CoreTypes.{CallsOn, HasNeeds}
use Rattle.wast_resolve_core_types.proofs.Calling.{calls_on_both, first_refused, needs_first, needs_second, needs_kept}

-- the calls on the first i parts of olds are done, and nows is the list after that
pub record IsCalledOn {C X : Type 0} (needs : C → Index → Type 0) (called : C → Index → C → Index → Result ℕ Error → Type 0) (f : X
    → List Check) (w : X → X) (a : C) (olds : List X) (b : C) (nows : List X) (i : ℕ) : Type 0 where
  pub len : length nows ≡ length olds
  pub left : drop i nows ≡ drop i olds
  pub calls : CallsOn called a (flat_map f (take i olds)) b (flat_map f (take i nows)) (Ok (record {}))
  pub rest : map w (take i nows) ≡ map w (take i olds)
  pub kept : (k : Index) → needs a k → needs b k

one_more : {X : Type 0} (f : X → List Check) (xs : List X) (x : X) → flat_map f (xs ++ (x ∷ [])) ≡ flat_map f xs ++ f x
one_more f xs x = flat_map-append f xs (x ∷ []) ∙ ap (λ zs. flat_map f xs ++ zs) (append-nil (f x))

module _ {C X : Type 0} {needs : C → Index → Type 0} {called : C → Index → C → Index → Result ℕ Error → Type 0} {f : X → List Check} {w : X → X} where
  -- the next part, which is unchanged, and the lists around it
  same_part : {a b : C} {olds nows : List X} {i : ℕ} (x : X) → IsCalledOn needs called f w a olds b nows i → i < length olds → x ≡ get_or nows i x
      → get_or olds i x ≡ x
  same_part {olds = olds} {nows = nows} {i = i} x p lt is =
      let now : drop i nows ≡ get_or nows i x ∷ drop (suc i) nows = drop-cons nows i x (omega (arith, p.len)) in
      let old : drop i olds ≡ get_or olds i x ∷ drop (suc i) olds = drop-cons olds i x lt in
      let both : get_or nows i x ∷ drop (suc i) nows ≡ get_or olds i x ∷ drop (suc i) olds = sym now ∙ (p.left ∙ old) in
      cc

  before_is : {a b : C} {olds nows : List X} {i : ℕ} (x : X) → IsCalledOn needs called f w a olds b nows i → i < length olds → x ≡ get_or nows i x
      → olds ≡ take i olds ++ (x ∷ drop (suc i) olds)
  before_is {olds = olds} {i = i} x p lt is =
      sym (take-append-drop i olds) ∙ ap (λ zs. take i olds ++ zs) (drop-cons olds i x lt ∙ ap (λ z. z ∷ drop (suc i) olds) (same_part x p lt is))

  more_before : {a b : C} {olds nows : List X} {i : ℕ} (x : X) → IsCalledOn needs called f w a olds b nows i → i < length olds → x ≡ get_or nows i x
      → take (i + 1) olds ≡ take i olds ++ (x ∷ [])
  more_before {olds = olds} {i = i} x p lt is = ap (λ n. take n olds) (add-one i)
      ∙ (take-suc olds i x lt ∙ ap (λ z. take i olds ++ z ∷ []) (same_part x p lt is))

  still_left : {a b : C} {olds nows : List X} {i : ℕ} (y : X) → IsCalledOn needs called f w a olds b nows i → drop (i + 1) (set nows i y) ≡ drop (i + 1) olds
  still_left {olds = olds} {nows = nows} {i = i} y p = drop-set-lt (i + 1) nows i y (omega arith)
      ∙ rw (← drop-drop 1 i nows, ← drop-drop 1 i olds) (ap (drop 1) p.left)

  after_is : {a b : C} {olds nows : List X} {i : ℕ} (y : X) → IsCalledOn needs called f w a olds b nows i → i < length olds
      → set nows i y ≡ take i nows ++ (y ∷ drop (suc i) olds)
  after_is {olds = olds} {nows = nows} {i = i} y p lt =
      let front : take (i + 1) (set nows i y) ≡ take i nows ++ y ∷ [] = take_more_set nows i y (omega (arith, p.len)) in
      let back : drop (i + 1) (set nows i y) ≡ drop (suc i) olds = still_left y p ∙ ap (λ n. drop n olds) (add-one i) in
      sym (take-append-drop (i + 1) (set nows i y))
      ∙ (ap (λ zs. zs ++ drop (i + 1) (set nows i y)) front
      ∙ (ap (λ zs. (take i nows ++ y ∷ []) ++ zs) back ∙ append_assoc (take i nows) (y ∷ []) (drop (suc i) olds)))

  -- the next part has what the calls require
  pub next_needs : {a b : C} {olds nows : List X} {i : ℕ} {x : X} → IsCalledOn needs called f w a olds b nows i → i < length olds
      → x ≡ get_or nows i x → HasNeeds needs a (flat_map f olds) → HasNeeds needs b (f x)
  next_needs {a = a} {olds = olds} {i = i} {x = x} p lt is h =
      let about = ap (flat_map f) (before_is x p lt is) ∙ flat_map-append f (take i olds) (x ∷ drop (suc i) olds) in
      needs_kept p.kept (needs_first (flat_map f (drop (suc i) olds)) (needs_second (flat_map f (take i olds)) (subst (HasNeeds needs a) about h)))

  pub next_called : {a b c : C} {olds nows : List X} {i : ℕ} {x y : X} {u : Unit {0}} → IsCalledOn needs called f w a olds b nows i → i < length olds
      → x ≡ get_or nows i x
      → CallsOn called b (f x) c (f y) (Ok u) → w y ≡ w x → ((k : Index) → needs b k → needs c k) → IsCalledOn needs called f w a olds c (set nows i y) (i + 1)
  next_called {a = a} {c = c} {olds = olds} {nows = nows} {i = i} {x = x} {y = y} p lt is call same kept =
      let front : take (i + 1) (set nows i y) ≡ take i nows ++ y ∷ [] = take_more_set nows i y (omega (arith, p.len)) in
      let old = more_before x p lt is in
      record {
        len = length-set nows i y ∙ p.len;
        left = still_left y p;
        calls = subst (λ zs. CallsOn called a zs c (flat_map f (take (i + 1) (set nows i y))) (Ok (record {}))) (sym (ap (flat_map f) old
            ∙ one_more f (take i olds) x))
            (subst (λ zs. CallsOn called a (flat_map f (take i olds) ++ f x) c zs (Ok (record {}))) (sym (ap (flat_map f) front
            ∙ one_more f (take i nows) y)) (calls_on_both p.calls call));
        rest = ap (map w) front ∙ (map-append w (take i nows) (y ∷ [])
            ∙ (ap (λ zs. zs ++ w y ∷ []) p.rest
            ∙ (ap (λ z. map w (take i olds) ++ z ∷ []) same ∙ (sym (map-append w (take i olds) (x ∷ [])) ∙ sym (ap (map w) old)))));
        kept = λ k h. kept k (p.kept k h);
      }

  -- an error at the next part is that of the list
  pub next_refused : {a b c : C} {olds nows : List X} {i : ℕ} {x y : X} {e : Error} → IsCalledOn needs called f w a olds b nows i → i < length olds
      → x ≡ get_or nows i x
      → CallsOn called b (f x) c (f y) (Err e) → CallsOn called a (flat_map f olds) c (flat_map f (set nows i y)) (Err e)
  next_refused {a = a} {c = c} {olds = olds} {nows = nows} {i = i} {x = x} {y = y} {e = e} p lt is call =
      let behind = drop (suc i) olds in
      subst (λ zs. CallsOn called a zs c (flat_map f (set nows i y)) (Err e)) (sym (ap (flat_map f) (before_is x p lt is)
      ∙ flat_map-append f (take i olds) (x ∷ behind)))
      (subst (λ zs. CallsOn called a (flat_map f (take i olds) ++ (f x ++ flat_map f behind)) c zs (Err e)) (sym (ap (flat_map f) (after_is y p lt)
      ∙ flat_map-append f (take i nows) (y ∷ behind)))
      (calls_on_both p.calls (first_refused (flat_map f behind) call)))

  pub rest_stays : {a b : C} {olds nows : List X} {i : ℕ} {x y : X} → IsCalledOn needs called f w a olds b nows i → i < length olds
      → x ≡ get_or nows i x → w y ≡ w x → map w (set nows i y) ≡ map w olds
  rest_stays {olds = olds} {nows = nows} {i = i} {x = x} {y = y} p lt is same =
      let behind = drop (suc i) olds in
      ap (map w) (after_is y p lt) ∙ (map-append w (take i nows) (y ∷ behind)
      ∙ (ap (λ zs. zs ++ (w y ∷ map w behind)) p.rest ∙ (ap (λ z. map w (take i olds) ++ (z ∷ map w behind)) same
      ∙ (sym (map-append w (take i olds) (x ∷ behind)) ∙ sym (ap (map w) (before_is x p lt is))))))
