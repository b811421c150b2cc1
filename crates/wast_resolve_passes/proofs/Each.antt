-- The loop invariant of a walk over each item of a list.
use Rattle.std.proofs.Common.{◌≡◌, ℕ, suc, ◌+◌, ◌<◌, List, [], ◌∷◌, ◌++◌, ◌≤◌, None, sym, ◌∙◌, ap, length, map, get_or, drop, take, arith, add-one, subst}
use Rattle.std.proofs.Math.ListN.{set, length-set}
use Rattle.std.proofs.Math.Seq.{drop-cons, take-suc}
use Rattle.std.specs.Prelude.{flat_map, All}
use Rattle.std.proofs.lemmas.List.{append-nil, drop-drop, drop-set-lt, set-get_or, take_more_set, take-append-drop, take_all, map-append}
use Rattle.std.proofs.lemmas.List.Elements.{All-head, All-drop}
use Rattle.std.proofs.lemmas.Grind.{flat_map-append}
use Rattle.wast_base.specs.Faults.{Diagnostic}
use Rattle.wast_resolve_rules.specs.Demands.{Demand, first_unmet, Answers}
use Rattle.wast_resolve_names.proofs.Parts.{both_met, first_fails, second_fails}

-- the first i items of olds are walked, and nows is the list after that
pub record IsHalfway {X A : Type 0} (g : A → List Demand) (f : X → List A) (w : X → X) (olds nows : List X) (i : ℕ) : Type 0 where
  pub len : length nows ≡ length olds
  pub left : drop i nows ≡ drop i olds
  pub met : first_unmet (flat_map g (flat_map f (take i olds))) ≡ None
  pub become : take i nows ≡ map w (take i olds)

module _ {X A : Type 0} {g : A → List Demand} {f : X → List A} {w : X → X} {olds : List X} where
  same_item : {nows : List X} {i : ℕ} (d : X) → IsHalfway g f w olds nows i → i < length nows → drop i olds ≡ get_or nows i d ∷ drop (suc i) olds
  same_item {nows} {i} d p lt =
      let a : drop i nows ≡ get_or nows i d ∷ drop (suc i) nows = drop-cons nows i d lt in
      let b : drop i olds ≡ get_or olds i d ∷ drop (suc i) olds = drop-cons olds i d (omega (arith, p.len)) in
      let c : get_or nows i d ∷ drop (suc i) nows ≡ get_or olds i d ∷ drop (suc i) olds = sym a ∙ (p.left ∙ b) in
      let e : get_or olds i d ≡ get_or nows i d = cc in
      b ∙ ap (λ x. x ∷ drop (suc i) olds) e

  -- the list around the next item
  pub split : {B : Type 0} (e : X → List B) {nows : List X} {i : ℕ} {x : X} → IsHalfway g f w olds nows i → i < length olds → x ≡ get_or nows i x
      → flat_map e olds ≡ flat_map e (take i olds) ++ (e x ++ flat_map e (drop (suc i) olds))
  split e {nows} {i} {x} p lt is =
      let lt2 : i < length nows = omega (arith, p.len) in
      let rest : drop i olds ≡ x ∷ drop (suc i) olds = same_item x p lt2 ∙ ap (λ z. z ∷ drop (suc i) olds) (sym is) in
      ap (flat_map e) (sym (take-append-drop i olds))
      ∙ (flat_map-append e (take i olds) (drop i olds) ∙ ap (λ zs. flat_map e (take i olds) ++ flat_map e zs) rest)

  -- what is so of each item is so of the next one
  pub next_so : (P : X → Type 0) {nows : List X} {i : ℕ} {x : X} → IsHalfway g f w olds nows i → i < length olds → x ≡ get_or nows i x
      → All P olds → P x
  next_so P {nows} {i} {x} p lt is each =
      let lt2 : i < length nows = omega (arith, p.len) in
      let rest : drop i olds ≡ x ∷ drop (suc i) olds = same_item x p lt2 ∙ ap (λ z. z ∷ drop (suc i) olds) (sym is) in
      All-head P x (drop (suc i) olds) (subst (All P) rest (All-drop P i olds each))

  pub goes_on : {nows : List X} {i : ℕ} {x y : X} → IsHalfway g f w olds nows i → i < length olds → x ≡ get_or nows i x
      → first_unmet (flat_map g (f x)) ≡ None → y ≡ w x → IsHalfway g f w olds (set nows i y) (i + 1)
  goes_on {nows} {i} {x} {y} p lt is met new =
      let lt2 : i < length nows = omega (arith, p.len) in
      let rest : drop i olds ≡ x ∷ drop (suc i) olds = same_item x p lt2 ∙ ap (λ z. z ∷ drop (suc i) olds) (sym is) in
      let at : get_or olds i x ≡ x = cc (drop-cons olds i x lt) in
      let more : take (i + 1) olds ≡ take i olds ++ x ∷ [] = ap (λ n. take n olds) (add-one i) ∙ (take-suc olds i x lt ∙ ap (λ z. take i olds ++ z ∷ []) at) in
      record {
        len = length-set nows i y ∙ p.len;
        left = drop-set-lt (i + 1) nows i y (omega arith) ∙ rw (← drop-drop 1 i nows, ← drop-drop 1 i olds) (ap (drop 1) p.left);
        met = subst (λ zs. first_unmet (flat_map g zs) ≡ None)
            (sym (ap (flat_map f) more ∙ (flat_map-append f (take i olds) (x ∷ []) ∙ ap (λ zs. flat_map f (take i olds) ++ zs) (append-nil (f x)))))
            (both_met g (flat_map f (take i olds)) (f x) p.met met);
        become = take_more_set nows i y lt2
            ∙ (ap (λ zs. zs ++ y ∷ []) p.become
            ∙ (ap (λ z. map w (take i olds) ++ z ∷ []) new ∙ (sym (map-append w (take i olds) (x ∷ [])) ∙ ap (map w) (sym more))));
      }

  -- an item whose trial failed
  pub tried : {nows : List X} {i : ℕ} {x y : X} → IsHalfway g f w olds nows i → x ≡ get_or nows i x → y ≡ x → IsHalfway g f w olds (set nows i y) i
  tried {nows} {i} {x} {y} p is same = subst (λ ys. IsHalfway g f w olds ys i) (sym (ap (set nows i) (same ∙ is) ∙ set-get_or nows i x)) p

  -- the error at an item, with the conditions K for E12 and M for E10
  pub stops_with : {nows : List X} {i : ℕ} {x : X} (K M : Type 0) (t : Diagnostic) → IsHalfway g f w olds nows i → i < length olds
      → x ≡ get_or nows i x → Answers K M t (first_unmet (flat_map g (f x)))
      → Answers K M t (first_unmet (flat_map g (flat_map f olds)))
  stops_with {nows} {i} {x} K M t p lt is failed =
      let others = flat_map f (drop (suc i) olds) in
      subst (λ os. Answers K M t (first_unmet (flat_map g os))) (sym (split f p lt is))
      (second_fails g (flat_map f (take i olds)) (f x ++ others) K M t p.met (first_fails g (f x) others K M t failed))

  pub stops : {nows : List X} {i : ℕ} {x : X} (t : Diagnostic) → IsHalfway g f w olds nows i → i < length olds → x ≡ get_or nows i x
      → Answers ⊥ ⊥ t (first_unmet (flat_map g (f x))) → Answers ⊥ ⊥ t (first_unmet (flat_map g (flat_map f olds)))
  stops t p lt is failed = stops_with ⊥ ⊥ t p lt is failed

  -- all items are walked
  pub all_met : {nows : List X} {i : ℕ} → IsHalfway g f w olds nows i → length olds ≤ i → first_unmet (flat_map g (flat_map f olds)) ≡ None
  all_met {nows} {i} p le = subst (λ xs. first_unmet (flat_map g (flat_map f xs)) ≡ None) (take_all i olds le) p.met

  pub all_become : {nows : List X} {i : ℕ} → IsHalfway g f w olds nows i → length olds ≤ i → nows ≡ map w olds
  all_become {nows} {i} p le = sym (take_all i nows (omega (arith, p.len, le))) ∙ (p.become ∙ ap (map w) (take_all i olds le))
