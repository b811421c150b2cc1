-- The loop invariant for resolving the parts of a list one after another.
use Rattle.std.proofs.Common.{◌≡◌, ℕ, suc, ◌+◌, ◌<◌, ◌≤◌, List, [], ◌∷◌, ◌++◌, sym, ◌∙◌, ap, length, map, get_or, drop, take, arith}
use Rattle.std.proofs.Common.{add-one, subst, append_assoc}
use Rattle.std.proofs.Math.ListN.{set, length-set}
use Rattle.std.proofs.Math.Seq.{drop-cons, take-suc}
use Rattle.std.specs.Prelude.{flat_map, All}
use Rattle.std.proofs.lemmas.List.{append-nil, drop-drop, drop-set-lt, set-get_or, take_more_set, take-append-drop, take_all, map-append}
use Rattle.std.proofs.lemmas.List.Elements.{All-head, All-drop}
use Rattle.std.proofs.lemmas.Grind.{flat_map-append}
use Rattle.wast_base.specs.declared.faults.Error.{Error}
use Rattle.wast_expand_keys.specs.Signatures.{Signature}
use Rattle.wast_base.specs.Filling.{RunsOut}
use Rattle.wast_expand_keys.specs.Expanders.{BoundSignatures, LookUp, found_in}
use Rattle.wast_expand_types.specs.Binding.{new_bindings, next_after, AddsTypes}
use Rattle.wast_expand_types.specs.declared.binder.Binder.{Binder}
use Rattle.wast_expand_types.proofs.Adding.{less_runs_out, adds_none, adds_both, count_then, more_then, first_after}

-- The type uses in the first i items of olds are resolved, and nows is the list after that.
pub record IsHalfway {X : Type 0} (needed : X → List Signature) (bound : LookUp → X → X) (olds nows : List X) (i : ℕ) (a b : Binder) : Type 0 where
  pub len : length nows ≡ length olds
  pub left : drop i nows ≡ drop i olds
  pub adds : AddsTypes a b (flat_map needed (take i olds))
  pub become : (more : BoundSignatures) → take i nows ≡ map (bound (found_in b.cx more)) (take i olds)

module _ {X : Type 0} {needed : X → List Signature} {bound : LookUp → X → X} {olds nows : List X} {i : ℕ} {a b : Binder}
    (h : IsHalfway needed bound olds nows i a b) where
  same_item : (d : X) → i < length nows → drop i olds ≡ get_or nows i d ∷ drop (suc i) olds
  same_item d lt =
      let now : drop i nows ≡ get_or nows i d ∷ drop (suc i) nows = drop-cons nows i d lt in
      let old : drop i olds ≡ get_or olds i d ∷ drop (suc i) olds = drop-cons olds i d (omega (arith, h.len)) in
      let both : get_or nows i d ∷ drop (suc i) nows ≡ get_or olds i d ∷ drop (suc i) olds = sym now ∙ (h.left ∙ old) in
      let e : get_or olds i d ≡ get_or nows i d = cc in
      old ∙ ap (λ x. x ∷ drop (suc i) olds) e

  module _ {x : X} (lt : i < length olds) (is : x ≡ get_or nows i x) where
    rest : drop i olds ≡ x ∷ drop (suc i) olds
    rest = same_item x (omega (arith, h.len)) ∙ ap (λ z. z ∷ drop (suc i) olds) (sym is)

    more_taken : take (i + 1) olds ≡ take i olds ++ x ∷ []
    more_taken =
        let at : get_or olds i x ≡ x = cc (drop-cons olds i x lt, rest) in
        ap (λ n. take n olds) (add-one i) ∙ (take-suc olds i x lt ∙ ap (λ z. take i olds ++ z ∷ []) at)

    needed_more : flat_map needed (take (i + 1) olds) ≡ flat_map needed (take i olds) ++ needed x
    needed_more = ap (flat_map needed) more_taken
        ∙ (flat_map-append needed (take i olds) (x ∷ []) ∙ ap (λ ss. flat_map needed (take i olds) ++ ss) (append-nil (needed x)))

    needed_all : flat_map needed olds ≡ (flat_map needed (take i olds) ++ needed x) ++ flat_map needed (drop (suc i) olds)
    needed_all =
        ap (flat_map needed) (sym (take-append-drop i olds)) ∙ (flat_map-append needed (take i olds) (drop i olds)
        ∙ (ap (λ zs. flat_map needed (take i olds) ++ flat_map needed zs) rest
        ∙ sym (append_assoc (flat_map needed (take i olds)) (needed x) (flat_map needed (drop (suc i) olds)))))

    -- what is so of each part is so of the next one
    pub next_so : (P : X → Type 0) → All P olds → P x
    next_so P each = All-head P x (drop (suc i) olds) (subst (All P) rest (All-drop P i olds each))

    -- one more part
    pub goes_on : {y : X} {c : Binder} → AddsTypes b c (needed x) → ((more : BoundSignatures) → y ≡ bound (found_in c.cx more) x)
        → IsHalfway needed bound olds (set nows i y) (i + 1) a c
    goes_on {y} {c} k new =
        let lt2 : i < length nows = omega (arith, h.len) in
        record {
          len = length-set nows i y ∙ h.len;
          left = drop-set-lt (i + 1) nows i y (omega arith) ∙ rw (← drop-drop 1 i nows, ← drop-drop 1 i olds) (ap (drop 1) h.left);
          adds = subst (λ ss. AddsTypes a c ss) (sym needed_more) (adds_both h.adds k);
          become = λ more.
              let find : LookUp = found_in c.cx more in
              let before : take i nows ≡ map (bound find) (take i olds) = h.become (new_bindings b (needed x) ++ more)
              ∙ ap (λ (f : LookUp). map (bound f) (take i olds)) (sym (more_then k more)) in
              take_more_set nows i y lt2 ∙ (ap (λ zs. zs ++ y ∷ []) before ∙ (ap (λ z. map (bound find) (take i olds) ++ z ∷ []) (new more)
              ∙ (sym (map-append (bound find) (take i olds) (x ∷ [])) ∙ ap (map (bound find)) (sym more_taken))));
        }

    -- a part with nothing to resolve
    pub passes_by : needed x ≡ [] → ((find : LookUp) → bound find x ≡ x) → IsHalfway needed bound olds nows (i + 1) a b
    passes_by none stays =
        let back : set nows i x ≡ nows = ap (set nows i) is ∙ set-get_or nows i x in
        subst (λ ys. IsHalfway needed bound olds ys (i + 1) a b) back (goes_on (subst (λ ss. AddsTypes b b ss) (sym none) (adds_none b))
        (λ more. sym (stays (found_in b.cx more))))

    -- the counter overflows in a part
    pub stops : (e : Error) → RunsOut (next_after b (needed x)) e → RunsOut (next_after a (flat_map needed olds)) e
    stops e out =
        let here : next_after a (flat_map needed (take i olds) ++ needed x) ≡ next_after b (needed x) = count_then h.adds (needed x) in
        let all : next_after a (flat_map needed olds) ≡ next_after a ((flat_map needed (take i olds) ++ needed x) ++ flat_map needed
        (drop (suc i) olds)) = ap (next_after a) needed_all in
        less_runs_out _ _ e (omega (arith, here, all, first_after a (flat_map needed (take i olds) ++ needed x) (flat_map needed (drop (suc i) olds)))) out

-- all parts are resolved
pub all_bound : {X : Type 0} {needed : X → List Signature} {bound : LookUp → X → X} {olds nows : List X} {i : ℕ} {a b : Binder}
    → IsHalfway needed bound olds nows i a b → length olds ≤ i → (more : BoundSignatures) → nows ≡ map (bound (found_in b.cx more)) olds
all_bound {X} {needed} {bound} {olds} {nows} {i} {a} {b} h le more =
    sym (take_all i nows (omega (arith, h.len, le))) ∙ (h.become more ∙ ap (map (bound (found_in b.cx more))) (take_all i olds le))
