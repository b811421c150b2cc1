-- A list that is written element by element, each found in what is left of it.
use Rattle.std.proofs.Common.{◌≡◌, ◌<◌, ◌≤◌, ◌+◌, ℕ, suc, true, false, List, [], ◌∷◌, length, take, drop, get_or, Result, Ok, Err, is_err}
use Rattle.std.proofs.Common.{refl, sym, ap, ◌∙◌, subst, add-one, arith, drop-cons, length-drop}
use Rattle.std.specs.Prelude.{All}
use Rattle.std.specs.List.{flat_map}
use Rattle.std.proofs.lemmas.List.{take_all}
use Rattle.std.proofs.lemmas.List.Folds.{length-flat_map-take}
use Rattle.wasm_ops.specs.declared.sink.Refusal.{Refusal}
use Rattle.wasm_ops.specs.Sinks.{SinkRules, Writes, AppendLaws}
use Rattle.wasm_ops.proofs.Sinking.{cut_back, one_item_more}

-- the element at k, and those behind it
pub record IsNext {A : Type 0} (xs : List A) (k : ℕ) (x : A) (rest : List A) : Type 0 where
  pub below : k < length xs
  pub is : x ≡ get_or xs k x
  pub left : drop (k + 1) xs ≡ rest

pub next_of : {A : Type 0} (xs : List A) (k : ℕ) (x : A) (rest : List A) → drop k xs ≡ x ∷ rest → IsNext xs k x rest
next_of xs k x rest e =
    let lt : k < length xs = omega (arith, length-drop k xs, ap length e) in
    let seen : get_or xs k x ∷ drop (suc k) xs ≡ x ∷ rest = sym (drop-cons xs k x lt) ∙ e in
    let left : drop (suc k) xs ≡ rest = cc in
    record { below = lt; is = cc; left = ap (λ m. drop m xs) (add-one k) ∙ left }

pub none_next : {A : Type 0} (xs : List A) (k : ℕ) → drop k xs ≡ [] → length xs ≤ k
none_next xs k e = omega (arith, length-drop k xs, ap length e)

-- the first elements were written, and these are left
pub record Written {S X : Type 0} (rules : SinkRules S) (spell : X → List ℕ) (in_range : X → Type 0) (all left : List X) (old new : S) : Type 0 where
  pub done : ℕ
  pub behind : drop done all ≡ left
  pub appended : rules.appended old new (flat_map spell (take done all))
  pub fitting : All in_range (take done all)

-- the next element was written too
pub written_more : {S A X : Type 0} (rules : SinkRules S) (spell : X → List ℕ) (in_range : X → Type 0) (all left rest : List X) (a b c : S) (x : X)
    (r : Result A Refusal)
    → AppendLaws rules → Written rules spell in_range all left a b → left ≡ x ∷ rest → Writes rules (in_range x) b c (spell x) r → is_err r ≡ false
    → Written rules spell in_range all rest a c
written_more rules spell in_range all left rest a b c x r laws w first p good =
    let next = next_of all w.done x rest (w.behind ∙ first) in
    let more = one_item_more rules spell in_range a b c all w.done x r laws next.below next.is w.appended w.fitting p good in
    record { done = w.done + 1; behind = next.left; appended = more.0; fitting = more.1 }

-- the next element was refused: the sink is cut back to its size before the first
pub written_not : {S A X : Type 0} (rules : SinkRules S) (spell : X → List ℕ) (in_range : X → Type 0) (all left rest : List X) (a b c d : S) (x : X)
    (n : ℕ) (r : Result A Refusal)
    → AppendLaws rules → Written rules spell in_range all left a b → left ≡ x ∷ rest → Writes rules (in_range x) b c (spell x) r → is_err r ≡ true
    → n ≡ rules.size_of a → rules.is_cut c n d
    → Writes rules (All in_range all) a d (flat_map spell all) r
written_not rules spell in_range all left rest a b c d x n r laws w first p bad at k =
    let next = next_of all w.done x rest (w.behind ∙ first) in
    let front = flat_map spell (take w.done all) in
    let short = subst (λ y. length front + length (spell y) ≤ length (flat_map spell all)) (sym next.is) (length-flat_map-take spell all w.done x next.below) in
    cut_back rules (All in_range all) (in_range x) a b c d front (spell x) (flat_map spell all) n r laws short
    (λ h. subst in_range (sym next.is) (h w.done x next.below)) w.appended p bad at k

-- no element is left
pub written_all : {S X : Type 0} (rules : SinkRules S) (spell : X → List ℕ) (in_range : X → Type 0) (all left : List X) (a b : S)
    → Written rules spell in_range all left a b → left ≡ [] → rules.appended a b (flat_map spell all) × All in_range all
written_all rules spell in_range all left a b w none =
    let whole = take_all w.done all (none_next all w.done (w.behind ∙ none)) in
    (subst (λ xs. rules.appended a b (flat_map spell xs)) whole w.appended, subst (All in_range) whole w.fitting)

-- the last element was written
pub written_last : {S A X : Type 0} (rules : SinkRules S) (spell : X → List ℕ) (in_range : X → Type 0) (all left : List X) (a b c : S) (x : X)
    (r : Result A Refusal)
    → AppendLaws rules → Written rules spell in_range all left a b → left ≡ x ∷ [] → Writes rules (in_range x) b c (spell x) r → is_err r ≡ false
    → Writes rules (All in_range all) a c (flat_map spell all) r
written_last rules spell in_range all left a b c x (Ok t) laws w last p good =
    written_all rules spell in_range all [] a c (written_more rules spell in_range all left [] a b c x (Ok t) laws w last p good) refl
written_last rules spell in_range all left a b c x (Err e) laws w last p good = absurd cc
