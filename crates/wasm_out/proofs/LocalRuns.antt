-- Runs of locals: they give the locals back, and are no longer than these.
use Rattle.std.proofs.Common.{◌≡◌, ◌==◌, ◌<◌, ◌≤◌, ◌+◌, ℕ, zero, suc, Bool, true, false, ◌&&◌, List, [], ◌∷◌, ◌++◌, length, map, drop}
use Rattle.std.proofs.Common.{get_or, replicate, refl, sym, ap, ◌∙◌, subst, add-one, arith, drop-cons}
use Rattle.std.specs.Prelude.{All}
use Rattle.std.specs.List.{flat_map, list_all}
use Rattle.std.proofs.lemmas.List.{drop_all, length-map}
use Rattle.std.proofs.lemmas.List.Concat.{flat_map-cons}
use Rattle.std.proofs.lemmas.List.Elements.{All-nil, All-cons, All-head, All-tail}
use Rattle.wasm_ops.specs.declared.types.ValType.{ValType}
use Rattle.wasm_ops.specs.Spelling.{InRangeU32, InRangeVec}
use Rattle.wast_base.proofs.ListTests.{item_passes}
use Rattle.wasm_ops.proofs.Everywhere.{all_one, both_true}
use Rattle.wasm_out.specs.Bodies.{LocalRun, is_same_type, in_front, with_local, local_runs}
use Rattle.wasm_out.proofs.SameTypes.{type_is, own_type}

-- ---- what loops over the items know

with_own : (n : ℕ) (t : ValType) (rs : List LocalRun) → with_local t ((n, t) ∷ rs) ≡ (suc n, t) ∷ rs
with_own n t rs = ap (λ b. in_front b t (n, t) rs) (own_type t) ∙ ap (λ m. (m, t) ∷ rs) (add-one n)

front_apart : (b : Bool) (t u : ValType) (r : LocalRun) (rs : List LocalRun) → is_same_type t u ≡ false
    → with_local t (in_front b u r rs) ≡ (1, t) ∷ in_front b u r rs
front_apart true t u r rs other = ap (λ b. in_front b t (r.0 + 1, u) rs) other
front_apart false t u r rs other = ap (λ b. in_front b t (1, u) (r ∷ rs)) other

with_other : (t u : ValType) (rs : List LocalRun) → is_same_type t u ≡ false → with_local t (with_local u rs) ≡ (1, t) ∷ with_local u rs
with_other t u [] other = ap (λ b. in_front b t (1, u) []) other
with_other t u (r ∷ rs) other = front_apart (is_same_type u r.1) t u r rs other

runs_then : (n : ℕ) (t u : ValType) (us : List ValType) → is_same_type t u ≡ false
    → local_runs (replicate (suc n) t ++ (u ∷ us)) ≡ (suc n, t) ∷ local_runs (u ∷ us)
runs_then zero t u us other = with_other t u (local_runs us) other
runs_then (suc n) t u us other = ap (with_local t) (runs_then n t u us other) ∙ with_own (suc n) t (local_runs (u ∷ us))

runs_one : (n : ℕ) (t : ValType) → local_runs (replicate (suc n) t ++ []) ≡ (suc n, t) ∷ []
runs_one zero t = refl
runs_one (suc n) t = ap (with_local t) (runs_one n t) ∙ with_own (suc n) t []

replicate_more : (n : ℕ) (t : ValType) (us : List ValType) → replicate n t ++ (t ∷ us) ≡ replicate (suc n) t ++ us
replicate_more zero t us = refl
replicate_more (suc n) t us = ap (λ l. t ∷ l) (replicate_more n t us)

-- a list that is not empty
pub some_items : (n : ℕ) → (n == 0) ≡ false → 0 < n
some_items zero e = absurd cc
some_items (suc n) e = omega arith

-- an item and those behind it
pub next_local : {X : Type 0} (f : X → ValType) (xs : List X) (at : ℕ) (u : ValType) (x : X) → at < length xs → x ≡ get_or xs at x → u ≡ f x
    → map f (drop at xs) ≡ u ∷ map f (drop (at + 1) xs)
next_local f xs at u x lt is told =
    ap (map f) (drop-cons xs at x lt) ∙ ap (λ y. f y ∷ map f (drop (suc at) xs)) (sym is)
    ∙ ap (λ v. v ∷ map f (drop (suc at) xs)) (sym told) ∙ ap (λ k. u ∷ map f (drop k xs)) (sym (add-one at))

-- the next item is of the type of those in front
pub run_grows : {X : Type 0} (f : X → ValType) (xs : List X) (at n : ℕ) (t u : ValType) (x : X) → at < length xs → x ≡ get_or xs at x → u ≡ f x
    → is_same_type t u ≡ true
    → local_runs (replicate n t ++ map f (drop at xs)) ≡ local_runs (replicate (n + 1) t ++ map f (drop (at + 1) xs))
run_grows f xs at n t u x lt is told same =
    let us = map f (drop (at + 1) xs) in
    ap local_runs (
    ap (λ l. replicate n t ++ l) (next_local f xs at u x lt is told) ∙ ap (λ v. replicate n t ++ (v ∷ us)) (sym (type_is t u same))
    ∙ replicate_more n t us ∙ ap (λ m. replicate m t ++ us) (sym (add-one n))
    )

-- the next item is of another type
pub run_ends : {X : Type 0} (f : X → ValType) (xs : List X) (at n : ℕ) (t u : ValType) (x : X) → 0 < n → at < length xs → x ≡ get_or xs at x
    → u ≡ f x → is_same_type t u ≡ false
    → local_runs (replicate n t ++ map f (drop at xs)) ≡ (n, t) ∷ local_runs (u ∷ map f (drop (at + 1) xs))
run_ends f xs at zero t u x some lt is told other = absurd (omega (arith, some))
run_ends f xs at (suc n) t u x some lt is told other =
    ap (λ l. local_runs (replicate (suc n) t ++ l)) (next_local f xs at u x lt is told) ∙ runs_then n t u (map f (drop (at + 1) xs)) other

-- no item is left
pub run_last : {X : Type 0} (f : X → ValType) (xs : List X) (at n : ℕ) (t : ValType) → 0 < n → length xs ≤ at
    → local_runs (replicate n t ++ map f (drop at xs)) ≡ (n, t) ∷ []
run_last f xs at zero t some le = absurd (omega (arith, some))
run_last f xs at (suc n) t some le = ap (λ ys. local_runs (replicate (suc n) t ++ map f ys)) (drop_all at xs le) ∙ runs_one n t

-- ---- what runs stand for

abbrev pub expanded : List LocalRun → List ValType
expanded rs = flat_map (λ (r : LocalRun). replicate r.0 r.1) rs

expanded-cons : (r : LocalRun) (rs : List LocalRun) → expanded (r ∷ rs) ≡ replicate r.0 r.1 ++ expanded rs
expanded-cons r rs = flat_map-cons (λ (r : LocalRun). replicate r.0 r.1) r rs

expanded_front : (b : Bool) (t : ValType) (r : LocalRun) (rs : List LocalRun) → (b ≡ true → t ≡ r.1) → expanded (in_front b t r rs) ≡ t ∷ expanded (r ∷ rs)
expanded_front true t r rs same =
    let whole : expanded ((r.0 + 1, t) ∷ rs) ≡ t ∷ (replicate r.0 t ++ expanded rs) = expanded-cons (r.0 + 1, t) rs
    ∙ ap (λ n. replicate n t ++ expanded rs) (add-one r.0) in
    whole ∙ ap (λ v. t ∷ (replicate r.0 v ++ expanded rs)) (same refl) ∙ ap (λ l. t ∷ l) (sym (expanded-cons r rs))
expanded_front false t r rs same = expanded-cons (1, t) (r ∷ rs)

expanded_local : (t : ValType) (rs : List LocalRun) → expanded (with_local t rs) ≡ t ∷ expanded rs
expanded_local t [] = refl
expanded_local t (r ∷ rs) = expanded_front (is_same_type t r.1) t r rs (type_is t r.1)

pub expanded-local_runs : (ts : List ValType) → expanded (local_runs ts) ≡ ts
expanded-local_runs [] = refl
expanded-local_runs (t ∷ ts) = expanded_local t (local_runs ts) ∙ ap (λ us. t ∷ us) (expanded-local_runs ts)

-- ---- how long runs are

abbrev IsNoLonger : ℕ → LocalRun → Type 0
IsNoLonger n r = r.0 ≤ n

all_more : (n : ℕ) (rs : List LocalRun) → All (IsNoLonger n) rs → All (IsNoLonger (suc n)) rs
all_more n rs h = λ k d lt. let one = h k d lt in omega (arith, one)

front_below : (n : ℕ) (b : Bool) (t : ValType) (r : LocalRun) (rs : List LocalRun) → suc (length rs) ≤ n → r.0 ≤ n → All (IsNoLonger n) rs
    → (length (in_front b t r rs) ≤ suc n) × All (IsNoLonger (suc n)) (in_front b t r rs)
front_below n true t r rs l h all = (omega (arith, l), All-cons (IsNoLonger (suc n)) (r.0 + 1, t) rs (omega (arith, h)) (all_more n rs all))
front_below n false t r rs l h all =
    (omega (arith, l), All-cons (IsNoLonger (suc n)) (1, t) (r ∷ rs) (omega arith) (All-cons (IsNoLonger (suc n)) r rs (omega (arith, h)) (all_more n rs all)))

local_below : (n : ℕ) (t : ValType) (rs : List LocalRun) → length rs ≤ n → All (IsNoLonger n) rs
    → (length (with_local t rs) ≤ suc n) × All (IsNoLonger (suc n)) (with_local t rs)
local_below n t [] l all = (omega arith, All-cons (IsNoLonger (suc n)) (1, t) [] (omega arith) (All-nil (IsNoLonger (suc n))))
local_below n t (r ∷ rs) l all = front_below n (is_same_type t r.1) t r rs l (All-head (IsNoLonger n) r rs all) (All-tail (IsNoLonger n) r rs all)

runs_below : (ts : List ValType) → (length (local_runs ts) ≤ length ts) × All (IsNoLonger (length ts)) (local_runs ts)
runs_below [] = (omega arith, All-nil (IsNoLonger 0))
runs_below (t ∷ ts) = let h = runs_below ts in local_below (length ts) t (local_runs ts) h.0 h.1

pub few_runs : {X : Type 0} (f : X → ValType) (xs : List X) → length (local_runs (map f xs)) ≤ length xs
few_runs f xs = subst (λ n. length (local_runs (map f xs)) ≤ n) (length-map xs f) (runs_below (map f xs)).0

-- ---- what holds of the types of locals holds of those of their runs

abbrev OfType : (ValType → Type 0) → LocalRun → Type 0
OfType P r = P r.1

front_holds : (P : ValType → Type 0) (b : Bool) (t : ValType) (r : LocalRun) (rs : List LocalRun) → P t → All (OfType P) (r ∷ rs)
    → All (OfType P) (in_front b t r rs)
front_holds P true t r rs p h = All-cons (OfType P) (r.0 + 1, t) rs p (All-tail (OfType P) r rs h)
front_holds P false t r rs p h = All-cons (OfType P) (1, t) (r ∷ rs) p h

local_holds : (P : ValType → Type 0) (t : ValType) (rs : List LocalRun) → P t → All (OfType P) rs → All (OfType P) (with_local t rs)
local_holds P t [] p h = all_one (OfType P) (1, t) p
local_holds P t (r ∷ rs) p h = front_holds P (is_same_type t r.1) t r rs p h

pub runs_hold : (P : ValType → Type 0) (ts : List ValType) → All P ts → All (OfType P) (local_runs ts)
runs_hold P [] h = All-nil (OfType P)
runs_hold P (t ∷ ts) h = local_holds P t (local_runs ts) (All-head P t ts h) (runs_hold P ts (All-tail P t ts h))

front_held : (P : ValType → Type 0) (b : Bool) (t : ValType) (r : LocalRun) (rs : List LocalRun) → (b ≡ true → t ≡ r.1)
    → All (OfType P) (in_front b t r rs) → P t × All (OfType P) (r ∷ rs)
front_held P true t r rs same h =
    let p = All-head (OfType P) (r.0 + 1, t) rs h in
    (p, All-cons (OfType P) r rs (subst P (same refl) p) (All-tail (OfType P) (r.0 + 1, t) rs h))
front_held P false t r rs same h = (All-head (OfType P) (1, t) (r ∷ rs) h, All-tail (OfType P) (1, t) (r ∷ rs) h)

local_held : (P : ValType → Type 0) (t : ValType) (rs : List LocalRun) → All (OfType P) (with_local t rs) → P t × All (OfType P) rs
local_held P t [] h = (All-head (OfType P) (1, t) [] h, All-nil (OfType P))
local_held P t (r ∷ rs) h = front_held P (is_same_type t r.1) t r rs (type_is t r.1) h

pub runs_held : (P : ValType → Type 0) (ts : List ValType) → All (OfType P) (local_runs ts) → All P ts
runs_held P [] h = All-nil P
runs_held P (t ∷ ts) h = let both = local_held P t (local_runs ts) h in All-cons P t ts both.0 (runs_held P ts both.1)

pub runs_in_range : (P : ValType → Type 0) (ts : List ValType) → InRangeVec P ts → InRangeVec (λ (r : LocalRun). InRangeU32 r.0 × P r.1) (local_runs ts)
runs_in_range P ts few =
    let h = runs_below ts in
    let held = runs_hold P ts few.1 in
    (omega (arith, h.0, few.0), λ k d lt. let one = h.1 k d lt in (omega (arith, one, few.0), held k d lt))

pub types_in_range : (P : ValType → Type 0) (ts : List ValType) → InRangeU32 (length ts)
    → InRangeVec (λ (r : LocalRun). InRangeU32 r.0 × P r.1) (local_runs ts) → InRangeVec P ts
types_in_range P ts few h = (few, runs_held P ts (λ k d lt. (h.1 k d lt).1))

-- what is tested of each item with something else
pub second_passes : {A : Type 0} (p q : A → Bool) (xs : List A) (i : ℕ) (d : A) → i < length xs → list_all (λ x. p x && q x) xs ≡ true
    → q (get_or xs i d) ≡ true
second_passes p q xs i d lt h = (both_true (p (get_or xs i d)) (q (get_or xs i d)) (item_passes (λ x. p x && q x) xs i d lt h)).1
