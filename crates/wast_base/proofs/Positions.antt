-- Lemmas: how to show that `position` is a given index, or that no element passes.
use Rattle.std.proofs.Common.{◌≡◌, ℕ, suc, ◌+◌, ◌<◌, List, ◌∷◌, length, get_or, Option, Some, None, option_map, Bool, true, false, cond, refl, ap, arith}
use Prim.Native.Nat.compare
use Rattle.std.specs.List.{position, position_or_len}
use Rattle.std.specs.Prelude.{nat_lt}
use Rattle.std.proofs.lemmas.Bool.{lt-ltb, le-ltb}
use Rattle.std.proofs.lemmas.List.Sums.{position_or_len_is}

one_more : (n : ℕ) → 1 + n ≡ suc n
one_more n = omega arith

shifted : (b : Bool) (n : ℕ) → cond b (Some (suc n)) None ≡ option_map suc (cond b (Some n) None)
shifted true n = refl
shifted false n = refl

module _ {X : Type 0} (p : X → Bool) where
  pub position_head : (b : Bool) (x : X) (xs : List X) → p x ≡ b → position p (x ∷ xs) ≡ cond b (Some 0) (option_map suc (position p xs))
  position_head true x xs h =
      let e : nat_lt 0 (suc (length xs)) ≡ true = lt-ltb 0 (suc (length xs)) (omega arith) in
      rw h (ap (λ b. cond {A = Option ℕ} b (Some 0) None) e)
  position_head false x xs h = rw (h, one_more (position_or_len p xs), compare.suc-suc)
      (shifted (nat_lt (position_or_len p xs) (length xs)) (position_or_len p xs))

  pub first_place : (xs : List X) (i : ℕ) (d : X) → i < length xs → p (get_or xs i d) ≡ true → ((k : ℕ) → k < i → p (get_or xs k d) ≡ false)
      → position p xs ≡ Some i
  first_place xs i d lt here before =
      let is = position_or_len_is p xs i d (omega arith) before (λ l. here) in
      rw is (ap (λ b. cond {A = Option ℕ} b (Some i) None) (lt-ltb i (length xs) lt))

  pub no_place : (xs : List X) (d : X) → ((k : ℕ) → k < length xs → p (get_or xs k d) ≡ false) → position p xs ≡ None
  no_place xs d none =
      let is = position_or_len_is p xs (length xs) d (omega arith) none (λ l. absurd (omega arith)) in
      rw is (ap (λ b. cond {A = Option ℕ} b (Some (length xs)) None) (le-ltb (length xs) (length xs) (omega arith)))
