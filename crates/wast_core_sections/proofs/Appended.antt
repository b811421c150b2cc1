-- Lemmas about bytes that are appended one after another, and about failing before anything is appended.
use Rattle.std.proofs.Common.{◌≡◌, ℕ, List, ◌++◌, Result, Ok, Err, is_err, false, refl, inr}
use Rattle.std.specs.Prelude.{All}
use Rattle.std.specs.List.{flat_map}
use Rattle.wasm_ops.specs.Sinks.{SinkRules, AppendLaws, Writes}
use Rattle.wasm_ops.specs.declared.sink.Refusal.{Refusal}
use Rattle.wasm_ops.specs.declared.sink.Refusal.TheVariants as refusal
use Rattle.wasm_ops.proofs.Everywhere.{flat_in_flat, all_in_flat, all_of_flat}
use Rattle.wasm_ops.proofs.Sinking.{written_as}

-- Both are appended if the second is.
pub written_behind : {S A : Type 0} (rules : SinkRules S) (in_range : Type 0) (a b c : S) (x y : List ℕ) (r : Result A Refusal)
    → AppendLaws rules → rules.appended a b x → Writes rules in_range b c y r → is_err r ≡ false → Writes rules in_range a c (x ++ y) r
written_behind rules in_range a b c x y (Ok t) laws has p good = (laws.joins a b c x y has p.0, p.1)
written_behind rules in_range a b c x y (Err e) laws has p good = absurd cc

-- The bytes of each item, one after another, are those of the list.
pub each_written : {S A X Y : Type 0} (rules : SinkRules S) (P : Y → Type 0) (g : Y → List ℕ) (f : X → List Y) (xs : List X) (a b : S) (r : Result A Refusal)
    → Writes rules (All (λ x. All P (f x)) xs) a b (flat_map (λ x. flat_map g (f x)) xs) r
    → Writes rules (All P (flat_map f xs)) a b (flat_map g (flat_map f xs)) r
each_written rules P g f xs a b r p =
    written_as rules (All (λ x. All P (f x)) xs) (All P (flat_map f xs)) a b (flat_map (λ x. flat_map g (f x)) xs) (flat_map g (flat_map f xs)) r
    (all_in_flat P f xs) (all_of_flat P f xs) (flat_in_flat g f xs) p

-- If something is out of range, writing fails, and nothing was appended.
pub too_large : {S : Type 0} (rules : SinkRules S) (in_range : Type 0) (a : S) (x : List ℕ) → AppendLaws rules → (in_range → ⊥)
    → Writes {A = Unit {0}} rules in_range a a x (Err refusal.TooLarge)
too_large rules in_range a x laws out = (laws.none a, inr (refl, out))
