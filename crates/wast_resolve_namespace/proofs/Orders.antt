-- Pairs that are compared with their neighbours.
use Rattle.std.proofs.Common.{◌≡◌, ℕ, ◌+◌, ◌-◌, ◌<◌, ◌≤◌, List, length, get_or, false, ap, sym, ◌∙◌, subst₂, arith, inl, inr}
use Rattle.std.specs.Ordering.{is_lt}
use Rattle.std.proofs.lemmas.Bool.{cases_eq}
use Rattle.wast_base.specs.declared.ids.Id.{Id}
use Rattle.wast_base.specs.Order.{key_cmp}
use Rattle.wast_resolve_namespace.specs.Filling.{pair_cmp}
use Rattle.wast_resolve_namespace.specs.Places.{entry_of}
use Rattle.wast_resolve_namespace.proofs.Basics.{any_default}

-- None of the first n pairs comes after the next one.
pub record IsRankedTo (es : List (Id × ℕ)) (n : ℕ) : Type 0 where
  pub within : n ≤ length es + 1
  pub ranked : (k : ℕ) (d : Id × ℕ) → k + 1 < n → is_lt (pair_cmp key_cmp (entry_of (get_or es (k + 1) d)) (entry_of (get_or es k d))) ≡ false

pub more_ranked : (es : List (Id × ℕ)) (n : ℕ) (d e : Id × ℕ) → 1 ≤ n → n < length es
    → is_lt (pair_cmp key_cmp (entry_of (get_or es n d)) (entry_of (get_or es (n - 1) e))) ≡ false → IsRankedTo es n → IsRankedTo es (n + 1)
more_ranked es n d e some lt test h = record {
  within = omega (arith, lt);
  ranked = λ k f before. elim (cases_eq (k + 1) n) [
    | inr other ↦ h.ranked k f (omega (arith, before, other))
    | inl is ↦
        let last : k ≡ n - 1 = omega (arith, is) in
        subst₂ (λ (a b : Id × ℕ). is_lt (pair_cmp key_cmp (entry_of a) (entry_of b)) ≡ false)
        (any_default es n d f lt ∙ ap (λ i. get_or es i f) (sym is)) (any_default es (n - 1) e f (omega (arith, some, lt))
        ∙ ap (λ i. get_or es i f) (sym last)) test
  ];
}
