-- If no item has an id, the index space is empty.
use Rattle.std.proofs.Common.{◌≡◌, ℕ, zero, suc, List, [], ◌∷◌, length, get_or, Option, Some, None, option_map, false, true≢false, refl, sym, ap, ◌∙◌}
use Rattle.std.specs.Prelude.{is_some}
use Rattle.std.specs.FinMap.{get-empty}
use Rattle.std.specs.List.{list_any}
use Rattle.wast_base.specs.Ids.{Name}
use Rattle.wast_base.specs.Spaces.{is_called, position_of}
use Rattle.wast_resolve_namespace.specs.Namespaces.{NameSpace, empty_from, number_in}
use Rattle.wast_base.specs.Order.{key_cmp, key_of}
use Rattle.wast_resolve_namespace.specs.Filling.{IsFilled}
use Rattle.wast_base.proofs.Positions.{position_head}

pub none_at : (ns : List (Option Name)) (p : ℕ) → list_any is_some ns ≡ false → get_or ns p None ≡ None
none_at [] p h = refl
none_at (None ∷ ns) zero h = refl
none_at (None ∷ ns) (suc p) h = none_at ns p h
none_at (Some n ∷ ns) p h = absurd (true≢false h)

none_denotes : (q : Name) (ns : List (Option Name)) → list_any is_some ns ≡ false → position_of q ns ≡ None
none_denotes q [] h = refl
none_denotes q (None ∷ ns) h = position_head (is_called q) false None ns refl ∙ ap (option_map suc) (none_denotes q ns h)
none_denotes q (Some n ∷ ns) h = absurd (true≢false h)

pub empty_filled : (ns : List (Option Name)) (s : NameSpace) (count : ℕ) → list_any is_some ns ≡ false → count ≡ length ns → s ≡ empty_from count
    → IsFilled ns s
empty_filled ns s count none long is = record {
  free = λ p c. absurd (cc (sym (none_at ns p none) ∙ c.bears));
  count = ap (λ (s : NameSpace). s.count) is ∙ long;
  number = λ q. ap (λ (s : NameSpace). number_in s q) is ∙ (get-empty key_cmp (key_of q) ∙ sym (none_denotes q ns none));
}
