-- One of many numbers is 2^32 or more.
use Rattle.std.proofs.Common.{◌≡◌, ℕ, List, [], ◌∷◌, ◌++◌, ◌≤◌, ◌^◌, refl, sym, ap, ◌∙◌, subst, arith}
use Rattle.std.proofs.lemmas.List.Elements.{Contains-append_left, Contains-append_right}
use Rattle.std.proofs.lemmas.Grind.{flat_map-append}
use Rattle.wast_tree_nodes.specs.Sites.{Site}
use Rattle.wast_resolve_rules.specs.Demands.{HasMany, open_counts_at, open_counts}

pub many_one : (n : ℕ) → 2 ^ 32 ≤ n → HasMany (n ∷ [])
many_one n h = (n, ((0, omega arith, refl), h))

pub many_left : (ms ns : List ℕ) → HasMany ms → HasMany (ms ++ ns)
many_left ms ns h = (h.0, (Contains-append_left ms ns h.0 h.1.0, h.1.1))

pub many_right : (ms ns : List ℕ) → HasMany ns → HasMany (ms ++ ns)
many_right ms ns h = (h.0, (Contains-append_right ms ns h.0 h.1.0, h.1.1))

-- among the numbers with others before and after them
pub many_at : (all before ms behind : List ℕ) → all ≡ before ++ (ms ++ behind) → HasMany ms → HasMany all
many_at all before ms behind is h = subst HasMany (sym is) (many_right before (ms ++ behind) (many_left ms behind h))

-- among the enclosing blocks at some sites
pub many_sites : (all before here behind : List Site) → all ≡ before ++ (here ++ behind) → HasMany (open_counts here) → HasMany (open_counts all)
many_sites all before here behind is h =
    many_at (open_counts all) (open_counts before) (open_counts here) (open_counts behind)
    (ap open_counts is ∙ (flat_map-append open_counts_at before (here ++ behind)
    ∙ ap (λ ns. open_counts before ++ ns) (flat_map-append open_counts_at here behind))) h
