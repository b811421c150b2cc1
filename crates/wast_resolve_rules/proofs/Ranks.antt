-- Index spaces by their ranks.
use Rattle.std.proofs.Common.{◌≡◌, true, refl, sym, ap, ◌∙◌, get_or, arith}
use Rattle.std.proofs.lemmas.Bool.{eq-eqb}
use Rattle.wast_base.specs.Spaces.{spaces, rank_of, same_space}
use Rattle.wast_resolve_rules.specs.Tree.{Space}
use Rattle.wast_resolve_rules.specs.Tree.space

pub at_rank : (s d : Space) → get_or spaces (rank_of s) d ≡ s
at_rank s d = grind (arith)

-- spaces with the same rank are the same
pub same_rank : (s t : Space) → rank_of s ≡ rank_of t → s ≡ t
same_rank s t e = sym (at_rank s space.Func) ∙ (ap (λ i. get_or spaces i space.Func) e ∙ at_rank t space.Func)

-- a space equals itself
pub itself : (s : Space) → same_space s s ≡ true
itself s = eq-eqb (rank_of s) (rank_of s) refl
