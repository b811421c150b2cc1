-- Proves the example modules that are resolved by computing them.
use Rattle.std.proofs.Common.{◌≡◌, ℕ, List, Option, Some, None, cond, refl, ap, ◌∙◌, arith}
use Rattle.std.specs.FinMap.{get-empty, get-insert, empty}
use Rattle.std.specs.Ordering.{eq_by_cmp}
use Rattle.std.specs.Prelude.{codes}
use Rattle.wast_base.specs.Ids.{Name, Written, Generated}
use Rattle.wast_base.specs.Order.{key_of, key_cmp}
use Rattle.wast_base.proofs.Keys.{keys_total}
use Rattle.wast_resolve_namespace.specs.Namespaces.{number_in}
use Rattle.wast_resolve_spaces.proofs.Trying.{nothing_known}
use Rattle.wast_core.specs.WorkedResolving.{ReadyModules, KnownNames27, ResolvedModules, space_of_one}

pub ready_modules : ReadyModules
ready_modules a b c d e f = (
  record { well_formed = refl; above = omega arith },
  record { well_formed = refl; above = omega arith },
  record {
    well_formed = refl;
    above = omega arith;
  },
  refl,
  refl,
)

-- What a name refers to if one item has a name.
one_known : (name : List ℕ) (q : Name) → number_in (space_of_one name) q ≡ cond (eq_by_cmp key_cmp (key_of q) (key_of (Written name))) (Some 0) None
one_known name q =
    get-insert keys_total empty (key_of (Written name)) 0 (key_of q)
    ∙ ap (λ (o : Option ℕ). cond (eq_by_cmp key_cmp (key_of q) (key_of (Written name))) (Some 0) o) (get-empty key_cmp (key_of q))

pub known_names27 : KnownNames27
known_names27 = (
  one_known (codes "f") (Written (codes "f")),
  one_known (codes "t") (Written (codes "t")),
  one_known (codes "f") (Written (codes "t")),
  get-empty key_cmp (key_of (Written (codes "f"))),
  one_known (codes "t") (Generated 1),
  get-empty key_cmp (key_of (Written (codes "f"))),
)

pub resolved_modules : ResolvedModules
resolved_modules a b c d e f names = (
  record { kind = (refl, refl, nothing_known); counter = refl },
  λ known. record { kind = (refl, refl, known); counter = refl },
  (refl, refl),
  record { kind = (nothing_known, refl); counter = refl },
  record { kind = (refl, refl); counter = refl },
)
