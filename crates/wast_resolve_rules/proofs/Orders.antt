-- The order of imports by the last definition.
use Rattle.std.proofs.Common.{◌≡◌, List, [], ◌∷◌, ◌++◌, Option, Some, None, refl, ap, ◌∙◌}
use Rattle.std.specs.Option.{option_or}
use Rattle.wast_resolve_rules.specs.Tree.{Space, ModuleField}
use Rattle.wast_resolve_rules.specs.ImportOrder.{import_place, defines, last_defined, nothing_defined, order_demand}
use Rattle.wast_resolve_rules.specs.Demands.{Demand, order_demands, each_after}

-- the checks of fields after a last definition
abbrev pub orders_from : Option Space → List ModuleField → List Demand
orders_from last [] = []
orders_from last (x ∷ xs) = nothing_defined last (import_place x) ++ orders_from (option_or (defines x) last) xs

last_more : (before : List ModuleField) (x : ModuleField) → last_defined (before ++ x ∷ []) ≡ option_or (defines x) (last_defined before)
last_more [] x = or_none (defines x)
  where
    or_none : (o : Option Space) → o ≡ option_or o None
    or_none None = refl
    or_none (Some s) = refl
last_more (y ∷ ys) x = ap (λ o. option_or o (defines y)) (last_more ys x) ∙ or_assoc (defines x) (last_defined ys) (defines y)
  where
    or_assoc : (o p q : Option Space) → option_or (option_or o p) q ≡ option_or o (option_or p q)
    or_assoc None p q = refl
    or_assoc (Some s) p q = refl

orders_after : (before xs : List ModuleField) → each_after order_demand before xs ≡ orders_from (last_defined before) xs
orders_after before [] = refl
orders_after before (x ∷ xs) = ap (λ ds. order_demand before x ++ ds) (orders_after (before ++ x ∷ []) xs ∙ ap (λ o. orders_from o xs) (last_more before x))

pub orders_are : (xs : List ModuleField) → order_demands xs ≡ orders_from None xs
orders_are xs = orders_after [] xs
