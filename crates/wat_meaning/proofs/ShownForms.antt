-- The unsupported constructs of a module, its greatest generation, and whether it is well formed do not depend on the addresses of
-- names and strings.
--
--   (func suspend 0) (export "a" (func 0))      one form, StackSwitching, wherever "a" is
use Rattle.std.proofs.Common.{◌≡◌, max, List, ap}
use Rattle.std.specs.List.{flat_map}
use Rattle.wast_tree_nodes.specs.Generations.{greatest_item, greatest_asked, greatest_generation}
use Rattle.wast_tree_nodes.specs.Known.{id_context}
use Rattle.wast_tree_nodes.specs.WellFormed.{are_kept, is_well_formed}
use Rattle.wast_tree_nodes.specs.Uncovered.{uncovered_in, uncovered_forms}
use Rattle.wat_syntax.specs.Tree.{ModuleField}
use Rattle.wat_ready.specs.Shown.{shown_fields}
use Rattle.wat_meaning.proofs.ShownItems.{items_shown}
use Rattle.wat_ready.proofs.ShownSites.{checks_shown}

pub forms_shown : (xs : List ModuleField) → uncovered_forms (shown_fields xs) ≡ uncovered_forms xs
forms_shown xs = ap (flat_map uncovered_in) (checks_shown xs)

pub generation_shown : (xs : List ModuleField) → greatest_generation (shown_fields xs) ≡ greatest_generation xs
generation_shown xs = λ i. max (greatest_item (items_shown xs i)) (greatest_asked (checks_shown xs i))

pub well_formed_shown : (xs : List ModuleField) → is_well_formed (shown_fields xs) ≡ is_well_formed xs
well_formed_shown xs = λ i. are_kept (id_context (items_shown xs i)) (checks_shown xs i)
