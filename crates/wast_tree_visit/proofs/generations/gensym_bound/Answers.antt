use Rattle.std.proofs.Common.{arith}
use Rattle.wast_tree_nodes.specs.Generations.{generation_or_zero, generation_in}
use Rattle.wast_tree_visit.proofs.Telling.{greatest_told}
use Rattle.wast_tree_visit.proofs.generations.gensym_bound.Goals as goal

pub returns : goal.returns
returns c =
    let items = greatest_told (λ v. v.generation) (λ x. generation_or_zero x.id) c.visit_items.ensures in
    let asks = greatest_told (λ v. v.generation) generation_in c.visit_fields.ensures in
    omega arith
