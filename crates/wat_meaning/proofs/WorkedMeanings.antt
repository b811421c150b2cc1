-- Two trees of one text: each side of an equation computes to the other.
use Rattle.std.proofs.Common.{refl}
use Rattle.wasm_ops.specs.Leb128.{unsigned, unsigned_in}
use Rattle.wat_meaning.specs.WorkedMeanings.{TwoTrees}

pub two_trees : TwoTrees
unfolding unsigned unsigned_in
two_trees a b c d e f = (refl, refl, refl, refl, refl)
