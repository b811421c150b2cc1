use Rattle.std.proofs.Common.{◌∙◌, ap, sym, ◌++◌, [], ◌∷◌}
use Rattle.wast_valid_tree.specs.Values.{number_of}
use Rattle.wast_valid_tree.proofs.Mapped.{taken, all_taken}
use Rattle.wast_valid_tree.proofs.values.label_numbers.Goals as goal

pub loop-i-preserved : goal.loop-i-preserved
loop-i-preserved c = c.in-Ok.ensures.ok ∙ (ap (λ ns. ns ++ c.number_at.result ∷ []) c.loop-i.invariant
    ∙ sym (taken number_of c.args.labels.now c.loop-i.i c.number_at.result c.number_at.ensures))

pub returns : goal.returns
returns c = c.loop-i.invariant ∙ all_taken number_of c.args.labels.now c.loop-i.i c.loop-i-test.false
