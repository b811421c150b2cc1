-- The goal of `return_indirect_call` that tactics leave open, closed by lemmas of Instrs.
use Rattle.std.proofs.Common.{refl}
use Rattle.wat_syntax.specs.Tree.instr
use Rattle.wat_syntax.specs.Instructions.{callindirect}
use Rattle.wat_syntax.specs.BareInstructions.{bare_call}
use Rattle.wat_text.specs.Readers.{left}
use Rattle.wat_text.proofs.Instrs.{built}
use Rattle.wat_text.proofs.reader.Reader.return_indirect_call.Goals as goal

pub returns : goal.returns
unfolding left
returns c =
    let call = c.call_indirect-call in
    built callindirect (λ x. instr.return_call_indirect x) c.args.self.now call.new.self _ (bare_call call.result) c.return_call_indirect.result
    (instr.return_call_indirect call.result) call.ensures c.return_call_indirect.ensures.made refl refl refl
