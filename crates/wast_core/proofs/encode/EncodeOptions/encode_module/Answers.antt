use Rattle.std.proofs.Common.{◌<◌, ap, subst, arith}
use Rattle.wast_core.specs.Headline.{name_of_module}
use Rattle.wast_core.specs.Modules.{bound_of_kind}
use Rattle.wast_core.specs.Writing.{EncodesResolved}
use Rattle.wast_core.proofs.Encoded.{encodes, in_order}
use Rattle.wast_core.proofs.encode.EncodeOptions.encode_module.Goals as goal

pub returns-clause-answer : goal.returns-clause-answer
returns-clause-answer c =
    let done = c.in_ok-resolve.ensures in
    let new = c.resolve.new.self.kind in
    let ready = c.requires.above in
    let above : bound_of_kind c.args.module.now.kind < c.args.gensym.now = omega (arith, ready) in
    record {
      kind = encodes c.resolved_laws.ensures.positions c.args.gensym.now
          (name_of_module c.args.module.now) c.args.module.now.kind new _ c.encode_resolved.result above done.answer.kind
          (subst (λ n. EncodesResolved n new c.encode_resolved.result) (ap name_of_module done.stays) c.encode_resolved.ensures);
      counter = done.answer.counter;
    }

pub returns-clause-order : goal.returns-clause-order
returns-clause-order c = in_order c.order_law.ensures c.one_meaning.ensures.one_module c.args.gensym.now
    (name_of_module c.args.module.now) c.args.module.now.kind _ c.encode_resolved.result (returns-clause-answer c).kind
