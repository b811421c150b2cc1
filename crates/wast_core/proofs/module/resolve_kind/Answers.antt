use Rattle.std.proofs.Common.{IsTrue, ◌<◌, subst, sym}
use Rattle.wast_core_conv.specs.Encodable.{is_at_rest}
use Rattle.wast_core.specs.Modules.{is_well_formed_kind, bound_of_kind}
use Rattle.wast_core.proofs.Encoded.{at_rest}
use Rattle.wast_core.proofs.module.resolve_kind.Goals as goal

pub returns-in-Ok-clause-at_rest : goal.returns-in-Ok-clause-at_rest
returns-in-Ok-clause-at_rest c =
    let laws = c.resolved_laws.ensures in
    let well = subst (λ k. IsTrue (is_well_formed_kind k)) c.in-Text.is c.requires.well_formed in
    let above = subst (λ k. bound_of_kind k < c.args.gensym.now) c.in-Text.is c.requires.above in
    subst (λ fs. IsTrue (is_at_rest fs)) (sym c.in-Ok.ensures.list)
    (at_rest laws.well_formed laws.resolved laws.written_out c.args.gensym.now c.in-Text.fields above well c.in-Ok.ensures.met)
