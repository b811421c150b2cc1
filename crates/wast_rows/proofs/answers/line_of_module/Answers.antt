use Rattle.std.proofs.Common.{◌≡◌, ◌≤◌, None, sym, subst, arith, ◌∙◌}
use Rattle.std.proofs.lemmas.Result.{IfOk-weaker}
use Rattle.wast_core.specs.Headline.{Encodes}
use Rattle.wast_core.specs.Modules.{ill_formed, generation_bound}
use Rattle.wast_rows.proofs.Telling.{encoded_row}
use Rattle.wast_rows.proofs.answers.line_of_module.Goals as goal

pub returns-clause-told : goal.returns-clause-told
returns-clause-told c =
    let well : ill_formed c.args.module.now ≡ None = sym c.ill_formed.ensures.least ∙ c.in_default.is in
    let fresh : generation_bound c.args.module.now ≤ 0 = omega (arith, c.gensym_bound.ensures) in
    IfOk-weaker c.told.result _ _ (λ line tells. encoded_row _ c.encode_module-answer.new.module _ _ _ well fresh
    (subst (λ n. Encodes c.args.module.now n c.encode_module-answer.result c.encode_module-answer.new.module c.encode_module-answer.new.gensym)
    c.new-gensym.ensures c.encode_module-answer.ensures.answer) tells) c.told.ensures.told
