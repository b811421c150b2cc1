use Rattle.std.proofs.lemmas.Result.{err_from_is_err_and}
use Rattle.wast_rows.proofs.Started.{settled_names, finds, finds_refused}
use Rattle.wast_rows.proofs.starting.find_start.Goals as goal

pub number_start-start-requires : goal.number_start-start-requires
number_start-start-requires c =
    settled_names c.borne_law.ensures c.args.gensym.now c.args.module.now.kind c.resolve.new.self.kind c.in_ok-names.names c.args.idx c.requires.text
    c.requires.settled c.in_ok-names.ensures.answer.kind

pub returns-in_err-names-clause-answer : goal.returns-in_err-names-clause-answer
returns-in_err-names-clause-answer c =
    let p = err_from_is_err_and c.from_residual.result c.from_residual.ensures.1 in
    rw (p.1, p.2) (finds_refused c.args.gensym.now c.args.module.now.kind c.resolve.new.self.kind c.args.idx c.in_err-names.field-0.0 c.requires.text
    c.in_err-names.ensures.answer.kind)

pub returns-clause-answer : goal.returns-clause-answer
returns-clause-answer c =
    let found = c.number_start-start.ensures in
    finds c.args.gensym.now c.args.module.now.kind c.resolve.new.self.kind c.in_ok-names.names c.args.idx c.number_start-start.result c.requires.text
    c.in_ok-names.ensures.answer.kind found.met found.number found.refusal
