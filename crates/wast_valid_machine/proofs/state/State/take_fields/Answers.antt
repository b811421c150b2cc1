use Rattle.std.proofs.Common.{map, reverse, subst, ap, sym, ◌∙◌, arith}
use Rattle.std.proofs.lemmas.Result.{err_from_is_err_and}
use Rattle.wast_valid_machine.specs.Machine.{expect_all}
use Rattle.wast_valid_machine.specs.Reports.{Reports}
use Rattle.wast_valid_machine.proofs.Lists.{one_taken, one_missed, none_left, all_fields, as_many_fields}
use Rattle.wast_valid_machine.proofs.state.State.take_fields.Goals as goal

pub loop-left-init : goal.loop-left-init
loop-left-init c = (
  omega arith,
  ap (λ ys. expect_all c.args.types.now (reverse ys) c.args.self.now) (sym (all_fields c.args.fields.now)),
)

pub loop-left-preserved : goal.loop-left-preserved
loop-left-preserved c = (
  omega (arith, c.loop-left.invariant.0),
  c.loop-left.invariant.1 ∙ one_taken c.args.types.now (map (λ f. f.ty) c.args.fields.now) c.loop-left.left c.field_type-last.result c.loop-left-test.true
      (omega (arith, c.loop-left.invariant.0, as_many_fields c.args.fields.now))
      c.field_type-last.ensures c.loop-left.self c.take_as.new.self c.in_ok-take_as.ensures.ok,
)

pub returns-in_err-take_as-clause-err : goal.returns-in_err-take_as-clause-err
returns-in_err-take_as-clause-err c =
    let p = err_from_is_err_and c.from_residual.result c.from_residual.ensures.1 in
    rw (p.1, p.2) (subst (λ r. Reports r c.in_err-take_as.field-0.0) (sym c.loop-left.invariant.1)
    (one_missed c.args.types.now (map (λ f. f.ty) c.args.fields.now) c.loop-left.left c.field_type-last.result c.loop-left-test.true
    (omega (arith, c.loop-left.invariant.0, as_many_fields c.args.fields.now))
    c.field_type-last.ensures c.loop-left.self c.in_err-take_as.field-0.0 c.in_err-take_as.ensures.err))

pub returns-clause-ok : goal.returns-clause-ok
returns-clause-ok c = c.loop-left.invariant.1 ∙ none_left c.args.types.now (map (λ f. f.ty) c.args.fields.now) c.loop-left.left c.loop-left.self c.loop-left-test.false
