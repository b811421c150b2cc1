use Rattle.std.proofs.Common.{ap, ◌∙◌}
use Rattle.std.proofs.lemmas.Result.{err_from_is_err_and}
use Rattle.wast_base.specs.Faults.{diagnostic_of}
use Rattle.wast_resolve_rules.specs.Resolved.{numbering_change}
use Rattle.wast_resolve_names.specs.Resolvers.{scope_of}
use Rattle.wast_resolve_passes.specs.TwoSteps.{in_init, with_init}
use Rattle.wast_resolve_passes.proofs.TwoSteps.{first_fails, second_stops, both_met, table_parts, table_stays, table_becomes}
use Rattle.wast_resolve_passes.proofs.constants.TableKindWalkConstants.walk_constants.Goals as goal

pub returns-in_err-walk_table_type : goal.returns-in_err-walk_table_type
returns-in_err-walk_table_type c =
    let p = err_from_is_err_and c.from_residual.result c.from_residual.ensures.1 in
    rw (p.1, p.2) (first_fails (table_parts (scope_of c.args.names.now) c.args.self.now)
    (diagnostic_of c.in_err-walk_table_type.field-0.0) c.in_err-walk_table_type.ensures)

pub returns-in_err-walk_init : goal.returns-in_err-walk_init
returns-in_err-walk_init c =
    let x = c.args.self.now in
    let s = scope_of c.args.names.now in
    let p = err_from_is_err_and c.from_residual-in_err-walk_init.result c.from_residual-in_err-walk_init.ensures.1 in
    rw (p.1, p.2) (second_stops (table_parts s x) (diagnostic_of c.in_err-walk_init.field-0.0) (in_init c.walk_table_type.new.kind)
    (ap in_init c.in_ok-walk_table_type.ensures.1 ∙ table_stays (numbering_change s) x) c.in_ok-walk_table_type.ensures.0 c.in_err-walk_init.ensures)

pub returns : goal.returns
returns c =
    let x = c.args.self.now in
    let s = scope_of c.args.names.now in (
      both_met (table_parts s x) (in_init c.walk_table_type.new.kind) (ap in_init c.in_ok-walk_table_type.ensures.1
          ∙ table_stays (numbering_change s) x) c.in_ok-walk_table_type.ensures.0 c.in_ok-walk_init.ensures.0,
      c.in_ok-walk_init.ensures.1 ∙ (ap (with_init (numbering_change s)) c.in_ok-walk_table_type.ensures.1 ∙ table_becomes (numbering_change s) x),
    )
