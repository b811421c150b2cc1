use Rattle.std.proofs.Common.{ap, ◌∙◌}
use Rattle.std.proofs.lemmas.Result.{err_from_is_err_and}
use Rattle.wast_base.specs.Faults.{diagnostic_of}
use Rattle.wast_resolve_rules.specs.Resolved.{numbering_change}
use Rattle.wast_resolve_names.specs.Resolvers.{scope_of}
use Rattle.wast_resolve_passes.specs.TwoSteps.{in_elem_offset, with_elem_offset}
use Rattle.wast_resolve_passes.proofs.TwoSteps.{first_fails, second_stops, both_met, elem_parts, elem_stays, elem_becomes}
use Rattle.wast_resolve_passes.proofs.constants.ElemKindWalkConstants.walk_constants.Goals as goal

pub returns-in_err-walk_elem_table : goal.returns-in_err-walk_elem_table
returns-in_err-walk_elem_table c =
    let p = err_from_is_err_and c.from_residual.result c.from_residual.ensures.1 in
    rw (p.1, p.2) (first_fails (elem_parts (scope_of c.args.names.now) c.args.self.now)
    (diagnostic_of c.in_err-walk_elem_table.field-0.0) c.in_err-walk_elem_table.ensures)

pub returns-in_err-walk_elem_offset : goal.returns-in_err-walk_elem_offset
returns-in_err-walk_elem_offset c =
    let x = c.args.self.now in
    let s = scope_of c.args.names.now in
    let p = err_from_is_err_and c.from_residual-in_err-walk_elem_offset.result c.from_residual-in_err-walk_elem_offset.ensures.1 in
    rw (p.1, p.2) (second_stops (elem_parts s x) (diagnostic_of c.in_err-walk_elem_offset.field-0.0) (in_elem_offset c.walk_elem_table.new.kind)
    (ap in_elem_offset c.in_ok-walk_elem_table.ensures.1
    ∙ elem_stays (numbering_change s) x) c.in_ok-walk_elem_table.ensures.0 c.in_err-walk_elem_offset.ensures)

pub returns : goal.returns
returns c =
    let x = c.args.self.now in
    let s = scope_of c.args.names.now in (
      both_met (elem_parts s x) (in_elem_offset c.walk_elem_table.new.kind) (ap in_elem_offset c.in_ok-walk_elem_table.ensures.1
          ∙ elem_stays (numbering_change s) x) c.in_ok-walk_elem_table.ensures.0 c.in_ok-walk_elem_offset.ensures.0,
      c.in_ok-walk_elem_offset.ensures.1 ∙ (ap (with_elem_offset (numbering_change s)) c.in_ok-walk_elem_table.ensures.1 ∙ elem_becomes (numbering_change s) x),
    )
