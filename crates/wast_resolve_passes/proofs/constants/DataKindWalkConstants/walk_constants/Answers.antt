use Rattle.std.proofs.Common.{ap, ◌∙◌}
use Rattle.std.proofs.lemmas.Result.{err_from_is_err_and}
use Rattle.wast_base.specs.Faults.{diagnostic_of}
use Rattle.wast_resolve_rules.specs.Resolved.{numbering_change}
use Rattle.wast_resolve_names.specs.Resolvers.{scope_of}
use Rattle.wast_resolve_passes.specs.TwoSteps.{in_data_offset, with_data_offset}
use Rattle.wast_resolve_passes.proofs.TwoSteps.{first_fails, second_stops, both_met, data_parts, data_stays, data_becomes}
use Rattle.wast_resolve_passes.proofs.constants.DataKindWalkConstants.walk_constants.Goals as goal

pub returns-in_err-walk_data_memory : goal.returns-in_err-walk_data_memory
returns-in_err-walk_data_memory c =
    let p = err_from_is_err_and c.from_residual.result c.from_residual.ensures.1 in
    rw (p.1, p.2) (first_fails (data_parts (scope_of c.args.names.now) c.args.self.now)
    (diagnostic_of c.in_err-walk_data_memory.field-0.0) c.in_err-walk_data_memory.ensures)

pub returns-in_err-walk_data_offset : goal.returns-in_err-walk_data_offset
returns-in_err-walk_data_offset c =
    let x = c.args.self.now in
    let s = scope_of c.args.names.now in
    let p = err_from_is_err_and c.from_residual-in_err-walk_data_offset.result c.from_residual-in_err-walk_data_offset.ensures.1 in
    rw (p.1, p.2) (second_stops (data_parts s x) (diagnostic_of c.in_err-walk_data_offset.field-0.0) (in_data_offset c.walk_data_memory.new.kind)
    (ap in_data_offset c.in_ok-walk_data_memory.ensures.1
    ∙ data_stays (numbering_change s) x) c.in_ok-walk_data_memory.ensures.0 c.in_err-walk_data_offset.ensures)

pub returns : goal.returns
returns c =
    let x = c.args.self.now in
    let s = scope_of c.args.names.now in (
      both_met (data_parts s x) (in_data_offset c.walk_data_memory.new.kind) (ap in_data_offset c.in_ok-walk_data_memory.ensures.1
          ∙ data_stays (numbering_change s) x) c.in_ok-walk_data_memory.ensures.0 c.in_ok-walk_data_offset.ensures.0,
      c.in_ok-walk_data_offset.ensures.1 ∙ (ap (with_data_offset (numbering_change s)) c.in_ok-walk_data_memory.ensures.1
          ∙ data_becomes (numbering_change s) x),
    )
