use Rattle.std.proofs.Common.{ap, ◌∙◌}
use Rattle.std.proofs.lemmas.Result.{err_from_is_err_and}
use Rattle.wast_base.specs.Faults.{diagnostic_of}
use Rattle.wast_resolve_rules.specs.Resolved.{numbering_change}
use Rattle.wast_resolve_names.specs.Resolvers.{scope_of}
use Rattle.wast_resolve_passes.specs.TwoSteps.{in_element_type, with_element_type}
use Rattle.wast_resolve_passes.proofs.TwoSteps.{first_stops, second_fails, both_met, payload_parts, payload_stays, payload_becomes}
use Rattle.wast_resolve_passes.proofs.constants.ElemPayloadWalkConstants.walk_constants.Goals as goal

pub returns-in_err-walk_elements : goal.returns-in_err-walk_elements
returns-in_err-walk_elements c =
    let p = err_from_is_err_and c.from_residual.result c.from_residual.ensures.1 in
    rw (p.1, p.2) (first_stops (payload_parts (scope_of c.args.names.now) c.args.self.now)
    (diagnostic_of c.in_err-walk_elements.field-0.0) c.in_err-walk_elements.ensures)

pub returns-in_err-walk_element_type : goal.returns-in_err-walk_element_type
returns-in_err-walk_element_type c =
    let x = c.args.self.now in
    let s = scope_of c.args.names.now in
    let p = err_from_is_err_and c.from_residual-in_err-walk_element_type.result c.from_residual-in_err-walk_element_type.ensures.1 in
    rw (p.1, p.2) (second_fails (payload_parts s x) (diagnostic_of c.in_err-walk_element_type.field-0.0)
    (in_element_type c.walk_elements.new.payload) (ap in_element_type c.in_ok-walk_elements.ensures.1
    ∙ payload_stays (numbering_change s) x) c.in_ok-walk_elements.ensures.0 c.in_err-walk_element_type.ensures)

pub returns : goal.returns
returns c =
    let x = c.args.self.now in
    let s = scope_of c.args.names.now in (
      both_met (payload_parts s x) (in_element_type c.walk_elements.new.payload) (ap in_element_type c.in_ok-walk_elements.ensures.1
          ∙ payload_stays (numbering_change s) x) c.in_ok-walk_elements.ensures.0 c.in_ok-walk_element_type.ensures.0,
      c.in_ok-walk_element_type.ensures.1 ∙ (ap (with_element_type (numbering_change s)) c.in_ok-walk_elements.ensures.1
          ∙ payload_becomes (numbering_change s) x),
    )
