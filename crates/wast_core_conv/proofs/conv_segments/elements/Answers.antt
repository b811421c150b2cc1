use Rattle.std.proofs.Common.{◌≡◌, ◌∙◌, true, ap, sym, subst}
use Rattle.std.proofs.lemmas.Result.{err_from_is_err_and}
use Rattle.std.specs.List.{list_all}
use Rattle.wast_base.specs.Ids.{is_number}
use Rattle.wast_core_conv.specs.Encodable.{is_encodable_expression, is_encodable_payload}
use Rattle.wast_core_conv.specs.Segments.{AreExpressions}
use Rattle.wast_core_conv.proofs.Segmented.{are_payload, payload_refused}
use Rattle.wast_core_conv.proofs.SegmentsReady.{exprs_parts}
use Rattle.wast_core_conv.proofs.conv_segments.elements.Goals as goal

pub converted-requires : goal.converted-requires
converted-requires c =
    ap (list_all is_number) c.as_slice.ensures ∙ subst (λ p. is_encodable_payload p ≡ true) c.in-Indices.is c.requires

pub const_exprs-requires : goal.const_exprs-requires
const_exprs-requires c =
    ap (list_all is_encodable_expression) c.as_slice-in-Exprs.ensures
    ∙ (exprs_parts c.in-Exprs.ty c.in-Exprs.exprs (subst (λ p. is_encodable_payload p ≡ true) c.in-Exprs.is c.requires)).1

pub returns-in_err-expressions-in-Exprs-clause-refusal :
    goal.returns-in_err-expressions-in-Exprs-clause-refusal
returns-in_err-expressions-in-Exprs-clause-refusal c =
    let p = err_from_is_err_and c.from_residual-in_err-expressions-in-Exprs.result c.from_residual-in_err-expressions-in-Exprs.ensures.1 in
    rw (p.1, p.2, c.in-Exprs.is) (payload_refused c.in-Exprs.ty c.as_slice-in-Exprs.result.now c.in-Exprs.exprs
    c.in_err-expressions-in-Exprs.field-0.0 c.as_slice-in-Exprs.ensures c.in_err-expressions-in-Exprs.ensures.refusal)

pub returns-in_ok-expressions-in-Exprs-clause-value :
    goal.returns-in_ok-expressions-in-Exprs-clause-value
returns-in_ok-expressions-in-Exprs-clause-value c =
    rw c.in-Exprs.is (are_payload c.in-Exprs.ty c.as_slice-in-Exprs.result.now c.in-Exprs.exprs c.ref_type.result c.into_vec-in-Exprs.result
    (exprs_parts c.in-Exprs.ty c.in-Exprs.exprs (subst (λ p. is_encodable_payload p ≡ true) c.in-Exprs.is c.requires)).0 c.ref_type.ensures
    c.as_slice-in-Exprs.ensures (subst (AreExpressions c.as_slice-in-Exprs.result.now)
    (sym c.into_vec-in-Exprs.ensures) c.in_ok-expressions-in-Exprs.ensures.value))
