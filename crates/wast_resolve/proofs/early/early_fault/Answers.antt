use Rattle.std.proofs.Common.{◌∙◌}
use Rattle.std.proofs.lemmas.Result.{err_from_is_err_and}
use Rattle.wast_base.specs.Faults.{diagnostic_of}
use Rattle.wast_tree_nodes.specs.Items.{items}
use Rattle.wast_resolve_rules.specs.Demands.{order_demands, item_demands}
use Rattle.wast_resolve_rules.proofs.Unmet.{first_unmet-append, answers_first, answers_after}
use Rattle.wast_resolve.proofs.early.early_fault.Goals as goal

pub returns-in_err-check_order-clause-refusal : goal.returns-in_err-check_order-clause-refusal
returns-in_err-check_order-clause-refusal c =
    let fs = c.args.fields.now in
    let p = err_from_is_err_and c.from_residual.result c.from_residual.ensures.1 in
    rw (p.1, p.2) (answers_first (diagnostic_of c.in_err-check_order.field-0.0) (order_demands fs) (item_demands (items fs)) (λ l. absurd l)
    (λ m. absurd m) c.in_err-check_order.ensures)

pub returns-in_err-name_spaces-clause-refusal : goal.returns-in_err-name_spaces-clause-refusal
returns-in_err-name_spaces-clause-refusal c =
    let fs = c.args.fields.now in
    let p = err_from_is_err_and c.from_residual-in_err-name_spaces.result c.from_residual-in_err-name_spaces.ensures.1 in
    rw (p.1, p.2) (answers_after (diagnostic_of c.in_err-name_spaces.field-0.0) (order_demands fs) (item_demands (items fs)) (λ l. l)
    (λ m. m) c.in_ok-check_order.ensures c.in_err-name_spaces.ensures.refusal)

pub returns-clause-met : goal.returns-clause-met
returns-clause-met c =
    let fs = c.args.fields.now in
    first_unmet-append (order_demands fs) (item_demands (items fs)) c.in_ok-check_order.ensures ∙ c.in_ok-name_spaces.ensures.met
