use Rattle.std.proofs.Common.{sym, ◌∙◌, arith}
use Rattle.wast_expand_inline.proofs.Staying.{stays_written, wants_no_reference}
use Rattle.wast_expand_inline.proofs.writing.run.Goals as goal

-- if no field has an inline part
pub returns-then-is_at_rest-clause-list : goal.returns-then-is_at_rest-clause-list
returns-then-is_at_rest-clause-list c = c.if-is_at_rest.ensures.stays ∙ sym (stays_written c.args.gensym.now c.args.fields (sym c.if-is_at_rest.ensures.rest))

pub returns-then-is_at_rest-clause-counted : goal.returns-then-is_at_rest-clause-counted
returns-then-is_at_rest-clause-counted c =
    let none = wants_no_reference c.args.fields (sym c.if-is_at_rest.ensures.rest) in
    omega (arith, none)
