use Rattle.wast_expand_inline.proofs.Referable.{refused}
use Rattle.wast_expand_inline.proofs.writing.written_fields.Goals as goal

pub returns-clause-refusal : goal.returns-clause-refusal
returns-clause-refusal c = refused c.args.gensym.now c.args.fields.now c.name_items.new.fields c.write_fields.result
    (c.in_ok-name_items.ensures.fields) c.write_fields.ensures.refusal
