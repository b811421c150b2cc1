-- The goal of `rest_of_fields` that tactics leave open, closed by lemmas of Endings.
use Rattle.std.proofs.Common.{sym, subst}
use Rattle.wat_syntax.specs.ModuleFields.{modulefields}
use Rattle.wat_syntax.specs.BareFields.{bare_fields}
use Rattle.wat_text.specs.Readers.{left}
use Rattle.wat_text.specs.Denotes.{module_end, fields_to_end, rest_of_fields}
use Rattle.wat_text.proofs.Endings.{ReadsAll, fields_finish, reads_all, all_checked}
use Rattle.wat_text.proofs.modules.rest_of_fields.Goals as goal

pub returns : goal.returns
returns c =
    let to_end = fields_to_end c.args.is_written (left c.args.reader) in
    let all = rest_of_fields c.args.is_written (left c.args.reader) in
    let fields = c.fields-fields.result in
    let read = reads_all modulefields (module_end c.args.is_written) c.args.reader c.fields-fields.new.self c.module_end.new.self
    (bare_fields fields) c.fields-fields.ensures c.module_end.ensures in
    fields_finish c.args.is_written (left c.args.reader) c.args.reader c.one_start.new.self c.one_start.new.fields c.finish.result c.unless.result
    (subst (λ fs. ReadsAll all c.args.reader c.one_start.new.self (bare_fields fs)) (sym c.one_start.ensures.stays)
    (all_checked to_end c.args.reader c.module_end.new.self c.one_start.new.self (bare_fields fields) read c.one_start.ensures.checks))
    (record { clean = c.finish.ensures.clean; refused = c.finish.ensures.refused }) c.unless.ensures.ok c.unless.ensures.err
