use Rattle.std.proofs.Common.{Ok, Err, ap, ◌∙◌, inl}
use Rattle.std.proofs.lemmas.Result.{err_from_is_err_and}
use Rattle.wasm_ops.specs.Sinks.{refused_as}
use Rattle.wast_core_name_section.specs.FoundNames.{text_seen}
use Rattle.wast_core_sections.specs.Writable.{IsWritable}
use Rattle.wast_core_sections.proofs.Capping.{whole_or_refused, counted_refusal}
use Rattle.wast_core_sections.proofs.fields.write_counted.Goals as goal

pub returns-in_err-size-clause-refusal : goal.returns-in_err-size-clause-refusal
returns-in_err-size-clause-refusal c =
    let p = err_from_is_err_and c.from_residual.result c.from_residual.ensures.1 in
    rw (p.1, p.2) (counted_refusal (IsWritable (text_seen c.args.name) c.args.fields.now) _ c.in_err-size.ensures)

pub returns-in_err-out-clause-refusal : goal.returns-in_err-out-clause-refusal
returns-in_err-out-clause-refusal c =
    let p = err_from_is_err_and c.from_residual-in_err-out.result c.from_residual-in_err-out.ensures.1 in
    rw (p.1, p.2) (inl (ap refused_as c.in_err-out.ensures.err))

pub returns-in-Ok-clause-bytes : goal.returns-in-Ok-clause-bytes
returns-in-Ok-clause-bytes c =
    let whole = whole_or_refused {A = Unit {0}} (λ s. s.bytes.items) c.in_ok-out.out c.put_sections.new.out (text_seen c.args.name) c.args.fields.now
    (Ok tt) c.in_ok-out.ensures.ok c.in-Ok.ensures in
    (ap (λ v. v.items) c.finish.ensures ∙ whole.0.0, whole.0.1)

pub returns-in-Err-clause-refusal : goal.returns-in-Err-clause-refusal
returns-in-Err-clause-refusal c =
    (whole_or_refused {A = Unit {0}} (λ s. s.bytes.items) c.in_ok-out.out c.put_sections.new.out (text_seen c.args.name) c.args.fields.now
    (Err c.in-Err.refusal) c.in_ok-out.ensures.ok c.in-Err.ensures).1
