use Rattle.std.proofs.Common.{◌<◌, ap, ◌∙◌, sym, subst, arith}
use Rattle.std.specs.Prelude.{All}
use Rattle.std.proofs.lemmas.Result.{err_from_is_err_and}
use Rattle.wasm_out.specs.Built.{IsRefused}
use Rattle.wast_core_sections.specs.Writable.{IsWritable}
use Rattle.wast_core_sections.proofs.Readings.{reads_module}
use Rattle.wast_core_name_section.specs.FoundNames.{text_seen}
use Rattle.wast_core_sections.proofs.fields.encode_fields.Goals as goal

pub returns-clause-bytes : goal.returns-clause-bytes
returns-clause-bytes c =
    let name = text_seen c.args.name in
    let fields = c.args.fields.now in
    let put = c.in_ok-bytes.ensures.bytes in
    let small : All (λ x. x < 256) c.as_it_is-written.result.items = λ k d lt. omega arith in
    reads_module name fields c.as_it_is-written.result.items c.requires.encodable c.requires.names put.1
    (ap (λ v. v.items) c.as_it_is-written.ensures ∙ put.0) small

pub returns-in_err-bytes-clause-refusal : goal.returns-in_err-bytes-clause-refusal
returns-in_err-bytes-clause-refusal c =
    let p = err_from_is_err_and c.from_residual.result c.from_residual.ensures.1 in
    rw p.1 (subst (IsRefused (IsWritable (text_seen c.args.name) c.args.fields.now)) (sym p.2) c.in_err-bytes.ensures.refusal)
