use Rattle.std.proofs.Common.{◌++◌, length, sym, ap, ◌∙◌, subst, codes}
use Rattle.wasm_ops.specs.Spelling.{name, sub_type}
use Rattle.wasm_out.specs.Built.{built_with, empty, behind_count}
use Rattle.wasm_ops.specs.Leb128.{unsigned}
use Rattle.wasm_out.specs.Reads.{Reads}
use Rattle.unit_tests.specs.SumModule.{sum_module}
use Rattle.unit_tests.proofs.Sum.{sum_reads, added, appended, joined}
use Rattle.unit_tests.proofs.writing.written.Goals as goal

pub returns : goal.returns
returns c =
    let types = added c.new-types.ensures c.in_ok-subtype.ensures.0 ∙ ap (λ t. built_with empty (sub_type t).bytes) c.in_ok-function_type.ensures in
    let functions = added c.new-functions.ensures c.in_ok-function.ensures.0 in
    let exports = added c.new-exports.ensures c.in_ok-export.ensures.0 in
    let code = added c.new-code.ensures c.in_ok-function-2.ensures.0 ∙ ap (λ f. built_with empty (unsigned (length f) ++ f)) c.in_ok-body.ensures.bytes in
    let made = ap (λ bytes. name (codes "made") ++ bytes) c.in_ok-from_slice.ensures.items in
    let one = appended 1 c.in_ok-module.ensures.0 (ap behind_count types) c.in_ok-section.ensures.0 in
    let two = appended 3 one (ap behind_count functions) c.in_ok-section-2.ensures.0 in
    let three = appended 7 two (ap behind_count exports) c.in_ok-section-3.ensures.0 in
    let four = appended 10 three (ap behind_count code) c.in_ok-section-4.ensures.0 in
    let five = appended 0 four made c.in_ok-section-5.ensures.0 in
    subst (λ bytes. Reads bytes sum_module) (sym (c.finish-bytes.ensures ∙ five ∙ joined)) sum_reads
