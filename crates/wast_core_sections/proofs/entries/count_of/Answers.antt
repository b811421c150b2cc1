use Rattle.std.proofs.Common.{◌≡◌, length, sym, subst}
use Rattle.std.specs.Prelude.{IfSome}
use Rattle.wasm_ops.specs.Spelling.{InRangeU32}
use Rattle.wast_core_sections.proofs.entries.count_of.Goals as goal

pub returns-clause-some : goal.returns-clause-some
returns-clause-some c = subst (λ es. IfSome c.count.result (λ n. n ≡ length es)) c.section_fields.ensures.same c.count.ensures.some

pub returns-clause-none : goal.returns-clause-none
returns-clause-none c e small = c.count.ensures.none e (subst (λ es. InRangeU32 (length es)) (sym c.section_fields.ensures.same) small)
