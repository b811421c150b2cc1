use Rattle.std.proofs.Common.{length, refl, sym, subst}
use Rattle.std.specs.Prelude.{All}
use Rattle.std.specs.List.{flat_map}
use Rattle.wasm_ops.specs.Spelling.{InRangeU32}
use Rattle.wasm_out.specs.Parts.{part, InRangePart}
use Rattle.wast_core_sections.specs.Hints.{hinted_functions, hints_part, InRangeHints}
use Rattle.wast_core_sections.proofs.Appended.{too_large}
use Rattle.wast_core_sections.proofs.Hinting.{alike}
use Rattle.wast_core_sections.proofs.hints.put_hints.Goals as goal

-- There are more functions than fit in 32 bits.
pub returns-in_default : goal.returns-in_default
returns-in_default g c =
    let fields = c.args.fields.now in
    let all = hinted_functions fields in
    too_large g.S.Sink.rules (All InRangePart (hints_part all) × InRangeHints all) c.args.out.now (flat_map part (hints_part all)) g.met.S.Sink.laws
    (λ h. c.in_default.ensures.none refl
    (subst (λ fs. InRangeU32 (length fs)) (sym (alike fields c.function_fields-there.result.now c.function_fields-there.ensures.same)) h.1.0))

pub put_counted-requires-clause-ready : goal.put_counted-requires-clause-ready
put_counted-requires-clause-ready g c = c.function_fields-there.ensures.ready c.requires.ready

pub returns : goal.returns
returns g c = rw (sym (alike c.args.fields.now c.function_fields-there.result.now c.function_fields-there.ensures.same)) c.put_counted.ensures
