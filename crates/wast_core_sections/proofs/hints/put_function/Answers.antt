use Rattle.std.proofs.Common.{[], refl, inr, arith, sym, ◌∙◌, Ok, Err}
use Rattle.std.proofs.lemmas.List.Elements.{All-nil, All-head}
use Rattle.std.proofs.lemmas.Result.{err_from_is_err_and}
use Rattle.wasm_ops.specs.Spelling.{InRangeU32}
use Rattle.wast_core_conv.specs.Hints.{as_hinted, body_hints, InRangeBodyHints}
use Rattle.wast_core_name_section.proofs.NameEntries.{entry_written}
use Rattle.wast_core_sections.specs.Hints.{InRangeHinted}
use Rattle.wast_core_sections.proofs.Hinting.{hinted_if, unhinted_if}
use Rattle.wast_core_sections.proofs.hints.put_function.Goals as goal

-- Without hints nothing is written.
pub returns-then-not-has_hints-clause-written : goal.returns-then-not-has_hints-clause-written
returns-then-not-has_hints-clause-written g c =
    rw (unhinted_if c.args.kind.now (sym c.has_hints.ensures ∙ c.if-not-has_hints.true))
    (λ n from. (g.met.S.Sink.laws.none c.args.out.now, All-nil InRangeHinted))

-- An index that is too large.
pub returns-in_default-clause-written : goal.returns-in_default-clause-written
returns-in_default-clause-written g c =
    rw (hinted_if c.args.kind.now (sym c.has_hints.ensures ∙ c.if-not-has_hints.false))
    (λ n from. (
      g.met.S.Sink.laws.none c.args.out.now,
      inr
          (refl, λ h. let few : InRangeU32 n = (All-head InRangeHinted (n, as_hinted c.args.kind.now) [] h).0 in c.in_default.ensures (omega arith)),
    ))

pub returns-in_err-encode-clause-written : goal.returns-in_err-encode-clause-written
returns-in_err-encode-clause-written g c =
    let p = err_from_is_err_and c.from_residual.result c.from_residual.ensures.1 in
    let small = c.in-Ok.ensures in
    rw (hinted_if c.args.kind.now (sym c.has_hints.ensures ∙ c.if-not-has_hints.false), p.1, p.2)
    (entry_written {R = Unit {0}} g.S.Sink.rules body_hints InRangeBodyHints c.args.out.now c.encode.new.out
    (as_hinted c.args.kind.now) c.args.index c.in-Ok.index (Err c.in_err-encode.field-0.0) (omega arith) (omega arith) c.in_err-encode.ensures)

pub returns-clause-written : goal.returns-clause-written
returns-clause-written g c =
    let small = c.in-Ok.ensures in
    rw (hinted_if c.args.kind.now (sym c.has_hints.ensures ∙ c.if-not-has_hints.false))
    (entry_written {R = Unit {0}} g.S.Sink.rules body_hints InRangeBodyHints c.args.out.now c.encode.new.out
    (as_hinted c.args.kind.now) c.args.index c.in-Ok.index (Ok tt) (omega arith) (omega arith) c.in_ok-encode.ensures)
