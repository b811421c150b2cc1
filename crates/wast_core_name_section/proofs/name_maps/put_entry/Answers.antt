use Rattle.std.proofs.Common.{[], refl, inr, arith, Ok, Err}
use Rattle.std.proofs.lemmas.List.Elements.{All-head}
use Rattle.std.proofs.lemmas.Result.{err_from_is_err_and}
use Rattle.wasm_ops.specs.Spelling.{InRangeU32}
use Rattle.wast_core_name_section.specs.FoundNames.{InRangeEntryOf}
use Rattle.wast_core_name_section.proofs.NameEntries.{entry_written}
use Rattle.wast_core_name_section.proofs.name_maps.put_entry.Goals as goal

pub returns-in_default-try_from : goal.returns-in_default-try_from
returns-in_default-try_from g c =
    rw c.in-Some.is (record {
      written = λ n from. (
        g.met.S.Sink.laws.none c.args.out.now,
        inr (
          refl,
          λ h. let few : InRangeU32 n = (All-head (InRangeEntryOf g.T.Encode.in_range) (n, c.in-Some.value) [] h).0
              in c.in_default-try_from.ensures (omega arith),
        ),
      );
      next = tt;
    })

pub returns-in_err-encode-clause-written : goal.returns-in_err-encode-clause-written
returns-in_err-encode-clause-written g c =
    let p = err_from_is_err_and c.from_residual.result c.from_residual.ensures.1 in
    let small = c.in-Ok.ensures in
    rw (c.in-Some.is, p.1, p.2) (entry_written {R = Unit {0}} g.S.Sink.rules g.T.Encode.spelling g.T.Encode.in_range c.args.out.now c.encode.new.out
    c.in-Some.value c.args.position c.in-Ok.index (Err c.in_err-encode.field-0.0) (omega arith) (omega arith) c.in_err-encode.ensures)

pub returns-clause-written : goal.returns-clause-written
returns-clause-written g c =
    let small = c.in-Ok.ensures in
    rw c.in-Some.is (entry_written {R = Unit {0}} g.S.Sink.rules g.T.Encode.spelling g.T.Encode.in_range c.args.out.now c.encode.new.out
    c.in-Some.value c.args.position c.in-Ok.index (Ok tt) (omega arith) (omega arith) c.in_ok-encode.ensures)
