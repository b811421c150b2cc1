use Rattle.std.specs.Option.{option_map}
use Rattle.wasm_ops.proofs.Instructing.{select_row, lists_covered}
use Rattle.wasm_ops.proofs.instr_sink.InstructionSink.select.Goals as goal

pub returns-clause-appended : goal.returns-clause-appended
returns-clause-appended g c =
    let types = option_map (λ list. list.now) c.args.types in (
      c.in_ok-encode.ensures.0,
      record {
        row = select_row types;
        numbers = c.in_ok-encode.ensures.1;
        covered = lists_covered (λ list. list.now) c.args.types c.requires;
      },
    )
