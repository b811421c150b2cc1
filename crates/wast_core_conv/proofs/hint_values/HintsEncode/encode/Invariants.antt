use Rattle.std.proofs.Common.{◌≡◌, true, length, take, drop}
use Rattle.std.specs.List.{All, flat_map}
use Rattle.wasm_ops.specs.Table.{instr}
use Rattle.wasm_out.specs.Hints.{branch_hint}
use Rattle.wast_tree_nodes.specs.Clauses.{stand_from}
use Rattle.wast_core_conv.specs.Hints.{bytes_before, as_branch_hint, InRangeHintOf}
use Rattle.wast_core_conv.specs.Meaning as meaning
use Rattle.wast_core_conv.proofs.hint_values.HintsEncode.encode.Given as goal

abbrev pub invariant-loop-hint : goal.invariant-loop-hint
invariant-loop-hint g l =
    let body = meaning.body_of l.self.locals.now l.self.instrs.now in
    record {
      told : g.S.Sink.rules.appended l.fn.out l.out (flat_map (λ h. (branch_hint (as_branch_hint body h)).bytes) (take l.hint-index l.hint-items));
      fitting : All (InRangeHintOf body) (take l.hint-index l.hint-items);
      at : l.start ≡ g.S.Sink.rules.size_of l.fn.out;
      counted : l.before ≡ length (bytes_before body l.next);
      first : All (λ x. (instr x).in_range) (take l.next body.instrs);
      standing : stand_from (length l.self.instrs.now) l.next (drop l.hint-index l.hint-items) ≡ true;
    }
