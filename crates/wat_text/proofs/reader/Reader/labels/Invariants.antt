-- The loop of `labels`: the rule has the same result from all tokens as from the tokens that are left, with the parts so far.
use Rattle.std.proofs.Common.{◌-◌, [], ◌∷◌, ◌++◌}
use Rattle.wat_syntax.specs.Tokens.{many, with_parts}
use Rattle.wat_syntax.specs.Types.{is_index_next, indices}
use Rattle.wat_syntax.specs.Values.{index}
use Rattle.wat_syntax.specs.Bare.{bare_index, bare_indices}
use Rattle.wat_text.specs.Readers.{left}
use Rattle.wat_text.proofs.Steps.{Steps}
use Rattle.wat_text.proofs.reader.Reader.labels.Given as goal

abbrev pub invariant-loop : goal.invariant-loop
invariant-loop l = Steps l.fn.self l.self (with_parts (bare_indices l.fn.labels ++ bare_index l.fn.first ∷ []) (indices (left l.fn.self)))
    (with_parts (bare_indices l.labels ++ bare_index l.last ∷ []) (many is_index_next index (l.end - l.counter) (left l.self)))
