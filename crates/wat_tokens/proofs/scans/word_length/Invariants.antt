use Rattle.std.proofs.Common.{◌≡◌, ◌+◌, drop, length}
use Rattle.wat_grammar.specs.Parts.{front}
use Rattle.wat_grammar.specs.Tokens.{is_idchar}
use Rattle.wat_tokens.proofs.scans.word_length.Given as goal

abbrev pub invariant-loop-count : goal.invariant-loop-count
invariant-loop-count l = length (front is_idchar l.text) ≡ l.count + length (front is_idchar (drop l.count l.text))
