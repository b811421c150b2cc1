use Rattle.std.proofs.Common.{◌≡◌, ◌+◌, ◌-◌, ◌≤◌, length}
use Rattle.wat_grammar.specs.Parts.{front}
use Rattle.wat_grammar.specs.Space.{is_linechar}
use Rattle.wat_tokens.proofs.scans.line_length.Given as goal

abbrev pub invariant-loop : goal.invariant-loop
invariant-loop l = record {
  shorter : length l.rest ≤ length l.text;
  enough : length l.rest ≤ l.end - l.counter;
  counts : length (front is_linechar l.text) + length l.rest ≡ length l.text + length (front is_linechar l.rest);
}
