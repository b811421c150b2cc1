use Rattle.std.proofs.Common.{◌≡◌, ◌+◌, ◌-◌, ◌≤◌, length}
use Rattle.wat_grammar.specs.Parts.{front}
use Rattle.wat_grammar.specs.Strings.{is_raw}
use Rattle.wat_tokens.proofs.strings.raw_length.Given as goal

abbrev pub invariant-loop : goal.invariant-loop
invariant-loop l = record {
  shorter : length l.rest ≤ length l.text;
  enough : length l.rest ≤ l.end - l.counter;
  counts : length (front is_raw l.text) + length l.rest ≡ length l.text + length (front is_raw l.rest);
}
