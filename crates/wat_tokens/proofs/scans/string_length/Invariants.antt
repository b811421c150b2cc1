-- What is left of a string, and how many characters come before it.
use Rattle.std.proofs.Common.{◌≡◌, ◌-◌, ◌≤◌, length, false}
use Rattle.wat_grammar.specs.Tokens.{string_length}
use Rattle.wat_tokens.specs.Scans.{after_these}
use Rattle.wat_tokens.proofs.scans.string_length.Given as goal

abbrev pub invariant-loop : goal.invariant-loop
invariant-loop l = record {
  shorter : length l.rest ≤ length l.text;
  enough : length l.rest ≤ l.end - l.counter;
  same : string_length false l.text ≡ after_these (length l.text - length l.rest) (string_length false l.rest);
}
