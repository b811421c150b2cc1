-- What is left of a comment, and in how many other comments it is.
use Rattle.std.proofs.Common.{◌≡◌, ◌+◌, ◌-◌, ◌≤◌, length, drop}
use Rattle.wat_grammar.specs.Space.{blockcomment}
use Rattle.wat_tokens.proofs.scans.comment_length.Given as goal

abbrev pub invariant-loop : goal.invariant-loop
invariant-loop l = record {
  shorter : length l.rest ≤ length l.text;
  enough : length l.rest ≤ l.end - l.counter;
  few : l.depth + length l.rest ≤ length l.text;
  left : l.rest ≡ drop (length l.text - length l.rest) l.text;
  same : blockcomment 0 l.text ≡ blockcomment l.depth l.rest;
}
