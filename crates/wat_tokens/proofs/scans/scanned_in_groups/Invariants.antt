-- What is left of the text, after the tokens that are put in groups so far.
use Rattle.std.proofs.Common.{◌≡◌, ◌≤◌, ◌-◌, length, drop}
use Rattle.std.specs.Prelude.{All}
use Rattle.wat_grammar.specs.Tokens.{parts}
use Rattle.wat_tokens.specs.Groups.{tokens_in, IsCounted}
use Rattle.wat_tokens.specs.Scans.{contents_of, seen_all, IsNamed}
use Rattle.wat_tokens.proofs.Steps.{with_before}
use Rattle.wat_tokens.proofs.scans.scanned_in_groups.Given as goal

abbrev pub invariant-loop : goal.invariant-loop
invariant-loop l = record {
  inside : l.place ≤ length l.text;
  enough : length l.text - l.place ≤ l.end - l.counter;
  same : parts (contents_of l.strings) (length l.text) (length l.text) l.text ≡ with_before (seen_all (tokens_in l.found))
      (parts (contents_of l.strings) (l.end - l.counter) (length l.text) (drop l.place l.text));
  words : All (λ p. IsNamed p.token) (tokens_in l.found);
  count : IsCounted l.found.full;
}
