-- What is left of the annotation, of as many steps as it has bytes.
use Rattle.std.proofs.Common.{◌≡◌, ◌≤◌, ◌-◌, length, drop}
use Rattle.wat_grammar.specs.Tokens.{skipped}
use Rattle.wat_tokens.specs.Scans.{contents_of}
use Rattle.wat_tokens.proofs.scans.Source.skipped.Given as goal

abbrev pub invariant-loop : goal.invariant-loop
invariant-loop l = record {
  inside : l.at ≤ length l.self.text.now;
  after : l.place ≤ l.at;
  few : l.depth ≤ l.at;
  enough : length l.self.text.now - l.at ≤ l.end - l.counter;
  same : skipped (contents_of l.self.strings) (length (drop l.place l.self.text.now)) 0 (drop l.place l.self.text.now) ≡ skipped
      (contents_of l.self.strings) (l.end - l.counter) l.depth (drop l.at l.self.text.now);
}
