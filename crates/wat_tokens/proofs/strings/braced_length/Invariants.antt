use Rattle.std.proofs.Common.{◌≡◌, take, drop}
use Rattle.wat_grammar.specs.Strings.{braced}
use Rattle.wat_tokens.proofs.Braces.{ahead}
use Rattle.wat_tokens.proofs.strings.braced_length.Given as goal

abbrev pub invariant-loop-count : goal.invariant-loop-count
invariant-loop-count l = braced l.text ≡ ahead (take l.count l.text) (braced (drop l.count l.text))
