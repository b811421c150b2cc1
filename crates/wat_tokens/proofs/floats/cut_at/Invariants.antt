-- What holds while a text is searched: it is cut where the rest of it is.
use Rattle.std.proofs.Common.{◌≡◌, take, drop, ◌++◌}
use Rattle.wat_grammar.specs.Floats.{cut}
use Rattle.wat_tokens.proofs.floats.cut_at.Given as goal

abbrev pub invariant-loop-i : goal.invariant-loop-i
invariant-loop-i l = cut l.upper l.lower l.text ≡ (take l.i l.text ++ (cut l.upper l.lower (drop l.i l.text)).0, (cut l.upper l.lower (drop l.i l.text)).1)
