-- The loop of `place_tokens`: the tokens so far have the positions of their first bytes, and the others are unchanged.
use Rattle.std.proofs.Common.{◌≡◌, ◌++◌, map, take, drop}
use Rattle.wat_text.specs.Denotes.{put_in}
use Rattle.wat_text.proofs.quotes.place_tokens.Given as goal

abbrev pub invariant-loop-at : goal.invariant-loop-at
invariant-loop-at l = l.tokens.items ≡ map (put_in l.fn.none l.fn.places) (take l.at l.fn.tokens.items) ++ drop l.at l.fn.tokens.items
