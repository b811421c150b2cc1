-- The loop of `joined`: the bytes so far are the text of the strings so far.
use Rattle.std.proofs.Common.{◌≡◌, take}
use Rattle.wat_text.specs.Denotes.{text_in}
use Rattle.wat_text.proofs.quotes.joined.Given as goal

abbrev pub invariant-loop-quote : goal.invariant-loop-quote
invariant-loop-quote l = l.bytes.items ≡ text_in (take l.quote-index l.quotes)
