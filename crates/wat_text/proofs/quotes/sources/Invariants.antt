-- The loop of `sources`: the offsets so far are those of the strings so far.
use Rattle.std.proofs.Common.{◌≡◌, take}
use Rattle.wat_text.specs.Denotes.{sources}
use Rattle.wat_text.proofs.quotes.sources.Given as goal

abbrev pub invariant-loop-quote : goal.invariant-loop-quote
invariant-loop-quote l = l.places.items ≡ sources l.source (take l.quote-index l.quotes)
