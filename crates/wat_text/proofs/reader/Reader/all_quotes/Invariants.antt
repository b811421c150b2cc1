-- The loop of `all_quotes`: the rule has the same result from all tokens as from the tokens that are left, with the parts so far.
use Rattle.std.proofs.Common.{◌-◌, map}
use Rattle.wat_syntax.specs.Tokens.{many, with_parts}
use Rattle.wat_syntax.specs.Types.{goes_on}
use Rattle.wat_text.specs.Denotes.{quote, quotes, bare_quote}
use Rattle.wat_text.specs.Readers.{left}
use Rattle.wat_text.proofs.Steps.{Steps}
use Rattle.wat_text.proofs.reader.Reader.all_quotes.Given as goal

abbrev pub invariant-loop : goal.invariant-loop
invariant-loop l = Steps l.fn.self l.self (with_parts (map bare_quote l.fn.quotes.items) (quotes (left l.fn.self)))
    (with_parts (map bare_quote l.quotes.items) (many goes_on quote (l.end - l.counter) (left l.self)))
