-- The goal of `place_tokens` that tactics leave open, closed by a lemma of Quoting.
use Rattle.std.proofs.Common.{rules}
use Rattle.wat_text.specs.Denotes.{put_in}
use Rattle.wat_text.proofs.Quoting.{placed_more}
use Rattle.wat_text.proofs.quotes.place_tokens.Goals as goal

pub loop-at-preserved : goal.loop-at-preserved
loop-at-preserved c = placed_more
    (put_in c.args.none c.args.places.now) c.args.tokens.now.items c.loop-at.tokens.items c.place_token.new.tokens.items c.loop-at.at
    (search rules) c.loop-at.invariant c.place_token.ensures
