use Rattle.std.proofs.Common.{◌∙◌}
use Rattle.wat_tokens.proofs.Idchars.{word_cut}
use Rattle.wat_tokens.proofs.scans.Source.word_at.Goals as goal

pub returns-clause-word : goal.returns-clause-word
returns-clause-word c = c.range-name.ensures.value
    ∙ word_cut c.args.self.now.text.now c.rest.result.now c.args.begin c.word_length.result c.rest.ensures c.word_length.ensures.front
