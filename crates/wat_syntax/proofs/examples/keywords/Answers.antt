use denote.Enum.Bare.{same_true}
use Rattle.wat_tokens.specs.contracts.words.Key.{the_type}
use Rattle.wat_syntax.proofs.examples.keywords.Goals as goal

pub returns : goal.returns
returns c = same_true the_type tt
