-- The goals of `token_step`: which token is next, and at a parenthesis that there is no branch hint.
use Rattle.std.proofs.Common.{◌∙◌, Some, refl, ap}
use Rattle.wat_tokens.specs.declared.tokens.Token.TheVariants as token
use Rattle.wat_syntax.specs.Bare.{bare_token}
use Rattle.wat_text.specs.Machine.{may_hint}
use Rattle.wat_text.proofs.Simple.{unhinted_does}
use Rattle.wat_text.proofs.reader.Reader.token_step.Goals as goal

pub word_step-requires : goal.word_step-requires
word_step-requires c = c.requires ∙ ap (λ t. Some (bare_token t)) c.in-Word.is

pub open_step-requires : goal.open_step-requires
open_step-requires c = c.requires ∙ ap (λ t. Some (bare_token t)) c.in-Open.is

pub close_step-requires : goal.close_step-requires
close_step-requires c = c.requires ∙ ap (λ t. Some (bare_token t)) c.in-Close.is

pub returns-in-Open : goal.returns-in-Open
returns-in-Open c = unhinted_does (may_hint c.args.purpose) c.args.self.now c.open_step.new.self c.args.body.now c.open_step.new.body token.Open
    (c.requires ∙ ap (λ t. Some (bare_token t)) c.in-Open.is) refl c.open_step.ensures

pub returns-in-Close : goal.returns-in-Close
returns-in-Close c = unhinted_does (may_hint c.args.purpose) c.args.self.now c.close_step.new.self c.args.body.now c.close_step.new.body token.Close
    (c.requires ∙ ap (λ t. Some (bare_token t)) c.in-Close.is) refl c.close_step.ensures
