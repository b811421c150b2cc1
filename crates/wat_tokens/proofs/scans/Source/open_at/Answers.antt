use Rattle.std.proofs.Common.{◌∙◌, ap, sym, subst, ◌+◌, suc, drop}
use Rattle.wat_grammar.specs.Parts.{◌>>=◌}
use Rattle.wat_grammar.specs.Space.{blockcomment}
use Rattle.wat_grammar.specs.Tokens.{annotation}
use Rattle.wat_tokens.specs.Scans.{contents_of, Reads}
use Rattle.wat_tokens.proofs.Steps.{op_comment, op_annotation, no_tokens, drop_two}
use Rattle.wat_tokens.proofs.scans.Source.open_at.Goals as goal

pub returns-in-Ok-clause-read : goal.returns-in-Ok-clause-read
returns-in-Ok-clause-read c =
    let T = c.args.self.now.text.now in
    op_comment (contents_of c.args.self.now.strings) c.args.place (drop (c.args.place + 1) T) (sym c.is_at.ensures ∙ c.if-is_at.true)
    ∙ ap (λ o. o >>= no_tokens) (ap (blockcomment 0) (drop_two T c.args.place) ∙ c.in-Ok.ensures.0)

pub returns-in-Err-clause-read : goal.returns-in-Err-clause-read
returns-in-Err-clause-read c = λ known.
    let T = c.args.self.now.text.now in
    op_comment (contents_of c.args.self.now.strings) c.args.place (drop (c.args.place + 1) T) (sym c.is_at.ensures ∙ c.if-is_at.true)
    ∙ ap (λ o. o >>= no_tokens) (ap (blockcomment 0) (drop_two T c.args.place) ∙ c.in-Err.ensures.refused known)

pub returns-then-is_at-2-clause-read : goal.returns-then-is_at-2-clause-read
returns-then-is_at-2-clause-read c =
    let T = c.args.self.now.text.now in
    let X = contents_of c.args.self.now.strings in
    subst (λ o. Reads o T c.annotation_at.result)
    (sym (op_annotation X c.args.place (drop (c.args.place + 1) T) (sym c.is_at.ensures ∙ c.if-is_at.false) (sym c.is_at-2.ensures
    ∙ c.if-is_at-2.true) ∙ ap (annotation X (suc c.args.place)) (drop_two T c.args.place)))
    c.annotation_at.ensures.read
