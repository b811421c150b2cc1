use Rattle.std.proofs.Common.{◌∙◌, ap, sym, ◌+◌, drop}
use Rattle.wat_grammar.specs.Parts.{◌>>=◌}
use Rattle.wat_grammar.specs.Space.{blockcomment}
use Rattle.wat_grammar.specs.Tokens.{an_id}
use Rattle.wat_tokens.specs.Scans.{contents_of}
use Rattle.wat_tokens.proofs.Steps.{so_comment, so_annotation, none_opened, one_opened, drop_two}
use Rattle.wat_tokens.proofs.scans.Source.skipped_open.Goals as goal

pub returns-in-Ok-clause-read : goal.returns-in-Ok-clause-read
returns-in-Ok-clause-read c =
    let T = c.args.self.now.text.now in
    let X = contents_of c.args.self.now.strings in
    so_comment X (drop (c.args.place + 1) T) (sym c.is_at.ensures ∙ c.if-is_at.true)
    ∙ ap (λ o. o >>= none_opened) (ap (blockcomment 0) (drop_two T c.args.place) ∙ c.in-Ok.ensures.0)

pub returns-in-Err-clause-read : goal.returns-in-Err-clause-read
returns-in-Err-clause-read c = λ known.
    let T = c.args.self.now.text.now in
    let X = contents_of c.args.self.now.strings in
    so_comment X (drop (c.args.place + 1) T) (sym c.is_at.ensures ∙ c.if-is_at.true)
    ∙ ap (λ o. o >>= none_opened) (ap (blockcomment 0) (drop_two T c.args.place) ∙ c.in-Err.ensures.refused known)

pub returns-in-Ok-annotation_id_at-clause-read : goal.returns-in-Ok-annotation_id_at-clause-read
returns-in-Ok-annotation_id_at-clause-read c =
    let T = c.args.self.now.text.now in
    let X = contents_of c.args.self.now.strings in
    so_annotation X (drop (c.args.place + 1) T) (sym c.is_at.ensures ∙ c.if-is_at.false) (sym c.is_at-2.ensures ∙ c.if-is_at-2.true)
    ∙ ap (λ o. o >>= one_opened) (ap (an_id X) (drop_two T c.args.place) ∙ c.in-Ok-annotation_id_at.ensures.gives)

pub returns-in-Err-annotation_id_at-clause-read : goal.returns-in-Err-annotation_id_at-clause-read
returns-in-Err-annotation_id_at-clause-read c = λ known.
    let T = c.args.self.now.text.now in
    let X = contents_of c.args.self.now.strings in
    so_annotation X (drop (c.args.place + 1) T) (sym c.is_at.ensures ∙ c.if-is_at.false) (sym c.is_at-2.ensures ∙ c.if-is_at-2.true)
    ∙ ap (λ o. o >>= one_opened) (ap (an_id X) (drop_two T c.args.place) ∙ c.in-Err-annotation_id_at.ensures.refused known)
