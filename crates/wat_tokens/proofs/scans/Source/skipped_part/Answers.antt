use Rattle.std.proofs.Common.{◌∙◌, ap, sym, subst, ◌+◌, drop, length, Some}
use Rattle.wat_grammar.specs.Parts.{◌>>=◌, front}
use Rattle.wat_grammar.specs.Tokens.{a_string, skipped_open, is_idchar}
use Rattle.wat_tokens.specs.Scans.{contents_of, Skips}
use Rattle.wat_tokens.proofs.Steps.{sp_open, sp_string, sp_comment, sp_blank, sp_word, sp_none, after_string, drop_one, skipped_is, line_is, past}
use Rattle.wat_tokens.proofs.scans.Source.skipped_part.Goals as goal

pub returns-then-is_at-clause-read : goal.returns-then-is_at-clause-read
returns-then-is_at-clause-read c =
    let T = c.args.self.now.text.now in
    let X = contents_of c.args.self.now.strings in
    let t = drop c.args.place T in
    subst (λ o. Skips o T c.skipped_open.result) (sym (sp_open X t (sym c.is_at.ensures ∙ c.if-is_at.true)
    ∙ ap (skipped_open X) (drop_one T c.args.place))) c.skipped_open.ensures.read

pub returns-in-Ok-clause-read : goal.returns-in-Ok-clause-read
returns-in-Ok-clause-read c =
    let T = c.args.self.now.text.now in
    let X = contents_of c.args.self.now.strings in
    let t = drop c.args.place T in
    sp_string X t (sym c.is_at.ensures ∙ c.if-is_at.false) (sym c.is_at-2.ensures ∙ c.if-is_at-2.true)
    ∙ ap (λ o. o >>= after_string) (ap (a_string X) (drop_one T c.args.place) ∙ c.in-Ok.ensures.gives)
    ∙ skipped_is T c.skipped_to.result.opens c.skipped_to.result.end c.in-Ok.string.end c.skipped_to.ensures.opens c.skipped_to.ensures.end

pub returns-in-Err-clause-read : goal.returns-in-Err-clause-read
returns-in-Err-clause-read c = λ known.
    let T = c.args.self.now.text.now in
    let X = contents_of c.args.self.now.strings in
    let t = drop c.args.place T in
    sp_string X t (sym c.is_at.ensures ∙ c.if-is_at.false) (sym c.is_at-2.ensures ∙ c.if-is_at-2.true)
    ∙ ap (λ o. o >>= after_string) (ap (a_string X) (drop_one T c.args.place) ∙ c.in-Err.ensures.refused known)

pub returns-then-begins_line_comment-clause-read : goal.returns-then-begins_line_comment-clause-read
returns-then-begins_line_comment-clause-read c =
    let T = c.args.self.now.text.now in
    let X = contents_of c.args.self.now.strings in
    let t = drop c.args.place T in
    sp_comment X t (sym c.is_at.ensures ∙ c.if-is_at.false) (sym c.is_at-2.ensures ∙ c.if-is_at-2.false) (sym c.begins_line_comment.ensures.test
    ∙ c.if-begins_line_comment.true) ∙ ap (λ r. Some (0, r)) (line_is T c.args.place ∙ ap (λ k. drop k T) (sym c.line_comment_end.ensures.end))
    ∙ skipped_is T c.skipped_to-then-begins_line_comment.result.opens c.skipped_to-then-begins_line_comment.result.end c.line_comment_end.result
    c.skipped_to-then-begins_line_comment.ensures.opens c.skipped_to-then-begins_line_comment.ensures.end

pub returns-then-is_blank_or_reserved-clause-read : goal.returns-then-is_blank_or_reserved-clause-read
returns-then-is_blank_or_reserved-clause-read c =
    let T = c.args.self.now.text.now in
    let X = contents_of c.args.self.now.strings in
    let t = drop c.args.place T in
    sp_blank X t c.in-Some.first (sym c.is_at.ensures ∙ c.if-is_at.false) (sym c.is_at-2.ensures
    ∙ c.if-is_at-2.false) (sym c.begins_line_comment.ensures.test ∙ c.if-begins_line_comment.false) (sym c.byte.ensures
    ∙ c.in-Some.is) (sym c.is_blank_or_reserved.ensures ∙ c.if-is_blank_or_reserved.true) ∙ ap (λ r. Some (0, r)) (drop_one T c.args.place)
    ∙ skipped_is T c.skipped_to-then-is_blank_or_reserved.result.opens c.skipped_to-then-is_blank_or_reserved.result.end
    (c.args.place + 1) c.skipped_to-then-is_blank_or_reserved.ensures.opens c.skipped_to-then-is_blank_or_reserved.ensures.end

pub returns-then-is_word_byte-clause-read : goal.returns-then-is_word_byte-clause-read
returns-then-is_word_byte-clause-read c =
    let T = c.args.self.now.text.now in
    let X = contents_of c.args.self.now.strings in
    let t = drop c.args.place T in
    let is = sym c.is_word_byte.ensures ∙ c.if-is_word_byte.true in
    sp_word X t c.in-Some.first (sym c.is_at.ensures ∙ c.if-is_at.false) (sym c.is_at-2.ensures
    ∙ c.if-is_at-2.false) (sym c.begins_line_comment.ensures.test ∙ c.if-begins_line_comment.false) (sym c.byte.ensures
    ∙ c.in-Some.is) (sym c.is_blank_or_reserved.ensures ∙ c.if-is_blank_or_reserved.false) is
    ∙ ap (λ r. Some (0, r)) (past is_idchar T c.args.place c.in-Some.first (sym c.byte.ensures ∙ c.in-Some.is) is
    ∙ ap (λ r. drop (c.args.place + 1 + length (front is_idchar r)) T) (sym c.rest.ensures)
    ∙ ap (λ n. drop (c.args.place + 1 + n) T) (sym c.word_length-count.ensures.front))
    ∙ skipped_is T c.skipped_to-then-is_word_byte.result.opens c.skipped_to-then-is_word_byte.result.end
    (c.args.place + 1 + c.word_length-count.result) c.skipped_to-then-is_word_byte.ensures.opens c.skipped_to-then-is_word_byte.ensures.end

pub returns-clause-read : goal.returns-clause-read
returns-clause-read c = λ known.
    let T = c.args.self.now.text.now in
    let X = contents_of c.args.self.now.strings in
    let t = drop c.args.place T in
    sp_none X t c.in-Some.first (sym c.is_at.ensures ∙ c.if-is_at.false) (sym c.is_at-2.ensures
    ∙ c.if-is_at-2.false) (sym c.begins_line_comment.ensures.test ∙ c.if-begins_line_comment.false) (sym c.byte.ensures
    ∙ c.in-Some.is) (sym c.is_blank_or_reserved.ensures ∙ c.if-is_blank_or_reserved.false) (sym c.is_word_byte.ensures ∙ c.if-is_word_byte.false)
