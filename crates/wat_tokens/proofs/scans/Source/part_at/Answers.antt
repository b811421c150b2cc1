-- Closes each arm by the lemma on what its first byte begins.
use Rattle.std.proofs.Common.{◌∙◌, ap, sym, subst, ◌+◌, drop, length}
use Rattle.wat_grammar.specs.Parts.{front}
use Rattle.wat_grammar.specs.Space.{is_blank}
use Rattle.wat_grammar.specs.Tokens.{opened, string_token, id_token}
use Rattle.wat_grammar.specs.Tokens as grammar
use Rattle.wat_tokens.specs.Scans.{contents_of, Reads}
use Rattle.wat_tokens.proofs.FirstBytes.{blank_is}
use Rattle.wat_tokens.proofs.Steps.{pt_blank, pt_open, pt_close, pt_quote, pt_dollar, pt_comment, pt_word, pt_other, drop_one, past}
use Rattle.wat_tokens.proofs.Steps.{line_is, no_tokens, token_and, closed}
use Rattle.wat_tokens.proofs.scans.Source.part_at.Goals as goal

pub returns-in-Word-clause-read : goal.returns-in-Word-clause-read
returns-in-Word-clause-read c =
    let T = c.args.self.now.text.now in
    let X = contents_of c.args.self.now.strings in
    let t = drop c.args.place T in
    let f = sym c.byte.ensures ∙ c.in-Some.is in
    subst (λ o. Reads o T c.word_token_at.result)
    (sym (pt_word X c.args.place c.in-Some.first t f (sym c.byte_kind.ensures ∙ c.in-Word.is))) c.word_token_at.ensures.read

pub returns-in-Blank-clause-read : goal.returns-in-Blank-clause-read
returns-in-Blank-clause-read c =
    let T = c.args.self.now.text.now in
    let X = contents_of c.args.self.now.strings in
    let t = drop c.args.place T in
    let f = sym c.byte.ensures ∙ c.in-Some.is in
    pt_blank X c.args.place c.in-Some.first t f (sym c.byte_kind.ensures ∙ c.in-Blank.is)
    ∙ ap no_tokens (past is_blank T c.args.place c.in-Some.first f (blank_is c.in-Some.first (sym c.byte_kind.ensures ∙ c.in-Blank.is))
    ∙ ap (λ r. drop (c.args.place + 1 + length (front is_blank r)) T) (sym c.rest.ensures)
    ∙ ap (λ n. drop (c.args.place + 1 + n) T) (sym c.blank_length.ensures.front))

pub returns-in-Open-clause-read : goal.returns-in-Open-clause-read
returns-in-Open-clause-read c =
    let T = c.args.self.now.text.now in
    let X = contents_of c.args.self.now.strings in
    let t = drop c.args.place T in
    let f = sym c.byte.ensures ∙ c.in-Some.is in
    subst (λ o. Reads o T c.open_at.result) (sym (pt_open X c.args.place c.in-Some.first t f (sym c.byte_kind.ensures ∙ c.in-Open.is)
    ∙ ap (opened X c.args.place) (drop_one T c.args.place))) c.open_at.ensures.read

pub returns-in-Close-clause-read : goal.returns-in-Close-clause-read
returns-in-Close-clause-read c =
    let T = c.args.self.now.text.now in
    let X = contents_of c.args.self.now.strings in
    let t = drop c.args.place T in
    let f = sym c.byte.ensures ∙ c.in-Some.is in
    pt_close X c.args.place c.in-Some.first t f (sym c.byte_kind.ensures ∙ c.in-Close.is)
    ∙ ap (token_and (grammar.Close, c.args.place)) (drop_one T c.args.place)
    ∙ closed T c.args.place c.parenthesis.result.end c.parenthesis.result.token c.parenthesis.ensures.token c.parenthesis.ensures.end

pub returns-in-Quote-clause-read : goal.returns-in-Quote-clause-read
returns-in-Quote-clause-read c =
    let T = c.args.self.now.text.now in
    let X = contents_of c.args.self.now.strings in
    let t = drop c.args.place T in
    let f = sym c.byte.ensures ∙ c.in-Some.is in
    subst (λ o. Reads o T c.string_token_at.result) (sym (pt_quote X c.args.place c.in-Some.first t f (sym c.byte_kind.ensures ∙ c.in-Quote.is)
    ∙ ap (string_token X c.args.place) (drop_one T c.args.place))) c.string_token_at.ensures.read

pub returns-in-Dollar-clause-read : goal.returns-in-Dollar-clause-read
returns-in-Dollar-clause-read c =
    let T = c.args.self.now.text.now in
    let X = contents_of c.args.self.now.strings in
    let t = drop c.args.place T in
    let f = sym c.byte.ensures ∙ c.in-Some.is in
    subst (λ o. Reads o T c.id_token_at.result) (sym (pt_dollar X c.args.place c.in-Some.first t f (sym c.byte_kind.ensures ∙ c.in-Dollar.is)
    ∙ ap (id_token X c.args.place) (drop_one T c.args.place))) c.id_token_at.ensures.read

pub returns-in-true-clause-read : goal.returns-in-true-clause-read
returns-in-true-clause-read c =
    let T = c.args.self.now.text.now in
    let X = contents_of c.args.self.now.strings in
    let t = drop c.args.place T in
    let f = sym c.byte.ensures ∙ c.in-Some.is in
    pt_comment X c.args.place c.in-Some.first t f (sym c.byte_kind.ensures ∙ c.in-Semicolon.is) (sym c.begins_line_comment.ensures.test
    ∙ c.in-true.is) ∙ ap no_tokens (line_is T c.args.place ∙ ap (λ e. drop e T) (sym c.line_comment_end.ensures.end))

pub returns-in-Other-clause-read : goal.returns-in-Other-clause-read
returns-in-Other-clause-read c = λ known.
    let T = c.args.self.now.text.now in
    let X = contents_of c.args.self.now.strings in
    let t = drop c.args.place T in
    let f = sym c.byte.ensures ∙ c.in-Some.is in
    pt_other X c.args.place c.in-Some.first t f (sym c.byte_kind.ensures ∙ c.in-Other.is)
