use Rattle.std.proofs.Common.{◌≡◌, ◌∙◌, ap, sym, true, ◌+◌, drop}
use Rattle.std.specs.Prelude.{◌&&◌}
use Rattle.wat_tokens.specs.Scans.{is_first}
use Rattle.wat_tokens.proofs.Ascii.{begins}
use Rattle.wat_tokens.proofs.scans.Source.begins_line_comment.Goals as goal

pub returns-then-is_at-clause-test : goal.returns-then-is_at-clause-test
returns-then-is_at-clause-test c =
    let T = c.args.self.now.text.now in
    let first : is_first 0x3b (drop c.args.place T) ≡ true = sym c.is_at.ensures ∙ c.if-is_at.true in
    c.is_at-then-is_at.ensures ∙ sym (ap (λ b. b && is_first 0x3b (drop (c.args.place + 1) T)) first) ∙ begins T c.args.place
