use Rattle.std.proofs.Common.{sym, subst, arith, drop}
use Rattle.wat_grammar.specs.Tokens.{a_name}
use Rattle.wat_tokens.specs.Scans.{contents_of, IsRead}
use Rattle.wat_tokens.proofs.Parts.{read_name, no_name}
use Rattle.wat_tokens.proofs.scans.Source.name_at.Goals as goal

pub returns-in-Ok-from_utf8 : goal.returns-in-Ok-from_utf8
returns-in-Ok-from_utf8 c =
    let T = c.args.self.now.text.now in
    let s = contents_of c.args.self.now.strings in
    subst (λ b. IsRead (a_name s (drop c.args.begin T)) T c.args.begin b c.in-Ok.string.end) (sym c.in-Ok-from_utf8.ensures.cases.0)
    (read_name s T c.args.begin c.in-Ok.string.end c.in-Ok.string.bytes.now c.in-Ok-from_utf8.ensures.cases.1 c.in-Ok.ensures)

pub returns-in-Err-from_utf8 : goal.returns-in-Err-from_utf8
returns-in-Err-from_utf8 c = record {
  refused = λ known. no_name (contents_of c.args.self.now.strings) c.args.self.now.text.now c.args.begin c.in-Ok.string.end c.in-Ok.string.bytes.now
      c.in-Err-from_utf8.ensures.cases.0 c.in-Ok.ensures;
  inside = omega (arith, c.fault_at.ensures.place, c.requires.place, c.requires.begin);
}
