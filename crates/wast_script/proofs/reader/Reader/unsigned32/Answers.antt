-- The goal of `unsigned32` that tactics leave open, closed by lemmas of Numerals and of wat_text.
use Rattle.std.proofs.Common.{◌∙◌, sym}
use Rattle.wat_grammar.specs.Integers.{uN}
use Rattle.wat_text.proofs.Numbers.{unsigned_is, unsigned_not}
use Rattle.wast_script.proofs.Numerals.{number_read}
use Rattle.wast_script.proofs.reader.Reader.unsigned32.Goals as goal

pub returns : goal.returns
returns c =
    let v = c.value.ensures in
    let text = c.number-text.result in
    number_read (uN 32) c.args.self.now c.number-text.new.self c.value.new.self text c.value.result c.number-text.ensures
    v.lists v.tokens v.clean (λ h. unsigned_is 32 text.now c.value.result (sym c.unsigned32.ensures ∙ v.gives h)) v.left v.keeps
    (λ h r. let e = v.refuses h r in unsigned_not 32 text.now e.0 (sym c.unsigned32.ensures ∙ e.1))
