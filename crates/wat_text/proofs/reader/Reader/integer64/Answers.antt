-- The goal of `integer64` that tactics leave open, closed by lemmas of Signs.
use Rattle.std.proofs.Common.{rules, ◌∙◌, sym, subst}
use Rattle.std.specs.Prelude.{option_map}
use Rattle.std.specs.Int.{w64}
use Rattle.std.proofs.Math.Facts.{to_z-of_z}
use Rattle.wat_grammar.specs.Integers.{integer, signed_of}
use Rattle.wat_syntax.specs.Instructions.{signed_number}
use Rattle.wat_text.specs.Readers.{Decides}
use Rattle.wat_text.proofs.Signs.{signed_is, signed_not, number_read}
use Rattle.wat_text.proofs.reader.Reader.integer64.Goals as goal

pub returns : goal.returns
returns c =
    let v = c.value.ensures in
    let text = c.number-text.result in
    let read : Decides (signed_number 64) c.args.self.now c.value.new.self c.value.result =
    number_read (λ t. option_map (signed_of 64) (integer 64 t)) c.args.self.now
    c.number-text.new.self c.value.new.self text c.value.result c.number-text.ensures
    v.make v.clean (λ h. signed_is 64 text.now c.value.result (sym c.integer64.ensures ∙ v.gives h)) v.left v.keeps
    (λ h r. let e = v.refuses h (search rules) in signed_not 64 text.now e.0 (sym c.integer64.ensures ∙ e.1)) in
    subst (λ z. Decides (signed_number 64) c.args.self.now c.value.new.self z) (sym (to_z-of_z {w = w64} (search rules))) read
