-- The goal of `float64` that tactics leave open, closed by lemmas of Numerals.
use Rattle.std.specs.Float.{binary64}
use Rattle.wast_script.specs.Constants.{float_of}
use Rattle.wast_script.proofs.Numerals.{number_read, ok_of, err_of}
use Rattle.wast_script.proofs.reader.Reader.float64.Goals as goal

pub returns : goal.returns
returns c =
    let v = c.value.ensures in
    let text = c.number-text.result in
    number_read (float_of binary64 c.args.usage) c.args.self.now c.number-text.new.self c.value.new.self text c.value.result c.number-text.ensures
    v.lists v.tokens v.clean (λ h. ok_of (float_of binary64 c.args.usage) text.now c.float_of64-found.result
    c.value.result c.float_of64-found.ensures.gives (v.gives h)) v.left v.keeps
    (λ h r. let e = v.refuses h r in err_of (float_of binary64 c.args.usage) text.now c.float_of64-found.result e.0 c.float_of64-found.ensures.refuses e.1 e.2)
