-- The goal of `lane` that tactics leave open, closed by lemmas of Numerals.
use Rattle.wast_script.specs.Constants.{lane_of}
use Rattle.wast_script.proofs.Numerals.{number_read, ok_of, err_of}
use Rattle.wast_script.proofs.reader.Reader.lane.Goals as goal

pub returns : goal.returns
returns c =
    let v = c.value.ensures in
    let text = c.number-text.result in
    number_read (lane_of c.args.shape c.args.usage) c.args.self.now c.number-text.new.self c.value.new.self text c.value.result c.number-text.ensures
    v.lists v.tokens v.clean (λ h. ok_of (lane_of c.args.shape c.args.usage) text.now
    c.lane_of-found.result c.value.result c.lane_of-found.ensures.gives (v.gives h)) v.left v.keeps
    (λ h r. let e = v.refuses h r in err_of (lane_of c.args.shape c.args.usage) text.now c.lane_of-found.result e.0 c.lane_of-found.ensures.refuses e.1 e.2)
