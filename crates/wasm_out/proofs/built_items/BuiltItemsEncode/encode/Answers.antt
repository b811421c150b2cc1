use Rattle.std.proofs.Common.{◌≡◌, ◌++◌, ap, ◌∙◌, subst}
use Rattle.wasm_ops.specs.Leb128.{unsigned}
use Rattle.wasm_ops.specs.Sinks.{Writes}
use Rattle.wasm_ops.specs.Spelling.{InRangeU32}
use Rattle.wasm_ops.proofs.Sinking.{puts_as}
use Rattle.wasm_out.specs.Built.{behind_count}
use Rattle.wasm_out.proofs.built_items.BuiltItemsEncode.encode.Goals as goal

pub returns : goal.returns
returns g c =
    let rules = g.S.Sink.rules in
    let count = c.self.inside.count in
    let bytes = unsigned count ++ c.deref.result.now in
    let is_counted : bytes ≡ behind_count c.args.self.now = ap (λ l. unsigned count ++ l) c.deref.ensures.value ∙ ap behind_count c.self.view_is in
    let put = puts_as rules (InRangeU32 count × Unit {0}) (Unit {0}) c.args.out.now c.encode.new.out bytes c.encode.result (λ r. tt)
    (λ r. (c.self.invariant, tt)) c.encode.ensures in
    subst (λ l. Writes rules (Unit {0}) c.args.out.now c.encode.new.out l c.encode.result) is_counted put
