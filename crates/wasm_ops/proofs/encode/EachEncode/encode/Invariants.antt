use Rattle.std.proofs.Common.{◌≡◌, take}
use Rattle.std.specs.List.{All, flat_map}
use Rattle.wasm_ops.proofs.encode.EachEncode.encode.Given as goal

abbrev pub invariant-loop-item : goal.invariant-loop-item
invariant-loop-item g l = record {
  told : g.S.Sink.rules.appended l.fn.out l.out (flat_map (g.W.EncodeWith.spelling l.self.1) (take l.item-index l.item-items));
  fitting : All (g.W.EncodeWith.in_range l.self.1) (take l.item-index l.item-items);
  at : l.start ≡ g.S.Sink.rules.size_of l.fn.out;
}
