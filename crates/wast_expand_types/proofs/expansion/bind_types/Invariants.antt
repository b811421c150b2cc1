use Rattle.std.proofs.Common.{◌≡◌, take}
use Rattle.wast_expand_keys.specs.Expanders.{numbers_in, Extends}
use Rattle.wast_expand_keys.specs.Expanded.{bindings}
use Rattle.wast_expand_types.proofs.expansion.bind_types.Given as goal

abbrev pub invariant-loop-field : goal.invariant-loop-field
invariant-loop-field l = record {
  names : l.cx.names ≡ l.fn.cx.names;
  bound : Extends l.fn.cx.bound l.cx.bound (bindings (numbers_in l.fn.cx) (take l.field-index l.fields));
}
