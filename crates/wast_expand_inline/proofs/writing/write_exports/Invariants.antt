use Rattle.std.proofs.Common.{◌≡◌, ◌++◌, take, map}
use Rattle.wast_expand_inline.specs.WriteOut.{export_of}
use Rattle.wast_expand_inline.proofs.writing.write_exports.Given as goal

abbrev pub invariant-loop-name : goal.invariant-loop-name
invariant-loop-name l = l.out ≡ l.fn.out ++ map (export_of l.span l.kind l.item) (take l.name-index l.exports.names)
