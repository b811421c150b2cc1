use Rattle.std.proofs.Common.{◌∙◌, ap}
use Rattle.wasm_ops.specs.Memargs.{is_covered_ordering}
use Rattle.wast_core_conv.proofs.TypesReady.{sequential_covered}
use Rattle.wast_core_conv.proofs.instr_values.put_fence.Goals as goal

pub encode-requires : goal.encode-requires
encode-requires g c = ap is_covered_ordering c.fence_ordering.ensures ∙ sequential_covered c.args.ordering c.requires
