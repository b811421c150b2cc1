use Rattle.std.proofs.Common.{◌∙◌, ap}
use Rattle.std.proofs.lemmas.Bool.{lt-ltb}
use Rattle.wasm_ops.specs.Memargs.{memarg}
use Rattle.wast_core_conv.proofs.EachPasses.{both_true}
use Rattle.wast_core_conv.proofs.MemArgs.{mem_arg_parts}
use Rattle.wast_core_conv.proofs.instr_values.put_mem_lane.Goals as goal

pub mem_arg-requires : goal.mem_arg-requires
mem_arg-requires g c = (mem_arg_parts c.args.arg.now.memarg c.requires).numbered

pub encode-requires : goal.encode-requires
encode-requires g c =
    let parts = mem_arg_parts c.args.arg.now.memarg c.requires in
    both_true _ _ (lt-ltb c.mem_arg.result.align 64 (c.mem_arg.ensures.aligned parts.aligned))
    (ap (λ x. (memarg x).is_covered) c.mem_arg.ensures.value ∙ parts.covered)
