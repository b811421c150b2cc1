use Rattle.wast_tree_nodes.specs.Kinds.{is_of}
use Rattle.wast_tree_nodes.specs.declared.kinds.FieldKind.TheVariants as kind
use Rattle.wast_core_ranges.proofs.Reaching.{is_inside_of}
use Rattle.wast_core_sections.proofs.Counting.{functions_need}
use Rattle.wast_core_sections.proofs.counts.functions.Goals as goal

pub of-requires : goal.of-requires
of-requires c = is_inside_of (is_of kind.Func) c.args.fields.now c.of_kind.result (c.of_kind.ensures c.args.fields.now c.requires)

pub returns : goal.returns
returns c =
    let fields = c.args.fields.now in
    rw c.of.ensures (functions_need fields c.of_kind.result (c.of_kind.ensures fields c.requires))
