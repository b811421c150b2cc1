use Rattle.wast_tree_nodes.specs.Kinds.{is_of}
use Rattle.wast_core_name_section.proofs.named_fields.either.Goals as goal

pub returns : goal.returns
returns c fields h =
    c.union.ensures (is_of c.args.one) (is_of c.args.other) fields (c.of_kind.ensures fields h) (c.of_kind-2.ensures fields h)
