use Rattle.wast_tree_nodes.specs.Kinds.{is_of}
use Rattle.wast_tree_nodes.specs.declared.kinds.FieldKind.TheVariants as kind
use Rattle.wast_core_sections.proofs.entries.reach_of.Goals as goal

pub returns-in-Types : goal.returns-in-Types
returns-in-Types c = rw c.in-Types.is (λ fields h. c.union.ensures (is_of kind.Ty) (is_of kind.Rec) fields (c.of_kind.ensures fields h)
    (c.of_kind-groups.ensures fields h))
