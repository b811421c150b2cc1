use Rattle.wast_core_conv.specs.Encodable.{is_encodable_field}
use Rattle.wast_core_sections.specs.Hints.{functions_in}
use Rattle.wast_core_sections.proofs.Hinting.{is_function_or_import, no_function_elsewhere}
use Rattle.wast_tree_nodes.specs.Kinds.{is_of}
use Rattle.wast_tree_nodes.specs.declared.kinds.FieldKind.TheVariants as kind
use Rattle.wast_core_ranges.proofs.Reaching.{all_there, all_pass_there, is_inside_of}
use Rattle.wast_core_sections.proofs.hints.function_fields.Goals as goal

pub of-requires : goal.of-requires
of-requires c =
    let fields = c.args.fields.now in
    is_inside_of is_function_or_import fields c.union.result (c.union.ensures (is_of kind.Func) (is_of kind.Import) fields
    (c.of_kind.ensures fields c.requires) (c.of_kind-imports.ensures fields c.requires))

pub returns-clause-same : goal.returns-clause-same
returns-clause-same c =
    let fields = c.args.fields.now in
    rw c.of.ensures (all_there functions_in is_function_or_import fields c.union.result no_function_elsewhere
    (c.union.ensures (is_of kind.Func) (is_of kind.Import) fields (c.of_kind.ensures fields c.requires) (c.of_kind-imports.ensures fields c.requires)))

pub returns-clause-ready : goal.returns-clause-ready
returns-clause-ready c h =
    let fields = c.args.fields.now in
    rw c.of.ensures (all_pass_there is_encodable_field fields c.union.result
    (is_inside_of is_function_or_import fields c.union.result (c.union.ensures (is_of kind.Func) (is_of kind.Import) fields
    (c.of_kind.ensures fields c.requires) (c.of_kind-imports.ensures fields c.requires))) h)
