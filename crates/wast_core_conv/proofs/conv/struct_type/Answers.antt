use Rattle.std.proofs.Common.{◌∙◌, ap, sym}
use Rattle.std.specs.List.{list_all}
use Rattle.wast_tree_nodes.specs.Sites.{in_struct_field}
use Rattle.wast_tree_nodes.specs.Resolved.{is_numbered, are_numbered}
use Rattle.wast_core_conv.proofs.EachPasses.{each_passes}
use Rattle.wast_core_conv.proofs.conv.struct_type.Goals as goal

pub converted-requires : goal.converted-requires
converted-requires c = ap (list_all (λ f. are_numbered (in_struct_field f))) c.as_slice.ensures
    ∙ (sym (each_passes is_numbered in_struct_field c.args.ty.now.fields) ∙ c.requires)
