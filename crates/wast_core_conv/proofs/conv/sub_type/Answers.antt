use Rattle.std.proofs.Common.{◌∙◌, ap, sym}
use Rattle.std.specs.List.{list_all}
use Rattle.wast_base.specs.Ids.{is_number}
use Rattle.wast_tree_nodes.specs.Resolved.{is_numbered}
use Rattle.wast_core_conv.specs.Tree.space
use Rattle.wast_core_conv.proofs.Standing.{numbers_in}
use Rattle.wast_core_conv.proofs.TypesReady.{def_parts, number_of}
use Rattle.wast_core_conv.proofs.conv.sub_type.Goals as goal

pub inner_type-requires : goal.inner_type-requires
inner_type-requires c = (def_parts is_numbered c.args.ty.now c.requires).kind

pub converted-requires : goal.converted-requires
converted-requires c = ap (list_all is_number) c.as_slice.ensures
    ∙ (sym (numbers_in space.Ty c.args.ty.now.parents) ∙ (def_parts is_numbered c.args.ty.now c.requires).parents)

pub optional_index-requires : goal.optional_index-requires
optional_index-requires c = number_of c.args.ty.now.descriptor (def_parts is_numbered c.args.ty.now c.requires).descriptor

pub optional_index-requires-2 : goal.optional_index-requires-2
optional_index-requires-2 c = number_of c.args.ty.now.describes (def_parts is_numbered c.args.ty.now c.requires).describes
