use Rattle.std.proofs.Common.{◌∙◌, ap}
use Rattle.std.specs.List.{list_all}
use Rattle.wast_tree_nodes.specs.Sites.{in_param, in_val}
use Rattle.wast_tree_nodes.specs.Resolved.{is_numbered, are_numbered}
use Rattle.wast_core_conv.proofs.TypesReady.{signature_parts}
use Rattle.wast_core_conv.proofs.conv.func_type.Goals as goal

pub converted-requires : goal.converted-requires
converted-requires c = ap (list_all (λ p. are_numbered (in_param p))) c.as_slice.ensures ∙ (signature_parts is_numbered c.args.ty.now c.requires).0

pub converted-requires-2 : goal.converted-requires-2
converted-requires-2 c = ap (list_all (λ t. are_numbered (in_val t))) c.as_slice-2.ensures ∙ (signature_parts is_numbered c.args.ty.now c.requires).1
