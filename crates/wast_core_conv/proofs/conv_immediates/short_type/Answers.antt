use Rattle.std.proofs.Common.{◌≡◌, true, ◌∙◌, ap, subst}
use Rattle.std.specs.List.{list_all}
use Rattle.wast_tree_nodes.specs.Sites.{if_there, in_signature, in_val}
use Rattle.wast_tree_nodes.specs.Resolved.{is_numbered, are_numbered}
use Rattle.wast_core_conv.proofs.TypesReady.{signature_parts}
use Rattle.wast_core_conv.proofs.conv_immediates.short_type.Goals as goal

pub given-requires : goal.given-requires
given-requires c =
    ap (list_all (λ t. are_numbered (in_val t))) c.as_slice.ensures
    ∙ (signature_parts is_numbered c.in-Some.ty (subst (λ o. are_numbered (if_there in_signature o) ≡ true) c.in-Some.is c.requires)).1
