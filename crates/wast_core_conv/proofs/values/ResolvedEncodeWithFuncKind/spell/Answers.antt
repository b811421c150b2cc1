use Rattle.std.proofs.Common.{◌≡◌, true, ◌∙◌, ap, subst}
use Rattle.std.specs.List.{list_all}
use Rattle.wast_tree_nodes.specs.Sites.{in_local}
use Rattle.wast_core_conv.specs.Encodable.{are_encodable, is_encodable_instr, is_encodable_kind}
use Rattle.wast_core_conv.proofs.Standing.{body_parts}
use Rattle.wast_core_conv.proofs.values.ResolvedEncodeWithFuncKind.spell.Goals as goal

pub put_content-requires-clause-locals : goal.put_content-requires-clause-locals
put_content-requires-clause-locals g c =
    ap (list_all (λ l. are_encodable (in_local l))) c.as_slice.ensures
    ∙ (body_parts c.in-Inline.locals c.in-Inline.expression (subst (λ k. is_encodable_kind k ≡ true) c.in-Inline.is c.requires)).0

pub put_content-requires-clause-instrs : goal.put_content-requires-clause-instrs
put_content-requires-clause-instrs g c =
    ap (list_all is_encodable_instr) c.as_slice-in-Inline.ensures
    ∙ (body_parts c.in-Inline.locals c.in-Inline.expression (subst (λ k. is_encodable_kind k ≡ true) c.in-Inline.is c.requires)).1
