use Rattle.std.proofs.Common.{◌≡◌, true, ◌∙◌, ap, length, subst}
use Rattle.std.specs.List.{list_all}
use Rattle.wast_tree_nodes.specs.Clauses.{stand_from}
use Rattle.wast_tree_nodes.specs.Sites.{in_local}
use Rattle.wast_core_conv.specs.Encodable.{are_encodable, is_encodable_instr}
use Rattle.wast_core_conv.specs.Hints.{are_encodable_hints}
use Rattle.wast_core_conv.proofs.Hinting.{hinted_parts}
use Rattle.wast_core_conv.proofs.hint_values.BodyHintsEncode.encode.Goals as goal

pub put_hints-requires-clause-locals : goal.put_hints-requires-clause-locals
put_hints-requires-clause-locals g c =
    ap (list_all (λ l. are_encodable (in_local l))) c.as_slice.ensures
    ∙ (hinted_parts c.in-Inline.locals c.in-Inline.expression (subst (λ k. are_encodable_hints k ≡ true) c.in-Inline.is c.requires)).locals

pub put_hints-requires-clause-instrs : goal.put_hints-requires-clause-instrs
put_hints-requires-clause-instrs g c =
    ap (list_all is_encodable_instr) c.as_slice-in-Inline.ensures
    ∙ (hinted_parts c.in-Inline.locals c.in-Inline.expression (subst (λ k. are_encodable_hints k ≡ true) c.in-Inline.is c.requires)).instrs

pub put_hints-requires-clause-hints : goal.put_hints-requires-clause-hints
put_hints-requires-clause-hints g c =
    (λ i. stand_from (length (c.as_slice-in-Inline.ensures i)) 0 (c.as_slice-in-Inline-2.ensures i))
    ∙ (hinted_parts c.in-Inline.locals c.in-Inline.expression (subst (λ k. are_encodable_hints k ≡ true) c.in-Inline.is c.requires)).hints

pub returns : goal.returns
returns g c = rw c.in-Inline.is (rw (c.as_slice.ensures, c.as_slice-in-Inline.ensures, c.as_slice-in-Inline-2.ensures) at c.put_hints.ensures)
