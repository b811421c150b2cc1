use Rattle.std.proofs.Common.{map, ap, ◌∙◌, sym}
use Rattle.std.specs.Prelude.{cond}
use mathlib.Core.Path.{fun_ext}
use Rattle.wast_base.specs.Spaces.{name_if, position_of}
use Rattle.wast_tree_nodes.specs.Items.{field_ids}
use Rattle.wast_resolve_rules.specs.Scopes.{Struct, Other}
use Rattle.wast_resolve_spaces.proofs.NoNames.{some_ids}
use Rattle.wast_resolve_spaces.proofs.shapes.struct_shape.Goals as goal

pub returns-then-not-have_ids-clause-shape : goal.returns-then-not-have_ids-clause-shape
returns-then-not-have_ids-clause-shape c =
    c.other.ensures ∙ ap (λ b. cond b (Struct (λ name. position_of name (map name_if (field_ids c.args.fields.now)))) Other)
    (sym (some_ids c.args.fields.now ∙ sym c.have_ids.ensures ∙ c.if-not-have_ids.true))

pub returns-clause-shape : goal.returns-clause-shape
returns-clause-shape c =
    c.of_struct.ensures
    ∙ (ap Struct (fun_ext c.in_ok-names.ensures.names)
    ∙ ap (λ b. cond b (Struct (λ name. position_of name (map name_if (field_ids c.args.fields.now)))) Other) (sym (some_ids c.args.fields.now
    ∙ sym c.have_ids.ensures ∙ c.if-not-have_ids.false)))
