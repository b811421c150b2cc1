use Rattle.std.proofs.Common.{map, option_map, refl, sym, ◌∙◌, subst}
use Rattle.std.proofs.Math.ListN.{get_or-map}
use Rattle.wast_base.specs.Ids.{mark_of_option}
use Rattle.wast_base.specs.Faults.{diagnostic_of}
use Rattle.wast_base.specs.Spaces.{name_if}
use Rattle.wast_tree_nodes.specs.Items.{field_ids}
use Rattle.wast_resolve_namespace.specs.Filling.{HasFirstClash}
use Rattle.wast_resolve_spaces.specs.Clashes.{FindsAmong}
use Rattle.wast_resolve_spaces.proofs.FieldClashes.{finds_none, finds_clash}
use Rattle.wast_resolve_spaces.proofs.NoNames.{some_ids, none_clashes}
use Rattle.wast_resolve_spaces.proofs.clashes.clash_among.Goals as goal

pub returns-then-not-have_ids : goal.returns-then-not-have_ids
returns-then-not-have_ids c =
    none_clashes (field_ids c.args.fields.now) (some_ids c.args.fields.now ∙ sym c.have_ids.ensures ∙ c.if-not-have_ids.true)

pub returns-in_err-at-in-Ok : goal.returns-in_err-at-in-Ok
returns-in_err-at-in-Ok c =
    let ids = field_ids c.args.fields.now in
    subst (λ found. FindsAmong ids (option_map diagnostic_of found)) (sym c.from_residual.ensures)
    (finds_none ids refl (subst (HasFirstClash (map name_if ids)) c.in_err-at-in-Ok.was c.in-Ok.ensures.found))

pub returns-in_ok-at-in-Ok : goal.returns-in_ok-at-in-Ok
returns-in_ok-at-in-Ok c =
    let fs = c.args.fields.now in
    let ids = field_ids fs in
    finds_clash ids refl (subst (HasFirstClash (map name_if ids)) c.in_ok-at-in-Ok.was c.in-Ok.ensures.found)
    (sym (get_or-map (λ f. mark_of_option f.id) fs c.in_ok-at-in-Ok.field-0 _)) c.field_clash.ensures
