use Rattle.std.proofs.Common.{refl, ap, sym, ◌∙◌, ◌++◌, subst}
use Rattle.std.proofs.lemmas.Result.{err_from_is_err_and}
use Rattle.wast_base.specs.Filling.{RunsOut}
use Rattle.wast_expand_types.specs.Tree.form
use Rattle.wast_expand_types.specs.Tree.import_items
use Rattle.wast_expand_types.specs.Tree.{ItemSig}
use Rattle.wast_tree_nodes.specs.Sites.{in_sig, in_shared_id, in_import, uncovered_check}
use Rattle.wast_tree_map.specs.Mapped.{mapped_item_kind, mapped_import_items}
use Rattle.wast_tree_map.proofs.Alone.{shared_id_stays}
use Rattle.wast_expand_types.specs.Binding.{next_after}
use Rattle.wast_expand_keys.specs.Expanders.{found_in}
use Rattle.wast_expand_keys.specs.Expanded.{binding_change}
use Rattle.wast_expand_keys.specs.NeedingUses.{needed_in}
use Rattle.wast_expand_types.proofs.Adding.{adds_as}
use Rattle.wast_expand_types.proofs.Needing.{needed_besides, needed_group}
use Rattle.wast_expand_types.proofs.binding.ImportItemsBind.bind.Goals as goal

pub returns-in_ok-bind-in-Single-clause-bound : goal.returns-in_ok-bind-in-Single-clause-bound
returns-in_ok-bind-in-Single-clause-bound c = λ more.
    ap (λ (s : ItemSig). import_items.Single c.in-Single.«module» c.in-Single.name s) (c.in_ok-bind-in-Single.ensures.bound more)
    ∙ sym (ap (mapped_import_items (binding_change (found_in c.bind.new.binder.cx more))) c.in-Single.is)

pub returns-in_ok-bind_each-in-Group1-clause-bound : goal.returns-in_ok-bind_each-in-Group1-clause-bound
returns-in_ok-bind_each-in-Group1-clause-bound c = λ more.
    ap (λ items. import_items.Group1 c.in-Group1.«module» items) (c.in_ok-bind_each-in-Group1.ensures.bound more)
    ∙ sym (ap (mapped_import_items (binding_change (found_in c.bind_each.new.binder.cx more))) c.in-Group1.is)

pub returns-in_ok-bind_each-in-Group1-clause-adds : goal.returns-in_ok-bind_each-in-Group1-clause-adds
returns-in_ok-bind_each-in-Group1-clause-adds c =
    adds_as (sym (ap (λ i. needed_in (in_import i)) c.in-Group1.is ∙ needed_group c.in-Group1.items)) c.in_ok-bind_each-in-Group1.ensures.adds

pub returns-in_err-bind_each-in-Group1-clause-refusal : goal.returns-in_err-bind_each-in-Group1-clause-refusal
returns-in_err-bind_each-in-Group1-clause-refusal c =
    let p = err_from_is_err_and c.from_residual-in_err-bind_each-in-Group1.result c.from_residual-in_err-bind_each-in-Group1.ensures.1 in
    rw (p.1, p.2) (subst (λ ss. RunsOut (next_after c.args.binder.now ss) c.in_err-bind_each-in-Group1.field-0.0)
    (sym (ap (λ i. needed_in (in_import i)) c.in-Group1.is ∙ needed_group c.in-Group1.items)) c.in_err-bind_each-in-Group1.ensures.refusal)

pub returns-in_ok-bind-in-Group2-clause-bound : goal.returns-in_ok-bind-in-Group2-clause-bound
returns-in_ok-bind-in-Group2-clause-bound c = λ more.
    let f = binding_change (found_in c.bind-in-Group2.new.binder.cx more) in
    let sig = c.in-Group2.sig in
    let of_sig = λ (s : ItemSig). import_items.Group2 c.in-Group2.«module» s c.in-Group2.items in
    ap of_sig (c.in_ok-bind-in-Group2.ensures.bound more)
    ∙ (ap (λ id. of_sig (record sig { id = id; kind = mapped_item_kind f sig.kind }))
    (sym (shared_id_stays f (λ o. refl) (λ o. refl) c.in-Group2.items sig.id)) ∙ sym (ap (mapped_import_items f) c.in-Group2.is))

pub returns-in_ok-bind-in-Group2-clause-adds : goal.returns-in_ok-bind-in-Group2-clause-adds
returns-in_ok-bind-in-Group2-clause-adds c =
    adds_as (sym (ap (λ i. needed_in (in_import i)) c.in-Group2.is
    ∙ needed_besides (in_sig c.in-Group2.sig) (in_shared_id c.in-Group2.items c.in-Group2.sig.id ++ uncovered_check form.CompactImports)))
    c.in_ok-bind-in-Group2.ensures.adds

pub returns-in_err-bind-in-Group2-clause-refusal : goal.returns-in_err-bind-in-Group2-clause-refusal
returns-in_err-bind-in-Group2-clause-refusal c =
    let p = err_from_is_err_and c.from_residual-in_err-bind-in-Group2.result c.from_residual-in_err-bind-in-Group2.ensures.1 in
    rw (p.1, p.2) (subst (λ ss. RunsOut (next_after c.args.binder.now ss) c.in_err-bind-in-Group2.field-0.0)
    (sym (ap (λ i. needed_in (in_import i)) c.in-Group2.is
    ∙ needed_besides (in_sig c.in-Group2.sig) (in_shared_id c.in-Group2.items c.in-Group2.sig.id ++ uncovered_check form.CompactImports)))
    c.in_err-bind-in-Group2.ensures.refusal)
