use Rattle.std.proofs.Common.{IsTrue, ap, sym, ◌∙◌, subst}
use Rattle.wast_expand_types.specs.Tree.field
use Rattle.wast_expand_keys.specs.Expanders.{found_in}
use Rattle.wast_tree_nodes.specs.Sites.{in_type, in_rec, in_field}
use Rattle.wast_expand_keys.specs.NeedingUses.{needed_in}
use Rattle.wast_expand_keys.specs.Expanded.{bound_field}
use Rattle.wast_expand_types.proofs.Adding.{adds_nothing}
use Rattle.wast_expand_types.proofs.Needing.{ty_none, rec_none, custom_none}
use Rattle.wast_expand_types.proofs.Staying.{stays_as, asking_says}
use Rattle.wast_expand_types.specs.Binding.{IsPassedField}
use Rattle.wast_expand_types.proofs.binding.bind_field.Goals as goal

pub bind_func-requires : goal.bind_func-requires
bind_func-requires c = subst (λ x. IsTrue c.args.skips_bodies → IsPassedField x) c.in-Func.is c.requires

pub returns-in_ok-bind_func-in-Func-clause-bound : goal.returns-in_ok-bind_func-in-Func-clause-bound
returns-in_ok-bind_func-in-Func-clause-bound c = λ more. ap field.Func (c.in_ok-bind_func-in-Func.ensures.bound more)
    ∙ sym (ap (bound_field (found_in c.bind_func.new.binder.cx more)) c.in-Func.is)

pub returns-in_ok-bind-in-Import-clause-bound : goal.returns-in_ok-bind-in-Import-clause-bound
returns-in_ok-bind-in-Import-clause-bound c = λ more. ap field.Import (c.in_ok-bind-in-Import.ensures.bound more)
    ∙ sym (ap (bound_field (found_in c.bind.new.binder.cx more)) c.in-Import.is)

pub returns-in_ok-bind-in-Tag-clause-bound : goal.returns-in_ok-bind-in-Tag-clause-bound
returns-in_ok-bind-in-Tag-clause-bound c = λ more. ap field.Tag (c.in_ok-bind-in-Tag.ensures.bound more)
    ∙ sym (ap (bound_field (found_in c.bind-in-Tag.new.binder.cx more)) c.in-Tag.is)

pub returns-in-Ty-clause-bound : goal.returns-in-Ty-clause-bound
returns-in-Ty-clause-bound c = λ more. stays_as (found_in c.args.binder.now.cx more) c.in-Ty.is (ty_none c.in-Ty.field-0)
    (asking_says (in_type c.in-Ty.field-0))

pub returns-in-Ty-clause-adds : goal.returns-in-Ty-clause-adds
returns-in-Ty-clause-adds c = adds_nothing c.args.binder.now (ap (λ x. needed_in (in_field x)) c.in-Ty.is ∙ ty_none c.in-Ty.field-0)

pub returns-in-Rec-clause-bound : goal.returns-in-Rec-clause-bound
returns-in-Rec-clause-bound c = λ more. stays_as (found_in c.args.binder.now.cx more) c.in-Rec.is (rec_none c.in-Rec.field-0)
    (asking_says (in_rec c.in-Rec.field-0))

pub returns-in-Rec-clause-adds : goal.returns-in-Rec-clause-adds
returns-in-Rec-clause-adds c = adds_nothing c.args.binder.now (ap (λ x. needed_in (in_field x)) c.in-Rec.is ∙ rec_none c.in-Rec.field-0)

pub returns-in_ok-bind-in-Table-clause-bound : goal.returns-in_ok-bind-in-Table-clause-bound
returns-in_ok-bind-in-Table-clause-bound c = λ more. ap field.Table (c.in_ok-bind-in-Table.ensures.bound more)
    ∙ sym (ap (bound_field (found_in c.bind-in-Table.new.binder.cx more)) c.in-Table.is)

pub returns-in_ok-bind-in-Global-clause-bound : goal.returns-in_ok-bind-in-Global-clause-bound
returns-in_ok-bind-in-Global-clause-bound c = λ more. ap field.Global (c.in_ok-bind-in-Global.ensures.bound more)
    ∙ sym (ap (bound_field (found_in c.bind-in-Global.new.binder.cx more)) c.in-Global.is)

pub returns-in_ok-bind-in-Elem-clause-bound : goal.returns-in_ok-bind-in-Elem-clause-bound
returns-in_ok-bind-in-Elem-clause-bound c = λ more. ap field.Elem (c.in_ok-bind-in-Elem.ensures.bound more)
    ∙ sym (ap (bound_field (found_in c.bind-in-Elem.new.binder.cx more)) c.in-Elem.is)

pub returns-in_ok-bind-in-Data-clause-bound : goal.returns-in_ok-bind-in-Data-clause-bound
returns-in_ok-bind-in-Data-clause-bound c = λ more. ap field.Data (c.in_ok-bind-in-Data.ensures.bound more)
    ∙ sym (ap (bound_field (found_in c.bind-in-Data.new.binder.cx more)) c.in-Data.is)

pub returns-in-Custom-clause-adds : goal.returns-in-Custom-clause-adds
returns-in-Custom-clause-adds c = adds_nothing c.args.binder.now (ap (λ x. needed_in (in_field x)) c.in-Custom.is ∙ custom_none c.in-Custom.field-0)
