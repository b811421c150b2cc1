use Rattle.std.proofs.Common.{ap, sym, ◌∙◌}
use Rattle.wast_tree_nodes.specs.Sites.{constant_context}
use Rattle.wast_tree_map.specs.Mapped.{mapped_block, mapped_indirect, mapped_instr}
use Rattle.wast_expand_types.specs.Tree.instr
use Rattle.wast_expand_keys.specs.Expanded.{binding_change}
use Rattle.wast_expand_keys.specs.Expanders.{found_in}
use Rattle.wast_expand_types.proofs.Adding.{adds_nothing}
use Rattle.wast_expand_types.proofs.WithoutTypeUse.{without_type_use}
use Rattle.wast_expand_types.proofs.binding.InstructionBind.bind.Goals as goal

pub returns-in_ok-bind-in-call_indirect-clause-bound : goal.returns-in_ok-bind-in-call_indirect-clause-bound
returns-in_ok-bind-in-call_indirect-clause-bound c = λ more.
    ap instr.call_indirect (c.in_ok-bind-in-call_indirect.ensures.bound more
    ∙ ap (mapped_indirect (binding_change (found_in c.bind-in-call_indirect.new.binder.cx more))) c.get_mut-in-call_indirect.ensures.value)
    ∙ sym (ap (mapped_instr (binding_change (found_in c.bind-in-call_indirect.new.binder.cx more)) constant_context) c.in-call_indirect.is)

pub returns-in_ok-bind-in-return_call_indirect-clause-bound : goal.returns-in_ok-bind-in-return_call_indirect-clause-bound
returns-in_ok-bind-in-return_call_indirect-clause-bound c = λ more.
    ap instr.return_call_indirect (c.in_ok-bind-in-return_call_indirect.ensures.bound more
    ∙ ap (mapped_indirect (binding_change (found_in c.bind-in-return_call_indirect.new.binder.cx more))) c.get_mut-in-return_call_indirect.ensures.value)
    ∙ sym (ap (mapped_instr (binding_change (found_in c.bind-in-return_call_indirect.new.binder.cx more)) constant_context) c.in-return_call_indirect.is)

pub returns-in_ok-bind-in-block-clause-bound : goal.returns-in_ok-bind-in-block-clause-bound
returns-in_ok-bind-in-block-clause-bound c = λ more.
    ap instr.block (c.in_ok-bind-in-block.ensures.bound more ∙ ap (mapped_block (binding_change (found_in c.bind.new.binder.cx more))) c.get_mut.ensures.value)
    ∙ sym (ap (mapped_instr (binding_change (found_in c.bind.new.binder.cx more)) constant_context) c.in-block.is)

pub returns-in_ok-bind-in-loop_-clause-bound : goal.returns-in_ok-bind-in-loop_-clause-bound
returns-in_ok-bind-in-loop_-clause-bound c = λ more.
    ap instr.loop_ (c.in_ok-bind-in-loop_.ensures.bound more
    ∙ ap (mapped_block (binding_change (found_in c.bind-in-loop_.new.binder.cx more))) c.get_mut-in-loop_.ensures.value)
    ∙ sym (ap (mapped_instr (binding_change (found_in c.bind-in-loop_.new.binder.cx more)) constant_context) c.in-loop_.is)

pub returns-in_ok-bind-in-if_-clause-bound : goal.returns-in_ok-bind-in-if_-clause-bound
returns-in_ok-bind-in-if_-clause-bound c = λ more.
    ap instr.if_ (c.in_ok-bind-in-if_.ensures.bound more
    ∙ ap (mapped_block (binding_change (found_in c.bind-in-if_.new.binder.cx more))) c.get_mut-in-if_.ensures.value)
    ∙ sym (ap (mapped_instr (binding_change (found_in c.bind-in-if_.new.binder.cx more)) constant_context) c.in-if_.is)

pub returns-in_ok-bind-in-try_-clause-bound : goal.returns-in_ok-bind-in-try_-clause-bound
returns-in_ok-bind-in-try_-clause-bound c = λ more.
    ap instr.try_ (c.in_ok-bind-in-try_.ensures.bound more
    ∙ ap (mapped_block (binding_change (found_in c.bind-in-try_.new.binder.cx more))) c.get_mut-in-try_.ensures.value)
    ∙ sym (ap (mapped_instr (binding_change (found_in c.bind-in-try_.new.binder.cx more)) constant_context) c.in-try_.is)

pub returns-in_ok-bind-in-try_table-clause-bound : goal.returns-in_ok-bind-in-try_table-clause-bound
returns-in_ok-bind-in-try_table-clause-bound c = λ more.
    ap instr.try_table (c.in_ok-bind-in-try_table.ensures.bound more)
    ∙ sym (ap (mapped_instr (binding_change (found_in c.bind-in-try_table.new.binder.cx more)) constant_context) c.in-try_table.is)

pub returns-in_default-clause-bound : goal.returns-in_default-clause-bound
returns-in_default-clause-bound c = λ more.
    let other = c.in_default in
    sym ((without_type_use c.args.self.now other.not-block other.not-loop_ other.not-if_ other.not-try_ other.not-try_table other.not-call_indirect
    other.not-return_call_indirect).stays (found_in c.args.binder.now.cx more))

pub returns-in_default-clause-adds : goal.returns-in_default-clause-adds
returns-in_default-clause-adds c =
    let other = c.in_default in
    adds_nothing c.args.binder.now (without_type_use c.args.self.now other.not-block other.not-loop_ other.not-if_ other.not-try_ other.not-try_table
    other.not-call_indirect other.not-return_call_indirect).needs
