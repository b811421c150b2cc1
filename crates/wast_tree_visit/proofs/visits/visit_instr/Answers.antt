use Rattle.std.proofs.Common.{sym, ap, ◌∙◌, subst, ◌++◌}
use Rattle.wast_tree_visit.specs.Tree.form
use Rattle.wast_tree_visit.specs.Tree.space
use Rattle.wast_tree_nodes.specs.declared.instrs.Instruction.TheVariants as instr
use Rattle.wast_tree_nodes.specs.Sites.{in_instr, in_cast, in_pair, at_index, check_sites, checks_of, uncovered_check}
use Rattle.wast_tree_visit.specs.Visits.{Visits}
use Rattle.wast_tree_visit.proofs.Visiting.{asked_anywhere_try_table, asked_anywhere_br_table, asked_anywhere_handlers}
use Rattle.wast_tree_visit.proofs.visits.visit_instr.Goals as goal

pub returns-in-try_table : goal.returns-in-try_table
returns-in-try_table g c = λ h.
    subst (λ asks. Visits g.V.Visitor.told c.args.visitor.now asks c.visit-in-try_table.new.visitor)
    (sym (ap (λ i. checks_of (in_instr h i)) c.in-try_table.is ∙ asked_anywhere_try_table h.blocks c.in-try_table.table)) c.visit-in-try_table.ensures

pub returns-in-br_table : goal.returns-in-br_table
returns-in-br_table g c = λ h.
    subst (λ asks. Visits g.V.Visitor.told c.args.visitor.now asks c.visit-in-br_table.new.visitor)
    (sym (ap (λ i. checks_of (in_instr h i)) c.in-br_table.is ∙ asked_anywhere_br_table h.blocks c.in-br_table.table)) c.visit-in-br_table.ensures

pub returns-in-resume : goal.returns-in-resume
returns-in-resume g c = λ h.
    let x = c.in-resume.arg in
    subst (λ asks. Visits g.V.Visitor.told c.args.visitor.now asks c.visit-in-resume.new.visitor)
    (sym (ap (λ i. checks_of (in_instr h i)) c.in-resume.is ∙ asked_anywhere_handlers h.blocks x.table (at_index space.Ty x.type_index)))
    c.visit-in-resume.ensures

pub returns-in-resume_throw : goal.returns-in-resume_throw
returns-in-resume_throw g c = λ h.
    let x = c.get.result.now in
    subst (λ asks. Visits g.V.Visitor.told c.args.visitor.now asks c.visit-in-resume_throw.new.visitor)
    (sym (ap (λ i. checks_of (in_instr h i)) (c.in-resume_throw.is ∙ ap instr.resume_throw (sym c.get.ensures))
    ∙ asked_anywhere_handlers h.blocks x.table (check_sites (in_pair space.Ty x.type_index space.Tag x.tag_index)))) c.visit-in-resume_throw.ensures

pub returns-in-resume_throw_ref : goal.returns-in-resume_throw_ref
returns-in-resume_throw_ref g c = λ h.
    let x = c.in-resume_throw_ref.arg in
    subst (λ asks. Visits g.V.Visitor.told c.args.visitor.now asks c.visit-in-resume_throw_ref.new.visitor)
    (sym (ap (λ i. checks_of (in_instr h i)) c.in-resume_throw_ref.is ∙ asked_anywhere_handlers h.blocks x.table (at_index space.Ty x.type_index)))
    c.visit-in-resume_throw_ref.ensures

pub returns-in-br_on_cast : goal.returns-in-br_on_cast
returns-in-br_on_cast g c = λ h.
    rw c.in-br_on_cast.is (subst (λ x. Visits g.V.Visitor.told c.args.visitor.now
    (checks_of (in_cast h.blocks x.label x.to_type x.from_type)) c.visit_cast.new.visitor) c.get-arg.ensures (c.visit_cast.ensures h.blocks))

pub returns-in-br_on_cast_fail : goal.returns-in-br_on_cast_fail
returns-in-br_on_cast_fail g c = λ h.
    rw c.in-br_on_cast_fail.is (subst
    (λ x. Visits g.V.Visitor.told c.args.visitor.now
    (checks_of (in_cast h.blocks x.label x.to_type x.from_type)) c.visit_cast-in-br_on_cast_fail.new.visitor)
    c.get-arg-in-br_on_cast_fail.ensures (c.visit_cast-in-br_on_cast_fail.ensures h.blocks))

pub returns-in-br_on_cast_desc_eq : goal.returns-in-br_on_cast_desc_eq
returns-in-br_on_cast_desc_eq g c = λ h.
    rw c.in-br_on_cast_desc_eq.is (subst
    (λ x. Visits g.V.Visitor.told c.args.visitor.now
    (checks_of (in_cast h.blocks x.label x.to_type x.from_type ++ check_sites (uncovered_check form.Descriptor)))
    c.visit_uncovered_cast.new.visitor) c.get-arg-in-br_on_cast_desc_eq.ensures (c.visit_uncovered_cast.ensures h.blocks))

pub returns-in-br_on_cast_desc_eq_fail : goal.returns-in-br_on_cast_desc_eq_fail
returns-in-br_on_cast_desc_eq_fail g c = λ h.
    rw c.in-br_on_cast_desc_eq_fail.is
    (subst (λ x. Visits g.V.Visitor.told c.args.visitor.now
    (checks_of (in_cast h.blocks x.label x.to_type x.from_type ++ check_sites (uncovered_check form.Descriptor)))
    c.visit_uncovered_cast-in-br_on_cast_desc_eq_fail.new.visitor) c.get-arg-in-br_on_cast_desc_eq_fail.ensures
    (c.visit_uncovered_cast-in-br_on_cast_desc_eq_fail.ensures h.blocks))
