use Rattle.std.proofs.Common.{ℕ, List, sym, ap, ◌∙◌, ◌++◌, subst}
use Rattle.std.specs.Borrow.{Bor}
use Rattle.wast_tree_visit.specs.Tree.form
use Rattle.wast_tree_nodes.specs.Sites.{in_sig, in_shared_id, in_import, uncovered_check, checks_of}
use Rattle.wast_tree_visit.specs.Visits.{Visits}
use Rattle.wast_tree_visit.proofs.Visiting.{visits_both, visits_one, asked_behind, asked_list}
use Rattle.wast_tree_visit.proofs.field_visits.ImportItemsVisit.visit.Goals as goal

pub returns-in-Group1 : goal.returns-in-Group1
returns-in-Group1 g c =
    subst (λ asks. Visits g.V.Visitor.told c.args.visitor.now asks c.covered.new.self)
    (sym (ap (λ i. checks_of (in_import i)) c.in-Group1.is ∙ asked_list (λ p. in_sig p.1) c.in-Group1.items (uncovered_check form.CompactImports)))
    (visits_both c.visit-in-Group1.ensures (visits_one c.covered.ensures))

pub returns-in-Group2 : goal.returns-in-Group2
returns-in-Group2 g c =
    let sig = c.in-Group2.sig in
    let asks = λ (names : List (Bor (List ℕ))). in_shared_id names sig.id ++ uncovered_check form.CompactImports in
    subst (λ asks. Visits g.V.Visitor.told c.args.visitor.now asks c.covered-in-Group2.new.self)
    (sym (ap (λ i. checks_of (in_import i)) c.in-Group2.is
    ∙ (asked_behind (in_sig sig) (asks c.in-Group2.items) ∙ ap (λ names. checks_of (in_sig sig) ++ asks names) (sym c.as_slice.ensures))))
    (visits_both c.visit-in-Group2.ensures (visits_both c.visit_shared_id.ensures (visits_one c.covered-in-Group2.ensures)))
