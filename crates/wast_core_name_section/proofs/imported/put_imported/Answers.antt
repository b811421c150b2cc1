use Rattle.std.proofs.Common.{◌≡◌, ◌+◌, length, subst}
use Rattle.std.specs.Prelude.{IfOk}
use Rattle.wast_core_name_section.specs.FoundNames.{saturated_count, WritesItems}
use Rattle.wast_core_name_section.proofs.ImportedNames.{in_sigs}
use Rattle.wast_core_name_section.proofs.imported.put_imported.Goals as goal

pub returns-in-Group1-clause-written : goal.returns-in-Group1-clause-written
returns-in-Group1-clause-written g c =
    rw c.in-Group1.is (subst (λ z. WritesItems g.S.Sink.rules g.W.NameItems.entry g.W.NameItems.in_range z c.args.position c.args.out.now
    c.put_each-in-Group1.new.out c.put_each-in-Group1.result)
    (in_sigs (g.W.NameItems.items c.args.way) (λ p. p.1) c.as_slice.result.now c.in-Group1.items c.as_slice.ensures) c.put_each-in-Group1.ensures.written)

pub returns-in-Group1-clause-next : goal.returns-in-Group1-clause-next
returns-in-Group1-clause-next g c =
    rw c.in-Group1.is (subst (λ z. IfOk c.put_each-in-Group1.result (λ p. p ≡ saturated_count (c.args.position + length z)))
    (in_sigs (g.W.NameItems.items c.args.way) (λ p. p.1) c.as_slice.result.now c.in-Group1.items c.as_slice.ensures) c.put_each-in-Group1.ensures.next)

pub returns-in-Group2-clause-written : goal.returns-in-Group2-clause-written
returns-in-Group2-clause-written g c =
    rw c.in-Group2.is (subst (λ z. WritesItems g.S.Sink.rules g.W.NameItems.entry g.W.NameItems.in_range z c.args.position c.args.out.now
    c.put_each-in-Group2.new.out c.put_each-in-Group2.result)
    (in_sigs (g.W.NameItems.items c.args.way)
    (λ name. c.in-Group2.sig) c.as_slice-in-Group2.result.now c.in-Group2.items c.as_slice-in-Group2.ensures) c.put_each-in-Group2.ensures.written)

pub returns-in-Group2-clause-next : goal.returns-in-Group2-clause-next
returns-in-Group2-clause-next g c =
    rw c.in-Group2.is (subst (λ z. IfOk c.put_each-in-Group2.result (λ p. p ≡ saturated_count (c.args.position + length z)))
    (in_sigs (g.W.NameItems.items c.args.way)
    (λ name. c.in-Group2.sig) c.as_slice-in-Group2.result.now c.in-Group2.items c.as_slice-in-Group2.ensures) c.put_each-in-Group2.ensures.next)
