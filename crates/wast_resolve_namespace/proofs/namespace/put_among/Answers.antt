use Rattle.std.proofs.Common.{sym, ◌∙◌, ap, Some}
use Rattle.wast_base.specs.Ids.{name_of}
use Rattle.wast_base.specs.Order.{key_of}
use Rattle.wast_resolve_namespace.specs.Places.{IsAt, IsGap, entries_of}
use Rattle.wast_resolve_namespace.proofs.Searches.{find_at, find_gap, put_at, put_gap}
use Rattle.wast_resolve_namespace.proofs.namespace.put_among.Goals as goal

pub returns-in-Ok-clause-before : goal.returns-in-Ok-clause-before
returns-in-Ok-clause-before c =
    let es = c.args.names.now.items in
    let name = key_of (name_of c.args.id) in
    let at : IsAt es name c.in-Ok.at = rw c.deref.ensures.value at c.in-Ok.ensures in
    ap (λ (e : _). Some e.1) c.index.ensures ∙ sym (find_at name es c.in-Ok.at c.index.result.now at)

pub returns-in-Ok-clause-ok : goal.returns-in-Ok-clause-ok
returns-in-Ok-clause-ok c =
    let es = c.args.names.now.items in
    let at : IsAt es (key_of (name_of c.args.id)) c.in-Ok.at = rw c.deref.ensures.value at c.in-Ok.ensures in
    sym (put_at c.args.id c.args.number es c.in-Ok.at at)

pub returns-in_ok-insert-in-Err-clause-before : goal.returns-in_ok-insert-in-Err-clause-before
returns-in_ok-insert-in-Err-clause-before c =
    let es = c.args.names.now.items in
    let name = key_of (name_of c.args.id) in
    let gap : IsGap es name c.in-Err.at = rw c.deref.ensures.value at c.in-Err.ensures in
    sym (find_gap name es c.in-Err.at gap)

pub returns-in_ok-insert-in-Err-clause-ok : goal.returns-in_ok-insert-in-Err-clause-ok
returns-in_ok-insert-in-Err-clause-ok c =
    let es = c.args.names.now.items in
    let gap : IsGap es (key_of (name_of c.args.id)) c.in-Err.at = rw c.deref.ensures.value at c.in-Err.ensures in
    ap entries_of c.in_ok-insert-in-Err.ensures.items ∙ sym (put_gap c.args.id c.args.number es c.in-Err.at gap)
