use Rattle.wast_resolve_labels.proofs.Indexed.{keeps}
use Rattle.wast_resolve_labels.proofs.index.keep_place.Goals as goal

pub returns-in_ok-insert-in-Some-clause-ok : goal.returns-in_ok-insert-in-Some-clause-ok
returns-in_ok-insert-in-Some-clause-ok c ls long h =
    let inserted = c.in_ok-insert-in-Some.ensures in
    let kept = keeps c.args.places.now c.insert.new.self c.in-Some.id c.args.label c.in-Some.is c.args.place c.in_ok-insert-in-Some.field-0
    inserted.old inserted.updates ls long h in
    kept
