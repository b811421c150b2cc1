use Rattle.wast_resolve_labels.proofs.Indexed.{forgets}
use Rattle.wast_resolve_labels.proofs.index.unindex_block.Goals as goal

pub returns-in-Some-Some-clause-indexed : goal.returns-in-Some-Some-clause-indexed
returns-in-Some-Some-clause-indexed c ls h =
    forgets c.args.places.now c.put_further.new.places c.in-Some-Some.id c.args.label c.in-Some-Some.is-1 c.in-Some-Some.further
    c.put_further.ensures c.pop.new.self.items c.args.outer.now.items
    c.in-Some-Some.ensures.items ls h
