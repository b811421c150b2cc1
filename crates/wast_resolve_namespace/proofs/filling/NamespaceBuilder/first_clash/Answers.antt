use Rattle.std.proofs.Common.{◌∙◌, ap}
use Rattle.wast_resolve_namespace.specs.Places.{entries_of}
use Rattle.wast_resolve_namespace.specs.Filling.{keys_of, numbered_from, IsFirstTie}
use Rattle.wast_resolve_namespace.proofs.Gathered.{gathered_entries}
use Rattle.wast_resolve_namespace.proofs.FilledSpaces.{clash_or_none}
use Rattle.wast_resolve_namespace.proofs.filling.NamespaceBuilder.first_clash.Goals as goal

pub returns : goal.returns
returns c =
    let own = c.self.inside in
    let es = c.in_ok-pairs.pairs.items in
    let are = gathered_entries 0 own.pairs.items own.count c.self.invariant ∙ ap (λ names. numbered_from 0 (keys_of names)) c.self.view_is in
    let tie : IsFirstTie (entries_of es) c.first_tie.result = rw c.deref.ensures.value at c.first_tie.ensures in
    clash_or_none c.args.self own.pairs.items es are c.in_ok-pairs.ensures.permutation c.in_ok-pairs.ensures.sorted c.first_tie.result tie
