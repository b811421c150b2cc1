use Rattle.std.proofs.Common.{◌∙◌, ap, length, arith}
use Rattle.wast_base.specs.Order.{key_cmp}
use Rattle.wast_resolve_namespace.specs.Namespaces.{NameSpace}
use Rattle.wast_resolve_namespace.specs.Places.{entries_of}
use Rattle.wast_resolve_namespace.specs.Filling.{keys_of, numbered_from, first_of_each}
use Rattle.wast_resolve_namespace.proofs.Gathered.{gathered_entries, gathered_length}
use Rattle.wast_resolve_namespace.proofs.FilledSpaces.{firsts_sorted, firsts_known}
use Rattle.wast_resolve_namespace.proofs.filling.NamespaceBuilder.build_first_wins.Goals as goal

pub from_sorted-requires : goal.from_sorted-requires
from_sorted-requires c =
    let own = c.self.inside in
    let copied = ap entries_of (c.in_ok-pairs.ensures.items ∙ c.deref.ensures.value) in
    let are = copied ∙ (gathered_entries 0 own.pairs.items own.count c.self.invariant ∙ ap (λ names. numbered_from 0 (keys_of names)) c.self.view_is) in
    firsts_sorted c.args.self.now c.in_ok-pairs.pairs.items c.in_ok-pairs-2.pairs.items are c.in_ok-pairs-2.ensures.permutation
    c.in_ok-pairs-2.ensures.sorted c.in_ok-firsts.firsts.items
    (c.in_ok-firsts.ensures ∙ ap (λ xs. first_of_each key_cmp (entries_of xs)) c.deref-2.ensures.value)

pub returns-clause-names : goal.returns-clause-names
returns-clause-names c =
    let own = c.self.inside in
    let copied = ap entries_of (c.in_ok-pairs.ensures.items ∙ c.deref.ensures.value) in
    let are = copied ∙ (gathered_entries 0 own.pairs.items own.count c.self.invariant ∙ ap (λ names. numbered_from 0 (keys_of names)) c.self.view_is) in
    firsts_known c.args.self.now c.in_ok-pairs.pairs.items c.in_ok-pairs-2.pairs.items are c.in_ok-pairs-2.ensures.permutation
    c.in_ok-pairs-2.ensures.sorted c.in_ok-firsts.firsts.items
    (c.in_ok-firsts.ensures ∙ ap (λ xs. first_of_each key_cmp (entries_of xs)) c.deref-2.ensures.value) own.count c.from_sorted.result c.from_sorted.ensures

pub returns-clause-count : goal.returns-clause-count
returns-clause-count c =
    let own = c.self.inside in
    let long = gathered_length 0 own.pairs.items own.count c.self.invariant in
    let seen = ap length c.self.view_is in
    ap (λ (s : NameSpace). s.count) c.from_sorted.ensures ∙ omega (arith, long, seen)
