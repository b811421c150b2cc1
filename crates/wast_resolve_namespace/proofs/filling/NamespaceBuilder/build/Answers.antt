use Rattle.std.proofs.Common.{◌∙◌, None, ap, length, arith}
use Rattle.wast_resolve_namespace.specs.Places.{entries_of}
use Rattle.wast_resolve_namespace.specs.Filling.{keys_of, numbered_from, IsLeastTie, IsFirstTie}
use Rattle.wast_resolve_namespace.proofs.Gathered.{gathered_entries, gathered_length}
use Rattle.wast_resolve_namespace.proofs.FilledSpaces.{first_clash, names_rise, filled_space}
use Rattle.wast_resolve_namespace.proofs.filling.NamespaceBuilder.build.Goals as goal

pub returns-in-Some : goal.returns-in-Some
returns-in-Some c =
    let own = c.self.inside in
    let es = c.in_ok-pairs.pairs.items in
    let are = gathered_entries 0 own.pairs.items own.count c.self.invariant ∙ ap (λ names. numbered_from 0 (keys_of names)) c.self.view_is in
    let tie : IsLeastTie (entries_of es) c.in-Some.number = rw c.deref.ensures.value at c.in-Some.ensures in
    first_clash c.args.self own.pairs.items es are c.in_ok-pairs.ensures.permutation c.in_ok-pairs.ensures.sorted c.in-Some.number tie

pub from_sorted-requires : goal.from_sorted-requires
from_sorted-requires c =
    let own = c.self.inside in
    let es = c.in_ok-pairs.pairs.items in
    let are = gathered_entries 0 own.pairs.items own.count c.self.invariant ∙ ap (λ names. numbered_from 0 (keys_of names)) c.self.view_is in
    let free : IsFirstTie (entries_of es) None = rw c.deref.ensures.value at c.in_default.ensures in
    names_rise c.args.self own.pairs.items es are c.in_ok-pairs.ensures.permutation c.in_ok-pairs.ensures.sorted free

pub returns : goal.returns
returns c =
    let own = c.self.inside in
    let es = c.in_ok-pairs.pairs.items in
    let are = gathered_entries 0 own.pairs.items own.count c.self.invariant ∙ ap (λ names. numbered_from 0 (keys_of names)) c.self.view_is in
    let free : IsFirstTie (entries_of es) None = rw c.deref.ensures.value at c.in_default.ensures in
    let long = gathered_length 0 own.pairs.items own.count c.self.invariant in
    let seen = ap length c.self.view_is in
    filled_space c.args.self own.pairs.items es are c.in_ok-pairs.ensures.permutation c.in_ok-pairs.ensures.sorted free own.count
    (omega (arith, long, seen)) c.from_sorted.result c.from_sorted.ensures
