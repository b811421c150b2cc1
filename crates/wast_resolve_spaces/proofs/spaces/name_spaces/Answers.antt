use Rattle.std.proofs.Common.{◌≡◌, ◌∷◌, [], ◌++◌, ◌≤◌, ◌+◌, rules, refl, sym, ap, ◌∙◌, subst, arith, length, length-append, append_assoc, get_or, set}
use Rattle.std.specs.Vec.{vec_len}
use Rattle.std.specs.Vec.Iter.{into_iter_items}
use Rattle.std.proofs.lemmas.Iterator.Adapters.{YieldsList-from_vec}
use Rattle.std.proofs.lemmas.Iterator.Consumers.{YieldsList-end}
use Rattle.std.proofs.lemmas.Result.{err_from_is_err_and}
use Rattle.wast_base.specs.Faults.{diagnostic_of}
use Rattle.wast_base.specs.Spaces.{spaces}
use Rattle.wast_tree_nodes.specs.Items.{items}
use Rattle.wast_resolve_names.specs.Resolvers.{known_of}
use Rattle.wast_resolve_spaces.specs.Tree.space
use Rattle.wast_resolve_rules.specs.Demands.{first_unmet, item_demands}
use Rattle.wast_resolve_spaces.proofs.Trying.{AreTried, by_space, rank_at, gathered_next, tried_none, tried_more, all_clashes, all_numbers, known_by, stops_all}
use Rattle.wast_resolve_spaces.proofs.spaces.name_spaces.Goals as goal

pub loop-gathered-init : goal.loop-gathered-init
loop-gathered-init c = (tried_none (by_space (items c.args.fields.now)) c.new-spaces.result.items _ c.new-spaces.ensures.items refl, refl)

pub returns-in_err-names-clause-refusal : goal.returns-in_err-names-clause-refusal
returns-in_err-names-clause-refusal c =
    let names = by_space (items c.args.fields.now) in
    let before = c.loop-gathered.yielded in
    let s = get_or spaces (length before) space.Func in
    let whole = ap (λ rest. before ++ rest) (sym c.in-Some.ensures.steps.0) ∙ c.loop-gathered.invariant.1
    ∙ c.into_iter-gathered-iterator.ensures.into_iter_gives.0 in
    let turn = gathered_next names c.in_ok-gathered-items.gathered-items.items before
    (into_iter_items c.next.new.self) c.in-Some.gathered c.in_ok-gathered-items.ensures.slots c.in_ok-gathered-items.ensures.each whole in
    let p = err_from_is_err_and c.from_residual-in_err-names.result c.from_residual-in_err-names.ensures.1 in
    rw (p.1, p.2) (stops_all (diagnostic_of c.in_err-names.field-0.0) c.args.fields.now s (first_unmet (item_demands (items c.args.fields.now)))
    (c.in_err-names.ensures.stops (names s) turn.1))

pub loop-gathered-preserved : goal.loop-gathered-preserved
loop-gathered-preserved c =
    let names = by_space (items c.args.fields.now) in
    let before = c.loop-gathered.yielded in
    let s = get_or spaces (length before) space.Func in
    let rest = into_iter_items c.next.new.self in
    let seen = ap (λ rest. before ++ rest) (sym c.in-Some.ensures.steps.0) ∙ c.loop-gathered.invariant.1 in
    let whole = seen ∙ c.into_iter-gathered-iterator.ensures.into_iter_gives.0 in
    let turn = gathered_next names c.in_ok-gathered-items.gathered-items.items before rest c.in-Some.gathered c.in_ok-gathered-items.ensures.slots
    c.in_ok-gathered-items.ensures.each whole in
    let tried = c.in_ok-names.ensures.tried (names s) turn.1 in
    let at = rank_at (length before) space.Func turn.0 in
    let more = tried_more names c.loop-gathered.spaces.items c.loop-gathered.clashes
    (length before) c.in_ok-names.names c.in_ok-names.clash s c.push.new.self.items c.loop-gathered.invariant.0 turn.0 at tried
    c.in_ok-push.ensures.items in
    let held : length c.loop-gathered.spaces.items ≡ vec_len c.loop-gathered.spaces = search rules in
    let place : length before ≡ c.len.result = sym c.loop-gathered.invariant.0.count ∙ held ∙ sym c.len.ensures in
    let next : length before + 1 ≡ length (before ++ c.in-Some.gathered ∷ []) = sym (length-append before (c.in-Some.gathered ∷ [])) in (
      subst (λ n. AreTried names c.push.new.self.items (set c.loop-gathered.clashes c.len.result c.in_ok-names.clash) n) next
          (subst (λ i. AreTried names c.push.new.self.items (set c.loop-gathered.clashes i c.in_ok-names.clash) (length before + 1)) place more),
      append_assoc before (c.in-Some.gathered ∷ []) rest ∙ seen,
    )

pub first_clash-requires : goal.first_clash-requires
first_clash-requires c =
    let end = YieldsList-end (YieldsList-from_vec {s = c.into_iter-gathered-iterator.result} c.in_ok-gathered-items.gathered-items.items
    (search rules) (search rules)) c.loop-gathered.yielded c.loop-gathered.gathered-iterator c.loop-gathered.yielded_by c.next.result
    c.next.new.self c.in-None.is c.next.ensures.steps in
    let eight : 8 ≤ length c.loop-gathered.yielded = omega (arith, end.1, c.in_ok-gathered-items.ensures.slots) in
    all_clashes (by_space (items c.args.fields.now)) c.loop-gathered.spaces.items c.loop-gathered.clashes
    (length c.loop-gathered.yielded) eight c.loop-gathered.invariant.0

pub returns-clause-names : goal.returns-clause-names
returns-clause-names c =
    let tried = c.loop-gathered.spaces.items in
    let end = YieldsList-end (YieldsList-from_vec {s = c.into_iter-gathered-iterator.result} c.in_ok-gathered-items.gathered-items.items
    (search rules) (search rules)) c.loop-gathered.yielded c.loop-gathered.gathered-iterator c.loop-gathered.yielded_by c.next.result
    c.next.new.self c.in-None.is c.next.ensures.steps in
    let eight : 8 ≤ length c.loop-gathered.yielded = omega (arith, end.1, c.in_ok-gathered-items.ensures.slots) in
    ap known_of c.resolver_of.ensures
    ∙ known_by (items c.args.fields.now) tried
    (all_numbers (by_space (items c.args.fields.now)) tried c.loop-gathered.clashes
    (length c.loop-gathered.yielded) eight c.loop-gathered.invariant.0 (c.first_clash.ensures.free c.in-None-first_clash.is))
