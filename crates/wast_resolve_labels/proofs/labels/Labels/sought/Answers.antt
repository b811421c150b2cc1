use Rattle.std.proofs.Common.{◌≡◌, ◌∙◌, ◌-◌, Some, sym, ap, length, arith}
use Rattle.wast_base.specs.Ids.{name_of}
use Rattle.wast_resolve_labels.specs.OpenBlocks.{label_depth}
use Rattle.wast_resolve_labels.proofs.Indexed.{found_near, found_nowhere, place_within, found_further}
use Rattle.wast_resolve_labels.proofs.labels.Labels.sought.Goals as goal

pub returns-in-Some : goal.returns-in-Some
returns-in-Some c =
    let own = c.self.inside in
    let long : c.len-indexed.result ≡ length own.outer.items = omega arith in
    sym (found_near c.args.id.now own.places own.outer.items own.«open».items c.deref.result.now c.split_at.result.0.now c.split_at.result.1.now
    c.len-indexed.result c.self.invariant.1 c.deref.ensures.value long c.split_at.ensures.front c.split_at.ensures.back c.steps_back.result
    c.steps_back.ensures c.in-Some.steps c.in-Some.is)
    ∙ ap (label_depth (name_of c.args.id.now)) c.self.view_is

pub returns-in_err-place : goal.returns-in_err-place
returns-in_err-place c =
    let own = c.self.inside in
    let long : c.len-indexed.result ≡ length own.outer.items = omega arith in
    c.from_residual.ensures
    ∙ (sym (found_nowhere c.args.id.now own.places own.outer.items own.«open».items c.deref.result.now c.split_at.result.0.now
    c.split_at.result.1.now c.len-indexed.result c.self.invariant.1 c.deref.ensures.value long c.split_at.ensures.front c.split_at.ensures.back
    c.steps_back.result c.indexed_place.result c.steps_back.ensures c.in_default.is c.indexed_place.ensures c.in_err-place.was)
    ∙ ap (label_depth (name_of c.args.id.now)) c.self.view_is)

pub overflow_sub-result-2 : goal.overflow_sub-result-2
overflow_sub-result-2 c =
    let own = c.self.inside in
    let long : c.len-indexed.result ≡ length own.outer.items = omega arith in
    let within = place_within c.args.id.now own.places own.outer.items own.«open».items c.deref.result.now c.split_at.result.0.now
    c.split_at.result.1.now c.len-indexed.result c.self.invariant.1 c.deref.ensures.value long c.split_at.ensures.front c.split_at.ensures.back
    c.steps_back.result c.indexed_place.result c.steps_back.ensures c.in_default.is c.indexed_place.ensures c.in_ok-place.place c.in_ok-place.was in
    omega (arith, within)

pub returns : goal.returns
returns c =
    let own = c.self.inside in
    let long : c.len-indexed.result ≡ length own.outer.items = omega arith in
    let many : c.len.result ≡ length own.«open».items = omega arith in
    ap (λ n. Some (n - 1 - c.in_ok-place.place)) many
    ∙ (sym (found_further c.args.id.now own.places own.outer.items own.«open».items c.deref.result.now c.split_at.result.0.now
    c.split_at.result.1.now c.len-indexed.result c.self.invariant.1 c.deref.ensures.value long c.split_at.ensures.front c.split_at.ensures.back
    c.steps_back.result c.indexed_place.result c.steps_back.ensures c.in_default.is c.indexed_place.ensures c.in_ok-place.place c.in_ok-place.was)
    ∙ ap (label_depth (name_of c.args.id.now)) c.self.view_is)
