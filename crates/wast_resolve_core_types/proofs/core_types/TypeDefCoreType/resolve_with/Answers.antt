use Rattle.std.proofs.Common.{rules, ◌++◌, flat_map}
use Rattle.std.proofs.lemmas.Result.{err_from_is_err_and}
use Rattle.wast_tree_nodes.specs.Sites.{if_there, in_index, in_inner}
use Rattle.wast_resolve_core_types.specs.Tree.space
use Rattle.wast_resolve_core_types.proofs.Calling.{calls_on_both, first_refused, calls_in_def, needs_in_def, needs_first, needs_second, needs_kept}
use Rattle.wast_resolve_core_types.proofs.core_types.TypeDefCoreType.resolve_with.Goals as goal

pub resolve_each-requires : goal.resolve_each-requires
resolve_each-requires g c =
    let d = c.args.self.now in
    let needed = needs_in_def d c.requires in
    let needs = needs_first (if_there (in_index space.Ty) d.descriptor ++ (if_there (in_index space.Ty) d.describes ++ in_inner d.kind)) needed in search rules

pub resolve_with-requires : goal.resolve_with-requires
resolve_with-requires g c =
    let d = c.args.self.now in
    let needed = needs_in_def d c.requires in
    let needs = needs_kept c.in_ok-resolve_each.ensures.kept (needs_first (if_there (in_index space.Ty) d.describes ++ in_inner d.kind)
    (needs_second (flat_map (in_index space.Ty) d.parents) needed)) in search rules

pub resolve_with-requires-2 : goal.resolve_with-requires-2
resolve_with-requires-2 g c =
    let d = c.args.self.now in
    let needed = needs_in_def d c.requires in
    let needs = needs_kept c.in_ok-resolve_with.ensures.kept
    (needs_kept c.in_ok-resolve_each.ensures.kept
    (needs_first (in_inner d.kind) (needs_second (if_there (in_index space.Ty) d.descriptor)
    (needs_second (flat_map (in_index space.Ty) d.parents) needed)))) in search rules

pub resolve_with-requires-3 : goal.resolve_with-requires-3
resolve_with-requires-3 g c =
    let d = c.args.self.now in
    let needed = needs_in_def d c.requires in
    let needs = needs_kept c.in_ok-resolve_with-2.ensures.kept (needs_kept c.in_ok-resolve_with.ensures.kept (needs_kept c.in_ok-resolve_each.ensures.kept
    (needs_second (if_there (in_index space.Ty) d.describes)
    (needs_second (if_there (in_index space.Ty) d.descriptor) (needs_second (flat_map (in_index space.Ty) d.parents) needed))))) in search rules

pub returns-in_err-resolve_with-2-clause-calls : goal.returns-in_err-resolve_with-2-clause-calls
returns-in_err-resolve_with-2-clause-calls g c =
    let d = c.args.self.now in
    let e = record d { parents = c.resolve_each.new.parts; descriptor = c.resolve_with.new.self; describes = c.resolve_with-2.new.self } in
    let p = err_from_is_err_and c.from_residual-in_err-resolve_with-2.result c.from_residual-in_err-resolve_with-2.ensures.1 in
    let called = first_refused (in_inner d.kind) c.in_err-resolve_with-2.ensures.calls in
    rw (p.1, p.2) (calls_in_def d e (calls_on_both c.in_ok-resolve_each.ensures.calls (calls_on_both c.in_ok-resolve_with.ensures.calls called)))

pub returns-in_err-resolve_with-3-clause-calls : goal.returns-in_err-resolve_with-3-clause-calls
returns-in_err-resolve_with-3-clause-calls g c =
    let d = c.args.self.now in
    let e = record d {
      parents = c.resolve_each.new.parts;
      descriptor = c.resolve_with.new.self;
      describes = c.resolve_with-2.new.self;
      kind = c.resolve_with-3.new.self;
    } in
    let p = err_from_is_err_and c.from_residual-in_err-resolve_with-3.result c.from_residual-in_err-resolve_with-3.ensures.1 in
    let last = calls_on_both c.in_ok-resolve_with-2.ensures.calls c.in_err-resolve_with-3.ensures.calls in
    rw (p.1, p.2) (calls_in_def d e (calls_on_both c.in_ok-resolve_each.ensures.calls (calls_on_both c.in_ok-resolve_with.ensures.calls last)))

pub returns-clause-calls : goal.returns-clause-calls
returns-clause-calls g c =
    let d = c.args.self.now in
    let e = record d {
      parents = c.resolve_each.new.parts;
      descriptor = c.resolve_with.new.self;
      describes = c.resolve_with-2.new.self;
      kind = c.resolve_with-3.new.self;
    } in
    let last = calls_on_both c.in_ok-resolve_with-2.ensures.calls c.in_ok-resolve_with-3.ensures.calls in
    calls_in_def d e (calls_on_both c.in_ok-resolve_each.ensures.calls (calls_on_both c.in_ok-resolve_with.ensures.calls last))
