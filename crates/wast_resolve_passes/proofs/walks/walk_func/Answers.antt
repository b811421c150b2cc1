use Rattle.std.specs.Prelude.{⊤}
use Rattle.std.proofs.lemmas.Result.{err_from_is_err_and}
use Rattle.wast_base.specs.Faults.{diagnostic_of}
use Rattle.wast_tree_nodes.specs.Sites.{OfItem, in_use, in_func_kind}
use Rattle.wast_resolve_passes.specs.Tree.field
use Rattle.wast_resolve_rules.specs.Demands.{site_demand, body_counts_in, HasMany}
use Rattle.wast_resolve_names.specs.Resolvers.{scope_of}
use Rattle.wast_resolve_passes.proofs.Functions.{numbered_says}
use Rattle.wast_resolve_names.proofs.Parts.{both_met, fails_first, fails_second}
use Rattle.wast_resolve_passes.proofs.walks.walk_func.Goals as goal

pub returns-in_err-walk_type_use : goal.returns-in_err-walk_type_use
returns-in_err-walk_type_use c =
    let f = c.args.func.now in
    let s = scope_of c.args.names.now in
    let p = err_from_is_err_and c.from_residual.result c.from_residual.ensures.1 in
    rw (p.1, p.2) (fails_first ⊤ (HasMany (body_counts_in s (field.Func f))) s (in_use OfItem f.ty) (in_func_kind f.ty f.kind)
    (diagnostic_of c.in_err-walk_type_use.field-0.0) c.in_err-walk_type_use.ensures)

pub walk_kind-requires : goal.walk_kind-requires
walk_kind-requires c = c.requires

pub returns-in_err-walk_kind : goal.returns-in_err-walk_kind
returns-in_err-walk_kind c =
    let f = c.args.func.now in
    let s = scope_of c.args.names.now in
    let p = err_from_is_err_and c.from_residual-in_err-walk_kind.result c.from_residual-in_err-walk_kind.ensures.1 in
    let says = numbered_says s f.ty c.walk_type_use.new.ty c.in_ok-walk_type_use.ensures.1 in
    rw (p.1, p.2) (fails_second ⊤ (HasMany (body_counts_in s (field.Func f))) s (in_use OfItem f.ty) (in_func_kind f.ty f.kind)
    (diagnostic_of c.in_err-walk_kind.field-0.0) c.in_ok-walk_type_use.ensures.0
    (c.in_err-walk_kind.ensures f.ty says))

pub returns : goal.returns
returns c =
    let f = c.args.func.now in
    let s = scope_of c.args.names.now in
    let typed = c.in_ok-walk_type_use.ensures in
    let made = c.in_ok-walk_kind.ensures f.ty (numbered_says s f.ty c.walk_type_use.new.ty typed.1) in
    (both_met (site_demand s) (in_use OfItem f.ty) (in_func_kind f.ty f.kind) typed.0 made.0, λ i. record f { kind = made.1 i; ty = typed.1 i })
