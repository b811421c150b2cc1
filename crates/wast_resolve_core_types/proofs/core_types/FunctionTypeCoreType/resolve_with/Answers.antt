use Rattle.std.proofs.Common.{rules, flat_map}
use Rattle.wast_tree_nodes.specs.Sites.{in_param, in_val}
use Rattle.wast_resolve_core_types.proofs.Calling.{needs_first, needs_second, needs_kept}
use Rattle.wast_resolve_core_types.proofs.core_types.FunctionTypeCoreType.resolve_with.Goals as goal

pub resolve_each-requires : goal.resolve_each-requires
resolve_each-requires g c = let needs = needs_first (flat_map in_val c.args.self.now.results) c.requires in search rules

pub resolve_each-requires-2 : goal.resolve_each-requires-2
resolve_each-requires-2 g c = let needs =
    needs_kept c.in_ok-resolve_each.ensures.kept (needs_second (flat_map in_param c.args.self.now.params) c.requires) in search rules
