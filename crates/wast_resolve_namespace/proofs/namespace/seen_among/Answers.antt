use Rattle.std.proofs.Common.{sym, ◌∙◌, arith}
use Rattle.wast_resolve_namespace.proofs.Searches.{stands}
use Rattle.wast_resolve_namespace.proofs.namespace.seen_among.Goals as goal

pub returns-then-is_same : goal.returns-then-is_same
returns-then-is_same c = stands c.args.names.now c.args.id.now c.loop-i.i _ c.requires (omega arith) (sym c.is_same.ensures ∙ c.if-is_same.true)
