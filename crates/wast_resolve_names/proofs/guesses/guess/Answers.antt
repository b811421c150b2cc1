use Rattle.std.proofs.Common.{sym, ◌∙◌}
use Rattle.wast_resolve_names.proofs.Guessing.{bears}
use Rattle.wast_resolve_names.proofs.guesses.guess.Goals as goal

pub returns-then-is_same : goal.returns-then-is_same
returns-then-is_same c = bears c.args.names.now c.args.id.now c.in_ok-at.field-0 _ c.if-at-names.true (sym c.is_same.ensures ∙ c.if-is_same.true)
