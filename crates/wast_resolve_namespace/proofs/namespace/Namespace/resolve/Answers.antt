use Rattle.wast_base.proofs.Outcomes.{error_answers}
use Rattle.wast_resolve_namespace.proofs.namespace.Namespace.resolve.Goals as goal

pub returns-clause-refusal : goal.returns-clause-refusal
returns-clause-refusal c = error_answers ⊥ ⊥ _ c.number_index.result c.number_index.ensures.answer
