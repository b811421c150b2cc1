use Rattle.wast_resolve_names.specs.Resolvers.{known_of}
use Rattle.wast_resolve_names.proofs.Accesses.{alone_answers}
use Rattle.wast_resolve_names.proofs.resolver.Resolver.number.Goals as goal

pub returns-clause-refusal : goal.returns-clause-refusal
returns-clause-refusal c =
    alone_answers (known_of c.args.self.now) c.args.space c.word.result.now c.args.idx.now c.number_index.result c.word.ensures c.number_index.ensures.answer
