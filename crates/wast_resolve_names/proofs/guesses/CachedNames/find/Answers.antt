use Rattle.std.proofs.Common.{ap, ◌∙◌}
use Rattle.wast_base.specs.Ids.{name_of}
use Rattle.wast_resolve_namespace.specs.Namespaces.{NameSpace, number_in}
use Rattle.wast_resolve_names.proofs.Guessing.{guessed}
use Rattle.wast_resolve_names.proofs.guesses.CachedNames.find.Goals as goal

pub returns-in-Some : goal.returns-in-Some
returns-in-Some c =
    guessed c.self.inside.names.names c.pairs-pairs.result.now c.args.id.now c.in-Some.at _ c.pairs-pairs.ensures c.in-Some.ensures
    ∙ ap (λ (s : NameSpace). number_in s (name_of c.args.id.now)) c.self.view_is
