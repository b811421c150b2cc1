use Rattle.std.proofs.Common.{sym, ◌∙◌, refl, arith}
use Rattle.wast_base.specs.Ids.{name_of}
use Rattle.wast_resolve_namespace.proofs.Searches.{in_order, stands, nowhere, another_there}
use Rattle.wast_resolve_namespace.proofs.namespace.place_of.Goals as goal
use Rattle.wast_resolve_namespace.proofs.namespace.place_of.Goals.{else-at-names-via-then-at-names+else-is_same, else-at-names-via-else-at-names}

pub place_among-at-requires : goal.place_among-at-requires
place_among-at-requires c k = ((refl, tt), in_order c.args.names.now c.requires)

pub returns-then-is_same : goal.returns-then-is_same
returns-then-is_same c =
    stands c.args.names.now c.args.id.now c.place_among-at.result _ c.requires c.if-at-names.true (sym c.is_same.ensures ∙ c.if-is_same.true)

pub returns-else-at-names : goal.returns-else-at-names
returns-else-at-names c =
    nowhere c.args.names.now (name_of c.args.id.now) c.place_among-at.result c.place_among-at.ensures c.requires (λ lt d. elim c.else-at-names.branch [
      | else-at-names-via-then-at-names+else-is_same w ↦ another_there c.args.names.now c.place_among-at.result _ d c.args.id.now lt
          (sym w.is_same.ensures ∙ w.if-is_same.false)
      | else-at-names-via-else-at-names w ↦ absurd (omega (arith, w.if-at-names.false, lt))
    ])
