use Rattle.std.proofs.Common.{◌≡◌, None, refl, sym, ap, ◌∙◌}
use Rattle.std.specs.Option.{option_copied}
use Rattle.wast_expand_keys.proofs.Placed.{binds_new, binds_bound}
use Rattle.wast_expand_keys.proofs.expanders.bind_first.Goals as goal
use Rattle.wast_expand_keys.proofs.expanders.bind_first.Goals.{then-eq, else-eq}

pub returns-in-Some-clause-bound : goal.returns-in-Some-clause-bound
returns-in-Some-clause-bound c =
    let found = sym c.get.ensures.value ∙ ap option_copied c.in-Some.is in
    elim c.if-eq.branch [
      | then-eq w ↦ rw w.result-is (binds_bound c.args.key c.args.index c.hash_of-hash.result c.in-Some.first.now c.hash_of-hash.ensures found
          (sym c.eq.ensures ∙ w.if-eq.true))
      | else-eq w ↦ rw w.result-is tt
    ]

pub returns-clause-bound : goal.returns-clause-bound
returns-clause-bound c =
    let is : c.get.result ≡ None = c.in_default.is in
    let none = sym c.get.ensures.value ∙ ap option_copied is in
    binds_new c.args.key c.args.index c.hash_of-hash.result
    (c.args.key, c.args.index) c.hash_of-hash.ensures refl none c.in_ok-insert.ensures.updates.0 c.in_ok-insert.ensures.ordered
