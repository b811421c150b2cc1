use Rattle.std.proofs.Common.{rules, refl, sym, ap, ◌∙◌}
use Rattle.std.specs.Option.{unwrap_or}
use Rattle.wast_expand_keys.proofs.Placed.{more_placed, more_extends}
use Rattle.wast_expand_keys.proofs.expanders.put_key.Goals as goal
use Rattle.wast_expand_keys.proofs.expanders.put_key.Goals.{in-Some+in_ok-cx-inside, in_default}

pub invariant_of-cx-in-Some : goal.invariant_of-cx-in-Some
invariant_of-cx-in-Some c =
    let w = c.or_insert.result.now in
    let rest = rw c.in-Some.is at c.in_ok-key.ensures.rest in
    let taken = rw c.in-Some.is at c.in_ok-key.ensures.taken in
    let stays = rw c.in-Some.is at c.in_ok-key.ensures.stays in
    let w_is = c.or_insert.ensures.value ∙ ap (λ o. unwrap_or o c.args.index) c.in_ok-cx-inside.ensures.value in (
      more_placed _ c.args.key c.in-Some.key c.args.index w c.cx.invariant.0 rest (taken refl) (stays refl) w_is
          (λ s. let written = (c.in_ok-cx-inside.ensures.update.0 w).0 s in search rules),
      c.cx.invariant.1,
    )

pub invariant_of-cx-in_default : goal.invariant_of-cx-in_default
invariant_of-cx-in_default c = (((rw c.in_default.is at c.in_ok-key.ensures.bound) c.cx.inside.others.entries c.cx.invariant.0).0, c.cx.invariant.1)

pub returns-clause-ok : goal.returns-clause-ok
returns-clause-ok c = λ s.
    elim c.match-branch-2.branch [
      | in-Some+in_ok-cx-inside b ↦
          let w = b.or_insert.result.now in
          let rest = rw b.in-Some.is at c.in_ok-key.ensures.rest in
          let taken = rw b.in-Some.is at c.in_ok-key.ensures.taken in
          let stays = rw b.in-Some.is at c.in_ok-key.ensures.stays in
          let w_is = b.or_insert.ensures.value ∙ ap (λ o. unwrap_or o c.args.index) b.in_ok-cx-inside.ensures.value in
          rw (b.cx-is, sym c.cx.view_is) (more_extends _ c.args.key b.in-Some.key c.args.index w c.cx.invariant.0 rest (taken refl) (stays refl) w_is
          (λ t. let written = (b.in_ok-cx-inside.ensures.update.0 w).0 t in search rules) s)
      | in_default b ↦ rw (b.cx-is, sym c.cx.view_is) (((rw b.in_default.is at c.in_ok-key.ensures.bound) c.cx.inside.others.entries c.cx.invariant.0).1 s)
    ]
