use Rattle.std.proofs.Common.{◌+◌, ◌++◌, ◌∷◌, [], sym, ap, ◌∙◌, subst, length, arith}
use Rattle.wast_base.specs.Ids.{mark_of_option}
use Rattle.wast_base.specs.Spaces.{name_if}
use Rattle.wast_resolve_namespace.specs.declared.filling.NamespaceBuilder.TheInside.{Inside}
use Rattle.wast_resolve_namespace.proofs.Gathered.{IsOneMore, one_unnamed, one_named, gathered_length}
use Rattle.wast_resolve_namespace.proofs.filling.NamespaceBuilder.add.Goals as goal
use Rattle.wast_resolve_namespace.proofs.filling.NamespaceBuilder.add.Goals.{in-Some+in_ok-push, in_default}

grown : (c : goal.After-self-1) → IsOneMore c.self.inside.pairs.items c.self.inside.count c.args.id c.match-id.self-inside.pairs.items (c.self.inside.count + 1)
grown c =
    let ds = c.self.inside.pairs.items in
    let n = c.self.inside.count in
    elim c.match-id.branch [
      | in-Some+in_ok-push w ↦ subst (λ es. IsOneMore ds n c.args.id es (n + 1)) (sym (ap (λ (s : Inside). s.pairs.items) w.self-inside-is
          ∙ w.in_ok-push.ensures.items))
          (one_named ds n c.args.id w.in-Some.id w.in-Some.is c.self.invariant)
      | in_default w ↦ subst (λ es. IsOneMore ds n c.args.id es (n + 1)) (sym (ap (λ (s : Inside). s.pairs.items) w.self-inside-is))
          (one_unnamed ds n c.args.id w.in_default.is c.self.invariant)
    ]

pub overflow_add-next : goal.overflow_add-next
overflow_add-next c =
    let long = gathered_length 0 c.self.inside.pairs.items c.self.inside.count c.self.invariant in
    let seen = ap length c.self.view_is in
    omega (arith, c.requires, long, seen)

pub invariant_of-self-2 : goal.invariant_of-self-2
invariant_of-self-2 c = (grown c).positions

pub returns-clause-ok : goal.returns-clause-ok
returns-clause-ok c = (grown c).names ∙ ap (λ xs. xs ++ name_if (mark_of_option c.args.id) ∷ []) c.self.view_is
