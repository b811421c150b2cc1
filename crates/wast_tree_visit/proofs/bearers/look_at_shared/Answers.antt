use Rattle.std.proofs.Common.{◌≡◌, length, false, nat_lt, ◌∙◌, arith, rules}
use Rattle.wast_base.specs.Ids.{name_of}
use Rattle.wast_tree_nodes.specs.Items.{item_of_sig}
use Rattle.wast_tree_visit.specs.Private.IdOwners.{bears}
use Rattle.wast_tree_visit.proofs.Looking.{as_many, of_same, of_no_more}
use Rattle.wast_tree_visit.proofs.bearers.look_at_shared.Goals as goal

pub returns-then-item-names-clause-items : goal.returns-then-item-names-clause-items
returns-then-item-names-clause-items c = as_many (λ name. item_of_sig c.args.sig.now) c.args.names.now

pub returns-then-item-names-clause-found : goal.returns-then-item-names-clause-found
returns-then-item-names-clause-found c =
    of_same (bears c.args.space (name_of c.args.id.now))
    (λ name. item_of_sig c.args.sig.now) c.args.names.now c.args.item c.bears.result c.if-item-names.true (λ name. c.bears.ensures)

pub returns-else-item-names-clause-items : goal.returns-else-item-names-clause-items
returns-else-item-names-clause-items c = as_many (λ name. item_of_sig c.args.sig.now) c.args.names.now

pub returns-else-item-names-clause-found : goal.returns-else-item-names-clause-found
returns-else-item-names-clause-found c =
    let no : nat_lt c.args.item (length c.args.names.now) ≡ false = search rules in
    no ∙ of_no_more (bears c.args.space (name_of c.args.id.now)) (λ name. item_of_sig c.args.sig.now) c.args.names.now c.args.item
    (omega (arith, c.if-item-names.false))
