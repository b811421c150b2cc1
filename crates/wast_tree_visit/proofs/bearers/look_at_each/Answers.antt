use Rattle.std.proofs.Common.{◌≡◌, length, false, nat_lt, ◌∙◌, arith, rules}
use Rattle.wast_base.specs.Ids.{name_of}
use Rattle.wast_tree_visit.specs.Private.IdOwners.{bears}
use Rattle.wast_tree_visit.proofs.Looking.{as_many, of_each, of_no_more}
use Rattle.wast_tree_visit.proofs.bearers.look_at_each.Goals as goal

pub returns-then-item-list-clause-items : goal.returns-then-item-list-clause-items
returns-then-item-list-clause-items g c = as_many g.T.IsItem.item c.args.list.now

pub returns-then-item-list-clause-found : goal.returns-then-item-list-clause-found
returns-then-item-list-clause-found g c =
    let x = c.index-list-item.result in
    of_each (bears c.args.space (name_of c.args.id.now)) g.T.IsItem.item c.args.list.now c.args.item x x c.bears.result c.if-item-list.true
    c.index-list-item.is c.bears.ensures

pub returns-else-item-list-clause-items : goal.returns-else-item-list-clause-items
returns-else-item-list-clause-items g c = as_many g.T.IsItem.item c.args.list.now

pub returns-else-item-list-clause-found : goal.returns-else-item-list-clause-found
returns-else-item-list-clause-found g c =
    let no : nat_lt c.args.item (length c.args.list.now) ≡ false = search rules in
    no ∙ of_no_more (bears c.args.space (name_of c.args.id.now)) g.T.IsItem.item c.args.list.now c.args.item (omega (arith, c.if-item-list.false))
