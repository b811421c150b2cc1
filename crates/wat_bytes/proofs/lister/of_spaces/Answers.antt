use Rattle.std.proofs.Common.{rules, map}
use Rattle.std.proofs.lemmas.List.{take_all}
use Rattle.wast_tree_nodes.specs.Items.{items}
use Rattle.wat_bytes.specs.Names.{content_of}
use Rattle.wat_bytes.proofs.Listing.{listed_more}
use Rattle.wat_bytes.proofs.lister.of_spaces.Goals as goal

pub loop-at-preserved : goal.loop-at-preserved
loop-at-preserved c =
    listed_more (items c.args.fields.now) c.args.spaces.now c.loop-at.at _ (map content_of c.loop-at.lister.listed.items) _
    c.loop-at-test.true c.loop-at.invariant c.in_ok-list_space.ensures

pub returns : goal.returns
returns c = search (rules, take_all)
