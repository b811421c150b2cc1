use Rattle.std.proofs.Common.{◌≡◌, map, flat_map, take}
use Rattle.wast_tree_nodes.specs.Items.{items}
use Rattle.wat_bytes.specs.Names.{content_of, entries_in}
use Rattle.wat_bytes.proofs.lister.of_spaces.Given as goal

abbrev pub invariant-loop-at : goal.invariant-loop-at
invariant-loop-at l = map content_of l.lister.listed.items ≡ flat_map (entries_in (items l.fields)) (take l.at l.spaces)
