use Rattle.std.proofs.Common.{◌≡◌, ◌++◌, drop, length}
use Rattle.rigyomad_c.specs.Lists.{bytes_of, names_from}
use Rattle.rigyomad_c.proofs.lists.list.Given as goal

abbrev pub invariant-loop-denoted : goal.invariant-loop-denoted
invariant-loop-denoted l = record {
  names : l.names.items ++ names_from (length l.bytes.items) (drop l.denoted-index l.all) ≡ names_from 0 l.all;
  bytes : l.bytes.items ++ bytes_of (drop l.denoted-index l.all) ≡ bytes_of l.all;
}
