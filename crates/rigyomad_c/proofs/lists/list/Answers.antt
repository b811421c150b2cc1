use Rattle.std.proofs.Common.{◌≡◌, arith, ◌∙◌, sym, ap}
use Rattle.rigyomad_c.specs.Lists.{bytes_of, names_from}
use Rattle.rigyomad_c.proofs.Listing.{names_go_on, bytes_go_on, names_end, bytes_end}
use Rattle.rigyomad_c.proofs.lists.list.Goals as goal

pub loop-denoted-preserved : goal.loop-denoted-preserved
loop-denoted-preserved c =
    let all = c.args.all.now in
    let i = c.loop-denoted.denoted-index in
    let names = c.loop-denoted.names.items in
    let bytes = c.loop-denoted.bytes.items in
    let before = c.loop-denoted.invariant in
    record {
      names = rw (c.in_ok-add.ensures.names, c.in_ok-add.ensures.bytes) (names_go_on all i _ c.loop-denoted-test.true names bytes
          (names_from 0 all) before.names);
      bytes = rw (c.in_ok-add.ensures.bytes) (bytes_go_on all i _ c.loop-denoted-test.true bytes (bytes_of all) before.bytes);
    }

pub returns-clause-names : goal.returns-clause-names
returns-clause-names c =
    names_end c.args.all.now c.loop-denoted.denoted-index (omega (arith, c.loop-denoted-test.false)) c.loop-denoted.names.items _
    (names_from 0 c.args.all.now) c.loop-denoted.invariant.names

pub returns-clause-bytes : goal.returns-clause-bytes
returns-clause-bytes c =
    bytes_end c.args.all.now c.loop-denoted.denoted-index (omega (arith, c.loop-denoted-test.false)) c.loop-denoted.bytes.items
    (bytes_of c.args.all.now) c.loop-denoted.invariant.bytes
