use Rattle.std.proofs.Common.{◌+◌, length, take, drop, sym, ap, subst, refl, arith, length-append, Ok, ℕ}
use Rattle.std.specs.List.{flat_map}
use Rattle.wast_core_name_section.specs.FoundNames.{WritesItems}
use Rattle.wast_core_name_section.proofs.Each.{each_more, each_around}
use Rattle.wast_core_name_section.proofs.NameEntries.{names_after, names_kept, names_back}
use Rattle.wast_core_name_section.proofs.name_maps.put_each.Goals as goal

pub cut-requires : goal.cut-requires
cut-requires g c =
    let f = g.W.NameItems.items c.args.way.now in
    let i = c.loop-part.invariant in
    names_kept g.S.Sink.rules g.W.NameItems.entry g.W.NameItems.in_range c.args.out.now c.loop-part.out c.put.new.out
    (flat_map f (take c.loop-part.part-index c.args.parts.now))
    (f c.part-item.result) c.args.first c.loop-part.position c.size-start.result c.loop-part.position c.in-Err.refusal
    g.met.S.Sink.laws (omega arith) i.written i.next c.in-Err.ensures.written i.at

pub returns-in-Err-clause-written : goal.returns-in-Err-clause-written
returns-in-Err-clause-written g c =
    let f = g.W.NameItems.items c.args.way.now in
    let xs = c.args.parts.now in
    let k = c.loop-part.part-index in
    let x = c.part-item.result in
    let i = c.loop-part.invariant in
    names_back g.S.Sink.rules g.W.NameItems.entry g.W.NameItems.in_range c.args.out.now c.loop-part.out c.put.new.out c.cut.new.self
    (flat_map f (take k xs)) (f x) (flat_map f (drop (k + 1) xs))
    (flat_map f xs) c.args.first c.loop-part.position c.size-start.result c.loop-part.position c.in-Err.refusal
    g.met.S.Sink.laws (each_around f xs k x (f x) c.loop-part-test.true c.part-item.is refl) i.written i.next c.in-Err.ensures.written i.at c.cut.ensures

pub loop-part-preserved : goal.loop-part-preserved
loop-part-preserved g c =
    let rules = g.S.Sink.rules in
    let f = g.W.NameItems.items c.args.way.now in
    let xs = c.args.parts.now in
    let k = c.loop-part.part-index in
    let x = c.part-item.result in
    let names = flat_map f (take k xs) in
    let i = c.loop-part.invariant in
    let more = each_more f xs k x (f x) c.loop-part-test.true c.part-item.is refl in
    record {
      written = subst (λ z. WritesItems {R = ℕ} rules g.W.NameItems.entry g.W.NameItems.in_range z c.args.first c.args.out.now c.put.new.out
          (Ok c.in-Ok.next)) (sym more)
          (names_after rules g.W.NameItems.entry g.W.NameItems.in_range c.args.out.now c.loop-part.out c.put.new.out names
          (f x) c.args.first c.loop-part.position c.loop-part.position c.in-Ok.next c.in-Ok.next g.met.S.Sink.laws i.written i.next
          c.in-Ok.ensures.written);
      next = let now = c.in-Ok.ensures.next in let before = i.next in omega (arith, ap length more, length-append names (f x));
      at = i.at;
    }
