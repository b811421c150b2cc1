use Rattle.std.proofs.Common.{refl, inr, arith}
use Rattle.std.specs.List.{flat_map}
use Rattle.wast_core_name_section.specs.GivenNames.{named_from}
use Rattle.wast_core_name_section.proofs.NameMaps.{map_counted, no_map, map_put}
use Rattle.wast_core_name_section.proofs.name_maps.put_map.Goals as goal

pub returns-then-count-eq0 : goal.returns-then-count-eq0
returns-then-count-eq0 g c =
    let es = named_from 0 (flat_map (g.W.NameItems.items c.args.way) c.args.parts.now) in
    no_map g.S.Sink.rules g.W.NameItems.entry g.W.NameItems.in_range c.args.out.now es c.args.id c.args.count g.met.S.Sink.laws c.requires c.if-count-eq0.true

pub returns-in_default : goal.returns-in_default
returns-in_default g c =
    let es = named_from 0 (flat_map (g.W.NameItems.items c.args.way) c.args.parts.now) in (
      g.met.S.Sink.laws.none c.args.out.now,
      inr
          (refl, λ h. c.in_default.ensures (map_counted g.W.NameItems.entry g.W.NameItems.in_range es c.args.count c.requires (omega arith) h)),
    )

pub returns : goal.returns
returns g c =
    let es = named_from 0 (flat_map (g.W.NameItems.items c.args.way) c.args.parts.now) in
    let small = c.in-Ok.ensures in
    let counted = c.requires in
    map_put g.S.Sink.rules g.W.NameItems.entry g.W.NameItems.in_range c.args.out.now c.encode.new.out es c.args.id c.in-Ok.count c.encode.result
    (omega arith) (omega arith) c.encode.ensures
