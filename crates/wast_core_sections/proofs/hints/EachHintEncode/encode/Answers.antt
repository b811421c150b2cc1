use Rattle.std.proofs.Common.{◌≡◌, true, ◌+◌, length, take, drop, sym, ap, subst, refl, arith, length-append, Ok, ℕ}
use Rattle.std.specs.List.{flat_map}
use Rattle.std.proofs.lemmas.List.{take_all}
use Rattle.wast_base.proofs.ListTests.{item_passes}
use Rattle.wast_core_name_section.specs.FoundNames.{WritesItems}
use Rattle.wast_core_name_section.proofs.Each.{each_more, each_around}
use Rattle.wast_core_name_section.proofs.NameEntries.{names_after, names_kept, names_back}
use Rattle.wast_core_sections.specs.Hints.{hinted_function, InRangeHinted}
use Rattle.wast_core_sections.proofs.hints.EachHintEncode.encode.Goals as goal

pub put_hints-requires : goal.put_hints-requires
put_hints-requires g c =
    let ready = g.F.PutHints.is_ready in
    subst (λ x. ready x ≡ true) (sym c.field-item.is)
    (item_passes ready c.args.self.now.0.now c.loop-field.field-index c.field-item.result c.loop-field-test.true c.requires)

pub cut-requires : goal.cut-requires
cut-requires g c =
    let f = g.F.PutHints.functions in
    let i = c.loop-field.invariant in
    names_kept g.S.Sink.rules hinted_function InRangeHinted c.args.out.now c.loop-field.out c.put_hints.new.out
    (flat_map f (take c.loop-field.field-index c.args.self.now.0.now))
    (f c.field-item.result) 0 c.loop-field.index c.size-start.result c.loop-field.index c.in-Err.refusal
    g.met.S.Sink.laws (omega arith) i.written i.next c.in-Err.ensures.written i.at

pub returns-in-Err : goal.returns-in-Err
returns-in-Err g c =
    let f = g.F.PutHints.functions in
    let xs = c.args.self.now.0.now in
    let k = c.loop-field.field-index in
    let x = c.field-item.result in
    let i = c.loop-field.invariant in
    names_back {R = ℕ} g.S.Sink.rules hinted_function InRangeHinted c.args.out.now c.loop-field.out c.put_hints.new.out c.cut.new.self
    (flat_map f (take k xs)) (f x) (flat_map f (drop (k + 1) xs))
    (flat_map f xs) 0 c.loop-field.index c.size-start.result c.loop-field.index c.in-Err.refusal
    g.met.S.Sink.laws (each_around f xs k x (f x) c.loop-field-test.true c.field-item.is refl) i.written i.next c.in-Err.ensures.written i.at
    c.cut.ensures 0 (omega arith)

pub loop-field-preserved : goal.loop-field-preserved
loop-field-preserved g c =
    let rules = g.S.Sink.rules in
    let f = g.F.PutHints.functions in
    let xs = c.args.self.now.0.now in
    let k = c.loop-field.field-index in
    let x = c.field-item.result in
    let names = flat_map f (take k xs) in
    let i = c.loop-field.invariant in
    let more = each_more f xs k x (f x) c.loop-field-test.true c.field-item.is refl in
    record {
      written = subst (λ z. WritesItems {R = ℕ} rules hinted_function InRangeHinted z 0 c.args.out.now c.put_hints.new.out (Ok c.in-Ok.next)) (sym more)
          (names_after rules hinted_function InRangeHinted c.args.out.now c.loop-field.out c.put_hints.new.out names
          (f x) 0 c.loop-field.index c.loop-field.index c.in-Ok.next c.in-Ok.next g.met.S.Sink.laws i.written i.next c.in-Ok.ensures.written);
      next = let now = c.in-Ok.ensures.next in let before = i.next in omega (arith, ap length more, length-append names (f x));
      at = i.at;
    }

pub returns : goal.returns
returns g c =
    let all = take_all c.loop-field.field-index c.args.self.now.0.now (omega (arith, c.loop-field-test.false)) in
    subst (λ xs. WritesItems {R = ℕ} g.S.Sink.rules hinted_function InRangeHinted
    (flat_map g.F.PutHints.functions xs) 0 c.args.out.now c.loop-field.out (Ok c.loop-field.index)) all c.loop-field.invariant.written 0 (omega arith)
