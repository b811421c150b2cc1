use Rattle.std.proofs.Common.{ℕ, List, sym, ◌∙◌, take, get_or, subst, arith}
use Rattle.std.specs.List.{flat_map}
use Rattle.std.proofs.lemmas.List.{get_or_default, take_all}
use Rattle.std.proofs.lemmas.List.Folds.{length-flat_map-take}
use Rattle.wasm_ops.proofs.Sinking.{cut_back, one_item_more}
use Rattle.wasm_out.specs.Parts.{part}
use Rattle.wast_core_sections.specs.Writable.{InRangeSlot}
use Rattle.wast_core_sections.specs.Sections.{in_slot}
use Rattle.wast_core_name_section.specs.FoundNames.{text_seen}
use Rattle.std.specs.Prelude.{All}
use Rattle.wast_core_sections.specs.declared.slots.Slot.{Slot}
use Rattle.wast_core_sections.specs.declared.slots.Slot.TheVariants as slot
use Rattle.wast_core_sections.specs.Tree.custom_place as at
use Rattle.wast_core_sections.proofs.sections.put_slots.Goals as goal

pub returns-then-is_err : goal.returns-then-is_err
returns-then-is_err g c =
    let rules = g.S.Sink.rules in
    let xs = c.args.slots.now in
    let k = c.loop-slot.slot-index in
    let f : Slot → List ℕ = λ s. flat_map part (in_slot (text_seen c.args.name) c.args.fields.now s) in
    let fits : Slot → Type 0 = λ s. InRangeSlot (text_seen c.args.name) c.args.fields.now s in
    let x = flat_map f (take k xs) in
    let it = get_or xs k (slot.Custom at.BeforeFirst) in
    cut_back rules (All fits xs) (fits it) c.args.out.now c.loop-slot.out c.put_slot-result.new.out c.cut.new.self x (f it)
    (flat_map f xs) c.size-start.result c.put_slot-result.result
    g.met.S.Sink.laws (length-flat_map-take f xs k (slot.Custom at.BeforeFirst) c.loop-slot-test.true)
    (λ t. t k (slot.Custom at.BeforeFirst) c.loop-slot-test.true) c.loop-slot.invariant.told c.put_slot-result.ensures
    (sym c.is_err.ensures.value ∙ c.if-is_err.true) c.size-start.ensures c.cut.ensures

pub loop-slot-preserved : goal.loop-slot-preserved
loop-slot-preserved g c =
    let rules = g.S.Sink.rules in
    let xs = c.args.slots.now in
    let k = c.loop-slot.slot-index in
    let it = get_or xs k (slot.Custom at.BeforeFirst) in
    let i = c.loop-slot.invariant in
    let more = one_item_more rules (λ s. flat_map part (in_slot (text_seen c.args.name) c.args.fields.now s))
    (λ s. InRangeSlot (text_seen c.args.name) c.args.fields.now s) c.args.out.now c.loop-slot.out c.put_slot-result.new.out xs k it c.put_slot-result.result
    g.met.S.Sink.laws c.loop-slot-test.true
    (get_or_default xs k (slot.Custom at.BeforeFirst) it c.loop-slot-test.true) i.told i.fitting c.put_slot-result.ensures
    (sym c.is_err.ensures.value ∙ c.if-is_err.false) in
    record { told = more.0; fitting = more.1; at = i.at }

pub returns : goal.returns
returns g c =
    let f : Slot → List ℕ = λ s. flat_map part (in_slot (text_seen c.args.name) c.args.fields.now s) in
    let fits : Slot → Type 0 = λ s. InRangeSlot (text_seen c.args.name) c.args.fields.now s in
    let i = c.loop-slot.invariant in
    let all = take_all c.loop-slot.slot-index c.args.slots.now (omega (arith, c.loop-slot-test.false)) in
    (subst (λ xs. g.S.Sink.rules.appended c.args.out.now c.loop-slot.out (flat_map f xs)) all i.told, subst (λ xs. All fits xs) all i.fitting)
