use Rattle.std.proofs.Common.{◌≡◌, ◌∷◌, [], ◌+◌, ◌∙◌, length, take, drop, sym, ap, subst, arith, length-append, Ok, ℕ}
use Rattle.std.specs.List.{flat_map}
use Rattle.wasm_out.specs.NameSectionBytes.{name_entry}
use Rattle.wast_core_name_section.specs.FoundNames.{saturated_count, text_seen, item_seen, WritesItems}
use Rattle.wast_core_name_section.specs.GivenNames.{named_from}
use Rattle.wast_core_name_section.proofs.Each.{each_more, each_around}
use Rattle.wast_core_name_section.proofs.NameEntries.{names_after, names_kept, names_back, count_more}
use Rattle.wast_core_name_section.proofs.names_each.put_named.Goals as goal

pub cut-requires : goal.cut-requires
cut-requires g c =
    let f = g.T.MayHaveName.names in
    let i = c.loop-part.invariant in
    names_kept g.S.Sink.rules (λ x. (name_entry x).bytes) (λ x. (name_entry x).in_range) c.args.out.now c.loop-part.out c.put_name.new.out
    (flat_map f (take c.loop-part.part-index c.args.parts.now))
    (text_seen c.in-Some.given ∷ []) c.args.first c.loop-part.position c.size-start.result c.loop-part.count c.in-Err.refusal
    g.met.S.Sink.laws (omega arith) i.written i.next c.in-Err.ensures.written i.at

pub returns-in-Err-clause-names : goal.returns-in-Err-clause-names
returns-in-Err-clause-names g c =
    let f = g.T.MayHaveName.names in
    let xs = c.args.parts.now in
    let k = c.loop-part.part-index in
    let x = c.part-item.result in
    let i = c.loop-part.invariant in
    let one = text_seen c.in-Some.given ∷ [] in
    let is : one ≡ f x = sym (ap item_seen c.in-Some.is) ∙ c.item-item.ensures in
    names_back g.S.Sink.rules (λ x. (name_entry x).bytes)
    (λ x. (name_entry x).in_range) c.args.out.now c.loop-part.out c.put_name.new.out c.cut.new.self (flat_map f (take k xs)) one
    (flat_map f (drop (k + 1) xs)) (flat_map f xs) c.args.first c.loop-part.position c.size-start.result c.loop-part.count c.in-Err.refusal
    g.met.S.Sink.laws (each_around f xs k x one c.loop-part-test.true c.part-item.is is) i.written i.next c.in-Err.ensures.written i.at c.cut.ensures

pub loop-part-preserved : goal.loop-part-preserved
loop-part-preserved g c =
    let rules = g.S.Sink.rules in
    let f = g.T.MayHaveName.names in
    let xs = c.args.parts.now in
    let k = c.loop-part.part-index in
    let x = c.part-item.result in
    let names = flat_map f (take k xs) in
    let i = c.loop-part.invariant in
    let one = text_seen c.in-Some.given ∷ [] in
    let is : one ≡ f x = sym (ap item_seen c.in-Some.is) ∙ c.item-item.ensures in
    let more = each_more f xs k x one c.loop-part-test.true c.part-item.is is in
    record {
      written = subst (λ z. WritesItems {R = ℕ} rules (λ x. (name_entry x).bytes)
          (λ x. (name_entry x).in_range) z c.args.first c.args.out.now c.put_name.new.out (Ok c.saturating_add-count.result)) (sym more)
          (names_after rules (λ x. (name_entry x).bytes)
          (λ x. (name_entry x).in_range) c.args.out.now c.loop-part.out c.put_name.new.out names one c.args.first c.loop-part.position
          c.loop-part.count c.in-Ok.next c.saturating_add-count.result g.met.S.Sink.laws i.written i.next c.in-Ok.ensures.written);
      next = let now = c.in-Ok.ensures.next in let before = i.next in omega (arith, ap length more, length-append names one);
      count = c.saturating_add-count.ensures ∙ count_more names one c.loop-part.count c.names_in.result i.count (c.names_in.ensures
          ∙ ap (λ item. saturated_count (length (named_from 0 (item_seen item)))) c.in-Some.is)
          ∙ ap (λ z. saturated_count (length (named_from 0 z))) (sym more);
      at = i.at;
    }
