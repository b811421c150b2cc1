use Rattle.std.proofs.Common.{refl}
use Rattle.wasm_out.specs.NameSectionBytes.{name_entry}
use Rattle.wasm_ops.specs.declared.encode.Name.{Name}
use Rattle.wasm_ops.specs.Spelling.{name, InRangeName}
use Rattle.wast_core_name_section.specs.FoundNames.{entry_spelling, InRangeEntryOf}
use Rattle.wast_core_name_section.proofs.NameEntries.{entry_as}
use Rattle.wast_core_name_section.proofs.name_maps.put_name.Goals as goal

pub returns-in-Some-clause-written : goal.returns-in-Some-clause-written
returns-in-Some-clause-written g c =
    rw c.in-Some.is (entry_as g.S.Sink.rules (entry_spelling (λ (n : Name). name n.0.now)) (InRangeEntryOf (λ (n : Name). InRangeName n.0.now))
    (λ x. (name_entry x).bytes) (λ x. (name_entry x).in_range) c.args.out.now c.put_entry-in-Some.new.out _ c.in-Some.text.now c.args.position
    c.put_entry-in-Some.result
    (λ n. refl) (λ n h. h) (λ n h. h) c.put_entry-in-Some.ensures.written)
