use Rattle.std.proofs.Common.{ℕ, refl, sym, ◌∙◌}
use Rattle.wasm_out.specs.NameSectionBytes.{map_entry, name_entry}
use Rattle.wasm_ops.specs.Spelling.{vec, InRangeVec}
use Rattle.wast_core_name_section.specs.declared.name_lists.CountedNames.{CountedNames}
use Rattle.wast_core_name_section.specs.FoundNames.{names_listed, entry_spelling, InRangeEntryOf}
use Rattle.wast_core_name_section.proofs.NameEntries.{entry_as, none_written}
use Rattle.wast_core_name_section.proofs.ListedNames.{is_named, not_named}
use Rattle.wast_core_name_section.proofs.name_lists.put_found.Goals as goal

pub returns-then-not-is_named-clause-written : goal.returns-then-not-is_named-clause-written
returns-then-not-is_named-clause-written g c =
    let l = c.from_first-listed.result in
    let es = names_listed l in
    rw (c.in-Some.is, sym c.from_first-listed.ensures, not_named es (sym c.is_named.ensures ∙ c.if-not-is_named.true))
    (none_written ℕ g.S.Sink.rules (entry_spelling (λ (n : CountedNames). vec (λ x. (name_entry x).bytes) (names_listed n.0)))
    (InRangeEntryOf (λ (n : CountedNames). InRangeVec (λ x. (name_entry x).in_range) (names_listed n.0))) (λ x. (map_entry x).bytes)
    (λ x. (map_entry x).in_range) c.args.out.now c.put_entry.new.out
    c.args.position c.put_entry.result c.put_entry.ensures.written)

pub returns-clause-written : goal.returns-clause-written
returns-clause-written g c =
    let l = c.from_first-listed.result in
    let es = names_listed l in
    rw (c.in-Some.is, sym c.from_first-listed.ensures, is_named es (sym c.is_named.ensures ∙ c.if-not-is_named.false))
    (entry_as g.S.Sink.rules (entry_spelling (λ (n : CountedNames). vec (λ x. (name_entry x).bytes) (names_listed n.0)))
    (InRangeEntryOf (λ (n : CountedNames). InRangeVec (λ x. (name_entry x).in_range) (names_listed n.0))) (λ x. (map_entry x).bytes)
    (λ x. (map_entry x).in_range) c.args.out.now c.put_entry-2.new.out
    (record { 0 = l }) es c.args.position c.put_entry-2.result (λ n. refl) (λ n h. h) (λ n h. h) c.put_entry-2.ensures.written)
