use Rattle.std.proofs.Common.{◌≡◌, ◌+◌, length, Ok}
use Rattle.std.specs.Prelude.{take}
use Rattle.std.specs.List.{flat_map}
use Rattle.wasm_out.specs.NameSectionBytes.{name_entry}
use Rattle.wast_core_name_section.specs.FoundNames.{saturated_count, WritesItems}
use Rattle.wast_core_name_section.specs.GivenNames.{named_from}
use Rattle.wast_core_name_section.proofs.names_each.put_named.Given as goal

abbrev pub invariant-loop-part : goal.invariant-loop-part
invariant-loop-part g l =
    let items = flat_map g.T.MayHaveName.names (take l.part-index l.parts) in
    record {
      written : WritesItems g.S.Sink.rules (λ x. (name_entry x).bytes) (λ x. (name_entry x).in_range) items l.first l.fn.out l.out (Ok l.count);
      next : l.position ≡ saturated_count (l.first + length items);
      count : l.count ≡ saturated_count (length (named_from 0 items));
      at : l.start ≡ g.S.Sink.rules.size_of l.fn.out;
    }
