use Rattle.std.proofs.Common.{◌≡◌, length, take}
use Rattle.std.specs.List.{flat_map}
use Rattle.wast_core_name_section.specs.FoundNames.{saturated_count}
use Rattle.wast_core_name_section.specs.GivenNames.{named_from}
use Rattle.wast_core_name_section.proofs.within.count_lists.Given as goal

abbrev pub invariant-loop-part : goal.invariant-loop-part
invariant-loop-part g l = l.sum ≡ saturated_count
    (length (named_from 0 (flat_map (g.T.CountLists.lists (flat_map g.T.FieldTypes.types l.fields) l.within) (take l.part-index l.there))))
