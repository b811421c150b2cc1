use Rattle.std.proofs.Common.{◌≡◌, subst, arith}
use Rattle.std.specs.Prelude.{IfOk}
use Rattle.std.specs.List.{flat_map}
use Rattle.wast_core_name_section.specs.FoundNames.{saturated_count}
use Rattle.wast_core_name_section.specs.WithinItems.{label_in}
use Rattle.wast_core_name_section.proofs.NameEntries.{as_many}
use Rattle.wast_core_name_section.proofs.name_lists.put_labels.Goals as goal

pub returns-clause-names : goal.returns-clause-names
returns-clause-names g c = c.put_named.ensures.names c.args.first (omega arith)

pub returns-clause-count : goal.returns-clause-count
returns-clause-count g c =
    subst (λ m. IfOk c.put_named.result (λ n. n ≡ saturated_count m)) (as_many 0 c.args.first (flat_map label_in c.args.instrs.now)) c.put_named.ensures.count
