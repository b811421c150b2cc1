-- Proves FinishedIsWrittenOut: resolving adds no inline part.
use Rattle.std.proofs.Common.{◌∙◌}
use Rattle.wast_tree_map.proofs.Alone.{written_alone}
use Rattle.wast_expand_keys.specs.Expanded.{expanded_fields}
use Rattle.wast_expand_types.proofs.InPlace.{stays_written_out}
use Rattle.wast_resolve_rules.specs.Scopes.{module_scope}
use Rattle.wast_resolve_rules.specs.Resolved.{numbering_change}
use Rattle.wast_resolve_laws.proofs.OfExpanded.{StaysWrittenOut}

pub numbered_written_out : StaysWrittenOut
numbered_written_out n fields = written_alone (numbering_change (module_scope (expanded_fields n fields))) (expanded_fields n fields)
    ∙ stays_written_out n fields
