use Rattle.wast_resolve_laws.proofs.Renamed.{renamed_counts}
use Rattle.wast_resolve_laws.proofs.RenamedSizes.{renamed_filled, renamed_too_large}
use Rattle.wast_resolve_laws.proofs.naming.naming_laws.Goals as goal

pub returns-clause-counts : goal.returns-clause-counts
returns-clause-counts c = renamed_counts

pub returns-clause-filled : goal.returns-clause-filled
returns-clause-filled c = renamed_filled

pub returns-clause-large : goal.returns-clause-large
returns-clause-large c = renamed_too_large
