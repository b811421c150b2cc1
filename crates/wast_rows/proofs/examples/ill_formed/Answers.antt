use Rattle.wast_rows.proofs.Worked.{lines_of_ill_formed}
use Rattle.wast_rows.proofs.examples.ill_formed.Goals as goal

pub returns : goal.returns
returns c = lines_of_ill_formed
