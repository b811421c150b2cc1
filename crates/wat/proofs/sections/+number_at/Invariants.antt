-- What decreases in the calls of `number_at`: how many bytes a number may have.
use Rattle.wat.proofs.sections.+number_at.Given as goal

abbrev pub decreases-number_at : goal.decreases-number_at
decreases-number_at l = l.most
