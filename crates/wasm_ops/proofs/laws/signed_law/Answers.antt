use Rattle.wasm_ops.proofs.SignedNumbers.{signed_spells, is_signed, signed_begins}
use Rattle.wasm_ops.proofs.laws.signed_law.Goals as goal

pub returns-clause-exists : goal.returns-clause-exists
returns-clause-exists c = signed_spells

pub returns-clause-only : goal.returns-clause-only
returns-clause-only c = is_signed

pub returns-clause-begins : goal.returns-clause-begins
returns-clause-begins c = signed_begins
