use Rattle.wasm_ops.proofs.Numbers.{unsigned_spells, is_unsigned, unsigned_begins}
use Rattle.wasm_ops.proofs.laws.unsigned_law.Goals as goal

pub returns-clause-exists : goal.returns-clause-exists
returns-clause-exists c = unsigned_spells

pub returns-clause-only : goal.returns-clause-only
returns-clause-only c = is_unsigned

pub returns-clause-begins : goal.returns-clause-begins
returns-clause-begins c = unsigned_begins
