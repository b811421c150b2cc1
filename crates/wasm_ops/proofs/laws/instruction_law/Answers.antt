use Rattle.wasm_ops.proofs.ExpressionCodes.{end_row, expression_code}
use Rattle.wasm_ops.proofs.InstrCodes.{table_distinct, table_apart, instr_code}
use Rattle.wasm_ops.proofs.laws.instruction_law.Goals as goal

pub returns-clause-distinct : goal.returns-clause-distinct
returns-clause-distinct c = table_distinct

pub returns-clause-apart : goal.returns-clause-apart
returns-clause-apart c = table_apart

pub returns-clause-instructions : goal.returns-clause-instructions
returns-clause-instructions c = instr_code

pub returns-clause-end : goal.returns-clause-end
returns-clause-end c = end_row

pub returns-clause-expressions : goal.returns-clause-expressions
returns-clause-expressions c = expression_code
