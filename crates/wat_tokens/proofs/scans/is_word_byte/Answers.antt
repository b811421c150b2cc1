-- Closes the look-up: the table is compared with the rule at each of its 256 places, by computing.
use Rattle.std.proofs.Common.{refl, arith}
use Rattle.wat_grammar.specs.Tokens.{is_idchar}
use Rattle.wat_tokens.specs.declared.scans.TheConstants.{WORD_BYTES}
use Rattle.wat_tokens.proofs.Tables.{whole_table}
use Rattle.wat_tokens.proofs.scans.is_word_byte.Goals as goal

pub returns : goal.returns
returns c = whole_table is_idchar c.args.byte WORD_BYTES refl refl (omega arith)
