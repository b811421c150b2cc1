-- The texts of the errors of a run.
--
--   RunError::Memory     out of memory
use Rattle.std.specs.Prelude.{ℕ, List, codes}
use Rattle.wast_rows.specs.declared.errors.RunError.{RunError}
use Rattle.wast_rows.specs.declared.errors.RunError.TheVariants.{Read, Write, Memory}

-- The text of an error.
abbrev pub error_text : RunError → List ℕ
error_text Read = codes "the input could not be read"
error_text Write = codes "the output could not be written"
error_text Memory = codes "out of memory"
