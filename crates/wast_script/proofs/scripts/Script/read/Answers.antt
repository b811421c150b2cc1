-- The goal of `read` that tactics leave open, closed by a lemma of Meant.
use Rattle.wast_script.specs.Scripts.{module_in, script_tokens}
use Rattle.wast_script.proofs.Meant.{moved}
use Rattle.wast_script.proofs.scripts.Script.read.Goals as goal

pub returns-in-Err-clause-refuses : goal.returns-in-Err-clause-refuses
returns-in-Err-clause-refuses c = moved (module_in (script_tokens c.args.self.now) c.args.module.now)
    c.in-Err.error c.error_within.result c.error_within.ensures.fault c.in-Err.ensures.refuses
