-- The goals of `read_module` that tactics leave open, closed by lemmas of Meant.
use Rattle.wast_script.proofs.Meant.{is_module, is_no_module}
use Rattle.wast_script.proofs.scripts.Script.read_module.Goals as goal

pub returns-in-Ok-clause-denotes : goal.returns-in-Ok-clause-denotes
returns-in-Ok-clause-denotes c = is_module c.args.self.now.tokens.items c.in-Ok.tokens.items c.as_slice.result.now
    c.args.module.now c.last_place-end.result c.in-Ok.ensures c.as_slice.ensures.value c.last_place-end.ensures
    c.read_module_tokens.result c.read_module_tokens.ensures.denotes

pub returns-in-Ok-clause-refuses : goal.returns-in-Ok-clause-refuses
returns-in-Ok-clause-refuses c = is_no_module c.args.self.now.tokens.items c.in-Ok.tokens.items c.as_slice.result.now
    c.args.module.now c.last_place-end.result c.in-Ok.ensures c.as_slice.ensures.value c.last_place-end.ensures
    c.read_module_tokens.result c.read_module_tokens.ensures.refuses
