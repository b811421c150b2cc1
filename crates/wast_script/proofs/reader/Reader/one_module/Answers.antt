-- The goal of `one_module` that tactics leave open, closed by a lemma of Commanding.
use Rattle.wast_script.proofs.Commanding.{module_alone}
use Rattle.wast_script.proofs.reader.Reader.one_module.Goals as goal

pub returns : goal.returns
returns c = module_alone c.args.self.now c.push_command.new.self c.lone_module-module.result c.requires c.lone_module-module.ensures c.push_command.ensures
