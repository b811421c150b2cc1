use Rattle.wat_bytes.proofs.Texts.{is_read, read_ready}
use Rattle.wat_bytes.proofs.modules.read_text.Goals as goal

pub returns-clause-read : goal.returns-clause-read
returns-clause-read c = is_read c.args.text.now c.read.result c.read.ensures.denotes c.read.ensures.refuses c.read.ensures.place

pub returns-clause-ready : goal.returns-clause-ready
returns-clause-ready c = read_ready c.bare_laws.ensures c.args.text.now c.read.result c.read.ensures.denotes
