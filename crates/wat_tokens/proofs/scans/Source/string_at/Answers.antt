-- Closes both ways to a string, with and without its escapes: the search does not find the type of what keeps them.
use Rattle.std.proofs.Common.{◌+◌, refl}
use Rattle.wat_tokens.proofs.Parts.{written_string, kept_string}
use Rattle.wat_tokens.proofs.scans.Source.string_at.Goals as goal

pub returns-in-None : goal.returns-in-None
returns-in-None c = written_string c.args.self.now.strings c.args.self.now.text.now c.rest-rest.result.now c.args.begin c.in-Some.count
    (c.args.begin + c.in-Some.count + 1)
    c.in-None.is c.rest-rest.ensures c.requires.begin refl c.in-Some.ensures.1 c.in-Some.ensures.0

pub returns-in-Ok : goal.returns-in-Ok
returns-in-Ok c = kept_string c.args.self.now.strings c.in-Some-strings.strings c.args.self.now.text.now c.rest-rest.result.now c.args.begin
    c.in-Some.count (c.args.begin + c.in-Some.count + 1)
    c.in-Ok.bytes.now c.in-Some-strings.is c.rest-rest.ensures c.requires.begin refl c.in-Some.ensures.1 c.in-Some.ensures.0 c.in-Ok.ensures.read
