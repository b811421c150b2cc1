-- The goals of `script_of_tokens` that tactics leave open, closed by lemmas of Reading.
use Rattle.std.proofs.Common.{rules, length, refl}
use Rattle.wast_script.proofs.Reading.{is_new, script_made, no_script}
use Rattle.wast_script.proofs.scripts.script_of_tokens.Goals as goal

pub script-requires : goal.script-requires
script-requires c =
    let new = c.new-reader.ensures in
    is_new c.new-reader.result (record { offset = length c.args.text.now }) new.left new.clean new.commands new.values

pub returns-in-Ok-clause-commands : goal.returns-in-Ok-clause-commands
returns-in-Ok-clause-commands c =
    let new = c.new-reader.ensures in
    let made = c.in-Ok.ensures in
    script_made c.args.text.now c.args.tokens c.new-reader.result c.script.new.self c.in-Ok.script
    (record { offset = length c.args.text.now }) new.tokens new.left refl c.script.ensures
    (search rules) made.commands made.values made.lanes made.tokens

pub returns-in-Some-clause-refuses : goal.returns-in-Some-clause-refuses
returns-in-Some-clause-refuses c =
    let new = c.new-reader.ensures in
    no_script c.args.text.now c.args.tokens c.new-reader.result c.script.new.self
    (record { offset = length c.args.text.now }) c.in-Some.fault new.tokens new.left refl c.script.ensures (search rules)
