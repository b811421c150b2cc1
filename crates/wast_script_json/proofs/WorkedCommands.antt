-- Proves the examples of specs/WorkedCommands by computing them.
use Rattle.std.proofs.Common.{refl}
use Rattle.std.specs.Fmt.{digits}
use Rattle.wast_script_json.specs.Json.{escaped, string, id_string, key, member}
use Rattle.wast_script_json.specs.Commands.{typed_as, on_line, head, skipped_head, dependent, place_text, assertion_text, register_text, wait_text}
use Rattle.wast_script_json.specs.WorkedCommands.{WorkedCommands}

pub commands : WorkedCommands
unfolding escaped string id_string key member digits typed_as on_line head skipped_head dependent place_text assertion_text register_text wait_text
commands = (λ n. refl, λ n. refl, refl, refl, refl, refl)
