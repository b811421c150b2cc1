-- The start of a field as the rules have it, without addresses, by that of the code (text format: modules).
--
--   func $f (export "a")      the id $f and the inline export "a"
use Rattle.wat_syntax.specs.Bare.{bare_id_option, bare_name_option}
use Rattle.wat_syntax.specs.BareFields.{bare_exports}
use Rattle.wat_syntax.specs.Modules.{Head}
use Rattle.wat_text.specs.declared.fields.Head as code

abbrev pub bare_head : code.Head → Head
bare_head h = record { span = h.span; id = bare_id_option h.id; name = bare_name_option h.name; exports = bare_exports h.exports }
