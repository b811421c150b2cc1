-- The loop of `all_fields`: the rule has the same result from all tokens as from the tokens that are left, with the parts so far.
use Rattle.std.proofs.Common.{◌-◌, map}
use Rattle.wat_syntax.specs.Tokens.{many_lists, with_parts, is_form}
use Rattle.wat_tokens.specs.declared.words.Key.TheVariants as key
use Rattle.wat_syntax.specs.Types.{struct_field, all_fields}
use Rattle.wat_syntax.specs.Bare.{bare_struct_field}
use Rattle.wat_text.specs.Readers.{left}
use Rattle.wat_text.proofs.Steps.{Steps}
use Rattle.wat_text.proofs.reader.Reader.all_fields.Given as goal

abbrev pub invariant-loop : goal.invariant-loop
invariant-loop l = Steps l.fn.self l.self (with_parts (map bare_struct_field l.fn.fields) (all_fields (left l.fn.self)))
    (with_parts (map bare_struct_field l.fields) (many_lists (is_form key.Field) struct_field (l.end - l.counter) (left l.self)))
