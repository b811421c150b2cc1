-- What a module contains, as the code and as the rules have it.
use Rattle.wat_text.specs.Denotes as rule
use Rattle.wat_text.specs.declared.modules.Contents.{Contents}
use Rattle.wat_text.specs.declared.modules.Contents.TheVariants as contents

abbrev pub in_rule : Contents → rule.Contents
in_rule contents.Fields = rule.Fields
in_rule contents.Binary = rule.Binary
in_rule contents.Quotes = rule.Quotes
