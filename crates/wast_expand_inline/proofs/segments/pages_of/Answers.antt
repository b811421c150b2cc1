use Rattle.std.proofs.Common.{◌∙◌}
use Rattle.wast_expand_inline.proofs.Pages.{one_page}
use Rattle.wast_expand_inline.proofs.segments.pages_of.Goals as goal

pub returns-else-exponent-lt64 : goal.returns-else-exponent-lt64
returns-else-exponent-lt64 c = c.min.ensures ∙ one_page c.args.count c.args.exponent c.requires c.if-exponent-lt64.false
