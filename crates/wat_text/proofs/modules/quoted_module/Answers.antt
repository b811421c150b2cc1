-- The goals of `quoted_module` that tactics leave open, closed by lemmas of Opened.
use Rattle.std.proofs.Common.{rules, refl}
use Rattle.std.proofs.lemmas.Result.{err_from_is_err_and}
use Rattle.wat_text.proofs.Opened.{quotes_ok, quotes_err}
use Rattle.wat_text.proofs.modules.quoted_module.Goals as goal

pub returns : goal.returns
returns c = quotes_ok c.args.source.now c.args.head c.args.reader c.skip.new.self
    c.quotes-quotes.new.self c.module_end.new.self c.new-inner.result c.module_head-keyword.new.self
    c.place-place.result c.module_place-span.result c.as_slice.result.now c.quotes-quotes.result.items c.in_ok-tokens.tokens.items c.module_head-keyword.result
    (record { keyword = c.module_head-keyword.result.keyword; id = c.or-id.result; name = c.or-name.result }) c.module_of_fields.result
    c.place-place.ensures c.skip.ensures.left c.skip.ensures.fault c.skip.ensures.make c.quotes-quotes.ensures c.module_end.ensures
    (c.finish.ensures.clean (search rules))
    (search rules) c.in_ok-tokens.ensures c.new-inner.ensures.left c.new-inner.ensures.clean c.module_head-keyword.ensures
    refl c.or-id.ensures c.or-name.ensures c.module_place-span.ensures c.module_of_fields.ensures

pub returns-in_err-tokens : goal.returns-in_err-tokens
returns-in_err-tokens c =
    let p = err_from_is_err_and c.from_residual.result c.from_residual.ensures.1 in
    rw (p.1, p.2) (quotes_err c.args.source.now c.args.head c.args.reader c.skip.new.self c.quotes-quotes.new.self
    c.module_end.new.self c.place-place.result c.as_slice.result.now c.quotes-quotes.result.items
    c.in_err-tokens.field-0.0 c.place-place.ensures c.skip.ensures.left c.skip.ensures.fault c.skip.ensures.make
    c.quotes-quotes.ensures c.module_end.ensures (c.finish.ensures.clean (search rules))
    (search rules) c.in_err-tokens.ensures)
