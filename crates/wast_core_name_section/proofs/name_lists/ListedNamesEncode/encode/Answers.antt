use Rattle.std.proofs.lemmas.Result.{err_from_is_err_and}
use Rattle.wast_core_name_section.proofs.name_lists.ListedNamesEncode.encode.Goals as goal

pub returns-in_err-put_listed : goal.returns-in_err-put_listed
returns-in_err-put_listed g c =
    let p = err_from_is_err_and c.from_residual.result c.from_residual.ensures.1 in
    rw (p.1, p.2) c.in_err-put_listed.ensures.names
