use Rattle.std.proofs.Common.{sym, ◌∙◌}
use Rattle.wast_base.specs.Ids.{name_of, place_of}
use Rattle.wat_bytes.proofs.Listing.{generated_id, written_id}
use Rattle.wat_bytes.proofs.lister.source_id.Goals as goal

pub returns-then-is_gensym : goal.returns-then-is_gensym
returns-then-is_gensym c =
    let id = c.in-Some.id in
    rw c.in-Some.is (sym (generated_id (name_of id) (place_of id) (sym c.is_gensym.ensures ∙ c.if-is_gensym.true)))

pub returns : goal.returns
returns c =
    let id = c.in-Some.id in
    rw c.in-Some.is (sym (written_id (name_of id) (place_of id) (sym c.is_gensym.ensures ∙ c.if-is_gensym.false)))
