use Rattle.std.proofs.Common.{[], ◌∷◌, ◌++◌, refl, ap, ◌∙◌}
use Rattle.wasm_ops.specs.Spelling.{val_type}
use Rattle.wasm_ops.proofs.Codes.{spellable_vec}
use Rattle.wasm_out.specs.Bodies.{locals, IsSpellableContent}
use Rattle.wasm_out.proofs.Building.{spells_body}
use Rattle.unit_tests.specs.SumModule.{sum_instrs, sum_body}
use Rattle.unit_tests.proofs.writing.body.Goals as goal

pub raw-requires : goal.raw-requires
raw-requires c = record {
  list = sum_instrs;
  in_range = c.in_ok-instructions.ensures.rows;
  spelled = c.deref.ensures.value
      ∙ c.in_ok-instructions.ensures.bytes;
}

pub returns-clause-spells : goal.returns-clause-spells
returns-clause-spells c =
    let fits : IsSpellableContent sum_body = record {
      locals = spellable_vec val_type [] refl c.in_ok-body.ensures.1;
      instrs = c.in_ok-instructions.ensures.rows;
    } in
    let told = c.in_ok-end.ensures.0 ∙ ap (λ l. l ++ (0x0b ∷ []))
    (c.in_ok-raw.ensures.0 ∙ ap (λ l. l ++ c.deref.result.now) c.in_ok-body.ensures.0 ∙ ap (λ l. locals [] ++ l) (c.deref.ensures.value
    ∙ c.in_ok-instructions.ensures.bytes)) in
    spells_body sum_body c.end.new.self fits told
