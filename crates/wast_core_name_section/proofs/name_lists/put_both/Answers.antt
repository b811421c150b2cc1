use Rattle.std.proofs.Common.{◌∷◌, [], ◌∙◌, refl, arith, ℕ}
use Rattle.std.specs.Prelude.{All}
use Rattle.std.specs.List.{flat_map}
use Rattle.std.proofs.lemmas.Result.{err_from_is_err_and}
use Rattle.wasm_out.specs.NameSectionBytes.{name_entry}
use Rattle.wast_core_name_section.specs.GivenNames.{named_from}
use Rattle.wast_core_name_section.specs.WithinItems.{param_name, local_name}
use Rattle.wast_core_name_section.proofs.NameEntries.{first_refused, second_refused, second_kept, both_entries}
use Rattle.wast_core_name_section.proofs.ListedNames.{both_counted}
use Rattle.wast_core_name_section.proofs.name_lists.put_both.Goals as goal

pub returns-in_err-before-clause-names : goal.returns-in_err-before-clause-names
returns-in_err-before-clause-names g c =
    let params = named_from 0 (flat_map (λ p. param_name p ∷ []) c.args.params.now) in
    let locals = named_from c.args.first (flat_map (λ l. local_name l ∷ []) c.args.locals.now) in
    let p = err_from_is_err_and c.from_residual.result c.from_residual.ensures.1 in
    rw (p.1, p.2) (first_refused ℕ g.S.Sink.rules (λ x. (name_entry x).bytes)
    (λ x. (name_entry x).in_range) c.args.out.now c.put_named.new.out params locals c.in_err-before.field-0.0 g.met.S.Sink.laws
    (c.in_err-before.ensures.names 0 refl))

pub cut-requires : goal.cut-requires
cut-requires g c =
    let params = named_from 0 (flat_map (λ p. param_name p ∷ []) c.args.params.now) in
    let locals = named_from c.args.first (flat_map (λ l. local_name l ∷ []) c.args.locals.now) in
    second_kept ℕ g.S.Sink.rules (All (λ x. (name_entry x).in_range) params)
    (All (λ x. (name_entry x).in_range) locals) c.args.out.now c.put_named.new.out c.put_named-2.new.out
    (flat_map (λ x. (name_entry x).bytes) params) (flat_map (λ x. (name_entry x).bytes) locals) c.in_ok-before.before c.in-Err.refusal c.size-start.result
    g.met.S.Sink.laws (c.in_ok-before.ensures.names 0 refl) (c.in-Err.ensures.names c.args.first (omega arith)) c.size-start.ensures

pub returns-in-Ok-clause-names : goal.returns-in-Ok-clause-names
returns-in-Ok-clause-names g c =
    let params = named_from 0 (flat_map (λ p. param_name p ∷ []) c.args.params.now) in
    let locals = named_from c.args.first (flat_map (λ l. local_name l ∷ []) c.args.locals.now) in
    both_entries g.S.Sink.rules (λ x. (name_entry x).bytes)
    (λ x. (name_entry x).in_range) c.args.out.now c.put_named.new.out c.put_named-2.new.out params locals c.in_ok-before.before c.in-Ok.count
    c.saturating_add.result
    g.met.S.Sink.laws (c.in_ok-before.ensures.names 0 refl) (c.in-Ok.ensures.names c.args.first (omega arith))

pub returns-in-Ok-clause-count : goal.returns-in-Ok-clause-count
returns-in-Ok-clause-count g c =
    let params = flat_map (λ p. param_name p ∷ []) c.args.params.now in
    let locals = flat_map (λ l. local_name l ∷ []) c.args.locals.now in
    c.saturating_add.ensures ∙ both_counted params locals c.args.first c.in_ok-before.before c.in-Ok.count c.in_ok-before.ensures.count c.in-Ok.ensures.count

pub returns-in-Err-clause-names : goal.returns-in-Err-clause-names
returns-in-Err-clause-names g c =
    let params = named_from 0 (flat_map (λ p. param_name p ∷ []) c.args.params.now) in
    let locals = named_from c.args.first (flat_map (λ l. local_name l ∷ []) c.args.locals.now) in
    second_refused g.S.Sink.rules (λ x. (name_entry x).bytes)
    (λ x. (name_entry x).in_range) c.args.out.now c.put_named.new.out c.put_named-2.new.out c.cut.new.self params locals c.in_ok-before.before
    c.in-Err.refusal c.size-start.result
    g.met.S.Sink.laws (c.in_ok-before.ensures.names 0 refl) (c.in-Err.ensures.names c.args.first (omega arith)) c.size-start.ensures c.cut.ensures
