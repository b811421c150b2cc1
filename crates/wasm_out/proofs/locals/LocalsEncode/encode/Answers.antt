use Rattle.std.proofs.Common.{rules, ◌≡◌, List, [], ◌∷◌, length, map, refl, sym, ap, ◌∙◌, subst, arith, append-nil}
use Rattle.std.specs.List.{All}
use Rattle.std.proofs.lemmas.List.{length-map}
use Rattle.std.proofs.lemmas.List.Elements.{All-nil}
use Rattle.wasm_ops.specs.Leb128.{unsigned}
use Rattle.wasm_ops.specs.Spelling.{InRangeU32, InRangeVec, val_type}
use Rattle.wasm_ops.proofs.Sinking.{written_as}
use Rattle.wasm_out.specs.Bodies.{locals, local_runs, local_run}
use Rattle.wasm_out.proofs.LocalRuns.{few_runs, runs_in_range, types_in_range}
use Rattle.wasm_out.proofs.locals.LocalsEncode.encode.Goals as goal

none_there : {X : Type 0} (xs : List X) → length xs ≡ 0 → xs ≡ []
none_there [] e = refl
none_there (x ∷ xs) e = absurd (omega (arith, e))

pub returns-then-is_empty : goal.returns-then-is_empty
returns-then-is_empty g c =
    let ty = g.W.LocalType.ty c.args.self.now.1 in
    let xs = c.args.self.now.0.now in
    let none : length xs ≡ 0 = search rules in
    let empty = sym (none_there xs none) in
    written_as g.S.Sink.rules (Unit {0}) (InRangeVec (λ x. (val_type x).in_range) (map ty xs)) c.args.out.now c.push_number.new.self (unsigned 0)
    (locals (map ty xs)) c.push_number.result
    (λ u. subst (λ ys. InRangeVec (λ x. (val_type x).in_range) (map ty ys)) empty (omega arith, All-nil (λ x. (val_type x).in_range))) (λ i. tt)
    (sym (append-nil (unsigned 0)) ∙ ap (λ ys. locals (map ty ys)) empty) c.push_number.ensures

pub returns : goal.returns
returns g c =
    let ty = g.W.LocalType.ty c.args.self.now.1 in
    let xs = c.args.self.now.0.now in
    let types = map ty xs in
    let few : InRangeU32 (length xs) = search rules in
    let runs = local_runs types in
    written_as g.S.Sink.rules (All (λ x. (local_run x).in_range) runs)
    (InRangeVec (λ x. (val_type x).in_range) types) c.args.out.now c.put_locals.new.out (locals types) (locals types) c.put_locals.result
    (λ p. types_in_range (λ x. (val_type x).in_range) types (subst InRangeU32 (sym (length-map xs ty)) few) (omega (arith, few_runs ty xs, few), p))
    (λ p. (runs_in_range (λ x. (val_type x).in_range) types p).1)
    refl c.put_locals.ensures
