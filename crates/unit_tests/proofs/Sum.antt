-- Computes that the bytes of the example are read as its sections.
use Rattle.std.proofs.Common.{◌≡◌, ℕ, ◌<◌, true, List, [], ◌∷◌, ◌++◌, codes, refl, ap, ◌∙◌, arith}
use Rattle.std.specs.Prelude.{All, IsTrue, nat_lt}
use Rattle.std.specs.List.{flat_map, list_all}
use Rattle.std.specs.Str.{is_utf8}
use Rattle.std.proofs.lemmas.Bool.{ltb-true}
use Rattle.std.proofs.lemmas.List.Elements.{All-nil, All-from_recursion}
use Rattle.std.proofs.lemmas.Str.{is_utf8-from_IsUtf8}
use lib.Utf8.{encode}
use Rattle.wasm_ops.specs.ConstExprs.{HasRowsExpression, IsBalancedExpression}
use Rattle.wasm_ops.specs.Leb128.{unsigned, unsigned_in}
use Rattle.wasm_ops.specs.Spelling.{InRangeU32, InRangeVec, sub_type, val_type}
use Rattle.wasm_ops.specs.declared.types.ValType.TheVariants as val
use Rattle.wasm_ops.specs.Table.{HasRow, instr}
use Rattle.wasm_ops.specs.Table as rows
use Rattle.wasm_ops.proofs.Everywhere.{all_one, all_tested}
use Rattle.wasm_out.specs.Parts.{Types, Functions, Exports, Code, InRangeEntry, InRangePart, part, section, body, Custom, payload, export_entry}
use Rattle.wasm_out.specs.Built.{Built, built_with, empty, behind_count}
use Rattle.wasm_out.specs.Readable.{IsReadable, IsReadablePart}
use Rattle.wasm_out.specs.Reads.{header, Reads}
use Rattle.unit_tests.specs.SumModule.{sum_type, sum_instrs, sum_body, sum_export, sum_module}

-- Each number of a list is below a bound, if the test of the list is true.
below : (bound : ℕ) (xs : List ℕ) → list_all (λ x. nat_lt x bound) xs ≡ true → All (λ x. x < bound) xs
below bound xs e = λ k d lt. ltb-true _ _ (all_tested (λ x. nat_lt x bound) xs e k d lt)

-- A list of no items is in range, and a list of one.
none : {A : Type 0} (P : A → Type 0) → InRangeVec P []
none P = (omega arith, All-nil P)

one : {A : Type 0} (P : A → Type 0) (x : A) → P x → InRangeVec P (x ∷ [])
one P x h = (omega arith, all_one P x h)

in_range : All InRangePart sum_module
unfolding unsigned unsigned_in
in_range = All-from_recursion InRangePart sum_module (
  (
    omega arith,
    one (InRangeEntry Types) _ (
      none InRangeU32,
      (
        (omega arith, All-from_recursion (λ x. (val_type x).in_range) (val.I32 ∷ val.I32 ∷ []) (tt, (tt, tt))),
        one
            (λ x. (val_type x).in_range) val.I32 tt,
      ),
    ),
  ),
  (
    (omega arith, one (InRangeEntry Functions) _ (omega arith)),
    (
      (omega arith, one (InRangeEntry Exports) _ (omega arith, omega arith)),
      (
        (
          omega arith,
          one (InRangeEntry Code) _ (
            omega arith,
            (
              none (λ x. (val_type x).in_range),
              All-from_recursion (λ x. (instr x).in_range) sum_instrs
                  ((omega arith, tt), ((omega arith, tt), (tt, tt))),
            ),
          ),
        ),
        ((omega arith, omega arith), tt),
      ),
    ),
  ),
)

sum_is_text : is_utf8 (codes "sum") ≡ true
unfolding encode
sum_is_text = is_utf8-from_IsUtf8 (codes "sum") (codes "sum", (refl, refl))

made_is_text : is_utf8 (codes "made") ≡ true
unfolding encode
made_is_text = is_utf8-from_IsUtf8 (codes "made") (codes "made", (refl, refl))

abbrev IsText : List ℕ → Type 0
IsText text = IsTrue (is_utf8 text)

readable : All IsReadablePart sum_module
unfolding rows.kinds_of rows.table
readable = All-from_recursion IsReadablePart sum_module (
  all_one (IsReadable Types) _ (record { covered = refl; rows = All-nil HasRowsExpression; balanced = All-nil IsBalancedExpression; name = All-nil IsText }),
  (
    all_one (IsReadable Functions) _ (record {
      covered = refl;
      rows = All-nil HasRowsExpression;
      balanced = All-nil IsBalancedExpression;
      name = All-nil IsText;
    }),
    (
      all_one (IsReadable Exports) _ (record {
        covered = refl;
        rows = All-nil HasRowsExpression;
        balanced = All-nil IsBalancedExpression;
        name = all_one IsText (codes "sum") sum_is_text;
      }),
      (
        all_one (IsReadable Code) _ (record {
          covered = refl;
          rows = all_one HasRowsExpression sum_instrs (All-from_recursion HasRow sum_instrs (refl, (refl, (refl, tt))));
          balanced = All-nil IsBalancedExpression;
          name = All-nil IsText;
        }),
        (made_is_text, tt),
      ),
    ),
  ),
)

-- The header and the sections are read as the module.
pub sum_reads : Reads (header ++ flat_map part sum_module) sum_module
unfolding unsigned unsigned_in
sum_reads = record { in_range = in_range; readable = readable; spelled = refl; are_bytes = below 256 (header ++ flat_map part sum_module) refl }

-- A builder without items, after one item is added.
pub added : {old new : Built} {item : List ℕ} → old ≡ empty → new ≡ built_with old item → new ≡ built_with empty item
added {item = item} e f = f ∙ ap (λ b. built_with b item) e

-- A section after the sections before it.
pub appended : (id : ℕ) {front old new p q : List ℕ} → old ≡ front → p ≡ q → new ≡ old ++ section id p → new ≡ front ++ section id q
appended id {front = front} {p = p} e f g = g ∙ ap (λ l. l ++ section id p) e ∙ ap (λ payload. front ++ section id payload) f

-- The sections, one after another.
pub joined : ((((header ++ section 1 (behind_count (built_with empty (sub_type sum_type).bytes))) ++ section 3
    (behind_count (built_with empty (unsigned 0)))) ++ section 7 (behind_count (built_with empty (export_entry sum_export).bytes))) ++ section 10
    (behind_count (built_with empty (body sum_body)))) ++ section 0 (payload Custom (record { name = codes "made"; bytes = codes "by hand" })).bytes
    ≡ header ++ flat_map part sum_module
unfolding unsigned unsigned_in
joined = refl
