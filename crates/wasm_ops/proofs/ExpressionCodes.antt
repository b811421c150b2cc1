-- The spellings of constant expressions show their value: they go up to the first end outside of all blocks.
use Rattle.std.proofs.Common.{◌≡◌, ℕ, true, List, [], ◌∷◌, ◌++◌, IsTrue, Some, refl, sym, ap, ◌∙◌, subst, append_assoc, append-nil}
use Rattle.std.specs.Prelude.{All}
use Rattle.std.proofs.lemmas.List.Concat.{flat_map-cons}
use Rattle.std.proofs.lemmas.List.Elements.{All-head, All-tail}
use Rattle.wasm_ops.specs.Codes.{IsCode, IsWhole}
use Rattle.wasm_ops.specs.ConstExprs.{HasRowsExpression, IsBalancedExpression, IsExpression, expression}
use Rattle.wasm_ops.specs.ControlInstrs.{delimiter_instr}
use Rattle.wasm_ops.specs.Table.{Instr, instrs, table, kinds_of, HasRow, IsInstr, instr}
use Rattle.wasm_ops.specs.Turns.{are_balanced}
use Rattle.wasm_ops.specs.declared.control.Delimiter.TheVariants as delimiter
use Rattle.wasm_ops.specs.declared.opcodes.Opcode.TheVariants.{Byte}
use Rattle.wasm_ops.proofs.Balance.{end_beyond}
use Rattle.wasm_ops.proofs.Codes.{filled_whole, ended_whole}
use Rattle.wasm_ops.proofs.Everywhere.{all_both, all_tested}
use Rattle.wasm_ops.proofs.InstrCodes.{instr_code, instr-nonempty}

-- the byte that ends an expression is a row
pub end_row : kinds_of (Byte 0x0b) table ≡ Some []
unfolding kinds_of table
end_row = refl

abbrev end : Instr
end = delimiter_instr delimiter.End

is_end : IsInstr end
is_end = record { row = end_row; numbers = tt; covered = refl }

abbrev ending : List ℕ
ending = 0x0b ∷ []

-- the first instruction, and the rest of the expression
first_and_rest : (i : Instr) (is : List Instr) (r : List ℕ) → (expression (i ∷ is)).bytes ++ r ≡ (instr i).bytes ++ ((expression is).bytes ++ r)
first_and_rest i is r =
    ap (λ l. (l ++ ending) ++ r) (flat_map-cons (λ x. (instr x).bytes) i is)
    ∙ ap (λ l. l ++ r) (append_assoc (instr i).bytes (instrs is) ending)
    ∙ append_assoc (instr i).bytes (expression is).bytes r

-- where one expression ends, the other has no end of a block: behind the same front each block is closed
ends_alone : (front ys : List Instr) (y : Instr) (r s : List ℕ) → IsInstr y → are_balanced front ≡ true → are_balanced (front ++ (y ∷ ys)) ≡ true
    → (expression []).bytes ++ r ≡ (expression (y ∷ ys)).bytes ++ s → ⊥
ends_alone front ys y r s p b c e =
    let one = instr_code.begins end y r ((expression ys).bytes ++ s) is_end p (e ∙ first_and_rest y ys s) in
    end_beyond front ys end refl b (subst (λ i. are_balanced (front ++ (i ∷ ys)) ≡ true) (sym one.0) c)

abbrev one_more : List Instr → Instr → List Instr
one_more front i = front ++ (i ∷ [])

expression_begins : (front xs ys : List Instr) (r s : List ℕ) → All IsInstr xs → All IsInstr ys → are_balanced (front ++ xs) ≡ true
    → are_balanced (front ++ ys) ≡ true → (expression xs).bytes ++ r ≡ (expression ys).bytes ++ s → (xs ≡ ys) × (r ≡ s)
expression_begins front [] [] r s p q b c e = (refl, cc)
expression_begins front [] (y ∷ ys) r s p q b c e =
    absurd (ends_alone front ys y r s (All-head IsInstr y ys q) (subst (λ l. are_balanced l ≡ true) (append-nil front) b) c e)
expression_begins front (x ∷ xs) [] r s p q b c e =
    absurd (ends_alone front xs x s r (All-head IsInstr x xs p) (subst (λ l. are_balanced l ≡ true) (append-nil front) c) b (sym e))
expression_begins front (x ∷ xs) (y ∷ ys) r s p q b c e =
    let one = instr_code.begins x y ((expression xs).bytes ++ r) ((expression ys).bytes ++ s) (All-head IsInstr x xs p) (All-head IsInstr y ys q)
    (sym (first_and_rest x xs r) ∙ e ∙ first_and_rest y ys s) in
    let same = one.0 in
    let first = subst (λ l. are_balanced l ≡ true) (sym (append_assoc front (x ∷ []) xs)) b in
    let second = subst (λ l. are_balanced l ≡ true) (sym (append_assoc front (y ∷ []) ys)) c in
    let two = expression_begins (one_more front x) xs ys r s (All-tail IsInstr x xs p) (All-tail IsInstr y ys q) first
    (subst (λ i. are_balanced (one_more front i ++ ys) ≡ true) (sym same) second) one.1 in
    let rest = two.0 in
    (cc, two.1)

pub expression_code : IsCode (List Instr) IsExpression (λ x. (expression x).bytes)
expression_code = record { begins = λ xs ys r s p q e. expression_begins [] xs ys r s p.instrs q.instrs p.balanced q.balanced e }

-- instructions that fill what stands before the last byte, whether each block in them is closed or not
pub content_code : IsWhole (List Instr) (All IsInstr) (λ x. (expression x).bytes)
content_code = ended_whole 0x0b (filled_whole (λ i p. instr-nonempty i) instr_code)

-- instructions that are covered, in range and rows of the table
pub are_instrs : (is : List Instr) → IsTrue (expression is).is_covered → (expression is).in_range → HasRowsExpression is → All IsInstr is
are_instrs is covered numbers rows =
    let Both : Instr → Type 0 = λ i. IsTrue (instr i).is_covered × (instr i).in_range in
    let both = all_both (λ i. IsTrue (instr i).is_covered) (λ x. (instr x).in_range) Both (λ i p q. (p, q)) is
    (all_tested (λ x. (instr x).is_covered) is covered) numbers in
    all_both Both HasRow IsInstr (λ i p q. record { row = q; numbers = p.1; covered = p.0 }) is both rows

-- the same, and each block is closed
pub is_expression : (is : List Instr) → IsTrue (expression is).is_covered → (expression is).in_range → HasRowsExpression is → IsBalancedExpression is
    → IsExpression is
is_expression is covered numbers rows balanced = record { instrs = are_instrs is covered numbers rows; balanced = balanced }
