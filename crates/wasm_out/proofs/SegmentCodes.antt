-- The spellings of segments show their value.
use Rattle.std.proofs.Common.{◌≡◌, ◌+◌, ◌*◌, ◌&&◌, ℕ, zero, suc, Bool, true, false, Option, Some, None, List, [], ◌++◌, refl, sym, ap, ◌∙◌, arith}
use Rattle.std.specs.Prelude.{All, IsTrue}
use Rattle.std.specs.List.{list_all}
use Rattle.std.proofs.lemmas.Bool.{eqb-true}
use Rattle.std.proofs.lemmas.List.Elements.{All-head}
use Rattle.wasm_ops.specs.Codes.{IsCode}
use Rattle.wasm_ops.specs.ConstExprs.{HasRowsExpression, IsBalancedExpression, IsExpression, expression}
use Rattle.wasm_ops.specs.Leb128.{unsigned}
use Rattle.wasm_ops.specs.Spelling.{InRangeU32, vec, InRangeVec, name, InRangeName, abstract_byte, Spellable, ref_type}
use Rattle.wasm_ops.specs.Table.{Instr}
use Rattle.wasm_ops.specs.declared.ref_types.AbstractHeapType.{AbstractHeapType}
use Rattle.wasm_ops.specs.declared.ref_types.HeapType.{HeapType}
use Rattle.wasm_ops.specs.declared.ref_types.HeapType.TheVariants as heap
use Rattle.wasm_ops.specs.declared.ref_types.RefType.{RefType}
use Rattle.wasm_ops.proofs.Codes.{index_code, name_code, after_byte, pair_code, vec_code}
use Rattle.wasm_ops.proofs.Everywhere.{all_left, all_right, all_both, all_tested, both_true}
use Rattle.wasm_ops.proofs.ExpressionCodes.{expression_code, is_expression}
use Rattle.wasm_ops.proofs.RefTypeCodes.{front, abstract_is, ref_type_code}
use Rattle.wasm_out.specs.DataSegments.{DataMode, Kept, Placed, DataEntry, data_bytes, data_entry, data_place, data_expressions}
use Rattle.wasm_out.specs.ElementSegments.{ElementItems, Indices, Expressions, ElementMode, Passive, Declared, Active, ElementEntry}
use Rattle.wasm_out.specs.ElementSegments.{kind_of, element_bytes, is_func, is_funcref, has_form, element_entry, element_list}
use Rattle.wasm_out.specs.ElementSegments.{element_place, element_type, table_index, place_expressions, item_expressions}

-- ---- what is asked of a segment of elements

abbrev IsOffset : ElementMode → Type 0
IsOffset Passive = Unit {0}
IsOffset Declared = Unit {0}
IsOffset (Active table offset) = (table_index table).in_range × IsExpression offset

abbrev AreListed : ElementItems → Type 0
AreListed (Indices functions) = InRangeVec InRangeU32 functions
AreListed (Expressions ty expressions) = Spellable (ref_type ty) × InRangeVec IsExpression expressions

record IsSegment (m : ElementMode) (x : ElementItems) : Type 0 where
  form : has_form m (kind_of x) ≡ true
  offset : IsOffset m
  listed : AreListed x

-- expressions that are covered, in range, whose instructions are rows of the table, and in which each block is closed
are_expressions : (es : List (List Instr)) → IsTrue (list_all (λ x. (expression x).is_covered) es) → InRangeVec (λ x. (expression x).in_range) es
    → All HasRowsExpression es → All IsBalancedExpression es → InRangeVec IsExpression es
are_expressions es covered numbers rows balanced =
    let Both : List Instr → Type 0 = λ e. Spellable (expression e) in
    let Closed : List Instr → Type 0 = λ e. HasRowsExpression e × IsBalancedExpression e in
    let both = all_both (λ e. IsTrue (expression e).is_covered) (λ x. (expression x).in_range) Both (λ e p q. (p, q)) es
    (all_tested (λ x. (expression x).is_covered) es covered) numbers.1 in
    let closed = all_both HasRowsExpression IsBalancedExpression Closed (λ e p q. (p, q)) es rows balanced in
    (numbers.0, all_both Both Closed IsExpression (λ e p q. is_expression e p.0 p.1 q.0 q.1) es both closed)

-- ---- a type that is not written

abbrev reference : Bool → HeapType → RefType
reference nullable h = record { nullable = nullable; heap_type = h }

funcref_is : (t u : RefType) → is_funcref t ≡ true → is_funcref u ≡ true → t ≡ u
funcref_is t u p q = by_parts t.nullable u.nullable t.heap_type u.heap_type p q
  where
    func_is : (h k : HeapType) → is_func h ≡ true → is_func k ≡ true → h ≡ k
    func_is (heap.Abstract false a) (heap.Abstract false b) p q =
        let f : AbstractHeapType → HeapType = λ t. heap.Abstract false t in
        ap f (abstract_is a b (eqb-true (abstract_byte a) 0x70 p ∙ sym (eqb-true (abstract_byte b) 0x70 q)))
    func_is h k p q = absurd cc

    by_parts : (m n : Bool) (h k : HeapType) → (m && is_func h) ≡ true → (n && is_func k) ≡ true → reference m h ≡ reference n k
    by_parts true true h k p q = ap (reference true) (func_is h k p q)
    by_parts false n h k p q = absurd cc
    by_parts m false h k p q = absurd cc

-- ---- segments of elements

functions_code : IsCode (List ℕ) (InRangeVec InRangeU32) (vec unsigned)
functions_code = vec_code index_code

expressions_code : IsCode (List (List Instr)) (InRangeVec IsExpression) (vec (λ x. (expression x).bytes))
expressions_code = vec_code expression_code

typed_code : IsCode (RefType × List (List Instr)) (λ p. Spellable (ref_type p.0) × InRangeVec IsExpression p.1)
    (λ p. (ref_type p.0).bytes ++ vec (λ x. (expression x).bytes) p.1)
typed_code = pair_code ref_type_code expressions_code

abbrev segment : ElementMode → ElementItems → ElementEntry
segment m x = record { mode = m; items = x }

abbrev expressions : ElementMode → RefType × List (List Instr) → ElementEntry
expressions m p = segment m (Expressions p.0 p.1)

-- the first byte, by the mode and by the kind
abbrev table_flag : Option ℕ → ℕ
table_flag None = 0
table_flag (Some table) = 1

abbrev mode_flag : ElementMode → ℕ
mode_flag Passive = 1
mode_flag Declared = 3
mode_flag (Active table offset) = 2 * table_flag table

abbrev kind_flag : ElementItems → ℕ
kind_flag (Indices functions) = 0
kind_flag (Expressions ty expressions) = 1

element_front : (m : ElementMode) (x : ElementItems) (r : List ℕ)
    → front (element_bytes m (kind_of x) (element_list x).bytes ++ r) ≡ mode_flag m + 4 * kind_flag x
element_front (Active None offset) (Indices fs) r = refl
element_front Passive (Indices fs) r = refl
element_front (Active (Some table) offset) (Indices fs) r = refl
element_front Declared (Indices fs) r = refl
element_front (Active None offset) (Expressions t es) r = refl
element_front Passive (Expressions t es) r = refl
element_front (Active (Some table) offset) (Expressions t es) r = refl
element_front Declared (Expressions t es) r = refl

element_begins : (m n : ElementMode) (x y : ElementItems) (r s : List ℕ) → IsSegment m x → IsSegment n y
    → element_bytes m (kind_of x) (element_list x).bytes ++ r ≡ element_bytes n (kind_of y) (element_list y).bytes ++ s → (segment m x ≡ segment n y) × (r ≡ s)
element_begins (Active None a) (Active None b) (Indices fs) (Indices gs) r s p q e =
    let one = (after_byte 0x00 (pair_code expression_code functions_code)).begins (a, fs) (b, gs) r s (p.offset.1, p.listed) (q.offset.1, q.listed) e in
    let f : List Instr × List ℕ → ElementEntry = λ t. segment (Active None t.0) (Indices t.1) in
    (ap f one.0, one.1)
element_begins Passive Passive (Indices fs) (Indices gs) r s p q e =
    let one = (after_byte 0x01 (after_byte 0x00 functions_code)).begins fs gs r s p.listed q.listed e in
    let f : List ℕ → ElementEntry = λ t. segment Passive (Indices t) in
    (ap f one.0, one.1)
element_begins (Active (Some t) a) (Active (Some u) b) (Indices fs) (Indices gs) r s p q e =
    let one = (after_byte 0x02 (pair_code index_code (pair_code expression_code (after_byte 0x00 functions_code)))).begins (t, (a, fs))
    (u, (b, gs)) r s (p.offset.0, (p.offset.1, p.listed)) (q.offset.0, (q.offset.1, q.listed)) e in
    let f : ℕ × (List Instr × List ℕ) → ElementEntry = λ t. segment (Active (Some t.0) t.1.0) (Indices t.1.1) in
    (ap f one.0, one.1)
element_begins Declared Declared (Indices fs) (Indices gs) r s p q e =
    let one = (after_byte 0x03 (after_byte 0x00 functions_code)).begins fs gs r s p.listed q.listed e in
    let f : List ℕ → ElementEntry = λ t. segment Declared (Indices t) in
    (ap f one.0, one.1)
element_begins (Active None a) (Active None b) (Expressions t xs) (Expressions u ys) r s p q e =
    let one = (after_byte 0x04 (pair_code expression_code expressions_code)).begins (a, xs) (b, ys) r s (p.offset.1, p.listed.1) (q.offset.1, q.listed.1) e in
    let f : List Instr × List (List Instr) → ElementEntry = λ v. segment (Active None v.0) (Expressions t v.1) in
    let g : RefType → ElementEntry = λ v. segment (Active None b) (Expressions v ys) in
    (ap f one.0 ∙ ap g (funcref_is t u p.form q.form), one.1)
element_begins Passive Passive (Expressions t xs) (Expressions u ys) r s p q e =
    let one = (after_byte 0x05 typed_code).begins (t, xs) (u, ys) r s p.listed q.listed e in
    (ap (expressions Passive) one.0, one.1)
element_begins (Active (Some m) a) (Active (Some n) b) (Expressions t xs) (Expressions u ys) r s p q e =
    let one = (after_byte 0x06 (pair_code index_code (pair_code expression_code typed_code))).begins (m, (a, (t, xs))) (n, (b, (u, ys))) r s
    (p.offset.0, (p.offset.1, p.listed)) (q.offset.0, (q.offset.1, q.listed)) e in
    let f : ℕ × (List Instr × (RefType × List (List Instr))) → ElementEntry = λ v. expressions (Active (Some v.0) v.1.0) v.1.1 in
    (ap f one.0, one.1)
element_begins Declared Declared (Expressions t xs) (Expressions u ys) r s p q e =
    let one = (after_byte 0x07 typed_code).begins (t, xs) (u, ys) r s p.listed q.listed e in
    (ap (expressions Declared) one.0, one.1)
element_begins m n x y r s p q e = absurd (omega (arith, ap front e, element_front m x r, element_front n y s))

is_segment : (m : ElementMode) (x : ElementItems) → IsTrue (element_entry (segment m x)).is_covered → (element_entry (segment m x)).in_range
    → All HasRowsExpression (place_expressions m ++ item_expressions x) → All IsBalancedExpression (place_expressions m ++ item_expressions x) → IsSegment m x
is_segment m x c r h b =
    let one = both_true (has_form m (kind_of x)) ((element_place m).is_covered && ((element_type (kind_of x)).is_covered && (element_list x).is_covered)) c in
    let two = both_true (element_place m).is_covered ((element_type (kind_of x)).is_covered && (element_list x).is_covered) one.1 in
    let three = both_true (element_type (kind_of x)).is_covered (element_list x).is_covered two.1 in
    let front = place_expressions m in
    let rest = item_expressions x in
    record {
      form = one.0;
      offset = offset_of m two.0 r.0 (all_left HasRowsExpression front rest h) (all_left IsBalancedExpression front rest b);
      listed = listed_of x three.0 three.1 r.1 (all_right HasRowsExpression front rest h) (all_right IsBalancedExpression front rest b);
    }
  where
    offset_of : (m : ElementMode) → IsTrue (element_place m).is_covered → (element_place m).in_range → All HasRowsExpression (place_expressions m)
        → All IsBalancedExpression (place_expressions m) → IsOffset m
    offset_of Passive c r h b = tt
    offset_of Declared c r h b = tt
    offset_of (Active table offset) c r h b =
        (r.0, is_expression offset c r.1 (All-head HasRowsExpression offset [] h) (All-head IsBalancedExpression offset [] b))

    listed_of : (x : ElementItems) → IsTrue (element_type (kind_of x)).is_covered → IsTrue (element_list x).is_covered
        → (element_type (kind_of x)).in_range × (element_list x).in_range → All HasRowsExpression (item_expressions x)
        → All IsBalancedExpression (item_expressions x) → AreListed x
    listed_of (Indices fs) c d r h b = r.1
    listed_of (Expressions t es) c d r h b = ((c, r.0), are_expressions es d r.1 h b)

pub record IsSpellableElements (e : ElementEntry) : Type 0 where
  pub in_range : (element_entry e).in_range
  pub covered : IsTrue (element_entry e).is_covered
  pub rows : All HasRowsExpression (place_expressions e.mode ++ item_expressions e.items)
  pub balanced : All IsBalancedExpression (place_expressions e.mode ++ item_expressions e.items)

pub element_code : IsCode ElementEntry IsSpellableElements (λ x. (element_entry x).bytes)
element_code = record {
  begins = λ x y r s p q e. element_begins x.mode y.mode x.items y.items r s (is_segment x.mode x.items p.covered p.in_range p.rows p.balanced)
      (is_segment y.mode y.items q.covered q.in_range q.rows q.balanced) e;
}

-- ---- segments of data

abbrev IsPlaced : DataMode → Type 0
IsPlaced Kept = Unit {0}
IsPlaced (Placed memory offset) = InRangeU32 memory × IsExpression offset

abbrev data_segment : DataMode → List ℕ → DataEntry
data_segment m bytes = record { mode = m; bytes = bytes }

offset_and_bytes : IsCode (List Instr × List ℕ) (λ p. IsExpression p.0 × InRangeName p.1) (λ p. (expression p.0).bytes ++ name p.1)
offset_and_bytes = pair_code expression_code name_code

data_begins : (m n : DataMode) (x y : List ℕ) (r s : List ℕ) → IsPlaced m × InRangeName x → IsPlaced n × InRangeName y
    → data_bytes m x ++ r ≡ data_bytes n y ++ s → (data_segment m x ≡ data_segment n y) × (r ≡ s)
data_begins (Placed zero a) (Placed zero b) x y r s p q e =
    let one = (after_byte 0x00 offset_and_bytes).begins (a, x) (b, y) r s (p.0.1, p.1) (q.0.1, q.1) e in
    let f : List Instr × List ℕ → DataEntry = λ t. data_segment (Placed 0 t.0) t.1 in
    (ap f one.0, one.1)
data_begins Kept Kept x y r s p q e =
    let one = (after_byte 0x01 name_code).begins x y r s p.1 q.1 e in
    (ap (data_segment Kept) one.0, one.1)
data_begins (Placed (suc m) a) (Placed (suc n) b) x y r s p q e =
    let one = (after_byte 0x02 (pair_code index_code offset_and_bytes)).begins (suc m, (a, x)) (suc n, (b, y)) r s (p.0.0, (p.0.1, p.1))
    (q.0.0, (q.0.1, q.1)) e in
    let f : ℕ × (List Instr × List ℕ) → DataEntry = λ t. data_segment (Placed t.0 t.1.0) t.1.1 in
    (ap f one.0, one.1)
data_begins Kept (Placed zero b) x y r s p q e = absurd (omega (arith, ap front e))
data_begins Kept (Placed (suc n) b) x y r s p q e = absurd (omega (arith, ap front e))
data_begins (Placed zero a) n x y r s p q e = absurd (omega (arith, ap front e))
data_begins (Placed (suc m) a) n x y r s p q e = absurd (omega (arith, ap front e))

is_placed : (m : DataMode) → IsTrue (data_place m).is_covered → (data_place m).in_range → All HasRowsExpression (data_expressions m)
    → All IsBalancedExpression (data_expressions m) → IsPlaced m
is_placed Kept c r h b = tt
is_placed (Placed memory offset) c r h b =
    (r.0, is_expression offset c r.1 (All-head HasRowsExpression offset [] h) (All-head IsBalancedExpression offset [] b))

pub record IsSpellableData (d : DataEntry) : Type 0 where
  pub in_range : (data_entry d).in_range
  pub covered : IsTrue (data_entry d).is_covered
  pub rows : All HasRowsExpression (data_expressions d.mode)
  pub balanced : All IsBalancedExpression (data_expressions d.mode)

pub data_code : IsCode DataEntry IsSpellableData (λ x. (data_entry x).bytes)
data_code = record {
  begins = λ x y r s p q e. data_begins x.mode y.mode x.bytes y.bytes r s (is_placed x.mode p.covered p.in_range.0 p.rows p.balanced, p.in_range.1)
      (is_placed y.mode q.covered q.in_range.0 q.rows q.balanced, q.in_range.1) e;
}
