-- The branch hints of a body: counting the bytes before each hint gives the offsets that the definition has.
use Rattle.std.proofs.Common.{◌≡◌, ℕ, ◌+◌, ◌-◌, ◌≤◌, ◌<◌, ◌^◌, ◌⊎◌, true, ◌&&◌, List, [], ◌∷◌, ◌++◌, map, length, take, drop, get_or}
use Rattle.std.proofs.Common.{slice_range, Result, Ok, Err, is_err, false, inl, inr, refl, sym, ap, ◌∙◌, subst, arith, length-append}
use Rattle.std.specs.Prelude.{All, IfOk, nat_le, nat_lt}
use Rattle.std.specs.List.{flat_map, list_all}
use Rattle.std.proofs.lemmas.Bool.{leb-true, le-leb, ltb-true}
use Rattle.std.proofs.lemmas.Grind.{flat_map-append}
use Rattle.std.proofs.lemmas.List.{drop_more, length-map, take-map, take-append-drop}
use Rattle.std.proofs.lemmas.List.Elements.{All-append, All-map}
use Rattle.std.proofs.lemmas.List.Folds.{flat_map-map, drop_split}
use lib.Seq.{take-add}
use Rattle.wasm_ops.specs.Leb128.{unsigned}
use Rattle.wasm_ops.specs.Sinks.{SinkRules, Writes, AppendLaws}
use Rattle.wasm_ops.specs.Spelling.{InRangeU32, vec}
use Rattle.wasm_ops.specs.Table.{instrs, instr}
use Rattle.wasm_ops.specs.declared.sink.Refusal.{Refusal}
use Rattle.wasm_ops.specs.declared.sink.Refusal.TheVariants as refusal
use Rattle.wasm_ops.proofs.Everywhere.{all_right, all_unmap}
use Rattle.wasm_ops.proofs.Sinking.{puts_as, written_as}
use Rattle.wasm_out.specs.Bodies.{Body, locals}
use Rattle.wasm_out.specs.Hints.{branch_hint}
use Rattle.wast_tree_nodes.specs.Clauses.{is_hint_in_order, stand_from, hints_stand}
use Rattle.wast_tree_nodes.specs.Sites.{in_local}
use Rattle.wast_core_conv.specs.Tree.{BranchHint, Instruction, Expression, Local}
use Rattle.wast_core_conv.specs.Tree.func
use Rattle.wast_core_conv.specs.Encodable.{are_encodable, is_encodable_instr, is_encodable_kind}
use Rattle.wast_core_conv.specs.Hints.{bytes_before, hint_at, as_branch_hint, InRangeHintOf, InRangeHintsOf, are_encodable_hints}
use Rattle.wast_core_conv.specs.Meaning as meaning
use Rattle.wast_core_conv.proofs.EachPasses.{both_pass, both_true, both_lists}
use Rattle.wast_core_conv.proofs.Standing.{body_parts}

-- ---- Hints that are on instructions.

-- The first hint, and those after it.
pub record Stands (count first : ℕ) (h : BranchHint) (hs : List BranchHint) : Type 0 where
  pub behind : first ≤ h.instr_index
  pub inside : h.instr_index < count
  pub value : h.value < 2
  pub rest : stand_from count (h.instr_index + 1) hs ≡ true

pub first_stands : (count first : ℕ) (h : BranchHint) (hs : List BranchHint) → stand_from count first (h ∷ hs) ≡ true → Stands count first h hs
first_stands count first h hs e =
    let whole = both_pass (is_hint_in_order count first h) (stand_from count (h.instr_index + 1) hs) e in
    let parts = both_pass (nat_le first h.instr_index) (nat_lt h.instr_index count && nat_lt h.value 2) whole.0 in
    let more = both_pass (nat_lt h.instr_index count) (nat_lt h.value 2) parts.1 in
    record {
      behind = leb-true first h.instr_index parts.0;
      inside = ltb-true h.instr_index count more.0;
      value = ltb-true h.value 2 more.1;
      rest = whole.1;
    }

-- The hint at an index.
pub hint_stands : (count first : ℕ) (hs : List BranchHint) (k : ℕ) (d : BranchHint) → k < length hs → stand_from count first (drop k hs) ≡ true
    → Stands count first (get_or hs k d) (drop (k + 1) hs)
hint_stands count first hs k d lt e = first_stands count first (get_or hs k d) (drop (k + 1) hs) (ap (stand_from count first) (sym (drop_more hs k d lt)) ∙ e)

-- Hints that are on instructions from one index on also are from the index before it on.
pub stand_sooner : (count first : ℕ) (hs : List BranchHint) → stand_from count (first + 1) hs ≡ true → stand_from count first hs ≡ true
stand_sooner count first [] e = refl
stand_sooner count first (h ∷ hs) e =
    let it = first_stands count (first + 1) h hs e in
    let parts = both_pass (is_hint_in_order count (first + 1) h) (stand_from count (h.instr_index + 1) hs) e in
    let more = both_pass (nat_le (first + 1) h.instr_index) (nat_lt h.instr_index count && nat_lt h.value 2) parts.0 in
    both_true (is_hint_in_order count first h) (stand_from count (h.instr_index + 1) hs)
    (both_true (nat_le first h.instr_index) (nat_lt h.instr_index count && nat_lt h.value 2)
    (le-leb first h.instr_index (omega (arith, it.behind))) more.1) it.rest

-- The body of a function whose hints may be encoded.
pub record Parts (ls : List Local) (e : Expression) : Type 0 where
  pub locals : list_all (λ l. are_encodable (in_local l)) ls ≡ true
  pub instrs : list_all is_encodable_instr e.instrs ≡ true
  pub hints : stand_from (length e.instrs) 0 e.branch_hints ≡ true

pub hinted_parts : (ls : List Local) (e : Expression) → are_encodable_hints (func.Inline ls e) ≡ true → Parts ls e
hinted_parts ls e h =
    let both = both_pass (is_encodable_kind (func.Inline ls e)) (hints_stand e) h in
    let body = body_parts ls e both.0 in
    record { locals = body.0; instrs = body.1; hints = both.1 }

-- ---- The bytes before an instruction.

-- The bytes before an index are those before an earlier one, and those between the two.
up_to : {A : Type 0} (xs : List A) (n i : ℕ) → n ≤ i → take i xs ≡ take n xs ++ slice_range xs n i
up_to xs n i le = let whole : n + (i - n) ≡ i = omega arith in ap (λ k. take k xs) (sym whole) ∙ take-add n (i - n) xs

abbrev pub spelled : List Instruction → List ℕ
spelled is = flat_map (λ i. (instr (meaning.as_instr i)).bytes) is

abbrev pub InRangeSpelled : List Instruction → Type 0
InRangeSpelled is = All (λ i. (instr (meaning.as_instr i)).in_range) is

before_is : (is : List Instruction) (i : ℕ) → instrs (take i (map meaning.as_instr is)) ≡ spelled (take i is)
before_is is i = ap (flat_map (λ x. (instr x).bytes)) (take-map meaning.as_instr i is) ∙ flat_map-map (λ x. (instr x).bytes) meaning.as_instr (take i is)

pub counted_before : (ls : List Local) (is : List Instruction) (n i before : ℕ) → n ≤ i → before ≡ length (bytes_before (meaning.body_of ls is) n)
    → before + length (spelled (slice_range is n i)) ≡ length (bytes_before (meaning.body_of ls is) i)
counted_before ls is n i before le at =
    let b = meaning.body_of ls is in
    omega (
      arith,
      at,
      length-append (locals b.locals) (instrs (take n b.instrs)),
      length-append (locals b.locals) (instrs (take i b.instrs)),
      ap (λ (bs : List ℕ). length bs) (before_is is n),
      ap (λ (bs : List ℕ). length bs) (before_is is i),
      ap (λ js. length (spelled js)) (up_to is n i le),
      ap (λ (bs : List ℕ). length bs) (flat_map-append (λ j. (instr (meaning.as_instr j)).bytes) (take n is) (slice_range is n i)),
      length-append (spelled (take n is)) (spelled (slice_range is n i)),
    )

in_range_between : (is : List Instruction) (n i : ℕ) → n ≤ i → All (λ x. (instr x).in_range) (take i (map meaning.as_instr is))
    → InRangeSpelled (slice_range is n i)
in_range_between is n i le h =
    let here = all_unmap (λ x. (instr x).in_range) meaning.as_instr (take i is) (subst (All (λ x. (instr x).in_range)) (take-map meaning.as_instr i is) h) in
    all_right (λ j. (instr (meaning.as_instr j)).in_range) (take n is) (slice_range is n i) (subst InRangeSpelled (up_to is n i le) here)

pub in_range_joined : (is : List Instruction) (n i : ℕ) → n ≤ i → All (λ x. (instr x).in_range) (take n (map meaning.as_instr is))
    → InRangeSpelled (slice_range is n i) → All (λ x. (instr x).in_range) (take i (map meaning.as_instr is))
in_range_joined is n i le h k =
    let first = all_unmap (λ x. (instr x).in_range) meaning.as_instr (take n is) (subst (All (λ x. (instr x).in_range)) (take-map meaning.as_instr n is) h) in
    let all = subst InRangeSpelled (sym (up_to is n i le)) (All-append (λ j. (instr (meaning.as_instr j)).in_range) (take n is) (slice_range is n i) first k) in
    subst (All (λ x. (instr x).in_range)) (sym (take-map meaning.as_instr i is)) (All-map (λ x. (instr x).in_range) meaning.as_instr (take i is) all)

-- The instructions between them may be encoded.
pub between_ready : (is : List Instruction) (n i : ℕ) → n ≤ i → list_all is_encodable_instr is ≡ true → list_all is_encodable_instr (slice_range is n i) ≡ true
between_ready is n i le h =
    let later = (both_lists is_encodable_instr (take n is) (drop n is) (ap (list_all is_encodable_instr) (take-append-drop n is) ∙ h)).1 in
    (both_lists is_encodable_instr (slice_range is n i) (drop i is) (ap (list_all is_encodable_instr) (sym (drop_split is n i le)) ∙ later)).0

-- ---- One hint.

-- The result was no error.
pub if_no_error : {A E : Type 0} (P : Type 0) (r : Result A E) → is_err r ≡ false → IfOk r (λ x. P) → P
if_no_error P (Ok x) good h = h
if_no_error P (Err e) good h = absurd cc

pub written_in_range : {S A : Type 0} (rules : SinkRules S) (in_range : Type 0) (a b : S) (x : List ℕ) (r : Result A Refusal)
    → Writes rules in_range a b x r → is_err r ≡ false → in_range
written_in_range rules in_range a b x (Ok t) p good = p.1
written_in_range rules in_range a b x (Err e) p good = absurd cc

-- The bytes before the hint were not counted, because they are out of range.
pub uncounted : {S : Type 0} (rules : SinkRules S) (a : S) (n more value : ℕ) (InRange : Type 0) (e : Refusal) → AppendLaws rules
    → ((e ≡ refusal.TooLarge) × (n + more < 2 ^ 64 → ⊥)) ⊎ ((e ≡ refusal.TooLarge) × (InRange → ⊥))
    → Writes {A = Unit {0}} rules (InRange × (branch_hint (hint_at (n + more) value)).in_range) a a (branch_hint (hint_at (n + more) value)).bytes (Err e)
uncounted rules a n more value InRange e laws r = (
  laws.none a,
  elim r [
    | inl q ↦ inr (q.0, λ h. let few : InRangeU32 (n + more) = h.1.0 in q.1 (omega arith))
    | inr q ↦ inr (q.0, λ h. q.1 h.0)
  ],
)

-- The hint was counted and written.
pub counted_hint : {S A : Type 0} (rules : SinkRules S) (a b : S) (m n value : ℕ) (InRange : Type 0) (r : Result A Refusal) → m ≡ n → InRange
    → Writes rules (branch_hint (hint_at m value)).in_range a b (branch_hint (hint_at m value)).bytes r
    → Writes rules (InRange × (branch_hint (hint_at n value)).in_range) a b (branch_hint (hint_at n value)).bytes r
counted_hint rules a b m n value InRange r is counts p =
    puts_as rules (branch_hint (hint_at n value)).in_range (InRange × (branch_hint (hint_at n value)).in_range) a b
    (branch_hint (hint_at n value)).bytes r (λ h. (counts, h)) (λ h. h.1)
    (subst (λ k. Writes rules (branch_hint (hint_at k value)).in_range a b (branch_hint (hint_at k value)).bytes r) is p)

-- It is the hint of the body.
pub hint_written : {S A : Type 0} (rules : SinkRules S) (a b : S) (ls : List Local) (is : List Instruction) (h : BranchHint) (n before : ℕ)
    (r : Result A Refusal)
    → n ≤ h.instr_index → before ≡ length (bytes_before (meaning.body_of ls is) n) → All (λ x. (instr x).in_range) (take n (map meaning.as_instr is))
    → Writes rules (InRangeSpelled (slice_range is n h.instr_index) ×
    (branch_hint (hint_at (before + length (spelled (slice_range is n h.instr_index))) h.value)).in_range) a b
    (branch_hint (hint_at (before + length (spelled (slice_range is n h.instr_index))) h.value)).bytes r
    → Writes rules (InRangeHintOf (meaning.body_of ls is) h) a b (branch_hint (as_branch_hint (meaning.body_of ls is) h)).bytes r
hint_written rules a b ls is h n before r le counts first p =
    let body = meaning.body_of ls is in
    let between = slice_range is n h.instr_index in
    let whole = length (bytes_before body h.instr_index) in
    puts_as rules (InRangeSpelled between × (branch_hint (hint_at whole h.value)).in_range) (InRangeHintOf body h) a b
    (branch_hint (hint_at whole h.value)).bytes r
    (λ q. (in_range_joined is n h.instr_index le first q.0, q.1)) (λ q. (in_range_between is n h.instr_index le q.0, q.1))
    (subst (λ k. Writes rules (InRangeSpelled between × (branch_hint (hint_at k h.value)).in_range) a b (branch_hint (hint_at k h.value)).bytes r)
    (counted_before ls is n h.instr_index before le counts) p)

-- ---- All hints of a body.

pub hints_written : {S A : Type 0} (rules : SinkRules S) (a b : S) (body : Body) (hs : List BranchHint) (count : ℕ) (r : Result A Refusal) → count ≡ length hs
    → Writes rules (InRangeU32 count × InRangeHintsOf body hs) a b (unsigned count ++ flat_map (λ h. (branch_hint (as_branch_hint body h)).bytes) hs) r
    → Writes rules (InRangeU32 (length hs) × InRangeHintsOf body hs) a b (vec (λ x. (branch_hint x).bytes) (map (as_branch_hint body) hs)) r
hints_written rules a b body hs count r is p =
    written_as rules (InRangeU32 count × InRangeHintsOf body hs) (InRangeU32 (length hs) × InRangeHintsOf body hs) a b
    (unsigned count ++ flat_map (λ h. (branch_hint (as_branch_hint body h)).bytes) hs) (vec (λ x. (branch_hint x).bytes) (map (as_branch_hint body) hs)) r
    (λ h. (subst InRangeU32 is h.0, h.1)) (λ h. (subst InRangeU32 (sym is) h.0, h.1))
    (ap (λ (n : ℕ). unsigned n ++ flat_map (λ h. (branch_hint (as_branch_hint body h)).bytes) hs) (is ∙ sym (length-map hs (as_branch_hint body)))
    ∙ ap (λ (bs : List ℕ). unsigned (length (map (as_branch_hint body) hs)) ++ bs) (sym (flat_map-map (λ x. (branch_hint x).bytes) (as_branch_hint body) hs))) p
