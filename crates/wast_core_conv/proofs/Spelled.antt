-- Parts that are written one after another have the bytes of their list.
use Rattle.std.proofs.Common.{◌≡◌, ◌==◌, ◌&&◌, Option, ℕ, Bool, true, false, length, map, List, [], ◌∷◌, ◌++◌, append-nil, Result, refl, sym, ap, ◌∙◌, subst}
use Rattle.std.specs.Prelude.{All, None, Some, unwrap_or}
use Rattle.std.specs.List.{flat_map}
use Rattle.std.proofs.lemmas.List.Folds.{flat_map-map}
use Rattle.std.proofs.lemmas.List.Elements.{All-map}
use Rattle.std.proofs.lemmas.List.{length-map}
use Rattle.wasm_ops.specs.declared.sink.Refusal.{Refusal}
use Rattle.wasm_ops.specs.Leb128.{unsigned}
use Rattle.wasm_ops.specs.Sinks.{SinkRules, Writes}
use Rattle.wasm_ops.specs.declared.types.ValType as ops
use Rattle.wasm_ops.specs.Spelling.{InRangeU32, vec, InRangeVec, sub_bytes, composite_inner_type, func_type, sub_type, val_type}
use Rattle.wasm_ops.specs.Control.{block_type, catch_clause}
use Rattle.wasm_ops.specs.ControlInstrs.{br_table_instr, br_table_bytes, try_table_instr, try_table_bytes}
use Rattle.wasm_ops.specs.SelectInstrs.{select_instr}
use Rattle.wasm_ops.specs.Table.{instr}
use Rattle.wasm_ops.specs.declared.blocks.BlockType.{BlockType}
use Rattle.wasm_ops.proofs.Everywhere.{all_unmap}
use Rattle.wasm_ops.proofs.Instructing.{br_table_written, try_table_written}
use Rattle.wasm_ops.proofs.Sinking.{written_as}
use Rattle.wasm_out.specs.Bodies.{locals, body_content}
use Rattle.wast_core_conv.specs.Tree.{Id, Index, NameAnnotation, ValType, FunctionType, TypeDef, TryTableCatch, Local, Instruction}
use Rattle.wast_core_conv.specs.Values.{is_final}
use Rattle.wast_core_conv.specs.Meaning as meaning

-- A list, and the list of what its items become.
pub vec_mapped : {A B : Type 0} (spell : B → List ℕ) (f : A → B) (xs : List A) → vec (λ x. spell (f x)) xs ≡ vec spell (map f xs)
vec_mapped spell f xs = ap (λ (n : ℕ). unsigned n ++ flat_map (λ x. spell (f x)) xs) (sym (length-map xs f))
    ∙ ap (λ (bs : List ℕ). unsigned (length (map f xs)) ++ bs) (sym (flat_map-map spell f xs))

pub in_range_mapped : {A B : Type 0} (P : B → Type 0) (f : A → B) (xs : List A) → InRangeVec (λ x. P (f x)) xs → InRangeVec P (map f xs)
in_range_mapped P f xs h = (subst InRangeU32 (sym (length-map xs f)) h.0, All-map P f xs h.1)

pub in_range_unmapped : {A B : Type 0} (P : B → Type 0) (f : A → B) (xs : List A) → InRangeVec P (map f xs) → InRangeVec (λ x. P (f x)) xs
in_range_unmapped P f xs h = (subst InRangeU32 (length-map xs f) h.0, all_unmap P f xs h.1)

-- A body, by its locals and its instructions.
pub body_written : {S A : Type 0} (rules : SinkRules S) (a b : S) (ls : List Local) (is : List Instruction) (r : Result A Refusal)
    → Writes rules (InRangeVec (λ x. (val_type x).in_range) (map (λ l. meaning.as_val_type l.ty) ls) ×
    (All (λ i. (instr (meaning.as_instr i)).in_range) is × Unit {0})) a b
    (locals (map (λ l. meaning.as_val_type l.ty) ls) ++ (flat_map (λ i. (instr (meaning.as_instr i)).bytes) is ++ (0x0b ∷ []))) r
    → Writes rules (body_content (meaning.body_of ls is)).in_range a b (body_content (meaning.body_of ls is)).bytes r
body_written rules a b ls is r p =
    let front = locals (map (λ l. meaning.as_val_type l.ty) ls) in
    written_as rules (InRangeVec (λ x. (val_type x).in_range) (map (λ l. meaning.as_val_type l.ty) ls) ×
    (All (λ i. (instr (meaning.as_instr i)).in_range) is × Unit {0})) (body_content (meaning.body_of ls is)).in_range a b
    (front ++ (flat_map (λ i. (instr (meaning.as_instr i)).bytes) is ++ (0x0b ∷ []))) (body_content (meaning.body_of ls is)).bytes r
    (λ h. (h.0, All-map (λ x. (instr x).in_range) meaning.as_instr is h.1.0)) (λ h. (h.0, (all_unmap (λ x. (instr x).in_range) meaning.as_instr is h.1, tt)))
    (ap (λ (bytes : List ℕ). front ++ (bytes ++ 0x0b ∷ [])) (sym (flat_map-map (λ x. (instr x).bytes) meaning.as_instr is))) p

-- A byte and a list, by what the items become.
pub list_written : {S R A B : Type 0} (rules : SinkRules S) (a b : S) (byte : ℕ) (spell : B → List ℕ) (InRange : B → Type 0) (f : A
    → B) (xs ys : List A) (r : Result R Refusal) → xs ≡ ys
    → Writes rules (Unit {0} × InRangeVec (λ x. InRange (f x)) xs) a b (byte ∷ vec (λ x. spell (f x)) xs) r
    → Writes rules (InRangeVec InRange (map f ys)) a b (byte ∷ vec spell (map f ys)) r
list_written rules a b byte spell InRange f xs ys r e p =
    written_as rules (Unit {0} × InRangeVec (λ x. InRange (f x)) xs) (InRangeVec InRange (map f ys)) a b (byte ∷ vec (λ x. spell (f x)) xs)
    (byte ∷ vec spell (map f ys)) r
    (λ h. in_range_mapped InRange f ys (subst (InRangeVec (λ x. InRange (f x))) e h.1))
    (λ h. (tt, subst (InRangeVec (λ x. InRange (f x))) (sym e) (in_range_unmapped InRange f ys h)))
    (ap (λ zs. byte ∷ vec (λ x. spell (f x)) zs) e ∙ ap (λ (bs : List ℕ). byte ∷ bs) (vec_mapped spell f ys)) p

-- `select`, by the bytes of its types.
pub select_written : {S A : Type 0} (rules : SinkRules S) (a b : S) (ts : List ops.ValType) (r : Result A Refusal)
    → Writes rules (InRangeVec (λ x. (val_type x).in_range) ts) a b (0x1c ∷ vec (λ x. (val_type x).bytes) ts) r
    → Writes rules (instr (select_instr (Some ts))).in_range a b (instr (select_instr (Some ts))).bytes r
select_written rules a b ts r p =
    written_as rules (InRangeVec (λ x. (val_type x).in_range) ts) (instr (select_instr (Some ts))).in_range a b
    (0x1c ∷ vec (λ x. (val_type x).bytes) ts) (instr (select_instr (Some ts))).bytes r
    (λ h. (h, tt)) (λ i. i.0) (ap (λ (bytes : List ℕ). 0x1c ∷ bytes) (sym (append-nil (vec (λ x. (val_type x).bytes) ts)))) p

-- `br_table`, by the list of its labels.
pub branches_written : {S R : Type 0} (rules : SinkRules S) (a b : S) (xs ls : List Index) (default : ℕ) (r : Result R Refusal) → xs ≡ ls
    → Writes rules (InRangeVec (λ i. InRangeU32 (meaning.index_value i)) xs × InRangeU32 default) a b
    (br_table_bytes (vec (λ i. unsigned (meaning.index_value i)) xs) default) r
    → Writes rules (instr (br_table_instr (map meaning.index_value ls) default)).in_range a b
    (instr (br_table_instr (map meaning.index_value ls) default)).bytes r
branches_written rules a b xs ls default r e p =
    br_table_written rules a b (map meaning.index_value ls) default (vec (λ i. unsigned (meaning.index_value i)) xs)
    (InRangeVec (λ i. InRangeU32 (meaning.index_value i)) xs) r
    (ap (vec (λ i. unsigned (meaning.index_value i))) e ∙ vec_mapped unsigned meaning.index_value ls)
    (λ h. in_range_mapped InRangeU32 meaning.index_value ls (subst (InRangeVec (λ i. InRangeU32 (meaning.index_value i))) e h))
    (λ h. subst (InRangeVec (λ i. InRangeU32 (meaning.index_value i))) (sym e) (in_range_unmapped InRangeU32 meaning.index_value ls h)) p

-- `try_table`, by the list of its clauses.
pub catches_written : {S R : Type 0} (rules : SinkRules S) (a b : S) (ty : BlockType) (xs cs : List TryTableCatch) (r : Result R Refusal) → xs ≡ cs
    → Writes rules ((block_type ty).in_range × InRangeVec (λ c. (catch_clause (meaning.as_catch c)).in_range) xs) a b
    (try_table_bytes ty (vec (λ c. (catch_clause (meaning.as_catch c)).bytes) xs)) r
    → Writes rules (instr (try_table_instr ty (map meaning.as_catch cs))).in_range a b (instr (try_table_instr ty (map meaning.as_catch cs))).bytes r
catches_written rules a b ty xs cs r e p =
    try_table_written rules a b ty (map meaning.as_catch cs) (vec (λ c. (catch_clause (meaning.as_catch c)).bytes) xs)
    (InRangeVec (λ c. (catch_clause (meaning.as_catch c)).in_range) xs) r
    (ap (vec (λ c. (catch_clause (meaning.as_catch c)).bytes)) e ∙ vec_mapped (λ x. (catch_clause x).bytes) meaning.as_catch cs)
    (λ h. in_range_mapped (λ x. (catch_clause x).in_range) meaning.as_catch cs (subst (InRangeVec (λ c. (catch_clause (meaning.as_catch c)).in_range)) e h))
    (λ h. subst (InRangeVec (λ c. (catch_clause (meaning.as_catch c)).in_range)) (sym e)
    (in_range_unmapped (λ x. (catch_clause x).in_range) meaning.as_catch cs h)) p

-- A function type, by the lists of its parameters and results.
pub function_written : {S A : Type 0} (rules : SinkRules S) (a b : S) (t : FunctionType) (ps : List (Option Id × Option NameAnnotation × ValType))
    (rs : List ValType) (r : Result A Refusal) → ps ≡ t.params → rs ≡ t.results
    → Writes rules (Unit {0} × (InRangeVec (λ p. (val_type (meaning.as_val_type p.2)).in_range) ps × InRangeVec
    (λ u. (val_type (meaning.as_val_type u)).in_range) rs)) a b
    (0x60 ∷ (vec (λ p. (val_type (meaning.as_val_type p.2)).bytes) ps ++ vec (λ u. (val_type (meaning.as_val_type u)).bytes) rs)) r
    → Writes rules (func_type (meaning.as_func_type t)).in_range a b (func_type (meaning.as_func_type t)).bytes r
function_written rules a b t ps rs r e f p =
    let param : Option Id × Option NameAnnotation × ValType → ops.ValType = λ q. meaning.as_val_type q.2 in
    let front : List (Option Id × Option NameAnnotation × ValType) → List ℕ = λ qs. vec (λ q. (val_type (param q)).bytes) qs in
    let back : List ValType → List ℕ = λ us. vec (λ u. (val_type (meaning.as_val_type u)).bytes) us in
    let InFront : List (Option Id × Option NameAnnotation × ValType) → Type 0 = λ qs. InRangeVec (λ q. (val_type (param q)).in_range) qs in
    let InBack : List ValType → Type 0 = λ us. InRangeVec (λ u. (val_type (meaning.as_val_type u)).in_range) us in
    written_as rules (Unit {0} × (InFront ps × InBack rs)) (func_type (meaning.as_func_type t)).in_range a b (0x60 ∷ (front ps ++ back rs))
    (func_type (meaning.as_func_type t)).bytes r
    (λ h. (
      in_range_mapped (λ x. (val_type x).in_range) param t.params (subst InFront e h.1.0),
      in_range_mapped
          (λ x. (val_type x).in_range) meaning.as_val_type t.results (subst InBack f h.1.1),
    ))
    (λ h. (
      tt,
      (
        subst InFront (sym e) (in_range_unmapped (λ x. (val_type x).in_range) param t.params h.0),
        subst InBack (sym f)
            (in_range_unmapped (λ x. (val_type x).in_range) meaning.as_val_type t.results h.1),
      ),
    ))
    (ap (λ qs. 0x60 ∷ (front qs ++ back rs)) e ∙ ap (λ us. 0x60 ∷ (front t.params ++ back us)) f
    ∙ ap (λ (bs : List ℕ). 0x60 ∷ (bs ++ back t.results)) (vec_mapped (λ x. (val_type x).bytes) param t.params)
    ∙ ap (λ (bs : List ℕ). 0x60 ∷ (vec (λ x. (val_type x).bytes) (map param t.params) ++ bs))
    (vec_mapped (λ x. (val_type x).bytes) meaning.as_val_type t.results))
    p

-- The bytes of a type with supertypes, as its lists are written.
pub open_bytes : {A : Type 0} (f : A → ℕ) (xs : List A) (composite : List ℕ)
    → 0x50 ∷ (vec (λ x. unsigned (f x)) xs ++ composite) ≡ sub_bytes false (map f xs) composite
open_bytes f [] composite = ap (λ (bs : List ℕ). 0x50 ∷ (bs ++ composite)) (vec_mapped unsigned f [])
open_bytes f (x ∷ xs) composite = ap (λ (bs : List ℕ). 0x50 ∷ (bs ++ composite)) (vec_mapped unsigned f (x ∷ xs))

pub final_bytes : {A : Type 0} (f : A → ℕ) (xs : List A) (composite : List ℕ) → (length xs == 0) ≡ false
    → 0x4f ∷ (vec (λ x. unsigned (f x)) xs ++ composite) ≡ sub_bytes true (map f xs) composite
final_bytes f [] composite some = absurd cc
final_bytes f (x ∷ xs) composite some = ap (λ (bs : List ℕ). 0x4f ∷ (bs ++ composite)) (vec_mapped unsigned f (x ∷ xs))

-- A type without `sub` is final.
pub final_is : (o : Option Bool) → unwrap_or o true ≡ is_final o
final_is None = refl
final_is (Some b) = refl

-- A type, by the list of its supertypes.
pub sub_written : {S A : Type 0} (rules : SinkRules S) (a b : S) (d : TypeDef) (ps : List Index) (bytes : List ℕ) (r : Result A Refusal) → ps ≡ d.parents
    → bytes ≡ sub_bytes (is_final d.final_type) (map meaning.index_value ps) (composite_inner_type (meaning.as_inner_type d.kind)).bytes
    → Writes rules (Unit {0} × (InRangeVec (λ i. InRangeU32 (meaning.index_value i)) ps ×
    (composite_inner_type (meaning.as_inner_type d.kind)).in_range)) a b bytes r
    → Writes rules (sub_type (meaning.as_sub_type d)).in_range a b (sub_type (meaning.as_sub_type d)).bytes r
sub_written rules a b d ps bytes r e is p =
    let composite = (composite_inner_type (meaning.as_inner_type d.kind)).bytes in
    written_as rules (Unit {0} × (InRangeVec (λ i. InRangeU32 (meaning.index_value i)) ps ×
    (composite_inner_type (meaning.as_inner_type d.kind)).in_range)) (sub_type (meaning.as_sub_type d)).in_range a b bytes
    (sub_type (meaning.as_sub_type d)).bytes r
    (λ h. (in_range_mapped InRangeU32 meaning.index_value d.parents (subst (InRangeVec (λ i. InRangeU32 (meaning.index_value i))) e h.1.0), h.1.1))
    (λ h. (tt, (subst (InRangeVec (λ i. InRangeU32 (meaning.index_value i))) (sym e) (in_range_unmapped InRangeU32 meaning.index_value d.parents h.0), h.1)))
    (is ∙ ap (λ qs. sub_bytes (is_final d.final_type) (map meaning.index_value qs) composite) e) p

-- A test before a proposition that holds.
pub and_true : (b : Bool) → b ≡ true → (b && true) ≡ true
and_true b e = ap (λ (x : Bool). x && true) e
