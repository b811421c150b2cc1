-- Equal recursive types (validation, matching: recursive types): the canonical index of each type.
--
-- A group of types is closed by writing each reference as a position in the group, or as the canonical index of a type before it. Two groups are equal
-- if what is written then is equal. The canonical index of a type is that of the type at its position in the first group that is equal.
--
--   0: (type (func))  1: (type (func))  2, 3: (rec (type (func (param (ref 2)))) (type (struct)))  4, 5: the same with (ref 4)
--   canonical: 0 0 2 3 2 3
use Rattle.std.specs.Prelude.{ℕ, suc, ◌-◌, Bool, true, false, cond, ◌&&◌, ◌==◌, nat_lt, List, [], ◌∷◌, ◌++◌, length, flat_map, Option, Some, None, slice_get, unwrap_or}
use Rattle.wast_valid_machine.specs.declared.types.Ty.{Ty}
use Rattle.wast_valid_machine.specs.declared.types.Ty.TheVariants.{I32, I64, F32, F64, V128, Ref, Unknown}
use Rattle.wast_valid_machine.specs.declared.types.Heap.{Heap}
use Rattle.wast_valid_machine.specs.declared.types.Heap.TheVariants as heap
use Rattle.wast_valid_machine.specs.declared.types.Field.{Field}
use Rattle.wast_valid_machine.specs.declared.types.Shape.{Shape}
use Rattle.wast_valid_machine.specs.declared.types.Shape.TheVariants.{Func, Record, Array}
use Rattle.wast_valid_machine.specs.declared.types.Def.{Def}
use Rattle.wast_valid_machine.specs.Types.{number_of}

-- a type as it is declared: its indices are those of the module
pub record Declared : Type 0 where
  pub def : Def
  pub is_final : Bool

-- A reference to a type as two numbers: 0 and its position in the group, or 1 and its canonical index.
abbrev pub closed : (start : ℕ) → (known : List ℕ) → ℕ → List ℕ
closed start known i = cond (nat_lt i start) (1 ∷ unwrap_or (slice_get known i) 0 ∷ []) (0 ∷ (i - start) ∷ [])

abbrev pub bit : Bool → ℕ
bit true = 1
bit false = 0

-- What is written of a type. No text is the beginning of another: each begins with the number of its form, and a list with its length.
abbrev pub heap_text : (ℕ → List ℕ) → Heap → List ℕ
heap_text close (heap.Defined i) = 13 ∷ close i
heap_text close h = number_of h ∷ []

abbrev pub ty_text : (ℕ → List ℕ) → Ty → List ℕ
ty_text close I32 = 0 ∷ []
ty_text close I64 = 1 ∷ []
ty_text close F32 = 2 ∷ []
ty_text close F64 = 3 ∷ []
ty_text close V128 = 4 ∷ []
ty_text close Unknown = 5 ∷ []
ty_text close (Ref r) = 6 ∷ bit r.nullable ∷ heap_text close r.heap

abbrev pub field_text : (ℕ → List ℕ) → Field → List ℕ
field_text close f = (bit f.packed ∷ bit f.mutable ∷ []) ++ ty_text close f.ty

abbrev pub list_text : {A : Type 0} → (A → List ℕ) → List A → List ℕ
list_text text xs = length xs ∷ flat_map text xs

abbrev pub shape_text : (ℕ → List ℕ) → Shape → List ℕ
shape_text close (Func f) = 0 ∷ (list_text (ty_text close) f.params ++ list_text (ty_text close) f.results)
shape_text close (Record fields) = 1 ∷ list_text (field_text close) fields
shape_text close (Array f) = 2 ∷ field_text close f

abbrev pub parent_text : (ℕ → List ℕ) → Option ℕ → List ℕ
parent_text close None = 0 ∷ []
parent_text close (Some i) = 1 ∷ close i

abbrev pub def_text : (ℕ → List ℕ) → Declared → List ℕ
def_text close d = bit d.is_final ∷ (parent_text close d.def.parent ++ shape_text close d.def.shape)

-- a group of types, closed
abbrev pub group_text : (start : ℕ) → (known : List ℕ) → List Declared → List ℕ
group_text start known group = list_text (def_text (closed start known)) group

-- whether two lists of numbers are equal
abbrev pub same_text : List ℕ → List ℕ → Bool
same_text [] [] = true
same_text [] (y ∷ ys) = false
same_text (x ∷ xs) [] = false
same_text (x ∷ xs) (y ∷ ys) = (x == y) && same_text xs ys

-- the groups so far: what is written of each, with its first index
abbrev pub Earlier : Type 0
Earlier = List (List ℕ × ℕ)

-- the first index of the first equal group
abbrev pub first_equal : Earlier → List ℕ → Option ℕ
first_equal [] text = None
first_equal (e ∷ es) text = elim (same_text e.0 text) [ true ↦ Some e.1 | false ↦ first_equal es text ]

-- the numbers from one on
abbrev pub counted_from : {A : Type 0} → ℕ → List A → List ℕ
counted_from n [] = []
counted_from n (x ∷ xs) = n ∷ counted_from (suc n) xs

-- the canonical indices of all types, given those of the groups before
abbrev pub canonical_after : Earlier → List ℕ → List (List Declared) → List ℕ
canonical_after earlier known [] = known
canonical_after earlier known (group ∷ groups) =
    let text = group_text (length known) known group in
    let first = unwrap_or (first_equal earlier text) (length known) in
    canonical_after (earlier ++ (text, first) ∷ []) (known ++ counted_from first group) groups

abbrev pub canonical : List (List Declared) → List ℕ
canonical groups = canonical_after [] [] groups
