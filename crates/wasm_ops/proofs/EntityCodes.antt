-- The spellings of the types of tables, memories, globals and tags, and of what is imported, show their value.
use Rattle.std.proofs.Common.{◌≡◌, ◌≤◌, ℕ, Bool, true, false, Option, Some, None, List, ◌++◌, refl, sym, ap, ◌∙◌, subst, append_assoc, arith}
use Rattle.std.specs.List.{flat_map}
use Rattle.std.specs.Option.{option_to_list}
use Rattle.std.specs.Prelude.{is_some, not, IsTrue, ◌&&◌}
use Rattle.wasm_ops.specs.Codes.{IsCode, IsPrefixCode}
use Rattle.wasm_ops.specs.Leb128.{unsigned}
use Rattle.wasm_ops.specs.Entities.{bit, limits_flags, limits, entity_type, global_type, memory_type, table_type, tag_type}
use Rattle.wasm_ops.specs.Spelling.{Any, Spellable, ref_type, val_type}
use Rattle.wasm_ops.specs.declared.entities.TableType.{TableType}
use Rattle.wasm_ops.specs.declared.entities.MemoryType.{MemoryType}
use Rattle.wasm_ops.specs.declared.entities.GlobalType.{GlobalType}
use Rattle.wasm_ops.specs.declared.entities.TagType.{TagType}
use Rattle.wasm_ops.specs.declared.entities.EntityType.{EntityType}
use Rattle.wasm_ops.specs.declared.entities.EntityType.TheVariants as entity
use Rattle.wasm_ops.specs.declared.types.ValType.{ValType}
use Rattle.wasm_ops.proofs.Codes.{index_code, pair_code, pair_is, code_by, code_within, after_byte}
use Rattle.wasm_ops.proofs.Everywhere.{both_true, flat_one}
use Rattle.wasm_ops.proofs.Numbers.{unsigned_begins}
use Rattle.wasm_ops.proofs.RefTypeCodes.{front, ref_type_code, ref_front}
use Rattle.wasm_ops.proofs.TypeCodes.{val_type_code, mutability_code}

-- ---- limits

pub bit_below : (b : Bool) → bit b ≤ 1
bit_below false = omega arith
bit_below true = omega arith

pub bit_is : (a b : Bool) → bit a ≡ bit b → a ≡ b
bit_is false false e = refl
bit_is true true e = refl
bit_is false true e = absurd (omega (arith, e))
bit_is true false e = absurd (omega (arith, e))

flags_show : (a b c d k l m n : Bool) → limits_flags a b c d ≡ limits_flags k l m n → (a ≡ k) × (b ≡ l) × (c ≡ m) × (d ≡ n)
flags_show a b c d k l m n e =
    let first : bit a ≡ bit k = omega (arith, e, bit_below a, bit_below k) in
    let second : bit b ≡ bit l = omega (arith, e, first, bit_below b, bit_below l) in
    let third : bit c ≡ bit m = omega (arith, e, first, second, bit_below c, bit_below m) in
    let fourth : bit d ≡ bit n = omega (arith, e, first, second, third) in
    (bit_is a k first, bit_is b l second, bit_is c m third, bit_is d n fourth)

-- a number that is there, or no bytes
abbrev if_there : Option ℕ → List ℕ
if_there n = flat_map unsigned (option_to_list n)

-- of numbers that are both there or both not
if_there_begins : (a b : Option ℕ) (r s : List ℕ) → is_some a ≡ is_some b → if_there a ++ r ≡ if_there b ++ s → (a ≡ b) × (r ≡ s)
if_there_begins None None r s same e = (refl, e)
if_there_begins (Some m) (Some n) r s same e =
    let one = unsigned_begins m n r s (ap (λ l. l ++ r) (sym (flat_one unsigned m)) ∙ e ∙ ap (λ l. l ++ s) (flat_one unsigned n)) in
    (ap Some one.0, one.1)
if_there_begins None (Some n) r s same e = absurd cc
if_there_begins (Some m) None r s same e = absurd cc

-- a minimum, a maximum and the exponent of a page size
abbrev Numbers : Type 0
Numbers = ℕ × (Option ℕ × Option ℕ)

abbrev numbers : Numbers → List ℕ
numbers n = unsigned n.0 ++ (if_there n.1.0 ++ if_there n.1.1)

numbers_begin : (x y : Numbers) (r s : List ℕ) → is_some x.1.0 ≡ is_some y.1.0 → is_some x.1.1 ≡ is_some y.1.1 → numbers x ++ r ≡ numbers y ++ s
    → (x ≡ y) × (r ≡ s)
numbers_begin x y r s u v e =
    let one = unsigned_begins x.0 y.0 ((if_there x.1.0 ++ if_there x.1.1) ++ r) ((if_there y.1.0 ++ if_there y.1.1) ++ s)
    (sym (append_assoc (unsigned x.0) (if_there x.1.0 ++ if_there x.1.1) r) ∙ e ∙ append_assoc (unsigned y.0) (if_there y.1.0 ++ if_there y.1.1) s) in
    let two = if_there_begins x.1.0 y.1.0 (if_there x.1.1 ++ r) (if_there y.1.1 ++ s) u (sym (append_assoc (if_there x.1.0) (if_there x.1.1) r)
    ∙ one.1 ∙ append_assoc (if_there y.1.0) (if_there y.1.1) s) in
    let three = if_there_begins x.1.1 y.1.1 r s v two.1 in
    (pair_is x y one.0 (pair_is x.1 y.1 two.0 three.0), three.1)

-- whether shared and whether of 64 bits, and the numbers
abbrev Limits : Type 0
Limits = (Bool × Bool) × Numbers

limits_code : IsCode Limits Any (λ l. (limits l.0.0 l.0.1 l.1.0 l.1.1.0 l.1.1.1).bytes)
limits_code = record {
  begins = λ x y r s p q e.
      let flags = flags_show (is_some x.1.1.0) x.0.0 x.0.1 (is_some x.1.1.1) (is_some y.1.1.0) y.0.0 y.0.1 (is_some y.1.1.1) (ap front e) in
      let t : numbers x.1 ++ r ≡ numbers y.1 ++ s = cc in
      let one = numbers_begin x.1 y.1 r s flags.0 flags.3 t in
      (pair_is x y (pair_is x.0 y.0 flags.1 flags.2) one.0, one.1);
}

-- ---- tables, memories, globals and tags

-- the type of the elements of a table that is supported is supported
table_covered : (t : TableType) → IsTrue (table_type t).is_covered → IsTrue (ref_type t.element_type).is_covered
table_covered t p = (both_true (ref_type t.element_type).is_covered true (both_true (not t.shared) ((ref_type t.element_type).is_covered && true) p).1).0

pub table_type_code : IsPrefixCode table_type
table_type_code =
    code_within (λ t p. ((table_covered t p.0, p.1.0), tt))
    (code_by (λ (t : TableType). (t.element_type, ((t.shared, t.table64), (t.minimum, (t.maximum, None))))) (λ p. record {
      element_type = p.0;
      minimum = p.1.1.0;
      maximum = p.1.1.1.0;
      table64 = p.1.0.1;
      shared = p.1.0.0;
    }) (λ t. refl) (pair_code ref_type_code limits_code))

-- no table type begins with 0x40
pub table_front : (t : TableType) (r : List ℕ) → Spellable (table_type t) → 0x63 ≤ front ((table_type t).bytes ++ r)
table_front t r p =
    let sized = (limits t.shared t.table64 t.minimum t.maximum None).bytes in
    subst (λ l. 0x63 ≤ front l) (sym (append_assoc (ref_type t.element_type).bytes sized r))
    (ref_front t.element_type (sized ++ r) (table_covered t p.0, p.1.0)).0

-- whatever their numbers are
pub any_memory_code : IsCode MemoryType Any (λ x. (memory_type x).bytes)
any_memory_code =
    (code_by (λ (m : MemoryType). ((m.shared, m.memory64), (m.minimum, (m.maximum, m.page_size_log2)))) (λ l. record {
      minimum = l.1.0;
      maximum = l.1.1.0;
      memory64 = l.0.1;
      shared = l.0.0;
      page_size_log2 = l.1.1.1;
    }) (λ m. refl) limits_code)

pub memory_type_code : IsPrefixCode memory_type
memory_type_code = code_within (λ m p. tt) any_memory_code

-- a global that is covered is the type of its value, and whether it can be changed
abbrev unshared : ValType × Bool → GlobalType
unshared p = record { val_type = p.0; mutable = p.1; shared = false }

abbrev seen : GlobalType → ValType × Bool
seen g = (g.val_type, g.mutable)

unshared_by : (g : GlobalType) (shared : Bool) → g.shared ≡ shared → not shared ≡ true → g ≡ unshared (seen g)
unshared_by g false is e = let f : Bool → GlobalType = λ b. record { val_type = g.val_type; mutable = g.mutable; shared = b } in ap f is
unshared_by g true is e = absurd cc

is_unshared : (g : GlobalType) → IsTrue (global_type g).is_covered → g ≡ unshared (seen g)
is_unshared g p = unshared_by g g.shared refl (both_true (not g.shared) (val_type g.val_type).is_covered p).0

pub global_type_code : IsPrefixCode global_type
global_type_code = record {
  begins = λ x y r s p q e.
      let a = both_true (not x.shared) (val_type x.val_type).is_covered p.0 in
      let b = both_true (not y.shared) (val_type y.val_type).is_covered q.0 in
      let one = (pair_code val_type_code mutability_code).begins (seen x) (seen y) r s ((a.1, p.1), tt) ((b.1, q.1), tt) e in
      (is_unshared x p.0 ∙ ap unshared one.0 ∙ sym (is_unshared y q.0), one.1);
}

pub tag_type_code : IsPrefixCode tag_type
tag_type_code = code_within (λ t p. p.1) (code_by (λ (t : TagType). t.func_type_idx) (λ n. record { func_type_idx = n }) (λ t. refl)
    (after_byte 0x00 index_code))

-- ---- what is imported

entity_begins : (x y : EntityType) (r s : List ℕ) → Spellable (entity_type x) → Spellable (entity_type y)
    → (entity_type x).bytes ++ r ≡ (entity_type y).bytes ++ s → (x ≡ y) × (r ≡ s)
entity_begins (entity.FunctionExact m) y r s p q e = absurd cc
entity_begins x (entity.FunctionExact n) r s p q e = absurd cc
entity_begins (entity.Function x) (entity.Function y) r s p q e = let one = (after_byte 0x00 index_code).begins x y r s p.1 q.1 e
    in (ap entity.Function one.0, one.1)
entity_begins (entity.Table x) (entity.Table y) r s p q e = let one = (after_byte 0x01 table_type_code).begins x y r s p q e in (ap entity.Table one.0, one.1)
entity_begins (entity.Memory x) (entity.Memory y) r s p q e = let one = (after_byte 0x02 memory_type_code).begins x y r s p q e
    in (ap entity.Memory one.0, one.1)
entity_begins (entity.Global x) (entity.Global y) r s p q e = let one = (after_byte 0x03 global_type_code).begins x y r s p q e
    in (ap entity.Global one.0, one.1)
entity_begins (entity.Tag x) (entity.Tag y) r s p q e = let one = (after_byte 0x04 tag_type_code).begins x y r s p q e in (ap entity.Tag one.0, one.1)
entity_begins x y r s p q e = absurd (omega (arith, ap front e))

pub entity_type_code : IsPrefixCode entity_type
entity_type_code = record { begins = entity_begins }
