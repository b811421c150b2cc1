-- A memory whose minimum is 2 ^ 64 is read as no module.
use Rattle.std.proofs.Common.{◌≡◌, ℕ, true, false, None, List, [], ◌∷◌, ◌++◌, length, refl, sym, ap, ◌∙◌, subst, append_assoc, arith}
use Rattle.std.specs.Prelude.{All}
use Rattle.std.specs.List.{flat_map}
use Rattle.std.proofs.lemmas.List.Concat.{flat_map-cons}
use Rattle.std.proofs.lemmas.List.Elements.{All-head}
use Rattle.wasm_ops.specs.Entities.{memory_type}
use Rattle.wasm_ops.specs.Leb128.{unsigned, unsigned_in}
use Rattle.wasm_ops.specs.Spelling.{Any, vec}
use Rattle.wasm_ops.specs.declared.entities.MemoryType.{MemoryType}
use Rattle.wasm_ops.proofs.Codes.{vec_code, same_front}
use Rattle.wasm_ops.proofs.EntityCodes.{any_memory_code}
use Rattle.wasm_ops.proofs.Everywhere.{all_each}
use Rattle.wasm_ops.proofs.Numbers.{unsigned_begins}
use Rattle.wasm_ops.proofs.RefTypeCodes.{front}
use Rattle.wasm_out.specs.Parts.{Memories, PartKind, Listed, PartItems, InRangePart, part_id, section, part, payload}
use Rattle.wasm_out.specs.Reads.{header}
use Rattle.wasm_out.specs.WorkedBytes.{IsNoModule}

abbrev wide : MemoryType
wide = record { minimum = 18446744073709551616; maximum = None; memory64 = true; shared = false; page_size_log2 = None }

abbrev wide_payload : List ℕ
wide_payload = 0x01 ∷ 0x04 ∷ 0x80 ∷ 0x80 ∷ 0x80 ∷ 0x80 ∷ 0x80 ∷ 0x80 ∷ 0x80 ∷ 0x80 ∷ 0x80 ∷ 0x02 ∷ []

wide_spelled : wide_payload ≡ vec (λ x. (memory_type x).bytes) (wide ∷ []) ++ []
unfolding unsigned unsigned_in
wide_spelled = refl

twelve : 0x0c ∷ wide_payload ≡ unsigned 12 ++ wide_payload
unfolding unsigned unsigned_in
twelve = refl

wide_out_of_range : (memory_type wide).in_range → ⊥
wide_out_of_range r = omega (arith, r.0)

-- the part that such bytes begin with holds memories, and that one alone
no_first : (kind : PartKind) (items : PartItems kind) (rest : List ℕ) → (payload kind items).in_range
    → section (part_id kind) (payload kind items).bytes ++ rest ≡ 0x05 ∷ 0x0c ∷ wide_payload → ⊥
no_first (Listed Memories) items rest r e =
    let bytes = vec (λ x. (memory_type x).bytes) items in
    let t : (unsigned (length bytes) ++ bytes) ++ rest ≡ 0x0c ∷ wide_payload = cc in
    let one = unsigned_begins (length bytes) 12 (bytes ++ rest) wide_payload (sym (append_assoc (unsigned (length bytes)) bytes rest) ∙ t ∙ twelve) in
    let two = (vec_code any_memory_code).begins items (wide ∷ []) rest [] (r.0, all_each Any (λ m. tt) items)
    (omega arith, all_each Any (λ m. tt) (wide ∷ [])) (one.1 ∙ wide_spelled) in
    wide_out_of_range (All-head (λ x. (memory_type x).in_range) wide [] (subst (All (λ x. (memory_type x).in_range)) two.0 r.1))
no_first kind items rest r e = absurd (omega (arith, ap front e))

pub no_module : IsNoModule
no_module [] r = absurd (omega (arith, ap length r.spelled))
no_module (p ∷ ps) r =
    let whole = r.spelled ∙ ap (λ l. header ++ l) (flat_map-cons part p ps) in
    let one = same_front header header (0x05 ∷ 0x0c ∷ wide_payload) (part p ++ flat_map part ps) refl whole in
    let first = All-head InRangePart p ps r.in_range in
    no_first p.kind p.items (flat_map part ps) first.1 (sym one.1)
