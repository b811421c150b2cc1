-- The section of branch hints, a custom section with the name metadata.code.branch_hint (branch hinting).
--
-- It has an entry for each function with hints: its index, and its hints. For example, one likely hint at offset 5 of
-- function 0 is 01 00 01 05 01 01.
use Rattle.std.specs.Prelude.{ℕ, nat_lt, Bool, List, ◌++◌, codes}
use Rattle.wasm_ops.specs.Spelling.{Encoding, u32, byte_then, seq, list_of, name}
use Rattle.wasm_out.specs.declared.hints.BranchHint.{BranchHint}

-- Whether the value of a hint is 0 or 1: unlikely or likely.
abbrev pub is_likely_or_not : BranchHint → Bool
is_likely_or_not h = nat_lt h.branch_hint_value 2

-- A hint: the offset of its instruction from the locals of the body, the length of its value, which is 1, and the value.
abbrev pub branch_hint : BranchHint → Encoding
branch_hint h = seq (u32 h.branch_func_offset) (byte_then 1 (u32 h.branch_hint_value))

-- An entry: the index of the function, and its hints.
abbrev pub function_hints : ℕ × List BranchHint → Encoding
function_hints f = seq (u32 f.0) (list_of branch_hint f.1)

-- The entries, after the name of the section.
abbrev pub hints : List (ℕ × List BranchHint) → Encoding
hints functions = list_of function_hints functions

-- The name of the section.
abbrev pub hints_name : List ℕ
hints_name = codes "metadata.code.branch_hint"

-- The payload of the section, from the bytes of its entries.
abbrev pub hints_payload : List ℕ → List ℕ
hints_payload functions = name hints_name ++ functions
