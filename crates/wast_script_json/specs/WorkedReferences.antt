-- What commands refer to, as the prover computes it.
use Rattle.std.specs.Prelude.{◌≡◌, ℕ, true, false, codes, None, Some}
use Rattle.wast_base.specs.Ids.{source_id, text_start}
use Rattle.wast_base.specs.declared.ids.Id.{Id}
use Rattle.wast_script_json.specs.References.{State, nothing_known, module_at, instance_at, defined, copied, entered, left}

-- an id at an address
abbrev pub a_at : ℕ → Id
a_at n = source_id (record { ref_ptr = (n, 0); now = codes "A" }) text_start

abbrev pub b_at : ℕ → Id
b_at n = source_id (record { ref_ptr = (n, 0); now = codes "B" }) text_start

-- after `(module definition $A ..) (module $B ..)`, whose modules are skipped, and after `(module instance $A $A)` too
abbrev pub two : ℕ → State
two n = defined (Some (b_at n)) false None (defined (Some (a_at n)) true None nothing_known)

abbrev pub three : ℕ → State
three n = copied (Some (a_at n)) (Some (a_at n)) (two n)

-- The module of each id, at whatever address; the instances; and what a thread that shares `$B` sees, and sees after it.
abbrev pub WorkedReferences : Type 0
WorkedReferences = ((n k : ℕ) → module_at (Some (a_at k)) (two n).reach ≡ Some 0) × ((n k : ℕ) → module_at (Some (b_at k)) (two n).reach ≡ Some 1)
    × ((n k : ℕ) → instance_at (Some (a_at k)) (two n).reach ≡ None) × ((n : ℕ) → instance_at None (two n).reach ≡ Some 1)
    × ((n k : ℕ) → instance_at (Some (a_at k)) (three n).reach ≡ Some 0) × ((n : ℕ) → instance_at None (three n).reach ≡ Some 0)
    × ((n k : ℕ) → instance_at (Some (b_at k)) (entered (Some (b_at k)) (two n)).reach ≡ Some 1)
    × ((n k : ℕ) → instance_at None (entered (Some (b_at k)) (two n)).reach ≡ None)
    × ((n k : ℕ) → left (entered (Some (b_at k)) (two n)) ≡ two n)
