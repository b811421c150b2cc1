-- A module that counting finds too large is not writable.
use Rattle.std.proofs.Common.{◌≡◌, ◌+◌, ◌<◌, ◌^◌, ℕ, List, length, Result, Ok, Err, IfErr, inl, inr, arith}
use Rattle.wasm_ops.specs.SinkLaws.{count_with}
use Rattle.wasm_ops.specs.Sinks.{SinkRules, Writes}
use Rattle.wasm_ops.specs.declared.sink.Refusal.{Refusal}
use Rattle.wasm_ops.specs.declared.sink.Refusal.TheVariants as refusal
use Rattle.wast_core_sections.specs.Writable.{IsWritable, InRangeModule, bytes_of}
use Rattle.wast_core_sections.specs.Tree.{ModuleField}
use Rattle.std.specs.Prelude.{Option}

-- The rules of the sink `Length`.
abbrev pub count_rules : SinkRules ℕ
count_rules = record {
  appended = λ a b x. b ≡ a + length x;
  fits = λ a n. a + n < 2 ^ 64;
  size_of = λ a. a;
  is_cut = λ a n b. b ≡ n;
  is_set = λ a at n b. count_with a n b;
  refusal = refusal.TooLarge;
}

pub refused_by_count : {A : Type 0} (name : Option (List ℕ)) (fields : List ModuleField) (old new : ℕ) (r : Result A Refusal) → old ≡ 0
    → Writes count_rules (InRangeModule name fields) old new (bytes_of name fields) r → IfErr r (λ e. (e ≡ refusal.TooLarge) × (IsWritable name fields → ⊥))
refused_by_count name fields old new (Ok x) none w = tt
refused_by_count name fields old new (Err e) none w =
    let fits : IsWritable name fields → old + length (bytes_of name fields) < 2 ^ 64 = λ is. let l = is.length in omega (arith, l, none) in
    elim w.1 [
      | inl h ↦ (h.0, λ is. h.1 (fits is))
      | inr h ↦ (h.0, λ is. h.1 is.in_range)
    ]
