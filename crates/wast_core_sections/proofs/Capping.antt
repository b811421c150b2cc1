-- What is written to the vector in a sink is written to the sink.
use Rattle.std.proofs.Common.{◌≡◌, ℕ, List, [], ◌++◌, Option, Result, Ok, Err, take, length, sym, ap, ◌∙◌, inl, inr}
use Rattle.std.specs.Prelude.{IfOk, IfErr}
use Rattle.std.specs.Global.{Vec}
use Rattle.wasm_ops.specs.SinkLaws as laws
use Rattle.wasm_ops.specs.Sinks.{SinkRules, Writes, refused_as}
use Rattle.wasm_ops.specs.declared.sink.Refusal.{Refusal}
use Rattle.wasm_ops.specs.declared.sink.Refusal.TheVariants as refusal
use Rattle.wasm_out.specs.Built.{IsRefused}
use Rattle.wast_core_sections.specs.Tree.{ModuleField}
use Rattle.wast_core_sections.specs.Writable.{bytes_of, InRangeModule, IsWritable}

-- The rules of a sink that has these bytes, and takes more if there is memory.
abbrev pub rules_by : {S : Type 0} → (S → List ℕ) → SinkRules S
rules_by items = record {
  appended = λ a b x. items b ≡ items a ++ x;
  fits = λ _ _. ⊥;
  size_of = λ a. length (items a);
  is_cut = λ a n b. items b ≡ take n (items a);
  is_set = λ a at n b. items b ≡ laws.with_number (items a) at n;
  refusal = refusal.Memory;
}

-- The rules of a vector.
abbrev pub vec_rules : SinkRules (Vec ℕ)
vec_rules = rules_by (λ v. v.items)

pub written_within : {S A : Type 0} (items : S → List ℕ) (in_range : Type 0) (a b : S) (c d : Vec ℕ) (x : List ℕ) (r : Result A Refusal)
    → items a ≡ c.items → items b ≡ d.items → Writes vec_rules in_range c d x r → Writes (rules_by items) in_range a b x r
written_within items in_range a b c d x (Ok t) e h p = (h ∙ p.0 ∙ ap (λ l. l ++ x) (sym e), p.1)
written_within items in_range a b c d x (Err r) e h p = (h ∙ p.0 ∙ ap (λ l. l ++ []) (sym e), p.1)

-- A module was written to such a sink, which was empty, or writing failed.
pub whole_or_refused : {S A : Type 0} (items : S → List ℕ) (a b : S) (name : Option (List ℕ)) (fields : List ModuleField) (r : Result A Refusal) → items a ≡ []
    → Writes (rules_by items) (InRangeModule name fields) a b (bytes_of name fields) r
    → IfOk r (λ _. (items b ≡ bytes_of name fields) × InRangeModule name fields) × IfErr r (λ e. IsRefused (IsWritable name fields) (refused_as e))
whole_or_refused items a b name fields (Ok t) none p = ((p.0 ∙ ap (λ l. l ++ bytes_of name fields) none, p.1), tt)
whole_or_refused items a b name fields (Err e) none p = (
  tt,
  elim p.1 [
    | inl h ↦ inl (ap refused_as h.0)
    | inr h ↦ inr (ap refused_as h.0, λ w. h.1 w.in_range)
  ],
)

-- Counting found that a module is too large.
pub counted_refusal : (w : Type 0) (e : Refusal) → (e ≡ refusal.TooLarge) × (w → ⊥) → IsRefused w (refused_as e)
counted_refusal w e h = inr (ap refused_as h.0, h.1)
