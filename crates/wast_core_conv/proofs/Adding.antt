-- An item that a section builder adds is the same item in other words: the same bytes, with an equivalent range.
use Rattle.std.proofs.Common.{◌≡◌, ℕ, List, Result, Ok, Err, inl, inr, ap, ◌∙◌}
use Rattle.wast_base.specs.declared.faults.Error.{Error}
use Rattle.wasm_out.specs.Built.{Built, built_with, Adds}

pub adds_as : {A : Type 0} (P Q : Type 0) (old new : Built) (bytes item : List ℕ) (r : Result A Error) → bytes ≡ item → (P → Q) → (Q → P)
    → Adds P old new bytes r → Adds Q old new item r
adds_as P Q old new bytes item (Ok x) same f g a = (a.0 ∙ ap (built_with old) same, f a.1)
adds_as P Q old new bytes item (Err e) same f g a = (a.0, elim a.1 [ inl m ↦ inl m | inr l ↦ inr (l.0, λ q. l.1 (g q)) ])
