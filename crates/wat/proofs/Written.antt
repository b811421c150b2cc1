-- The output for the bytes of a text, or for its ids, is the output for the text.
use Rattle.std.specs.Prelude.{Result, Ok, Err}
use Rattle.std.specs.Result.{IfOk}
use Rattle.std.specs.Global.{Vec}
use Rattle.std.proofs.Common.{◌≡◌, ℕ, List, subst}
use Rattle.wat_bytes.specs.declared.names.Denoted.{Denoted}
use Rattle.wat_bytes.specs.Names.{ListsText}
use Rattle.wat_bytes.specs.Texts.{EncodesText, OfText}
use Rattle.wat.specs.declared.options.Options.{Options}
use Rattle.wat.specs.Lines.{lines_of}
use Rattle.wat.specs.Outputs.{OutputBy, IsOutput, HasNames}

-- `made` is the output for the bytes, and `r` is that or an error.
pub module_written : {D E : Type 0} (o : Options) (text : List ℕ) (bytes : Vec ℕ) (made : Result (Vec ℕ) D) (r : Result (Vec ℕ) E)
    → OfText EncodesText text (Ok bytes)
    → IfOk made (λ out. OutputBy o bytes.items out.items) → IfOk r (λ out. made ≡ Ok out) → IfOk r (λ out. IsOutput o text out.items)
module_written o text bytes (Ok x) (Ok out) encoded made same =
    let e : x ≡ out = cc same in
    record { bytes = bytes; encoded = encoded; written = subst (λ (v : Vec ℕ). OutputBy o bytes.items v.items) e made }
module_written o text bytes (Err d) (Ok out) encoded made same = absurd (cc same)
module_written o text bytes made (Err e) encoded is same = same

-- `made` is the lines for the list of ids, and `r` is these or an error.
pub names_written : {D E : Type 0} (text : List ℕ) (all : Vec Denoted) (ids : List Denoted) (made : Result (Vec ℕ) D) (r : Result (Vec ℕ) E)
    → OfText ListsText text (Ok all) → ids ≡ all.items
    → IfOk made (λ out. out.items ≡ lines_of ids) → IfOk r (λ out. made ≡ Ok out) → IfOk r (λ out. HasNames text out.items)
names_written text all ids (Ok x) (Ok out) listed same made is =
    let e : x ≡ out = cc is in
    record { all = all; listed = listed; written = subst (λ (v : Vec ℕ). v.items ≡ lines_of all.items) e (subst (λ ds. x.items ≡ lines_of ds) same made) }
names_written text all ids (Err d) (Ok out) listed same made is = absurd (cc is)
names_written text all ids made (Err e) listed same is refused = refused
