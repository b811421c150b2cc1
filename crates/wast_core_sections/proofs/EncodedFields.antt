-- The result of encoding resolved fields, in terms of the fields.
use Rattle.std.proofs.Common.{◌≡◌, ℕ, List, [], Result, Ok, Err, Option, None, Some, subst}
use Rattle.std.specs.Prelude.{IfOk, IfErr}
use Rattle.std.specs.Global.{Vec}
use Rattle.wast_base.specs.declared.faults.Error.{Error}
use Rattle.wast_base.specs.declared.faults.Form.{Form}
use Rattle.wasm_out.specs.Built.{IsRefused}
use Rattle.wasm_ops.specs.declared.sink.Refusal.{Refusal}
use Rattle.wasm_ops.specs.Sinks.{SinkRules, Writes, refused_as}
use Rattle.wasm_ops.proofs.Sinking.{told_as}
use Rattle.wasm_out.specs.Reads.{Reads}
use Rattle.wast_core_sections.specs.Tree.{ModuleField}
use Rattle.wast_core_sections.specs.Writable.{bytes_of, InRangeModule, IsWritable}
use Rattle.wast_core_sections.specs.Encoding.{IsUnwritten, EncodesFields, IsNotPut, PutsFields}
use Rattle.wast_core_sections.specs.Sections.{parts}
use Rattle.wast_core_sections.specs.Uncovered.{head_of, uncovered_forms}

unwritten : (form : Option Form) (small : Type 0) (e : Error) → form ≡ None → IsRefused small e → IsUnwritten form small e
unwritten None small e covered h = h
unwritten (Some form) small e covered h = absurd cc

-- The bytes of supported fields, or why there are none.
pub fields_encoded : (name : Option (List ℕ)) (fields : List ModuleField) (result : Result (Vec ℕ) Error) → head_of (uncovered_forms fields) ≡ None
    → IfOk result (λ v. Reads v.items (parts name fields)) → IfErr result (IsRefused (IsWritable name fields)) → EncodesFields name fields result
fields_encoded name fields (Ok v) covered bytes refusal = (covered, bytes)
fields_encoded name fields (Err e) covered bytes refusal = unwritten (head_of (uncovered_forms fields)) (IsWritable name fields) e covered refusal

not_written : {S : Type 0} (form : Option Form) (rules : SinkRules S) (a b : S) (name : Option (List ℕ)) (fields : List ModuleField) (r : Refusal)
    (e : Error) → form ≡ None → e ≡ refused_as r
    → Writes {A = Unit {0}} rules (InRangeModule name fields) a b (bytes_of name fields) (Err r) → rules.appended a b [] × IsNotPut form rules a name fields e
not_written None rules a b name fields r e covered is p = told_as rules (InRangeModule name fields) a b (bytes_of name fields) r e p is
not_written (Some form) rules a b name fields r e covered is p = absurd cc

-- Supported fields were written to a sink, or writing failed.
pub fields_put : {S : Type 0} (rules : SinkRules S) (a b : S) (seen name : Option (List ℕ)) (held fields : List ModuleField) → seen ≡ name
    → held ≡ fields → head_of (uncovered_forms fields) ≡ None
    → Writes {A = Unit {0}} rules (InRangeModule seen held) a b (bytes_of seen held) (Ok tt) → PutsFields rules name fields a b (Ok tt)
fields_put rules a b seen name held fields is same covered p =
    let all = subst (λ n. Writes {A = Unit {0}} rules (InRangeModule n fields) a b (bytes_of n fields) (Ok tt)) is
    (subst (λ fs. Writes {A = Unit {0}} rules (InRangeModule seen fs) a b (bytes_of seen fs) (Ok tt)) same p) in
    (covered, all.0, all.1)

pub fields_refused : {S : Type 0} (rules : SinkRules S) (a b : S) (seen name : Option (List ℕ)) (held fields : List ModuleField) (r : Refusal)
    (e : Error) → seen ≡ name → held ≡ fields → head_of (uncovered_forms fields) ≡ None → e ≡ refused_as r
    → Writes {A = Unit {0}} rules (InRangeModule seen held) a b (bytes_of seen held) (Err r) → PutsFields rules name fields a b (Err e)
fields_refused rules a b seen name held fields r e is same covered told p =
    not_written (head_of (uncovered_forms fields)) rules a b name fields r e covered told
    (subst (λ n. Writes {A = Unit {0}} rules (InRangeModule n fields) a b (bytes_of n fields) (Err r)) is
    (subst (λ fs. Writes {A = Unit {0}} rules (InRangeModule seen fs) a b (bytes_of seen fs) (Err r)) same p))
