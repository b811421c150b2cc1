-- What parsing returns, and that the module of a text may be resolved.
use Rattle.std.proofs.Common.{◌≡◌, ◌≢◌, ℕ, max, ◌<◌, ◌≤◌, List, length, Some, Result, Ok, Err, IsTrue, IfOk, IfErr, refl, arith}
use Rattle.wast_base.specs.Ids.{mark_of_option}
use Rattle.wast_tree_nodes.specs.Generations.{generation_or_zero}
use Rattle.wat_tokens.specs.declared.faults.TextError.{TextError}
use Rattle.wat_tokens.specs.declared.faults.TextFault.TheVariants as text
use Rattle.wast_core.specs.Modules.{IsReady, is_well_formed_kind, bound_of_kind}
use Rattle.wat_text.specs.declared.modules.TextKind.{TextKind}
use Rattle.wat_text.specs.declared.modules.TextKind.TheVariants as held
use Rattle.wat_text.specs.declared.modules.TextModule.{TextModule}
use Rattle.wat_text.specs.Denotes.{module_of as denoted, bare_module, Denotes, DenotesNothing}
use Rattle.wat_text.proofs.Ready.{KindOk, of_text}
use Rattle.wat_ready.proofs.Checks.{mark_zero}
use Rattle.wat_bytes.specs.BareLaws.{Laws}
use Rattle.wat_bytes.specs.Texts.{IsRead, kind_of, module_of}
use Rattle.wat_bytes.proofs.BareAnswers.{ready_back}

-- What `read` returns is what parsing returns.
pub is_read : (bytes : List ℕ) (r : Result TextModule TextError) → IfOk r (Denotes bytes) → IfErr r (λ e. e.fault ≢ text.Memory → DenotesNothing bytes)
    → IfErr r (λ e. e.span.offset ≤ length bytes) → IsRead bytes r
unfolding IsRead
is_read bytes (Ok t) denotes refuses placed = denotes
is_read bytes (Err e) denotes refuses placed = (refuses, placed)

-- The rules read modules that may be resolved.
kind_well : (k : TextKind) → KindOk k → IsTrue (is_well_formed_kind (kind_of k))
kind_well (held.Fields fs) p = p.0
kind_well (held.Binary ps) p = refl

kind_zero : (k : TextKind) → KindOk k → bound_of_kind (kind_of k) ≡ 0
kind_zero (held.Fields fs) p = p.1
kind_zero (held.Binary ps) p = refl

below_one : (a b : ℕ) → a ≡ 0 → b ≡ 0 → max a b < 1
below_one a b p q = omega arith

ready : (bytes : List ℕ) (m : TextModule) → denoted bytes ≡ Some m → IsReady (module_of m) 1
ready bytes m is =
    let p = (of_text bytes).at m is in
    record {
      well_formed = kind_well m.kind p.1;
      above = below_one (generation_or_zero (mark_of_option m.id)) (bound_of_kind (kind_of m.kind))
          (mark_zero (mark_of_option m.id) p.0) (kind_zero m.kind p.1);
    }

-- So may the module that `read` returns.
pub read_ready : Laws → (bytes : List ℕ) (r : Result TextModule TextError) → IfOk r (Denotes bytes) → IfOk r (λ t. IsReady (module_of t) 1)
read_ready laws bytes (Ok t) denotes = ready_back laws t (ready bytes (bare_module t) denotes)
read_ready laws bytes (Err e) denotes = tt
