-- What the fault of a reader says of the reader before it: a reader keeps its first fault.
use Rattle.std.proofs.Common.{◌≡◌, ◌≢◌, Option, None, Some, refl, subst}
use Rattle.wat_tokens.specs.declared.faults.TextFault.{TextFault}
use Rattle.wat_tokens.specs.declared.faults.TextError.{TextError}
use Rattle.wat_syntax.specs.Tree.{Span}
use Rattle.wast_script.specs.declared.reader.Reader.{Reader}
use Rattle.wast_script.specs.Readers.{IsRefused, Fails}

-- a reader without a fault rejected nothing
pub none_refused : (o : Option TextError) → o ≡ None → IsRefused o → ⊥
none_refused None e f = f
none_refused (Some x) e f = absurd cc

-- a reader that stored a fault has one
pub faulty : (old new : Reader) (fault : TextFault) (span : Span) → Fails fault span old new → new.fault ≡ None → ⊥
faulty old new fault span f h = go old.fault refl h
  where
    go : (o : Option TextError) → old.fault ≡ o → new.fault ≡ None → ⊥
    go None e h = absurd (cc (f.first e))
    go (Some y) e h = absurd (cc (f.keeps (λ n. cc)))

-- what follows from a rejection: the reader before had no fault, or it rejected the tokens
pub by_fault : {X : Type 0} (old new : Reader) → (old.fault ≢ None → new.fault ≡ old.fault)
    → IsRefused new.fault → (old.fault ≡ None → X) → (IsRefused old.fault → X) → X
by_fault {X = X} old new keeps f clean refused = go old.fault refl
  where
    go : (o : Option TextError) → old.fault ≡ o → X
    go None e = clean e
    go (Some y) e = refused (subst IsRefused (keeps (λ n. cc)) f)
