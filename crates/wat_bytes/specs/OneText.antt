-- A text has one result: a contract on a text determines it, except for failed allocations and limits of size.
--
-- A contract on a text speaks of the module of the text, which is a function of the text. Two calls that succeed for one text return the
-- same bytes, the same list of names, or the same index of a name. If one succeeds, another of the same function can fail only because
-- an allocation failed (E12) or because the module is too large (E10). If two calls of encode_text fail for other reasons, both return
-- an error of the text, or both the same error of the module.
--
--   (module (func $f) (export "a" (func $f)))      the same bytes from each call that succeeds, and the list: $f is the function 0
--   (module (func $f) (func $f))                   no bytes and no list from any call, but E2 at the second $f
use Rattle.std.specs.Prelude.{◌≡◌, ◌⊎◌, ℕ, List, map, Option, Some, None, Ok, Err}
use Rattle.std.specs.Global.{Vec}
use Rattle.wast_base.specs.declared.faults.Fault.TheVariants as fault
use Rattle.wast_base.specs.declared.spaces.Space.{Space}
use Rattle.wast_base.specs.Faults.{Diagnostic, Nowhere, Memory, TooLarge, diagnostic_of, error_without_place}
use Rattle.wat_tokens.specs.declared.faults.TextFault.TheVariants as text
use Rattle.wat_bytes.specs.declared.names.Denoted.{Denoted}
use Rattle.wat_bytes.specs.declared.refusals.Refused.{Refused}
use Rattle.wat_bytes.specs.declared.refusals.Refused.TheVariants as answer
use Rattle.wat_bytes.specs.Names.{ListsText, NumbersText, content_of}
use Rattle.wat_bytes.specs.Texts.{OfText, EncodesText}

-- Two calls that succeed return the same bytes.
abbrev pub SameBytes : Type 0
SameBytes = (bytes : List ℕ) (b c : Vec ℕ) → OfText EncodesText bytes (Ok b) → OfText EncodesText bytes (Ok c) → b.items ≡ c.items

-- An error whose cause is not the text alone: an allocation failed, or the module is too large.
abbrev pub IsOfLimits : Refused → Type 0
IsOfLimits (answer.Text e) = e.fault ≡ text.Memory
IsOfLimits (answer.Module e) = (diagnostic_of e ≡ Nowhere Memory) ⊎ (diagnostic_of e ≡ Nowhere TooLarge)
IsOfLimits (answer.Uncovered u) = ⊥

-- If a call succeeds, no other fails for a cause that is in the text.
abbrev pub SameSuccess : Type 0
SameSuccess = (bytes : List ℕ) (b : Vec ℕ) (r : Refused) → OfText EncodesText bytes (Ok b) → OfText EncodesText bytes (Err r) → IsOfLimits r

-- The error of a module without addresses: its cause, and its position if it has one. E11 has none, because the token of an unsupported
-- construct is not part of a contract, and neither has an error of the text. WorkedResults computes some.
abbrev pub diagnostic_in : Refused → Option Diagnostic
diagnostic_in (answer.Text e) = None
diagnostic_in (answer.Module e) = Some (diagnostic_of e)
diagnostic_in (answer.Uncovered u) = Some (diagnostic_of (error_without_place (fault.Uncovered u.form)))

-- Two calls that fail return the same error of the module, or both return an error of the text, unless one fails because of a limit.
-- For example, `(module (start $f))` has E4 at `$f` each time.
abbrev pub SameError : Type 0
SameError = (bytes : List ℕ) (q r : Refused) → OfText EncodesText bytes (Err q)
    → OfText EncodesText bytes (Err r) → IsOfLimits q ⊎ (IsOfLimits r ⊎ (diagnostic_in q ≡ diagnostic_in r))

-- Two calls that look a name up in one index space return the same index, or both return none.
abbrev pub SameNumber : Type 0
SameNumber = (s : Space) (name bytes : List ℕ) (m n : Option ℕ) → OfText (NumbersText s name) bytes (Ok m) → OfText (NumbersText s name) bytes (Ok n) → m ≡ n

-- If a name is looked up with success, no other call with this name and index space fails for a cause that is in the text.
abbrev pub SameLookUp : Type 0
SameLookUp = (s : Space) (name bytes : List ℕ) (found : Option ℕ) (r : Refused)
    → OfText (NumbersText s name) bytes (Ok found) → OfText (NumbersText s name) bytes (Err r) → IsOfLimits r

-- Two calls that succeed list the same names with the same indices and positions, in the same order.
abbrev pub SameList : Type 0
SameList = (bytes : List ℕ) (a b : Vec Denoted) → OfText ListsText bytes (Ok a)
    → OfText ListsText bytes (Ok b) → map content_of a.items ≡ map content_of b.items

-- If a list is returned, no other call fails for a cause that is in the text.
abbrev pub SameListing : Type 0
SameListing = (bytes : List ℕ) (a : Vec Denoted) (r : Refused) → OfText ListsText bytes (Ok a) → OfText ListsText bytes (Err r) → IsOfLimits r
