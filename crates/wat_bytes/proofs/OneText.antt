-- A text has one result.
--
-- A contract on a text speaks of the module of the text, so two calls speak of one module.
use Rattle.std.specs.Prelude.{⊤}
use Rattle.std.specs.Global.{Vec}
use Rattle.std.proofs.Common.{◌≡◌, ◌≢◌, ◌⊎◌, inl, inr, ℕ, List, Option, None, Some, Ok, Err, refl, sym, ap, ◌∙◌}
use Rattle.wast_base.specs.declared.faults.Error.{Error}
use Rattle.wast_base.specs.declared.faults.Fault.TheVariants as fault
use Rattle.wast_base.specs.declared.faults.Form.{Form}
use Rattle.wast_base.specs.declared.ids.Span.{Span}
use Rattle.wast_base.specs.Faults.{Cause, Diagnostic, At, Nowhere, Memory, TooLarge, diagnostic_of, error_without_place}
use Rattle.wast_base.specs.FirstUnmet.{Answers}
use Rattle.wast_resolve_rules.specs.Demands.{first_unmet, demands, IsTooLarge}
use Rattle.wast_resolve_rules.specs.Explicit.{explicit_fields}
use Rattle.wast_resolve_rules.specs.Finished.{resolved_fields_from}
use Rattle.wast_core.specs.Tree.{ModuleField}
use Rattle.wast_core.specs.Bounded.{IsBounded}
use Rattle.wast_core_sections.specs.Uncovered.{head_of, uncovered_forms, IsCovered}
use Rattle.wast_core_sections.specs.Encoding.{IsUnwritten}
use Rattle.wast_core.specs.Headline.{IsMet, EncodesKind, IsUnencoded, name_of_module}
use Rattle.wast_core.specs.declared.module.ModuleKind.{ModuleKind}
use Rattle.wat_tokens.specs.declared.faults.TextFault.{TextFault}
use Rattle.wat_tokens.specs.declared.faults.TextFault.TheVariants as text
use Rattle.wat_text.specs.Denotes.{module_of as denoted}
use Rattle.wat_text.specs.declared.modules.TextKind.{TextKind}
use Rattle.wat_text.specs.declared.modules.TextKind.TheVariants as held
use Rattle.wat_text.specs.declared.modules.TextModule.{TextModule}
use Rattle.wat_bytes.specs.declared.refusals.Refused.{Refused}
use Rattle.wat_bytes.specs.declared.refusals.Refused.TheVariants as answer
use Rattle.wat_bytes.specs.Texts.{EncodesText, EncodesModule, EncodesReady, OfModule, RefusesText, kind_of, module_of, OfText}
use Rattle.wat_bytes.specs.OneText.{SameBytes, SameSuccess, IsOfLimits}

-- Two encodings of one module are the same bytes.
one_encoding : (name : Option (List ℕ)) (k : TextKind) (left rest : ModuleKind) (b c : Vec ℕ)
    → EncodesKind 1 name (kind_of k) (Ok b) left → EncodesKind 1 name (kind_of k) (Ok c) rest → b.items ≡ c.items
one_encoding name (held.Fields xs) left rest b c x y = x.2.spelled ∙ sym y.2.spelled
one_encoding name (held.Binary ps) left rest b c x y = x.0 ∙ sym y.0

pub same_bytes : SameBytes
unfolding OfText
same_bytes bytes b c x y = go (denoted bytes) x y
  where
    go : (o : Option TextModule) → OfModule EncodesText o (Ok b) → OfModule EncodesText o (Ok c) → b.items ≡ c.items
    go None x y = absurd x
    go (Some m) x y = one_encoding (name_of_module (module_of m)) m.kind x.left y.left b c x.encodes y.encodes

-- An error that has no cause in the text.
abbrev pub Limited : Diagnostic → Type 0
Limited d = (d ≡ Nowhere Memory) ⊎ (d ≡ Nowhere TooLarge)

-- An error of a module whose demands are met is one of limits.
pub of_limits : (large : Type 0) (d : Diagnostic) (unmet : Option (Cause × Span)) → unmet ≡ None → Answers ⊤ large d unmet → Limited d
of_limits large (At cause place) unmet e is = absurd cc
of_limits large (Nowhere Memory) unmet e is = inl refl
of_limits large (Nowhere TooLarge) unmet e is = inr refl
of_limits large (Nowhere cause) unmet e is = absurd is

-- So is one of a module without unsupported constructs.
pub of_covered : (o : Option Form) (is_bounded : Type 0) (d : Error) → o ≡ None → IsUnwritten o is_bounded d → Limited (diagnostic_of d)
of_covered (Some form) is_bounded d e is = absurd cc
of_covered None is_bounded d e (inl is) = inl (ap diagnostic_of is)
of_covered None is_bounded d e (inr is) = inr (ap diagnostic_of is.0)

-- The errors of encoding a module that is encoded.
unencoded : (n : Option (List ℕ)) (xs : List ModuleField) (d : Error) (left : ModuleKind) → IsMet xs → IsCovered (resolved_fields_from 1 xs)
    → IsUnencoded 1 n xs d left → Limited (diagnostic_of d)
unencoded n xs d left met covered (inl is) = of_limits (IsTooLarge 1 xs) (diagnostic_of d) (first_unmet (demands (explicit_fields xs))) met is.0
unencoded n xs d left met covered (inr is) = of_covered (head_of (uncovered_forms (resolved_fields_from 1 xs))) (IsBounded 1 n xs) d covered is.1

limited : (n : Option (List ℕ)) (k : TextKind) (left rest : ModuleKind) (b : Vec ℕ) (d : Error)
    → EncodesKind 1 n (kind_of k) (Ok b) left → EncodesKind 1 n (kind_of k) (Err d) rest → Limited (diagnostic_of d)
limited n (held.Fields xs) left rest b d x y = unencoded n xs d rest x.0 x.1 y
limited n (held.Binary ps) left rest b d x y = inl (ap diagnostic_of y.0)

pub not_uncovered : (f : Form) → Limited (diagnostic_of (error_without_place (fault.Uncovered f))) → ⊥
not_uncovered f (inl e) = absurd cc
not_uncovered f (inr e) = absurd cc

after_module : (m : TextModule) (b : Vec ℕ) (r : Refused) → EncodesReady (module_of m) (Ok b) → EncodesModule (module_of m) (Err r) → IsOfLimits r
after_module m b (answer.Text d) x y = absurd y
after_module m b (answer.Module d) x y = limited (name_of_module (module_of m)) m.kind x.left y.left b d x.encodes y.encodes
after_module m b (answer.Uncovered d) x y =
    not_uncovered d.form (limited (name_of_module (module_of m)) m.kind x.left y.left b (error_without_place (fault.Uncovered d.form)) x.encodes y.encodes)

-- An error of a text that has a module is of a failed allocation.
memory_or : (f : TextFault) → (f ≡ text.Memory) ⊎ (f ≢ text.Memory)
memory_or text.Memory = inl refl
memory_or f = inr (λ e. cc)

of_fault : (m : TextModule) (f : TextFault) → (f ≡ text.Memory) ⊎ (f ≢ text.Memory) → (f ≢ text.Memory → Some m ≡ None) → f ≡ text.Memory
of_fault m f (inl is) none = is
of_fault m f (inr not) none = absurd (is_some (none not))
  where
    is_some : Some m ≡ None → ⊥
    is_some e = absurd cc

pub refused_memory : (m : TextModule) (r : Refused) → RefusesText (Some m) r → IsOfLimits r
refused_memory m (answer.Text e) x = of_fault m e.fault (memory_or e.fault) x
refused_memory m (answer.Module e) x = absurd x
refused_memory m (answer.Uncovered u) x = absurd x

pub same_success : SameSuccess
unfolding OfText
same_success bytes b r x y = go (denoted bytes) x y
  where
    go : (o : Option TextModule) → OfModule EncodesText o (Ok b) → OfModule EncodesText o (Err r) ⊎ RefusesText o r → IsOfLimits r
    go None x y = absurd x
    go (Some m) x (inl y) = after_module m b r x y
    go (Some m) x (inr y) = refused_memory m r y
