-- A text has one error, but for want of memory and size.
--
-- The errors of two calls are those of one module: that of its first unmet demand, or of its first unsupported construct.
use Rattle.std.specs.Prelude.{⊤}
use Rattle.std.proofs.Common.{◌≡◌, ◌⊎◌, inl, inr, ℕ, List, Option, None, Some, Err, refl, sym, ap, ◌∙◌}
use Rattle.std.proofs.lemmas.Option.{same_Some}
use Rattle.wast_base.specs.declared.faults.Error.{Error}
use Rattle.wast_base.specs.declared.faults.Fault.TheVariants as fault
use Rattle.wast_base.specs.declared.faults.Form.{Form}
use Rattle.wast_base.specs.declared.ids.Span.{Span}
use Rattle.wast_base.specs.Faults.{Cause, Diagnostic, At, Nowhere, Memory, TooLarge, diagnostic_of, error_without_place}
use Rattle.wast_base.specs.FirstUnmet.{Answers}
use Rattle.wast_resolve_rules.specs.Demands.{first_unmet, demands, IsTooLarge}
use Rattle.wast_resolve_rules.specs.Explicit.{explicit_fields}
use Rattle.wast_resolve_rules.specs.Finished.{resolved_fields_from}
use Rattle.wast_core.specs.Tree.{ModuleField}
use Rattle.wast_core.specs.Bounded.{IsBounded}
use Rattle.wast_core_sections.specs.Uncovered.{head_of, uncovered_forms}
use Rattle.wast_core_sections.specs.Encoding.{IsUnwritten}
use Rattle.wast_core.specs.Headline.{EncodesKind, IsUnencoded, name_of_module}
use Rattle.wast_core.specs.declared.module.ModuleKind.{ModuleKind}
use Rattle.wat_text.specs.Denotes.{module_of as denoted}
use Rattle.wat_text.specs.declared.modules.TextKind.{TextKind}
use Rattle.wat_text.specs.declared.modules.TextKind.TheVariants as held
use Rattle.wat_text.specs.declared.modules.TextModule.{TextModule}
use Rattle.wat_bytes.specs.declared.refusals.UncoveredForm.{UncoveredForm}
use Rattle.wat_bytes.specs.declared.refusals.Refused.{Refused}
use Rattle.wat_bytes.specs.declared.refusals.Refused.TheVariants as answer
use Rattle.wat_bytes.specs.OneText.{IsOfLimits, SameError, diagnostic_in}
use Rattle.wat_bytes.specs.Texts.{EncodesText, EncodesModule, EncodesReady, OfModule, RefusesText, kind_of, module_of, OfText}
use Rattle.wat_bytes.proofs.OneText.{Limited, of_limits, of_covered, refused_memory, not_uncovered}

-- Two errors are the same, or one is of limits.
abbrev AreOne : Diagnostic → Diagnostic → Type 0
AreOne d e = Limited d ⊎ (Limited e ⊎ (d ≡ e))

-- Two errors of the same first unmet demand.
both_unresolved : (m : Type 0) (d e : Diagnostic) (u : Option (Cause × Span)) → Answers ⊤ m d u → Answers ⊤ m e u → AreOne d e
both_unresolved m (At c p) (At b q) u x y = let pair = same_Some (c, p) (b, q) (sym x ∙ y) in inr (inr (λ i. At (pair i).0 (pair i).1))
both_unresolved m (At c p) (Nowhere Memory) u x y = inr (inl (inl refl))
both_unresolved m (At c p) (Nowhere TooLarge) u x y = inr (inl (inr refl))
both_unresolved m (At c p) (Nowhere cause) u x y = absurd y
both_unresolved m (Nowhere Memory) e u x y = inl (inl refl)
both_unresolved m (Nowhere TooLarge) e u x y = inl (inr refl)
both_unresolved m (Nowhere cause) e u x y = absurd x

-- Two errors of the same first unsupported construct.
both_unwritten : (o : Option Form) (b : Type 0) (d e : Error) → IsUnwritten o b d → IsUnwritten o b e → AreOne (diagnostic_of d) (diagnostic_of e)
both_unwritten (Some f) b d e x y = inr (inr (ap diagnostic_of (x ∙ sym y)))
both_unwritten None b d e x y = inl (of_covered None b d refl x)

both_unencoded : (n : Option (List ℕ)) (xs : List ModuleField) (d e : Error) (left rest : ModuleKind)
    → IsUnencoded 1 n xs d left → IsUnencoded 1 n xs e rest → AreOne (diagnostic_of d) (diagnostic_of e)
both_unencoded n xs d e left rest (inl x) (inl y) =
    both_unresolved (IsTooLarge 1 xs) (diagnostic_of d) (diagnostic_of e) (first_unmet (demands (explicit_fields xs))) x.0 y.0
both_unencoded n xs d e left rest (inl x) (inr y) =
    inl (of_limits (IsTooLarge 1 xs) (diagnostic_of d) (first_unmet (demands (explicit_fields xs))) y.0 x.0)
both_unencoded n xs d e left rest (inr x) (inl y) =
    inr (inl (of_limits (IsTooLarge 1 xs) (diagnostic_of e) (first_unmet (demands (explicit_fields xs))) x.0 y.0))
both_unencoded n xs d e left rest (inr x) (inr y) =
    both_unwritten (head_of (uncovered_forms (resolved_fields_from 1 xs))) (IsBounded 1 n xs) d e x.1 y.1

-- Two errors of one module.
both_kinds : (n : Option (List ℕ)) (k : TextKind) (d e : Error) (left rest : ModuleKind)
    → EncodesKind 1 n (kind_of k) (Err d) left → EncodesKind 1 n (kind_of k) (Err e) rest → AreOne (diagnostic_of d) (diagnostic_of e)
both_kinds n (held.Fields xs) d e left rest x y = both_unencoded n xs d e left rest x y
both_kinds n (held.Binary ps) d e left rest x y = inl (inl (ap diagnostic_of x.0))

both_ready : (m : TextModule) (d e : Error) → EncodesReady (module_of m) (Err d)
    → EncodesReady (module_of m) (Err e) → AreOne (diagnostic_of d) (diagnostic_of e)
both_ready m d e x y = both_kinds (name_of_module (module_of m)) m.kind d e x.left y.left x.encodes y.encodes

-- The same for the errors of calls. An unsupported construct is not of limits.
abbrev AreOneOf : Refused → Refused → Type 0
AreOneOf q r = IsOfLimits q ⊎ (IsOfLimits r ⊎ (diagnostic_in q ≡ diagnostic_in r))

module_module : (d e : Error) → AreOne (diagnostic_of d) (diagnostic_of e) → AreOneOf (answer.Module d) (answer.Module e)
module_module d e (inl x) = inl x
module_module d e (inr (inl y)) = inr (inl y)
module_module d e (inr (inr same)) = inr (inr (ap Some same))

abbrev unsupported : Form → Diagnostic
unsupported f = diagnostic_of (error_without_place (fault.Uncovered f))

module_form : (d : Error) (u : UncoveredForm) → AreOne (diagnostic_of d) (unsupported u.form) → AreOneOf (answer.Module d) (answer.Uncovered u)
module_form d u (inl x) = inl x
module_form d u (inr (inl y)) = absurd (not_uncovered u.form y)
module_form d u (inr (inr same)) = inr (inr (ap Some same))

form_module : (u : UncoveredForm) (e : Error) → AreOne (unsupported u.form) (diagnostic_of e) → AreOneOf (answer.Uncovered u) (answer.Module e)
form_module u e (inl x) = absurd (not_uncovered u.form x)
form_module u e (inr (inl y)) = inr (inl y)
form_module u e (inr (inr same)) = inr (inr (ap Some same))

form_form : (u v : UncoveredForm) → AreOne (unsupported u.form) (unsupported v.form) → AreOneOf (answer.Uncovered u) (answer.Uncovered v)
form_form u v (inl x) = absurd (not_uncovered u.form x)
form_form u v (inr (inl y)) = absurd (not_uncovered v.form y)
form_form u v (inr (inr same)) = inr (inr (ap Some same))

both_modules : (m : TextModule) (q r : Refused) → EncodesModule (module_of m) (Err q) → EncodesModule (module_of m) (Err r) → AreOneOf q r
both_modules m (answer.Text d) r x y = absurd x
both_modules m (answer.Module d) (answer.Text e) x y = absurd y
both_modules m (answer.Module d) (answer.Module e) x y = module_module d e (both_ready m d e x y)
both_modules m (answer.Module d) (answer.Uncovered e) x y = module_form d e (both_ready m d (error_without_place (fault.Uncovered e.form)) x y)
both_modules m (answer.Uncovered d) (answer.Text e) x y = absurd y
both_modules m (answer.Uncovered d) (answer.Module e) x y = form_module d e (both_ready m (error_without_place (fault.Uncovered d.form)) e x y)
both_modules m (answer.Uncovered d) (answer.Uncovered e) x y =
    form_form d e (both_ready m (error_without_place (fault.Uncovered d.form)) (error_without_place (fault.Uncovered e.form)) x y)

-- An error of a text is of no module.
of_text : (o : Option TextModule) (r : Refused) → RefusesText o r → diagnostic_in r ≡ None
of_text o (answer.Text e) x = refl
of_text o (answer.Module e) x = absurd x
of_text o (answer.Uncovered u) x = absurd x

pub same_error : SameError
unfolding OfText
same_error bytes q r x y = go (denoted bytes) x y
  where
    go : (o : Option TextModule) → OfModule EncodesText o (Err q) ⊎ RefusesText o q → OfModule EncodesText o (Err r) ⊎ RefusesText o r → AreOneOf q r
    go None (inl x) y = absurd x
    go None (inr x) (inl y) = absurd y
    go None (inr x) (inr y) = inr (inr (of_text None q x ∙ sym (of_text None r y)))
    go (Some m) (inl x) (inl y) = both_modules m q r x y
    go (Some m) (inl x) (inr y) = inr (inl (refused_memory m r y))
    go (Some m) (inr x) (inl y) = inl (refused_memory m q x)
    go (Some m) (inr x) (inr y) = inr (inr (of_text (Some m) q x ∙ sym (of_text (Some m) r y)))
