-- At most one field is a start function: field by field, without addresses, and as what a reader checks.
--
--   (start 0) (func) (start 0)      none after the first field, and then a second one
use Rattle.std.proofs.Common.{◌≡◌, ◌∙◌, ◌&&◌, not, Bool, true, false, List, [], ◌∷◌, Option, None, Some, refl, sym, ap}
use Rattle.std.specs.Prelude.{is_none}
use Rattle.wat_syntax.specs.Tree.{Span, ModuleField}
use Rattle.wat_syntax.specs.Tree.field
use Rattle.wat_syntax.specs.Tokens.{Toks}
use Rattle.wat_syntax.specs.BareFields.{bare_field, bare_fields}
use Rattle.wat_tokens.specs.declared.faults.TextError.{TextError}
use Rattle.wat_tokens.specs.declared.faults.TextFault.{TextFault}
use Rattle.wat_text.specs.Denotes.{is_start, has_no_start, has_one_start, where_it_holds}
use Rattle.wat_text.specs.Readers.{left, Expects, Fails}
use Rattle.wat_text.specs.declared.reader.Reader.{Reader}

-- At most one field is a start function, if one was found before them or not.
abbrev pub one_after : Bool → List ModuleField → Bool
one_after found fs = elim found [ true ↦ has_no_start fs | false ↦ has_one_start fs ]

pub one_at_end : (found : Bool) → one_after found [] ≡ true
one_at_end true = refl
one_at_end false = refl

pub one_found : (found start : Bool) (f : ModuleField) (fs : List ModuleField)
    → is_start f ≡ start → found ≡ false → one_after found (f ∷ fs) ≡ one_after start fs
one_found true true f fs e n = absurd cc
one_found true false f fs e n = absurd cc
one_found false true f fs e n = ap (λ b. elim b [ true ↦ has_no_start fs | false ↦ has_one_start fs ]) e
one_found false false f fs e n = ap (λ b. elim b [ true ↦ has_no_start fs | false ↦ has_one_start fs ]) e

pub one_passed : (found : Bool) (f : ModuleField) (fs : List ModuleField) → is_start f ≡ false → one_after found (f ∷ fs) ≡ one_after found fs
one_passed true f fs e = ap (λ b. not b && has_no_start fs) e
one_passed false f fs e = ap (λ b. elim b [ true ↦ has_no_start fs | false ↦ has_one_start fs ]) e

pub second_found : (found : Bool) (f : ModuleField) (fs : List ModuleField) → is_start f ≡ true → found ≡ true → one_after found (f ∷ fs) ≡ false
second_found true f fs e y = ap (λ b. not b && has_no_start fs) e
second_found false f fs e y = absurd cc

bare_start : (f : ModuleField) → is_start (bare_field f) ≡ is_start f
bare_start (field.Start x) = refl
bare_start f = refl

no_start_bare : (fs : List ModuleField) → has_no_start (bare_fields fs) ≡ has_no_start fs
no_start_bare [] = refl
no_start_bare (f ∷ fs) = ap (λ b. not b && has_no_start (bare_fields fs)) (bare_start f) ∙ ap (λ b. not (is_start f) && b) (no_start_bare fs)

either_same : (c w x y z : Bool) → w ≡ y → x ≡ z → ◌≡◌ {A = Bool} (elim c [ true ↦ w | false ↦ x ]) (elim c [ true ↦ y | false ↦ z ])
either_same true w x y z p q = p
either_same false w x y z p q = q

one_bare : (fs : List ModuleField) → has_one_start (bare_fields fs) ≡ has_one_start fs
one_bare [] = refl
one_bare (f ∷ fs) = ap (λ b. elim b [ true ↦ has_no_start (bare_fields fs) | false ↦ has_one_start (bare_fields fs) ]) (bare_start f)
    ∙ either_same (is_start f) (has_no_start (bare_fields fs)) (has_one_start (bare_fields fs))
    (has_no_start fs) (has_one_start fs) (no_start_bare fs) (one_bare fs)

pub one_holds : (r : Option Span) (fs : List ModuleField) (toks : Toks) → is_none r ≡ has_one_start fs
    → r ≡ None → where_it_holds (has_one_start (bare_fields fs)) toks ≡ Some toks
one_holds r fs toks e n = ap (λ b. where_it_holds b toks) (one_bare fs ∙ sym e ∙ ap is_none n)

-- a reader that failed because of the second start function
pub one_fails : (r : Bool) (fs : List ModuleField) (f : TextFault) (span : Span) (old new : Reader) → r ≡ has_one_start fs → r ≡ false → Fails f span old new
    → Expects (where_it_holds (has_one_start (bare_fields fs))) old new
one_fails r fs f span old new e never x = record {
  make = x.make;
  clean = λ n. was old.fault refl n;
  gives = λ n. absurd (faulty n (x.first (was old.fault refl n)));
  keeps = x.keeps;
  refuses = λ n h. ap (λ b. where_it_holds b (left old)) (one_bare fs ∙ sym e ∙ never);
}
  where
    was : (o : Option TextError) → old.fault ≡ o → new.fault ≡ None → old.fault ≡ None
    was None s n = s
    was (Some y) s n = sym (x.keeps (λ m. cc)) ∙ n

    faulty : new.fault ≡ None → new.fault ≡ Some (record { fault = f; span = span }) → ⊥
    faulty n s = cc
