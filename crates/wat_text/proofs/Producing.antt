-- Values of the fields of `producers`, as a loop reads them and appends each to the list of its field.
use Rattle.std.proofs.Common.{◌≡◌, ◌≢◌, ◌∙◌, ℕ, suc, ◌-◌, ◌+◌, ◌<◌, Bool, true, false, List, [], ◌∷◌}
use Rattle.std.proofs.Common.{◌++◌, map, Option, None, Some, refl, sym, ap, subst, append_assoc, arith}
use Rattle.wat_grammar.specs.Parts.{◌>>=◌}
use Rattle.wat_tokens.specs.declared.faults.TextError.{TextError}
use Rattle.wat_syntax.specs.Tokens.{Toks, Parse, many, one, rparen}
use Rattle.wat_syntax.specs.Types.{goes_on}
use Rattle.wat_syntax.specs.Customs.{ProducersField, Language, Sdk, ProcessedBy, Version, producer_open, producer, all_producers, versions_of, is_same_field}
use Rattle.wat_syntax.specs.BareFields.{bare_version}
use Rattle.wat_text.specs.Readers.{left, IsClean, IsRefused, Decides, Expects}
use Rattle.wat_text.specs.MadeProducers.{IsPut, PushesValue, versions_with, ReadsProducers, bare_value}
use Rattle.wat_text.specs.declared.customs.Made.{Made}
use Rattle.wat_text.specs.declared.customs.Tool.{Tool}
use Rattle.wat_text.specs.declared.customs.Tool.TheVariants as tool
use Rattle.wat_text.specs.declared.reader.Reader.{Reader}
use Rattle.wat_text.proofs.Loops.{no_more, mapped, stops}
use Rattle.wat_text.proofs.Steps.{Steps, both_steps}

abbrev Value : Type 0
Value = ProducersField × Version

-- one value, and those of the rest
versions_more : (f : ProducersField) (p : Value) (ps : List Value) → versions_of f (p ∷ ps) ≡ versions_of f (p ∷ []) ++ versions_of f ps
versions_more f p ps = go (is_same_field f p.0) refl
  where
    go : (b : Bool) → is_same_field f p.0 ≡ b → versions_of f (p ∷ ps) ≡ versions_of f (p ∷ []) ++ versions_of f ps
    go true e = rw (versions_of, e) refl
    go false e = rw (versions_of, e) refl

then_versions : (f : ProducersField) (before : List Version) (p : Value) (rest : Parse (List Value))
    → versions_with before f (rest >>= λ xs. Some (p ∷ xs.0, xs.1)) ≡ versions_with (before ++ versions_of f (p ∷ [])) f rest
then_versions f before p None = refl
then_versions f before p (Some xs) =
    ap {A = List Version} (λ ys. Some (ys, xs.1))
    (ap (λ ys. before ++ ys) (versions_more f p xs.0) ∙ sym (append_assoc before (versions_of f (p ∷ [])) (versions_of f xs.0)))

the_same : {A : Type 0} {x y : A} → Some x ≡ Some y → x ≡ y
the_same e = cc

one_value : (n : ℕ) (toks : Toks) (x : Value × Toks) → goes_on toks ≡ true → producer toks ≡ Some x
    → many goes_on producer (suc n) toks ≡ (many goes_on producer n x.1 >>= λ xs. Some (x.0 ∷ xs.0, xs.1))
one_value n toks x yet e = rw (many, yet, e) refl

no_more_values : (n : ℕ) (toks : Toks) → goes_on toks ≡ true → producer toks ≡ None → many goes_on producer (suc n) toks ≡ None
no_more_values n toks yet e = rw (many, yet, e) refl

producer_goes : (f : ProducersField) (m n : ℕ) (toks rest : Toks) (before after : List Version) → m ≡ suc n → goes_on toks ≡ true
    → versions_with before f (one producer toks) ≡ Some (after, rest)
    → versions_with before f (many goes_on producer m toks) ≡ versions_with after f (many goes_on producer n rest)
producer_goes f m n toks rest before after one yet h = ap (λ k. versions_with before f (many goes_on producer k toks)) one ∙ go (producer toks) refl h
  where
    go : (o : Parse Value) → producer toks ≡ o → versions_with before f (o >>= λ x. Some (x.0 ∷ [], x.1)) ≡ Some (after, rest)
        → versions_with before f (many goes_on producer (suc n) toks) ≡ versions_with after f (many goes_on producer n rest)
    go None e h = absurd cc
    go (Some x) e h =
        ap (versions_with before f) (one_value n toks x yet e)
        ∙ then_versions f before x.0 (many goes_on producer n x.1)
        ∙ ap {A = List Version × Toks} (λ y. versions_with y.0 f (many goes_on producer n y.1)) (the_same h)

-- one value as a list
abbrev alone : Parse Value → Parse (List Value)
alone o = o >>= λ x. Some (x.0 ∷ [], x.1)

producer_none : (f : ProducersField) (m n : ℕ) (toks : Toks) (before : List Version) → m ≡ suc n → goes_on toks ≡ true
    → one producer toks ≡ None → versions_with before f (many goes_on producer m toks) ≡ None
producer_none f m n toks before one yet h = ap (λ k. versions_with before f (many goes_on producer k toks)) one ∙ go (producer toks) refl h
  where
    go : (o : Parse Value) → producer toks ≡ o → alone o ≡ None → versions_with before f (many goes_on producer (suc n) toks) ≡ None
    go None e h = ap (versions_with before f) (no_more_values n toks yet e)
    go (Some x) e h = absurd cc

-- the values that are gathered, of each field
pub record Gathers (first old : Reader) (before now : Made) (n : ℕ) : Type 0 where
  pub languages : Steps first old (versions_with (map bare_version before.languages) Language (all_producers (left first)))
      (versions_with (map bare_version now.languages) Language (many goes_on producer n (left old)))
  pub sdks : Steps first old (versions_with (map bare_version before.sdks) Sdk (all_producers (left first)))
      (versions_with (map bare_version now.sdks) Sdk (many goes_on producer n (left old)))
  pub processors : Steps first old (versions_with (map bare_version before.processors) ProcessedBy (all_producers (left first)))
      (versions_with (map bare_version now.processors) ProcessedBy (many goes_on producer n (left old)))

-- one value more
pub gathers_more : (first old new : Reader) (before now after : Made) (counter end : ℕ)
    → counter < end → goes_on (left old) ≡ true → ReadsProducers (one producer) old new now after
    → Gathers first old before now (end - counter) → Gathers first new before after (end - (counter + 1))
gathers_more first old new before now after counter end few yet r s = record {
  languages = both_steps first old new _ _ _ s.languages (step Language (map bare_version now.languages) (map bare_version after.languages) r.languages);
  sdks = both_steps first old new _ _ _ s.sdks (step Sdk (map bare_version now.sdks) (map bare_version after.sdks) r.sdks);
  processors = both_steps first old new _ _ _ s.processors
      (step ProcessedBy (map bare_version now.processors) (map bare_version after.processors) r.processors);
}
  where
    step : (f : ProducersField) (before after : List Version) → (IsClean new → versions_with before f (one producer (left old)) ≡ Some (after, left new))
        → Steps old new (versions_with before f (many goes_on producer (end - counter) (left old)))
        (versions_with after f (many goes_on producer (end - (counter + 1)) (left new)))
    step f before after gives = record {
      made = r.made;
      clean = r.clean;
      goes = λ h. producer_goes f (end - counter) (end - (counter + 1)) (left old) (left new) before after (omega (arith, few)) yet (gives h);
      keeps = r.keeps;
      refuses = λ h m x. producer_none f (end - counter) (end - (counter + 1)) (left old) before (omega (arith, few)) yet (r.refuses h m x);
    }

none_with : (before : List Version) (f : ProducersField) (p : Parse (List Value)) → versions_with before f p ≡ None → p ≡ None
none_with before f None h = refl
none_with before f (Some x) h = absurd cc

gathered : (first new : Reader) (before after : Made) (n : ℕ) → many goes_on producer n (left new) ≡ Some ([], left new)
    → Gathers first new before after n → ReadsProducers all_producers first new before after
gathered first new before after n ends g = record {
  made = g.languages.made;
  clean = g.languages.clean;
  languages = λ h. g.languages.goes h ∙ none_left Language (map bare_version after.languages);
  sdks = λ h. g.sdks.goes h ∙ none_left Sdk (map bare_version after.sdks);
  processors = λ h. g.processors.goes h ∙ none_left ProcessedBy (map bare_version after.processors);
  keeps = g.languages.keeps;
  refuses = λ h m x. none_with (map bare_version before.languages) Language (all_producers (left first)) (g.languages.refuses h m x);
}
  where
    none_left : (f : ProducersField) (versions : List Version) → versions_with versions f (many goes_on producer n (left new)) ≡ Some (versions, left new)
    none_left f versions = ap (versions_with versions f) ends ∙ ap (λ xs. Some (xs, left new)) (no_more versions)

-- no value is next, and no step is left
pub gathers_end : (first new : Reader) (before after : Made) (n : ℕ) → goes_on (left new) ≡ false
    → Gathers first new before after n → ReadsProducers all_producers first new before after
gathers_end first new before after n ends g = gathered first new before after n (stops goes_on producer n (left new) ends) g

pub gathers_last : (first new : Reader) (before after : Made) (n : ℕ) → n ≡ 0
    → Gathers first new before after n → ReadsProducers all_producers first new before after
gathers_last first new before after n none g = gathered first new before after n (ap (λ k. many goes_on producer k (left new)) none) g

-- what is appended is one value of its field, and none of the others
put_value : (v : Tool × Version) (before after : Made) → IsPut v before after
    → (map bare_version after.languages ≡ map bare_version before.languages ++ versions_of Language (bare_value v ∷ []))
    × (map bare_version after.sdks ≡ map bare_version before.sdks ++ versions_of Sdk (bare_value v ∷ []))
    × (map bare_version after.processors ≡ map bare_version before.processors ++ versions_of ProcessedBy (bare_value v ∷ []))
put_value (tool.Language, v) before after p = (
  ap (map bare_version) p.0 ∙ mapped bare_version before.languages v,
  ap (map bare_version) p.1
      ∙ sym (no_more (map bare_version before.sdks)),
  ap (map bare_version) p.2 ∙ sym (no_more (map bare_version before.processors)),
)
put_value (tool.Sdk, v) before after p = (
  ap (map bare_version) p.0 ∙ sym (no_more (map bare_version before.languages)),
  ap (map bare_version) p.1
      ∙ mapped bare_version before.sdks v,
  ap (map bare_version) p.2 ∙ sym (no_more (map bare_version before.processors)),
)
put_value (tool.ProcessedBy, v) before after p = (
  ap (map bare_version) p.0 ∙ sym (no_more (map bare_version before.languages)),
  ap (map bare_version) p.1
      ∙ sym (no_more (map bare_version before.sdks)),
  ap (map bare_version) p.2 ∙ mapped bare_version before.processors v,
)

-- a part before a ')', with something that takes no tokens between
closed : {T : Type 0} (rule : Toks → Parse T) (old a b new : Reader) (x : T) → Decides rule old a x
    → b.make ≡ a.make → (b.fault ≡ None → a.fault ≡ None) → (b.fault ≡ None → left b ≡ left a)
    → (a.fault ≢ None → b.fault ≡ a.fault) → (a.fault ≡ None → IsRefused b.fault → ⊥)
    → Expects rparen b new → Decides (λ toks. rule toks >>= λ p. rparen p.1 >>= λ rest. Some (p.0, rest)) old new x
closed {T = T} rule old a b new x r make clean same keeps memory e = record {
  make = e.make ∙ make ∙ r.make;
  clean = λ h. r.clean (clean (e.clean h));
  gives = λ h. ap ends (r.gives (clean (e.clean h))) ∙ ap (λ o. o >>= λ rest. Some (x, rest)) (ap rparen (sym (same (e.clean h))) ∙ e.gives h);
  keeps = λ h. e.keeps (λ n. h (r.clean (clean n))) ∙ keeps (λ n. h (r.clean n)) ∙ r.keeps h;
  refuses = λ h f. at_b b.fault refl h f;
}
  where
    ends : Parse T → Parse T
    ends o = o >>= λ p. rparen p.1 >>= λ rest. Some (p.0, rest)

    at_a : (o : Option TextError) → a.fault ≡ o → old.fault ≡ None → IsRefused b.fault → ends (rule (left old)) ≡ None
    at_a None n h f = absurd (memory n f)
    at_a (Some y) s h f = ap ends (r.refuses h (subst IsRefused (keeps (λ n. cc)) f))

    at_b : (o : Option TextError) → b.fault ≡ o → old.fault ≡ None → IsRefused new.fault → ends (rule (left old)) ≡ None
    at_b None n h f = ap ends (r.gives (clean n)) ∙ ap (λ o. o >>= λ rest. Some (x, rest)) (ap rparen (sym (same n)) ∙ e.refuses n f)
    at_b (Some y) s h f = at_a a.fault refl h (subst IsRefused (e.keeps (λ n. cc)) f)

pub producer_reads : (old a b new : Reader) (v : Tool × Version) (before after : Made)
    → Decides producer_open old a (bare_value v) → PushesValue a b v before after → Expects rparen b new → ReadsProducers (one producer) old new before after
producer_reads old a b new v before after r p e =
    let d : Decides producer old new (bare_value v) = closed producer_open old a b new (bare_value v) r p.make p.clean p.left p.keeps p.memory e in
    record {
      made = λ h. sym d.make ∙ h;
      clean = d.clean;
      languages = λ h. with_value Language (map bare_version before.languages) (d.gives h.0)
          ∙ ap {A = List Version} (λ xs. Some (xs, left new)) (sym (put_value v before after (p.pushed (e.clean h.0))).0);
      sdks = λ h. with_value Sdk (map bare_version before.sdks) (d.gives h.0)
          ∙ ap {A = List Version} (λ xs. Some (xs, left new)) (sym (put_value v before after (p.pushed (e.clean h.0))).1);
      processors = λ h. with_value ProcessedBy (map bare_version before.processors) (d.gives h.0)
          ∙ ap {A = List Version} (λ xs. Some (xs, left new)) (sym (put_value v before after (p.pushed (e.clean h.0))).2);
      keeps = d.keeps;
      refuses = λ h m f. ap alone (d.refuses h f);
    }
  where
    with_value : (f : ProducersField) (versions : List Version) → producer (left old) ≡ Some (bare_value v, left new)
        → versions_with versions f (one producer (left old)) ≡ Some (versions ++ versions_of f (bare_value v ∷ []), left new)
    with_value f versions h = ap (λ o. versions_with versions f (alone o)) h
