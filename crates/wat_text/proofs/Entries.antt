-- Entries of neighbouring forms, as a loop reads them: `(export-info "a" 1) (export-info "b" 2)` are two entries.
use Rattle.std.proofs.Common.{◌≡◌, ◌∙◌, ℕ, suc, ◌-◌, ◌+◌, ◌<◌, Bool, true, false, List, [], ◌∷◌, ◌++◌, map, Option, None, Some, refl, sym, ap, subst, arith}
use Rattle.wat_tokens.specs.declared.faults.TextError.{TextError}
use Rattle.wat_grammar.specs.Parts.{◌>>=◌}
use Rattle.wat_tokens.specs.declared.words.Key.{Key}
use Rattle.wat_syntax.specs.Tokens.{Toks, Parse, with_parts}
use Rattle.wat_syntax.specs.Customs.{again, entries}
use Rattle.wat_text.specs.Readers.{left, IsClean, IsRefused, Reads, ReadsOnto, Accepts, Pushes}
use Rattle.wat_text.specs.declared.reader.Reader.{Reader}
use Rattle.wat_text.proofs.Loops.{no_more, after_both, none_after}
use Rattle.wat_text.proofs.Steps.{Steps, Puts, both_steps, by_pushing, mapped_puts}

module _ {T : Type 0} (k : Key) (entry : Toks → Parse T) where
  -- an entry, and what follows it
  abbrev then_more : ℕ → T → Toks → Option Toks → Parse (List T)
  then_more n x rest (Some t) = entries k entry n t >>= λ xs. Some (x ∷ xs.0, xs.1)
  then_more n x rest None = Some (x ∷ [], rest)

  entry_is : (n : ℕ) (toks rest : Toks) (x : T) → entry toks ≡ Some (x, rest) → entries k entry (suc n) toks ≡ then_more n x rest (again k rest)
  entry_is n toks rest x gives = rw (entries, gives) (go (again k rest))
    where
      go : (o : Option Toks) → elim o as (λ o. Parse (List T))
          [ Some t ↦ entries k entry n t >>= λ xs. Some (x ∷ xs.0, xs.1) | None ↦ Some (x ∷ [], rest) ] ≡ then_more n x rest o
      go None = refl
      go (Some t) = refl

  entry_then : (n : ℕ) (toks rest more : Toks) (x : T) → entry toks ≡ Some (x, rest) → again k rest ≡ Some more
      → entries k entry (suc n) toks ≡ with_parts (x ∷ []) (entries k entry n more)
  entry_then n toks rest more x gives next = entry_is n toks rest x gives ∙ ap (then_more n x rest) next

  entry_alone : (n : ℕ) (toks rest : Toks) (x : T) → entry toks ≡ Some (x, rest) → again k rest ≡ None
      → entries k entry (suc n) toks ≡ Some (x ∷ [], rest)
  entry_alone n toks rest x gives ends = entry_is n toks rest x gives ∙ ap (then_more n x rest) ends

  entry_none : (n : ℕ) (toks : Toks) → entry toks ≡ None → entries k entry (suc n) toks ≡ None
  entry_none n toks none = rw (entries, none) refl

-- What remains after an entry, by whether another form of the same keyword follows.
abbrev rest_of : {T : Type 0} → Key → (Toks → Parse T) → ℕ → List T → Bool → Toks → Parse (List T)
rest_of k entry n found true toks = with_parts found (entries k entry n toks)
rest_of k entry n found false toks = Some (found, toks)

entry_goes : {T : Type 0} (k : Key) (entry : Toks → Parse T) (m n : ℕ) (toks rest : Toks) (x : T) (found after : List T) (b new : Reader) (next : Bool)
    → m ≡ suc n → entry toks ≡ Some (x, rest) → after ≡ found ++ x ∷ [] → left b ≡ rest → Accepts (again k) b new next
    → with_parts found (entries k entry m toks) ≡ rest_of k entry n after next (left new)
entry_goes k entry m n toks rest x found after b new true one gives pushed same a =
    ap (λ i. with_parts found (entries k entry i toks)) one
    ∙ ap (with_parts found) (entry_then k entry n toks rest (left new) x gives (ap (again k) (sym same) ∙ a.there refl))
    ∙ sym (after_both found (x ∷ []) (entries k entry n (left new)))
    ∙ ap (λ xs. with_parts xs (entries k entry n (left new))) (sym pushed)
entry_goes {T = T} k entry m n toks rest x found after b new false one gives pushed same a =
    ap (λ i. with_parts found (entries k entry i toks)) one
    ∙ ap (with_parts found) (entry_alone k entry n toks rest x gives (ap (again k) (sym same) ∙ a.absent refl))
    ∙ ap {A = List T} (λ xs. Some (xs, rest)) (sym pushed)
    ∙ ap {A = Toks} (λ t. Some (after, t)) (sym same ∙ sym (a.stays refl))

entry_step : {T : Type 0} (k : Key) (entry : Toks → Parse T) (old a b new : Reader) (counter end : ℕ) (x : T) (found after : List T) (next : Bool)
    → counter < end → Reads entry old a x → Puts a b x found after → Accepts (again k) b new next
    → Steps old new (with_parts found (entries k entry (end - counter) (left old))) (rest_of k entry (end - (counter + 1)) after next (left new))
entry_step k entry old a b new counter end x found after next few r p c =
    let n = end - (counter + 1) in
    let one : end - counter ≡ suc n = omega (arith, few) in
    record {
      made = λ h. r.made (p.made (sym c.make ∙ h));
      clean = λ h. r.clean (p.clean (sym c.fault ∙ h));
      goes = λ h. let clean : IsClean b = (sym c.fault ∙ h.0, sym c.make ∙ h.1) in
          entry_goes k entry (end - counter) n (left old) (left a) x found after b new next one
          (r.gives (p.clean clean.0, p.made clean.1)) (p.pushed clean) (p.left clean) c;
      keeps = λ h. c.fault ∙ p.keeps (λ e. h (r.clean e)) ∙ r.keeps h;
      refuses = λ h m f. refused h (sym c.make ∙ m) (subst IsRefused c.fault f);
    }
  where
    refused : old.fault ≡ None → b.make ≡ false → IsRefused b.fault → with_parts found (entries k entry (end - counter) (left old)) ≡ None
    refused h m f = go a.fault refl
      where
        go : (o : Option TextError) → a.fault ≡ o → with_parts found (entries k entry (end - counter) (left old)) ≡ None
        go None e = absurd (p.memory e f)
        go (Some y) e =
            let one : end - counter ≡ suc (end - (counter + 1)) = omega (arith, few) in
            ap (λ i. with_parts found (entries k entry i (left old))) one
            ∙ ap (with_parts found) (entry_none k entry (end - (counter + 1)) (left old) (r.refuses h (p.made m) (subst IsRefused (p.keeps (λ n. cc)) f)))

-- one entry more
pub one_entry : {S T : Type 0} (bare : S → T) (k : Key) (entry : Toks → Parse T) (start : Parse (List T))
    (first old a b new : Reader) (counter end : ℕ) (x : S) (found after : List S) (next : Bool)
    → counter < end → Reads entry old a (bare x) → Pushes a b x found after → Accepts (again k) b new next → next ≡ true
    → Steps first old start (with_parts (map bare found) (entries k entry (end - counter) (left old)))
    → Steps first new start (with_parts (map bare after) (entries k entry (end - (counter + 1)) (left new)))
one_entry bare k entry start first old a b new counter end x found after next few r p c yet s =
    both_steps first old new start _ _ s
    (entry_step k entry old a b new counter end (bare x) (map bare found) (map bare after) true few r
    (mapped_puts bare a b x found after (by_pushing a b x found after p)) (subst (Accepts (again k) b new) yet c))

-- what a loop read onto a list
reads_onto : {T : Type 0} (rule : Toks → Parse (List T)) (first new : Reader) (before after : List T)
    → Steps first new (with_parts before (rule (left first))) (Some (after, left new)) → ReadsOnto rule first new before after
reads_onto rule first new before after s = record {
  made = s.made;
  clean = s.clean;
  gives = s.goes;
  keeps = s.keeps;
  refuses = λ h m f. none_after before (rule (left first)) (s.refuses h m f);
}

-- the last entry
pub entry_end : {S T : Type 0} (bare : S → T) (k : Key) (entry : Toks → Parse T) (rule : Toks → Parse (List T))
    (first old a b new : Reader) (counter end : ℕ) (x : S) (before found after : List S) (next : Bool)
    → counter < end → Reads entry old a (bare x) → Pushes a b x found after → Accepts (again k) b new next → next ≡ false
    → Steps first old (with_parts (map bare before) (rule (left first))) (with_parts (map bare found) (entries k entry (end - counter) (left old)))
    → ReadsOnto rule first new (map bare before) (map bare after)
entry_end bare k entry rule first old a b new counter end x before found after next few r p c ends s =
    reads_onto rule first new (map bare before) (map bare after) (both_steps first old new _ _ _ s
    (entry_step k entry old a b new counter end (bare x) (map bare found) (map bare after) false few r
    (mapped_puts bare a b x found after (by_pushing a b x found after p)) (subst (Accepts (again k) b new) ends c)))

-- no step is left
pub entry_last : {T : Type 0} (k : Key) (entry : Toks → Parse T) (n : ℕ) (toks : Toks) (found : List T)
    → n ≡ 0 → with_parts found (entries k entry n toks) ≡ Some (found, toks)
entry_last k entry n toks found none = ap (λ i. with_parts found (entries k entry i toks)) none ∙ ap (λ xs. Some (xs, toks)) (no_more found)
