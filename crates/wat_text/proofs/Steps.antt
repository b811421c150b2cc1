-- Steps of a rule: after a reader has read a part, the rest of the rule has the result that its start had before.
--
--   (local i32) (local i64)      after the first form, the rule of locals has `i32` and reads on at the second form
use Rattle.std.proofs.Common.{◌≡◌, ◌≢◌, ◌∙◌, ℕ, suc, ◌-◌, ◌+◌, ◌<◌, Bool, true, false, List, []}
use Rattle.std.proofs.Common.{◌∷◌, ◌++◌, map, Option, None, Some, refl, sym, ap, subst, arith}
use Rattle.wat_tokens.specs.declared.faults.TextError.{TextError}
use Rattle.wat_syntax.specs.Tokens.{Toks, Parse, many, many_lists, with_parts}
use Rattle.wat_text.specs.Readers.{left, IsClean, IsRefused, Reads, Decides, ReadsOnto, Pushes, Builds}
use Rattle.wat_text.specs.declared.reader.Reader.{Reader}
use Rattle.wat_text.proofs.Loops.{part_more, part_none, list_more, list_none, mapped}

-- A reader read a part of what a rule reads. If there is no error afterwards, the start of the rule is its rest. If the reader
-- rejected the tokens, the start is `None`.
pub record Steps {T : Type 0} (old new : Reader) (start rest : Parse T) : Type 0 where
  pub made : new.make ≡ false → old.make ≡ false
  pub clean : new.fault ≡ None → old.fault ≡ None
  pub goes : IsClean new → start ≡ rest
  pub keeps : old.fault ≢ None → new.fault ≡ old.fault
  pub refuses : old.fault ≡ None → new.make ≡ false → IsRefused new.fault → start ≡ None

-- one step after another
pub both_steps : {T : Type 0} (a b c : Reader) (p q r : Parse T) → Steps a b p q → Steps b c q r → Steps a c p r
both_steps {T = T} a b c p q r s t = record {
  made = λ h. s.made (t.made h);
  clean = λ h. s.clean (t.clean h);
  goes = λ h. s.goes (t.clean h.0, t.made h.1) ∙ t.goes h;
  keeps = λ h. t.keeps (λ e. h (s.clean e)) ∙ s.keeps h;
  refuses = λ h m f. go b.fault refl h m f;
}
  where
    go : (o : Option TextError) → b.fault ≡ o → a.fault ≡ None → c.make ≡ false → IsRefused c.fault → p ≡ None
    go None e h m f = s.goes (e, t.made m) ∙ t.refuses e m f
    go (Some x) e h m f = s.refuses h (t.made m) (subst IsRefused (t.keeps (λ n. cc)) f)

-- A reader appended a part to a list, of the tree or another.
pub record Puts {T : Type 0} (old new : Reader) (part : T) (before after : List T) : Type 0 where
  pub made : new.make ≡ false → old.make ≡ false
  pub clean : new.fault ≡ None → old.fault ≡ None
  pub pushed : IsClean new → after ≡ before ++ part ∷ []
  pub left : IsClean new → left new ≡ left old
  pub keeps : old.fault ≢ None → new.fault ≡ old.fault
  pub memory : old.fault ≡ None → IsRefused new.fault → ⊥

-- a part that is decided is read
pub decided : {T : Type 0} (rule : Toks → Parse T) (old new : Reader) (x : T) → Decides rule old new x → Reads rule old new x
decided rule old new x d = record {
  made = λ h. sym d.make ∙ h;
  clean = d.clean;
  gives = λ h. d.gives h.0;
  keeps = d.keeps;
  refuses = λ h m f. d.refuses h f;
}

pub by_pushing : {T : Type 0} (old new : Reader) (x : T) (before after : List T) → Pushes old new x before after → Puts old new x before after
by_pushing old new x before after p = record {
  made = λ h. sym p.make ∙ h;
  clean = p.clean;
  pushed = λ h. p.pushed h.0;
  left = λ h. p.left h.0;
  keeps = p.keeps;
  memory = p.memory;
}

pub by_building : {T : Type 0} (old new : Reader) (x : T) (before after : List T) → Builds old new x before after → Puts old new x before after
by_building old new x before after p = record {
  made = p.made;
  clean = λ h. sym p.fault ∙ h;
  pushed = λ h. p.pushed h.1;
  left = λ h. p.left;
  keeps = λ h. p.fault;
  memory = λ h f. subst IsRefused (p.fault ∙ h) f;
}

pub mapped_puts : {S T : Type 0} (bare : S → T) (old new : Reader) (x : S) (before after : List S)
    → Puts old new x before after → Puts old new (bare x) (map bare before) (map bare after)
mapped_puts bare old new x before after p = record {
  made = p.made;
  clean = p.clean;
  pushed = λ h. ap (map bare) (p.pushed h) ∙ mapped bare before x;
  left = p.left;
  keeps = p.keeps;
  memory = p.memory;
}

-- one part more
pub reads_step : {T : Type 0} (is_next : Toks → Bool) (part : Toks → Parse T) (old a new : Reader) (counter end : ℕ) (x : T) (found after : List T)
    → counter < end → is_next (left old) ≡ true → Reads part old a x → Puts a new x found after
    → Steps old new (with_parts found (many is_next part (end - counter) (left old))) (with_parts after (many is_next part (end - (counter + 1)) (left new)))
reads_step is_next part old a new counter end x found after few yet r p =
    let n = end - (counter + 1) in
    let one : end - counter ≡ suc n = omega (arith, few) in
    both_steps old a new (with_parts found (many is_next part (end - counter) (left old)))
    (with_parts (found ++ x ∷ []) (many is_next part n (left a))) (with_parts after (many is_next part n (left new)))
    (record {
      made = r.made;
      clean = r.clean;
      goes = λ h. part_more is_next part (end - counter) n (left old) (left a) x found one yet (r.gives h);
      keeps = r.keeps;
      refuses = λ h m f. part_none is_next part (end - counter) n (left old) found one yet (r.refuses h m f);
    })
    (record {
      made = p.made;
      clean = p.clean;
      goes = λ h. ap (λ xs. with_parts xs (many is_next part n (left a))) (sym (p.pushed h))
          ∙ ap (λ t. with_parts after (many is_next part n t)) (sym (p.left h));
      keeps = p.keeps;
      refuses = λ h m f. absurd (p.memory h f);
    })

-- a list of parts more
pub list_step : {T : Type 0} (is_next : Toks → Bool) (part : Toks → Parse (List T)) (old new : Reader) (counter end : ℕ) (found after : List T)
    → counter < end → is_next (left old) ≡ true → ReadsOnto part old new found after
    → Steps old new (with_parts found (many_lists is_next part (end - counter) (left old)))
    (with_parts after (many_lists is_next part (end - (counter + 1)) (left new)))
list_step is_next part old new counter end found after few yet r =
    let n = end - (counter + 1) in
    let one : end - counter ≡ suc n = omega (arith, few) in
    record {
      made = r.made;
      clean = r.clean;
      goes = λ h. list_more is_next part (end - counter) n (left old) (left new) found after one yet (r.gives h);
      keeps = r.keeps;
      refuses = λ h m f. list_none is_next part (end - counter) n (left old) found one yet (r.refuses h m f);
    }

-- The steps of a loop, by how a part is read and how it is appended. The rule has the parts without addresses. First a part that is
-- decided.
pub one_bare : {S T : Type 0} (bare : S → T) (is_next : Toks → Bool) (part : Toks → Parse T)
    (start : Parse (List T)) (first old a new : Reader) (counter end : ℕ) (x : S) (found after : List S)
    → counter < end → is_next (left old) ≡ true → Decides part old a (bare x) → Pushes a new x found after
    → Steps first old start (with_parts (map bare found) (many is_next part (end - counter) (left old)))
    → Steps first new start (with_parts (map bare after) (many is_next part (end - (counter + 1)) (left new)))
one_bare bare is_next part start first old a new counter end x found after few yet r p s =
    both_steps first old new start _ _ s
    (reads_step is_next part old a new counter end (bare x) (map bare found) (map bare after) few yet
    (decided part old a (bare x) r) (mapped_puts bare a new x found after (by_pushing a new x found after p)))

-- a part that contains lists of the tree
pub one_read : {S T : Type 0} (bare : S → T) (is_next : Toks → Bool) (part : Toks → Parse T)
    (start : Parse (List T)) (first old a new : Reader) (counter end : ℕ) (x : S) (found after : List S)
    → counter < end → is_next (left old) ≡ true → Reads part old a (bare x) → Pushes a new x found after
    → Steps first old start (with_parts (map bare found) (many is_next part (end - counter) (left old)))
    → Steps first new start (with_parts (map bare after) (many is_next part (end - (counter + 1)) (left new)))
one_read bare is_next part start first old a new counter end x found after few yet r p s =
    both_steps first old new start _ _ s
    (reads_step is_next part old a new counter end (bare x) (map bare found) (map bare after) few yet r
    (mapped_puts bare a new x found after (by_pushing a new x found after p)))

-- a part that is appended to a list of the tree
pub one_built : {S T : Type 0} (bare : S → T) (is_next : Toks → Bool) (part : Toks → Parse T)
    (start : Parse (List T)) (first old a new : Reader) (counter end : ℕ) (x : S) (found after : List S)
    → counter < end → is_next (left old) ≡ true → Reads part old a (bare x) → Builds a new x found after
    → Steps first old start (with_parts (map bare found) (many is_next part (end - counter) (left old)))
    → Steps first new start (with_parts (map bare after) (many is_next part (end - (counter + 1)) (left new)))
one_built bare is_next part start first old a new counter end x found after few yet r p s =
    both_steps first old new start _ _ s
    (reads_step is_next part old a new counter end (bare x) (map bare found) (map bare after) few yet r
    (mapped_puts bare a new x found after (by_building a new x found after p)))

-- a list of parts
pub one_list : {T : Type 0} (is_next : Toks → Bool) (part : Toks → Parse (List T))
    (start : Parse (List T)) (first old new : Reader) (counter end : ℕ) (found after : List T)
    → counter < end → is_next (left old) ≡ true → ReadsOnto part old new found after
    → Steps first old start (with_parts found (many_lists is_next part (end - counter) (left old)))
    → Steps first new start (with_parts after (many_lists is_next part (end - (counter + 1)) (left new)))
one_list is_next part start first old new counter end found after few yet r s =
    both_steps first old new start _ _ s (list_step is_next part old new counter end found after few yet r)
