-- Loops over tokens: the parentheses of a form, and strings.
use Rattle.std.proofs.Common.{◌≡◌, ◌≢◌, ◌∙◌, ℕ, zero, suc, ◌+◌, ◌-◌, ◌<◌, ◌≤◌, true, false, None, refl, sym, ap, arith}
use Rattle.wat_syntax.specs.Tokens.{Toks, peek, after, count}
use Rattle.wat_syntax.specs.Values.{is_string}
use Rattle.wast_script.specs.Grammar.{depth_after, form_end, form_rest, after_strings, behind_strings}
use Rattle.wat_tokens.specs.declared.faults.TextFault.{TextFault}
use Rattle.wast_base.specs.declared.ids.Span.{Span}
use Rattle.wast_script.specs.declared.reader.Reader.{Reader}
use Rattle.wast_script.specs.Readers.{left, Expects, Moves, Fails, Skips}
use Rattle.wast_script.proofs.Faults.{none_refused, faulty}

-- The rest of a form is that of the tokens that are left, in which so many parentheses are open.
pub record Skipping (old now : Reader) (n depth : ℕ) : Type 0 where
  pub lists : now.lists ≡ old.lists
  pub tokens : now.tokens ≡ old.tokens
  pub fault : now.fault ≡ old.fault
  pub goes : form_rest (left old) ≡ form_end n depth (left now)

pub skipping_first : (old : Reader) (n : ℕ) → n ≡ count (left old) → Skipping old old n 1
skipping_first old n e = record { lists = refl; tokens = refl; fault = refl; goes = ap (λ k. form_end k 1 (left old)) (sym e) }

one_token : (n depth d : ℕ) (toks : Toks) → depth ≡ suc d → form_end (suc n) depth toks ≡ form_end n (depth_after (peek 0 toks) depth) (after toks)
one_token n depth d toks e = ap (λ k. form_end (suc n) k toks) e ∙ ap (λ k. form_end n (depth_after (peek 0 toks) k) (after toks)) (sym e)

pub skipping_more : (old now new : Reader) (counter end depth after_it : ℕ) → counter < end
    → depth ≢ 0 → Skipping old now (end - counter) depth → Moves after now new
    → after_it ≡ depth_after (peek 0 (left now)) depth → Skipping old new (end - (counter + 1)) after_it
skipping_more old now new counter end depth after_it few some s m is =
    let n = end - (counter + 1) in
    let d = depth - 1 in
    let open_ : depth ≡ suc d = omega (arith, some) in
    let one : end - counter ≡ suc n = omega (arith, few) in
    record {
      lists = m.lists ∙ s.lists;
      tokens = m.tokens ∙ s.tokens;
      fault = m.fault ∙ s.fault;
      goes = s.goes ∙ ap (λ k. form_end k depth (left now)) one ∙ one_token n depth d (left now) open_
          ∙ ap (λ k. form_end n k (after (left now))) (sym is) ∙ ap (form_end n after_it) (sym m.left);
    }

-- no parenthesis is open, or no step is left
pub skips_end : (old now : Reader) (n depth : ℕ) → depth ≡ 0 → Skipping old now n depth → Skips depth old now
skips_end old now n depth e s = record {
  lists = s.lists;
  tokens = s.tokens;
  fault = s.fault;
  goes = s.goes
      ∙ ap (λ k. form_end n k (left now)) e ∙ sym (ap (λ k. form_end 0 k (left now)) e);
}

pub skips_last : (old now : Reader) (n depth : ℕ) → n ≡ 0 → Skipping old now n depth → Skips depth old now
skips_last old now n depth e s = record { lists = s.lists; tokens = s.tokens; fault = s.fault; goes = s.goes ∙ ap (λ k. form_end k depth (left now)) e }

none_left : (depth : ℕ) (toks : Toks) → 0 < depth → form_end 0 depth toks ≡ None
none_left zero toks some = absurd (omega (arith, some))
none_left (suc d) toks some = refl

-- the end of the form is read, or there is none
pub form_ends : (old new : Reader) (depth : ℕ) → depth ≤ 0 → Skips depth old new → Expects form_rest old new
form_ends old new depth e s = record {
  lists = s.lists;
  tokens = s.tokens;
  clean = λ h. sym s.fault ∙ h;
  gives = λ h. let none : depth ≡ 0 = omega (arith, e) in s.goes ∙ ap (λ k. form_end 0 k (left new)) none;
  keeps = λ h. s.fault;
  refuses = λ h f. absurd (none_refused new.fault (s.fault ∙ h) f);
}

pub no_form_end : (old mid new : Reader) (depth : ℕ) (fault : TextFault) (span : Span)
    → 0 < depth → Skips depth old mid → Fails fault span mid new → Expects form_rest old new
no_form_end old mid new depth fault span some s f = record {
  lists = f.lists ∙ s.lists;
  tokens = f.tokens ∙ s.tokens;
  clean = λ h. absurd (faulty mid new fault span f h);
  gives = λ h. absurd (faulty mid new fault span f h);
  keeps = λ h. f.keeps (λ g. h (sym s.fault ∙ g)) ∙ s.fault;
  refuses = λ h g. s.goes ∙ none_left depth (left mid) some;
}

-- The tokens after strings are those after the strings that are left.
pub record Strings (old now : Reader) (n : ℕ) : Type 0 where
  pub lists : now.lists ≡ old.lists
  pub tokens : now.tokens ≡ old.tokens
  pub fault : now.fault ≡ old.fault
  pub goes : behind_strings (left old) ≡ after_strings n (left now)

pub strings_first : (old : Reader) (n : ℕ) → n ≡ count (left old) → Strings old old n
strings_first old n e = record { lists = refl; tokens = refl; fault = refl; goes = ap (λ k. after_strings k (left old)) (sym e) }

one_string : (n : ℕ) (toks : Toks) → is_string (peek 0 toks) ≡ true → after_strings (suc n) toks ≡ after_strings n (after toks)
one_string n toks e = ap (λ b. elim b as (λ b. Toks) [ true ↦ after_strings n (after toks) | false ↦ toks ]) e

pub strings_more : (old now new : Reader) (counter end : ℕ) → counter < end
    → is_string (peek 0 (left now)) ≡ true → Strings old now (end - counter) → Moves after now new
    → Strings old new (end - (counter + 1))
strings_more old now new counter end few is s m =
    let n = end - (counter + 1) in
    let one : end - counter ≡ suc n = omega (arith, few) in
    record {
      lists = m.lists ∙ s.lists;
      tokens = m.tokens ∙ s.tokens;
      fault = m.fault ∙ s.fault;
      goes = s.goes ∙ ap (λ k. after_strings k (left now)) one ∙ one_string n (left now) is ∙ ap (after_strings n) (sym m.left);
    }

no_string : (n : ℕ) (toks : Toks) → is_string (peek 0 toks) ≡ false → after_strings n toks ≡ toks
no_string zero toks e = refl
no_string (suc n) toks e = ap (λ b. elim b as (λ b. Toks) [ true ↦ after_strings n (after toks) | false ↦ toks ]) e

pub strings_end : (old now : Reader) (n : ℕ) → is_string (peek 0 (left now)) ≡ false → Strings old now n → Moves behind_strings old now
strings_end old now n e s = record { lists = s.lists; tokens = s.tokens; fault = s.fault; left = sym (s.goes ∙ no_string n (left now) e) }

pub strings_last : (old now : Reader) (n : ℕ) → n ≡ 0 → Strings old now n → Moves behind_strings old now
strings_last old now n e s = record { lists = s.lists; tokens = s.tokens; fault = s.fault; left = sym (s.goes ∙ ap (λ k. after_strings k (left now)) e) }
