-- Flags, as a loop reads them: `binding-weak tls` has the bits of both.
use Rattle.std.proofs.Common.{◌≡◌, ◌∙◌, ℕ, suc, ◌-◌, ◌+◌, ◌<◌, true, false, List, ◌∷◌, None, Some, refl, sym, ap, arith}
use Rattle.std.specs.Prelude.{bit_or}
use Rattle.wat_grammar.specs.Parts.{◌>>=◌}
use Rattle.wat_syntax.specs.Tokens.{Toks, Parse, many}
use Rattle.wat_syntax.specs.Types.{goes_on}
use Rattle.wat_syntax.specs.Customs.{flag, bits_with}
use Rattle.wat_text.specs.Readers.{left, Decides}
use Rattle.wat_text.specs.declared.reader.Reader.{Reader}
use Rattle.wat_text.proofs.Loops.{stops}
use Rattle.wat_text.proofs.Steps.{Steps, both_steps}

-- the bits of flags that a rule reads, with other bits
abbrev pub with_bits : ℕ → Parse (List ℕ) → Parse ℕ
with_bits n rest = rest >>= λ fs. Some (bits_with n fs.0, fs.1)

flag_goes : (m n : ℕ) (toks rest : Toks) (f bits : ℕ) → m ≡ suc n → goes_on toks ≡ true → flag toks ≡ Some (f, rest)
    → with_bits bits (many goes_on flag m toks) ≡ with_bits (bit_or bits f) (many goes_on flag n rest)
flag_goes m n toks rest f bits one yet gives =
    ap (λ k. with_bits bits (many goes_on flag k toks)) one ∙ ap (with_bits bits) (rw (many, yet, gives) refl) ∙ moves (many goes_on flag n rest)
  where
    moves : (p : Parse (List ℕ)) → with_bits bits (p >>= λ xs. Some (f ∷ xs.0, xs.1)) ≡ with_bits (bit_or bits f) p
    moves None = refl
    moves (Some xs) = refl

flag_none : (m n : ℕ) (toks : Toks) (bits : ℕ) → m ≡ suc n → goes_on toks ≡ true → flag toks ≡ None → with_bits bits (many goes_on flag m toks) ≡ None
flag_none m n toks bits one yet none = ap (λ k. with_bits bits (many goes_on flag k toks)) one ∙ ap (with_bits bits) (no_flag n toks yet none)
  where
    no_flag : (n : ℕ) (toks : Toks) → goes_on toks ≡ true → flag toks ≡ None → many goes_on flag (suc n) toks ≡ None
    no_flag n toks yet none = rw (many, yet, none) refl

-- one flag more
pub flag_more : (start : Parse ℕ) (first old new : Reader) (counter end : ℕ) (f bits : ℕ)
    → counter < end → goes_on (left old) ≡ true → Decides flag old new f
    → Steps first old start (with_bits bits (many goes_on flag (end - counter) (left old)))
    → Steps first new start (with_bits (bit_or bits f) (many goes_on flag (end - (counter + 1)) (left new)))
flag_more start first old new counter end f bits few yet r s =
    let n = end - (counter + 1) in
    let one : end - counter ≡ suc n = omega (arith, few) in
    both_steps first old new start _ _ s (record {
      made = λ h. sym r.make ∙ h;
      clean = r.clean;
      goes = λ h. flag_goes (end - counter) n (left old) (left new) f bits one yet (r.gives h.0);
      keeps = r.keeps;
      refuses = λ h m x. flag_none (end - counter) n (left old) bits one yet (r.refuses h x);
    })

-- no flag is next, and no step is left
pub flag_end : (n : ℕ) (toks : Toks) (bits : ℕ) → goes_on toks ≡ false → with_bits bits (many goes_on flag n toks) ≡ Some (bits, toks)
flag_end n toks bits ends = ap (with_bits bits) (stops goes_on flag n toks ends)

pub flag_last : (n : ℕ) (toks : Toks) (bits : ℕ) → n ≡ 0 → with_bits bits (many goes_on flag n toks) ≡ Some (bits, toks)
flag_last n toks bits none = ap (λ k. with_bits bits (many goes_on flag k toks)) none
