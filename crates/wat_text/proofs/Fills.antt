-- A fixed number of parts, as a loop reads them into an array: the lanes of `i8x16.shuffle`, for example.
use Rattle.std.proofs.Common.{◌≡◌, ◌∙◌, ◌≢◌, ℕ, suc, ◌+◌, ◌-◌, ◌<◌, ◌≤◌, List, [], ◌∷◌, ◌++◌, length, take, Option, None, Some, refl, sym, ap, subst, arith}
use Rattle.std.specs.Prelude.{set}
use Rattle.std.proofs.lemmas.List.{take_more_set, take_all, length-set}
use Rattle.wat_grammar.specs.Parts.{◌>>=◌}
use Rattle.wat_tokens.specs.declared.faults.TextError.{TextError}
use Rattle.wat_syntax.specs.Tokens.{Toks, Parse, with_parts}
use Rattle.wat_syntax.specs.Instructions.{times}
use Rattle.wat_text.specs.declared.reader.Reader.{Reader}
use Rattle.wat_text.specs.Readers.{left, IsRefused, Decides}
use Rattle.wat_text.proofs.Loops.{no_more, after_both, from_nothing}

-- These parts of so many are read, and so many are left.
pub record Fills {T : Type 0} (part : Toks → Parse T) (all more : ℕ) (old new : Reader) (found : List T) : Type 0 where
  pub make : new.make ≡ old.make
  pub clean : new.fault ≡ None → old.fault ≡ None
  pub goes : new.fault ≡ None → times all part (left old) ≡ with_parts found (times more part (left new))
  pub keeps : old.fault ≢ None → new.fault ≡ old.fault
  pub refuses : old.fault ≡ None → IsRefused new.fault → times all part (left old) ≡ None

pub begun : {T : Type 0} (part : Toks → Parse T) (all : ℕ) (r : Reader) → Fills part all all r r []
begun part all r = record {
  make = refl;
  clean = λ h. h;
  goes = λ h. sym (from_nothing (times all part (left r)));
  keeps = λ h. refl;
  refuses = λ clean refused. absurd (subst IsRefused clean refused);
}

one_more : {T : Type 0} (part : Toks → Parse T) (n : ℕ) (toks rest : Toks) (x : T) (found : List T) → part toks ≡ Some (x, rest)
    → with_parts found (times (suc n) part toks) ≡ with_parts (found ++ x ∷ []) (times n part rest)
one_more part n toks rest x found e =
    let is : times (suc n) part toks ≡ with_parts (x ∷ []) (times n part rest) = rw (times, e) refl in
    ap (with_parts found) is ∙ sym (after_both found (x ∷ []) (times n part rest))

none_more : {T : Type 0} (part : Toks → Parse T) (n : ℕ) (toks : Toks) (found : List T) → part toks ≡ None → with_parts found (times (suc n) part toks) ≡ None
none_more part n toks found e =
    let none : times (suc n) part toks ≡ None = rw (times, e) refl in
    ap (with_parts found) none

pub more : {T : Type 0} (part : Toks → Parse T) (all m n : ℕ) (old mid new : Reader) (found : List T) (x : T)
    → Fills part all m old mid found → m ≡ suc n → Decides part mid new x
    → Fills part all n old new (found ++ x ∷ [])
more {T = T} part all m n old mid new found x f one d = record {
  make = d.make ∙ f.make;
  clean = λ h. f.clean (d.clean h);
  goes = λ h. f.goes (d.clean h) ∙ ap (λ k. with_parts found (times k part (left mid))) one ∙ one_more part n (left mid) (left new) x found (d.gives h);
  keeps = λ h. d.keeps (subst (λ e. e ≢ None) (sym (f.keeps h)) h) ∙ f.keeps h;
  refuses = λ clean refused. go clean refused mid.fault refl;
}
  where
    go : old.fault ≡ None → IsRefused new.fault → (o : Option TextError) → mid.fault ≡ o → times all part (left old) ≡ None
    go clean refused None e = f.goes e ∙ ap (λ k. with_parts found (times k part (left mid))) one ∙ none_more part n (left mid) found (d.refuses e refused)
    go clean refused (Some y) e = f.refuses clean (subst IsRefused (d.keeps (λ h. absurd cc)) refused)

-- The first i of all elements of an array are read.
pub record Filled {T : Type 0} (part : Toks → Parse T) (all i : ℕ) (old new : Reader) (xs : List T) : Type 0 where
  pub size : length xs ≡ all
  pub reads : Fills part all (all - i) old new (take i xs)

pub filled_begun : {T : Type 0} (part : Toks → Parse T) (all : ℕ) (r : Reader) (xs : List T) → length xs ≡ all → Filled part all 0 r r xs
filled_begun part all r xs size = record { size = size; reads = subst (λ k. Fills part all k r r []) (omega arith) (begun part all r) }

pub filled_more : {T : Type 0} (part : Toks → Parse T) (all i : ℕ) (old mid new : Reader) (xs : List T) (x : T)
    → Filled part all i old mid xs → i < all → Decides part mid new x
    → Filled part all (i + 1) old new (set xs i x)
filled_more part all i old mid new xs x f small d = record {
  size = length-set xs i x ∙ f.size;
  reads = subst (λ ys. Fills part all (all - (i + 1)) old new ys) (sym (take_more_set xs i x (omega (arith, f.size))))
      (more part all (all - i) (all - (i + 1)) old mid new (take i xs) x f.reads (omega arith) d);
}

pub filled_all : {T : Type 0} (part : Toks → Parse T) (all i : ℕ) (old new : Reader) (xs : List T)
    → Filled part all i old new xs → all ≤ i → Decides (times all part) old new xs
filled_all part all i old new xs f large =
    let r = f.reads in
    let none : all - i ≡ 0 = omega arith in
    let whole : take i xs ≡ xs = take_all i xs (omega (arith, f.size)) in
    record {
      make = r.make;
      clean = r.clean;
      gives = λ h. r.goes h ∙ ap (λ k. with_parts (take i xs) (times k part (left new))) none ∙ ap (λ ys. with_parts ys (Some ([], left new))) whole
          ∙ ap (λ ys. Some (ys, left new)) (no_more xs);
      keeps = r.keeps;
      refuses = r.refuses;
    }

-- what is made of the parts
pub made : {S T : Type 0} (rule : Toks → Parse S) (shape : S → T) (old new : Reader) (x : S)
    → Decides rule old new x → Decides (λ toks. rule toks >>= λ y. Some (shape y.0, y.1)) old new (shape x)
made rule shape old new x d = record {
  make = d.make;
  clean = d.clean;
  gives = λ h. ap (λ o. o >>= λ y. Some (shape y.0, y.1)) (d.gives h);
  keeps = d.keeps;
  refuses = λ clean refused. ap (λ o. o >>= λ y. Some (shape y.0, y.1)) (d.refuses clean refused);
}
