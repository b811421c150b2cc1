-- Lists of parts, as a loop reads them: one more part, and the end of the loop.
--
--   i32 i64      two parts, each by the rule of value types
use Rattle.std.proofs.Common.{◌≡◌, ◌∙◌, ℕ, zero, suc, Bool, true, false, List, [], ◌∷◌, ◌++◌, map, None, Some, refl, sym, ap, append_assoc}
use Rattle.wat_grammar.specs.Parts.{◌>>=◌}
use Rattle.wat_syntax.specs.Tokens.{Toks, Parse, many, many_lists, with_parts, rparen}

pub no_more : {T : Type 0} (xs : List T) → xs ++ [] ≡ xs
no_more [] = refl
no_more (x ∷ xs) = ap (λ ys. x ∷ ys) (no_more xs)

pub mapped : {A B : Type 0} (f : A → B) (xs : List A) (x : A) → map f (xs ++ x ∷ []) ≡ map f xs ++ f x ∷ []
mapped f [] x = refl
mapped f (y ∷ ys) x = ap (λ zs. f y ∷ zs) (mapped f ys x)

-- with parts before, and others before those
pub after_both : {T : Type 0} (xs ys : List T) (p : Parse (List T)) → with_parts (xs ++ ys) p ≡ with_parts xs (with_parts ys p)
after_both xs ys None = refl
after_both xs ys (Some r) = ap (λ zs. Some (zs, r.1)) (append_assoc xs ys r.0)

one_part : {T : Type 0} (is_next : Toks → Bool) (part : Toks → Parse T) (n : ℕ) (toks rest : Toks) (x : T)
    → is_next toks ≡ true → part toks ≡ Some (x, rest) → many is_next part (suc n) toks ≡ with_parts (x ∷ []) (many is_next part n rest)
one_part is_next part n toks rest x yet gives = rw (many, yet, gives) refl

-- one part more
pub part_more : {T : Type 0} (is_next : Toks → Bool) (part : Toks → Parse T) (m n : ℕ) (toks rest : Toks) (x : T) (found : List T)
    → m ≡ suc n → is_next toks ≡ true → part toks ≡ Some (x, rest)
    → with_parts found (many is_next part m toks) ≡ with_parts (found ++ x ∷ []) (many is_next part n rest)
part_more is_next part m n toks rest x found one yet gives =
    ap (λ k. with_parts found (many is_next part k toks)) one ∙ ap (with_parts found) (one_part is_next part n toks rest x yet gives)
    ∙ sym (after_both found (x ∷ []) (many is_next part n rest))

-- the rule does not produce the next part
pub part_none : {T : Type 0} (is_next : Toks → Bool) (part : Toks → Parse T) (m n : ℕ) (toks : Toks) (found : List T)
    → m ≡ suc n → is_next toks ≡ true → part toks ≡ None → with_parts found (many is_next part m toks) ≡ None
part_none is_next part m n toks found one yet none =
    ap (λ k. with_parts found (many is_next part k toks)) one ∙ ap (with_parts found) (no_part is_next part n toks yet none)
  where
    no_part : {T : Type 0} (is_next : Toks → Bool) (part : Toks → Parse T) (n : ℕ) (toks : Toks)
        → is_next toks ≡ true → part toks ≡ None → many is_next part (suc n) toks ≡ None
    no_part is_next part n toks yet none = rw (many, yet, none) refl

-- with parts before, a rule produces what it produces without
pub none_after : {T : Type 0} (found : List T) (p : Parse (List T)) → with_parts found p ≡ None → p ≡ None
none_after found None e = refl
none_after found (Some x) e = absurd cc

pub stops : {T : Type 0} (is_next : Toks → Bool) (part : Toks → Parse T) (n : ℕ) (toks : Toks)
    → is_next toks ≡ false → many is_next part n toks ≡ Some ([], toks)
stops is_next part zero toks ends = refl
stops is_next part (suc n) toks ends = rw (many, ends) refl

-- no part is next
pub part_end : {T : Type 0} (is_next : Toks → Bool) (part : Toks → Parse T) (n : ℕ) (toks : Toks) (found : List T)
    → is_next toks ≡ false → with_parts found (many is_next part n toks) ≡ Some (found, toks)
part_end is_next part n toks found ends = ap (with_parts found) (stops is_next part n toks ends) ∙ ap (λ xs. Some (xs, toks)) (no_more found)

-- no step is left
pub part_last : {T : Type 0} (is_next : Toks → Bool) (part : Toks → Parse T) (n : ℕ) (toks : Toks) (found : List T)
    → n ≡ 0 → with_parts found (many is_next part n toks) ≡ Some (found, toks)
part_last is_next part n toks found none = ap (λ k. with_parts found (many is_next part k toks)) none ∙ ap (λ xs. Some (xs, toks)) (no_more found)

-- nothing was before
pub from_nothing : {T : Type 0} (p : Parse (List T)) → with_parts [] p ≡ p
from_nothing None = refl
from_nothing (Some x) = refl

-- a list of parts more
one_list : {T : Type 0} (is_next : Toks → Bool) (part : Toks → Parse (List T)) (n : ℕ) (toks : Toks) → is_next toks ≡ true
    → many_lists is_next part (suc n) toks ≡ part toks >>= λ x. with_parts x.0 (many_lists is_next part n x.1)
one_list is_next part n toks yet = rw (many_lists, yet) refl

then_list : {T : Type 0} (found after : List T) (p : Parse (List T)) (rest : Toks) (next : Toks → Parse (List T)) → with_parts found p ≡ Some (after, rest)
    → with_parts found (p >>= λ x. with_parts x.0 (next x.1)) ≡ with_parts after (next rest)
then_list found after None rest next e = absurd cc
then_list {T = T} found after (Some x) rest next e =
    sym (after_both found x.0 (next x.1)) ∙ ap {A = List T × Toks} (λ y. with_parts y.0 (next y.1)) (the_same e)
  where
    the_same : {A : Type 0} {x y : A} → Some x ≡ Some y → x ≡ y
    the_same e = cc

pub list_more : {T : Type 0} (is_next : Toks → Bool) (part : Toks → Parse (List T)) (m n : ℕ) (toks rest : Toks) (found after : List T)
    → m ≡ suc n → is_next toks ≡ true → with_parts found (part toks) ≡ Some (after, rest)
    → with_parts found (many_lists is_next part m toks) ≡ with_parts after (many_lists is_next part n rest)
list_more is_next part m n toks rest found after one yet gives =
    ap (λ k. with_parts found (many_lists is_next part k toks)) one ∙ ap (with_parts found) (one_list is_next part n toks yet)
    ∙ then_list found after (part toks) rest (many_lists is_next part n) gives

-- the rule does not produce the next list of parts
pub list_none : {T : Type 0} (is_next : Toks → Bool) (part : Toks → Parse (List T)) (m n : ℕ) (toks : Toks) (found : List T)
    → m ≡ suc n → is_next toks ≡ true → part toks ≡ None → with_parts found (many_lists is_next part m toks) ≡ None
list_none is_next part m n toks found one yet none =
    ap (λ k. with_parts found (many_lists is_next part k toks)) one ∙ ap (with_parts found) (no_list is_next part n toks yet none)
  where
    no_list : {T : Type 0} (is_next : Toks → Bool) (part : Toks → Parse (List T)) (n : ℕ) (toks : Toks)
        → is_next toks ≡ true → part toks ≡ None → many_lists is_next part (suc n) toks ≡ None
    no_list is_next part n toks yet none = rw (many_lists, yet, none) refl

lists_stop : {T : Type 0} (is_next : Toks → Bool) (part : Toks → Parse (List T)) (n : ℕ) (toks : Toks)
    → is_next toks ≡ false → many_lists is_next part n toks ≡ Some ([], toks)
lists_stop is_next part zero toks ends = refl
lists_stop is_next part (suc n) toks ends = rw (many_lists, ends) refl

pub list_end : {T : Type 0} (is_next : Toks → Bool) (part : Toks → Parse (List T)) (n : ℕ) (toks : Toks) (found : List T)
    → is_next toks ≡ false → with_parts found (many_lists is_next part n toks) ≡ Some (found, toks)
list_end is_next part n toks found ends = ap (with_parts found) (lists_stop is_next part n toks ends) ∙ ap (λ xs. Some (xs, toks)) (no_more found)

pub list_last : {T : Type 0} (is_next : Toks → Bool) (part : Toks → Parse (List T)) (n : ℕ) (toks : Toks) (found : List T)
    → n ≡ 0 → with_parts found (many_lists is_next part n toks) ≡ Some (found, toks)
list_last is_next part n toks found none = ap (λ k. with_parts found (many_lists is_next part k toks)) none ∙ ap (λ xs. Some (xs, toks)) (no_more found)

-- a list in parentheses, before its ')'
pub closes : {T : Type 0} (found after : List T) (p : Parse (List T)) (toks rest : Toks) → with_parts found p ≡ Some (after, toks) → rparen toks ≡ Some rest
    → with_parts found (p >>= λ xs. rparen xs.1 >>= λ t. Some (xs.0, t)) ≡ Some (after, rest)
closes found after None toks rest e close = absurd cc
closes {T = T} found after (Some x) toks rest e close =
    ap (λ o. with_parts found (o >>= λ t. Some (x.0, t))) (ap rparen (ap {A = List T × Toks} (λ y. y.1) (the_same e)) ∙ close)
    ∙ ap {A = List T × Toks} (λ y. Some (y.0, rest)) (the_same e)
  where
    the_same : {A : Type 0} {x y : A} → Some x ≡ Some y → x ≡ y
    the_same e = cc
