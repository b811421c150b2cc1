-- Types that are appended for one list of type uses after another.
use Rattle.std.proofs.Common.{◌≡◌, ℕ, suc, ◌+◌, ◌≤◌, Bool, true, false, cond, ◌||◌, List, [], ◌∷◌, ◌++◌, map, length, length-append}
use Rattle.std.proofs.Common.{append_assoc, append-nil, Option, Some, None, is_some, inl, inr, refl, sym, ap, ◌∙◌, subst, arith}
use mathlib.Core.Path.{fun_ext}
use Rattle.std.proofs.Math.Bool.{or_assoc}
use Rattle.std.specs.Map.{keys_of}
use Rattle.std.specs.Option.{option_or}
use Rattle.std.proofs.lemmas.Map.Made.{is_some-lookup}
use Rattle.std.proofs.lemmas.List.{map-append}
use Rattle.std.proofs.lemmas.List.Concat.{flat_map-append}
use Rattle.wast_base.specs.declared.faults.Error.{Error}
use Rattle.wast_base.specs.Spaces.{position_of}
use Rattle.wast_expand_types.specs.Tree.{Index, ValType}
use Rattle.wast_expand_keys.specs.Signatures.{Signature, type_of_param, same_signature}
use Rattle.wast_expand_keys.specs.Numbers.{TypeNames, numbered_signature}
use Rattle.wast_expand_keys.specs.ImpliedTypes.{is_among, first_new}
use Rattle.wast_base.specs.Filling.{RunsOut}
use Rattle.wast_expand_keys.specs.Expanders.{BoundSignatures, LookUp, index_of, with_more, numbers_in, found_in}
use Rattle.wast_expand_keys.specs.Expanded.{unnamed_param, implied_type, implied_types, bindings_in, bindings}
use Rattle.wast_expand_types.specs.Binding.{new_signatures, new_types, new_bindings, next_after, AddsTypes}
use Rattle.wast_expand_types.specs.declared.binder.Binder.{Binder}
use Rattle.wast_expand_keys.proofs.Bound.{lookup-append, or_or}
use Rattle.wast_expand_types.proofs.NumberedTypes.{new_numbered}

pub less_runs_out : (m n : ℕ) (e : Error) → m ≤ n → RunsOut m e → RunsOut n e
less_runs_out m n e le (inl x) = inl x
less_runs_out m n e le (inr r) = inr (r.0, omega (arith, r.1))

-- additions after additions
pub with_more_twice : (find : LookUp) (a b : BoundSignatures) (s : Signature) → with_more (with_more find a) b s ≡ with_more find (a ++ b) s
with_more_twice find a b s = or_or (find s) (index_of a s) (index_of b s) ∙ ap (option_or (find s)) (sym (lookup-append (same_signature s) a b))

-- an appended type has the signature it was made for
pub types_again : (vs : List ValType) → map type_of_param (map unnamed_param vs) ≡ vs
types_again [] = refl
types_again (v ∷ vs) = ap (λ ws. v ∷ ws) (types_again vs)

keys_of_implied : (k : TypeNames) (n : ℕ) (ss : List Signature) → keys_of (bindings k (implied_types n ss)) ≡ map (numbered_signature k) ss
keys_of_implied k n [] = refl
keys_of_implied k n (s ∷ ss) =
    ap (λ (vs : List ValType). numbered_signature k (vs, s.1) ∷ keys_of (bindings k (implied_types (n + 1) ss))) (types_again s.0)
    ∙ ap (λ ts. numbered_signature k s ∷ ts) (keys_of_implied k (n + 1) ss)

-- the indices of signatures once types with numbers are appended
pub known_after : (find : LookUp) (k : TypeNames) (n : ℕ) (ss : List Signature) → map (numbered_signature k) ss ≡ ss → (t : Signature)
    → is_some (with_more find (bindings k (implied_types n ss)) t) ≡ (is_some (find t) || is_among ss t)
known_after find k n ss same t =
    either (find t) (index_of (bindings k (implied_types n ss)) t) (is_among ss t)
    (is_some-lookup (same_signature t) (bindings k (implied_types n ss)) ∙ ap (λ ts. is_among ts t) (keys_of_implied k n ss ∙ same))
  where
    either : (o p : Option Index) (b : Bool) → is_some p ≡ b → is_some (option_or o p) ≡ (is_some o || b)
    either None p b h = h
    either (Some i) p b h = refl

or_false : (b : Bool) → b ≡ (b || false)
or_false true = refl
or_false false = refl

-- the new signatures of two lists, one after another
first_new-append : (known : Signature → Bool) (ss ts : List Signature)
    → first_new known (ss ++ ts) ≡ first_new known ss ++ first_new (λ t. known t || is_among (first_new known ss) t) ts
first_new-append known [] ts = ap (λ (k : Signature → Bool). first_new k ts) (fun_ext (λ (t : Signature). or_false (known t)))
first_new-append known (s ∷ ss) ts =
    new_case (known s) known s ss ts (first_new-append known ss ts) (first_new-append (λ t. known t || same_signature t s) ss ts)
  where
    new_case : (b : Bool) (known : Signature → Bool) (s : Signature) (ss ts : List Signature)
        → first_new known (ss ++ ts) ≡ first_new known ss ++ first_new (λ t. known t || is_among (first_new known ss) t) ts
        → first_new (λ t. known t || same_signature t s) (ss ++ ts)
        ≡ first_new (λ t. known t || same_signature t s) ss ++ first_new
        (λ t. (known t || same_signature t s) || is_among (first_new (λ t. known t || same_signature t s) ss) t) ts
        → cond b (first_new known (ss ++ ts)) (s ∷ first_new (λ t. known t || same_signature t s) (ss ++ ts))
        ≡ cond b (first_new known ss) (s ∷ first_new (λ t. known t || same_signature t s) ss)
        ++ first_new (λ t. known t || is_among (cond b (first_new known ss) (s ∷ first_new (λ t. known t || same_signature t s) ss)) t) ts
    new_case true known s ss ts p q = p
    new_case false known s ss ts p q =
        let new : List Signature = first_new (λ t. known t || same_signature t s) ss in
        ap (λ ws. s ∷ ws) (q ∙ ap (λ (k : Signature → Bool). new ++ first_new k ts)
        (fun_ext (λ (t : Signature). or_assoc (known t) (same_signature t s) (is_among new t))))

add_zero : (n : ℕ) → n ≡ n + 0
add_zero n = omega arith

one_more : (n m : ℕ) → (n + 1) + m ≡ n + suc m
one_more n m = omega arith

implied_types-append : (n : ℕ) (ss ts : List Signature) → implied_types n (ss ++ ts) ≡ implied_types n ss ++ implied_types (n + length ss) ts
implied_types-append n [] ts = ap (λ m. implied_types m ts) (add_zero n)
implied_types-append n (s ∷ ss) ts = ap (λ ws. implied_type n s ∷ ws) (implied_types-append (n + 1) ss ts
    ∙ ap (λ m. implied_types (n + 1) ss ++ implied_types m ts) (one_more n (length ss)))

-- type uses that need nothing
pub adds_none : (a : Binder) → AddsTypes a a []
adds_none a = record { names = refl; types = λ s. or_none (index_of a.cx.bound s); fields = sym (append-nil a.implied); counter = add_zero a.gensym }
  where
    or_none : (o : Option Index) → o ≡ option_or o None
    or_none None = refl
    or_none (Some i) = refl

-- the same type uses in another form
pub adds_as : {a b : Binder} {ss ts : List Signature} → ss ≡ ts → AddsTypes a b ss → AddsTypes a b ts
adds_as {a} {b} e h = subst (λ us. AddsTypes a b us) e h

pub adds_nothing : (a : Binder) {ss : List Signature} → ss ≡ [] → AddsTypes a a ss
adds_nothing a e = adds_as (sym e) (adds_none a)

module _ {a b : Binder} {ss : List Signature} (h : AddsTypes a b ss) where
  -- the ids of types are unchanged
  names_then : numbers_in b.cx ≡ numbers_in a.cx
  names_then i name = position_of name (h.names i)

  -- the indices of signatures once the first types are appended
  bound_then : index_of b.cx.bound ≡ with_more (index_of a.cx.bound) (new_bindings a ss)
  bound_then = fun_ext h.types

  new_then : (ts : List Signature) → new_signatures a.cx (ss ++ ts) ≡ new_signatures a.cx ss ++ new_signatures b.cx ts
  new_then ts =
      let k : TypeNames = numbers_in a.cx in
      let known : Signature → Bool = λ t. is_some (index_of a.cx.bound t) in
      let numbers : List Signature → List Signature = map (numbered_signature k) in
      ap (first_new known) (map-append (numbered_signature k) ss ts)
      ∙ (first_new-append known (numbers ss) (numbers ts)
      ∙ (ap (λ (f : Signature → Bool). new_signatures a.cx ss ++ first_new f (numbers ts))
      (fun_ext (λ (t : Signature). sym (known_after (index_of a.cx.bound) k a.gensym (new_signatures a.cx ss) (new_numbered k known ss) t)
      ∙ ap (λ (find : LookUp). is_some (find t)) (sym bound_then)))
      ∙ ap (λ (n : TypeNames). new_signatures a.cx ss ++ first_new (λ t. is_some (index_of b.cx.bound t)) (map (numbered_signature n) ts)) (sym names_then)))

  types_then : (ts : List Signature) → new_types a (ss ++ ts) ≡ new_types a ss ++ new_types b ts
  types_then ts =
      ap (implied_types a.gensym) (new_then ts) ∙ (implied_types-append a.gensym (new_signatures a.cx ss) (new_signatures b.cx ts)
      ∙ ap (λ m. new_types a ss ++ implied_types m (new_signatures b.cx ts)) (sym h.counter))

  bindings_then : (ts : List Signature) → new_bindings a (ss ++ ts) ≡ new_bindings a ss ++ new_bindings b ts
  bindings_then ts =
      ap (bindings (numbers_in a.cx)) (types_then ts) ∙ (flat_map-append (bindings_in (numbers_in a.cx)) (new_types a ss) (new_types b ts)
      ∙ ap (λ (k : TypeNames). new_bindings a ss ++ bindings k (new_types b ts)) (sym names_then))

  pub count_then : (ts : List Signature) → next_after a (ss ++ ts) ≡ next_after b ts
  count_then ts =
      let l : length (new_signatures a.cx (ss ++ ts)) ≡ length (new_signatures a.cx ss) + length (new_signatures b.cx ts) = ap length (new_then ts)
      ∙ length-append (new_signatures a.cx ss) (new_signatures b.cx ts) in
      omega (arith, h.counter)

  -- type uses after type uses
  pub adds_both : {c : Binder} {ts : List Signature} → AddsTypes b c ts → AddsTypes a c (ss ++ ts)
  adds_both {c} {ts} k = record {
    names = k.names ∙ h.names;
    types = λ s. k.types s ∙ (ap (λ (find : LookUp). with_more find (new_bindings b ts) s) bound_then
        ∙ (with_more_twice (index_of a.cx.bound) (new_bindings a ss) (new_bindings b ts) s
        ∙ ap (λ more. with_more (index_of a.cx.bound) more s) (sym (bindings_then ts))));
    fields = k.fields ∙ (ap (λ xs. xs ++ new_types b ts) h.fields ∙ (append_assoc a.implied (new_types a ss) (new_types b ts)
        ∙ ap (λ xs. a.implied ++ xs) (sym (types_then ts))));
    counter = k.counter ∙ sym (count_then ts);
  }

  -- An index from additions stays after more additions.
  pub more_then : (more : BoundSignatures) → found_in b.cx more ≡ found_in a.cx (new_bindings a ss ++ more)
  more_then more = fun_ext (λ (s : Signature).
      ap (λ (k : TypeNames). with_more (index_of b.cx.bound) more (numbered_signature k s)) names_then
      ∙ (ap (λ (find : LookUp). with_more find more (numbered_signature (numbers_in a.cx) s)) bound_then
      ∙ with_more_twice (index_of a.cx.bound) (new_bindings a ss) more (numbered_signature (numbers_in a.cx) s)))

-- fewer type uses do not overflow the counter earlier
pub first_after : (a : Binder) (ss ts : List Signature) → next_after a ss ≤ next_after a (ss ++ ts)
first_after a ss ts =
    let known : Signature → Bool = λ t. is_some (index_of a.cx.bound t) in
    let numbers : List Signature → List Signature = map (numbered_signature (numbers_in a.cx)) in
    let rest : List Signature = first_new (λ t. known t || is_among (first_new known (numbers ss)) t) (numbers ts) in
    let l : length (new_signatures a.cx (ss ++ ts)) ≡ length (new_signatures a.cx ss) + length rest =
    ap length (ap (first_new known) (map-append (numbered_signature (numbers_in a.cx)) ss ts) ∙ first_new-append known (numbers ss) (numbers ts))
    ∙ length-append (new_signatures a.cx ss) rest in
    omega arith

pub first_runs_out : (a : Binder) (ss ts : List Signature) (e : Error) → RunsOut (next_after a ss) e → RunsOut (next_after a (ss ++ ts)) e
first_runs_out a ss ts e h = less_runs_out (next_after a ss) (next_after a (ss ++ ts)) e (first_after a ss ts) h
