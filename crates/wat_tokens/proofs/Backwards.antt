-- Closes what the loop over the digits of a number leaves: the rule reads a text from its end, and the loop from its start.
use Rattle.std.proofs.Common.{◌≡◌, ◌∙◌, ℕ, ◌+◌, ◌*◌, ◌<◌, ◌≤◌, ◌==◌, Bool, true, false, List, [], ◌∷◌, ◌++◌, length, take}
use Rattle.std.proofs.Common.{drop, get_or, eqb-true, Option, None, Some, Result, Ok, Err, refl, sym, ap, subst, arith}
use Rattle.std.specs.Prelude.{reverse}
use Rattle.std.specs.Option.{ok_or}
use Rattle.std.proofs.lemmas.List.{take_more, take_all, take-append-drop, reverse-append}
use Rattle.std.proofs.lemmas.Grind.{reverse_onto}
use Rattle.wat_grammar.specs.Parts.{◌>>=◌}
use Rattle.wat_grammar.specs.Integers.{backwards}
use Rattle.wat_tokens.specs.Numbers.{answer, fits, sized}
use Rattle.wat_tokens.specs.declared.faults.TextFault.{TextFault}
use Rattle.wat_tokens.specs.declared.faults.TextFault.TheVariants as fault

-- what is before a digit, where `back` has the characters before it, the last of them first
pub before : (ℕ → Option ℕ) → ℕ → List ℕ → Option ℕ
before f radix [] = None
before f radix (b ∷ bs) = elim (b == 0x5f) [ true ↦ backwards f radix bs | false ↦ backwards f radix (b ∷ bs) ]

-- a digit after something: the second rule
digit_more : (f : ℕ → Option ℕ) (radix c d n : ℕ) (back : List ℕ) → f c ≡ Some d
    → before f radix back ≡ Some n → backwards f radix (c ∷ back) ≡ Some (radix * n + d)
unfolding backwards before
digit_more f radix c d n [] digit is = absurd cc
digit_more f radix c d n (b ∷ bs) digit is = rw (digit, is) refl

-- How far the digits are read: n is the number up to the last digit, which the last character is, or an underscore is after it.
pub data Read (f : ℕ → Option ℕ) (radix : ℕ) : Bool → ℕ → List ℕ → Type 0 where
  nothing : Read f radix false 0 []
  a_digit : {n c : ℕ} {back : List ℕ} → c == 0x5f ≡ false → backwards f radix (c ∷ back) ≡ Some n → Read f radix true n (c ∷ back)
  an_underscore : {n : ℕ} {back : List ℕ} → backwards f radix back ≡ Some n → Read f radix false n (0x5f ∷ back)

-- it, with the number as it is kept in 64 bits
pub record Reads (f : ℕ → Option ℕ) (radix : ℕ) (value : Option ℕ) (after_digit : Bool) (done : List ℕ) : Type 0 where
  pub n : ℕ
  pub value_is : value ≡ fits n
  pub read : Read f radix after_digit n (reverse done)

pub begun : (f : ℕ → Option ℕ) (radix : ℕ) → Reads f radix (Some 0) false []
begun f radix = record { n = 0; value_is = refl; read = nothing }

one_digit : (f : ℕ → Option ℕ) (radix c d : ℕ) → f c ≡ Some d → backwards f radix (c ∷ []) ≡ Some (radix * 0 + d)
unfolding backwards
one_digit f radix c d is = is ∙ ap Some (omega arith)

underscored : (f : ℕ → Option ℕ) (radix n : ℕ) (back : List ℕ) → backwards f radix back ≡ Some n → before f radix (0x5f ∷ back) ≡ Some n
unfolding before
underscored f radix n back is = is

digits_before : (f : ℕ → Option ℕ) (radix n c : ℕ) (back : List ℕ) → c == 0x5f ≡ false
    → backwards f radix (c ∷ back) ≡ Some n → before f radix (c ∷ back) ≡ Some n
unfolding before
digits_before f radix n c back apart is = rw (apart, before) is

-- one digit more
pub more_digit : (f : ℕ → Option ℕ) (radix c d : ℕ) {a : Bool} {n : ℕ} {back : List ℕ} → c == 0x5f ≡ false
    → f c ≡ Some d → Read f radix a n back → Read f radix true (radix * n + d) (c ∷ back)
more_digit f radix c d other digit nothing = a_digit other (one_digit f radix c d digit)
more_digit f radix c d other digit (a_digit {n = n} {c = b} {back = bs} apart is) =
    a_digit other (digit_more f radix c d n (b ∷ bs) digit (digits_before f radix n b bs apart is))
more_digit f radix c d other digit (an_underscore {n = n} {back = bs} is) =
    a_digit other (digit_more f radix c d n (0x5f ∷ bs) digit (underscored f radix n bs is))

-- an underscore after a digit
pub more_underscore : (f : ℕ → Option ℕ) (radix : ℕ) {n : ℕ} {back : List ℕ} → Read f radix true n back → Read f radix false n (0x5f ∷ back)
more_underscore f radix (a_digit apart is) = an_underscore is

-- No text is a number that begins so: neither what is there, nor what is before an underscore at its end.
pub record Dead (f : ℕ → Option ℕ) (radix : ℕ) (back : List ℕ) : Type 0 where
  pub whole : backwards f radix back ≡ None
  pub front : before f radix back ≡ None

without : (o : Option ℕ) (radix : ℕ) → (o >>= λ d. None >>= λ n. Some (radix * n + d)) ≡ None
without None radix = refl
without (Some d) radix = refl

whole_more : (f : ℕ → Option ℕ) (radix x c : ℕ) (back : List ℕ) → before f radix (c ∷ back) ≡ None → backwards f radix (x ∷ c ∷ back) ≡ None
unfolding backwards before
whole_more f radix x c back none = rw (none, backwards) (without (f x) radix)

front_of : (f : ℕ → Option ℕ) (radix x : ℕ) (back : List ℕ) → backwards f radix back ≡ None
    → backwards f radix (x ∷ back) ≡ None → before f radix (x ∷ back) ≡ None
unfolding before
front_of f radix x back short long = elim (x == 0x5f) as (λ b.
    elim b as (λ b. Option ℕ) [ true ↦ backwards f radix back | false ↦ backwards f radix (x ∷ back) ] ≡ None) [ true ↦ short | false ↦ long ]

-- more characters change nothing
pub still_dead : (f : ℕ → Option ℕ) (radix c : ℕ) (back xs : List ℕ) → Dead f radix (c ∷ back) → Dead f radix (xs ++ c ∷ back)
still_dead f radix c back [] h = h
still_dead f radix c back (x ∷ []) h =
    let long = whole_more f radix x c back h.front in record { whole = long; front = front_of f radix x (c ∷ back) h.whole long }
still_dead f radix c back (x ∷ y ∷ ys) h =
    let less = still_dead f radix c back (y ∷ ys) h in
    let long = whole_more f radix x y (ys ++ c ∷ back) less.front in record { whole = long; front = front_of f radix x (y ∷ (ys ++ c ∷ back)) less.whole long }

no_digit : (f : ℕ → Option ℕ) (radix c : ℕ) (back : List ℕ) → f c ≡ None → backwards f radix (c ∷ back) ≡ None
unfolding backwards
no_digit f radix c [] none = none
no_digit f radix c (b ∷ bs) none = rw (none, backwards) refl

nothing_read : (f : ℕ → Option ℕ) (radix : ℕ) → backwards f radix [] ≡ None
unfolding backwards
nothing_read f radix = refl

-- a character that is no digit, and no underscore after a digit
pub stops : (f : ℕ → Option ℕ) (radix c : ℕ) {a : Bool} {n : ℕ} {back : List ℕ} → f 0x5f ≡ None
    → f c ≡ None → (c == 0x5f ≡ true → a ≡ false) → Read f radix a n back → Dead f radix (c ∷ back)
unfolding before
stops f radix c under none other nothing =
    record { whole = no_digit f radix c [] none; front = front_of f radix c [] (nothing_read f radix) (no_digit f radix c [] none) }
stops f radix c under none other (a_digit {n = n} {c = b} {back = bs} apart is) =
    record { whole = no_digit f radix c (b ∷ bs) none; front = go (c == 0x5f) refl }
  where
    go : (x : Bool) → c == 0x5f ≡ x → before f radix (c ∷ b ∷ bs) ≡ None
    go true e = absurd (cc (other e))
    go false e = rw (e, before) (no_digit f radix c (b ∷ bs) none)
stops f radix c under none other (an_underscore {n = n} {back = bs} is) = record {
  whole = no_digit f radix c (0x5f ∷ bs) none;
  front = front_of f radix c (0x5f ∷ bs) (no_digit f radix 0x5f bs under) (no_digit f radix c (0x5f ∷ bs) none);
}

-- the number at the end of the text
pub ended : (f : ℕ → Option ℕ) (radix : ℕ) {n : ℕ} {back : List ℕ} → Read f radix true n back → backwards f radix back ≡ Some n
ended f radix (a_digit apart is) = is

-- no digit at the end of the text
pub unfinished : (f : ℕ → Option ℕ) (radix : ℕ) {n : ℕ} {back : List ℕ} → f 0x5f ≡ None → Read f radix false n back → backwards f radix back ≡ None
unfolding backwards
unfinished f radix under nothing = refl
unfinished f radix under (an_underscore {n = n} {back = bs} is) = no_digit f radix 0x5f bs under

-- the characters up to the next, the last of them first
pub turned : (i : ℕ) (text : List ℕ) → i < length text → reverse (take (i + 1) text) ≡ get_or text i 0 ∷ reverse (take i text)
turned i text h = ap reverse (take_more text i 0 h) ∙ reverse-append (take i text) (get_or text i 0 ∷ [])

-- all of a text from one of its characters on
whole_text : (i : ℕ) (text : List ℕ) → i < length text → reverse text ≡ reverse (drop (i + 1) text) ++ get_or text i 0 ∷ reverse (take i text)
whole_text i text h = ap reverse (sym (take-append-drop (i + 1) text)) ∙ reverse-append (take (i + 1) text) (drop (i + 1) text)
    ∙ ap (λ back. reverse (drop (i + 1) text) ++ back) (turned i text h)

-- no number begins with a character that is no digit
pub none_first : (f : ℕ → Option ℕ) (radix c : ℕ) (cs : List ℕ) → f 0x5f ≡ None → f c ≡ None → backwards f radix (reverse (c ∷ cs)) ≡ None
none_first f radix c cs under none = ap (backwards f radix) (reverse_onto cs c [])
    ∙ (still_dead f radix c [] (reverse cs) (stops f radix c {a = false} {n = 0} under none (λ e. refl) nothing)).whole

pub underscore_at : (f : ℕ → Option ℕ) (radix i : ℕ) (text : List ℕ) (value next : Option ℕ) (a b : Bool)
    → i < length text → get_or text i 0 ≡ 0x5f → a ≡ true → next ≡ value → b ≡ false
    → Reads f radix value a (take i text) → Reads f radix next b (take (i + 1) text)
underscore_at f radix i text value next a b h is was same now m = record {
  n = m.n;
  value_is = same ∙ m.value_is;
  read = rw (now, turned i text h, is) (more_underscore f radix (subst (λ x. Read f radix x m.n (reverse (take i text))) was m.read));
}

pub digit_at : (f : ℕ → Option ℕ) (radix i d : ℕ) (text : List ℕ) (value next : Option ℕ) (a b : Bool)
    → f 0x5f ≡ None → i < length text → f (get_or text i 0) ≡ Some d
    → ((n : ℕ) → value ≡ fits n → next ≡ fits (radix * n + d)) → b ≡ true
    → Reads f radix value a (take i text) → Reads f radix next b (take (i + 1) text)
digit_at f radix i d text value next a b under h digit put now m = record {
  n = radix * m.n + d;
  value_is = put m.n m.value_is;
  read = rw (now, turned i text h) (more_digit f radix (get_or text i 0) d (differs (get_or text i 0 == 0x5f) refl) digit m.read);
}
  where
    differs : (x : Bool) → get_or text i 0 == 0x5f ≡ x → get_or text i 0 == 0x5f ≡ false
    differs true e = absurd (cc (ap f (eqb-true (get_or text i 0) 0x5f e)))
    differs false e = e

pub none_at : (f : ℕ → Option ℕ) (radix i : ℕ) (text : List ℕ) (value : Option ℕ) (a : Bool) → f 0x5f ≡ None
    → i < length text → (get_or text i 0 ≡ 0x5f → a ≡ false) → f (get_or text i 0) ≡ None
    → Reads f radix value a (take i text) → backwards f radix (reverse text) ≡ None
none_at f radix i text value a under h other none m = rw (whole_text i text h)
    (still_dead f radix (get_or text i 0) (reverse (take i text)) (reverse (drop (i + 1) text))
    (stops f radix (get_or text i 0) under none (λ e. other (eqb-true (get_or text i 0) 0x5f e)) m.read)).whole

-- a number, of 64 bits or out of range
kept : (n : ℕ) (o : Option ℕ) → o ≡ Some n → ok_or (fits n) fault.Range ≡ sized o
kept n o is = rw is (go (fits n))
  where
    go : (p : Option ℕ) → ok_or p fault.Range ≡ answer (Some n) p
    go None = refl
    go (Some x) = refl

pub ends_at : (f : ℕ → Option ℕ) (radix i : ℕ) (text : List ℕ) (value : Option ℕ) (r : Result ℕ TextFault) (a : Bool)
    → length text ≤ i → a ≡ true → r ≡ ok_or value fault.Range
    → Reads f radix value a (take i text) → r ≡ sized (backwards f radix (reverse text))
ends_at f radix i text value r a h was is m =
    let read : Read f radix true m.n (reverse text) = subst (λ b. Read f radix b m.n (reverse text)) was
    (subst (λ t. Read f radix a m.n (reverse t)) (take_all i text h) m.read) in
    is ∙ ap (λ v. ok_or v fault.Range) m.value_is ∙ kept m.n (backwards f radix (reverse text)) (ended f radix read)

pub stops_at : (f : ℕ → Option ℕ) (radix i : ℕ) (text : List ℕ) (value : Option ℕ) (a : Bool) → f 0x5f ≡ None → length text ≤ i → a ≡ false
    → Reads f radix value a (take i text) → Err fault.Number ≡ sized (backwards f radix (reverse text))
stops_at f radix i text value a under h was m =
    let read : Read f radix false m.n (reverse text) = subst (λ b. Read f radix b m.n (reverse text)) was
    (subst (λ t. Read f radix a m.n (reverse t)) (take_all i text h) m.read) in
    rw (unfinished f radix under read) refl

pub is_some_digit : (o : Option ℕ) (r : Result ℕ TextFault) (d : ℕ) → r ≡ ok_or o fault.Number → r ≡ Ok d → o ≡ Some d
is_some_digit None r d is was = absurd cc
is_some_digit (Some x) r d is was = cc

pub is_no_digit : (o : Option ℕ) (r : Result ℕ TextFault) (e : TextFault) → r ≡ ok_or o fault.Number → r ≡ Err e → (o ≡ None) × (e ≡ fault.Number)
is_no_digit None r e is was = (refl, cc)
is_no_digit (Some x) r e is was = absurd cc
