-- Says what num, frac and float of wat_grammar give, by a reading from the left: num reads a text from its end.
use Rattle.std.proofs.Common.{◌≡◌, ◌∙◌, ℕ, suc, ◌+◌, ◌*◌, ◌==◌, ◌&&◌, Bool, true, false, List, []}
use Rattle.std.proofs.Common.{◌∷◌, ◌++◌, Option, None, Some, eqb-true, refl, sym, ap, subst, arith}
use Rattle.std.specs.Prelude.{reverse, is_some, ◌^◌, if◌then◌else◌}
use Rattle.std.proofs.lemmas.List.{reverse-append, append-nil}
use native.Mathlib.Nat.{pow-suc, pow-zero, mul-one}
use Rattle.wat_grammar.specs.Parts.{◌>>=◌}
use Rattle.wat_grammar.specs.Integers.{backwards}
use Rattle.wat_grammar.specs.Floats.{fraction}
use Rattle.wat_tokens.specs.Fractions.{is_digits_after, value_after, count}
use Rattle.wat_tokens.proofs.Backwards.{Read, nothing, more_digit, more_underscore, still_dead, stops, ended, unfinished}

-- a number, if the text is digits
abbrev pub when : {T : Type 0} → Bool → T → Option T
when b x = if b then Some x else None

turned : (c : ℕ) (cs back : List ℕ) → reverse (c ∷ cs) ++ back ≡ reverse cs ++ (c ∷ back)
turned c cs back = ap (λ t. t ++ back) (reverse-append (c ∷ []) cs) ∙ assoc (reverse cs) (c ∷ []) back
  where
    assoc : (xs ys zs : List ℕ) → (xs ++ ys) ++ zs ≡ xs ++ (ys ++ zs)
    assoc [] ys zs = refl
    assoc (x ∷ xs) ys zs = ap (λ t. x ∷ t) (assoc xs ys zs)

no_underscore : (f : ℕ → Option ℕ) (c d : ℕ) → f 0x5f ≡ None → f c ≡ Some d → c == 0x5f ≡ false
no_underscore f c d under digit = go (c == 0x5f) refl
  where
    go : (b : Bool) → c == 0x5f ≡ b → b ≡ false
    go true e = absurd (cc (under, digit, ap f (eqb-true c 0x5f e)))
    go false e = refl

-- the rest of the text, after what is read
forward : (f : ℕ → Option ℕ) (radix : ℕ) → f 0x5f ≡ None → (cs : List ℕ) (a : Bool) (n : ℕ) (back : List ℕ) → Read f radix a n back
    → backwards f radix (reverse cs ++ back) ≡ when (is_digits_after f a cs) (value_after f radix n cs)
unfolding is_digits_after value_after
forward f radix under [] true n back read = ended f radix read
forward f radix under [] false n back read = unfinished f radix under read
forward f radix under (c ∷ cs) a n back read =
    ap (backwards f radix) (turned c cs back) ∙ go (λ b m back read. forward f radix under cs b m back read) (c == 0x5f) refl (f c) refl a read
  where
    go : ((b : Bool) (m : ℕ) (back : List ℕ) → Read f radix b m back
        → backwards f radix (reverse cs ++ back) ≡ when (is_digits_after f b cs) (value_after f radix m cs))
        → (x : Bool) → c == 0x5f ≡ x → (o : Option ℕ) → f c ≡ o → (a : Bool) → Read f radix a n back → backwards f radix (reverse cs ++ (c ∷ back))
        ≡ when (elim (x && a) as (λ b. Bool) [
          | true ↦ is_digits_after f false cs
          | false ↦ elim (is_some o) as (λ b. Bool) [ true ↦ is_digits_after f true cs | false ↦ false ]
        ])
        (elim o as (λ o. ℕ) [ Some d ↦ value_after f radix (radix * n + d) cs | None ↦ value_after f radix n cs ])
    go more true e (Some d) g a m = absurd (cc (e, no_underscore f c d under g))
    go more true e None g true m = subst (λ y. backwards f radix (reverse cs ++ (y ∷ back))
        ≡ when (is_digits_after f false cs) (value_after f radix n cs)) (sym (eqb-true c 0x5f e))
        (more false n (0x5f ∷ back) (more_underscore f radix m))
    go more true e None g false m = (still_dead f radix c back (reverse cs) (stops f radix c under g (λ h. refl) m)).whole
    go more false e (Some d) g a m = more true (radix * n + d) (c ∷ back) (more_digit f radix c d e g m)
    go more false e None g a m = (still_dead f radix c back (reverse cs) (stops f radix c under g (λ h. absurd (cc (e, h))) m)).whole

-- ---- num and frac

pub number_is : (f : ℕ → Option ℕ) (radix : ℕ) → f 0x5f ≡ None → (text : List ℕ)
    → backwards f radix (reverse text) ≡ when (is_digits_after f false text) (value_after f radix 0 text)
number_is f radix under text = ap (backwards f radix) (sym (append-nil (reverse text))) ∙ forward f radix under text false 0 [] nothing

parts : (r n d q : ℕ) → (r * n + d) * q ≡ n * (q * r) + (r * 0 + d) * q
parts r n d q = omega arith

-- digits after n
pub value_from : (f : ℕ → Option ℕ) (radix n : ℕ) (text : List ℕ) → value_after f radix n text ≡ n * radix ^ count f text + value_after f radix 0 text
unfolding value_after count
value_from f radix n [] = plain n
  where
    plain : (n : ℕ) → n ≡ n * radix ^ 0 + 0
    plain n = omega (arith, mul-one n, ap (λ k. n * k) (pow-zero radix))
value_from f radix n (c ∷ cs) = go (f c) (λ m. value_from f radix m cs)
  where
    go : (o : Option ℕ) → ((m : ℕ) → value_after f radix m cs ≡ m * radix ^ count f cs + value_after f radix 0 cs)
        → elim o as (λ o. ℕ) [ Some d ↦ value_after f radix (radix * n + d) cs | None ↦ value_after f radix n cs ]
        ≡ n * radix ^ (elim o as (λ o. ℕ) [ Some d ↦ suc (count f cs) | None ↦ count f cs ])
        + elim o as (λ o. ℕ) [ Some d ↦ value_after f radix (radix * 0 + d) cs | None ↦ value_after f radix 0 cs ]
    go None more = more n
    go (Some d) more = more (radix * n + d)
        ∙ omega (arith, more (radix * 0 + d), parts radix n d (radix ^ count f cs), ap (λ x. n * x) (pow-suc radix (count f cs)))

never : (b : Bool) → (b && false) ≡ false
never true = refl
never false = refl

-- a digit before a fraction
joined : (radix d : ℕ) (b : Bool) (v k w : ℕ) → w ≡ d * radix ^ k + v
    → (when {T = ℕ × ℕ} b (v, k) >>= λ p. Some (d * radix ^ p.1 + p.0, p.1 + 1)) ≡ when {T = ℕ × ℕ} b (w, suc k)
joined radix d false v k w e = refl
joined radix d true v k w e = λ i. Some (sym e i, more i)
  where
    more : k + 1 ≡ suc k
    more = omega arith

-- the first character, by the digit that it is
pub first : (f : ℕ → Option ℕ) (c : ℕ) (cs : List ℕ) → is_digits_after f false (c ∷ cs) ≡ (is_some (f c) && is_digits_after f true cs)
unfolding is_digits_after
first f c cs = ap (λ b. elim b as (λ b. Bool) [
  | true ↦ is_digits_after f false cs
  | false ↦ elim (is_some (f c)) as (λ b. Bool) [ true ↦ is_digits_after f true cs | false ↦ false ]
]) (never (c == 0x5f))
    ∙ go (is_some (f c))
  where
    go : (b : Bool) → elim b as (λ b. Bool) [ true ↦ is_digits_after f true cs | false ↦ false ] ≡ (b && is_digits_after f true cs)
    go true = refl
    go false = refl

-- after a digit
second : (f : ℕ → Option ℕ) (b : ℕ) (cs : List ℕ) → is_digits_after f true (b ∷ cs)
    ≡ elim (b == 0x5f) as (λ b. Bool) [ true ↦ is_digits_after f false cs | false ↦ is_digits_after f false (b ∷ cs) ]
unfolding is_digits_after
second f b cs = go (b == 0x5f)
  where
    go : (x : Bool) → elim (x && true) as (λ b. Bool) [
      | true ↦ is_digits_after f false cs
      | false ↦ elim (is_some (f b)) as (λ b. Bool) [ true ↦ is_digits_after f true cs | false ↦ false ]
    ]
        ≡ elim x as (λ b. Bool) [
          | true ↦ is_digits_after f false cs
          | false ↦ elim (x && false) as (λ b. Bool) [
            | true ↦ is_digits_after f false cs
            | false ↦ elim (is_some (f b)) as (λ b. Bool) [ true ↦ is_digits_after f true cs | false ↦ false ]
          ]
        ]
    go true = refl
    go false = refl

pub skipped : (f : ℕ → Option ℕ) (radix n b : ℕ) (cs : List ℕ) → f b ≡ None → value_after f radix n (b ∷ cs) ≡ value_after f radix n cs
unfolding value_after
skipped f radix n b cs e = ap (λ o. elim o as (λ o. ℕ) [ Some d ↦ value_after f radix (radix * n + d) cs | None ↦ value_after f radix n cs ]) e

pub uncounted : (f : ℕ → Option ℕ) (b : ℕ) (cs : List ℕ) → f b ≡ None → count f (b ∷ cs) ≡ count f cs
unfolding count
uncounted f b cs e = ap (λ o. elim o as (λ o. ℕ) [ Some d ↦ suc (count f cs) | None ↦ count f cs ]) e

pub taken : (f : ℕ → Option ℕ) (radix n b d : ℕ) (cs : List ℕ) → f b ≡ Some d → value_after f radix n (b ∷ cs) ≡ value_after f radix (radix * n + d) cs
unfolding value_after
taken f radix n b d cs e = ap (λ o. elim o as (λ o. ℕ) [ Some d ↦ value_after f radix (radix * n + d) cs | None ↦ value_after f radix n cs ]) e

pub counted : (f : ℕ → Option ℕ) (b d : ℕ) (cs : List ℕ) → f b ≡ Some d → count f (b ∷ cs) ≡ suc (count f cs)
unfolding count
counted f b d cs e = ap (λ o. elim o as (λ o. ℕ) [ Some d ↦ suc (count f cs) | None ↦ count f cs ]) e

-- the value of the rest, with a digit before it
over : (f : ℕ → Option ℕ) (radix d : ℕ) (cs : List ℕ) → value_after f radix (radix * 0 + d) cs ≡ d * radix ^ count f cs + value_after f radix 0 cs
over f radix d cs = value_from f radix (radix * 0 + d) cs
    ∙ ap (λ n. n * radix ^ count f cs + value_after f radix 0 cs) {x = radix * 0 + d} {y = d} (omega arith)

pub fraction_is : (f : ℕ → Option ℕ) (radix : ℕ) → f 0x5f ≡ None → (text : List ℕ)
    → fraction f radix text ≡ when {T = ℕ × ℕ} (is_digits_after f false text) (value_after f radix 0 text, count f text)
unfolding fraction is_digits_after value_after count
fraction_is f radix under [] = refl
fraction_is f radix under (c ∷ []) = go (f c) refl ∙ ap (λ b. when {T = ℕ × ℕ} b (value_after f radix 0 (c ∷ []), count f (c ∷ []))) (sym (first f c []))
  where
    go : (o : Option ℕ) → f c ≡ o → (o >>= λ d. Some (d, 1)) ≡ when {T = ℕ × ℕ} (is_some o && true) (value_after f radix 0 (c ∷ []), count f (c ∷ []))
    go None e = refl
    go (Some d) e = let v : d ≡ value_after f radix 0 (c ∷ []) = plain d ∙ sym (taken f radix 0 c d [] e) in
        let k : 1 ≡ count f (c ∷ []) = sym (counted f c d [] e) in λ i. Some (v i, k i)
      where
        plain : (d : ℕ) → d ≡ radix * 0 + d
        plain d = omega arith
fraction_is f radix under (c ∷ b ∷ cs) =
    go (fraction_is f radix under cs) (fraction_is f radix under (b ∷ cs)) (f c) refl (b == 0x5f) refl
    ∙ ap (λ x. when {T = ℕ × ℕ} x (value_after f radix 0 (c ∷ b ∷ cs), count f (c ∷ b ∷ cs)))
    (sym (first f c (b ∷ cs) ∙ ap (λ x. is_some (f c) && x) (second f b cs)))
  where
    go : fraction f radix cs ≡ when {T = ℕ × ℕ} (is_digits_after f false cs) (value_after f radix 0 cs, count f cs)
        → fraction f radix (b ∷ cs) ≡ when {T = ℕ × ℕ} (is_digits_after f false (b ∷ cs)) (value_after f radix 0 (b ∷ cs), count f (b ∷ cs))
        → (o : Option ℕ) → f c ≡ o → (x : Bool) → b == 0x5f ≡ x
        → (o >>= λ d. elim x as (λ x. Option (ℕ × ℕ)) [ true ↦ fraction f radix cs | false ↦ fraction f radix (b ∷ cs) ]
        >>= λ p. Some (d * radix ^ p.1 + p.0, p.1 + 1))
        ≡ when {T = ℕ × ℕ} (is_some o && elim x as (λ b. Bool) [ true ↦ is_digits_after f false cs | false ↦ is_digits_after f false (b ∷ cs) ])
        (value_after f radix 0 (c ∷ b ∷ cs), count f (c ∷ b ∷ cs))
    go short long None e x g = refl
    go short long (Some d) e true g =
        let none : f b ≡ None = ap f (eqb-true b 0x5f g) ∙ under in
        let v : value_after f radix 0 (c ∷ b ∷ cs) ≡ d * radix ^ count f cs + value_after f radix 0 cs = taken f radix 0 c d (b ∷ cs) e
        ∙ skipped f radix (radix * 0 + d) b cs none ∙ over f radix d cs in
        let k : suc (count f cs) ≡ count f (c ∷ b ∷ cs) = ap suc (sym (uncounted f b cs none)) ∙ sym (counted f c d (b ∷ cs) e) in
        ap (λ o. o >>= λ p. Some (d * radix ^ p.1 + p.0, p.1 + 1)) short
        ∙ joined radix d (is_digits_after f false cs) (value_after f radix 0 cs) (count f cs) (value_after f radix 0 (c ∷ b ∷ cs)) v
        ∙ λ i. when {T = ℕ × ℕ} (is_digits_after f false cs) (value_after f radix 0 (c ∷ b ∷ cs), k i)
    go short long (Some d) e false g =
        let v : value_after f radix 0 (c ∷ b ∷ cs) ≡ d * radix ^ count f (b ∷ cs) + value_after f radix 0 (b ∷ cs) = taken f radix 0 c d (b ∷ cs) e
        ∙ over f radix d (b ∷ cs) in
        let k : suc (count f (b ∷ cs)) ≡ count f (c ∷ b ∷ cs) = sym (counted f c d (b ∷ cs) e) in
        ap (λ o. o >>= λ p. Some (d * radix ^ p.1 + p.0, p.1 + 1)) long ∙ joined radix d (is_digits_after f false (b ∷ cs))
        (value_after f radix 0 (b ∷ cs)) (count f (b ∷ cs)) (value_after f radix 0 (c ∷ b ∷ cs)) v
        ∙ λ i. when {T = ℕ × ℕ} (is_digits_after f false (b ∷ cs)) (value_after f radix 0 (c ∷ b ∷ cs), k i)
