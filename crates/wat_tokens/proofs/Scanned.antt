-- Closes the loops that cut a text, look whether it is digits, and copy it: each lemma is one step of a loop, or its end.
use Rattle.std.proofs.Common.{◌≡◌, ◌∙◌, ℕ, ◌+◌, ◌<◌, ◌≤◌, ◌==◌, ◌&&◌, ◌||◌, Bool, true, false, List, [], ◌∷◌}
use Rattle.std.proofs.Common.{◌++◌, length, take, drop, get_or, Option, None, Some, refl, sym, ap, arith}
use Rattle.std.specs.Prelude.{is_some}
use Rattle.std.proofs.lemmas.List.{drop_more, take_more, take_all}
use Rattle.std.proofs.Math.ListN.{drop_of_length-le}
use Rattle.wat_grammar.specs.Floats.{cut}
use Rattle.wat_tokens.specs.Fractions.{is_digits_after, bare, form, or_empty}

assoc : (xs ys zs : List ℕ) → (xs ++ ys) ++ zs ≡ xs ++ (ys ++ zs)
assoc [] ys zs = refl
assoc (x ∷ xs) ys zs = ap (λ t. x ∷ t) (assoc xs ys zs)

no_more : (xs : List ℕ) → xs ++ [] ≡ xs
no_more [] = refl
no_more (x ∷ xs) = ap (λ t. x ∷ t) (no_more xs)

-- ---- a text is cut where the rest of it is

-- the front, and what the rest is cut into
abbrev pub cut_from : ℕ → ℕ → List ℕ → List ℕ → List ℕ × Option (List ℕ)
cut_from c d front text = (front ++ (cut c d text).0, (cut c d text).1)

begins : (c d x : ℕ) (front xs : List ℕ) → (x == c || x == d) ≡ true → cut_from c d front (x ∷ xs) ≡ (front, Some xs)
unfolding cut
begins c d x front xs is =
    ap (λ b. let t = elim b as (λ b. List ℕ × Option (List ℕ)) [ true ↦ ([], Some xs) | false ↦ (x ∷ (cut c d xs).0, (cut c d xs).1) ] in
    (front ++ t.0, t.1)) is ∙ λ i. (no_more front i, Some xs)

passes : (c d x : ℕ) (front xs : List ℕ) → (x == c || x == d) ≡ false → cut_from c d front (x ∷ xs) ≡ cut_from c d (front ++ x ∷ []) xs
unfolding cut
passes c d x front xs is =
    ap (λ b. let t = elim b as (λ b. List ℕ × Option (List ℕ)) [ true ↦ ([], Some xs) | false ↦ (x ∷ (cut c d xs).0, (cut c d xs).1) ] in
    (front ++ t.0, t.1)) is
    ∙ λ i. (sym (assoc front (x ∷ []) (cut c d xs).0) i, (cut c d xs).1)

nothing : (c d : ℕ) (front : List ℕ) → cut_from c d front [] ≡ (front, None)
unfolding cut
nothing c d front = λ i. (no_more front i, None)

pub cut_here : (c d i : ℕ) (text : List ℕ) → i < length text → (get_or text i 0 == c || get_or text i 0 == d) ≡ true
    → cut c d text ≡ cut_from c d (take i text) (drop i text)
    → cut c d text ≡ (take i text, Some (drop (i + 1) text))
cut_here c d i text h is so = so ∙ ap (cut_from c d (take i text)) (drop_more text i 0 h) ∙ begins c d (get_or text i 0) (take i text) (drop (i + 1) text) is

pub cut_on : (c d i : ℕ) (text : List ℕ) → i < length text → (get_or text i 0 == c || get_or text i 0 == d) ≡ false
    → cut c d text ≡ cut_from c d (take i text) (drop i text)
    → cut c d text ≡ cut_from c d (take (i + 1) text) (drop (i + 1) text)
cut_on c d i text h is so = so ∙ ap (cut_from c d (take i text)) (drop_more text i 0 h) ∙ passes c d (get_or text i 0) (take i text) (drop (i + 1) text) is
    ∙ ap (λ t. cut_from c d t (drop (i + 1) text)) (sym (take_more text i 0 h))

pub cut_end : (c d i : ℕ) (text : List ℕ) → length text ≤ i → cut c d text ≡ cut_from c d (take i text) (drop i text) → cut c d text ≡ (text, None)
cut_end c d i text h so = so ∙ ap (cut_from c d (take i text)) (drop_of_length-le text h) ∙ nothing c d (take i text) ∙ ap (λ t. (t, None)) (take_all i text h)

-- ---- digits

-- what a character makes of the rest
abbrev after_one : (ℕ → Option ℕ) → Bool → Option ℕ → List ℕ → Bool
after_one f is_between digit cs = elim is_between as (λ b. Bool) [
  | true ↦ is_digits_after f false cs
  | false ↦ elim (is_some digit) as (λ b. Bool) [ true ↦ is_digits_after f true cs | false ↦ false ]
]

one_at : (f : ℕ → Option ℕ) (i : ℕ) (text : List ℕ) (a : Bool) → i < length text
    → is_digits_after f a (drop i text) ≡ after_one f (get_or text i 0 == 0x5f && a) (f (get_or text i 0)) (drop (i + 1) text)
unfolding is_digits_after
one_at f i text a h = ap (is_digits_after f a) (drop_more text i 0 h)

pub underscore_on : (f : ℕ → Option ℕ) (i : ℕ) (text : List ℕ) (a : Bool) → i < length text → (get_or text i 0 == 0x5f && a) ≡ true
    → is_digits_after f a (drop i text) ≡ is_digits_after f false (drop (i + 1) text)
underscore_on f i text a h is = one_at f i text a h ∙ ap (λ b. after_one f b (f (get_or text i 0)) (drop (i + 1) text)) is

other_on : (f : ℕ → Option ℕ) (i : ℕ) (text : List ℕ) (a b : Bool) → i < length text
    → (get_or text i 0 == 0x5f && a) ≡ false → is_some (f (get_or text i 0)) ≡ b
    → is_digits_after f a (drop i text) ≡ elim b as (λ b. Bool) [ true ↦ is_digits_after f true (drop (i + 1) text) | false ↦ false ]
other_on f i text a b h is was = one_at f i text a h ∙ ap (λ b. after_one f b (f (get_or text i 0)) (drop (i + 1) text)) is
    ∙ ap (λ b. elim b as (λ b. Bool) [ true ↦ is_digits_after f true (drop (i + 1) text) | false ↦ false ]) was

pub digit_on : (f : ℕ → Option ℕ) (i : ℕ) (text : List ℕ) (a : Bool) → i < length text
    → (get_or text i 0 == 0x5f && a) ≡ false → is_some (f (get_or text i 0)) ≡ true
    → is_digits_after f a (drop i text) ≡ is_digits_after f true (drop (i + 1) text)
digit_on f i text a h is was = other_on f i text a true h is was

pub no_digit_on : (f : ℕ → Option ℕ) (i : ℕ) (text : List ℕ) (a : Bool) → i < length text
    → (get_or text i 0 == 0x5f && a) ≡ false → is_some (f (get_or text i 0)) ≡ false
    → is_digits_after f a (drop i text) ≡ false
no_digit_on f i text a h is was = other_on f i text a false h is was

pub digits_end : (f : ℕ → Option ℕ) (i : ℕ) (text : List ℕ) (a : Bool) → length text ≤ i → is_digits_after f a (drop i text) ≡ a
unfolding is_digits_after
digits_end f i text a h = ap (is_digits_after f a) (drop_of_length-le text h)

-- ---- copies without underscores

bare_append : (xs ys : List ℕ) → bare (xs ++ ys) ≡ bare xs ++ bare ys
unfolding bare
bare_append [] ys = refl
bare_append (x ∷ xs) ys = let rest = bare_append xs ys in
    elim (x == 0x5f) as (λ b. elim b as (λ b. List ℕ) [ true ↦ bare (xs ++ ys) | false ↦ x ∷ bare (xs ++ ys) ]
    ≡ elim b as (λ b. List ℕ) [ true ↦ bare xs | false ↦ x ∷ bare xs ] ++ bare ys)
    [ true ↦ rest | false ↦ ap (λ t. x ∷ t) rest ]

bare_one : (x : ℕ) → x == 0x5f ≡ false → bare (x ∷ []) ≡ x ∷ []
unfolding bare
bare_one x is = ap (λ b. elim b as (λ b. List ℕ) [ true ↦ [] | false ↦ x ∷ [] ]) is

bare_none : (x : ℕ) → x ≡ 0x5f → bare (x ∷ []) ≡ []
unfolding bare
bare_none x is = ap (λ y. bare (y ∷ [])) is

pub bare_nothing : (xs : List ℕ) → xs ≡ xs ++ bare []
unfolding bare
bare_nothing xs = sym (no_more xs)

pub copy_on : (i : ℕ) (text out before next : List ℕ) → i < length text → get_or text i 0 == 0x5f ≡ false
    → out ≡ before ++ bare (take i text) → next ≡ out ++ get_or text i 0 ∷ []
    → next ≡ before ++ bare (take (i + 1) text)
copy_on i text out before next h is so now = now ∙ ap (λ t. t ++ get_or text i 0 ∷ []) so ∙ assoc before (bare (take i text)) (get_or text i 0 ∷ [])
    ∙ ap (λ t. before ++ t) (ap (λ t. bare (take i text) ++ t) (sym (bare_one (get_or text i 0) is))
    ∙ sym (bare_append (take i text) (get_or text i 0 ∷ [])) ∙ ap bare (sym (take_more text i 0 h)))

pub pass_on : (i : ℕ) (text out before next : List ℕ) → i < length text → get_or text i 0 ≡ 0x5f → out ≡ before ++ bare (take i text) → next ≡ out
    → next ≡ before ++ bare (take (i + 1) text)
pass_on i text out before next h is so now = now ∙ so
    ∙ ap (λ t. before ++ t) (sym (no_more (bare (take i text))) ∙ ap (λ t. bare (take i text) ++ t) (sym (bare_none (get_or text i 0) is))
    ∙ sym (bare_append (take i text) (get_or text i 0 ∷ [])) ∙ ap bare (sym (take_more text i 0 h)))

-- ---- lengths

-- what a text is cut into is no longer than it
pub record IsShort (text : List ℕ) (t : List ℕ × Option (List ℕ)) : Type 0 where
  pub front : length t.0 ≤ length text
  pub rest : length (or_empty t.1) ≤ length text

pub cut_short : (c d : ℕ) (text : List ℕ) → IsShort text (cut c d text)
unfolding cut
cut_short c d [] = record { front = omega arith; rest = omega arith }
cut_short c d (x ∷ xs) = go (x == c || x == d) (cut_short c d xs)
  where
    go : (b : Bool) → IsShort xs (cut c d xs)
        → IsShort (x ∷ xs) (elim b as (λ b. List ℕ × Option (List ℕ)) [ true ↦ ([], Some xs) | false ↦ (x ∷ (cut c d xs).0, (cut c d xs).1) ])
    go true h = record { front = omega arith; rest = omega arith }
    go false h = record { front = omega (arith, h.front); rest = omega (arith, h.rest) }

-- and so are the pieces of a number
pub short_form : (c d : ℕ) (text : List ℕ) → (length (form c d text).whole ≤ length text) × (length (form c d text).fraction ≤ length text)
short_form c d text =
    let a = cut_short c d text in
    let b = cut_short 0x2e 0x2e (cut c d text).0 in
    (omega (arith, a.front, b.front), omega (arith, a.front, b.rest))
