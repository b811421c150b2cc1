-- Closes the loops over the elements of a string: each is read after those before it, and has its place.
use Rattle.std.proofs.Common.{◌≡◌, ◌∙◌, ℕ, zero, suc, ◌+◌, ◌-◌, ◌*◌, ◌≤◌, ◌==◌, Bool, true, false, List, [], ◌∷◌, ◌++◌, length, drop, take}
use Rattle.std.proofs.Common.{Option, None, Some, Result, Ok, Err, append_assoc, append-nil, replicate, refl, sym, ap, ap₂, subst, arith}
use Rattle.std.proofs.Common.{eqb-true}
use Rattle.std.proofs.lemmas.List.{drop-drop, length-drop}
use Rattle.std.specs.Prelude.{if◌then◌else◌, codes, ◌&&◌, ◌||◌, not, nat_le}
use Rattle.std.specs.Char.{encode_utf8}
use Rattle.wat_grammar.specs.Parts.{◌>>=◌, after, front}
use Rattle.wat_grammar.specs.Characters.{hexdigit}
use Rattle.wat_grammar.specs.Integers.{hexnum}
use Rattle.wat_grammar.specs.Strings.{is_raw, is_scalar, named, braced, unicode, byte, escape, stringelem, joined, elements, string}
use Rattle.wat_tokens.specs.Strings.{added, element_fault, begins_raw, Takes, Spells, spelled}
use Rattle.wat_tokens.proofs.Fronts.{begins, stops, front_is, tail_is}

-- r is what is left of a text after a character or more
record Suffix (r text : List ℕ) : Type 0 where
  n : ℕ
  is : r ≡ drop (suc n) text

after_one : (c : ℕ) (r cs : List ℕ) → Suffix r cs → Suffix r (c ∷ cs)
after_one c r cs s = record { n = suc s.n; is = s.is }

record Bound {A B : Type 0} (o : Option A) (f : A → Option B) (y : B) : Type 0 where
  x : A
  first : o ≡ Some x
  then_is : f x ≡ Some y

bound : {A B : Type 0} (o : Option A) (f : A → Option B) (y : B) → (o >>= f) ≡ Some y → Bound o f y
bound None f y h = absurd cc
bound (Some x) f y h = record { x = x; first = refl; then_is = h }

braced_suffix : (cs : List ℕ) (t : List ℕ × List ℕ) → braced cs ≡ Some t → Suffix t.1 cs
unfolding braced
braced_suffix [] t h = absurd cc
braced_suffix (c ∷ cs) t h = go (c == 0x7d) (braced_suffix cs) h
  where
    go : (b : Bool) → ((t : List ℕ × List ℕ) → braced cs ≡ Some t → Suffix t.1 cs)
        → elim b as (λ x. Option (List ℕ × List ℕ)) [ true ↦ Some ([], cs) | false ↦ braced cs >>= λ t. Some (c ∷ t.0, t.1) ] ≡ Some t → Suffix t.1 (c ∷ cs)
    go true inner e = record { n = zero; is = let same : (let p : List ℕ × List ℕ = ([], cs) in p) ≡ t = cc in sym (ap (λ p. p.1) same) }
    go false inner e =
        let b = bound (braced cs) (λ t. let p : List ℕ × List ℕ = (c ∷ t.0, t.1) in Some p) t e in
        let same : (let p : List ℕ × List ℕ = (c ∷ b.x.0, b.x.1) in p) ≡ t = cc b.then_is in
        subst (λ r. Suffix r (c ∷ cs)) (ap (λ p. p.1) same) (after_one c b.x.1 cs (inner b.x b.first))

same_rest : (r cs b : List ℕ) (y : List ℕ × List ℕ) → (let p : List ℕ × List ℕ = (b, r) in Some p) ≡ Some y → y.1 ≡ r
same_rest r cs b y h = let same : (let p : List ℕ × List ℕ = (b, r) in p) ≡ y = cc in sym (ap (λ p. p.1) same)

unicode_suffix : (text : List ℕ) (y : List ℕ × List ℕ) → unicode text ≡ Some y → Suffix y.1 text
unicode_suffix text y h =
    let t = bound (braced text) (λ t. hexnum t.0 >>= λ n. if is_scalar n then (let p : List ℕ × List ℕ = (encode_utf8 n, t.1) in Some p) else None) y h in
    let n = bound (hexnum t.x.0) (λ n. if is_scalar n then (let p : List ℕ × List ℕ = (encode_utf8 n, t.x.1) in Some p) else None) y t.then_is in
    subst (λ r. Suffix r text) (sym (go n.x t.x.1 (is_scalar n.x) n.then_is)) (braced_suffix text t.x t.first)
  where
    go : (m : ℕ) (r : List ℕ) (b : Bool) → (if b then (let p : List ℕ × List ℕ = (encode_utf8 m, r) in Some p) else None) ≡ Some y → y.1 ≡ r
    go m r true e = same_rest r [] (encode_utf8 m) y e
    go m r false e = absurd cc

byte_suffix : (text : List ℕ) (y : List ℕ × List ℕ) → byte text ≡ Some y → Suffix y.1 text
byte_suffix [] y h = absurd cc
byte_suffix (c ∷ []) y h = absurd cc
byte_suffix (c ∷ d ∷ rest) y h =
    let n = bound (hexdigit c) (λ n. hexdigit d >>= λ m. (let p : List ℕ × List ℕ = ((16 * n + m) ∷ [], rest) in Some p)) y h in
    let m = bound (hexdigit d) (λ m. (let p : List ℕ × List ℕ = ((16 * n.x + m) ∷ [], rest) in Some p)) y n.then_is in
    record { n = 1; is = same_rest rest [] ((16 * n.x + m.x) ∷ []) y m.then_is }

after_u : (text digits : List ℕ) → after (codes "u{") text ≡ Some digits → Suffix digits text
after_u [] digits h = absurd cc
after_u (c ∷ []) digits h = go (c == 0x75) h
  where
    go : (b : Bool) → elim b as (λ x. Option (List ℕ)) [ true ↦ None | false ↦ None ] ≡ Some digits → Suffix digits (c ∷ [])
    go true e = absurd cc
    go false e = absurd cc
after_u (c ∷ d ∷ rest) digits h = go (c == 0x75) (d == 0x7b) h
  where
    go : (a b : Bool) → elim a as (λ x. Option (List ℕ)) [
      | true ↦ elim b as (λ x. Option (List ℕ)) [ true ↦ Some rest | false ↦ None ]
      | false ↦ None
    ] ≡ Some digits → Suffix digits (c ∷ d ∷ rest)
    go true true e = record { n = 1; is = let same : rest ≡ digits = cc in sym same }
    go true false e = absurd cc
    go false b e = absurd cc

inner_suffix : (r digits text : List ℕ) → Suffix r digits → Suffix digits text → Suffix r text
inner_suffix r digits text a b = record {
  n = b.n + suc a.n;
  is = a.is ∙ ap (drop (suc a.n)) b.is ∙ drop-drop (suc a.n) (suc b.n) text
      ∙ ap (λ k. drop k text) {x = suc b.n + suc a.n} {y = suc (b.n + suc a.n)} (omega arith);
}

escape_suffix : (text : List ℕ) (y : List ℕ × List ℕ) → escape text ≡ Some y → Suffix y.1 text
escape_suffix [] y h = absurd cc
escape_suffix (c ∷ cs) y h = go (named c) (after (codes "u{") (c ∷ cs)) refl h
  where
    go : (o : Option ℕ) (p : Option (List ℕ)) → after (codes "u{") (c ∷ cs) ≡ p
        → elim o as (λ x. Option (List ℕ × List ℕ)) [
          | Some b ↦ Some (b ∷ [], cs)
          | None ↦ elim p as (λ x. Option (List ℕ × List ℕ))
              [ Some digits ↦ unicode digits | None ↦ byte (c ∷ cs) ]
        ] ≡ Some y → Suffix y.1 (c ∷ cs)
    go (Some b) p is e = record { n = 0; is = same_rest cs [] (b ∷ []) y e }
    go None (Some digits) is e = inner_suffix y.1 digits (c ∷ cs) (unicode_suffix digits y e) (after_u (c ∷ cs) digits is)
    go None None is e = byte_suffix (c ∷ cs) y e

element_suffix : (text : List ℕ) (y : List ℕ × List ℕ) → stringelem text ≡ Some y → Suffix y.1 text
element_suffix [] y h = absurd cc
element_suffix (c ∷ cs) y h = go (c == 0x5c) (is_raw c) h
  where
    go : (a b : Bool) → elim a as (λ x. Option (List ℕ × List ℕ)) [ true ↦ escape cs | false ↦ if b then Some (c ∷ [], cs) else None ] ≡ Some y
        → Suffix y.1 (c ∷ cs)
    go true b e = after_one c y.1 cs (escape_suffix cs y e)
    go false true e = record { n = 0; is = same_rest cs [] (c ∷ []) y e }
    go false false e = absurd cc

-- a text that is cut, by the place of the cut
place_of : (k : ℕ) (xs : List ℕ) → drop k xs ≡ drop (length xs - length (drop k xs)) xs
place_of zero xs = ap (λ n. drop n xs) {x = 0} {y = length xs - length xs} (omega arith)
place_of (suc k) [] = refl
place_of (suc k) (x ∷ xs) =
    let shorter : length (drop k xs) ≡ length xs - k = length-drop k xs in
    place_of k xs ∙ ap (λ n. drop n (x ∷ xs)) {x = suc (length xs - length (drop k xs))} {y = suc (length xs) - length (drop k xs)} (omega (arith, shorter))

-- What holds between two elements: what is read, and so many characters at most are left.
pub record Reading (text out rest : List ℕ) (n : ℕ) : Type 0 where
  pub at : ℕ
  pub left : rest ≡ drop at text
  pub is : elements (length text) text ≡ joined out (elements (length text) rest)
  pub enough : length rest ≤ n
  pub shorter : length rest ≤ length text

joined_none : (r : Result (List ℕ) (List ℕ)) → r ≡ joined [] r
joined_none (Ok x) = refl
joined_none (Err x) = refl

pub started : (text : List ℕ) → Reading text [] text (length text)
started text = record { at = 0; left = refl; is = joined_none (elements (length text) text); enough = omega arith; shorter = omega arith }

joined_twice : (a b : List ℕ) (r : Result (List ℕ) (List ℕ)) → joined a (joined b r) ≡ joined (a ++ b) r
joined_twice a b (Ok x) = ap Ok (sym (append_assoc a b x))
joined_twice a b (Err x) = refl

one_element : (m c : ℕ) (cs bytes rest : List ℕ) → stringelem (c ∷ cs) ≡ Some (bytes, rest) → elements (suc m) (c ∷ cs) ≡ joined bytes (elements m rest)
unfolding elements
one_element m c cs bytes rest is = ap (λ o. elim o as (λ x. Result (List ℕ) (List ℕ)) [ Some e ↦ joined e.0 (elements m e.1) | None ↦ Err (c ∷ cs) ]) is

no_element : (m c : ℕ) (cs : List ℕ) → stringelem (c ∷ cs) ≡ None → elements m (c ∷ cs) ≡ Err (c ∷ cs)
unfolding elements
no_element zero c cs is = refl
no_element (suc m) c cs is = ap (λ o. elim o as (λ x. Result (List ℕ) (List ℕ)) [ Some e ↦ joined e.0 (elements m e.1) | None ↦ Err (c ∷ cs) ]) is

nothing_left : (n : ℕ) → elements n [] ≡ Ok []
unfolding elements
nothing_left zero = refl
nothing_left (suc n) = refl

-- the number of elements at most does not matter, if it is that of the characters or more
no_matter : (m n : ℕ) (xs : List ℕ) → length xs ≤ m → length xs ≤ n → elements m xs ≡ elements n xs
no_matter m n [] h k = nothing_left m ∙ sym (nothing_left n)
no_matter zero n (c ∷ cs) h k = absurd (omega (arith, h))
no_matter (suc m) zero (c ∷ cs) h k = absurd (omega (arith, k))
no_matter (suc m) (suc n) (c ∷ cs) h k = go (stringelem (c ∷ cs)) refl (λ rest short. no_matter m n rest (omega (arith, short, h)) (omega (arith, short, k)))
  where
    go : (o : Option (List ℕ × List ℕ)) → stringelem (c ∷ cs) ≡ o → ((rest : List ℕ) → length rest ≤ length cs → elements m rest ≡ elements n rest)
        → elements (suc m) (c ∷ cs) ≡ elements (suc n) (c ∷ cs)
    go None e inner = no_element (suc m) c cs e ∙ sym (no_element (suc n) c cs e)
    go (Some y) e inner =
        let s = element_suffix (c ∷ cs) y e in
        let long : length (drop (suc s.n) (c ∷ cs)) ≡ length (c ∷ cs) - suc s.n = length-drop (suc s.n) (c ∷ cs) in
        let short : length y.1 ≡ length (drop (suc s.n) (c ∷ cs)) = ap length s.is in
        one_element m c cs y.0 y.1 e ∙ ap (joined y.0) (inner y.1 (omega (arith, long, short))) ∙ sym (one_element n c cs y.0 y.1 e)

record Taken (old now rest text : List ℕ) : Type 0 where
  bytes : List ℕ
  reads : stringelem text ≡ Some (bytes, rest)
  out : now ≡ old ++ bytes

taken : (old now rest text : List ℕ) (o : Option (List ℕ × List ℕ)) → stringelem text ≡ o → added old o ≡ Some (now, rest) → Taken old now rest text
taken old now rest text None e h = absurd cc
taken old now rest text (Some x) e h =
    let same : (let p : List ℕ × List ℕ = (old ++ x.0, x.1) in p) ≡ (now, rest) = cc in
    record { bytes = x.0; reads = e ∙ ap (λ r. Some (x.0, r)) (ap (λ p. p.1) same); out = sym (ap (λ p. p.0) same) }

one_taken : (n c : ℕ) (cs bytes rest old new : List ℕ) → suc (length cs) ≤ n → length rest ≤ length cs → stringelem (c ∷ cs) ≡ Some (bytes, rest)
    → new ≡ old ++ bytes
    → joined old (elements n (c ∷ cs)) ≡ joined new (elements n rest)
one_taken zero c cs bytes rest old new enough short reads out = absurd (omega (arith, enough))
one_taken (suc m) c cs bytes rest old new enough short reads out =
    ap (joined old) (one_element m c cs bytes rest reads
    ∙ ap (joined bytes) (no_matter m (suc m) rest (omega (arith, short, enough)) (omega (arith, short, enough))))
    ∙ joined_twice old bytes (elements (suc m) rest) ∙ ap (λ x. joined x (elements (suc m) rest)) (sym out)

-- A digit begins no other escape.
not_a_digit : (c k n : ℕ) → hexdigit k ≡ None → hexdigit c ≡ Some n → (c == k) ≡ false
not_a_digit c k n none some = go (c == k) refl
  where
    go : (b : Bool) → (c == k) ≡ b → (c == k) ≡ false
    go true e = absurd (let same : hexdigit c ≡ hexdigit k = ap hexdigit (eqb-true c k e) in cc)
    go false e = e

unnamed : (c : ℕ) (a b d e f g : Bool) → a ≡ false → b ≡ false → d ≡ false → e ≡ false → f ≡ false → g ≡ false
    → (if a then Some 0x09 else (if b then Some 0x0a else (if d then Some 0x0d else (if e || (f || g) then Some c else None)))) ≡ None
unnamed c false false false false false false a b d e f g = refl
unnamed c true _ _ _ _ _ a b d e f g = absurd cc
unnamed c _ true _ _ _ _ a b d e f g = absurd cc
unnamed c _ _ true _ _ _ a b d e f g = absurd cc
unnamed c _ _ _ true _ _ a b d e f g = absurd cc
unnamed c _ _ _ _ true _ a b d e f g = absurd cc
unnamed c _ _ _ _ _ true a b d e f g = absurd cc

-- an escape of two hexadecimal digits
pub hex_element : (h l n m : ℕ) (rest : List ℕ) → hexdigit h ≡ Some n → hexdigit l ≡ Some m
    → stringelem (0x5c ∷ h ∷ l ∷ rest) ≡ Some ((16 * n + m) ∷ [], rest)
hex_element h l n m rest high low =
    ap (λ o. elim o as (λ x. Option (List ℕ × List ℕ)) [
      | Some b ↦ (let p : List ℕ × List ℕ = (b ∷ [], l ∷ rest) in Some p)
      | None ↦ elim (after (codes "u{") (h ∷ l ∷ rest)) as (λ x. Option (List ℕ × List ℕ))
          [ Some digits ↦ unicode digits | None ↦ byte (h ∷ l ∷ rest) ]
    ]) (unnamed h (h == 0x74) (h == 0x6e) (h == 0x72) (h == 0x22) (h == 0x27) (h == 0x5c)
    (not_a_digit h 0x74 n refl high) (not_a_digit h 0x6e n refl high) (not_a_digit h 0x72 n refl high)
    (not_a_digit h 0x22 n refl high) (not_a_digit h 0x27 n refl high) (not_a_digit h 0x5c n refl high))
    ∙ ap (λ b. elim (elim b as (λ x. Option (List ℕ)) [
      | true ↦ elim (l == 0x7b) as (λ x. Option (List ℕ)) [ true ↦ Some rest | false ↦ None ]
      | false ↦ None
    ]) as (λ x. Option (List ℕ × List ℕ)) [ Some digits ↦ unicode digits | None ↦ byte (h ∷ l ∷ rest) ]) (not_a_digit h 0x75 n refl high)
    ∙ ap₂ (λ o p. o >>= λ n. p >>= λ m. (let p : List ℕ × List ℕ = ((16 * n + m) ∷ [], rest) in Some p)) high low

-- an element is read
pub takes_element : (text rest old new : List ℕ) → added old (stringelem text) ≡ Some (new, rest) → Takes text rest old new
takes_element [] rest old new gives = absurd cc
takes_element (c ∷ cs) rest old new gives =
    let t = taken old new rest (c ∷ cs) (stringelem (c ∷ cs)) refl gives in
    let s = element_suffix (c ∷ cs) (t.bytes, rest) t.reads in
    let long : length (drop (suc s.n) (c ∷ cs)) ≡ length (c ∷ cs) - suc s.n = length-drop (suc s.n) (c ∷ cs) in
    let short : length rest ≡ length (drop (suc s.n) (c ∷ cs)) = ap length s.is in
    record { count = s.n; left = s.is; is = λ n enough. one_taken n c cs t.bytes rest old new enough (omega (arith, long, short)) t.reads t.out }

-- elements are read
pub past : (text old now rest more : List ℕ) (m n : ℕ) → m ≡ suc n → Takes rest more old now → Reading text old rest m → Reading text now more n
past text old now rest more m n one t r =
    let long : length (drop (suc t.count) rest) ≡ length rest - suc t.count = length-drop (suc t.count) rest in
    let short : length more ≡ length (drop (suc t.count) rest) = ap length t.left in
    record {
      at = r.at + suc t.count;
      left = t.left ∙ ap (drop (suc t.count)) r.left ∙ drop-drop (suc t.count) r.at text;
      is = r.is ∙ t.is (length text) r.shorter;
      enough = omega (arith, long, short, r.enough, one);
      shorter = omega (arith, long, short, r.shorter);
    }

-- no element is there
pub stuck : (text old rest : List ℕ) (m : ℕ) → (length rest == 0) ≡ false → stringelem rest ≡ None → Reading text old rest m
    → (string text ≡ Err (length text - length rest)) × (element_fault rest ≡ element_fault (drop (length text - length rest) text))
stuck text old [] m some none r = absurd cc
stuck text old (c ∷ cs) m some none r = (
  ap (λ r. elim r as (λ x. Result (List ℕ) ℕ) [ Ok bytes ↦ Ok bytes | Err rest ↦ Err (length text - length rest) ])
      (r.is ∙ ap (joined old) (no_element (length text) c cs none)),
  ap element_fault (place (c ∷ cs) r.left),
)
  where
    place : (rest : List ℕ) → rest ≡ drop r.at text → rest ≡ drop (length text - length rest) text
    place rest h = h ∙ place_of r.at text ∙ ap (λ x. drop (length text - length x) text) (sym h)

-- the end of the text
pub done : (text old rest : List ℕ) (m : ℕ) → rest ≡ [] → Reading text old rest m → string text ≡ Ok old
done text old rest m none r = ap (λ r. elim r as (λ x. Result (List ℕ) ℕ) [ Ok bytes ↦ Ok bytes | Err rest ↦ Err (length text - length rest) ])
    (r.is ∙ ap (λ x. joined old (elements (length text) x)) none ∙ ap (joined old) (nothing_left (length text)) ∙ ap Ok (append-nil old))

pub empty_is : (xs : List ℕ) → (length xs == 0) ≡ true → xs ≡ []
empty_is [] h = refl
empty_is (x ∷ xs) h = absurd (let e : length (x ∷ xs) ≡ 0 = eqb-true (length (x ∷ xs)) 0 h in omega arith)

pub run_out : (text old rest : List ℕ) (m : ℕ) → m ≡ 0 → Reading text old rest m → string text ≡ Ok old
run_out text old [] m none r = done text old [] m refl r
run_out text old (c ∷ cs) m none r = absurd (let e : length (c ∷ cs) ≤ m = r.enough in omega (arith, e, none))

-- a string without escapes
last_false : (a b d : Bool) → a && (b && (d && false)) ≡ true → ⊥
last_false true true true h = absurd cc
last_false true true false h = absurd cc
last_false true false d h = absurd cc
last_false false b d h = absurd cc

raw_element : (c : ℕ) (cs : List ℕ) → is_raw c ≡ true → stringelem (c ∷ cs) ≡ Some (c ∷ [], cs)
raw_element c cs h = go (c == 0x5c) refl
  where
    go : (x : Bool) → c == 0x5c ≡ x → stringelem (c ∷ cs) ≡ Some (c ∷ [], cs)
    go true e = absurd (last_false (nat_le 0x20 c) (not (c == 0x7f)) (not (c == 0x22))
        (subst (λ x. nat_le 0x20 c && (not (c == 0x7f) && (not (c == 0x22) && not x)) ≡ true) e h))
    go false e = ap (λ b. elim b as (λ x. Option (List ℕ × List ℕ)) [ true ↦ escape cs | false ↦ if is_raw c then Some (c ∷ [], cs) else None ]) e
        ∙ ap (λ b. if b then (let p : List ℕ × List ℕ = (c ∷ [], cs) in Some p) else None) h

raw_elements : (n : ℕ) (xs : List ℕ) → length xs ≤ n → elements n xs ≡ joined (front is_raw xs) (elements n (drop (length (front is_raw xs)) xs))
raw_elements n [] h = joined_none (elements n [])
raw_elements zero (c ∷ cs) h = absurd (omega (arith, h))
raw_elements (suc m) (c ∷ cs) h = go (is_raw c) refl (raw_elements m cs (omega (arith, h)))
  where
    few : length (drop (length (front is_raw cs)) cs) ≤ m
    few = omega (arith, length-drop (length (front is_raw cs)) cs, h)

    go : (b : Bool) → is_raw c ≡ b → elements m cs ≡ joined (front is_raw cs) (elements m (drop (length (front is_raw cs)) cs))
        → elements (suc m) (c ∷ cs) ≡ joined (front is_raw (c ∷ cs)) (elements (suc m) (drop (length (front is_raw (c ∷ cs))) (c ∷ cs)))
    go true e inner =
        one_element m c cs (c ∷ []) cs (raw_element c cs e) ∙ ap (joined (c ∷ [])) inner
        ∙ joined_twice (c ∷ []) (front is_raw cs) (elements m (drop (length (front is_raw cs)) cs))
        ∙ ap (joined (c ∷ front is_raw cs)) (no_matter m (suc m) (drop (length (front is_raw cs)) cs) few (omega (arith, few)))
        ∙ ap (λ run. joined run (elements (suc m) (drop (length run) (c ∷ cs)))) (sym (begins is_raw c cs e))
    go false e inner = joined_none (elements (suc m) (c ∷ cs))
        ∙ ap (λ run. joined run (elements (suc m) (drop (length run) (c ∷ cs)))) (sym (stops is_raw c cs e))

-- characters that stand for themselves are read
takes_raw : (text rest old new : List ℕ) → begins_raw text ≡ true → new ≡ old ++ front is_raw text → rest ≡ drop (length (front is_raw text)) text
    → Takes text rest old new
takes_raw [] rest old new h put left = absurd cc
takes_raw (c ∷ cs) rest old new h put left = record {
  count = length (front is_raw cs);
  left = left ∙ ap (λ run. drop (length run) (c ∷ cs)) (begins is_raw c cs h);
  is = λ n enough. ap (joined old) (raw_elements n (c ∷ cs) enough)
      ∙ joined_twice old (front is_raw (c ∷ cs)) (elements n (drop (length (front is_raw (c ∷ cs))) (c ∷ cs)))
      ∙ ap₂ (λ x r. joined x (elements n r)) (sym put) (sym left);
}

pub takes_run : (text rest old new : List ℕ) (n : ℕ) → begins_raw text ≡ true → n ≡ length (front is_raw text) → new ≡ old ++ take n text
    → rest ≡ take (length text - n) (drop n text) → Takes text rest old new
takes_run text rest old new n h long put left = takes_raw text rest old new h
    (put ∙ ap (λ k. old ++ take k text) long ∙ ap (λ x. old ++ x) (front_is is_raw text)) (left ∙ tail_is n text ∙ ap (λ k. drop k text) long)

all_elements : (xs : List ℕ) → length (front is_raw xs) ≡ length xs → elements (length xs) xs ≡ Ok xs
all_elements [] h = nothing_left 0
all_elements (c ∷ cs) h = go (is_raw c) refl (all_elements cs)
  where
    go : (b : Bool) → is_raw c ≡ b → (length (front is_raw cs) ≡ length cs → elements (length cs) cs ≡ Ok cs)
        → elements (suc (length cs)) (c ∷ cs) ≡ Ok (c ∷ cs)
    go true e inner = one_element (length cs) c cs (c ∷ []) cs (raw_element c cs e)
        ∙ ap (joined (c ∷ [])) (inner (let same : suc (length (front is_raw cs)) ≡ suc (length cs) = sym (ap length (begins is_raw c cs e))
        ∙ h in omega (arith, same)))
    go false e inner = absurd (let none : 0 ≡ suc (length cs) = sym (ap length (stops is_raw c cs e)) ∙ h in omega (arith, none))

pub all_raw : (xs : List ℕ) → length (front is_raw xs) ≡ length xs → string xs ≡ Ok xs
all_raw xs h = ap (λ r. elim r as (λ x. Result (List ℕ) ℕ) [ Ok bytes ↦ Ok bytes | Err rest ↦ Err (length xs - length rest) ]) (all_elements xs h)

-- an element that is read ends after it begins
pub no_longer : (text rest clean out : List ℕ) → added clean (stringelem text) ≡ Some (out, rest) → length rest ≤ length text
no_longer text rest clean out gives =
    let t = taken clean out rest text (stringelem text) refl gives in
    let s = element_suffix text (t.bytes, rest) t.reads in
    let long : length (drop (suc s.n) text) ≡ length text - suc s.n = length-drop (suc s.n) text in
    let short : length rest ≡ length (drop (suc s.n) text) = ap length s.is in
    omega (arith, long, short)

-- its place is appended for each of its bytes
pub spells : (text rest clean out old new : List ℕ) (at n : ℕ) → clean ≡ [] → added clean (stringelem text) ≡ Some (out, rest) → n ≡ length out
    → new ≡ old ++ replicate n at → Spells text rest at old new
spells text rest clean out old new at n none gives long put =
    let t = taken clean out rest text (stringelem text) refl gives in
    record {
      bytes = t.bytes;
      reads = t.reads;
      places = put ∙ ap (λ k. old ++ replicate k at) (long ∙ ap length (t.out ∙ ap (λ xs. xs ++ t.bytes) none));
    }

-- the places of all elements, by those of the elements so far: one more element, none that is next, and none that is left
pub spelled_more : (all old new rest more : List ℕ) (m n at next : ℕ) → m ≡ suc n → next ≡ at + (length rest - length more) → Spells rest more at old new
    → all ≡ old ++ spelled m at rest → all ≡ new ++ spelled n next more
unfolding spelled
spelled_more all old new rest more m n at next one moved s before =
    before ∙ ap (λ k. old ++ spelled k at rest) one
    ∙ ap (λ o. old ++ (elim o as (λ x. List ℕ) [ Some e ↦ replicate (length e.0) at ++ spelled n (at + (length rest - length e.1)) e.1 | None ↦ [] ])) s.reads
    ∙ sym (append_assoc old (replicate (length s.bytes) at) (spelled n (at + (length rest - length more)) more))
    ∙ ap (λ xs. xs ++ spelled n (at + (length rest - length more)) more) (sym s.places)
    ∙ ap (λ k. new ++ spelled n k more) (sym moved)

pub spelled_none : (all old rest : List ℕ) (m n at : ℕ) → m ≡ suc n → stringelem rest ≡ None → all ≡ old ++ spelled m at rest → old ≡ all
unfolding spelled
spelled_none all old rest m n at one none before =
    sym (before ∙ ap (λ k. old ++ spelled k at rest) one
    ∙ ap (λ o. old ++ (elim o as (λ x. List ℕ) [ Some e ↦ replicate (length e.0) at ++ spelled n (at + (length rest - length e.1)) e.1 | None ↦ [] ])) none
    ∙ append-nil old)

pub spelled_all : (all old rest : List ℕ) (m at : ℕ) → m ≡ 0 → all ≡ old ++ spelled m at rest → old ≡ all
unfolding spelled
spelled_all all old rest m at none before = sym (before ∙ ap (λ k. old ++ spelled k at rest) none ∙ append-nil old)
