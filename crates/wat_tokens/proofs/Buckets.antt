-- Closes the look-up of a word: the bucket of a text has the word that the table has.
use Rattle.std.proofs.Common.{◌≡◌, ◌∙◌, ℕ, zero, suc, ◌+◌, ◌-◌, ◌<◌, ◌≤◌, ◌&&◌, Bool, true, false, List, [], ◌∷◌, length, map, Option, None}
use Rattle.std.proofs.Common.{Some, slice_index_or, refl, sym, ap, subst, arith}
use Rattle.std.specs.Prelude.{nat_le, nat_lt, cond, bytes_eq}
use Rattle.std.proofs.lemmas.Bool.{leb-true, lt-leb, ltb-true, ltb-false}
use Rattle.std.proofs.lemmas.Slice.Eq.{bytes_eq-Decides}
use Rattle.wat_grammar.specs.Parts.{front}
use Rattle.wat_grammar.specs.Tokens.{is_idchar}
use Rattle.wat_tokens.proofs.Fronts.{begins}
use Rattle.wat_tokens.specs.Scans.{first_of}
use Rattle.wat_tokens.specs.declared.words.Word.{Word}
use Rattle.wat_tokens.specs.declared.words.TheConstants.{FIRSTS, LETTERS, STARTS}
use Rattle.wat_tokens.specs.Buckets.{start_of, text_of, word_at, rows, first_word_of, words_of, hash_of}
use Rattle.wat_tokens.specs.Words.{words, found_in, word_named}

-- ---- numbers that rise

-- each number is between the one before and a last one
abbrev pub rises : ℕ → ℕ → List ℕ → Bool
rises before last [] = true
rises before last (x ∷ xs) = nat_le before x && (nat_le x last && rises x last xs)

both : (a b : Bool) → a && b ≡ true → (a ≡ true) × (b ≡ true)
both true true h = (refl, refl)
both true false h = absurd cc
both false b h = absurd cc

pub most : (before last i : ℕ) (xs : List ℕ) → rises before last xs ≡ true → i < length xs → slice_index_or xs i 0 ≤ last
most before last i [] h below = absurd (omega arith)
most before last zero (x ∷ xs) h below = let p = both (nat_le before x) (nat_le x last && rises x last xs) h
    in let q = both (nat_le x last) (rises x last xs) p.1 in leb-true x last q.0
most before last (suc i) (x ∷ xs) h below = let p = both (nat_le before x) (nat_le x last && rises x last xs) h
    in let q = both (nat_le x last) (rises x last xs) p.1 in most x last i xs q.1 (omega arith)

pub next : (before last i : ℕ) (xs : List ℕ) → rises before last xs ≡ true → suc i < length xs → slice_index_or xs i 0 ≤ slice_index_or xs (suc i) 0
next before last i [] h below = absurd (omega arith)
next before last i (x ∷ []) h below = absurd (omega arith)
next before last zero (x ∷ y ∷ ys) h below =
    let p = both (nat_le before x) (nat_le x last && rises x last (y ∷ ys)) h in
    let q = both (nat_le x last) (rises x last (y ∷ ys)) p.1 in
    let r = both (nat_le x y) (nat_le y last && rises y last ys) q.1 in
    leb-true x y r.0
next before last (suc i) (x ∷ y ∷ ys) h below =
    let p = both (nat_le before x) (nat_le x last && rises x last (y ∷ ys)) h in
    let q = both (nat_le x last) (rises x last (y ∷ ys)) p.1 in
    next x last i (y ∷ ys) q.1 (omega arith)

pub starts_rise : (n : ℕ) → n < 724 → start_of n ≤ start_of (n + 1)
unfolding start_of
starts_rise n below = subst (λ m. slice_index_or STARTS n 0 ≤ slice_index_or STARTS m 0) {x = suc n} {y = n + 1} (omega arith)
    (next 0 9085 n STARTS refl (omega (arith, below)))

pub starts_end : (n : ℕ) → n < 725 → start_of n ≤ length LETTERS.now
unfolding start_of
starts_end n below = most 0 9085 n STARTS refl below

pub firsts_rise : (n : ℕ) → n < 1024 → first_word_of n ≤ first_word_of (n + 1)
unfolding first_word_of
firsts_rise n below = subst (λ m. slice_index_or FIRSTS n 0 ≤ slice_index_or FIRSTS m 0) {x = suc n} {y = n + 1} (omega arith)
    (next 0 724 n FIRSTS refl (omega (arith, below)))

pub firsts_end : (n : ℕ) → n < 1025 → first_word_of n ≤ 724
unfolding first_word_of
firsts_end n below = most 0 724 n FIRSTS refl below

-- ---- rows that are found

-- a look-up says of each text what its row says
abbrev pub Agrees : (List ℕ → Option Word) → List (List ℕ × Word) → Type 0
Agrees f found = map (λ row. f row.0) found ≡ map (λ row. Some row.1) found

abbrev head_or : List (Option Word) → Option Word → Option Word
head_or [] d = d
head_or (x ∷ xs) d = x

abbrev tail_of : List (Option Word) → List (Option Word)
tail_of [] = []
tail_of (x ∷ xs) = xs

-- what is found among the rows is what the look-up says
pub agreed : (f : List ℕ → Option Word) (name : List ℕ) (w : Word) (found : List (List ℕ × Word)) → Agrees f found → found_in name found ≡ Some w
    → f name ≡ Some w
agreed f name w [] h is = absurd cc
agreed f name w (row ∷ more) h is = go (bytes_eq row.0 name) refl is (agreed f name w more (ap tail_of h))
  where
    go : (b : Bool) → bytes_eq row.0 name ≡ b → cond b (Some row.1) (found_in name more) ≡ Some w → (found_in name more ≡ Some w → f name ≡ Some w)
        → f name ≡ Some w
    go true same is later = ap f (sym ((bytes_eq-Decides row.0 name).0 same)) ∙ ap (λ xs. head_or xs None) h ∙ is
    go false same is later = later is

-- ---- the loop over the words of a bucket

split : (n end : ℕ) → n < end → end - n ≡ suc (end - (n + 1))
split n end below = omega (arith, below)

pub found_here : (name : List ℕ) (n end : ℕ) → n < end → bytes_eq (text_of n) name ≡ true → found_in name (rows n (end - n)) ≡ Some (word_at n)
unfolding rows
found_here name n end below is = ap (λ count. found_in name (rows n count)) (split n end below)
    ∙ ap (λ b. cond b (Some (word_at n)) (found_in name (rows (suc n) (end - (n + 1))))) is

pub found_on : (name : List ℕ) (n end : ℕ) → n < end → bytes_eq (text_of n) name ≡ false
    → found_in name (rows n (end - n)) ≡ found_in name (rows (n + 1) (end - (n + 1)))
unfolding rows
found_on name n end below is =
    ap (λ count. found_in name (rows n count)) (split n end below) ∙ ap (λ b. cond b (Some (word_at n)) (found_in name (rows (suc n) (end - (n + 1))))) is
    ∙ ap (λ m. found_in name (rows m (end - (n + 1)))) {x = suc n} {y = n + 1} (omega arith)

pub found_none : (name : List ℕ) (n end : ℕ) → end ≤ n → found_in name (rows n (end - n)) ≡ None
unfolding rows
found_none name n end past = ap (λ count. found_in name (rows n count)) {x = end - n} {y = 0} (omega (arith, past))

-- ---- all rows, by computing

-- each row of the buckets is in the table: a quarter of them at a time, because antt limits the steps of a lemma
first_in_table : Agrees word_named (rows 0 181)
unfolding rows text_of start_of word_at words
first_in_table = refl

second_in_table : Agrees word_named (rows 181 181)
unfolding rows text_of start_of word_at words
second_in_table = refl

third_in_table : Agrees word_named (rows 362 181)
unfolding rows text_of start_of word_at words
third_in_table = refl

last_in_table : Agrees word_named (rows 543 181)
unfolding rows text_of start_of word_at words
last_in_table = refl

-- each row of the table is in the bucket of its text
each_in_bucket : Agrees (λ name. found_in name (words_of (hash_of name))) words
unfolding rows text_of start_of word_at words words_of first_word_of hash_of
each_in_bucket = refl

-- ---- what a bucket has

-- what a look-up says of each of so many rows
each_of : (f : List ℕ → Option Word) (n count i : ℕ) → Agrees f (rows n count) → i < count → f (text_of (n + i)) ≡ Some (word_at (n + i))
unfolding rows
each_of f n zero i h below = absurd (omega arith)
each_of f n (suc count) zero h below = subst (λ m. f (text_of m) ≡ Some (word_at m)) {x = n} {y = n + 0} (omega arith) (ap (λ xs. head_or xs None) h)
each_of f n (suc count) (suc i) h below = subst (λ m. f (text_of m) ≡ Some (word_at m)) {x = suc n + i} {y = n + suc i} (omega arith)
    (each_of f (suc n) count i (ap tail_of h) (omega arith))

-- and of fewer
of_part : (f : List ℕ → Option Word) (n count end : ℕ) → n + count ≤ end → ((i : ℕ) → i < end → f (text_of i) ≡ Some (word_at i)) → Agrees f (rows n count)
unfolding rows
of_part f n zero end inside each = refl
of_part f n (suc count) end inside each = λ k. each n (omega (arith, inside)) k ∷ of_part f (suc n) count end (omega (arith, inside)) each k

-- the same by the number of the row
at_number : (n i : ℕ) → Agrees word_named (rows n 181) → n ≤ i → i < n + 181 → word_named (text_of i) ≡ Some (word_at i)
at_number n i h from below =
    subst (λ m. word_named (text_of m) ≡ Some (word_at m)) {x = n + (i - n)} {y = i} (omega (arith, from))
    (each_of word_named n 181 (i - n) h (omega (arith, from, below)))

in_table : (i : ℕ) → i < 724 → word_named (text_of i) ≡ Some (word_at i)
in_table i below = by_quarters (nat_lt i 181) (nat_lt i 362) (nat_lt i 543) refl refl refl
  where
    by_quarters : (a b c : Bool) → nat_lt i 181 ≡ a → nat_lt i 362 ≡ b → nat_lt i 543 ≡ c → word_named (text_of i) ≡ Some (word_at i)
    by_quarters true b c p q r = at_number 0 i first_in_table (omega arith) (ltb-true i 181 p)
    by_quarters false true c p q r = at_number 181 i second_in_table (ltb-false i 181 p) (ltb-true i 362 q)
    by_quarters false false true p q r = at_number 362 i third_in_table (ltb-false i 362 q) (ltb-true i 543 r)
    by_quarters false false false p q r = at_number 543 i last_in_table (ltb-false i 543 r) below

part_in_table : (p : ℕ) → p < 1024 → Agrees word_named (words_of p)
unfolding words_of
part_in_table p small = of_part word_named (first_word_of p) (first_word_of (p + 1) - first_word_of p) 724
    (omega (arith, firsts_rise p small, firsts_end (p + 1) (omega (arith, small)))) in_table

true_false : true ≡ false → ⊥
true_false e = absurd cc

some_is : {A : Type 0} {x y : A} → Some x ≡ Some y → x ≡ y
some_is e = cc

none_some : {A : Type 0} {x : A} → None ≡ Some x → ⊥
none_some e = absurd cc

-- the bucket of a name has the word of the name that the table has
pub in_bucket : (name : List ℕ) → hash_of name < 1024 → found_in name (words_of (hash_of name)) ≡ word_named name
in_bucket name small = go (word_named name) (found_in name (words_of (hash_of name))) refl refl
  where
    go : (a b : Option Word) → word_named name ≡ a → found_in name (words_of (hash_of name)) ≡ b → found_in name (words_of (hash_of name)) ≡ word_named name
    go (Some w) b e d = agreed (λ name. found_in name (words_of (hash_of name))) name w words each_in_bucket e ∙ sym e
    go None None e d = d ∙ sym e
    go None (Some v) e d = absurd (none_some (sym e ∙ agreed word_named name v (words_of (hash_of name)) (part_in_table (hash_of name) small) d))

-- the same by the numbers that the code has
pub found_at : (name : List ℕ) (p first end : ℕ) → p < 1024 → p ≡ hash_of name → first ≡ first_word_of p → end ≡ first_word_of (p + 1)
    → found_in name (rows first (end - first)) ≡ word_named name
unfolding words_of
found_at name p first end small bucket begins ends =
    ap (λ n. found_in name (rows n (end - n))) begins ∙ ap (λ n. found_in name (rows (first_word_of p) (n - first_word_of p))) ends
    ∙ ap (λ p. found_in name (words_of p)) bucket ∙ in_bucket name (subst (λ p. p < 1024) bucket small)

-- ---- texts that begin with no letter

-- the first byte is no lower than c
abbrev begins_from : ℕ → List ℕ → Bool
begins_from c [] = false
begins_from c (d ∷ ds) = nat_le c d

-- each of these texts begins with a byte from c on
abbrev pub all_from : ℕ → List (List ℕ × Word) → Bool
all_from c [] = true
all_from c (row ∷ more) = begins_from c row.0 && all_from c more

-- the table has none that begins with a lower byte
none_below : (c : ℕ) (name : List ℕ) (found : List (List ℕ × Word)) → begins_from c name ≡ false → all_from c found ≡ true → found_in name found ≡ None
none_below c name [] low all = refl
none_below c name (row ∷ more) low all =
    let p = both (begins_from c row.0) (all_from c more) all in
    go (bytes_eq row.0 name) refl p.0 (none_below c name more low p.1)
  where
    go : (b : Bool) → bytes_eq row.0 name ≡ b → begins_from c row.0 ≡ true → found_in name more ≡ None → cond b (Some row.1) (found_in name more) ≡ None
    go true same high none = absurd (true_false (sym high ∙ ap (begins_from c) ((bytes_eq-Decides row.0 name).0 same) ∙ low))
    go false same high none = none

letters_first : all_from 0x61 words ≡ true
unfolding words
letters_first = refl

pub low_is_none : (name : List ℕ) (c : ℕ) → first_of name ≡ Some c → c < 0x61 → word_named name ≡ None
low_is_none [] c is low = absurd (none_some is)
low_is_none (d ∷ ds) c is low = none_below 0x61 (d ∷ ds) words (lt-leb 0x61 d (subst (λ x. x < 0x61) (sym (some_is is)) low)) letters_first

-- a word of a text that begins with no letter
pub low_word : (text name : List ℕ) (c : ℕ) → name ≡ front is_idchar text → first_of text ≡ Some c → is_idchar c ≡ true → c < 0x61 → word_named name ≡ None
low_word [] name c is first good low = absurd (none_some first)
low_word (d ∷ ds) name c is first good low =
    low_is_none name c (ap first_of (is ∙ begins is_idchar d ds (ap is_idchar (some_is first) ∙ good)) ∙ first) low
