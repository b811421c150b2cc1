-- Parts of lists: the last elements of a list, parts of a list that grows, and the tokens between two places.
use Rattle.std.proofs.Common.{◌≡◌, ◌∙◌, ℕ, ◌+◌, ◌-◌, ◌<◌, ◌≤◌, min, Bool, true, false, ◌&&◌, List, [], ◌++◌}
use Rattle.std.proofs.Common.{length, map, take, drop, refl, sym, ap, arith, length-append, length-drop}
use Rattle.std.specs.Prelude.{nat_le, if◌then◌else◌, slice_range}
use Rattle.std.proofs.lemmas.Bool.{leb-true, leb-false, le-leb, lt-leb}
use Rattle.std.proofs.lemmas.List.{length-map, take_all, take-append-le, take-map, drop_at, drop-append-le, drop_min, drop-map}
use Rattle.std.specs.Global.{Vec}
use Rattle.wat_tokens.specs.declared.tokens.Placed.{Placed}
use Rattle.wat_syntax.specs.Bare.{bare_placed}
use Rattle.wat_syntax.specs.Tokens.{count}
use Rattle.wast_script.specs.declared.values.Part.{Part}
use Rattle.wast_script.specs.Grammar.{between}
use Rattle.wast_script.specs.Scripts.{part}
use Rattle.wast_script.specs.declared.reader.Reader.{Reader}
use Rattle.wast_script.specs.Readers.{left, all_bare, IsFirst}

is_part : {T : Type 0} (p : Part) (xs : List T) (a b : Bool) → nat_le p.start p.end ≡ a → nat_le p.end (length xs) ≡ b
    → part p xs ≡ (if a && b then slice_range xs p.start p.end else [])
is_part p xs a b e f = ap (λ c. if c && nat_le p.end (length xs) then slice_range xs p.start p.end else []) e
    ∙ ap (λ c. if a && c then slice_range xs p.start p.end else []) f

-- a part that the list has
pub part_is : {T : Type 0} (p : Part) (xs : List T) → p.start ≤ p.end → p.end ≤ length xs → part p xs ≡ slice_range xs p.start p.end
part_is p xs few all = is_part p xs true true (le-leb p.start p.end few) (le-leb p.end (length xs) all)

-- parts that it has not: the end is before the start, or after the last element
pub part_before : {T : Type 0} (p : Part) (xs : List T) → p.end < p.start → part p xs ≡ []
part_before p xs few = is_part p xs false (nat_le p.end (length xs)) (lt-leb p.start p.end few) refl

pub part_beyond : {T : Type 0} (p : Part) (xs : List T) → length xs < p.end → part p xs ≡ []
part_beyond p xs few = is_part p xs (nat_le p.start p.end) false refl (lt-leb p.end (length xs) few) ∙ go (nat_le p.start p.end)
  where
    go : (a : Bool) → (if a && false then slice_range xs p.start p.end else []) ≡ []
    go true = refl
    go false = refl

-- the part of no elements
pub part_empty : {T : Type 0} (xs : List T) → part (record { start = 0; end = 0 }) xs ≡ []
part_empty xs = is_part (record { start = 0; end = 0 }) xs true true refl (le-leb 0 (length xs) (omega arith))

-- the elements that a list has more than another
pub part_last : {T : Type 0} (xs ys : List T) (s e : ℕ) → s ≡ length xs → e ≡ length (xs ++ ys) → part (record { start = s; end = e }) (xs ++ ys) ≡ ys
part_last xs ys s e first all =
    let both : length (xs ++ ys) ≡ length xs + length ys = length-append xs ys in
    part_is (record { start = s; end = e }) (xs ++ ys) (omega (arith, first, all, both)) (omega (arith, all))
    ∙ ap (λ n. take (e - n) (drop n (xs ++ ys))) first
    ∙ ap (take (e - length xs)) (drop_at xs ys (length xs) refl)
    ∙ take_all (e - length xs) ys (omega (arith, all, both))

-- a part of a list that grows
pub part_stays : {T : Type 0} (p : Part) (xs ys : List T) → p.end ≤ length xs → part p (xs ++ ys) ≡ part p xs
part_stays p xs ys h = go (nat_le p.start p.end) refl
  where
    both : length (xs ++ ys) ≡ length xs + length ys
    both = length-append xs ys

    go : (b : Bool) → nat_le p.start p.end ≡ b → part p (xs ++ ys) ≡ part p xs
    go false e = is_part p (xs ++ ys) false true e (le-leb p.end (length (xs ++ ys)) (omega (arith, h, both)))
        ∙ sym (is_part p xs false true e (le-leb p.end (length xs) h))
    go true e =
        let few : p.start ≤ p.end = leb-true p.start p.end e in
        let within : p.start ≤ length xs = omega (arith, few, h) in
        part_is p (xs ++ ys) few (omega (arith, h, both))
        ∙ ap (take (p.end - p.start)) (drop-append-le p.start xs ys within)
        ∙ take-append-le (p.end - p.start) (drop p.start xs) ys (omega (arith, few, h, length-drop p.start xs))
        ∙ sym (part_is p xs few h)

pub part_on : {T : Type 0} (p : Part) (xs zs : List T) (n : ℕ) → p.end ≤ n → n ≡ length xs → IsFirst xs zs → part p zs ≡ part p xs
part_on p xs zs n h e f = ap (part p) f.is ∙ part_stays p xs f.more (omega (arith, h, e))

pub longer : {T : Type 0} (xs zs : List T) → IsFirst xs zs → length xs ≤ length zs
longer xs zs f = let one : length zs ≡ length (xs ++ f.more) = ap length f.is in
    let two : length (xs ++ f.more) ≡ length xs + length f.more = length-append xs f.more in omega (arith, one, two)

pub bare_same : (a b : Reader) → b.tokens ≡ a.tokens → all_bare b ≡ all_bare a
bare_same a b e = ap (λ (t : Vec Placed). map bare_placed t.items) e

-- The part of all tokens from those that are left at one place up to those that are left at another.
part_between : (a b : ℕ) (xs : List Placed) (s e : ℕ) → s ≡ length xs - length (drop a xs) → e ≡ length xs - length (drop b xs)
    → part (record { start = s; end = e }) xs ≡ take (length (drop a xs) - length (drop b xs)) (drop a xs)
part_between a b xs s e first all = go (nat_le s e) refl
  where
    ca : length (drop a xs) ≡ length xs - a
    ca = length-drop a xs

    cb : length (drop b xs) ≡ length xs - b
    cb = length-drop b xs

    go : (c : Bool) → nat_le s e ≡ c → part (record { start = s; end = e }) xs ≡ take (length (drop a xs) - length (drop b xs)) (drop a xs)
    go false f =
        let more : e < s = leb-false s e f in
        let none : length (drop a xs) - length (drop b xs) ≡ 0 = omega (arith, more, first, all, ca, cb) in
        is_part (record { start = s; end = e }) xs false (nat_le e (length xs)) f refl ∙ sym (ap (λ m. take m (drop a xs)) none)
    go true f =
        let few : s ≤ e = leb-true s e f in
        let least : length xs - (length xs - a) ≡ min a (length xs) = omega arith in
        let size : e - (length xs - (length xs - a)) ≡ length (drop a xs) - length (drop b xs) = omega (arith, few, first, all, ca, cb) in
        part_is (record { start = s; end = e }) xs few (omega (arith, all))
        ∙ ap (λ m. take (e - m) (drop m xs)) (first ∙ ap (λ k. length xs - k) ca)
        ∙ ap (take (e - (length xs - (length xs - a)))) (ap (λ m. drop m xs) least ∙ drop_min a xs)
        ∙ ap (λ m. take m (drop a xs)) size

pub between_is : (old new : Reader) (s e : ℕ) → new.tokens ≡ old.tokens
    → s ≡ length old.tokens.items - count (left old) → e ≡ length new.tokens.items - count (left new)
    → part (record { start = s; end = e }) (all_bare new) ≡ between (left old) (left new)
unfolding left count
between_is old new s e same first all =
    let same_bare : all_bare new ≡ all_bare old = bare_same old new same in
    let old_length : length (all_bare old) ≡ length old.tokens.items = length-map old.tokens.items bare_placed in
    let new_length : length (all_bare new) ≡ length new.tokens.items = length-map new.tokens.items bare_placed in
    ap (λ (xs : List Placed). part (record { start = s; end = e }) xs) same_bare
    ∙ part_between old.at new.at (all_bare old) s e (first ∙ ap (λ n. n - length (drop old.at (all_bare old))) (sym old_length))
    (all ∙ ap (λ n. n - length (drop new.at (all_bare new))) (sym new_length) ∙ ap (λ (xs : List Placed). length xs - length (drop new.at xs)) same_bare)
    ∙ ap (λ (xs : List Placed). take (length (drop old.at (all_bare old)) - length (drop new.at xs)) (drop old.at (all_bare old))) (sym same_bare)

-- a part of a list that is mapped
pub part_mapped : {A B : Type 0} (f : A → B) (p : Part) (xs : List A) → part p (map f xs) ≡ map f (part p xs)
part_mapped {B = B} f p xs = go (nat_le p.start p.end) (nat_le p.end (length xs)) refl refl
  where
    size : length (map f xs) ≡ length xs
    size = length-map xs f

    sliced : slice_range (map f xs) p.start p.end ≡ map f (slice_range xs p.start p.end)
    sliced = ap (take (p.end - p.start)) (drop-map f p.start xs) ∙ take-map f (p.end - p.start) (drop p.start xs)

    by_tests : (a b : Bool) → (if a && b then slice_range (map f xs) p.start p.end else []) ≡ map f (if a && b then slice_range xs p.start p.end else [])
    by_tests true true = sliced
    by_tests true false = refl
    by_tests false b = refl

    go : (a b : Bool) → nat_le p.start p.end ≡ a → nat_le p.end (length xs) ≡ b → part p (map f xs) ≡ map f (part p xs)
    go a b e g = is_part p (map f xs) a b e (ap (nat_le p.end) size ∙ g) ∙ by_tests a b ∙ ap (map f) (sym (is_part p xs a b e g))
