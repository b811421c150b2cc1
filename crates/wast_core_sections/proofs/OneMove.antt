-- Bytes that move once, and a number that is written over others, digit by digit.
use Rattle.std.proofs.Common.{◌≡◌, ◌≤◌, ◌<◌, ◌+◌, ◌-◌, ◌/◌, ◌%◌, ℕ, List, [], ◌∷◌, ◌++◌, take, drop, set, length, sym, ap, ◌∙◌}
use Rattle.std.proofs.Common.{append_assoc, add-one, arith, length-append}
use Rattle.std.specs.List.{copy_within}
use Rattle.std.proofs.Math.Seq.{paste, take-append_seam, drop-append_seam}
use Rattle.std.proofs.lemmas.List.{drop-append-le, drop-set-lt, length-drop, length-take-le, set_split, take-append-le, take-take, take_all, take_more_set}
use Rattle.std.proofs.lemmas.List.Edits.{take-paste, length-paste}
use Rattle.wasm_ops.specs.Leb128.{unsigned}
use Rattle.wasm_ops.specs.SinkLaws.{with_number}
use Rattle.wasm_ops.proofs.Numbers.{unsigned-small, unsigned-large}

-- The list with the encoding of a number over the bytes from a position on.
abbrev pub overwritten : List ℕ → ℕ → ℕ → List ℕ
overwritten xs at n = take at xs ++ (unsigned n ++ drop (at + length (unsigned n)) xs)

pub digit_over : (xs : List ℕ) (at n : ℕ) → at < length xs → 128 ≤ n → overwritten (set xs at (128 + n % 128)) (at + 1) (n / 128) ≡ overwritten xs at n
digit_over xs at n lt large =
    let d = 128 + n % 128 in
    let u = unsigned (n / 128) in
    let e = ap length (unsigned-large n large) in
    let long : at + 1 + length u ≡ at + length (unsigned n) = omega (arith, e) in
    ap (λ l. l ++ (u ++ drop (at + 1 + length u) (set xs at d))) (take_more_set xs at d lt)
    ∙ ap (λ l. (take at xs ++ d ∷ []) ++ (u ++ l)) (drop-set-lt (at + 1 + length u) xs at d (omega arith))
    ∙ append_assoc (take at xs) (d ∷ []) (u ++ drop (at + 1 + length u) xs)
    ∙ ap (λ k. take at xs ++ (d ∷ (u ++ drop k xs))) long
    ∙ ap (λ l. take at xs ++ (l ++ drop (at + length (unsigned n)) xs)) (sym (unsigned-large n large))

pub last_over : (xs : List ℕ) (at n : ℕ) → at < length xs → n < 128 → set xs at n ≡ overwritten xs at n
last_over xs at n lt small =
    set_split xs at n lt ∙ ap (λ k. take at xs ++ n ∷ drop k xs) (sym (add-one at))
    ∙ ap (λ l. take at xs ++ (l ++ drop (at + length l) xs)) (sym (unsigned-small n small))

-- The bytes before a position stay, if bytes after it move further.
front_stays : (xs zeros : List ℕ) (at more : ℕ) → at < length xs → length zeros ≡ more
    → take at (copy_within (xs ++ zeros) (at + 1) (length xs) (at + 1 + more)) ≡ take at xs
front_stays xs zeros at more lt long =
    let d = xs ++ zeros in
    let to = at + 1 + more in
    let s = drop (at + 1) d in
    let n = length xs - (at + 1) in
    let total = length-append xs zeros in
    let has : n ≤ length s = omega (arith, length-drop (at + 1) d, total) in
    let fits : to ≤ length d = omega (arith, total) in
    sym (take-take at (to + n) (paste d to s n) (omega arith))
    ∙ ap (take at) (take-paste d to s n fits has)
    ∙ take-append-le at (take to d) (take n s) (omega (arith, length-take-le to d fits))
    ∙ take-take at to d (omega arith)
    ∙ take-append-le at xs zeros (omega arith)

-- The bytes after it are found where they moved.
rest_moves : (xs zeros : List ℕ) (at more : ℕ) → at < length xs → length zeros ≡ more
    → drop (at + 1 + more) (copy_within (xs ++ zeros) (at + 1) (length xs) (at + 1 + more)) ≡ drop (at + 1) xs
rest_moves xs zeros at more lt long =
    let d = xs ++ zeros in
    let to = at + 1 + more in
    let s = drop (at + 1) d in
    let n = length xs - (at + 1) in
    let rest = drop (at + 1) xs in
    let total = length-append xs zeros in
    let has : n ≤ length s = omega (arith, length-drop (at + 1) d, total) in
    let fits : to ≤ length d = omega (arith, total) in
    let all : length (paste d to s n) ≤ to + n = omega (arith, length-paste d to s n (omega (arith, total)) has, total) in
    let whole : take to d ++ take n s ≡ paste d to s n = sym (take-paste d to s n fits has) ∙ take_all (to + n) (paste d to s n) all in
    let kept : take n s ≡ rest =
    ap (take n) (drop-append-le (at + 1) xs zeros (omega arith))
    ∙ ap (λ k. take k (rest ++ zeros)) (sym (length-drop (at + 1) xs))
    ∙ take-append_seam rest zeros in
    ap (drop to) (sym whole)
    ∙ ap (λ k. drop k (take to d ++ take n s)) (sym (length-take-le to d fits))
    ∙ drop-append_seam (take to d) (take n s)
    ∙ kept

total_grows : (xs zeros : List ℕ) (at more : ℕ) → at < length xs → length zeros ≡ more
    → length (copy_within (xs ++ zeros) (at + 1) (length xs) (at + 1 + more)) ≡ length xs + more
total_grows xs zeros at more lt long =
    let d = xs ++ zeros in
    let s = drop (at + 1) d in
    let n = length xs - (at + 1) in
    let total = length-append xs zeros in
    let has : n ≤ length s = omega (arith, length-drop (at + 1) d, total) in
    omega (arith, length-paste d (at + 1 + more) s n (omega (arith, total)) has, total)

-- The vector xs has grown to ys, and then bytes of it moved.
pub moved : (xs zeros ys zs : List ℕ) (at more end : ℕ) → at < length xs → length zeros ≡ more → end ≡ length xs → ys ≡ xs ++ zeros
    → zs ≡ copy_within ys (at + 1) end (at + 1 + more)
    → (take at zs ≡ take at xs) × (drop (at + 1 + more) zs ≡ drop (at + 1) xs) × (length zs ≡ length xs + more)
moved xs zeros ys zs at more end lt long is grown now =
    let e : zs ≡ copy_within (xs ++ zeros) (at + 1) (length xs) (at + 1 + more) = now ∙ ap (λ l. copy_within l (at + 1) end (at + 1 + more)) grown
    ∙ ap (λ k. copy_within (xs ++ zeros) (at + 1) k (at + 1 + more)) is in (
      ap (take at) e ∙ front_stays xs zeros at more lt long,
      ap (drop (at + 1 + more)) e ∙ rest_moves xs zeros at more lt long,
      ap length e
          ∙ total_grows xs zeros at more lt long,
    )

-- The number is over a byte that was there and over the room after it.
pub over_room : (xs ys : List ℕ) (at n more : ℕ) → more + 1 ≡ length (unsigned n) → take at ys ≡ take at xs
    → drop (at + 1 + more) ys ≡ drop (at + 1) xs → overwritten ys at n ≡ with_number xs at n
over_room xs ys at n more wide front rest =
    let same : at + length (unsigned n) ≡ at + 1 + more = omega (arith, wide) in
    ap (λ l. l ++ (unsigned n ++ drop (at + length (unsigned n)) ys)) front
    ∙ ap (λ k. take at xs ++ (unsigned n ++ drop k ys)) same
    ∙ ap (λ l. take at xs ++ (unsigned n ++ l)) rest
