-- A number's bytes in the place of one byte, digit by digit.
use Rattle.std.proofs.Common.{◌≡◌, ◌≤◌, ◌<◌, ◌+◌, ◌/◌, ◌%◌, ℕ, List, [], ◌∷◌, ◌++◌, take, drop, get_or, set, length, sym, ap, ◌∙◌}
use Rattle.std.proofs.Common.{append_assoc, add-one, arith, drop-cons}
use Rattle.std.specs.List.{insert}
use Rattle.std.proofs.lemmas.List.{length-take-le, set_split}
use Rattle.std.proofs.Math.Seq.{take-append-add, drop-append-add}
use Rattle.wasm_ops.specs.Leb128.{unsigned}
use Rattle.wasm_ops.specs.SinkLaws.{with_number}
use Rattle.wasm_ops.proofs.Numbers.{unsigned-small, unsigned-large}

-- a digit is inserted, and the others stand for the byte behind it
pub digit_set : (xs : List ℕ) (at n : ℕ) → at < length xs → 128 ≤ n → with_number (insert xs at (128 + n % 128)) (at + 1) (n / 128) ≡ with_number xs at n
digit_set xs at n lt large =
    let d = 128 + n % 128 in
    let front = take at xs in
    let back = drop at xs in
    let long : length front ≡ at = length-take-le at xs (omega (arith, lt)) in
    let first : take (at + 1) (front ++ d ∷ back) ≡ front ++ d ∷ [] = ap (λ k. take (k + 1) (front ++ d ∷ back)) (sym long)
    ∙ take-append-add front (d ∷ back) 1 in
    let behind : drop (at + 1 + 1) (front ++ d ∷ back) ≡ drop 1 back = ap (λ k. drop (k + 1 + 1) (front ++ d ∷ back)) (sym long)
    ∙ ap (λ k. drop k (front ++ d ∷ back)) (two (length front)) ∙ drop-append-add front (d ∷ back) 2 in
    let rest : drop 1 back ≡ drop (at + 1) xs = ap (drop 1) (drop-cons xs at (get_or xs at 0) lt) ∙ ap (λ k. drop k xs) (sym (add-one at)) in
    ap (λ l. l ++ (unsigned (n / 128) ++ drop (at + 1 + 1) (front ++ d ∷ back))) first
    ∙ ap (λ l. (front ++ d ∷ []) ++ (unsigned (n / 128) ++ l)) (behind ∙ rest)
    ∙ append_assoc front (d ∷ []) (unsigned (n / 128) ++ drop (at + 1) xs)
    ∙ ap (λ l. front ++ (l ++ drop (at + 1) xs)) (sym (unsigned-large n large))
  where
    two : (k : ℕ) → k + 1 + 1 ≡ k + 2
    two k = omega arith

-- the last digit stands for the byte
pub last_set : (xs : List ℕ) (at n : ℕ) → at < length xs → n < 128 → set xs at n ≡ with_number xs at n
last_set xs at n lt small =
    set_split xs at n lt ∙ ap (λ k. take at xs ++ n ∷ drop k xs) (sym (add-one at))
    ∙ ap (λ l. take at xs ++ (l ++ drop (at + 1) xs)) (sym (unsigned-small n small))
