-- The number of bytes and pages.
use Rattle.std.proofs.Common.{◌≡◌, ℕ, ◌+◌, ◌*◌, ◌/◌, ◌%◌, ◌<◌, ◌≤◌, ◌^◌, min, List, [], ◌∷◌, ◌++◌, length, length-append, append-nil}
use Rattle.std.proofs.Common.{get_or, take, drop, IsTrue, not, sym, ap, ◌∙◌, subst, arith}
use Rattle.std.specs.Int.{div_ceil}
use Rattle.std.proofs.lemmas.Bool.{le-ltb}
use Rattle.std.proofs.lemmas.List.{take_more, take-append-drop}
use Rattle.std.proofs.lemmas.List.Concat.{flat_map-append}
use Rattle.std.proofs.lemmas.Nat.{pow_below, shr_below, shr_split}
use Rattle.wast_tree_nodes.specs.DataBytes.{data_bytes, all_bytes}
use Rattle.wast_expand_inline.specs.Tree.{DataVal}
use Rattle.wast_expand_inline.specs.Segments.{are_too_many}

-- a page of 2^64 bytes or more holds fewer than 2^32 bytes
pub one_page : (n e : ℕ) → n < 2 ^ 32 → 64 ≤ e → min n 1 ≡ div_ceil n (2 ^ e)
one_page n e few large =
    let big : 2 ^ 32 < 2 ^ e = pow_below 32 e (omega arith) in
    let same : e ≡ 0 + e = omega arith in
    let none : n / 2 ^ e < 2 ^ 0 = shr_below n 0 e (subst (λ k. n < 2 ^ k) same (omega arith)) in
    let whole : n / 2 ^ e ≡ 0 = omega arith in
    let rest : 0 * 2 ^ e + n % 2 ^ e ≡ n = sym (ap (λ k. k * 2 ^ e + n % 2 ^ e) whole) ∙ shr_split n e in
    let left : n % 2 ^ e ≡ n = omega arith in
    rw (whole, left) (omega arith)

module _ (pieces : List DataVal) (i : ℕ) (piece : DataVal) (below : i < length pieces) (is : piece ≡ get_or pieces i piece) where
  bytes_more : all_bytes (take (i + 1) pieces) ≡ all_bytes (take i pieces) ++ data_bytes piece
  bytes_more = ap all_bytes (take_more pieces i piece below ∙ ap (λ y. take i pieces ++ y ∷ []) (sym is))
      ∙ (flat_map-append data_bytes (take i pieces) (piece ∷ []) ∙ ap (λ ys. all_bytes (take i pieces) ++ ys) (append-nil (data_bytes piece)))

  bytes_all : all_bytes pieces ≡ all_bytes (take (i + 1) pieces) ++ all_bytes (drop (i + 1) pieces)
  bytes_all = sym (ap all_bytes (take-append-drop (i + 1) pieces)) ∙ flat_map-append data_bytes (take (i + 1) pieces) (drop (i + 1) pieces)

  -- if the bytes of the first pieces are too many, all are
  pub too_many : 2 ^ 32 ≤ length (all_bytes (take i pieces)) + length (data_bytes piece) → IsTrue (are_too_many pieces)
  too_many here =
      let more : length (all_bytes (take (i + 1) pieces)) ≡ length (all_bytes (take i pieces)) + length (data_bytes piece) = ap length bytes_more
      ∙ length-append (all_bytes (take i pieces)) (data_bytes piece) in
      let all : length (all_bytes pieces) ≡ length (all_bytes (take (i + 1) pieces)) + length (all_bytes (drop (i + 1) pieces)) = ap length bytes_all
      ∙ length-append (all_bytes (take (i + 1) pieces)) (all_bytes (drop (i + 1) pieces)) in
      ap not (le-ltb (length (all_bytes pieces)) (2 ^ 32) (omega arith))
