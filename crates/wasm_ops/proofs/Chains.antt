-- Chains of bytes: none begins another, and one length and one sum make one chain.
use Rattle.std.proofs.Common.{◌≡◌, ◌<◌, ◌≤◌, ℕ, List, [], ◌∷◌, ◌++◌, length, arith}
use Rattle.wasm_ops.specs.Leb128.{value, IsChain}

pub chain_begins : (a b x y : List ℕ) → IsChain a → IsChain b → a ++ x ≡ b ++ y → (a ≡ b) × (x ≡ y)
chain_begins [] b x y h k e = absurd h
chain_begins (p ∷ ps) [] x y h k e = absurd k
chain_begins (p ∷ []) (q ∷ []) x y h k e = (cc, cc)
chain_begins (p ∷ []) (q ∷ d ∷ qs) x y h k e = let s : p ≡ q = cc in absurd (omega (arith, h, k.0))
chain_begins (p ∷ c ∷ ps) (q ∷ []) x y h k e = let s : p ≡ q = cc in absurd (omega (arith, h.0, k))
chain_begins (p ∷ c ∷ ps) (q ∷ d ∷ qs) x y h k e =
    let s : p ≡ q = cc in
    let t : (c ∷ ps) ++ x ≡ (d ∷ qs) ++ y = cc in
    let r = chain_begins (c ∷ ps) (d ∷ qs) x y h.2 k.2 t in
    let l = r.0 in
    (cc, r.1)

pub chain-cons : (b : ℕ) (bs : List ℕ) → 128 ≤ b → b < 256 → IsChain bs → IsChain (b ∷ bs)
chain-cons b [] low high h = absurd h
chain-cons b (c ∷ bs) low high h = (low, high, h)

-- chains of one length and one sum are one
pub same_chain : (a b : List ℕ) → IsChain a → IsChain b → length a ≡ length b → value a ≡ value b → a ≡ b
same_chain [] b h k l e = absurd h
same_chain (p ∷ ps) [] h k l e = absurd k
same_chain (p ∷ []) (q ∷ []) h k l e = let s : p ≡ q = omega (arith, h, k, e) in cc
same_chain (p ∷ []) (q ∷ d ∷ qs) h k l e = absurd (omega (arith, l))
same_chain (p ∷ c ∷ ps) (q ∷ []) h k l e = absurd (omega (arith, l))
same_chain (p ∷ c ∷ ps) (q ∷ d ∷ qs) h k l e =
    let s : p ≡ q = omega (arith, h.0, h.1, k.0, k.1, e) in
    let v : value (c ∷ ps) ≡ value (d ∷ qs) = omega (arith, h.0, h.1, k.0, k.1, e) in
    let m : length (c ∷ ps) ≡ length (d ∷ qs) = omega (arith, l) in
    let r = same_chain (c ∷ ps) (d ∷ qs) h.2 k.2 m v in
    cc
