-- Bytes that are written one after another are a front of all of them.
use Rattle.std.proofs.Common.{◌≡◌, ◌∙◌, ℕ, ◌+◌, ◌-◌, ◌≤◌, List, Option, length, take, drop, sym, ap, subst, arith, take-add, take_all}
use Rattle.std.specs.Io.KnownBytes.{Appends, Keeps}
use Rattle.std.proofs.KnownBytes.{Appends-nil, Appends-trans, Appends-kept}
use Rattle.wat_command.specs.Fronts.{AppendsFront}

-- the bytes from an offset on, after those before it
pub further : (a b c : Option (List ℕ)) (bytes : List ℕ) (at end : ℕ) → at ≤ end → Appends a b (take at bytes)
    → Appends b c (take (end - at) (drop at bytes)) → Appends a c (take end bytes)
further a b c bytes at end h p q =
    let same : end ≡ at + (end - at) = omega arith in
    subst (λ n. Appends a c (take n bytes)) (sym same) (subst (Appends a c) (sym (take-add at (end - at) bytes)) (Appends-trans a b c _ _ p q))

-- all bytes
pub all_of : (a b c : Option (List ℕ)) (bytes : List ℕ) (at : ℕ) → at ≡ length bytes → Appends a b (take at bytes) → Keeps b c → Appends a c bytes
all_of a b c bytes at e p q = subst (Appends a c) (ap (λ n. take n bytes) e ∙ take_all (length bytes) bytes (omega arith))
    (Appends-kept a b c (take at bytes) p q)

-- no byte
pub nothing : (a : Option (List ℕ)) (bytes : List ℕ) → Appends a a (take 0 bytes)
nothing a bytes = Appends-nil a

-- a call that kept what the writer had
pub stayed : (a b c : Option (List ℕ)) (bytes : List ℕ) (at : ℕ) → Appends a b (take at bytes) → Keeps b c → Appends a c (take at bytes)
stayed a b c bytes at p q = Appends-kept a b c (take at bytes) p q

-- a front
pub front : (a b : Option (List ℕ)) (bytes : List ℕ) (at : ℕ) → Appends a b (take at bytes) → AppendsFront a b bytes
front a b bytes at p = record { count = at; front = p }
