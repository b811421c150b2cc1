-- A value behind a number, for which a byte is kept until the value is there.
use Rattle.std.proofs.Common.{◌≡◌, ◌≤◌, ◌<◌, ◌+◌, ◌-◌, ℕ, Bool, true, false, List, [], ◌∷◌, ◌++◌, Result, Ok, Err, is_err, ap, subst, inl}
use Rattle.std.proofs.Common.{inr, arith, length, length-append}
use Rattle.wasm_ops.specs.Leb128.{unsigned}
use Rattle.wasm_ops.specs.declared.sink.Refusal.{Refusal}
use Rattle.wasm_ops.specs.Sinks.{SinkRules, Writes, Sets, AppendLaws}
use Rattle.wasm_ops.proofs.Numbers.{unsigned-small, unsigned-nonempty}
use Rattle.wasm_ops.proofs.Sinking.{was_put, after_nothing, puts_as}

-- a value behind a number
abbrev behind : ℕ → List ℕ → List ℕ
behind m y = unsigned m ++ y

-- a byte and the value are no longer than the number and the value
pub no_longer : (m : ℕ) (y : List ℕ) → 1 + length y ≤ length (behind m y)
no_longer m y = omega (arith, length-append (unsigned m) y, unsigned-nonempty m)

-- no byte fitted, so the whole does not
pub no_byte : {S : Type 0} (A : Type 0) (rules : SinkRules S) (all : Type 0) (a b : S) (byte m : ℕ) (y : List ℕ) (e : Refusal)
    → AppendLaws rules → Writes {A = A} rules (Unit {0}) a b (byte ∷ []) (Err e) → Writes {A = A} rules all a b (behind m y) (Err e)
no_byte A rules all a b byte m y e laws p = (
  p.0,
  elim p.1 [
    | inl q ↦ inl (q.0, λ f. q.1 (laws.fits_less a 1 (length (behind m y)) (omega (arith, no_longer m y)) f))
    | inr q ↦ absurd (q.1 tt)
  ],
)

-- the byte and the value were put
pub both_put : {S A : Type 0} (rules : SinkRules S) (part : Type 0) (a b c : S) (byte : ℕ) (y : List ℕ) (r : Result A Refusal)
    → AppendLaws rules → rules.appended a b (byte ∷ []) → Writes rules part b c y r → is_err r ≡ false → rules.appended a c (byte ∷ y) × part
both_put rules part a b c byte y r laws h p good =
    let put = was_put rules part b c y r p good in
    (laws.joins a b c (byte ∷ []) y h put.0, put.1)

-- how long the value is
pub size_behind : {S : Type 0} (rules : SinkRules S) (a c : S) (byte : ℕ) (y : List ℕ) (n s : ℕ)
    → AppendLaws rules → rules.appended a c (byte ∷ y) → n ≡ rules.size_of a → s ≡ rules.size_of c → s - n - 1 ≡ length y
size_behind rules a c byte y n s laws h at size = omega (arith, laws.grows a c (byte ∷ y) h, at, size)

-- what was put is cut off
pub cut_whole : {S : Type 0} (rules : SinkRules S) (a c d : S) (x : List ℕ) (n : ℕ)
    → AppendLaws rules → rules.appended a c x → n ≡ rules.size_of a → rules.is_cut c n d → rules.appended a d []
cut_whole rules a c d x n laws h at k = laws.cuts_back a c d x h (subst (λ (m : ℕ). rules.is_cut c m d) at k)

-- the number was set
pub number_set : {S : Type 0} (rules : SinkRules S) (a c d : S) (byte m : ℕ) (y : List ℕ) (n : ℕ) (says : Bool)
    → AppendLaws rules → rules.appended a c (byte ∷ y) → n ≡ rules.size_of a → Sets rules c d n m says → says ≡ true → rules.appended a d (behind m y)
number_set rules a c d byte m y n true laws h at k says_yes = laws.sets a c d byte m y h (subst (λ (i : ℕ). rules.is_set c i m d) at k)
number_set rules a c d byte m y n false laws h at k says_yes = absurd cc

-- a sink that can set a number is as before once the byte is set to 0
pub byte_kept : {S : Type 0} (rules : SinkRules S) (a b c : S) (n : ℕ) (says : Bool)
    → AppendLaws rules → rules.appended a b (0 ∷ []) → n ≡ rules.size_of a → Sets rules b c n 0 says → says ≡ true → rules.appended a c (0 ∷ [])
byte_kept rules a b c n says laws h at k says_yes =
    subst (rules.appended a c) (ap (λ l. l ++ []) (unsigned-small 0 (omega arith))) (number_set rules a b c 0 0 [] n says laws h at k says_yes)

-- the byte stands in the sink after a value, be it put or refused
pub byte_within : {S A : Type 0} (rules : SinkRules S) (part : Type 0) (a b c : S) (byte : ℕ) (y : List ℕ) (n : ℕ) (r : Result A Refusal)
    → AppendLaws rules → rules.appended a b (byte ∷ []) → n ≡ rules.size_of a → Writes rules part b c y r → n < rules.size_of c
byte_within rules part a b c byte y n (Ok t) laws h at p = omega (arith, laws.grows a b (byte ∷ []) h, laws.grows b c y p.0, at)
byte_within rules part a b c byte y n (Err e) laws h at p = omega (arith, laws.grows a b (byte ∷ []) h, laws.grows b c [] p.0, at)

-- a sink that says no is as long as before
pub unset_within : {S : Type 0} (rules : SinkRules S) (c d : S) (n m : ℕ) (says : Bool)
    → AppendLaws rules → n < rules.size_of c → Sets rules c d n m says → says ≡ false → n ≤ rules.size_of d
unset_within rules c d n m true laws lt k says_no = absurd cc
unset_within rules c d n m false laws lt k says_no = omega (arith, laws.grows c d [] k, lt)

-- the number was not set, all is cut off, and put anew
pub put_anew : {S A : Type 0} (rules : SinkRules S) (one all : Type 0) (a c d e f : S) (byte m : ℕ) (y whole : List ℕ) (n : ℕ) (says : Bool)
    (r : Result A Refusal)
    → AppendLaws rules → rules.appended a c (byte ∷ y) → n ≡ rules.size_of a → Sets rules c d n m says → says ≡ false → rules.is_cut d n e
    → (one → all) → (all → one) → Writes rules one e f whole r → Writes rules all a f whole r
put_anew rules one all a c d e f byte m y whole n true r laws h at k says_no cut from to p = absurd cc
put_anew rules one all a c d e f byte m y whole n false r laws h at k says_no cut from to p =
    let put = laws.joins a c d (byte ∷ y) [] h k in
    puts_as rules one all a f whole r from to
    (after_nothing rules one a e f whole r laws (cut_whole rules a d e ((byte ∷ y) ++ []) n laws put at cut) p)
