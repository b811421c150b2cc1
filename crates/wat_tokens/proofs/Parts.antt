-- Closes what reading a part of a text leaves: the rules bind one result after another, and each lemma computes one such chain.
use Rattle.std.proofs.Common.{◌≡◌, ◌≢◌, ◌∙◌, ℕ, suc, ◌+◌, ◌<◌, ◌≤◌, ◌==◌, Bool, true, false, List, [], ◌∷◌, length}
use Rattle.std.proofs.Common.{drop, take, Option, None, Some, Ok, Err, refl, sym, ap, subst, arith, eqb-true}
use Rattle.std.proofs.lemmas.List.{drop-drop, length-drop}
use Rattle.std.proofs.lemmas.Str.{IsUtf8-from_is_utf8, is_utf8-from_IsUtf8}
use Rattle.std.specs.Prelude.{IsUtf8, if◌then◌else◌}
use Rattle.std.specs.Str.{is_utf8}
use Rattle.wat_grammar.specs.Parts.{◌>>=◌}
use Rattle.wat_grammar.specs.Strings.{string}
use Rattle.wat_grammar.specs.Tokens.{string_length, Contents, bytes_of, as_written, a_string, a_name, id_chars, an_id, not_empty}
use Rattle.wat_tokens.specs.Scans.{IsRead, contents_of}

-- a string, by the number of characters between its quotes
a_string_is : (contents : Contents) (text : List ℕ) (n : ℕ) (bytes : List ℕ) → string_length false text ≡ Some n
    → contents (take n text) ≡ Some bytes → a_string contents text ≡ Some (bytes, drop (suc n) text)
a_string_is contents text n bytes long is =
    ap (λ o. o >>= λ n. contents (take n text) >>= λ bytes. (let p : List ℕ × List ℕ = (bytes, drop (suc n) text) in Some p)) long
    ∙ ap (λ o. o >>= λ bytes. (let p : List ℕ × List ℕ = (bytes, drop (suc n) text) in Some p)) is

pub read_string : (contents : Contents) (T : List ℕ) (begin n end : ℕ) (bytes : List ℕ) → begin ≤ length T
    → end ≡ begin + n + 1 → string_length false (drop begin T) ≡ Some n → n < length (drop begin T)
    → contents (take n (drop begin T)) ≡ Some bytes → IsRead (a_string contents (drop begin T)) T begin bytes end
read_string contents T begin n end bytes start there long inside is = record {
  gives = a_string_is contents (drop begin T) n bytes long is
      ∙ ap (λ r. Some (bytes, r)) (drop-drop (suc n) begin T ∙ ap (λ k. drop k T) {x = begin + suc n} {y = end} (omega (arith, there)));
  forward = omega (arith, there);
  inside = let l = length-drop begin T in omega (arith, l, inside, start, there);
}

pub open_string : (contents : Contents) (text : List ℕ) → string_length false text ≡ None → a_string contents text ≡ None
open_string contents text none = ap (λ o. o >>= λ n. contents (take n text) >>= λ bytes. (let p : List ℕ × List ℕ = (bytes, drop (suc n) text) in Some p)) none

pub wrong_string : (contents : Contents) (text : List ℕ) (n : ℕ) → string_length false text ≡ Some n
    → contents (take n text) ≡ None → a_string contents text ≡ None
wrong_string contents text n long none =
    ap (λ o. o >>= λ n. contents (take n text) >>= λ bytes. (let p : List ℕ × List ℕ = (bytes, drop (suc n) text) in Some p)) long
    ∙ ap (λ o. o >>= λ bytes. (let p : List ℕ × List ℕ = (bytes, drop (suc n) text) in Some p)) none

pub bytes_are : (content bytes : List ℕ) → string content ≡ Ok bytes → bytes_of content ≡ Some bytes
bytes_are content bytes is = ap (λ r. elim r as (λ x. Option (List ℕ)) [ Ok bytes ↦ Some bytes | Err n ↦ None ]) is

pub written_string : {S : Type 0} (strings : Option S) (T rest : List ℕ) (begin n end : ℕ) → strings ≡ None
    → rest ≡ drop begin T → begin ≤ length T → end ≡ begin + n + 1 → string_length false rest ≡ Some n → n < length rest
    → IsRead (a_string (contents_of strings) (drop begin T)) T begin (take n rest) end
written_string None T rest begin n end none left start there long inside =
    read_string as_written T begin n end (take n rest) start there (subst (λ r. string_length false r ≡ Some n) left long)
    (subst (λ r. n < length r) left inside) (ap (λ r. Some (take n r)) (sym left))
written_string (Some s) T rest begin n end none left start there long inside = absurd cc

pub kept_string : {S : Type 0} (strings : Option S) (s : S) (T rest : List ℕ) (begin n end : ℕ) (bytes : List ℕ)
    → strings ≡ Some s → rest ≡ drop begin T → begin ≤ length T → end ≡ begin + n + 1
    → string_length false rest ≡ Some n → n < length rest → string (take n rest) ≡ Ok bytes
    → IsRead (a_string (contents_of strings) (drop begin T)) T begin bytes end
kept_string None s T rest begin n end bytes none left start there long inside is = absurd cc
kept_string (Some x) s T rest begin n end bytes none left start there long inside is =
    read_string bytes_of T begin n end bytes start there (subst (λ r. string_length false r ≡ Some n) left long)
    (subst (λ r. n < length r) left inside) (bytes_are (take n (drop begin T)) bytes (subst (λ r. string (take n r) ≡ Ok bytes) left is))

-- a name is a string in UTF-8
pub read_name : (contents : Contents) (T : List ℕ) (begin end : ℕ) (bytes : List ℕ) → IsUtf8 bytes
    → IsRead (a_string contents (drop begin T)) T begin bytes end → IsRead (a_name contents (drop begin T)) T begin bytes end
read_name contents T begin end bytes utf8 r = record {
  gives = ap (λ o. o >>= λ s. if is_utf8 s.0 then Some s else None) r.gives
      ∙ ap (λ b. if b then (let p : List ℕ × List ℕ = (bytes, drop end T) in Some p) else None) (is_utf8-from_IsUtf8 bytes utf8);
  forward = r.forward;
  inside = r.inside;
}

pub no_string : (contents : Contents) (text : List ℕ) → a_string contents text ≡ None → a_name contents text ≡ None
no_string contents text none = ap (λ o. o >>= λ s. if is_utf8 s.0 then Some s else None) none

pub no_name : (contents : Contents) (T : List ℕ) (begin end : ℕ) (bytes : List ℕ) → (IsUtf8 bytes → ⊥)
    → IsRead (a_string contents (drop begin T)) T begin bytes end → a_name contents (drop begin T) ≡ None
no_name contents T begin end bytes wrong r = ap (λ o. o >>= λ s. if is_utf8 s.0 then Some s else None) r.gives ∙ go (is_utf8 bytes) refl
  where
    go : (b : Bool) → is_utf8 bytes ≡ b → (if is_utf8 bytes then (let p : List ℕ × List ℕ = (bytes, drop end T) in Some p) else None) ≡ None
    go true e = absurd (wrong (IsUtf8-from_is_utf8 bytes e))
    go false e = rw e refl

-- an id is not empty
pub not_empty_is : (bytes rest : List ℕ) → (length bytes == 0) ≡ false → not_empty (bytes, rest) ≡ Some (bytes, rest)
not_empty_is [] rest h = absurd cc
not_empty_is (c ∷ cs) rest h = refl

pub empty_is_none : (bytes rest : List ℕ) → (length bytes == 0) ≡ true → not_empty (bytes, rest) ≡ None
empty_is_none [] rest h = refl
empty_is_none (c ∷ cs) rest h = absurd (let e : suc (length cs) ≡ 0 = eqb-true (suc (length cs)) 0 h in omega (arith, e))

pub no_id_chars : (contents : Contents) (text : List ℕ) → id_chars contents text ≡ None → an_id contents text ≡ None
no_id_chars contents text none = ap (λ o. o >>= λ x. not_empty x) none
