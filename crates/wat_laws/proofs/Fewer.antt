-- The words in which Shrinks is written: no rule leaves more tokens than there were. For example, the rule of an index leaves one token
-- less, and that of an optional index as many if there is none.
use Rattle.std.proofs.Common.{◌≡◌, ◌∙◌, ℕ, zero, suc, ◌≤◌, Bool, true, false, List, [], ◌∷◌, length, Option, None, Some, refl, sym, ap, subst, arith}
use Rattle.wat_grammar.specs.Parts.{◌>>=◌}
use Rattle.wat_tokens.specs.declared.words.Key.{Key}
use Rattle.wat_tokens.specs.declared.tokens.Token.{Token}
use Rattle.wat_tokens.specs.declared.tokens.Placed.{Placed}
use Rattle.wat_syntax.specs.Tokens.{Toks, Parse, first, after, after_first, count, peek, is_lparen, is_rparen, is_key, key_of}
use Rattle.wat_syntax.specs.Tokens.{is_form, lparen, rparen, keyword, form, keyword_in, optional, is_there, many, many_lists}
use Rattle.std.specs.Prelude.{if◌then◌else◌}
use Rattle.std.specs.Str.{is_utf8}
use Rattle.wat_syntax.specs.Values.{number_text, number_in, number, u32, string, string_in, name, id, id_in}
use Rattle.wat_syntax.specs.Values.{name_annotation, index, optional_index, index_or_zero, is_name, annotation_of, is_index}

-- what a rule made leaves so many tokens at most
pub record Fewer {T : Type 0} (n : ℕ) (o : Parse T) : Type 0 where
  pub at : (x : T × Toks) → o ≡ Some x → count x.1 ≤ n

-- the same of a terminal
pub record Takes (n : ℕ) (o : Option Toks) : Type 0 where
  pub at : (t : Toks) → o ≡ Some t → count t ≤ n

the_same : {A : Type 0} {x y : A} → Some x ≡ Some y → x ≡ y
the_same e = cc

pub none : {T : Type 0} (n : ℕ) → Fewer {T = T} n None
none n = record { at = λ x e. absurd cc }

pub done : {T : Type 0} (n : ℕ) (v : T) (t : Toks) → count t ≤ n → Fewer n (Some (v, t))
done {T} n v t h = record { at = λ x e. subst (λ y. count y ≤ n) (ap {A = T × Toks} (λ y. y.1) (the_same e)) h }

pub no_toks : (n : ℕ) → Takes n None
no_toks n = record { at = λ x e. absurd cc }

pub toks : (n : ℕ) (t : Toks) → count t ≤ n → Takes n (Some t)
toks n t h = record { at = λ x e. subst (λ y. count y ≤ n) (the_same e) h }

pub and_then : {S T : Type 0} {n : ℕ} {o : Parse S} {f : S × Toks → Parse T} → Fewer n o → ((x : S × Toks) → count x.1 ≤ n → Fewer n (f x)) → Fewer n (o >>= f)
and_then {o = None} h k = record { at = λ x e. absurd cc }
and_then {o = Some y} h k = k y (h.at y refl)

pub taking : {T : Type 0} {n : ℕ} {o : Option Toks} {f : Toks → Parse T} → Takes n o → ((t : Toks) → count t ≤ n → Fewer n (f t)) → Fewer n (o >>= f)
taking {o = None} h k = record { at = λ x e. absurd cc }
taking {o = Some y} h k = k y (h.at y refl)

pub some_of : {S T : Type 0} {n : ℕ} (o : Option S) {f : S → Parse T} → ((x : S) → Fewer n (f x)) → Fewer n (o >>= f)
some_of None k = record { at = λ x e. absurd cc }
some_of (Some y) k = k y

pub either : {T : Type 0} {n : ℕ} (c : Bool) {a b : Parse T} → Fewer n a → Fewer n b → Fewer n (elim c [ true ↦ a | false ↦ b ])
either true a b = a
either false a b = b

pub cond : {T : Type 0} {n : ℕ} (c : Bool) {a b : Parse T} → Fewer n a → Fewer n b → Fewer n (if c then a else b)
cond true a b = a
cond false a b = b

pub if_taken : {T : Type 0} {n : ℕ} (o : Option Toks) {f : Toks → Parse T} {b : Parse T} → Takes n o
    → ((t : Toks) → count t ≤ n → Fewer n (f t)) → Fewer n b → Fewer n (elim o [ Some t ↦ f t | None ↦ b ])
if_taken None h k b = b
if_taken (Some t) h k b = k t (h.at t refl)

pub if_read : {S T : Type 0} {n : ℕ} (o : Parse S) {f : S × Toks → Parse T} {b : Parse T} → Fewer n o
    → ((x : S × Toks) → count x.1 ≤ n → Fewer n (f x)) → Fewer n b → Fewer n (elim o [ Some x ↦ f x | None ↦ b ])
if_read None h k b = b
if_read (Some t) h k b = k t (h.at t refl)

-- the tokens after the next one
pub fewer : (n : ℕ) (t : Toks) → count t ≤ n → count (after t) ≤ n
unfolding count after
fewer n t h = by t.left t h refl
  where
    by : (ps : List Placed) (t : Toks) → length t.left ≤ n → t.left ≡ ps → length (after_first ps t).left ≤ n
    by [] t h e = h
    by (p ∷ ps) t h e = less (subst (λ xs. length xs ≤ n) e h)
      where
        less : length (p ∷ ps) ≤ n → length ps ≤ n
        less h = omega arith

module _ (n : ℕ) (t : Toks) (h : count t ≤ n) where
  pub lparen_takes : Takes n (lparen t)
  lparen_takes = by (is_lparen (peek 0 t))
    where
      by : (b : Bool) → Takes n (elim b [ true ↦ Some (after t) | false ↦ None ])
      by true = toks n (after t) (fewer n t h)
      by false = no_toks n

  pub rparen_takes : Takes n (rparen t)
  rparen_takes = by (is_rparen (peek 0 t))
    where
      by : (b : Bool) → Takes n (elim b [ true ↦ Some (after t) | false ↦ None ])
      by true = toks n (after t) (fewer n t h)
      by false = no_toks n

  pub keyword_takes : (k : Key) → Takes n (keyword k t)
  keyword_takes k = by (is_key k (key_of (peek 0 t)))
    where
      by : (b : Bool) → Takes n (elim b [ true ↦ Some (after t) | false ↦ None ])
      by true = toks n (after t) (fewer n t h)
      by false = no_toks n

  pub form_takes : (k : Key) → Takes n (form k t)
  form_takes k = by (is_form k t)
    where
      by : (b : Bool) → Takes n (elim b [ true ↦ Some (after (after t)) | false ↦ None ])
      by true = toks n (after (after t)) (fewer n (after t) (fewer n t h))
      by false = no_toks n

  pub keyword_in_fewer : {T : Type 0} (m : Key → Option T) → Fewer n (keyword_in m t)
  keyword_in_fewer m = some_of (key_of (peek 0 t)) (λ k. some_of (m k) (λ x. done n x (after t) (fewer n t h)))

  pub number_text_fewer : Fewer n (number_text t)
  number_text_fewer = some_of (number_in (peek 0 t)) (λ x. done n x (after t) (fewer n t h))

  pub number_fewer : {T : Type 0} (value : List ℕ → Option T) → Fewer n (number value t)
  number_fewer value = and_then number_text_fewer (λ x h. some_of (value x.0.now) (λ v. done n v x.1 h))

  pub string_fewer : Fewer n (string t)
  string_fewer = some_of (string_in (peek 0 t)) (λ x. done n x (after t) (fewer n t h))

  pub id_fewer : Fewer n (id t)
  id_fewer = some_of (id_in (peek 0 t) (Rattle.wat_syntax.specs.Tokens.position t)) (λ x. done n x (after t) (fewer n t h))

  pub u32_fewer : Fewer n (u32 t)
  u32_fewer = number_fewer _

  pub index_fewer : Fewer n (index t)
  index_fewer = if_read (id t) id_fewer (λ x h. done n _ x.1 h) (and_then u32_fewer (λ x h. done n _ x.1 h))

  pub optional_fewer : {T : Type 0} (rule : Toks → Parse T) → Fewer n (rule t) → Fewer n (optional rule t)
  optional_fewer {T} rule r = by (rule t) r
    where
      by : (o : Parse T) → Fewer n o → Fewer n (elim o [ Some x ↦ Some (Some x.0, x.1) | None ↦ Some (None, t) ])
      by None r = done n _ t h
      by (Some x) r = done n _ x.1 (r.at x refl)

  pub is_there_fewer : (rule : Toks → Option Toks) → Takes n (rule t) → Fewer n (is_there rule t)
  is_there_fewer rule r = by (rule t) r
    where
      by : (o : Option Toks) → Takes n o → Fewer n (elim o [ Some rest ↦ Some (true, rest) | None ↦ Some (false, t) ])
      by None r = done n _ t h
      by (Some x) r = done n _ x (r.at x refl)

  pub optional_index_fewer : Fewer n (optional_index t)
  optional_index_fewer = either (is_index (peek 0 t)) (and_then index_fewer (λ x h. done n _ x.1 h)) (done n _ t h)

  pub index_or_zero_fewer : Fewer n (index_or_zero t)
  index_or_zero_fewer = either (is_index (peek 0 t)) index_fewer (done n _ t h)

  pub name_fewer : Fewer n (name t)
  name_fewer = and_then string_fewer (λ b h. cond (is_utf8 b.0.now) (done n _ b.1 h) (none n))

-- parts one after another
module _ (n : ℕ) where
  pub many_fewer : {T : Type 0} (is_next : Toks → Bool) (part : Toks → Parse T)
      → ((t : Toks) → count t ≤ n → Fewer n (part t)) → (k : ℕ) (t : Toks) → count t ≤ n → Fewer n (many is_next part k t)
  many_fewer is_next part p zero t h = done n [] t h
  many_fewer is_next part p (suc k) t h =
      either (is_next t) (and_then (p t h) (λ x h. and_then (many_fewer is_next part p k x.1 h) (λ xs h. done n _ xs.1 h))) (done n [] t h)

  pub lists_fewer : {T : Type 0} (is_next : Toks → Bool) (part : Toks → Parse (List T))
      → ((t : Toks) → count t ≤ n → Fewer n (part t)) → (k : ℕ) (t : Toks) → count t ≤ n → Fewer n (many_lists is_next part k t)
  lists_fewer is_next part p zero t h = done n [] t h
  lists_fewer is_next part p (suc k) t h =
      either (is_next t) (and_then (p t h) (λ x h. and_then (lists_fewer is_next part p k x.1 h) (λ xs h. done n _ xs.1 h))) (done n [] t h)

  pub name_annotation_fewer : (t : Toks) → count t ≤ n → Fewer n (name_annotation t)
  name_annotation_fewer t h = either (is_name (annotation_of (peek 0 t)))
      (and_then (name_fewer n (after t) (fewer n t h)) (λ x h. taking (rparen_takes n x.1 h) (λ r h. done n _ r h))) (done n _ t h)

-- there is a token
pub one_less : (t : Toks) (k : Token) → peek 0 t ≡ Some k → suc (count (after t)) ≡ count t
unfolding peek after count
one_less t k e = by t.left refl
  where
    by : (ps : List Placed) → t.left ≡ ps → suc (length (after_first t.left t).left) ≡ length t.left
    by [] is = absurd (no_token (sym (ap first is) ∙ e))
      where
        no_token : None ≡ Some k → ⊥
        no_token e = absurd cc
    by (p ∷ ps) is = ap (λ ps. suc (length (after_first ps t).left)) is ∙ sym (ap length is)
