-- The words in which the proofs are written: what a rule reads has a property, and so has each element of a list. For example, `index`
-- reads no generated id, and neither does `indices`, which reads many of them.
use Rattle.std.proofs.Common.{◌≡◌, ℕ, zero, suc, Bool, true, false, List, [], ◌∷◌, ◌++◌, flat_map, Option, None, Some, refl, ap, subst}
use Rattle.std.specs.Prelude.{⊤}
use Rattle.wast_tree_nodes.specs.Sites.{if_there}
use Rattle.wat_grammar.specs.Parts.{◌>>=◌}
use Rattle.wat_syntax.specs.Tokens.{Toks, Parse, rparen, many, many_lists}

-- What a rule reads has this property, if it reads something.
pub record Of {T : Type 0} (P : T → Type 0) (o : Parse T) : Type 0 where
  pub at : (x : T × Toks) → o ≡ Some x → P x.0

pub the_same : {A : Type 0} {x y : A} → Some x ≡ Some y → x ≡ y
the_same e = cc

pub nothing : {T : Type 0} {P : T → Type 0} → Of P None
nothing = record { at = λ x e. absurd cc }

pub done : {T : Type 0} {P : T → Type 0} {v : T} {t : Toks} → P v → Of P (Some (v, t))
done {T} {P} h = record { at = λ x e. subst P (ap {A = T × Toks} (λ y. y.0) (the_same e)) h }

-- one rule and then another
pub bind : {S T : Type 0} {Q : S → Type 0} {P : T → Type 0} {o : Parse S} {f : S × Toks → Parse T}
    → Of Q o → ((x : S × Toks) → Q x.0 → Of P (f x)) → Of P (o >>= f)
bind {o = None} h k = nothing
bind {o = Some y} h k = k y (h.at y refl)

-- the same, whatever the first rule reads; also after a terminal
pub skip : {S T : Type 0} {P : T → Type 0} (o : Option S) {f : S → Parse T} → ((x : S) → Of P (f x)) → Of P (o >>= f)
skip None k = nothing
skip (Some y) k = k y

-- a rule in parentheses, before the ')'
pub closed : {T : Type 0} {P : T → Type 0} {o : Parse T} → Of P o → Of P (o >>= λ x. rparen x.1 >>= λ rest. let y : T × Toks = (x.0, rest) in Some y)
closed h = bind h (λ x p. skip (rparen x.1) (λ rest. done p))

-- one rule or another
pub either : {T : Type 0} {P : T → Type 0} (c : Bool) {a b : Parse T} → Of P a → Of P b → Of P (elim c [ true ↦ a | false ↦ b ])
either true a b = a
either false a b = b

-- something, and then a rule, or else another rule
pub read : {S T : Type 0} {P : T → Type 0} (o : Option S) {f : S → Parse T} {b : Parse T}
    → ((x : S) → Of P (f x)) → Of P b → Of P (elim o [ Some x ↦ f x | None ↦ b ])
read None k b = b
read (Some x) k b = k x

pub read_of : {S T : Type 0} {Q : S → Type 0} {P : T → Type 0} {o : Parse S} {f : S × Toks → Parse T} {b : Parse T}
    → Of Q o → ((x : S × Toks) → Q x.0 → Of P (f x)) → Of P b → Of P (elim o [ Some x ↦ f x | None ↦ b ])
read_of {o = None} h k b = b
read_of {o = Some x} h k b = k x (h.at x refl)

-- lists
abbrev pub Each : {T : Type 0} → (T → Type 0) → List T → Type 0
Each P [] = ⊤
Each P (x ∷ xs) = P x × Each P xs

abbrev pub IfSome : {T : Type 0} → (T → Type 0) → Option T → Type 0
IfSome P None = ⊤
IfSome P (Some x) = P x

pub join : {T : Type 0} (P : T → Type 0) (xs ys : List T) → Each P xs → Each P ys → Each P (xs ++ ys)
join P [] ys p q = q
join P (x ∷ xs) ys p q = (p.0, join P xs ys p.1 q)

-- an element gives a list each, or an optional value does
pub through : {S T : Type 0} (Q : S → Type 0) (P : T → Type 0) (f : S → List T)
    → ((x : S) → Q x → Each P (f x)) → (xs : List S) → Each Q xs → Each P (flat_map f xs)
through Q P f g [] p = tt
through Q P f g (x ∷ xs) p = join P (f x) (flat_map f xs) (g x p.0) (through Q P f g xs p.1)

pub over : {S T : Type 0} (P : T → Type 0) (f : S → List T) (xs : List S) → Each (λ x. Each P (f x)) xs → Each P (flat_map f xs)
over P f xs p = through (λ x. Each P (f x)) P f (λ x p. p) xs p

pub there : {S T : Type 0} (Q : S → Type 0) (P : T → Type 0) (f : S → List T)
    → ((x : S) → Q x → Each P (f x)) → (o : Option S) → IfSome Q o → Each P (if_there f o)
there Q P f g None p = tt
there Q P f g (Some x) p = g x p

-- A*, and a list of lists
pub of_many : {T : Type 0} {P : T → Type 0} (is_next : Toks → Bool) (part : Toks → Parse T)
    → ((t : Toks) → Of P (part t)) → (k : ℕ) (t : Toks) → Of (Each P) (many is_next part k t)
of_many is_next part h zero t = done tt
of_many is_next part h (suc k) t = either (is_next t) (bind (h t) (λ x p. bind (of_many is_next part h k x.1) (λ xs q. done (p, q)))) (done tt)

pub of_lists : {T : Type 0} {P : T → Type 0} (is_next : Toks → Bool) (part : Toks → Parse (List T))
    → ((t : Toks) → Of (Each P) (part t)) → (k : ℕ) (t : Toks) → Of (Each P) (many_lists is_next part k t)
of_lists is_next part h zero t = done tt
of_lists {P = P} is_next part h (suc k) t =
    either (is_next t) (bind (h t) (λ x p. bind (of_lists is_next part h k x.1) (λ xs q. done (join P x.0 xs.0 p q)))) (done tt)
