-- Closes what reading a part of a text leaves: each lemma is one arm of a rule, by the first bytes of the text.
use Rattle.std.proofs.Common.{◌≡◌, ◌∙◌, ℕ, zero, suc, ◌+◌, ◌-◌, ◌<◌, ◌≤◌, ◌==◌, Bool, true, false, List, [], ◌∷◌, ◌++◌, length, drop}
use Rattle.std.proofs.Common.{Option, None, Some, refl, sym, ap, arith, append_assoc, append-nil, eqb-true, ◌⊎◌, inl, inr}
use Rattle.std.proofs.lemmas.Bool.{cases_lt}
use Rattle.std.proofs.lemmas.List.{drop-drop, length-drop}
use Rattle.std.proofs.lemmas.List.Elements.{All-push}
use Rattle.std.specs.Prelude.{if◌then◌else◌, ◌&&◌, ◌||◌, All}
use Rattle.wat_grammar.specs.Parts.{◌>>=◌, front}
use Rattle.wat_grammar.specs.Space.{is_blank, is_linechar, behind, linecomment, blockcomment}
use Rattle.wat_grammar.specs.Tokens as grammar
use Rattle.wat_grammar.specs.Tokens.{Contents, is_idchar, is_reserved, a_string, an_id, begins_comment, skipped_open, skipped_part, skipped}
use Rattle.wat_grammar.specs.Tokens.{annotation, opened, string_token, id_token, word, part, parts}
use Rattle.wat_tokens.specs.Scans.{first_of, is_first, begins_of, kind_of, opens_of, token_of, placed, seen_all, seen, IsNamed}
use Rattle.wat_tokens.specs.declared.tokens.Placed.{Placed}
use Rattle.wat_tokens.specs.declared.tokens.Token.TheVariants as token
use Rattle.wat_tokens.proofs.Fronts.{front_more}
use Rattle.wat_tokens.proofs.Ascii.{below, byte_is}
use Rattle.wat_tokens.specs.declared.scans.Kind.{Kind}
use Rattle.wat_tokens.specs.declared.scans.Kind.TheVariants as kind

-- cuts one after another
pub drop_one : (T : List ℕ) (i : ℕ) → drop 1 (drop i T) ≡ drop (i + 1) T
drop_one T i = drop-drop 1 i T

pub drop_two : (T : List ℕ) (i : ℕ) → drop 1 (drop (i + 1) T) ≡ drop (i + 2) T
drop_two T i = drop-drop 1 (i + 1) T ∙ ap (λ k. drop k T) {x = i + 1 + 1} {y = i + 2} (omega arith)

abbrev pub Skip : Type 0
Skip = Option (ℕ × List ℕ)

abbrev pub none_opened : List ℕ → Skip
none_opened rest = Some (0, rest)

abbrev pub one_opened : List ℕ × List ℕ → Skip
one_opened x = Some (1, x.1)

abbrev pub after_string : List ℕ × List ℕ → Skip
after_string s = Some (0, s.1)

-- after a '(' in an annotation without a meaning
abbrev so : Contents → ℕ → List ℕ → Bool → Bool → Skip
so X c cs a b = elim a [ true ↦ blockcomment 0 cs >>= none_opened | false ↦ elim b [ true ↦ an_id X cs >>= one_opened | false ↦ Some (1, c ∷ cs) ] ]

pub so_comment : (X : Contents) (t : List ℕ) → is_first 0x3b t ≡ true → skipped_open X t ≡ (blockcomment 0 (drop 1 t) >>= none_opened)
so_comment X [] h = absurd cc
so_comment X (c ∷ cs) h = ap (λ a. so X c cs a (c == 0x40)) h

pub so_annotation : (X : Contents) (t : List ℕ) → is_first 0x3b t ≡ false → is_first 0x40 t ≡ true → skipped_open X t ≡ (an_id X (drop 1 t) >>= one_opened)
so_annotation X [] h k = absurd cc
so_annotation X (c ∷ cs) h k = ap (λ a. so X c cs a (c == 0x40)) h ∙ ap (λ b. so X c cs false b) k

-- a part of such an annotation
abbrev sp : Contents → ℕ → List ℕ → Bool → Bool → Bool → Bool → Bool → Skip
sp X c cs a b d e f = elim a [
  | true ↦ skipped_open X cs
  | false ↦ elim b [
    | true ↦ a_string X cs >>= after_string
    | false ↦ elim d [
      | true ↦ Some (0, linecomment (drop 1 cs))
      | false ↦
          elim e [ true ↦ Some (0, cs) | false ↦ elim f [ true ↦ Some (0, behind is_idchar (c ∷ cs)) | false ↦ None ] ]
    ]
  ]
]

pub sp_open : (X : Contents) (t : List ℕ) → is_first 0x28 t ≡ true → skipped_part X t ≡ skipped_open X (drop 1 t)
sp_open X [] h = absurd cc
sp_open X (c ∷ cs) h = ap (λ a. sp X c cs a (c == 0x22) (begins_comment c cs) (is_blank c || is_reserved c) (is_idchar c)) h

pub sp_string : (X : Contents) (t : List ℕ) → is_first 0x28 t ≡ false → is_first 0x22 t ≡ true → skipped_part X t ≡ (a_string X (drop 1 t) >>= after_string)
sp_string X [] h k = absurd cc
sp_string X (c ∷ cs) h k = ap (λ a. sp X c cs a (c == 0x22) (begins_comment c cs) (is_blank c || is_reserved c) (is_idchar c)) h
    ∙ ap (λ b. sp X c cs false b (begins_comment c cs) (is_blank c || is_reserved c) (is_idchar c)) k

rest_of : (X : Contents) (c : ℕ) (cs : List ℕ) (d : Bool) → c == 0x28 ≡ false → c == 0x22 ≡ false → begins_comment c cs ≡ d
    → skipped_part X (c ∷ cs) ≡ sp X c cs false false d (is_blank c || is_reserved c) (is_idchar c)
rest_of X c cs d h k l = ap (λ a. sp X c cs a (c == 0x22) (begins_comment c cs) (is_blank c || is_reserved c) (is_idchar c)) h
    ∙ ap (λ b. sp X c cs false b (begins_comment c cs) (is_blank c || is_reserved c) (is_idchar c)) k
    ∙ ap (λ x. sp X c cs false false x (is_blank c || is_reserved c) (is_idchar c)) l

pub sp_comment : (X : Contents) (t : List ℕ) → is_first 0x28 t ≡ false → is_first 0x22 t ≡ false → begins_of t ≡ true
    → skipped_part X t ≡ Some (0, linecomment (drop 1 (drop 1 t)))
sp_comment X [] h k l = absurd cc
sp_comment X (c ∷ cs) h k l = rest_of X c cs true h k l

pub sp_blank : (X : Contents) (t : List ℕ) (c : ℕ) → is_first 0x28 t ≡ false → is_first 0x22 t ≡ false → begins_of t ≡ false → first_of t ≡ Some c
    → (is_blank c || is_reserved c) ≡ true → skipped_part X t ≡ Some (0, drop 1 t)
sp_blank X [] c h k l m n = absurd cc
sp_blank X (x ∷ cs) c h k l m n = let same : x ≡ c = cc in rest_of X x cs false h k l
    ∙ ap (λ e. sp X x cs false false false e (is_idchar x)) (ap (λ y. is_blank y || is_reserved y) same ∙ n)

pub sp_word : (X : Contents) (t : List ℕ) (c : ℕ) → is_first 0x28 t ≡ false → is_first 0x22 t ≡ false → begins_of t ≡ false → first_of t ≡ Some c
    → (is_blank c || is_reserved c) ≡ false → is_idchar c ≡ true
    → skipped_part X t ≡ Some (0, behind is_idchar t)
sp_word X [] c h k l m n o = absurd cc
sp_word X (x ∷ cs) c h k l m n o = let same : x ≡ c = cc in rest_of X x cs false h k l
    ∙ ap (λ e. sp X x cs false false false e (is_idchar x)) (ap (λ y. is_blank y || is_reserved y) same ∙ n)
    ∙ ap (λ f. sp X x cs false false false false f) (ap is_idchar same ∙ o)

pub sp_none : (X : Contents) (t : List ℕ) (c : ℕ) → is_first 0x28 t ≡ false → is_first 0x22 t ≡ false → begins_of t ≡ false → first_of t ≡ Some c
    → (is_blank c || is_reserved c) ≡ false → is_idchar c ≡ false → skipped_part X t ≡ None
sp_none X [] c h k l m n o = absurd cc
sp_none X (x ∷ cs) c h k l m n o = let same : x ≡ c = cc in rest_of X x cs false h k l
    ∙ ap (λ e. sp X x cs false false false e (is_idchar x)) (ap (λ y. is_blank y || is_reserved y) same ∙ n)
    ∙ ap (λ f. sp X x cs false false false false f) (ap is_idchar same ∙ o)

-- the steps of the loop over such an annotation
abbrev on : Contents → ℕ → ℕ → ℕ × List ℕ → Option (List ℕ)
on X n depth x = skipped X n (x.0 + depth) x.1

abbrev step : Contents → ℕ → ℕ → ℕ → List ℕ → Bool → Option (List ℕ)
step X n depth c cs b = elim b [ true ↦ elim depth [ zero ↦ Some cs | suc d ↦ skipped X n d cs ] | false ↦ skipped_part X (c ∷ cs) >>= on X n depth ]

step_is : (X : Contents) (n depth c : ℕ) (cs : List ℕ) → skipped X (suc n) depth (c ∷ cs) ≡ step X n depth c cs (c == 0x29)
unfolding skipped
step_is X n depth c cs = refl

nothing_left : (X : Contents) (m depth : ℕ) → skipped X m depth [] ≡ None
unfolding skipped
nothing_left X zero depth = refl
nothing_left X (suc m) depth = refl

no_step : (X : Contents) (depth c : ℕ) (cs : List ℕ) → skipped X 0 depth (c ∷ cs) ≡ None
unfolding skipped
no_step X depth c cs = refl

pub sk_last : (X : Contents) (m n depth : ℕ) (t : List ℕ) → m ≡ suc n → depth ≡ 0 → is_first 0x29 t ≡ true → skipped X m depth t ≡ Some (drop 1 t)
sk_last X m n depth [] one none h = absurd cc
sk_last X m n depth (c ∷ cs) one none h = ap (λ k. skipped X k depth (c ∷ cs)) one ∙ ap (λ k. skipped X (suc n) k (c ∷ cs)) none ∙ step_is X n 0 c cs
    ∙ ap (step X n 0 c cs) h

pub sk_close : (X : Contents) (m n depth less : ℕ) (t : List ℕ) → m ≡ suc n → depth ≡ suc less → is_first 0x29 t ≡ true
    → skipped X m depth t ≡ skipped X n less (drop 1 t)
sk_close X m n depth less [] one more h = absurd cc
sk_close X m n depth less (c ∷ cs) one more h = ap (λ k. skipped X k depth (c ∷ cs)) one ∙ ap (λ k. skipped X (suc n) k (c ∷ cs)) more
    ∙ step_is X n (suc less) c cs ∙ ap (step X n (suc less) c cs) h

pub sk_part : (X : Contents) (m n depth opens : ℕ) (t rest : List ℕ) → m ≡ suc n → is_first 0x29 t ≡ false → skipped_part X t ≡ Some (opens, rest)
    → skipped X m depth t ≡ skipped X n (opens + depth) rest
sk_part X m n depth opens [] rest one h is = absurd cc
sk_part X m n depth opens (c ∷ cs) rest one h is = ap (λ k. skipped X k depth (c ∷ cs)) one ∙ step_is X n depth c cs ∙ ap (step X n depth c cs) h
    ∙ ap (λ o. o >>= on X n depth) is

pub sk_none : (X : Contents) (m n depth : ℕ) (t : List ℕ) → m ≡ suc n → is_first 0x29 t ≡ false → skipped_part X t ≡ None → skipped X m depth t ≡ None
sk_none X m n depth [] one h is = nothing_left X m depth
sk_none X m n depth (c ∷ cs) one h is = ap (λ k. skipped X k depth (c ∷ cs)) one ∙ step_is X n depth c cs ∙ ap (step X n depth c cs) h
    ∙ ap (λ o. o >>= on X n depth) is

pub sk_end : (X : Contents) (m depth : ℕ) (t : List ℕ) → t ≡ [] → skipped X m depth t ≡ None
sk_end X m depth t none = ap (skipped X m depth) none ∙ nothing_left X m depth

pub sk_over : (X : Contents) (m depth : ℕ) (t : List ℕ) → m ≡ 0 → skipped X m depth t ≡ None
sk_over X m depth [] none = nothing_left X m depth
sk_over X m depth (c ∷ cs) none = ap (λ k. skipped X k depth (c ∷ cs)) none ∙ no_step X depth c cs

pub moved : (X : Contents) (m d d2 a a2 : ℕ) (T : List ℕ) → d ≡ d2 → a ≡ a2 → skipped X m d (drop a T) ≡ skipped X m d2 (drop a2 T)
moved X m d d2 a a2 T depth at = ap (λ k. skipped X m k (drop a T)) depth ∙ ap (λ k. skipped X m d2 (drop k T)) at

pub one_less : (d : ℕ) → (d ≡ 0 → ⊥) → d ≡ suc (d - 1)
one_less zero h = absurd (h refl)
one_less (suc d) h = omega arith

-- after a '('
abbrev pub Read : Type 0
Read = Option (List grammar.Placed × List ℕ)

abbrev pub no_tokens : List ℕ → Read
no_tokens rest = Some ([], rest)

abbrev op : Contents → ℕ → ℕ → List ℕ → Bool → Bool → Read
op X place c cs a b = elim a [
  | true ↦ blockcomment 0 cs >>= no_tokens
  | false ↦ elim b [
    | true ↦ annotation X (suc place) cs
    | false ↦ Some
        ((grammar.Open, place) ∷ [], c ∷ cs)
  ]
]

pub op_comment : (X : Contents) (place : ℕ) (t : List ℕ) → is_first 0x3b t ≡ true → opened X place t ≡ (blockcomment 0 (drop 1 t) >>= no_tokens)
op_comment X place [] h = absurd cc
op_comment X place (c ∷ cs) h = ap (λ a. op X place c cs a (c == 0x40)) h

pub op_annotation : (X : Contents) (place : ℕ) (t : List ℕ) → is_first 0x3b t ≡ false → is_first 0x40 t ≡ true
    → opened X place t ≡ annotation X (suc place) (drop 1 t)
op_annotation X place [] h k = absurd cc
op_annotation X place (c ∷ cs) h k = ap (λ a. op X place c cs a (c == 0x40)) h ∙ ap (λ b. op X place c cs false b) k

-- a part, by what its first byte begins
abbrev chosen : Read → Read → Read → Read → Read → Bool → Read → Read → Kind → Read
chosen r1 r2 r3 r4 r5 b r6 r7 kind.Blank = r1
chosen r1 r2 r3 r4 r5 b r6 r7 kind.Open = r2
chosen r1 r2 r3 r4 r5 b r6 r7 kind.Close = r3
chosen r1 r2 r3 r4 r5 b r6 r7 kind.Quote = r4
chosen r1 r2 r3 r4 r5 b r6 r7 kind.Dollar = r5
chosen r1 r2 r3 r4 r5 b r6 r7 kind.Semicolon = elim b [ true ↦ r6 | false ↦ None ]
chosen r1 r2 r3 r4 r5 b r6 r7 kind.Word = r7
chosen r1 r2 r3 r4 r5 b r6 r7 kind.Other = None

abbrev chain : Read → Read → Read → Read → Read → Read → Read → Bool → Bool → Bool → Bool → Bool → Bool → Bool → Read
chain r1 r2 r3 r4 r5 r6 r7 a1 a2 a3 a4 a5 b i = elim a1 [
  | true ↦ r1
  | false ↦ elim a2 [
    | true ↦ r2
    | false ↦ elim a3 [
      | true ↦ r3
      | false ↦ elim a4 [
        | true ↦ r4
        | false ↦ elim a5 [
          | true ↦ r5
          | false ↦
              elim b [ true ↦ r6 | false ↦ elim i [ true ↦ r7 | false ↦ None ] ]
        ]
      ]
    ]
  ]
]

abbrev pub kinds : Bool → Bool → Bool → Bool → Bool → Bool → Bool → Kind
kinds a1 a2 a3 a4 a5 s i = if a1 then kind.Blank else
    (if a2 then kind.Open else (if a3 then kind.Close else
    (if a4 then kind.Quote else (if a5 then kind.Dollar else (if s then kind.Semicolon else (if i then kind.Word else kind.Other))))))

choice : (r1 r2 r3 r4 r5 r6 r7 : Read) (a1 a2 a3 a4 a5 s i b : Bool) → (s ≡ false → b ≡ false) → (s ≡ true → i ≡ false)
    → chain r1 r2 r3 r4 r5 r6 r7 a1 a2 a3 a4 a5 b i ≡ chosen r1 r2 r3 r4 r5 b r6 r7 (kinds a1 a2 a3 a4 a5 s i)
choice r1 r2 r3 r4 r5 r6 r7 true a2 a3 a4 a5 s i b f g = refl
choice r1 r2 r3 r4 r5 r6 r7 false true a3 a4 a5 s i b f g = refl
choice r1 r2 r3 r4 r5 r6 r7 false false true a4 a5 s i b f g = refl
choice r1 r2 r3 r4 r5 r6 r7 false false false true a5 s i b f g = refl
choice r1 r2 r3 r4 r5 r6 r7 false false false false true s i b f g = refl
choice r1 r2 r3 r4 r5 r6 r7 false false false false false true i true f g = refl
choice r1 r2 r3 r4 r5 r6 r7 false false false false false true true false f g = absurd (cc (g refl))
choice r1 r2 r3 r4 r5 r6 r7 false false false false false true false false f g = refl
choice r1 r2 r3 r4 r5 r6 r7 false false false false false false i true f g = absurd (cc (f refl))
choice r1 r2 r3 r4 r5 r6 r7 false false false false false false true false f g = refl
choice r1 r2 r3 r4 r5 r6 r7 false false false false false false false false f g = refl

no_comment : (c : ℕ) (cs : List ℕ) → c == 0x3b ≡ false → begins_comment c cs ≡ false
no_comment c [] h = refl
no_comment c (d ∷ ds) h = ap (λ b. b && d == 0x3b) h

semicolon : (c : ℕ) → c == 0x3b ≡ true → is_idchar c ≡ false
semicolon c h = ap is_idchar (eqb-true c 0x3b h)

part_is : (X : Contents) (place c : ℕ) (cs : List ℕ) → part X place (c ∷ cs) ≡ chosen (Some ([], behind is_blank (c ∷ cs))) (opened X place cs)
    (Some ((grammar.Close, place) ∷ [], cs)) (string_token X place cs)
    (id_token X place cs) (begins_comment c cs) (Some ([], linecomment (drop 1 cs))) (word place (c ∷ cs)) (kind_of c)
part_is X place c cs = choice (Some ([], behind is_blank (c ∷ cs))) (opened X place cs) (Some ((grammar.Close, place) ∷ [], cs)) (string_token X place cs)
    (id_token X place cs) (Some ([], linecomment (drop 1 cs))) (word place (c ∷ cs)) (is_blank c) (c == 0x28) (c == 0x29) (c == 0x22) (c == 0x24)
    (c == 0x3b) (is_idchar c) (begins_comment c cs)
    (no_comment c cs) (semicolon c)

by_kind : (X : Contents) (place c : ℕ) (t : List ℕ) (k : Kind) → first_of t ≡ Some c → kind_of c ≡ k
    → part X place t ≡ chosen (Some ([], behind is_blank t)) (opened X place (drop 1 t)) (Some ((grammar.Close, place) ∷ [], drop 1 t))
    (string_token X place (drop 1 t))
    (id_token X place (drop 1 t)) (begins_of t) (Some ([], linecomment (drop 1 (drop 1 t)))) (word place t) k
by_kind X place c [] k h is = absurd cc
by_kind X place c (x ∷ cs) k h is = let same : x ≡ c = cc in part_is X place x cs
    ∙ ap (chosen (Some ([], behind is_blank (x ∷ cs))) (opened X place cs) (Some ((grammar.Close, place) ∷ [], cs)) (string_token X place cs)
    (id_token X place cs) (begins_comment x cs) (Some ([], linecomment (drop 1 cs))) (word place (x ∷ cs))) (ap kind_of same ∙ is)

pub pt_blank : (X : Contents) (place c : ℕ) (t : List ℕ) → first_of t ≡ Some c → kind_of c ≡ kind.Blank → part X place t ≡ Some ([], behind is_blank t)
pt_blank X place c t h is = by_kind X place c t kind.Blank h is

pub pt_open : (X : Contents) (place c : ℕ) (t : List ℕ) → first_of t ≡ Some c → kind_of c ≡ kind.Open → part X place t ≡ opened X place (drop 1 t)
pt_open X place c t h is = by_kind X place c t kind.Open h is

pub pt_close : (X : Contents) (place c : ℕ) (t : List ℕ) → first_of t ≡ Some c → kind_of c ≡ kind.Close
    → part X place t ≡ Some ((grammar.Close, place) ∷ [], drop 1 t)
pt_close X place c t h is = by_kind X place c t kind.Close h is

pub pt_quote : (X : Contents) (place c : ℕ) (t : List ℕ) → first_of t ≡ Some c → kind_of c ≡ kind.Quote → part X place t ≡ string_token X place (drop 1 t)
pt_quote X place c t h is = by_kind X place c t kind.Quote h is

pub pt_dollar : (X : Contents) (place c : ℕ) (t : List ℕ) → first_of t ≡ Some c → kind_of c ≡ kind.Dollar → part X place t ≡ id_token X place (drop 1 t)
pt_dollar X place c t h is = by_kind X place c t kind.Dollar h is

pub pt_comment : (X : Contents) (place c : ℕ) (t : List ℕ) → first_of t ≡ Some c → kind_of c ≡ kind.Semicolon → begins_of t ≡ true
    → part X place t ≡ Some ([], linecomment (drop 1 (drop 1 t)))
pt_comment X place c t h is k = by_kind X place c t kind.Semicolon h is
    ∙ ap (λ b. elim b as (λ x. Read) [ true ↦ Some ([], linecomment (drop 1 (drop 1 t))) | false ↦ None ]) k

pub pt_word : (X : Contents) (place c : ℕ) (t : List ℕ) → first_of t ≡ Some c → kind_of c ≡ kind.Word → part X place t ≡ word place t
pt_word X place c t h is = by_kind X place c t kind.Word h is

pub pt_other : (X : Contents) (place c : ℕ) (t : List ℕ) → first_of t ≡ Some c → kind_of c ≡ kind.Other → part X place t ≡ None
pt_other X place c t h is = by_kind X place c t kind.Other h is

-- the ends of what is read
pub skipped_is : (T : List ℕ) (opens : Bool) (end e : ℕ) → opens ≡ false → end ≡ e
    → (let p : ℕ × List ℕ = (0, drop e T) in Some p) ≡ Some (opens_of opens, drop end T)
skipped_is T opens end e closed same = sym (ap (λ b. (let p : ℕ × List ℕ = (opens_of b, drop end T) in Some p)) closed
    ∙ ap (λ k. (let p : ℕ × List ℕ = (0, drop k T) in Some p)) same)

pub line_is : (T : List ℕ) (place : ℕ) → linecomment (drop 1 (drop 1 (drop place T))) ≡ drop (place + 2 + length (front is_linechar (drop (place + 2) T))) T
line_is T place = ap linecomment (ap (drop 1) (drop_one T place) ∙ drop_two T place) ∙ drop-drop (length (front is_linechar (drop (place + 2) T))) (place + 2) T

pub past : (is : ℕ → Bool) (T : List ℕ) (place c : ℕ) → first_of (drop place T) ≡ Some c → is c ≡ true
    → behind is (drop place T) ≡ drop (place + 1 + length (front is (drop (place + 1) T))) T
past is T place c h k =
    let more : length (front is (drop place T)) ≡ suc (length (front is (drop (place + 1) T))) = front_more is place T (below T place c h)
    (ap is (byte_is T place c h) ∙ k) in
    drop-drop (length (front is (drop place T))) place T
    ∙ ap (λ n. drop n T) {x = place + length (front is (drop place T))} {y = place + 1 + length (front is (drop (place + 1) T))} (omega (arith, more))

abbrev pub token_and : grammar.Placed → List ℕ → Read
token_and p rest = Some (p ∷ [], rest)

pub closed : (T : List ℕ) (place end : ℕ) (found : Option Placed) → found ≡ Some (placed token.Close place) → end ≡ place + 1
    → token_and (grammar.Close, place) (drop (place + 1) T) ≡ Some (token_of found, drop end T)
closed T place end found is same = sym (ap (λ o. (let p : List grammar.Placed × List ℕ = (token_of o, drop end T) in Some p)) is
    ∙ ap (λ k. token_and (grammar.Close, place) (drop k T)) same)

-- the tokens of a text, part by part
abbrev pub with_before : List grammar.Placed → Option (List grammar.Placed) → Option (List grammar.Placed)
with_before xs o = o >>= λ ys. Some (xs ++ ys)

before_twice : (xs ys : List grammar.Placed) (o : Option (List grammar.Placed)) → with_before xs (with_before ys o) ≡ with_before (xs ++ ys) o
before_twice xs ys None = refl
before_twice xs ys (Some zs) = ap Some (sym (append_assoc xs ys zs))

abbrev parted : Contents → ℕ → ℕ → List grammar.Placed × List ℕ → Option (List grammar.Placed)
parted X n len x = with_before x.0 (parts X n len x.1)

parts_is : (X : Contents) (n len c : ℕ) (cs : List ℕ) → parts X (suc n) len (c ∷ cs) ≡ (part X (len - length (c ∷ cs)) (c ∷ cs) >>= parted X n len)
unfolding parts
parts_is X n len c cs = refl

parts_over : (X : Contents) (n len : ℕ) → parts X n len [] ≡ Some []
unfolding parts
parts_over X zero len = refl
parts_over X (suc n) len = refl

some_left : (T : List ℕ) (place : ℕ) → place < length T → (t : List ℕ) → drop place T ≡ t → length t ≡ length T - place
some_left T place h t is = sym (ap length is) ∙ length-drop place T

pub pa_step : (X : Contents) (m n place : ℕ) (T : List ℕ) → m ≡ suc n → place < length T
    → parts X m (length T) (drop place T) ≡ (part X place (drop place T) >>= parted X n (length T))
pa_step X m n place T one below = go (drop place T) refl
  where
    go : (t : List ℕ) → drop place T ≡ t → parts X m (length T) t ≡ (part X place t >>= parted X n (length T))
    go [] is = absurd (let l : length (drop place T) ≡ length T - place = length-drop place T in let e : length (drop place T) ≡ 0 = ap length is
        in omega (arith, l, e, below))
    go (c ∷ cs) is = ap (λ k. parts X k (length T) (c ∷ cs)) one ∙ parts_is X n (length T) c cs
        ∙ ap (λ k. part X k (c ∷ cs) >>= parted X n (length T)) {x = length T - length (c ∷ cs)} {y = place}
        (let l : length (c ∷ cs) ≡ length T - place = some_left T place below (c ∷ cs) is in omega (arith, l, below))

pub pa_more : (X : Contents) (m n place end : ℕ) (T : List ℕ) (all before ts : List grammar.Placed) → m ≡ suc n → place < length T
    → part X place (drop place T) ≡ Some (ts, drop end T) → all ≡ before ++ ts
    → with_before before (parts X m (length T) (drop place T)) ≡ with_before all (parts X n (length T) (drop end T))
pa_more X m n place end T all before ts one below is whole = ap (with_before before) (pa_step X m n place T one below
    ∙ ap (λ o. o >>= parted X n (length T)) is) ∙ before_twice before ts (parts X n (length T) (drop end T))
    ∙ ap (λ xs. with_before xs (parts X n (length T) (drop end T))) (sym whole)

pub pa_none : (X : Contents) (m n place : ℕ) (T : List ℕ) (before : List grammar.Placed) → m ≡ suc n → place < length T
    → part X place (drop place T) ≡ None → with_before before (parts X m (length T) (drop place T)) ≡ None
pa_none X m n place T before one below none = ap (with_before before) (pa_step X m n place T one below ∙ ap (λ o. o >>= parted X n (length T)) none)

pub pa_end : (X : Contents) (m len : ℕ) (t : List ℕ) (before : List grammar.Placed) → t ≡ [] → with_before before (parts X m len t) ≡ Some before
pa_end X m len t before none = ap (λ x. with_before before (parts X m len x)) none ∙ ap (with_before before) (parts_over X m len) ∙ ap Some (append-nil before)

pub seen_more : (ts : List Placed) (t : Placed) → seen_all (ts ++ t ∷ []) ≡ seen_all ts ++ (seen t.token, t.span.offset) ∷ []
seen_more [] t = refl
seen_more (x ∷ ts) t = ap (λ ys. (seen x.token, x.span.offset) ∷ ys) (seen_more ts t)

pub named_more : (ts : List Placed) (t : Placed) → All (λ p. IsNamed p.token) ts → IsNamed t.token → All (λ p. IsNamed p.token) (ts ++ t ∷ [])
named_more ts t before now = All-push (λ p. IsNamed p.token) ts t before now

pub strict : (a b : ℕ) → a ≤ b → (a ≡ b → ⊥) → a < b
strict a b h k = go (cases_lt a b)
  where
    go : (a < b) ⊎ (b ≤ a) → a < b
    go (inl l) = l
    go (inr over) = absurd (k (omega (arith, h, over)))
