-- Bytes with reserved memory for more, the model of `Room`, and its rules and proofs as a sink.
--
--   items = [7], left = 2, after appending 8:      items = [7, 8], left = 1
--   after cutting to size 0:                       items = [],     left = 3
use Rattle.std.proofs.Common.{◌≡◌, ◌≤◌, ◌+◌, ◌-◌, ℕ, List, [], ◌∷◌, ◌++◌, take, length, refl, sym, ap, ◌∙◌, append_assoc, arith, length-append}
use Rattle.std.specs.Coded.{Coded, code_by, coded×, coded_list, coded_ℕ}
use Rattle.std.proofs.lemmas.List.{append-nil, take_at}
use Rattle.wasm_ops.specs.Leb128.{unsigned}
use Rattle.wasm_ops.specs.SinkLaws as laws
use Rattle.wasm_ops.specs.Sinks.{SinkRules}
use Rattle.wasm_ops.specs.declared.sink.Refusal.TheVariants as refusal

pub record Filled : Type 0 where
  pub items : List ℕ
  pub left : ℕ

-- Its code is the pair of its fields.
abbrev pub filled_code : Coded Filled
filled_code =
    code_by (List ℕ × ℕ) (coded× (coded_list coded_ℕ) coded_ℕ)
    (λ f. (f.items, f.left)) (λ p. record { items = p.0; left = p.1 }) (λ _. refl)

-- The bytes are added at the end, and their number is subtracted from `left`.
abbrev pub appended : Filled → Filled → List ℕ → Type 0
appended a b x = (b.items ≡ a.items ++ x) × (b.left + length x ≡ a.left)

-- The first n bytes are left, and the memory of the others is available again.
abbrev pub is_cut : Filled → ℕ → Filled → Type 0
is_cut a n b = (b.items ≡ take n a.items) × (b.left + n ≡ a.left + length a.items)

-- The byte at that position is replaced by the bytes of a number, and all but one of them are subtracted from `left`.
abbrev pub is_set : Filled → ℕ → ℕ → Filled → Type 0
is_set a at n b = (b.items ≡ laws.with_number a.items at n) × (b.left + length (unsigned n) ≡ a.left + 1)

pub none : (a : Filled) → appended a a []
none a = (sym (append-nil a.items), omega arith)

pub grows : (a b : Filled) (x : List ℕ) → appended a b x → length b.items ≡ length a.items + length x
grows a b x h = ap length h.0 ∙ length-append a.items x

pub joins : (a b c : Filled) (x y : List ℕ) → appended a b x → appended b c y → appended a c (x ++ y)
joins a b c x y h k = (k.0 ∙ ap (λ l. l ++ y) h.0 ∙ append_assoc a.items x y, omega (arith, length-append x y, h.1, k.1))

pub cuts_back : (a b c : Filled) (x : List ℕ) → appended a b x → is_cut b (length a.items) c → appended a c []
cuts_back a b c x h k = (k.0 ∙ ap (take (length a.items)) h.0 ∙ take_at a.items x (length a.items) refl ∙ sym (append-nil a.items), omega (arith, grows a b x h, h.1, k.1))

pub sets : (a b c : Filled) (byte n : ℕ) (x : List ℕ) → appended a b (byte ∷ x) → is_set b (length a.items) n c → appended a c (unsigned n ++ x)
sets a b c byte n x h k = (laws.sets a.items b.items c.items byte n x h.0 k.0, omega (arith, length-append (unsigned n) x, h.1, k.1))

pub fits_less : (a : Filled) (m n : ℕ) → m ≤ n → n ≤ a.left → m ≤ a.left
fits_less a m n le h = omega (arith, le, h)

pub fits_rest : (a b : Filled) (x : List ℕ) (n : ℕ) → length x ≤ n → n ≤ a.left → appended a b x → n - length x ≤ b.left
fits_rest a b x n le h k = omega (arith, le, h, k.1)

-- At most `left` bytes fit. More than that is too large.
abbrev pub rules : SinkRules Filled
rules = record { appended = appended; fits = λ a n. n ≤ a.left; size_of = λ a. length a.items; is_cut = is_cut; is_set = is_set; refusal = refusal.TooLarge }
