-- The labels of `br_table`, as a loop reads them: the last label is kept apart from those before it.
--
--   br_table 0 1 2      labels 0 and 1, and the default 2
use Rattle.std.proofs.Common.{◌≡◌, ◌∙◌, ℕ, ◌-◌, ◌+◌, ◌<◌, true, List, [], ◌∷◌, ◌++◌, None, Some, refl, sym, ap}
use Rattle.wat_grammar.specs.Parts.{◌>>=◌}
use Rattle.wat_syntax.specs.Tree.{Index, Instruction}
use Rattle.wat_syntax.specs.Tree.instr
use Rattle.wat_syntax.specs.Tokens.{Toks, Parse, many, with_parts}
use Rattle.wat_syntax.specs.Values.{index}
use Rattle.wat_syntax.specs.Types.{is_index_next}
use Rattle.wat_syntax.specs.Instructions.{last, before_last}
use Rattle.wat_syntax.specs.Bare.{bare_index, bare_indices}
use Rattle.wat_text.specs.declared.reader.Reader.{Reader}
use Rattle.wat_text.specs.Readers.{left, Reads, Decides, Pushes}
use Rattle.wat_text.proofs.Steps.{Steps, Puts, both_steps, reads_step, by_pushing, mapped_puts}

next_last : (old new : Reader) (l x : Index) (found after : List Index) → Puts old new l found after → Puts old new x (found ++ l ∷ []) (after ++ x ∷ [])
next_last old new l x found after p = record {
  made = p.made;
  clean = p.clean;
  pushed = λ h. ap (λ ys. ys ++ x ∷ []) (p.pushed h);
  left = p.left;
  keeps = p.keeps;
  memory = p.memory;
}

as_read : (old new : Reader) (x : Index) → Decides index old new x → Reads index old new x
as_read old new x d = record {
  made = λ h. sym d.make ∙ h;
  clean = d.clean;
  gives = λ h. d.gives h.0;
  keeps = d.keeps;
  refuses = λ h m f. d.refuses h f;
}

-- one label more
pub one_label : (start : Parse (List Index)) (first old a new : Reader) (counter end : ℕ) (l x : Index) (found after : List Index)
    → counter < end → is_index_next (left old) ≡ true → Decides index old a (bare_index x) → Pushes a new l found after
    → Steps first old start (with_parts (bare_indices found ++ bare_index l ∷ []) (many is_index_next index (end - counter) (left old)))
    → Steps first new start (with_parts (bare_indices after ++ bare_index x ∷ []) (many is_index_next index (end - (counter + 1)) (left new)))
one_label start first old a new counter end l x found after few yet r p s =
    both_steps first old new start _ _ s
    (reads_step is_index_next index old a new counter end (bare_index x) (bare_indices found ++ bare_index l ∷ [])
    (bare_indices after ++ bare_index x ∷ []) few yet (as_read old a (bare_index x) r)
    (next_last a new (bare_index l) (bare_index x) (bare_indices found) (bare_indices after)
    (mapped_puts bare_index a new l found after (by_pushing a new l found after p))))

ends_with : (x y : Index) (xs ys : List Index) → x ∷ xs ≡ ys ++ y ∷ [] → (before_last x xs ≡ ys) × (last x xs ≡ y)
ends_with x y [] [] e = (refl, cc)
ends_with x y [] (z ∷ []) e = absurd cc
ends_with x y [] (z ∷ w ∷ ys) e = absurd cc
ends_with x y (z ∷ xs) [] e = absurd cc
ends_with x y (z ∷ xs) (w ∷ ys) e =
    let is = ends_with z y xs ys cc in
    let same : x ≡ w = cc in
    let before : x ∷ before_last z xs ≡ w ∷ ys = ap (λ v. v ∷ before_last z xs) same ∙ ap (λ vs. w ∷ vs) is.0 in
    (before, is.1)

abbrev table_of : Index → Parse (List Index) → Parse Instruction
table_of x p = p >>= λ xs. Some (instr.br_table (record { labels = before_last x xs.0; default = last x xs.0 }), xs.1)

-- the instruction, by all its labels
pub table_is : (x y : Index) (ys : List Index) (p : Parse (List Index)) (rest : Toks) → with_parts (x ∷ []) p ≡ Some (ys ++ y ∷ [], rest)
    → table_of x p ≡ Some (instr.br_table (record { labels = ys; default = y }), rest)
table_is x y ys None rest e = absurd cc
table_is x y ys (Some p) rest e =
    let is = ends_with x y p.0 ys (ap {A = List Index × Toks} (λ q. q.0) (the_same e)) in
    let after : p.1 ≡ rest = ap {A = List Index × Toks} (λ q. q.1) (the_same e) in
    let made : List Index × Index → Toks → Parse Instruction = λ l t. Some (instr.br_table (record { labels = l.0; default = l.1 }), t) in
    ap (λ ls. made (ls, last x p.0) p.1) is.0 ∙ ap (λ l. made (ys, l) p.1) is.1 ∙ ap (made (ys, y)) after
  where
    the_same : {A : Type 0} {x y : A} → Some x ≡ Some y → x ≡ y
    the_same e = cc
