-- One name more is listed: its record is after the others, and so are its bytes.
use Rattle.std.proofs.Common.{◌+◌, ◌<◌, ◌≤◌, suc, add-one, get_or, drop, sym, ◌≡◌, ◌∙◌, ℕ, List, [], ◌∷◌, ◌++◌, length, ap, append_assoc, refl}
use Rattle.std.proofs.Math.Seq.{drop-cons}
use Rattle.std.proofs.lemmas.List.{length-append, append-nil, drop_all}
use Rattle.wat_bytes.specs.declared.names.Denoted.{Denoted}
use Rattle.rigyomad_c.specs.declared.lists.Name.{Name}
use Rattle.rigyomad_c.specs.Lists.{bytes_in, bytes_of, name_at, names_from}

one_record : (start : ℕ) (x : Denoted) (rest : List Denoted) → name_at start x ∷ names_from (start + length (bytes_in x)) rest ≡ names_from start (x ∷ rest)
unfolding names_from
one_record start x rest = refl

one_text : (x : Denoted) (rest : List Denoted) → bytes_in x ++ bytes_of rest ≡ bytes_of (x ∷ rest)
unfolding bytes_of
one_text x rest = refl

names-more : (names : List Name) (bytes : List ℕ) (x : Denoted) (rest : List Denoted) (whole : List Name)
    → names ++ names_from (length bytes) (x ∷ rest) ≡ whole
    → (names ++ name_at (length bytes) x ∷ []) ++ names_from (length (bytes ++ bytes_in x)) rest ≡ whole
names-more names bytes x rest whole before =
    append_assoc names (name_at (length bytes) x ∷ []) (names_from (length (bytes ++ bytes_in x)) rest)
    ∙ (ap (λ n. names ++ name_at (length bytes) x ∷ names_from n rest) (length-append bytes (bytes_in x))
    ∙ (ap (λ l. names ++ l) (one_record (length bytes) x rest) ∙ before))

bytes-more : (bytes : List ℕ) (x : Denoted) (rest : List Denoted) (whole : List ℕ) → bytes ++ bytes_of (x ∷ rest) ≡ whole
    → (bytes ++ bytes_in x) ++ bytes_of rest ≡ whole
bytes-more bytes x rest whole before = append_assoc bytes (bytes_in x) (bytes_of rest) ∙ (ap (λ l. bytes ++ l) (one_text x rest) ∙ before)

-- The same in a loop over the names, at the item that comes next.
module _ (all : List Denoted) (i : ℕ) (x : Denoted) (below : i < length all) where
  rest : drop i all ≡ get_or all i x ∷ drop (i + 1) all
  rest = drop-cons all i x below ∙ ap (λ n. get_or all i x ∷ drop n all) (sym (add-one i))

  pub names_go_on : (names : List Name) (bytes : List ℕ) (whole : List Name) → names ++ names_from (length bytes) (drop i all) ≡ whole
      → (names ++ name_at (length bytes) (get_or all i x) ∷ []) ++ names_from (length (bytes ++ bytes_in (get_or all i x))) (drop (i + 1) all) ≡ whole
  names_go_on names bytes whole before = names-more names bytes (get_or all i x) (drop (i + 1) all) whole
      (ap (λ l. names ++ names_from (length bytes) l) (sym rest) ∙ before)

  pub bytes_go_on : (bytes whole : List ℕ) → bytes ++ bytes_of (drop i all) ≡ whole
      → (bytes ++ bytes_in (get_or all i x)) ++ bytes_of (drop (i + 1) all) ≡ whole
  bytes_go_on bytes whole before = bytes-more bytes (get_or all i x) (drop (i + 1) all) whole (ap (λ l. bytes ++ bytes_of l) (sym rest) ∙ before)

-- The same after the last one.
module _ (all : List Denoted) (i : ℕ) (past : length all ≤ i) where
  pub names_end : (names : List Name) (start : ℕ) (whole : List Name) → names ++ names_from start (drop i all) ≡ whole → names ≡ whole
  unfolding names_from
  names_end names start whole before =
      let none : names_from start (drop i all) ≡ [] = ap (λ l. names_from start l) (drop_all i all past) in
      sym (append-nil names) ∙ (ap (λ l. names ++ l) (sym none) ∙ before)

  pub bytes_end : (bytes whole : List ℕ) → bytes ++ bytes_of (drop i all) ≡ whole → bytes ≡ whole
  unfolding bytes_of
  bytes_end bytes whole before =
      let none : bytes_of (drop i all) ≡ [] = ap bytes_of (drop_all i all past) in
      sym (append-nil bytes) ∙ (ap (λ l. bytes ++ l) (sym none) ∙ before)
