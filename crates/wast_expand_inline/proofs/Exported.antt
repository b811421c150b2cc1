-- Tests of fields on the exports of one item and the fields after them.
use Rattle.std.proofs.Common.{◌≡◌, ℕ, Bool, true, List, [], ◌∷◌, ◌++◌, map, ◌∙◌}
use Rattle.std.specs.List.{list_all}
use Rattle.std.specs.Borrow.{Bor}
use Rattle.std.specs.Cmp.Derive.{both_true}
use Rattle.std.proofs.lemmas.List.Folds.{list_all-append}
use Rattle.wast_expand_inline.specs.Tree.{Span, Index, ExportKind, ModuleField}
use Rattle.wast_expand_inline.specs.WriteOut.{export_of}

module _ (passes : ModuleField → Bool) where
  pub both_pass : (xs ys : List ModuleField) → list_all passes xs ≡ true → list_all passes ys ≡ true → list_all passes (xs ++ ys) ≡ true
  both_pass xs ys h k = list_all-append passes xs ys ∙ both_true h k

  pub behind_exports : {span : Span} {k : ExportKind} {i : Index} (names : List (Bor (List ℕ))) (rest : List ModuleField)
      → ((name : Bor (List ℕ)) → passes (export_of span k i name) ≡ true) → list_all passes rest ≡ true
      → list_all passes (map (export_of span k i) names ++ rest) ≡ true
  behind_exports [] rest each h = h
  behind_exports (name ∷ names) rest each h = both_true (each name) (behind_exports names rest each h)
