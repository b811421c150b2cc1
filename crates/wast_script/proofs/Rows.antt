-- The lanes of a vector, as a loop reads them: so many are left.
use Rattle.std.proofs.Common.{◌≡◌, ◌≢◌, ◌∙◌, ℕ, suc, ◌+◌, ◌-◌, ◌<◌, List, [], ◌∷◌, ◌++◌, None, Some, refl, sym, ap, arith, append-nil}
use Rattle.wat_grammar.specs.Parts.{◌>>=◌}
use Rattle.wat_syntax.specs.Tokens.{Toks, Parse, with_parts}
use Rattle.wat_syntax.specs.Instructions.{times}
use Rattle.wast_script.specs.declared.values.Number.{Number}
use Rattle.wast_script.specs.declared.reader.Lists.{Lists}
use Rattle.wast_script.specs.declared.reader.Reader.{Reader}
use Rattle.wast_script.specs.Readers.{left, IsRefused, Decides, PushesLane, ReadsLanes}
use Rattle.wast_script.proofs.Faults.{none_refused, by_fault}
use Rattle.wat_text.proofs.Loops.{after_both, none_after}

pub record Rows (rule : Toks → Parse Number) (all more : ℕ) (old now : Reader) : Type 0 where
  pub commands : now.lists.commands ≡ old.lists.commands
  pub values : now.lists.values ≡ old.lists.values
  pub tokens : now.tokens ≡ old.tokens
  pub clean : now.fault ≡ None → old.fault ≡ None
  pub goes : now.fault ≡ None → with_parts old.lists.lanes.items (times all rule (left old)) ≡ with_parts now.lists.lanes.items (times more rule (left now))
  pub keeps : old.fault ≢ None → now.fault ≡ old.fault
  pub refuses : old.fault ≡ None → IsRefused now.fault → times all rule (left old) ≡ None

pub rows_first : (rule : Toks → Parse Number) (all : ℕ) (old : Reader) → Rows rule all all old old
rows_first rule all old = record {
  commands = refl;
  values = refl;
  tokens = refl;
  clean = λ h. h;
  goes = λ h. refl;
  keeps = λ h. refl;
  refuses = λ h f. absurd (none_refused old.fault h f);
}

one_lane : (rule : Toks → Parse Number) (n : ℕ) (toks rest : Toks) (x : Number) (xs : List Number) → rule toks ≡ Some (x, rest)
    → with_parts xs (times (suc n) rule toks) ≡ with_parts (xs ++ x ∷ []) (times n rule rest)
one_lane rule n toks rest x xs e =
    ap (λ o. with_parts xs (o >>= λ y. times n rule y.1 >>= λ ys. Some (y.0 ∷ ys.0, ys.1))) e ∙ sym (after_both xs (x ∷ []) (times n rule rest))

pub rows_more : (rule : Toks → Parse Number) (all counter end : ℕ) (first old mid new : Reader) (x : Number)
    → counter < end → Rows rule all (end - counter) first old → Decides rule old mid x → PushesLane mid new x
    → Rows rule all (end - (counter + 1)) first new
rows_more rule all counter end first old mid new x few r d p = record {
  commands = p.commands ∙ ap (λ (l : Lists). l.commands) d.lists ∙ r.commands;
  values = p.values ∙ ap (λ (l : Lists). l.values) d.lists ∙ r.values;
  tokens = p.tokens ∙ d.tokens ∙ r.tokens;
  clean = λ h. r.clean (d.clean (p.clean h));
  goes = λ h. r.goes (d.clean (p.clean h)) ∙ ap (λ k. with_parts old.lists.lanes.items (times k rule (left old))) one
      ∙ one_lane rule n (left old) (left mid) x old.lists.lanes.items (d.gives (p.clean h))
      ∙ ap (λ (l : Lists). with_parts (l.lanes.items ++ x ∷ []) (times n rule (left mid))) (sym d.lists)
      ∙ ap (λ xs. with_parts xs (times n rule (left mid))) (sym (p.pushed h)) ∙ ap (λ t. with_parts new.lists.lanes.items (times n rule t)) (sym (p.left h));
  keeps = λ h. p.keeps (λ g. h (r.clean (d.clean g))) ∙ d.keeps (λ g. h (r.clean g)) ∙ r.keeps h;
  refuses = λ h f. by_fault mid new p.keeps f (λ e. absurd (p.memory e f))
      (λ g. by_fault old mid d.keeps g
      (λ e. none_after first.lists.lanes.items (times all rule (left first))
      (r.goes e ∙ ap (λ k. with_parts old.lists.lanes.items (times k rule (left old))) one
      ∙ ap (λ o. with_parts old.lists.lanes.items (o >>= λ y. times n rule y.1 >>= λ ys. Some (y.0 ∷ ys.0, ys.1))) (d.refuses e g)))
      (r.refuses h));
}
  where
    n : ℕ
    n = end - (counter + 1)

    one : end - counter ≡ suc n
    one = omega (arith, few)

pub rows_last : (rule : Toks → Parse Number) (all more : ℕ) (old now : Reader) → more ≡ 0 → Rows rule all more old now → ReadsLanes (times all rule) old now
rows_last rule all more old now none r = record {
  commands = r.commands;
  values = r.values;
  tokens = r.tokens;
  clean = r.clean;
  gives = λ h. r.goes h ∙ ap (λ k. with_parts now.lists.lanes.items (times k rule (left now))) none
      ∙ ap (λ xs. let o : List Number × Toks = (xs, left now) in Some o) (append-nil now.lists.lanes.items);
  keeps = r.keeps;
  refuses = r.refuses;
}
