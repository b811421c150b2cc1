-- Steps of a rule: after a reader has read a part, the rest of the rule has the result that its start had before.
--
--   (invoke "f")      after `(invoke`, the rule of actions reads on at the name
use Rattle.std.proofs.Common.{◌≡◌, ◌≢◌, ◌∙◌, ℕ, List, ◌++◌, length, Option, None, Some, sym, ap, subst, append_assoc}
use Rattle.wat_grammar.specs.Parts.{◌>>=◌}
use Rattle.wat_syntax.specs.Tokens.{Toks, Parse, optional}
use Rattle.wast_script.specs.Constants.{Value}
use Rattle.wast_script.specs.declared.reader.Lists.{Lists}
use Rattle.wast_script.specs.declared.reader.Reader.{Reader}
use Rattle.wast_script.specs.Readers.{left, read_values, IsRefused, IsFirst, HaveLanes, Decides, Expects, Finds, Reads}
use Rattle.wast_script.proofs.Faults.{by_fault}
use Rattle.wast_script.proofs.Goes.{Goes, first_same, decides, expects, finds}

-- A reader read a part of what a rule reads. If there is no error afterwards, the start of the rule is its rest. If the reader rejected
-- the tokens, the start is `None`.
pub record Steps {T : Type 0} (old new : Reader) (start rest : Option T) : Type 0 where
  pub commands : new.lists.commands ≡ old.lists.commands
  pub tokens : new.tokens ≡ old.tokens
  pub clean : new.fault ≡ None → old.fault ≡ None
  pub lanes : new.fault ≡ None → HaveLanes old.lists → HaveLanes new.lists
  pub values : new.fault ≡ None → HaveLanes old.lists → IsFirst (read_values old.lists) (read_values new.lists)
  pub goes : new.fault ≡ None → HaveLanes old.lists → start ≡ rest
  pub keeps : old.fault ≢ None → new.fault ≡ old.fault
  pub refuses : old.fault ≡ None → HaveLanes old.lists → IsRefused new.fault → start ≡ None

first_on : {T : Type 0} (xs ys zs : List T) → IsFirst xs ys → IsFirst ys zs → IsFirst xs zs
first_on xs ys zs p q = record { more = p.more ++ q.more; is = q.is ∙ ap (λ us. us ++ q.more) p.is ∙ append_assoc xs p.more q.more }

-- one step after another
pub both : {T : Type 0} (a b c : Reader) (p q r : Option T) → Steps a b p q → Steps b c q r → Steps a c p r
both {T = T} a b c p q r s t = record {
  commands = t.commands ∙ s.commands;
  tokens = t.tokens ∙ s.tokens;
  clean = λ h. s.clean (t.clean h);
  lanes = λ h l. t.lanes h (s.lanes (t.clean h) l);
  values = λ h l. first_on (read_values a.lists) (read_values b.lists) (read_values c.lists) (s.values (t.clean h) l) (t.values h (s.lanes (t.clean h) l));
  goes = λ h l. s.goes (t.clean h) l ∙ t.goes h (s.lanes (t.clean h) l);
  keeps = λ h. t.keeps (λ e. h (s.clean e)) ∙ s.keeps h;
  refuses = λ h l f. by_fault b c t.keeps f (λ e. s.goes e l ∙ t.refuses e (s.lanes e l) f) (s.refuses h l);
}

-- the same result in other words
pub turned : {T : Type 0} (old new : Reader) (p q r : Option T) → Steps old new p q → (new.fault ≡ None → HaveLanes old.lists → q ≡ r) → Steps old new p r
turned old new p q r s e = record {
  commands = s.commands;
  tokens = s.tokens;
  clean = s.clean;
  lanes = s.lanes;
  values = s.values;
  goes = λ h l. s.goes h l ∙ e h l;
  keeps = s.keeps;
  refuses = s.refuses;
}

-- steps that add nothing to the lists
pub by_goes : {T : Type 0} (old new : Reader) (p q : Option T) → new.lists ≡ old.lists → new.tokens ≡ old.tokens → Goes old new p q → Steps old new p q
by_goes old new p q lists tokens g = record {
  commands = ap (λ (l : Lists). l.commands) lists;
  tokens = tokens;
  clean = g.clean;
  lanes = λ h l. subst HaveLanes (sym lists) l;
  values = λ h l. first_same (read_values old.lists) (read_values new.lists) (ap read_values lists);
  goes = λ h l. g.goes h;
  keeps = g.keeps;
  refuses = λ h l f. g.refuses h f;
}

-- a part, a terminal, and a part that can be left out
pub by_decides : {S T : Type 0} (rule : Toks → Parse S) (old new : Reader) (x : S) (next : S × Toks → Option T) → Decides rule old new x
    → Steps old new (rule (left old) >>= next) (next (x, left new))
by_decides rule old new x next d = by_goes old new (rule (left old) >>= next) (next (x, left new)) d.lists d.tokens (decides rule old new x next d)

pub by_expects : {T : Type 0} (rule : Toks → Option Toks) (old new : Reader) (next : Toks → Option T) → Expects rule old new
    → Steps old new (rule (left old) >>= next) (next (left new))
by_expects rule old new next d = by_goes old new (rule (left old) >>= next) (next (left new)) d.lists d.tokens (expects rule old new next d)

pub by_finds : {S T : Type 0} (rule : Toks → Parse S) (old new : Reader) (x : Option S) (next : Option S × Toks → Option T) → Finds rule old new x
    → Steps old new (optional rule (left old) >>= next) (next (x, left new))
by_finds rule old new x next d = by_goes old new (optional rule (left old) >>= next) (next (x, left new)) d.lists d.tokens (finds rule old new x next d)

-- a part with values
pub by_reads : {S T : Type 0} (rule : Toks → Parse S) (old new : Reader) (part : List Value → S) (has : ℕ → Type 0) (next : S × Toks → Option T)
    → Reads rule old new part has → Steps old new (rule (left old) >>= next) (next (part (read_values new.lists), left new))
by_reads rule old new part has next d = record {
  commands = d.commands;
  tokens = d.tokens;
  clean = d.clean;
  lanes = d.lanes;
  values = d.values;
  goes = λ h l. ap (λ o. o >>= next) (d.gives h l);
  keeps = d.keeps;
  refuses = λ h l f. ap (λ o. o >>= next) (d.refuses h l f);
}

-- all of a rule, as its steps
pub as_steps : {T : Type 0} (rule : Toks → Parse T) (old new : Reader) (part : List Value → T) (has : ℕ → Type 0)
    → Reads rule old new part has → Steps old new (rule (left old)) (Some (part (read_values new.lists), left new))
as_steps rule old new part has r = record {
  commands = r.commands;
  tokens = r.tokens;
  clean = r.clean;
  lanes = r.lanes;
  values = r.values;
  goes = r.gives;
  keeps = r.keeps;
  refuses = r.refuses;
}

-- all steps are taken
pub all_read : {T : Type 0} (rule : Toks → Parse T) (old new : Reader) (part : List Value → T) (has : ℕ → Type 0)
    → Steps old new (rule (left old)) (Some (part (read_values new.lists), left new))
    → (new.fault ≡ None → HaveLanes old.lists → has (length new.lists.values.items))
    → Reads rule old new part has
all_read rule old new part has s h = record {
  commands = s.commands;
  tokens = s.tokens;
  clean = s.clean;
  lanes = s.lanes;
  values = s.values;
  within = h;
  gives = s.goes;
  keeps = s.keeps;
  refuses = s.refuses;
}
