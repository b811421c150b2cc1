-- Steps of a rule that does not depend on the lists of the reader, and the rules of values.
use Rattle.std.proofs.Common.{◌≡◌, ◌≢◌, ◌∙◌, ℕ, ◌≤◌, List, [], ◌++◌, length, Option, None, Some, sym, ap, subst, arith, append-nil}
use Rattle.std.proofs.lemmas.List.{length-map}
use Rattle.wat_grammar.specs.Parts.{◌>>=◌}
use Rattle.wat_syntax.specs.Tokens.{Toks, Parse, lparen, rparen, optional, with_parts}
use Rattle.wast_script.specs.declared.values.Number.{Number}
use Rattle.wast_script.specs.declared.values.Shape.{Shape}
use Rattle.wast_script.specs.declared.values.Value as code_value
use Rattle.wast_script.specs.declared.values.Value.TheVariants as val
use Rattle.wast_script.specs.declared.words.Use.{Use}
use Rattle.wast_script.specs.declared.words.Constant.{Constant}
use Rattle.wast_script.specs.declared.reader.Lists.{Lists}
use Rattle.wast_script.specs.declared.reader.Reader.{Reader}
use Rattle.wast_script.specs.Words.{shape_named}
use Rattle.wast_script.specs.Constants.{Value, V128, word_that, lanes, vector, constant_of, next_constant, value, values}
use Rattle.wast_script.specs.Scripts.{part, value_in}
use Rattle.wast_script.specs.Readers.{left, read_values, IsRefused, IsFirst, HasLanes, Decides, Expects, Finds, ReadsLanes, ReadsValue, ReadsOnto, Reads}
use Rattle.wast_script.proofs.Faults.{none_refused, by_fault}
use Rattle.wast_script.proofs.Parts.{part_last}

-- A reader read a part of what a rule reads.
pub record Goes {T : Type 0} (old new : Reader) (start rest : Option T) : Type 0 where
  pub clean : new.fault ≡ None → old.fault ≡ None
  pub goes : new.fault ≡ None → start ≡ rest
  pub keeps : old.fault ≢ None → new.fault ≡ old.fault
  pub refuses : old.fault ≡ None → IsRefused new.fault → start ≡ None

pub chain : {T : Type 0} (a b c : Reader) (p q r : Option T) → Goes a b p q → Goes b c q r → Goes a c p r
chain a b c p q r s t = record {
  clean = λ h. s.clean (t.clean h);
  goes = λ h. s.goes (t.clean h) ∙ t.goes h;
  keeps = λ h. t.keeps (λ e. h (s.clean e)) ∙ s.keeps h;
  refuses = λ h f. by_fault b c t.keeps f (λ e. s.goes e ∙ t.refuses e f) (s.refuses h);
}

-- a reader that keeps its fault
pub same_fault : {T : Type 0} (old new : Reader) (p q : Option T) → new.fault ≡ old.fault → p ≡ q → Goes old new p q
same_fault old new p q same e =
    record { clean = λ h. sym same ∙ h; goes = λ h. e; keeps = λ h. same; refuses = λ h f. absurd (none_refused new.fault (same ∙ h) f) }

-- all of a rule
pub as_goes : {T : Type 0} (rule : Toks → Parse T) (old new : Reader) (x : T) → Decides rule old new x → Goes old new (rule (left old)) (Some (x, left new))
as_goes rule old new x d = record { clean = d.clean; goes = d.gives; keeps = d.keeps; refuses = d.refuses }

pub decided_by : {T : Type 0} (rule : Toks → Parse T) (old new : Reader) (x : T) → new.lists ≡ old.lists
    → new.tokens ≡ old.tokens → Goes old new (rule (left old)) (Some (x, left new)) → Decides rule old new x
decided_by rule old new x lists tokens g = record { lists = lists; tokens = tokens; clean = g.clean; gives = g.goes; keeps = g.keeps; refuses = g.refuses }

pub decides : {S T : Type 0} (rule : Toks → Parse S) (old new : Reader) (x : S) (next : S × Toks → Option T) → Decides rule old new x
    → Goes old new (rule (left old) >>= next) (next (x, left new))
decides rule old new x next d = record {
  clean = d.clean;
  goes = λ h. ap (λ o. o >>= next) (d.gives h);
  keeps = d.keeps;
  refuses = λ h f. ap (λ o. o >>= next) (d.refuses h f);
}

pub expects : {T : Type 0} (rule : Toks → Option Toks) (old new : Reader) (next : Toks → Option T)
    → Expects rule old new → Goes old new (rule (left old) >>= next) (next (left new))
expects rule old new next d = record {
  clean = d.clean;
  goes = λ h. ap (λ o. o >>= next) (d.gives h);
  keeps = d.keeps;
  refuses = λ h f. ap (λ o. o >>= next) (d.refuses h f);
}

pub finds : {S T : Type 0} (rule : Toks → Parse S) (old new : Reader) (x : Option S) (next : Option S × Toks → Option T) → Finds rule old new x
    → Goes old new (optional rule (left old) >>= next) (next (x, left new))
finds rule old new x next d = same_fault old new (optional rule (left old) >>= next) (next (x, left new)) d.fault (ap (λ o. o >>= next) d.gives)

a_value : {T : Type 0} (rule : Toks → Parse Value) (old new : Reader) (v : code_value.Value) (next : Value × Toks → Option T) → ReadsValue rule old new v
    → Goes old new (rule (left old) >>= next) (next (value_in new.lists.lanes.items v, left new))
a_value rule old new v next d = record {
  clean = d.clean;
  goes = λ h. ap (λ o. o >>= next) (d.gives h);
  keeps = d.keeps;
  refuses = λ h f. ap (λ o. o >>= next) (d.refuses h f);
}

pub first_same : {T : Type 0} (xs ys : List T) → ys ≡ xs → IsFirst xs ys
first_same xs ys e = record { more = []; is = e ∙ sym (append-nil xs) }

-- a value in its parentheses
pub form_read : (u : Use) (a b c d e : Reader) (word : Constant) (v : code_value.Value) → Expects lparen a b
    → Decides (next_constant u) b c word → ReadsValue (constant_of word u) c d v → Expects rparen d e
    → ReadsValue (value u) a e v
form_read u a b c d e word v open_ next is close = record {
  commands = ap (λ (l : Lists). l.commands) close.lists ∙ is.commands ∙ ap (λ (l : Lists). l.commands) (next.lists ∙ open_.lists);
  values = ap (λ (l : Lists). l.values) close.lists ∙ is.values ∙ ap (λ (l : Lists). l.values) (next.lists ∙ open_.lists);
  tokens = close.tokens ∙ is.tokens ∙ next.tokens ∙ open_.tokens;
  clean = all.clean;
  lanes = λ h. subst (λ (l : Lists). IsFirst a.lists.lanes.items l.lanes.items) (sym close.lists)
      (subst (λ (l : Lists). IsFirst l.lanes.items d.lists.lanes.items) (next.lists ∙ open_.lists) (is.lanes (close.clean h)));
  within = λ h. subst (λ (l : Lists). HasLanes (length l.lanes.items) v) (sym close.lists) (is.within (close.clean h));
  gives = λ h. all.goes h ∙ ap (λ (l : Lists). let o : Value × Toks = (value_in l.lanes.items v, left e) in Some o) (sym close.lists);
  keeps = all.keeps;
  refuses = all.refuses;
}
  where
    at_end : Value → Toks → Parse Value
    at_end x t = Some (x, t)

    all : Goes a e (value u (left a)) (Some (value_in d.lists.lanes.items v, left e))
    all = chain a b e _ _ _ (expects lparen a b (λ t. next_constant u t >>= λ c. constant_of c.0 u c.1 >>= λ v. rparen v.1 >>= λ rest. Some (v.0, rest)) open_)
        (chain b c e _ _ _ (decides (next_constant u) b c word (λ c. constant_of c.0 u c.1 >>= λ v. rparen v.1 >>= λ rest. Some (v.0, rest)) next)
        (chain c d e _ _ _ (a_value (constant_of word u) c d v (λ v. rparen v.1 >>= λ rest. Some (v.0, rest)) is)
        (expects rparen d e (λ rest. Some (value_in d.lists.lanes.items v, rest)) close)))

-- a value without lanes
pub plain_read : (rule : Toks → Parse Value) (old new : Reader) (v : code_value.Value) → Decides rule old new (value_in [] v)
    → ((ls : List Number) → value_in ls v ≡ value_in [] v) → ((n : ℕ) → HasLanes n v)
    → ReadsValue rule old new v
plain_read rule old new v d plain few = record {
  commands = ap (λ (l : Lists). l.commands) d.lists;
  values = ap (λ (l : Lists). l.values) d.lists;
  tokens = d.tokens;
  clean = d.clean;
  lanes = λ h. first_same old.lists.lanes.items new.lists.lanes.items (ap (λ (l : Lists). l.lanes.items) d.lists);
  within = λ h. few (length new.lists.lanes.items);
  gives = λ h. d.gives h ∙ ap (λ x. let o : Value × Toks = (x, left new) in Some o) (sym (plain new.lists.lanes.items));
  keeps = d.keeps;
  refuses = d.refuses;
}

-- what a rule reads onto a list: what the list has more then
pub more_is : {T : Type 0} (xs ys : List T) (p : Parse (List T)) (rest : Toks)
    → with_parts xs p ≡ Some (ys, rest) → (more : List T) × ((p ≡ Some (more, rest)) × (ys ≡ xs ++ more))
more_is xs ys None rest e = absurd cc
more_is xs ys (Some r) rest e = (
  r.0,
  (
    ap (λ t. let o : List _ × Toks = (r.0, t) in Some o) (ap (λ (o : List _ × Toks). o.1) (the_same e)),
    sym (ap (λ (o : List _ × Toks). o.0) (the_same e)),
  ),
)
  where
    the_same : {A : Type 0} {x y : A} → Some x ≡ Some y → x ≡ y
    the_same e = cc

-- a vector: its shape and its lanes
pub vector_read : (u : Use) (a b c : Reader) (s : Shape) (start end : ℕ) → Decides (word_that shape_named) a b s → ReadsLanes (lanes s u) b c
    → start ≡ length b.lists.lanes.items → end ≡ length c.lists.lanes.items → ReadsValue (vector u) a c (val.V128 s (record { start = start; end = end }))
vector_read u a b c s start end d l first last = record {
  commands = l.commands ∙ ap (λ (k : Lists). k.commands) d.lists;
  values = l.values ∙ ap (λ (k : Lists). k.values) d.lists;
  tokens = l.tokens ∙ d.tokens;
  clean = λ h. d.clean (l.clean h);
  lanes = λ h. let m = more_is b.lists.lanes.items c.lists.lanes.items (lanes s u (left b)) (left c) (l.gives h) in
      subst (λ (k : Lists). IsFirst k.lanes.items c.lists.lanes.items) d.lists (record { more = m.0; is = m.1.1 });
  within = λ h. omega (arith, last);
  gives = λ h. let m = more_is b.lists.lanes.items c.lists.lanes.items (lanes s u (left b)) (left c) (l.gives h) in
      ap (λ o. o >>= λ x. lanes x.0 u x.1 >>= λ ns. Some (V128 x.0 ns.0, ns.1)) (d.gives (l.clean h))
      ∙ ap (λ o. o >>= λ ns. Some (V128 s ns.0, ns.1)) m.1.0
      ∙ ap (λ ns. let o : Value × Toks = (V128 s ns, left c) in Some o)
      (sym (ap (part (record { start = start; end = end })) m.1.1 ∙ part_last b.lists.lanes.items m.0 start end first (last ∙ ap length m.1.1)));
  keeps = λ h. l.keeps (λ e. h (d.clean e)) ∙ d.keeps h;
  refuses = λ h f. by_fault b c l.keeps f (λ e. ap whole (d.gives e) ∙ ap made (l.refuses e f)) (λ g. ap whole (d.refuses h g));
}
  where
    made : Parse (List Number) → Parse Value
    made o = o >>= λ ns. Some (V128 s ns.0, ns.1)

    whole : Parse Shape → Parse Value
    whole o = o >>= λ x. lanes x.0 u x.1 >>= λ ns. Some (V128 x.0 ns.0, ns.1)

-- the values that were read and added, as a part of all values
pub values_read : (u : Use) (old new : Reader) (start end : ℕ) → start ≡ length old.lists.values.items
    → end ≡ length new.lists.values.items → ReadsOnto (values u) old new
    → Reads (values u) old new (part (record { start = start; end = end })) (λ n. end ≤ n)
values_read u old new start end first last r = record {
  commands = r.commands;
  tokens = r.tokens;
  clean = r.clean;
  lanes = r.lanes;
  values = λ h l. let m = more_is (read_values old.lists) (read_values new.lists) (values u (left old)) (left new) (r.gives h l) in
      record { more = m.0; is = m.1.1 };
  within = λ h l. omega (arith, last);
  gives = λ h l. let m = more_is (read_values old.lists) (read_values new.lists) (values u (left old)) (left new) (r.gives h l) in
      m.1.0 ∙ ap (λ vs. let o : List Value × Toks = (vs, left new) in Some o)
      (sym (ap (part (record { start = start; end = end })) m.1.1
      ∙ part_last (read_values old.lists) m.0 start end (first ∙ sym (length-map old.lists.values.items (value_in old.lists.lanes.items)))
      (last ∙ sym (length-map new.lists.values.items (value_in new.lists.lanes.items)) ∙ ap length m.1.1)));
  keeps = r.keeps;
  refuses = r.refuses;
}
