-- Values that a reader adds to those that it had, and what lists that grow do to earlier values.
use Rattle.std.proofs.Common.{◌≡◌, ◌≢◌, ◌∙◌, ℕ, zero, suc, ◌+◌, ◌-◌, ◌<◌, ◌≤◌, true, List, [], ◌∷◌, ◌++◌}
use Rattle.std.proofs.Common.{length, map, All, None, Some, refl, sym, ap, subst, arith, append-nil}
use Rattle.std.proofs.lemmas.List.{map_push}
use Rattle.std.proofs.lemmas.List.Elements.{All-tail, All-push}
use Rattle.std.specs.Global.{Vec}
use Rattle.wat_grammar.specs.Parts.{◌>>=◌}
use Rattle.wat_tokens.specs.declared.faults.TextFault.{TextFault}
use Rattle.wat_syntax.specs.Tree.{Span}
use Rattle.wat_syntax.specs.Tokens.{Toks, Parse, many_lists, with_parts}
use Rattle.wast_script.specs.declared.values.Number.{Number}
use Rattle.wast_script.specs.declared.values.Value as code_value
use Rattle.wast_script.specs.declared.values.Value.TheVariants as val
use Rattle.wast_script.specs.declared.words.Use.{Use}
use Rattle.wast_script.specs.declared.reader.Lists.{Lists}
use Rattle.wast_script.specs.declared.reader.Reader.{Reader}
use Rattle.wast_script.specs.Constants.{Value, V128, value, one_value, is_form_next, argument_or_result, alternatives, all_alternatives}
use Rattle.wast_script.specs.Scripts.{value_in}
use Rattle.wast_script.specs.Readers.{left, read_values, IsRefused, IsFirst, HasLanes, HaveLanes, PushesValue}
use Rattle.wast_script.specs.Readers.{Fails, ReadsOnto, ReadsValue, TakesAlternative, TakesAlternatives}
use Rattle.wast_script.proofs.Faults.{none_refused, faulty, by_fault}
use Rattle.wast_script.proofs.Parts.{part_stays, longer}
use Rattle.wat_text.proofs.Loops.{none_after, list_more, list_none}

-- a value, by lanes that were added later
value_stays : (v : code_value.Value) (xs ys : List Number) → HasLanes (length xs) v → value_in (xs ++ ys) v ≡ value_in xs v
value_stays (val.V128 s p) xs ys h = ap (V128 s) (part_stays p xs ys h)
value_stays v xs ys h = refl

values_stay : (vs : List code_value.Value) (xs ys : List Number) → All (HasLanes (length xs)) vs → map (value_in (xs ++ ys)) vs ≡ map (value_in xs) vs
values_stay [] xs ys h = refl
values_stay (v ∷ vs) xs ys h = λ i. value_stays v xs ys (h 0 v (omega arith)) i ∷ values_stay vs xs ys (All-tail (HasLanes (length xs)) v vs h) i

pub values_on : (vs : List code_value.Value) (xs zs : List Number) → All (HasLanes (length xs)) vs → IsFirst xs zs → map (value_in zs) vs ≡ map (value_in xs) vs
values_on vs xs zs h f = ap (λ ns. map (value_in ns) vs) f.is ∙ values_stay vs xs f.more h

has_more : (v : code_value.Value) (m n : ℕ) → m ≤ n → HasLanes m v → HasLanes n v
has_more (val.V128 s p) m n few h = omega (arith, few, h)
has_more v m n few h = tt

pub have_more : (vs : List code_value.Value) (xs zs : List Number) → IsFirst xs zs → All (HasLanes (length xs)) vs → All (HasLanes (length zs)) vs
have_more vs xs zs f h = λ k d under. has_more _ (length xs) (length zs) (longer xs zs f) (h k d under)

-- A reader read a part of what a rule of values reads.
pub record Adds (old new : Reader) (start rest : Parse (List Value)) : Type 0 where
  pub commands : new.lists.commands ≡ old.lists.commands
  pub tokens : new.tokens ≡ old.tokens
  pub clean : new.fault ≡ None → old.fault ≡ None
  pub lanes : new.fault ≡ None → HaveLanes old.lists → HaveLanes new.lists
  pub goes : new.fault ≡ None → HaveLanes old.lists → start ≡ rest
  pub keeps : old.fault ≢ None → new.fault ≡ old.fault
  pub refuses : old.fault ≡ None → HaveLanes old.lists → IsRefused new.fault → start ≡ None

both : (a b c : Reader) (p q r : Parse (List Value)) → Adds a b p q → Adds b c q r → Adds a c p r
both a b c p q r s t = record {
  commands = t.commands ∙ s.commands;
  tokens = t.tokens ∙ s.tokens;
  clean = λ h. s.clean (t.clean h);
  lanes = λ h l. t.lanes h (s.lanes (t.clean h) l);
  goes = λ h l. s.goes (t.clean h) l ∙ t.goes h (s.lanes (t.clean h) l);
  keeps = λ h. t.keeps (λ e. h (s.clean e)) ∙ s.keeps h;
  refuses = λ h l f. by_fault b c t.keeps f (λ e. s.goes e l ∙ t.refuses e (s.lanes e l) f) (s.refuses h l);
}

-- no step is taken yet
pub adds_first : (old : Reader) (p q : Parse (List Value)) → p ≡ q → Adds old old p q
adds_first old p q e = record {
  commands = refl;
  tokens = refl;
  clean = λ h. h;
  lanes = λ h l. l;
  goes = λ h l. e;
  keeps = λ h. refl;
  refuses = λ h l f. absurd (none_refused old.fault h f);
}

-- all steps are taken
pub adds_last : (rule : Toks → Parse (List Value)) (old new : Reader) (rest : Parse (List Value))
    → Adds old new (with_parts (read_values old.lists) (rule (left old))) rest
    → (new.fault ≡ None → rest ≡ Some (read_values new.lists, left new)) → ReadsOnto rule old new
adds_last rule old new rest s e = record {
  commands = s.commands;
  tokens = s.tokens;
  clean = s.clean;
  lanes = s.lanes;
  gives = λ h l. s.goes h l ∙ e h;
  keeps = s.keeps;
  refuses = λ h l f. none_after (read_values old.lists) (rule (left old)) (s.refuses h l f);
}

-- a value is read and added
pub value_pushed : (u : Use) (a b c : Reader) (v : code_value.Value) → ReadsValue (value u) a b v → PushesValue b c v → ReadsOnto (one_value u) a c
value_pushed u a b c v r p = record {
  commands = p.commands ∙ r.commands;
  tokens = p.tokens ∙ r.tokens;
  clean = λ h. r.clean (p.clean h);
  lanes = λ h l. subst (λ (n : Vec Number). All (HasLanes (length n.items)) c.lists.values.items) (sym p.lanes)
      (subst (All (HasLanes (length b.lists.lanes.items))) (sym (added h))
      (All-push (HasLanes (length b.lists.lanes.items)) a.lists.values.items v
      (have_more a.lists.values.items _ _ (r.lanes (p.clean h)) l) (r.within (p.clean h))));
  gives = λ h l. ap alone (r.gives (p.clean h)) ∙ ap (λ vs. let o : List Value × Toks = (vs, left b) in Some o) (sym (seen h l))
      ∙ ap (λ t. let o : List Value × Toks = (read_values c.lists, t) in Some o) (sym (p.left h));
  keeps = λ h. p.keeps (λ e. h (r.clean e)) ∙ r.keeps h;
  refuses = λ h l f. by_fault b c p.keeps f (λ e. absurd (p.memory e f)) (λ g. ap single (r.refuses h g));
}
  where
    alone : Parse Value → Parse (List Value)
    alone o = with_parts (read_values a.lists) (o >>= λ x. Some (x.0 ∷ [], x.1))

    single : Parse Value → Parse (List Value)
    single o = o >>= λ x. Some (x.0 ∷ [], x.1)

    added : c.fault ≡ None → c.lists.values.items ≡ a.lists.values.items ++ v ∷ []
    added h = p.pushed h ∙ ap (λ (vs : Vec code_value.Value). vs.items ++ v ∷ []) r.values

    seen : c.fault ≡ None → HaveLanes a.lists → read_values c.lists ≡ read_values a.lists ++ value_in b.lists.lanes.items v ∷ []
    seen h l = ap (λ (n : Vec Number). map (value_in n.items) c.lists.values.items) p.lanes ∙ ap (map (value_in b.lists.lanes.items)) (added h)
        ∙ map_push (value_in b.lists.lanes.items) a.lists.values.items v
        ∙ ap (λ vs. vs ++ value_in b.lists.lanes.items v ∷ []) (values_on a.lists.values.items a.lists.lanes.items b.lists.lanes.items l (r.lanes (p.clean h)))

-- a list of values more
pub values_more : (u : Use) (start : Parse (List Value)) (first old new : Reader) (counter end : ℕ)
    → counter < end → is_form_next (left old) ≡ true → ReadsOnto (argument_or_result u) old new
    → Adds first old start (with_parts (read_values old.lists) (many_lists is_form_next (argument_or_result u) (end - counter) (left old)))
    → Adds first new start (with_parts (read_values new.lists) (many_lists is_form_next (argument_or_result u) (end - (counter + 1)) (left new)))
values_more u start first old new counter end few yet r s =
    let n = end - (counter + 1) in
    let one : end - counter ≡ suc n = omega (arith, few) in
    both first old new start _ _ s (record {
      commands = r.commands;
      tokens = r.tokens;
      clean = r.clean;
      lanes = r.lanes;
      goes = λ h l. list_more is_form_next (argument_or_result u) (end - counter) n (left old)
          (left new) (read_values old.lists) (read_values new.lists) one yet (r.gives h l);
      keeps = r.keeps;
      refuses = λ h l f. list_none is_form_next (argument_or_result u) (end - counter) n (left old) (read_values old.lists) one yet (r.refuses h l f);
    })

-- one step more in the alternatives of `either`
pub alternative_more : (start : Parse (List Value)) (first old new : Reader) (counter end before behind : ℕ)
    → counter < end → before ≢ 0 → TakesAlternative before behind old new
    → Adds first old start (with_parts (read_values old.lists) (alternatives (end - counter) before (left old)))
    → Adds first new start (with_parts (read_values new.lists) (alternatives (end - (counter + 1)) behind (left new)))
alternative_more start first old new counter end before behind few some r s =
    let n = end - (counter + 1) in
    let d = before - 1 in
    let open_ : before ≡ suc d = omega (arith, some) in
    let one : end - counter ≡ suc n = omega (arith, few) in
    both first old new start _ _ s (record {
      commands = r.commands;
      tokens = r.tokens;
      clean = r.clean;
      lanes = r.lanes;
      goes = λ h l. ap (λ k. with_parts (read_values old.lists) (alternatives k before (left old))) one ∙ r.gives h l n d open_;
      keeps = r.keeps;
      refuses = λ h l f. ap (λ k. with_parts (read_values old.lists) (alternatives k before (left old))) one
          ∙ ap (with_parts (read_values old.lists)) (r.refuses h l f n d open_);
    })

-- all alternatives are read, or no token is left
taken : (old now : Reader) (depth : ℕ) (rest : Parse (List Value)) → rest ≡ alternatives 0 depth (left now)
    → Adds old now (with_parts (read_values old.lists) (all_alternatives (left old))) (with_parts (read_values now.lists) rest)
    → TakesAlternatives depth old now
taken old now depth rest e s = record {
  commands = s.commands;
  tokens = s.tokens;
  clean = s.clean;
  lanes = s.lanes;
  goes = λ h l. s.goes h l ∙ ap (with_parts (read_values now.lists)) e;
  keeps = s.keeps;
  refuses = λ h l f. none_after (read_values old.lists) (all_alternatives (left old)) (s.refuses h l f);
}

pub takes_end : (old now : Reader) (n depth : ℕ) → depth ≡ 0
    → Adds old now (with_parts (read_values old.lists) (all_alternatives (left old)))
    (with_parts (read_values now.lists) (alternatives n depth (left now))) → TakesAlternatives depth old now
takes_end old now n depth e s = taken old now depth (alternatives n depth (left now))
    (ap (λ k. alternatives n k (left now)) e ∙ sym (ap (λ k. alternatives 0 k (left now)) e)) s

pub takes_last : (old now : Reader) (n depth : ℕ) → n ≡ 0
    → Adds old now (with_parts (read_values old.lists) (all_alternatives (left old)))
    (with_parts (read_values now.lists) (alternatives n depth (left now))) → TakesAlternatives depth old now
takes_last old now n depth e s = taken old now depth (alternatives n depth (left now)) (ap (λ k. alternatives k depth (left now)) e) s

pub all_taken : (old new : Reader) (depth : ℕ) → depth ≤ 0 → TakesAlternatives depth old new → ReadsOnto all_alternatives old new
all_taken old new depth few s = record {
  commands = s.commands;
  tokens = s.tokens;
  clean = s.clean;
  lanes = s.lanes;
  gives = λ h l. let none : depth ≡ 0 = omega (arith, few) in
      s.goes h l ∙ ap (λ k. with_parts (read_values new.lists) (alternatives 0 k (left new))) none
      ∙ ap (λ vs. let o : List Value × Toks = (vs, left new) in Some o) (append-nil (read_values new.lists));
  keeps = s.keeps;
  refuses = s.refuses;
}

none_left : (depth : ℕ) (toks : Toks) → 0 < depth → alternatives 0 depth toks ≡ None
none_left zero toks some = absurd (omega (arith, some))
none_left (suc d) toks some = refl

pub none_taken : (old mid new : Reader) (depth : ℕ) (fault : TextFault) (span : Span) → 0 < depth
    → TakesAlternatives depth old mid → Fails fault span mid new → ReadsOnto all_alternatives old new
none_taken old mid new depth fault span some s f = record {
  commands = ap (λ (l : Lists). l.commands) f.lists ∙ s.commands;
  tokens = f.tokens ∙ s.tokens;
  clean = λ h. absurd (faulty mid new fault span f h);
  lanes = λ h l. absurd (faulty mid new fault span f h);
  gives = λ h l. absurd (faulty mid new fault span f h);
  keeps = λ h. f.keeps (λ g. h (s.clean g)) ∙ s.keeps h;
  refuses = λ h l g. by_fault mid new f.keeps g
      (λ is. none_after (read_values old.lists) (all_alternatives (left old))
      (s.goes is l ∙ ap (with_parts (read_values mid.lists)) (none_left depth (left mid) some)))
      (s.refuses h l);
}
