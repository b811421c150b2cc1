-- Modules as their tokens: the steps of the rules that find them.
use Rattle.std.proofs.Common.{◌≡◌, ◌∙◌, ℕ, ◌-◌, List, [], ◌++◌, length, codes, Option, None, Some, refl, sym, ap, subst}
use Rattle.std.proofs.lemmas.List.{length-map}
use Rattle.wat_grammar.specs.Parts.{◌>>=◌}
use Rattle.wat_tokens.specs.declared.tokens.Placed.{Placed}
use Rattle.wat_syntax.specs.Tree.{Span, Id}
use Rattle.wat_syntax.specs.Tokens.{Toks, Parse, position, count, lparen, rparen}
use Rattle.wat_syntax.specs.Values.{id}
use Rattle.wat_syntax.specs.Bare.{bare_placed, bare_id_option}
use Rattle.wast_script.specs.declared.commands.ModuleForm.TheVariants as module_form
use Rattle.wast_script.specs.declared.commands.ScriptModule.{ScriptModule}
use Rattle.wast_script.specs.declared.reader.Reader.{Reader}
use Rattle.wast_script.specs.Constants.{the_word}
use Rattle.wast_script.specs.Grammar.{Module, Contents, between, behind_strings, strings_to_end, contents, module_after, in_parentheses, lone_module}
use Rattle.wast_script.specs.Scripts.{part, contents_in, module_in}
use Rattle.wast_script.specs.Readers.{left, all_bare, Decides, Expects, Finds, Moves}
use Rattle.wast_script.proofs.Parts.{part_empty, part_last, bare_same, between_is}
use Rattle.wast_script.proofs.Goes.{Goes, chain, as_goes, decided_by, decides, expects, finds}

-- strings to the end of a module
pub strings_read : (a b c : Reader) (s e : ℕ) → s ≡ length a.tokens.items - count (left a)
    → Moves behind_strings a b → e ≡ length b.tokens.items - count (left b) → Expects rparen b c
    → Decides strings_to_end a c (part (record { start = s; end = e }) (all_bare c))
strings_read a b c s e first m last d = record {
  lists = d.lists ∙ m.lists;
  tokens = d.tokens ∙ m.tokens;
  clean = λ h. sym m.fault ∙ d.clean h;
  gives = λ h. ap (λ t. rparen t >>= λ rest. Some (between (left a) t, rest)) (sym m.left)
      ∙ ap (λ o. o >>= λ rest. Some (between (left a) (left b), rest)) (d.gives h)
      ∙ ap (λ ts. let o : List Placed × Toks = (ts, left c) in Some o)
      (sym (ap (part (record { start = s; end = e })) (bare_same b c d.tokens) ∙ between_is a b s e m.tokens first last));
  keeps = λ h. d.keeps (λ g. h (sym m.fault ∙ g)) ∙ m.fault;
  refuses = λ h f. ap (λ t. rparen t >>= λ rest. Some (between (left a) t, rest)) (sym m.left)
      ∙ ap (λ o. o >>= λ rest. Some (between (left a) (left b), rest)) (d.refuses (m.fault ∙ h) f);
}

-- a module after its head
pub module_read : (a b c : Reader) (m : ScriptModule) (s e : ℕ) → s ≡ length a.tokens.items - count (left a)
    → Finds id a b (bare_id_option m.id) → Decides contents b c (contents_in (m.form, m.strings) (all_bare c))
    → e ≡ length c.tokens.items - count (left c) → m.rest ≡ record { start = s; end = e }
    → Decides (module_after m.span (part m.head (all_bare a))) a c (module_in (all_bare c) m)
module_read a b c m s e first f d last rest =
    decided_by (module_after m.span (part m.head (all_bare a))) a c (module_in (all_bare c) m) (d.lists ∙ f.lists) (d.tokens ∙ f.tokens)
    (subst (Goes a c (module_after m.span (part m.head (all_bare a)) (left a)))
    (ap (λ ts. at_end (bare_id_option m.id) (contents_in (m.form, m.strings) (all_bare c)) ts (left c)) same) g)
  where
    at_end : Option Id → Contents → List Placed → Toks → Parse Module
    at_end x c ts t = Some (record { span = m.span; id = x; form = c.form; tokens = ts; strings = c.strings }, t)

    g : Goes a c (module_after m.span (part m.head (all_bare a)) (left a)) (at_end (bare_id_option m.id)
        (contents_in (m.form, m.strings) (all_bare c)) (part m.head (all_bare a) ++ between (left a) (left c)) (left c))
    g = chain a b c _ _ _ (finds id a b (bare_id_option m.id)
        (λ x. contents x.1 >>= λ k. at_end x.0 k.0 (part m.head (all_bare a) ++ between (left a) k.1) k.1) f)
        (decides contents b c (contents_in (m.form, m.strings) (all_bare c))
        (λ k. at_end (bare_id_option m.id) k.0 (part m.head (all_bare a) ++ between (left a) k.1) k.1) d)

    all_same : all_bare c ≡ all_bare a
    all_same = bare_same a c (d.tokens ∙ f.tokens)

    same : part m.head (all_bare a) ++ between (left a) (left c) ≡ part m.head (all_bare c) ++ part m.rest (all_bare c)
    same = ap (λ ts. part m.head ts ++ between (left a) (left c)) (sym all_same)
        ∙ ap (λ ts. part m.head (all_bare c) ++ ts) (sym (ap (λ p. part p (all_bare c)) rest ∙ between_is a c s e (d.tokens ∙ f.tokens) first last))

-- a module in its parentheses
pub parentheses_read : (a b c d : Reader) (span : Span) (s e : ℕ) (x : Module) → s ≡ length a.tokens.items - count (left a)
    → Expects lparen a b → span ≡ position (left b) → Expects (the_word (codes "module")) b c
    → e ≡ length c.tokens.items - count (left c)
    → Decides (module_after span (part (record { start = s; end = e }) (all_bare c))) c d x → Decides in_parentheses a d x
parentheses_read a b c d span s e x first opens at word last r =
    decided_by in_parentheses a d x (r.lists ∙ word.lists ∙ opens.lists) (r.tokens ∙ word.tokens ∙ opens.tokens) g
  where
    placed : Decides (module_after (position (left b)) (between (left a) (left c))) c d x
    placed = subst (λ y. Decides (module_after y (between (left a) (left c))) c d x) at
        (subst (λ y. Decides (module_after span y) c d x) (between_is a c s e (word.tokens ∙ opens.tokens) first last) r)

    g : Goes a d (in_parentheses (left a)) (Some (x, left d))
    g = chain a b d _ _ _ (expects lparen a b (λ t. the_word (codes "module") t >>= λ k. module_after (position t) (between (left a) k) k) opens)
        (chain b c d _ _ _ (expects (the_word (codes "module")) b c (λ k. module_after (position (left b)) (between (left a) k) k) word)
        (as_goes (module_after (position (left b)) (between (left a) (left c))) c d x placed))

-- a script that is one module without its parentheses: it has all tokens
whole : (r : Reader) (n : ℕ) → n ≡ length r.tokens.items → part (record { start = 0; end = n }) (all_bare r) ≡ all_bare r
whole r n size = part_last [] (all_bare r) 0 n refl (size ∙ sym (length-map r.tokens.items bare_placed))

pub lone_is : (r : Reader) (n : ℕ) (span : Span) → span ≡ position (left r) → n ≡ length r.tokens.items → (left r).left ≡ all_bare r
    → module_in (all_bare r) (record {
      span = span;
      id = None;
      form = module_form.Fields;
      head = record { start = 0; end = 0 };
      rest = record { start = 0; end = n };
      strings = record { start = 0; end = 0 };
    })
    ≡ lone_module (left r)
lone_is r n span at size begins = λ i. record {
  span = at i;
  id = None;
  form = module_form.Fields;
  tokens = (ap (λ xs. xs ++ part (record { start = 0; end = n }) (all_bare r)) (part_empty (all_bare r)) ∙ whole r n size ∙ sym begins) i;
  strings = part_empty (all_bare r) i;
}
