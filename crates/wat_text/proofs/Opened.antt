-- What is read after the opening of a module, and in a text in quotes, is the module of the tokens.
use Rattle.std.proofs.Common.{◌≡◌, ◌≢◌, ◌∙◌, ℕ, true, List, length, map, All, Option, None, Some, option_map, Result, Ok, Err, refl, sym, ap, subst}
use Rattle.std.specs.Prelude.{IfOk, IfErr}
use Rattle.std.specs.Option.{option_or}
use Rattle.std.specs.Str.{is_utf8}
use Rattle.std.proofs.lemmas.List.Folds.{flat_map-map}
use Rattle.wat_grammar.specs.Parts.{◌>>=◌}
use Rattle.wat_grammar.specs.Tokens as grammar
use Rattle.wat_grammar.specs.Tokens.{tokens, bytes_of}
use Rattle.wat_tokens.specs.Scans.{seen_all, IsNamed}
use Rattle.wat_tokens.specs.declared.faults.TextError.{TextError}
use Rattle.wat_tokens.specs.declared.faults.TextFault.TheVariants as fault
use Rattle.wat_tokens.specs.declared.tokens.Placed.{Placed}
use Rattle.wat_tokens.specs.declared.words.Key.{Key}
use Rattle.wat_syntax.specs.Tree.{Span}
use Rattle.wat_syntax.specs.Tokens.{Toks, after, position, peek, key_of}
use Rattle.wat_syntax.specs.Bare.{bare_id, bare_name, bare_placed}
use Rattle.wat_syntax.specs.AtZero.{all_at_zero}
use Rattle.wat_syntax.proofs.AtZero.{bare_tokens}
use Rattle.wat_text.specs.Readers.{left, IsClean, IsRefused, Decides, Reads, Expects}
use Rattle.wat_text.specs.Denotes.{Contents, Fields, Quotes, contents_of, opening, quotes, quotes_of, text_in, source_of, sources}
use Rattle.wat_text.specs.Denotes.{put_in, all_of, all_bare, module_end, module_position, fields_module, inner_opening}
use Rattle.wat_text.specs.Denotes.{inner_module, tokens_if, tokens_in_quotes, module_in_quotes, module_as, module_after, module_in}
use Rattle.wat_text.specs.Denotes.{module_of, bare_opening, bare_quote, is_well_formed_module, IsModule, Denotes, DenotesNothing}
use Rattle.wat_text.specs.Finishes.{Finishes}
use Rattle.wat_text.specs.declared.modules.ModuleHead.{ModuleHead}
use Rattle.wat_text.specs.declared.modules.TextModule.{TextModule}
use Rattle.wat_text.specs.declared.quotes.Quote.{Quote}
use Rattle.wat_text.specs.declared.reader.Reader.{Reader}
use Rattle.wat_text.proofs.Endings.{refusal, ReadsAll, skipped}

-- a module that is read to the end of the tokens, by what a rule makes of them
abbrev pub Ends : Option TextModule → Reader → Result TextModule TextError → Type 0
Ends rule old result = Finishes is_well_formed_module (IsModule rule) (rule ≡ None) old result

some_not : {A : Type 0} {x : A} → Some x ≢ None
some_not e = cc

-- what is read after an opening, by what the rest of the rule makes
pub after_opening : (next : ModuleHead × Toks → Option TextModule) (a b : Reader) (h : ModuleHead) (result : Result TextModule TextError)
    → Decides opening a b h → Ends (next (h, left b)) b result → Ends (opening (left a) >>= next) a result
after_opening next a b h (Ok m) d f = record {
  clean = (d.clean f.clean.0, sym d.make ∙ f.clean.1);
  gives = ap (λ o. o >>= next) (d.gives f.clean.0) ∙ f.gives;
  well = f.well;
  made = tt;
  keeps = λ n. tt;
  refuses = λ n. tt;
}
after_opening next a b h (Err e) d f = record {
  clean = tt;
  gives = tt;
  well = tt;
  made = λ m. sym d.make ∙ f.made m;
  keeps = λ n m. sym (d.keeps n) ∙ f.keeps (λ z. n (d.clean z)) m;
  refuses = λ n m. go b.fault refl n m;
}
  where
    go : (o : Option TextError) → b.fault ≡ o → a.fault ≡ None → e.fault ≢ fault.Memory → (opening (left a) >>= next) ≡ None
    go None s n m = ap (λ o. o >>= next) (d.gives s) ∙ f.refuses s m
    go (Some y) s n m =
        ap (λ o. o >>= next) (d.refuses n (subst IsRefused (sym (f.keeps (λ z. some_not (sym s ∙ z)) m)) (refusal e.fault m)))

-- a module after its opening, by what is in it
pub means_as : (source : List ℕ) (c : Contents) (h : ModuleHead) (b : Reader) (k : Option Key) (result : Result TextModule TextError)
    → k ≡ key_of (peek 0 (left b))
    → contents_of h.keyword k ≡ c → Ends (module_as source c h (left b)) b result → Ends (module_after source h (left b)) b result
means_as source c h b k result key same f =
    subst (λ x. Ends (module_as source x h (left b)) b result) (sym same ∙ ap (contents_of h.keyword) key) f

pub fields_as : (source : List ℕ) (h : ModuleHead) (span : Span) (b : Reader) (result : Result TextModule TextError) → span ≡ module_position h
    → Ends (fields_module span (bare_opening h) (left b)) b result → Ends (module_as source Fields (bare_opening h) (left b)) b result
fields_as source h span b result at f = subst (λ s. Ends (fields_module s (bare_opening h) (left b)) b result) at f

-- the opening of a text in quotes with that of the outer module
or_bare : {A : Type 0} (f : A → A) (x y : Option A) → option_map f (option_or x y) ≡ option_or (option_map f x) (option_map f y)
or_bare f None y = refl
or_bare f (Some x) y = refl

pub inner_is : (h o x : ModuleHead) → x.keyword ≡ o.keyword → x.id ≡ option_or h.id o.id → x.name ≡ option_or h.name o.name
    → inner_opening (bare_opening h) (bare_opening o) ≡ bare_opening x
inner_is h o x keyword id name = λ i. record {
  keyword = sym keyword i;
  id = (sym (or_bare bare_id h.id o.id) ∙ ap (option_map bare_id) (sym id)) i;
  name = (sym (or_bare bare_name h.name o.name) ∙ ap (option_map bare_name) (sym name)) i;
}

-- strings without addresses have the same text and the same places
quotes_bare : (source : List ℕ) (first : Span) (qs : List Quote) → tokens_in_quotes source first (map bare_quote qs) ≡ tokens_in_quotes source first qs
quotes_bare source first qs = λ i. tokens_if (is_utf8 (text i)) (text i) >>= λ found. Some (map (put_in first (places i)) found)
  where
    text : text_in (map bare_quote qs) ≡ text_in qs
    text = flat_map-map (λ q. q.bytes.now) bare_quote qs

    places : sources source (map bare_quote qs) ≡ sources source qs
    places = flat_map-map (source_of source) bare_quote qs

module _ (source : List ℕ) (h : ModuleHead) where
  pub inner_opened : (a b : Reader) (o x : ModuleHead) (span : Span) (result : Result TextModule TextError) → Decides opening a b (bare_opening o)
      → inner_opening (bare_opening h) (bare_opening o) ≡ bare_opening x → span ≡ module_position h
      → Ends (fields_module span (bare_opening x) (left b)) b result → Ends (inner_module (bare_opening h) (left a)) a result
  inner_opened a b o x span result d same at f =
      after_opening (λ p. fields_module (module_position h) (inner_opening (bare_opening h) p.0) p.1) a b (bare_opening o) result d
      (subst (λ y. Ends (fields_module (module_position h) y (left b)) b result) (sym same)
      (subst (λ s. Ends (fields_module s (bare_opening x) (left b)) b result) at f))

  -- of a reader that read the strings
  module _ (r : Reader) (first : Span) (qs : List Quote) (clean : IsClean r)
      (read : quotes_of (left r) ≡ Some (map bare_quote qs)) (at : first ≡ position (after (left r))) where
    -- the tokens of the text
    of_tokens : (placed : List Placed) → tokens_in_quotes source first qs ≡ Some (map bare_placed placed)
        → inner_module (bare_opening h) (all_bare placed first) ≡ module_as source Quotes (bare_opening h) (left r)
    of_tokens placed p =
        sym (ap (λ o. o >>= λ xs. module_in_quotes source (bare_opening h) (position (after (left r))) xs) read
        ∙ ap (λ s. module_in_quotes source (bare_opening h) s (map bare_quote qs)) (sym at)
        ∙ ap (λ (o : Option (List Placed)). o >>= λ found. inner_module (bare_opening h) (all_of found first)) (quotes_bare source first qs ∙ p))

    pub all_in_quotes : (a : Reader) (placed : List Placed) (result : Result TextModule TextError) → IsClean a → left a ≡ all_bare placed first
        → tokens_in_quotes source first qs ≡ Some (map bare_placed placed)
        → Ends (inner_module (bare_opening h) (left a)) a result → Ends (module_as source Quotes (bare_opening h) (left r)) r result
    all_in_quotes a placed result new same p f =
        elsewhere result (subst (λ o. Ends o a result) (ap (inner_module (bare_opening h)) same ∙ of_tokens placed p) f)
      where
        elsewhere : (result : Result TextModule TextError) → Ends (module_as source Quotes (bare_opening h) (left r)) a result
            → Ends (module_as source Quotes (bare_opening h) (left r)) r result
        elsewhere (Ok m) f = record {
          clean = clean;
          gives = f.gives;
          well = f.well;
          made = tt;
          keeps = λ n. tt;
          refuses = λ n. tt;
        }
        elsewhere (Err e) f = record {
          clean = tt;
          gives = tt;
          well = tt;
          made = λ m. clean.1;
          keeps = λ n m. absurd (n clean.0);
          refuses = λ n. f.refuses new.0;
        }

  -- the tokens of the strings, and what is read of them
  pub quotes_ok : (r s a b i j : Reader) (first span : Span) (ps qs : List Quote)
      (placed : List Placed) (o x : ModuleHead) (result : Result TextModule TextError)
      → first ≡ position (left s) → left s ≡ after (left r) → s.fault ≡ r.fault → s.make ≡ r.make
      → Reads quotes s a (map bare_quote qs) → Expects (module_end true) a b → IsClean b
      → ps ≡ qs → tokens_in_quotes source first ps ≡ Some (map bare_placed placed)
      → left i ≡ all_bare placed first → IsClean i → Decides opening i j (bare_opening o)
      → x.keyword ≡ o.keyword → x.id ≡ option_or h.id o.id → x.name ≡ option_or h.name o.name → span ≡ module_position h
      → Ends (fields_module span (bare_opening x) (left j)) j result → Ends (module_as source Quotes (bare_opening h) (left r)) r result
  quotes_ok r s a b i j first span ps qs placed o x result there same fault make reads ends clean lent p inner new opens keyword id name at f =
      let all : ReadsAll (quotes_of (left r)) r b (map bare_quote qs) = skipped quotes
      (module_end true) r s a b (map bare_quote qs) same fault make reads ends in
      all_in_quotes r first qs (all.clean clean.0, all.made clean.1) (all.gives clean) (there ∙ ap position same) i placed result new inner
      (subst (λ xs. tokens_in_quotes source first xs ≡ Some (map bare_placed placed)) lent p)
      (inner_opened i j o x span result opens (inner_is h o x keyword id name) at f)

  -- strings that have no tokens
  pub quotes_err : (r s a b : Reader) (first : Span) (ps qs : List Quote) (e : TextError)
      → first ≡ position (left s) → left s ≡ after (left r) → s.fault ≡ r.fault → s.make ≡ r.make
      → Reads quotes s a (map bare_quote qs) → Expects (module_end true) a b → IsClean b
      → ps ≡ qs → (e.fault ≢ fault.Memory → tokens_in_quotes source first ps ≡ None) → Ends (module_as source Quotes (bare_opening h) (left r)) r (Err e)
  quotes_err r s a b first ps qs e there same fault make reads ends clean lent none =
      let all : ReadsAll (quotes_of (left r)) r b (map bare_quote qs) = skipped quotes
      (module_end true) r s a b (map bare_quote qs) same fault make reads ends in
      let before : IsClean r = (all.clean clean.0, all.made clean.1) in
      let nothing : (tokens_in_quotes source first qs ≡ None) → module_as source Quotes (bare_opening h) (left r) ≡ None =
      λ p. ap (λ o. o >>= λ xs. module_in_quotes source (bare_opening h) (position (after (left r))) xs) (all.gives clean)
      ∙ ap (λ t. module_in_quotes source (bare_opening h) t (map bare_quote qs)) (sym (there ∙ ap position same))
      ∙ ap (λ (o : Option (List Placed)). o >>= λ found. inner_module (bare_opening h) (all_of found first)) (quotes_bare source first qs ∙ p) in
      record {
        clean = tt;
        gives = tt;
        well = tt;
        made = λ m. before.1;
        keeps = λ n m. absurd (n before.0);
        refuses = λ n m. nothing (ap (tokens_in_quotes source first) (sym lent) ∙ none m);
      }

-- the module of tokens, by what was read of them
module _ (source : List ℕ) (toks : Toks) (a : Reader) (clean : IsClean a) (same : left a ≡ toks) where
  pub means_err : (result : Result TextModule TextError) → Ends (module_in source (left a)) a result
      → IfErr result (λ e. e.fault ≢ fault.Memory → module_in source toks ≡ None)
  means_err (Ok m) f = tt
  means_err (Err e) f = subst (λ t. e.fault ≢ fault.Memory → module_in source t ≡ None) same (f.refuses clean.0)

-- the module of a text, by that of its tokens
pub text_first : (text : List ℕ) (e first : TextError) → (e.fault ≢ fault.Memory → tokens bytes_of text ≡ None)
    → (e.fault ≡ fault.Memory → first.fault ≡ fault.Memory)
    → first.fault ≢ fault.Memory → DenotesNothing text
unfolding module_of
text_first text e first lexed memory m =
    ap (λ (o : Option (List grammar.Placed)). (o >>= λ ts. all_at_zero ts)
    >>= λ found. module_in text (all_of found (record { offset = length text }))) (lexed (λ f. m (memory f)))

module _ (text : List ℕ) (found : List Placed) (end : Span) (at : end ≡ record { offset = length text }) (lexed : tokens bytes_of text ≡ Some (seen_all found))
    (named : All (λ p. IsNamed p.token) found) where
  in_text : module_in text (all_bare found end) ≡ module_of text
  unfolding module_of
  in_text =
      ap (λ s. module_in text (all_bare found s)) at
      ∙ sym (ap (λ (o : Option (List Placed)). o >>= λ ps. module_in text (all_of ps (record { offset = length text }))) (bare_tokens text found lexed named))

  pub text_ok : (result : Result TextModule TextError) → IfOk result (IsModule (module_in text (all_bare found end))) → IfOk result (Denotes text)
  text_ok (Ok m) e = sym in_text ∙ e
  text_ok (Err f) e = tt

  pub text_err : (result : Result TextModule TextError) → IfErr result (λ e. e.fault ≢ fault.Memory → module_in text (all_bare found end) ≡ None)
      → IfErr result (λ e. e.fault ≢ fault.Memory → DenotesNothing text)
  text_err (Ok m) e = tt
  text_err (Err f) e = λ m. sym in_text ∙ e m
