-- A function that reads to the end of the tokens meets its contract (specs/Finishes): what it returns, and what an error states.
use Rattle.std.proofs.Common.{◌≡◌, ◌≢◌, ◌∙◌, ℕ, Bool, true, false, List, map, Option, None, Some, Result, Ok, Err, refl, sym, ap, subst}
use Rattle.std.specs.Prelude.{IfSome, IfOk, IfErr, is_some}
use Rattle.std.specs.Borrow.{Bor}
use Rattle.wast_tree_nodes.specs.WellFormed.{is_well_formed}
use Rattle.wat_grammar.specs.Parts.{◌>>=◌}
use Rattle.wat_tokens.specs.declared.faults.TextError.{TextError}
use Rattle.wat_tokens.specs.declared.faults.TextFault.{TextFault}
use Rattle.wat_tokens.specs.declared.faults.TextFault.TheVariants as fault
use Rattle.wat_syntax.specs.Tree.{Span, ModuleField}
use Rattle.wat_syntax.specs.Tokens.{Toks, Parse, after}
use Rattle.wat_syntax.specs.Customs.{strings}
use Rattle.wat_syntax.specs.Bare.{bare_text, bare_name_option, bare_id_option}
use Rattle.wat_syntax.specs.BareFields.{bare_fields}
use Rattle.wat_text.specs.Readers.{left, IsClean, IsRefusal, IsRefused, Reads, Expects}
use Rattle.wat_text.specs.Denotes.{AreFields, has_one_start, if_one_start, where_it_holds, rest_of_fields, pieces_of, module_end}
use Rattle.wat_text.specs.Denotes.{module_position, fields_module, binary_module, is_well_formed_module, bare_opening, IsModule}
use Rattle.wat_text.specs.Finishes.{Finishes, ReadsModuleToEnd}
use Rattle.wat_text.specs.declared.modules.ModuleHead.{ModuleHead}
use Rattle.wat_text.specs.declared.modules.TextKind.TheVariants as kind
use Rattle.wat_text.specs.declared.modules.TextModule.{TextModule}
use Rattle.wat_text.specs.declared.reader.Reader.{Reader}
use Rattle.wat_text.proofs.Ready.{rest_well}

-- a fault other than a failed allocation
pub refusal : (f : TextFault) → f ≢ fault.Memory → IsRefusal f
refusal fault.Memory h = absurd (h refl)
refusal f h = tt

-- A reader read a part by a rule, and all tokens that were left.
pub record ReadsAll {T : Type 0} (rule : Option T) (old new : Reader) (part : T) : Type 0 where
  pub made : new.make ≡ false → old.make ≡ false
  pub clean : new.fault ≡ None → old.fault ≡ None
  pub gives : IsClean new → rule ≡ Some part
  pub keeps : old.fault ≢ None → new.fault ≡ old.fault
  pub refuses : old.fault ≡ None → new.make ≡ false → IsRefused new.fault → rule ≡ None

-- a rule and the end of the tokens
abbrev pub to_end : {T : Type 0} → Parse T → (Toks → Option Toks) → Option T
to_end part end = part >>= λ x. end x.1 >>= λ rest. Some x.0

pub reads_all : {T : Type 0} (rule : Toks → Parse T) (end : Toks → Option Toks) (a b c : Reader) (x : T)
    → Reads rule a b x → Expects end b c → ReadsAll (to_end (rule (left a)) end) a c x
reads_all rule end a b c x r e = record {
  made = λ h. r.made (sym e.make ∙ h);
  clean = λ h. r.clean (e.clean h);
  gives = λ h. ap (λ p. to_end p end) (r.gives (e.clean h.0, sym e.make ∙ h.1)) ∙ ap (λ o. o >>= λ rest. Some x) (e.gives h.0);
  keeps = λ h. e.keeps (λ n. h (r.clean n)) ∙ r.keeps h;
  refuses = λ h m f. go b.fault refl h (sym e.make ∙ m) f;
}
  where
    go : (o : Option TextError) → b.fault ≡ o → a.fault ≡ None → b.make ≡ false → IsRefused c.fault → to_end (rule (left a)) end ≡ None
    go None n h m f = ap (λ p. to_end p end) (r.gives (n, m)) ∙ ap (λ o. o >>= λ rest. Some x) (e.refuses n f)
    go (Some y) s h m f = ap (λ p. to_end p end) (r.refuses h m (subst IsRefused (e.keeps (λ n. cc)) f))

-- the same, and at most one field is a start function
pub all_checked : (rule : Option (List ModuleField)) (a b c : Reader) (fs : List ModuleField)
    → ReadsAll rule a b fs → Expects (where_it_holds (has_one_start fs)) b c → ReadsAll (rule >>= if_one_start) a c fs
all_checked rule a b c fs r e = record {
  made = λ h. r.made (sym e.make ∙ h);
  clean = λ h. r.clean (e.clean h);
  gives = λ h. ap (λ o. o >>= if_one_start) (r.gives (e.clean h.0, sym e.make ∙ h.1)) ∙ held (has_one_start fs) (e.gives h.0);
  keeps = λ h. e.keeps (λ n. h (r.clean n)) ∙ r.keeps h;
  refuses = λ h m f. go b.fault refl h (sym e.make ∙ m) f;
}
  where
    held : (ok : Bool) → where_it_holds ok (left b) ≡ Some (left c) → ◌≡◌ {A = Option (List ModuleField)} (elim ok [ true ↦ Some fs | false ↦ None ]) (Some fs)
    held true h = refl
    held false h = absurd cc

    not_held : (ok : Bool) → where_it_holds ok (left b) ≡ None → ◌≡◌ {A = Option (List ModuleField)} (elim ok [ true ↦ Some fs | false ↦ None ]) None
    not_held true h = absurd cc
    not_held false h = refl

    go : (o : Option TextError) → b.fault ≡ o → a.fault ≡ None → b.make ≡ false → IsRefused c.fault → (rule >>= if_one_start) ≡ None
    go None n h m f = ap (λ o. o >>= if_one_start) (r.gives (n, m)) ∙ not_held (has_one_start fs) (e.refuses n f)
    go (Some y) s h m f = ap (λ o. o >>= if_one_start) (r.refuses h m (subst IsRefused (e.keeps (λ n. cc)) f))

-- the same before a step that only takes tokens
pub all_after : {T : Type 0} (rule : Option T) (a b c : Reader) (x : T) → b.fault ≡ a.fault → b.make ≡ a.make → ReadsAll rule b c x → ReadsAll rule a c x
all_after rule a b c x same make r = record {
  made = λ h. sym make ∙ r.made h;
  clean = λ h. sym same ∙ r.clean h;
  gives = r.gives;
  keeps = λ h. r.keeps (λ n. h (sym same ∙ n)) ∙ same;
  refuses = λ h m f. r.refuses (same ∙ h) m f;
}

-- what `finish` returns
pub record Finished (old : Reader) (error : Option TextError) : Type 0 where
  pub clean : error ≡ None → IsClean old
  pub refused : IfSome error (λ e. e.fault ≢ fault.Memory → (old.make ≡ false) × (old.fault ≡ Some e))

-- an error of a reader
pub fails_all : {S T : Type 0} (is_well : S → Bool) (denoted : S → Type 0) (nothing : Type 0) (rule : Option T) (a c : Reader) (x : T) (e : TextError)
    → ReadsAll rule a c x → (e.fault ≢ fault.Memory → (c.make ≡ false) × (c.fault ≡ Some e)) → (rule ≡ None → nothing)
    → Finishes is_well denoted nothing a (Err e)
fails_all is_well denoted nothing rule a c x e r h none = record {
  clean = tt;
  gives = tt;
  well = tt;
  made = λ m. r.made (h m).0;
  keeps = λ n m. sym (r.keeps n) ∙ (h m).1;
  refuses = λ n m. none (r.refuses n (h m).0 (subst IsRefused (sym (h m).1) (refusal e.fault m)));
}

-- a part that is returned
pub gives_all : {S T : Type 0} (is_well : S → Bool) (denoted : S → Type 0) (nothing : Type 0) (rule : Option T) (a c : Reader) (x : T) (s : S)
    → ReadsAll rule a c x → IsClean c → (rule ≡ Some x → denoted s) → is_well s ≡ true → Finishes is_well denoted nothing a (Ok s)
gives_all is_well denoted nothing rule a c x s r clean gives well = record {
  clean = (r.clean clean.0, r.made clean.1);
  gives = gives (r.gives clean);
  well = well;
  made = tt;
  keeps = λ n. tt;
  refuses = λ n. tt;
}

-- fields that are returned unless there is an error
module _ (is_written : Bool) (toks : Toks) where
  abbrev all_fields : Option (List ModuleField)
  all_fields = rest_of_fields is_written toks

  pub fields_finish : (a c : Reader) (fields : List ModuleField) (error : Option TextError) (result : Result (List ModuleField) TextError)
      → ReadsAll all_fields a c (bare_fields fields) → Finished c error
      → IfOk result (λ same. (error ≡ None) × (same ≡ fields)) → IfErr result (λ e. error ≡ Some e)
      → Finishes is_well_formed (AreFields all_fields) (all_fields ≡ None) a result
  fields_finish a c fields error (Ok same) r f ok err =
      let clean : IsClean c = f.clean ok.0 in
      let given : all_fields ≡ Some (bare_fields fields) → all_fields ≡ Some (bare_fields same) = λ e. e ∙ ap (λ xs. Some (bare_fields xs)) (sym ok.1) in
      gives_all is_well_formed (AreFields all_fields) (all_fields ≡ None) all_fields a c (bare_fields fields) same r clean given
      (rest_well is_written toks same (given (r.gives clean)))
  fields_finish a c fields error (Err e) r f ok err =
      fails_all is_well_formed (AreFields all_fields) (all_fields ≡ None) all_fields a c (bare_fields fields) e r
      (subst (λ o. IfSome o (λ x. x.fault ≢ fault.Memory → (c.make ≡ false) × (c.fault ≡ Some x))) err f.refused) (λ h. h)

-- an error for one kind of part, as the error for another kind that has the same rules
pub finish_err : {S T : Type 0} (is_well : S → Bool) (denoted : S → Type 0) (nothing : Type 0) (is_well' : T → Bool) (denoted' : T → Type 0) (nothing' : Type 0)
    (a : Reader) (e : TextError) → Finishes is_well denoted nothing a (Err e) → (nothing → nothing') → Finishes is_well' denoted' nothing' a (Err e)
finish_err is_well denoted nothing is_well' denoted' nothing' a e f none = record {
  clean = tt;
  gives = tt;
  well = tt;
  made = f.made;
  keeps = f.keeps;
  refuses = λ n m. none (f.refuses n m);
}

-- fields as those of a module
abbrev module_with : Span → ModuleHead → List ModuleField → TextModule
module_with span h fields = record { span = span; id = h.id; name = h.name; kind = kind.Fields fields }

module _ (span : Span) (h : ModuleHead) (toks : Toks) where
  abbrev rule_of : Option (List ModuleField)
  rule_of = rest_of_fields (is_some h.keyword) toks

  abbrev denotes_module : TextModule → Type 0
  denotes_module = IsModule (fields_module span (bare_opening h) toks)

  pub module_err : (is_written : Bool) (a : Reader) (e : TextError) → is_written ≡ is_some h.keyword
      → Finishes is_well_formed (AreFields (rest_of_fields is_written toks)) (rest_of_fields is_written toks ≡ None) a (Err e)
      → Finishes is_well_formed_module denotes_module (fields_module span (bare_opening h) toks ≡ None) a (Err e)
  module_err is_written a e same f =
      finish_err is_well_formed (AreFields rule_of) (rule_of ≡ None) is_well_formed_module denotes_module (fields_module span (bare_opening h) toks ≡ None) a e
      (subst (λ w. Finishes is_well_formed (AreFields (rest_of_fields w toks)) (rest_of_fields w toks ≡ None) a (Err e)) same f)
      (λ e. ap (λ o. o >>= λ fs. Some (module_with span (bare_opening h) fs)) e)

-- a rule after a token that is skipped
pub skipped : {T : Type 0} (rule : Toks → Parse T) (end : Toks → Option Toks) (r s a b : Reader) (x : T)
    → left s ≡ after (left r) → s.fault ≡ r.fault → s.make ≡ r.make
    → Reads rule s a x → Expects end a b → ReadsAll (to_end (rule (after (left r))) end) r b x
skipped rule end r s a b x same fault make reads ends =
    all_after (to_end (rule (after (left r))) end) r s b x fault make
    (subst (λ t. ReadsAll (to_end (rule t) end) s b x) same (reads_all rule end s a b x reads ends))

module _ (h : ModuleHead) (r : Reader) where
  abbrev of_pieces : Span → List (Bor (List ℕ)) → TextModule
  of_pieces span ps = record { span = span; id = h.id; name = h.name; kind = kind.Binary ps }

  -- the same with pieces that have no addresses
  abbrev with_pieces : Span → List (Bor (List ℕ)) → TextModule
  with_pieces span ps = record { span = span; id = bare_id_option h.id; name = bare_name_option h.name; kind = kind.Binary ps }

  pub binary_err : (s a b : Reader) (pieces : List (Bor (List ℕ))) (e : TextError) → left s ≡ after (left r) → s.fault ≡ r.fault → s.make ≡ r.make
      → Reads strings s a (map bare_text pieces) → Expects (module_end true) a b → (e.fault ≢ fault.Memory → (b.make ≡ false) × (b.fault ≡ Some e))
      → ReadsModuleToEnd (binary_module (bare_opening h)) r (Err e)
  binary_err s a b pieces e same fault make reads ends f =
      fails_all is_well_formed_module (IsModule (binary_module (bare_opening h) (left r)))
      (binary_module (bare_opening h) (left r) ≡ None) (pieces_of (left r)) r b (map bare_text pieces) e
      (skipped strings (module_end true) r s a b (map bare_text pieces) same fault make reads ends) f
      (λ n. ap (λ o. o >>= λ ps. Some (with_pieces (module_position h) ps)) n)

  pub binary_ok : (s a b : Reader) (pieces : List (Bor (List ℕ))) (span : Span)
      → span ≡ module_position h → left s ≡ after (left r) → s.fault ≡ r.fault → s.make ≡ r.make
      → Reads strings s a (map bare_text pieces) → Expects (module_end true) a b → IsClean b
      → ReadsModuleToEnd (binary_module (bare_opening h)) r (Ok (of_pieces span pieces))
  binary_ok s a b pieces span at same fault make reads ends clean =
      gives_all is_well_formed_module (IsModule (binary_module (bare_opening h) (left r)))
      (binary_module (bare_opening h) (left r) ≡ None) (pieces_of (left r)) r b (map bare_text pieces) (of_pieces span pieces)
      (skipped strings (module_end true) r s a b (map bare_text pieces) same fault make reads ends) clean
      (λ g. ap (λ o. o >>= λ ps. Some (with_pieces (module_position h) ps)) g ∙ ap (λ p. Some (with_pieces p (map bare_text pieces))) (sym at)) refl
