-- Maps of numbers by ids, and what commands can refer to.
use Rattle.std.proofs.Common.{◌≡◌, ℕ, List, [], ◌∷◌, ◌++◌, length, reverse, Option, Some, None, cond, Bool, true, false, refl, sym, ap, ◌∙◌, subst}
use Rattle.std.specs.BTreeMap.{BTreeMap, get, Updates}
use Rattle.std.specs.Cmp.{both_ways}
use Rattle.std.specs.Map.{lookup}
use Rattle.std.specs.Ordering.{is_eq}
use Rattle.std.specs.Prelude.{slice_get, option_and_then}
use Rattle.std.proofs.lemmas.List.{reverse-append}
use Rattle.wast_base.specs.contracts.ids.IdOrd.TheImpl as by_name
use Rattle.wast_base.specs.contracts.ids.IdOrd.TheImpl.Laws as laws
use Rattle.wast_base.specs.contracts.ids.NamePartialEq.TheImpl as names
use Rattle.wast_base.specs.declared.ids.Id.{Id}
use Rattle.wast_base.specs.declared.ids.Name as code
use Rattle.wast_base.specs.declared.ids.Name.TheVariants as name
use Rattle.wast_base.specs.Ids.{Name, name_of, named_by, same_name}
use Rattle.wast_base.proofs.Names.{same_name_equal, same_name_itself}
use Rattle.wast_script.specs.declared.commands.ScriptModule.{ScriptModule}
use Rattle.wast_script.specs.declared.commands.CommandKind.{CommandKind}
use Rattle.wast_script.specs.declared.commands.CommandKind.TheVariants as kind
use Rattle.wast_script_json.specs.References.{Numbered, own_name, shared_as, sharing, Reach, module_at, instance_at, with_instance}
use Rattle.wast_script_json.specs.References.{with_module, State, nothing_known, defined, copied, entered, left_to, IsKnown, Defines, After}
use Rattle.wast_script_json.specs.Known.{HasNumbers, Lists, Reaches, ReachesEach, Knows}
use Rattle.wast_script_json.specs.declared.interfaces.Interface.{Interface}
use Rattle.wast_script_json.specs.declared.instances.Numbers.{Numbers}
use Rattle.wast_script_json.specs.declared.instances.Scope.{Scope}
use Rattle.wast_script_json.specs.declared.instances.Instances.{Instances}
use Rattle.wast_script_json.specs.declared.modules.ConvertedModule.{ConvertedModule}

-- ids are equal in the order exactly if their names are
name_is : (a b : code.Name) → same_name (named_by a) (named_by b) ≡ names.ghosts.eq a b
name_is (name.Written a) (name.Written b) = refl
name_is (name.Generated a) (name.Generated b) = refl
name_is (name.Written a) (name.Generated b) = refl
name_is (name.Generated a) (name.Written b) = refl

ties : (a b : Id) → is_eq (by_name.ghosts.cmp a b) ≡ same_name (name_of a) (name_of b)
ties a b = sym (laws.matches_eq-law a b) ∙ sym (name_is a.name b.name)

same_turned : (a b : Name) → same_name a b ≡ same_name b a
same_turned a b = both_ways (same_name a b) (same_name b a) (turn a b) (turn b a)
  where
    turn : (a b : Name) → same_name a b ≡ true → same_name b a ≡ true
    turn a b h = ap (λ n. same_name n a) (sym (same_name_equal a b h)) ∙ same_name_itself a

-- a map without entries
pub no_numbers : (n : Numbers) → n.by_id.entries ≡ [] → n.last ≡ None → Lists n [] []
no_numbers n empty none = record {
  by_id = λ id. ap (λ (es : List (Id × ℕ)). lookup (λ k. is_eq (by_name.ghosts.cmp id k)) es) empty;
  last = none;
}

-- a map after one more number, of an id and of none
pub named : (m n : BTreeMap Id ℕ) (id : Id) (number : ℕ) → Updates by_name.ghosts.cmp m n id (Some number)
    → (all : Numbered) → HasNumbers m all → HasNumbers n ((Some (name_of id), number) ∷ all)
named m n id number updates all h q =
    updates.0 q
    ∙ ap (λ b. cond b (Some number) (get by_name.ghosts.cmp m q)) (ties id q ∙ same_turned (name_of id) (name_of q))
    ∙ ap (λ o. cond (same_name (name_of q) (name_of id)) (Some number) o) (h q)

pub named_so : (m n : BTreeMap Id ℕ) (o : Option Id) (id : Id) (number : ℕ) → o ≡ Some id → Updates by_name.ghosts.cmp m n id (Some number)
    → (all : Numbered) → HasNumbers m all → HasNumbers n ((own_name o, number) ∷ all)
named_so m n o id number is updates all h = subst (λ (p : Option Id). HasNumbers n ((own_name p, number) ∷ all)) (sym is) (named m n id number updates all h)

pub unnamed : (m : BTreeMap Id ℕ) (o : Option Id) (number : ℕ) → o ≡ None → (all : Numbered) → HasNumbers m all → HasNumbers m ((own_name o, number) ∷ all)
unnamed m o number is all h = subst (λ (p : Option Id). HasNumbers m ((own_name p, number) ∷ all)) (sym is) h

-- the number of an id, by cases of both
pub shared_some : (n : Numbers) (id : Option Id) (o : Option ℕ) (k : ℕ) → o ≡ Some k → HasNumbers n.by_id ((own_name id, k) ∷ []) → n.last ≡ None
    → Lists n [] (shared_as id o)
shared_some n id o k is h last = subst (λ (p : Option ℕ). Lists n [] (shared_as id p)) (sym is) (record { by_id = h; last = last })

pub shared_none : (n : Numbers) (id : Option Id) (o : Option ℕ) → o ≡ None → Lists n [] [] → Lists n [] (shared_as id o)
shared_none n id o is h = subst (λ (p : Option ℕ). Lists n [] (shared_as id p)) (sym is) h

-- one more number
abbrev pub Adds : Numbers → Numbers → Option Id → ℕ → Type 0
Adds m n id k = (own all : Numbered) → Lists m own all → Lists n ((own_name id, k) ∷ own) ((own_name id, k) ∷ all)

pub as_definition : (c d : Scope) (id : Option Id) (b : Bool) (k : ℕ) → b ≡ true → Adds c.definitions d.definitions id k → d.instances ≡ c.instances
    → (r : Reach) → Reaches c r → Reaches d (with_module id b k r)
as_definition c d id b k is more same r h = subst (λ (a : Bool). Reaches d (with_module id a k r)) (sym is) (record {
  definitions = more _ _ h.definitions;
  instances = subst (λ (n : Numbers). Lists n r.instances (r.instances ++ r.shared)) (sym same) h.instances;
})

pub as_module : (c d : Scope) (id : Option Id) (b : Bool) (k : ℕ) → b ≡ false → Adds c.definitions d.definitions id k → Adds c.instances d.instances id k
    → (r : Reach) → Reaches c r → Reaches d (with_module id b k r)
as_module c d id b k is more further r h = subst (λ (a : Bool). Reaches d (with_module id a k r)) (sym is) (record {
  definitions = more _ _ h.definitions;
  instances = further _ _ h.instances;
})

pub as_instance : (c d : Scope) (id : Option Id) (o : Option ℕ) (k : ℕ) → o ≡ Some k → d.definitions ≡ c.definitions → Adds c.instances d.instances id k
    → (r : Reach) → Reaches c r → Reaches d (with_instance id o r)
as_instance c d id o k is same more r h = subst (λ (p : Option ℕ). Reaches d (with_instance id p r)) (sym is) (record {
  definitions = subst (λ (n : Numbers). Lists n r.definitions r.definitions) (sym same) h.definitions;
  instances = more _ _ h.instances;
})

pub no_instance : (c : Scope) (id : Option Id) (o : Option ℕ) → o ≡ None → (r : Reach) → Reaches c r → Reaches c (with_instance id o r)
no_instance c id o is r h = subst (λ (p : Option ℕ). Reaches c (with_instance id p r)) (sym is) h

-- what is known after one more module
pub one_more : (i j : Instances) (id : Option Id) (d : Bool) (x : Option Interface) (n : ℕ) → j.interfaces.items ≡ i.interfaces.items ++ x ∷ []
    → n ≡ length i.interfaces.items
    → ((r : Reach) → Reaches i.scope r → Reaches j.scope (with_module id d n r)) → j.outer.items ≡ i.outer.items → (s : State) → Knows i s
    → Knows j (defined id d x s)
one_more i j id d x n more count scope same s k = record {
  known = more ∙ ap (λ xs. xs ++ x ∷ []) k.known;
  reach = subst (λ (m : ℕ). Reaches j.scope (with_module id d m s.reach)) (count ∙ ap (λ xs. length xs) k.known) (scope s.reach k.reach);
  outside = subst (λ (xs : List Scope). ReachesEach (reverse xs) s.outside) (sym same) k.outside;
}

pub knows_nothing : (i : Instances) → i.interfaces.items ≡ [] → Reaches i.scope (sharing []) → i.outer.items ≡ [] → Knows i nothing_known
knows_nothing i none reach alone = record {
  known = none;
  reach = reach;
  outside = subst (λ (xs : List Scope). ReachesEach (reverse xs) []) (sym alone) tt;
}

-- one more instance
pub one_instance : (i j : Instances) (id original : Option Id) (n : Option ℕ) → j.interfaces.items ≡ i.interfaces.items → j.outer.items ≡ i.outer.items
    → ((r : Reach) → Reaches i.scope r → n ≡ module_at original r) → ((r : Reach) → Reaches i.scope r → Reaches j.scope (with_instance id n r))
    → (s : State) → Knows i s
    → Knows j (copied id original s)
one_instance i j id original n items outer found more s k = record {
  known = items ∙ k.known;
  reach = subst (λ (m : Option ℕ). Reaches j.scope (with_instance id m s.reach)) (found s.reach k.reach) (more s.reach k.reach);
  outside = subst (λ (xs : List Scope). ReachesEach (reverse xs) s.outside) (sym outer) k.outside;
}

-- the end of a thread, and its beginning
pub popped : (xs : List Scope) (x : Scope) (c : List Scope) → c ≡ xs ++ x ∷ [] → reverse c ≡ x ∷ reverse xs
popped xs x c e = ap reverse e ∙ reverse-append xs (x ∷ [])

pub leaves : (s : State) (rs : List Reach) (x : Scope) (xs : List Scope) (j : Instances) → j.interfaces.items ≡ s.known → j.scope ≡ x
    → reverse j.outer.items ≡ xs
    → ReachesEach (x ∷ xs) rs → Knows j (left_to s rs)
leaves s [] x xs j known scope outside h = absurd h
leaves s (r ∷ rs) x xs j known scope outside h = record {
  known = known;
  reach = subst (λ (c : Scope). Reaches c r) (sym scope) h.0;
  outside = subst (λ (cs : List Scope). ReachesEach cs rs) (sym outside) h.1;
}

pub stays : (s : State) (rs : List Reach) (j : Instances) → Knows j s → ReachesEach [] rs → Knows j (left_to s rs)
stays s [] j k h = k
stays s (r ∷ rs) j k h = absurd h

pub none_outside : (i j : Instances) (s : State) → j.interfaces.items ≡ i.interfaces.items → j.scope ≡ i.scope → i.outer.items ≡ [] → j.outer.items ≡ []
    → Knows i s → Knows j (left_to s s.outside)
none_outside i j s items scope old new k =
    stays s s.outside j (record {
      known = items ∙ k.known;
      reach = subst (λ (c : Scope). Reaches c s.reach) (sym scope) k.reach;
      outside = subst (λ (cs : List Scope). ReachesEach (reverse cs) s.outside) (old ∙ sym new) k.outside;
    }) (subst (λ (cs : List Scope). ReachesEach (reverse cs) s.outside) old k.outside)

pub one_thread : (i j : Instances) (shared : Option Id) (n : Option ℕ) → j.interfaces.items ≡ i.interfaces.items
    → ((r : Reach) → Reaches i.scope r → n ≡ instance_at shared r)
    → Reaches j.scope (sharing (shared_as shared n)) → j.outer.items ≡ i.outer.items ++ i.scope ∷ [] → (s : State) → Knows i s → Knows j (entered shared s)
one_thread i j shared n items found scope outer s k = record {
  known = items ∙ k.known;
  reach = subst (λ (m : Option ℕ). Reaches j.scope (sharing (shared_as shared m))) (found s.reach k.reach) scope;
  outside = subst (λ (cs : List Scope). ReachesEach cs (s.reach ∷ s.outside)) (sym (popped i.outer.items i.scope j.outer.items outer)) (k.reach, k.outside);
}

-- the instance that an id refers to, and what is known of it
pub looked_up : (i : Instances) (s : State) (n m : Option ℕ) → Knows i s → n ≡ m
    → option_and_then (slice_get i.interfaces.items) n ≡ option_and_then (slice_get s.known) m
looked_up i s n m k e = ap (λ (xs : List (Option Interface)). option_and_then (slice_get xs) n) k.known ∙ ap (option_and_then (slice_get s.known)) e

-- what is known after a command of a kind
pub of_kind : (k l : CommandKind) (is : k ≡ l) (m : Option ConvertedModule) (j : Instances) (s t : State) → After l m s t → Knows j t
    → (u : State) × After k m s u × Knows j u
of_kind k l is m j s t after know = (t, subst (λ (x : CommandKind). After x m s t) (sym is) after, know)

pub of_module : (o : Option ConvertedModule) (m : ConvertedModule) (i : Option Interface) (id : Option Id) (d : Bool) (j : Instances) (s : State)
    → o ≡ Some m → IsKnown m i → Knows j (defined id d i s) → (t : State) × Defines id d o s t × Knows j t
of_module o m i id d j s is known know =
    (defined id d i s, subst (λ (p : Option ConvertedModule). Defines id d p s (defined id d i s)) (sym is) (i, known, refl), know)

pub of_none : (o : Option ConvertedModule) (id : Option Id) (d : Bool) (j : Instances) (s : State) → o ≡ None → Knows j s
    → (t : State) × Defines id d o s t × Knows j t
of_none o id d j s is know = (s, subst (λ (p : Option ConvertedModule). Defines id d p s s) (sym is) refl, know)

-- a command after which the same is known
pub plain : (k : CommandKind) (c : Option ConvertedModule) (s : State) → ((m : ScriptModule) → k ≡ kind.Module m → ⊥)
    → ((m : ScriptModule) → k ≡ kind.Definition m → ⊥)
    → ((i o : Option Id) → k ≡ kind.Instance i o → ⊥) → ((i : Id) (o : Option Id) → k ≡ kind.Thread i o → ⊥) → (k ≡ kind.ThreadEnd → ⊥) → After k c s s
plain (kind.Module m) c s f g h i j = absurd (f m refl)
plain (kind.Definition m) c s f g h i j = absurd (g m refl)
plain (kind.Instance a b) c s f g h i j = absurd (h a b refl)
plain (kind.Thread a b) c s f g h i j = absurd (i a b refl)
plain kind.ThreadEnd c s f g h i j = absurd (j refl)
plain k c s f g h i j = refl
