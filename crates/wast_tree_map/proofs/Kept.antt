-- Renamed sites and items are equal to the original ones, if no name changes.
use Rattle.std.specs.Prelude.{Option, Some, None, option_map}
use Rattle.std.proofs.Common.{◌≡◌, List, [], ◌∷◌, refl, sym, ap, ◌∙◌, map}
use Rattle.wast_base.specs.Ids.{Name, Mark, mark_of_option}
use Rattle.wast_tree_nodes.specs.Items.{Item}
use Rattle.wast_tree_nodes.specs.Sites.{Check, ItemIndex, Locals, Site, Asked, Used, Declared, LocalAt, FieldAt, LabelAt, Repeated, Begins, Ends}
use Rattle.wast_tree_map.specs.Mapped.{Indices, Change, mapped_locals, mapped_ask, mapped_site, KeepsMarks, JoinsAsk, Joins, AreJoint, Each}
use Rattle.wast_tree_map.specs.Named.{identity_naming, RenamesIds, renamed, renamed_mark, renamed_item, named_locals, named_ask, named_site}
use Rattle.wast_tree_map.specs.Named.{NamedJoins, AreNamedJoint}
use Rattle.wast_tree_map.proofs.Ways.{In, At}

pub mark_kept : (m : Option Mark) → renamed_mark identity_naming m ≡ m
mark_kept None = refl
mark_kept (Some m) = refl

marks_kept : (ms : List (Option Mark)) → map (renamed_mark identity_naming) ms ≡ ms
marks_kept [] = refl
marks_kept (m ∷ ms) = λ t. mark_kept m t ∷ marks_kept ms t

pub items_kept : (xs : List Item) → map (renamed_item identity_naming) xs ≡ xs
items_kept [] = refl
items_kept (x ∷ xs) = λ t. record x { id = mark_kept x.id t; fields = marks_kept x.fields t } ∷ items_kept xs t

name_kept : (o : Option Name) → option_map identity_naming o ≡ o
name_kept None = refl
name_kept (Some name) = refl

names_kept : (names : List (Option Name)) → renamed identity_naming names ≡ names
names_kept [] = refl
names_kept (o ∷ os) = λ t. name_kept o t ∷ names_kept os t

locals_kept : (f : Change) (l : Locals) → named_locals identity_naming f l ≡ mapped_locals f l
locals_kept f l = ap (λ (names : List (Option Name)). record (mapped_locals f l) { names = names }) (names_kept l.names)

-- Checks and sites.
ask_kept : (f : Indices) (a : Check) → named_ask identity_naming f a ≡ mapped_ask f a
ask_kept f (ItemIndex s i) = refl
ask_kept f x = refl

site_kept : (f : Change) (s : Site) → named_site identity_naming f s ≡ mapped_site f s
site_kept f (Asked a) = ap Asked (ask_kept f.index a)
site_kept f (Declared before m) = λ t. Declared (names_kept before t) (mark_kept m t)
site_kept f (LocalAt locals i) = ap (λ l. LocalAt l (f.local locals i)) (locals_kept f locals)
site_kept f (LabelAt blocks i) = ap (λ b. LabelAt b (f.label blocks i)) (names_kept blocks)
site_kept f (Repeated blocks m) = λ t. Repeated (names_kept blocks t) (mark_kept m t)
site_kept f (Begins blocks m) = λ t. Begins (names_kept blocks t) (mark_kept m t)
site_kept f x = refl

asks_kept : (f : Indices) (asks : List Check) → map (named_ask identity_naming f) asks ≡ map (mapped_ask f) asks
asks_kept f [] = refl
asks_kept f (a ∷ asks) = λ t. ask_kept f a t ∷ asks_kept f asks t

sites_kept : (f : Change) (ss : List Site) → map (named_site identity_naming f) ss ≡ map (mapped_site f) ss
sites_kept f [] = refl
sites_kept f (s ∷ ss) = λ t. site_kept f s t ∷ sites_kept f ss t

-- Changes that agree with a third.
site_joins : (h g f : Change) (s : Site) → Joins h g f s → NamedJoins identity_naming h g f s
site_joins h g f (Asked a) e = e
site_joins h g f (Used w u) e = e
site_joins h g f (Declared before m) e = e
site_joins h g f (LocalAt locals i) e = ap (λ l. g.local l (h.local locals i)) (locals_kept h locals) ∙ e
site_joins h g f (FieldAt owner i) e = e
site_joins h g f (LabelAt blocks i) e = ap (λ b. g.label b (h.label blocks i)) (names_kept blocks) ∙ e
site_joins h g f (Repeated blocks m) e = e
site_joins h g f (Begins blocks m) e = e
site_joins h g f Ends e = e

sites_join : (h g f : Change) (ss : List Site) → Each (Joins h g f) ss → Each (NamedJoins identity_naming h g f) ss
sites_join h g f [] e = tt
sites_join h g f (s ∷ ss) e = (site_joins h g f s e.0, sites_join h g f ss e.1)

pub names_kept_by : (f : Change) → KeepsMarks f → RenamesIds identity_naming f
names_kept_by f k = record { params = λ u. k.params u ∙ sym (marks_kept _); owns = λ o. k.owns o ∙ sym (mark_kept (mark_of_option o)) }

joint_kept : (h g f : Change) → AreJoint h g f → AreNamedJoint identity_naming h g f
joint_kept h g f j = record { names = names_kept_by h j.keeps; ids = j.ids; owns = j.owns }

-- So the theorems of a part are those without renaming.
module _ {T : Type 0} {sites : T → List Site} {changed : Change → T → T} (x : T) (a : At sites changed x) where
  pub stands_at : (f : Change) → KeepsMarks f → sites (changed f x) ≡ map (mapped_site f) (sites x)
  stands_at f k = a.stands identity_naming f (names_kept_by f k) ∙ sites_kept f (sites x)

  pub joins_at : (h g f : Change) → AreJoint h g f → Each (Joins h g f) (sites x) → changed g (changed h x) ≡ changed f x
  joins_at h g f j e = a.joins identity_naming h g f (joint_kept h g f j) (sites_join h g f (sites x) e)

module _ {T : Type 0} {asks : T → List Check} {changed : Change → T → T} (x : T) (a : In asks changed x) where
  pub stands_in : (f : Change) → KeepsMarks f → asks (changed f x) ≡ map (mapped_ask f.index) (asks x)
  stands_in f k = a.stands identity_naming f (names_kept_by f k) ∙ asks_kept f.index (asks x)

  pub joins_in : (h g f : Change) → AreJoint h g f → Each (JoinsAsk h.index g.index f.index) (asks x) → changed g (changed h x) ≡ changed f x
  joins_in h g f j e = a.joins identity_naming h g f (joint_kept h g f j) e
