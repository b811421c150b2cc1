-- Maps that rename ids: the sites and items of a renamed tree (text format: identifiers).
--
--   naming $a to $b        (local $a i32) has the site (local $b i32)
use Rattle.std.specs.Prelude.{⊤, ◌≡◌, List, map, Option, option_map}
use Rattle.wast_base.specs.Ids.{Name, Mark, mark_of_option}
use Rattle.wast_tree_map.specs.Tree.{Id, TypeUse, FunctionType}
use Rattle.wast_tree_map.specs.Tree.space
use Rattle.wast_tree_nodes.specs.Items.{Item}
use Rattle.wast_tree_nodes.specs.Sites.{Locals, BodyContext, param_marks, Check, ItemIndex, InnerIndex, PlainId, Clause, Covered, OfItem, Site, Asked, Used, Declared, LocalAt, FieldAt, LabelAt, Repeated, Begins, Ends}
use Rattle.wast_tree_map.specs.Mapped.{Indices, Change, JoinsAsk}

-- What each name is renamed to.
abbrev pub Naming : Type 0
Naming = Name → Name

-- The naming that keeps all names.
abbrev pub identity_naming : Naming
identity_naming name = name

-- A name that may be missing, renamed, with its position.
abbrev pub renamed_mark : Naming → Option Mark → Option Mark
renamed_mark n o = option_map (λ (m : Mark). (n m.0, m.1)) o

-- Names of locals or labels, some of which may be missing, renamed.
abbrev pub renamed : Naming → List (Option Name) → List (Option Name)
renamed n names = map (option_map n) names

-- An item with its name and the names of its struct fields renamed.
abbrev pub renamed_item : Naming → Item → Item
renamed_item n x = record x { id = renamed_mark n x.id; fields = map (renamed_mark n) x.fields }

-- The locals of a body, if its function is mapped and renamed.
abbrev pub named_locals : Naming → Change → Locals → Locals
named_locals n f l = record { owner = option_map (f.used OfItem) l.owner; names = renamed n l.names }

-- The position of an instruction in such a body.
abbrev pub named_here : Naming → Change → BodyContext → BodyContext
named_here n f h = record { locals = named_locals n f h.locals; blocks = renamed n h.blocks }

-- A check of a mapped and renamed part.
abbrev pub named_ask : Naming → Indices → Check → Check
named_ask n f (ItemIndex s i) = ItemIndex s (f s i)
named_ask n f (InnerIndex i) = InnerIndex i
named_ask n f (PlainId m) = PlainId (n m.0, m.1)
named_ask n f (Clause number holds) = Clause number holds
named_ask n f (Covered form holds) = Covered form holds

-- A site of a mapped and renamed part.
abbrev pub named_site : Naming → Change → Site → Site
named_site n f (Asked a) = Asked (named_ask n f.index a)
named_site n f (Used w u) = Used w (f.used w u)
named_site n f (Declared before m) = Declared (renamed n before) (renamed_mark n m)
named_site n f (LocalAt locals i) = LocalAt (named_locals n f locals) (f.local locals i)
named_site n f (FieldAt owner i) = FieldAt (f.index space.Ty owner) (f.field owner i)
named_site n f (LabelAt blocks i) = LabelAt (renamed n blocks) (f.label blocks i)
named_site n f (Repeated blocks m) = Repeated (renamed n blocks) (renamed_mark n m)
named_site n f (Begins blocks m) = Begins (renamed n blocks) (renamed_mark n m)
named_site n f Ends = Ends

-- The change renames the ids within items: those of the parameters in the type use of an item, which its body can
-- use, and others.
pub record RenamesIds (n : Naming) (f : Change) : Type 0 where
  pub params : (u : TypeUse FunctionType) → param_marks (f.used OfItem u).inline ≡ map (renamed_mark n) (param_marks u.inline)
  pub owns : (o : Option Id) → mark_of_option (f.own o) ≡ renamed_mark n (mark_of_option o)

-- At a site, two changes one after another are a third, if the first one renames ids.
abbrev pub NamedJoins : Naming → Change → Change → Change → Site → Type 0
NamedJoins n h g f (Asked a) = JoinsAsk h.index g.index f.index a
NamedJoins n h g f (Used w u) = g.used w (h.used w u) ≡ f.used w u
NamedJoins n h g f (Declared before m) = ⊤
NamedJoins n h g f (LocalAt locals i) = g.local (named_locals n h locals) (h.local locals i) ≡ f.local locals i
NamedJoins n h g f (FieldAt owner i) = (g.index space.Ty (h.index space.Ty owner) ≡ f.index space.Ty owner) × (g.field (h.index space.Ty owner) (h.field owner i) ≡ f.field owner i)
NamedJoins n h g f (LabelAt blocks i) = g.label (renamed n blocks) (h.label blocks i) ≡ f.label blocks i
NamedJoins n h g f (Repeated blocks m) = ⊤
NamedJoins n h g f (Begins blocks m) = ⊤
NamedJoins n h g f Ends = ⊤

-- The same at the ids of items and at all others.
pub record AreNamedJoint (n : Naming) (h g f : Change) : Type 0 where
  pub names : RenamesIds n h
  pub ids : (o : Option Id) → g.id (h.id o) ≡ f.id o
  pub owns : (o : Option Id) → g.own (h.own o) ≡ f.own o
