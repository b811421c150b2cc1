-- The theorems of maps at one part, and how those of parts are combined.
use Rattle.std.specs.Prelude.{Option, Some, None, option_map}
use Rattle.std.proofs.Common.{◌≡◌, List, [], ◌∷◌, ◌++◌, refl, sym, ap, ◌∙◌, subst, map}
use Rattle.std.specs.List.{flat_map}
use Rattle.std.proofs.lemmas.List.{map-append}
use Rattle.wast_base.specs.Blocks.{Blocks}
use Rattle.wast_base.specs.Ids.{Mark, mark_of_option}
use Rattle.wast_tree_map.specs.Tree.{Id, Index, Space, TypeUse, FunctionType}
use Rattle.wast_tree_nodes.specs.Sites.{Check, PlainId, Where, Site, Asked, Begins, check_sites, in_index, at_index, at_label, if_there, in_id, in_use}
use Rattle.wast_tree_map.specs.Mapped.{Change, no_change, JoinsAsk, Each}
use Rattle.wast_tree_map.specs.Named.{Naming, RenamesIds, renamed, renamed_mark, named_ask, named_site, NamedJoins, AreNamedJoint}

pub each_first : {S : Type 0} (p : S → Type 0) (xs ys : List S) → Each p (xs ++ ys) → Each p xs
each_first p [] ys e = tt
each_first p (x ∷ xs) ys e = (e.0, each_first p xs ys e.1)

pub each_rest : {S : Type 0} (p : S → Type 0) (xs ys : List S) → Each p (xs ++ ys) → Each p ys
each_rest p [] ys e = e
each_rest p (x ∷ xs) ys e = each_rest p xs ys e.1

-- Three theorems of a part: the sites of the mapped part are the mapped sites; two changes are a third if they agree
-- with it at each site; and the change that changes nothing keeps the part. The mapped part is among other names, so
-- there is a way to read it and a way to map it after the first change (`after`, `then`).
pub record Lawful {S T : Type 0} (act : Naming → Change → S → S) (joint : Naming → Change → Change → Change → S → Type 0) (sites : T
    → List S) (after : Naming → T → List S) (changed : Change → T → T) (then : Naming → Change → T → T) (x : T) : Type 0 where
  pub stands : (n : Naming) (f : Change) → RenamesIds n f → after n (changed f x) ≡ map (act n f) (sites x)
  pub joins : (n : Naming) (h g f : Change) → AreNamedJoint n h g f → Each (joint n h g f) (sites x) → then n g (changed h x) ≡ changed f x
  pub still : changed no_change x ≡ x

abbrev pub In : {T : Type 0} → (T → List Check) → (Change → T → T) → T → Type 0
In sites changed x = Lawful (λ n f. named_ask n f.index) (λ n h g f. JoinsAsk h.index g.index f.index) sites (λ n. sites) changed (λ n. changed) x

abbrev pub At : {T : Type 0} → (T → List Site) → (Change → T → T) → T → Type 0
At sites changed x = Lawful named_site NamedJoins sites (λ n. sites) changed (λ n. changed) x

-- A part inside enclosing blocks.
abbrev pub Among : {T : Type 0} → (Blocks → T → List Site) → (Change → Blocks → T → T) → Blocks → T → Type 0
Among sites changed blocks x = Lawful named_site NamedJoins (sites blocks) (λ n. sites (renamed n blocks)) (λ f. changed f blocks)
    (λ n f. changed f (renamed n blocks)) x

-- An index, by itself and in a body.
pub index_in : (s : Space) (i : Index) → In (in_index s) (λ f i. f.index s i) i
index_in s i = record { stands = λ n f k. refl; joins = λ n h g f j e. e.0; still = refl }

pub index_at : (s : Space) (i : Index) → At (at_index s) (λ f i. f.index s i) i
index_at s i = record { stands = λ n f k. refl; joins = λ n h g f j e. e.0; still = refl }

-- An id without a check.
abbrev mark_asks : Option Mark → List Check
mark_asks None = []
mark_asks (Some m) = PlainId m ∷ []

ids_asked : (o : Option Id) → if_there in_id o ≡ mark_asks (mark_of_option o)
ids_asked None = refl
ids_asked (Some id) = refl

marks_asked : (n : Naming) (f : Change) (m : Option Mark) → mark_asks (renamed_mark n m) ≡ map (named_ask n f.index) (mark_asks m)
marks_asked n f None = refl
marks_asked n f (Some m) = refl

pub mark_in : (o : Option Id) → In (if_there in_id) (λ f o. f.own o) o
mark_in o = record {
  stands = λ n f k. ids_asked (f.own o) ∙ (ap mark_asks (k.owns o) ∙ (marks_asked n f (mark_of_option o) ∙ ap (map (named_ask n f.index)) (sym (ids_asked o))));
  joins = λ n h g f j e. j.owns o;
  still = refl;
}

-- A type use.
pub use_at : (w : Where) (u : TypeUse FunctionType) → At (in_use w) (λ f u. f.used w u) u
use_at w u = record { stands = λ n f k. refl; joins = λ n h g f j e. e.0; still = refl }

-- A label.
pub label_at : (blocks : Blocks) (l : Index) → Among at_label (λ f blocks. f.label blocks) blocks l
label_at blocks l = record { stands = λ n f k. refl; joins = λ n h g f j e. e.0; still = refl }

-- The label of a block.
abbrev pub begins : Blocks → Option Id → List Site
begins blocks o = Begins blocks (mark_of_option o) ∷ []

pub begins_at : (blocks : Blocks) (o : Option Id) → Among begins (λ f blocks o. f.own o) blocks o
begins_at blocks o = record { stands = λ n f k. ap (λ m. Begins (renamed n blocks) m ∷ []) (k.owns o); joins = λ n h g f j e. j.owns o; still = refl }

-- A part of a type, as a part of a field.
asked_stands : (n : Naming) (f : Change) (xs : List Check) → check_sites (map (named_ask n f.index) xs) ≡ map (named_site n f) (check_sites xs)
asked_stands n f [] = refl
asked_stands n f (x ∷ xs) = ap (λ ss. Asked (named_ask n f.index x) ∷ ss) (asked_stands n f xs)

each_asked : (n : Naming) (h g f : Change) (xs : List Check) → Each (NamedJoins n h g f) (check_sites xs) → Each (JoinsAsk h.index g.index f.index) xs
each_asked n h g f [] e = tt
each_asked n h g f (x ∷ xs) e = (e.0, each_asked n h g f xs e.1)

pub asked_at : {T : Type 0} {s : T → List Check} {m : Change → T → T} (x : T) → In s m x → At (λ y. check_sites (s y)) m x
asked_at {s = s} x a = record {
  stands = λ n f k. ap check_sites (a.stands n f k) ∙ asked_stands n f (s x);
  joins = λ n h g f j e. a.joins n h g f j (each_asked n h g f (s x) e);
  still = a.still;
}

module _ {S : Type 0} {act : Naming → Change → S → S} {joint : Naming → Change → Change → Change → S → Type 0} where
  -- The id of an item.
  pub item_id_at : (o : Option Id) → Lawful act joint (λ o. []) (λ n o. []) (λ f o. f.id o) (λ n f o. f.id o) o
  item_id_at o = record { stands = λ n f k. refl; joins = λ n h g f j e. j.ids o; still = refl }

  -- A part without indices and ids.
  pub fixed_at : {T : Type 0} {t : T → List S} {c : Change → T → T} (x : T) → ((f : Change) → c f x ≡ x)
      → ((n : Naming) (f : Change) → map (act n f) (t x) ≡ t x) → Lawful act joint t (λ n. t) c (λ n. c) x
  fixed_at {t = t} {c = c} x moves stays = record {
    stands = λ n f k. ap t (moves f) ∙ sym (stays n f);
    joins = λ n h g f j e. ap (c g) (moves h)
        ∙ (moves g ∙ sym (moves f));
    still = moves no_change;
  }

  -- One part after the other.
  module _ {A B : Type 0} {s : A → List S} {sa : Naming → A → List S} {m : Change → A → A} {ma : Naming → Change → A → A} {t : B
      → List S} {ta : Naming → B → List S} {c : Change → B → B} {ca : Naming → Change → B → B} where
    pub both_at : (x : A) (y : B) → Lawful act joint s sa m ma x → Lawful act joint t ta c ca y
        → Lawful {T = A × B} act joint (λ p. s p.0 ++ t p.1) (λ n p. sa n p.0 ++ ta n p.1) (λ f p. (m f p.0, c f p.1))
        (λ n f p. (ma n f p.0, ca n f p.1)) (x, y)
    both_at x y a b = record {
      stands = λ n f k. ap (λ z. z ++ ta n (c f y)) (a.stands n f k)
          ∙ (ap (λ z. map (act n f) (s x) ++ z) (b.stands n f k) ∙ sym (map-append (act n f) (s x) (t y)));
      joins = λ n h g f j e i. (a.joins n h g f j (each_first (joint n h g f) (s x) (t y) e) i, b.joins n h g f j (each_rest (joint n h g f) (s x) (t y) e) i);
      still = λ i. (a.still i, b.still i);
    }

  -- A part that is made of another: a variant, or a struct.
  module _ {A T : Type 0} {s : A → List S} {sa : Naming → A → List S} {m : Change → A → A} {ma : Naming → Change → A → A} {t : T
      → List S} {ta : Naming → T → List S} {c : Change → T → T} {ca : Naming → Change → T → T} where
    pub made : (make : A → T) → ((y : A) → t (make y) ≡ s y) → ((n : Naming) (y : A) → ta n (make y) ≡ sa n y)
        → ((f : Change) (y : A) → c f (make y) ≡ make (m f y)) → ((n : Naming) (f : Change) (y : A) → ca n f (make y) ≡ make (ma n f y)) → (x : A)
        → Lawful act joint s sa m ma x → Lawful act joint t ta c ca (make x)
    made make reads reads_then moves moves_then x a = record {
      stands = λ n f k. ap (ta n) (moves f x) ∙ (reads_then n (m f x) ∙ (a.stands n f k ∙ ap (map (act n f)) (sym (reads x))));
      joins = λ n h g f j e. ap (ca n g) (moves h x)
          ∙ (moves_then n g (m h x) ∙ (ap make (a.joins n h g f j (subst (Each (joint n h g f)) (reads x) e)) ∙ sym (moves f x)));
      still = moves no_change x ∙ ap make a.still;
    }

  module _ {A T : Type 0} {s : A → List S} {m : Change → A → A} {t : T → List S} {c : Change → T → T} where
    pub made_at : (make : A → T) → ((y : A) → t (make y) ≡ s y) → ((f : Change) (y : A) → c f (make y) ≡ make (m f y)) → (x : A)
        → Lawful act joint s (λ n. s) m (λ n. m) x → Lawful act joint t (λ n. t) c (λ n. c) (make x)
    made_at make reads moves x a = made make reads (λ n. reads) moves (λ n. moves) x a

  module _ {T : Type 0} {s : T → List S} {sa : Naming → T → List S} {m : Change → T → T} {ma : Naming → Change → T → T} where
    -- A part after one that is supported or not.
    pub tested_at : (x : T) (sites : List S) → ((n : Naming) (f : Change) → map (act n f) sites ≡ sites) → Lawful act joint s sa m ma x
        → Lawful act joint (λ y. s y ++ sites) (λ n y. sa n y ++ sites) m ma x
    tested_at x sites stays a = record {
      stands = λ n f k. ap (λ z. z ++ sites) (a.stands n f k) ∙ (ap (λ z. map (act n f) (s x) ++ z) (sym (stays n f)) ∙ sym (map-append (act n f) (s x) sites));
      joins = λ n h g f j e. a.joins n h g f j (each_first (joint n h g f) (s x) sites e);
      still = a.still;
    }

    -- An optional part, and each part of a list.
    pub option_at : ((x : T) → Lawful act joint s sa m ma x) → (o : Option T)
        → Lawful act joint (if_there s) (λ n. if_there (sa n)) (λ f o. option_map (m f) o) (λ n f o. option_map (ma n f) o) o
    option_at one None = record { stands = λ n f k. refl; joins = λ n h g f j e. refl; still = refl }
    option_at one (Some x) = let a = one x in record { stands = a.stands; joins = λ n h g f j e. ap Some (a.joins n h g f j e); still = ap Some a.still }

    pub list_at : ((x : T) → Lawful act joint s sa m ma x) → (xs : List T)
        → Lawful act joint (flat_map s) (λ n. flat_map (sa n)) (λ f xs. map (m f) xs) (λ n f xs. map (ma n f) xs) xs
    list_at one [] = record { stands = λ n f k. refl; joins = λ n h g f j e. refl; still = refl }
    list_at one (x ∷ xs) =
        let a = one x in
        let b = list_at one xs in
        record {
          stands = λ n f k. ap (λ z. z ++ flat_map (sa n) (map (m f) xs)) (a.stands n f k)
              ∙ (ap (λ z. map (act n f) (s x) ++ z) (b.stands n f k) ∙ sym (map-append (act n f) (s x) (flat_map s xs)));
          joins = λ n h g f j e i. a.joins n h g f j (each_first (joint n h g f) (s x) (flat_map s xs) e) i ∷ b.joins n h g f j
              (each_rest (joint n h g f) (s x) (flat_map s xs) e) i;
          still = λ i. a.still i ∷ b.still i;
        }

-- A part inside enclosing blocks that is made of others.
module _ {A T : Type 0} {s : A → List Site} {sa : Naming → A → List Site} {m : Change → A → A} {ma : Naming → Change → A → A} where
  pub made_among : (sites : Blocks → T → List Site) (changed : Change → Blocks → T → T) (blocks : Blocks) (make : A → T)
      → ((y : A) → sites blocks (make y) ≡ s y) → ((n : Naming) (y : A) → sites (renamed n blocks) (make y) ≡ sa n y)
      → ((f : Change) (y : A) → changed f blocks (make y) ≡ make (m f y))
      → ((n : Naming) (f : Change) (y : A) → changed f (renamed n blocks) (make y) ≡ make (ma n f y))
      → (x : A) → Lawful named_site NamedJoins s sa m ma x → Among sites changed blocks (make x)
  made_among sites changed blocks make reads reads_then moves moves_then x a =
      made {t = sites blocks} {ta = λ n. sites (renamed n blocks)} {c = λ f. changed f blocks} {ca = λ n f. changed f
      (renamed n blocks)} make reads reads_then moves moves_then x a
