-- A cached position that is compared returns the number of the name.
use Rattle.std.proofs.Common.{◌≡◌, ℕ, ◌<◌, List, length, get_or, Some, true, ap, sym, ◌∙◌, subst, T}
use Rattle.std.specs.declared.cmp.Ordering.TheVariants.{Less, Equal}
use Rattle.std.specs.FinMap.{FinMap, entries, entries_sorted, get, get-entries, find, is_sorted}
use Rattle.std.proofs.lemmas.Cmp.{tied_itself}
use Rattle.wast_base.specs.declared.ids.Id.{Id}
use Rattle.wast_base.specs.Ids.{name_of, same_id}
use Rattle.wast_base.specs.Order.{Key, key_of, key_cmp}
use Rattle.wast_base.proofs.Keys.{keys_total}
use Rattle.wast_base.proofs.Names.{same_name_equal}
use Rattle.wast_resolve_namespace.specs.Places.{key_at, entries_of, AreSorted, IsAt}
use Rattle.wast_resolve_namespace.proofs.Basics.{any_default}
use Rattle.wast_resolve_namespace.proofs.Searches.{rises, find_at}
use Rattle.wast_resolve_names.specs.Guesses.{Bears}

-- a position with the id
pub bears : (es : List (Id × ℕ)) (id : Id) (at : ℕ) (e : Id × ℕ) → at < length es → same_id (get_or es at e).0 id ≡ true → Bears es id at
bears es id at e lt h = record { within = lt; same = λ d. subst (λ (x : Id × ℕ). same_id x.0 id ≡ true) (any_default es at e d lt) h }

key_there : (es : List (Id × ℕ)) (id : Id) (at : ℕ) (d : Id × ℕ) → Bears es id at → key_at (get_or es at d) ≡ key_of (name_of id)
key_there es id at d h = ap key_of (same_name_equal (name_of (get_or es at d).0) (name_of id) (h.same d))

stands_at : (es : List (Id × ℕ)) (id : Id) (at : ℕ) → AreSorted es → Bears es id at → IsAt es (key_of (name_of id)) at
stands_at es id at sorted h = record {
  in_range = h.within;
  above = record {
    smaller = λ j d lt. subst (λ (k : Key). key_cmp (key_at (get_or es j d)) k ≡ Less) (key_there es id at d h) (rises es sorted j at d lt h.within);
  };
  same = λ d. subst (λ (k : Key). key_cmp k (key_of (name_of id)) ≡ Equal) (sym (key_there es id at d h)) (tied_itself keys_total (key_of (name_of id)));
}

-- its number is that of the name
pub guessed : (m : FinMap key_cmp ℕ) (es : List (Id × ℕ)) (id : Id) (at : ℕ) (e : Id × ℕ) → entries_of es ≡ entries m → Bears es id at
    → Some (get_or es at e).1 ≡ get m (key_of (name_of id))
guessed m es id at e are h =
    let sorted : AreSorted es = subst (λ xs. T (is_sorted key_cmp xs)) (sym are) (entries_sorted m) in
    sym (find_at (key_of (name_of id)) es at e (stands_at es id at sorted h)) ∙ ap (find key_cmp (key_of (name_of id))) are
    ∙ sym (get-entries m (key_of (name_of id)))
