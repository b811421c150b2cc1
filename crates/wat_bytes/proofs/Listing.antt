-- The list that a lister makes of the items that it visits.
use Rattle.std.proofs.Common.{◌≡◌, ◌+◌, ◌<◌, ℕ, true, false, cond, List, [], ◌∷◌, ◌++◌, map, flat_map, length, take, get_or}
use Rattle.std.proofs.Common.{Option, Some, None, refl, sym, ap, ◌∙◌, subst, append_assoc, append-nil, length-append, arith}
use Rattle.std.proofs.lemmas.List.{map-append, take_more, flat_map_more}
use Rattle.wast_base.specs.declared.ids.Span.{Span}
use Rattle.wast_base.specs.declared.spaces.Space.{Space}
use Rattle.wast_base.specs.Ids.{Name, Written, Generated, Mark, mark_of, is_generated}
use Rattle.wast_base.specs.Spaces.{same_space}
use Rattle.wast_tree_nodes.specs.Items.{Item}
use Rattle.wast_tree_visit.specs.Visits.{TellsEach, Visits}
use Rattle.wast_core_name_section.specs.GivenNames.{named_from}
use Rattle.wast_core_name_section.proofs.NameEntries.{named_append}
use Rattle.wat_bytes.specs.Listing.{ListsOn}
use Rattle.wat_bytes.specs.Names.{Entry, content_of, entries_in, id_in, source_mark}
use Rattle.wat_bytes.specs.declared.lister.Lister.{Lister}
use Rattle.wat_bytes.specs.declared.names.Denoted.{Denoted}

-- An id is from the source, or it is generated.
pub generated_id : (name : Name) (place : Span) → is_generated name ≡ true → source_mark (Some (name, place)) ≡ None
generated_id (Written text) place is = absurd cc
generated_id (Generated n) place is = refl

pub written_id : (name : Name) (place : Span) → is_generated name ≡ false → source_mark (Some (name, place)) ≡ Some (name, place)
written_id (Written text) place is = refl
written_id (Generated n) place is = absurd cc

-- One more item, without a source id or with one.
pub adds_none : (a b : Lister) (id : Option Mark) → id ≡ None → b.space ≡ a.space → b.is_stopped ≡ a.is_stopped
    → b.next ≡ a.next + 1 → b.listed.items ≡ a.listed.items → ListsOn a (id ∷ []) b
adds_none a b id none space stopped next listed =
    record {
      space = space;
      runs = λ r. sym stopped ∙ r;
      next = λ r. next;
      listed = λ r. ap (map content_of) listed ∙ (sym (append-nil (map content_of a.listed.items))
          ∙ ap (λ o. map content_of a.listed.items ++ map (λ e. (a.space, e)) (named_from a.next (o ∷ []))) (sym none));
    }

pub adds_entry : (a b : Lister) (id : Option Mark) (d : Denoted) → id ≡ Some (mark_of d.id) → d.space ≡ a.space
    → d.number ≡ a.next → b.space ≡ a.space → b.is_stopped ≡ a.is_stopped → b.next ≡ a.next + 1
    → b.listed.items ≡ a.listed.items ++ d ∷ [] → ListsOn a (id ∷ []) b
adds_entry a b id d some own number space stopped next listed =
    let entry : content_of d ≡ (a.space, (a.next, mark_of d.id)) = λ i. (own i, (number i, mark_of d.id)) in
    record {
      space = space;
      runs = λ r. sym stopped ∙ r;
      next = λ r. next;
      listed = λ r.
          ap (map content_of) listed
          ∙ (map-append content_of a.listed.items (d ∷ [])
          ∙ (ap (λ e. map content_of a.listed.items ++ e ∷ []) entry
          ∙ ap (λ o. map content_of a.listed.items ++ map (λ e. (a.space, e)) (named_from a.next (o ∷ []))) (sym some)));
    }

-- After a failure nothing is said.
pub stops : (a b : Lister) (ids : List (Option Mark)) → b.space ≡ a.space → b.is_stopped ≡ true → ListsOn a ids b
stops a b ids space stopped = record { space = space; runs = λ r. absurd cc; next = λ r. absurd cc; listed = λ r. absurd cc }

-- No item changes nothing.
pub lists_none : (l : Lister) → ListsOn l [] l
lists_none l = record { space = refl; runs = λ h. h; next = λ h. omega arith; listed = λ h. sym (append-nil (map content_of l.listed.items)) }

-- An item is of the index space, or it is of another one.
pub of_space : (a b : Lister) (x : Item) → same_space a.space x.space ≡ true → ListsOn a (source_mark x.id ∷ []) b → ListsOn a (id_in a.space x) b
of_space a b x same h = subst (λ c. ListsOn a (cond c (source_mark x.id ∷ []) []) b) (sym same) h

pub of_other : (a : Lister) (x : Item) → same_space a.space x.space ≡ false → ListsOn a (id_in a.space x) a
of_other a x other = subst (λ c. ListsOn a (cond c (source_mark x.id ∷ []) []) a) (sym other) (lists_none a)

-- Entries after those of other items.
after : (s : Space) (n : ℕ) (all : List Entry) (xs ys : List (Option Mark))
    → (all ++ map (λ e. (s, e)) (named_from n xs)) ++ map (λ e. (s, e)) (named_from (n + length xs) ys) ≡ all ++ map (λ e. (s, e)) (named_from n (xs ++ ys))
after s n all xs ys =
    append_assoc all (map (λ e. (s, e)) (named_from n xs)) (map (λ e. (s, e)) (named_from (n + length xs) ys))
    ∙ ap (λ l. all ++ l)
    (sym (map-append (λ e. (s, e)) (named_from n xs) (named_from (n + length xs) ys)) ∙ ap (map (λ e. (s, e))) (sym (named_append n xs ys)))

-- Items after others.
pub lists_both : (a b c : Lister) (xs ys : List (Option Mark)) → ListsOn a xs b → ListsOn b ys c → ListsOn a (xs ++ ys) c
lists_both a b c xs ys h k =
    record {
      space = k.space ∙ h.space;
      runs = λ r. h.runs (k.runs r);
      next = λ r. omega (arith, k.next r, h.next (k.runs r), length-append xs ys);
      listed = λ r.
          k.listed r
          ∙ ((λ i. h.listed (k.runs r) i ++ map (λ e. (h.space i, e)) (named_from (h.next (k.runs r) i) ys))
          ∙ after a.space a.next (map content_of a.listed.items) xs ys);
    }

lists_each : (a b : Lister) (xs : List Item) → TellsEach (λ old x new. ListsOn old (id_in old.space x) new) a xs b → ListsOn a (flat_map (id_in a.space) xs) b
lists_each a b [] h = subst (λ l. ListsOn a [] l) (sym h) (lists_none a)
lists_each a b (x ∷ xs) h =
    let rest = lists_each h.0 b xs h.1.1 in
    lists_both a h.0 b (id_in a.space x) (flat_map (id_in a.space) xs) h.1.0 (subst (λ s. ListsOn h.0 (flat_map (id_in s) xs) b) h.1.0.space rest)

-- All that a lister has listed.
pub lists_told : {a b : Lister} {xs : List Item} → Visits (λ old x new. ListsOn old (id_in old.space x) new) a xs b → ListsOn a (flat_map (id_in a.space) xs) b
lists_told {a} {b} {xs} h = lists_each a b xs h.tells

-- The step of a loop over index spaces.
pub listed_more : (xs : List Item) (ss : List Space) (at : ℕ) (d : Space) (all new : List Entry) → at < length ss → all ≡ flat_map (entries_in xs) (take at ss)
    → new ≡ all ++ entries_in xs (get_or ss at d) → new ≡ flat_map (entries_in xs) (take (at + 1) ss)
listed_more xs ss at d all new within h put =
    put
    ∙ (ap (λ es. es ++ entries_in xs (get_or ss at d)) h
    ∙ (flat_map_more (entries_in xs) [] (take at ss) (get_or ss at d) ∙ ap (flat_map (entries_in xs)) (sym (take_more ss at d within))))
