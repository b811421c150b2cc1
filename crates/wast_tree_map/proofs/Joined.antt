-- Lemmas about maps of indices. If one map after another equals a third at each index, it does so on each part that they change
-- in its indices alone, for example a type.
use Rattle.std.proofs.Common.{◌≡◌, List, [], ◌∷◌, refl, sym, ap, ◌∙◌}
use Rattle.wast_tree_map.specs.Tree.{Index, Space}
use Rattle.wast_tree_nodes.specs.Sites.{Check, ItemIndex}
use Rattle.wast_tree_map.specs.Mapped.{Indices, Change, no_change, JoinsAsk, Each}
use Rattle.wast_tree_map.proofs.Ways.{In}
use Rattle.wast_tree_map.proofs.Kept.{joins_in}

abbrev pub of_indices : Indices → Change
of_indices f = record no_change { index = f }

module _ (h g f : Indices) (join : (s : Space) (i : Index) → g s (h s i) ≡ f s i) where
  ask_joins : (a : Check) → JoinsAsk h g f a
  ask_joins (ItemIndex s i) = join s i
  ask_joins x = tt

  asks_join : (cs : List Check) → Each (JoinsAsk h g f) cs
  asks_join [] = tt
  asks_join (c ∷ cs) = (ask_joins c, asks_join cs)

  pub indices_join : {T : Type 0} {asks : T → List Check} {changed : Change → T → T} (x : T) → In asks changed x
      → changed (of_indices g) (changed (of_indices h) x) ≡ changed (of_indices f) x
  indices_join {asks = asks} x at = joins_in x at (of_indices h) (of_indices g) (of_indices f)
      (record { keeps = record { params = λ u. refl; owns = λ o. refl }; ids = λ o. refl; owns = λ o. refl }) (asks_join (asks x))

-- a map that leaves each index unchanged leaves the part unchanged
pub indices_stay : (f : Indices) → ((s : Space) (i : Index) → f s i ≡ i) → {T : Type 0} {asks : T → List Check} {changed : Change → T → T} (x : T)
    → In asks changed x → changed (of_indices f) x ≡ x
indices_stay f stay {changed = changed} x at = sym (ap (changed (of_indices f)) at.still)
    ∙ (indices_join no_change.index f no_change.index stay x at ∙ at.still)
