-- The value of a `Seq` or a `Boxed` after a `&mut` into it ends.
--
--   a `Boxed` of 7, and `*boxed.get_mut() = 8`         the box then has 8
--   a `Seq` of 1, 2, and `*list.at_mut(1) = 5`         the list is then 1, 5
use Rattle.std.specs.Prelude.{ℕ, List, slice_set}
use Rattle.std.specs.Borrow.{Lends, Fml, RattleType, MutBor}
use Rattle.wast_base.specs.contracts.seq.Seq.{the_row}
use Rattle.wast_base.specs.contracts.boxed.Boxed as boxed

module _ (T : RattleType) where
  -- after the borrow r ends, the box has the last value written through r
  abbrev pub LendsValue : MutBor T.Denot → MutBor T.Denot → Fml
  LendsValue s r = Lends (boxed.the_row T) T s r (λ w. w)

  -- after the borrow r ends, the list has at index i the last value written through r, and is else unchanged
  abbrev pub LendsItem : MutBor (List T.Denot) → ℕ → MutBor T.Denot → Fml
  LendsItem s i r = Lends (the_row T) T s r (slice_set s.now i)
