-- No part of a module depends on generated ids, or on positions in type uses.
use Rattle.std.proofs.Common.{◌≡◌, Option, Some, None, option_map, refl, ap}
use Rattle.std.specs.Prelude.{unwrap_or}
use Rattle.wast_tree_map.specs.Mapped.{mapped_def}
use Rattle.wast_tree_map.proofs.Types.{type_at}
use Rattle.wast_resolve_rules.specs.Stripped.{at_start, stripping}
use Rattle.wast_core.specs.Tree.{Index, FunctionType}
use Rattle.wast_core.specs.Tree.index
use Rattle.wast_core.specs.Tree.ty
use Rattle.wast_core_conv.specs.Values.{index_value, use_as_block}
use Rattle.wast_core.specs.Front.{KeepsNumbers}

-- Types do not change, because no index in them does.
pub def_stays : (t : ty.«Type») → mapped_def stripping.index t.def ≡ t.def
def_stays t = ap (λ (s : ty.«Type»). s.def) (type_at t).still

-- A type use is read as a number, and that of a block as an index or as its short inline type.
use_told : (i : Option Index) → unwrap_or (option_map index_value (option_map at_start i)) 0 ≡ unwrap_or (option_map index_value i) 0
use_told None = refl
use_told (Some (index.Num n span)) = refl
use_told (Some (index.Id id)) = refl

block_told : (i : Option Index) (t : Option FunctionType) → use_as_block (option_map at_start i) t ≡ use_as_block i t
block_told None t = refl
block_told (Some (index.Num n span)) t = refl
block_told (Some (index.Id id)) t = refl

pub stripping_tells : KeepsNumbers stripping
stripping_tells = record {
  index = λ s i. refl;
  local = λ l i. refl;
  member = λ owner i. refl;
  label = λ blocks i. refl;
  used = λ w u. use_told u.index;
  block = λ u. block_told u.index u.inline;
}
