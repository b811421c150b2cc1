-- How an `Expander` stores signatures: one map by hash, and a second map for signatures whose hash is taken.
--
-- A look-up compares hashes, and then usually one signature. The second map is ordered by signature, because crafted
-- signatures with equal hashes would make a list of them slow.
--
-- For example, after `(func)` and `(func (param i32))` are added, both are in the first map, unless their hashes are
-- equal. Then the second is in the other map.
use Rattle.std.specs.Prelude.{◌≡◌, ℕ, List, [], ◌∷◌, ◌++◌, Option, Some, None}
use Rattle.std.specs.List.{fold}
use Rattle.std.specs.List.Sorted.{IsStrictlySortedBy}
use Rattle.std.specs.Map.{keys_of, values_of, lookup}
use Rattle.std.specs.BTreeMap.{is_at}
use Rattle.std.specs.Ordering.{nat_cmp}
use Rattle.std.specs.Hash.FoldHasher as folding
use Rattle.wast_tree_nodes.specs.contracts.types.ValTypeHash.TheImpl as hashed
use Rattle.wast_expand_keys.specs.Tree.{Index}
use Rattle.wast_expand_keys.specs.Signatures.{Signature}
use Rattle.wast_expand_keys.specs.SignatureLaws.{signature_fed}
use Rattle.wast_expand_keys.specs.Expanders.{BoundSignatures, index_of, Extends}

-- the hash of a signature
abbrev pub hash_of : Signature → ℕ
hash_of s = folding.finish (fold folding.write folding.initial (signature_fed hashed.ghosts.hash_input s))

-- hashes, each with the first signature that has it
abbrev pub Firsts : Type 0
Firsts = List (ℕ × (Signature × Index))

-- the entry of a hash
abbrev pub with_hash : Firsts → ℕ → Option (Signature × Index)
with_hash firsts h = lookup (is_at (nat_cmp h)) firsts

-- all signatures with their indices
abbrev pub bindings_of : Firsts → BoundSignatures → BoundSignatures
bindings_of firsts others = values_of firsts ++ others

-- Each entry has the hash of its signature, and the second map has only signatures whose hash is taken.
pub record ArePlaced (firsts : Firsts) (others : BoundSignatures) : Type 0 where
  pub ascending : IsStrictlySortedBy nat_cmp (keys_of firsts)
  pub hashed : (h : ℕ) (b : Signature × Index) → with_hash firsts h ≡ Some b → hash_of b.0 ≡ h
  pub shared : (s : Signature) → with_hash firsts (hash_of s) ≡ None → index_of others s ≡ None

-- a signature is added to the first map, unless it has an index
abbrev pub BindsFirst : Firsts → Firsts → Signature → Index → Type 0
BindsFirst old new k i = (others : BoundSignatures) → ArePlaced old others → ArePlaced new others × Extends (bindings_of old others) (bindings_of new others) ((k, i) ∷ [])
