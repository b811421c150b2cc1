-- How the code keeps what commands refer to: a map of numbers by ids, and the last number.
use Rattle.std.specs.Prelude.{◌≡◌, ℕ, List, [], ◌∷◌, ◌++◌, reverse}
use Rattle.std.specs.BTreeMap.{BTreeMap, get}
use Rattle.wast_base.specs.Ids.{name_of}
use Rattle.wast_base.specs.contracts.ids.IdOrd.TheImpl as by_name
use Rattle.wast_base.specs.declared.ids.Id.{Id}
use Rattle.wast_script_json.specs.References.{Numbered, called, last_of, Reach, State}
use Rattle.wast_script_json.specs.declared.instances.Numbers.{Numbers}
use Rattle.wast_script_json.specs.declared.instances.Scope.{Scope}
use Rattle.wast_script_json.specs.declared.instances.Instances.{Instances}

-- each id has its last number
abbrev pub HasNumbers : BTreeMap Id ℕ → Numbered → Type 0
HasNumbers m all = (id : Id) → get by_name.ghosts.cmp m id ≡ called (name_of id) all

-- all numbers, and the last of a scope's own
pub record Lists (n : Numbers) (own all : Numbered) : Type 0 where
  pub by_id : HasNumbers n.by_id all
  pub last : n.last ≡ last_of own

pub record Reaches (c : Scope) (r : Reach) : Type 0 where
  pub definitions : Lists c.definitions r.definitions r.definitions
  pub instances : Lists c.instances r.instances (r.instances ++ r.shared)

-- each of the scopes outside
abbrev pub ReachesEach : List Scope → List Reach → Type 0
ReachesEach [] [] = Unit {0}
ReachesEach [] (r ∷ rs) = ⊥
ReachesEach (c ∷ cs) [] = ⊥
ReachesEach (c ∷ cs) (r ∷ rs) = Reaches c r × ReachesEach cs rs

pub record Knows (i : Instances) (s : State) : Type 0 where
  pub known : i.interfaces.items ≡ s.known
  pub reach : Reaches i.scope s.reach
  pub outside : ReachesEach (reverse i.outer.items) s.outside
