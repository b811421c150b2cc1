-- What commands refer to: the last module and the last instance of each id, in a thread and outside it.
--
--   (module definition $A ..) (module $B ..)      modules: $B is 1 and $A is 0; instances: $B is 1
--   (module instance $C $A)                       modules: as before; instances: $C is 0 and $B is 1
--
-- The number of a module is how many come before it. WorkedReferences computes these.
use Rattle.std.specs.Prelude.{◌≡◌, ℕ, Bool, true, false, List, [], ◌∷◌, ◌++◌, length, codes, slice_get, Option, None, Some, IsSome, option_map, option_and_then, if◌then◌else◌}
use Rattle.wast_base.specs.Ids.{Name, name_of}
use Rattle.wast_base.specs.Spaces.{is_called}
use Rattle.wast_base.specs.declared.ids.Id.{Id}
use Rattle.wast_script.specs.declared.commands.CommandKind.{CommandKind}
use Rattle.wast_script.specs.declared.commands.CommandKind.TheVariants as kind
use Rattle.wast_script_json.specs.Exports.{types_of}
use Rattle.wast_script_json.specs.declared.interfaces.Interface.{Interface}
use Rattle.wast_script_json.specs.declared.modules.ConvertedModule.{ConvertedModule}
use Rattle.wast_script_json.specs.declared.modules.ConvertedModule.TheVariants as form

-- numbers of modules with their names, the last first
abbrev pub Numbered : Type 0
Numbered = List (Option Name × ℕ)

abbrev pub own_name : Option Id → Option Name
own_name id = option_map name_of id

-- the last number of a name
abbrev pub called : Name → Numbered → Option ℕ
called name [] = None
called name (m ∷ ms) = if is_called name m.0 then Some m.1 else called name ms

-- the last number
abbrev pub last_of : Numbered → Option ℕ
last_of [] = None
last_of (m ∷ ms) = Some m.1

-- the number that an id refers to among all; without an id the last one of a scope's own
abbrev pub found : Option Id → Numbered → Numbered → Option ℕ
found None own all = last_of own
found (Some id) own all = called (name_of id) all

-- what the commands of a thread, or those outside threads, can refer to: modules, instances, and the instance that the thread shares
pub record Reach : Type 0 where
  pub definitions : Numbered
  pub instances : Numbered
  pub shared : Numbered

-- the module, and the instance, of an id, or the last one
abbrev pub module_at : Option Id → Reach → Option ℕ
module_at id r = found id r.definitions r.definitions

abbrev pub instance_at : Option Id → Reach → Option ℕ
instance_at id r = found id r.instances (r.instances ++ r.shared)

-- after one more instance
abbrev pub with_instance : Option Id → Option ℕ → Reach → Reach
with_instance id None r = r
with_instance id (Some n) r = record { definitions = r.definitions; instances = (own_name id, n) ∷ r.instances; shared = r.shared }

-- after one more module, which has an instance if it is not a definition
abbrev pub with_module : Option Id → Bool → ℕ → Reach → Reach
with_module id true n r = record { definitions = (own_name id, n) ∷ r.definitions; instances = r.instances; shared = r.shared }
with_module id false n r = record { definitions = (own_name id, n) ∷ r.definitions; instances = (own_name id, n) ∷ r.instances; shared = r.shared }

-- what a thread shares
abbrev pub shared_as : Option Id → Option ℕ → Numbered
shared_as id None = []
shared_as id (Some n) = (own_name id, n) ∷ []

-- at the beginning of a thread, or of the script
abbrev pub sharing : Numbered → Reach
sharing shared = record { definitions = []; instances = []; shared = shared }

-- what is known before a command: what each module exports, or nothing if it is skipped; what the command can refer to; and what the
-- commands outside its thread can
pub record State : Type 0 where
  pub known : List (Option Interface)
  pub reach : Reach
  pub outside : List Reach

abbrev pub nothing_known : State
nothing_known = record { known = []; reach = sharing []; outside = [] }

-- what is known of the module of an instance, and of a module
abbrev pub of_instance : State → Option Id → Option (Option Interface)
of_instance s id = option_and_then (slice_get s.known) (instance_at id s.reach)

abbrev pub of_module : State → Option Id → Option (Option Interface)
of_module s id = option_and_then (slice_get s.known) (module_at id s.reach)

-- whether it is that the module is skipped
abbrev pub skips : Option (Option Interface) → Bool
skips None = false
skips (Some None) = true
skips (Some (Some i)) = false

-- the types of the results of an export, as a list in JSON
abbrev pub types_in : Option (Option Interface) → List ℕ → List ℕ
types_in None name = codes "[]"
types_in (Some None) name = codes "[]"
types_in (Some (Some i)) name = types_of i name

-- after one more module, after one more instance, and after the beginning and the end of a thread
abbrev pub defined : Option Id → Bool → Option Interface → State → State
defined id is_definition i s = record { known = s.known ++ i ∷ []; reach = with_module id is_definition (length s.known) s.reach; outside = s.outside }

abbrev pub copied : Option Id → Option Id → State → State
copied id original s = record { known = s.known; reach = with_instance id (module_at original s.reach) s.reach; outside = s.outside }

abbrev pub entered : Option Id → State → State
entered shared s = record { known = s.known; reach = sharing (shared_as shared (instance_at shared s.reach)); outside = s.reach ∷ s.outside }

abbrev pub left_to : State → List Reach → State
left_to s [] = s
left_to s (r ∷ rs) = record { known = s.known; reach = r; outside = rs }

abbrev pub left : State → State
left s = left_to s s.outside

-- what is known of a module that was converted so
abbrev pub IsKnown : ConvertedModule → Option Interface → Type 0
IsKnown (form.File f) i = IsSome i
IsKnown (form.Skipped reason place) i = i ≡ None

-- what is known after a module
abbrev pub Defines : Option Id → Bool → Option ConvertedModule → State → State → Type 0
Defines id is_definition None s t = t ≡ s
Defines id is_definition (Some m) s t = (i : Option Interface) × IsKnown m i × (t ≡ defined id is_definition i s)

-- what is known after a command, whose module was converted so
abbrev pub After : CommandKind → Option ConvertedModule → State → State → Type 0
After (kind.Module m) c s t = Defines m.id false c s t
After (kind.Definition m) c s t = Defines m.id true c s t
After (kind.Instance id original) c s t = t ≡ copied id original s
After (kind.Thread id shared) c s t = t ≡ entered shared s
After kind.ThreadEnd c s t = t ≡ left s
After k c s t = t ≡ s
