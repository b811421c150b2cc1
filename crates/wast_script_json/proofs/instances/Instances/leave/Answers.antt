-- The scope that is outside, if there is one.
use Rattle.std.proofs.Common.{◌≡◌, List, [], reverse, arith, refl, subst}
use Rattle.std.proofs.lemmas.List.{nil_from_length}
use Rattle.wast_script_json.specs.Known.{ReachesEach}
use Rattle.wast_script_json.specs.declared.instances.Scope.{Scope}
use Rattle.wast_script_json.proofs.References.{leaves, popped, none_outside}
use Rattle.wast_script_json.proofs.instances.Instances.leave.Goals as goal

pub returns-in-Some : goal.returns-in-Some
returns-in-Some c s k =
    leaves s s.outside c.in-Some.outer (reverse c.pop.new.self.items) _ k.known refl refl
    (subst (λ (cs : List Scope). ReachesEach cs s.outside)
    (popped c.pop.new.self.items c.in-Some.outer c.args.self.now.outer.items c.in-Some.ensures.items) k.outside)

pub returns-in-None : goal.returns-in-None
returns-in-None c s k =
    let none : c.args.self.now.outer.items ≡ [] =
    nil_from_length c.args.self.now.outer.items (omega (arith, c.in-None.ensures.cases.0, c.args.self.now.outer.ok.0)) in
    let alone : c.pop.new.self.items ≡ [] = nil_from_length c.pop.new.self.items (omega (arith, c.in-None.ensures.cases.1, c.pop.new.self.ok.0)) in
    none_outside c.args.self.now _ s refl refl none alone k
