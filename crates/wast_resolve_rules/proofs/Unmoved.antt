-- Sites after which the enclosing blocks are the same as before.
use Rattle.std.proofs.Common.{◌≡◌, List, [], ◌∷◌, ◌++◌, refl, ap, ◌∙◌}
use Rattle.std.specs.List.{flat_map}
use Rattle.wast_base.specs.Blocks.{Blocks}
use Rattle.wast_tree_nodes.specs.Sites.{Check, Site, BodyContext, after_all, check_sites, uncovered_check, at_label, in_ref, in_cast}
use Rattle.wast_tree_nodes.specs.Sites.{in_handle, in_handlers, in_catch}
use Rattle.wast_tree_nodes.proofs.Behind.{after-append}
use Rattle.wast_resolve_rules.specs.Tree.{Index, RefType, Handle, ResumeTable, TryTableCatch, TryTableCatchKind}
use Rattle.wast_resolve_rules.specs.Tree.caught
use Rattle.wast_resolve_rules.specs.Tree.handle
use Rattle.wast_resolve_rules.specs.Tree.form

-- a catch clause and its label open and close no block
catch_stays : (h : BodyContext) (blocks : Blocks) (k : TryTableCatchKind) (l : Index) → after_all h (in_catch blocks (record { kind = k; label = l })) ≡ h
catch_stays h blocks (caught.Catch e) l = refl
catch_stays h blocks x l = refl

pub catches_stay : (h : BodyContext) (blocks : Blocks) (cs : List TryTableCatch) → after_all h (flat_map (in_catch blocks) cs) ≡ h
catches_stay h blocks [] = refl
catches_stay h blocks (c ∷ cs) =
    after-append h (in_catch blocks c) (flat_map (in_catch blocks) cs)
    ∙ (ap (λ g. after_all g (flat_map (in_catch blocks) cs)) (catch_stays h blocks c.kind c.label) ∙ catches_stay h blocks cs)

-- neither do look-ups and labels
pub asking_stays : (h : BodyContext) (asks : List Check) → after_all h (check_sites asks) ≡ h
asking_stays h [] = refl
asking_stays h (a ∷ asks) = asking_stays h asks

pub labels_stay : (h : BodyContext) (blocks : Blocks) (is : List Index) → after_all h (flat_map (at_label blocks) is) ≡ h
labels_stay h blocks [] = refl
labels_stay h blocks (i ∷ is) = labels_stay h blocks is

pub behind_stays : (h : BodyContext) (ss : List Site) (asks : List Check) → after_all h ss ≡ h → after_all h (ss ++ check_sites asks) ≡ h
behind_stays h ss asks stays = after-append h ss (check_sites asks) ∙ (ap (λ g. after_all g (check_sites asks)) stays ∙ asking_stays h asks)

pub cast_stays : (h : BodyContext) (blocks : Blocks) (l : Index) (to from : RefType) → after_all h (in_cast blocks l to from) ≡ h
cast_stays h blocks l to from = asking_stays h (in_ref to ++ in_ref from)

handle_stays : (h : BodyContext) (blocks : Blocks) (x : Handle) → after_all h (in_handle blocks x) ≡ h
handle_stays h blocks (handle.OnLabel e l) = refl
handle_stays h blocks (handle.OnSwitch e) = refl

handles_stay : (h : BodyContext) (blocks : Blocks) (xs : List Handle) → after_all h (flat_map (in_handle blocks) xs) ≡ h
handles_stay h blocks [] = refl
handles_stay h blocks (x ∷ xs) =
    after-append h (in_handle blocks x) (flat_map (in_handle blocks) xs)
    ∙ (ap (λ g. after_all g (flat_map (in_handle blocks) xs)) (handle_stays h blocks x) ∙ handles_stay h blocks xs)

pub handlers_stay : (h : BodyContext) (blocks : Blocks) (t : ResumeTable) → after_all h (in_handlers blocks t) ≡ h
handlers_stay h blocks t = behind_stays h (flat_map (in_handle blocks) t.handlers) (uncovered_check form.StackSwitching) (handles_stay h blocks t.handlers)
