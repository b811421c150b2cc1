-- Sites without the addresses of names and strings. Ids keep theirs.
--
-- A site is what resolving checks or looks up (wast_tree_nodes, Sites). Of all sites, those with a type use alone have names: the
-- name annotations of its parameters. A local has the type use of its function.
--
--   (func (param (@name "a") i32) ..)      the site of the type use, with "a" at address 0; all others as before
use Rattle.std.specs.Prelude.{option_map}
use Rattle.wast_tree_nodes.specs.Sites.{Locals, BodyContext, Site, Asked, Used, Declared, LocalAt, FieldAt, LabelAt, Repeated, Begins, Ends}
use Rattle.wat_ready.specs.Shown.{shown_type_use}

-- the parameters and locals of a body
abbrev pub shown_locals : Locals → Locals
shown_locals l = record { owner = option_map shown_type_use l.owner; names = l.names }

-- the surroundings of an instruction
abbrev pub shown_context : BodyContext → BodyContext
shown_context h = record { locals = shown_locals h.locals; blocks = h.blocks }

-- a site
abbrev pub shown_site : Site → Site
shown_site (Asked a) = Asked a
shown_site (Used w u) = Used w (shown_type_use u)
shown_site (Declared before m) = Declared before m
shown_site (LocalAt locals i) = LocalAt (shown_locals locals) i
shown_site (FieldAt owner i) = FieldAt owner i
shown_site (LabelAt blocks i) = LabelAt blocks i
shown_site (Repeated blocks m) = Repeated blocks m
shown_site (Begins blocks m) = Begins blocks m
shown_site Ends = Ends
