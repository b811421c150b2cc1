-- The type uses that need a type, and the signatures that they need (text format, type uses: abbreviations).
--
-- A type use with an index needs nothing. The type of a block needs a type only if its encoding has to refer to one.
--
--   (func (param i32))            needs (func (param i32))
--   (func (type 0) (param i32))   needs nothing
--   block (result i32)            needs nothing
--   block (param i32)             needs (func (param i32))
use Rattle.std.specs.Prelude.{Bool, true, false, not, List, [], ◌∷◌, flat_map, Option, Some, None}
use Rattle.wast_expand_keys.specs.Tree.{Index, FunctionType, TypeUse, ModuleField}
use Rattle.wast_tree_nodes.specs.Sites.{Where, OfItem, OfCall, OfBlock, Site, Asked, Used, Declared, LocalAt, FieldAt, LabelAt, Repeated, Begins, Ends, in_module}
use Rattle.wast_tree_nodes.specs.Types.{is_short}
use Rattle.wast_expand_keys.specs.Signatures.{Signature, signature_of, empty_signature}

-- The signature of an inline type. Without one it is that of `(func)`.
abbrev pub inline_signature : Option FunctionType → Signature
inline_signature None = empty_signature
inline_signature (Some t) = signature_of t

-- Whether a type use without an index needs a type. That of a block needs one if it has a parameter or two results.
abbrev pub needs_type : Where → Option FunctionType → Bool
needs_type OfItem inline = true
needs_type OfCall inline = true
needs_type OfBlock None = false
needs_type OfBlock (Some t) = not (is_short t)

-- the signature, if it is needed
abbrev pub needed_if : Bool → Signature → List Signature
needed_if true s = s ∷ []
needed_if false s = []

-- the signature that a type use needs from its index and its inline type
abbrev pub needed_without : Where → Option Index → Option FunctionType → List Signature
needed_without w None inline = needed_if (needs_type w inline) (inline_signature inline)
needed_without w (Some i) inline = []

-- the signature that a type use needs
abbrev pub needed_by_use : Where → TypeUse FunctionType → List Signature
needed_by_use w u = needed_without w u.index u.inline

-- The signature that a site needs. Only type uses need one.
abbrev pub needed_at : Site → List Signature
needed_at (Asked a) = []
needed_at (Used w u) = needed_by_use w u
needed_at (Declared before m) = []
needed_at (LocalAt locals i) = []
needed_at (FieldAt owner i) = []
needed_at (LabelAt blocks i) = []
needed_at (Repeated blocks m) = []
needed_at (Begins blocks m) = []
needed_at Ends = []

-- the signatures that a list of sites needs, in order
abbrev pub needed_in : List Site → List Signature
needed_in sites = flat_map needed_at sites

-- the signatures that all fields need, in order
abbrev pub needed_signatures : List ModuleField → List Signature
needed_signatures fields = needed_in (in_module fields)
