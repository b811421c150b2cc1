-- The first of the commands of a script.
use Rattle.std.proofs.Common.{◌≡◌, ℕ, true, List, [], ◌∷◌, Some, None, refl, ap}
use Rattle.std.specs.Prelude.{slice_get}
use Rattle.wast_script.specs.declared.commands.Command.{Command}
use Rattle.wast_script_json.specs.Entries.{is_nothing, starts_with_nothing}

pub starts_with : (text : List ℕ) (cs : List Command) (c : Command) → Some c ≡ slice_get cs 0 → is_nothing text c.kind ≡ starts_with_nothing text cs
starts_with text [] c e = cc
starts_with text (d ∷ ds) c e =
    let same : c ≡ d = cc in
    ap (λ (k : Command). is_nothing text k.kind) same

pub starts_without : (text : List ℕ) (cs : List Command) → None ≡ slice_get cs 0 → true ≡ starts_with_nothing text cs
starts_without text [] e = refl
starts_without text (d ∷ ds) e = cc
