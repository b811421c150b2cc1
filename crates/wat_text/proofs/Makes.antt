-- If no allocation failed in the end, none failed before.
use Rattle.std.proofs.Common.{◌≡◌, ◌∙◌, Bool, true, false, refl, sym}

pub none_failed : (old new : Bool) → (old ≡ true → new ≡ true) → new ≡ false → old ≡ false
none_failed false new h e = refl
none_failed true new h e = sym (h refl) ∙ e
