-- A segment that a builder is given can be spelled.
use Rattle.std.proofs.Common.{◌≡◌, ◌&&◌, true, List, refl}
use Rattle.std.specs.List.{list_all}
use Rattle.wasm_ops.proofs.Sinking.{all_covered}
use Rattle.wasm_out.specs.declared.elements.ElementKind.{ElementKind}
use Rattle.wasm_out.specs.declared.elements.SegmentMode.{SegmentMode}
use Rattle.wasm_out.specs.declared.elements.SegmentMode.TheVariants as mode
use Rattle.wasm_out.specs.BuiltElements.{is_ready_mode, is_form}
use Rattle.wasm_out.specs.ElementSegments.{element_type}

mode_ready : {O : Type 0} (m : SegmentMode O) → is_ready_mode (λ x. true) m ≡ true
mode_ready mode.Passive = refl
mode_ready x = refl

pub segment_ready : {O X : Type 0} (m : SegmentMode O) (kind : ElementKind) (xs : List X) → is_form m kind ≡ true → (element_type kind).is_covered ≡ true
    → (is_form m kind && ((element_type kind).is_covered && (is_ready_mode (λ x. true) m && list_all (λ x. true) xs))) ≡ true
segment_ready m kind xs form covered = rw (form, covered, mode_ready m, all_covered (λ x. true) xs (λ x. refl)) refl
