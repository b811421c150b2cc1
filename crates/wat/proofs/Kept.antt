-- What is kept of the sections of a module, section by section.
use Rattle.std.proofs.Common.{◌≡◌, ◌∙◌, ℕ, zero, suc, ◌+◌, ◌-◌, ◌<◌, ◌≤◌, List, ◌++◌, take, drop, None, Some, refl, sym, ap, subst, arith, append_assoc}
use Rattle.wat.specs.Sections.{section_length, kept_of, kept_by, kept}

-- the first section and those after it
next : (left n : ℕ) (rest : List ℕ) → 0 < left → section_length rest ≡ Some n → kept left rest ≡ kept_of (take n rest) ++ kept (left - 1) (drop n rest)
next zero n rest h e = absurd (omega arith)
next (suc left) n rest h e =
    let same : left ≡ suc left - 1 = omega arith in
    ap (kept_by rest (kept left)) e ∙ ap (λ m. kept_of (take n rest) ++ kept m (drop n rest)) same

-- no section
ends : (left : ℕ) (rest : List ℕ) → section_length rest ≡ None → kept left rest ≡ rest
ends zero rest e = refl
ends (suc left) rest e = ap (kept_by rest (kept left)) e

pub one_kept : (end counter n : ℕ) (all before after section rest tail : List ℕ) → counter < end → section_length rest ≡ Some n
    → section ≡ take n rest → tail ≡ drop n rest
    → after ≡ before ++ kept_of section → before ++ kept (end - counter) rest ≡ all → after ++ kept (end - (counter + 1)) tail ≡ all
one_kept end counter n all before after section rest tail h e front back is held =
    let fewer : end - (counter + 1) ≡ end - counter - 1 = omega arith in
    let whole : before ++ (kept_of (take n rest) ++ kept (end - counter - 1) (drop n rest)) ≡ all = ap (λ l. before ++ l)
    (sym (next (end - counter) n rest (omega arith) e)) ∙ held in
    rw (is, front, back, fewer, append_assoc) whole

pub none_left : (end counter : ℕ) (all before out rest : List ℕ) → end ≤ counter → out ≡ before ++ rest → before ++ kept (end - counter) rest ≡ all → out ≡ all
none_left end counter all before out rest h is held =
    let none : end - counter ≡ 0 = omega arith in
    is ∙ subst (λ m. before ++ kept m rest ≡ all) none held

pub no_section : (left : ℕ) (all before out rest : List ℕ) → section_length rest ≡ None → out ≡ before ++ rest → before ++ kept left rest ≡ all → out ≡ all
no_section left all before out rest e is held = is ∙ ap (λ l. before ++ l) (sym (ends left rest e)) ∙ held
