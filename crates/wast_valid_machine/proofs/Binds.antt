-- Checks that follow each other, at an `Ok` and at an error.
use Rattle.std.proofs.Common.{◌≡◌, Result, Ok, Err, ap, sym, ◌∙◌, subst}
use Rattle.wast_valid_machine.specs.declared.state.Cause.{Cause}
use Rattle.wast_valid_machine.specs.declared.state.Stop.{Stop}
use Rattle.wast_valid_machine.specs.declared.state.Stop.TheVariants.{Memory, Invalid}
use Rattle.wast_valid_machine.specs.Checks.{bind}
use Rattle.wast_valid_machine.specs.Reports.{Reports}

pub bind_ok : {A B : Type 0} (m : Result A Cause) (next : A → Result B Cause) (x : A) → m ≡ Ok x → bind m next ≡ next x
unfolding bind
bind_ok m next x h = ap (λ r. bind r next) h

pub bind_err : {A B : Type 0} (m : Result A Cause) (next : A → Result B Cause) (e : Cause) → m ≡ Err e → bind m next ≡ Err e
unfolding bind
bind_err m next e h = ap (λ r. bind r next) h

pub reports_bind : {A B : Type 0} (m : Result A Cause) (next : A → Result B Cause) (e : Stop) → Reports m e → Reports (bind m next) e
unfolding Reports
reports_bind m next Memory h = tt
reports_bind m next (Invalid e) h = bind_err m next e h

-- the same with what follows
pub then_ok : {A B : Type 0} (m : Result A Cause) (next : A → Result B Cause) (x : A) (y : Result B Cause) → m ≡ Ok x → next x ≡ y → bind m next ≡ y
then_ok m next x y h k = bind_ok m next x h ∙ k

pub then_reports : {A B : Type 0} (m : Result A Cause) (next : A → Result B Cause) (x : A) (e : Stop) → m ≡ Ok x → Reports (next x) e → Reports (bind m next) e
then_reports m next x e h k = subst (λ r. Reports r e) (sym (bind_ok m next x h)) k

pub reports_memory : {A : Type 0} (want : Result A Cause) (e : Stop) → e ≡ Memory → Reports want e
unfolding Reports
reports_memory want e h = subst (λ r. Reports want r) (sym h) tt
