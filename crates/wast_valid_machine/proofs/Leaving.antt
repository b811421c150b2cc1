-- The end of a frame whose results are not there.
use Rattle.std.proofs.Common.{◌≡◌, Some, slice_get, subst}
use Rattle.wast_valid_machine.specs.declared.state.Frame.{Frame}
use Rattle.wast_valid_machine.specs.declared.state.State.{State}
use Rattle.wast_valid_machine.specs.declared.state.Stop.{Stop}
use Rattle.wast_valid_machine.specs.Types.{Types}
use Rattle.wast_valid_machine.specs.Machine.{expect_tys, ends, leave, leave_in}
use Rattle.wast_valid_machine.specs.Reports.{Reports}
use Rattle.wast_valid_machine.proofs.Binds.{reports_bind}

pub reports_leave : (ts : Types) (s : State) (f : Frame) (e : Stop) → Some f ≡ slice_get s.frames 0 → Reports (expect_tys ts (ends f.«sig») s) e → Reports (leave ts s) e
unfolding leave leave_in
reports_leave ts s f e is h = subst (λ o. Reports (leave_in ts o s) e) is (reports_bind (expect_tys ts (ends f.«sig») s) _ e h)
