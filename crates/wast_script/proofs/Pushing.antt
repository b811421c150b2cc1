-- A lane, a value or a command is added, or the allocation failed.
use Rattle.std.proofs.Common.{◌≡◌, ◌≢◌, ◌∙◌, [], ◌∷◌, ◌++◌, None, sym, ap, subst}
use Rattle.wat_tokens.specs.declared.faults.TextFault.TheVariants as fault
use Rattle.wat_syntax.specs.Tree.{Span}
use Rattle.wast_script.specs.declared.values.Number.{Number}
use Rattle.wast_script.specs.declared.values.Value as code_value
use Rattle.wast_script.specs.declared.commands.Command as code_command
use Rattle.wast_script.specs.declared.reader.Lists.{Lists}
use Rattle.wast_script.specs.declared.reader.Reader.{Reader}
use Rattle.wast_script.specs.Readers.{left, IsRefused, Fails, Pushes, PushesLane, PushesValue}
use Rattle.wast_script.proofs.Faults.{none_refused, faulty}

-- The allocation failed: there is a fault now.
module _ (old mid new : Reader) (span : Span) (f : Fails fault.Memory span mid new) (same : mid.fault ≡ old.fault) where
  kept : old.fault ≢ None → new.fault ≡ old.fault
  kept h = f.keeps (λ e. h (sym same ∙ e)) ∙ same

  no_refusal : old.fault ≡ None → IsRefused new.fault → ⊥
  no_refusal h r = subst IsRefused (f.first (same ∙ h)) r

  pub lane_failed : (lane : Number) → mid.lists.commands ≡ old.lists.commands
      → mid.lists.values ≡ old.lists.values → mid.tokens ≡ old.tokens → PushesLane old new lane
  lane_failed lane commands values tokens = record {
    commands = ap (λ (l : Lists). l.commands) f.lists ∙ commands;
    values = ap (λ (l : Lists). l.values) f.lists ∙ values;
    tokens = f.tokens ∙ tokens;
    clean = λ h. absurd (faulty mid new fault.Memory span f h);
    pushed = λ h. absurd (faulty mid new fault.Memory span f h);
    left = λ h. absurd (faulty mid new fault.Memory span f h);
    keeps = kept;
    memory = no_refusal;
  }

  pub value_failed : (value : code_value.Value) → mid.lists.commands ≡ old.lists.commands
      → mid.lists.lanes ≡ old.lists.lanes → mid.tokens ≡ old.tokens → PushesValue old new value
  value_failed value commands lanes tokens = record {
    commands = ap (λ (l : Lists). l.commands) f.lists ∙ commands;
    lanes = ap (λ (l : Lists). l.lanes) f.lists ∙ lanes;
    tokens = f.tokens ∙ tokens;
    clean = λ h. absurd (faulty mid new fault.Memory span f h);
    pushed = λ h. absurd (faulty mid new fault.Memory span f h);
    left = λ h. absurd (faulty mid new fault.Memory span f h);
    keeps = kept;
    memory = no_refusal;
  }

  pub command_failed : (c : code_command.Command) → mid.lists.values ≡ old.lists.values
      → mid.lists.lanes ≡ old.lists.lanes → mid.tokens ≡ old.tokens → Pushes old new c
  command_failed c values lanes tokens = record {
    tokens = f.tokens ∙ tokens;
    values = ap (λ (l : Lists). l.values) f.lists ∙ values;
    lanes = ap (λ (l : Lists). l.lanes) f.lists ∙ lanes;
    clean = λ h. absurd (faulty mid new fault.Memory span f h);
    pushed = λ h. absurd (faulty mid new fault.Memory span f h);
    left = λ h. absurd (faulty mid new fault.Memory span f h);
    keeps = kept;
    memory = no_refusal;
  }

-- It is added: there is a fault if there was one.
module _ (old new : Reader) (tokens : new.tokens ≡ old.tokens) (same : new.fault ≡ old.fault) (stays : left new ≡ left old) where
  pub lane_pushed : (lane : Number) → new.lists.commands ≡ old.lists.commands → new.lists.values ≡ old.lists.values
      → new.lists.lanes.items ≡ old.lists.lanes.items ++ lane ∷ [] → PushesLane old new lane
  lane_pushed lane commands values pushed = record {
    commands = commands;
    values = values;
    tokens = tokens;
    clean = λ h. sym same ∙ h;
    pushed = λ h. pushed;
    left = λ h. stays;
    keeps = λ h. same;
    memory = λ h r. none_refused new.fault (same ∙ h) r;
  }

  pub value_pushed : (value : code_value.Value) → new.lists.commands ≡ old.lists.commands → new.lists.lanes ≡ old.lists.lanes
      → new.lists.values.items ≡ old.lists.values.items ++ value ∷ [] → PushesValue old new value
  value_pushed value commands lanes pushed = record {
    commands = commands;
    lanes = lanes;
    tokens = tokens;
    clean = λ h. sym same ∙ h;
    pushed = λ h. pushed;
    left = λ h. stays;
    keeps = λ h. same;
    memory = λ h r. none_refused new.fault (same ∙ h) r;
  }

  pub command_pushed : (c : code_command.Command) → new.lists.values ≡ old.lists.values → new.lists.lanes ≡ old.lists.lanes
      → new.lists.commands.items ≡ old.lists.commands.items ++ c ∷ [] → Pushes old new c
  command_pushed c values lanes pushed = record {
    tokens = tokens;
    values = values;
    lanes = lanes;
    clean = λ h. sym same ∙ h;
    pushed = λ h. pushed;
    left = λ h. stays;
    keeps = λ h. same;
    memory = λ h r. none_refused new.fault (same ∙ h) r;
  }
