-- One act after another, and where the second is refused.
use Rattle.std.proofs.Common.{◌≡◌, Bool, true, false, ◌||◌, List, refl, ap, sym, ◌∙◌}
use Rattle.mqtt_records.specs.declared.state.change.Change.{Change}
use Rattle.mqtt_rules.specs.step.Deeds.{Act, then, after_all, rows_of_all}
use Rattle.mqtt_rules.specs.step.Step.{is_spent}
use Rattle.mqtt_broker_step.specs.declared.fault.StepFault.{StepFault}
use Rattle.mqtt_broker_step.specs.Stepping.{Stepping, did, Did, IsLeft}
use Rattle.mqtt_broker_step.proofs.Doing.{did_did, rows_append}
use Rattle.mqtt_broker_step.proofs.Rows.{spent_append}

-- the same deeds
pub same_act : (f g : Act) (s new : Stepping) → f s.broker ≡ g s.broker → Did f s new → Did g s new
same_act f g s new same is = record { is = is.is ∙ ap (λ ds. did ds s) same }

-- if two acts have the same deeds, a refusal within one is a refusal within the other
pub same_left : (f g : Act) (fault : StepFault) (s new : Stepping) → f s.broker ≡ g s.broker → IsLeft f fault s new → IsLeft g fault s new
same_left f g fault s new same is = record {
  start = is.start;
  limits = is.limits;
  spent = λ e. ap (λ ds. is_spent (rows_of_all ds s.broker.records)) (sym same) ∙ is.spent e;
}

-- one, then the other
pub did_then : (f g : Act) (s s1 s2 : Stepping) → Did f s s1 → Did g s1 s2 → Did (λ b. then (f b) g b) s s2
did_then f g s s1 s2 first second = record {
  is = second.is ∙ (ap (λ (x : Stepping). did (g x.broker) x) first.is ∙ did_did (f s.broker) (g (after_all (f s.broker) s.broker)) s);
}

or_true : (b : Bool) → (b || true) ≡ true
or_true true = refl
or_true false = refl

-- the first is refused
pub left_first : (f g : Act) (fault : StepFault) (s new : Stepping) → IsLeft f fault s new → IsLeft (λ b. then (f b) g b) fault s new
left_first f g fault s new is =
    let rest : List Change = rows_of_all (g (after_all (f s.broker) s.broker)) (after_all (f s.broker) s.broker).records in
    record {
      start = is.start;
      limits = is.limits;
      spent = λ e. ap is_spent (rows_append (f s.broker) (g (after_all (f s.broker) s.broker)) s.broker)
          ∙ (spent_append (rows_of_all (f s.broker) s.broker.records) rest ∙ ap (λ b. b || is_spent rest) (is.spent e));
    }

-- the first is done, and the second refused
pub left_then : (f g : Act) (fault : StepFault) (s s1 s2 : Stepping) → Did f s s1 → IsLeft g fault s1 s2 → IsLeft (λ b. then (f b) g b) fault s s2
left_then f g fault s s1 s2 first is =
    let rows : List Change = rows_of_all (f s.broker) s.broker.records in
    record {
      start = is.start ∙ ap (λ (x : Stepping). x.start) first.is;
      limits = is.limits ∙ ap (λ (x : Stepping). x.limits) first.is;
      spent = λ e.
          ap is_spent (rows_append (f s.broker) (g (after_all (f s.broker) s.broker)) s.broker)
          ∙ (spent_append rows (rows_of_all (g (after_all (f s.broker) s.broker)) (after_all (f s.broker) s.broker).records)
          ∙ (ap (λ b. is_spent rows || b)
          (ap (λ (x : Stepping). is_spent (rows_of_all (g x.broker) x.broker.records)) (sym first.is) ∙ is.spent e)
          ∙ or_true (is_spent rows)));
    }
