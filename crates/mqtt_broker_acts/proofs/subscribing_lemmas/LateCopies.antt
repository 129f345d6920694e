-- Copies of QoS 0 go out, one after the other.
use Rattle.std.proofs.Common.{◌≡◌, ℕ, List, [], ◌∷◌, length, subst}
use Rattle.std.specs.Prelude.{map}
use Rattle.std.specs.List.{AllByRecursion}
use Rattle.mqtt_records.specs.declared.messages.message.MessageCopy.{MessageCopy}
use Rattle.mqtt_records.specs.messages.Queue.{IsSpelled}
use Rattle.mqtt_rules.specs.step.Subscribe.{late_send}
use Rattle.mqtt_broker_step.specs.declared.fault.StepFault.{StepFault}
use Rattle.mqtt_broker_step.specs.Stepping.{Stepping, Did, IsLeft}
use Rattle.mqtt_broker_queue.specs.publications.Delivering.{addressed, addressed_all}
use Rattle.mqtt_broker_queue.proofs.publications_lemmas.Leading.{LeadsOn, leads_first, leads_next, leads_left, leads_last}
use Rattle.mqtt_broker_acts.specs.subscribing.Bringing.{late_sends}

-- the copies that are left to send lead to where all do, and their PUBLISH have spellings
pub record Sending (line : ℕ) (rest all : List MessageCopy) (first s : Stepping) : Type 0 where
  pub leads : LeadsOn (λ env. late_sends line rest) (λ env. late_sends line all) first s
  pub spelled : AllByRecursion IsSpelled rest

-- at first all copies are still to be sent
pub sends_first : (line : ℕ) (all : List MessageCopy) (first : Stepping) → AllByRecursion IsSpelled all → Sending line all all first first
sends_first line all first spelled = record { leads = leads_first (λ env. late_sends line all) first; spelled = spelled }

-- each of them has a spelling
pub sends_spelled : (line : ℕ) (copy : MessageCopy) (rest xs all : List MessageCopy) (first s : Stepping) → xs ≡ copy ∷ rest → Sending line xs all first s → IsSpelled copy
sends_spelled line copy rest xs all first s is w = (subst (λ (cs : List MessageCopy). AllByRecursion IsSpelled cs) is w.spelled).0

-- one that is sent leaves those behind it
pub sends_step : (line : ℕ) (copy : MessageCopy) (rest xs all : List MessageCopy) (first s s2 : Stepping) → xs ≡ copy ∷ rest → Sending line xs all first s
    → Did (late_send line (addressed copy)) s s2 → Sending line rest all first s2
sends_step line copy rest xs all first s s2 is w done =
    let here : Sending line (copy ∷ rest) all first s = subst (λ (cs : List MessageCopy). Sending line cs all first s) is w in
    record {
      leads = leads_next (λ env. late_send line (addressed copy)) (λ env. map (late_send line) (addressed_all rest)) (λ env. late_sends line all) first s s2 here.leads (λ choice. done);
      spelled = here.spelled.1;
    }

-- sending may be refused at one
pub sends_left : (line : ℕ) (copy : MessageCopy) (rest xs all : List MessageCopy) (fault : StepFault) (first s new : Stepping) → xs ≡ copy ∷ rest → Sending line xs all first s
    → IsLeft (late_send line (addressed copy)) fault s new → IsLeft (late_sends line all) fault first new
sends_left line copy rest xs all fault first s new is w left =
    let here : Sending line (copy ∷ rest) all first s = subst (λ (cs : List MessageCopy). Sending line cs all first s) is w in
    leads_left (λ env. late_send line (addressed copy)) (λ env. map (late_send line) (addressed_all rest)) (λ env. late_sends line all) fault first s new here.leads (λ choice. left) (λ n client. [])

-- behind the last all are sent
pub sends_last : (line : ℕ) (rest all : List MessageCopy) (first s : Stepping) → length rest ≡ 0 → Sending line rest all first s → Did (late_sends line all) first s
sends_last line [] all first s none w = leads_last (λ env. late_sends line all) first s w.leads (λ n client. [])
sends_last line (copy ∷ rest) all first s none w = absurd cc
