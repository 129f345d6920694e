-- A PUBLISH by what its identifier is.
use Rattle.std.proofs.Common.{◌≡◌, ℕ, List, [], refl, ap, sym, subst, ◌∙◌}
use Rattle.std.specs.Prelude.{Option, Some, None, option_map}
use Rattle.mqtt_packet.specs.declared.codec.publish.Publish.{Publish}
use Rattle.mqtt_flow.specs.declared.inbound.inflow.Published.{Published}
use Rattle.mqtt_flow.specs.declared.inbound.inflow.Published.TheVariants.{Again}
use Rattle.mqtt_records.specs.declared.state.session.Session.{Session}
use Rattle.mqtt_rules.specs.step.State.{Line}
use Rattle.mqtt_rules.specs.step.Deeds.{Message}
use Rattle.mqtt_rules.specs.step.Inbound.{message_of, publish_by, standing}
use Rattle.mqtt_broker_step.specs.declared.fault.StepFault.{StepFault}
use Rattle.mqtt_broker_step.specs.Stepping.{Stepping, Does, Leaves}
use Rattle.mqtt_broker_queue.specs.publications.Choosing.{DoesSome, IsLawfulMessage, LeavesSome}

-- one was found, and it is this one
pub same_row : {A : Type 0} (x y : A) (o : Option A) → Some x ≡ o → o ≡ Some y → x ≡ y
same_row x y o here there =
    let e : Some x ≡ Some y = here ∙ there in
    cc

-- what a session publishes, if it stands
pub message_is : (topic : List ℕ) (p : Publish) (m : Message) (o : Option Session) (x : Session) → Some m ≡ option_map (λ s. message_of s.client topic p) o → o ≡ Some x
    → m ≡ message_of x.client topic p
message_is topic p m o x is there =
    let e : Some m ≡ Some (message_of x.client topic p) = is ∙ ap (option_map (λ (s : Session). message_of s.client topic p)) there in
    cc

not_none : (m : Message) → Some m ≡ None → ⊥
not_none m e = cc

-- a session's message is lawful if that of whichever session is found is
pub message_lawful : (topic : List ℕ) (p : Publish) (m : Message) (o : Option Session) → Some m ≡ option_map (λ s. message_of s.client topic p) o
    → ((x : Session) → o ≡ Some x → IsLawfulMessage (message_of x.client topic p)) → IsLawfulMessage m
message_lawful topic p m None is h = absurd (not_none m is)
message_lawful topic p m (Some x) is h = subst (λ (y : Message). IsLawfulMessage y) (sym (message_is topic p m (Some x) x is refl)) (h x refl)

module _ (l : Line) (x : Session) (p : Publish) (m : Message) where
  -- what is done, for some choice, by the standing that was looked up is done by the identifier's own
  pub by_some : (k : Published) (s new : Stepping) → k ≡ standing p.delivery x.inbound → DoesSome (λ env. publish_by k env l x p m) s new
      → DoesSome (λ env. publish_by (standing p.delivery x.inbound) env l x p m) s new
  by_some k s new is done = subst (λ (k2 : Published). DoesSome (λ env. publish_by k2 env l x p m) s new) is done

  -- what is refused, for some choice, by the standing that was looked up is refused by the identifier's own
  pub by_left : (k : Published) (fault : StepFault) (s new : Stepping) → k ≡ standing p.delivery x.inbound → LeavesSome (λ env. publish_by k env l x p m) fault s new
      → LeavesSome (λ env. publish_by (standing p.delivery x.inbound) env l x p m) fault s new
  by_left k fault s new is left = subst (λ (k2 : Published). LeavesSome (λ env. publish_by k2 env l x p m) fault s new) is left

  -- a PUBLISH whose identifier is open was answered again, if that was done
  pub again_does : (s new : Stepping) → Again ≡ standing p.delivery x.inbound → Does (λ env. publish_by Again env l x p m) s new
      → DoesSome (λ env. publish_by (standing p.delivery x.inbound) env l x p m) s new
  again_does s new is done = by_some Again s new is (record { number = 0; sender = []; members = []; is = λ choice chosen. done choice })

  -- a PUBLISH whose identifier is open was refused, if answering it again was
  pub again_leaves : (fault : StepFault) (s new : Stepping) → Again ≡ standing p.delivery x.inbound → Leaves (λ env. publish_by Again env l x p m) fault s new
      → LeavesSome (λ env. publish_by (standing p.delivery x.inbound) env l x p m) fault s new
  again_leaves fault s new is left = by_left Again fault s new is (record { number = 0; sender = []; members = []; is = λ choice chosen. left choice })
