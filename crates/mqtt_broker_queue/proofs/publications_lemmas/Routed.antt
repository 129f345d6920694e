-- A publication that was routed is taken or refused.
use Rattle.std.proofs.Common.{◌≡◌, Bool, List, [], ap, sym}
use Rattle.std.specs.Prelude.{Option, Some, None, Result, Ok, Err, IfErr, OnOk}
use Rattle.mqtt_packet.specs.declared.codec.publish.Publish.{Publish}
use Rattle.mqtt_flow.specs.declared.inbound.inflow.Published.TheVariants.{New}
use Rattle.mqtt_records.specs.declared.messages.message.MessageCopy.{MessageCopy}
use Rattle.mqtt_records.specs.declared.state.session.Session.{Session}
use Rattle.mqtt_rules.specs.step.State.{Env, Line, MemberChoice}
use Rattle.mqtt_rules.specs.step.Deeds.{Act, Message}
use Rattle.mqtt_rules.specs.step.Inbound.{publish_by, publish_new}
use Rattle.mqtt_rules.specs.step.Routing.{CopyTo, accepted_copies, is_wanted, next_publication}
use Rattle.mqtt_broker_step.specs.declared.fault.StepFault.{StepFault}
use Rattle.mqtt_broker_step.specs.declared.fault.StepFault.TheVariants.{Memory}
use Rattle.mqtt_broker_step.specs.Stepping.{Stepping, Did, Does, IsLeft, Leaves, env_in}
use Rattle.mqtt_broker_queue.specs.publications.Choosing.{DoesSome, IsAccepted, IsRefused, LeavesSome}
use Rattle.mqtt_broker_queue.specs.publications.Delivering.{addressed_all}
use Rattle.mqtt_broker_step.proofs.Then.{same_act, same_left}
use Rattle.mqtt_broker_queue.proofs.publications_lemmas.Leading.{nothing_leaves}

module _ (l : Line) (x : Session) (p : Publish) (m : Message) where
  by_copies : (s : Stepping) (choice : MemberChoice) (o : Option (List CopyTo)) → accepted_copies (env_in choice s) m s.broker ≡ o
      → publish_new (env_in choice s) l x p m o s.broker ≡ publish_by New (env_in choice s) l x p m s.broker
  by_copies s choice o is = ap (λ c. publish_new (env_in choice s) l x p m c s.broker) (sym is)

  -- a new PUBLISH that was not accepted is done once it was answered so
  pub refused_does : (s new : Stepping) → IsRefused m s → Does (λ env. publish_new env l x p m None) s new → DoesSome (λ env. publish_by New env l x p m) s new
  refused_does s new refused done = record {
    number = next_publication s.broker.records;
    sender = m.sender;
    members = refused.members;
    is = λ choice chosen.
        same_act (publish_new (env_in choice s) l x p m None) (publish_by New (env_in choice s) l x p m) s new (by_copies s choice None (refused.refused choice chosen)) (done choice);
  }

  -- a new PUBLISH that was not accepted is refused if its answer is
  pub refused_leaves : (fault : StepFault) (s new : Stepping) → IsRefused m s → Leaves (λ env. publish_new env l x p m None) fault s new → LeavesSome (λ env. publish_by New env l x p m) fault s new
  refused_leaves fault s new refused left = record {
    number = next_publication s.broker.records;
    sender = m.sender;
    members = refused.members;
    is = λ choice chosen.
        same_left (publish_new (env_in choice s) l x p m None) (publish_by New (env_in choice s) l x p m) fault s new (by_copies s choice None (refused.refused choice chosen)) (left choice);
  }

  -- a new PUBLISH that was accepted in these copies is done, for the choice of these members, once it was taken so
  pub taken_does : (copies : List MessageCopy) (wanted : Bool) (s new : Stepping) → IsAccepted m s copies wanted
      → ((choice : MemberChoice) → is_wanted (env_in choice s) m s.broker.records ≡ wanted → Did (publish_new (env_in choice s) l x p m (Some (addressed_all copies))) s new)
      → DoesSome (λ env. publish_by New env l x p m) s new
  taken_does copies wanted s new taken done = record {
    number = next_publication s.broker.records;
    sender = m.sender;
    members = taken.members;
    is = λ choice chosen.
        same_act (publish_new (env_in choice s) l x p m (Some (addressed_all copies))) (publish_by New (env_in choice s) l x p m) s new
        (by_copies s choice (Some (addressed_all copies)) (taken.accepted choice chosen)) (done choice (taken.is_wanted choice));
  }

  -- a new PUBLISH that was accepted in these copies is refused, for the choice of these members, if taking it is
  pub taken_leaves : (copies : List MessageCopy) (wanted : Bool) (fault : StepFault) (s new : Stepping) → IsAccepted m s copies wanted
      → ((choice : MemberChoice) → is_wanted (env_in choice s) m s.broker.records ≡ wanted → IsLeft (publish_new (env_in choice s) l x p m (Some (addressed_all copies))) fault s new)
      → LeavesSome (λ env. publish_by New env l x p m) fault s new
  taken_leaves copies wanted fault s new taken left = record {
    number = next_publication s.broker.records;
    sender = m.sender;
    members = taken.members;
    is = λ choice chosen.
        same_left (publish_new (env_in choice s) l x p m (Some (addressed_all copies))) (publish_by New (env_in choice s) l x p m) fault s new
        (by_copies s choice (Some (addressed_all copies)) (taken.accepted choice chosen)) (left choice (taken.is_wanted choice));
  }

  -- if its taking answers Ok, a new PUBLISH that was accepted is done
  pub taken_ok : {A E : Type 0} (r : Result A E) (copies : List MessageCopy) (wanted : Bool) (s new : Stepping) → IsAccepted m s copies wanted
      → ((choice : MemberChoice) → is_wanted (env_in choice s) m s.broker.records ≡ wanted → OnOk r (Did (publish_new (env_in choice s) l x p m (Some (addressed_all copies))) s new))
      → OnOk r (DoesSome (λ env. publish_by New env l x p m) s new)
  taken_ok (Ok a) copies wanted s new taken done = taken_does copies wanted s new taken done
  taken_ok (Err e) copies wanted s new taken done = tt

  -- if its taking answers an error, a new PUBLISH that was accepted is refused
  pub taken_err : {A : Type 0} (r : Result A StepFault) (copies : List MessageCopy) (wanted : Bool) (s new : Stepping) → IsAccepted m s copies wanted
      → ((choice : MemberChoice) → is_wanted (env_in choice s) m s.broker.records ≡ wanted
      → IfErr r (λ fault. IsLeft (publish_new (env_in choice s) l x p m (Some (addressed_all copies))) fault s new))
      → IfErr r (λ fault. LeavesSome (λ env. publish_by New env l x p m) fault s new)
  taken_err (Ok a) copies wanted s new taken left = tt
  taken_err (Err e) copies wanted s new taken left = taken_leaves copies wanted e s new taken left

-- if memory was wanting before anything was done, the act is refused, whatever is chosen
pub nothing_left : (act : Env → Act) (fault : StepFault) (s new : Stepping) → fault ≡ Memory → new ≡ s → LeavesSome act fault s new
nothing_left act fault s new memory same = record {
  number = 0;
  sender = [];
  members = [];
  is = λ choice chosen. nothing_leaves act fault s new memory same choice;
}
