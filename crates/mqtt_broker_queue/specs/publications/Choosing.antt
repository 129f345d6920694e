-- Acts in which members of groups are chosen, for one publication at most (MQTT 5.0, 4.8.2).
use Rattle.std.specs.Prelude.{◌≡◌, ℕ, Bool, List, Some, None}
use Rattle.std.specs.List.{AllByRecursion}
use Rattle.mqtt_records.specs.messages.Queue.{IsSpelled}
use Rattle.mqtt_records.specs.declared.messages.message.MessageCopy.{MessageCopy}
use Rattle.mqtt_props.specs.declared.place.Place.TheVariants as places
use Rattle.mqtt_rules.specs.step.Contents.{IsContent}
use Rattle.mqtt_rules.specs.step.Deeds.{Act, Message}
use Rattle.mqtt_rules.specs.step.Routing.{accepted_copies, is_wanted, next_publication}
use Rattle.mqtt_rules.specs.step.State.{Env, MemberChoice}
use Rattle.mqtt_broker_step.specs.declared.fault.StepFault.{StepFault}
use Rattle.mqtt_broker_step.specs.Stepping.{Stepping, Did, IsLeft, env_in}
use Rattle.mqtt_broker_queue.specs.declared.publications.router.Routing.{Routing}
use Rattle.mqtt_broker_queue.specs.declared.publications.router.Routing.TheVariants.{Refused, Accepted}
use Rattle.mqtt_broker_queue.specs.publications.Delivering.{addressed_all, HasRoomIn}

-- ---- what a call made of the step, where a publication may have been routed

-- it did an act, for whatever choice takes these members for the publication of this number by this sender
pub record DoesSome (act : Env → Act) (old new : Stepping) : Type 0 where
  pub number : ℕ
  pub sender : List ℕ
  pub members : List ℕ
  pub is : (choice : MemberChoice) → choice number sender ≡ members → Did (act (env_in choice old)) old new

-- and a refusal
pub record LeavesSome (act : Env → Act) (fault : StepFault) (old new : Stepping) : Type 0 where
  pub number : ℕ
  pub sender : List ℕ
  pub members : List ℕ
  pub is : (choice : MemberChoice) → choice number sender ≡ members → IsLeft (act (env_in choice old)) fault old new

-- ---- where a publication goes

-- what it passes on is as packets carry it
abbrev pub IsLawfulMessage : Message → Type 0
IsLawfulMessage m = IsContent places.Publish m.topic m.properties m.payload

-- it is refused, for whatever choice takes these members
pub record IsRefused (m : Message) (s : Stepping) : Type 0 where
  pub members : List ℕ
  pub refused : (choice : MemberChoice) → choice (next_publication s.broker.records) m.sender ≡ members
      → accepted_copies (env_in choice s) m s.broker ≡ None

-- it is accepted in these copies, for whatever choice takes these members; their PUBLISH have spellings, and each queue
-- has room for those that are to enter it
pub record IsAccepted (m : Message) (s : Stepping) (copies : List MessageCopy) (wanted : Bool) : Type 0 where
  pub members : List ℕ
  pub accepted : (choice : MemberChoice) → choice (next_publication s.broker.records) m.sender ≡ members
      → accepted_copies (env_in choice s) m s.broker ≡ Some (addressed_all copies)
  pub is_wanted : (choice : MemberChoice) → is_wanted (env_in choice s) m s.broker.records ≡ wanted
  pub spelled : AllByRecursion IsSpelled copies
  pub room : HasRoomIn s (addressed_all copies)

abbrev pub IsRouted : Message → Stepping → Routing → Type 0
IsRouted m s Refused = IsRefused m s
IsRouted m s (Accepted copies wanted) = IsAccepted m s copies wanted
