-- The first packet of a line (MQTT 5.0, 3.1).
use Rattle.std.specs.Prelude.{◌≡◌, ℕ, Bool, false, cond, List, [], ◌∷◌}
use Rattle.mqtt_base.specs.Codes.{quota_exceeded}
use Rattle.mqtt_packet.specs.declared.codec.packet.Packet.{Packet}
use Rattle.mqtt_packet.specs.declared.codec.packet.Packet.TheVariants as packets
use Rattle.mqtt_packet.specs.declared.connect.connect.Connect.{Connect}
use Rattle.mqtt_rules.specs.step.Connect.{refused}
use Rattle.mqtt_rules.specs.step.Deeds.{Act, Deed, Hear, On, Send, always}
use Rattle.mqtt_rules.specs.step.Packets.{connack}
use Rattle.mqtt_rules.specs.step.State.{Line, MemberChoice}
use Rattle.mqtt_rules.specs.step.Step.{Input, deeds_of}
use Rattle.mqtt_broker_step.specs.Stepping.{Stepping, env_in}
use Rattle.mqtt_broker_queue.specs.publications.Choosing.{DoesSome}
use Rattle.mqtt_broker_acts.specs.declared.connecting.joining.Joined.{Joined}
use Rattle.mqtt_broker_acts.specs.declared.connecting.joining.Joined.TheVariants.{Done, NoPlace}

-- it is no CONNECT
abbrev pub IsOther : Packet → Type 0
IsOther (packets.Connect c) = ⊥
IsOther packet = Unit {0}

-- what is told of a fault in it, by whether it is of the type of CONNECT (3.2.2.2)
abbrev pub first_told : ℕ → Bool → ℕ → List Deed
first_told line is_connect code = cond is_connect (Send line (connack false code []) ∷ []) []

-- the line is heard, the client is refused with Quota exceeded, and the line closes (ours)
abbrev pub turns_away : Line → Connect → Act
turns_away l c = always (On l.number Hear ∷ refused l c quota_exceeded)

-- that is all that CONNECT does, for whatever choice takes these members for the publication of this number by this sender
pub record IsTurnedAway (line : ℕ) (c : Connect) (s : Stepping) : Type 0 where
  pub number : ℕ
  pub sender : List ℕ
  pub members : List ℕ
  pub is : (l : Line) (choice : MemberChoice) → l.number ≡ line → choice number sender ≡ members
      → deeds_of (env_in choice s) (Input line (packets.Connect c)) s.broker ≡ turns_away l c s.broker

-- CONNECT is done as the first packet of a line, or the step is to be taken back and the client turned away
abbrev pub GreetedBy : ℕ → Connect → Joined → Stepping → Stepping → Type 0
GreetedBy line c Done old new = DoesSome (λ env. deeds_of env (Input line (packets.Connect c))) old new
GreetedBy line c NoPlace old new = IsTurnedAway line c old × (new.start ≡ old.start) × (new.limits ≡ old.limits)
