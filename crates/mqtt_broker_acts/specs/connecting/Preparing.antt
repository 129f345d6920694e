-- What comes before a new connection of a client whose session stands (MQTT 5.0, 3.1.2.4, 3.1.4).
use Rattle.std.specs.Prelude.{◌≡◌, ℕ, Bool, List, nat_eq, bytes_eq}
use Rattle.std.specs.List.{AllByRecursion}
use Rattle.mqtt_base.specs.Codes.{session_taken_over}
use Rattle.mqtt_packet.specs.declared.connect.connect.Connect.{Connect}
use Rattle.mqtt_records.specs.declared.state.records.Records.{Records}
use Rattle.mqtt_rules.specs.step.Closing.{drop_line, settle}
use Rattle.mqtt_rules.specs.step.Deeds.{Act, only_if, then, with_line}
use Rattle.mqtt_rules.specs.step.State.{Env, Line, MemberChoice, line_of}
use Rattle.mqtt_broker_step.specs.Stepping.{Stepping, env_in}
use Rattle.mqtt_broker_acts.specs.closing.Ending.{ends}
use Rattle.mqtt_broker_acts.specs.closing.Wills.{publishes_will}
use Rattle.mqtt_broker_acts.specs.declared.connecting.joining.Joined.{Joined}
use Rattle.mqtt_broker_acts.specs.connecting.Joining.{ConnectedBy}

-- of the sessions that stand, those with this client identifier are those with this birth
abbrev pub IsOnly : List ℕ → ℕ → Records → Type 0
IsOnly client birth r = AllByRecursion (λ s. bytes_eq s.client client ≡ nat_eq s.birth birth) r.sessions

-- the line of the session with a birth is told and closes as lost
abbrev pub takes_over : ℕ → Env → Act
takes_over birth env b = with_line (line_of birth b) (drop_line env session_taken_over) b

abbrev pub settles : ℕ → Env → Act
settles birth env = settle env birth

-- its waiting Will is published, and it ends
abbrev pub clears : ℕ → Env → Act
clears birth env b = then (publishes_will birth env b) (ends birth) b

abbrev pub clears_if : Bool → ℕ → Env → Act
clears_if clean birth env = only_if clean (clears birth env)

abbrev pub settles_and_clears : Bool → ℕ → Env → Act
settles_and_clears clean birth env b = then (settles birth env b) (clears_if clean birth env) b

-- the CONNECT is done, or its client is to be refused, for whatever choice takes these members for the publication of this
-- number by this sender
pub record IsConnected (l : Line) (c : Connect) (joined : Joined) (old new : Stepping) : Type 0 where
  pub number : ℕ
  pub sender : List ℕ
  pub members : List ℕ
  pub is : (choice : MemberChoice) → choice number sender ≡ members → ConnectedBy (env_in choice old) l c joined old new
