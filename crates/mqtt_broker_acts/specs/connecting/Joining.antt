-- What comes after the preparation for a new connection (MQTT 5.0, 3.1.2.4, 3.2.2.2).
use Rattle.std.specs.Prelude.{◌≡◌, ℕ, Bool, true, false, ◌||◌, nat_lt, List, [], length, Some, None, is_some}
use Rattle.mqtt_packet.specs.declared.connect.connect.Connect.{Connect}
use Rattle.mqtt_records.specs.declared.state.session.Session.{Session}
use Rattle.mqtt_records.specs.declared.state.records.Records.{Records}
use Rattle.mqtt_rules.specs.step.State.{Line, Env, session_at, session_named}
use Rattle.mqtt_rules.specs.step.Deeds.{Act}
use Rattle.mqtt_base.specs.Codes.{quota_exceeded}
use Rattle.mqtt_rules.specs.step.Connect.{joins_after, on_connect, prepare, refusal, refused}
use Rattle.mqtt_broker_step.specs.Stepping.{Stepping, Did, Does}
use Rattle.mqtt_broker_acts.specs.declared.connecting.joining.Joined.{Joined}
use Rattle.mqtt_broker_acts.specs.declared.connecting.joining.Joined.TheVariants.{Done, NoPlace}

-- the session of a client identifier has this birth
pub record IsNamedAt (client : List ℕ) (birth : ℕ) (r : Records) : Type 0 where
  pub session : Session
  pub named : session_named client r ≡ Some session
  pub at : session_at birth r ≡ Some session

-- on what the preparation left, the session is resumed, or a new one begins if there is a place for it
abbrev pub joins_now : Line → Connect → Env → Act
joins_now l c env b = joins_after env l c b.now [] b.records

-- the client's session stands, or there is a place for one more
abbrev pub has_place : ℕ → Connect → Records → Bool
has_place limit c r = is_some (session_named c.client_identifier r) || nat_lt (length r.sessions) limit

-- there is one for it among those that may stand
abbrev pub IsPlaced : Connect → Stepping → Type 0
IsPlaced c s = has_place s.limits.sessions c s.broker.records ≡ true

-- it joined
pub record IsJoined (l : Line) (c : Connect) (old new : Stepping) : Type 0 where
  pub does : Does (joins_now l c) old new
  pub place : IsPlaced c old

-- it is new, and has no place
pub record HasNoPlace (c : Connect) (s : Stepping) : Type 0 where
  pub new : session_named c.client_identifier s.broker.records ≡ None
  pub full : nat_lt (length s.broker.records.sessions) s.limits.sessions ≡ false

-- it was done, or nothing changed
abbrev pub JoinedBy : Line → Connect → Joined → Stepping → Stepping → Type 0
JoinedBy l c Done old new = IsJoined l c old new
JoinedBy l c NoPlace old new = (new ≡ old) × HasNoPlace c old

-- ---- the whole, from before the preparation

-- a CONNECT isn't refused at once, and what comes before the connection is done
pub record IsPrepared (env : Env) (c : Connect) (first s : Stepping) : Type 0 where
  pub unrefused : refusal c first.broker.records ≡ None
  pub did : Did (prepare env c) first s

-- the client is to be refused, as if nothing had come before; the step can be taken back
pub record IsRefusedWhole (env : Env) (l : Line) (c : Connect) (first new : Stepping) : Type 0 where
  pub refuses : on_connect env l c first.broker ≡ refused l c quota_exceeded
  pub start : new.start ≡ first.start
  pub limits : new.limits ≡ first.limits

-- the CONNECT is done, or its client is to be refused
abbrev pub ConnectedBy : Env → Line → Connect → Joined → Stepping → Stepping → Type 0
ConnectedBy env l c Done first new = Did (on_connect env l c) first new
ConnectedBy env l c NoPlace first new = IsRefusedWhole env l c first new
