-- What became of each Will that a CONNECT stored (MQTT 5.0, 3.1.2.5, 3.1.3.2.2, 3.14.4).
use Rattle.std.specs.Prelude.{◌≡◌, ℕ, Bool, false, cond, ◌&&◌, List, [], ◌∷◌, ◌++◌, nat_eq, bytes_eq, Option, Some, None}
use Rattle.std.specs.List.{AllByRecursion}
use Rattle.mqtt_base.specs.Codes.{normal_disconnection}
use Rattle.mqtt_packet.specs.declared.codec.packet.Packet.TheVariants.{Disconnect}
use Rattle.mqtt_records.specs.declared.messages.message.Will.{Will}
use Rattle.mqtt_records.specs.declared.state.records.Records.{Records}
use Rattle.mqtt_records.specs.declared.state.session.Session.{Session}
use Rattle.mqtt_rules.specs.step.Deeds.{Accept, At, Begin, Deed, DropWill, FromWill, RefuseWill, Resume, after}
use Rattle.mqtt_rules.specs.step.Laws.{Event, after_events}
use Rattle.mqtt_rules.specs.step.State.{Broker, Line, is_of, line_at, session_at}
use Rattle.mqtt_rules.specs.step.Step.{Call, Input}
use Rattle.mqtt_world_laws.specs.causes.Endings.{Asked}
use Rattle.mqtt_world_laws.specs.of_calls.Calls.{asked_in_all}

-- ---- how a Will ends

-- the ends that there are
pub data WillEnd : Type 0 where
  Published : (number : ℕ) → WillEnd  -- it is accepted as the publication of this number (3.1.2.5)
  Refused : WillEnd  -- it isn't accepted, as a PUBLISH may not be (ours)
  Cancelled : WillEnd  -- its session is resumed; the CONNECT may bring another (3.1.3.2.2)
  Dropped : WillEnd  -- its client's DISCONNECT has 0x00 (3.14.4)

-- a Will that a CONNECT stored, and its ends in order
pub record StoredWill : Type 0 where
  pub will : Will
  pub ends : List WillEnd

-- ---- the Wills of one session, the newest first

-- a CONNECT brings one, or none
abbrev pub stored_with : Option Will → List StoredWill → List StoredWill
stored_with None xs = xs
stored_with (Some will) xs = record { will = will; ends = [] } ∷ xs

-- the newest has one end more
abbrev pub with_end : WillEnd → List StoredWill → List StoredWill
with_end fate [] = []
with_end fate (x ∷ xs) = record { will = x.will; ends = x.ends ++ fate ∷ [] } ∷ xs

-- what is taken away ends by that, unless it has ended: what is published or refused is taken away behind that
abbrev pub first_end : WillEnd → List WillEnd → List WillEnd
first_end fate [] = fate ∷ []
first_end fate (e ∷ es) = e ∷ es

-- the newest is taken away
abbrev pub taken_with : WillEnd → List StoredWill → List StoredWill
taken_with fate [] = []
taken_with fate (x ∷ xs) = record { will = x.will; ends = first_end fate x.ends } ∷ xs

-- ---- read off what is done

-- the session stands, and has this client identifier
abbrev pub is_client : List ℕ → Option Session → Bool
is_client name None = false
is_client name (Some s) = bytes_eq s.client name

-- the line stands, and the session of this birth is connected on it
abbrev pub is_on : ℕ → Option Line → Bool
is_on birth None = false
is_on birth (Some l) = is_of l.session birth

-- on the session's line came DISCONNECT with 0x00
abbrev pub says_goodbye : ℕ → Option Call → Broker → Bool
says_goodbye birth (Some (Input n (Disconnect d))) b = nat_eq d.reason.0 normal_disconnection && is_on birth (line_at n b)
says_goodbye birth call b = false

-- the Wills of the session of a birth after a deed of a step: a Will is published under its client's name
abbrev pub wills_after : ℕ → Asked → Deed → Broker → List StoredWill → List StoredWill
wills_after birth x (Begin row will) b ws = cond (nat_eq row.birth birth) (stored_with will ws) ws
wills_after birth x (At who (Resume expiry will)) b ws = cond (nat_eq who.birth birth) (stored_with will (taken_with Cancelled ws)) ws
wills_after birth x (Accept number FromWill m) b ws = cond (is_client m.sender (session_at birth b.records)) (with_end (Published number) ws) ws
wills_after birth x (RefuseWill who) b ws = cond (nat_eq who.birth birth) (with_end Refused ws) ws
wills_after birth x (At who DropWill) b ws = cond (nat_eq who.birth birth && says_goodbye birth x.call x.step.broker) (taken_with Dropped ws) ws
wills_after birth x d b ws = ws

-- after all deeds of a step, each on the state on which it comes
abbrev pub wills_in : ℕ → Asked → List Deed → Broker → List StoredWill → List StoredWill
wills_in birth x [] b ws = ws
wills_in birth x (d ∷ ds) b ws = wills_in birth x ds (after d b) (wills_after birth x d b ws)

-- after all steps
abbrev pub wills_over : ℕ → List Asked → List StoredWill → List StoredWill
wills_over birth [] ws = ws
wills_over birth (x ∷ xs) ws = wills_over birth xs (wills_in birth x x.step.deeds x.step.broker ws)

-- ---- the law

-- the Will of a session, if there is one
abbrev pub held_if : Option Session → Option Will
held_if None = None
held_if (Some s) = s.will

-- the Will that stands in the session of a birth
abbrev pub will_held : ℕ → Records → Option Will
will_held birth r = held_if (session_at birth r)

-- one end, and no other
abbrev pub HasOneEnd : StoredWill → Type 0
HasOneEnd x = (fate : WillEnd) × (x.ends ≡ fate ∷ [])

-- If a Will stands it is the newest, and has no end; each other has exactly one. If none stands each has exactly one
abbrev pub StandOrEnded : Option Will → List StoredWill → Type 0
StandOrEnded None ws = AllByRecursion HasOneEnd ws
StandOrEnded (Some will) [] = ⊥
StandOrEnded (Some will) (x ∷ ws) = ((x.will ≡ will) × (x.ends ≡ [])) × AllByRecursion HasOneEnd ws

-- so it is of each session after these calls and openings; what stood before them counts as stored
abbrev pub EachWillStandsOrEnded : List Event → Broker → Type 0
EachWillStandsOrEnded events b = (birth : ℕ) →
    StandOrEnded (will_held birth (after_events events b).records) (wills_over birth (asked_in_all events b) (stored_with (will_held birth b.records) []))
