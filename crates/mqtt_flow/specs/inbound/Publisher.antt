-- A conforming publisher: what becomes of its messages, and what it sends for them (4.3.2, 4.3.3, 4.4, 4.9).
use Rattle.std.specs.Prelude.{◌≡◌, ℕ, suc, Bool, true, false, ◌&&◌, List, [], ◌∷◌, nat_eq, Option, Some, None, ⊤, if◌then◌else◌}
use Rattle.std.specs.List.{list_any}
use Rattle.mqtt_base.specs.Codes.{is_success}

-- at least once (4.3.2), exactly once (4.3.3)
pub data Qos : Type 0 where
  qos_1 : Qos
  qos_2 : Qos

-- how a handshake ended: by its last packet, by a code of 0x80 or more, or with the session
pub data Finish : Type 0 where
  completed : Finish
  refused : Finish
  forgotten : Finish

-- what became of a message that went out. One in flight has its identifier; a released one had its PUBREC
pub data Fate : Type 0 where
  sent_1 : (id : ℕ) → Fate
  ended_1 : (by : Finish) → Fate
  sent : (id : ℕ) → Fate
  released : (id : ℕ) → Fate
  ended : (by : Finish) → Fate

-- packets of a publisher. A PUBLISH of QoS 1 or 2 has its identifier, the number of its message and DUP
pub data FromPublisher : Type 0 where
  CONNECT : (clean : Bool) → FromPublisher
  PUBLISH_1 : (id n : ℕ) (dup : Bool) → FromPublisher
  PUBLISH_2 : (id n : ℕ) (dup : Bool) → FromPublisher
  PUBREL : (id : ℕ) → FromPublisher

-- no CONNECT is under way
abbrev pub HasNoConnect : List FromPublisher → Type 0
HasNoConnect [] = ⊤
HasNoConnect (CONNECT clean ∷ rest) = ⊥
HasNoConnect (PUBLISH_1 id n dup ∷ rest) = HasNoConnect rest
HasNoConnect (PUBLISH_2 id n dup ∷ rest) = HasNoConnect rest
HasNoConnect (PUBREL id ∷ rest) = HasNoConnect rest

-- or one alone
abbrev pub IsConnectAlone : List FromPublisher → Type 0
IsConnectAlone [] = ⊤
IsConnectAlone (CONNECT clean ∷ rest) = rest ≡ []
IsConnectAlone (PUBLISH_1 id n dup ∷ rest) = HasNoConnect rest
IsConnectAlone (PUBLISH_2 id n dup ∷ rest) = HasNoConnect rest
IsConnectAlone (PUBREL id ∷ rest) = HasNoConnect rest

-- by whether the session is connected there: a PUBLISH or PUBREL is under way only if it is, a CONNECT only if it
-- isn't yet
abbrev pub IsHeard : Bool → List FromPublisher → Type 0
IsHeard linked [] = ⊤
IsHeard linked (CONNECT clean ∷ rest) = linked ≡ false
IsHeard linked (PUBLISH_1 id n dup ∷ rest) = linked ≡ true
IsHeard linked (PUBLISH_2 id n dup ∷ rest) = linked ≡ true
IsHeard linked (PUBREL id ∷ rest) = linked ≡ true

-- packets to a publisher. A CONNACK of success has Session Present, the other has none
pub data ToPublisher : Type 0 where
  CONNACK : (present : Bool) → ToPublisher
  CONNACK_REFUSED : (code : ℕ) → ToPublisher
  PUBACK : (id code : ℕ) → ToPublisher
  PUBREC : (id code : ℕ) → ToPublisher
  PUBCOMP : (id code : ℕ) → ToPublisher
  DISCONNECT : (code : ℕ) → ToPublisher

-- the identifiers in flight
abbrev pub in_flight : List Fate → List ℕ
in_flight [] = []
in_flight (sent_1 id ∷ fates) = id ∷ in_flight fates
in_flight (ended_1 by ∷ fates) = in_flight fates
in_flight (sent id ∷ fates) = id ∷ in_flight fates
in_flight (released id ∷ fates) = id ∷ in_flight fates
in_flight (ended by ∷ fates) = in_flight fates

-- a message goes out
abbrev pub first_fate : Qos → ℕ → Fate
first_fate qos_1 id = sent_1 id
first_fate qos_2 id = sent id

abbrev pub first_packet : Qos → ℕ → ℕ → FromPublisher
first_packet qos_1 id n = PUBLISH_1 id n false
first_packet qos_2 id n = PUBLISH_2 id n false

-- what goes out again when a session is resumed, in the order of the messages' numbers, from n on (4.4)
abbrev pub resent_from : ℕ → List Fate → List FromPublisher
resent_from n [] = []
resent_from n (sent_1 id ∷ fates) = PUBLISH_1 id n true ∷ resent_from (suc n) fates
resent_from n (ended_1 by ∷ fates) = resent_from (suc n) fates
resent_from n (sent id ∷ fates) = PUBLISH_2 id n true ∷ resent_from (suc n) fates
resent_from n (released id ∷ fates) = PUBREL id ∷ resent_from (suc n) fates
resent_from n (ended by ∷ fates) = resent_from (suc n) fates

-- a new session knows of no handshake (4.1)
abbrev pub on_new_session : Fate → Fate
on_new_session (sent_1 id) = ended_1 forgotten
on_new_session (ended_1 by) = ended_1 by
on_new_session (sent id) = ended forgotten
on_new_session (released id) = ended forgotten
on_new_session (ended by) = ended by

-- by whether the code tells success
abbrev pub acknowledged : Bool → Fate
acknowledged true = ended_1 completed
acknowledged false = ended_1 refused

abbrev pub received : Bool → ℕ → Fate
received true id = released id
received false id = ended refused

-- a message after PUBACK (4.3.2)
abbrev pub on_puback : ℕ → ℕ → Fate → Fate
on_puback id code (sent_1 other) = if nat_eq id other then acknowledged (is_success code) else sent_1 other
on_puback id code (ended_1 by) = ended_1 by
on_puback id code (sent other) = sent other
on_puback id code (released other) = released other
on_puback id code (ended by) = ended by

-- after PUBREC (4.3.3)
abbrev pub on_pubrec : ℕ → ℕ → Fate → Fate
on_pubrec id code (sent_1 other) = sent_1 other
on_pubrec id code (ended_1 by) = ended_1 by
on_pubrec id code (sent other) = if nat_eq id other then received (is_success code) other else sent other
on_pubrec id code (released other) = released other
on_pubrec id code (ended by) = ended by

-- after PUBCOMP, whatever its code (4.3.3)
abbrev pub on_pubcomp : ℕ → Fate → Fate
on_pubcomp id (sent_1 other) = sent_1 other
on_pubcomp id (ended_1 by) = ended_1 by
on_pubcomp id (sent other) = sent other
on_pubcomp id (released other) = if nat_eq id other then ended completed else released other
on_pubcomp id (ended by) = ended by

abbrev pub is_sent : ℕ → Fate → Bool
is_sent id (sent_1 other) = false
is_sent id (ended_1 by) = false
is_sent id (sent other) = nat_eq id other
is_sent id (released other) = false
is_sent id (ended by) = false

-- a PUBREC that tells success for a sent message is answered by PUBREL, any other is passed over
abbrev pub pubrel_if : Bool → ℕ → List FromPublisher
pubrel_if true id = PUBREL id ∷ []
pubrel_if false id = []

abbrev pub pubrel_for : ℕ → ℕ → List Fate → List FromPublisher
pubrel_for id code fates = pubrel_if (list_any (is_sent id) fates && is_success code) id

-- a message of QoS 2, or one that has not gone out
abbrev pub IsExactlyOnce : Option Fate → Type 0
IsExactlyOnce None = ⊤
IsExactlyOnce (Some (sent_1 id)) = ⊥
IsExactlyOnce (Some (ended_1 by)) = ⊥
IsExactlyOnce (Some (sent id)) = ⊤
IsExactlyOnce (Some (released id)) = ⊤
IsExactlyOnce (Some (ended by)) = ⊤

-- a message whose handshake has ended
abbrev pub IsEnded : Option Fate → Type 0
IsEnded None = ⊥
IsEnded (Some (sent_1 id)) = ⊥
IsEnded (Some (ended_1 by)) = ⊤
IsEnded (Some (sent id)) = ⊥
IsEnded (Some (released id)) = ⊥
IsEnded (Some (ended by)) = ⊤
