-- What the laws say of every run of the world: messages accepted once, copies entered and ended once, copies handed
-- over once and in order (MQTT 5.0, 4.3.3, 4.4, 4.6, 4.9).
use Rattle.std.specs.Prelude.{◌≡◌, ℕ, ◌+◌, ◌<◌, ◌≤◌, ⊤, Bool, true, false, cond, ◌&&◌, List, [], ◌∷◌, filter}
use Rattle.std.specs.Prelude.{filter_map, map, flat_map, nat_eq, Option, Some, None, count_by, slice_get, is_some}
use Rattle.std.specs.Prelude.{bytes_eq, All}
use Rattle.mqtt_base.specs.declared.session.Cause.{Cause}
use Rattle.mqtt_base.specs.declared.session.Cause.TheVariants.{Direct, Share, Retained}
use Rattle.mqtt_base.specs.declared.session.CopyId.{CopyId}
use Rattle.mqtt_base.specs.declared.session.Ending.TheVariants.{Taken}
use Rattle.mqtt_base.specs.declared.session.Phase.{Phase}
use Rattle.mqtt_base.specs.declared.session.Phase.TheVariants.{Waiting, Sent, Released, Oversize}
use Rattle.mqtt_base.specs.declared.session.Qos.{Qos}
use Rattle.mqtt_base.specs.declared.session.Qos.TheVariants.{AtMostOnce, AtLeastOnce, ExactlyOnce}
use Rattle.mqtt_flow.specs.outbound.Receiver.{Body}
use Rattle.mqtt_flow.specs.inbound.Publisher.{Fate, IsExactlyOnce, completed, refused, ended, ended_1}
use Rattle.mqtt_records.specs.messages.Queue.{CopyRow}
use Rattle.mqtt_records.specs.declared.state.session.Session.{Session}
use Rattle.mqtt_rules.specs.declared.step.Capacity.{Capacity}
use Rattle.mqtt_rules.specs.step.State.{Broker, session_named}
use Rattle.mqtt_rules.specs.step.Deeds.{Message}
use Rattle.mqtt_rules.specs.step.Routing.{CopyTo, accepted_copies, is_queued}
use Rattle.mqtt_rules.specs.step.Laws.{FewOpen}
use Rattle.mqtt_world_model.specs.model.Ends.{Content, Publisher, Receiver, Entry, content_at}
use Rattle.mqtt_world_model.specs.model.World.{World, start, publisher_named}
use Rattle.mqtt_world_model.specs.model.Run.{Turn, after, Acceptance, acceptances_over, From, from_over, accepted_count, End}
use Rattle.mqtt_world_model.specs.model.Run.{entered_over, ended_over}

-- ---- messages

abbrev pub fate_by : ℕ → Option Publisher → Option Fate
fate_by n None = None
fate_by n (Some p) = slice_get p.fates n

-- what became of a message of a publisher; None if it has not gone out
abbrev pub fate_of : List ℕ → ℕ → World → Option Fate
fate_of client n w = fate_by n (publisher_named client w)

-- the publication carries what the message does
pub record Carries (client : List ℕ) (c : Content) (m : Message) : Type 0 where
  pub sender : m.sender ≡ client
  pub retain : m.retain ≡ c.retain
  pub topic : m.topic ≡ c.topic
  pub payload : m.payload ≡ c.payload

abbrev pub contents_by : Option Publisher → List Content
contents_by None = []
contents_by (Some p) = p.contents

abbrev pub CarriesFrom : List ℕ → List Content → From → Type 0
CarriesFrom client contents x = Carries client (content_at x.message contents) x.publication

-- Whatever happens, with any number of ends and strangers: a QoS 2 message of a publisher is accepted at most once,
-- exactly once if its handshake is completed, never if it was refused or has not gone out, and one of QoS 1 that was
-- acknowledged at least once; what was accepted carries what the message does; and no session has over 20 identifiers
-- open
pub record AcceptedOnce (limits : Capacity) (ts : List Turn) : Type 0 where
  pub once : (client : List ℕ) (n : ℕ) → IsExactlyOnce (fate_of client n (after limits ts))
      → accepted_count client n limits ts ≤ 1
  pub unsent : (client : List ℕ) (n : ℕ) → fate_of client n (after limits ts) ≡ None
      → accepted_count client n limits ts ≡ 0
  pub complete : (client : List ℕ) (n : ℕ) → fate_of client n (after limits ts) ≡ Some (ended completed)
      → accepted_count client n limits ts ≡ 1
  pub refusal : (client : List ℕ) (n : ℕ) → fate_of client n (after limits ts) ≡ Some (ended refused)
      → accepted_count client n limits ts ≡ 0
  pub acknowledged : (client : List ℕ) (n : ℕ) → fate_of client n (after limits ts) ≡ Some (ended_1 completed)
      → 1 ≤ accepted_count client n limits ts
  pub carried : (client : List ℕ)
      → All (CarriesFrom client (contents_by (publisher_named client (after limits ts))))
      (from_over client limits ts start)
  pub within : FewOpen (after limits ts).broker.records

-- ---- copies

-- two copies are the same: of one publication, for one session, with one cause
abbrev pub is_share : List ℕ → Cause → Bool
is_share group Direct = false
is_share group (Share other) = bytes_eq group other
is_share group (Retained number) = false

abbrev pub is_retained : ℕ → Cause → Bool
is_retained number Direct = false
is_retained number (Share group) = false
is_retained number (Retained other) = nat_eq number other

abbrev pub is_direct : Cause → Bool
is_direct Direct = true
is_direct (Share group) = false
is_direct (Retained number) = false

abbrev pub same_cause : Cause → Cause → Bool
same_cause Direct c = is_direct c
same_cause (Share group) c = is_share group c
same_cause (Retained number) c = is_retained number c

abbrev pub is_copy : CopyId → CopyId → Bool
is_copy c d = nat_eq c.publication d.publication && (nat_eq c.birth d.birth && same_cause c.cause d.cause)

abbrev pub count_of : CopyId → List CopyId → ℕ
count_of c cs = count_by (is_copy c) cs

-- the copies that stand in the queues
abbrev pub standing_in : Session → List CopyId
standing_in s = map (λ (e : CopyRow). e.copy.id) s.queue

abbrev pub standing : Broker → List CopyId
standing b = flat_map standing_in b.records.sessions

-- of a publication's own copies, not those that a SUBSCRIBE brought later
abbrev pub is_routed : Cause → Bool
is_routed Direct = true
is_routed (Share group) = true
is_routed (Retained subscribe) = false

abbrev pub is_own : ℕ → CopyId → Bool
is_own number c = nat_eq c.publication number && is_routed c.cause

abbrev pub id_of : CopyTo → CopyId
id_of d = d.copy.id

-- Each publication that was accepted, from whomever, was routed; its copies that entered are those of its routing with
-- QoS 1 or 2, each once: one for each session with a direct copy, one for the member chosen of each group, and no other
pub record EnteredOnce (limits : Capacity) (ts : List Turn) (a : Acceptance) : Type 0 where
  pub copies : List CopyTo
  pub routed_is : accepted_copies a.env a.message a.broker ≡ Some copies
  pub entered_is : filter (is_own a.number) (entered_over limits ts) ≡ map id_of (filter is_queued copies)

abbrev pub ended_copies : Capacity → List Turn → List CopyId
ended_copies limits ts = map (λ (e : End). e.copy) (ended_over limits ts)

-- Each copy entered at most once; one that entered waits in its session's queue or has exactly one end, never both
pub record CopiesOnce (limits : Capacity) (ts : List Turn) : Type 0 where
  pub entered : All (EnteredOnce limits ts) (acceptances_over limits ts start)
  pub once : (c : CopyId) → count_of c (entered_over limits ts) ≤ 1
  pub waits_or_ended : (c : CopyId)
      → count_of c (entered_over limits ts)
      ≡ count_of c (standing (after limits ts).broker) + count_of c (ended_copies limits ts)

-- ---- copies handed over

abbrev pub copies_in : List Entry → List CopyId
copies_in es = filter_map (λ (e : Entry). e.copy) es

-- copies of QoS 2 whose PUBREC was taken stand in the queue as released
abbrev pub is_released : Phase → Bool
is_released Waiting = false
is_released (Sent i) = false
is_released (Released i order) = true
is_released (Oversize i order) = false

abbrev pub released_in : Option Session → List CopyId
released_in None = []
released_in (Some s) = map (λ (e : CopyRow). e.copy.id) (filter (λ (e : CopyRow). is_released e.phase) s.queue)

-- the first stand among the others, in their order
abbrev pub stand_among : List CopyId → List CopyId → Bool
stand_among [] [] = true
stand_among [] (y ∷ ys) = true
stand_among (x ∷ xs) [] = false
stand_among (x ∷ xs) (y ∷ ys) = cond (is_copy x y) (stand_among xs ys) (stand_among (x ∷ xs) ys)

abbrev pub handed_count : CopyId → Receiver → ℕ
handed_count c r = count_of c (copies_in r.ledger)

abbrev pub read_count : CopyId → Receiver → ℕ
read_count c r = count_of c (copies_in r.once)

-- a copy that the receiver took was handed over: of QoS 2 once, of QoS 1 at least once
abbrev pub WasTaken : Qos → CopyId → Receiver → Type 0
WasTaken AtMostOnce c r = ⊤
WasTaken AtLeastOnce c r = 1 ≤ read_count c r
WasTaken ExactlyOnce c r = handed_count c r ≡ 1

abbrev pub IsTaken : Receiver → End → Type 0
IsTaken r e = e.client ≡ r.client → r.since < e.copy.birth → e.by ≡ Taken → WasTaken e.qos e.copy r

-- what was read is that publication's
abbrev pub CarriesOf : Acceptance → Option CopyId → Body → Type 0
CarriesOf a None body = ⊤
CarriesOf a (Some c) body =
    c.publication ≡ a.number → (body.topic ≡ a.message.topic) × (body.payload ≡ a.message.payload)

abbrev pub CarriesOn : Acceptance → Entry → Type 0
CarriesOn a e = CarriesOf a e.copy e.body

-- Each QoS 2 copy of a receiver is handed over at most once, in the order in which the copies entered, and exactly once
-- from when its PUBREC was taken; what is read carries what the publication does; one of QoS 1 that was taken was read
pub record HandedOnce (limits : Capacity) (ts : List Turn) (r : Receiver) : Type 0 where
  pub tagged : All (λ (e : Entry). is_some e.copy ≡ true) r.ledger
  pub once : (c : CopyId) → handed_count c r ≤ 1
  pub in_order : stand_among (copies_in r.ledger) (entered_over limits ts) ≡ true
  pub released : All (λ (c : CopyId). handed_count c r ≡ 1)
      (released_in (session_named r.client (after limits ts).broker.records))
  pub taken : All (IsTaken r) (ended_over limits ts)
  pub carried : All (λ (a : Acceptance). All (CarriesOn a) r.ledger × All (CarriesOn a) r.once)
      (acceptances_over limits ts start)

-- of every receiver
abbrev pub AllHandedOnce : Capacity → List Turn → Type 0
AllHandedOnce limits ts = All (HandedOnce limits ts) (after limits ts).receivers
