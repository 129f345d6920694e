-- Exactly-once delivery, whole, of runs in which PUBLISH goes out in forms: what `mqtt_world_laws::headline` says of runs of what
-- packets mean (MQTT 5.0, 3.3.2.3.4, 3.3.4, 4.3, 4.4, 4.6, 4.8, 4.9).
use Rattle.std.specs.Prelude.{◌≡◌, ◌≤◌, ◌+◌, ⊤, All, ℕ, true, false, cond, List, [], ◌∷◌, ◌++◌, None, Option, Some, count_by, filter, filter_map, flat_map, length, map}
use Rattle.std.specs.List.{AllByRecursion}
use Rattle.mqtt_base.specs.declared.session.CopyId.{CopyId}
use Rattle.mqtt_flow.specs.inbound.Publisher.{Fate, IsExactlyOnce, completed, ended as has_ended, ended_1, refused}
use Rattle.mqtt_routes.specs.routing.Acceptance.{Routed, Served}
use Rattle.mqtt_rules.specs.step.Laws.{FewOpen}
use Rattle.mqtt_rules.specs.step.Numbers.{CountsOn, publication_given}
use Rattle.mqtt_rules.specs.step.Routing.{accepted_copies, answers, publication_of, routing_of, subscribers}
use Rattle.mqtt_rules.specs.step.State.{MemberChoice, session_named}
use Rattle.mqtt_rules.specs.declared.step.Capacity.{Capacity}
use Rattle.mqtt_world_model.specs.model.Ends.{Entry, Receiver}
use Rattle.mqtt_world_model.specs.model.Laws.{copies_in, count_of, fate_of, handed_count, is_own, released_in, stand_among, standing}
use Rattle.mqtt_world_model.specs.model.Run.{Acceptance, Turn, ended_in}
use Rattle.mqtt_world_model.specs.model.World.{receiver_named}
use Rattle.mqtt_world_laws.specs.acceptance.AtOnce.{GoesOut}
use Rattle.mqtt_world_laws.specs.acceptance.Copies.{IsRouted}
use Rattle.mqtt_world_laws.specs.acceptance.Entries.{brought_in, queued_ids}
use Rattle.mqtt_world_laws.specs.acceptance.Once.{CarriesIn, carriers}
use Rattle.mqtt_world_laws.specs.routing.Groups.{EachGetsOne}
use Rattle.mqtt_world_laws.specs.routing.Intended.{enters_queue, intended_for, is_groups, is_intended}
use Rattle.mqtt_world_laws.specs.routing.Members.{HaveLines}
use Rattle.mqtt_world_laws.specs.causes.Causes.{HasCause}
use Rattle.mqtt_world_laws.specs.causes.Endings.{end_of}
use Rattle.mqtt_world_laws.specs.receiver.Drains.{Doing, copies_left, drains, enough_rounds, happens, is_bad_drain}
use Rattle.mqtt_world_laws.specs.delivery.HandedOnce.{CarriesEach, WasHanded}
use Rattle.mqtt_world_laws.specs.delivery.HandedOver.{AreHandedInOrder, CarryQueued, WasHandedOver, queued_by}
use Rattle.mqtt_world_laws.specs.unsent.Unsent.{IsOver, WasLeftWaiting, WasNeverHanded}
use Rattle.mqtt_world_laws.specs.drains.Emptied.{waiting_for}
use Rattle.mqtt_world_laws.specs.drain_causes.DrainEnds.{IsOfDrain, moment_of}
use Rattle.mqtt_world_laws.specs.drain_causes.Fitting.{IsNotTooLarge}
use Rattle.mqtt_world_laws.specs.telling.AsSent.{AsSent, Most, run}
use Rattle.mqtt_world_laws.specs.telling.Likewise.{AllUnderstand}
use Rattle.mqtt_world_laws.specs.headline_in_forms.Reading.{Course, course, ended, ends, entered, from_over, times_accepted}
use Rattle.mqtt_world_laws.specs.headline_in_forms.Drains.{after_doings, all_turns, drain_turns, drained, round_turns, rounds_taken, turns_of}

-- ---- messages are accepted once

-- A QoS 2 message is accepted at most once, exactly once if its handshake is completed, and never if it was refused or has not
-- gone out; one of QoS 1 that was acknowledged at least once
pub record IsAcceptedOnce (fate : Option Fate) (times : ℕ) : Type 0 where
  pub once : IsExactlyOnce fate → times ≤ 1
  pub complete : fate ≡ Some (has_ended completed) → times ≡ 1
  pub refusal : fate ≡ Some (has_ended refused) → times ≡ 0
  pub unsent : fate ≡ None → times ≡ 0
  pub acknowledged : fate ≡ Some (ended_1 completed) → 1 ≤ times

-- each message of a publisher, with what it carries; and no session has over 20 identifiers open
pub record AcceptsOnce (most : Most) (limits : Capacity) (ts : List Turn) (s : AsSent) : Type 0 where
  pub each : (client : List ℕ) (n : ℕ)
      → IsAcceptedOnce (fate_of client n (run most limits ts s).world) (times_accepted client n most limits ts s)
  pub carried : (client : List ℕ)
      → AllByRecursion (CarriesIn client (carriers client (run most limits ts s).world)) (from_over client most limits ts s)
  pub few_open : FewOpen (run most limits ts s).world.broker.records

-- ---- copies enter once

-- of a group's copies of the publication there entered one, or none if none of its members got one with QoS 1 or 2
abbrev pub EntersForGroup : List CopyId → ℕ → Served → Type 0
EntersForGroup copies number x = count_by (is_groups number x.group) copies ≡ cond (enters_queue x.copy) 1 0

-- A publication that was accepted went to each session and each group that was to get a copy; of its copies those with QoS 1 or 2
-- entered, in their order, each once, and no other
pub record EntersAsIntended (copies : List CopyId) (a : Acceptance) : Type 0 where
  pub routing : Routed
  pub routing_is : routing_of a.env a.message a.broker.records ≡ Some routing
  pub copies_are : accepted_copies a.env a.message a.broker ≡ Some (intended_for a routing)
  pub each : EachGetsOne (answers a.env a.broker.records) (publication_of a.message) (subscribers a.broker.records) routing
  pub entered_is : filter (is_own a.number) copies ≡ queued_ids (intended_for a routing)
  pub counted : (c : CopyId) → is_own a.number c ≡ true
      → count_of c copies ≡ cond (is_intended c (intended_for a routing)) 1 0
  pub groups : AllByRecursion (EntersForGroup copies a.number) routing.served

-- Publications are routed, and numbered one after the other. Of each its intended copies of QoS 1 and 2 enter queues, each once,
-- and beside them those alone that a SUBSCRIBE brings of retained messages; its copies of QoS 0 go out at once, and whoever is to
-- get one for a group stands on a line
pub record EntersAllOnce (c : Course) : Type 0 where
  pub routed : AllByRecursion IsRouted c.acceptances
  pub numbered : CountsOn c.begin.records.publications (filter_map publication_given c.deeds) c.end.records.publications
  pub intended : AllByRecursion (EntersAsIntended (entered c)) c.acceptances
  pub brought : entered c ≡ flat_map brought_in c.steps
  pub once : (copy : CopyId) → count_of copy (entered c) ≤ 1
  pub at_once : AllByRecursion GoesOut c.steps
  pub lines : AllByRecursion HaveLines c.acceptances

-- ---- copies end once

-- a copy waits or has one end, never both, and none is lost; and each end has its cause, in the step that makes it
pub record EndsAllOnce (c : Course) : Type 0 where
  pub once : (copy : CopyId) → count_of copy (standing c.end) + count_of copy (ended c) ≤ 1
  pub waits_or_has_ended : (copy : CopyId) → count_of copy (entered c) ≡ 1
      → count_of copy (standing c.end) + count_of copy (ended c) ≡ 1
  pub balanced : (copy : CopyId) → count_of copy (standing c.end) + count_of copy (ended c)
      ≡ count_of copy (standing c.begin) + count_of copy (entered c)
  pub causes : AllByRecursion HasCause (ends c)
  pub all : map end_of (ends c) ≡ filter_map ended_in c.deeds

-- ---- copies are handed over once

-- From a moment at which a receiver was q, to one at which it is r. What it had read it has still. It was handed, and once, what
-- was released then, and what of its copies has ended as taken since; and in the order of the queue what stood there then
pub record HandsOverFrom (c : Course) (client : List ℕ) (q r : Receiver) : Type 0 where
  pub grows : (more : List Entry) × (r.ledger ≡ q.ledger ++ more)
  pub for_good : All (λ (copy : CopyId). handed_count copy r ≡ 1) (released_in (session_named q.client c.begin.records))
  pub taken : All (WasHanded client r) (filter_map ended_in c.deeds)
  pub in_order : AreHandedInOrder (queued_by (session_named q.client c.begin.records)) r

-- A receiver was handed each copy of QoS 2 at most once, in the order in which the copies entered over the run, and what it has
-- read carries what its publication does. Of what expired or made way in the run, in whatever step, it was handed none, nor has it
-- read any, nor of what else left its queue while it waited
pub record HandsOverAll (c : Course) (r : Receiver) : Type 0 where
  pub once : (copy : CopyId) → handed_count copy r ≤ 1
  pub as_entered : stand_among (copies_in r.ledger) (entered c) ≡ true
  pub carries_each : All (CarriesEach r) c.acceptances
  pub carries : CarryQueued (session_named r.client c.end.records) r.ledger × CarryQueued (session_named r.client c.end.records) r.once
  pub handed : WasHandedOver r c.end
  pub never_handed : All (WasNeverHanded r) (filter_map ended_in c.deeds)
  pub left_waiting : All (WasLeftWaiting r) c.deeds

-- and nothing of a copy is read once that has ended
pub record HandsOverOnce (most : Most) (limits : Capacity) (ts : List Turn) (s : AsSent) (client : List ℕ) (r : Receiver) : Type 0 where
  pub all : HandsOverAll (course most limits ts s) r
  pub over : (xs ys : List Turn) → xs ++ ys ≡ ts → (q : Receiver) → receiver_named client (run most limits xs s).world ≡ Some q
      → All (IsOver q r) (filter_map ended_in (course most limits xs s).deeds)
  pub since : (xs ys : List Turn) → xs ++ ys ≡ ts → (q : Receiver) → receiver_named client (run most limits xs s).world ≡ Some q
      → HandsOverFrom (course most limits ys (run most limits xs s)) client q r

-- ---- a run

-- and wherever it comes to, each PUBLISH under way to a receiver means a topic to it, once it has read those before it
pub record DeliversExactlyOnce (most : Most) (limits : Capacity) (ts : List Turn) (s : AsSent) : Type 0 where
  pub messages : AcceptsOnce most limits ts s
  pub entering : EntersAllOnce (course most limits ts s)
  pub ending : EndsAllOnce (course most limits ts s)
  pub receivers : (client : List ℕ) (r : Receiver) → receiver_named client (run most limits ts s).world ≡ Some r
      → HandsOverOnce most limits ts s client r
  pub understood : (xs ys : List Turn) → xs ++ ys ≡ ts
      → AllUnderstand (run most limits xs s).world.receivers (run most limits xs s).known

-- ---- a drain

-- the copies that stand in its receiver's queue at its start, and those that enter in it, or in its first round
abbrev pub copies_of : Most → Capacity → List Turn → List ℕ → AsSent → ℕ
copies_of most limits turns client s = copies_left client s.world + length (entered (course most limits turns s))

-- two rounds may be taken for each of these, and one more
abbrev pub HasEnough : Most → Capacity → MemberChoice → List ℕ → ℕ → AsSent → Type 0
HasEnough most limits choice client rounds s =
    enough_rounds (copies_of most limits (round_turns most limits choice client s) client s) ≤ rounds

-- it takes no more rounds than that; after them the queue is empty, and the receiver's line stands still, so that it may be
-- drained again; and with more rounds nothing more happens
pub record EmptiesQueue (most : Most) (limits : Capacity) (choice : MemberChoice) (client : List ℕ) (rounds : ℕ) (s : AsSent) : Type 0 where
  pub is_within : rounds_taken most limits choice client rounds s
      ≤ enough_rounds (copies_of most limits (round_turns most limits choice client s) client s)
  pub empty : HasEnough most limits choice client rounds s
      → waiting_for client (drained most limits choice client rounds s).world ≡ 0
  pub good : HasEnough most limits choice client rounds s
      → is_bad_drain client (drained most limits choice client rounds s).world ≡ false
  pub rests : HasEnough most limits choice client rounds s → (more : ℕ) → rounds ≤ more
      → (rounds_taken most limits choice client more s ≡ rounds_taken most limits choice client rounds s)
      × (drained most limits choice client more s ≡ drained most limits choice client rounds s)

-- It takes at most two rounds for each of these, and one. If so many are allowed the queue is empty after it, its receiver's line
-- stands, and with more rounds nothing more happens. And the copies that end in it are its receiver's, each for its cause
pub record DrainsAll (most : Most) (limits : Capacity) (choice : MemberChoice) (client : List ℕ) (rounds : ℕ) (s : AsSent) : Type 0 where
  pub is_within : rounds_taken most limits choice client rounds s
      ≤ enough_rounds (copies_of most limits (drain_turns most limits choice client rounds s) client s)
  pub empties : EmptiesQueue most limits choice client rounds s
  pub ends : AllByRecursion (IsOfDrain client (moment_of s.world))
      (ends (course most limits (drain_turns most limits choice client rounds s) s))

-- each drain of a script from where the script has come to; a bad one does nothing
abbrev pub DrainsWhere : Most → Capacity → Doing → AsSent → Type 0
DrainsWhere most limits (happens t) s = ⊤
DrainsWhere most limits (drains choice client rounds) s =
    is_bad_drain client s.world ≡ false → DrainsAll most limits choice client rounds s

abbrev pub EachDrains : Most → Capacity → List Doing → AsSent → Type 0
EachDrains most limits [] s = ⊤
EachDrains most limits (d ∷ ds) s =
    DrainsWhere most limits d s × EachDrains most limits ds (run most limits (turns_of most limits d s) s)

-- no copy ends in a drain as too large
abbrev pub FitWhere : Most → Capacity → Doing → AsSent → Type 0
FitWhere most limits (happens t) s = ⊤
FitWhere most limits (drains choice client rounds) s =
    AllByRecursion IsNotTooLarge (ends (course most limits (turns_of most limits (drains choice client rounds) s) s))

abbrev pub AllDrainsFit : Most → Capacity → List Doing → AsSent → Type 0
AllDrainsFit most limits [] s = ⊤
AllDrainsFit most limits (d ∷ ds) s =
    FitWhere most limits d s × AllDrainsFit most limits ds (run most limits (turns_of most limits d s) s)

-- ---- a script

-- It is the run of its events and of those that its drains are made of; all holds of that run, and of each drain. No copy ends in
-- a drain as too large
pub record DoingsDeliver (most : Most) (limits : Capacity) (ds : List Doing) (s : AsSent) : Type 0 where
  pub is_run : after_doings most limits ds s ≡ run most limits (all_turns most limits ds s) s
  pub delivers : DeliversExactlyOnce most limits (all_turns most limits ds s) s
  pub drained : EachDrains most limits ds s
  pub fit : AllDrainsFit most limits ds s
