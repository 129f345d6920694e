-- What is sent over any calls and openings: each PUBLISH of QoS 1 or 2 is of a copy in the queue of the session on its line, and carries what
-- the copy's publication does (MQTT 5.0, 3.3.2, 3.3.3, 4.3).
use Rattle.std.proofs.Common.{◌≡◌, ℕ, Bool, true, false, List, [], ◌∷◌, ◌++◌, Option, Some, None, nat_eq, refl, sym, ap, subst, ◌∙◌, append_assoc}
use Rattle.std.specs.Prelude.{⊤, filter_map, flat_map}
use Rattle.std.specs.List.{AllByRecursion}
use Rattle.std.proofs.lemmas.Bool.{eqb-true}
use Rattle.std.proofs.lemmas.List.Elements.{filter_map-append}
use Rattle.mqtt_base.specs.declared.session.Phase.TheVariants.{Sent}
use Rattle.mqtt_base.specs.declared.session.Qos.{Qos}
use Rattle.mqtt_base.specs.declared.session.Qos.TheVariants as qos
use Rattle.mqtt_packet.specs.declared.codec.packet.Packet.{Packet}
use Rattle.mqtt_packet.specs.declared.codec.packet.Packet.TheVariants as packets
use Rattle.mqtt_packet.specs.declared.codec.publish.Delivery.{Delivery}
use Rattle.mqtt_packet.specs.declared.codec.publish.Delivery.TheVariants as delivery
use Rattle.mqtt_flow.specs.declared.outbound.entry.Turn.{Turn}
use Rattle.mqtt_flow.specs.declared.outbound.entry.Turn.TheVariants as turns
use Rattle.mqtt_records.specs.declared.state.session.Session.{Session}
use Rattle.mqtt_records.specs.lists.Order.{row_at}
use Rattle.mqtt_records.specs.messages.Queue.{CopyRow}
use Rattle.mqtt_records.specs.state.Session.{birth_of, copy_place}
use Rattle.mqtt_rules.specs.step.Deeds.{Deed, Leave, Mark, Went, At, On, Send, always, output, whose, with_line, with_session}
use Rattle.mqtt_rules.specs.step.Inbound.{pump_deeds}
use Rattle.mqtt_rules.specs.step.Laws.{Asked as calls, Event, IsAmong, Reopened, after_event}
use Rattle.mqtt_rules.specs.step.Fitting.{pump_turns}
use Rattle.mqtt_rules.specs.step.Numbers.{CountsOn, publication_given}
use Rattle.mqtt_rules.specs.step.Outbound.{all_turn_deeds, of_entry, turn_deeds}
use Rattle.mqtt_rules.specs.step.Packets.{delivery_by, publish_of}
use Rattle.mqtt_rules.specs.step.State.{Broker, Env, Line, line_at, session_at}
use Rattle.mqtt_rules.specs.step.Step.{BadInput, Input, Lost, NewLine, Pump, Tick, at_moment, deeds, deeds_of, env_of, on_pump, opening, unopened}
use Rattle.mqtt_rules.proofs.step_lemmas.acts.Leads.{row_among}
use Rattle.mqtt_rules.proofs.step_lemmas.fit.FitLaw.{all_among}
use Rattle.mqtt_rules.proofs.step_lemmas.numbers.Copies.{each_all, each_append, each_more}
use Rattle.mqtt_world_model.specs.model.Run.{Acceptance}
use Rattle.mqtt_world_model.proofs.model_lemmas.others.Lists.{all_find}
use Rattle.mqtt_world_laws.specs.acceptance.Fair.{IsSteady}
use Rattle.mqtt_world_laws.specs.acceptance.Steps.{Step}
use Rattle.mqtt_world_laws.specs.of_calls.Calls.{SpendNone, accepted_in, asked_at, course_of, deeds_in}
use Rattle.mqtt_world_laws.specs.of_calls.Delivery.{CarriesIts, CarriesItsOwn, IsOfItsQueue, IsSent, IsSentWith, QueuesCarry, SendsOfQueues}
use Rattle.mqtt_world_laws.proofs.delivery_lemmas.contents.Contents.{AllSaid, Keeps, Numbered, QueueSaid, RowSaid, accepted, accepted_in as accepted_by, all_said_more, keeping}
use Rattle.mqtt_world_laws.proofs.delivery_lemmas.contents.Saying.{AreBy, by_deeds, by_joined, numbered, said_carries}
use Rattle.mqtt_world_laws.proofs.delivery_lemmas.taken.Plain.{IsNoCopy, IsSilent, IsUntold, silent_deeds, silent_opening}
use Rattle.mqtt_world_laws.proofs.of_calls_lemmas.Events.{event_steady, event_walks}

abbrev Output : Type 0
Output = ℕ × Packet

-- ---- what sends no PUBLISH of QoS 1 or 2

module _ (all : List Acceptance) (b : Broker) where
  abbrev IsIts : Output → Type 0
  IsIts sent = IsSent all b sent.0 sent.1

  abbrev AreIts : List Deed → Type 0
  AreIts ds = AllByRecursion IsIts (filter_map output ds)

  untold_sent : (n : ℕ) (packet : Packet) (d : Delivery) → IsUntold d → IsSentWith all b n packet d
  untold_sent n packet delivery.AtMostOnce h = tt
  untold_sent n packet (delivery.AtLeastOnce dup id) h = absurd h
  untold_sent n packet (delivery.ExactlyOnce dup id) h = absurd h

  no_copy_sent : (n : ℕ) (packet : Packet) → IsNoCopy packet → IsSent all b n packet
  no_copy_sent n (packets.Publish p) h = untold_sent n (packets.Publish p) p.delivery h
  no_copy_sent n packet h = tt

  silent_sends : (ds : List Deed) → AllByRecursion IsSilent ds → AreIts ds
  silent_sends [] h = tt
  silent_sends (Send n packet ∷ ds) h = (no_copy_sent n packet h.0, silent_sends ds h.1)
  silent_sends (d ∷ ds) h = silent_sends ds h.1

  both_sent : (xs ys : List Deed) → AreIts xs → AreIts ys → AreIts (xs ++ ys)
  both_sent xs ys p q = subst (AllByRecursion IsIts) (sym (filter_map-append output xs ys)) (each_append IsIts (filter_map output xs) (filter_map output ys) p q)

  -- ---- a turn of sending, by the queue of the session that stands on the line

  module _ (l : Line) (birth : ℕ) (s : Session) (found : line_at l.number b ≡ Some l) (its : l.session ≡ Some birth) (stands : session_at birth b.records ≡ Some s) (carry : AllByRecursion (CarriesItsOwn all) s.queue) where
    row_sent : (place : ℕ) (e : CopyRow) (dup : Bool) (id : ℕ) → row_at copy_place place s.queue ≡ Some e → IsSent all b l.number (publish_of b.now dup id e.copy)
    row_sent place e dup id at = by e.copy.qos
      where
        among : IsAmong e s.queue
        among = row_among copy_place place e s.queue at

        it : IsOfItsQueue all b l.number (publish_of b.now dup id e.copy)
        it = record {
          line = l;
          birth = birth;
          session = s;
          row = e;
          found = found;
          its = its;
          stands = stands;
          queued = among;
          dup = dup;
          id = id;
          is = refl;
          carries = all_among (CarriesItsOwn all) e s.queue carry among;
        }

        by : (q : Qos) → IsSentWith all b l.number (publish_of b.now dup id e.copy) (delivery_by q dup id)
        by qos.AtMostOnce = tt
        by qos.AtLeastOnce = it
        by qos.ExactlyOnce = it

    entry_sent : (place : ℕ) (f : CopyRow → List Deed) (o : Option CopyRow) → row_at copy_place place s.queue ≡ o → ((e : CopyRow) → row_at copy_place place s.queue ≡ Some e → AreIts (f e)) → AreIts (of_entry o f)
    entry_sent place f None at h = tt
    entry_sent place f (Some e) at h = h e at

    turn_sent : (t : Turn) → AreIts (turn_deeds b.now l.number s t)
    turn_sent (turns.Send place id) =
        entry_sent place (λ e. At (whose s) (Mark place (Sent id)) ∷ On l.number (Went place) ∷ Send l.number (publish_of b.now false id e.copy) ∷ []) (row_at copy_place place s.queue) refl (λ e at. (row_sent place e false id at, tt))
    turn_sent (turns.Resend place id) = entry_sent place (λ e. On l.number (Went place) ∷ Send l.number (publish_of b.now true id e.copy) ∷ []) (row_at copy_place place s.queue) refl (λ e at. (row_sent place e true id at, tt))
    turn_sent (turns.Release place id order) = (tt, tt)
    turn_sent (turns.Outgrow place id order) = (tt, tt)
    turn_sent (turns.Repeat id) = (tt, tt)
    turn_sent (turns.Unknown id) = (tt, tt)
    turn_sent (turns.Leave place ending) = entry_sent place (λ e. At (whose s) (Leave e ending) ∷ []) (row_at copy_place place s.queue) refl (λ e at. tt)

    turns_sent : (ts : List Turn) → AreIts (all_turn_deeds b.now l.number s ts)
    turns_sent [] = tt
    turns_sent (t ∷ ts) = both_sent (turn_deeds b.now l.number s t) (all_turn_deeds b.now l.number s ts) (turn_sent t) (turns_sent ts)

  pump_sent : (env : Env) (n : ℕ) → QueuesCarry all b → AreIts (deeds_of env (Pump n) b)
  pump_sent env n carry = by (line_at n b) refl
    where
      same_number : (l : Line) → line_at n b ≡ Some l → line_at l.number b ≡ Some l
      same_number l at =
          let test = all_find (λ (x : Line). ⊤) (λ (x : Line). nat_eq x.number n) l b.lines (each_all (λ (x : Line). ⊤) (λ x. tt) b.lines) at in
          ap (λ (k : ℕ). line_at k b) (eqb-true l.number n test.1) ∙ at

      of_session : (l : Line) (birth : ℕ) (o : Option Session) → line_at n b ≡ Some l → l.session ≡ Some birth → session_at birth b.records ≡ o → AreIts (with_session o (λ s. always (pump_deeds l b s)) b)
      of_session l birth None at its stands = tt
      of_session l birth (Some s) at its stands =
          turns_sent l birth s (same_number l at) its stands
          (all_among (λ (x : Session). AllByRecursion (CarriesItsOwn all) x.queue) s b.records.sessions carry (row_among birth_of birth s b.records.sessions stands)) (pump_turns l b s)

      on_its : (l : Line) (o : Option ℕ) → line_at n b ≡ Some l → l.session ≡ o → AreIts (on_pump l o b)
      on_its l None at its = tt
      on_its l (Some birth) at its = of_session l birth (session_at birth b.records) at its refl

      by : (o : Option Line) → line_at n b ≡ o → AreIts (with_line o (λ l. on_pump l l.session) b)
      by None at = tt
      by (Some l) at = on_its l l.session at refl

-- ---- one step

event_sends : (all : List Acceptance) (e : Event) (b : Broker) → QueuesCarry all b → SendsOfQueues all (asked_at e b).step
event_sends all (calls limits choice now (Pump n)) b carry = pump_sent all (at_moment now b) (env_of limits choice b) n carry
event_sends all (calls limits choice now NewLine) b carry = silent_sends all (at_moment now b) (deeds limits choice now NewLine b) (silent_deeds limits choice now NewLine b tt)
event_sends all (calls limits choice now (Input n packet)) b carry = silent_sends all (at_moment now b) (deeds limits choice now (Input n packet) b) (silent_deeds limits choice now (Input n packet) b tt)
event_sends all (calls limits choice now (BadInput n is_connect code)) b carry =
    silent_sends all (at_moment now b) (deeds limits choice now (BadInput n is_connect code) b) (silent_deeds limits choice now (BadInput n is_connect code) b tt)
event_sends all (calls limits choice now (Lost n)) b carry = silent_sends all (at_moment now b) (deeds limits choice now (Lost n) b) (silent_deeds limits choice now (Lost n) b tt)
event_sends all (calls limits choice now Tick) b carry = silent_sends all (at_moment now b) (deeds limits choice now Tick b) (silent_deeds limits choice now Tick b tt)
event_sends all (Reopened limits choice now) b carry =
    let c = unopened now b.records in
    let env = env_of limits choice c in
    silent_sends all c (opening env c) (silent_opening env c)

-- ---- what queues carry, by what was accepted

-- what steps accept is by their deeds
pub steps_by : (xs : List Step) → AreBy (flat_map accepted_in xs) (flat_map deeds_in xs)
steps_by [] = tt
steps_by (x ∷ xs) = by_joined (accepted_in x) (flat_map accepted_in xs) x.deeds (flat_map deeds_in xs) (by_deeds x.env x.deeds x.broker) (steps_by xs)

module _ (base last : ℕ) (ds : List Deed) (counted : CountsOn base (filter_map publication_given ds) last) (all : List Acceptance) (by : AreBy all ds) where
  row_carries : (e : CopyRow) → RowSaid base (accepted ds) e → CarriesItsOwn all e
  row_carries e h =
      each_more (λ (a : Acceptance). IsAmong (numbered a) (accepted ds)) (CarriesIts e.copy)
      (λ a by_one its. said_carries base last ds counted a by_one e.copy.id.publication e.copy.content.topic e.copy.content.payload h its) all by

  -- what is said of queues is what they carry
  pub queues_carry : (b : Broker) → AllSaid base (accepted ds) b.records → QueuesCarry all b
  queues_carry b h = each_more (QueueSaid base (accepted ds)) (λ (s : Session). AllByRecursion (CarriesItsOwn all) s.queue) (λ s q. each_more (RowSaid base (accepted ds)) (CarriesItsOwn all) row_carries s.queue q) b.records.sessions h.queues

  -- ---- over all events

  -- each step sends by what queues carry
  pub sends_so : (es : List Event) (b : Broker) (xs : List Numbered) → SpendNone es b → IsSteady b → AllSaid base xs b.records → xs ++ accepted (course_of es b).deeds ≡ accepted ds
      → AllByRecursion (SendsOfQueues all) (course_of es b).steps
  sends_so [] b xs fair s said whole = tt
  sends_so (e ∷ es) b xs fair s said whole =
      let c = after_event e b in
      let first = (asked_at e b).step.deeds in
      let rest = (course_of es c).deeds in
      let here : AllSaid base (accepted ds) b.records = subst (λ (ns : List Numbered). AllSaid base ns b.records) whole (all_said_more base xs (accepted (first ++ rest)) b.records said) in (
        event_sends all e b (queues_carry b here),
        sends_so es c (xs ++ accepted first) fair.1 (event_steady e b fair.0 s) (event_walks (Keeps base) (λ limits within. keeping base limits) e b fair.0 s xs said)
            (append_assoc xs (accepted first) (accepted rest) ∙ (ap (λ (ns : List Numbered). xs ++ ns) (sym (filter_map-append accepted_by first rest)) ∙ whole)),
      )
