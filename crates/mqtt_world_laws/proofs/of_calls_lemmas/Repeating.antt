-- A turn of sending sends what waits for the first time, and what is in flight again, if it did not go out on that line (MQTT 5.0, 3.3.1.1,
-- 4.3, 4.4).
use Rattle.std.proofs.Common.{◌≡◌, ℕ, zero, suc, Bool, true, false, List, [], ◌∷◌, ◌++◌, map, nat_eq, Option, Some, None, refl, sym, ap, subst, ◌∙◌, arith, inl, inr}
use Rattle.std.specs.Prelude.{⊤, filter_map}
use Rattle.std.specs.List.{AllByRecursion}
use Rattle.std.proofs.lemmas.Bool.{eqb-true}
use Rattle.std.proofs.lemmas.List.Elements.{filter_map-append}
use Rattle.mqtt_base.specs.declared.session.CopyId.{CopyId}
use Rattle.mqtt_base.specs.declared.session.Phase.{Phase}
use Rattle.mqtt_base.specs.declared.session.Phase.TheVariants.{Oversize, Released, Sent, Waiting}
use Rattle.mqtt_base.specs.declared.session.Qos.{Qos}
use Rattle.mqtt_base.specs.declared.session.Qos.TheVariants as qos
use Rattle.mqtt_packet.specs.declared.codec.packet.Packet.{Packet}
use Rattle.mqtt_packet.specs.declared.codec.packet.Packet.TheVariants as packets
use Rattle.mqtt_packet.specs.declared.codec.publish.Delivery.{Delivery}
use Rattle.mqtt_packet.specs.declared.codec.publish.Delivery.TheVariants as delivery
use Rattle.mqtt_flow.specs.declared.outbound.entry.Entry.{Entry as FlowEntry}
use Rattle.mqtt_flow.specs.declared.outbound.entry.Turn.{Turn}
use Rattle.mqtt_flow.specs.declared.outbound.entry.Turn.TheVariants as turns
use Rattle.mqtt_flow.specs.declared.outbound.entry.Way.{Way}
use Rattle.mqtt_flow.specs.inbound.Identifiers.{is_among}
use Rattle.mqtt_flow.specs.outbound.Outbound.{Verdict, end, first_time, in_room, is_large, is_late, once_more, outgrow, pace, paced, pass, pump, pump_from, resend, send, step_by, step_on, then_on, too_large, verdict, verdict_by}
use Rattle.mqtt_flow.specs.outbound.Pacing.{Pacing}
use Rattle.mqtt_flow.specs.inbound.Identifiers.{free_identifier}
use Rattle.mqtt_records.specs.declared.state.session.Session.{Session}
use Rattle.mqtt_records.specs.lists.Order.{IsAscending, row_at}
use Rattle.mqtt_records.specs.messages.Queue.{CopyRow}
use Rattle.mqtt_records.specs.state.Session.{birth_of, copy_place}
use Rattle.mqtt_rules.specs.step.Deeds.{Deed, Leave, Mark, Went, At, On, Send, always, output, whose, with_line, with_session}
use Rattle.mqtt_rules.specs.step.Fitting.{fitted, pump_turns, size_at, sized}
use Rattle.mqtt_rules.specs.step.Inbound.{pump_deeds}
use Rattle.mqtt_rules.specs.step.Laws.{Asked as calls, Event, IsAmong, Reopened, after_event}
use Rattle.mqtt_rules.specs.step.Outbound.{all_turn_deeds, of_entry, turn_deeds, way_of}
use Rattle.mqtt_rules.specs.step.Packets.{delivery_by, publish_of}
use Rattle.mqtt_rules.specs.step.State.{Broker, Env, Line, line_at, session_at, told_on}
use Rattle.mqtt_rules.specs.step.Step.{BadInput, Input, Lost, NewLine, Pump, Tick, at_moment, deeds, deeds_of, env_of, on_pump, opening, unopened}
use Rattle.mqtt_rules.proofs.step_lemmas.fit.FitLaw.{all_among}
use Rattle.mqtt_rules.proofs.step_lemmas.fit.StandLaw.{Orders, rising}
use Rattle.mqtt_rules.proofs.step_lemmas.flight.FlightRows.{all_found, found_key}
use Rattle.mqtt_rules.proofs.step_lemmas.numbers.Copies.{each_all, each_append, kinds}
use Rattle.mqtt_world_model.proofs.model_lemmas.others.Lists.{all_find}
use Rattle.mqtt_world_laws.specs.acceptance.Fair.{IsSteady}
use Rattle.mqtt_world_laws.specs.of_calls.Again.{IsDue, IsInTurn, IsMarked, IsRepeated, IsRepeatedWith, RepeatsByPhase, SendsAgain, WaitsNoMore}
use Rattle.mqtt_world_laws.specs.of_calls.Calls.{BeginsInOrder, SpendNone, SpendsNone, asked_at, course_of}
use Rattle.mqtt_world_laws.proofs.delivery_lemmas.taken.Plain.{IsNoCopy, IsSilent, IsUntold, silent_deeds, silent_opening}
use Rattle.mqtt_world_laws.proofs.of_calls_lemmas.Entering.{kept}
use Rattle.mqtt_world_laws.proofs.of_calls_lemmas.Events.{each_step, event_steady, event_walks}
use Rattle.mqtt_world_laws.proofs.unsent_lemmas.Rows.{AreSent, IsSent, QueueSent}
use Rattle.mqtt_world_laws.proofs.unsent_lemmas.Walks.{Goes, IsGone, goes}
use Rattle.mqtt_world_laws.proofs.acceptance_lemmas.copies.Entries.{U}
use Rattle.mqtt_world_laws.specs.acceptance.Identities.{may_come}
use Rattle.mqtt_rules.proofs.step_lemmas.acts.Leads.{row_among}

abbrev Output : Type 0
Output = ℕ × Packet

-- ---- the turns of a pump

-- of a copy of these: one that waits is sent first, one that was sent and not on this line again, under its identifier
record IsFirstOf (whole : List FlowEntry) (place : ℕ) : Type 0 where
  entry : FlowEntry
  among : IsAmong entry whole
  place_is : entry.place ≡ place
  waits : entry.phase ≡ Waiting

record IsAgainOf (whole : List FlowEntry) (place id : ℕ) : Type 0 where
  entry : FlowEntry
  among : IsAmong entry whole
  place_is : entry.place ≡ place
  sent : entry.phase ≡ Sent id
  apart : entry.here ≡ false

abbrev IsTurnOf : List FlowEntry → Turn → Type 0
IsTurnOf whole (turns.Send place id) = IsFirstOf whole place
IsTurnOf whole (turns.Resend place id) = IsAgainOf whole place id
IsTurnOf whole t = ⊤

module _ (way : Way) (whole : List FlowEntry) where
  abbrev AreTurns : List Turn → Type 0
  AreTurns ts = AllByRecursion (IsTurnOf whole) ts

  -- what a pump has for a copy
  abbrev IsFor : FlowEntry → Verdict → Type 0
  IsFor e pass = ⊤
  IsFor e (end ending) = ⊤
  IsFor e (outgrow i) = ⊤
  IsFor e send = e.phase ≡ Waiting
  IsFor e (resend i) = (e.phase ≡ Sent i) × (e.here ≡ false)

  for_first : (e : FlowEntry) (late large : Bool) → e.phase ≡ Waiting → IsFor e (first_time late large)
  for_first e true large is = tt
  for_first e false true is = tt
  for_first e false false is = is

  for_large : (e : FlowEntry) (q : Qos) (i : ℕ) → IsFor e (too_large q i)
  for_large e qos.AtMostOnce i = tt
  for_large e qos.AtLeastOnce i = tt
  for_large e qos.ExactlyOnce i = tt

  for_again : (e : FlowEntry) (here large : Bool) (q : Qos) (i : ℕ) → e.phase ≡ Sent i → e.here ≡ here → IsFor e (once_more here large q i)
  for_again e true large q i is at = tt
  for_again e false true q i is at = for_large e q i
  for_again e false false q i is at = (is, at)

  for_phase : (e : FlowEntry) (here : Bool) (phase : Phase) → e.phase ≡ phase → e.here ≡ here → IsFor e (verdict_by way e.copy here phase)
  for_phase e here Waiting is at = for_first e (is_late way.now e.copy) (is_large way e.copy) is
  for_phase e here (Sent i) is at = for_again e here (is_large way e.copy) e.copy.qos i is at
  for_phase e here (Released i order) is at = tt
  for_phase e here (Oversize i order) is at = tt

  in_room_of : (room : ℕ) (t : Turn) (phase : Phase) (p : Pacing) (rest : Pacing → List Turn) → IsTurnOf whole t → ((q : Pacing) → AreTurns (rest q)) → AreTurns (then_on (in_room room t) phase p rest)
  in_room_of zero t phase p rest its h = tt
  in_room_of (suc room) t phase p rest its h = (its, h (paced t phase p))

  on_verdict : (v : Verdict) (e : FlowEntry) (p : Pacing) (rest : Pacing → List Turn) → IsAmong e whole → IsFor e v → ((q : Pacing) → AreTurns (rest q)) → AreTurns (then_on (step_on v e.place p) e.phase p rest)
  on_verdict pass e p rest among its h = h p
  on_verdict (end ending) e p rest among its h = (tt, h (paced (turns.Leave e.place ending) e.phase p))
  on_verdict (outgrow i) e p rest among its h = (tt, h (paced (turns.Outgrow e.place i p.order) e.phase p))
  on_verdict send e p rest among its h = in_room_of p.room (turns.Send e.place (free_identifier p.used)) e.phase p rest (record { entry = e; among = among; place_is = refl; waits = its }) h
  on_verdict (resend i) e p rest among its h = in_room_of p.room (turns.Resend e.place i) e.phase p rest (record { entry = e; among = among; place_is = refl; sent = its.0; apart = its.1 }) h

  by_left : (left : ℕ) (v : Verdict) (e : FlowEntry) (p : Pacing) (rest : Pacing → List Turn) → IsAmong e whole → IsFor e v → ((q : Pacing) → AreTurns (rest q)) → AreTurns (then_on (step_by left v e.place p) e.phase p rest)
  by_left zero v e p rest among its h = tt
  by_left (suc left) v e p rest among its h = on_verdict v e p rest among its h

  turns_from : (es : List FlowEntry) (p : Pacing) → AllByRecursion (λ (e : FlowEntry). IsAmong e whole) es → AreTurns (pump_from way es p)
  turns_from [] p h = tt
  turns_from (e ∷ es) p h = by_left p.left (verdict way e) e p (pump_from way es) h.0 (for_phase e e.here e.phase refl refl) (λ q. turns_from es q h.1)

-- ---- each is among its own

more_among : {X : Type 0} (x : X) (xs ys : List X) → AllByRecursion (λ (y : X). IsAmong y xs) ys → AllByRecursion (λ (y : X). IsAmong y (x ∷ xs)) ys
more_among x xs [] h = tt
more_among x xs (y ∷ ys) h = (inr h.0, more_among x xs ys h.1)

each_its : {X : Type 0} (xs : List X) → AllByRecursion (λ (x : X). IsAmong x xs) xs
each_its [] = tt
each_its (x ∷ xs) = (inl refl, more_among x xs xs (each_its xs))

pump_turns_of : (way : Way) (queue : List FlowEntry) → AllByRecursion (IsTurnOf queue) (pump way queue)
pump_turns_of way queue = turns_from way queue queue (pace way queue) (each_its queue)

among_mapped : {X Y : Type 0} (f : X → Y) (y : Y) (xs : List X) → IsAmong y (map f xs) → (x : X) × (IsAmong x xs × (f x ≡ y))
among_mapped f y [] h = absurd h
among_mapped f y (x ∷ xs) (inl is) = (x, (inl refl, is))
among_mapped f y (x ∷ xs) (inr more) = let z = among_mapped f y xs more in (z.0, (inr z.1.0, z.1.1))

in_first : {X : Type 0} (x : X) (xs ys : List X) → IsAmong x xs → IsAmong x (xs ++ ys)
in_first x [] ys h = absurd h
in_first x (y ∷ xs) ys (inl is) = inl is
in_first x (y ∷ xs) ys (inr h) = inr (in_first x xs ys h)

in_rest : {X : Type 0} (x : X) (xs ys : List X) → IsAmong x ys → IsAmong x (xs ++ ys)
in_rest x [] ys h = h
in_rest x (y ∷ xs) ys h = inr (in_rest x xs ys h)

-- ---- what sends no PUBLISH of QoS 1 or 2

module _ (b : Broker) (whole : List Deed) where
  abbrev IsIts : Output → Type 0
  IsIts sent = IsRepeated sent.0 sent.1 whole b

  abbrev AreIts : List Deed → Type 0
  AreIts ds = AllByRecursion IsIts (filter_map output ds)

  untold_sent : (n : ℕ) (packet : Packet) (d : Delivery) → IsUntold d → IsRepeatedWith n packet d whole b
  untold_sent n packet delivery.AtMostOnce h = tt
  untold_sent n packet (delivery.AtLeastOnce dup id) h = absurd h
  untold_sent n packet (delivery.ExactlyOnce dup id) h = absurd h

  no_copy_sent : (n : ℕ) (packet : Packet) → IsNoCopy packet → IsRepeated n packet whole b
  no_copy_sent n (packets.Publish p) h = untold_sent n (packets.Publish p) p.delivery h
  no_copy_sent n packet h = tt

  silent_sends : (ds : List Deed) → AllByRecursion IsSilent ds → AreIts ds
  silent_sends [] h = tt
  silent_sends (Send n packet ∷ ds) h = (no_copy_sent n packet h.0, silent_sends ds h.1)
  silent_sends (d ∷ ds) h = silent_sends ds h.1

  both_sent : (xs ys : List Deed) → AreIts xs → AreIts ys → AreIts (xs ++ ys)
  both_sent xs ys p q = subst (AllByRecursion IsIts) (sym (filter_map-append output xs ys)) (each_append IsIts (filter_map output xs) (filter_map output ys) p q)

  -- ---- a turn of sending, by the queue of the session that stands on the line

  module _ (l : Line) (birth : ℕ) (s : Session) (found : line_at l.number b ≡ Some l) (its : l.session ≡ Some birth) (stands : session_at birth b.records ≡ Some s) (places : IsAscending copy_place s.queue) (size : CopyRow → ℕ) where
    row_sent : (e : CopyRow) (dup : Bool) (id : ℕ) → IsAmong e s.queue → IsDue e.phase (is_among e.place l.went) dup id → IsMarked e.phase (whose s) e.place id whole → IsAmong (On l.number (Went e.place)) whole
        → IsRepeated l.number (publish_of b.now dup id e.copy) whole b
    row_sent e dup id among due marked went = by e.copy.qos
      where
        it : IsInTurn l.number (publish_of b.now dup id e.copy) whole b
        it = record {
          copy = record { line = l; birth = birth; session = s; row = e; found = found; its = its; stands = stands; queued = among };
          dup = dup;
          id = id;
          is = refl;
          due = due;
          marked = marked;
          went = went;
        }

        by : (q : Qos) → IsRepeatedWith l.number (publish_of b.now dup id e.copy) (delivery_by q dup id) whole b
        by qos.AtMostOnce = tt
        by qos.AtLeastOnce = it
        by qos.ExactlyOnce = it

    -- the row of an entry stands at its place
    row_there : (e : CopyRow) → IsAmong e s.queue → row_at copy_place e.place s.queue ≡ Some e
    row_there e among = all_among (λ (x : CopyRow). row_at copy_place (copy_place x) s.queue ≡ Some x) e s.queue (all_found copy_place s.queue places) among

    due_first : (e : CopyRow) (id : ℕ) → e.phase ≡ Waiting → IsDue e.phase (is_among e.place l.went) false id
    due_first e id is = subst (λ (phase : Phase). IsDue phase (is_among e.place l.went) false id) (sym is) refl

    due_again : (e : CopyRow) (id : ℕ) → e.phase ≡ Sent id → is_among e.place l.went ≡ false → IsDue e.phase (is_among e.place l.went) true id
    due_again e id is apart = subst (λ (phase : Phase). IsDue phase (is_among e.place l.went) true id) (sym is) (apart, (refl, refl))

    marked_first : (e : CopyRow) (id : ℕ) → e.phase ≡ Waiting → IsAmong (At (whose s) (Mark e.place (Sent id))) whole → IsMarked e.phase (whose s) e.place id whole
    marked_first e id is there = subst (λ (phase : Phase). IsMarked phase (whose s) e.place id whole) (sym is) there

    marked_again : (e : CopyRow) (id : ℕ) → e.phase ≡ Sent id → IsMarked e.phase (whose s) e.place id whole
    marked_again e id is = subst (λ (phase : Phase). IsMarked phase (whose s) e.place id whole) (sym is) tt

    entry_sent : (f : CopyRow → List Deed) (o : Option CopyRow) (e : CopyRow) → o ≡ Some e → ((d : Deed) → IsAmong d (of_entry o f) → IsAmong d whole) → (((d : Deed) → IsAmong d (f e) → IsAmong d whole) → AreIts (f e)) → AreIts (of_entry o f)
    entry_sent f o e is within h =
        let its : (d : Deed) → IsAmong d (f e) → IsAmong d whole = λ d in_. within d (subst (λ (x : Option CopyRow). IsAmong d (of_entry x f)) (sym is) in_) in
        subst (λ (x : Option CopyRow). AreIts (of_entry x f)) (sym is) (h its)

    turn_sent : (t : Turn) → IsTurnOf (map (sized size l.went) s.queue) t → ((d : Deed) → IsAmong d (turn_deeds b.now l.number s t) → IsAmong d whole) → AreIts (turn_deeds b.now l.number s t)
    turn_sent (turns.Send place id) h within =
        let x = among_mapped (sized size l.went) h.entry s.queue h.among in
        let row = x.0 in
        let at : row.place ≡ place = ap (λ (e : FlowEntry). e.place) x.1.1 ∙ h.place_is in
        let waits : row.phase ≡ Waiting = ap (λ (e : FlowEntry). e.phase) x.1.1 ∙ h.waits in
        entry_sent (λ e. At (whose s) (Mark place (Sent id)) ∷ On l.number (Went place) ∷ Send l.number (publish_of b.now false id e.copy) ∷ []) (row_at copy_place place s.queue) row
        (ap (λ (k : ℕ). row_at copy_place k s.queue) (sym at) ∙ row_there row x.1.0) within
        (λ its.
        let marked = subst (λ (k : ℕ). IsAmong (At (whose s) (Mark k (Sent id))) whole) (sym at) (its (At (whose s) (Mark place (Sent id))) (inl refl)) in
        let went = subst (λ (k : ℕ). IsAmong (On l.number (Went k)) whole) (sym at) (its (On l.number (Went place)) (inr (inl refl))) in
        (row_sent row false id x.1.0 (due_first row id waits) (marked_first row id waits marked) went, tt))
    turn_sent (turns.Resend place id) h within =
        let x = among_mapped (sized size l.went) h.entry s.queue h.among in
        let row = x.0 in
        let at : row.place ≡ place = ap (λ (e : FlowEntry). e.place) x.1.1 ∙ h.place_is in
        let sent : row.phase ≡ Sent id = ap (λ (e : FlowEntry). e.phase) x.1.1 ∙ h.sent in
        let apart : is_among row.place l.went ≡ false = ap (λ (e : FlowEntry). e.here) x.1.1 ∙ h.apart in
        entry_sent (λ e. On l.number (Went place) ∷ Send l.number (publish_of b.now true id e.copy) ∷ []) (row_at copy_place place s.queue) row
        (ap (λ (k : ℕ). row_at copy_place k s.queue) (sym at) ∙ row_there row x.1.0) within
        (λ its.
        let went = subst (λ (k : ℕ). IsAmong (On l.number (Went k)) whole) (sym at) (its (On l.number (Went place)) (inl refl)) in
        (row_sent row true id x.1.0 (due_again row id sent apart) (marked_again row id sent) went, tt))
    turn_sent (turns.Release place id order) h within = (tt, tt)
    turn_sent (turns.Outgrow place id order) h within = (tt, tt)
    turn_sent (turns.Repeat id) h within = (tt, tt)
    turn_sent (turns.Unknown id) h within = (tt, tt)
    turn_sent (turns.Leave place ending) h within = by (row_at copy_place place s.queue)
      where
        by : (o : Option CopyRow) → AreIts (of_entry o (λ e. At (whose s) (Leave e ending) ∷ []))
        by None = tt
        by (Some e) = tt

    turns_sent : (ts : List Turn) → AllByRecursion (IsTurnOf (map (sized size l.went) s.queue)) ts → ((d : Deed) → IsAmong d (all_turn_deeds b.now l.number s ts) → IsAmong d whole) → AreIts (all_turn_deeds b.now l.number s ts)
    turns_sent [] h within = tt
    turns_sent (t ∷ ts) h within =
        let first = turn_deeds b.now l.number s t in
        let rest = all_turn_deeds b.now l.number s ts in
        both_sent first rest (turn_sent t h.0 (λ d in_. within d (in_first d first rest in_))) (turns_sent ts h.1 (λ d in_. within d (in_rest d first rest in_)))

  pump_sent : (env : Env) (n : ℕ) → Orders b → ((d : Deed) → IsAmong d (deeds_of env (Pump n) b) → IsAmong d whole) → AreIts (deeds_of env (Pump n) b)
  pump_sent env n ordered within = by (line_at n b) refl within
    where
      same_number : (l : Line) → line_at n b ≡ Some l → line_at l.number b ≡ Some l
      same_number l at =
          let test = all_find (λ (x : Line). ⊤) (λ (x : Line). nat_eq x.number n) l b.lines (each_all (λ (x : Line). ⊤) (λ x. tt) b.lines) at in
          ap (λ (k : ℕ). line_at k b) (eqb-true l.number n test.1) ∙ at

      ascends : (birth : ℕ) (s : Session) → session_at birth b.records ≡ Some s → IsAscending copy_place s.queue
      ascends birth s stands = rising s b ordered (ap (λ (k : ℕ). session_at k b.records) (found_key birth_of birth s b.records.sessions stands) ∙ stands)

      of_session : (l : Line) (birth : ℕ) (o : Option Session) → line_at n b ≡ Some l → l.session ≡ Some birth → session_at birth b.records ≡ o → ((d : Deed) → IsAmong d (with_session o (λ s. always (pump_deeds l b s)) b) → IsAmong d whole) → AreIts (with_session o (λ s. always (pump_deeds l b s)) b)
      of_session l birth None at its stands in_all = tt
      of_session l birth (Some s) at its stands in_all =
          let size = size_at (fitted l b.now (told_on l.number b.tellings) s.queue) in
          turns_sent l birth s (same_number l at) its stands (ascends birth s stands) size (pump_turns l b s) (pump_turns_of (way_of l b.now) (map (sized size l.went) s.queue)) in_all

      on_its : (l : Line) (o : Option ℕ) → line_at n b ≡ Some l → l.session ≡ o → ((d : Deed) → IsAmong d (on_pump l o b) → IsAmong d whole) → AreIts (on_pump l o b)
      on_its l None at its in_all = tt
      on_its l (Some birth) at its in_all = of_session l birth (session_at birth b.records) at its refl in_all

      by : (o : Option Line) → line_at n b ≡ o → ((d : Deed) → IsAmong d (with_line o (λ l. on_pump l l.session) b) → IsAmong d whole) → AreIts (with_line o (λ l. on_pump l l.session) b)
      by None at in_all = tt
      by (Some l) at in_all = on_its l l.session at refl in_all

-- ---- each step, and all

event_repeats : (e : Event) (b : Broker) → SpendsNone e b → IsSteady b → RepeatsByPhase (asked_at e b).step
event_repeats (calls limits choice now (Pump n)) b fair s = pump_sent (at_moment now b) (deeds limits choice now (Pump n) b) (env_of limits choice b) n s.coherent.ordered (λ d in_. in_)
event_repeats (calls limits choice now NewLine) b fair s = silent_sends (at_moment now b) (deeds limits choice now NewLine b) (deeds limits choice now NewLine b) (silent_deeds limits choice now NewLine b tt)
event_repeats (calls limits choice now (Input n packet)) b fair s =
    let ds = deeds limits choice now (Input n packet) b in silent_sends (at_moment now b) ds ds (silent_deeds limits choice now (Input n packet) b tt)
event_repeats (calls limits choice now (BadInput n is_connect code)) b fair s =
    let ds = deeds limits choice now (BadInput n is_connect code) b in silent_sends (at_moment now b) ds ds (silent_deeds limits choice now (BadInput n is_connect code) b tt)
event_repeats (calls limits choice now (Lost n)) b fair s = let ds = deeds limits choice now (Lost n) b in silent_sends (at_moment now b) ds ds (silent_deeds limits choice now (Lost n) b tt)
event_repeats (calls limits choice now Tick) b fair s = let ds = deeds limits choice now Tick b in silent_sends (at_moment now b) ds ds (silent_deeds limits choice now Tick b tt)
event_repeats (Reopened limits choice now) b fair s =
    let c = unopened now b.records in
    let env = env_of limits choice c in
    silent_sends c (opening env c) (opening env c) (silent_opening env c)

-- each PUBLISH of QoS 1 or 2 over any calls is due by its copy's phase
pub all_repeat : (es : List Event) (b : Broker) → BeginsInOrder b → SpendNone es b → AllByRecursion RepeatsByPhase (course_of es b).steps
all_repeat es b begins fair = each_step RepeatsByPhase event_repeats es b fair begins.steady

-- ---- a copy that went out never goes out with DUP 0

module _ (copy : CopyId) where
  due_dup : (phase : Phase) (went dup : Bool) (id : ℕ) → (phase ≡ Waiting → ⊥) → IsDue phase went dup id → dup ≡ true
  due_dup Waiting went dup id sent due = absurd (sent refl)
  due_dup (Sent i) went dup id sent due = due.1.0
  due_dup (Released i order) went dup id sent due = absurd due
  due_dup (Oversize i order) went dup id sent due = absurd due

  sent_again : (c : Broker) (ds : List Deed) → AreSent copy c.records.sessions → (sent : Output) → (z : IsInTurn sent.0 sent.1 ds c) → z.copy.row.copy.id ≡ copy → z.dup ≡ true
  sent_again c ds out sent z its =
      let queue = all_among (QueueSent copy) z.copy.session c.records.sessions out (row_among birth_of z.copy.birth z.copy.session c.records.sessions z.copy.stands) in
      let row = all_among (IsSent copy) z.copy.row z.copy.session.queue queue z.copy.queued in
      due_dup z.copy.row.phase (is_among z.copy.row.place z.copy.line.went) z.dup z.id (row its) z.due

  step_again : (e : Event) (b : Broker) → AreSent copy b.records.sessions → SendsAgain copy (asked_at e b).step
  step_again (calls limits choice now call) b out =
      let ds = deeds limits choice now call b in
      each_all (λ (sent : Output). (z : IsInTurn sent.0 sent.1 ds (at_moment now b)) → z.copy.row.copy.id ≡ copy → z.dup ≡ true) (sent_again (at_moment now b) ds out) (filter_map output ds)
  step_again (Reopened limits choice now) b out =
      let c = unopened now b.records in
      let ds = opening (env_of limits choice c) c in
      each_all (λ (sent : Output). (z : IsInTurn sent.0 sent.1 ds c) → z.copy.row.copy.id ≡ copy → z.dup ≡ true) (sent_again c ds out) (filter_map output ds)

  steps_again : (es : List Event) (b : Broker) → SpendNone es b → IsSteady b → IsGone copy b → AllByRecursion (SendsAgain copy) (course_of es b).steps
  steps_again [] b fair s gone = tt
  steps_again (e ∷ es) b fair s gone =
      (step_again e b gone.sent, steps_again es (after_event e b) fair.1 (event_steady e b fair.0 s) (event_walks (Goes copy) (λ limits within. goes copy limits) e b fair.0 s gone).0)

  gone : (b : Broker) → BeginsInOrder b → WaitsNoMore copy b.records → IsGone copy b
  gone b begins h = record { sent = h.gone_out; kept = kept [] b begins tt; come = by (may_come copy b.records) refl }
    where
      by : (t : Bool) → may_come copy b.records ≡ t → U copy (kinds b.records) ≡ 0
      by true e = let none = begins.apart.numbered copy e in let some = h.stands in absurd (omega (arith, none, some))
      by false e = rw e refl

  -- whatever is called
  pub all_again : (es : List Event) (b : Broker) → BeginsInOrder b → SpendNone es b → WaitsNoMore copy b.records → AllByRecursion (SendsAgain copy) (course_of es b).steps
  all_again es b begins fair h = steps_again es b fair begins.steady (gone b begins h)
