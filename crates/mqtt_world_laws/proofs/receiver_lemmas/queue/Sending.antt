-- The broker sends what waits for a receiver that is connected: what it sees of that is a pump of its hop.
use Rattle.std.proofs.Common.{◌≡◌, ℕ, ◌≤◌, true, false, List, [], ◌∷◌, ◌++◌, map, Option, Some, None, refl, sym, ap, subst, ◌∙◌, arith}
use Rattle.std.specs.Prelude.{filter_map, is_some, option_map}
use Rattle.std.specs.List.{AllByRecursion}
use Rattle.mqtt_base.specs.declared.session.CopyId.{CopyId}
use Rattle.mqtt_base.specs.declared.session.Qos.{Qos}
use Rattle.mqtt_base.specs.declared.session.Qos.TheVariants.{AtMostOnce, AtLeastOnce, ExactlyOnce}
use Rattle.mqtt_flow.specs.outbound.Outbound as rules
use Rattle.mqtt_flow.specs.outbound.OutboundWorld.{Lot, World as Hop, is_granted, past, pump, queue_of, standing, start, step, take_turns}
use Rattle.mqtt_flow.specs.declared.outbound.entry.Turn.{Turn}
use Rattle.mqtt_flow.proofs.outbound_lemmas.outbound.ReceiverReads.{begins}
use Rattle.mqtt_flow.proofs.outbound_lemmas.outbound.SessionQueues.{AllFit, IsGranted}
use Rattle.mqtt_flow.proofs.outbound_lemmas.outbound.SessionSteps.{run_leads, sound_start}
use Rattle.mqtt_world_model.specs.model.Ends.{Receiver}
use Rattle.mqtt_world_model.specs.model.Hops.{IsOnly}
use Rattle.mqtt_world_model.specs.model.Lines.{is_one_of, sent_to}
use Rattle.mqtt_world_model.proofs.model_lemmas.others.Names.{only_deeds}
use Rattle.mqtt_world_model.proofs.model_lemmas.others.Quiet.{session_on}
use Rattle.mqtt_world_model.proofs.model_lemmas.seats.Seeing.{done_lines, done_sessions, linked_of}
use Rattle.mqtt_records.specs.messages.Queue.{CopyRow}
use Rattle.mqtt_records.specs.state.Session.{birth_of, copy_place}
use Rattle.mqtt_records.specs.declared.state.session.Session.{Session}
use Rattle.mqtt_records.specs.lists.Order.{row_at}
use Rattle.mqtt_rules.proofs.step_lemmas.flight.FlightRows.{all_at, all_found}
use Rattle.mqtt_rules.proofs.step_lemmas.flight.FlightStep.{step_keeps}
use Rattle.mqtt_rules.specs.step.Deeds.{Deed, after_all, closing, output, rows_of_all, with_line, with_session}
use Rattle.mqtt_rules.specs.step.Flight.{HasDistinctIdentifiers, IsFlight}
use Rattle.mqtt_rules.specs.step.Inbound.{pump_deeds}
use Rattle.mqtt_rules.specs.step.Outbound.{all_turn_deeds, way_of}
use Rattle.mqtt_rules.specs.step.State.{Line as BrokerLine, Broker, MemberChoice, line_at, queue_on, session_at}
use Rattle.mqtt_rules.specs.step.Step.{Pump, at_moment, deeds, on_pump, stepped}
use Rattle.mqtt_rules.specs.declared.step.Capacity.{Capacity}
use Rattle.mqtt_rules.specs.whole.Whole.{FitsWhole}
use Rattle.mqtt_rules.proofs.whole_lemmas.WholePumps.{whole_pump}
use Rattle.mqtt_world_laws.specs.receiver.Calls.{receiver_called}
use Rattle.mqtt_world_laws.specs.receiver.Entering.{AreKnown, Receives}
use Rattle.mqtt_world_laws.specs.receiver.Handing.{IsListening, IsRun, RunsOn}
use Rattle.mqtt_world_laws.specs.receiver.Seen.{Numbering, StandOn, heard_in, lot_on, seen, still_standing, went_in}
use Rattle.mqtt_world_laws.specs.receiver.Tags.{IsTagged, id_of}
use Rattle.mqtt_world_laws.proofs.receiver_lemmas.own.Answering.{its_went, linked_now, named_now, standing_by, went_now}
use Rattle.mqtt_world_laws.proofs.receiver_lemmas.others.Calling.{Makes, called_queue, called_seen, called_tags, finds, hop_called, inside_begins, inside_closes, inside_turns}
use Rattle.mqtt_world_laws.proofs.receiver_lemmas.queue.Follows.{Follows, runs_follow}
use Rattle.mqtt_world_laws.proofs.receiver_lemmas.queue.Known.{receives_after}
use Rattle.mqtt_world_laws.proofs.receiver_lemmas.queue.Marks.{lots_by, outputs_of, turns_made}
use Rattle.mqtt_world_laws.proofs.receiver_lemmas.queue.Pumps.{Finds, Goes, IsRowGranted, Tracks, pump_goes}
use Rattle.mqtt_world_laws.proofs.receiver_lemmas.queue.Turns.{same_entries}

-- ---- the copies of a queue have QoS 1 or 2, since no other entered the hop

granted_qos : (qos : Qos) → IsGranted qos → is_granted qos ≡ true
granted_qos AtMostOnce h = absurd h
granted_qos AtLeastOnce h = refl
granted_qos ExactlyOnce h = refl

abbrev IsLotGranted : Lot → Type 0
IsLotGranted (standing e m) = is_granted e.copy.qos ≡ true
IsLotGranted (past ending e m) = Unit {0}

granted_lots : (largest : ℕ) (lots : List Lot) → AllFit largest lots → AllByRecursion IsLotGranted (still_standing lots)
granted_lots largest [] h = tt
granted_lots largest (standing e m ∷ ls) h = (granted_qos e.copy.qos h.0.0, granted_lots largest ls h.1)
granted_lots largest (past ending e m ∷ ls) h = granted_lots largest ls h.1

granted_rows : (went : List ℕ) (queue : List CopyRow) → AllByRecursion IsLotGranted (map (lot_on went) queue) → AllByRecursion IsRowGranted queue
granted_rows went [] h = tt
granted_rows went (e ∷ es) h = (h.0, granted_rows went es h.1)

-- queued copies are of QoS 1 or 2
pub queue_granted : (number : Numbering) (largest : ℕ) (copies : List Lot) (went : List ℕ) (queue : List CopyRow) (r : Receiver) (b : Broker) → IsRun number largest copies r b
    → still_standing copies ≡ map (lot_on went) queue → AllByRecursion IsRowGranted queue
queue_granted number largest copies went queue r b h still =
    let fit : AllFit largest copies = subst (λ (w : Hop). AllFit largest w.copies) (sym h.seen_is) (run_leads largest h.events start (sound_start largest) begins).sound.fit in
    granted_rows went queue (subst (AllByRecursion IsLotGranted) still (granted_lots largest copies fit))

-- ---- the step

-- a pump's deeds are those of its turns
pub pump_is : (limits : Capacity) (choice : MemberChoice) (now : ℕ) (l : BrokerLine) (s : Session) (b : Broker) → line_at l.number b ≡ Some l → l.session ≡ Some s.birth → session_at s.birth b.records ≡ Some s
    → deeds limits choice now (Pump l.number) b ≡ pump_deeds l (at_moment now b) s
pump_is limits choice now l s b line connected at =
    let first = at_moment now b in
    ap (λ (o : Option BrokerLine). with_line o (λ (x : BrokerLine). on_pump x x.session) first) line
    ∙ (ap (λ (o : Option ℕ). on_pump l o first) connected ∙ ap (λ (o : Option Session). with_session o (λ (x : Session) (d : Broker). pump_deeds l first x) first) at)

all_zero : (es : List CopyRow) → AllByRecursion (λ (e : CopyRow). 0 ≤ e.place) es
all_zero [] = tt
all_zero (e ∷ es) = (omega arith, all_zero es)

none_of : (o : Option ℕ) → is_one_of o [] ≡ false
none_of None = refl
none_of (Some n) = refl

module _ (number : Numbering) (largest : ℕ) (copies : List Lot) (limits : Capacity) (choice : MemberChoice) (now : ℕ) (r : Receiver) (l : BrokerLine) (s : Session) (b : Broker)
    (h : IsRun number largest copies r b) (c : IsListening r l s b) (fits : l.largest ≡ largest) (whole : FitsWhole l s)
    (distinct : HasDistinctIdentifiers b.records) where
  abbrev n : ℕ
  n = l.number

  abbrev first : Broker
  first = at_moment now b

  -- its copies fit with whole topics, so its pump goes by these
  abbrev ts : List Turn
  ts = rules.pump (way_of l first.now) (queue_on l.went s)

  abbrev its_deeds : List Deed
  its_deeds = all_turn_deeds first.now n s ts

  abbrev ids : List CopyId
  ids = map id_of copies

  abbrev new : Broker
  new = stepped limits choice now (Pump n) b

  pumps_are : deeds limits choice now (Pump n) b ≡ its_deeds
  pumps_are = pump_is limits choice now l s b c.line c.connected c.session ∙ ap (all_turn_deeds first.now n s) (whole_pump l s whole first)

  standing_now : still_standing copies ≡ map (lot_on l.went) s.queue
  standing_now = standing_by copies r l s b h.queue_is c

  at_start : Tracks number n first.now s l.went ids h.numbered s.queue l.went copies first
  at_start = record {
    session = c.session;
    places = c.places;
    went_is = ap (option_map (λ (x : BrokerLine). x.went)) c.its_line;
    on = ap (option_map (λ (x : BrokerLine). x.session)) c.line ∙ ap Some c.connected;
    alone = c.alone;
    standing = standing_now;
    ids_are = refl;
    known = λ k. k;
  }

  goes : Goes number n first.now s l.went ids h.numbered its_deeds ts 0 s.queue copies first
  goes =
      let all = all_found copy_place s.queue c.places in
      pump_goes number n first.now s l.went ids h.numbered (way_of l first.now) l.went 0 s.queue c.places all (queue_granted number largest copies l.went s.queue r b h standing_now) (all_zero s.queue)
      (rules.pace (way_of l first.now) (queue_on l.went s)) s.queue l.went copies first all at_start

  abbrev last : Session
  last = record s { queue = goes.last }

  found_last : session_at s.birth (after_all (deeds limits choice now (Pump n) b) first).records ≡ Some last
  found_last = subst (λ (ds : List Deed). session_at s.birth (after_all ds first).records ≡ Some last) (sym pumps_are) goes.tracks.session

  on_last : session_on n (after_all (deeds limits choice now (Pump n) b) first).lines ≡ Some (Some s.birth)
  on_last = subst (λ (ds : List Deed). session_on n (after_all ds first).lines ≡ Some (Some s.birth)) (sym pumps_are) goes.tracks.on

  known : Finds n new goes.last
  known =
      let ds = deeds limits choice now (Pump n) b in
      let rows = rows_of_all ds first.records in
      let at : session_at s.birth new.records ≡ Some last = ap (λ (ss : List Session). row_at birth_of s.birth ss) (done_sessions rows (after_all ds first)) ∙ found_last in
      let on : session_on n new.lines ≡ Some (Some s.birth) = ap (session_on n) (done_lines rows (after_all ds first)) ∙ on_last in
      let flight : IsFlight goes.last = all_at birth_of (λ (x : Session). IsFlight x.queue) s.birth last new.records.sessions (step_keeps limits choice now (Pump n) b distinct) at in
      finds n s.birth new last on at flight

  makes : Makes number (lots_by ts copies) ids limits choice now (Pump n) r n s.birth b (outputs_of ts copies) false false
  makes = record {
    number_is = c.number;
    session = last;
    found = found_last;
    client = c.client;
    birth_is = refl;
    only = subst (λ (ds : List Deed). IsOnly r.client s.birth (after_all ds first).records) (sym pumps_are)
        (only_deeds r.client s.birth its_deeds first (inside_begins r.client s.birth its_deeds (inside_turns first.now n s ts)) c.only);
    queued = subst (λ (ds : List Deed). StandOn (lots_by ts copies) goes.last (its_went s.birth (after_all ds first).lines)) (sym pumps_are)
        (subst (λ (o : Option (List ℕ)). StandOn (lots_by ts copies) goes.last o) (sym goes.tracks.went_is) goes.tracks.standing);
    linked = ap linked_of on_last;
    heard = ap (λ (ds : List Deed). filter_map (heard_in number) (sent_to (Some n) new (filter_map output ds))) pumps_are ∙ goes.told new known;
    tagged = subst (λ (ds : List Deed). AllByRecursion (IsTagged number ids) (sent_to (Some n) new (filter_map output ds))) (sym pumps_are) (goes.tagged new known);
    closes = ap (is_one_of (Some n)) none_close;
    closes_old = ap (is_one_of r.line.old_number) none_close ∙ none_of r.line.old_number;
  }
    where
      none_close : filter_map closing (deeds limits choice now (Pump n) b) ≡ []
      none_close = ap (filter_map closing) pumps_are ∙ inside_closes its_deeds (inside_turns first.now n s ts)

  pumped_is : hop_called number (lots_by ts copies) ids limits choice now (Pump n) r n s.birth b (outputs_of ts copies) false false
      ≡ step largest (seen number copies r b) (pump l.window first.now)
  pumped_is =
      let w = seen number copies r b in
      let stands : true ≡ w.stands = sym (ap is_some (named_now r l s b c)) in
      let linked : true ≡ w.linked = sym (linked_now r l s b c) in
      let turns_are : rules.pump (way_of l first.now) (queue_on l.went s) ≡ rules.pump (record { window = l.window; largest = largest; now = first.now }) (queue_of w.copies) =
      ap (λ (k : ℕ). rules.pump (record { window = l.window; largest = k; now = first.now }) (queue_on l.went s)) fits
      ∙ ap (rules.pump (record { window = l.window; largest = largest; now = first.now })) (sym (same_entries copies l.went s.queue standing_now)) in
      (λ i. record w { copies = lots_by ts copies; stands = stands i; linked = linked i; down = w.down ++ outputs_of ts copies })
      ∙ (sym (turns_made ts w (sym linked)) ∙ ap (λ (us : List Turn). take_turns us w) turns_are)

  -- what the receiver and its session see of a turn of sending is a pump of their hop
  pub pump_follows : Follows number largest copies (pump l.window first.now) r b (receiver_called limits choice now (Pump l.number) r b) (stepped limits choice now (Pump l.number) b)
  pump_follows =
      let copies2 = lots_by ts copies in
      record {
        after = copies2;
        same = goes.tracks.ids_are;
        seen_is = called_seen number copies2 ids limits choice now (Pump n) r n s.birth b (outputs_of ts copies) false false makes ∙ pumped_is;
        queue_is = called_queue number copies2 ids limits choice now (Pump n) r n s.birth b (outputs_of ts copies) false false makes;
        tagged = called_tags number copies2 ids limits choice now (Pump n) r n s.birth b (outputs_of ts copies) false false makes h.tagged;
      }

  -- after a turn of sending what they see is a run of the hop again
  pub pump_runs : RunsOn number largest copies (receiver_called limits choice now (Pump l.number) r b) (stepped limits choice now (Pump l.number) b)
  pump_runs = runs_follow number largest copies (pump l.window first.now) r b (receiver_called limits choice now (Pump l.number) r b) (stepped limits choice now (Pump l.number) b) h pump_follows

  -- after a turn of sending the session may receive more
  pub pump_receives : AreKnown s.queue (went_in s.birth b) → Receives (receiver_called limits choice now (Pump l.number) r b) (stepped limits choice now (Pump l.number) b)
  pump_receives known_here =
      let x = makes in
      let known_last : AreKnown goes.last (Some goes.went) = goes.tracks.known (subst (AreKnown s.queue) (went_now r l s b c) known_here) in
      receives_after (receiver_called limits choice now (Pump l.number) r b) s.birth limits choice now (Pump n) b last found_last c.client refl x.only
      (subst (λ (ds : List Deed). AreKnown goes.last (its_went s.birth (after_all ds first).lines)) (sym pumps_are) (subst (AreKnown goes.last) (sym goes.tracks.went_is) known_last))
