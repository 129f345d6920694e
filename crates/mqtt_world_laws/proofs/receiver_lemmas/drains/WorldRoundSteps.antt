-- A receiver that is connected and in step: the broker sends what waits for it, or reads its answer, and it is so again; what
-- it sees is the same event of its hop.
use Rattle.std.proofs.Common.{◌≡◌, ℕ, Bool, true, false, List, [], ◌∷◌, drop, map, Option, Some, None, nat_eq, refl, sym, ap, subst, ◌∙◌}
use Rattle.std.specs.Prelude.{Ok, Err, filter_map, is_some, option_map}
use Rattle.std.specs.List.{AllByRecursion}
use Rattle.std.proofs.lemmas.Bool.{eqb-true}
use Rattle.mqtt_base.specs.declared.session.CopyId.{CopyId}
use Rattle.mqtt_flow.specs.outbound.Outbound as rules
use Rattle.mqtt_flow.specs.outbound.OutboundWorld.{Lot, World as Hop, pump, queue_of, replied, step, to_broker}
use Rattle.mqtt_flow.specs.outbound.Receiver.{HasNoConnect, Answer, IsHeard, connect, puback, pubcomp, pubrec}
use Rattle.mqtt_world_model.specs.model.Ends.{Back, Receiver, answers, wire_back}
use Rattle.mqtt_world_model.specs.model.Lines.{is_one_of, unless_closed}
use Rattle.mqtt_world_model.specs.model.Seen.{has_session, is_linked}
use Rattle.mqtt_world_model.proofs.model_lemmas.others.Lists.{all_find}
use Rattle.mqtt_world_model.proofs.model_lemmas.own.OwnStep.{heard_of, input_is}
use Rattle.mqtt_records.specs.declared.state.session.Session.{Session}
use Rattle.mqtt_rules.proofs.step_lemmas.numbers.Copies.{each_append}
use Rattle.mqtt_rules.proofs.step_lemmas.flight.FlightStep.{step_keeps}
use Rattle.mqtt_rules.proofs.step_lemmas.acts.Goods.{AreGood, good_append}
use Rattle.mqtt_rules.proofs.step_lemmas.lines.LineActs.{quiet_pump, quiet_turn}
use Rattle.mqtt_rules.proofs.step_lemmas.lines.LineRows.{IsQuiet}
use Rattle.mqtt_rules.proofs.step_lemmas.order.OrderedSteps.{step-ordered}
use Rattle.mqtt_rules.specs.step.Deeds.{Deed, closing}
use Rattle.mqtt_rules.specs.step.Flight.{HasDistinctIdentifiers}
use Rattle.mqtt_rules.specs.step.Fitting.{pump_turns}
use Rattle.mqtt_rules.specs.step.Inbound.{on_answer}
use Rattle.mqtt_rules.specs.step.Laws.{IsOrdered}
use Rattle.mqtt_rules.specs.step.Lines.{HasUniqueLines}
use Rattle.mqtt_rules.specs.step.State.{Line as BrokerLine, Broker, Env, MemberChoice, line_at, queue_on, session_at}
use Rattle.mqtt_rules.specs.step.Step.{Call, Input, Pump, at_moment, deeds, env_of, next_packet, stepped}
use Rattle.mqtt_rules.specs.declared.step.Capacity.{Capacity}
use Rattle.mqtt_rules.specs.whole.Whole.{AreNoLarger, FitsWhole}
use Rattle.mqtt_world_laws.specs.receiver.Calls.{receiver_called}
use Rattle.mqtt_world_laws.specs.receiver.Handing.{IsListening, IsRun, after_answer, reads_answer}
use Rattle.mqtt_world_laws.specs.receiver.Own.{IsInStep, Listens}
use Rattle.mqtt_world_laws.specs.receiver.Seen.{Numbering, answered, seen}
use Rattle.mqtt_world_laws.specs.receiver.Served.{IsOwnLine}
use Rattle.mqtt_world_laws.specs.receiver.Tags.{id_of}
use Rattle.mqtt_world_laws.specs.receiver.WorldRounds.{IsConnected, QueueFits}
use Rattle.mqtt_world_laws.proofs.receiver_lemmas.own.Answering.{reply_to, answered_by, answer_comes, answers_follow, shut_by}
use Rattle.mqtt_world_laws.proofs.receiver_lemmas.queue.Follows.{Follows, run_follows}
use Rattle.mqtt_world_laws.proofs.receiver_lemmas.drains.Further.{Reached, heard_up}
use Rattle.mqtt_world_laws.proofs.receiver_lemmas.own.Listening.{listens_in_step}
use Rattle.mqtt_world_laws.proofs.receiver_lemmas.own.OwnCalls.{answers_in_step, pump_in_step}
use Rattle.mqtt_world_laws.proofs.receiver_lemmas.drains.RoundFits.{turns_fit}
use Rattle.mqtt_world_laws.proofs.receiver_lemmas.drains.RoundPhases.{turns_linked, up_linked}
use Rattle.mqtt_world_laws.proofs.receiver_lemmas.queue.Sending.{pump_follows, pump_is}
use Rattle.mqtt_world_laws.proofs.receiver_lemmas.drains.WorldRoundLines.{HasSame, IsOfTurn, call_same, none_closed, of_turn, of_turns, quiet_unique, quiet_way, way_on}

-- ---- lines

some_there : (o : Option ℕ) → is_some o ≡ true → (k : ℕ) × (o ≡ Some k)
some_there None h = absurd cc
some_there (Some k) h = (k, refl)

line_there : (o : Option BrokerLine) → has_session o ≡ true → (l : BrokerLine) × (o ≡ Some l) × (k : ℕ) × (l.session ≡ Some k)
line_there None h = absurd cc
line_there (Some l) h = let x = some_there l.session h in (l, refl, x.0, x.1)

abbrev window_in : Option (ℕ × ℕ) → ℕ
window_in None = 0
window_in (Some way) = way.0

abbrev largest_in : Option (ℕ × ℕ) → ℕ
largest_in None = 0
largest_in (Some way) = way.1

abbrev way_by : Option BrokerLine → Option (ℕ × ℕ)
way_by o = option_map (λ (l : BrokerLine). (l.window, l.largest)) o

none_of : (o : Option ℕ) → is_one_of o [] ≡ false
none_of None = refl
none_of (Some n) = refl

-- ---- receiver and broker, with the hop that is seen

-- the receiver is connected and in step, and what it sees is this state of its hop
pub record At (number : Numbering) (largest window : ℕ) (ids : List CopyId) (birth : ℕ) (ns : List ℕ) (hop : Hop) (r : Receiver) (b : Broker) : Type 0 where
  pub connected : IsConnected largest window ids birth ns r b
  pub copies : List Lot
  pub same : map id_of copies ≡ ids
  pub run_is : IsRun number largest copies r b
  pub seen_is : seen number copies r b ≡ hop

module _ (number : Numbering) (largest window : ℕ) (ids : List CopyId) (birth : ℕ) (ns : List ℕ) where
  -- the state of the hop that a connected receiver sees is one that a run reaches
  pub reached : (hop : Hop) (r : Receiver) (b : Broker) → At number largest window ids birth ns hop r b → Reached largest hop
  reached hop r b x = (x.run_is.events, sym x.run_is.seen_is ∙ x.seen_is)

  -- the line of a connected receiver stands
  pub is_linked_now : (r : Receiver) (b : Broker) → IsConnected largest window ids birth ns r b → is_linked r.line.number b ≡ true
  is_linked_now r b c = ap (λ (o : Option ℕ). is_linked o b) c.number ∙ (ap has_session c.there ∙ ap is_some c.connected)

  -- in the hop of a connected receiver the session is connected
  pub hop_linked : (hop : Hop) (r : Receiver) (b : Broker) → At number largest window ids birth ns hop r b → hop.linked ≡ true
  hop_linked hop r b x = sym (ap (λ (w : Hop). w.linked) x.seen_is) ∙ is_linked_now r b x.connected

  -- the session of a connected receiver listens on its line
  pub listens_now : (r : Receiver) (b : Broker) (c : IsConnected largest window ids birth ns r b) → Listens r c.line birth b
  listens_now r b c = listens_in_step largest ids birth ns c.line.number birth r c.line b c.in_step c.unique c.ordered c.number c.there c.connected c.apart

  -- whoever is in step and connected on a line with this Receive Maximum and Maximum Packet Size
  pub connected_there : (later : List CopyId) (n : ℕ) (q : Receiver) (d : Broker) → IsInStep largest later birth ns q d → q.line.number ≡ Some n → is_one_of q.line.old_number (n ∷ []) ≡ false
      → is_linked q.line.number d ≡ true → way_on n d.lines ≡ Some (window, largest) → QueueFits largest birth d → HasUniqueLines d → IsOrdered d.records → HasDistinctIdentifiers d.records → IsConnected largest window later birth ns q d
  connected_there later n q d k number apart linked way fits unique ordered distinct =
      let x = line_there (line_at n d) (ap (λ (o : Option ℕ). is_linked o d) (sym number) ∙ linked) in
      let l = x.0 in
      let at = x.1 in
      let both = all_find (IsOwnLine ns birth) (λ (y : BrokerLine). nat_eq y.number n) l d.lines k.served.lines at in
      let is : l.number ≡ n = eqb-true l.number n both.1 in
      let mine : x.2 ≡ birth = both.0.theirs (ap (λ (j : ℕ). is_one_of (Some j) ns) is ∙ k.lines.own n number) x.2 x.3 in
      let ways : way_by (Some l) ≡ Some (window, largest) = sym (ap way_by at) ∙ way in
      record {
        in_step = k;
        line = l;
        number = number ∙ ap Some (sym is);
        there = ap (λ (j : ℕ). line_at j d) is ∙ at;
        connected = x.3 ∙ ap Some mine;
        window_is = ap window_in ways;
        largest_is = ap largest_in ways;
        fits = fits;
        apart = ap (λ (j : ℕ). is_one_of q.line.old_number (j ∷ [])) is ∙ apart;
        unique = unique;
        ordered = ordered;
        distinct = distinct;
      }

  -- another receiver on the same line, or the same broker later
  pub connected_again : (later : List CopyId) (r q : Receiver) (b d : Broker) (c : IsConnected largest window ids birth ns r b) → IsInStep largest later birth ns q d → q.line.number ≡ r.line.number
      → is_one_of q.line.old_number (c.line.number ∷ []) ≡ false → is_linked q.line.number d ≡ true → way_on c.line.number d.lines ≡ way_on c.line.number b.lines
      → QueueFits largest birth d → HasUniqueLines d → IsOrdered d.records → HasDistinctIdentifiers d.records → IsConnected largest window later birth ns q d
  connected_again later r q b d c k same apart linked way fits unique ordered distinct =
      connected_there later c.line.number q d k (same ∙ c.number) apart linked (way ∙ (ap way_by c.there ∙ λ i. Some (c.window_is i, c.largest_is i))) fits unique ordered distinct

  -- ---- a call that closes no line and connects nobody

  module _ (limits : Capacity) (choice : MemberChoice) (now : ℕ) (call : Call) (r : Receiver) (b : Broker) (quiet : AreGood IsQuiet (deeds limits choice now call b) (at_moment now b)) where
    -- quiet deeds leave what is under way from the receiver
    pub stays_up : (ups : List Back) → unless_closed (is_one_of r.line.number (filter_map closing (deeds limits choice now call b))) ups ≡ ups
    stays_up ups = ap (λ (z : Bool). unless_closed z ups) (ap (is_one_of r.line.number) (none_closed (deeds limits choice now call b) (at_moment now b) quiet) ∙ none_of r.line.number)

    -- after a quiet call a connected receiver in step is connected again
    pub called_again : (later : List CopyId) (q : Receiver) (c : IsConnected largest window ids birth ns r b) → IsInStep largest later birth ns q (stepped limits choice now call b) → q.line.number ≡ r.line.number → q.line.old_number ≡ r.line.old_number
        → is_linked q.line.number (stepped limits choice now call b) ≡ true → QueueFits largest birth (stepped limits choice now call b) → IsConnected largest window later birth ns q (stepped limits choice now call b)
    called_again later q c k same old linked fits =
        connected_again later r q b (stepped limits choice now call b) c k same (ap (λ (o : Option ℕ). is_one_of o (c.line.number ∷ [])) old ∙ c.apart) linked
        (quiet_way c.line.number limits choice now call b quiet) fits (quiet_unique limits choice now call b quiet c.unique) (step-ordered limits choice now call b c.ordered) (step_keeps limits choice now call b c.distinct)

  -- ---- the broker sends

  quiet_sending : (limits : Capacity) (choice : MemberChoice) (now : ℕ) (r : Receiver) (b : Broker) (c : IsConnected largest window ids birth ns r b) → AreGood IsQuiet (deeds limits choice now (Pump c.line.number) b) (at_moment now b)
  quiet_sending limits choice now r b c =
      let a = listens_now r b c in
      let s = a.session in
      let first = at_moment now b in
      subst (λ (ds : List Deed). AreGood IsQuiet ds first) (sym (pump_is limits choice now c.line s b a.listening.line a.listening.connected a.listening.session)) (quiet_pump c.line s first)

  -- its copies fit on its line with whole topics
  pub whole_now : (r : Receiver) (b : Broker) (c : IsConnected largest window ids birth ns r b) → FitsWhole c.line (listens_now r b c).session
  whole_now r b c =
      let a = listens_now r b c in
      let at : session_at birth b.records ≡ Some a.session = ap (λ (k : ℕ). session_at k b.records) (sym a.birth_is) ∙ a.listening.session in
      subst (λ (k : ℕ). AreNoLarger k a.session.queue) (sym c.largest_is) (c.fits a.session at)

  sending_turns : (limits : Capacity) (choice : MemberChoice) (now : ℕ) (r : Receiver) (b : Broker) (c : IsConnected largest window ids birth ns r b) → AllByRecursion IsOfTurn (deeds limits choice now (Pump c.line.number) b)
  sending_turns limits choice now r b c =
      let a = listens_now r b c in
      let s = a.session in
      let first = at_moment now b in
      subst (AllByRecursion IsOfTurn) (sym (pump_is limits choice now c.line s b a.listening.line a.listening.connected a.listening.session)) (of_turns first.now c.line.number s (pump_turns c.line first s))

  -- a turn of sending leaves retained messages and granted filters as they are
  pub pump_same : (limits : Capacity) (choice : MemberChoice) (now : ℕ) (r : Receiver) (b : Broker) (c : IsConnected largest window ids birth ns r b) → HasSame b (stepped limits choice now (Pump c.line.number) b)
  pump_same limits choice now r b c = call_same limits choice now (Pump c.line.number) b (sending_turns limits choice now r b c)

  -- what is under way from it stays so
  pub pump_up : (limits : Capacity) (choice : MemberChoice) (now : ℕ) (r : Receiver) (b : Broker) (c : IsConnected largest window ids birth ns r b) → (receiver_called limits choice now (Pump c.line.number) r b).line.up ≡ r.line.up
  pump_up limits choice now r b c = stays_up limits choice now (Pump c.line.number) r b (quiet_sending limits choice now r b c) r.line.up

  -- a turn of sending takes a connected receiver to the state of its hop's pump
  pub pump_at : (limits : Capacity) (choice : MemberChoice) (now : ℕ) (hop : Hop) (r : Receiver) (b : Broker) (x : At number largest window ids birth ns hop r b)
      → At number largest window ids birth ns (step largest hop (pump window (at_moment now b).now)) (receiver_called limits choice now (Pump x.connected.line.number) r b) (stepped limits choice now (Pump x.connected.line.number) b)
  pump_at limits choice now hop r b x =
      let c = x.connected in
      let l = c.line in
      let call = Pump l.number in
      let first = at_moment now b in
      let a = listens_now r b c in
      let s = a.session in
      let q = receiver_called limits choice now call r b in
      let new = stepped limits choice now call b in
      let f = pump_follows number largest x.copies limits choice now r l s b x.run_is a.listening c.largest_is (whole_now r b c) c.distinct in
      let seen_is : seen number f.after q new ≡ step largest hop (pump window first.now) =
      f.seen_is ∙ (ap (λ (w : Hop). step largest w (pump l.window first.now)) x.seen_is ∙ ap (λ (k : ℕ). step largest hop (pump k first.now)) c.window_is) in
      let linked : is_linked q.line.number new ≡ true = ap (λ (w : Hop). w.linked) seen_is ∙ (turns_linked (rules.pump (record { window = window; largest = largest; now = first.now }) (queue_of hop.copies)) hop ∙ hop_linked hop r b x) in
      let quiet = quiet_sending limits choice now r b c in
      record {
        connected = called_again limits choice now call r b quiet ids q c (pump_in_step largest ids birth ns limits choice now r l s b c.in_step a.listening c.largest_is (whole_now r b c) c.distinct) refl refl linked (turns_fit largest birth limits choice now call b (sending_turns limits choice now r b c) c.fits);
        copies = f.after;
        same = f.same ∙ x.same;
        run_is = run_follows number largest x.copies (pump l.window first.now) r b q new x.run_is f;
        seen_is = seen_is;
      }

  -- ---- the broker reads an answer

  stays_open : (x : rules.Answer) (rest : List Answer) (w : Hop) → (replied x rest w).linked ≡ true → shut_by x ≡ false
  stays_open (Ok t) rest w h = refl
  stays_open (Err fault) rest w h = absurd cc

  quiet_answer : (x : rules.Answer) (env : Env) (l : BrokerLine) (s : Session) (c : Broker) → shut_by x ≡ false → AreGood IsQuiet (on_answer x env l s c) c
  quiet_answer (Ok None) env l s c h = tt
  quiet_answer (Ok (Some t)) env l s c h = quiet_turn c.now l.number s t c
  quiet_answer (Err fault) env l s c h = absurd cc

  turn_answer : (x : rules.Answer) (env : Env) (l : BrokerLine) (s : Session) (c : Broker) → shut_by x ≡ false → AllByRecursion IsOfTurn (on_answer x env l s c)
  turn_answer (Ok None) env l s c h = tt
  turn_answer (Ok (Some t)) env l s c h = of_turn c.now l.number s t
  turn_answer (Err fault) env l s c h = absurd cc

  -- the two after it, with what is under way behind it
  pub record Read (limits : Capacity) (choice : MemberChoice) (now : ℕ) (a : Answer) (rest : List Back) (hop : Hop) (n : ℕ) (r : Receiver) (b : Broker) : Type 0 where
    pub at : At number largest window ids birth ns (step largest hop (to_broker false)) (reads_answer limits choice now n a r b) (after_answer limits choice now n a r b)
    pub up : (reads_answer limits choice now n a r b).line.up ≡ rest
    pub same : HasSame b (after_answer limits choice now n a r b)

  answered_at : (limits : Capacity) (choice : MemberChoice) (now : ℕ) (a : Answer) (rest : List Back) (hop : Hop) (r : Receiver) (b : Broker) (x : At number largest window ids birth ns hop r b) (y : rules.Answer)
      → r.line.up ≡ answers a ∷ rest → (s : Session) → IsListening r x.connected.line s b
      → next_packet (env_of limits choice b) x.connected.line (wire_back r.client r.window r.aliases (answers a)) s (heard_of now x.connected.line.number b) ≡ on_answer y (env_of limits choice b) x.connected.line s (heard_of now x.connected.line.number b)
      → step largest (seen number x.copies r b) (to_broker false) ≡ replied y (filter_map answered rest) (seen number x.copies r b)
      → Follows number largest x.copies (to_broker false) r b (reads_answer limits choice now x.connected.line.number a r b) (after_answer limits choice now x.connected.line.number a r b)
      → IsInStep largest ids birth ns (reads_answer limits choice now x.connected.line.number a r b) (after_answer limits choice now x.connected.line.number a r b)
      → Read limits choice now a rest hop x.connected.line.number r b
  answered_at limits choice now a rest hop r b x y up s li e replies f k =
      let c = x.connected in
      let l = c.line in
      let n = l.number in
      let packet = wire_back r.client r.window r.aliases (answers a) in
      let call = Input n packet in
      let q = reads_answer limits choice now n a r b in
      let new = after_answer limits choice now n a r b in
      let seen_is : seen number f.after q new ≡ step largest hop (to_broker false) = f.seen_is ∙ ap (λ (w : Hop). step largest w (to_broker false)) x.seen_is in
      let stays : (step largest hop (to_broker false)).linked ≡ true = up_linked largest hop.up hop refl (reached hop r b x) (hop_linked hop r b x) in
      let linked : is_linked q.line.number new ≡ true = ap (λ (w : Hop). w.linked) seen_is ∙ stays in
      let stands : shut_by y ≡ false =
      stays_open y (filter_map answered rest) (seen number x.copies r b) (sym (ap (λ (w : Hop). w.linked) replies) ∙ (ap (λ (w : Hop). (step largest w (to_broker false)).linked) x.seen_is ∙ stays)) in
      let heard = heard_of now n b in
      let env = env_of limits choice b in
      let own : AreGood IsQuiet (next_packet env l packet s heard) heard = subst (λ (ds : List Deed). AreGood IsQuiet ds heard) (sym e) (quiet_answer y env l s heard stands) in
      let quiet : AreGood IsQuiet (deeds limits choice now call b) (at_moment now b) =
      subst (λ (ds : List Deed). AreGood IsQuiet ds (at_moment now b)) (sym (input_is limits choice now packet l s b li.line li.connected li.session)) (tt, good_append IsQuiet (next_packet env l packet s heard) [] heard own tt) in
      let own_turn : AllByRecursion IsOfTurn (next_packet env l packet s heard) = subst (AllByRecursion IsOfTurn) (sym e) (turn_answer y env l s heard stands) in
      let all : AllByRecursion IsOfTurn (deeds limits choice now call b) =
      subst (AllByRecursion IsOfTurn) (sym (input_is limits choice now packet l s b li.line li.connected li.session)) (tt, each_append IsOfTurn (next_packet env l packet s heard) [] own_turn tt) in
      let ups : q.line.up ≡ rest = stays_up limits choice now call r b quiet (drop 1 r.line.up) ∙ ap (drop 1) up in
      record {
        at = record {
          connected = called_again limits choice now call r b quiet ids q c k refl refl linked (turns_fit largest birth limits choice now call b all c.fits);
          copies = f.after;
          same = f.same ∙ x.same;
          run_is = run_follows number largest x.copies (to_broker false) r b q new x.run_is f;
          seen_is = seen_is;
        };
        up = ups;
        same = call_same limits choice now call b all;
      }

  -- PUBACK, PUBREC or PUBCOMP
  acknowledged_at : (limits : Capacity) (choice : MemberChoice) (now : ℕ) (a : Answer) (rest : List Back) (hop : Hop) (r : Receiver) (b : Broker) (x : At number largest window ids birth ns hop r b)
      → HasNoConnect (a ∷ []) → r.line.up ≡ answers a ∷ rest → Read limits choice now a rest hop x.connected.line.number r b
  acknowledged_at limits choice now a rest hop r b x none up =
      let l = x.connected.line in
      let li = listens_now r b x.connected in
      let s = li.session in
      answered_at limits choice now a rest hop r b x (reply_to a (queue_on l.went s)) up s li.listening (answered_by a r.client r.window r.aliases (env_of limits choice b) l s (heard_of now l.number b) none)
      (answer_comes number largest x.copies limits choice now a rest r l s b none x.run_is li.listening up)
      (answers_follow number largest x.copies limits choice now a rest r l s b none x.run_is li.listening up)
      (answers_in_step largest ids birth ns limits choice now a rest r l s b none x.connected.in_step li.listening up)

  -- any answer: a CONNECT isn't under way while the session is connected there
  pub answer_at : (limits : Capacity) (choice : MemberChoice) (now : ℕ) (a : Answer) (rest : List Back) (hop : Hop) (r : Receiver) (b : Broker) (x : At number largest window ids birth ns hop r b)
      → r.line.up ≡ answers a ∷ rest → Read limits choice now a rest hop x.connected.line.number r b
  answer_at limits choice now (connect clean) rest hop r b x up =
      let ups : hop.up ≡ connect clean ∷ filter_map answered rest = sym (ap (λ (w : Hop). w.up) x.seen_is) ∙ ap (filter_map answered) up in
      let never : hop.linked ≡ false = subst (IsHeard hop.linked) ups (heard_up largest hop (reached hop r b x)) in
      let clash : true ≡ false = sym (hop_linked hop r b x) ∙ never in
      absurd cc
  answer_at limits choice now (puback i code) rest hop r b x up = acknowledged_at limits choice now (puback i code) rest hop r b x tt up
  answer_at limits choice now (pubrec i code) rest hop r b x up = acknowledged_at limits choice now (pubrec i code) rest hop r b x tt up
  answer_at limits choice now (pubcomp i code) rest hop r b x up = acknowledged_at limits choice now (pubcomp i code) rest hop r b x tt up
