-- A receiver's CONNECT is under way when it is drained: in the first round nothing is sent or read before it, and after it the
-- receiver is connected.
use Rattle.std.proofs.Common.{◌≡◌, ℕ, zero, suc, ◌≤◌, Bool, true, false, not, ◌||◌, List, [], ◌∷◌, ◌++◌, drop, length, map, Option, Some, None, slice_get, option_map, bytes_eq, refl, sym, ap, subst, ◌∙◌, append-nil}
use Rattle.std.specs.List.{AllByRecursion}
use Rattle.std.proofs.lemmas.Option.{slice_get-map}
use Rattle.mqtt_base.specs.declared.session.CopyId.{CopyId}
use Rattle.mqtt_flow.specs.outbound.OutboundWorld.{Lot, cut, past, queue_of, renewed, standing}
use Rattle.mqtt_flow.specs.outbound.Receiver.{connect}
use Rattle.mqtt_topic.specs.names.Aliases.{AliasTable}
use Rattle.mqtt_world_model.specs.model.Ends.{Back, Receiver, answers, wire_back}
use Rattle.mqtt_world_model.specs.model.Hops.{IsOurs}
use Rattle.mqtt_world_model.specs.model.Lines.{Down, is_one_of, sent_to, unless_closed, known_by}
use Rattle.mqtt_world_model.specs.model.Run.{Turn, run}
use Rattle.mqtt_world_model.specs.model.Seen.{is_linked}
use Rattle.mqtt_world_model.specs.model.World.{Setting, World, ask, calls, publisher_named, pump, receiver_named, receiver_told, taken_up, to_broker, to_end}
use Rattle.mqtt_world_model.specs.model.Ends.{Publisher}
use Rattle.mqtt_world_model.proofs.model_lemmas.seats.Joins.{none_closed}
use Rattle.mqtt_world_model.proofs.model_lemmas.others.Names.{named_is}
use Rattle.mqtt_world_model.proofs.model_lemmas.seats.Seeing.{linked_is, linked_of}
use Rattle.mqtt_records.specs.state.Session.{birth_of}
use Rattle.mqtt_records.specs.declared.state.session.Session.{Session}
use Rattle.mqtt_records.specs.lists.Distinct.{AllDiffer}
use Rattle.mqtt_rules.proofs.step_lemmas.flight.FlightRows.{all_at}
use Rattle.mqtt_rules.proofs.step_lemmas.flight.FlightStep.{step_keeps}
use Rattle.mqtt_rules.proofs.step_lemmas.order.OrderedSteps.{step-ordered}
use Rattle.mqtt_rules.specs.step.Deeds.{Deed, with_line}
use Rattle.mqtt_rules.specs.step.State.{Line as BrokerLine, Broker, MemberChoice, capped, line_at, session_named}
use Rattle.mqtt_rules.specs.step.Step.{Call, Input, Pump, at_moment, deeds, deeds_of, done, env_of, on_pump, outcome_of, stepped, told}
use Rattle.mqtt_rules.specs.declared.step.Capacity.{Capacity}
use Rattle.mqtt_world_laws.proofs.acceptance_lemmas.publishers.Ends.{named_receiver}
use Rattle.mqtt_world_laws.proofs.acceptance_lemmas.copies.Steady.{steady_step}
use Rattle.mqtt_world_laws.specs.receiver.Calls.{IsResuming}
use Rattle.mqtt_world_laws.specs.receiver.Connecting.{DrainsFrom, IsJoining, MayRenew, MayResume, any_size}
use Rattle.mqtt_world_laws.specs.receiver.Drains.{after_round, all_to_broker, all_to_end, copies_by, copies_left, downs_by, drained, enough_rounds, is_none_left, is_over, line_stands, rounds_taken, times, turn_of, ups_by}
use Rattle.mqtt_world_laws.specs.receiver.Handing.{IsRun, after_answer, reads_answer}
use Rattle.mqtt_world_laws.specs.receiver.Own.{IsInStep}
use Rattle.mqtt_world_laws.specs.receiver.Rounds.{EndsBy}
use Rattle.mqtt_world_laws.specs.receiver.Seen.{AreQueued, Numbering, went_in}
use Rattle.mqtt_world_laws.specs.receiver.Served.{RunsWithAll}
use Rattle.mqtt_world_laws.specs.receiver.Tags.{id_of}
use Rattle.mqtt_world_laws.specs.receiver.WorldRounds.{IsAnswer, IsConnected, IsDrained, moment_of}
use Rattle.mqtt_world_laws.proofs.receiver_lemmas.connects.Beginning.{cut_ids}
use Rattle.mqtt_world_laws.proofs.receiver_lemmas.queue.Entering.{long_is, long_renewed}
use Rattle.mqtt_world_laws.proofs.receiver_lemmas.connects.Greetings.{HasGreeted, greeted_on, renewed_line, resumed_line}
use Rattle.mqtt_world_laws.proofs.receiver_lemmas.queue.Numbers.{place_of, places_number}
use Rattle.mqtt_world_laws.proofs.receiver_lemmas.connects.OwnConnects.{renewal_in_step, resume_in_step}
use Rattle.mqtt_world_laws.proofs.receiver_lemmas.connects.Renewing.{renewal_is_run}
use Rattle.mqtt_world_laws.proofs.receiver_lemmas.connects.Resuming.{connect_is_run, renewed_ids}
use Rattle.mqtt_world_laws.proofs.receiver_lemmas.drains.RoundFits.{LotsFit, cut_fit, lots_of, queue_fits, renewed_fit}
use Rattle.mqtt_world_laws.proofs.receiver_lemmas.drains.WorldRoundLines.{moment_again, way_on}
use Rattle.mqtt_world_laws.proofs.receiver_lemmas.drains.WorldRoundSteps.{connected_there}
use Rattle.mqtt_world_laws.proofs.receiver_lemmas.drains.WorldRounds.{back_is, drain_is, drain_over_later, drain_within_later, left_of, more_rounds, none_changed, publisher_called_is, pump_is, receiver_called_is, receiver_changed, round_moment, taken_off}

-- ---- the line after the CONNECT

greeted_goes : (n birth window : ℕ) (b : Broker) → HasGreeted n birth window b → way_on n b.lines ≡ Some (window, any_size)
greeted_goes n birth window b g =
    let window_is = g.greeted.window_is in
    let largest_is = g.greeted.largest_is in
    ap (option_map (λ (l : BrokerLine). (l.window, l.largest))) g.at ∙ (λ i. Some (window_is i, largest_is i))

-- ---- a pump of a line that waits

pump_none : (limits : Capacity) (choice : MemberChoice) (now : ℕ) (l : BrokerLine) (b : Broker) → line_at l.number b ≡ Some l → l.session ≡ None → deeds limits choice now (Pump l.number) b ≡ []
pump_none limits choice now l b line waits =
    ap (λ (o : Option BrokerLine). with_line o (λ (x : BrokerLine). on_pump x x.session) (at_moment now b)) line ∙ ap (λ (o : Option ℕ). on_pump l o (at_moment now b)) waits

none_sent : (o : Option ℕ) (b : Broker) → sent_to o b [] ≡ []
none_sent None b = refl
none_sent (Some n) b = refl

none_known : (o : Option ℕ) (table : AliasTable) → known_by o [] table ≡ table
none_known None table = refl
none_known (Some n) table = refl

-- whoever is told nothing stays as it is
untold_same : (call : Call) (b : Broker) (r : Receiver) → receiver_told b (outcome_of call [] b) r ≡ r
untold_same call b r =
    let closed = none_closed r.line.number in
    let old_closed = none_closed r.line.old_number in
    let downs : r.line.down ++ sent_to r.line.number b [] ≡ r.line.down = ap (λ (ds : List Down). r.line.down ++ ds) (none_sent r.line.number b) ∙ append-nil r.line.down in
    let knows = none_known r.line.number r.line.known in
    λ i. record r { line = record r.line { up = unless_closed (closed i) r.line.up; down = downs i; old = unless_closed (old_closed i) r.line.old; known = knows i } }

-- ---- the first round

module _ (limits : Capacity) (choice : MemberChoice) (clean : Bool) (client : List ℕ) (r : Receiver) (l : BrokerLine) (w : World) (j : IsJoining limits choice clean client r l w)
    (number_is : r.line.number ≡ Some l.number) (line : line_at l.number w.broker ≡ Some l) (waits : l.session ≡ None) where
  abbrev n : ℕ
  n = l.number

  abbrev s : Setting
  s = record { limits = limits; choice = choice }

  abbrev b : Broker
  b = w.broker

  abbrev first : Broker
  first = at_moment w.now b

  abbrev call : Call
  call = Input n (wire_back r.client r.window r.aliases (answers (connect clean)))

  abbrev q : Receiver
  q = record r { line = taken_up r.line }

  abbrev sends : Turn
  sends = turn_of choice (ask (pump client))

  abbrev reads : Turn
  reads = turn_of choice (to_end client)

  abbrev reads_back : Turn
  reads_back = turn_of choice (ask (to_broker client))

  -- the world in which the broker has been asked to send
  abbrev sent : World
  sent = calls s (Pump n) w

  idle : deeds limits choice w.now (Pump n) b ≡ []
  idle = pump_none limits choice w.now l b line waits

  sent_broker : sent.broker ≡ first
  sent_broker = ap (λ (ds : List Deed). done ds first) idle

  sent_receiver : receiver_named client sent ≡ Some r
  sent_receiver =
      receiver_called_is client s (Pump n) w r j.named
      ∙ (ap (λ (ds : List Deed). Some (receiver_told sent.broker (outcome_of (Pump n) ds first) r)) idle ∙ ap Some (untold_same (Pump n) sent.broker r))

  sent_publisher : publisher_named client sent ≡ None
  sent_publisher = publisher_called_is client s (Pump n) w j.alone

  abbrev came : World
  came = calls s call (taken_off limits choice client sent)

  -- the broker's state after the CONNECT, and the receiver's, if it was read in this one
  abbrev heard : Broker → Broker × Receiver
  heard x = (stepped limits choice w.now call x, receiver_told (stepped limits choice w.now call x) (told limits choice w.now call x) q)

  heard_same : heard sent.broker ≡ heard b
  heard_same =
      let env = env_of limits choice b in
      let by : Broker → Broker × Receiver = λ m. (done (deeds_of env call m) m, receiver_told (done (deeds_of env call m) m) (outcome_of call (deeds_of env call m) m) q) in
      let again : at_moment w.now first ≡ first = λ i. record b { now = moment_again b.now (capped w.now) i } in
      ap heard sent_broker ∙ ap by again

  came_receiver : receiver_named client came ≡ Some (heard sent.broker).1
  came_receiver = receiver_called_is client s call (taken_off limits choice client sent) q (receiver_changed client (λ (x : Receiver). record x { line = taken_up x.line }) r sent.receivers (λ x. refl) sent_receiver)

  came_publisher : publisher_named client came ≡ None
  came_publisher =
      publisher_called_is client s call (taken_off limits choice client sent)
      (none_changed (λ (p : Publisher). bytes_eq p.client client) (λ (p : Publisher). record p { line = taken_up p.line }) sent.publishers sent_publisher)

  round_came : after_round limits choice client w ≡ came
  round_came =
      let rest : World → World = λ v. run limits (all_to_end choice client v ++ all_to_broker choice client (run limits (all_to_end choice client v) v)) v in
      let none : all_to_end choice client sent ≡ [] = ap (λ (o : Option Receiver). times (downs_by o) reads) sent_receiver ∙ ap (λ (ds : List Down). times (length ds) reads) j.down in
      let one : all_to_broker choice client sent ≡ reads_back ∷ [] = ap (λ (o : Option Receiver). times (ups_by o) reads_back) sent_receiver ∙ ap (λ (us : List Back). times (length us) reads_back) j.up in
      ap rest (pump_is limits choice client w r n j.named j.alone number_is)
      ∙ (ap (λ (es : List Turn). run limits (es ++ all_to_broker choice client (run limits es sent)) sent) none
      ∙ (ap (λ (ts : List Turn). run limits ts sent) one
      ∙ back_is limits choice client sent r n (answers (connect clean)) [] sent_receiver sent_publisher number_is j.up))

  nothing_left : (closed : Bool) (us : List Back) → us ≡ [] → AllByRecursion IsAnswer (unless_closed closed us)
  nothing_left true us e = tt
  nothing_left false us e = subst (AllByRecursion IsAnswer) (sym e) tt

  -- where the receiver is after the CONNECT
  joined_round : (number : Numbering) (ids : List CopyId) (birth : ℕ) (ns : List ℕ) (copies : List Lot)
      → IsInStep any_size ids birth ns (reads_answer limits choice w.now l.number (connect clean) r w.broker) (after_answer limits choice w.now l.number (connect clean) r w.broker)
      → HasGreeted l.number birth r.window (after_answer limits choice w.now l.number (connect clean) r w.broker)
      → IsRun number any_size copies (reads_answer limits choice w.now l.number (connect clean) r w.broker) (after_answer limits choice w.now l.number (connect clean) r w.broker)
      → LotsFit any_size copies
      → DrainsFrom number r.window ids birth ns client copies (after_round limits choice client w)
  joined_round number ids birth ns copies k g run_is fit =
      let d = after_answer limits choice w.now n (connect clean) r b in
      let p = reads_answer limits choice w.now n (connect clean) r b in
      let linked : is_linked p.line.number d ≡ true = ap (λ (o : Option ℕ). is_linked o d) number_is ∙ (linked_is n d ∙ ap linked_of (greeted_on n birth r.window d g)) in
      let c : IsConnected any_size r.window ids birth ns p d =
      connected_there number any_size r.window ids birth ns ids n p d k number_is j.apart linked (greeted_goes n birth r.window d g)
      (queue_fits any_size birth ns number copies p d k.served run_is fit) (steady_step limits choice w.now call b j.within j.steady j.unspent).lines
      (step-ordered limits choice w.now call b j.ordered) (step_keeps limits choice w.now call b j.distinct) in
      let closed = is_one_of r.line.number (told limits choice w.now call b).closed in
      let z : DrainsFrom number r.window ids birth ns client copies came = record {
        receiver = (heard sent.broker).1;
        may = record {
          named = came_receiver;
          alone = came_publisher;
          connected = subst (λ (x : Broker × Receiver). IsConnected any_size r.window ids birth ns x.1 x.0) (sym heard_same) c;
          answering = subst (λ (x : Broker × Receiver). AllByRecursion IsAnswer x.1.line.up) (sym heard_same) (nothing_left closed (drop 1 r.line.up) (ap (drop 1) j.up));
        };
        run_is = subst (λ (x : Broker × Receiver). IsRun number any_size copies x.1 x.0) (sym heard_same) run_is;
      } in
      subst (DrainsFrom number r.window ids birth ns client copies) (sym round_came) z

-- a round on a line that begins with a resumption is one of the hop
pub resumed_round : (number : Numbering) (ids : List CopyId) (birth : ℕ) (ns : List ℕ) (limits : Capacity) (choice : MemberChoice) (client : List ℕ) (copies : List Lot) (r : Receiver) (l : BrokerLine) (s : Session) (w : World)
    → MayResume limits choice ids birth ns client r l s w → IsRun number any_size copies r w.broker
    → DrainsFrom number r.window ids birth ns client (map renewed copies) (after_round limits choice client w)
resumed_round number ids birth ns limits choice client copies r l s w m h =
    let j = m.joining in
    let a = m.resuming in
    let b = w.broker in
    let its : s.birth ≡ birth = (all_at birth_of (IsOurs r.client birth) s.birth s b.records.sessions m.in_step.served.sessions a.kept.session).named a.kept.name in
    let name : r.client ≡ client = named_receiver client r w j.named in
    let own : session_named r.client b.records ≡ Some s = named_is r.client s.birth b.records s a.kept.only a.kept.session a.kept.name in
    joined_round limits choice false client r l w j a.number a.line a.waits number ids birth ns (map renewed copies) (resume_in_step any_size ids birth ns limits choice w.now [] r l s b m.in_step a j.up)
    (subst (λ (k : ℕ). HasGreeted l.number k r.window (after_answer limits choice w.now l.number (connect false) r b)) its (resumed_line limits choice w.now r l s b a))
    (connect_is_run number any_size copies limits choice w.now [] r l s b h a j.up)
    (renewed_fit any_size copies (lots_of any_size (went_in s.birth b) copies s.queue (subst (λ (o : Option Session). AreQueued copies o b) own h.queue_is) (j.fits s (ap (λ (c : List ℕ). session_named c b.records) (sym name) ∙ own))))

-- so is one that begins with a Clean Start
pub renewed_round : (number : Numbering) (ids : List CopyId) (birth : ℕ) (ns : List ℕ) (limits : Capacity) (choice : MemberChoice) (client : List ℕ) (copies : List Lot) (r : Receiver) (l : BrokerLine) (s : Session) (w : World)
    → MayRenew limits choice ids birth ns client r l s w → IsRun number any_size copies r w.broker
    → DrainsFrom number r.window ids (suc w.broker.records.births) ns client (map cut copies) (after_round limits choice client w)
renewed_round number ids birth ns limits choice client copies r l s w m h =
    let j = m.joining in
    let a = m.renewing in
    let b = w.broker in
    joined_round limits choice true client r l w j a.resuming.number a.resuming.line a.resuming.waits number ids (suc b.records.births) ns (map cut copies) (renewal_in_step any_size ids birth ns limits choice w.now [] r l s b m.in_step a j.up)
    (renewed_line limits choice w.now r l s b a)
    (renewal_is_run number any_size copies limits choice w.now [] r l s b h a j.up)
    (cut_fit any_size copies)

-- ---- how many copies stand

cut_length : (copies : List Lot) → length (queue_of (map cut copies)) ≡ 0
cut_length [] = refl
cut_length (standing e m ∷ ls) = cut_length ls
cut_length (past x e m ∷ ls) = cut_length ls

left_before : (number : Numbering) (largest : ℕ) (client : List ℕ) (copies : List Lot) (r : Receiver) (l : BrokerLine) (s : Session) (w : World) → receiver_named client w ≡ Some r → IsResuming r l s w.broker → IsRun number largest copies r w.broker
    → copies_left client w ≡ length (queue_of copies)
left_before number largest client copies r l s w named a h =
    let b = w.broker in
    let name : r.client ≡ client = named_receiver client r w named in
    let its : session_named r.client b.records ≡ Some s = named_is r.client s.birth b.records s a.kept.only a.kept.session a.kept.name in
    let found : session_named client b.records ≡ Some s = ap (λ (c : List ℕ). session_named c b.records) (sym name) ∙ its in
    ap copies_by found ∙ long_is copies s.queue (went_in s.birth b) (subst (λ (o : Option Session). AreQueued copies o b) its h.queue_is)

-- ---- the drain

module _ (ids : List CopyId) (birth : ℕ) (ns : List ℕ) (limits : Capacity) (choice : MemberChoice) (client : List ℕ) (r : Receiver) (l : BrokerLine) (s : Session) (w : World) (differ : AllDiffer ids)
    (m : MayResume limits choice ids birth ns client r l s w) where
  abbrev x : RunsWithAll (place_of ids) any_size ids birth r w.broker
  x = m.in_step.runs (place_of ids) (places_number ids differ)

  abbrev after_it : DrainsFrom (place_of ids) r.window ids birth ns client (map renewed x.after) (after_round limits choice client w)
  after_it = resumed_round (place_of ids) ids birth ns limits choice client x.after r l s w m x.run_is

  as_many : copies_left client (after_round limits choice client w) ≡ copies_left client w
  as_many =
      left_of (place_of ids) any_size r.window ids birth ns limits choice client (map renewed x.after) after_it.receiver (after_round limits choice client w) after_it.may (renewed_ids x.after ∙ x.same) after_it.run_is
      ∙ (long_renewed x.after ∙ sym (left_before (place_of ids) any_size client x.after r l s w m.joining.named m.resuming x.run_is))

  resumed_within : (most : ℕ) → 1 ≤ r.window → rounds_taken limits choice client most w ≤ enough_rounds (copies_left client w)
  resumed_within most room =
      subst (λ (k : ℕ). rounds_taken limits choice client most w ≤ enough_rounds k) as_many
      (drain_within_later any_size r.window ids birth ns limits choice client most after_it.receiver w room differ after_it.may)

  resumed_over : (most : ℕ) → 1 ≤ r.window → enough_rounds (copies_left client w) ≤ most → is_over client (drained limits choice client most w) ≡ true
  resumed_over most room enough =
      drain_over_later any_size r.window ids birth ns limits choice client most after_it.receiver w room differ after_it.may (subst (λ (k : ℕ). enough_rounds k ≤ most) (sym as_many) enough)

-- a drain behind a CONNECT ends within its bound
pub connect_is_within : (ids : List CopyId) (birth : ℕ) (ns : List ℕ) (limits : Capacity) (choice : MemberChoice) (client : List ℕ) (most : ℕ) (r : Receiver) (l : BrokerLine) (s : Session) (w : World) → 1 ≤ r.window → AllDiffer ids
    → MayResume limits choice ids birth ns client r l s w → rounds_taken limits choice client most w ≤ enough_rounds (copies_left client w)
connect_is_within ids birth ns limits choice client most r l s w room differ m = resumed_within ids birth ns limits choice client r l s w differ m most room

-- and is over then
pub connect_is_over : (ids : List CopyId) (birth : ℕ) (ns : List ℕ) (limits : Capacity) (choice : MemberChoice) (client : List ℕ) (most : ℕ) (r : Receiver) (l : BrokerLine) (s : Session) (w : World) → 1 ≤ r.window → AllDiffer ids
    → MayResume limits choice ids birth ns client r l s w → enough_rounds (copies_left client w) ≤ most → is_over client (drained limits choice client most w) ≡ true
connect_is_over ids birth ns limits choice client most r l s w room differ m enough = resumed_over ids birth ns limits choice client r l s w differ m most room enough

-- a copy on a new connection is the same
renewed_from : (largest : ℕ) (moments : List ℕ) (o p : Option Lot) → EndsBy largest moments (option_map renewed o) p → EndsBy largest moments o p
renewed_from largest moments None p a = tt
renewed_from largest moments (Some (standing e m)) None a = a
renewed_from largest moments (Some (standing e m)) (Some (standing f k)) a = a
renewed_from largest moments (Some (standing e m)) (Some (past x f k)) a = a
renewed_from largest moments (Some (past x e m)) None a = a
renewed_from largest moments (Some (past x e m)) (Some (standing f k)) a = a
renewed_from largest moments (Some (past x e m)) (Some (past y f k)) a = a

-- with an empty queue
pub connect_is_drained : (number : Numbering) (ids : List CopyId) (birth : ℕ) (ns : List ℕ) (limits : Capacity) (choice : MemberChoice) (client : List ℕ) (copies : List Lot) (most : ℕ) (r : Receiver) (l : BrokerLine) (s : Session) (w : World)
    → 1 ≤ r.window → MayResume limits choice ids birth ns client r l s w → map id_of copies ≡ ids → IsRun number any_size copies r w.broker → is_over client w ≡ false
    → IsDrained number any_size r.window ids birth ns client (moment_of w) copies (drained limits choice client (suc most) w)
connect_is_drained number ids birth ns limits choice client copies most r l s w room m same h o =
    let v = after_round limits choice client w in
    let d = resumed_round number ids birth ns limits choice client copies r l s w m h in
    let y = drain_is number any_size r.window ids birth ns limits choice client (map renewed copies) d.receiver v d.may (renewed_ids copies ∙ same) d.run_is most room in
    let now : moment_of v ≡ moment_of w = round_moment limits choice client w in
    let z : IsDrained number any_size r.window ids birth ns client (moment_of w) copies (drained limits choice client most v) = record {
      receiver = y.receiver;
      may = y.may;
      after = y.after;
      same = y.same;
      run_is = y.run_is;
      ends = λ n. renewed_from any_size (moment_of w ∷ []) (slice_get copies n) (slice_get y.after n)
          (subst (λ (k : ℕ). EndsBy any_size (k ∷ []) (option_map renewed (slice_get copies n)) (slice_get y.after n)) now
          (subst (λ (x : Option Lot). EndsBy any_size (moment_of v ∷ []) x (slice_get y.after n)) (slice_get-map renewed copies n) (y.ends n)));
    } in
    subst (IsDrained number any_size r.window ids birth ns client (moment_of w) copies) (sym (more_rounds limits choice client most w o)) z

-- ---- a drain that is over

module _ (limits : Capacity) (choice : MemberChoice) (client : List ℕ) (v : World) (over : is_over client v ≡ true) where
  over_rounds : (most : ℕ) → rounds_taken limits choice client most v ≡ 0
  over_rounds zero = refl
  over_rounds (suc more) = rw over refl

  over_drained : (most : ℕ) → drained limits choice client most v ≡ v
  over_drained zero = refl
  over_drained (suc more) = rw over refl

none_over : (client : List ℕ) (w : World) → copies_left client w ≡ 0 → is_over client w ≡ true
none_over client w none = ap (λ (k : ℕ). is_none_left k || not (line_stands (receiver_named client w) w)) none

-- so is one behind a Clean Start
pub renewal_is_over : (ids : List CopyId) (birth : ℕ) (ns : List ℕ) (limits : Capacity) (choice : MemberChoice) (client : List ℕ) (most : ℕ) (r : Receiver) (l : BrokerLine) (s : Session) (w : World) → AllDiffer ids
    → MayRenew limits choice ids birth ns client r l s w → is_over client w ≡ false
    → (rounds_taken limits choice client (suc most) w ≡ 1) × (drained limits choice client (suc most) w ≡ after_round limits choice client w) × (is_over client (after_round limits choice client w) ≡ true)
renewal_is_over ids birth ns limits choice client most r l s w differ m o =
    let number = place_of ids in
    let x = m.in_step.runs number (places_number ids differ) in
    let v = after_round limits choice client w in
    let d = renewed_round number ids birth ns limits choice client x.after r l s w m x.run_is in
    let none : copies_left client v ≡ 0 = left_of number any_size r.window ids (suc w.broker.records.births) ns limits choice client (map cut x.after) d.receiver v d.may (cut_ids x.after ∙ x.same) d.run_is ∙ cut_length x.after in
    let over = none_over client v none in
    (rw o (ap suc (over_rounds limits choice client v over most)), more_rounds limits choice client most w o ∙ over_drained limits choice client v over most, over)

-- a client without a session has nothing to drain
pub none_drained : (limits : Capacity) (choice : MemberChoice) (client : List ℕ) (most : ℕ) (w : World) → session_named client w.broker.records ≡ None
    → (rounds_taken limits choice client most w ≡ 0) × (drained limits choice client most w ≡ w)
none_drained limits choice client most w none =
    let over = none_over client w (ap copies_by none) in
    (over_rounds limits choice client w over most, over_drained limits choice client w over most)
