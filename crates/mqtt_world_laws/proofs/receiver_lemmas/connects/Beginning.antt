-- The broker reads CONNECT on a receiver's line, and a new session begins there: what the receiver sees of it is that event
-- of its hop (MQTT 5.0, 3.1.2.4, 3.2.2.1.1).
use Rattle.std.proofs.Common.{◌≡◌, ℕ, suc, ◌<◌, Bool, true, false, cond, ◌||◌, List, [], ◌∷◌, ◌++◌, drop, length, map, Option, Some, None, nat_eq, nat_lt, refl, sym, ap, subst, ◌∙◌, append-nil, arith}
use Rattle.std.specs.Prelude.{filter_map, is_some, option_map}
use Rattle.std.specs.List.{AllByRecursion, starts_with}
use Rattle.std.proofs.lemmas.Bool.{lt-ltb, ltb-true}
use Rattle.std.proofs.lemmas.Cmp.{nat_eq_equiv}
use Rattle.mqtt_base.specs.Codes.{quota_exceeded, success}
use Rattle.mqtt_base.specs.declared.limits.TheConstants.{SESSION_LIMIT}
use Rattle.mqtt_base.specs.declared.session.CopyId.{CopyId}
use Rattle.mqtt_packet.specs.declared.codec.packet.Packet.{Packet}
use Rattle.mqtt_packet.specs.declared.connect.connect.Connect.{Connect as Greeting}
use Rattle.mqtt_flow.specs.outbound.OutboundWorld.{Lot, World as Hop, connects, cut, made_new, past, standing, start, step, to_broker, up_comes}
use Rattle.mqtt_flow.specs.outbound.Receiver.{Answer, connack, connect, spared}
use Rattle.mqtt_world_model.specs.model.Ends.{Back, Receiver, answers, wire_back}
use Rattle.mqtt_world_model.specs.model.Hops.{IsOnly}
use Rattle.mqtt_world_model.specs.model.Lines.{is_one_of, sent_to, unless_closed}
use Rattle.mqtt_world_model.specs.model.World.{taken_up}
use Rattle.mqtt_world_model.proofs.model_lemmas.connects.Connects.{greeted_line, heard_on_line}
use Rattle.mqtt_world_model.proofs.model_lemmas.connects.FirstConnects.{only_none}
use Rattle.mqtt_world_model.proofs.model_lemmas.others.Names.{only_deeds}
use Rattle.mqtt_world_model.proofs.model_lemmas.own.OwnStep.{heard_of}
use Rattle.mqtt_world_model.proofs.model_lemmas.own.Publishes.{act_none}
use Rattle.mqtt_world_model.proofs.model_lemmas.others.Quiet.{session_on}
use Rattle.mqtt_world_model.proofs.model_lemmas.seats.Seeing.{linked_of}
use Rattle.mqtt_records.specs.state.Records.{put_session}
use Rattle.mqtt_records.specs.state.Session.{auto, birth_of, fresh, with_columns}
use Rattle.mqtt_records.specs.declared.state.records.Records.{Records}
use Rattle.mqtt_records.specs.declared.state.session.Columns.{Columns}
use Rattle.mqtt_records.specs.declared.state.session.Session.{Session}
use Rattle.mqtt_records.proofs.lists_lemmas.LookUps.{row_at-put_row}
use Rattle.mqtt_records.specs.lists.Order.{change_row, has_row, put_row, row_at}
use Rattle.mqtt_rules.proofs.step_lemmas.acts.Goods.{after_append}
use Rattle.mqtt_rules.proofs.step_lemmas.numbers.NumberBirths.{below_none}
use Rattle.mqtt_rules.specs.step.Closing.{settle}
use Rattle.mqtt_rules.specs.step.Connect.{begin, begin_named, clear, connack_properties, connect_by, joins, joins_after, of_client, on_connect, prepare, refused, take_over}
use Rattle.mqtt_rules.specs.step.Deeds.{Act, Deed, Hear, On, after_all, closing, line_after, on_line, only_if, output, with_session}
use Rattle.mqtt_rules.specs.step.Numbers.{HasGivenBirths}
use Rattle.mqtt_rules.specs.step.Packets as packets_of
use Rattle.mqtt_rules.specs.step.State.{Line as BrokerLine, Broker, Env, MemberChoice, session_at, session_named}
use Rattle.mqtt_rules.specs.step.Step.{Input, at_moment, deeds, env_of, stepped}
use Rattle.mqtt_rules.specs.declared.step.Capacity.{Capacity}
use Rattle.mqtt_topic.specs.names.Names.{is_empty}
use Rattle.mqtt_world_laws.specs.receiver.Calls.{IsBeginning}
use Rattle.mqtt_world_laws.specs.receiver.Entering.{AreKnown, Receives}
use Rattle.mqtt_world_laws.specs.receiver.Handing.{IsRun, RunsOn, after_answer, reads_answer}
use Rattle.mqtt_world_laws.specs.receiver.Seen.{Numbering, StandOn, answered, heard_in, seen, still_standing}
use Rattle.mqtt_world_laws.specs.receiver.Tags.{AreNumbered, AreTagged, IsTagged, id_of}
use Rattle.mqtt_world_laws.proofs.receiver_lemmas.own.Answering.{IsAsideOf, its_went}
use Rattle.mqtt_world_laws.proofs.receiver_lemmas.others.Calling.{Makes, called_queue, called_seen, called_tags, hop_called}
use Rattle.mqtt_world_laws.proofs.receiver_lemmas.queue.Known.{receives_after}
use Rattle.mqtt_world_laws.proofs.receiver_lemmas.queue.Pumps.{down_first}
use Rattle.mqtt_world_laws.proofs.receiver_lemmas.connects.Refusals.{run_append}
use Rattle.mqtt_world_laws.proofs.receiver_lemmas.own.OldAnswers.{aside_lines, untold}
use Rattle.mqtt_world_laws.proofs.receiver_lemmas.connects.Resuming.{Beside, IsOffIt, Takes, begin_is, beginning, call_is, greeted_went, greeting, new_row, refused_not, went_at, went_at_heard}

-- ---- the copies of a session that ended

still_cut : (copies : List Lot) → still_standing (map cut copies) ≡ []
still_cut [] = refl
still_cut (standing e m ∷ ls) = still_cut ls
still_cut (past ending e m ∷ ls) = still_cut ls

-- copies that were cut off are the same copies
pub cut_ids : (copies : List Lot) → map id_of (map cut copies) ≡ map id_of copies
cut_ids [] = refl
cut_ids (standing e m ∷ ls) = ap (λ (cs : List CopyId). e.copy.id ∷ cs) (cut_ids ls)
cut_ids (past ending e m ∷ ls) = ap (λ (cs : List CopyId). e.copy.id ∷ cs) (cut_ids ls)

-- ---- a new session

fresh_at : (row : Columns) (ss : List Session) → row_at birth_of row.birth ss ≡ None → length ss < SESSION_LIMIT → row_at birth_of row.birth (put_session row ss) ≡ Some (fresh row)
fresh_at row ss new less =
    let not_there : has_row birth_of row.birth ss ≡ false = ap is_some new in
    let room : (has_row birth_of row.birth ss || nat_lt (length ss) SESSION_LIMIT) ≡ true = either (has_row birth_of row.birth ss) (lt-ltb (length ss) SESSION_LIMIT less) in
    let is : put_session row ss ≡ put_row birth_of SESSION_LIMIT (fresh row) ss =
    ap (λ (t : Bool). cond t (change_row birth_of row.birth (with_columns row) ss) (put_row birth_of SESSION_LIMIT (fresh row) ss)) not_there in
    ap (row_at birth_of row.birth) is
    ∙ (row_at-put_row birth_of SESSION_LIMIT row.birth (fresh row) ss room
    ∙ ap (λ (t : Bool). cond t (Some (fresh row)) (row_at birth_of row.birth ss)) (nat_eq_equiv.refl row.birth))
  where
    either : (x : Bool) {y : Bool} → y ≡ true → (x || y) ≡ true
    either true e = refl
    either false e = e

-- ---- a session begins after these deeds

-- what comes before: no session of the name is left, and there is a place for a new one, which nobody has had
pub record Clears (limits : Capacity) (choice : MemberChoice) (now : ℕ) (clean : Bool) (r : Receiver) (l : BrokerLine) (b : Broker) (front : List Deed) (ns : List ℕ) : Type 0 where
  pub deeds_are : deeds limits choice now (Input l.number (wire_back r.client r.window r.aliases (answers (connect clean)))) b
      ≡ On l.number Hear ∷ (front ++ beginning l r.window r.aliases r.client (suc (after_all front (heard_of now l.number b)).records.births))
  pub none : session_named r.client (after_all front (heard_of now l.number b)).records ≡ None
  pub births : HasGivenBirths (after_all front (heard_of now l.number b)).records
  pub room : length (after_all front (heard_of now l.number b)).records.sessions < SESSION_LIMIT
  pub waits : session_on l.number (after_all front (heard_of now l.number b)).lines ≡ Some None
  pub went : went_at l.number (after_all front (heard_of now l.number b)).lines ≡ Some []
  pub off : AllByRecursion (IsOffIt (suc (after_all front (heard_of now l.number b)).records.births)) (after_all front (heard_of now l.number b)).lines
  pub untold : (new : Broker) (ds : List Deed) → sent_to (Some l.number) new (filter_map output (front ++ ds)) ≡ sent_to (Some l.number) new (filter_map output ds)
  pub closings : (ds : List Deed) → filter_map closing ds ≡ [] → filter_map closing (front ++ ds) ≡ ns
  pub open_still : is_one_of (Some l.number) ns ≡ false
  pub old : filter_map answered (unless_closed (is_one_of r.line.old_number ns) r.line.old) ≡ spared (filter_map answered r.line.old)

module _ (number : Numbering) (largest : ℕ) (copies : List Lot) (limits : Capacity) (choice : MemberChoice) (now : ℕ) (clean : Bool) (rest : List Back) (r : Receiver)
    (l : BrokerLine) (b : Broker) (number_is : r.line.number ≡ Some l.number) where
  abbrev n : ℕ
  n = l.number

  abbrev packet : Packet
  packet = wire_back r.client r.window r.aliases (answers (connect clean))

  abbrev q : Receiver
  q = record r { line = taken_up r.line }

  abbrev first : Broker
  first = at_moment now b

  abbrev heard_first : Broker
  heard_first = heard_of now n b

  abbrev new : Broker
  new = stepped limits choice now (Input n packet) b

  abbrev ids : List CopyId
  ids = map id_of copies

  abbrev copies2 : List Lot
  copies2 = map cut copies

  abbrev w : Hop
  w = seen number copies r b

  module _ (front : List Deed) (ns : List ℕ) (c : Clears limits choice now clean r l b front ns) where
    abbrev d : Broker
    d = after_all front heard_first

    abbrev birth : ℕ
    birth = suc d.records.births

    abbrev row : Columns
    row = new_row birth r.client

    abbrev begins : List Deed
    begins = beginning l r.window r.aliases r.client birth

    abbrev all_deeds : List Deed
    all_deeds = On n Hear ∷ (front ++ begins)

    abbrev end : Broker
    end = after_all begins d

    ends : after_all all_deeds first ≡ end
    ends = after_append front begins heard_first

    found_end : session_at birth end.records ≡ Some (fresh row)
    found_end = fresh_at row d.records.sessions (below_none birth_of birth d.records.sessions c.births) c.room

    only_end : IsOnly r.client birth end.records
    only_end = only_deeds r.client birth begins d ((λ same. refl), (tt, (tt, tt))) (only_none r.client birth d.records.sessions c.none)

    told_is : filter_map (heard_in number) (sent_to (Some n) new (filter_map output all_deeds)) ≡ connack false ∷ []
    told_is =
        ap (filter_map (heard_in number)) (c.untold new begins)
        ∙ ap (filter_map (heard_in number)) (down_first n new (packets_of.connack false success (connack_properties false r.client)) [])

    tagged_are : AllByRecursion (IsTagged number ids) (sent_to (Some n) new (filter_map output all_deeds))
    tagged_are =
        subst (AllByRecursion (IsTagged number ids)) (sym (c.untold new begins))
        (subst (AllByRecursion (IsTagged number ids)) (sym (down_first n new (packets_of.connack false success (connack_properties false r.client)) [])) (tt, tt))

    closes_are : filter_map closing all_deeds ≡ ns
    closes_are = c.closings begins refl

    went_ends : its_went birth (after_all (deeds limits choice now (Input n packet) b) first).lines ≡ Some []
    went_ends =
        ap (λ (ds : List Deed). its_went birth (after_all ds first).lines) c.deeds_are
        ∙ (ap (λ (x : Broker). its_went birth x.lines) ends ∙ greeted_went d.now n birth 0 r.window 0xffffffff 0 d.lines c.off c.went)

    makes : Makes number copies2 ids limits choice now (Input n packet) q n birth b (connack false ∷ []) false (is_one_of r.line.old_number ns)
    makes = record {
      number_is = number_is;
      session = fresh row;
      found = ap (λ (ds : List Deed). session_at birth (after_all ds first).records) c.deeds_are ∙ (ap (λ (x : Broker). session_at birth x.records) ends ∙ found_end);
      client = refl;
      birth_is = refl;
      only = subst (λ (ds : List Deed). IsOnly r.client birth (after_all ds first).records) (sym c.deeds_are) (subst (λ (x : Broker). IsOnly r.client birth x.records) (sym ends) only_end);
      queued =
          subst (λ (z : Option (List ℕ)). StandOn copies2 [] z) (sym went_ends) (still_cut copies);
      linked = ap (λ (ds : List Deed). linked_of (session_on n (after_all ds first).lines)) c.deeds_are
          ∙ (ap (λ (x : Broker). linked_of (session_on n x.lines)) ends ∙ ap linked_of (greeted_line d.now n birth 0 r.window 0xffffffff 0 d.lines c.waits));
      heard = ap (λ (ds : List Deed). filter_map (heard_in number) (sent_to (Some n) new (filter_map output ds))) c.deeds_are ∙ told_is;
      tagged = subst (λ (ds : List Deed). AllByRecursion (IsTagged number ids) (sent_to (Some n) new (filter_map output ds))) (sym c.deeds_are) tagged_are;
      closes = ap (λ (ds : List Deed). is_one_of (Some n) (filter_map closing ds)) c.deeds_are ∙ (ap (is_one_of (Some n)) closes_are ∙ c.open_still);
      closes_old = ap (λ (ds : List Deed). is_one_of r.line.old_number (filter_map closing ds)) c.deeds_are ∙ ap (is_one_of r.line.old_number) closes_are;
    }

    -- a session that begins on its line may receive
    pub begins_receives : Receives (reads_answer limits choice now l.number (connect clean) r b) (after_answer limits choice now l.number (connect clean) r b)
    begins_receives =
        let m = makes in
        receives_after (reads_answer limits choice now l.number (connect clean) r b) birth limits choice now (Input n packet) b m.session m.found m.client m.birth_is m.only
        (subst (AreKnown m.session.queue) (sym went_ends) tt)

    -- wherever the receiver is
    pub begins_takes : ((m : ℕ) → nat_eq l.number m ≡ false → Beside number (map id_of copies) limits choice now (Input l.number (wire_back r.client r.window r.aliases (answers (connect clean)))) m b (is_one_of (Some m) ns))
        → Takes number (map cut copies) (map id_of copies) limits choice now (Input l.number (wire_back r.client r.window r.aliases (answers (connect clean)))) r.client l.number (suc (after_all front (heard_of now l.number b)).records.births) ns b
    begins_takes beside =
        let m = makes in
        record {
          session = m.session;
          found = m.found;
          client = m.client;
          birth_is = m.birth_is;
          only = m.only;
          queued = m.queued;
          known = subst (AreKnown m.session.queue) (sym went_ends) tt;
          closes = ap (filter_map closing) c.deeds_are ∙ closes_are;
          beside = beside;
        }

    -- the hop makes a new session too
    pub begins_is : IsRun number largest copies r b → r.line.up ≡ answers (connect clean) ∷ rest → step largest w (to_broker false) ≡ made_new (filter_map answered rest) w
        → IsRun number largest copies2 (reads_answer limits choice now l.number (connect clean) r b) (after_answer limits choice now l.number (connect clean) r b)
    begins_is h up hop =
        let e = to_broker false in
        let ups : filter_map answered (drop 1 r.line.up) ≡ filter_map answered rest = ap (λ (xs : List Back). filter_map answered (drop 1 xs)) up in
        let olds = c.old in
        let makes_new : hop_called number copies2 ids limits choice now (Input n packet) q n birth b (connack false ∷ []) false (is_one_of r.line.old_number ns) ≡ made_new (filter_map answered rest) w =
        λ i. record w { copies = copies2; stands = true; linked = true; up = ups i; down = w.down ++ connack false ∷ []; old = olds i } in
        record {
          events = h.events ++ e ∷ [];
          seen_is = called_seen number copies2 ids limits choice now (Input n packet) q n birth b (connack false ∷ []) false (is_one_of r.line.old_number ns) makes
              ∙ (makes_new ∙ (sym hop ∙ (ap (λ (v : Hop). step largest v e) h.seen_is ∙ sym (run_append largest h.events (e ∷ []) start))));
          queue_is = called_queue number copies2 ids limits choice now (Input n packet) q n birth b (connack false ∷ []) false (is_one_of r.line.old_number ns) makes;
          numbered = subst (AreNumbered number) (sym (cut_ids copies)) h.numbered;
          tagged = subst (λ (cs : List CopyId). AreTagged number cs (reads_answer limits choice now n (connect clean) r b)) (sym (cut_ids copies))
              (called_tags number copies2 ids limits choice now (Input n packet) q n birth b (connack false ∷ []) false (is_one_of r.line.old_number ns) makes
              (record { down = h.tagged.down; ledger = h.tagged.ledger; once = h.tagged.once }));
        }

    -- a CONNECT by which a new session begins is that event of the hop
    pub begins_run : IsRun number largest copies r b → r.line.up ≡ answers (connect clean) ∷ rest → step largest w (to_broker false) ≡ made_new (filter_map answered rest) w
        → RunsOn number largest copies (reads_answer limits choice now l.number (connect clean) r b) (after_answer limits choice now l.number (connect clean) r b)
    begins_run h up hop = record { after = copies2; same = cut_ids copies; run_is = begins_is h up hop }

-- ---- no session of its name stands: one begins

-- nothing becomes of another line
pub first_beside : (number : Numbering) (ids : List CopyId) (limits : Capacity) (choice : MemberChoice) (now : ℕ) (clean : Bool) (r : Receiver) (l : BrokerLine) (b : Broker) → Clears limits choice now clean r l b [] []
    → (m : ℕ) → nat_eq l.number m ≡ false → Beside number ids limits choice now (Input l.number (wire_back r.client r.window r.aliases (answers (connect clean)))) m b false
first_beside number ids limits choice now clean r l b c m other =
    let call = Input l.number (wire_back r.client r.window r.aliases (answers (connect clean))) in
    let ds = deeds limits choice now call b in
    let new = stepped limits choice now call b in
    let aside : AllByRecursion (IsAsideOf m) ds = subst (AllByRecursion (IsAsideOf m)) (sym c.deeds_are) (other, (tt, (other, (other, tt)))) in
    let x = untold m new ds aside in
    record {
      told = ap (filter_map (heard_in number)) x.told;
      tagged = subst (AllByRecursion (IsTagged number ids)) (sym x.told) tt;
      line_is = aside_lines m ds (at_moment now b) aside;
    }

-- for a client without a session nothing is prepared
pub prepare_none : (env : Env) (clean : Bool) (client : List ℕ) (window aliases : ℕ) (b : Broker) → session_named client b.records ≡ None → prepare env (greeting clean client window aliases) b ≡ []
prepare_none env clean client window aliases b none =
    let first : Act = of_client client (take_over env) in
    let second : Act = of_client client (λ z. settle env z.birth) in
    let third : Act = only_if clean (of_client client (clear env)) in
    act_none first (second ∷ third ∷ []) b (ap (λ (z : Option Session). with_session z (take_over env) b) none)
    ∙ (act_none second (third ∷ []) b (ap (λ (z : Option Session). with_session z (λ y. settle env y.birth) b) none) ∙ act_none third [] b (cleared clean))
  where
    cleared : (t : Bool) → only_if t (of_client client (clear env)) b ≡ []
    cleared true = ap (λ (z : Option Session). with_session z (clear env) b) none
    cleared false = refl

begins_by_room : (t e : Bool) (l : BrokerLine) (c : Greeting) (r : Records) → t ≡ true → e ≡ false
    → cond t ([] ++ begin_named e l c r) (refused l c quota_exceeded) ≡ begin l c false c.client_identifier (suc r.births)
begins_by_room false e l c r room is = absurd cc
begins_by_room true e l c r room is = ap (λ (x : Bool). begin_named x l c r) is

connect_begins : (env : Env) (l : BrokerLine) (clean : Bool) (client : List ℕ) (window aliases : ℕ) (b : Broker)
    → session_named client b.records ≡ None → nat_lt 64 (length client) ≡ false → starts_with nat_eq client auto ≡ false → is_empty client ≡ false → nat_lt (length b.records.sessions) env.limits.sessions ≡ true
    → on_connect env l (greeting clean client window aliases) b ≡ beginning l window aliases client (suc b.records.births)
connect_begins env l clean client window aliases b none short plain some room =
    let c = greeting clean client window aliases in
    ap (λ (z : Option ℕ). connect_by z env l c b) (refused_not clean client window aliases b.records short plain)
    ∙ (ap (λ (ds : List Deed). joins_after env l c b.now ds (after_all ds b).records) (prepare_none env clean client window aliases b none)
    ∙ (ap (λ (z : Option Session). joins env l c b.now [] b.records z) none
    ∙ (begins_by_room (nat_lt (length b.records.sessions) env.limits.sessions) (is_empty client) l c b.records room some ∙ begin_is l clean client window aliases (suc b.records.births))))

none_closed : (o : Option ℕ) → is_one_of o [] ≡ false
none_closed None = refl
none_closed (Some m) = refl

-- hearing a line keeps a session off it
pub off_heard : (k now n : ℕ) (ls : List BrokerLine) → AllByRecursion (IsOffIt k) ls → AllByRecursion (IsOffIt k) (on_line now n Hear ls)
off_heard k now n [] h = tt
off_heard k now n (l ∷ ls) h = by (nat_eq l.number n) (off_heard k now n ls h.1)
  where
    by : (here : Bool) → AllByRecursion (IsOffIt k) (on_line now n Hear ls) → AllByRecursion (IsOffIt k) (cond here (line_after now Hear l ∷ ls) (l ∷ on_line now n Hear ls))
    by true g = (h.0, h.1)
    by false g = (h.0, g)

-- a first CONNECT leaves a new, empty session on its line
pub first_clears : (limits : Capacity) (choice : MemberChoice) (now : ℕ) (clean : Bool) (r : Receiver) (l : BrokerLine) (b : Broker)
    → IsBeginning limits r l b → nat_lt (length b.records.sessions) limits.sessions ≡ true → Clears limits choice now clean r l b [] []
first_clears limits choice now clean r l b a room =
    let n = l.number in
    let first = at_moment now b in
    let heard_first = heard_of now n b in
    let env = env_of limits choice b in
    let on : session_on n b.lines ≡ Some None = ap (option_map (λ (x : BrokerLine). x.session)) a.line ∙ ap Some a.waits in
    let less = ltb-true (length b.records.sessions) limits.sessions room in
    let within = a.within in
    let begun = connect_begins env l clean r.client r.window r.aliases heard_first a.none a.short a.plain a.some room in
    let is : deeds limits choice now (Input n (wire_back r.client r.window r.aliases (answers (connect clean)))) b
    ≡ On n Hear ∷ beginning l r.window r.aliases r.client (suc b.records.births) =
    call_is limits choice now clean r.client r.window r.aliases l b a.line a.waits
    ∙ (ap (λ (ds : List Deed). On n Hear ∷ ds) (append-nil (on_connect env l (greeting clean r.client r.window r.aliases) heard_first)) ∙ ap (λ (ds : List Deed). On n Hear ∷ ds) begun) in
    record {
      deeds_are = is;
      none = a.none;
      births = a.births;
      room = omega (arith, less, within);
      waits = heard_on_line n first.now b.lines None on;
      went = went_at_heard first.now n b.lines ∙ (ap (option_map (λ (x : BrokerLine). x.went)) a.line ∙ ap Some a.fresh);
      off = off_heard (suc b.records.births) first.now n b.lines a.unused;
      untold = λ new ds. refl;
      closings = λ ds none. none;
      open_still = refl;
      old = ap (λ (t : Bool). filter_map answered (unless_closed t r.line.old)) (none_closed r.line.old_number) ∙ a.old;
    }

-- a first CONNECT goes on as a new run of the hop
pub first_begins : (number : Numbering) (largest : ℕ) (copies : List Lot) (limits : Capacity) (choice : MemberChoice) (now : ℕ) (clean : Bool) (rest : List Back) (r : Receiver) (l : BrokerLine) (b : Broker)
    → IsRun number largest copies r b → IsBeginning limits r l b → nat_lt (length b.records.sessions) limits.sessions ≡ true → r.line.up ≡ answers (connect clean) ∷ rest
    → RunsOn number largest copies (reads_answer limits choice now l.number (connect clean) r b) (after_answer limits choice now l.number (connect clean) r b)
first_begins number largest copies limits choice now clean rest r l b h a room up =
    let w = seen number copies r b in
    begins_run number largest copies limits choice now clean rest r l b a.number [] [] (first_clears limits choice now clean r l b a room) h up
    (ap (λ (xs : List Answer). up_comes false xs w) (ap (filter_map answered) up)
    ∙ ap (λ (z : Bool). connects z clean false (filter_map answered rest) w) (ap is_some a.none))

-- and it may receive more
pub first_receives : (number : Numbering) (largest : ℕ) (copies : List Lot) (limits : Capacity) (choice : MemberChoice) (now : ℕ) (clean : Bool) (rest : List Back) (r : Receiver) (l : BrokerLine) (b : Broker)
    → IsRun number largest copies r b → IsBeginning limits r l b → nat_lt (length b.records.sessions) limits.sessions ≡ true → r.line.up ≡ answers (connect clean) ∷ rest
    → Receives (reads_answer limits choice now l.number (connect clean) r b) (after_answer limits choice now l.number (connect clean) r b)
first_receives number largest copies limits choice now clean rest r l b h a room up =
    begins_receives number largest copies limits choice now clean rest r l b a.number [] [] (first_clears limits choice now clean r l b a room)
