-- A whole call of others: what the receiver and its session see of it is a run of their hop; it tells nothing of copies on
-- the receiver's lines.
use Rattle.std.proofs.Common.{◌≡◌, ℕ, suc, ◌≤◌, Bool, true, false, List, [], ◌∷◌, ◌++◌, map, Option, Some, None, nat_eq, refl, sym, ap, subst, ◌∙◌, append-nil, arith, inl, inr}
use Rattle.std.specs.List.{AllByRecursion, starts_with}
use Rattle.std.specs.Prelude.{filter_map}
use Rattle.std.proofs.lemmas.Bool.{cases_Bool}
use Rattle.std.proofs.lemmas.List.Elements.{filter_map-append}
use Rattle.mqtt_base.specs.declared.limits.TheConstants.{QUEUE_LIMIT}
use Rattle.mqtt_base.specs.declared.session.CopyId.{CopyId}
use Rattle.mqtt_packet.specs.declared.codec.packet.Packet.{Packet}
use Rattle.mqtt_packet.specs.declared.codec.packet.Packet.TheVariants as packets
use Rattle.mqtt_flow.specs.outbound.OutboundWorld.{Lot}
use Rattle.mqtt_flow.specs.outbound.Receiver.{Output}
use Rattle.mqtt_world_model.specs.model.Ends.{Receiver}
use Rattle.mqtt_world_model.specs.model.Hops.{IsOurs}
use Rattle.mqtt_world_model.specs.model.Lines.{copy_in, is_one_of, sent_to, unless_closed}
use Rattle.mqtt_world_model.specs.model.World.{receiver_told}
use Rattle.mqtt_world_model.proofs.model_lemmas.others.Lists.{all_find}
use Rattle.mqtt_world_model.proofs.model_lemmas.seats.Seeing.{done_lines, done_sessions}
use Rattle.mqtt_records.specs.state.Session.{auto}
use Rattle.mqtt_records.specs.declared.state.change.Change.{Change}
use Rattle.mqtt_records.specs.declared.state.session.Session.{Session}
use Rattle.mqtt_rules.proofs.step_lemmas.acts.Acts.{IsCallOf, IsPrepared, Law, MayEnd, anyone, brought_to, closing as closing_line, leads_call}
use Rattle.mqtt_rules.proofs.step_lemmas.numbers.Copies.{each_append}
use Rattle.mqtt_rules.proofs.step_lemmas.acts.Goods.{AreGood}
use Rattle.mqtt_rules.proofs.step_lemmas.fit.RowsFit.{queues_short}
use Rattle.mqtt_rules.proofs.step_lemmas.order.OrderedActs.{keeping_law}
use Rattle.mqtt_rules.proofs.step_lemmas.order.OrderedEnters.{RoomToEnter, ShortQueues}
use Rattle.mqtt_rules.proofs.step_lemmas.order.OrderedFull.{queues_keeping}
use Rattle.mqtt_rules.specs.step.Closing.{end_session, has_due_end, has_due_will}
use Rattle.mqtt_rules.specs.step.Connect.{begin_named, expiry_of, greet, will_of}
use Rattle.mqtt_rules.specs.step.Deeds.{At, Deed, Forget, FromClient, Gone, Hear, Link, On, Open, RefuseWill, Resume, Send, SetAlias, after, after_all, closing, output, rows_of_all, whose}
use Rattle.mqtt_rules.specs.step.Fitting.{pump_turns}
use Rattle.mqtt_rules.specs.step.Inbound.{pump_deeds}
use Rattle.mqtt_rules.specs.step.Outbound.{turn_deeds}
use Rattle.mqtt_rules.specs.step.Routing.{publish}
use Rattle.mqtt_rules.specs.step.State.{Line as BrokerLine, Broker, Env, MemberChoice}
use Rattle.mqtt_rules.specs.step.Step.{Call, NewLine, Input, BadInput, Lost, Pump, Tick, at_moment, deeds, env_of, outcome_of, stepped, with_moment}
use Rattle.mqtt_rules.specs.step.Subscribe as sub
use Rattle.mqtt_rules.specs.step.Tick.{is_silent}
use Rattle.mqtt_rules.specs.declared.step.Capacity.{Capacity}
use Rattle.mqtt_topic.specs.names.Names.{is_empty}
use Rattle.mqtt_world_laws.specs.receiver.Calls.{receiver_called}
use Rattle.mqtt_world_laws.specs.receiver.Entering.{IsReceiving}
use Rattle.mqtt_world_laws.specs.receiver.Handing.{IsRun}
use Rattle.mqtt_world_laws.specs.receiver.Seen.{Numbering, answered, heard, heard_in, publish_heard, seen}
use Rattle.mqtt_world_laws.specs.receiver.Served.{GoesOn, HasLines, IsCallOfOthers, IsNewCopy, IsServed, IsTidy, RunsFor, RunsWithAll}
use Rattle.mqtt_world_laws.specs.receiver.Tags.{AreNumbered, IsTagged, IsTaggedBy, IsTaggedWith, id_of}
use Rattle.mqtt_world_laws.proofs.receiver_lemmas.others.Carried.{carried_run}
use Rattle.mqtt_world_laws.proofs.receiver_lemmas.others.Others.{differ}
use Rattle.mqtt_world_laws.proofs.receiver_lemmas.others.Theirs.{line_at_another, line_of_another, named_another, no_end, no_will, others, silent_another, theirs_begin_named, theirs_closing, theirs_end, theirs_flat, theirs_greet, theirs_turn}
use Rattle.mqtt_world_laws.proofs.receiver_lemmas.others.Walk.{IsMute, IsMuteHere, IsUnheard, Kept, grants_theirs, lapses_led, publishes_led, theirs_led}

-- ---- the law of the induction over acts

module _ (largest : ℕ) (env : Env) (small : env.limits.queue ≤ QUEUE_LIMIT) (r : Receiver) (birth : ℕ) (ns : List ℕ) (ids : List CopyId) (has : HasLines ns r) where
  abbrev Stays : Broker → Type 0
  Stays b = Kept largest env small r birth ns ids has b

  abbrev Short : Broker → Type 0
  Short b = ShortQueues QUEUE_LIMIT b.records

  short_law : Law env anyone Short RoomToEnter
  short_law = keeping_law env (ShortQueues QUEUE_LIMIT) RoomToEnter (queues_keeping QUEUE_LIMIT env small small)

  may_short : (s : Session) (b : Broker) → MayEnd env Stays s b → MayEnd env Short s b
  may_short s b (inl due) = inl due
  may_short s b (inr x) = inr (record { client = x.client; before = x.before; kept = x.kept.queues; other = x.other; found = x.found; its = x.its; is = x.is; named = x.named })

  prepared_short : (l : BrokerLine) (c : _) (b : Broker) → IsPrepared env Stays l c b → IsPrepared env Short l c b
  prepared_short l c b x = record { before = x.before; kept = x.kept.queues; on = x.on; is = x.is }

  new_number : (b : Broker) → IsServed r.client birth ns b → is_one_of (Some (suc b.given)) ns ≡ false
  new_number b v = elim (cases_Bool (is_one_of (Some (suc b.given)) ns)) [
    | inl inside ↦ let le = v.given (suc b.given) inside in absurd (omega (arith, le))
    | inr outside ↦ outside
  ]

  -- that what others do leaves the receiver served is a law of the one induction
  pub served_law : starts_with nat_eq r.client auto ≡ false → Law env (others r.client birth ns) Stays (IsMuteHere ns)
  served_law plain =
      let q = short_law in
      record {
        finds = record {
          its_number = λ l its. its.number;
          its_session = λ l k its e. its.session k e;
          its_line = λ k l b h its e. line_of_another r.client birth ns k l b h.served its e;
          named = λ its s b h other e. named_another r.client birth ns its s b h.served other e;
          admitted = λ c b h came e. came;
          sent = λ l s p topic b h its came e. tt;
          willed = λ s w b h among e. tt;
        };
        client_stays = λ its ds b h led other. other;
        publishes = λ origin m ds b h said e. publishes_led largest env small r birth ns ids has origin m ds b h e;
        open_id = λ s id m ds b k h its there new is.
            theirs_led largest env small r birth ns ids has (At (whose s) (Open id) ∷ []) (after_all (publish env FromClient m ds b) b) ((its, tt), tt) (q.open_id s id m ds b k.queues h.queues tt there new is).1 h;
        refuse_will = λ who b h its. theirs_led largest env small r birth ns ids has (RefuseWill who ∷ []) b ((tt, tt), tt) (q.refuse_will who b h.queues tt).1 h;
        alone = λ who part b h its is. theirs_led largest env small r birth ns ids has (At who part ∷ []) b ((its, tt), tt) (q.alone who part b h.queues tt is).1 h;
        closes = λ keeps_will l b h its on.
            theirs_led largest env small r birth ns ids has (closing_line keeps_will l b) b (theirs_closing r.client birth ns keeps_will l l.session b its refl) (q.closes keeps_will l b h.queues tt on).1 h;
        ends = λ s b h its among may.
            theirs_led largest env small r birth ns ids has (end_session s) b (theirs_end r.client birth ns s its) (q.ends s b h.queues tt among (may_short s b may)).1 h;
        resumes = λ l c s b h its none came taken own is prepared.
            theirs_led largest env small r birth ns ids has (At (whose s) (Resume (expiry_of c) (will_of c)) ∷ greet l c s.birth ∷ []) b ((own, tt), (theirs_greet r.client birth ns l c s.birth its own, tt))
            (q.resumes l c s b h.queues tt none tt taken tt is (prepared_short l c b prepared)).1 h;
        begins = λ l c b h its none came taken name is room prepared.
            theirs_led largest env small r birth ns ids has (begin_named (is_empty c.client_identifier) l c b.records) b (theirs_begin_named r.client birth ns (is_empty c.client_identifier) l c b.records its came plain h.served.births)
            (q.begins l c b h.queues tt none tt taken tt is room (prepared_short l c b prepared)).1 h;
        grants = λ w s b h its asked granted.
            theirs_led largest env small r birth ns ids has (sub.granted_filter env (sub.next_number b.records) s w (brought_to w s b) b).deeds b (grants_theirs largest env small r birth ns ids has w s b its)
            (q.grants w s b h.queues tt (asked.0, tt, asked.2) granted).1 h;
        pumps = λ l s b h its is there.
            theirs_led largest env small r birth ns ids has (pump_deeds l b s) b (theirs_flat r.client birth ns (turn_deeds b.now l.number s) (λ t. theirs_turn r.client birth ns b.now l.number s t its.number (its.session s.birth is)) (pump_turns l b s))
            (q.pumps l s b h.queues tt is there).1 h;
        turns = λ a t l s b h its own there is e.
            theirs_led largest env small r birth ns ids has (turn_deeds b.now l.number s t) b (theirs_turn r.client birth ns b.now l.number s t its.number own) (q.turns a t l s b h.queues tt tt there is e).1 h;
        lapses = λ s b h among. lapses_led largest env small r birth ns ids has s b h among (q.lapses s b h.queues among).1;
        stale = λ x b h among. theirs_led largest env small r birth ns ids has (Forget x.place ∷ []) b ((tt, tt), tt) (q.stale x b h.queues among).1 h;
        links = λ b h can. theirs_led largest env small r birth ns ids has (Link (suc b.given) ∷ []) b ((new_number b h.served, (λ n inside. let le = h.served.given n inside in omega (arith, le))), tt) (q.links b h.queues can).1 h;
        hears = λ m b h its. theirs_led largest env small r birth ns ids has (On m Hear ∷ []) b (((its, tt), tt), tt) (q.hears m b h.queues tt).1 h;
        sets = λ m alias topic b h its said. theirs_led largest env small r birth ns ids has (On m (SetAlias alias topic) ∷ []) b (((its, tt), tt), tt) (q.sets m alias topic b h.queues tt (said.0, tt, said.2)).1 h;
        sends = λ m packet b h its. theirs_led largest env small r birth ns ids has (Send m packet ∷ []) b ((its, tt), tt) (q.sends m packet b h.queues tt).1 h;
      }

call_of_others : (client : List ℕ) (birth : ℕ) (ns : List ℕ) (call : Call) (b : Broker) → IsServed client birth ns b → IsCallOfOthers client ns call b → IsCallOf (others client birth ns) call b
call_of_others client birth ns NewLine b v q = tt
call_of_others client birth ns (Input n packet) b v q = ((λ l e. line_at_another client birth ns n l b v q.0 e), q.1)
call_of_others client birth ns (BadInput n is_connect code) b v q = λ l e. line_at_another client birth ns n l b v q e
call_of_others client birth ns (Lost n) b v q = λ l e. line_at_another client birth ns n l b v q e
call_of_others client birth ns (Pump n) b v q = λ l e. line_at_another client birth ns n l b v q e
call_of_others client birth ns Tick b v q = record {
  silent = λ l e. silent_another client birth ns l (λ (x : BrokerLine). is_silent b.now x.session x) b v e (q l e);
  wills = λ s e. let both = all_find (IsOurs client birth) (has_due_will b.now) s b.records.sessions v.sessions e in no_will client birth ns b.now s both.0 both.1;
  ends = λ s e. let both = all_find (IsOurs client birth) (has_due_end b.now) s b.records.sessions v.sessions e in no_end client birth ns b.now s both.0 both.1;
}

-- ---- what is told on its lines

heard_none : (number : Numbering) (copy : Option CopyId) (packet : Packet) → IsUnheard packet → heard number copy packet ≡ None
heard_none number copy (packets.Publish p) h = ap (publish_heard number copy p) h
heard_none number copy packet h = absurd h

tagged_none : (number : Numbering) (ids : List CopyId) (copy : Option CopyId) (packet : Packet) → IsUnheard packet → IsTaggedWith number ids copy packet
tagged_none number ids copy (packets.Publish p) h = subst (IsTaggedBy number ids copy) (sym h) tt
tagged_none number ids copy packet h = absurd h

-- nothing of copies on a line of its own, which stays open
record IsSpared (number : Numbering) (ids : List CopyId) (m : ℕ) (new : Broker) (ds : List Deed) : Type 0 where
  pub heard_is : filter_map (heard_in number) (sent_to (Some m) new (filter_map output ds)) ≡ []
  pub tagged : AllByRecursion (IsTagged number ids) (sent_to (Some m) new (filter_map output ds))
  pub stays : is_one_of (Some m) (filter_map closing ds) ≡ false

spared : (number : Numbering) (ids : List CopyId) (ns : List ℕ) (m : ℕ) (new : Broker) (ds : List Deed) (b : Broker) → is_one_of (Some m) ns ≡ true → AreGood (IsMuteHere ns) ds b
    → IsSpared number ids m new ds
spared number ids ns m new [] b inside q = record { heard_is = refl; tagged = tt; stays = refl }
spared number ids ns m new (d ∷ ds) b inside q = by d q.0 (spared number ids ns m new ds (after d b) inside q.1)
  where
    by : (x : Deed) → IsMute ns x → IsSpared number ids m new ds → IsSpared number ids m new (x ∷ ds)
    by (Send k packet) (inl outside) rest =
        let other = differ k m ns outside inside in
        record { heard_is = rw other rest.heard_is; tagged = rw other rest.tagged; stays = rest.stays }
    by (Send k packet) (inr unheard) rest = elim (cases_Bool (nat_eq k m)) [
      | inl here ↦
          let none = heard_none number (copy_in m new packet) packet unheard in
          record { heard_is = rw here (rw none rest.heard_is); tagged = rw here (tagged_none number ids (copy_in m new packet) packet unheard, rest.tagged); stays = rest.stays }
      | inr other ↦ record { heard_is = rw other rest.heard_is; tagged = rw other rest.tagged; stays = rest.stays }
    ]
    by (Gone k) outside rest = record { heard_is = rest.heard_is; tagged = rest.tagged; stays = rw (differ k m ns outside inside) rest.stays }
    by x t rest = record { heard_is = rest.heard_is; tagged = rest.tagged; stays = rest.stays }

-- the same of a line that it may have
record IsSparedOn (number : Numbering) (ids : List CopyId) (o : Option ℕ) (new : Broker) (ds : List Deed) : Type 0 where
  pub heard_is : filter_map (heard_in number) (sent_to o new (filter_map output ds)) ≡ []
  pub tagged : AllByRecursion (IsTagged number ids) (sent_to o new (filter_map output ds))
  pub stays : is_one_of o (filter_map closing ds) ≡ false

spared_on : (number : Numbering) (ids : List CopyId) (ns : List ℕ) (o : Option ℕ) (new : Broker) (ds : List Deed) (b : Broker) → ((m : ℕ) → o ≡ Some m → is_one_of (Some m) ns ≡ true) → AreGood (IsMuteHere ns) ds b
    → IsSparedOn number ids o new ds
spared_on number ids ns None new ds b inside q = record { heard_is = refl; tagged = tt; stays = refl }
spared_on number ids ns (Some m) new ds b inside q =
    let x = spared number ids ns m new ds b (inside m refl) q in
    record { heard_is = x.heard_is; tagged = x.tagged; stays = x.stays }

-- ---- the moment of a step

-- the stored moment goes on with the hop
pub moment_runs : (number : Numbering) (largest : ℕ) (copies : List Lot) (r : Receiver) (rows : List Change) (b : Broker) → IsRun number largest copies r b → IsRun number largest copies r (with_moment rows b)
moment_runs number largest copies r rows b h = carried_run number largest copies r b (with_moment rows b) (done_sessions rows b) (done_lines rows b) h

moment_receives : (r : Receiver) (s : Session) (rows : List Change) (b : Broker) → IsReceiving r s b → IsReceiving r s (with_moment rows b)
moment_receives r s [] b h = h
moment_receives r s (row ∷ rows) b h = record { session = h.session; client = h.client; only = h.only; known = h.known }

-- and leaves who is served
pub moment_served : (client : List ℕ) (birth : ℕ) (ns : List ℕ) (rows : List Change) (b : Broker) → IsServed client birth ns b → IsServed client birth ns (with_moment rows b)
moment_served client birth ns [] b h = h
moment_served client birth ns (row ∷ rows) b h = record { sessions = h.sessions; lines = h.lines; births = h.births; given = h.given }

-- what is stored leaves all copies running
pub done_all : (number : Numbering) (largest : ℕ) (all : List CopyId) (birth : ℕ) (r : Receiver) (rows : List Change) (b : Broker) → RunsWithAll number largest all birth r b → RunsWithAll number largest all birth r (with_moment rows b)
done_all number largest all birth r rows b h = record {
  after = h.after;
  same = h.same;
  run_is = moment_runs number largest h.after r rows b h.run_is;
  session = h.session;
  birth_is = h.birth_is;
  receiving = moment_receives r h.session rows b h.receiving;
}

-- and no publication more
pub moment_numbers : (rows : List Change) (b : Broker) → (with_moment rows b).records.publications ≡ b.records.publications
moment_numbers [] b = refl
moment_numbers (row ∷ rows) b = refl

-- the moment of a step leaves all copies running
pub first_runs : (number : Numbering) (largest : ℕ) (all : List CopyId) (birth : ℕ) (r : Receiver) (now : ℕ) (b : Broker) → RunsWithAll number largest all birth r b → RunsWithAll number largest all birth r (at_moment now b)
first_runs number largest all birth r now b h =
    let x = h.receiving in
    record {
      after = h.after;
      same = h.same;
      run_is = carried_run number largest h.after r b (at_moment now b) refl refl h.run_is;
      session = h.session;
      birth_is = h.birth_is;
      receiving = record { session = x.session; client = x.client; only = x.only; known = x.known };
    }

-- ---- the call

-- what others are told goes on with the hop
pub told_run : (number : Numbering) (largest : ℕ) (copies : List Lot) (ns : List ℕ) (r : Receiver) (call : Call) (ds : List Deed) (b new : Broker) → HasLines ns r → AreGood (IsMuteHere ns) ds b
    → IsRun number largest copies r new → IsRun number largest copies (receiver_told new (outcome_of call ds b) r) new
told_run number largest copies ns r call ds b new has mute h =
    let ids = map id_of copies in
    let own = spared_on number ids ns r.line.number new ds b has.own mute in
    let old = spared_on number ids ns r.line.old_number new ds b has.old mute in
    let w = seen number copies r new in
    let out = outcome_of call ds b in
    let q = receiver_told new out r in
    let sent = sent_to r.line.number new (filter_map output ds) in
    let ups : filter_map answered (unless_closed (is_one_of r.line.number out.closed) r.line.up) ≡ filter_map answered r.line.up =
    ap (λ (t : Bool). filter_map answered (unless_closed t r.line.up)) own.stays in
    let olds : filter_map answered (unless_closed (is_one_of r.line.old_number out.closed) r.line.old) ≡ filter_map answered r.line.old =
    ap (λ (t : Bool). filter_map answered (unless_closed t r.line.old)) old.stays in
    let downs : filter_map (heard_in number) (r.line.down ++ sent) ≡ filter_map (heard_in number) r.line.down =
    filter_map-append (heard_in number) r.line.down sent ∙ (ap (λ (xs : List Output). filter_map (heard_in number) r.line.down ++ xs) own.heard_is ∙ append-nil (filter_map (heard_in number) r.line.down)) in
    let same : seen number copies q new ≡ w = λ i. record w { up = ups i; down = downs i; old = olds i } in
    record {
      events = h.events;
      seen_is = same ∙ h.seen_is;
      queue_is = h.queue_is;
      numbered = h.numbered;
      tagged = record {
        down = each_append (IsTagged number ids) r.line.down sent h.tagged.down own.tagged;
        ledger = h.tagged.ledger;
        once = h.tagged.once;
      };
    }

-- for all copies
pub told_all : (number : Numbering) (largest : ℕ) (all : List CopyId) (birth : ℕ) (ns : List ℕ) (r : Receiver) (call : Call) (ds : List Deed) (b new : Broker) → HasLines ns r → AreGood (IsMuteHere ns) ds b
    → RunsWithAll number largest all birth r new → RunsWithAll number largest all birth (receiver_told new (outcome_of call ds b) r) new
told_all number largest all birth ns r call ds b new has mute h = record {
  after = h.after;
  same = h.same;
  run_is = told_run number largest h.after ns r call ds b new has mute h.run_is;
  session = h.session;
  birth_is = h.birth_is;
  receiving = record { session = h.receiving.session; client = h.receiving.client; only = h.receiving.only; known = h.receiving.known };
}

-- a call of another's leaves the hop going on
pub others_go_on : (largest : ℕ) (ids : List CopyId) (limits : Capacity) (choice : MemberChoice) (now : ℕ) (call : Call) (birth : ℕ) (ns : List ℕ) (r : Receiver) (b : Broker)
    → RunsFor largest ids birth r b → IsServed r.client birth ns b → HasLines ns r → IsTidy limits b → starts_with nat_eq r.client auto ≡ false
    → IsCallOfOthers r.client ns call (at_moment now b)
    → GoesOn largest ids birth ns b.records.publications (receiver_called limits choice now call r b) (stepped limits choice now call b)
others_go_on largest ids limits choice now call birth ns r b h v has tidy plain its =
    let env = env_of limits choice b in
    let first = at_moment now b in
    let ds = deeds limits choice now call b in
    let served : IsServed r.client birth ns first = record { sessions = v.sessions; lines = v.lines; births = v.births; given = v.given } in
    let kept : Kept largest env tidy.within r birth ns ids has first = record {
      served = served;
      queues = record { ordered = tidy.ordered; short = queues_short b.records.sessions tidy.ordered.each };
      grown = omega arith;
      more = [];
      new = tt;
      differ = tt;
      runs = λ number n. first_runs number largest (ids ++ []) birth r now b (subst (λ (all : List CopyId). RunsWithAll number largest all birth r b) (sym (append-nil ids)) (h number (subst (AreNumbered number) (append-nil ids) n)));
    } in
    let walk = leads_call env (others r.client birth ns) (Kept largest env tidy.within r birth ns ids has) (IsMuteHere ns)
    (served_law largest env tidy.within r birth ns ids has plain) call first kept (call_of_others r.client birth ns call first served its) in
    let rows = rows_of_all ds first.records in
    let c = after_all ds first in
    let new = stepped limits choice now call b in
    record {
      more = walk.1.more;
      new = subst (λ (n : ℕ). AllByRecursion (IsNewCopy birth b.records.publications n) walk.1.more) (sym (moment_numbers rows c)) walk.1.new;
      differ = walk.1.differ;
      runs = λ number n. told_all number largest (ids ++ walk.1.more) birth ns r call ds first new has walk.0 (done_all number largest (ids ++ walk.1.more) birth r rows c (walk.1.runs number n));
      served = moment_served r.client birth ns rows c walk.1.served;
    }
