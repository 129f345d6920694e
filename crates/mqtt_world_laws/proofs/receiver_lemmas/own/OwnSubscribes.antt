-- The broker reads a receiver's SUBSCRIBE: the copies of retained messages that its filter brings enter its queue, the
-- answer goes out, and the two stay in step.
use Rattle.std.proofs.Common.{◌≡◌, ℕ, suc, ◌+◌, ◌-◌, ◌≤◌, Bool, true, false, not, ◌⊎◌, List, [], ◌∷◌, ◌++◌, drop, filter, length, map, Option, Some, None, nat_eq, nat_lt, refl, sym, ap, subst, ◌∙◌, append-nil, append_assoc, arith, inl, inr}
use Rattle.std.specs.Prelude.{⊤, ◌&&◌, ◌||◌, filter_map, is_some, nat_le, slice_get}
use Rattle.std.specs.List.{AllByRecursion}
use Rattle.std.proofs.lemmas.Bool.{cases_Bool, leb-true}
use Rattle.mqtt_base.specs.Codes.{identifier_in_use, quota_exceeded, topic_filter_invalid}
use Rattle.mqtt_base.specs.declared.limits.TheConstants.{QUEUE_LIMIT, SUBSCRIPTION_LIMIT}
use Rattle.mqtt_base.specs.declared.session.CopyId.{CopyId}
use Rattle.mqtt_packet.specs.declared.codec.packet.Packet.{Packet}
use Rattle.mqtt_packet.specs.declared.codec.packet.Packet.TheVariants as packets
use Rattle.mqtt_packet.specs.subscribe.Options.{options_byte}
use Rattle.mqtt_packet.specs.subscribe.Subscriptions.{Subscription as Asked}
use Rattle.mqtt_packet.specs.declared.codec.publish.Delivery.TheVariants as delivery
use Rattle.mqtt_flow.specs.outbound.OutboundWorld.{Lot}
use Rattle.mqtt_flow.specs.outbound.Receiver.{Output}
use Rattle.mqtt_flow.specs.inbound.Identifiers.{is_among}
use Rattle.mqtt_world_model.specs.model.Ends.{Back, Receiver, Wish, asks_for, identified, wire_back}
use Rattle.mqtt_world_model.specs.model.Hops.{IsIts, IsOnly, IsOurs}
use Rattle.mqtt_world_model.specs.model.Lines.{copy_in, is_one_of, sent_to, unless_closed}
use Rattle.mqtt_world_model.specs.model.World.{receiver_told}
use Rattle.mqtt_world_model.proofs.model_lemmas.seats.Joins.{none_closed}
use Rattle.mqtt_world_model.proofs.model_lemmas.others.Names.{named_is, only_deeds}
use Rattle.mqtt_world_model.proofs.model_lemmas.own.OwnStep.{heard_of, input_is}
use Rattle.mqtt_world_model.proofs.model_lemmas.others.Quiet.{quiet_line, session_on}
use Rattle.mqtt_world_model.proofs.model_lemmas.seats.Seeing.{done_sessions}
use Rattle.mqtt_records.specs.declared.messages.message.MessageCopy.{MessageCopy}
use Rattle.mqtt_records.specs.declared.messages.message.RetainedMessage.{RetainedMessage}
use Rattle.mqtt_props.specs.declared.table.PropName.TheVariants.{SubscriptionIdentifier}
use Rattle.mqtt_records.specs.state.Records.{changed_all, subscribe_in}
use Rattle.mqtt_records.specs.state.Session.{birth_of, with_subscription}
use Rattle.mqtt_records.specs.declared.state.change.Change.{Change}
use Rattle.mqtt_records.specs.declared.state.records.Records.{Records}
use Rattle.mqtt_records.specs.declared.state.session.Session.{Session}
use Rattle.mqtt_records.specs.declared.state.subscription.Subscription.{Subscription}
use Rattle.mqtt_routes.specs.routing.Retained.{kept_for}
use Rattle.mqtt_records.specs.lists.Distinct.{AllDiffer}
use Rattle.mqtt_records.specs.lists.Order.{row_at}
use Rattle.mqtt_rules.proofs.step_lemmas.acts.Acts.{brought_to}
use Rattle.mqtt_rules.proofs.step_lemmas.numbers.Copies.{IsMade, IsOf, brought_made as all_made, each_append, each_filter, each_more}
use Rattle.mqtt_rules.proofs.step_lemmas.flight.FlightRows.{all_at, all_more, change_row-here, found_key}
use Rattle.mqtt_rules.proofs.step_lemmas.acts.Goods.{after_append}
use Rattle.mqtt_rules.proofs.step_lemmas.numbers.Counters.{Counts, counts, counts_deed}
use Rattle.mqtt_rules.proofs.step_lemmas.fit.RowsFit.{queues_short}
use Rattle.mqtt_rules.proofs.step_lemmas.order.OrderedEnters.{ShortQueues, enters, own_stay, still_short}
use Rattle.mqtt_rules.proofs.step_lemmas.order.OrderedQueues.{stay_is}
use Rattle.mqtt_rules.specs.step.Deeds.{At, Count, Deed, Hear, On, Send, after, after_all, always, closing, offer, output, part_rows_of, rows_of_all, series, stored_after, whose, with_session}
use Rattle.mqtt_rules.specs.step.Deeds as deeds
use Rattle.mqtt_rules.specs.step.Laws.{HasTables}
use Rattle.mqtt_rules.specs.step.Outbound.{enter_deeds, room, since}
use Rattle.mqtt_records.specs.messages.PassedOn.{number_at}
use Rattle.mqtt_rules.proofs.step_lemmas.acts.Offers.{of_offer, of_offer_if}
use Rattle.mqtt_rules.specs.step.Fitting.{has_form}
use Rattle.mqtt_rules.specs.step.Packets.{publish_of, suback}
use Rattle.mqtt_rules.specs.step.Routing.{CopyTo, deliver, deliver_by, is_queued}
use Rattle.mqtt_rules.specs.step.State.{Line as BrokerLine, Broker, Env, MemberChoice, line_at, session_at, session_named}
use Rattle.mqtt_rules.specs.step.Step.{Call, Input, at_moment, deeds as deeds_in, env_of, outcome_of, stepped, with_moment}
use Rattle.mqtt_rules.specs.step.Subscribe.{on_subscribe}
use Rattle.mqtt_rules.specs.step.Subscribe as sub
use Rattle.mqtt_rules.specs.declared.step.Capacity.{Capacity}
use Rattle.mqtt_packet.specs.declared.subscribe.subscribe.Subscribe.{Subscribe as Asking}
use Rattle.mqtt_topic.specs.names.Filters.{is_filter}
use Rattle.mqtt_world_laws.proofs.acceptance_lemmas.copies.CopiesApart.{brought_differ, number_of, queued_differ}
use Rattle.mqtt_world_laws.specs.receiver.Apart.{AreToldApart, HasCome}
use Rattle.mqtt_world_laws.specs.receiver.Entering.{AreKnown, IsReceiving, MakesWay}
use Rattle.mqtt_world_laws.specs.receiver.Calls.{IsLingering, turned_back}
use Rattle.mqtt_world_laws.specs.receiver.Handing.{IsListening, IsRun, receiver_after}
use Rattle.mqtt_world_laws.specs.receiver.Late.{reads_old_wish}
use Rattle.mqtt_world_laws.specs.receiver.Own.{IsBroughtCopy, IsInStep, Subscribed}
use Rattle.mqtt_world_laws.specs.receiver.Seen.{AreQueued, Numbering, StandOn, answered, heard, heard_in, publish_heard, seen}
use Rattle.mqtt_world_laws.specs.receiver.Served.{HasLines, IsServed, IsTidy, RunsFor, RunsWithAll}
use Rattle.mqtt_world_laws.specs.receiver.Tags.{AreNumbered, IsTagged, IsTaggedBy, IsTaggedWith, id_of}
use Rattle.mqtt_world_laws.proofs.receiver_lemmas.own.Answering.{all_join, heard_append, its_went, went_heard}
use Rattle.mqtt_world_laws.proofs.receiver_lemmas.others.CallsOfOthers.{done_all, first_runs, moment_runs, moment_served}
use Rattle.mqtt_world_laws.proofs.receiver_lemmas.others.Carried.{carried_run, told_runs, told_served}
use Rattle.mqtt_world_laws.proofs.receiver_lemmas.queue.Entering.{linked_same, way_same, way_trans}
use Rattle.mqtt_world_laws.proofs.receiver_lemmas.own.Own.{safe_served, session_is, some_is}
use Rattle.mqtt_world_laws.proofs.receiver_lemmas.queue.QueueLengths.{IsUpTo, entered_upto}
use Rattle.mqtt_world_laws.proofs.receiver_lemmas.drains.RoundPhases.{length_map}
use Rattle.mqtt_world_laws.proofs.receiver_lemmas.others.Serving.{AreOfQueue, served_parts}
use Rattle.mqtt_world_laws.proofs.receiver_lemmas.others.Walk.{entered_runs, entered_with, numbered_front, queue_enter, unheard_of}

-- ---- its session, changed otherwise than in its queue

record Stands (r : Receiver) (s s2 : Session) (b c : Broker) : Type 0 where
  pub found : session_at s.birth c.records ≡ Some s2
  pub client : s2.client ≡ r.client
  pub birth : s2.birth ≡ s.birth
  pub queue : s2.queue ≡ s.queue
  pub only : IsOnly r.client s.birth c.records
  pub went : its_went s.birth c.lines ≡ its_went s.birth b.lines
  pub lines : (m : ℕ) → session_on m c.lines ≡ session_on m b.lines

moved_run : (number : Numbering) (largest : ℕ) (copies : List Lot) (r : Receiver) (s s2 : Session) (b c : Broker) → IsRun number largest copies r b → IsReceiving r s b → Stands r s s2 b c → IsRun number largest copies r c
moved_run number largest copies r s s2 b c h x m =
    let before : session_named r.client b.records ≡ Some s = named_is r.client s.birth b.records s x.only x.session x.client in
    let last : session_named r.client c.records ≡ Some s2 = named_is r.client s.birth c.records s2 m.only m.found m.client in
    let stands : is_some (session_named r.client c.records) ≡ is_some (session_named r.client b.records) = ap is_some last ∙ sym (ap is_some before) in
    let linked = linked_same r.line.number b c m.lines in
    let same : seen number copies r c ≡ seen number copies r b = λ i. record (seen number copies r b) { stands = stands i; linked = linked i } in
    let first : StandOn copies s.queue (its_went s.birth b.lines) = subst (λ (o : Option Session). AreQueued copies o b) before h.queue_is in
    let second : StandOn copies s.queue (its_went s.birth c.lines) = subst (StandOn copies s.queue) (sym m.went) first in
    let third : StandOn copies s2.queue (its_went s2.birth c.lines) =
    subst (λ (k : ℕ). StandOn copies s2.queue (its_went k c.lines)) (sym m.birth) (subst (λ (q : _). StandOn copies q (its_went s.birth c.lines)) (sym m.queue) second) in
    record {
      events = h.events;
      seen_is = same ∙ h.seen_is;
      queue_is = subst (λ (o : Option Session). AreQueued copies o c) (sym last) third;
      numbered = h.numbered;
      tagged = h.tagged;
    }

moved_receiving : (r : Receiver) (s s2 : Session) (b c : Broker) → IsReceiving r s b → Stands r s s2 b c → IsReceiving r s2 c
moved_receiving r s s2 b c x m = record {
  session = ap (λ (k : ℕ). session_at k c.records) m.birth ∙ m.found;
  client = m.client;
  only = subst (λ (k : ℕ). IsOnly r.client k c.records) (sym m.birth) m.only;
  known = subst (λ (k : ℕ). AreKnown s2.queue (its_went k c.lines)) (sym m.birth)
      (subst (λ (q : _). AreKnown q (its_went s.birth c.lines)) (sym m.queue) (subst (AreKnown s.queue) (sym m.went) x.known));
}

moved_for : (largest : ℕ) (ids : List CopyId) (birth : ℕ) (ns : List ℕ) (r : Receiver) (s s2 : Session) (b c : Broker) → IsServed r.client birth ns b → session_at s.birth b.records ≡ Some s → s.client ≡ r.client → s.birth ≡ birth
    → Stands r s s2 b c → RunsFor largest ids birth r b → RunsFor largest ids birth r c
moved_for largest ids birth ns r s s2 b c v at client its m f number numbered =
    let h = f number numbered in
    let x = session_is largest birth ids ns number r s b v at client h in
    record {
      after = h.after;
      same = h.same;
      run_is = moved_run number largest h.after r s s2 b c h.run_is x m;
      session = s2;
      birth_is = m.birth ∙ its;
      receiving = moved_receiving r s s2 b c x m;
    }

-- ---- what goes out about it is none of its copies

abbrev IsHush : Packet → Type 0
IsHush (packets.Suback a) = ⊤
IsHush (packets.Publish p) = p.delivery ≡ delivery.AtMostOnce
IsHush packet = ⊥

abbrev IsHushed : Deed → Type 0
IsHushed (Send m packet) = IsHush packet
IsHushed (deeds.Gone m) = ⊥
IsHushed d = ⊤

hush_heard : (number : Numbering) (copy : Option CopyId) (packet : Packet) → IsHush packet → heard number copy packet ≡ None
hush_heard number copy (packets.Suback a) q = refl
hush_heard number copy (packets.Publish p) q = ap (publish_heard number copy p) q
hush_heard number copy packet q = absurd q

hush_tagged : (number : Numbering) (ids : List CopyId) (copy : Option CopyId) (packet : Packet) → IsHush packet → IsTaggedWith number ids copy packet
hush_tagged number ids copy (packets.Suback a) q = tt
hush_tagged number ids copy (packets.Publish p) q = subst (IsTaggedBy number ids copy) (sym q) tt
hush_tagged number ids copy packet q = absurd q

record IsHushedOn (number : Numbering) (ids : List CopyId) (o : Option ℕ) (new : Broker) (ds : List Deed) : Type 0 where
  pub heard_is : filter_map (heard_in number) (sent_to o new (filter_map output ds)) ≡ []
  pub tagged : AllByRecursion (IsTagged number ids) (sent_to o new (filter_map output ds))

hushed : (number : Numbering) (ids : List CopyId) (m : ℕ) (new : Broker) (ds : List Deed) → AllByRecursion IsHushed ds → IsHushedOn number ids (Some m) new ds
hushed number ids m new [] q = record { heard_is = refl; tagged = tt }
hushed number ids m new (d ∷ ds) q = by d q.0 (hushed number ids m new ds q.1)
  where
    by : (x : Deed) → IsHushed x → IsHushedOn number ids (Some m) new ds → IsHushedOn number ids (Some m) new (x ∷ ds)
    by (Send k packet) hush rest = elim (cases_Bool (nat_eq k m)) [
      | inl here ↦
          let none = hush_heard number (copy_in m new packet) packet hush in
          record { heard_is = rw here (rw none rest.heard_is); tagged = rw here (hush_tagged number ids (copy_in m new packet) packet hush, rest.tagged) }
      | inr other ↦ record { heard_is = rw other rest.heard_is; tagged = rw other rest.tagged }
    ]
    by x hush rest = record { heard_is = rest.heard_is; tagged = rest.tagged }

hushed_on : (number : Numbering) (ids : List CopyId) (o : Option ℕ) (new : Broker) (ds : List Deed) → AllByRecursion IsHushed ds → IsHushedOn number ids o new ds
hushed_on number ids None new ds q = record { heard_is = refl; tagged = tt }
hushed_on number ids (Some m) new ds q = hushed number ids m new ds q

hush_closes : (ds : List Deed) → AllByRecursion IsHushed ds → filter_map closing ds ≡ []
hush_closes [] q = refl
hush_closes (deeds.Gone m ∷ ds) q = absurd q.0
hush_closes (Send m packet ∷ ds) q = hush_closes ds q.1
hush_closes (deeds.Accept n origin m ∷ ds) q = hush_closes ds q.1
hush_closes (deeds.Begin row will ∷ ds) q = hush_closes ds q.1
hush_closes (deeds.Name n ∷ ds) q = hush_closes ds q.1
hush_closes (Count n ∷ ds) q = hush_closes ds q.1
hush_closes (At who part ∷ ds) q = hush_closes ds q.1
hush_closes (deeds.Finish who ∷ ds) q = hush_closes ds q.1
hush_closes (deeds.Keep kept ∷ ds) q = hush_closes ds q.1
hush_closes (deeds.Forget place ∷ ds) q = hush_closes ds q.1
hush_closes (deeds.RefuseWill who ∷ ds) q = hush_closes ds q.1
hush_closes (deeds.Link n ∷ ds) q = hush_closes ds q.1
hush_closes (On m part ∷ ds) q = hush_closes ds q.1

hush_queue : (ds : List Deed) → AreOfQueue ds → AllByRecursion IsHushed ds
hush_queue [] q = tt
hush_queue (At who part ∷ ds) q = (tt, hush_queue ds q.1)
hush_queue (d ∷ ds) q = absurd q.0

-- the SUBSCRIBE is taken off a line, which leaves these packets, and nothing of copies comes to it
told_hushed_run : (number : Numbering) (largest : ℕ) (lots : List Lot) (r : Receiver) (call : Call) (up old : List Back) (ds : List Deed) (first new : Broker) → AllByRecursion IsHushed ds
    → filter_map answered up ≡ filter_map answered r.line.up → filter_map answered old ≡ filter_map answered r.line.old
    → IsRun number largest lots r new → IsRun number largest lots (receiver_told new (outcome_of call ds first) (record r { line = record r.line { up = up; old = old } })) new
told_hushed_run number largest lots r call up old ds first new hush same_up same_old h =
    let ids = map id_of lots in
    let x = hushed_on number ids r.line.number new ds hush in
    let none = hush_closes ds hush in
    let out = outcome_of call ds first in
    let q = receiver_told new out (record r { line = record r.line { up = up; old = old } }) in
    let sent = sent_to r.line.number new (filter_map output ds) in
    let ups : filter_map answered (unless_closed (is_one_of r.line.number (filter_map closing ds)) up) ≡ filter_map answered r.line.up =
    ap (λ (t : Bool). filter_map answered (unless_closed t up)) (ap (is_one_of r.line.number) none ∙ none_closed r.line.number) ∙ same_up in
    let olds : filter_map answered (unless_closed (is_one_of r.line.old_number (filter_map closing ds)) old) ≡ filter_map answered r.line.old =
    ap (λ (t : Bool). filter_map answered (unless_closed t old)) (ap (is_one_of r.line.old_number) none ∙ none_closed r.line.old_number) ∙ same_old in
    let downs : filter_map (heard_in number) (r.line.down ++ sent) ≡ filter_map (heard_in number) r.line.down =
    heard_append number r.line.down sent ∙ (ap (λ (xs : List Output). filter_map (heard_in number) r.line.down ++ xs) x.heard_is ∙ append-nil (filter_map (heard_in number) r.line.down)) in
    let same : seen number lots q new ≡ seen number lots r new = λ i. record (seen number lots r new) { up = ups i; down = downs i; old = olds i } in
    record {
      events = h.events;
      seen_is = same ∙ h.seen_is;
      queue_is = h.queue_is;
      numbered = h.numbered;
      tagged = record { down = all_join (IsTagged number ids) r.line.down sent h.tagged.down x.tagged; ledger = h.tagged.ledger; once = h.tagged.once };
    }

told_hushed : (number : Numbering) (largest : ℕ) (all : List CopyId) (birth : ℕ) (r : Receiver) (call : Call) (up old : List Back) (ds : List Deed) (first new : Broker) → AllByRecursion IsHushed ds
    → filter_map answered up ≡ filter_map answered r.line.up → filter_map answered old ≡ filter_map answered r.line.old
    → RunsWithAll number largest all birth r new → RunsWithAll number largest all birth (receiver_told new (outcome_of call ds first) (record r { line = record r.line { up = up; old = old } })) new
told_hushed number largest all birth r call up old ds first new hush same_up same_old h =
    record {
      after = h.after;
      same = h.same;
      run_is = told_hushed_run number largest h.after r call up old ds first new hush same_up same_old h.run_is;
      session = h.session;
      birth_is = h.birth_is;
      receiving = record { session = h.receiving.session; client = h.receiving.client; only = h.receiving.only; known = h.receiving.known };
    }

-- what it sees with these copies, each of which stands as before, or made way
pub record LotsOn (number : Numbering) (largest : ℕ) (copies : List Lot) (all : List CopyId) (r : Receiver) (b : Broker) : Type 0 where
  pub after : List Lot
  pub same : map id_of after ≡ all
  pub run_is : IsRun number largest after r b
  pub way : (n : ℕ) → MakesWay (slice_get copies n) (slice_get after n)

-- ---- copies of retained messages, told apart

-- no two retained messages are of one publication, and each is of one that was accepted
pub record AreRetainedApart (b : Broker) : Type 0 where
  pub differ : AllDiffer (map (λ (k : RetainedMessage). k.publication) b.records.retained)
  pub upto : AllByRecursion (λ (k : RetainedMessage). k.publication ≤ b.records.publications) b.records.retained

queue_counts : (ds : List Deed) (b : Broker) → AreOfQueue ds → counts (after_all ds b).records ≡ counts b.records
queue_counts [] b q = refl
queue_counts (At who part ∷ ds) b q = queue_counts ds (after (At who part) b) q.1 ∙ counts_deed (At who part) b.records
queue_counts (d ∷ ds) b q = absurd q.0

of_upto : (n : ℕ) (copy : MessageCopy) (ks : List RetainedMessage) → IsOf copy ks → AllByRecursion (λ (k : RetainedMessage). k.publication ≤ n) ks → copy.id.publication ≤ n
of_upto n copy [] is h = absurd is
of_upto n copy (k ∷ ks) (inl is) h = let same = is.0 in let le = h.0 in omega (arith, same, le)
of_upto n copy (k ∷ ks) (inr more) h = of_upto n copy ks more h.1

brought_upto : (w : sub.Wish) (s : Session) (b : Broker) → AreRetainedApart b → AllByRecursion (λ (d : CopyTo). d.copy.id.publication ≤ b.records.publications) (brought_to w s b)
brought_upto w s b a =
    let n = sub.next_number b.records in
    let c = after (Count n) b in
    each_more (λ (d : CopyTo). IsMade d.birth d.copy c) (λ (d : CopyTo). d.copy.id.publication ≤ b.records.publications) (λ d made. by d made.source) (brought_to w s b) (all_made n s w c (omega arith))
  where
    by : (d : CopyTo) → ((d.copy.id.publication ≤ b.records.publications) × (d.copy.content.arrived ≤ b.now)) ⊎ IsOf d.copy b.records.retained → d.copy.id.publication ≤ b.records.publications
    by d (inl le) = le.0
    by d (inr is) = of_upto b.records.publications d.copy b.records.retained is a.upto

have_come : (birth n before publications subscribes : ℕ) (ds : List CopyTo) → before ≤ publications → n ≤ subscribes → AllByRecursion (λ (d : CopyTo). d.copy.id.publication ≤ before) ds
    → AllByRecursion (IsBroughtCopy birth n) (map (λ (d : CopyTo). d.copy.id) ds) → AllByRecursion (HasCome publications subscribes) (map (λ (d : CopyTo). d.copy.id) ds)
have_come birth n before publications subscribes [] le more h g = tt
have_come birth n before publications subscribes (d ∷ ds) le more h g =
    let first = h.0 in
    let is = ap subscribe_in g.0.cause_is in
    (record { publication = omega (arith, first, le); subscribe = omega (arith, is, more) }, have_come birth n before publications subscribes ds le more h.1 g.1)

moment_apart : (ids : List CopyId) (rows : List Change) (b : Broker) → AreToldApart ids b.records → AreToldApart ids (with_moment rows b).records
moment_apart ids [] b h = h
moment_apart ids (row ∷ rows) b h = record { come = h.come; differ = h.differ }

-- ---- copies enter one after the other

module _ (largest : ℕ) (env : Env) (small : env.limits.queue ≤ QUEUE_LIMIT) (r : Receiver) (birth : ℕ) (ns : List ℕ) (ids : List CopyId) (has : HasLines ns r) (start : Broker) where
  record Going (more : List CopyId) (b : Broker) : Type 0 where
    pub served : IsServed r.client birth ns b
    pub queues : ShortQueues QUEUE_LIMIT b.records
    pub session : Session
    pub found : session_at birth b.records ≡ Some session
    pub runs : RunsFor largest (ids ++ more) birth r b
    -- whatever copies it saw at the start
    pub lots : (number : Numbering) (copies : List Lot) → AreNumbered number (ids ++ more) → IsRun number largest copies r start → map id_of copies ≡ ids → LotsOn number largest copies (ids ++ more) r b

  abbrev HasRoom : ℕ → Broker → Type 0
  HasRoom n b = (x : Session) → session_at birth b.records ≡ Some x → n ≤ env.limits.queue - own_stay env x

  -- by these deeds so many copies entered, and so many more may
  record Grows (ds : List Deed) (n entered : ℕ) (more : List CopyId) (b : Broker) : Type 0 where
    pub going : Going more (after_all ds b)
    pub longer : (most : ℕ) → IsUpTo birth most b → IsUpTo birth (most + entered) (after_all ds b)
    pub room : HasRoom n (after_all ds b)
    pub hush : AllByRecursion IsHushed ds
    pub counted : counts (after_all ds b).records ≡ counts b.records

  enter_one : (d : CopyTo) (n : ℕ) (more : List CopyId) (b : Broker) → d.birth ≡ birth → is_queued d ≡ true → HasRoom (suc n) b → Going more b → Grows (deliver env d b) n 1 (more ++ d.copy.id ∷ []) b
  enter_one d n more b to queued room k =
      let s = k.session in
      let is : s.birth ≡ birth = found_key birth_of birth s b.records.sessions k.found in
      let at : session_at d.birth b.records ≡ Some s = ap (λ (j : ℕ). session_at j b.records) to ∙ k.found in
      let own_at : session_at s.birth b.records ≡ Some s = ap (λ (j : ℕ). session_at j b.records) is ∙ k.found in
      let ds = enter_deeds env d.copy s in
      let deeds_are : deliver env d b ≡ ds = ap (λ (t : Bool). deliver_by t env d b) queued ∙ ap (λ (o : Option Session). with_session o (λ (x : Session). always (enter_deeds env d.copy x)) b) at in
      let all = room s k.found in
      let tables = all_at birth_of HasTables birth s b.records.sessions k.queues.ordered.each k.found in
      let made = enters QUEUE_LIMIT env d.copy s b small small tables own_at (omega (arith, all)) k.queues in
      let parts = queue_enter env d.copy s in
      let served = served_parts r.client birth ns ds b parts k.served in
      let e = made.0 in
      let client : s.client ≡ r.client = (all_at birth_of (IsOurs r.client birth) birth s b.records.sessions k.served.sessions k.found).name is in
      let last : session_at birth (after_all ds b).records ≡ Some e.mine = ap (λ (j : ℕ). session_at j (after_all ds b).records) (sym is) ∙ e.found in
      let stays = e.stays in
      subst (λ (zs : List Deed). Grows zs n 1 (more ++ d.copy.id ∷ []) b) (sym deeds_are) (record {
        going = record {
          served = served;
          queues = made.1;
          session = e.mine;
          found = last;
          runs = entered_runs largest env small r birth ns ids has d.copy s b more queued (omega (arith, all)) is own_at served k.runs;
          lots = λ number copies numbered first same.
              let both : AreNumbered number ((ids ++ more) ++ d.copy.id ∷ []) = subst (AreNumbered number) (sym (append_assoc ids more (d.copy.id ∷ []))) numbered in
              let before = numbered_front number (ids ++ more) (d.copy.id ∷ []) both in
              let x = k.lots number copies before first same in
              let receiving = session_is largest birth (ids ++ more) ns number r s b k.served own_at client (k.runs number before) in
              let y = entered_with largest env small r birth ns ids has d.copy s b (ids ++ more) number x.after queued (omega (arith, all)) x.same both x.run_is receiving in
              record {
                after = y.after;
                same = y.same ∙ (ap (λ (cs : List CopyId). cs ++ d.copy.id ∷ []) x.same ∙ append_assoc ids more (d.copy.id ∷ []));
                run_is = y.run_is;
                way = λ j. way_trans (slice_get copies j) (slice_get x.after j) (slice_get y.after j) (x.way j) (y.way j);
              };
        };
        longer = λ most h.
            let one : most + 1 ≡ suc most = omega arith in
            subst (λ (k : ℕ). IsUpTo birth k (after_all ds b)) (sym one) (entered_upto birth most env d.copy s b h);
        room = λ x there.
            let it : e.mine ≡ x = some_is e.mine x (sym last ∙ there) in
            subst (λ (y : Session). n ≤ env.limits.queue - own_stay env y) it (omega (arith, all, stays));
        hush = hush_queue ds parts;
        counted = queue_counts ds b parts;
      })

  abbrev IsToIt : CopyTo → Type 0
  IsToIt d = (d.birth ≡ birth) × (is_queued d ≡ true)

  abbrev id_in : CopyTo → CopyId
  id_in d = d.copy.id

  plus_none : (most : ℕ) → most ≡ most + 0
  plus_none most = omega arith

  enter_all : (ds : List CopyTo) (more : List CopyId) (b : Broker) → AllByRecursion IsToIt ds → HasRoom (length ds) b → Going more b → Grows (series (map (deliver env) ds) b) 0 (length ds) (more ++ map id_in ds) b
  enter_all [] more b q room k = record { going = subst (λ (ms : List CopyId). Going ms b) (sym (append-nil more)) k; longer = λ most h. subst (λ (j : ℕ). IsUpTo birth j b) (plus_none most) h; room = room; hush = tt; counted = refl }
  enter_all (d ∷ ds) more b q room k =
      let first = deliver env d b in
      let c = after_all first b in
      let one = enter_one d (length ds) more b q.0.0 q.0.1 room k in
      let rest = enter_all ds (more ++ d.copy.id ∷ []) c q.1 one.room one.going in
      let others = series (map (deliver env) ds) c in
      let end = after_append first others b in
      record {
        going = subst (λ (z : Broker). Going (more ++ map id_in (d ∷ ds)) z) (sym end) (subst (λ (ms : List CopyId). Going ms (after_all others c)) (append_assoc more (d.copy.id ∷ []) (map id_in ds)) rest.going);
        longer = λ most h.
            let all : most + 1 + length ds ≡ most + suc (length ds) = omega arith in
            subst (λ (z : Broker). IsUpTo birth (most + suc (length ds)) z) (sym end) (subst (λ (j : ℕ). IsUpTo birth j (after_all others c)) all (rest.longer (most + 1) (one.longer most h)));
        room = subst (λ (z : Broker). HasRoom 0 z) (sym end) rest.room;
        hush = each_append IsHushed first others one.hush rest.hush;
        counted = ap (λ (z : Broker). counts z.records) end ∙ (rest.counted ∙ one.counted);
      }

  -- ---- a filter is granted

  subscribed_is : (x : Subscription) (n : ℕ) (s : Session) (b : Broker) → session_at birth b.records ≡ Some s
      → session_at birth (after_all (Count n ∷ At (whose s) (deeds.Subscribe x) ∷ []) b).records ≡ Some (with_subscription x s)
  subscribed_is x n s b at =
      let c = after_all (Count n ∷ At (whose s) (deeds.Subscribe x) ∷ []) b in
      let is : s.birth ≡ birth = found_key birth_of birth s b.records.sessions at in
      let own_at : session_at s.birth b.records ≡ Some s = ap (λ (j : ℕ). session_at j b.records) is ∙ at in
      ap (λ (j : ℕ). session_at j c.records) (sym is)
      ∙ (ap (λ (o : Option Session). session_at s.birth (changed_all (part_rows_of (deeds.Subscribe x) o) (stored_after (Count n) b.records))) own_at
      ∙ change_row-here birth_of s.birth (with_subscription x) s b.records.sessions (λ y. refl) own_at)

  subscribed : (x : Subscription) (n : ℕ) (s : Session) (b : Broker) → Going [] b → session_at birth b.records ≡ Some s → Going [] (after_all (Count n ∷ At (whose s) (deeds.Subscribe x) ∷ []) b)
  subscribed x n s b k at =
      let first : List Deed = Count n ∷ At (whose s) (deeds.Subscribe x) ∷ [] in
      let c = after_all first b in
      let is : s.birth ≡ birth = found_key birth_of birth s b.records.sessions at in
      let own_at : session_at s.birth b.records ≡ Some s = ap (λ (j : ℕ). session_at j b.records) is ∙ at in
      let v = k.served in
      let client : s.client ≡ r.client = (all_at birth_of (IsOurs r.client birth) birth s b.records.sessions v.sessions at).name is in
      let last = subscribed_is x n s b at in
      let only_before : IsOnly r.client s.birth b.records =
      subst (λ (j : ℕ). IsOnly r.client j b.records) (sym is) (all_more (IsOurs r.client birth) (IsIts r.client birth) b.records.sessions (λ y p. p.named) v.sessions) in
      let stands : Stands r s (with_subscription x s) b c = record {
        found = ap (λ (j : ℕ). session_at j c.records) is ∙ last;
        client = client;
        birth = refl;
        queue = refl;
        only = only_deeds r.client s.birth first b (tt, (tt, tt)) only_before;
        went = refl;
        lines = λ m. refl;
      } in
      record {
        served = safe_served r.client birth ns first b (tt, (tt, tt)) v;
        queues = still_short QUEUE_LIMIT (At (whose s) (deeds.Subscribe x)) (stored_after (Count n) b.records) tt (still_short QUEUE_LIMIT (Count n) b.records tt k.queues);
        session = with_subscription x s;
        found = last;
        runs = moved_for largest (ids ++ []) birth ns r s (with_subscription x s) b c v own_at client is stands k.runs;
        lots = λ number copies numbered before same.
            let y = k.lots number copies numbered before same in
            let receiving = session_is largest birth (ids ++ []) ns number r s b v own_at client (k.runs number numbered) in
            record { after = y.after; same = y.same; run_is = moved_run number largest y.after r s (with_subscription x s) b c y.run_is receiving stands; way = y.way };
      }

  -- what becomes of a filter: nothing, or it is granted, with the copies that it brings
  record Grants (g : sub.FilterAnswer) (n : ℕ) (b : Broker) : Type 0 where
    pub more : List CopyId
    pub new : AllByRecursion (IsBroughtCopy birth n) more
    pub going : Going more (after_all g.deeds b)
    pub longer : (most : ℕ) → IsUpTo birth most b → IsUpTo birth (most + length more) (after_all g.deeds b)
    pub hush : AllByRecursion IsHushed g.deeds
    pub late : AllByRecursion (λ (d : CopyTo). is_queued d ≡ false) g.late
    pub differ : AllDiffer (map number_of b.records.retained) → AllDiffer more
    pub apart : AreRetainedApart b → AreToldApart more (after_all g.deeds b).records

  refuses : (code n : ℕ) (b : Broker) → Going [] b → Grants (sub.refused_filter code) n b
  refuses code n b k = record { more = []; new = tt; going = k; longer = λ most h. subst (λ (j : ℕ). IsUpTo birth j b) (plus_none most) h; hush = tt; differ = λ apart. tt; late = tt; apart = λ a. record { come = tt; differ = tt } }

  not_queued : (t : Bool) → (t ≡ true → ⊥) → t ≡ false
  not_queued true h = absurd (h refl)
  not_queued false h = refl

  late_ones : (ds : List CopyTo) → AllByRecursion (λ (d : CopyTo). is_queued d ≡ false) (filter (λ (d : CopyTo). not (is_queued d)) ds)
  late_ones [] = tt
  late_ones (d ∷ ds) = elim (cases_Bool (is_queued d)) [
    | inl so ↦ rw so (late_ones ds)
    | inr not_so ↦ rw not_so (not_so, late_ones ds)
  ]

  -- of the copies that the filter brings
  abbrev IsBrought : ℕ → CopyTo → Type 0
  IsBrought n d = (d.birth ≡ birth) × IsBroughtCopy birth n d.copy.id

  brought_made : (t : Bool) (now n : ℕ) (s : Session) (w : sub.Wish) (ks : List RetainedMessage) → s.birth ≡ birth → AllByRecursion (IsBrought n) (sub.brought_if t now n s w ks)
  brought_made false now n s w ks is = tt
  brought_made true now n s w ks is = each s.birth is (filter (sub.is_brought now s w) (map sub.message_in (kept_for w.filter (map sub.kept_of ks))))
    where
      each : (j : ℕ) → j ≡ birth → (xs : List RetainedMessage) → AllByRecursion (IsBrought n) (map (sub.retained_copy_to j n w) xs)
      each j e [] = tt
      each j e (x ∷ xs) = ((e, record { birth_is = e; cause_is = refl }), each j e xs)

  queued_to : (n : ℕ) (ds : List CopyTo) → AllByRecursion (IsBrought n) ds → AllByRecursion IsToIt (filter is_queued ds)
  queued_to n [] h = tt
  queued_to n (d ∷ ds) h = elim (cases_Bool (is_queued d)) [
    | inl so ↦ rw so ((h.0.0, so), queued_to n ds h.1)
    | inr not_so ↦ rw not_so (queued_to n ds h.1)
  ]

  queued_new : (n : ℕ) (ds : List CopyTo) → AllByRecursion (IsBrought n) ds → AllByRecursion (IsBroughtCopy birth n) (map id_in (filter is_queued ds))
  queued_new n [] h = tt
  queued_new n (d ∷ ds) h = elim (cases_Bool (is_queued d)) [
    | inl so ↦ rw so (h.0.1, queued_new n ds h.1)
    | inr not_so ↦ rw not_so (queued_new n ds h.1)
  ]

  right_true : (x y : Bool) → (x && y) ≡ true → y ≡ true
  right_true true y e = e
  right_true false y e = absurd cc

  grants : (w : sub.Wish) (s : Session) (b : Broker) → Going [] b → session_at birth b.records ≡ Some s
      → length (filter is_queued (brought_to w s b)) ≤ room env s → Grants (sub.granted_filter env (sub.next_number b.records) s w (brought_to w s b) b) (sub.next_number b.records) b
  grants w s b k at fits =
      let n = sub.next_number b.records in
      let x = sub.subscription n s w in
      let is : s.birth ≡ birth = found_key birth_of birth s b.records.sessions at in
      let first : List Deed = Count n ∷ At (whose s) (deeds.Subscribe x) ∷ [] in
      let c = after_all first b in
      let all = brought_to w s b in
      let ds = filter is_queued all in
      let made : AllByRecursion (IsBrought n) all = brought_made _ b.now n s w b.records.retained is in
      let going = subscribed x n s b k at in
      let same = stay_is env.limits.full (since env s) s.birth s.queue in
      let room_first : HasRoom (length ds) c = λ y there.
      let it : with_subscription x s ≡ y = some_is (with_subscription x s) y (sym (subscribed_is x n s b at) ∙ there) in
      let bound : length ds ≤ env.limits.queue - own_stay env s = omega (arith, same, fits) in
      subst (λ (z : Session). length ds ≤ env.limits.queue - own_stay env z) it bound in
      let rest = enter_all ds [] c (queued_to n all made) room_first going in
      let others = series (map (deliver env) ds) c in
      record {
        more = map id_in ds;
        new = queued_new n all made;
        going = subst (Going (map id_in ds)) (sym (after_append first others b)) rest.going;
        longer = λ most h.
            let there : IsUpTo birth most c = λ y at_c.
            let it : with_subscription x s ≡ y = some_is (with_subscription x s) y (sym (subscribed_is x n s b at) ∙ at_c) in
            subst (λ (z : Session). length z.queue ≤ most) it (h s at) in
            subst (λ (z : Broker). IsUpTo birth (most + length (map id_in ds)) z) (sym (after_append first others b))
            (subst (λ (j : ℕ). IsUpTo birth (most + j) (after_all others c)) (sym (length_map id_in ds)) (rest.longer most there));
        hush = each_append IsHushed first others (tt, (tt, tt)) rest.hush;
        differ = λ apart. queued_differ all (brought_differ w s b apart);
        late = late_ones all;
        apart = λ a.
            let counted : counts (after_all (first ++ others) b).records ≡ record (counts b.records) { subscribes = n } =
            ap (λ (z : Broker). counts z.records) (after_append first others b) ∙ (rest.counted ∙ counts_deed (At (whose s) (deeds.Subscribe x)) (stored_after (Count n) b.records)) in
            let publications = ap (λ (z : Counts). z.publications) counted in
            let subscribes = ap (λ (z : Counts). z.subscribes) counted in
            record {
              come = have_come birth n b.records.publications (after_all (first ++ others) b).records.publications (after_all (first ++ others) b).records.subscribes ds (omega (arith, publications)) (omega (arith, subscribes))
                  (each_filter (λ (d : CopyTo). d.copy.id.publication ≤ b.records.publications) is_queued all (brought_upto w s b a)) (queued_new n all made);
              differ = queued_differ all (brought_differ w s b a.differ);
            };
      }

  answers_by : (t u : Bool) (w : sub.Wish) (s : Session) (b : Broker) → Going [] b → session_at birth b.records ≡ Some s → (u ≡ true → length (filter is_queued (brought_to w s b)) ≤ room env s)
      → Grants (sub.answer_by t u env (sub.next_number b.records) s w (brought_to w s b) b) (sub.next_number b.records) b
  answers_by false u w s b k at fits = refuses topic_filter_invalid (sub.next_number b.records) b k
  answers_by true false w s b k at fits = refuses quota_exceeded (sub.next_number b.records) b k
  answers_by true true w s b k at fits = grants w s b k at (fits refl)

  filter_grants : (o : Option sub.Wish) (s : Session) (b : Broker) → Going [] b → session_at birth b.records ≡ Some s → Grants (sub.filter_answer_of env o b (Some s)) (sub.next_number b.records) b
  filter_grants None s b k at = refuses topic_filter_invalid (sub.next_number b.records) b k
  filter_grants (Some w) s b k at =
      let fits = nat_le (length (filter is_queued (brought_to w s b))) (room env s) in
      let free = sub.has_filter w.filter s || nat_lt (length s.subscriptions) SUBSCRIPTION_LIMIT in
      answers_by (is_filter w.filter) (free && fits) w s b k at (λ e. leb-true (length (filter is_queued (brought_to w s b))) (room env s) (right_true free fits e))

  -- ---- what is told of it

  abbrev IsTelling : Deed → Type 0
  IsTelling (Send m packet) = IsHush packet
  IsTelling d = ⊥

  telling_records : (ds : List Deed) (b : Broker) → AllByRecursion IsTelling ds → (after_all ds b).records ≡ b.records
  telling_records [] b q = refl
  telling_records (Send m packet ∷ ds) b q = telling_records ds (after (Send m packet) b) q.1
  telling_records (d ∷ ds) b q = absurd q.0

  told_going : (more : List CopyId) (m : ℕ) (packet : Packet) (b : Broker) → Going more b → Going more (after (Send m packet) b)
  told_going more m packet b k =
      let c = after (Send m packet) b in
      record {
        served = told_served r.client birth ns m packet b k.served;
        queues = k.queues;
        session = k.session;
        found = k.found;
        runs = λ number numbered. told_runs number largest (ids ++ more) birth r m packet b (k.runs number numbered);
        lots = λ number copies numbered before same.
            let y = k.lots number copies numbered before same in
            record { after = y.after; same = y.same; run_is = carried_run number largest y.after r b c refl refl y.run_is; way = y.way };
      }

  telling_going : (more : List CopyId) (ds : List Deed) (b : Broker) → AllByRecursion IsTelling ds → Going more b → Going more (after_all ds b)
  telling_going more [] b q k = k
  telling_going more (Send m packet ∷ ds) b q k = telling_going more ds (after (Send m packet) b) q.1 (told_going more m packet b k)
  telling_going more (d ∷ ds) b q k = absurd q.0

  telling_hush : (ds : List Deed) → AllByRecursion IsTelling ds → AllByRecursion IsHushed ds
  telling_hush [] q = tt
  telling_hush (Send m packet ∷ ds) q = (q.0, telling_hush ds q.1)
  telling_hush (d ∷ ds) q = absurd q.0

  telling_offer : (o : Option BrokerLine) (packet : Packet) → IsHush packet → AllByRecursion IsTelling (offer o packet)
  telling_offer o packet q = of_offer (λ (xs : List Deed). AllByRecursion IsTelling xs) o packet tt (λ l there. (q, tt))

  telling_late : (n : ℕ) (b : Broker) (ds : List CopyTo) → AllByRecursion (λ (d : CopyTo). is_queued d ≡ false) ds → AllByRecursion IsTelling (series (map (sub.late_send n) ds) b)
  telling_late n b [] q = tt
  telling_late n b (d ∷ ds) q =
      let first = sub.late_send n d b in
      let one = of_offer_if (λ (xs : List Deed). AllByRecursion IsTelling xs) (has_form d.copy b) (line_at n b) (publish_of b.now false 0 d.copy) tt (λ l there. (unheard_of d.copy.qos q.0, tt)) in
      each_append IsTelling first (series (map (sub.late_send n) ds) (after_all first b)) one (telling_late n (after_all first b) ds q.1)

  -- ---- the packet

  record Does (ds : List Deed) (n : ℕ) (b : Broker) : Type 0 where
    pub more : List CopyId
    pub new : AllByRecursion (IsBroughtCopy birth n) more
    pub going : Going more (after_all ds b)
    pub longer : (most : ℕ) → IsUpTo birth most b → IsUpTo birth (most + length more) (after_all ds b)
    pub hush : AllByRecursion IsHushed ds
    pub differ : AllDiffer (map number_of b.records.retained) → AllDiffer more
    pub apart : AreRetainedApart b → AreToldApart more (after_all ds b).records

  subscribes_by : (t : Bool) (line : ℕ) (s : Session) (w : Wish) (p : Asking) (a : Asked) (b : Broker) → p.subscriptions ≡ a ∷ [] → Going [] b → s.birth ≡ birth → session_at birth b.records ≡ Some s
      → Does (sub.subscribe_by t env line s p b) (sub.next_number b.records) b
  subscribes_by true line s w p a b is k its at =
      let packet = suback p.identifier (map (λ (x : Asked). identifier_in_use) p.subscriptions) in
      let tells = offer (line_at line b) packet in
      let q = telling_offer (line_at line b) packet tt in
      record {
        more = [];
        new = tt;
        going = telling_going [] tells b q k;
        longer = λ most h. subst (λ (j : ℕ). IsUpTo birth j (after_all tells b)) (plus_none most) (λ x e. h x (ap (λ (z : Records). session_at birth z) (sym (telling_records tells b q)) ∙ e));
        hush = telling_hush tells q;
        differ = λ apart. tt;
        apart = λ a. record { come = tt; differ = tt };
      }
  subscribes_by false line s w p a b is k its at =
      let identifier = number_at SubscriptionIdentifier p.properties in
      let n = sub.next_number b.records in
      let g = sub.filter_answer_of env (sub.wish_of identifier a) b (Some s) in
      let there : session_at s.birth b.records ≡ Some s = ap (λ (j : ℕ). session_at j b.records) its ∙ at in
      let one : Grants g n b = filter_grants (sub.wish_of identifier a) s b k at in
      let of : sub.filter_answers env s.birth identifier p.subscriptions b ≡ sub.before g (record { codes = []; deeds = []; late = [] }) =
      ap (λ (xs : List Asked). sub.filter_answers env s.birth identifier xs b) is
      ∙ ap (λ (o : Option Session). sub.before (sub.filter_answer_of env (sub.wish_of identifier a) b o) (record { codes = []; deeds = []; late = [] })) there in
      let front : List Deed = g.deeds ++ [] in
      let answer : List Deed = offer (line_at line b) (suback p.identifier (g.code ∷ [])) in
      let sends : List Deed = series (map (sub.late_send line) (g.late ++ [])) (after_all (front ++ answer) b) in
      let tells : List Deed = answer ++ sends in
      let late = each_append (λ (d : CopyTo). is_queued d ≡ false) g.late [] one.late tt in
      let q = each_append IsTelling answer sends (telling_offer (line_at line b) (suback p.identifier (g.code ∷ [])) tt) (telling_late line (after_all (front ++ answer) b) (g.late ++ []) late) in
      let fronts : after_all front b ≡ after_all g.deeds b = ap (λ (xs : List Deed). after_all xs b) (append-nil g.deeds) in
      let end : (after_all (front ++ tells) b).records ≡ (after_all g.deeds b).records =
      ap (λ (z : Broker). z.records) (after_append front tells b) ∙ (telling_records tells (after_all front b) q ∙ ap (λ (z : Broker). z.records) fronts) in
      let made : Does (front ++ tells) n b = record {
        more = one.more;
        new = one.new;
        going = subst (Going one.more) (sym (after_append front tells b)) (telling_going one.more tells (after_all front b) q (subst (Going one.more) (sym fronts) one.going));
        longer = λ most h x e. one.longer most h x (ap (λ (z : Records). session_at birth z) (sym end) ∙ e);
        hush = each_append IsHushed front tells (each_append IsHushed g.deeds [] one.hush tt) (telling_hush tells q);
        differ = one.differ;
        apart = λ a. subst (AreToldApart one.more) (sym end) (one.apart a);
      } in
      subst (λ (x : sub.FilterAnswers). let told = x.deeds ++ offer (line_at line b) (suback p.identifier x.codes) in Does (told ++ series (map (sub.late_send line) x.late) (after_all told b)) n b) (sym of)
      (subst (λ (zs : List Deed). Does zs n b) (sym (append_assoc front answer sends)) made)

-- ---- the call

abbrev pub asking : Wish → Receiver → ℕ → Call
asking w r n = Input n (wire_back r.client r.window r.aliases (asks_for w))

-- what it brings, on whatever line
pub record Brings (largest : ℕ) (ids : List CopyId) (limits : Capacity) (choice : MemberChoice) (now birth : ℕ) (ns : List ℕ) (w : Wish) (r : Receiver) (n : ℕ) (b : Broker) : Type 0 where
  pub more : List CopyId
  pub new : AllByRecursion (IsBroughtCopy birth (suc b.records.subscribes)) more
  pub runs : RunsFor largest (ids ++ more) birth r (stepped limits choice now (asking w r n) b)
  pub lots : (number : Numbering) (copies : List Lot) → AreNumbered number (ids ++ more) → IsRun number largest copies r b → map id_of copies ≡ ids → LotsOn number largest copies (ids ++ more) r (stepped limits choice now (asking w r n) b)
  pub served : IsServed r.client birth ns (stepped limits choice now (asking w r n) b)
  pub longer : (most : ℕ) → IsUpTo birth most b → IsUpTo birth (most + length more) (stepped limits choice now (asking w r n) b)
  pub hush : AllByRecursion IsHushed (deeds_in limits choice now (asking w r n) b)
  pub differ : AllDiffer (map number_of b.records.retained) → AllDiffer more
  pub apart : AreRetainedApart b → AreToldApart more (stepped limits choice now (asking w r n) b).records

-- with its session connected on the line of this receiver of its name
pub brings : (largest : ℕ) (ids : List CopyId) (limits : Capacity) (choice : MemberChoice) (now birth : ℕ) (ns : List ℕ) (w : Wish) (r there : Receiver) (l : BrokerLine) (s : Session) (b : Broker)
    → IsInStep largest ids birth ns r b → there.client ≡ r.client → IsListening there l s b → IsTidy limits b → Brings largest ids limits choice now birth ns w r l.number b
brings largest ids limits choice now birth ns w r there l s b k name a tidy =
    let env = env_of limits choice b in
    let n = l.number in
    let packet = wire_back r.client r.window r.aliases (asks_for w) in
    let call = Input n packet in
    let first = at_moment now b in
    let c = heard_of now n b in
    let v = k.served in
    let its : s.birth ≡ birth = (all_at birth_of (IsOurs r.client birth) s.birth s b.records.sessions v.sessions a.session).named (a.client ∙ name) in
    let at : session_at birth b.records ≡ Some s = ap (λ (j : ℕ). session_at j b.records) (sym its) ∙ a.session in
    let served : IsServed r.client birth ns first = record { sessions = v.sessions; lines = v.lines; births = v.births; given = v.given } in
    let runs : RunsFor largest (ids ++ []) birth r first = λ number m.
    first_runs number largest (ids ++ []) birth r now b (subst (λ (all : List CopyId). RunsWithAll number largest all birth r b) (sym (append-nil ids)) (k.runs number (subst (AreNumbered number) (append-nil ids) m))) in
    let stands : Stands r s s first c = record {
      found = a.session;
      client = a.client ∙ name;
      birth = refl;
      queue = refl;
      only = subst (λ (client : List ℕ). IsOnly client s.birth b.records) name a.only;
      went = went_heard s.birth first.now n b.lines;
      lines = λ m. quiet_line s.birth m first.now (On n Hear) b.lines tt;
    } in
    let going : Going largest env tidy.within r birth ns ids k.lines b [] c = record {
      served = safe_served r.client birth ns (On n Hear ∷ []) first (tt, tt) served;
      queues = record { ordered = tidy.ordered; short = queues_short b.records.sessions tidy.ordered.each };
      session = s;
      found = at;
      runs = moved_for largest (ids ++ []) birth ns r s s first c served a.session (a.client ∙ name) its stands runs;
      lots = λ number copies numbered before same.
          let receiving = session_is largest birth (ids ++ []) ns number r s first served a.session (a.client ∙ name) (runs number numbered) in
          record {
            after = copies;
            same = same ∙ sym (append-nil ids);
            run_is = moved_run number largest copies r s s first c (carried_run number largest copies r b first refl refl before) receiving stands;
            way = λ j. way_same (slice_get copies j);
          };
    } in
    let p : Asking = record { identifier = 1; properties = identified w.identifier; subscriptions = record { filter = w.filter; options = options_byte w.options } ∷ [] } in
    let own = on_subscribe env n s p c in
    let does = subscribes_by largest env tidy.within r birth ns ids k.lines b (is_among 1 s.inbound) n s w p (record { filter = w.filter; options = options_byte w.options }) c refl going its at in
    let ds = deeds_in limits choice now call b in
    let is : ds ≡ On n Hear ∷ (own ++ []) = input_is limits choice now packet l s b a.line a.connected a.session in
    let end : after_all ds first ≡ after_all own c = ap (λ (xs : List Deed). after_all xs first) is ∙ ap (λ (xs : List Deed). after_all xs c) (append-nil own) in
    let hush : AllByRecursion IsHushed ds = subst (AllByRecursion IsHushed) (sym is) (tt, each_append IsHushed own [] does.hush tt) in
    let rows = rows_of_all ds first.records in
    let last = after_all ds first in
    let whole : Going largest env tidy.within r birth ns ids k.lines b does.more last = subst (Going largest env tidy.within r birth ns ids k.lines b does.more) (sym end) does.going in
    record {
      more = does.more;
      new = does.new;
      runs = λ number m. done_all number largest (ids ++ does.more) birth r rows last (whole.runs number m);
      lots = λ number copies m before same.
          let y = whole.lots number copies m before same in
          record { after = y.after; same = y.same; run_is = moment_runs number largest y.after r rows last y.run_is; way = y.way };
      served = moment_served r.client birth ns rows last whole.served;
      longer = λ most h x e.
          let k : IsUpTo birth (most + length does.more) last = subst (IsUpTo birth (most + length does.more)) (sym end) (does.longer most h) in
          k x (ap (row_at birth_of birth) (sym (done_sessions rows last)) ∙ e);
      hush = hush;
      differ = does.differ;
      apart = λ a.
          let there : AreToldApart does.more last.records = subst (λ (z : Broker). AreToldApart does.more z.records) (sym end) (does.apart (record { differ = a.differ; upto = a.upto })) in
          moment_apart does.more rows last there;
    }

-- the two are in step, with copies that differ, if no two retained messages are of one publication
pub record Wished (largest : ℕ) (ids : List CopyId) (limits : Capacity) (choice : MemberChoice) (now birth : ℕ) (ns : List ℕ) (w : Wish) (r : Receiver) (n : ℕ) (b : Broker) : Type 0 where
  pub after : Subscribed largest ids birth ns (suc b.records.subscribes) (receiver_after limits choice now (Input n (wire_back r.client r.window r.aliases (asks_for w))) r b) (stepped limits choice now (Input n (wire_back r.client r.window r.aliases (asks_for w))) b)
  pub longer : (most : ℕ) → IsUpTo birth most b → IsUpTo birth (most + length after.more) (stepped limits choice now (Input n (wire_back r.client r.window r.aliases (asks_for w))) b)
  pub lots : (number : Numbering) (copies : List Lot) → AreNumbered number (ids ++ after.more) → IsRun number largest copies r b → map id_of copies ≡ ids
      → LotsOn number largest copies (ids ++ after.more) (receiver_after limits choice now (Input n (wire_back r.client r.window r.aliases (asks_for w))) r b) (stepped limits choice now (Input n (wire_back r.client r.window r.aliases (asks_for w))) b)
  pub differ : AllDiffer (map number_of b.records.retained) → AllDiffer after.more
  pub apart : AreRetainedApart b → AreToldApart after.more (stepped limits choice now (Input n (wire_back r.client r.window r.aliases (asks_for w))) b).records

-- a subscription brings the copies that the definition has
pub wished : (largest : ℕ) (ids : List CopyId) (limits : Capacity) (choice : MemberChoice) (now birth : ℕ) (ns : List ℕ) (w : Wish) (rest : List Back) (r : Receiver) (l : BrokerLine) (s : Session) (b : Broker)
    → IsInStep largest ids birth ns r b → IsListening r l s b → IsTidy limits b → r.line.up ≡ asks_for w ∷ rest → Wished largest ids limits choice now birth ns w r l.number b
wished largest ids limits choice now birth ns w rest r l s b k a tidy up =
    let call = asking w r l.number in
    let x = brings largest ids limits choice now birth ns w r r l s b k refl a tidy in
    let same : filter_map answered (drop 1 r.line.up) ≡ filter_map answered r.line.up = ap (λ (xs : List Back). filter_map answered (drop 1 xs)) up ∙ sym (ap (filter_map answered) up) in
    record {
      after = record {
        more = x.more;
        new = x.new;
        in_step = record {
          runs = λ number m. told_hushed number largest (ids ++ x.more) birth r call (drop 1 r.line.up) r.line.old (deeds_in limits choice now call b) (at_moment now b) (stepped limits choice now call b) x.hush same refl (x.runs number m);
          served = x.served;
          lines = record { own = k.lines.own; old = k.lines.old };
        };
      };
      longer = x.longer;
      lots = λ number copies m before all.
          let y = x.lots number copies m before all in
          record { after = y.after; same = y.same; run_is = told_hushed_run number largest y.after r call (drop 1 r.line.up) r.line.old (deeds_in limits choice now call b) (at_moment now b) (stepped limits choice now call b) x.hush same refl y.run_is; way = y.way };
      differ = x.differ;
      apart = x.apart;
    }

-- with what tells them apart
pub subscribes_apart : (largest : ℕ) (ids : List CopyId) (limits : Capacity) (choice : MemberChoice) (now birth : ℕ) (ns : List ℕ) (w : Wish) (rest : List Back) (r : Receiver) (l : BrokerLine) (s : Session) (b : Broker)
    → IsInStep largest ids birth ns r b → IsListening r l s b → IsTidy limits b → r.line.up ≡ asks_for w ∷ rest
    → (x : Subscribed largest ids birth ns (suc b.records.subscribes) (receiver_after limits choice now (Input l.number (wire_back r.client r.window r.aliases (asks_for w))) r b) (stepped limits choice now (Input l.number (wire_back r.client r.window r.aliases (asks_for w))) b))
    × (AreRetainedApart b → AreToldApart x.more (stepped limits choice now (Input l.number (wire_back r.client r.window r.aliases (asks_for w))) b).records)
subscribes_apart largest ids limits choice now birth ns w rest r l s b k a tidy up =
    let x = wished largest ids limits choice now birth ns w rest r l s b k a tidy up in
    (x.after, x.apart)

-- and leaves the receiver in step
pub subscribes_in_step : (largest : ℕ) (ids : List CopyId) (limits : Capacity) (choice : MemberChoice) (now birth : ℕ) (ns : List ℕ) (w : Wish) (rest : List Back) (r : Receiver) (l : BrokerLine) (s : Session) (b : Broker)
    → IsInStep largest ids birth ns r b → IsListening r l s b → IsTidy limits b → r.line.up ≡ asks_for w ∷ rest
    → Subscribed largest ids birth ns (suc b.records.subscribes) (receiver_after limits choice now (Input l.number (wire_back r.client r.window r.aliases (asks_for w))) r b) (stepped limits choice now (Input l.number (wire_back r.client r.window r.aliases (asks_for w))) b)
subscribes_in_step largest ids limits choice now birth ns w rest r l s b k a tidy up = (wished largest ids limits choice now birth ns w rest r l s b k a tidy up).after

-- on the line that it gave up
pub old_subscribes_apart : (largest : ℕ) (ids : List CopyId) (limits : Capacity) (choice : MemberChoice) (now birth : ℕ) (ns : List ℕ) (w : Wish) (rest : List Back) (r : Receiver) (l : BrokerLine) (s : Session) (b : Broker)
    → IsInStep largest ids birth ns r b → IsLingering r l s b → IsTidy limits b → r.line.old ≡ asks_for w ∷ rest
    → (x : Subscribed largest ids birth ns (suc b.records.subscribes) (reads_old_wish limits choice now l.number w r b) (stepped limits choice now (Input l.number (wire_back r.client r.window r.aliases (asks_for w))) b))
    × (AreRetainedApart b → AreToldApart x.more (stepped limits choice now (Input l.number (wire_back r.client r.window r.aliases (asks_for w))) b).records)
old_subscribes_apart largest ids limits choice now birth ns w rest r l s b k a tidy old =
    let call = asking w r l.number in
    let x = brings largest ids limits choice now birth ns w r (turned_back r) l s b k refl a tidy in
    let same : filter_map answered (drop 1 r.line.old) ≡ filter_map answered r.line.old = ap (λ (xs : List Back). filter_map answered (drop 1 xs)) old ∙ sym (ap (filter_map answered) old) in (
      record {
        more = x.more;
        new = x.new;
        in_step = record {
          runs = λ number m. told_hushed number largest (ids ++ x.more) birth r call r.line.up (drop 1 r.line.old) (deeds_in limits choice now call b) (at_moment now b) (stepped limits choice now call b) x.hush refl same (x.runs number m);
          served = x.served;
          lines = record { own = k.lines.own; old = k.lines.old };
        };
      },
      x.apart,
    )

-- also on the old line
pub old_subscribes_in_step : (largest : ℕ) (ids : List CopyId) (limits : Capacity) (choice : MemberChoice) (now birth : ℕ) (ns : List ℕ) (w : Wish) (rest : List Back) (r : Receiver) (l : BrokerLine) (s : Session) (b : Broker)
    → IsInStep largest ids birth ns r b → IsLingering r l s b → IsTidy limits b → r.line.old ≡ asks_for w ∷ rest
    → Subscribed largest ids birth ns (suc b.records.subscribes) (reads_old_wish limits choice now l.number w r b) (stepped limits choice now (Input l.number (wire_back r.client r.window r.aliases (asks_for w))) b)
old_subscribes_in_step largest ids limits choice now birth ns w rest r l s b k a tidy old = (old_subscribes_apart largest ids limits choice now birth ns w rest r l s b k a tidy old).0
