-- Every step and opening keeps the contents of what is stored lawful.
use Rattle.std.proofs.Common.{◌≡◌, refl, arith, sym, ℕ, Bool, true, false, List, [], ◌∷◌, ◌++◌, filter, map, Option, Some, None, subst, inl, inr}
use Rattle.mqtt_rules.specs.step.Fitting.{has_form}
use Rattle.mqtt_rules.proofs.step_lemmas.acts.Offers.{of_offer, of_offer_if}
use Rattle.mqtt_rules.proofs.step_lemmas.order.OrderedQueues.{length-mapped}
use Rattle.std.specs.Prelude.{◌≤◌, length, suc, flat_map, option_map, not, ◌&&◌}
use Rattle.std.specs.List.{AllByRecursion}
use Rattle.mqtt_base.specs.declared.session.Cause.{Cause}
use Rattle.mqtt_base.specs.declared.session.Cause.TheVariants.{Direct, Share}
use Rattle.mqtt_base.specs.declared.session.Ending.TheVariants.{SessionEnded}
use Rattle.mqtt_props.specs.declared.place.Place.TheVariants as places
use Rattle.mqtt_packet.specs.declared.connect.connect.Connect.{Connect as Greeting}
use Rattle.mqtt_packet.specs.declared.codec.packet.Packet.{Packet}
use Rattle.mqtt_topic.specs.names.Names.{is_empty}
use Rattle.mqtt_topic.specs.names.Filters.{begins_share}
use Rattle.mqtt_flow.specs.declared.outbound.entry.Turn.{Turn}
use Rattle.mqtt_flow.specs.declared.outbound.entry.Turn.TheVariants as turns
use Rattle.mqtt_flow.specs.outbound.Outbound.{way_made}
use Rattle.mqtt_routes.specs.declared.routing.retained.Kept.{Kept}
use Rattle.mqtt_routes.specs.routing.Retained.{kept_for}
use Rattle.mqtt_routes.specs.routing.Intended.{Copy}
use Rattle.mqtt_routes.specs.routing.Subscriptions.{Subscriber}
use Rattle.mqtt_routes.specs.routing.Acceptance.{Served, Routed, copies_in}
use Rattle.mqtt_records.specs.declared.messages.message.MessageCopy.{MessageCopy}
use Rattle.mqtt_records.specs.declared.messages.message.RetainedMessage.{RetainedMessage}
use Rattle.mqtt_records.specs.declared.messages.message.Will.{Will}
use Rattle.mqtt_records.specs.messages.Queue.{CopyRow}
use Rattle.mqtt_records.specs.declared.state.change.Change.{Change}
use Rattle.mqtt_records.specs.declared.state.session.Session.{Session}
use Rattle.mqtt_records.specs.declared.state.records.Records.{Records}
use Rattle.mqtt_records.specs.lists.Order.{row_at}
use Rattle.mqtt_records.specs.state.Session.{copy_place}
use Rattle.mqtt_rules.specs.declared.step.Capacity.{Capacity}
use Rattle.mqtt_records.specs.messages.PassedOn.{passed_on}
use Rattle.mqtt_rules.specs.step.Packets.{publish_of}
use Rattle.mqtt_rules.specs.step.State.{Line, Broker, Env, session_at, line_of, queue_on, MemberChoice}
use Rattle.mqtt_rules.specs.step.Deeds.{Whose, whose, Message, Origin, FromClient, Part, Resume, Close, Open, Enter, Leave, Hear, SetAlias, Deed, Accept, Begin, Count, At, Finish, Forget, RefuseWill, Link, On, Send, Gone, rows_of_all, after, after_all, series, always, offer}
use Rattle.mqtt_rules.specs.step.Deeds as told
use Rattle.mqtt_rules.specs.step.Outbound.{leave_deeds, turn_deeds, since, queue_limits, enter_deeds}
use Rattle.mqtt_rules.specs.step.Routing.{routed_subscription, subscriber_of, subscribers, publication_of, answers, CopyTo, copy_to, served_copies_to, copies_to, next_publication, routing_of, finds_place, accepted_if, accepted_copies, is_queued, deliver_by, deliver, retained_of, forgets, retain_by, publish}
use Rattle.mqtt_rules.specs.step.Closing.{end_session}
use Rattle.mqtt_rules.specs.step.Connect.{expiry_of, will_of, greet, begin_named}
use Rattle.mqtt_rules.specs.step.Fitting.{pump_turns}
use Rattle.mqtt_rules.specs.step.Inbound.{pump_deeds}
use Rattle.mqtt_rules.specs.step.Subscribe as sub
use Rattle.mqtt_rules.specs.step.Tick.{lapses, lapse_deeds}
use Rattle.mqtt_rules.specs.step.Step.{Call, NewLine, Input, BadInput, Lost, Pump, Tick, deeds, at_moment, env_of, with_moment, rows_written, stepped, opening_deeds, unopened, opened}
use Rattle.mqtt_rules.specs.step.Laws.{IsAmong}
use Rattle.mqtt_keep.specs.lawful.Lawful.{IsIdentifier}
use Rattle.mqtt_records.specs.declared.state.subscription.Subscription.{Subscription}
use Rattle.mqtt_routes.specs.declared.routing.subscription.Subscription.{Subscription as RoutedSubscription}
use Rattle.mqtt_base.specs.declared.limits.TheConstants.{SUBSCRIPTION_LIMIT}
use Rattle.mqtt_rules.proofs.step_lemmas.contents.ContentCopies.{routed_identified}
use Rattle.mqtt_rules.proofs.step_lemmas.contents.ContentCopies as copies
use Rattle.mqtt_props.specs.declared.place.Place.{Place}
use Rattle.mqtt_props.specs.Properties.{Prop}
use Rattle.mqtt_records.specs.declared.messages.message.Content.{Content}
use Rattle.mqtt_rules.specs.step.Contents.{IsAskedFor, IsTaken, TakesLawful, IsTopic, HasTopics, IsCopiedOf, AreIdentifiersOf, IsContentOf, IsPublishedOf, IsWilledOf, HasContentsOf, HasLawfulContentsOf, AreContentsOf, Sizes, AreSizes}
use Rattle.mqtt_rules.proofs.step_lemmas.acts.Goods.{AreGood, good_append, good_flat, good_of_entry, good_with_session}
use Rattle.mqtt_rules.proofs.step_lemmas.acts.Leads.{found_among, Leads, leads_good}
use Rattle.mqtt_rules.proofs.step_lemmas.acts.Acts.{About, anyone, closing_session, closing_on, closing, is_alone, brought_to, Finds, Law, IsCallOf, IsItsLine, leads_call, leads_opening}
use Rattle.mqtt_rules.proofs.step_lemmas.numbers.Copies.{each_more, each_filter, each_append, each_map}
use Rattle.mqtt_rules.proofs.step_lemmas.contents.ContentRows as rows
use Rattle.mqtt_rules.proofs.step_lemmas.contents.ContentPackets.{published, sent_content, asked_content, asked_identifier}

-- ---- whom it concerns

module _ (sizes : Sizes) (are : AreSizes sizes) where
  abbrev IsCopied : MessageCopy → Type 0
  IsCopied = IsCopiedOf sizes

  abbrev AreIdentifiers : List ℕ → Type 0
  AreIdentifiers = AreIdentifiersOf sizes

  abbrev IsContent : Place → List ℕ → List Prop → List ℕ → Type 0
  IsContent = IsContentOf sizes

  abbrev IsPublished : Content → Type 0
  IsPublished = IsPublishedOf sizes

  abbrev IsWilled : Option Will → Type 0
  IsWilled = IsWilledOf sizes

  abbrev HasContents : Session → Type 0
  HasContents = HasContentsOf sizes

  abbrev HasLawfulContents : Records → Type 0
  HasLawfulContents = HasLawfulContentsOf sizes

  abbrev AreContentsLawful : Broker → Type 0
  AreContentsLawful = AreContentsOf sizes

  abbrev Brings : Deed → Broker → Type 0
  Brings = rows.Brings sizes

  abbrev AreNumbered : Subscriber → Type 0
  AreNumbered = copies.AreNumbered sizes are

  abbrev IsIdentified : Copy → Type 0
  IsIdentified = copies.IsIdentified sizes are

  abbrev IsRoutedWell : Routed → Type 0
  IsRoutedWell = copies.IsRoutedWell sizes are

  abbrev IsMessage : Message → Type 0
  IsMessage m = IsContent places.Publish m.topic m.properties m.payload

  -- lines whose aliases are topic names, packets that are taken, and messages that are lawful
  abbrev topical : About
  topical = record anyone { line = HasTopics; packet = IsTaken; message = IsMessage }

  each_among : {X : Type 0} (P : X → Type 0) (x : X) (xs : List X) → AllByRecursion P xs → IsAmong x xs → P x
  each_among P x [] h among = absurd among
  each_among P x (y ∷ ys) h among = elim among [ inl it ↦ subst P it h.0 | inr more ↦ each_among P x ys h.1 more ]

  willed : (s : Session) (w : Will) (b : Broker) → AreContentsLawful b → IsAmong s b.records.sessions → s.will ≡ Some w → IsContent places.Publish w.topic (passed_on w.properties) w.payload
  willed s w b k among e =
      let its = each_among HasContents s b.records.sessions k.stored.sessions among in
      published sizes places.Will w.topic w.properties w.payload (subst IsWilled e its.will)

  topical_finds : Finds topical AreContentsLawful
  topical_finds = record {
    its_number = λ l its. tt;
    its_session = λ l birth its e. tt;
    its_line = λ birth l b k its e. each_among HasTopics l b.lines k.lines (found_among _ l b.lines e);
    named = λ client s b k its e. tt;
    admitted = λ c b k came e. tt;
    sent = λ l s p topic b k its came e. sent_content sizes are p l.aliases topic came its e;
    willed = willed;
  }

  -- ---- queues

  abbrev Brought : List Deed → Broker → Type 0
  Brought = AreGood Brings

  leave_brings : (s : Session) (t : Turn) (b : Broker) → Brought (leave_deeds s t) b
  leave_brings s (turns.Leave place ending) b = good_of_entry Brings (row_at copy_place place s.queue) (λ e. At (whose s) (Leave e ending) ∷ []) b (λ e. (tt, tt))
  leave_brings s t b = tt

  leaves_bring : (s : Session) (ts : List Turn) (b : Broker) → Brought (flat_map (leave_deeds s) ts) b
  leaves_bring s ts b = good_flat Brings (leave_deeds s) (leave_brings s) ts b

  turn_brings : (now line : ℕ) (s : Session) (t : Turn) (b : Broker) → Brought (turn_deeds now line s t) b
  turn_brings now line s (turns.Send place id) b = good_of_entry Brings (row_at copy_place place s.queue) _ b (λ e. (tt, (tt, (tt, tt))))
  turn_brings now line s (turns.Resend place id) b = good_of_entry Brings (row_at copy_place place s.queue) _ b (λ e. (tt, (tt, tt)))
  turn_brings now line s (turns.Release place id order) b = (tt, (tt, tt))
  turn_brings now line s (turns.Outgrow place id order) b = (tt, (tt, tt))
  turn_brings now line s (turns.Repeat id) b = (tt, tt)
  turn_brings now line s (turns.Unknown id) b = (tt, tt)
  turn_brings now line s (turns.Leave place ending) b = leave_brings s (turns.Leave place ending) b

  -- ---- copies

  abbrev IsCopiedTo : CopyTo → Type 0
  IsCopiedTo d = IsCopied d.copy

  enter_brings : (env : Env) (copy : MessageCopy) (s : Session) (b : Broker) → IsCopied copy → Brought (enter_deeds env copy s) b
  enter_brings env copy s b q =
      let ts = way_made (queue_limits env) (since env s) (queue_on [] s) in
      good_append Brings (flat_map (leave_deeds s) ts) (At (whose s) (Enter copy) ∷ []) b (leaves_bring s ts b) (q, tt)

  offer_brings : (o : Option Line) (packet : Packet) (b : Broker) → Brought (offer o packet) b
  offer_brings o packet b = of_offer (λ (ds : List Deed). Brought ds b) o packet tt (λ l there. (tt, tt))

  deliver_brings : (t : Bool) (env : Env) (d : CopyTo) (b : Broker) → IsCopiedTo d → Brought (deliver_by t env d b) b
  deliver_brings true env d b q =
      good_with_session Brings (session_at d.birth b.records) (λ s. always (enter_deeds env d.copy s)) b (λ s e. enter_brings env d.copy s b q)
  deliver_brings false env d b q =
      of_offer_if (λ (ds : List Deed). Brought ds b) (has_form d.copy b) (line_of d.birth b) (publish_of b.now false 0 d.copy) tt (λ l there. (tt, tt))

  deliveries_bring : (env : Env) (ds : List CopyTo) (b : Broker) → AllByRecursion IsCopiedTo ds → Brought (series (map (deliver env) ds) b) b
  deliveries_bring env [] b h = tt
  deliveries_bring env (d ∷ ds) b h =
      let first = deliver env d b in
      let c = after_all first b in
      good_append Brings first (series (map (deliver env) ds) c) b (deliver_brings (is_queued d) env d b h.0) (deliveries_bring env ds c h.1)

  -- of a publication
  copies_made : (number now : ℕ) (m : Message) (r : Routed) → IsMessage m → IsRoutedWell r → AllByRecursion IsCopiedTo (copies_to number now m r)
  copies_made number now m r q h =
      each_append IsCopiedTo (map (copy_to number now m Direct) r.direct) (flat_map (served_copies_to number now m) r.served)
      (all_to Direct r.direct h.direct) (all_served r.served h.served)
    where
      all_to : (cause : Cause) (cs : List Copy) → AllByRecursion IsIdentified cs → AllByRecursion IsCopiedTo (map (copy_to number now m cause) cs)
      all_to cause [] h = tt
      all_to cause (c ∷ cs) h = (record { content = q; identifiers = h.0 }, all_to cause cs h.1)

      all_served : (ss : List Served) → AllByRecursion (λ s. AllByRecursion IsIdentified (copies_in s.copy)) ss → AllByRecursion IsCopiedTo (flat_map (served_copies_to number now m) ss)
      all_served [] h = tt
      all_served (s ∷ ss) h =
          each_append IsCopiedTo (served_copies_to number now m s) (flat_map (served_copies_to number now m) ss) (all_to (Share s.group) (copies_in s.copy) h.0) (all_served ss h.1)

  made_if : (t : Bool) (number now : ℕ) (m : Message) (o : Option Routed) (ds : List CopyTo) → IsMessage m → ((r : Routed) → o ≡ Some r → IsRoutedWell r)
      → accepted_if t (option_map (copies_to number now m) o) ≡ Some ds → AllByRecursion IsCopiedTo ds
  made_if false number now m o ds q h e = absurd cc
  made_if true number now m None ds q h e = absurd cc
  made_if true number now m (Some r) ds q h e =
      let same : copies_to number now m r ≡ ds = cc in
      subst (λ (xs : List CopyTo). AllByRecursion IsCopiedTo xs) same (copies_made number now m r q (h r refl))

  subscriber_numbered : (s : Session) → HasContents s → AreNumbered (subscriber_of s)
  subscriber_numbered s h = (numbers s.subscriptions h.subscriptions, few s.subscriptions h.table.within)
    where
      numbers : (xs : List Subscription) → AllByRecursion IsAskedFor xs → AllByRecursion (λ (x : RoutedSubscription). IsIdentifier x.identifier) (map routed_subscription xs)
      numbers [] h = tt
      numbers (x ∷ xs) h = (h.0.identifier, numbers xs h.1)

      few : (xs : List Subscription) → length xs ≤ SUBSCRIPTION_LIMIT → length (map routed_subscription xs) ≤ SUBSCRIPTION_LIMIT
      few xs le = let same = length-mapped routed_subscription xs in omega (arith, same, le)

  subscribers_numbered : (ss : List Session) → AllByRecursion HasContents ss → AllByRecursion AreNumbered (map subscriber_of ss)
  subscribers_numbered [] h = tt
  subscribers_numbered (s ∷ ss) h = (subscriber_numbered s h.0, subscribers_numbered ss h.1)

  -- of retained messages
  abbrev Retains : RetainedMessage → Type 0
  Retains k = IsPublished k.content

  wish_identified : (o : Option ℕ) → IsIdentifier o → AreIdentifiers (sub.identifiers_of o)
  wish_identified None q = record { each = tt; few = omega arith }
  wish_identified (Some n) q = let many = are.identifiers.0 in record { each = (q, tt); few = omega (arith, many) }

  brought_copied : (t : Bool) (now number : ℕ) (s : Session) (w : sub.Wish) (ks : List RetainedMessage) → IsIdentifier w.identifier → AllByRecursion Retains ks → AllByRecursion IsCopiedTo (sub.brought_if t now number s w ks)
  brought_copied false now number s w ks q h = tt
  brought_copied true now number s w ks q h =
      let tabled = each_map (λ (y : Kept RetainedMessage). Retains (sub.message_in y)) sub.kept_of ks h in
      let matched = each_filter (λ (y : Kept RetainedMessage). Retains (sub.message_in y)) _ (map sub.kept_of ks) tabled in
      let messages = each_map Retains sub.message_in (kept_for w.filter (map sub.kept_of ks)) matched in
      let all = filter (sub.is_brought now s w) (map sub.message_in (kept_for w.filter (map sub.kept_of ks))) in
      let fit = each_filter Retains (sub.is_brought now s w) (map sub.message_in (kept_for w.filter (map sub.kept_of ks))) messages in
      each_map IsCopiedTo (sub.retained_copy_to s.birth number w) all
      (each_more Retains (λ k. IsCopiedTo (sub.retained_copy_to s.birth number w k)) (λ k p. record { content = p; identifiers = wish_identified w.identifier q }) all fit)

  -- ---- publications

  forgets_bring : (o : Option RetainedMessage) (b : Broker) → Brought (forgets o) b
  forgets_bring None b = tt
  forgets_bring (Some k) b = (tt, tt)

  retain_brings : (retain empty : Bool) (number : ℕ) (m : Message) (b : Broker) → IsMessage m → Brought (retain_by retain empty number m b) b
  retain_brings false empty number m b q = tt
  retain_brings true true number m b q = forgets_bring (retained_of m.topic b.records) b
  retain_brings true false number m b q = (q, tt)

  publish_brings : (env : Env) (origin : Origin) (m : Message) (ds : List CopyTo) (b : Broker) → AreContentsLawful b → IsMessage m → accepted_copies env m b ≡ Some ds → Brought (publish env origin m ds b) b
  publish_brings env origin m ds b k q e =
      let number = next_publication b.records in
      let c = after (Accept number origin m) b in
      let next = retain_by m.retain (is_empty m.payload) number m c in
      let d = after_all next c in (
        tt,
        good_append Brings next (series (map (deliver env) ds) d) c (retain_brings m.retain (is_empty m.payload) number m c q)
            (deliveries_bring env ds d (made_if (finds_place env m b.records) number b.now m (routing_of env m b.records) ds q
            (λ r is. routed_identified sizes are (answers env b.records) (publication_of m) (env.choice number m.sender) (subscribers b.records) r (subscribers_numbered b.records.sessions k.stored.sessions) is) e)),
      )

  -- ---- sessions

  alone_brings : (who : Whose) (part : Part) (b : Broker) → is_alone part ≡ true → Brings (At who part) b
  alone_brings who (Resume expiry will) b q = absurd cc
  alone_brings who (Enter copy) b q = absurd cc
  alone_brings who (told.Subscribe x) b q = absurd cc
  alone_brings who part b q = tt

  closed_brings : (keeps_will : Bool) (now : ℕ) (o : Option Session) (b : Broker) → Brought (closing_session keeps_will now o) b
  closed_brings keeps_will now None b = tt
  closed_brings true now (Some s) b = (tt, tt)
  closed_brings false now (Some s) b = (tt, (tt, tt))

  closing_brings : (keeps_will : Bool) (now : ℕ) (session : Option ℕ) (r : Records) (b : Broker) → Brought (closing_on keeps_will now session r) b
  closing_brings keeps_will now None r b = tt
  closing_brings keeps_will now (Some birth) r b = closed_brings keeps_will now (session_at birth r) b

  end_brings : (s : Session) (q : List CopyRow) (b : Broker) → Brought (map (λ e. At (whose s) (Leave e SessionEnded)) q ++ Finish (whose s) ∷ []) b
  end_brings s [] b = (tt, tt)
  end_brings s (e ∷ q) b = (tt, end_brings s q (after (At (whose s) (Leave e SessionEnded)) b))

  begin_brings : (t : Bool) (l : Line) (c : Greeting) (r : Records) (b : Broker) → IsWilled (will_of c) → Brought (begin_named t l c r) b
  begin_brings false l c r b q = (q, (tt, (tt, tt)))
  begin_brings true l c r b q = (tt, (q, (tt, (tt, tt))))

  -- ---- the law

  led : (ds : List Deed) (b : Broker) → AreContentsLawful b → Brought ds b → Leads AreContentsLawful Brings ds b
  led ds b k g = leads_good AreContentsLawful Brings (rows.brought_kept sizes) ds b k g

  content_law : (env : Env) → Law env topical AreContentsLawful Brings
  content_law env = record {
    finds = topical_finds;
    client_stays = λ client ds b k done its. tt;
    publishes = λ origin m ds b k said e. led (publish env origin m ds b) b k (publish_brings env origin m ds b k said e);
    open_id = λ s id m ds b k h its there new is. led (At (whose s) (Open id) ∷ []) (after_all (publish env FromClient m ds b) b) h (tt, tt);
    refuse_will = λ who b k its. led (RefuseWill who ∷ []) b k (tt, tt);
    alone = λ who part b k its is. led (At who part ∷ []) b k (alone_brings who part b is, tt);
    closes = λ keeps_will l b k its on. led (closing keeps_will l b) b k (tt, closing_brings keeps_will b.now l.session b.records (after (Gone l.number) b));
    ends = λ s b k its among may. led (end_session s) b k (end_brings s s.queue b);
    resumes = λ l c s b k its none came taken own is prepared. led (At (whose s) (Resume (expiry_of c) (will_of c)) ∷ greet l c s.birth ∷ []) b k (asked_content sizes are c taken.0 came taken.1, (tt, tt));
    begins = λ l c b k its none came taken name is room prepared. led (begin_named (is_empty c.client_identifier) l c b.records) b k (begin_brings (is_empty c.client_identifier) l c b.records b (asked_content sizes are c taken.0 came taken.1));
    grants = λ w s b k its asked granted.
        let number = sub.next_number b.records in
        let queued = filter is_queued (brought_to w s b) in
        let identified = subst IsIdentifier (sym asked.2) (asked_identifier asked.0 asked.1) in
        let copies = brought_copied (not (begins_share w.filter) && sub.wants_retained w.options.retain_handling (sub.has_filter w.filter s)) b.now number s w b.records.retained identified k.stored.retained in
        led (sub.granted_filter env number s w (brought_to w s b) b).deeds b k
        (tt, (record { filter = granted.valid; identifier = identified }, deliveries_bring env queued (after_all (Count number ∷ At (whose s) (told.Subscribe (sub.subscription number s w)) ∷ []) b) (each_filter IsCopiedTo is_queued (brought_to w s b) copies)));
    pumps = λ l s b k its is there. led (pump_deeds l b s) b k (good_flat Brings (turn_deeds b.now l.number s) (turn_brings b.now l.number s) (pump_turns l b s) b);
    turns = λ a t l s b k its own there is e. led (turn_deeds b.now l.number s t) b k (turn_brings b.now l.number s t b);
    lapses = λ s b k among. led (lapse_deeds b.now s) b k (leaves_bring s (lapses b.now s) b);
    stale = λ x b k among. led (Forget x.place ∷ []) b k (tt, tt);
    links = λ b k can. led (Link (suc b.given) ∷ []) b k (tt, tt);
    hears = λ n b k its. led (On n Hear ∷ []) b k (tt, tt);
    sets = λ n alias topic b k its said. led (On n (SetAlias alias topic) ∷ []) b k (subst IsTopic said.2 said.1.named, tt);
    sends = λ n packet b k its. led (Send n packet ∷ []) b k (tt, tt);
  }

  -- ---- steps

  its_topics : (n : ℕ) (b : Broker) → AreContentsLawful b → IsItsLine topical n b
  its_topics n b k l e = each_among HasTopics l b.lines k.lines (found_among _ l b.lines e)

  topical_call : (call : Call) (b : Broker) → AreContentsLawful b → TakesLawful call → IsCallOf topical call b
  topical_call NewLine b k taken = tt
  topical_call (Input n packet) b k taken = (its_topics n b k, taken)
  topical_call (BadInput n is_connect code) b k taken = its_topics n b k
  topical_call (Lost n) b k taken = its_topics n b k
  topical_call (Pump n) b k taken = its_topics n b k
  topical_call Tick b k taken = record {
    silent = λ l e. each_among HasTopics l b.lines k.lines (found_among _ l b.lines e);
    wills = λ s e. tt;
    ends = λ s e. tt;
  }

  stamped_lawful : (rows : List Change) (b : Broker) → AreContentsLawful b → AreContentsLawful (with_moment rows b)
  stamped_lawful [] b k = k
  stamped_lawful (row ∷ rows) b k = record { stored = record { sessions = k.stored.sessions; retained = k.stored.retained }; lines = k.lines }

  -- the deeds of a step, and those of an opening
  step_leads : (limits : Capacity) (choice : MemberChoice) (now : ℕ) (call : Call) (b : Broker) → TakesLawful call → AreContentsLawful b
      → Leads AreContentsLawful Brings (deeds limits choice now call b) (at_moment now b)
  step_leads limits choice now call b taken h =
      let env = env_of limits choice b in
      let c = at_moment now b in
      let k : AreContentsLawful c = record { stored = h.stored; lines = h.lines } in
      leads_call env topical AreContentsLawful Brings (content_law env) call c k (topical_call call c k taken)

  opening_leads : (limits : Capacity) (choice : MemberChoice) (now : ℕ) (r : Records) → HasLawfulContents r
      → Leads AreContentsLawful Brings (opening_deeds limits choice now r) (unopened now r)
  opening_leads limits choice now r h =
      let c = unopened now r in
      let env = env_of limits choice c in
      let k : AreContentsLawful c = record { stored = h; lines = tt } in
      leads_opening env topical AreContentsLawful Brings (content_law env) (λ s b h is. led (At (whose s) (Close b.now) ∷ []) b h (tt, tt)) (λ birth. tt) c k

  -- a step with a lawful packet keeps contents lawful
  pub step_contents : (limits : Capacity) (choice : MemberChoice) (now : ℕ) (call : Call) (b : Broker) → TakesLawful call → AreContentsLawful b → AreContentsLawful (stepped limits choice now call b)
  step_contents limits choice now call b taken h =
      let c = at_moment now b in
      let ds = deeds limits choice now call b in
      stamped_lawful (rows_of_all ds c.records) (after_all ds c) (step_leads limits choice now call b taken h).1

  -- an opening keeps contents lawful
  pub opening_contents : (limits : Capacity) (choice : MemberChoice) (now : ℕ) (r : Records) → HasLawfulContents r → AreContentsLawful (opened limits choice now r)
  opening_contents limits choice now r h =
      let c = unopened now r in
      let ds = opening_deeds limits choice now r in
      stamped_lawful (rows_of_all ds c.records) (after_all ds c) (opening_leads limits choice now r h).1

  -- ---- what their rows bring

  -- the rows of a step with a lawful packet bring lawful contents
  pub step_brings : (limits : Capacity) (choice : MemberChoice) (now : ℕ) (call : Call) (b : Broker) → TakesLawful call → AreContentsLawful b
      → rows.RowsBring sizes (rows_written (deeds limits choice now call b) (at_moment now b))
  step_brings limits choice now call b taken h =
      let c = at_moment now b in
      let ds = deeds limits choice now call b in
      rows.stamped_bring sizes c.now c.records.moment (rows_of_all ds c.records) (rows.written_bring sizes ds c (step_leads limits choice now call b taken h).0)

  -- the rows of an opening bring lawful contents
  pub opening_brings : (limits : Capacity) (choice : MemberChoice) (now : ℕ) (r : Records) → HasLawfulContents r
      → rows.RowsBring sizes (rows_written (opening_deeds limits choice now r) (unopened now r))
  opening_brings limits choice now r h =
      let c = unopened now r in
      let ds = opening_deeds limits choice now r in
      rows.stamped_bring sizes c.now c.records.moment (rows_of_all ds c.records) (rows.written_bring sizes ds c (opening_leads limits choice now r h).0)
