-- What is said of publications, of sessions that begin, of identifiers that open and of filters that are granted, and of
-- nothing else that a call or an opening does: so it is said of each call and each opening.
use Rattle.std.proofs.Common.{◌≡◌, ℕ, suc, Bool, true, false, cond, not, ◌&&◌, ◌||◌, List, [], ◌∷◌, ◌++◌, filter, length, map, Option, Some, None, refl, sym, ap, subst, ◌∙◌, append_assoc}
use Rattle.std.specs.Prelude.{⊤, Err, Ok, find, flat_map, nat_le, nat_lt, option_map}
use Rattle.std.specs.List.{AllByRecursion}
use Rattle.mqtt_base.specs.Codes.{identifier_in_use, keep_alive_timeout, protocol_error, quota_exceeded, receive_maximum_exceeded, session_taken_over}
use Rattle.mqtt_base.specs.declared.limits.TheConstants.{SUBSCRIPTION_LIMIT}
use Rattle.mqtt_base.specs.declared.session.Ending.TheVariants.{SessionEnded}
use Rattle.mqtt_base.specs.declared.session.SubscriptionOptions.{SubscriptionOptions}
use Rattle.mqtt_packet.specs.subscribe.Options.{options_of}
use Rattle.mqtt_packet.specs.declared.codec.packet.Packet.{Packet}
use Rattle.mqtt_packet.specs.declared.codec.packet.Packet.TheVariants as packets
use Rattle.mqtt_packet.specs.declared.codec.publish.Delivery.{Delivery}
use Rattle.mqtt_packet.specs.declared.codec.publish.Delivery.TheVariants as delivery
use Rattle.mqtt_packet.specs.declared.codec.publish.Publish.{Publish as Publication}
use Rattle.mqtt_packet.specs.declared.connect.connect.Connect.{Connect as Greeting}
use Rattle.mqtt_flow.specs.outbound.Outbound.{Answer, resumed_with}
use Rattle.mqtt_flow.specs.outbound.Outbound as rules
use Rattle.mqtt_flow.specs.declared.outbound.entry.Turn.{Turn}
use Rattle.mqtt_flow.specs.declared.outbound.entry.Turn.TheVariants as turns
use Rattle.mqtt_flow.specs.inbound.Identifiers.{is_among}
use Rattle.mqtt_flow.specs.inbound.Inbound.{answer_to_release}
use Rattle.mqtt_flow.specs.declared.inbound.inflow.Published.{Published}
use Rattle.mqtt_flow.specs.declared.inbound.inflow.Published.TheVariants.{Again, New, Over}
use Rattle.mqtt_flow.specs.declared.inbound.inflow.ReleaseAnswer.{ReleaseAnswer}
use Rattle.mqtt_flow.specs.declared.inbound.inflow.ReleaseAnswer.TheVariants.{Known, Unknown}
use Rattle.mqtt_records.specs.messages.Queue.{CopyRow}
use Rattle.mqtt_records.specs.declared.messages.message.RetainedMessage.{RetainedMessage}
use Rattle.mqtt_records.specs.declared.messages.message.Will.{Will}
use Rattle.mqtt_props.specs.declared.table.PropName.TheVariants.{SubscriptionIdentifier, TopicAlias}
use Rattle.mqtt_records.specs.state.Session.{birth_of, copy_place}
use Rattle.mqtt_records.specs.declared.state.records.Records.{Records}
use Rattle.mqtt_records.specs.declared.state.session.Session.{Session}
use Rattle.mqtt_records.specs.lists.Order.{row_at}
use Rattle.mqtt_packet.specs.subscribe.Subscriptions.{Subscription as Asked}
use Rattle.mqtt_packet.specs.declared.subscribe.subscribe.Subscribe.{Subscribe as Asking}
use Rattle.mqtt_packet.specs.declared.subscribe.unsubscribe.Unsubscribe.{Unsubscribe as GivingUp}
use Rattle.mqtt_topic.specs.names.Filters.{is_filter}
use Rattle.mqtt_topic.specs.names.Names.{is_empty}
use Rattle.mqtt_rules.specs.step.Closing.{close, close_connected, close_session, drop_line, end_session, has_due_end, has_due_will, publish_or_refuse, publish_will, settle, will_deeds, will_message}
use Rattle.mqtt_rules.specs.step.Connect.{begin_named, clear, connect_by, joins, largest_of, of_client, prepare, refusal, refusal_size, refused, resume, take_over}
use Rattle.mqtt_rules.specs.step.Deeds.{Whose, whose, Message, Origin, FromClient, FromWill, Close, DropWill, Leave, Hear, Deed, At, Finish, Forget, RefuseWill, Link, On, Send, Gone, Act, after_all, always, of_session, offer, only_if, series, with_line, with_session}
use Rattle.mqtt_rules.specs.step.Fitting.{pump_turns}
use Rattle.mqtt_rules.specs.step.Inbound.{Meaning, Means, Wrong, answer, code_accepted, code_again, leave_by, meaning, message_of, new_expiry, on_answer, opens, publish_by, publish_meant, publish_new, pump_deeds, release_by, sets_alias, standing}
use Rattle.mqtt_rules.specs.step.Outbound.{all_turn_deeds, turn_deeds}
use Rattle.mqtt_rules.specs.step.Packets.{connack, disconnect, suback, unsuback}
use Rattle.mqtt_records.specs.messages.PassedOn.{number_at}
use Rattle.mqtt_rules.specs.step.Routing.{CopyTo, accepted_copies, is_queued, is_wanted, publish}
use Rattle.mqtt_rules.specs.step.State.{Broker, Env, Line, line_at, line_of, queue_on, session_at, session_named}
use Rattle.mqtt_rules.specs.step.Step.{Call, NewLine, Input, BadInput, Lost, Pump, Tick, can_link, connected_in, deeds_of, first_packet, late_code, next_packet, on_fault, on_packet, on_pump, opening, settles, settles_all, shuts, shuts_all}
use Rattle.mqtt_rules.specs.step.Subscribe as sub
use Rattle.mqtt_rules.specs.step.Tick.{due, first_due, has_lapsed, is_silent, is_stale, lapse_deeds, lapses, on_tick, silence}
use Rattle.mqtt_rules.proofs.step_lemmas.acts.Acts.{brought_to}
use Rattle.mqtt_rules.proofs.step_lemmas.flight.FlightRows.{found_key}
use Rattle.mqtt_rules.proofs.step_lemmas.numbers.Copies.{each_all, each_append, each_flat}
use Rattle.mqtt_rules.proofs.step_lemmas.fit.StandLaw.{Orders, ordered_all}
use Rattle.mqtt_world_laws.proofs.acceptance_lemmas.copies.Entering.{AreCalm, AreStill, IsCalm, calm_cond, calm_copy, calm_entry, calm_leave, calm_leaves, calm_offer, stills}

-- ---- lists of deeds that bring nothing and let nothing enter, begin no session and open no identifier

calm_turn : (now line : ℕ) (s : Session) (t : Turn) → AreCalm (turn_deeds now line s t)
calm_turn now line s (turns.Send place id) = calm_entry (row_at copy_place place s.queue) _ (λ e. (tt, (tt, (tt, tt))))
calm_turn now line s (turns.Resend place id) = calm_entry (row_at copy_place place s.queue) _ (λ e. (tt, (tt, tt)))
calm_turn now line s (turns.Release place id order) = (tt, (tt, tt))
calm_turn now line s (turns.Outgrow place id order) = (tt, (tt, tt))
calm_turn now line s (turns.Repeat id) = (tt, tt)
calm_turn now line s (turns.Unknown id) = (tt, tt)
calm_turn now line s (turns.Leave place ending) = calm_leave s (turns.Leave place ending)

calm_turns : (now line : ℕ) (s : Session) (ts : List Turn) → AreCalm (all_turn_deeds now line s ts)
calm_turns now line s ts = each_flat IsCalm (turn_deeds now line s) (calm_turn now line s) ts

calm_ends : (s : Session) (es : List CopyRow) → AreCalm (map (λ e. At (whose s) (Leave e SessionEnded)) es)
calm_ends s [] = tt
calm_ends s (e ∷ es) = (tt, calm_ends s es)

calm_end : (s : Session) → AreCalm (end_session s)
calm_end s = each_append IsCalm (map (λ e. At (whose s) (Leave e SessionEnded)) s.queue) (Finish (whose s) ∷ []) (calm_ends s s.queue) (tt, tt)

calm_refused : (l : Line) (c : Greeting) (code : ℕ) → AreCalm (refused l c code)
calm_refused l c code = each_append IsCalm (cond (nat_lt (largest_of c) refusal_size) [] (Send l.number (connack false code []) ∷ [])) (Gone l.number ∷ [])
    (calm_cond (nat_lt (largest_of c) refusal_size) [] (Send l.number (connack false code []) ∷ []) tt (tt, tt)) (tt, tt)

still_begin : (t : Bool) (l : Line) (c : Greeting) (r : Records) → AreStill (begin_named t l c r)
still_begin false l c r = (tt, (tt, (tt, tt)))
still_begin true l c r = (tt, (tt, (tt, (tt, tt))))

calm_answer : (line : ℕ) (d : Delivery) (code : ℕ) → AreCalm (answer line d code)
calm_answer line delivery.AtMostOnce code = tt
calm_answer line (delivery.AtLeastOnce dup id) code = (tt, tt)
calm_answer line (delivery.ExactlyOnce dup id) code = (tt, tt)

still_opens : (s : Session) (d : Delivery) → AreStill (opens s d)
still_opens s delivery.AtMostOnce = tt
still_opens s (delivery.AtLeastOnce dup id) = tt
still_opens s (delivery.ExactlyOnce dup id) = (tt, tt)

calm_alias : (t : Bool) (alias : Option ℕ) (line : ℕ) (topic : List ℕ) → AreCalm (sets_alias t alias line topic)
calm_alias true alias line topic = tt
calm_alias false None line topic = tt
calm_alias false (Some n) line topic = (tt, tt)

calm_release : (x : ReleaseAnswer) (l : Line) (s : Session) (id : ℕ) → AreCalm (release_by x l s id)
calm_release Known l s id = (tt, (tt, tt))
calm_release Unknown l s id = (tt, tt)

calm_expiry : (o : Option ℕ) (s : Session) → AreCalm (new_expiry o s)
calm_expiry None s = tt
calm_expiry (Some n) s = (tt, tt)

calm_unsubscribe : (t : Bool) (line : ℕ) (s : Session) (p : GivingUp) (b : Broker) → AreCalm (sub.unsubscribe_by t line s p b)
calm_unsubscribe true line s p b = calm_offer (line_at line b) (unsuback p.identifier (map (λ f. identifier_in_use) p.filters))
calm_unsubscribe false line s p b =
    each_append IsCalm (flat_map (sub.unsubscribes s) (filter (λ f. sub.has_filter f s) p.filters)) (offer (line_at line b) (unsuback p.identifier (sub.drop_codes s [] p.filters)))
    (each_flat IsCalm (sub.unsubscribes s) (λ f. (tt, tt)) (filter (λ f. sub.has_filter f s) p.filters)) (calm_offer (line_at line b) (unsuback p.identifier (sub.drop_codes s [] p.filters)))

-- ---- acts

-- what is known of the packets that come in, and so of each filter that one of them asks for
pub record Came : Type 1 where
  pub packet : Packet → Type 0
  pub wished : List ℕ → Type 0
  pub asks : (p : Asking) → packet (packets.Subscribe p) → AllByRecursion (λ (a : Asked). wished a.filter) p.subscriptions

-- nothing
abbrev pub whatever : Came
whatever = record { packet = λ packet. ⊤; wished = λ text. ⊤; asks = λ p h. each_all (λ (a : Asked). ⊤) (λ a. tt) p.subscriptions }

-- the packet of a call is such a one
abbrev pub CameIn : Came → Call → Type 0
CameIn came call = (n : ℕ) (packet : Packet) → call ≡ Input n packet → came.packet packet

-- what is said of deeds on a state in which something is kept: of those that are calm, of some and then others, and of
-- those that are not: a publication, a session that begins, an identifier that opens and a filter that is granted
pub record Says (env : Env) (came : Came) (Keeps : Broker → Type 0) (R : List Deed → Broker → Type 0) : Type 0 where
  pub stays : (ds : List Deed) (b : Broker) → Keeps b → Keeps (after_all ds b)
  pub calm : (ds : List Deed) (b : Broker) → AreCalm ds → R ds b
  pub next : (xs ys : List Deed) (b : Broker) → R xs b → R ys (after_all xs b) → R (xs ++ ys) b
  pub publish : (origin : Origin) (m : Message) (ds : List CopyTo) (b : Broker) → Keeps b → accepted_copies env m b ≡ Some ds → R (publish env origin m ds b) b
  pub begins : (l : Line) (c : Greeting) (r : Records) (b : Broker) → R (begin_named (is_empty c.client_identifier) l c r) b
  pub opens : (s : Session) (p : Publication) (b : Broker) → came.packet (packets.Publish p) → R (opens s p.delivery) b
  pub grants : (w : sub.Wish) (s : Session) (b : Broker) → came.wished w.filter → is_filter w.filter ≡ true → session_at s.birth b.records ≡ Some s
      → R (sub.granted_filter env (sub.next_number b.records) s w (brought_to w s b) b).deeds b

-- on a state in order, whatever packets come in, if a session that begins and an identifier that opens are as calm
-- deeds are
pub says_still : (env : Env) (R : List Deed → Broker → Type 0) → ((ds : List Deed) (b : Broker) → AreStill ds → R ds b)
    → ((xs ys : List Deed) (b : Broker) → R xs b → R ys (after_all xs b) → R (xs ++ ys) b)
    → ((origin : Origin) (m : Message) (ds : List CopyTo) (b : Broker) → Orders b → accepted_copies env m b ≡ Some ds → R (publish env origin m ds b) b)
    → ((w : sub.Wish) (s : Session) (b : Broker) → session_at s.birth b.records ≡ Some s → R (sub.granted_filter env (sub.next_number b.records) s w (brought_to w s b) b).deeds b)
    → Says env whatever Orders R
says_still env R of_still of_next of_publish of_grants = record {
  stays = ordered_all;
  calm = λ ds b h. of_still ds b (stills ds h);
  next = of_next;
  publish = of_publish;
  begins = λ l c r b. of_still (begin_named (is_empty c.client_identifier) l c r) b (still_begin (is_empty c.client_identifier) l c r);
  opens = λ s p b took. of_still (opens s p.delivery) b (still_opens s p.delivery);
  grants = λ w s b wished valid e. of_grants w s b e;
}

module _ (env : Env) (came : Came) (Keeps : Broker → Type 0) (R : List Deed → Broker → Type 0) (says : Says env came Keeps R) where
  nothing : (b : Broker) → R [] b
  nothing b = says.calm [] b tt

  abbrev SaysAct : Act → Type 0
  SaysAct act = (b : Broker) → Keeps b → R (act b) b

  calm : (ds : List Deed) → AreCalm ds → SaysAct (always ds)
  calm ds q b h = says.calm ds b q

  calmly : (ds : List Deed) (b : Broker) → AreCalm ds → R ds b
  calmly ds b q = says.calm ds b q

  acts : (fs : List Act) → AllByRecursion SaysAct fs → SaysAct (series fs)
  acts [] q b h = nothing b
  acts (f ∷ fs) q b h = says.next (f b) (series fs (after_all (f b) b)) b (q.0 b h) (acts fs q.1 (after_all (f b) b) (says.stays (f b) b h))

  each_act : {X : Type 0} (f : X → Act) → ((x : X) → SaysAct (f x)) → (xs : List X) → AllByRecursion SaysAct (map f xs)
  each_act f h [] = tt
  each_act f h (x ∷ xs) = (h x, each_act f h xs)

  if_so : (t : Bool) (act : Act) → SaysAct act → SaysAct (only_if t act)
  if_so true act q b h = q b h
  if_so false act q b h = nothing b

  on_session : (o : Option Session) (f : Session → Act) → ((s : Session) → SaysAct (f s)) → SaysAct (with_session o f)
  on_session None f q b h = nothing b
  on_session (Some s) f q b h = q s b h

  on_birth : (birth : ℕ) (f : Session → Act) → ((s : Session) → SaysAct (f s)) → SaysAct (of_session birth f)
  on_birth birth f q b h = on_session (session_at birth b.records) f q b h

  on_client : (client : List ℕ) (f : Session → Act) → ((s : Session) → SaysAct (f s)) → SaysAct (of_client client f)
  on_client client f q b h = on_session (session_named client b.records) f q b h

  on_a_line : (o : Option Line) (f : Line → Act) → ((l : Line) → SaysAct (f l)) → SaysAct (with_line o f)
  on_a_line None f q b h = nothing b
  on_a_line (Some l) f q b h = q l b h

  -- ---- Wills, ends, settling and closing

  will_or_refusal : (who : Whose) (m : Message) (o : Option (List CopyTo)) (b : Broker) → Keeps b → accepted_copies env m b ≡ o → R (publish_or_refuse env who m o b) b
  will_or_refusal who m None b h e = calmly (RefuseWill who ∷ []) b (tt, tt)
  will_or_refusal who m (Some ds) b h e = says.publish FromWill m ds b h e

  of_will : (who : Whose) (o : Option Will) → SaysAct (will_deeds env who o)
  of_will who None b h = nothing b
  of_will who (Some w) b h =
      let m = will_message who.client w in
      let first = publish_or_refuse env who m (accepted_copies env m b) b in
      says.next first (series (always (At who DropWill ∷ []) ∷ []) (after_all first b)) b (will_or_refusal who m (accepted_copies env m b) b h refl)
      (acts (always (At who DropWill ∷ []) ∷ []) (calm (At who DropWill ∷ []) (tt, tt), tt) (after_all first b) (says.stays first b h))

  its_will : (s : Session) → SaysAct (publish_will env s)
  its_will s b h = of_will (whose s) s.will b h

  ending : (s : Session) → SaysAct (always (end_session s))
  ending s = calm (end_session s) (calm_end s)

  settling : (birth : ℕ) → SaysAct (settle env birth)
  settling birth b h =
      acts (of_session birth (λ s. only_if (has_due_will b.now s) (publish_will env s)) ∷ of_session birth (λ s. only_if (has_due_end b.now s) (always (end_session s))) ∷ []) (
        on_birth birth (λ s. only_if (has_due_will b.now s) (publish_will env s)) (λ s. if_so (has_due_will b.now s) (publish_will env s) (its_will s)),
        (on_birth birth (λ s. only_if (has_due_end b.now s) (always (end_session s))) (λ s. if_so (has_due_end b.now s) (always (end_session s)) (ending s)), tt),
      ) b h

  closing_a_session : (keeps_will : Bool) (s : Session) → SaysAct (close_session env keeps_will s)
  closing_a_session keeps_will s b h =
      acts (only_if (not keeps_will) (always (At (whose s) DropWill ∷ [])) ∷ always (At (whose s) (Close b.now) ∷ []) ∷ settle env s.birth ∷ [])
      (if_so (not keeps_will) (always (At (whose s) DropWill ∷ [])) (calm (At (whose s) DropWill ∷ []) (tt, tt)), (calm (At (whose s) (Close b.now) ∷ []) (tt, tt), (settling s.birth, tt))) b h

  closing_connected : (keeps_will : Bool) (o : Option ℕ) → SaysAct (close_connected env keeps_will o)
  closing_connected keeps_will None b h = nothing b
  closing_connected keeps_will (Some birth) b h = on_birth birth (close_session env keeps_will) (closing_a_session keeps_will) b h

  closing : (keeps_will : Bool) (l : Line) → SaysAct (close env keeps_will l)
  closing keeps_will l b h = acts (always (Gone l.number ∷ []) ∷ close_connected env keeps_will l.session ∷ []) (calm (Gone l.number ∷ []) (tt, tt), (closing_connected keeps_will l.session, tt)) b h

  dropping : (code : ℕ) (l : Line) → SaysAct (drop_line env code l)
  dropping code l b h = acts (always (Send l.number (disconnect code) ∷ []) ∷ close env true l ∷ []) (calm (Send l.number (disconnect code) ∷ []) (tt, tt), (closing true l, tt)) b h

  -- ---- CONNECT

  taking_over : (s : Session) → SaysAct (take_over env s)
  taking_over s b h = on_a_line (line_of s.birth b) (drop_line env session_taken_over) (dropping session_taken_over) b h

  clearing : (s : Session) → SaysAct (clear env s)
  clearing s b h = acts (publish_will env s ∷ of_client s.client (λ t. always (end_session t)) ∷ []) (its_will s, (on_client s.client (λ t. always (end_session t)) ending, tt)) b h

  preparing : (c : Greeting) → SaysAct (prepare env c)
  preparing c b h =
      acts (of_client c.client_identifier (take_over env) ∷ of_client c.client_identifier (λ s. settle env s.birth) ∷ only_if c.clean_start (of_client c.client_identifier (clear env)) ∷ []) (
        on_client c.client_identifier (take_over env) taking_over,
        (
          on_client c.client_identifier (λ s. settle env s.birth) (λ s. settling s.birth),
          (if_so c.clean_start (of_client c.client_identifier (clear env)) (on_client c.client_identifier (clear env) clearing), tt),
        ),
      ) b h

  says_cond : (t : Bool) (xs ys : List Deed) (b : Broker) → R xs b → R ys b → R (cond t xs ys) b
  says_cond true xs ys b p q = p
  says_cond false xs ys b p q = q

  joining : (l : Line) (c : Greeting) (now : ℕ) (ds : List Deed) (r : Records) (o : Option Session) (b : Broker) → R ds b → R (joins env l c now ds r o) b
  joining l c now ds r (Some s) b q = says.next ds (resume l c now s) b q (calmly (resume l c now s) (after_all ds b) (tt, (tt, (tt, calm_turns now l.number s (resumed_with (queue_on [] s))))))
  joining l c now ds r None b q =
      says_cond (nat_lt (length r.sessions) env.limits.sessions) (ds ++ begin_named (is_empty c.client_identifier) l c r) (refused l c quota_exceeded) b
      (says.next ds (begin_named (is_empty c.client_identifier) l c r) b q (says.begins l c r (after_all ds b)))
      (calmly (refused l c quota_exceeded) b (calm_refused l c quota_exceeded))

  connecting : (o : Option ℕ) (l : Line) (c : Greeting) → SaysAct (connect_by o env l c)
  connecting (Some code) l c b h = calmly (refused l c code) b (calm_refused l c code)
  connecting None l c b h =
      let ds = prepare env c b in
      joining l c b.now ds (after_all ds b).records (session_named c.client_identifier (after_all ds b).records) b (preparing c b h)

  -- ---- PUBLISH

  publishing_new : (l : Line) (s : Session) (p : Publication) (m : Message) (o : Option (List CopyTo)) (b : Broker) → came.packet (packets.Publish p) → Keeps b → accepted_copies env m b ≡ o → R (publish_new env l s p m o b) b
  publishing_new l s p m None b took h e = calmly (answer l.number p.delivery quota_exceeded) b (calm_answer l.number p.delivery quota_exceeded)
  publishing_new l s p m (Some ds) b took h e =
      let first = publish env FromClient m ds b in
      let told = answer l.number p.delivery (code_accepted (is_wanted env m b.records)) in
      says.next first (series (always (opens s p.delivery) ∷ always told ∷ []) (after_all first b)) b (says.publish FromClient m ds b h e)
      (acts (always (opens s p.delivery) ∷ always told ∷ []) ((λ d k. says.opens s p d took), (calm told (calm_answer l.number p.delivery (code_accepted (is_wanted env m b.records))), tt)) (after_all first b) (says.stays first b h))

  publishing_by : (x : Published) (l : Line) (s : Session) (p : Publication) (m : Message) → came.packet (packets.Publish p) → SaysAct (publish_by x env l s p m)
  publishing_by Again l s p m took b h = calmly (answer l.number p.delivery (code_again p.delivery)) b (calm_answer l.number p.delivery (code_again p.delivery))
  publishing_by Over l s p m took b h = dropping receive_maximum_exceeded l b h
  publishing_by New l s p m took b h = publishing_new l s p m (accepted_copies env m b) b took h refl

  publishing : (x : Meaning) (l : Line) (s : Session) (p : Publication) → came.packet (packets.Publish p) → SaysAct (publish_meant x env l s p)
  publishing (Wrong code) l s p took b h = dropping code l b h
  publishing (Means topic) l s p took b h =
      let sets = sets_alias (is_empty p.topic) (number_at TopicAlias p.properties) l.number topic in
      acts (always sets ∷ publish_by (standing p.delivery s.inbound) env l s p (message_of s.client topic p) ∷ [])
      (calm sets (calm_alias (is_empty p.topic) (number_at TopicAlias p.properties) l.number topic), (publishing_by (standing p.delivery s.inbound) l s p (message_of s.client topic p) took, tt)) b h

  -- ---- a receiver's answers, and DISCONNECT

  answering : (a : Answer) (l : Line) (s : Session) → SaysAct (on_answer a env l s)
  answering (Ok None) l s b h = nothing b
  answering (Ok (Some t)) l s b h = calmly (turn_deeds b.now l.number s t) b (calm_turn b.now l.number s t)
  answering (Err fault) l s b h = dropping protocol_error l b h

  leaving : (t : Bool) (l : Line) (s : Session) (code : ℕ) (o : Option ℕ) → SaysAct (leave_by t env l s code o)
  leaving true l s code o b h = dropping protocol_error l b h
  leaving false l s code o b h = acts (always (new_expiry o s) ∷ close env _ l ∷ []) (calm (new_expiry o s) (calm_expiry o s), (closing _ l, tt)) b h

  -- ---- SUBSCRIBE

  answered : (valid room : Bool) (s : Session) (w : sub.Wish) (b : Broker) → came.wished w.filter → is_filter w.filter ≡ valid → session_at s.birth b.records ≡ Some s
      → R (sub.answer_by valid room env (sub.next_number b.records) s w (brought_to w s b) b).deeds b
  answered false room s w b wished is e = nothing b
  answered true false s w b wished is e = nothing b
  answered true true s w b wished is e = says.grants w s b wished is e

  filter_told : (identifier : Option ℕ) (text : List ℕ) (o : Option SubscriptionOptions) (birth : ℕ) (b : Broker) (x : Option Session) → came.wished text → session_at birth b.records ≡ x
      → R (sub.filter_answer_of env (sub.wish_by text identifier o) b x).deeds b
  filter_told identifier text None birth b None wished e = nothing b
  filter_told identifier text (Some options) birth b None wished e = nothing b
  filter_told identifier text None birth b (Some s) wished e = nothing b
  filter_told identifier text (Some options) birth b (Some s) wished e =
      let w : sub.Wish = record { filter = text; options = options; identifier = identifier } in
      answered (is_filter text) ((sub.has_filter text s || nat_lt (length s.subscriptions) SUBSCRIPTION_LIMIT) && nat_le (length (filter is_queued (brought_to w s b))) _) s w b wished refl
      (ap (λ (n : ℕ). session_at n b.records) (found_key birth_of birth s b.records.sessions e) ∙ e)

  filters_told : (birth : ℕ) (identifier : Option ℕ) (xs : List Asked) (b : Broker) → AllByRecursion (λ (a : Asked). came.wished a.filter) xs → R (sub.filter_answers env birth identifier xs b).deeds b
  filters_told birth identifier [] b wished = nothing b
  filters_told birth identifier (a ∷ rest) b wished =
      let g = sub.filter_answer_of env (sub.wish_of identifier a) b (session_at birth b.records) in
      says.next g.deeds (sub.filter_answers env birth identifier rest (after_all g.deeds b)).deeds b
      (filter_told identifier a.filter (options_of a.options) birth b (session_at birth b.records) wished.0 refl) (filters_told birth identifier rest (after_all g.deeds b) wished.1)

  all_late : (line : ℕ) (ds : List CopyTo) (b : Broker) → AreCalm (series (map (sub.late_send line) ds) b)
  all_late line [] b = tt
  all_late line (d ∷ ds) b =
      let first = sub.late_send line d b in
      let c = after_all first b in
      each_append IsCalm first (series (map (sub.late_send line) ds) c) (calm_copy (line_at line b) d.copy b) (all_late line ds c)

  subscribing : (t : Bool) (line : ℕ) (s : Session) (p : Asking) (b : Broker) → came.packet (packets.Subscribe p) → R (sub.subscribe_by t env line s p b) b
  subscribing true line s p b took = calmly _ b (calm_offer (line_at line b) (suback p.identifier (map (λ a. identifier_in_use) p.subscriptions)))
  subscribing false line s p b took =
      let a = sub.filter_answers env s.birth (number_at SubscriptionIdentifier p.properties) p.subscriptions b in
      let told = offer (line_at line b) (suback p.identifier a.codes) in
      let c = after_all (a.deeds ++ told) b in
      let late = series (map (sub.late_send line) a.late) c in
      let quiet = each_append IsCalm told late (calm_offer (line_at line b) (suback p.identifier a.codes)) (all_late line a.late c) in
      subst (λ (ds : List Deed). R ds b) (sym (append_assoc a.deeds told late))
      (says.next a.deeds (told ++ late) b (filters_told s.birth (number_at SubscriptionIdentifier p.properties) p.subscriptions b (came.asks p took)) (calmly (told ++ late) (after_all a.deeds b) quiet))

  -- ---- tick

  abbrev SaysOption : Option Act → Type 0
  SaysOption None = ⊤
  SaysOption (Some act) = SaysAct act

  mapped : {X : Type 0} (f : X → Act) (o : Option X) → ((x : X) → SaysAct (f x)) → SaysOption (option_map f o)
  mapped f None h = tt
  mapped f (Some x) h = h x

  first_told : (os : List (Option Act)) → AllByRecursion SaysOption os → SaysOption (first_due os)
  first_told [] h = tt
  first_told (Some act ∷ rest) h = h.0
  first_told (None ∷ rest) h = first_told rest h.1

  silent : (o : Option ℕ) (l : Line) → SaysAct (silence env o l)
  silent None l b h = closing true l b h
  silent (Some birth) l b h = dropping keep_alive_timeout l b h

  due_told : (b : Broker) → SaysOption (due env b)
  due_told b =
      let lines = find (λ (l : Line). is_silent b.now l.session l) b.lines in
      let wills = find (has_due_will b.now) b.records.sessions in
      let ends = find (has_due_end b.now) b.records.sessions in
      let kept = find (is_stale b.now) b.records.retained in
      let waiting = find (has_lapsed b.now) b.records.sessions in
      let all : List (Option Act) = option_map (λ (l : Line). silence env l.session l) lines ∷ option_map (publish_will env) wills ∷ option_map (λ (s : Session). always (end_session s)) ends
      ∷ option_map (λ (k : RetainedMessage). always (Forget k.place ∷ [])) kept ∷ option_map (λ (s : Session). always (lapse_deeds b.now s)) waiting ∷ [] in
      let each : AllByRecursion SaysOption all = (
        mapped (λ (l : Line). silence env l.session l) lines (λ l. silent l.session l),
        (
          mapped (publish_will env) wills its_will,
          (
            mapped (λ (s : Session). always (end_session s)) ends ending,
            (
              mapped (λ (k : RetainedMessage). always (Forget k.place ∷ [])) kept (λ k. calm (Forget k.place ∷ []) (tt, tt)),
              (mapped (λ (s : Session). always (lapse_deeds b.now s)) waiting (λ s. calm (lapse_deeds b.now s) (calm_leaves s (lapses b.now s))), tt),
            ),
          ),
        ),
      ) in
      first_told all each

  ticking : (o : Option Act) → SaysOption o → SaysAct (on_tick o)
  ticking None q b h = nothing b
  ticking (Some act) q b h = q b h

  -- ---- calls

  first_read : (l : Line) (packet : Packet) → SaysAct (first_packet env l packet)
  first_read l (packets.Connect c) b h = connecting (refusal c b.records) l c b h
  first_read l (packets.Connack c) b h = closing true l b h
  first_read l (packets.Publish p) b h = closing true l b h
  first_read l (packets.Puback a) b h = closing true l b h
  first_read l (packets.Pubrec a) b h = closing true l b h
  first_read l (packets.Pubrel a) b h = closing true l b h
  first_read l (packets.Pubcomp a) b h = closing true l b h
  first_read l (packets.Subscribe p) b h = closing true l b h
  first_read l (packets.Suback p) b h = closing true l b h
  first_read l (packets.Unsubscribe p) b h = closing true l b h
  first_read l (packets.Unsuback p) b h = closing true l b h
  first_read l packets.Pingreq b h = closing true l b h
  first_read l packets.Pingresp b h = closing true l b h
  first_read l (packets.Disconnect n) b h = closing true l b h
  first_read l (packets.Auth n) b h = closing true l b h

  next_read : (l : Line) (packet : Packet) (s : Session) → came.packet packet → SaysAct (next_packet env l packet s)
  next_read l (packets.Publish p) s took b h = publishing (meaning p l.aliases) l s p took b h
  next_read l (packets.Puback a) s took b h = answering (rules.puback a.identifier a.reason.0 (queue_on l.went s)) l s b h
  next_read l (packets.Pubrec a) s took b h = answering (rules.pubrec a.identifier a.reason.0 (queue_on l.went s)) l s b h
  next_read l (packets.Pubrel a) s took b h = calmly _ b (calm_release (answer_to_release a.identifier s.inbound) l s a.identifier)
  next_read l (packets.Pubcomp a) s took b h = answering (rules.pubcomp a.identifier (queue_on l.went s)) l s b h
  next_read l (packets.Subscribe p) s took b h = subscribing (is_among p.identifier s.inbound) l.number s p b took
  next_read l (packets.Unsubscribe p) s took b h = calmly _ b (calm_unsubscribe (is_among p.identifier s.inbound) l.number s p b)
  next_read l packets.Pingreq s took b h = calmly (Send l.number packets.Pingresp ∷ []) b (tt, tt)
  next_read l (packets.Disconnect n) s took b h = leaving _ l s n.reason.0 _ b h
  next_read l (packets.Connect c) s took b h = dropping protocol_error l b h
  next_read l (packets.Connack c) s took b h = dropping protocol_error l b h
  next_read l (packets.Suback p) s took b h = dropping protocol_error l b h
  next_read l (packets.Unsuback p) s took b h = dropping protocol_error l b h
  next_read l packets.Pingresp s took b h = dropping protocol_error l b h
  next_read l (packets.Auth n) s took b h = dropping protocol_error l b h

  reading : (l : Line) (packet : Packet) (o : Option ℕ) → came.packet packet → SaysAct (on_packet env l packet o)
  reading l packet None took b h = first_read l packet b h
  reading l packet (Some birth) took b h = on_birth birth (next_packet env l packet) (λ s. next_read l packet s took) b h

  at_fault : (l : Line) (t : Bool) (code : ℕ) (o : Option ℕ) → SaysAct (on_fault env l t code o)
  at_fault l true code None b h = acts (always (Send l.number (connack false code []) ∷ []) ∷ close env true l ∷ []) (calm (Send l.number (connack false code []) ∷ []) (tt, tt), (closing true l, tt)) b h
  at_fault l false code None b h = closing true l b h
  at_fault l true code (Some birth) b h = dropping (late_code code) l b h
  at_fault l false code (Some birth) b h = dropping (late_code code) l b h

  pumping : (l : Line) (o : Option ℕ) → SaysAct (on_pump l o)
  pumping l None b h = nothing b
  pumping l (Some birth) b h = on_birth birth (λ s. always (pump_deeds l b s)) (λ s. calm (pump_deeds l b s) (calm_turns b.now l.number s (pump_turns l b s))) b h

  -- what is said of publications, beginnings, openings and grants is said of a call
  pub call_says : (call : Call) → CameIn came call → SaysAct (deeds_of env call)
  call_says NewLine took b h = calmly (cond (can_link env.limits b) (Link (suc b.given) ∷ []) []) b (calm_cond (can_link env.limits b) (Link (suc b.given) ∷ []) [] (tt, tt) tt)
  call_says (Input n packet) took b h =
      on_a_line (line_at n b) (λ l. series (always (On n Hear ∷ []) ∷ on_packet env l packet l.session ∷ []))
      (λ l. acts (always (On n Hear ∷ []) ∷ on_packet env l packet l.session ∷ []) (calm (On n Hear ∷ []) (tt, tt), (reading l packet l.session (took n packet refl), tt))) b h
  call_says (BadInput n is_connect code) took b h = on_a_line (line_at n b) (λ l. on_fault env l is_connect code l.session) (λ l. at_fault l is_connect code l.session) b h
  call_says (Lost n) took b h = on_a_line (line_at n b) (close env true) (closing true) b h
  call_says (Pump n) took b h = on_a_line (line_at n b) (λ l. on_pump l l.session) (λ l. pumping l l.session) b h
  call_says Tick took b h = ticking (due env b) (due_told b) b h

  shutting : (s : Session) → SaysAct (shuts s)
  shutting s b h = calmly (At (whose s) (Close b.now) ∷ []) b (tt, tt)

  -- what is said of them is said of an opening
  pub opening_says : SaysAct (opening env)
  opening_says b h =
      let ss = connected_in b.records in
      acts (shuts_all ss ∷ settles_all env ss ∷ []) (acts (map shuts ss) (each_act shuts shutting ss), (acts (map (settles env) ss) (each_act (settles env) (λ (s : Session). settling s.birth) ss), tt)) b h
