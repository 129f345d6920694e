-- Each act of a call or an opening: the copies that end in it have their causes.
use Rattle.std.proofs.Common.{◌≡◌, ℕ, suc, Bool, true, false, cond, not, ◌&&◌, ◌||◌, List, [], ◌∷◌, ◌++◌, filter, length, map, Option, Some, None, bytes_eq, refl, sym, ap, subst, ◌∙◌, inl, inr, append_assoc}
use Rattle.std.specs.Prelude.{⊤, Err, Ok, find, flat_map, nat_le, nat_lt, option_map}
use Rattle.std.specs.List.{AllByRecursion}
use Rattle.std.proofs.lemmas.Bool.{leb-true}
use Rattle.std.proofs.lemmas.Slice.Eq.{bytes_eq-Decides}
use Rattle.mqtt_base.specs.Codes.{identifier_in_use, keep_alive_timeout, protocol_error, quota_exceeded, receive_maximum_exceeded, session_taken_over}
use Rattle.mqtt_base.specs.declared.limits.TheConstants.{SUBSCRIPTION_LIMIT}
use Rattle.mqtt_base.specs.declared.session.SubscriptionOptions.{SubscriptionOptions}
use Rattle.mqtt_packet.specs.subscribe.Options.{options_of}
use Rattle.mqtt_packet.specs.declared.codec.packet.Packet.{Packet}
use Rattle.mqtt_packet.specs.declared.codec.packet.Packet.TheVariants as packets
use Rattle.mqtt_packet.specs.declared.codec.publish.Delivery.{Delivery}
use Rattle.mqtt_packet.specs.declared.codec.publish.Delivery.TheVariants as delivery
use Rattle.mqtt_packet.specs.declared.codec.publish.Publish.{Publish as Publication}
use Rattle.mqtt_packet.specs.declared.connect.connect.Connect.{Connect as Greeting}
use Rattle.mqtt_flow.specs.outbound.Outbound.{Answer, due_from, resumed_with}
use Rattle.mqtt_flow.specs.outbound.Outbound as rules
use Rattle.mqtt_flow.specs.declared.outbound.entry.Turn.TheVariants as turns
use Rattle.mqtt_flow.specs.inbound.Identifiers.{is_among}
use Rattle.mqtt_flow.specs.inbound.Inbound.{answer_to_release}
use Rattle.mqtt_flow.specs.declared.inbound.inflow.Published.{Published}
use Rattle.mqtt_flow.specs.declared.inbound.inflow.Published.TheVariants.{Again, New, Over}
use Rattle.mqtt_flow.specs.declared.inbound.inflow.ReleaseAnswer.{ReleaseAnswer}
use Rattle.mqtt_flow.specs.declared.inbound.inflow.ReleaseAnswer.TheVariants.{Known, Unknown}
use Rattle.mqtt_records.specs.declared.messages.message.RetainedMessage.{RetainedMessage}
use Rattle.mqtt_records.specs.declared.messages.message.Will.{Will}
use Rattle.mqtt_props.specs.declared.table.PropName.TheVariants.{SubscriptionIdentifier, TopicAlias}
use Rattle.mqtt_records.specs.state.Session.{birth_of}
use Rattle.mqtt_records.specs.declared.state.records.Records.{Records}
use Rattle.mqtt_records.specs.declared.state.session.Session.{Session}
use Rattle.mqtt_packet.specs.subscribe.Subscriptions.{Subscription as Wished}
use Rattle.mqtt_packet.specs.declared.subscribe.subscribe.Subscribe.{Subscribe as Asking}
use Rattle.mqtt_packet.specs.declared.subscribe.unsubscribe.Unsubscribe.{Unsubscribe as GivingUp}
use Rattle.mqtt_topic.specs.names.Filters.{is_filter}
use Rattle.mqtt_topic.specs.names.Names.{is_empty}
use Rattle.mqtt_rules.specs.step.Closing.{close, close_connected, close_session, drop_line, end_session, has_due_end, has_due_will, publish_or_refuse, publish_will, settle, will_deeds, will_message}
use Rattle.mqtt_rules.specs.step.Connect.{begin_named, clear, connect_by, joins, largest_of, of_client, prepare, refusal, refusal_size, refused, resume, take_over}
use Rattle.mqtt_rules.specs.step.Deeds.{Whose, whose, Message, FromClient, FromWill, Close, DropWill, Hear, Deed, At, Forget, RefuseWill, Link, On, Send, Gone, Act, after_all, always, of_session, offer, only_if, series, with_line, with_session}
use Rattle.mqtt_rules.specs.step.Fitting.{has_form}
use Rattle.mqtt_rules.specs.step.Inbound.{Meaning, Means, Wrong, answer, code_accepted, code_again, leave_by, meaning, message_of, new_expiry, on_answer, opens, publish_by, publish_meant, publish_new, pump_deeds, release_by, sets_alias, standing}
use Rattle.mqtt_rules.specs.step.Laws.{IsAmong}
use Rattle.mqtt_rules.specs.step.Outbound.{all_turn_deeds, room}
use Rattle.mqtt_rules.specs.step.Packets.{connack, disconnect, publish_of, size_of, suback, unsuback}
use Rattle.mqtt_records.specs.messages.PassedOn.{number_at}
use Rattle.mqtt_rules.specs.step.Routing.{CopyTo, accepted_copies, is_queued, is_wanted, publish}
use Rattle.mqtt_rules.specs.step.State.{Broker, Env, Line, line_at, line_of, queue_on, session_at, session_named}
use Rattle.mqtt_rules.specs.step.Step.{Call, NewLine, Input, BadInput, Lost, Pump, Tick, can_link, connected_in, deeds_of, first_packet, late_code, next_packet, on_fault, on_packet, on_pump, opening, settles, settles_all, shuts, shuts_all}
use Rattle.mqtt_rules.specs.step.Subscribe as sub
use Rattle.mqtt_rules.specs.step.Tick.{due, first_due, has_lapsed, is_silent, is_stale, lapse_deeds, on_tick, silence}
use Rattle.mqtt_rules.proofs.step_lemmas.acts.Acts.{brought_to}
use Rattle.mqtt_rules.proofs.step_lemmas.acts.OnLines.{found_number}
use Rattle.mqtt_rules.proofs.step_lemmas.acts.Offers.{of_offer_if}
use Rattle.mqtt_rules.proofs.step_lemmas.numbers.Copies.{each_append, each_flat}
use Rattle.mqtt_rules.proofs.step_lemmas.fit.FitLaw.{all_among}
use Rattle.mqtt_rules.proofs.step_lemmas.flight.FlightRows.{all_found, found_key}
use Rattle.mqtt_rules.proofs.step_lemmas.acts.Leads.{found_among, found_passes}
use Rattle.mqtt_rules.proofs.step_lemmas.numbers.Counters.{now_stays}
use Rattle.mqtt_rules.proofs.step_lemmas.fit.StandLaw.{Orders, ordered_all, rising}
use Rattle.mqtt_world_laws.specs.causes.Endings.{Asked}
use Rattle.mqtt_world_laws.proofs.causes_lemmas.Caused.{Caused, IsQuiet, AreQuiet, quietly, caused_next}
use Rattle.mqtt_world_laws.proofs.causes_lemmas.Queues.{same_now}
use Rattle.mqtt_world_laws.proofs.causes_lemmas.Pumping.{pump_caused}
use Rattle.mqtt_world_laws.proofs.causes_lemmas.Turning.{lapse_caused, turn_caused}
use Rattle.mqtt_world_laws.proofs.causes_lemmas.Answering.{Reads, IsFineAnswer, puback_fine, pubrec_fine, pubcomp_fine}
use Rattle.mqtt_world_laws.proofs.causes_lemmas.Entering.{Clears, end_caused}
use Rattle.mqtt_world_laws.proofs.causes_lemmas.Publishing.{publish_caused, grant_caused}

module _ (m : Asked) where
  abbrev env : Env
  env = m.step.env

  -- ---- lists of deeds that end no copy

  abbrev Quiet : List Deed → Type 0
  Quiet ds = AreQuiet m ds

  quiet_cond : (t : Bool) (xs ys : List Deed) → Quiet xs → Quiet ys → Quiet (cond t xs ys)
  quiet_cond true xs ys p q = p
  quiet_cond false xs ys p q = q

  quiet_offer : (o : Option Line) (packet : Packet) → Quiet (offer o packet)
  quiet_offer None packet = tt
  quiet_offer (Some l) packet = quiet_cond (nat_le (size_of packet) l.largest) (Send l.number packet ∷ []) [] (tt, tt) tt

  quiet_late : (line : ℕ) (ds : List CopyTo) (b : Broker) → Quiet (series (map (sub.late_send line) ds) b)
  quiet_late line [] b = tt
  quiet_late line (d ∷ ds) b =
      let first = sub.late_send line d b in
      let c = after_all first b in
      each_append (IsQuiet m) first (series (map (sub.late_send line) ds) c)
      (of_offer_if Quiet (has_form d.copy b) (line_at line b) (publish_of b.now false 0 d.copy) tt (λ l there. (tt, tt))) (quiet_late line ds c)

  quiet_repeats : {X : Type 0} (now line : ℕ) (s : Session) (id : X → ℕ) (xs : List X) → Quiet (all_turn_deeds now line s (map (λ x. turns.Repeat (id x)) xs))
  quiet_repeats now line s id [] = tt
  quiet_repeats now line s id (x ∷ xs) = (tt, quiet_repeats now line s id xs)

  quiet_refused : (l : Line) (c : Greeting) (code : ℕ) → Quiet (refused l c code)
  quiet_refused l c code = each_append (IsQuiet m) (cond (nat_lt (largest_of c) refusal_size) [] (Send l.number (connack false code []) ∷ [])) (Gone l.number ∷ [])
      (quiet_cond (nat_lt (largest_of c) refusal_size) [] (Send l.number (connack false code []) ∷ []) tt (tt, tt)) (tt, tt)

  quiet_begin : (t : Bool) (l : Line) (c : Greeting) (r : Records) → Quiet (begin_named t l c r)
  quiet_begin false l c r = (tt, (tt, (tt, tt)))
  quiet_begin true l c r = (tt, (tt, (tt, (tt, tt))))

  quiet_answer : (line : ℕ) (d : Delivery) (code : ℕ) → Quiet (answer line d code)
  quiet_answer line delivery.AtMostOnce code = tt
  quiet_answer line (delivery.AtLeastOnce dup id) code = (tt, tt)
  quiet_answer line (delivery.ExactlyOnce dup id) code = (tt, tt)

  quiet_opens : (s : Session) (d : Delivery) → Quiet (opens s d)
  quiet_opens s delivery.AtMostOnce = tt
  quiet_opens s (delivery.AtLeastOnce dup id) = tt
  quiet_opens s (delivery.ExactlyOnce dup id) = (tt, tt)

  quiet_alias : (t : Bool) (alias : Option ℕ) (line : ℕ) (topic : List ℕ) → Quiet (sets_alias t alias line topic)
  quiet_alias true alias line topic = tt
  quiet_alias false None line topic = tt
  quiet_alias false (Some n) line topic = (tt, tt)

  quiet_release : (x : ReleaseAnswer) (l : Line) (s : Session) (id : ℕ) → Quiet (release_by x l s id)
  quiet_release Known l s id = (tt, (tt, tt))
  quiet_release Unknown l s id = (tt, tt)

  quiet_expiry : (o : Option ℕ) (s : Session) → Quiet (new_expiry o s)
  quiet_expiry None s = tt
  quiet_expiry (Some n) s = (tt, tt)

  quiet_unsubscribe : (t : Bool) (line : ℕ) (s : Session) (p : GivingUp) (b : Broker) → Quiet (sub.unsubscribe_by t line s p b)
  quiet_unsubscribe true line s p b = quiet_offer (line_at line b) (unsuback p.identifier (map (λ f. identifier_in_use) p.filters))
  quiet_unsubscribe false line s p b =
      each_append (IsQuiet m) (flat_map (sub.unsubscribes s) (filter (λ f. sub.has_filter f s) p.filters)) (offer (line_at line b) (unsuback p.identifier (sub.drop_codes s [] p.filters)))
      (each_flat (IsQuiet m) (sub.unsubscribes s) (λ f. (tt, tt)) (filter (λ f. sub.has_filter f s) p.filters)) (quiet_offer (line_at line b) (unsuback p.identifier (sub.drop_codes s [] p.filters)))

  -- ---- acts

  abbrev CausedAct : Act → Type 0
  CausedAct act = (b : Broker) → Orders b → Caused m (act b) b

  nothing : (b : Broker) → Caused m [] b
  nothing b rest = tt

  quiet : (ds : List Deed) → Quiet ds → CausedAct (always ds)
  quiet ds q b h = quietly m ds b q

  acts : (fs : List Act) → AllByRecursion CausedAct fs → CausedAct (series fs)
  acts [] q b h = nothing b
  acts (f ∷ fs) q b h = caused_next m (f b) (series fs (after_all (f b) b)) b (q.0 b h) (acts fs q.1 (after_all (f b) b) (ordered_all (f b) b h))

  each_act : {X : Type 0} (f : X → Act) → ((x : X) → CausedAct (f x)) → (xs : List X) → AllByRecursion CausedAct (map f xs)
  each_act f h [] = tt
  each_act f h (x ∷ xs) = (h x, each_act f h xs)

  on_session : (o : Option Session) (f : Session → Act) (b : Broker) → ((s : Session) → o ≡ Some s → Caused m (f s b) b) → Caused m (with_session o f b) b
  on_session None f b q = nothing b
  on_session (Some s) f b q = q s refl

  own : (birth : ℕ) (s : Session) (b : Broker) → session_at birth b.records ≡ Some s → session_at s.birth b.records ≡ Some s
  own birth s b there = ap (λ (n : ℕ). session_at n b.records) (found_key birth_of birth s b.records.sessions there) ∙ there

  on_birth : (birth : ℕ) (f : Session → Act) (b : Broker) → ((s : Session) → session_at s.birth b.records ≡ Some s → Caused m (f s b) b) → Caused m (of_session birth f b) b
  on_birth birth f b q = on_session (session_at birth b.records) f b (λ s there. q s (own birth s b there))

  among_own : (s : Session) (b : Broker) → Orders b → IsAmong s b.records.sessions → session_at s.birth b.records ≡ Some s
  among_own s b h among = all_among (λ (x : Session). session_at x.birth b.records ≡ Some x) s b.records.sessions (all_found birth_of b.records.sessions h.sessions.ascending) among

  on_client : (client : List ℕ) (f : Session → Act) (b : Broker) → Orders b → ((s : Session) → session_at s.birth b.records ≡ Some s → s.client ≡ client → Caused m (f s b) b) → Caused m (of_client client f b) b
  on_client client f b h q = on_session (session_named client b.records) f b (λ s there. q s
      (among_own s b h (found_among (λ (x : Session). bytes_eq x.client client) s b.records.sessions there))
      ((bytes_eq-Decides s.client client).0 (found_passes (λ (x : Session). bytes_eq x.client client) s b.records.sessions there)))

  on_a_line : (o : Option Line) (f : Line → Act) (b : Broker) → ((l : Line) → o ≡ Some l → Caused m (f l b) b) → Caused m (with_line o f b) b
  on_a_line None f b q = nothing b
  on_a_line (Some l) f b q = q l refl

  -- two acts, the second of them on what the first left
  two : (f g : Act) (b : Broker) → Orders b → Caused m (f b) b → ((c : Broker) → Orders c → c.now ≡ b.now → Caused m (g c) c) → Caused m (series (f ∷ g ∷ []) b) b
  two f g b h p q =
      let c = after_all (f b) b in
      caused_next m (f b) (g c ++ []) b p (caused_next m (g c) [] c (q c (ordered_all (f b) b h) (now_stays (f b) b)) (nothing (after_all (g c) c)))

  if_so : (t : Bool) (act : Act) (b : Broker) → (t ≡ true → Caused m (act b) b) → Caused m (only_if t act b) b
  if_so true act b q = q refl
  if_so false act b q = nothing b

  -- ---- Wills, ends, settling and closing

  will_or_refusal : (who : Whose) (x : Message) (o : Option (List CopyTo)) (b : Broker) → Orders b → accepted_copies env x b ≡ o → Caused m (publish_or_refuse env who x o b) b
  will_or_refusal who x None b h e = quietly m (RefuseWill who ∷ []) b (tt, tt)
  will_or_refusal who x (Some ds) b h e = publish_caused m FromWill x ds b h e

  of_will : (who : Whose) (o : Option Will) → CausedAct (will_deeds env who o)
  of_will who None b h = nothing b
  of_will who (Some w) b h =
      let x = will_message who.client w in
      let first = publish_or_refuse env who x (accepted_copies env x b) b in
      caused_next m first (series (always (At who DropWill ∷ []) ∷ []) (after_all first b)) b (will_or_refusal who x (accepted_copies env x b) b h refl)
      (acts (always (At who DropWill ∷ []) ∷ []) (quiet (At who DropWill ∷ []) (tt, tt), tt) (after_all first b) (ordered_all first b h))

  its_will : (s : Session) → CausedAct (publish_will env s)
  its_will s b h = of_will (whose s) s.will b h

  settling : (birth : ℕ) → CausedAct (settle env birth)
  settling birth b h =
      two (of_session birth (λ s. only_if (has_due_will b.now s) (publish_will env s))) (of_session birth (λ s. only_if (has_due_end b.now s) (always (end_session s)))) b h
      (on_birth birth (λ s. only_if (has_due_will b.now s) (publish_will env s)) b (λ s there. if_so (has_due_will b.now s) (publish_will env s) b (λ t. its_will s b h)))
      (λ c k moment. on_birth birth (λ s. only_if (has_due_end b.now s) (always (end_session s))) c
      (λ s there. if_so (has_due_end b.now s) (always (end_session s)) c
      (λ t. end_caused m s c there (inl (subst (λ (n : ℕ). has_due_end n s ≡ true) (sym moment) t)))))

  closing_a_session : (keeps_will : Bool) (s : Session) → CausedAct (close_session env keeps_will s)
  closing_a_session keeps_will s b h =
      acts (only_if (not keeps_will) (always (At (whose s) DropWill ∷ [])) ∷ always (At (whose s) (Close b.now) ∷ []) ∷ settle env s.birth ∷ [])
      ((λ c k. if_so (not keeps_will) (always (At (whose s) DropWill ∷ [])) c (λ t. quietly m (At (whose s) DropWill ∷ []) c (tt, tt))), (quiet (At (whose s) (Close b.now) ∷ []) (tt, tt), (settling s.birth, tt))) b h

  closing_connected : (keeps_will : Bool) (o : Option ℕ) → CausedAct (close_connected env keeps_will o)
  closing_connected keeps_will None b h = nothing b
  closing_connected keeps_will (Some birth) b h = on_birth birth (close_session env keeps_will) b (λ s there. closing_a_session keeps_will s b h)

  closing : (keeps_will : Bool) (l : Line) → CausedAct (close env keeps_will l)
  closing keeps_will l b h = acts (always (Gone l.number ∷ []) ∷ close_connected env keeps_will l.session ∷ []) (quiet (Gone l.number ∷ []) (tt, tt), (closing_connected keeps_will l.session, tt)) b h

  dropping : (code : ℕ) (l : Line) → CausedAct (drop_line env code l)
  dropping code l b h = acts (always (Send l.number (disconnect code) ∷ []) ∷ close env true l ∷ []) (quiet (Send l.number (disconnect code) ∷ []) (tt, tt), (closing true l, tt)) b h

  -- ---- CONNECT

  taking_over : (s : Session) → CausedAct (take_over env s)
  taking_over s b h = on_a_line (line_of s.birth b) (drop_line env session_taken_over) b (λ l there. dropping session_taken_over l b h)

  -- by Clean Start of that client
  clearing : (s : Session) → Clears m s.client → CausedAct (clear env s)
  clearing s clears b h =
      two (publish_will env s) (of_client s.client (λ t. always (end_session t))) b h (its_will s b h)
      (λ c k moment. on_client s.client (λ t. always (end_session t)) c k (λ t there named. end_caused m t c there (inr (subst (Clears m) (sym named) clears))))

  preparing : (n : ℕ) (c : Greeting) → m.call ≡ Some (Input n (packets.Connect c)) → CausedAct (prepare env c)
  preparing n c asked b h =
      acts (of_client c.client_identifier (take_over env) ∷ of_client c.client_identifier (λ s. settle env s.birth) ∷ only_if c.clean_start (of_client c.client_identifier (clear env)) ∷ []) (
        (λ d k. on_client c.client_identifier (take_over env) d k (λ s there named. taking_over s d k)),
        (
          (λ d k. on_client c.client_identifier (λ s. settle env s.birth) d k (λ s there named. settling s.birth d k)),
          (
            (λ d k. if_so c.clean_start (of_client c.client_identifier (clear env)) d
                (λ t. on_client c.client_identifier (clear env) d k
                (λ s there named. clearing s (record { number = n; packet = c; asked = asked; clean = t; named = sym named }) d k))),
            tt,
          ),
        ),
      ) b h

  joining : (l : Line) (c : Greeting) (now : ℕ) (ds : List Deed) (r : Records) (o : Option Session) (b : Broker) → Caused m ds b → Caused m (joins env l c now ds r o) b
  joining l c now ds r (Some s) b q =
      caused_next m ds (resume l c now s) b q (quietly m (resume l c now s) (after_all ds b) (tt, (tt, (tt, quiet_repeats now l.number s (λ d. d.identifier) (due_from [] (queue_on [] s))))))
  joining l c now ds r None b q = by (nat_lt (length r.sessions) env.limits.sessions)
    where
      by : (t : Bool) → Caused m (cond t (ds ++ begin_named (is_empty c.client_identifier) l c r) (refused l c quota_exceeded)) b
      by true = caused_next m ds (begin_named (is_empty c.client_identifier) l c r) b q (quietly m (begin_named (is_empty c.client_identifier) l c r) (after_all ds b) (quiet_begin (is_empty c.client_identifier) l c r))
      by false = quietly m (refused l c quota_exceeded) b (quiet_refused l c quota_exceeded)

  connecting : (o : Option ℕ) (n : ℕ) (l : Line) (c : Greeting) → m.call ≡ Some (Input n (packets.Connect c)) → CausedAct (connect_by o env l c)
  connecting (Some code) n l c asked b h = quietly m (refused l c code) b (quiet_refused l c code)
  connecting None n l c asked b h =
      let ds = prepare env c b in
      joining l c b.now ds (after_all ds b).records (session_named c.client_identifier (after_all ds b).records) b (preparing n c asked b h)

  -- ---- PUBLISH

  publishing_new : (l : Line) (s : Session) (p : Publication) (x : Message) (o : Option (List CopyTo)) (b : Broker) → Orders b → accepted_copies env x b ≡ o → Caused m (publish_new env l s p x o b) b
  publishing_new l s p x None b h e = quietly m (answer l.number p.delivery quota_exceeded) b (quiet_answer l.number p.delivery quota_exceeded)
  publishing_new l s p x (Some ds) b h e =
      let first = publish env FromClient x ds b in
      let told = answer l.number p.delivery (code_accepted (is_wanted env x b.records)) in
      caused_next m first (series (always (opens s p.delivery) ∷ always told ∷ []) (after_all first b)) b (publish_caused m FromClient x ds b h e)
      (acts (always (opens s p.delivery) ∷ always told ∷ []) (quiet (opens s p.delivery) (quiet_opens s p.delivery), (quiet told (quiet_answer l.number p.delivery (code_accepted (is_wanted env x b.records))), tt)) (after_all first b) (ordered_all first b h))

  publishing_by : (x : Published) (l : Line) (s : Session) (p : Publication) (message : Message) → CausedAct (publish_by x env l s p message)
  publishing_by Again l s p message b h = quietly m (answer l.number p.delivery (code_again p.delivery)) b (quiet_answer l.number p.delivery (code_again p.delivery))
  publishing_by Over l s p message b h = dropping receive_maximum_exceeded l b h
  publishing_by New l s p message b h = publishing_new l s p message (accepted_copies env message b) b h refl

  publishing : (x : Meaning) (l : Line) (s : Session) (p : Publication) → CausedAct (publish_meant x env l s p)
  publishing (Wrong code) l s p b h = dropping code l b h
  publishing (Means topic) l s p b h =
      let sets = sets_alias (is_empty p.topic) (number_at TopicAlias p.properties) l.number topic in
      acts (always sets ∷ publish_by (standing p.delivery s.inbound) env l s p (message_of s.client topic p) ∷ [])
      (quiet sets (quiet_alias (is_empty p.topic) (number_at TopicAlias p.properties) l.number topic), (publishing_by (standing p.delivery s.inbound) l s p (message_of s.client topic p), tt)) b h

  -- ---- a receiver's answers, and DISCONNECT

  answering : (a : Answer) (l : Line) (s : Session) (b : Broker) → Orders b → session_at s.birth b.records ≡ Some s → IsFineAnswer m b.now l s a → Caused m (on_answer a env l s b) b
  answering (Ok None) l s b h there fine = nothing b
  answering (Ok (Some t)) l s b h there fine = turn_caused m l.number s t b fine (same_now s b.records there)
  answering (Err fault) l s b h there fine = dropping protocol_error l b h

  leaving : (t : Bool) (l : Line) (s : Session) (code : ℕ) (o : Option ℕ) → CausedAct (leave_by t env l s code o)
  leaving true l s code o b h = dropping protocol_error l b h
  leaving false l s code o b h = acts (always (new_expiry o s) ∷ close env _ l ∷ []) (quiet (new_expiry o s) (quiet_expiry o s), (closing _ l, tt)) b h

  -- ---- SUBSCRIBE

  both_true : (x y : Bool) → (x && y) ≡ true → y ≡ true
  both_true true y h = h
  both_true false y h = absurd cc

  granted : (s : Session) (w : sub.Wish) (b : Broker) (fits t : Bool) → Orders b → session_at s.birth b.records ≡ Some s
      → (fits && nat_le (length (filter is_queued (brought_to w s b))) (room env s)) ≡ t → (valid : Bool)
      → Caused m (sub.answer_by valid t env (sub.next_number b.records) s w (brought_to w s b) b).deeds b
  granted s w b fits t h there is false = nothing b
  granted s w b fits false h there is true = nothing b
  granted s w b fits true h there is true =
      grant_caused m w s b h there (leb-true (length (filter is_queued (brought_to w s b))) (room env s) (both_true fits (nat_le (length (filter is_queued (brought_to w s b))) (room env s)) is))

  filter_caused : (identifier : Option ℕ) (text : List ℕ) (o : Option SubscriptionOptions) (birth : ℕ) (b : Broker) (x : Option Session) → Orders b → session_at birth b.records ≡ x
      → Caused m (sub.filter_answer_of env (sub.wish_by text identifier o) b x).deeds b
  filter_caused identifier text None birth b None h e = nothing b
  filter_caused identifier text (Some options) birth b None h e = nothing b
  filter_caused identifier text None birth b (Some s) h e = nothing b
  filter_caused identifier text (Some options) birth b (Some s) h e =
      let w : sub.Wish = record { filter = text; options = options; identifier = identifier } in
      granted s w b (sub.has_filter text s || nat_lt (length s.subscriptions) SUBSCRIPTION_LIMIT)
      ((sub.has_filter text s || nat_lt (length s.subscriptions) SUBSCRIPTION_LIMIT) && nat_le (length (filter is_queued (brought_to w s b))) (room env s)) h (own birth s b e) refl (is_filter text)

  filters_caused : (birth : ℕ) (identifier : Option ℕ) (xs : List Wished) (b : Broker) → Orders b → Caused m (sub.filter_answers env birth identifier xs b).deeds b
  filters_caused birth identifier [] b h = nothing b
  filters_caused birth identifier (a ∷ rest) b h =
      let g = sub.filter_answer_of env (sub.wish_of identifier a) b (session_at birth b.records) in
      caused_next m g.deeds (sub.filter_answers env birth identifier rest (after_all g.deeds b)).deeds b
      (filter_caused identifier a.filter (options_of a.options) birth b (session_at birth b.records) h refl) (filters_caused birth identifier rest (after_all g.deeds b) (ordered_all g.deeds b h))

  subscribing : (t : Bool) (line : ℕ) (s : Session) (p : Asking) → CausedAct (sub.subscribe_by t env line s p)
  subscribing true line s p b h = quietly m _ b (quiet_offer (line_at line b) (suback p.identifier (map (λ a. identifier_in_use) p.subscriptions)))
  subscribing false line s p b h =
      let a = sub.filter_answers env s.birth (number_at SubscriptionIdentifier p.properties) p.subscriptions b in
      let told = offer (line_at line b) (suback p.identifier a.codes) in
      let c = after_all (a.deeds ++ told) b in
      let late = series (map (sub.late_send line) a.late) c in
      let calm = each_append (IsQuiet m) told late (quiet_offer (line_at line b) (suback p.identifier a.codes)) (quiet_late line a.late c) in
      subst (λ (ds : List Deed). Caused m ds b) (sym (append_assoc a.deeds told late))
      (caused_next m a.deeds (told ++ late) b (filters_caused s.birth (number_at SubscriptionIdentifier p.properties) p.subscriptions b h) (quietly m (told ++ late) (after_all a.deeds b) calm))

  -- ---- tick

  abbrev CausedOption : Broker → Option Act → Type 0
  CausedOption b None = ⊤
  CausedOption b (Some act) = Caused m (act b) b

  mapped : {X : Type 0} (f : X → Act) (o : Option X) (b : Broker) → ((x : X) → o ≡ Some x → Caused m (f x b) b) → CausedOption b (option_map f o)
  mapped f None b h = tt
  mapped f (Some x) b h = h x refl

  first_caused : (os : List (Option Act)) (b : Broker) → AllByRecursion (CausedOption b) os → CausedOption b (first_due os)
  first_caused [] b h = tt
  first_caused (Some act ∷ rest) b h = h.0
  first_caused (None ∷ rest) b h = first_caused rest b h.1

  silent : (o : Option ℕ) (l : Line) → CausedAct (silence env o l)
  silent None l b h = closing true l b h
  silent (Some birth) l b h = dropping keep_alive_timeout l b h

  due_caused : (b : Broker) → Orders b → m.call ≡ Some Tick → CausedOption b (due env b)
  due_caused b h asked =
      let lines = find (λ (l : Line). is_silent b.now l.session l) b.lines in
      let wills = find (has_due_will b.now) b.records.sessions in
      let ends = find (has_due_end b.now) b.records.sessions in
      let kept = find (is_stale b.now) b.records.retained in
      let waiting = find (has_lapsed b.now) b.records.sessions in
      let all : List (Option Act) = option_map (λ (l : Line). silence env l.session l) lines ∷ option_map (publish_will env) wills ∷ option_map (λ (s : Session). always (end_session s)) ends
      ∷ option_map (λ (k : RetainedMessage). always (Forget k.place ∷ [])) kept ∷ option_map (λ (s : Session). always (lapse_deeds b.now s)) waiting ∷ [] in
      let each : AllByRecursion (CausedOption b) all = (
        mapped (λ (l : Line). silence env l.session l) lines b (λ l e. silent l.session l b h),
        (
          mapped (publish_will env) wills b (λ s e. its_will s b h),
          (
            mapped (λ (s : Session). always (end_session s)) ends b
                (λ s e. end_caused m s b (among_own s b h (found_among (has_due_end b.now) s b.records.sessions e)) (inl (found_passes (has_due_end b.now) s b.records.sessions e))),
            (
              mapped (λ (k : RetainedMessage). always (Forget k.place ∷ [])) kept b (λ k e. quietly m (Forget k.place ∷ []) b (tt, tt)),
              (
                mapped (λ (s : Session). always (lapse_deeds b.now s)) waiting b
                    (λ s e. let there = among_own s b h (found_among (has_lapsed b.now) s b.records.sessions e) in lapse_caused m s b asked (rising s b h there) (same_now s b.records there)),
                tt,
              ),
            ),
          ),
        ),
      ) in
      first_caused all b each

  ticking : (o : Option Act) (b : Broker) → CausedOption b o → Caused m (on_tick o b) b
  ticking None b q = nothing b
  ticking (Some act) b q = q

  -- ---- packets

  first_read : (n : ℕ) (l : Line) (packet : Packet) → m.call ≡ Some (Input n packet) → CausedAct (first_packet env l packet)
  first_read n l (packets.Connect c) asked b h = connecting (refusal c b.records) n l c asked b h
  first_read n l (packets.Connack c) asked b h = closing true l b h
  first_read n l (packets.Publish p) asked b h = closing true l b h
  first_read n l (packets.Puback a) asked b h = closing true l b h
  first_read n l (packets.Pubrec a) asked b h = closing true l b h
  first_read n l (packets.Pubrel a) asked b h = closing true l b h
  first_read n l (packets.Pubcomp a) asked b h = closing true l b h
  first_read n l (packets.Subscribe p) asked b h = closing true l b h
  first_read n l (packets.Suback p) asked b h = closing true l b h
  first_read n l (packets.Unsubscribe p) asked b h = closing true l b h
  first_read n l (packets.Unsuback p) asked b h = closing true l b h
  first_read n l packets.Pingreq asked b h = closing true l b h
  first_read n l packets.Pingresp asked b h = closing true l b h
  first_read n l (packets.Disconnect d) asked b h = closing true l b h
  first_read n l (packets.Auth d) asked b h = closing true l b h

  next_read : (l : Line) (packet : Packet) (s : Session) (b : Broker) → Orders b → session_at s.birth b.records ≡ Some s → Reads m b.now l s packet → Caused m (next_packet env l packet s b) b
  next_read l (packets.Publish p) s b h there reads = publishing (meaning p l.aliases) l s p b h
  next_read l (packets.Puback a) s b h there reads = answering (rules.puback a.identifier a.reason.0 (queue_on l.went s)) l s b h there (puback_fine m b.now l s a reads (rising s b h there))
  next_read l (packets.Pubrec a) s b h there reads = answering (rules.pubrec a.identifier a.reason.0 (queue_on l.went s)) l s b h there (pubrec_fine m b.now l s a reads (rising s b h there))
  next_read l (packets.Pubrel a) s b h there reads = quietly m _ b (quiet_release (answer_to_release a.identifier s.inbound) l s a.identifier)
  next_read l (packets.Pubcomp a) s b h there reads = answering (rules.pubcomp a.identifier (queue_on l.went s)) l s b h there (pubcomp_fine m b.now l s a reads (rising s b h there))
  next_read l (packets.Subscribe p) s b h there reads = subscribing (is_among p.identifier s.inbound) l.number s p b h
  next_read l (packets.Unsubscribe p) s b h there reads = quietly m _ b (quiet_unsubscribe (is_among p.identifier s.inbound) l.number s p b)
  next_read l packets.Pingreq s b h there reads = quietly m (Send l.number packets.Pingresp ∷ []) b (tt, tt)
  next_read l (packets.Disconnect d) s b h there reads = leaving _ l s d.reason.0 _ b h
  next_read l (packets.Connect c) s b h there reads = dropping protocol_error l b h
  next_read l (packets.Connack c) s b h there reads = dropping protocol_error l b h
  next_read l (packets.Suback p) s b h there reads = dropping protocol_error l b h
  next_read l (packets.Unsuback p) s b h there reads = dropping protocol_error l b h
  next_read l packets.Pingresp s b h there reads = dropping protocol_error l b h
  next_read l (packets.Auth d) s b h there reads = dropping protocol_error l b h

  -- on its line as it stood at the beginning of the step
  reading : (n : ℕ) (l : Line) (packet : Packet) (o : Option ℕ) (b : Broker) → Orders b → m.call ≡ Some (Input n packet) → line_at n m.step.broker ≡ Some l → l.session ≡ o → Caused m (on_packet env l packet o b) b
  reading n l packet None b h asked found its = first_read n l packet asked b h
  reading n l packet (Some birth) b h asked found its =
      on_session (session_at birth b.records) (next_packet env l packet) b
      (λ s there. next_read l packet s b h (own birth s b there) (record { number = n; asked = asked; found = found; its = its ∙ ap (λ (k : ℕ). Some k) (sym (found_key birth_of birth s b.records.sessions there)) }))

  at_fault : (l : Line) (t : Bool) (code : ℕ) (o : Option ℕ) → CausedAct (on_fault env l t code o)
  at_fault l true code None b h = acts (always (Send l.number (connack false code []) ∷ []) ∷ close env true l ∷ []) (quiet (Send l.number (connack false code []) ∷ []) (tt, tt), (closing true l, tt)) b h
  at_fault l false code None b h = closing true l b h
  at_fault l true code (Some birth) b h = dropping (late_code code) l b h
  at_fault l false code (Some birth) b h = dropping (late_code code) l b h

  pumping : (n : ℕ) (l : Line) (o : Option ℕ) (b : Broker) → Orders b → m.call ≡ Some (Pump n) → line_at n m.step.broker ≡ Some l → line_at n b ≡ Some l → l.session ≡ o → Caused m (on_pump l o b) b
  pumping n l None b h asked found stands its = nothing b
  pumping n l (Some birth) b h asked found stands its =
      on_session (session_at birth b.records) (λ s. always (pump_deeds l b s)) b
      (λ s there. let mine = own birth s b there in
      pump_caused m l s b (record { number = n; asked = asked; found = found; its = its ∙ ap (λ (k : ℕ). Some k) (sym (found_key birth_of birth s b.records.sessions there)) })
      (subst (λ (k : ℕ). line_at k b ≡ Some l) (sym (found_number n l b.lines stands)) stands) (rising s b h mine) (same_now s b.records mine))

  -- ---- calls, each on the state in which it comes, and openings

  -- each copy that ends in a call has its cause
  pub call_caused : (call : Call) → m.call ≡ Some call → Orders m.step.broker → Caused m (deeds_of env call m.step.broker) m.step.broker
  call_caused NewLine asked h = let b = m.step.broker in quietly m (cond (can_link env.limits b) (Link (suc b.given) ∷ []) []) b (quiet_cond (can_link env.limits b) (Link (suc b.given) ∷ []) [] (tt, tt) tt)
  call_caused (Input n packet) asked h =
      let b = m.step.broker in
      on_a_line (line_at n b) (λ l. series (always (On n Hear ∷ []) ∷ on_packet env l packet l.session ∷ [])) b
      (λ l there. two (always (On n Hear ∷ [])) (on_packet env l packet l.session) b h (quietly m (On n Hear ∷ []) b (tt, tt)) (λ c k moment. reading n l packet l.session c k asked there refl))
  call_caused (BadInput n is_connect code) asked h = let b = m.step.broker in on_a_line (line_at n b) (λ l. on_fault env l is_connect code l.session) b (λ l there. at_fault l is_connect code l.session b h)
  call_caused (Lost n) asked h = let b = m.step.broker in on_a_line (line_at n b) (close env true) b (λ l there. closing true l b h)
  call_caused (Pump n) asked h = let b = m.step.broker in on_a_line (line_at n b) (λ l. on_pump l l.session) b (λ l there. pumping n l l.session b h asked there there refl)
  call_caused Tick asked h = let b = m.step.broker in ticking (due env b) b (due_caused b h asked)

  shutting : (s : Session) → CausedAct (shuts s)
  shutting s b h = quietly m (At (whose s) (Close b.now) ∷ []) b (tt, tt)

  -- each copy that ends in an opening has its cause
  pub opening_caused : CausedAct (opening env)
  opening_caused b h =
      let ss = connected_in b.records in
      acts (shuts_all ss ∷ settles_all env ss ∷ []) (acts (map shuts ss) (each_act shuts shutting ss), (acts (map (settles env) ss) (each_act (settles env) (λ (s : Session). settling s.birth) ss), tt)) b h
