-- What is said of deeds that send no PUBLISH, of a publication, a SUBSCRIBE, an answer and a turn of sending, is said of each call and each
-- opening.
use Rattle.std.proofs.Common.{◌≡◌, ℕ, suc, Bool, true, false, cond, not, List, [], ◌∷◌, ◌++◌, filter, length, map, Option, Some, None, refl, sym, ap, ◌∙◌, inl, inr}
use Rattle.std.specs.Prelude.{⊤, Err, Ok, find, flat_map, nat_lt, option_map}
use Rattle.std.specs.List.{AllByRecursion}
use Rattle.mqtt_base.specs.Codes.{identifier_in_use, keep_alive_timeout, protocol_error, quota_exceeded, receive_maximum_exceeded, session_taken_over}
use Rattle.mqtt_packet.specs.declared.codec.packet.Packet.{Packet}
use Rattle.mqtt_packet.specs.declared.codec.packet.Packet.TheVariants as packets
use Rattle.mqtt_packet.specs.declared.codec.publish.Delivery.{Delivery}
use Rattle.mqtt_packet.specs.declared.codec.publish.Delivery.TheVariants as delivery
use Rattle.mqtt_packet.specs.declared.codec.publish.Publish.{Publish as Publication}
use Rattle.mqtt_packet.specs.declared.connect.connect.Connect.{Connect as Greeting}
use Rattle.mqtt_flow.specs.outbound.Outbound.{Answer, due_from, resumed_with}
use Rattle.mqtt_flow.specs.outbound.Outbound as rules
use Rattle.mqtt_flow.specs.declared.outbound.entry.Turn.{Turn}
use Rattle.mqtt_flow.specs.declared.outbound.entry.Turn.TheVariants as turns
use Rattle.mqtt_flow.specs.inbound.Identifiers.{is_among}
use Rattle.mqtt_flow.specs.inbound.Inbound.{answer_to_release}
use Rattle.mqtt_flow.specs.declared.inbound.inflow.Published.{Published}
use Rattle.mqtt_flow.specs.declared.inbound.inflow.Published.TheVariants.{Again, New, Over}
use Rattle.mqtt_flow.specs.declared.inbound.inflow.ReleaseAnswer.{ReleaseAnswer}
use Rattle.mqtt_flow.specs.declared.inbound.inflow.ReleaseAnswer.TheVariants.{Known, Unknown}
use Rattle.mqtt_records.specs.declared.messages.message.RetainedMessage.{RetainedMessage}
use Rattle.mqtt_records.specs.declared.messages.message.Will.{Will}
use Rattle.mqtt_props.specs.declared.table.PropName.TheVariants.{TopicAlias}
use Rattle.mqtt_records.specs.state.Session.{birth_of}
use Rattle.mqtt_records.specs.declared.state.records.Records.{Records}
use Rattle.mqtt_records.specs.declared.state.session.Session.{Session}
use Rattle.mqtt_packet.specs.declared.subscribe.subscribe.Subscribe.{Subscribe as Asking}
use Rattle.mqtt_packet.specs.declared.subscribe.unsubscribe.Unsubscribe.{Unsubscribe as GivingUp}
use Rattle.mqtt_topic.specs.names.Names.{is_empty}
use Rattle.mqtt_rules.specs.step.Closing.{close, close_connected, close_session, drop_line, end_session, has_due_end, has_due_will, publish_or_refuse, publish_will, settle, will_deeds, will_message}
use Rattle.mqtt_rules.specs.step.Connect.{begin_named, clear, connect_by, joins, largest_of, of_client, prepare, refusal, refusal_size, refused, resume, take_over}
use Rattle.mqtt_rules.specs.step.Deeds.{Whose, whose, Message, Origin, FromClient, FromWill, Close, DropWill, Finish, Leave, after, Hear, Deed, At, Forget, RefuseWill, Link, On, Send, Gone, Act, after_all, always, of_session, offer, only_if, series, with_line, with_session}
use Rattle.mqtt_rules.specs.step.Inbound.{Meaning, Means, Wrong, answer, code_accepted, code_again, leave_by, meaning, message_of, new_expiry, on_answer, opens, publish_by, publish_meant, publish_new, pump_deeds, release_by, sets_alias, standing}
use Rattle.mqtt_rules.specs.step.Outbound.{all_turn_deeds, turn_deeds}
use Rattle.mqtt_rules.specs.step.Packets.{connack, disconnect, unsuback}
use Rattle.mqtt_records.specs.messages.PassedOn.{number_at}
use Rattle.mqtt_rules.specs.step.Routing.{CopyTo, accepted_copies, is_wanted, publish}
use Rattle.mqtt_rules.specs.step.State.{Broker, Env, Line, line_at, line_of, queue_on, session_at, session_named}
use Rattle.mqtt_rules.specs.step.Step.{Call, NewLine, Input, BadInput, Lost, Pump, Tick, can_link, connected_in, deeds_of, first_packet, late_code, next_packet, on_fault, on_packet, on_pump, opening, settles, settles_all, shuts, shuts_all}
use Rattle.mqtt_rules.specs.step.Subscribe as sub
use Rattle.mqtt_rules.specs.step.Tick.{due, first_due, has_lapsed, is_silent, is_stale, lapse_deeds, lapses, on_tick, silence}
use Rattle.mqtt_rules.proofs.step_lemmas.acts.OnLines.{found_number}
use Rattle.mqtt_rules.proofs.step_lemmas.numbers.Copies.{each_append, each_flat}
use Rattle.mqtt_rules.proofs.step_lemmas.flight.FlightRows.{found_key}
use Rattle.mqtt_rules.proofs.step_lemmas.fit.StandLaw.{Orders, ordered_all}
use Rattle.mqtt_rules.specs.step.Lines.{session_on}
use Rattle.mqtt_rules.proofs.step_lemmas.lines.LineRows.{leaves}
use Rattle.mqtt_base.specs.declared.session.Ending.TheVariants.{SessionEnded}
use Rattle.mqtt_records.specs.messages.Queue.{CopyRow}
use Rattle.mqtt_rules.proofs.step_lemmas.acts.Acts.{IsAnswer}
use Rattle.mqtt_world_laws.proofs.unasked_lemmas.Traces.{AreSilent, IsSilent, silent_cond, silent_leaves, silent_offer}

-- what is said of deeds: of those that send no PUBLISH, of some and then others, and of those that may send one or grant a subscription
pub record SaysSent (call : Option Call) (env : Env) (R : List Deed → Broker → Type 0) : Type 0 where
  pub silent : (ds : List Deed) (b : Broker) → AreSilent call env ds → R ds b
  pub next : (xs ys : List Deed) (b : Broker) → R xs b → R ys (after_all xs b) → R (xs ++ ys) b
  pub publishes : (origin : Origin) (m : Message) (ds : List CopyTo) (b : Broker) → Orders b → accepted_copies env m b ≡ Some ds → R (publish env origin m ds b) b
  pub subscribes : (line : ℕ) (p : Asking) (t : Bool) (s : Session) (b : Broker) → call ≡ Some (Input line (packets.Subscribe p)) → session_on line b ≡ Some (Some s.birth) → R (sub.subscribe_by t env line s p b) b
  pub answers : (a : Answer) (t : Turn) (l : Line) (s : Session) (b : Broker) → Orders b → session_at s.birth b.records ≡ Some s → session_on l.number b ≡ Some (Some s.birth) → IsAnswer a l s → a ≡ Ok (Some t)
      → R (turn_deeds b.now l.number s t) b
  pub pumps : (n : ℕ) (l : Line) (s : Session) (b : Broker) → Orders b → call ≡ Some (Pump n) → session_at s.birth b.records ≡ Some s → session_on l.number b ≡ Some (Some s.birth) → R (pump_deeds l b s) b

module _ (call : Option Call) (env : Env) (R : List Deed → Broker → Type 0) (says : SaysSent call env R) where
  -- ---- lists of deeds that send no PUBLISH

  abbrev Silent : List Deed → Type 0
  Silent ds = AreSilent call env ds

  silent_repeats : {X : Type 0} (now line : ℕ) (s : Session) (id : X → ℕ) (xs : List X) → Silent (all_turn_deeds now line s (map (λ x. turns.Repeat (id x)) xs))
  silent_repeats now line s id [] = tt
  silent_repeats now line s id (x ∷ xs) = (tt, silent_repeats now line s id xs)

  silent_refused : (l : Line) (c : Greeting) (code : ℕ) → Silent (refused l c code)
  silent_refused l c code = each_append (IsSilent call env) (cond (nat_lt (largest_of c) refusal_size) [] (Send l.number (connack false code []) ∷ [])) (Gone l.number ∷ [])
      (silent_cond call env (nat_lt (largest_of c) refusal_size) [] (Send l.number (connack false code []) ∷ []) tt (tt, tt)) (tt, tt)

  silent_begin : (t : Bool) (l : Line) (c : Greeting) (r : Records) → Silent (begin_named t l c r)
  silent_begin false l c r = (tt, (tt, (tt, tt)))
  silent_begin true l c r = (tt, (tt, (tt, (tt, tt))))

  silent_answer : (line : ℕ) (d : Delivery) (code : ℕ) → Silent (answer line d code)
  silent_answer line delivery.AtMostOnce code = tt
  silent_answer line (delivery.AtLeastOnce dup id) code = (tt, tt)
  silent_answer line (delivery.ExactlyOnce dup id) code = (tt, tt)

  silent_opens : (s : Session) (d : Delivery) → Silent (opens s d)
  silent_opens s delivery.AtMostOnce = tt
  silent_opens s (delivery.AtLeastOnce dup id) = tt
  silent_opens s (delivery.ExactlyOnce dup id) = (tt, tt)

  silent_alias : (t : Bool) (alias : Option ℕ) (line : ℕ) (topic : List ℕ) → Silent (sets_alias t alias line topic)
  silent_alias true alias line topic = tt
  silent_alias false None line topic = tt
  silent_alias false (Some n) line topic = (tt, tt)

  silent_release : (x : ReleaseAnswer) (l : Line) (s : Session) (id : ℕ) → Silent (release_by x l s id)
  silent_release Known l s id = (tt, (tt, tt))
  silent_release Unknown l s id = (tt, tt)

  silent_expiry : (o : Option ℕ) (s : Session) → Silent (new_expiry o s)
  silent_expiry None s = tt
  silent_expiry (Some n) s = (tt, tt)

  silent_unsubscribe : (t : Bool) (line : ℕ) (s : Session) (p : GivingUp) (b : Broker) → Silent (sub.unsubscribe_by t line s p b)
  silent_unsubscribe true line s p b = silent_offer call env (line_at line b) (unsuback p.identifier (map (λ f. identifier_in_use) p.filters)) tt
  silent_unsubscribe false line s p b =
      each_append (IsSilent call env) (flat_map (sub.unsubscribes s) (filter (λ f. sub.has_filter f s) p.filters)) (offer (line_at line b) (unsuback p.identifier (sub.drop_codes s [] p.filters)))
      (each_flat (IsSilent call env) (sub.unsubscribes s) (λ f. (tt, tt)) (filter (λ f. sub.has_filter f s) p.filters)) (silent_offer call env (line_at line b) (unsuback p.identifier (sub.drop_codes s [] p.filters)) tt)

  silent_ends : (s : Session) (es : List CopyRow) → Silent (map (λ e. At (whose s) (Leave e SessionEnded)) es)
  silent_ends s [] = tt
  silent_ends s (e ∷ es) = (tt, silent_ends s es)

  silent_end : (s : Session) → Silent (end_session s)
  silent_end s = each_append (IsSilent call env) (map (λ e. At (whose s) (Leave e SessionEnded)) s.queue) (Finish (whose s) ∷ []) (silent_ends s s.queue) (tt, tt)

  -- ---- acts

  abbrev Trace : List Deed → Broker → Type 0
  Trace = R

  silent_deeds : (ds : List Deed) (b : Broker) → Silent ds → Trace ds b
  silent_deeds ds b h = says.silent ds b h

  next : (xs ys : List Deed) (b : Broker) → Trace xs b → Trace ys (after_all xs b) → Trace (xs ++ ys) b
  next xs ys b p q = says.next xs ys b p q

  abbrev TracedAct : Act → Type 0
  TracedAct act = (b : Broker) → Orders b → Trace (act b) b

  nothing : (b : Broker) → Trace [] b
  nothing b = silent_deeds [] b tt

  silent_act : (ds : List Deed) → Silent ds → TracedAct (always ds)
  silent_act ds q b h = silent_deeds ds b q

  acts : (fs : List Act) → AllByRecursion TracedAct fs → TracedAct (series fs)
  acts [] q b h = nothing b
  acts (f ∷ fs) q b h = next (f b) (series fs (after_all (f b) b)) b (q.0 b h) (acts fs q.1 (after_all (f b) b) (ordered_all (f b) b h))

  each_act : {X : Type 0} (f : X → Act) → ((x : X) → TracedAct (f x)) → (xs : List X) → AllByRecursion TracedAct (map f xs)
  each_act f h [] = tt
  each_act f h (x ∷ xs) = (h x, each_act f h xs)

  on_session : (o : Option Session) (f : Session → Act) (b : Broker) → ((s : Session) → o ≡ Some s → Trace (f s b) b) → Trace (with_session o f b) b
  on_session None f b q = nothing b
  on_session (Some s) f b q = q s refl

  own : (birth : ℕ) (s : Session) (b : Broker) → session_at birth b.records ≡ Some s → session_at s.birth b.records ≡ Some s
  own birth s b there = ap (λ (n : ℕ). session_at n b.records) (found_key birth_of birth s b.records.sessions there) ∙ there

  on_birth : (birth : ℕ) (f : Session → Act) (b : Broker) → ((s : Session) → session_at s.birth b.records ≡ Some s → Trace (f s b) b) → Trace (of_session birth f b) b
  on_birth birth f b q = on_session (session_at birth b.records) f b (λ s there. q s (own birth s b there))

  on_client : (client : List ℕ) (f : Session → Act) (b : Broker) → ((s : Session) → Trace (f s b) b) → Trace (of_client client f b) b
  on_client client f b q = on_session (session_named client b.records) f b (λ s there. q s)

  on_a_line : (o : Option Line) (f : Line → Act) (b : Broker) → ((l : Line) → o ≡ Some l → Trace (f l b) b) → Trace (with_line o f b) b
  on_a_line None f b q = nothing b
  on_a_line (Some l) f b q = q l refl

  if_so : (t : Bool) (act : Act) (b : Broker) → (t ≡ true → Trace (act b) b) → Trace (only_if t act b) b
  if_so true act b q = q refl
  if_so false act b q = nothing b

  -- ---- Wills, ends, settling and closing

  will_or_refusal : (who : Whose) (x : Message) (o : Option (List CopyTo)) (b : Broker) → Orders b → accepted_copies env x b ≡ o → Trace (publish_or_refuse env who x o b) b
  will_or_refusal who x None b h e = silent_deeds (RefuseWill who ∷ []) b (tt, tt)
  will_or_refusal who x (Some ds) b h e = says.publishes FromWill x ds b h e

  of_will : (who : Whose) (o : Option Will) → TracedAct (will_deeds env who o)
  of_will who None b h = nothing b
  of_will who (Some w) b h =
      let x = will_message who.client w in
      let first = publish_or_refuse env who x (accepted_copies env x b) b in
      next first (series (always (At who DropWill ∷ []) ∷ []) (after_all first b)) b (will_or_refusal who x (accepted_copies env x b) b h refl)
      (acts (always (At who DropWill ∷ []) ∷ []) (silent_act (At who DropWill ∷ []) (tt, tt), tt) (after_all first b) (ordered_all first b h))

  its_will : (s : Session) → TracedAct (publish_will env s)
  its_will s b h = of_will (whose s) s.will b h

  settling : (birth : ℕ) → TracedAct (settle env birth)
  settling birth b h =
      acts (of_session birth (λ s. only_if (has_due_will b.now s) (publish_will env s)) ∷ of_session birth (λ s. only_if (has_due_end b.now s) (always (end_session s))) ∷ []) (
        (λ c k. on_birth birth (λ s. only_if (has_due_will b.now s) (publish_will env s)) c (λ s there. if_so (has_due_will b.now s) (publish_will env s) c (λ t. its_will s c k))),
        (
          (λ c k. on_birth birth (λ s. only_if (has_due_end b.now s) (always (end_session s))) c
              (λ s there. if_so (has_due_end b.now s) (always (end_session s)) c (λ t. silent_deeds (end_session s) c (silent_end s)))),
          tt,
        ),
      ) b h

  closing_a_session : (keeps_will : Bool) (s : Session) → TracedAct (close_session env keeps_will s)
  closing_a_session keeps_will s b h =
      acts (only_if (not keeps_will) (always (At (whose s) DropWill ∷ [])) ∷ always (At (whose s) (Close b.now) ∷ []) ∷ settle env s.birth ∷ [])
      ((λ c k. if_so (not keeps_will) (always (At (whose s) DropWill ∷ [])) c (λ t. silent_deeds (At (whose s) DropWill ∷ []) c (tt, tt))), (silent_act (At (whose s) (Close b.now) ∷ []) (tt, tt), (settling s.birth, tt))) b h

  closing_connected : (keeps_will : Bool) (o : Option ℕ) → TracedAct (close_connected env keeps_will o)
  closing_connected keeps_will None b h = nothing b
  closing_connected keeps_will (Some birth) b h = on_birth birth (close_session env keeps_will) b (λ s there. closing_a_session keeps_will s b h)

  closing : (keeps_will : Bool) (l : Line) → TracedAct (close env keeps_will l)
  closing keeps_will l b h = acts (always (Gone l.number ∷ []) ∷ close_connected env keeps_will l.session ∷ []) (silent_act (Gone l.number ∷ []) (tt, tt), (closing_connected keeps_will l.session, tt)) b h

  dropping : (code : ℕ) (l : Line) → TracedAct (drop_line env code l)
  dropping code l b h = acts (always (Send l.number (disconnect code) ∷ []) ∷ close env true l ∷ []) (silent_act (Send l.number (disconnect code) ∷ []) (tt, tt), (closing true l, tt)) b h

  -- ---- CONNECT

  taking_over : (s : Session) → TracedAct (take_over env s)
  taking_over s b h = on_a_line (line_of s.birth b) (drop_line env session_taken_over) b (λ l there. dropping session_taken_over l b h)

  clearing : (s : Session) → TracedAct (clear env s)
  clearing s b h =
      acts (publish_will env s ∷ of_client s.client (λ t. always (end_session t)) ∷ [])
      (its_will s, ((λ c k. on_client s.client (λ t. always (end_session t)) c (λ t. silent_deeds (end_session t) c (silent_end t))), tt)) b h

  preparing : (c : Greeting) → TracedAct (prepare env c)
  preparing c b h =
      acts (of_client c.client_identifier (take_over env) ∷ of_client c.client_identifier (λ s. settle env s.birth) ∷ only_if c.clean_start (of_client c.client_identifier (clear env)) ∷ []) (
        (λ d k. on_client c.client_identifier (take_over env) d (λ s. taking_over s d k)),
        (
          (λ d k. on_client c.client_identifier (λ s. settle env s.birth) d (λ s. settling s.birth d k)),
          ((λ d k. if_so c.clean_start (of_client c.client_identifier (clear env)) d (λ t. on_client c.client_identifier (clear env) d (λ s. clearing s d k))), tt),
        ),
      ) b h

  joining : (l : Line) (c : Greeting) (now : ℕ) (ds : List Deed) (r : Records) (o : Option Session) (b : Broker) → Trace ds b → Trace (joins env l c now ds r o) b
  joining l c now ds r (Some s) b q =
      next ds (resume l c now s) b q (silent_deeds (resume l c now s) (after_all ds b) (tt, (tt, (tt, silent_repeats now l.number s (λ d. d.identifier) (due_from [] (queue_on [] s))))))
  joining l c now ds r None b q = by (nat_lt (length r.sessions) env.limits.sessions)
    where
      by : (t : Bool) → Trace (cond t (ds ++ begin_named (is_empty c.client_identifier) l c r) (refused l c quota_exceeded)) b
      by true = next ds (begin_named (is_empty c.client_identifier) l c r) b q (silent_deeds (begin_named (is_empty c.client_identifier) l c r) (after_all ds b) (silent_begin (is_empty c.client_identifier) l c r))
      by false = silent_deeds (refused l c quota_exceeded) b (silent_refused l c quota_exceeded)

  connecting : (o : Option ℕ) (l : Line) (c : Greeting) → TracedAct (connect_by o env l c)
  connecting (Some code) l c b h = silent_deeds (refused l c code) b (silent_refused l c code)
  connecting None l c b h =
      let ds = prepare env c b in
      joining l c b.now ds (after_all ds b).records (session_named c.client_identifier (after_all ds b).records) b (preparing c b h)

  -- ---- PUBLISH

  publishing_new : (l : Line) (s : Session) (p : Publication) (x : Message) (o : Option (List CopyTo)) (b : Broker) → Orders b → accepted_copies env x b ≡ o → Trace (publish_new env l s p x o b) b
  publishing_new l s p x None b h e = silent_deeds (answer l.number p.delivery quota_exceeded) b (silent_answer l.number p.delivery quota_exceeded)
  publishing_new l s p x (Some ds) b h e =
      let first = publish env FromClient x ds b in
      let told = answer l.number p.delivery (code_accepted (is_wanted env x b.records)) in
      next first (series (always (opens s p.delivery) ∷ always told ∷ []) (after_all first b)) b (says.publishes FromClient x ds b h e)
      (acts (always (opens s p.delivery) ∷ always told ∷ []) (silent_act (opens s p.delivery) (silent_opens s p.delivery), (silent_act told (silent_answer l.number p.delivery (code_accepted (is_wanted env x b.records))), tt)) (after_all first b) (ordered_all first b h))

  publishing_by : (x : Published) (l : Line) (s : Session) (p : Publication) (message : Message) → TracedAct (publish_by x env l s p message)
  publishing_by Again l s p message b h = silent_deeds (answer l.number p.delivery (code_again p.delivery)) b (silent_answer l.number p.delivery (code_again p.delivery))
  publishing_by Over l s p message b h = dropping receive_maximum_exceeded l b h
  publishing_by New l s p message b h = publishing_new l s p message (accepted_copies env message b) b h refl

  publishing : (x : Meaning) (l : Line) (s : Session) (p : Publication) → TracedAct (publish_meant x env l s p)
  publishing (Wrong code) l s p b h = dropping code l b h
  publishing (Means topic) l s p b h =
      let sets = sets_alias (is_empty p.topic) (number_at TopicAlias p.properties) l.number topic in
      acts (always sets ∷ publish_by (standing p.delivery s.inbound) env l s p (message_of s.client topic p) ∷ [])
      (silent_act sets (silent_alias (is_empty p.topic) (number_at TopicAlias p.properties) l.number topic), (publishing_by (standing p.delivery s.inbound) l s p (message_of s.client topic p), tt)) b h

  -- ---- a receiver's answers, and DISCONNECT

  answering : (a : Answer) (l : Line) (s : Session) (b : Broker) → Orders b → session_at s.birth b.records ≡ Some s → session_on l.number b ≡ Some (Some s.birth) → IsAnswer a l s → Trace (on_answer a env l s b) b
  answering (Ok None) l s b h there on is = nothing b
  answering (Ok (Some t)) l s b h there on is = says.answers (Ok (Some t)) t l s b h there on is refl
  answering (Err fault) l s b h there on is = dropping protocol_error l b h

  leaving : (t : Bool) (l : Line) (s : Session) (code : ℕ) (o : Option ℕ) → TracedAct (leave_by t env l s code o)
  leaving true l s code o b h = dropping protocol_error l b h
  leaving false l s code o b h = acts (always (new_expiry o s) ∷ close env _ l ∷ []) (silent_act (new_expiry o s) (silent_expiry o s), (closing _ l, tt)) b h

  -- ---- tick

  abbrev TracedOption : Broker → Option Act → Type 0
  TracedOption b None = ⊤
  TracedOption b (Some act) = Trace (act b) b

  mapped : {X : Type 0} (f : X → Act) (o : Option X) (b : Broker) → ((x : X) → o ≡ Some x → Trace (f x b) b) → TracedOption b (option_map f o)
  mapped f None b h = tt
  mapped f (Some x) b h = h x refl

  first_traced : (os : List (Option Act)) (b : Broker) → AllByRecursion (TracedOption b) os → TracedOption b (first_due os)
  first_traced [] b h = tt
  first_traced (Some act ∷ rest) b h = h.0
  first_traced (None ∷ rest) b h = first_traced rest b h.1

  silence_traced : (o : Option ℕ) (l : Line) → TracedAct (silence env o l)
  silence_traced None l b h = closing true l b h
  silence_traced (Some birth) l b h = dropping keep_alive_timeout l b h

  due_traced : (b : Broker) → Orders b → TracedOption b (due env b)
  due_traced b h =
      let lines = find (λ (l : Line). is_silent b.now l.session l) b.lines in
      let wills = find (has_due_will b.now) b.records.sessions in
      let ends = find (has_due_end b.now) b.records.sessions in
      let kept = find (is_stale b.now) b.records.retained in
      let waiting = find (has_lapsed b.now) b.records.sessions in
      let all : List (Option Act) = option_map (λ (l : Line). silence env l.session l) lines ∷ option_map (publish_will env) wills ∷ option_map (λ (s : Session). always (end_session s)) ends
      ∷ option_map (λ (k : RetainedMessage). always (Forget k.place ∷ [])) kept ∷ option_map (λ (s : Session). always (lapse_deeds b.now s)) waiting ∷ [] in
      let each : AllByRecursion (TracedOption b) all = (
        mapped (λ (l : Line). silence env l.session l) lines b (λ l e. silence_traced l.session l b h),
        (
          mapped (publish_will env) wills b (λ s e. its_will s b h),
          (
            mapped (λ (s : Session). always (end_session s)) ends b (λ s e. silent_deeds (end_session s) b (silent_end s)),
            (
              mapped (λ (k : RetainedMessage). always (Forget k.place ∷ [])) kept b (λ k e. silent_deeds (Forget k.place ∷ []) b (tt, tt)),
              (mapped (λ (s : Session). always (lapse_deeds b.now s)) waiting b (λ s e. silent_deeds (lapse_deeds b.now s) b (silent_leaves call env s (lapses b.now s))), tt),
            ),
          ),
        ),
      ) in
      first_traced all b each

  ticking : (o : Option Act) (b : Broker) → TracedOption b o → Trace (on_tick o b) b
  ticking None b q = nothing b
  ticking (Some act) b q = q

  -- ---- packets

  first_read : (l : Line) (packet : Packet) → TracedAct (first_packet env l packet)
  first_read l (packets.Connect c) b h = connecting (refusal c b.records) l c b h
  first_read l (packets.Connack c) b h = closing true l b h
  first_read l (packets.Publish p) b h = closing true l b h
  first_read l (packets.Puback a) b h = closing true l b h
  first_read l (packets.Pubrec a) b h = closing true l b h
  first_read l (packets.Pubrel a) b h = closing true l b h
  first_read l (packets.Pubcomp a) b h = closing true l b h
  first_read l (packets.Subscribe p) b h = closing true l b h
  first_read l (packets.Suback p) b h = closing true l b h
  first_read l (packets.Unsubscribe p) b h = closing true l b h
  first_read l (packets.Unsuback p) b h = closing true l b h
  first_read l packets.Pingreq b h = closing true l b h
  first_read l packets.Pingresp b h = closing true l b h
  first_read l (packets.Disconnect d) b h = closing true l b h
  first_read l (packets.Auth d) b h = closing true l b h

  next_read : (l : Line) (packet : Packet) (s : Session) (b : Broker) → Orders b → session_at s.birth b.records ≡ Some s → session_on l.number b ≡ Some (Some s.birth) → call ≡ Some (Input l.number packet) → Trace (next_packet env l packet s b) b
  next_read l (packets.Publish p) s b h there on read = publishing (meaning p l.aliases) l s p b h
  next_read l (packets.Puback a) s b h there on read = answering (rules.puback a.identifier a.reason.0 (queue_on l.went s)) l s b h there on (inl (a.identifier, a.reason.0, refl))
  next_read l (packets.Pubrec a) s b h there on read = answering (rules.pubrec a.identifier a.reason.0 (queue_on l.went s)) l s b h there on (inr (inl (a.identifier, a.reason.0, refl)))
  next_read l (packets.Pubrel a) s b h there on read = silent_deeds _ b (silent_release (answer_to_release a.identifier s.inbound) l s a.identifier)
  next_read l (packets.Pubcomp a) s b h there on read = answering (rules.pubcomp a.identifier (queue_on l.went s)) l s b h there on (inr (inr (a.identifier, refl)))
  next_read l (packets.Subscribe p) s b h there on read = says.subscribes l.number p (is_among p.identifier s.inbound) s b read on
  next_read l (packets.Unsubscribe p) s b h there on read = silent_deeds _ b (silent_unsubscribe (is_among p.identifier s.inbound) l.number s p b)
  next_read l packets.Pingreq s b h there on read = silent_deeds (Send l.number packets.Pingresp ∷ []) b (tt, tt)
  next_read l (packets.Disconnect d) s b h there on read = leaving _ l s d.reason.0 _ b h
  next_read l (packets.Connect c) s b h there on read = dropping protocol_error l b h
  next_read l (packets.Connack c) s b h there on read = dropping protocol_error l b h
  next_read l (packets.Suback p) s b h there on read = dropping protocol_error l b h
  next_read l (packets.Unsuback p) s b h there on read = dropping protocol_error l b h
  next_read l packets.Pingresp s b h there on read = dropping protocol_error l b h
  next_read l (packets.Auth d) s b h there on read = dropping protocol_error l b h

  -- on the line on which the session is connected
  reading : (l : Line) (packet : Packet) (o : Option ℕ) (b : Broker) → Orders b → call ≡ Some (Input l.number packet) → session_on l.number b ≡ Some o → Trace (on_packet env l packet o b) b
  reading l packet None b h read on = first_read l packet b h
  reading l packet (Some birth) b h read on =
      on_session (session_at birth b.records) (next_packet env l packet) b
      (λ s there. next_read l packet s b h (own birth s b there) (on ∙ ap (λ (k : ℕ). Some (Some k)) (sym (found_key birth_of birth s b.records.sessions there))) read)

  at_fault : (l : Line) (t : Bool) (code : ℕ) (o : Option ℕ) → TracedAct (on_fault env l t code o)
  at_fault l true code None b h = acts (always (Send l.number (connack false code []) ∷ []) ∷ close env true l ∷ []) (silent_act (Send l.number (connack false code []) ∷ []) (tt, tt), (closing true l, tt)) b h
  at_fault l false code None b h = closing true l b h
  at_fault l true code (Some birth) b h = dropping (late_code code) l b h
  at_fault l false code (Some birth) b h = dropping (late_code code) l b h

  pumping : (n : ℕ) (l : Line) (o : Option ℕ) (b : Broker) → Orders b → call ≡ Some (Pump n) → session_on l.number b ≡ Some o → Trace (on_pump l o b) b
  pumping n l None b h is on = nothing b
  pumping n l (Some birth) b h is on =
      on_session (session_at birth b.records) (λ s. always (pump_deeds l b s)) b
      (λ s there. says.pumps n l s b h is (own birth s b there) (on ∙ ap (λ (k : ℕ). Some (Some k)) (sym (found_key birth_of birth s b.records.sessions there))))

  -- ---- calls, each on the state in which it comes, and openings

  -- who is connected on the line that a number finds
  on_found : (n : ℕ) (l : Line) (b : Broker) → line_at n b ≡ Some l → session_on l.number b ≡ Some l.session
  on_found n l b there = ap (λ (k : ℕ). session_on k b) (found_number n l b.lines there) ∙ ap (option_map (λ (x : Line). x.session)) there

  -- it is said of a call
  pub call_traced : (asked : Call) → call ≡ Some asked → (b : Broker) → Orders b → Trace (deeds_of env asked b) b
  call_traced NewLine is b h = silent_deeds (cond (can_link env.limits b) (Link (suc b.given) ∷ []) []) b (silent_cond call env (can_link env.limits b) (Link (suc b.given) ∷ []) [] (tt, tt) tt)
  call_traced (Input n packet) is b h =
      on_a_line (line_at n b) (λ l. series (always (On n Hear ∷ []) ∷ on_packet env l packet l.session ∷ [])) b (λ l there.
      let c = after (On n Hear) b in
      let same = found_number n l b.lines there in
      let on : session_on l.number c ≡ Some l.session = (leaves (On n Hear ∷ []) b (tt, tt)).lines l.number ∙ on_found n l b there in
      let read : call ≡ Some (Input l.number packet) = is ∙ ap (λ (k : ℕ). Some (Input k packet)) (sym same) in
      next (On n Hear ∷ []) (on_packet env l packet l.session c ++ []) b (silent_deeds (On n Hear ∷ []) b (tt, tt))
      (next (on_packet env l packet l.session c) [] c (reading l packet l.session c (ordered_all (On n Hear ∷ []) b h) read on) (nothing (after_all (on_packet env l packet l.session c) c))))
  call_traced (BadInput n is_connect code) is b h = on_a_line (line_at n b) (λ l. on_fault env l is_connect code l.session) b (λ l there. at_fault l is_connect code l.session b h)
  call_traced (Lost n) is b h = on_a_line (line_at n b) (close env true) b (λ l there. closing true l b h)
  call_traced (Pump n) is b h = on_a_line (line_at n b) (λ l. on_pump l l.session) b (λ l there. pumping n l l.session b h is (on_found n l b there))
  call_traced Tick is b h = ticking (due env b) b (due_traced b h)

  shutting : (s : Session) → TracedAct (shuts s)
  shutting s b h = silent_deeds (At (whose s) (Close b.now) ∷ []) b (tt, tt)

  -- and of an opening
  pub opening_traced : TracedAct (opening env)
  opening_traced b h =
      let ss = connected_in b.records in
      acts (shuts_all ss ∷ settles_all env ss ∷ []) (acts (map shuts ss) (each_act shuts shutting ss), (acts (map (settles env) ss) (each_act (settles env) (λ (s : Session). settling s.birth) ss), tt)) b h
