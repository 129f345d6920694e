-- The one induction over all acts: what a law has to say of each unit of deeds, so that it holds of every call and opening.
use Rattle.std.proofs.Common.{◌≡◌, ℕ, Bool, true, false, cond, not, ◌&&◌, ◌||◌, List, [], ◌∷◌, ◌++◌, ◌⊎◌, length, filter, map, Option, Some, None, nat_eq, bytes_eq, refl, sym, ap, subst, ◌∙◌, inl, inr}
use Rattle.std.specs.Prelude.{⊤, suc, nat_lt, nat_le, flat_map, find, option_map, is_none, Ok, Err}
use Rattle.std.proofs.lemmas.Bool.{cases_Bool}
use Rattle.std.proofs.lemmas.Slice.Eq.{bytes_eq-Decides}
use Rattle.mqtt_props.specs.declared.table.PropName.TheVariants.{SessionExpiryInterval, SubscriptionIdentifier, TopicAlias}
use Rattle.mqtt_packet.specs.declared.connect.connect.Connect.{Connect as Greeting}
use Rattle.mqtt_packet.specs.declared.codec.publish.Delivery.{Delivery as Quality}
use Rattle.mqtt_packet.specs.declared.codec.publish.Delivery.TheVariants as delivery
use Rattle.mqtt_packet.specs.declared.codec.publish.Publish.{Publish as Publication}
use Rattle.mqtt_packet.specs.declared.subscribe.subscribe.Subscribe.{Subscribe as Asking}
use Rattle.mqtt_packet.specs.declared.subscribe.unsubscribe.Unsubscribe.{Unsubscribe as GivingUp}
use Rattle.mqtt_packet.specs.declared.codec.packet.Packet.{Packet}
use Rattle.mqtt_packet.specs.declared.codec.packet.Packet.TheVariants as packets
use Rattle.mqtt_packet.specs.subscribe.Subscriptions.{Subscription as Asked}
use Rattle.mqtt_topic.specs.names.Names.{is_empty}
use Rattle.mqtt_topic.specs.names.Filters.{is_filter}
use Rattle.mqtt_flow.specs.declared.outbound.entry.Turn.{Turn}
use Rattle.mqtt_flow.specs.declared.outbound.entry.Turn.TheVariants as turns
use Rattle.mqtt_flow.specs.declared.inbound.inflow.Published.{Published}
use Rattle.mqtt_flow.specs.declared.inbound.inflow.Published.TheVariants.{New, Again, Over}
use Rattle.mqtt_flow.specs.declared.inbound.inflow.ReleaseAnswer.{ReleaseAnswer}
use Rattle.mqtt_flow.specs.declared.inbound.inflow.ReleaseAnswer.TheVariants.{Known, Unknown}
use Rattle.mqtt_base.specs.Codes.{success, identifier_in_use, identifier_not_found, quota_exceeded, receive_maximum_exceeded, session_taken_over}
use Rattle.mqtt_base.specs.declared.limits.TheConstants.{SUBSCRIPTION_LIMIT}
use Rattle.mqtt_flow.specs.inbound.Identifiers.{is_among}
use Rattle.mqtt_flow.specs.inbound.Inbound.{answer_to, answer_to_release}
use Rattle.mqtt_flow.specs.outbound.Outbound.{Answer, due_from}
use Rattle.mqtt_flow.specs.outbound.Outbound as rules
use Rattle.mqtt_records.specs.declared.messages.message.RetainedMessage.{RetainedMessage}
use Rattle.mqtt_records.specs.declared.messages.message.Will.{Will}
use Rattle.mqtt_records.specs.declared.state.session.Session.{Session}
use Rattle.mqtt_records.specs.declared.state.records.Records.{Records}
use Rattle.mqtt_records.specs.state.Session.{birth_of}
use Rattle.mqtt_rules.specs.step.Fitting.{has_form}
use Rattle.mqtt_rules.specs.step.Packets.{puback, pubrec, pubcomp, pubrel, suback, unsuback, connack, disconnect, publish_of}
use Rattle.mqtt_records.specs.messages.PassedOn.{number_at}
use Rattle.mqtt_rules.specs.step.State.{Line, Broker, Env, session_at, session_named, line_at, line_of, is_connected, queue_on}
use Rattle.mqtt_rules.specs.step.Deeds.{Whose, whose, Message, Origin, FromClient, FromWill, Part, Resume, Close, SetExpiry, DropWill, Unsubscribe, Open, Release, Hear, Greet, SetAlias, Went, Deed, At, Forget, RefuseWill, Link, On, Send, Gone, after, after_all, Act, series, always, only_if, with_session, of_session, offer}
use Rattle.mqtt_rules.specs.step.Outbound.{turn_deeds, all_turn_deeds, room}
use Rattle.mqtt_rules.specs.step.Routing.{CopyTo, is_queued, publish, accepted_copies, is_wanted}
use Rattle.mqtt_rules.specs.step.Closing.{has_due_will, has_due_end, will_message, publish_or_refuse, will_deeds, publish_will, end_session, settle, close_session, close_connected, close, drop_line}
use Rattle.mqtt_rules.specs.step.Connect.{largest_of, refusal, refused, of_client, take_over, clear, prepare, expiry_of, will_of, greet, connack_properties, resume, begin_named, joins, joins_after, connect_by, on_connect}
use Rattle.mqtt_rules.specs.step.Inbound.{Meaning, Means, Wrong, meaning, sets_alias, standing, answer, opens, code_again, code_accepted, publish_new, publish_by, message_of, publish_meant, release_by, on_answer, pump_deeds, is_late_expiry, leave_by}
use Rattle.mqtt_rules.specs.step.Subscribe as sub
use Rattle.mqtt_rules.specs.step.Tick.{is_silent, silence, has_lapsed, lapse_deeds, is_stale, first_due, due, on_tick}
use Rattle.mqtt_rules.specs.step.Step.{Call, NewLine, Input, BadInput, Lost, Pump, Tick, first_packet, next_packet, on_packet, on_fault, late_code, on_pump, can_link, deeds_of, connected_in, shuts, settles, shuts_all, settles_all, opening}
use Rattle.mqtt_rules.proofs.step_lemmas.acts.Offers.{of_offer, of_offer_if}
use Rattle.mqtt_rules.proofs.step_lemmas.acts.OnLines.{IsOn, found_number, found_on, stays_on}
use Rattle.mqtt_rules.proofs.step_lemmas.flight.FlightRows.{found_key}
use Rattle.mqtt_rules.proofs.step_lemmas.numbers.Counters.{now_stays}
use Rattle.mqtt_rules.specs.step.Laws.{IsAmong}
use Rattle.mqtt_base.specs.declared.session.SubscriptionOptions.{SubscriptionOptions}
use Rattle.mqtt_packet.specs.subscribe.Options.{options_of}
use Rattle.mqtt_rules.proofs.step_lemmas.acts.Leads.{found_among, found_passes, row_among, Leads, Leading, AllLeading, leads_append, leads_series, leads_two, leads_flat, leads_map, leads_cond, leads_of_session, leads_of_client, leads_with_line}

-- ---- whom a step concerns

-- the lines, by themselves and by their numbers, the births of the sessions, the client identifiers that CONNECT names,
-- the packets that come in, and the messages that are published: a law may leave out those of others
pub record About : Type 1 where
  pub line : Line → Type 0
  pub number : ℕ → Type 0
  pub session : ℕ → Type 0
  pub client : List ℕ → Broker → Type 0
  pub packet : Packet → Type 0
  pub message : Message → Type 0

-- all of them
abbrev pub anyone : About
anyone = record {
  line = λ l. ⊤;
  number = λ n. ⊤;
  session = λ birth. ⊤;
  client = λ client b. ⊤;
  packet = λ packet. ⊤;
  message = λ m. ⊤;
}

-- CONNECT isn't refused, by what was stored at some moment
abbrev pub IsAdmitted : Greeting → Type 0
IsAdmitted c = (r : Records) × (refusal c r ≡ None)

-- an answer to a receiver's packet
abbrev pub IsAnswer : Answer → Line → Session → Type 0
IsAnswer a l s =
    ((id : ℕ) × (code : ℕ) × (a ≡ rules.puback id code (queue_on l.went s)))
    ⊎ ((id : ℕ) × (code : ℕ) × (a ≡ rules.pubrec id code (queue_on l.went s)))
    ⊎ ((id : ℕ) × (a ≡ rules.pubcomp id (queue_on l.went s)))

-- the parts that stand alone in a session's act
abbrev pub is_alone : Part → Bool
is_alone DropWill = true
is_alone (SetExpiry expiry) = true
is_alone (Unsubscribe filter) = true
is_alone (Release id) = true
is_alone part = false

-- a line closes, and its session with it, which keeps its Will or not
abbrev pub closing_session : Bool → ℕ → Option Session → List Deed
closing_session keeps_will now None = []
closing_session true now (Some s) = At (whose s) (Close now) ∷ []
closing_session false now (Some s) = At (whose s) DropWill ∷ At (whose s) (Close now) ∷ []

abbrev pub closing_on : Bool → ℕ → Option ℕ → Records → List Deed
closing_on keeps_will now None r = []
closing_on keeps_will now (Some birth) r = closing_session keeps_will now (session_at birth r)

abbrev pub closing : Bool → Line → Broker → List Deed
closing keeps_will l b = Gone l.number ∷ closing_on keeps_will b.now l.session b.records

-- the copies that the retained messages for a wish make
abbrev pub brought_to : sub.Wish → Session → Broker → List CopyTo
brought_to w s b = sub.brought b.now (sub.next_number b.records) s w b.records.retained

-- a filter is granted: it is valid, and there is room for it and for its copies
pub record IsGranted (env : Env) (w : sub.Wish) (s : Session) (b : Broker) : Type 0 where
  pub session : session_at s.birth b.records ≡ Some s
  pub valid : is_filter w.filter ≡ true
  pub fits : (sub.has_filter w.filter s || nat_lt (length s.subscriptions) SUBSCRIPTION_LIMIT) ≡ true
  pub has_room : nat_le (length (filter is_queued (brought_to w s b))) (room env s) ≡ true

-- ---- how far a CONNECT has come

-- its client's old line is closed
abbrev pub taken_over : Env → List ℕ → Broker → Broker
taken_over env client b = after_all (of_client client (take_over env) b) b

-- and what is due of its session is done
abbrev pub settled : Env → List ℕ → Broker → Broker
settled env client b = let x = taken_over env client b in after_all (of_client client (λ s. settle env s.birth) x) x

-- and its session's Will is published: what the session then has to end for is Clean Start
pub record IsCleared (env : Env) (Keep : Broker → Type 0) (s : Session) (b : Broker) : Type 0 where
  pub client : List ℕ
  pub before : Broker
  pub kept : Keep before
  pub other : Session
  pub found : session_named client (settled env client before).records ≡ Some other
  pub its : other.client ≡ client
  pub is : b ≡ after_all (publish_will env other (settled env client before)) (settled env client before)
  pub named : session_named other.client b.records ≡ Some s

-- a session ends if its end is due, or by Clean Start
abbrev pub MayEnd : Env → (Broker → Type 0) → Session → Broker → Type 0
MayEnd env Keep s b = (has_due_end b.now s ≡ true) ⊎ IsCleared env Keep s b

-- all that comes before a new connection on the line is done
pub record IsPrepared (env : Env) (Keep : Broker → Type 0) (l : Line) (c : Greeting) (b : Broker) : Type 0 where
  pub before : Broker
  pub kept : Keep before
  pub on : IsOn l.number l.session before.lines
  pub is : b ≡ after_all (prepare env c before) before

-- the topic of a message among them
abbrev pub IsSaid : About → List ℕ → Type 0
IsSaid about topic = (m : Message) × about.message m × (m.topic ≡ topic)

-- a wish of a SUBSCRIBE among the packets, with its Subscription Identifier
abbrev pub IsAsked : About → sub.Wish → Type 0
IsAsked about w = (p : Asking) × about.packet (packets.Subscribe p) × (w.identifier ≡ number_at SubscriptionIdentifier p.properties)

-- ---- what a law has to say: look-ups stay among those concerned, and each unit of deeds is good and keeps what is kept

-- what look-ups find of those whom the law is about is about them too
pub record Finds (about : About) (Keep : Broker → Type 0) : Type 0 where
  pub its_number : (l : Line) → about.line l → about.number l.number
  pub its_session : (l : Line) (birth : ℕ) → about.line l → l.session ≡ Some birth → about.session birth
  pub its_line : (birth : ℕ) (l : Line) (b : Broker) → Keep b → about.session birth → line_of birth b ≡ Some l → about.line l
  pub named : (client : List ℕ) (s : Session) (b : Broker) → Keep b → about.client client b → session_named client b.records ≡ Some s → about.session s.birth
  pub admitted : (c : Greeting) (b : Broker) → Keep b → about.packet (packets.Connect c) → refusal c b.records ≡ None → about.client c.client_identifier b
  pub sent : (l : Line) (s : Session) (p : Publication) (topic : List ℕ) (b : Broker) → Keep b → about.line l → about.packet (packets.Publish p) → meaning p l.aliases ≡ Means topic
      → about.message (message_of s.client topic p)
  pub willed : (s : Session) (w : Will) (b : Broker) → Keep b → IsAmong s b.records.sessions → s.will ≡ Some w → about.message (will_message s.client w)

-- what a law says of each unit of deeds that comes as one: all are good, and what is kept holds again behind them
pub record Law (env : Env) (about : About) (Keep : Broker → Type 0) (Good : Deed → Broker → Type 0) : Type 0 where
  pub finds : Finds about Keep
  pub client_stays : (client : List ℕ) (ds : List Deed) (b : Broker) → Keep b → Leads Keep Good ds b → about.client client b → about.client client (after_all ds b)
  -- publications
  pub publishes : (origin : Origin) (m : Message) (ds : List CopyTo) (b : Broker) → Keep b → about.message m → accepted_copies env m b ≡ Some ds → Leads Keep Good (publish env origin m ds b) b
  pub open_id : (s : Session) (id : ℕ) (m : Message) (ds : List CopyTo) (b : Broker)
      → Keep b → Keep (after_all (publish env FromClient m ds b) b) → about.session s.birth
      → session_at s.birth b.records ≡ Some s → answer_to id s.inbound ≡ New → accepted_copies env m b ≡ Some ds
      → Leads Keep Good (At (whose s) (Open id) ∷ []) (after_all (publish env FromClient m ds b) b)
  pub refuse_will : (who : Whose) (b : Broker) → Keep b → about.session who.birth → Leads Keep Good (RefuseWill who ∷ []) b
  -- sessions
  pub alone : (who : Whose) (part : Part) (b : Broker) → Keep b → about.session who.birth → is_alone part ≡ true → Leads Keep Good (At who part ∷ []) b
  pub closes : (keeps_will : Bool) (l : Line) (b : Broker) → Keep b → about.line l → IsOn l.number l.session b.lines → Leads Keep Good (closing keeps_will l b) b
  pub ends : (s : Session) (b : Broker) → Keep b → about.session s.birth → IsAmong s b.records.sessions → MayEnd env Keep s b → Leads Keep Good (end_session s) b
  pub resumes : (l : Line) (c : Greeting) (s : Session) (b : Broker)
      → Keep b → about.line l → l.session ≡ None → about.packet (packets.Connect c) → IsAdmitted c → about.session s.birth → session_named c.client_identifier b.records ≡ Some s → IsPrepared env Keep l c b
      → Leads Keep Good (At (whose s) (Resume (expiry_of c) (will_of c)) ∷ greet l c s.birth ∷ []) b
  pub begins : (l : Line) (c : Greeting) (b : Broker)
      → Keep b → about.line l → l.session ≡ None → about.packet (packets.Connect c) → IsAdmitted c → about.client c.client_identifier b
      → session_named c.client_identifier b.records ≡ None → nat_lt (length b.records.sessions) env.limits.sessions ≡ true → IsPrepared env Keep l c b
      → Leads Keep Good (begin_named (is_empty c.client_identifier) l c b.records) b
  pub grants : (w : sub.Wish) (s : Session) (b : Broker) → Keep b → about.session s.birth → IsAsked about w → IsGranted env w s b
      → Leads Keep Good (sub.granted_filter env (sub.next_number b.records) s w (brought_to w s b) b).deeds b
  -- queues
  pub pumps : (l : Line) (s : Session) (b : Broker) → Keep b → about.line l → l.session ≡ Some s.birth → session_at s.birth b.records ≡ Some s → Leads Keep Good (pump_deeds l b s) b
  pub turns : (a : Answer) (t : Turn) (l : Line) (s : Session) (b : Broker)
      → Keep b → about.line l → about.session s.birth → session_at s.birth b.records ≡ Some s → IsAnswer a l s → a ≡ Ok (Some t) → Leads Keep Good (turn_deeds b.now l.number s t) b
  pub lapses : (s : Session) (b : Broker) → Keep b → IsAmong s b.records.sessions → Leads Keep Good (lapse_deeds b.now s) b
  -- retained messages
  pub stale : (k : RetainedMessage) (b : Broker) → Keep b → IsAmong k b.records.retained → Leads Keep Good (Forget k.place ∷ []) b
  -- lines
  pub links : (b : Broker) → Keep b → can_link env.limits b ≡ true → Leads Keep Good (Link (suc b.given) ∷ []) b
  pub hears : (n : ℕ) (b : Broker) → Keep b → about.number n → Leads Keep Good (On n Hear ∷ []) b
  pub sets : (n alias : ℕ) (topic : List ℕ) (b : Broker) → Keep b → about.number n → IsSaid about topic → Leads Keep Good (On n (SetAlias alias topic) ∷ []) b
  pub sends : (n : ℕ) (packet : Packet) (b : Broker) → Keep b → about.number n → Leads Keep Good (Send n packet ∷ []) b

-- ---- calls that concern only those

-- what is due is among them
pub record IsDue (about : About) (b : Broker) : Type 0 where
  pub silent : (l : Line) → find (λ l. is_silent b.now l.session l) b.lines ≡ Some l → about.line l
  pub wills : (s : Session) → find (has_due_will b.now) b.records.sessions ≡ Some s → about.session s.birth
  pub ends : (s : Session) → find (has_due_end b.now) b.records.sessions ≡ Some s → about.session s.birth

-- the line with a number is among them
abbrev pub IsItsLine : About → ℕ → Broker → Type 0
IsItsLine about n b = (l : Line) → line_at n b ≡ Some l → about.line l

abbrev pub IsCallOf : About → Call → Broker → Type 0
IsCallOf about NewLine b = ⊤
IsCallOf about (Input n packet) b = IsItsLine about n b × about.packet packet
IsCallOf about (BadInput n is_connect code) b = IsItsLine about n b
IsCallOf about (Lost n) b = IsItsLine about n b
IsCallOf about (Pump n) b = IsItsLine about n b
IsCallOf about Tick b = IsDue about b

-- every call does what is asked of a call without conditions
pub call_of_anyone : (call : Call) (b : Broker) → IsCallOf anyone call b
call_of_anyone NewLine b = tt
call_of_anyone (Input n packet) b = ((λ l e. tt), tt)
call_of_anyone (BadInput n is_connect code) b = λ l e. tt
call_of_anyone (Lost n) b = λ l e. tt
call_of_anyone (Pump n) b = λ l e. tt
call_of_anyone Tick b = record { silent = λ l e. tt; wills = λ s e. tt; ends = λ s e. tt }

-- nothing is asked of what acts find
pub finds_anyone : (Keep : Broker → Type 0) → Finds anyone Keep
finds_anyone Keep = record {
  its_number = λ l its. tt;
  its_session = λ l birth its e. tt;
  its_line = λ birth l b k its e. tt;
  named = λ client s b k its e. tt;
  admitted = λ c b k came e. tt;
  sent = λ l s p topic b k its came e. tt;
  willed = λ s w b k among e. tt;
}

-- ---- act by act

module _ (env : Env) (about : About) (Keep : Broker → Type 0) (Good : Deed → Broker → Type 0) (law : Law env about Keep Good) where
  abbrev Led : List Deed → Broker → Type 0
  Led = Leads Keep Good

  abbrev Lead : Act → Type 0
  Lead = Leading Keep Good

  -- a session of those concerned
  of_its : (birth : ℕ) (f : Session → Act) (b : Broker) → Keep b → about.session birth
      → ((s : Session) → session_at birth b.records ≡ Some s → about.session s.birth → Led (f s b) b) → Led (of_session birth f b) b
  of_its birth f b k its h = leads_of_session Keep Good birth f b k (λ s e. h s e (subst about.session (sym (found_key birth_of birth s b.records.sessions e)) its))

  own_session : (birth : ℕ) (s : Session) (b : Broker) → session_at birth b.records ≡ Some s → session_at s.birth b.records ≡ Some s
  own_session birth s b e = ap (λ (n : ℕ). session_at n b.records) (found_key birth_of birth s b.records.sessions e) ∙ e

  of_named : (client : List ℕ) (f : Session → Act) (b : Broker) → Keep b → about.client client b
      → ((s : Session) → session_named client b.records ≡ Some s → about.session s.birth → Led (f s b) b) → Led (of_client client f b) b
  of_named client f b k its h = leads_of_client Keep Good client f b k (λ s e. h s e (law.finds.named client s b k its e))

  -- a packet that goes out leads
  pub leads_send : (n : ℕ) (packet : Packet) → about.number n → Lead (always (Send n packet ∷ []))
  leads_send n packet its b k = law.sends n packet b k its

  -- a packet that is offered to a line leads
  pub leads_offer : (n : ℕ) (packet : Packet) (b c : Broker) → Keep c → about.number n → Led (offer (line_at n b) packet) c
  leads_offer n packet b c k its =
      of_offer (λ (ds : List Deed). Led ds c) (line_at n b) packet (tt, k)
      (λ l there. law.sends l.number packet c k (subst about.number (sym (found_number n l b.lines there)) its))

  -- Wills, ends, settling and closing

  leads_publish_or_refuse : (who : Whose) (m : Message) (o : Option (List CopyTo)) (b : Broker) → Keep b → about.session who.birth → about.message m → accepted_copies env m b ≡ o → Led (publish_or_refuse env who m o b) b
  leads_publish_or_refuse who m None b k its said e = law.refuse_will who b k its
  leads_publish_or_refuse who m (Some ds) b k its said e = law.publishes FromWill m ds b k said e

  leads_will : (s : Session) (will : Option Will) (b : Broker) → Keep b → about.session s.birth → IsAmong s b.records.sessions → s.will ≡ will → Led (will_deeds env (whose s) will b) b
  leads_will s None b k its among e = (tt, k)
  leads_will s (Some w) b k its among e =
      let m = will_message s.client w in
      leads_two Keep Good (publish_or_refuse env (whose s) m (accepted_copies env m b)) (always (At (whose s) DropWill ∷ [])) b
      (leads_publish_or_refuse (whose s) m (accepted_copies env m b) b k its (law.finds.willed s w b k among e) refl)
      (λ h. law.alone (whose s) DropWill _ h its refl)

  -- a session's Will that is published leads
  pub leads_publish_will : (s : Session) (b : Broker) → Keep b → about.session s.birth → IsAmong s b.records.sessions → Led (publish_will env s b) b
  leads_publish_will s b k its among = leads_will s s.will b k its among refl

  if_here : (t : Bool) (act : Act) (b : Broker) → Keep b → (t ≡ true → Led (act b) b) → Led (only_if t act b) b
  if_here true act b k h = h refl
  if_here false act b k h = (tt, k)

  -- what is due of a session, its Will and then its end, leads
  pub leads_settle : (birth : ℕ) (b : Broker) → Keep b → about.session birth → Led (settle env birth b) b
  leads_settle birth b k its =
      leads_two Keep Good (of_session birth (λ s. only_if (has_due_will b.now s) (publish_will env s))) (of_session birth (λ s. only_if (has_due_end b.now s) (always (end_session s)))) b
      (of_its birth (λ s. only_if (has_due_will b.now s) (publish_will env s)) b k its
      (λ s e own. if_here (has_due_will b.now s) (publish_will env s) b k (λ t. leads_publish_will s b k own (row_among birth_of birth s b.records.sessions e))))
      (λ h. let c = after_all (of_session birth (λ s. only_if (has_due_will b.now s) (publish_will env s)) b) b in
      of_its birth (λ s. only_if (has_due_end b.now s) (always (end_session s))) c h its
      (λ s e own. if_here (has_due_end b.now s) (always (end_session s)) c h (λ t. law.ends s c h own (row_among birth_of birth s c.records.sessions e)
      (inl (subst (λ (now : ℕ). has_due_end now s ≡ true) (sym (now_stays (of_session birth (λ s. only_if (has_due_will b.now s) (publish_will env s)) b) b)) t)))))

  leads_settled : (birth : ℕ) (b : Broker) → Keep b → about.session birth → Led ((settle env birth b ++ []) ++ []) b
  leads_settled birth b k its =
      leads_append Keep Good (settle env birth b ++ []) [] b
      (leads_append Keep Good (settle env birth b) [] b (leads_settle birth b k its) (λ h. (tt, h))) (λ h. (tt, h))

  -- a line that closes, and its session with it, leads
  pub leads_closing : (keeps_will : Bool) (l : Line) (session : Option ℕ) (b : Broker) → about.line l → l.session ≡ session
      → Led (Gone l.number ∷ closing_on keeps_will b.now session b.records) b → Led (series (always (Gone l.number ∷ []) ∷ close_connected env keeps_will session ∷ []) b) b
  leads_closing keeps_will l None b its e h = h
  leads_closing keeps_will l (Some birth) b its e h = found keeps_will (session_at birth b.records) refl h
    where
      found : (keeps : Bool) (o : Option Session) → session_at birth b.records ≡ o
          → Led (Gone l.number ∷ closing_session keeps b.now o) b
          → Led (Gone l.number ∷ (with_session o (close_session env keeps) (after (Gone l.number) b) ++ [])) b
      found keeps None is h = h
      found true (Some s) is h =
          let own = subst about.session (sym (found_key birth_of birth s b.records.sessions is)) (law.finds.its_session l birth its e) in
          leads_append Keep Good (Gone l.number ∷ closing_session true b.now (Some s)) _ b h (λ k. leads_settled s.birth _ k own)
      found false (Some s) is h =
          let own = subst about.session (sym (found_key birth_of birth s b.records.sessions is)) (law.finds.its_session l birth its e) in
          leads_append Keep Good (Gone l.number ∷ closing_session false b.now (Some s)) _ b h (λ k. leads_settled s.birth _ k own)

  -- the closing of a line leads, with the Will of its session or without it
  pub leads_close : (keeps_will : Bool) (l : Line) (b : Broker) → Keep b → about.line l → IsOn l.number l.session b.lines → Led (close env keeps_will l b) b
  leads_close keeps_will l b k its on = leads_closing keeps_will l l.session b its refl (law.closes keeps_will l b k its on)

  -- a line that is dropped with a code leads
  pub leads_drop : (code : ℕ) (l : Line) (b : Broker) → Keep b → about.line l → IsOn l.number l.session b.lines → Led (drop_line env code l b) b
  leads_drop code l b k its on =
      leads_two Keep Good (always (Send l.number (disconnect code) ∷ [])) (close env true l) b
      (law.sends l.number (disconnect code) b k (law.finds.its_number l its))
      (λ h. leads_close true l (after (Send l.number (disconnect code)) b) h its on)

  -- CONNECT

  leads_gone : (l : Line) (b : Broker) → Keep b → about.line l → l.session ≡ None → IsOn l.number l.session b.lines → Led (Gone l.number ∷ []) b
  leads_gone l b k its none on = subst (λ (o : Option ℕ). Led (Gone l.number ∷ closing_on true b.now o b.records) b) none (law.closes true l b k its on)

  -- a CONNECT that is refused leads
  pub leads_refused : (l : Line) (c : Greeting) (code : ℕ) (b : Broker) → Keep b → about.line l → l.session ≡ None → IsOn l.number l.session b.lines → Led (refused l c code) b
  leads_refused l c code b k its none on = first (nat_lt (largest_of c) 5)
    where
      first : (t : Bool) → Led (cond t [] (Send l.number (connack false code []) ∷ []) ++ Gone l.number ∷ []) b
      first true = leads_gone l b k its none on
      first false =
          leads_append Keep Good (Send l.number (connack false code []) ∷ []) (Gone l.number ∷ []) b
          (law.sends l.number (connack false code []) b k (law.finds.its_number l its))
          (λ h. leads_gone l (after (Send l.number (connack false code [])) b) h its none on)

  -- the closing of a session's old line leads
  pub leads_take_over : (s : Session) (b : Broker) → Keep b → about.session s.birth → Led (take_over env s b) b
  leads_take_over s b k its =
      leads_with_line Keep Good (line_of s.birth b) (drop_line env session_taken_over) b k
      (λ l e. leads_drop session_taken_over l b k (law.finds.its_line s.birth l b k its e) (found_on l b.lines (found_among _ l b.lines e)))

  -- the end of a session that was settled, for a Clean Start, leads
  pub leads_clear : (client : List ℕ) (s : Session) (before : Broker) → Keep before → Keep (settled env client before) → about.client client (settled env client before)
      → session_named client (settled env client before).records ≡ Some s → Led (clear env s (settled env client before)) (settled env client before)
  leads_clear client s before kept k its e =
      let b = settled env client before in
      let is : s.client ≡ client = (bytes_eq-Decides s.client client).0 (found_passes (λ x. bytes_eq x.client client) s b.records.sessions e) in
      let name : about.client s.client b = subst (λ (text : List ℕ). about.client text b) (sym is) its in
      let first = leads_publish_will s b k (law.finds.named client s b k its e) (found_among _ s b.records.sessions e) in
      leads_two Keep Good (publish_will env s) (of_client s.client (λ t. always (end_session t))) b first
      (λ h. let c = after_all (publish_will env s b) b in
      of_named s.client (λ t. always (end_session t)) c h (law.client_stays s.client (publish_will env s b) b k first name)
      (λ t there own. law.ends t c h own (found_among _ t c.records.sessions there)
      (inr (record { client = client; before = before; kept = kept; other = s; found = e; its = is; is = refl; named = there }))))

  -- behind the takeover
  pub leads_behind : (c : Greeting) (b : Broker) → Keep b → Led (of_client c.client_identifier (take_over env) b) b → about.client c.client_identifier (taken_over env c.client_identifier b)
      → Led (prepare env c b) b
  leads_behind c b k one name_x =
      let name = c.client_identifier in
      let first = of_client name (take_over env) b in
      let x = taken_over env name b in
      let second = of_client name (λ s. settle env s.birth) x in
      let y = settled env name b in
      let third = only_if c.clean_start (of_client name (clear env)) in
      leads_append Keep Good first (series ((λ z. of_client name (λ s. settle env s.birth) z) ∷ third ∷ []) x) b one
      (λ h. let two : Led second x = of_named name (λ s. settle env s.birth) x h name_x (λ s e own. leads_settle s.birth x h own) in
      leads_append Keep Good second (series (third ∷ []) y) x two
      (λ g. let name_y = law.client_stays name second x h two name_x in
      leads_append Keep Good (third y) [] y
      (if_here c.clean_start (of_client name (clear env)) y g (λ t. of_named name (clear env) y g name_y (λ s e own. leads_clear name s b k g name_y e)))
      (λ f. (tt, f))))

  -- all that comes before a new connection leads
  pub leads_prepare : (c : Greeting) (b : Broker) → Keep b → about.client c.client_identifier b → Led (prepare env c b) b
  leads_prepare c b k its =
      let name = c.client_identifier in
      let one : Led (of_client name (take_over env) b) b = of_named name (take_over env) b k its (λ s e own. leads_take_over s b k own) in
      leads_behind c b k one (law.client_stays name (of_client name (take_over env) b) b k one its)

  leads_repeats : {X : Type 0} (now line : ℕ) (s : Session) (xs : List X) (id : X → ℕ) (b : Broker) → Keep b → about.number line → Led (all_turn_deeds now line s (map (λ x. turns.Repeat (id x)) xs)) b
  leads_repeats now line s [] id b k its = (tt, k)
  leads_repeats now line s (x ∷ xs) id b k its =
      let d = Send line (pubrel (id x) success) in
      leads_append Keep Good (d ∷ []) (all_turn_deeds now line s (map (λ y. turns.Repeat (id y)) xs)) b (law.sends line (pubrel (id x) success) b k its) (λ h. leads_repeats now line s xs id (after d b) h its)

  -- a session that is resumed leads
  pub leads_resume : (l : Line) (c : Greeting) (now : ℕ) (s : Session) (b : Broker)
      → Keep b → about.line l → l.session ≡ None → about.packet (packets.Connect c) → IsAdmitted c → about.session s.birth → session_named c.client_identifier b.records ≡ Some s → IsPrepared env Keep l c b
      → Led (resume l c now s) b
  leads_resume l c now s b k its none came taken own e prepared =
      let first : List Deed = At (whose s) (Resume (expiry_of c) (will_of c)) ∷ greet l c s.birth ∷ [] in
      let told : List Deed = Send l.number (connack true success (connack_properties false [])) ∷ [] in
      let number = law.finds.its_number l its in
      leads_append Keep Good first (told ++ all_turn_deeds now l.number s (rules.resumed_with (queue_on [] s))) b (law.resumes l c s b k its none came taken own e prepared)
      (λ h. leads_append Keep Good told (all_turn_deeds now l.number s (rules.resumed_with (queue_on [] s))) (after_all first b)
      (law.sends l.number (connack true success (connack_properties false [])) (after_all first b) h number)
      (λ g. leads_repeats now l.number s (due_from [] (queue_on [] s)) (λ d. d.identifier) (after_all (first ++ told) b) g number))

  -- after the preparation, on the state that it left
  pub leads_joins : (l : Line) (c : Greeting) (now : ℕ) (ds : List Deed) (b : Broker)
      → ds ≡ prepare env c b → Keep b → about.line l → l.session ≡ None → IsOn l.number l.session b.lines → about.packet (packets.Connect c) → IsAdmitted c → about.client c.client_identifier (after_all ds b) → Led ds b
      → Led (joins_after env l c now ds (after_all ds b).records) b
  leads_joins l c now ds b same k its none on came taken name led = found (session_named c.client_identifier r) refl
    where
      prepared : IsPrepared env Keep l c (after_all ds b)
      prepared = record { before = b; kept = k; on = on; is = ap (λ (xs : List Deed). after_all xs b) same }

      r : Records
      r = (after_all ds b).records

      found : (o : Option Session) → session_named c.client_identifier (after_all ds b).records ≡ o → Led (joins env l c now ds (after_all ds b).records o) b
      found (Some s) e = leads_append Keep Good ds (resume l c now s) b led (λ h. leads_resume l c now s (after_all ds b) h its none came taken (law.finds.named c.client_identifier s (after_all ds b) h name e) e prepared)
      found None e =
          leads_cond Keep Good (nat_lt (length (after_all ds b).records.sessions) env.limits.sessions) (ds ++ begin_named (is_empty c.client_identifier) l c (after_all ds b).records) (refused l c quota_exceeded) b
          (λ room. leads_append Keep Good ds (begin_named (is_empty c.client_identifier) l c (after_all ds b).records) b led
          (λ h. law.begins l c (after_all ds b) h its none came taken name e room prepared))
          (λ full. leads_refused l c quota_exceeded b k its none on)

  -- a CONNECT leads, whatever comes of it
  pub leads_connect : (l : Line) (c : Greeting) (b : Broker) → Keep b → about.line l → l.session ≡ None → IsOn l.number l.session b.lines → about.packet (packets.Connect c) → Led (on_connect env l c b) b
  leads_connect l c b k its none on came = by (refusal c b.records) refl
    where
      by : (o : Option ℕ) → refusal c b.records ≡ o → Led (connect_by o env l c b) b
      by (Some code) e = leads_refused l c code b k its none on
      by None e =
          let name = law.finds.admitted c b k came e in
          leads_joins l c b.now (prepare env c b) b refl k its none on came (b.records, e) (law.client_stays c.client_identifier (prepare env c b) b k (leads_prepare c b k name) name) (leads_prepare c b k name)

  -- PUBLISH

  -- the answer to a PUBLISH leads
  pub leads_answer : (line : ℕ) (q : Quality) (code : ℕ) (b : Broker) → Keep b → about.number line → Led (answer line q code) b
  leads_answer line delivery.AtMostOnce code b k its = (tt, k)
  leads_answer line (delivery.AtLeastOnce dup id) code b k its = law.sends line (puback id code) b k its
  leads_answer line (delivery.ExactlyOnce dup id) code b k its = law.sends line (pubrec id code) b k its

  leads_opens : (s : Session) (q : Quality) (m : Message) (ds : List CopyTo) (b : Broker)
      → Keep b → Keep (after_all (publish env FromClient m ds b) b) → about.session s.birth
      → session_at s.birth b.records ≡ Some s → standing q s.inbound ≡ New → accepted_copies env m b ≡ Some ds
      → Led (opens s q) (after_all (publish env FromClient m ds b) b)
  leads_opens s delivery.AtMostOnce m ds b k h own there new is = (tt, h)
  leads_opens s (delivery.AtLeastOnce dup id) m ds b k h own there new is = (tt, h)
  leads_opens s (delivery.ExactlyOnce dup id) m ds b k h own there new is = law.open_id s id m ds b k h own there new is

  leads_publish_new : (l : Line) (s : Session) (p : Publication) (m : Message) (o : Option (List CopyTo)) (b : Broker)
      → Keep b → about.line l → about.session s.birth → about.message m
      → session_at s.birth b.records ≡ Some s → standing p.delivery s.inbound ≡ New → accepted_copies env m b ≡ o
      → Led (publish_new env l s p m o b) b
  leads_publish_new l s p m None b k its own said there new is = leads_answer l.number p.delivery quota_exceeded b k (law.finds.its_number l its)
  leads_publish_new l s p m (Some ds) b k its own said there new is =
      let code = code_accepted (is_wanted env m b.records) in
      let first = publish env FromClient m ds b in
      let c = after_all first b in
      let d = after_all (opens s p.delivery) c in
      leads_append Keep Good first (opens s p.delivery ++ (answer l.number p.delivery code ++ [])) b (law.publishes FromClient m ds b k said is)
      (λ h. leads_append Keep Good (opens s p.delivery) (answer l.number p.delivery code ++ []) c (leads_opens s p.delivery m ds b k h own there new is)
      (λ g. leads_append Keep Good (answer l.number p.delivery code) [] d (leads_answer l.number p.delivery code d g (law.finds.its_number l its)) (λ f. (tt, f))))

  -- a PUBLISH leads, whatever its identifier is
  pub leads_publish_by : (x : Published) (l : Line) (s : Session) (p : Publication) (m : Message) (b : Broker)
      → Keep b → about.line l → IsOn l.number l.session b.lines → about.session s.birth → about.message m
      → session_at s.birth b.records ≡ Some s → standing p.delivery s.inbound ≡ x
      → Led (publish_by x env l s p m b) b
  leads_publish_by Again l s p m b k its on own said there is = leads_answer l.number p.delivery (code_again p.delivery) b k (law.finds.its_number l its)
  leads_publish_by Over l s p m b k its on own said there is = leads_drop receive_maximum_exceeded l b k its on
  leads_publish_by New l s p m b k its on own said there is = leads_publish_new l s p m (accepted_copies env m b) b k its own said there is refl

  -- an alias that is set leaves what is stored, and what the line is connected to
  set_alias : (t : Bool) (alias : Option ℕ) (l : Line) (topic : List ℕ) (b : Broker) → Keep b → about.line l → IsOn l.number l.session b.lines → IsSaid about topic
      → Led (sets_alias t alias l.number topic) b
      × ((after_all (sets_alias t alias l.number topic) b).records ≡ b.records)
      × IsOn l.number l.session (after_all (sets_alias t alias l.number topic) b).lines
  set_alias true alias l topic b k its on said = ((tt, k), refl, on)
  set_alias false None l topic b k its on said = ((tt, k), refl, on)
  set_alias false (Some n) l topic b k its on said =
      (law.sets l.number n topic b k (law.finds.its_number l its) said, refl, stays_on b.now l.number (SetAlias n topic) l.number l.session b.lines refl on)

  -- a PUBLISH leads, whatever topic it means, or none
  pub leads_publish_meant : (x : Meaning) (l : Line) (s : Session) (p : Publication) (b : Broker)
      → Keep b → about.line l → IsOn l.number l.session b.lines → about.session s.birth → about.packet (packets.Publish p)
      → session_at s.birth b.records ≡ Some s → meaning p l.aliases ≡ x
      → Led (publish_meant x env l s p b) b
  leads_publish_meant (Wrong code) l s p b k its on own came there is = leads_drop code l b k its on
  leads_publish_meant (Means topic) l s p b k its on own came there is =
      let t = is_empty p.topic in
      let alias = number_at TopicAlias p.properties in
      let x = standing p.delivery s.inbound in
      let m = message_of s.client topic p in
      let said = law.finds.sent l s p topic b k its came is in
      let first = sets_alias t alias l.number topic in
      let c = after_all first b in
      let done = set_alias t alias l topic b k its on (m, said, refl) in
      leads_two Keep Good (always first) (publish_by x env l s p m) b done.0
      (λ h. leads_publish_by x l s p m c h its done.2 own said (ap (session_at s.birth) done.1 ∙ there) refl)

  -- other packets

  leads_release : (x : ReleaseAnswer) (l : Line) (s : Session) (id : ℕ) (b : Broker) → Keep b → about.line l → about.session s.birth → Led (release_by x l s id) b
  leads_release Known l s id b k its own =
      let first = At (whose s) (Release id) in
      leads_append Keep Good (first ∷ []) (Send l.number (pubcomp id success) ∷ []) b (law.alone (whose s) (Release id) b k own refl)
      (λ h. law.sends l.number (pubcomp id success) (after first b) h (law.finds.its_number l its))
  leads_release Unknown l s id b k its own = law.sends l.number (pubcomp id identifier_not_found) b k (law.finds.its_number l its)

  leads_leave : (t : Bool) (l : Line) (s : Session) (code : ℕ) (expiry : Option ℕ) (b : Broker) → Keep b → about.line l → IsOn l.number l.session b.lines → about.session s.birth → Led (leave_by t env l s code expiry b) b
  leads_leave true l s code expiry b k its on own = leads_drop 0x82 l b k its on
  leads_leave false l s code None b k its on own =
      leads_two Keep Good (always []) (close env (not (nat_eq code 0)) l) b (tt, k) (λ h. leads_close (not (nat_eq code 0)) l b h its on)
  leads_leave false l s code (Some n) b k its on own =
      leads_two Keep Good (always (At (whose s) (SetExpiry n) ∷ [])) (close env (not (nat_eq code 0)) l) b (law.alone (whose s) (SetExpiry n) b k own refl)
      (λ h. leads_close (not (nat_eq code 0)) l (after (At (whose s) (SetExpiry n)) b) h its on)

  -- SUBSCRIBE and UNSUBSCRIBE

  both_true : (x y : Bool) → (x && y) ≡ true → (x ≡ true) × (y ≡ true)
  both_true true y h = (refl, h)
  both_true false y h = absurd cc

  wished : (filter : List ℕ) (identifier : Option ℕ) (o : Option SubscriptionOptions) (w : sub.Wish) → sub.wish_by filter identifier o ≡ Some w → w.identifier ≡ identifier
  wished filter identifier None w e = absurd cc
  wished filter identifier (Some options) w e =
      let same : record { filter = filter; options = options; identifier = identifier } ≡ w = cc in
      ap (λ (x : sub.Wish). x.identifier) (sym same)

  leads_granted : (w : sub.Wish) (s : Session) (b : Broker) → Keep b → about.session s.birth → IsAsked about w → session_at s.birth b.records ≡ Some s → Led (sub.filter_answer env w b s).deeds b
  leads_granted w s b k own asked there = by (is_filter w.filter) (both (sub.has_filter w.filter s || nat_lt (length s.subscriptions) SUBSCRIPTION_LIMIT) (nat_le (length (filter is_queued (brought_to w s b))) (room env s))) refl refl
    where
      both : Bool → Bool → Bool
      both x y = x && y

      fits : Bool
      fits = (sub.has_filter w.filter s || nat_lt (length s.subscriptions) SUBSCRIPTION_LIMIT) && nat_le (length (filter is_queued (brought_to w s b))) (room env s)

      by : (x y : Bool) → is_filter w.filter ≡ x → fits ≡ y → Led (sub.answer_by x y env (sub.next_number b.records) s w (brought_to w s b) b).deeds b
      by false y is fit = (tt, k)
      by true false is fit = (tt, k)
      by true true is fit =
          let parts = both_true (sub.has_filter w.filter s || nat_lt (length s.subscriptions) SUBSCRIPTION_LIMIT) (nat_le (length (filter is_queued (brought_to w s b))) (room env s)) fit in
          law.grants w s b k own asked (record { session = there; valid = is; fits = parts.0; has_room = parts.1 })

  leads_granted_to : (birth : ℕ) (w : Option sub.Wish) (b : Broker) (o : Option Session) → Keep b → about.session birth → ((x : sub.Wish) → w ≡ Some x → IsAsked about x) → session_at birth b.records ≡ o → Led (sub.filter_answer_of env w b o).deeds b
  leads_granted_to birth w b None k own asked is = (tt, k)
  leads_granted_to birth None b (Some s) k own asked is = (tt, k)
  leads_granted_to birth (Some w) b (Some s) k own asked is =
      leads_granted w s b k (subst about.session (sym (found_key birth_of birth s b.records.sessions is)) own) (asked w refl) (own_session birth s b is)

  leads_all_granted : (birth : ℕ) (identifier : Option ℕ) (asked : List Asked) (b : Broker) → Keep b → about.session birth
      → ((p : Asking) × about.packet (packets.Subscribe p) × (identifier ≡ number_at SubscriptionIdentifier p.properties)) → Led (sub.filter_answers env birth identifier asked b).deeds b
  leads_all_granted birth identifier [] b k own came = (tt, k)
  leads_all_granted birth identifier (a ∷ rest) b k own came =
      let g = sub.filter_answer_of env (sub.wish_of identifier a) b (session_at birth b.records) in
      leads_append Keep Good g.deeds (sub.filter_answers env birth identifier rest (after_all g.deeds b)).deeds b
      (leads_granted_to birth (sub.wish_of identifier a) b (session_at birth b.records) k own
      (λ w e. (came.0, came.1, wished a.filter identifier (options_of a.options) w e ∙ came.2)) refl)
      (λ h. leads_all_granted birth identifier rest (after_all g.deeds b) h own came)

  -- copies of retained messages that go out at once lead, one after the other
  leads_late : (line : ℕ) (ds : List CopyTo) (b : Broker) → Keep b → about.number line → Led (series (map (sub.late_send line) ds) b) b
  leads_late line ds b k its =
      leads_series Keep Good (map (sub.late_send line) ds) (leads_map Keep Good (sub.late_send line) (λ d c g.
      of_offer_if (λ (xs : List Deed). Led xs c) (has_form d.copy c) (line_at line c) (publish_of c.now false 0 d.copy) (tt, g)
      (λ l there. law.sends l.number (publish_of c.now false 0 d.copy) c g (subst about.number (sym (found_number line l c.lines there)) its))) ds) b k

  -- a SUBSCRIBE leads, whether its identifier is in use or not
  pub leads_subscribe : (t : Bool) (line : ℕ) (s : Session) (p : Asking) (b : Broker) → Keep b → about.number line → about.session s.birth → about.packet (packets.Subscribe p) → Led (sub.subscribe_by t env line s p b) b
  leads_subscribe true line s p b k its own came = leads_offer line (suback p.identifier (map (λ a. identifier_in_use) p.subscriptions)) b b k its
  leads_subscribe false line s p b k its own came =
      let a = sub.filter_answers env s.birth (number_at SubscriptionIdentifier p.properties) p.subscriptions b in
      let told = offer (line_at line b) (suback p.identifier a.codes) in
      leads_append Keep Good (a.deeds ++ told) (series (map (sub.late_send line) a.late) (after_all (a.deeds ++ told) b)) b
      (leads_append Keep Good a.deeds told b
      (leads_all_granted s.birth (number_at SubscriptionIdentifier p.properties) p.subscriptions b k own (p, came, refl))
      (λ h. leads_offer line (suback p.identifier a.codes) b (after_all a.deeds b) h its))
      (λ h. leads_late line a.late (after_all (a.deeds ++ told) b) h its)

  -- an UNSUBSCRIBE leads, whether its identifier is in use or not
  pub leads_unsubscribe : (t : Bool) (line : ℕ) (s : Session) (p : GivingUp) (b : Broker) → Keep b → about.number line → about.session s.birth → Led (sub.unsubscribe_by t line s p b) b
  leads_unsubscribe true line s p b k its own = leads_offer line (unsuback p.identifier (map (λ f. identifier_in_use) p.filters)) b b k its
  leads_unsubscribe false line s p b k its own =
      let first = flat_map (sub.unsubscribes s) (filter (λ f. sub.has_filter f s) p.filters) in
      leads_append Keep Good first (offer (line_at line b) (unsuback p.identifier (sub.drop_codes s [] p.filters))) b
      (leads_flat Keep Good (sub.unsubscribes s) (λ f c h. law.alone (whose s) (Unsubscribe f) c h own refl) (filter (λ f. sub.has_filter f s) p.filters) b k)
      (λ h. leads_offer line (unsuback p.identifier (sub.drop_codes s [] p.filters)) b (after_all first b) h its)

  -- a receiver's answers

  -- a receiver's answer leads, whatever the session makes of it
  pub leads_answered : (a : Answer) (l : Line) (s : Session) (b : Broker)
      → Keep b → about.line l → IsOn l.number l.session b.lines → about.session s.birth → session_at s.birth b.records ≡ Some s → IsAnswer a l s → Led (on_answer a env l s b) b
  leads_answered (Ok None) l s b k its on own there is = (tt, k)
  leads_answered (Ok (Some t)) l s b k its on own there is = law.turns (Ok (Some t)) t l s b k its own there is refl
  leads_answered (Err fault) l s b k its on own there is = leads_drop 0x82 l b k its on

  -- ---- packets

  leads_next : (l : Line) (packet : Packet) (s : Session) (b : Broker)
      → Keep b → about.line l → IsOn l.number l.session b.lines → about.packet packet → about.session s.birth → session_at s.birth b.records ≡ Some s
      → Led (next_packet env l packet s b) b
  leads_next l (packets.Publish p) s b k its on came own there = leads_publish_meant (meaning p l.aliases) l s p b k its on own came there refl
  leads_next l (packets.Puback a) s b k its on came own there = leads_answered (rules.puback a.identifier a.reason.0 (queue_on l.went s)) l s b k its on own there (inl (a.identifier, a.reason.0, refl))
  leads_next l (packets.Pubrec a) s b k its on came own there = leads_answered (rules.pubrec a.identifier a.reason.0 (queue_on l.went s)) l s b k its on own there (inr (inl (a.identifier, a.reason.0, refl)))
  leads_next l (packets.Pubrel a) s b k its on came own there = leads_release (answer_to_release a.identifier s.inbound) l s a.identifier b k its own
  leads_next l (packets.Pubcomp a) s b k its on came own there = leads_answered (rules.pubcomp a.identifier (queue_on l.went s)) l s b k its on own there (inr (inr (a.identifier, refl)))
  leads_next l (packets.Subscribe p) s b k its on came own there = leads_subscribe (is_among p.identifier s.inbound) l.number s p b k (law.finds.its_number l its) own came
  leads_next l (packets.Unsubscribe p) s b k its on came own there = leads_unsubscribe (is_among p.identifier s.inbound) l.number s p b k (law.finds.its_number l its) own
  leads_next l packets.Pingreq s b k its on came own there = law.sends l.number packets.Pingresp b k (law.finds.its_number l its)
  leads_next l (packets.Disconnect m) s b k its on came own there =
      let expiry = number_at SessionExpiryInterval m.properties in
      leads_leave (is_late_expiry expiry s.expiry) l s m.reason.0 expiry b k its on own
  leads_next l packet s b k its on came own there = leads_drop 0x82 l b k its on

  leads_first : (l : Line) (packet : Packet) (b : Broker) → Keep b → about.line l → l.session ≡ None → IsOn l.number l.session b.lines → about.packet packet → Led (first_packet env l packet b) b
  leads_first l (packets.Connect c) b k its none on came = leads_connect l c b k its none on came
  leads_first l packet b k its none on came = leads_close true l b k its on

  -- a packet leads, by the session that is on its line or none
  pub leads_packet : (l : Line) (packet : Packet) (session : Option ℕ) (b : Broker) → Keep b → about.line l → l.session ≡ session → IsOn l.number l.session b.lines → about.packet packet → Led (on_packet env l packet session b) b
  leads_packet l packet None b k its is on came = leads_first l packet b k its is on came
  leads_packet l packet (Some birth) b k its is on came =
      of_its birth (next_packet env l packet) b k (law.finds.its_session l birth its is) (λ s e own. leads_next l packet s b k its on came own (own_session birth s b e))

  leads_fault : (l : Line) (is_connect : Bool) (code : ℕ) (session : Option ℕ) (b : Broker) → Keep b → about.line l → IsOn l.number l.session b.lines → Led (on_fault env l is_connect code session b) b
  leads_fault l true code None b k its on =
      leads_two Keep Good (always (Send l.number (connack false code []) ∷ [])) (close env true l) b
      (law.sends l.number (connack false code []) b k (law.finds.its_number l its)) (λ h. leads_close true l (after (Send l.number (connack false code [])) b) h its on)
  leads_fault l false code None b k its on = leads_close true l b k its on
  leads_fault l true code (Some birth) b k its on = leads_drop (late_code code) l b k its on
  leads_fault l false code (Some birth) b k its on = leads_drop (late_code code) l b k its on

  -- a turn of sending leads
  pub leads_pump : (l : Line) (session : Option ℕ) (b : Broker) → Keep b → about.line l → l.session ≡ session → Led (on_pump l session b) b
  leads_pump l None b k its is = (tt, k)
  leads_pump l (Some birth) b k its is =
      of_its birth (λ s. always (pump_deeds l b s)) b k (law.finds.its_session l birth its is)
      (λ s e own. law.pumps l s b k its (is ∙ ap Some (sym (found_key birth_of birth s b.records.sessions e))) (own_session birth s b e))

  -- ---- tick

  abbrev LedOption : Option Act → Broker → Type 0
  LedOption None b = ⊤
  LedOption (Some act) b = Led (act b) b

  abbrev LedOptions : List (Option Act) → Broker → Type 0
  LedOptions [] b = ⊤
  LedOptions (o ∷ os) b = LedOption o b × LedOptions os b

  leads_first_due : (os : List (Option Act)) (b : Broker) → LedOptions os b → LedOption (first_due os) b
  leads_first_due [] b q = tt
  leads_first_due (Some act ∷ os) b q = q.0
  leads_first_due (None ∷ os) b q = leads_first_due os b q.1

  leads_some : {X : Type 0} (f : X → Act) (o : Option X) (b : Broker) → ((x : X) → o ≡ Some x → Led (f x b) b) → LedOption (option_map f o) b
  leads_some f None b h = tt
  leads_some f (Some x) b h = h x refl

  leads_on_tick : (o : Option Act) (b : Broker) → Keep b → LedOption o b → Led (on_tick o b) b
  leads_on_tick None b k q = (tt, k)
  leads_on_tick (Some act) b k q = q

  leads_silence : (session : Option ℕ) (l : Line) (b : Broker) → Keep b → about.line l → IsOn l.number l.session b.lines → Led (silence env session l b) b
  leads_silence None l b k its on = leads_close true l b k its on
  leads_silence (Some birth) l b k its on = leads_drop 0x8d l b k its on

  leads_due : (b : Broker) → Keep b → IsDue about b → LedOption (due env b) b
  leads_due b k its = leads_first_due (
      option_map (λ l. silence env l.session l) (find (λ l. is_silent b.now l.session l) b.lines)
      ∷ option_map (publish_will env) (find (has_due_will b.now) b.records.sessions)
      ∷ option_map (λ s. always (end_session s)) (find (has_due_end b.now) b.records.sessions)
      ∷ option_map (λ x. always (Forget x.place ∷ [])) (find (is_stale b.now) b.records.retained)
      ∷ option_map (λ s. always (lapse_deeds b.now s)) (find (has_lapsed b.now) b.records.sessions)
      ∷ []) b (
        leads_some (λ l. silence env l.session l) (find (λ l. is_silent b.now l.session l) b.lines) b
            (λ l e. leads_silence l.session l b k (its.silent l e) (found_on l b.lines (found_among _ l b.lines e))),
        (
          leads_some (publish_will env) (find (has_due_will b.now) b.records.sessions) b
              (λ s e. leads_publish_will s b k (its.wills s e) (found_among _ s b.records.sessions e)),
          (
            leads_some (λ s. always (end_session s)) (find (has_due_end b.now) b.records.sessions) b
                (λ s e. law.ends s b k (its.ends s e) (found_among _ s b.records.sessions e) (inl (found_passes (has_due_end b.now) s b.records.sessions e))),
            (
              leads_some (λ x. always (Forget x.place ∷ [])) (find (is_stale b.now) b.records.retained) b
                  (λ x e. law.stale x b k (found_among _ x b.records.retained e)),
              (
                leads_some (λ s. always (lapse_deeds b.now s)) (find (has_lapsed b.now) b.records.sessions) b
                    (λ s e. law.lapses s b k (found_among _ s b.records.sessions e)),
                tt,
              ),
            ),
          ),
        ),
      )

  -- ---- calls, and opening

  line_on : (n : ℕ) (l : Line) (b : Broker) → line_at n b ≡ Some l → IsOn l.number l.session b.lines
  line_on n l b e = found_on l b.lines (found_among _ l b.lines e)

  -- all deeds of a call lead
  pub leads_call : (call : Call) (b : Broker) → Keep b → IsCallOf about call b → Led (deeds_of env call b) b
  leads_call NewLine b k its = leads_cond Keep Good (can_link env.limits b) (Link (suc b.given) ∷ []) [] b (λ t. law.links b k t) (λ t. (tt, k))
  leads_call (Input n packet) b k its =
      leads_with_line Keep Good (line_at n b) (λ l. series (always (On n Hear ∷ []) ∷ on_packet env l packet l.session ∷ [])) b k
      (λ l e. let own = its.0 l e in
      let number = subst about.number (found_number n l b.lines e) (law.finds.its_number l own) in
      leads_two Keep Good (always (On n Hear ∷ [])) (on_packet env l packet l.session) b (law.hears n b k number)
      (λ h. leads_packet l packet l.session (after (On n Hear) b) h own refl (stays_on b.now n Hear l.number l.session b.lines refl (line_on n l b e)) its.1))
  leads_call (BadInput n is_connect code) b k its =
      leads_with_line Keep Good (line_at n b) (λ l. on_fault env l is_connect code l.session) b k (λ l e. leads_fault l is_connect code l.session b k (its l e) (line_on n l b e))
  leads_call (Lost n) b k its = leads_with_line Keep Good (line_at n b) (close env true) b k (λ l e. leads_close true l b k (its l e) (line_on n l b e))
  leads_call (Pump n) b k its = leads_with_line Keep Good (line_at n b) (λ l. on_pump l l.session) b k (λ l e. leads_pump l l.session b k (its l e) refl)
  leads_call Tick b k its = leads_on_tick (due env b) b k (leads_due b k its)

  -- a session that stood connected when the broker opens is closed
  abbrev pub Shuts : Type 0
  Shuts = (s : Session) (b : Broker) → Keep b → s.closed ≡ None → Led (At (whose s) (Close b.now) ∷ []) b

  leads_shuts : Shuts → (ss : List Session) → AllLeading Keep Good (map shuts (filter is_connected ss))
  leads_shuts closes [] = tt
  leads_shuts closes (s ∷ ss) = elim (cases_Bool (is_connected s)) [
    | inl on ↦ rw on (λ b k. closes s b k (none_is s.closed on), leads_shuts closes ss)
    | inr off ↦ rw off (leads_shuts closes ss)
  ]
    where
      none_is : (o : Option ℕ) → is_none o ≡ true → o ≡ None
      none_is None h = refl
      none_is (Some n) h = absurd cc

  -- all deeds of an opening lead, if closing each session that stood connected does
  pub leads_opening : Shuts → ((birth : ℕ) → about.session birth) → (b : Broker) → Keep b → Led (opening env b) b
  leads_opening closes all b k =
      let ss = connected_in b.records in
      leads_two Keep Good (shuts_all ss) (settles_all env ss) b
      (leads_series Keep Good (map shuts ss) (leads_shuts closes b.records.sessions) b k)
      (λ h. leads_series Keep Good (map (settles env) ss) (leads_map Keep Good (settles env) (λ s c h. leads_settle s.birth c h (all s.birth)) ss) (after_all (shuts_all ss b) b) h)
