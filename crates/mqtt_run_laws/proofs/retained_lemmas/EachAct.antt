-- What is said of publications and of retained messages that expire, and of nothing else that an act does to the table of retained
-- messages: so it is said of each act.
use Rattle.mqtt_base.specs.Codes.{protocol_error, quota_exceeded, receive_maximum_exceeded, session_taken_over}
use Rattle.mqtt_flow.specs.declared.inbound.inflow.Published.TheVariants.{Again, New, Over}
use Rattle.mqtt_flow.specs.declared.inbound.inflow.Published.{Published}
use Rattle.mqtt_flow.specs.outbound.Outbound.{Answer, resumed_with}
use Rattle.mqtt_packet.specs.declared.codec.publish.Publish.{Publish as Publication}
use Rattle.mqtt_packet.specs.declared.connect.connect.Connect.{Connect as Greeting}
use Rattle.mqtt_props.specs.declared.table.PropName.TheVariants.{TopicAlias}
use Rattle.mqtt_records.specs.declared.messages.message.RetainedMessage.{RetainedMessage}
use Rattle.mqtt_records.specs.declared.messages.message.Will.{Will}
use Rattle.mqtt_records.specs.declared.state.records.Records.{Records}
use Rattle.mqtt_records.specs.declared.state.session.Session.{Session}
use Rattle.mqtt_records.specs.messages.PassedOn.{number_at}
use Rattle.mqtt_rules.proofs.step_lemmas.fit.StandLaw.{Orders, ordered_all}
use Rattle.mqtt_rules.specs.step.Closing.{close, close_connected, close_session, drop_line, end_session, has_due_end, has_due_will, publish_or_refuse, publish_will, settle, will_deeds, will_message}
use Rattle.mqtt_rules.specs.step.Connect.{begin_named, clear, connect_by, joins, of_client, prepare, refused, resume, take_over}
use Rattle.mqtt_rules.specs.step.Deeds.{Act, At, Close, Deed, DropWill, Forget, FromClient, FromWill, Gone, Message, Origin, RefuseWill, Send, Whose, after_all, always, of_session, only_if, series, whose, with_line, with_session}
use Rattle.mqtt_rules.specs.step.Inbound.{Meaning, Means, Wrong, answer, code_accepted, code_again, leave_by, message_of, new_expiry, on_answer, opens, publish_by, publish_meant, publish_new, sets_alias, standing}
use Rattle.mqtt_rules.specs.step.Laws.{IsAmong}
use Rattle.mqtt_rules.specs.step.Outbound.{turn_deeds}
use Rattle.mqtt_rules.specs.step.Packets.{disconnect}
use Rattle.mqtt_rules.specs.step.Routing.{CopyTo, accepted_copies, is_wanted, publish}
use Rattle.mqtt_rules.specs.step.State.{Broker, Env, Line, line_of, queue_on, session_at, session_named}
use Rattle.mqtt_rules.specs.step.Tick.{is_stale}
use Rattle.mqtt_topic.specs.names.Names.{is_empty}
use Rattle.std.proofs.Common.{[], Bool, List, None, Option, Some, cond, false, length, map, not, refl, true, ℕ, ◌++◌, ◌∷◌, ◌≡◌}
use Rattle.std.specs.List.{AllByRecursion}
use Rattle.std.specs.Prelude.{Err, Ok, nat_lt}
use Rattle.mqtt_run_laws.proofs.retained_lemmas.Quiet.{AreQuiet, quiet_turn, quiet_turns, quiet_end, quiet_refused, quiet_begin, quiet_answer, quiet_opens, quiet_alias, quiet_expiry}

-- what is said of deeds on tables in order: of those that are quiet, of some and then others, of a publication that is accepted, and of
-- a retained message that has expired
pub record Says (env : Env) (R : List Deed → Broker → Type 0) : Type 0 where
  -- deeds that are quiet
  pub quiet : (ds : List Deed) (b : Broker) → AreQuiet ds → R ds b
  pub next : (xs ys : List Deed) (b : Broker) → R xs b → R ys (after_all xs b) → R (xs ++ ys) b
  pub publish : (origin : Origin) (m : Message) (ds : List CopyTo) (b : Broker) → Orders b → accepted_copies env m b ≡ Some ds → R (publish env origin m ds b) b
  pub stale : (k : RetainedMessage) (b : Broker) → Orders b → IsAmong k b.records.retained → is_stale b.now k ≡ true → R (Forget k.place ∷ []) b

module _ (env : Env) (R : List Deed → Broker → Type 0) (says : Says env R) where
  -- nothing is done
  pub nothing : (b : Broker) → R [] b
  nothing b = says.quiet [] b tt

  -- of an act
  abbrev pub SaysAct : Act → Type 0
  SaysAct act = (b : Broker) → Orders b → R (act b) b

  -- deeds that leave what is retained as it is do what is said
  pub quiet : (ds : List Deed) → AreQuiet ds → SaysAct (always ds)
  quiet ds q b h = says.quiet ds b q

  -- the same of such deeds in one state
  pub quietly : (ds : List Deed) (b : Broker) → AreQuiet ds → R ds b
  quietly ds b q = says.quiet ds b q

  -- acts one after the other
  pub acts : (fs : List Act) → AllByRecursion SaysAct fs → SaysAct (series fs)
  acts [] q b h = nothing b
  acts (f ∷ fs) q b h = says.next (f b) (series fs (after_all (f b) b)) b (q.0 b h) (acts fs q.1 (after_all (f b) b) (ordered_all (f b) b h))

  -- an act for each
  pub each_act : {X : Type 0} (f : X → Act) → ((x : X) → SaysAct (f x)) → (xs : List X) → AllByRecursion SaysAct (map f xs)
  each_act f h [] = tt
  each_act f h (x ∷ xs) = (h x, each_act f h xs)

  if_so : (t : Bool) (act : Act) → SaysAct act → SaysAct (only_if t act)
  if_so true act q b h = q b h
  if_so false act q b h = nothing b

  on_session : (o : Option Session) (f : Session → Act) → ((s : Session) → SaysAct (f s)) → SaysAct (with_session o f)
  on_session None f q b h = nothing b
  on_session (Some s) f q b h = q s b h

  -- an act on a session
  pub on_birth : (birth : ℕ) (f : Session → Act) → ((s : Session) → SaysAct (f s)) → SaysAct (of_session birth f)
  on_birth birth f q b h = on_session (session_at birth b.records) f q b h

  on_client : (client : List ℕ) (f : Session → Act) → ((s : Session) → SaysAct (f s)) → SaysAct (of_client client f)
  on_client client f q b h = on_session (session_named client b.records) f q b h

  -- an act on a line
  pub on_a_line : (o : Option Line) (f : Line → Act) → ((l : Line) → SaysAct (f l)) → SaysAct (with_line o f)
  on_a_line None f q b h = nothing b
  on_a_line (Some l) f q b h = q l b h

  -- ---- Wills, ends, settling and closing

  will_or_refusal : (who : Whose) (m : Message) (o : Option (List CopyTo)) (b : Broker) → Orders b → accepted_copies env m b ≡ o
      → R (publish_or_refuse env who m o b) b
  will_or_refusal who m None b h e = quietly (RefuseWill who ∷ []) b (tt, tt)
  will_or_refusal who m (Some ds) b h e = says.publish FromWill m ds b h e

  of_will : (who : Whose) (o : Option Will) → SaysAct (will_deeds env who o)
  of_will who None b h = nothing b
  of_will who (Some w) b h =
      let m = will_message who.client w in
      let first = publish_or_refuse env who m (accepted_copies env m b) b in
      says.next first (series (always (At who DropWill ∷ []) ∷ []) (after_all first b)) b (will_or_refusal who m (accepted_copies env m b) b h refl)
      (acts (always (At who DropWill ∷ []) ∷ []) (quiet (At who DropWill ∷ []) (tt, tt), tt) (after_all first b) (ordered_all first b h))

  -- a Will
  pub its_will : (s : Session) → SaysAct (publish_will env s)
  its_will s b h = of_will (whose s) s.will b h

  -- the end of a session
  pub ending : (s : Session) → SaysAct (always (end_session s))
  ending s = quiet (end_session s) (quiet_end s)

  -- what is due of a session
  pub settling : (birth : ℕ) → SaysAct (settle env birth)
  settling birth b h =
      let wills : Session → Act = (λ s. only_if (has_due_will b.now s) (publish_will env s)) in
      let ends : Session → Act = (λ s. only_if (has_due_end b.now s) (always (end_session s))) in
      acts (of_session birth wills ∷ of_session birth ends ∷ []) (
        on_birth birth wills (λ s. if_so (has_due_will b.now s) (publish_will env s) (its_will s)),
        (on_birth birth ends (λ s. if_so (has_due_end b.now s) (always (end_session s)) (ending s)), tt),
      ) b h

  closing_a_session : (keeps_will : Bool) (s : Session) → SaysAct (close_session env keeps_will s)
  closing_a_session keeps_will s b h =
      acts (only_if (not keeps_will) (always (At (whose s) DropWill ∷ [])) ∷ always (At (whose s) (Close b.now) ∷ []) ∷ settle env s.birth ∷ []) (
        if_so (not keeps_will) (always (At (whose s) DropWill ∷ [])) (quiet (At (whose s) DropWill ∷ []) (tt, tt)),
        (quiet (At (whose s) (Close b.now) ∷ []) (tt, tt), (settling s.birth, tt)),
      ) b h

  closing_connected : (keeps_will : Bool) (o : Option ℕ) → SaysAct (close_connected env keeps_will o)
  closing_connected keeps_will None b h = nothing b
  closing_connected keeps_will (Some birth) b h = on_birth birth (close_session env keeps_will) (closing_a_session keeps_will) b h

  -- a line that closes
  pub closing : (keeps_will : Bool) (l : Line) → SaysAct (close env keeps_will l)
  closing keeps_will l b h =
      acts (always (Gone l.number ∷ []) ∷ close_connected env keeps_will l.session ∷ [])
      (quiet (Gone l.number ∷ []) (tt, tt), (closing_connected keeps_will l.session, tt)) b h

  -- one that is dropped
  pub dropping : (code : ℕ) (l : Line) → SaysAct (drop_line env code l)
  dropping code l b h =
      acts (always (Send l.number (disconnect code) ∷ []) ∷ close env true l ∷ [])
      (quiet (Send l.number (disconnect code) ∷ []) (tt, tt), (closing true l, tt)) b h

  -- ---- CONNECT

  taking_over : (s : Session) → SaysAct (take_over env s)
  taking_over s b h = on_a_line (line_of s.birth b) (drop_line env session_taken_over) (dropping session_taken_over) b h

  clearing : (s : Session) → SaysAct (clear env s)
  clearing s b h =
      acts (publish_will env s ∷ of_client s.client (λ t. always (end_session t)) ∷ [])
      (its_will s, (on_client s.client (λ t. always (end_session t)) ending, tt)) b h

  preparing : (c : Greeting) → SaysAct (prepare env c)
  preparing c b h =
      acts (of_client c.client_identifier (take_over env) ∷ of_client c.client_identifier (λ s. settle env s.birth)
      ∷ only_if c.clean_start (of_client c.client_identifier (clear env)) ∷ []) (
        on_client c.client_identifier (take_over env) taking_over,
        (
          on_client c.client_identifier (λ s. settle env s.birth) (λ s. settling s.birth),
          (if_so c.clean_start (of_client c.client_identifier (clear env)) (on_client c.client_identifier (clear env) clearing), tt),
        ),
      ) b h

  says_cond : (t : Bool) (xs ys : List Deed) (b : Broker) → R xs b → R ys b → R (cond t xs ys) b
  says_cond true xs ys b p q = p
  says_cond false xs ys b p q = q

  joining : (l : Line) (c : Greeting) (now : ℕ) (ds : List Deed) (r : Records) (o : Option Session) (b : Broker) → R ds b → R (joins env l c now ds r o) b
  joining l c now ds r (Some s) b q =
      says.next ds (resume l c now s) b q
      (quietly (resume l c now s) (after_all ds b) (tt, (tt, (tt, quiet_turns now l.number s (resumed_with (queue_on [] s))))))
  joining l c now ds r None b q =
      says_cond (nat_lt (length r.sessions) env.limits.sessions) (ds ++ begin_named (is_empty c.client_identifier) l c r) (refused l c quota_exceeded) b
      (says.next ds (begin_named (is_empty c.client_identifier) l c r) b q
      (quietly (begin_named (is_empty c.client_identifier) l c r) (after_all ds b) (quiet_begin (is_empty c.client_identifier) l c r)))
      (quietly (refused l c quota_exceeded) b (quiet_refused l c quota_exceeded))

  -- a CONNECT
  pub connecting : (o : Option ℕ) (l : Line) (c : Greeting) → SaysAct (connect_by o env l c)
  connecting (Some code) l c b h = quietly (refused l c code) b (quiet_refused l c code)
  connecting None l c b h =
      let ds = prepare env c b in
      joining l c b.now ds (after_all ds b).records (session_named c.client_identifier (after_all ds b).records) b (preparing c b h)

  -- ---- PUBLISH

  publishing_new : (l : Line) (s : Session) (p : Publication) (m : Message) (o : Option (List CopyTo)) (b : Broker) → Orders b → accepted_copies env m b ≡ o
      → R (publish_new env l s p m o b) b
  publishing_new l s p m None b h e = quietly (answer l.number p.delivery quota_exceeded) b (quiet_answer l.number p.delivery quota_exceeded)
  publishing_new l s p m (Some ds) b h e =
      let first = publish env FromClient m ds b in
      let told = answer l.number p.delivery (code_accepted (is_wanted env m b.records)) in
      says.next first (series (always (opens s p.delivery) ∷ always told ∷ []) (after_all first b)) b (says.publish FromClient m ds b h e)
      (acts (always (opens s p.delivery) ∷ always told ∷ []) (
        quiet (opens s p.delivery) (quiet_opens s p.delivery),
        (quiet told (quiet_answer l.number p.delivery (code_accepted (is_wanted env m b.records))), tt),
      ) (after_all first b) (ordered_all first b h))

  publishing_by : (x : Published) (l : Line) (s : Session) (p : Publication) (m : Message) → SaysAct (publish_by x env l s p m)
  publishing_by Again l s p m b h = quietly (answer l.number p.delivery (code_again p.delivery)) b (quiet_answer l.number p.delivery (code_again p.delivery))
  publishing_by Over l s p m b h = dropping receive_maximum_exceeded l b h
  publishing_by New l s p m b h = publishing_new l s p m (accepted_copies env m b) b h refl

  -- a PUBLISH
  pub publishing : (x : Meaning) (l : Line) (s : Session) (p : Publication) → SaysAct (publish_meant x env l s p)
  publishing (Wrong code) l s p b h = dropping code l b h
  publishing (Means topic) l s p b h =
      let sets = sets_alias (is_empty p.topic) (number_at TopicAlias p.properties) l.number topic in
      acts (always sets ∷ publish_by (standing p.delivery s.inbound) env l s p (message_of s.client topic p) ∷ []) (
        quiet sets (quiet_alias (is_empty p.topic) (number_at TopicAlias p.properties) l.number topic),
        (publishing_by (standing p.delivery s.inbound) l s p (message_of s.client topic p), tt),
      ) b h

  -- ---- a receiver's answers, and DISCONNECT

  -- an answer of a receiver
  pub answering : (a : Answer) (l : Line) (s : Session) → SaysAct (on_answer a env l s)
  answering (Ok None) l s b h = nothing b
  answering (Ok (Some t)) l s b h = quietly (turn_deeds b.now l.number s t) b (quiet_turn b.now l.number s t)
  answering (Err fault) l s b h = dropping protocol_error l b h

  -- a DISCONNECT
  pub leaving : (t : Bool) (l : Line) (s : Session) (code : ℕ) (o : Option ℕ) → SaysAct (leave_by t env l s code o)
  leaving true l s code o b h = dropping protocol_error l b h
  leaving false l s code o b h = acts (always (new_expiry o s) ∷ close env _ l ∷ []) (quiet (new_expiry o s) (quiet_expiry o s), (closing _ l, tt)) b h
