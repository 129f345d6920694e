-- What is said of deeds that leave Wills alone, and of those that store, publish or take away one, is said of each call and each opening.
use Rattle.std.proofs.Common.{◌≡◌, ℕ, suc, Bool, true, false, not, ◌&&◌, List, [], ◌∷◌, ◌++◌, length, map, Option, Some, None, bytes_eq, nat_eq, refl, sym, ap, subst, ◌∙◌, ◌⊎◌, inl, inr}
use Rattle.std.specs.Prelude.{⊤, cond, Err, Ok, find, nat_lt, option_map}
use Rattle.std.specs.List.{AllByRecursion}
use Rattle.std.proofs.lemmas.Bool.{cases_Bool}
use Rattle.std.proofs.lemmas.Cmp.{nat_eq_equiv}
use Rattle.std.proofs.lemmas.Slice.Eq.{bytes_eq-Decides}
use Rattle.mqtt_base.specs.Codes.{keep_alive_timeout, normal_disconnection, protocol_error, quota_exceeded, receive_maximum_exceeded, session_taken_over, success}
use Rattle.mqtt_packet.specs.declared.codec.notice.Notice.{Notice as Disconnecting}
use Rattle.mqtt_packet.specs.declared.codec.packet.Packet.{Packet}
use Rattle.mqtt_packet.specs.declared.codec.packet.Packet.TheVariants as packets
use Rattle.mqtt_packet.specs.declared.codec.publish.Publish.{Publish as Publication}
use Rattle.mqtt_packet.specs.declared.connect.connect.Connect.{Connect as Greeting}
use Rattle.mqtt_flow.specs.outbound.Outbound.{Answer, resumed_with}
use Rattle.mqtt_flow.specs.outbound.Outbound as rules
use Rattle.mqtt_flow.specs.inbound.Identifiers.{is_among}
use Rattle.mqtt_flow.specs.inbound.Inbound.{answer_to_release}
use Rattle.mqtt_flow.specs.declared.inbound.inflow.Published.{Published}
use Rattle.mqtt_flow.specs.declared.inbound.inflow.Published.TheVariants.{Again, New, Over}
use Rattle.mqtt_props.specs.declared.table.PropName.TheVariants.{TopicAlias}
use Rattle.mqtt_records.specs.declared.messages.message.RetainedMessage.{RetainedMessage}
use Rattle.mqtt_records.specs.declared.state.session.Session.{Session}
use Rattle.mqtt_records.specs.messages.PassedOn.{number_at}
use Rattle.mqtt_records.specs.state.Session.{birth_of}
use Rattle.mqtt_topic.specs.names.Names.{is_empty}
use Rattle.mqtt_rules.specs.step.Closing.{close, close_connected, close_session, drop_line, end_session, has_due_end, has_due_will, publish_will, settle}
use Rattle.mqtt_rules.specs.step.Connect.{begin_named, clear, connack_properties, connect_by, expiry_of, greet, joins, of_client, prepare, refusal, refused, take_over, will_of}
use Rattle.mqtt_rules.specs.step.Deeds.{whose, Message, FromClient, Close, DropWill, Resume, Hear, Deed, At, Forget, Link, On, Send, Gone, Act, after, after_all, always, of_session, only_if, series, with_line, with_session}
use Rattle.mqtt_rules.specs.step.Inbound.{Meaning, Means, Wrong, answer, code_accepted, code_again, leave_by, meaning, message_of, new_expiry, on_answer, opens, publish_by, publish_meant, publish_new, pump_deeds, sets_alias, standing}
use Rattle.mqtt_rules.specs.step.Fitting.{pump_turns}
use Rattle.mqtt_rules.specs.step.Laws.{IsAmong}
use Rattle.mqtt_rules.specs.step.Outbound.{all_turn_deeds, turn_deeds}
use Rattle.mqtt_rules.specs.step.Packets.{connack, disconnect}
use Rattle.mqtt_rules.specs.step.Routing.{CopyTo, accepted_copies, is_wanted, publish}
use Rattle.mqtt_rules.specs.step.State.{Broker, Env, Line, is_of, line_at, line_of, queue_on, session_at, session_named}
use Rattle.mqtt_rules.specs.step.Step.{Call, NewLine, Input, BadInput, Lost, Pump, Tick, can_link, connected_in, deeds_of, first_packet, late_code, next_packet, on_fault, on_packet, on_pump, opening, settles, settles_all, shuts, shuts_all}
use Rattle.mqtt_rules.specs.step.Tick.{due, first_due, has_lapsed, is_silent, is_stale, lapse_deeds, lapses, on_tick, silence}
use Rattle.mqtt_rules.proofs.step_lemmas.acts.Leads.{found_among, found_passes}
use Rattle.mqtt_rules.proofs.step_lemmas.fit.FitLaw.{all_among}
use Rattle.mqtt_rules.proofs.step_lemmas.fit.StandLaw.{Orders, ordered_all}
use Rattle.mqtt_rules.proofs.step_lemmas.flight.FlightRows.{all_found, found_key}
use Rattle.mqtt_world_laws.specs.causes.Endings.{Asked}
use Rattle.mqtt_run_laws.specs.wills.Fates as fates
use Rattle.mqtt_run_laws.specs.wills.Due.{EndsByCleanStart}
use Rattle.mqtt_run_laws.specs.wills.Fates.{is_on, says_goodbye, will_held}
use Rattle.mqtt_run_laws.proofs.wills_lemmas.Quiet.{AreQuiet, quiet_alias, quiet_answer, quiet_cond, quiet_expiry, quiet_leaves, quiet_opens, quiet_publish, quiet_refused, quiet_release, quiet_subscribe, quiet_turn, quiet_turns, quiet_unsubscribe}
use Rattle.mqtt_run_laws.proofs.wills_lemmas.Stored.{no_will_at_end, will_gone}

-- nobody is found who passes, so nobody passes
none_found : {X : Type 0} (test : X → Bool) (x : X) (xs : List X) → find test xs ≡ None → IsAmong x xs → test x ≡ false
none_found test x [] e among = absurd among
none_found test x (y ∷ ys) e among = elim (cases_Bool (test y)) [
  | inl here ↦ let some : Some y ≡ None = rw here at e in absurd cc
  | inr other ↦ elim among [
    | inl same ↦ ap test (sym same) ∙ other
    | inr later ↦ none_found test x ys (rw other at e) later
  ]
]

-- What is said of deeds of a step: of those that leave Wills alone, and of some and then others; of a Will that is published when it is due,
-- or when its session ends by Clean Start; of a session that ends without one, as it is due or behind such a Will; of a Will that is dropped
-- by DISCONNECT with 0x00; of a session that is resumed, and of one that begins
pub record SaysWills (x : Asked) (env : Env) (R : List Deed → Broker → Type 0) : Type 0 where
  pub quiet : (ds : List Deed) (b : Broker) → AreQuiet ds → R ds b
  pub next : (xs ys : List Deed) (b : Broker) → R xs b → R ys (after_all xs b) → R (xs ++ ys) b
  pub publishes : (s : Session) (b : Broker) → session_at s.birth b.records ≡ Some s → (has_due_will b.now s ≡ true) ⊎ EndsByCleanStart x.call s → R (publish_will env s b) b
  pub ends : (s : Session) (b : Broker) → session_at s.birth b.records ≡ Some s → s.will ≡ None → R (end_session s) b
  pub clears : (s t : Session) (b : Broker) → Orders b → session_named s.client b.records ≡ Some s → session_named s.client (after_all (publish_will env s b) b).records ≡ Some t → R (end_session t) (after_all (publish_will env s b) b)
  pub drops : (s : Session) (b : Broker) → session_at s.birth b.records ≡ Some s → says_goodbye s.birth x.call x.step.broker ≡ true → R (At (whose s) DropWill ∷ []) b
  pub resumes : (n : ℕ) (c : Greeting) (s : Session) (b : Broker) → x.call ≡ Some (Input n (packets.Connect c)) → session_at s.birth b.records ≡ Some s → R (At (whose s) (Resume (expiry_of c) (will_of c)) ∷ []) b
  pub begins : (n : ℕ) (c : Greeting) (l : Line) (t : Bool) (b : Broker) → x.call ≡ Some (Input n (packets.Connect c)) → R (begin_named t l c b.records) b

module _ (x : Asked) (env : Env) (R : List Deed → Broker → Type 0) (says : SaysWills x env R) where
  -- ---- acts

  abbrev SaysAct : Act → Type 0
  SaysAct act = (b : Broker) → Orders b → R (act b) b

  nothing : (b : Broker) → R [] b
  nothing b = says.quiet [] b tt

  quietly : (ds : List Deed) (b : Broker) → AreQuiet ds → R ds b
  quietly ds b h = says.quiet ds b h

  quiet_act : (ds : List Deed) → AreQuiet ds → SaysAct (always ds)
  quiet_act ds q b h = quietly ds b q

  acts : (fs : List Act) → AllByRecursion SaysAct fs → SaysAct (series fs)
  acts [] q b h = nothing b
  acts (f ∷ fs) q b h = says.next (f b) (series fs (after_all (f b) b)) b (q.0 b h) (acts fs q.1 (after_all (f b) b) (ordered_all (f b) b h))

  each_act : {X : Type 0} (f : X → Act) → ((y : X) → SaysAct (f y)) → (ys : List X) → AllByRecursion SaysAct (map f ys)
  each_act f h [] = tt
  each_act f h (y ∷ ys) = (h y, each_act f h ys)

  on_session : (o : Option Session) (f : Session → Act) (b : Broker) → ((s : Session) → o ≡ Some s → R (f s b) b) → R (with_session o f b) b
  on_session None f b q = nothing b
  on_session (Some s) f b q = q s refl

  own : (birth : ℕ) (s : Session) (b : Broker) → session_at birth b.records ≡ Some s → session_at s.birth b.records ≡ Some s
  own birth s b there = ap (λ (n : ℕ). session_at n b.records) (found_key birth_of birth s b.records.sessions there) ∙ there

  on_birth : (birth : ℕ) (f : Session → Act) (b : Broker) → ((s : Session) → session_at s.birth b.records ≡ Some s → s.birth ≡ birth → R (f s b) b) → R (of_session birth f b) b
  on_birth birth f b q = on_session (session_at birth b.records) f b (λ s there. q s (own birth s b there) (found_key birth_of birth s b.records.sessions there))

  among_own : (s : Session) (b : Broker) → Orders b → IsAmong s b.records.sessions → session_at s.birth b.records ≡ Some s
  among_own s b h among = all_among (λ (y : Session). session_at y.birth b.records ≡ Some y) s b.records.sessions (all_found birth_of b.records.sessions h.sessions.ascending) among

  on_client : (client : List ℕ) (f : Session → Act) (b : Broker) → ((s : Session) → session_named client b.records ≡ Some s → s.client ≡ client → R (f s b) b) → R (of_client client f b) b
  on_client client f b q =
      on_session (session_named client b.records) f b
      (λ s there. q s there ((bytes_eq-Decides s.client client).0 (found_passes (λ (y : Session). bytes_eq y.client client) s b.records.sessions there)))

  on_a_line : (o : Option Line) (f : Line → Act) (b : Broker) → ((l : Line) → o ≡ Some l → R (f l b) b) → R (with_line o f b) b
  on_a_line None f b q = nothing b
  on_a_line (Some l) f b q = q l refl

  if_so : (t : Bool) (act : Act) (b : Broker) → (t ≡ true → R (act b) b) → R (only_if t act b) b
  if_so true act b q = q refl
  if_so false act b q = nothing b

  some_same : {X : Type 0} (y z : X) → Some y ≡ Some z → y ≡ z
  some_same y z e = cc

  -- ---- settling: the Will, then the end

  -- a session whose end is due behind its Will has none
  left_without : (birth : ℕ) (b : Broker) (t : Session) → let c = after_all (of_session birth (λ s. only_if (has_due_will b.now s) (publish_will env s)) b) b in
      session_at birth c.records ≡ Some t → has_due_end b.now t ≡ true → t.will ≡ None
  left_without birth b t = by (session_at birth b.records) refl
    where
      tested : (s : Session) (due : Bool) → has_due_will b.now s ≡ due → session_at birth b.records ≡ Some s
          → let c = after_all (only_if due (publish_will env s) b) b in session_at birth c.records ≡ Some t → has_due_end b.now t ≡ true → t.will ≡ None
      tested s true due is there ended =
          let c = after_all (publish_will env s b) b in
          let same : s.birth ≡ birth = found_key birth_of birth s b.records.sessions is in
          let gone : will_held birth c.records ≡ None = ap (λ (n : ℕ). will_held n c.records) (sym same) ∙ will_gone env s b (own birth s b is) in
          ap fates.held_if (sym there) ∙ gone
      tested s false due is there ended =
          let it : s ≡ t = some_same s t (sym is ∙ there) in
          no_will_at_end b.now t (subst (λ (y : Session). has_due_will b.now y ≡ false) it due) ended

      by : (o : Option Session) → session_at birth b.records ≡ o → let c = after_all (with_session o (λ s. only_if (has_due_will b.now s) (publish_will env s)) b) b in
          session_at birth c.records ≡ Some t → has_due_end b.now t ≡ true → t.will ≡ None
      by None is there ended = let no : None ≡ Some t = sym is ∙ there in absurd cc
      by (Some s) is there ended = tested s (has_due_will b.now s) refl is there ended

  settling : (birth : ℕ) → SaysAct (settle env birth)
  settling birth b h =
      let first = of_session birth (λ s. only_if (has_due_will b.now s) (publish_will env s)) b in
      let c = after_all first b in
      let second = of_session birth (λ s. only_if (has_due_end b.now s) (always (end_session s))) c in
      says.next first (second ++ []) b
      (on_birth birth (λ s. only_if (has_due_will b.now s) (publish_will env s)) b (λ s there its. if_so (has_due_will b.now s) (publish_will env s) b (λ due. says.publishes s b there (inl due))))
      (says.next second [] c
      (on_birth birth (λ s. only_if (has_due_end b.now s) (always (end_session s))) c (λ t there its. if_so (has_due_end b.now t) (always (end_session t)) c
      (λ due. says.ends t c there (left_without birth b t (ap (λ (n : ℕ). session_at n c.records) (sym its) ∙ there) due))))
      (nothing (after_all second c)))

  -- ---- closing: with DISCONNECT with 0x00 the Will is dropped, else it is kept

  -- why it may be dropped
  abbrev MayDrop : Bool → Option ℕ → Type 0
  MayDrop true o = ⊤
  MayDrop false None = ⊤
  MayDrop false (Some birth) = says_goodbye birth x.call x.step.broker ≡ true

  closing_a_session : (keeps_will : Bool) (birth : ℕ) (s : Session) (b : Broker) → Orders b → session_at s.birth b.records ≡ Some s → s.birth ≡ birth → MayDrop keeps_will (Some birth) → R (close_session env keeps_will s b) b
  closing_a_session keeps_will birth s b h there its may =
      let ds = only_if (not keeps_will) (always (At (whose s) DropWill ∷ [])) b in
      let c = after_all ds b in
      says.next ds (series (always (At (whose s) (Close b.now) ∷ []) ∷ settle env s.birth ∷ []) c) b (first keeps_will may)
      (acts (always (At (whose s) (Close b.now) ∷ []) ∷ settle env s.birth ∷ []) (quiet_act (At (whose s) (Close b.now) ∷ []) (tt, tt), (settling s.birth, tt)) c (ordered_all ds b h))
    where
      first : (t : Bool) → MayDrop t (Some birth) → R (only_if (not t) (always (At (whose s) DropWill ∷ [])) b) b
      first true m = nothing b
      first false m = says.drops s b there (subst (λ (n : ℕ). says_goodbye n x.call x.step.broker ≡ true) (sym its) m)

  closing_connected : (keeps_will : Bool) (o : Option ℕ) → MayDrop keeps_will o → SaysAct (close_connected env keeps_will o)
  closing_connected keeps_will None may b h = nothing b
  closing_connected keeps_will (Some birth) may b h = on_birth birth (close_session env keeps_will) b (λ s there its. closing_a_session keeps_will birth s b h there its may)

  closing : (keeps_will : Bool) (l : Line) → MayDrop keeps_will l.session → SaysAct (close env keeps_will l)
  closing keeps_will l may b h = acts (always (Gone l.number ∷ []) ∷ close_connected env keeps_will l.session ∷ []) (quiet_act (Gone l.number ∷ []) (tt, tt), (closing_connected keeps_will l.session may, tt)) b h

  kept : (l : Line) → SaysAct (close env true l)
  kept l b h = closing true l tt b h

  dropping : (code : ℕ) (l : Line) → SaysAct (drop_line env code l)
  dropping code l b h = acts (always (Send l.number (disconnect code) ∷ []) ∷ close env true l ∷ []) (quiet_act (Send l.number (disconnect code) ∷ []) (tt, tt), (kept l, tt)) b h

  -- ---- CONNECT

  taking_over : (s : Session) → SaysAct (take_over env s)
  taking_over s b h = on_a_line (line_of s.birth b) (drop_line env session_taken_over) b (λ l there. dropping session_taken_over l b h)

  clearing : (s : Session) (b : Broker) → Orders b → session_named s.client b.records ≡ Some s → EndsByCleanStart x.call s → R (clear env s b) b
  clearing s b h named clean =
      let first = publish_will env s b in
      let c = after_all first b in
      let second = of_client s.client (λ t. always (end_session t)) c in
      says.next first (second ++ []) b (says.publishes s b (among_own s b h (found_among (λ (y : Session). bytes_eq y.client s.client) s b.records.sessions named)) (inr clean))
      (says.next second [] c (on_client s.client (λ t. always (end_session t)) c (λ t there same. says.clears s t b h named there)) (nothing (after_all second c)))

  -- Clean Start, as the CONNECT has it
  preparing : (n : ℕ) (c : Greeting) → x.call ≡ Some (Input n (packets.Connect c)) → SaysAct (prepare env c)
  preparing n c read b h =
      acts (of_client c.client_identifier (take_over env) ∷ of_client c.client_identifier (λ s. settle env s.birth) ∷ only_if c.clean_start (of_client c.client_identifier (clear env)) ∷ []) (
        (λ d k. on_client c.client_identifier (take_over env) d (λ s there same. taking_over s d k)),
        (
          (λ d k. on_client c.client_identifier (λ s. settle env s.birth) d (λ s there same. settling s.birth d k)),
          (
            (λ d k. if_so c.clean_start (of_client c.client_identifier (clear env)) d
                (λ clean. on_client c.client_identifier (clear env) d
                (λ s there same. clearing s d k (ap (λ (name : List ℕ). session_named name d.records) same ∙ there)
                (record { number = n; packet = c; read = read; clean = clean; client = sym same })))),
            tt,
          ),
        ),
      ) b h

  joining : (n : ℕ) (l : Line) (c : Greeting) (ds : List Deed) (b : Broker) → x.call ≡ Some (Input n (packets.Connect c)) → Orders b → R ds b → R (joins env l c b.now ds (after_all ds b).records (session_named c.client_identifier (after_all ds b).records)) b
  joining n l c ds b read h q = by (session_named c.client_identifier d.records) refl
    where
      d : Broker
      d = after_all ds b

      room : (t : Bool) → R (cond t (ds ++ begin_named (is_empty c.client_identifier) l c d.records) (refused l c quota_exceeded)) b
      room true = says.next ds (begin_named (is_empty c.client_identifier) l c d.records) b q (says.begins n c l (is_empty c.client_identifier) d read)
      room false = quietly (refused l c quota_exceeded) b (quiet_refused l c quota_exceeded)

      by : (o : Option Session) → session_named c.client_identifier d.records ≡ o → R (joins env l c b.now ds d.records o) b
      by (Some s) there =
          let one = At (whose s) (Resume (expiry_of c) (will_of c)) in
          let told : List Deed = greet l c s.birth ∷ Send l.number (connack true success (connack_properties false [])) ∷ all_turn_deeds b.now l.number s (resumed_with (queue_on [] s)) in
          says.next ds (one ∷ told) b q
          (says.next (one ∷ []) told d
          (says.resumes n c s d read (among_own s d (ordered_all ds b h) (found_among (λ (y : Session). bytes_eq y.client c.client_identifier) s d.records.sessions there)))
          (quietly told (after one d) (tt, (tt, quiet_turns b.now l.number s (resumed_with (queue_on [] s))))))
      by None there = room (nat_lt (length d.records.sessions) env.limits.sessions)

  connecting : (o : Option ℕ) (n : ℕ) (l : Line) (c : Greeting) → x.call ≡ Some (Input n (packets.Connect c)) → SaysAct (connect_by o env l c)
  connecting (Some code) n l c read b h = quietly (refused l c code) b (quiet_refused l c code)
  connecting None n l c read b h = joining n l c (prepare env c b) b read h (preparing n c read b h)

  -- ---- PUBLISH

  publishing_new : (l : Line) (s : Session) (p : Publication) (m : Message) (o : Option (List CopyTo)) (b : Broker) → R (publish_new env l s p m o b) b
  publishing_new l s p m None b = quietly (answer l.number p.delivery quota_exceeded) b (quiet_answer l.number p.delivery quota_exceeded)
  publishing_new l s p m (Some ds) b =
      let first = publish env FromClient m ds b in
      let c = after_all first b in
      let opened = opens s p.delivery in
      let told = answer l.number p.delivery (code_accepted (is_wanted env m b.records)) in
      says.next first (opened ++ (told ++ [])) b (quietly first b (quiet_publish env m ds b))
      (says.next opened (told ++ []) c (quietly opened c (quiet_opens s p.delivery))
      (let d = after_all opened c in says.next told [] d (quietly told d (quiet_answer l.number p.delivery (code_accepted (is_wanted env m b.records)))) (nothing (after_all told d))))

  publishing_by : (y : Published) (l : Line) (s : Session) (p : Publication) (m : Message) → SaysAct (publish_by y env l s p m)
  publishing_by Again l s p m b h = quietly (answer l.number p.delivery (code_again p.delivery)) b (quiet_answer l.number p.delivery (code_again p.delivery))
  publishing_by Over l s p m b h = dropping receive_maximum_exceeded l b h
  publishing_by New l s p m b h = publishing_new l s p m (accepted_copies env m b) b

  publishing : (y : Meaning) (l : Line) (s : Session) (p : Publication) → SaysAct (publish_meant y env l s p)
  publishing (Wrong code) l s p b h = dropping code l b h
  publishing (Means topic) l s p b h =
      let sets = sets_alias (is_empty p.topic) (number_at TopicAlias p.properties) l.number topic in
      acts (always sets ∷ publish_by (standing p.delivery s.inbound) env l s p (message_of s.client topic p) ∷ [])
      (quiet_act sets (quiet_alias (is_empty p.topic) (number_at TopicAlias p.properties) l.number topic), (publishing_by (standing p.delivery s.inbound) l s p (message_of s.client topic p), tt)) b h

  -- ---- a receiver's answers, and DISCONNECT

  answering : (a : Answer) (l : Line) (s : Session) → SaysAct (on_answer a env l s)
  answering (Ok None) l s b h = nothing b
  answering (Ok (Some t)) l s b h = quietly (turn_deeds b.now l.number s t) b (quiet_turn b.now l.number s t)
  answering (Err fault) l s b h = dropping protocol_error l b h

  leaving : (t : Bool) (l : Line) (s : Session) (code : ℕ) (o : Option ℕ) → MayDrop (not (nat_eq code normal_disconnection)) l.session → SaysAct (leave_by t env l s code o)
  leaving true l s code o may b h = dropping protocol_error l b h
  leaving false l s code o may b h =
      let keeps = not (nat_eq code normal_disconnection) in
      acts (always (new_expiry o s) ∷ close env keeps l ∷ []) (quiet_act (new_expiry o s) (quiet_expiry o s), (closing keeps l may, tt)) b h

  -- ---- tick

  abbrev SaysOption : Broker → Option Act → Type 0
  SaysOption b None = ⊤
  SaysOption b (Some act) = R (act b) b

  silence_said : (o : Option ℕ) (l : Line) → SaysAct (silence env o l)
  silence_said None l b h = kept l b h
  silence_said (Some birth) l b h = dropping keep_alive_timeout l b h

  mapped : {X : Type 0} (f : X → Act) (o : Option X) (rest : List (Option Act)) (b : Broker) → ((y : X) → o ≡ Some y → R (f y b) b) → (o ≡ None → SaysOption b (first_due rest)) → SaysOption b (first_due (option_map f o ∷ rest))
  mapped f None rest b h q = q refl
  mapped f (Some y) rest b h q = h y refl

  due_said : (b : Broker) → Orders b → SaysOption b (due env b)
  due_said b h =
      mapped (λ (l : Line). silence env l.session l) (find (λ (l : Line). is_silent b.now l.session l) b.lines) _ b (λ l e. silence_said l.session l b h) (λ no_line.
      mapped (publish_will env) (find (has_due_will b.now) b.records.sessions) _ b
      (λ s e. says.publishes s b (among_own s b h (found_among (has_due_will b.now) s b.records.sessions e)) (inl (found_passes (has_due_will b.now) s b.records.sessions e))) (λ no_will.
      mapped (λ (s : Session). always (end_session s)) (find (has_due_end b.now) b.records.sessions) _ b
      (λ s e. let among = found_among (has_due_end b.now) s b.records.sessions e in
      says.ends s b (among_own s b h among) (no_will_at_end b.now s (none_found (has_due_will b.now) s b.records.sessions no_will among) (found_passes (has_due_end b.now) s b.records.sessions e))) (λ no_end.
      mapped (λ (k : RetainedMessage). always (Forget k.place ∷ [])) (find (is_stale b.now) b.records.retained) _ b (λ k e. quietly (Forget k.place ∷ []) b (tt, tt)) (λ none.
      mapped (λ (s : Session). always (lapse_deeds b.now s)) (find (has_lapsed b.now) b.records.sessions) [] b (λ s e. quietly (lapse_deeds b.now s) b (quiet_leaves s (lapses b.now s))) (λ nobody. tt)))))

  ticking : (o : Option Act) (b : Broker) → SaysOption b o → R (on_tick o b) b
  ticking None b q = nothing b
  ticking (Some act) b q = q

  -- ---- packets

  first_read : (n : ℕ) (l : Line) (packet : Packet) → x.call ≡ Some (Input n packet) → SaysAct (first_packet env l packet)
  first_read n l (packets.Connect c) read b h = connecting (refusal c b.records) n l c read b h
  first_read n l (packets.Connack c) read b h = kept l b h
  first_read n l (packets.Publish p) read b h = kept l b h
  first_read n l (packets.Puback a) read b h = kept l b h
  first_read n l (packets.Pubrec a) read b h = kept l b h
  first_read n l (packets.Pubrel a) read b h = kept l b h
  first_read n l (packets.Pubcomp a) read b h = kept l b h
  first_read n l (packets.Subscribe p) read b h = kept l b h
  first_read n l (packets.Suback p) read b h = kept l b h
  first_read n l (packets.Unsubscribe p) read b h = kept l b h
  first_read n l (packets.Unsuback p) read b h = kept l b h
  first_read n l packets.Pingreq read b h = kept l b h
  first_read n l packets.Pingresp read b h = kept l b h
  first_read n l (packets.Disconnect d) read b h = kept l b h
  first_read n l (packets.Auth d) read b h = kept l b h

  -- a DISCONNECT with 0x00 is read on a line: the session that is connected on it says goodbye
  may_drop : (n : ℕ) (l : Line) (d : Disconnecting) → x.call ≡ Some (Input n (packets.Disconnect d)) → line_at n x.step.broker ≡ Some l → (o : Option ℕ) → l.session ≡ o → MayDrop (not (nat_eq d.reason.0 normal_disconnection)) o
  may_drop n l d read found o is = by (nat_eq d.reason.0 normal_disconnection) refl o is
    where
      on_it : (birth : ℕ) → l.session ≡ Some birth → is_on birth (line_at n x.step.broker) ≡ true
      on_it birth its = ap (is_on birth) found ∙ ap (λ (y : Option ℕ). is_of y birth) its ∙ nat_eq_equiv.refl birth

      by : (t : Bool) → nat_eq d.reason.0 normal_disconnection ≡ t → (y : Option ℕ) → l.session ≡ y → MayDrop (not t) y
      by false e y its = tt
      by true e None its = tt
      by true e (Some birth) its = ap (λ (call : Option Call). says_goodbye birth call x.step.broker) read ∙ ap (λ (t : Bool). t && is_on birth (line_at n x.step.broker)) e ∙ on_it birth its

  next_read : (n : ℕ) (l : Line) (packet : Packet) (s : Session) → x.call ≡ Some (Input n packet) → line_at n x.step.broker ≡ Some l → SaysAct (next_packet env l packet s)
  next_read n l (packets.Publish p) s read found b h = publishing (meaning p l.aliases) l s p b h
  next_read n l (packets.Puback a) s read found b h = answering (rules.puback a.identifier a.reason.0 (queue_on l.went s)) l s b h
  next_read n l (packets.Pubrec a) s read found b h = answering (rules.pubrec a.identifier a.reason.0 (queue_on l.went s)) l s b h
  next_read n l (packets.Pubrel a) s read found b h = quietly _ b (quiet_release (answer_to_release a.identifier s.inbound) l s a.identifier)
  next_read n l (packets.Pubcomp a) s read found b h = answering (rules.pubcomp a.identifier (queue_on l.went s)) l s b h
  next_read n l (packets.Subscribe p) s read found b h = quietly _ b (quiet_subscribe (is_among p.identifier s.inbound) env l.number s p b)
  next_read n l (packets.Unsubscribe p) s read found b h = quietly _ b (quiet_unsubscribe (is_among p.identifier s.inbound) l.number s p b)
  next_read n l packets.Pingreq s read found b h = quietly (Send l.number packets.Pingresp ∷ []) b (tt, tt)
  next_read n l (packets.Disconnect d) s read found b h = leaving _ l s d.reason.0 _ (may_drop n l d read found l.session refl) b h
  next_read n l (packets.Connect c) s read found b h = dropping protocol_error l b h
  next_read n l (packets.Connack c) s read found b h = dropping protocol_error l b h
  next_read n l (packets.Suback p) s read found b h = dropping protocol_error l b h
  next_read n l (packets.Unsuback p) s read found b h = dropping protocol_error l b h
  next_read n l packets.Pingresp s read found b h = dropping protocol_error l b h
  next_read n l (packets.Auth d) s read found b h = dropping protocol_error l b h

  reading : (n : ℕ) (l : Line) (packet : Packet) (o : Option ℕ) → x.call ≡ Some (Input n packet) → line_at n x.step.broker ≡ Some l → SaysAct (on_packet env l packet o)
  reading n l packet None read found b h = first_read n l packet read b h
  reading n l packet (Some birth) read found b h = on_session (session_at birth b.records) (next_packet env l packet) b (λ s there. next_read n l packet s read found b h)

  at_fault : (l : Line) (t : Bool) (code : ℕ) (o : Option ℕ) → SaysAct (on_fault env l t code o)
  at_fault l true code None b h = acts (always (Send l.number (connack false code []) ∷ []) ∷ close env true l ∷ []) (quiet_act (Send l.number (connack false code []) ∷ []) (tt, tt), (kept l, tt)) b h
  at_fault l false code None b h = kept l b h
  at_fault l true code (Some birth) b h = dropping (late_code code) l b h
  at_fault l false code (Some birth) b h = dropping (late_code code) l b h

  pumping : (l : Line) (o : Option ℕ) (b : Broker) → R (on_pump l o b) b
  pumping l None b = nothing b
  pumping l (Some birth) b = on_session (session_at birth b.records) (λ s. always (pump_deeds l b s)) b (λ s there. quietly (pump_deeds l b s) b (quiet_turns b.now l.number s (pump_turns l b s)))

  -- ---- calls, each on the state on which the step begins, and openings

  -- it is said of a call
  pub call_said : (call : Call) → x.call ≡ Some call → Orders x.step.broker → R (deeds_of env call x.step.broker) x.step.broker
  call_said NewLine read h = let b = x.step.broker in quietly (cond (can_link env.limits b) (Link (suc b.given) ∷ []) []) b (quiet_cond (can_link env.limits b) (Link (suc b.given) ∷ []) [] (tt, tt) tt)
  call_said (Input n packet) read h =
      let b = x.step.broker in
      on_a_line (line_at n b) (λ l. series (always (On n Hear ∷ []) ∷ on_packet env l packet l.session ∷ [])) b (λ l there.
      acts (always (On n Hear ∷ []) ∷ on_packet env l packet l.session ∷ []) (quiet_act (On n Hear ∷ []) (tt, tt), (reading n l packet l.session read there, tt)) b h)
  call_said (BadInput n is_connect code) read h = let b = x.step.broker in on_a_line (line_at n b) (λ l. on_fault env l is_connect code l.session) b (λ l there. at_fault l is_connect code l.session b h)
  call_said (Lost n) read h = let b = x.step.broker in on_a_line (line_at n b) (close env true) b (λ l there. kept l b h)
  call_said (Pump n) read h = let b = x.step.broker in on_a_line (line_at n b) (λ l. on_pump l l.session) b (λ l there. pumping l l.session b)
  call_said Tick read h = let b = x.step.broker in ticking (due env b) b (due_said b h)

  shutting : (s : Session) → SaysAct (shuts s)
  shutting s b h = quietly (At (whose s) (Close b.now) ∷ []) b (tt, tt)

  -- and of an opening
  pub opening_said : SaysAct (opening env)
  opening_said b h =
      let ss = connected_in b.records in
      acts (shuts_all ss ∷ settles_all env ss ∷ []) (acts (map shuts ss) (each_act shuts shutting ss), (acts (map (settles env) ss) (each_act (settles env) (λ (s : Session). settling s.birth) ss), tt)) b h
