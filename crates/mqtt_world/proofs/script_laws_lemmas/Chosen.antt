-- No choice of members is asked for by what a receiver sends: it publishes nothing, and its session has no Will (MQTT 5.0,
-- 3.1.2.5, 4.3, 4.4).
use Rattle.std.proofs.Common.{◌≡◌, ℕ, suc, Bool, true, false, ◌&&◌, ◌||◌, List, [], ◌∷◌, ◌++◌, map, length, Option, Some, None, nat_eq, nat_lt, nat_le, refl, sym, ap, subst, ◌∙◌, arith, inl, inr}
use Rattle.std.specs.Prelude.{Ok, Err, filter}
use Rattle.std.proofs.lemmas.Bool.{cases_Bool, eqb-true}
use Rattle.mqtt_base.specs.Codes.{protocol_error}
use Rattle.mqtt_base.specs.declared.session.CopyId.{CopyId}
use Rattle.mqtt_base.specs.declared.limits.TheConstants.{SUBSCRIPTION_LIMIT}
use Rattle.mqtt_packet.specs.subscribe.Subscriptions.{Subscription as Asked}
use Rattle.mqtt_packet.specs.declared.connect.connect.Connect.{Connect as Greeting}
use Rattle.mqtt_flow.specs.outbound.Outbound.{Answer}
use Rattle.mqtt_flow.specs.outbound.Outbound as rules
use Rattle.mqtt_flow.specs.outbound.Receiver.{connect, puback, pubcomp, pubrec}
use Rattle.mqtt_flow.specs.inbound.Identifiers.{is_among}
use Rattle.mqtt_world_model.specs.model.Ends.{Back, Receiver, answers, asks_for, wire_back}
use Rattle.mqtt_world_model.specs.model.Hops.{IsKept, IsTaken}
use Rattle.mqtt_world_model.specs.model.Seats.{IsHis, IsNamed}
use Rattle.mqtt_world_model.proofs.model_lemmas.connects.CleanConnects.{clear_is}
use Rattle.mqtt_world_model.proofs.model_lemmas.connects.Connects.{left_by, named_taken, prepare_front, taken_client, taken_from, taken_will}
use Rattle.mqtt_world_model.proofs.model_lemmas.seats.OwnSeats.{line_of_on}
use Rattle.mqtt_world_model.proofs.model_lemmas.own.OwnStep.{heard_of, input_is}
use Rattle.mqtt_world_model.proofs.model_lemmas.own.Publishes.{act_none, drop_is}
use Rattle.mqtt_world_model.proofs.model_lemmas.seats.Seats.{kept_of}
use Rattle.mqtt_props.specs.declared.table.PropName.TheVariants.{SubscriptionIdentifier}
use Rattle.mqtt_records.specs.declared.state.records.Records.{Records}
use Rattle.mqtt_records.specs.declared.state.session.Session.{Session}
use Rattle.mqtt_rules.proofs.step_lemmas.acts.Leads.{found_passes}
use Rattle.mqtt_rules.specs.step.Closing.{drop_line, end_session, never, settle}
use Rattle.mqtt_rules.specs.step.Connect.{clear, connect_by, joins, joins_after, of_client, on_connect, prepare, refusal, take_over}
use Rattle.mqtt_rules.specs.step.Deeds.{Act, At, Count, Deed, Hear, On, after_all, offer, only_if, series, whose, with_session}
use Rattle.mqtt_rules.specs.step.Deeds as deeds_of
use Rattle.mqtt_rules.specs.step.Inbound.{on_answer}
use Rattle.mqtt_rules.specs.step.Outbound.{room}
use Rattle.mqtt_records.specs.messages.PassedOn.{number_at}
use Rattle.mqtt_rules.specs.step.Packets.{suback}
use Rattle.mqtt_rules.specs.step.Routing.{CopyTo, deliver, deliver_by, is_queued}
use Rattle.mqtt_rules.specs.step.State.{Line as BrokerLine, Broker, Env, MemberChoice, is_of, line_at, line_of, queue_on, session_at, session_named}
use Rattle.mqtt_rules.specs.step.Step.{Input, deeds, env_of, next_packet}
use Rattle.mqtt_rules.specs.step.Subscribe.{FilterAnswer, FilterAnswers, Wish, answer_by, before, brought, filter_answer_of, filter_answers, granted_filter, has_filter, late_send, next_number, subscribe_by, subscription, wish_of}
use Rattle.mqtt_rules.specs.declared.step.Capacity.{Capacity}
use Rattle.mqtt_packet.specs.declared.subscribe.subscribe.Subscribe.{Subscribe}
use Rattle.mqtt_world_laws.proofs.receiver_lemmas.queue.Pumps.{its_session}
use Rattle.mqtt_world_laws.proofs.receiver_lemmas.connects.Resuming.{call_is, greeting}
use Rattle.mqtt_world_laws.specs.delivery.Standing.{IsPlaced}
use Rattle.mqtt_world_laws.proofs.delivery_lemmas.own.Fronts.{Connects, IsJoined, front}

-- the same surroundings, with another choice
abbrev pub chosen : MemberChoice → Env → Env
chosen d env = record env { choice = d }

-- ---- a SUBSCRIBE

module _ (d : MemberChoice) (env : Env) where
  delivered : (x : CopyTo) (b : Broker) → deliver env x b ≡ deliver (chosen d env) x b
  delivered x b = by (is_queued x)
    where
      by : (t : Bool) → deliver_by t env x b ≡ deliver_by t (chosen d env) x b
      by true = refl
      by false = refl

  all_delivered : (xs : List CopyTo) (b : Broker) → series (map (deliver env) xs) b ≡ series (map (deliver (chosen d env)) xs) b
  all_delivered [] b = refl
  all_delivered (x ∷ xs) b =
      ap (λ (ds : List Deed). ds ++ series (map (deliver env) xs) (after_all ds b)) (delivered x b)
      ∙ ap (λ (ds : List Deed). deliver (chosen d env) x b ++ ds) (all_delivered xs (after_all (deliver (chosen d env) x b) b))

  granted : (number : ℕ) (s : Session) (w : Wish) (ds : List CopyTo) (b : Broker) → granted_filter env number s w ds b ≡ granted_filter (chosen d env) number s w ds b
  granted number s w ds b =
      let first : List Deed = Count number ∷ At (whose s) (deeds_of.Subscribe (subscription number s w)) ∷ [] in
      ap (λ (es : List Deed). record (granted_filter env number s w ds b) { deeds = first ++ es }) (all_delivered (filter is_queued ds) (after_all first b))

  by_room : (t u : Bool) (number : ℕ) (s : Session) (w : Wish) (ds : List CopyTo) (b : Broker) → answer_by t u env number s w ds b ≡ answer_by t u (chosen d env) number s w ds b
  by_room false u number s w ds b = refl
  by_room true false number s w ds b = refl
  by_room true true number s w ds b = granted number s w ds b

  filter_answered : (o : Option Wish) (b : Broker) (s : Option Session) → filter_answer_of env o b s ≡ filter_answer_of (chosen d env) o b s
  filter_answered o b None = refl
  filter_answered None b (Some s) = refl
  filter_answered (Some w) b (Some s) =
      let number = next_number b.records in
      let ds = brought b.now number s w b.records.retained in
      by_room _ ((has_filter w.filter s || nat_lt (length s.subscriptions) SUBSCRIPTION_LIMIT) && nat_le (length (filter is_queued ds)) (room env s)) number s w ds b

  filters_answered : (birth : ℕ) (identifier : Option ℕ) (all : List Asked) (b : Broker) → filter_answers env birth identifier all b ≡ filter_answers (chosen d env) birth identifier all b
  filters_answered birth identifier [] b = refl
  filters_answered birth identifier (a ∷ rest) b =
      let o = session_at birth b.records in
      let g = filter_answer_of (chosen d env) (wish_of identifier a) b o in
      ap (λ (x : FilterAnswer). before x (filter_answers env birth identifier rest (after_all x.deeds b))) (filter_answered (wish_of identifier a) b o)
      ∙ ap (before g) (filters_answered birth identifier rest (after_all g.deeds b))

  subscribed : (t : Bool) (line : ℕ) (s : Session) (p : Subscribe) (b : Broker) → subscribe_by t env line s p b ≡ subscribe_by t (chosen d env) line s p b
  subscribed true line s p b = refl
  subscribed false line s p b =
      ap (λ (a : FilterAnswers). let told = a.deeds ++ offer (line_at line b) (suback p.identifier a.codes) in told ++ series (map (late_send line) a.late) (after_all told b))
      (filters_answered s.birth (number_at SubscriptionIdentifier p.properties) p.subscriptions b)

-- ---- on a line on which its session is connected

module _ (d : MemberChoice) (env : Env) (l : BrokerLine) (s : Session) (b : Broker) (at : session_at s.birth b.records ≡ Some s) (on : l.session ≡ Some s.birth) (no_will : s.will ≡ None) (no_end : s.expiry ≡ never) where
  line_dropped : (code : ℕ) → drop_line env code l b ≡ drop_line (chosen d env) code l b
  line_dropped code = drop_is env code l s b at on no_will no_end ∙ sym (drop_is (chosen d env) code l s b at on no_will no_end)

  answered : (a : Answer) → on_answer a env l s b ≡ on_answer a (chosen d env) l s b
  answered (Ok t) = refl
  answered (Err fault) = line_dropped protocol_error

  heard : (client : List ℕ) (window aliases : ℕ) (x : Back) → next_packet env l (wire_back client window aliases x) s b ≡ next_packet (chosen d env) l (wire_back client window aliases x) s b
  heard client window aliases (answers (connect clean)) = line_dropped protocol_error
  heard client window aliases (answers (puback i code)) = answered (rules.puback i code (queue_on l.went s))
  heard client window aliases (answers (pubrec i code)) = answered (rules.pubrec i code (queue_on l.went s))
  heard client window aliases (answers (pubcomp i code)) = answered (rules.pubcomp i (queue_on l.went s))
  heard client window aliases (asks_for w) = subscribed d env (is_among 1 s.inbound) l.number s _ b

-- ---- a CONNECT

not_next : (n : ℕ) → nat_eq n (suc n) ≡ false
not_next n = elim (cases_Bool (nat_eq n (suc n))) [
  | inl same ↦ let is : n ≡ suc n = eqb-true n (suc n) same in absurd (omega (arith, is))
  | inr other ↦ other
]

-- whatever line its session is connected on, some line is another
some_taken : (o : Option BrokerLine) (birth : ℕ) (b : Broker) → line_of birth b ≡ o → (n : ℕ) × IsTaken o birth n
some_taken None birth b is = (0, record { connected = λ l e. absurd cc; another = λ l e. absurd cc })
some_taken (Some x) birth b is = (
  suc x.number,
  record {
    connected = λ l e. its_session l.session birth (found_passes (λ (y : BrokerLine). is_of y.session birth) l b.lines (is ∙ e));
    another = λ l e. let same : x ≡ l = cc in ap (λ (y : BrokerLine). nat_eq y.number (suc x.number)) (sym same) ∙ not_next x.number;
  },
)

abbrev cleared_by : Bool → Session → List Deed
cleared_by true s = end_session s
cleared_by false s = []

module _ (clean : Bool) (client : List ℕ) (window aliases : ℕ) (b : Broker) where
  abbrev hello : Greeting
  hello = greeting clean client window aliases

  -- no session of its name stands
  none_prepared : (env : Env) → session_named client b.records ≡ None → prepare env hello b ≡ []
  none_prepared env none =
      let first : Act = of_client client (take_over env) in
      let second : Act = of_client client (λ z. settle env z.birth) in
      let third : Act = only_if clean (of_client client (clear env)) in
      act_none first (second ∷ third ∷ []) b (ap (λ (z : Option Session). with_session z (take_over env) b) none)
      ∙ (act_none second (third ∷ []) b (ap (λ (z : Option Session). with_session z (λ y. settle env y.birth) b) none) ∙ act_none third [] b (none_cleared clean))
    where
      none_cleared : (t : Bool) → only_if t (of_client client (clear env)) b ≡ []
      none_cleared true = ap (λ (z : Option Session). with_session z (clear env) b) none
      none_cleared false = refl

  -- one does
  its_prepared : (env : Env) (o : Option BrokerLine) (s : Session) → line_of s.birth b ≡ o → IsKept client s b → prepare env hello b ≡ left_by o s b.now ++ (cleared_by clean (taken_from o b.now s) ++ [])
  its_prepared env o s is k =
      let t = some_taken o s.birth b is in
      prepare_front o env client s t.0 b (only_if clean (of_client client (clear env)) ∷ []) is t.1 k
      ∙ ap (λ (ds : List Deed). left_by o s b.now ++ (ds ++ [])) (cleared clean)
    where
      x : Broker
      x = after_all (left_by o s b.now) b

      cleared : (t : Bool) → only_if t (of_client client (clear env)) x ≡ cleared_by t (taken_from o b.now s)
      cleared true = clear_is env client (taken_from o b.now s) x (named_taken o client s b k) (taken_client o b.now s ∙ k.name) (taken_will o b.now s ∙ k.no_will)
      cleared false = refl

  module _ (d : MemberChoice) (env : Env) (l : BrokerLine) where
    joined : (ds : List Deed) (r : Records) (o : Option Session) → joins env l hello b.now ds r o ≡ joins (chosen d env) l hello b.now ds r o
    joined ds r (Some s) = refl
    joined ds r None = refl

    connected : prepare env hello b ≡ prepare (chosen d env) hello b → on_connect env l hello b ≡ on_connect (chosen d env) l hello b
    connected same = by (refusal hello b.records)
      where
        by : (o : Option ℕ) → connect_by o env l hello b ≡ connect_by o (chosen d env) l hello b
        by (Some code) = refl
        by None =
            let ds = prepare (chosen d env) hello b in
            let r = (after_all ds b).records in
            ap (λ (xs : List Deed). joins_after env l hello b.now xs (after_all xs b).records) same ∙ joined ds r (session_named client r)

-- ---- whatever it sends

module _ (limits : Capacity) (c d : MemberChoice) (now : ℕ) (r : Receiver) (b : Broker) where
  abbrev IsSameOf : ℕ → Back → Type 0
  IsSameOf n x = deeds limits c now (Input n (wire_back r.client r.window r.aliases x)) b ≡ deeds limits d now (Input n (wire_back r.client r.window r.aliases x)) b

  on_its_line : (n : ℕ) (x : Back) (s : Session) (l : BrokerLine) → l.number ≡ n → line_at n b ≡ Some l → l.session ≡ Some s.birth → IsKept r.client s b → IsSameOf n x
  on_its_line n x s l number at on k =
      let packet = wire_back r.client r.window r.aliases x in
      let there : line_at l.number b ≡ Some l = ap (λ (m : ℕ). line_at m b) number ∙ at in
      let same = heard d (env_of limits c b) l s (heard_of now l.number b) k.session on k.no_will k.no_end r.client r.window r.aliases x in
      subst (λ (m : ℕ). IsSameOf m x) number
      (input_is limits c now packet l s b there on k.session
      ∙ (ap (λ (ds : List Deed). On l.number Hear ∷ (ds ++ [])) same
      ∙ sym (input_is limits d now packet l s b there on k.session)))

  -- the CONNECT comes where its line waits for it
  first_of_line : (k : ℕ) (o : Option ℕ) (clean : Bool) (l : BrokerLine) → line_at l.number b ≡ Some l → l.session ≡ None → IsHis r.client o k b → IsNamed r.client → IsSameOf l.number (answers (connect clean))
  first_of_line k o clean l at waits his named =
      let env = env_of limits c b in
      let h = heard_of now l.number b in
      call_is limits c now clean r.client r.window r.aliases l b at waits
      ∙ (ap (λ (ds : List Deed). On l.number Hear ∷ (ds ++ [])) (connected clean r.client r.window r.aliases h d env l (prepared o his))
      ∙ sym (call_is limits d now clean r.client r.window r.aliases l b at waits))
    where
      prepared : (p : Option ℕ) → IsHis r.client p k b
          → prepare (env_of limits c b) (greeting clean r.client r.window r.aliases) (heard_of now l.number b) ≡ prepare (env_of limits d b) (greeting clean r.client r.window r.aliases) (heard_of now l.number b)
      prepared None none =
          let h = heard_of now l.number b in
          none_prepared clean r.client r.window r.aliases h (env_of limits c b) none ∙ sym (none_prepared clean r.client r.window r.aliases h (env_of limits d b) none)
      prepared (Some birth) own =
          let h = heard_of now l.number b in
          let x = kept_of r.client birth k b own.0 own.1 named.short named.plain in
          let s = x.0 in
          let a = x.2 in
          let kept : IsKept r.client s h = record { session = a.session; name = a.name; only = a.only; no_will = a.no_will; no_end = a.no_end; short = a.short; plain = a.plain } in
          its_prepared clean r.client r.window r.aliases h (env_of limits c b) (line_of s.birth h) s refl kept
          ∙ sym (its_prepared clean r.client r.window r.aliases h (env_of limits d b) (line_of s.birth h) s refl kept)

  -- what a receiver sends does the same whatever members are chosen
  pub deeds_same : (largest : ℕ) (ids : List CopyId) (ns : List ℕ) (n : ℕ) (x : Back) (rest : List Back) → IsPlaced largest ids ns r b → r.line.number ≡ Some n → r.line.up ≡ x ∷ rest
      → deeds limits c now (Input n (wire_back r.client r.window r.aliases x)) b ≡ deeds limits d now (Input n (wire_back r.client r.window r.aliases x)) b
  deeds_same largest ids ns n x rest placed number up = elim (front placed.birth placed.line x rest r b placed.seat.present up) [
    | inl j ↦ where_joined j
    | inr h ↦ where_waiting h.0 h.1
  ]
    where
      where_joined : IsJoined placed.birth placed.line r.line.number b → IsSameOf n x
      where_joined j =
          let own : IsHis r.client (Some j.birth) placed.line b = subst (λ (o : Option ℕ). IsHis r.client o placed.line b) j.own placed.seat.his in
          let k = kept_of r.client j.birth placed.line b own.0 own.1 placed.named.short placed.named.plain in
          let l = line_of_on placed.line (Some j.birth) b j.there in
          let both : Some n ≡ Some placed.line = sym number ∙ j.at in
          let same : n ≡ placed.line = cc in
          subst (λ (m : ℕ). IsSameOf m x) (sym same) (on_its_line placed.line x k.0 l.0 l.3 l.1 (l.2 ∙ ap Some (sym k.1)) k.2)

      where_waiting : (clean : Bool) → Connects clean x rest r.line.number b → IsSameOf n x
      where_waiting clean h =
          let both : Some n ≡ Some h.line.number = sym number ∙ h.awaits.number in
          let same : n ≡ h.line.number = cc in
          subst (λ (m : ℕ). IsSameOf m x) (sym same)
          (subst (λ (y : Back). IsSameOf h.line.number y) (sym h.packet)
          (first_of_line placed.line placed.birth clean h.line h.awaits.line h.awaits.waits placed.seat.his placed.named))
