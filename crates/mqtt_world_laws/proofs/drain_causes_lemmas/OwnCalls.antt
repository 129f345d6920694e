-- What a receiver's line is pumped or read for, wherever the receiver is: by it only the receiver's copies end, for what ends them in
-- a drain.
use Rattle.std.proofs.Common.{◌≡◌, ℕ, suc, Bool, true, false, List, [], ◌∷◌, ◌++◌, map, length, Option, Some, None, nat_eq, nat_lt, refl, sym, ap, subst, ◌∙◌, arith, inl, inr}
use Rattle.std.specs.Prelude.{⊤, Ok, Err, cond, option_map}
use Rattle.std.proofs.lemmas.Bool.{cases_Bool, eqb-true}
use Rattle.mqtt_base.specs.Codes.{protocol_error, quota_exceeded, success}
use Rattle.mqtt_base.specs.declared.session.CopyId.{CopyId}
use Rattle.mqtt_base.specs.declared.session.Ending.TheVariants.{SessionEnded}
use Rattle.mqtt_packet.specs.declared.codec.packet.Packet.TheVariants as packets
use Rattle.mqtt_packet.specs.declared.connect.connect.Connect.{Connect as Greeting}
use Rattle.mqtt_flow.specs.outbound.Outbound.{Answer, due_from, is_refusal, pace}
use Rattle.mqtt_flow.specs.outbound.Outbound as rules
use Rattle.mqtt_flow.specs.outbound.Queue.{holder, is_holder, next_order}
use Rattle.mqtt_flow.specs.outbound.Receiver.{connect, puback, pubcomp, pubrec}
use Rattle.mqtt_flow.specs.declared.outbound.entry.Entry.{Entry as FlowEntry}
use Rattle.mqtt_flow.specs.declared.outbound.entry.Turn.TheVariants as turns
use Rattle.mqtt_flow.specs.inbound.Identifiers.{is_among}
use Rattle.mqtt_records.specs.messages.Queue.{CopyRow}
use Rattle.mqtt_world_model.specs.model.Ends.{Back, Receiver, answers, asks_for, wire_back}
use Rattle.mqtt_world_model.specs.model.Hops.{IsKept, IsTaken}
use Rattle.mqtt_world_model.specs.model.Seats.{Glance, IsHis, IsNamed, Present, absent, closed, connected_at, glance, glance_at, joined, waiting, waits_there}
use Rattle.mqtt_world_model.proofs.model_lemmas.connects.CleanConnects.{clear_is}
use Rattle.mqtt_world_model.proofs.model_lemmas.others.Lists.{all_find}
use Rattle.mqtt_world_model.proofs.model_lemmas.connects.Connects.{left_by, named_taken, prepare_front, taken_client, taken_from, taken_will}
use Rattle.mqtt_world_model.proofs.model_lemmas.seats.OwnSeats.{line_of_on}
use Rattle.mqtt_world_model.proofs.model_lemmas.own.OwnStep.{heard_of, input_is}
use Rattle.mqtt_world_model.proofs.model_lemmas.own.Publishes.{act_none, drop_is}
use Rattle.mqtt_world_model.proofs.model_lemmas.seats.Seats.{kept_of}
use Rattle.mqtt_records.specs.declared.state.records.Records.{Records}
use Rattle.mqtt_records.specs.declared.state.session.Session.{Session}
use Rattle.mqtt_rules.proofs.step_lemmas.numbers.Copies.{each_append}
use Rattle.mqtt_rules.proofs.step_lemmas.acts.Leads.{found_passes}
use Rattle.mqtt_rules.specs.step.Closing.{drop_line, end_session, never, settle}
use Rattle.mqtt_rules.specs.step.Connect.{begin_named, clear, connect_by, joins, largest_of, of_client, on_connect, prepare, refusal, refusal_size, refused, resume, take_over}
use Rattle.mqtt_rules.specs.step.Deeds.{Act, At, Deed, Finish, Gone, Leave, Send, after_all, always, only_if, whose, with_line, with_session}
use Rattle.mqtt_rules.specs.step.Inbound.{on_answer, pump_deeds}
use Rattle.mqtt_rules.specs.step.Outbound.{all_turn_deeds, way_of}
use Rattle.mqtt_rules.specs.step.Packets.{connack}
use Rattle.mqtt_rules.specs.step.State.{Line as BrokerLine, Broker, Env, MemberChoice, is_of, line_at, line_of, queue_on, session_at, session_named, told_on}
use Rattle.mqtt_rules.specs.step.Step.{Call, Input, Pump, at_moment, deeds, env_of, next_packet, on_pump}
use Rattle.mqtt_rules.specs.declared.step.Capacity.{Capacity}
use Rattle.mqtt_rules.specs.step.Fitting.{fitted, pump_turns, size_at, sized}
use Rattle.mqtt_world_laws.proofs.receiver_lemmas.queue.Pumps.{its_session}
use Rattle.mqtt_world_laws.proofs.receiver_lemmas.connects.Resuming.{call_is, greeting}
use Rattle.mqtt_world_laws.specs.delivery.Standing.{IsPlaced, line_like}
use Rattle.mqtt_world_laws.proofs.delivery_lemmas.own.Fronts.{Connects, IsJoined, front}
use Rattle.mqtt_world_laws.specs.drain_causes.DrainEnds.{StartsClean}
use Rattle.mqtt_world_laws.proofs.drain_causes_lemmas.OwnEnds.{AreFit, AreOwn, IsFit, IsOwn, IsWellAnswer, own_cond, own_turn, own_turns, pump_well, puback_well, pubcomp_well, pubrec_well}
use Rattle.mqtt_world_laws.proofs.drain_causes_lemmas.FormsFit.{forms_fit}
use Rattle.mqtt_world_laws.proofs.drain_causes_lemmas.OwnWishes.{subscribe_own}

-- an answer of a receiver says that all is well
abbrev pub SaysWell : Back → Type 0
SaysWell (answers (connect clean)) = ⊤
SaysWell (answers (puback i code)) = code ≡ success
SaysWell (answers (pubrec i code)) = code ≡ success
SaysWell (answers (pubcomp i code)) = ⊤
SaysWell (asks_for w) = ⊤

-- ---- on a line on which its session is connected

module _ (large : Type 0) (client : List ℕ) (call : Option Call) (env : Env) (l : BrokerLine) (s : Session) (b : Broker) (at : session_at s.birth b.records ≡ Some s) (on : l.session ≡ Some s.birth) (no_will : s.will ≡ None) (no_end : s.expiry ≡ never) (its : s.client ≡ client) (fit : AreFit large l.largest (queue_on l.went s)) where
  line_dropped : (code : ℕ) → AreOwn large client call (drop_line env code l b)
  line_dropped code = subst (AreOwn large client call) (sym (drop_is env code l s b at on no_will no_end)) (tt, (tt, (tt, tt)))

  answered : (a : Answer) → IsWellAnswer large client call a → AreOwn large client call (on_answer a env l s b)
  answered (Ok None) h = tt
  answered (Ok (Some t)) h = own_turn large client call b.now l.number s t its h
  answered (Err fault) h = line_dropped protocol_error

  well : (code : ℕ) → code ≡ success → is_refusal code ≡ false
  well code is = ap is_refusal is

  heard : (window aliases : ℕ) (x : Back) → SaysWell x → ((number : ℕ) → call ≡ Some (Input number (wire_back client window aliases x)) → AreOwn large client call (next_packet env l (wire_back client window aliases x) s b))
  heard window aliases (answers (connect clean)) h number asked = line_dropped protocol_error
  heard window aliases (answers (puback i code)) h number asked = answered (rules.puback i code (queue_on l.went s)) (puback_well large client call code (holder i (queue_on l.went s)) (well code h))
  heard window aliases (answers (pubrec i code)) h number asked = answered (rules.pubrec i code (queue_on l.went s)) (pubrec_well large client call i code (next_order (queue_on l.went s)) (holder i (queue_on l.went s)) (well code h))
  heard window aliases (answers (pubcomp i code)) h number asked = answered (rules.pubcomp i (queue_on l.went s)) (pubcomp_well large client call (holder i (queue_on l.went s)) (λ e there. (all_find (λ (x : FlowEntry). IsFit large l.largest x.phase x.copy.size) (λ (x : FlowEntry). is_holder i x.phase) e (queue_on l.went s) fit there).0.released))
  heard window aliases (asks_for w) h number asked = subscribe_own large client call (record { number = number; packet = _; asked = asked }) (is_among 1 s.inbound) env l.number s _ b at its

-- ---- a CONNECT

not_next : (n : ℕ) → nat_eq n (suc n) ≡ false
not_next n = elim (cases_Bool (nat_eq n (suc n))) [
  | inl same ↦ let is : n ≡ suc n = eqb-true n (suc n) same in absurd (omega (arith, is))
  | inr other ↦ other
]

-- whatever line its session is connected on, some line is another
some_taken : (o : Option BrokerLine) (birth : ℕ) (b : Broker) → line_of birth b ≡ o → (n : ℕ) × IsTaken o birth n
some_taken None birth b is = (0, record { connected = λ l e. absurd cc; another = λ l e. absurd cc })
some_taken (Some x) birth b is = (
  suc x.number,
  record {
    connected = λ l e. its_session l.session birth (found_passes (λ (y : BrokerLine). is_of y.session birth) l b.lines (is ∙ e));
    another = λ l e. let same : x ≡ l = cc in ap (λ (y : BrokerLine). nat_eq y.number (suc x.number)) (sym same) ∙ not_next x.number;
  },
)

abbrev cleared_by : Bool → Session → List Deed
cleared_by true s = end_session s
cleared_by false s = []

module _ (large : Type 0) (clean : Bool) (client : List ℕ) (window aliases : ℕ) (b : Broker) where
  abbrev hello : Greeting
  hello = greeting clean client window aliases

  -- no session of its name stands
  none_prepared : (env : Env) → session_named client b.records ≡ None → prepare env hello b ≡ []
  none_prepared env none =
      let first : Act = of_client client (take_over env) in
      let second : Act = of_client client (λ z. settle env z.birth) in
      let third : Act = only_if clean (of_client client (clear env)) in
      act_none first (second ∷ third ∷ []) b (ap (λ (z : Option Session). with_session z (take_over env) b) none)
      ∙ (act_none second (third ∷ []) b (ap (λ (z : Option Session). with_session z (λ y. settle env y.birth) b) none) ∙ act_none third [] b (none_cleared clean))
    where
      none_cleared : (t : Bool) → only_if t (of_client client (clear env)) b ≡ []
      none_cleared true = ap (λ (z : Option Session). with_session z (clear env) b) none
      none_cleared false = refl

  -- one does
  its_prepared : (env : Env) (o : Option BrokerLine) (s : Session) → line_of s.birth b ≡ o → IsKept client s b → prepare env hello b ≡ left_by o s b.now ++ (cleared_by clean (taken_from o b.now s) ++ [])
  its_prepared env o s is k =
      let t = some_taken o s.birth b is in
      prepare_front o env client s t.0 b (only_if clean (of_client client (clear env)) ∷ []) is t.1 k
      ∙ ap (λ (ds : List Deed). left_by o s b.now ++ (ds ++ [])) (cleared clean)
    where
      x : Broker
      x = after_all (left_by o s b.now) b

      cleared : (t : Bool) → only_if t (of_client client (clear env)) x ≡ cleared_by t (taken_from o b.now s)
      cleared true = clear_is env client (taken_from o b.now s) x (named_taken o client s b k) (taken_client o b.now s ∙ k.name) (taken_will o b.now s ∙ k.no_will)
      cleared false = refl

  module _ (call : Option Call) (number : ℕ) (asked : call ≡ Some (Input number (packets.Connect hello))) (env : Env) (l : BrokerLine) where
    own_left : (o : Option BrokerLine) (s : Session) (now : ℕ) → AreOwn large client call (left_by o s now)
    own_left None s now = tt
    own_left (Some x) s now = (tt, (tt, (tt, tt)))

    own_ends : (s : Session) (es : List CopyRow) → s.client ≡ client → StartsClean client call → AreOwn large client call (map (λ e. At (whose s) (Leave e SessionEnded)) es ++ Finish (whose s) ∷ [])
    own_ends s [] its starts = (tt, tt)
    own_ends s (e ∷ es) its starts = ((its, starts), own_ends s es its starts)

    own_cleared : (t : Bool) (s : Session) → clean ≡ t → s.client ≡ client → AreOwn large client call (cleared_by t s)
    own_cleared false s is its = tt
    own_cleared true s is its = own_ends s s.queue its (record { number = number; packet = hello; asked = asked; clean = is; named = refl })

    own_prepared : (o : Option BrokerLine) (s : Session) → line_of s.birth b ≡ o → IsKept client s b → AreOwn large client call (prepare env hello b)
    own_prepared o s is k =
        let x = taken_from o b.now s in
        subst (AreOwn large client call) (sym (its_prepared env o s is k))
        (each_append (IsOwn large client call) (left_by o s b.now) (cleared_by clean x ++ []) (own_left o s b.now)
        (each_append (IsOwn large client call) (cleared_by clean x) [] (own_cleared clean x refl (taken_client o b.now s ∙ k.name)) tt))

    own_refused : (code : ℕ) → AreOwn large client call (refused l hello code)
    own_refused code = each_append (IsOwn large client call) (cond (nat_lt (largest_of hello) refusal_size) [] (Send l.number (connack false code []) ∷ [])) (Gone l.number ∷ [])
        (own_cond large client call (nat_lt (largest_of hello) refusal_size) [] (Send l.number (connack false code []) ∷ []) tt (tt, tt)) (tt, tt)

    own_repeats : {X : Type 0} (now line : ℕ) (s : Session) (id : X → ℕ) (xs : List X) → AreOwn large client call (all_turn_deeds now line s (map (λ x. turns.Repeat (id x)) xs))
    own_repeats now line s id [] = tt
    own_repeats now line s id (x ∷ xs) = (tt, own_repeats now line s id xs)

    own_begin : (t : Bool) (r : Records) → AreOwn large client call (begin_named t l hello r)
    own_begin false r = (tt, (tt, (tt, tt)))
    own_begin true r = (tt, (tt, (tt, (tt, tt))))

    own_joins : (ds : List Deed) (r : Records) (o : Option Session) → AreOwn large client call ds → AreOwn large client call (joins env l hello b.now ds r o)
    own_joins ds r (Some s) h = each_append (IsOwn large client call) ds (resume l hello b.now s) h (tt, (tt, (tt, own_repeats b.now l.number s (λ d. d.identifier) (due_from [] (queue_on [] s)))))
    own_joins ds r None h = own_cond large client call (nat_lt (length r.sessions) env.limits.sessions) (ds ++ begin_named _ l hello r) (refused l hello quota_exceeded)
        (each_append (IsOwn large client call) ds (begin_named _ l hello r) h (own_begin _ r)) (own_refused quota_exceeded)

    own_connect : AreOwn large client call (prepare env hello b) → AreOwn large client call (on_connect env l hello b)
    own_connect h = by (refusal hello b.records)
      where
        by : (o : Option ℕ) → AreOwn large client call (connect_by o env l hello b)
        by (Some code) = own_refused code
        by None = let ds = prepare env hello b in let r = (after_all ds b).records in own_joins ds r (session_named client r) h

-- ---- whatever it sends

-- the copies of its session fit on the line on which it is connected, but if this holds
abbrev pub HasFit : Type 0 → Receiver → Broker → Type 0
HasFit large r b =
    (n : ℕ) (l : BrokerLine) (birth : ℕ) (s : Session) → r.line.number ≡ Some n → line_at n b ≡ Some l → l.session ≡ Some birth → session_at birth b.records ≡ Some s → s.client ≡ r.client
    → AreFit large l.largest (queue_on l.went s)

module _ (large : Type 0) (limits : Capacity) (choice : MemberChoice) (now : ℕ) (r : Receiver) (b : Broker) (fits : HasFit large r b) where
  abbrev IsOwnCall : Call → Type 0
  IsOwnCall call = AreOwn large r.client (Some call) (deeds limits choice now call b)

  on_its_line : (n : ℕ) (x : Back) (s : Session) (l : BrokerLine) → r.line.number ≡ Some n → l.number ≡ n → line_at n b ≡ Some l → l.session ≡ Some s.birth → IsKept r.client s b → SaysWell x → IsOwnCall (Input n (wire_back r.client r.window r.aliases x))
  on_its_line n x s l its number at on k says =
      let packet = wire_back r.client r.window r.aliases x in
      let there : line_at l.number b ≡ Some l = ap (λ (m : ℕ). line_at m b) number ∙ at in
      let h = heard_of now l.number b in
      let ds = heard large r.client (Some (Input l.number packet)) (env_of limits choice b) l s h k.session on k.no_will k.no_end k.name (fits n l s.birth s its at on k.session k.name) r.window r.aliases x says l.number refl in
      subst (λ (m : ℕ). IsOwnCall (Input m packet)) number
      (subst (AreOwn large r.client (Some (Input l.number packet))) (sym (input_is limits choice now packet l s b there on k.session))
      (tt, each_append (IsOwn large r.client (Some (Input l.number packet))) (next_packet (env_of limits choice b) l packet s h) [] ds tt))

  -- the CONNECT comes where its line waits for it
  first_of_line : (k : ℕ) (o : Option ℕ) (clean : Bool) (l : BrokerLine) → line_at l.number b ≡ Some l → l.session ≡ None → IsHis r.client o k b → IsNamed r.client → IsOwnCall (Input l.number (wire_back r.client r.window r.aliases (answers (connect clean))))
  first_of_line k o clean l at waits his named =
      let env = env_of limits choice b in
      let h = heard_of now l.number b in
      let call = Some (Input l.number (packets.Connect (greeting clean r.client r.window r.aliases))) in
      subst (AreOwn large r.client call) (sym (call_is limits choice now clean r.client r.window r.aliases l b at waits))
      (tt, each_append (IsOwn large r.client call) (on_connect env l (greeting clean r.client r.window r.aliases) h) [] (own_connect large clean r.client r.window r.aliases h call l.number refl env l (prepared o his)) tt)
    where
      prepared : (p : Option ℕ) → IsHis r.client p k b
          → AreOwn large r.client (Some (Input l.number (packets.Connect (greeting clean r.client r.window r.aliases)))) (prepare (env_of limits choice b) (greeting clean r.client r.window r.aliases) (heard_of now l.number b))
      prepared None none = subst (AreOwn large r.client _) (sym (none_prepared large clean r.client r.window r.aliases (heard_of now l.number b) (env_of limits choice b) none)) tt
      prepared (Some birth) own =
          let h = heard_of now l.number b in
          let x = kept_of r.client birth k b own.0 own.1 named.short named.plain in
          let s = x.0 in
          let a = x.2 in
          let kept : IsKept r.client s h = record { session = a.session; name = a.name; only = a.only; no_will = a.no_will; no_end = a.no_end; short = a.short; plain = a.plain } in
          own_prepared large clean r.client r.window r.aliases h (Some (Input l.number (packets.Connect (greeting clean r.client r.window r.aliases)))) l.number refl (env_of limits choice b) l (line_of s.birth h) s refl kept

  module _ (largest : ℕ) (ids : List CopyId) (ns : List ℕ) (placed : IsPlaced largest ids ns r b) where
    -- by what a receiver sends only its own copies end, for what ends them in a drain
    pub input_own : (n : ℕ) (x : Back) (rest : List Back) → r.line.number ≡ Some n → r.line.up ≡ x ∷ rest → SaysWell x → IsOwnCall (Input n (wire_back r.client r.window r.aliases x))
    input_own n x rest number up says = elim (front placed.birth placed.line x rest r b placed.seat.present up) [
      | inl j ↦ where_joined j
      | inr h ↦ where_waiting h.0 h.1
    ]
      where
        where_joined : IsJoined placed.birth placed.line r.line.number b → IsOwnCall (Input n (wire_back r.client r.window r.aliases x))
        where_joined j =
            let own : IsHis r.client (Some j.birth) placed.line b = subst (λ (o : Option ℕ). IsHis r.client o placed.line b) j.own placed.seat.his in
            let k = kept_of r.client j.birth placed.line b own.0 own.1 placed.named.short placed.named.plain in
            let l = line_of_on placed.line (Some j.birth) b j.there in
            let both : Some n ≡ Some placed.line = sym number ∙ j.at in
            let same : n ≡ placed.line = cc in
            subst (λ (m : ℕ). IsOwnCall (Input m (wire_back r.client r.window r.aliases x))) (sym same) (on_its_line placed.line x k.0 l.0 j.at l.3 l.1 (l.2 ∙ ap Some (sym k.1)) k.2 says)

        where_waiting : (clean : Bool) → Connects clean x rest r.line.number b → IsOwnCall (Input n (wire_back r.client r.window r.aliases x))
        where_waiting clean h =
            let both : Some n ≡ Some h.line.number = sym number ∙ h.awaits.number in
            let same : n ≡ h.line.number = cc in
            subst (λ (m : ℕ). IsOwnCall (Input m (wire_back r.client r.window r.aliases x))) (sym same)
            (subst (λ (y : Back). IsOwnCall (Input h.line.number (wire_back r.client r.window r.aliases y))) (sym h.packet)
            (first_of_line placed.line placed.birth clean h.line h.awaits.line h.awaits.waits placed.seat.his placed.named))

    -- ---- a turn of sending

    abbrev c : Broker
    c = at_moment now b

    -- whatever its client was told, rows that fit with whole topics fit by forms
    own_pump : (n : ℕ) (l : BrokerLine) (s : Session) → s.client ≡ r.client → AreFit large l.largest (queue_on l.went s) → AreOwn large r.client (Some (Pump n)) (pump_deeds l c s)
    own_pump n l s its fit =
        let told = told_on l.number c.tellings in
        let rows = map (sized (size_at (fitted l c.now told s.queue)) l.went) s.queue in
        own_turns large r.client (Some (Pump n)) c.now l.number s (pump_turns l c s) its
        (pump_well large r.client (Some (Pump n)) (way_of l c.now) rows (pace (way_of l c.now) rows) (forms_fit large l c.now told s fit))

    its_line : (n : ℕ) (l : BrokerLine) (birth : ℕ) (s : Session) → r.line.number ≡ Some n → line_at n b ≡ Some l → l.session ≡ Some birth → session_at birth b.records ≡ Some s → s.client ≡ r.client
    its_line n l birth s number at on there = by placed.seat.present
      where
        by : Present placed.birth placed.line (line_like r.line) b → s.client ≡ r.client
        by (absent none up) = let no : None ≡ Some n = sym none ∙ number in absurd cc
        by (closed k is up idle none) =
            let both : Some k ≡ Some n = sym is ∙ number in
            let same : k ≡ n = cc in
            let no : Some (glance l) ≡ None = sym (ap (option_map glance) at) ∙ subst (λ (m : ℕ). glance_at m b.lines ≡ None) same none in
            absurd cc
        by (waiting k clean is link_is clean_is up down idle waits) =
            let both : Some k ≡ Some n = sym is ∙ number in
            let same : k ≡ n = cc in
            let seen : Some (glance l) ≡ waits_there = sym (ap (option_map glance) at) ∙ subst (λ (m : ℕ). glance_at m b.lines ≡ waits_there) same waits in
            let nobody : Some l.session ≡ Some None = ap (option_map (λ (g : Glance). g.session)) seen in
            let none : l.session ≡ None = cc in
            let no : Some birth ≡ None = sym on ∙ none in
            absurd cc
        by (joined own_birth own is connected) =
            let both : Some placed.line ≡ Some n = sym is ∙ number in
            let same : placed.line ≡ n = cc in
            let at_n : connected_at n b.lines ≡ Some (Some own_birth) = subst (λ (m : ℕ). connected_at m b.lines ≡ Some (Some own_birth)) same connected in
            let sessions : Some l.session ≡ Some (Some own_birth) = sym (ap (option_map (λ (y : BrokerLine). y.session)) at) ∙ at_n in
            let session : l.session ≡ Some own_birth = cc in
            let births : Some birth ≡ Some own_birth = sym on ∙ session in
            let birth_is : birth ≡ own_birth = cc in
            let his : IsHis r.client (Some own_birth) placed.line b = subst (λ (o : Option ℕ). IsHis r.client o placed.line b) own placed.seat.his in
            let k = kept_of r.client own_birth placed.line b his.0 his.1 placed.named.short placed.named.plain in
            let found : session_at birth b.records ≡ Some k.0 = ap (λ (m : ℕ). session_at m b.records) (birth_is ∙ sym k.1) ∙ k.2.session in
            let sames : Some s ≡ Some k.0 = sym there ∙ found in
            let it : s ≡ k.0 = cc in
            ap (λ (y : Session). y.client) it ∙ k.2.name

    -- by a turn of sending on its line only a receiver's own copies end, for what ends them in a drain
    pub pump_own : (n : ℕ) → r.line.number ≡ Some n → IsOwnCall (Pump n)
    pump_own n number = on_line (line_at n b) refl
      where
        on_line : (o : Option BrokerLine) → line_at n b ≡ o → AreOwn large r.client (Some (Pump n)) (with_line o (λ l. on_pump l l.session) (at_moment now b))
        on_line None at = tt
        on_line (Some l) at = on_session l.session refl
          where
            on_session : (o : Option ℕ) → l.session ≡ o → AreOwn large r.client (Some (Pump n)) (on_pump l o (at_moment now b))
            on_session None on = tt
            on_session (Some birth) on = found (session_at birth b.records) refl
              where
                found : (o : Option Session) → session_at birth b.records ≡ o → AreOwn large r.client (Some (Pump n)) (with_session o (λ s. always (pump_deeds l (at_moment now b) s)) (at_moment now b))
                found None there = tt
                found (Some s) there =
                    let its = its_line n l birth s number at on there in
                    own_pump n l s its (fits n l birth s number at on there its)
