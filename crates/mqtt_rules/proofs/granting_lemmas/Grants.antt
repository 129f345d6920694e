-- Whom a call grants aliases: the client whose CONNECT it brings, on its line.
use Rattle.std.proofs.Common.{◌≡◌, ℕ, ◌≤◌, Bool, true, false, List, [], ◌∷◌, ◌++◌, filter, map, nat_eq, Option, Some, None, subst, arith}
use Rattle.std.specs.Prelude.{⊤, suc, flat_map}
use Rattle.mqtt_base.specs.declared.session.Ending.TheVariants.{SessionEnded}
use Rattle.mqtt_packet.specs.declared.codec.packet.Packet.{Packet}
use Rattle.mqtt_packet.specs.declared.codec.packet.Packet.TheVariants as packets
use Rattle.mqtt_packet.specs.declared.connect.connect.Connect.{Connect as Greeting}
use Rattle.mqtt_topic.specs.names.Names.{is_empty}
use Rattle.mqtt_flow.specs.declared.outbound.entry.Turn.{Turn}
use Rattle.mqtt_flow.specs.declared.outbound.entry.Turn.TheVariants as turns
use Rattle.mqtt_flow.specs.outbound.Outbound.{way_made}
use Rattle.mqtt_records.specs.declared.messages.message.MessageCopy.{MessageCopy}
use Rattle.mqtt_records.specs.declared.messages.message.RetainedMessage.{RetainedMessage}
use Rattle.mqtt_records.specs.messages.Queue.{CopyRow}
use Rattle.mqtt_records.specs.declared.state.session.Session.{Session}
use Rattle.mqtt_records.specs.declared.state.records.Records.{Records}
use Rattle.mqtt_records.specs.lists.Order.{row_at}
use Rattle.mqtt_records.specs.state.Session.{copy_place}
use Rattle.mqtt_rules.specs.step.Packets.{publish_of}
use Rattle.mqtt_rules.specs.step.State.{Line, Broker, Env, is_of, line_of, queue_on, session_at}
use Rattle.mqtt_rules.specs.step.Deeds.{whose, Message, Origin, FromClient, Resume, Close, Open, Enter, Leave, Hear, Greet, SetAlias, Deed, Accept, Count, At, Finish, Forget, RefuseWill, Link, On, Send, Gone, after, after_all, always, series}
use Rattle.mqtt_rules.specs.step.Deeds as deeds
use Rattle.mqtt_rules.specs.step.Outbound.{leave_deeds, turn_deeds, since, queue_limits, enter_deeds}
use Rattle.mqtt_rules.specs.step.Routing.{CopyTo, next_publication, is_queued, deliver_by, deliver, retained_of, forgets, retain_by, publish}
use Rattle.mqtt_rules.specs.step.Closing.{end_session}
use Rattle.mqtt_rules.specs.step.Connect.{aliases_of, expiry_of, will_of, greet, begin_named}
use Rattle.mqtt_rules.specs.step.Fitting.{has_form, pump_turns}
use Rattle.mqtt_rules.specs.step.Inbound.{pump_deeds}
use Rattle.mqtt_rules.specs.step.Subscribe as sub
use Rattle.mqtt_rules.specs.step.Tick.{lapses, lapse_deeds}
use Rattle.mqtt_rules.specs.step.Step.{Call, NewLine, Input, BadInput, Lost, Pump, Tick, deeds_of, opening}
use Rattle.mqtt_rules.proofs.step_lemmas.acts.Offers.{of_offer_if}
use Rattle.mqtt_rules.proofs.step_lemmas.acts.Goods.{AreGood, good_append, good_flat, good_of_entry, good_with_session}
use Rattle.mqtt_rules.proofs.step_lemmas.acts.Leads.{Leads, found_passes}
use Rattle.mqtt_rules.proofs.step_lemmas.acts.Acts.{About, Finds, anyone, closing_session, closing_on, closing, brought_to, Law, leads_call, leads_opening}
use Rattle.mqtt_rules.proofs.step_lemmas.acts.OnLines.{found_number}
use Rattle.mqtt_rules.specs.granting.Granting.{TakesWithin}
use Rattle.mqtt_rules.proofs.granting_lemmas.Deeds.{AllName, topic_said}
use Rattle.mqtt_rules.specs.telling.Meaning.{GrantsNone, GrantsWithin}

-- a client on this line is greeted as one that is told so many topics by aliases at most
abbrev pub Grants : ℕ → ℕ → Deed → Broker → Type 0
Grants n most (On k (Greet birth keep_alive window largest granted)) b = nat_eq k n ≡ true → granted ≤ most
Grants n most d b = ⊤

abbrev Any : Broker → Type 0
Any b = ⊤

-- those lines, and what such packets bring
abbrev on_lines : (Line → Type 0) → (Packet → Type 0) → About
on_lines line packet = record anyone { line = line; packet = packet }

abbrev IsNoConnect : Packet → Type 0
IsNoConnect (packets.Connect c) = ⊥
IsNoConnect packet = ⊤

-- ---- acts that greet nobody

module _ (n most : ℕ) where
  abbrev Grant : Deed → Broker → Type 0
  Grant = Grants n most

  abbrev Within : List Deed → Broker → Type 0
  Within = AreGood Grant

  leave_within : (s : Session) (t : Turn) (b : Broker) → Within (leave_deeds s t) b
  leave_within s (turns.Leave place ending) b = good_of_entry Grant (row_at copy_place place s.queue) (λ e. At (whose s) (Leave e ending) ∷ []) b (λ e. (tt, tt))
  leave_within s t b = tt

  leaves_within : (s : Session) (ts : List Turn) (b : Broker) → Within (flat_map (leave_deeds s) ts) b
  leaves_within s ts b = good_flat Grant (leave_deeds s) (leave_within s) ts b

  turn_within : (now line : ℕ) (s : Session) (t : Turn) (b : Broker) → Within (turn_deeds now line s t) b
  turn_within now line s (turns.Send place id) b = good_of_entry Grant (row_at copy_place place s.queue) _ b (λ e. (tt, (tt, (tt, tt))))
  turn_within now line s (turns.Resend place id) b = good_of_entry Grant (row_at copy_place place s.queue) _ b (λ e. (tt, (tt, tt)))
  turn_within now line s (turns.Release place id order) b = (tt, (tt, tt))
  turn_within now line s (turns.Outgrow place id order) b = (tt, (tt, tt))
  turn_within now line s (turns.Repeat id) b = (tt, tt)
  turn_within now line s (turns.Unknown id) b = (tt, tt)
  turn_within now line s (turns.Leave place ending) b = leave_within s (turns.Leave place ending) b

  enter_within : (env : Env) (copy : MessageCopy) (s : Session) (b : Broker) → Within (enter_deeds env copy s) b
  enter_within env copy s b =
      let ts = way_made (queue_limits env) (since env s) (queue_on [] s) in
      good_append Grant (flat_map (leave_deeds s) ts) (At (whose s) (Enter copy) ∷ []) b (leaves_within s ts b) (tt, tt)

  deliver_within : (t : Bool) (env : Env) (d : CopyTo) (b : Broker) → Within (deliver_by t env d b) b
  deliver_within true env d b =
      good_with_session Grant (session_at d.birth b.records) (λ s. always (enter_deeds env d.copy s)) b (λ s e. enter_within env d.copy s b)
  deliver_within false env d b =
      of_offer_if (λ (ds : List Deed). Within ds b) (has_form d.copy b) (line_of d.birth b) (publish_of b.now false 0 d.copy) tt (λ l there. (tt, tt))

  deliveries_within : (env : Env) (ds : List CopyTo) (b : Broker) → Within (series (map (deliver env) ds) b) b
  deliveries_within env [] b = tt
  deliveries_within env (d ∷ ds) b =
      let first = deliver env d b in
      let c = after_all first b in
      good_append Grant first (series (map (deliver env) ds) c) b (deliver_within (is_queued d) env d b) (deliveries_within env ds c)

  forgets_within : (o : Option RetainedMessage) (b : Broker) → Within (forgets o) b
  forgets_within None b = tt
  forgets_within (Some k) b = (tt, tt)

  retain_within : (retain empty : Bool) (number : ℕ) (m : Message) (b : Broker) → Within (retain_by retain empty number m b) b
  retain_within false empty number m b = tt
  retain_within true true number m b = forgets_within (retained_of m.topic b.records) b
  retain_within true false number m b = (tt, tt)

  publish_within : (env : Env) (origin : Origin) (m : Message) (ds : List CopyTo) (b : Broker) → Within (publish env origin m ds b) b
  publish_within env origin m ds b =
      let number = next_publication b.records in
      let c = after (Accept number origin m) b in
      let next = retain_by m.retain (is_empty m.payload) number m c in (
        tt,
        good_append Grant next (series (map (deliver env) ds) (after_all next c)) c (retain_within m.retain (is_empty m.payload) number m c) (deliveries_within env ds (after_all next c)),
      )

  grants_within : (env : Env) (w : sub.Wish) (s : Session) (b : Broker) → Within (sub.granted_filter env (sub.next_number b.records) s w (brought_to w s b) b).deeds b
  grants_within env w s b =
      let first : List Deed = Count (sub.next_number b.records) ∷ At (whose s) (deeds.Subscribe (sub.subscription (sub.next_number b.records) s w)) ∷ [] in
      (tt, (tt, deliveries_within env (filter is_queued (brought_to w s b)) (after_all first b)))

  closed_within : (keeps_will : Bool) (now : ℕ) (o : Option Session) (b : Broker) → Within (closing_session keeps_will now o) b
  closed_within keeps_will now None b = tt
  closed_within true now (Some s) b = (tt, tt)
  closed_within false now (Some s) b = (tt, (tt, tt))

  closing_within : (keeps_will : Bool) (now : ℕ) (session : Option ℕ) (r : Records) (b : Broker) → Within (closing_on keeps_will now session r) b
  closing_within keeps_will now None r b = tt
  closing_within keeps_will now (Some birth) r b = closed_within keeps_will now (session_at birth r) b

  end_within : (s : Session) (q : List CopyRow) (b : Broker) → Within (map (λ e. At (whose s) (Leave e SessionEnded)) q ++ Finish (whose s) ∷ []) b
  end_within s [] b = (tt, tt)
  end_within s (e ∷ q) b = (tt, end_within s q (after (At (whose s) (Leave e SessionEnded)) b))

  led : (ds : List Deed) (b : Broker) → Within ds b → Leads Any Grant ds b
  led ds b good = (good, tt)

  -- a session begins on the line whose client is greeted
  begin_within : (t : Bool) (l : Line) (c : Greeting) (r : Records) (b : Broker) → (nat_eq l.number n ≡ true → aliases_of c ≤ most) → Within (begin_named t l c r) b
  begin_within false l c r b h = (tt, (h, (tt, tt)))
  begin_within true l c r b h = (tt, (tt, (h, (tt, tt))))

  -- if a CONNECT among the packets comes on a line that it may come on
  module _ (line : Line → Type 0) (packet : Packet → Type 0)
      (finds : (birth : ℕ) (l : Line) (b : Broker) → line_of birth b ≡ Some l → line l)
      (takes : (l : Line) (c : Greeting) → line l → l.session ≡ None → packet (packets.Connect c) → nat_eq l.number n ≡ true → aliases_of c ≤ most) where
    finds_on : Finds (on_lines line packet) Any
    finds_on = record {
      its_number = λ l its. tt;
      its_session = λ l birth its e. tt;
      its_line = λ birth l b k its e. finds birth l b e;
      named = λ client s b k its e. tt;
      admitted = λ c b k came e. tt;
      sent = λ l s p topic b k its came e. tt;
      willed = λ s w b k among e. tt;
    }

    law_within : (env : Env) → Law env (on_lines line packet) Any Grant
    law_within env = record {
      finds = finds_on;
      client_stays = λ client ds b k done its. tt;
      publishes = λ origin m ds b k said e. led (publish env origin m ds b) b (publish_within env origin m ds b);
      open_id = λ s id m ds b k h its there new is. led (At (whose s) (Open id) ∷ []) (after_all (publish env FromClient m ds b) b) (tt, tt);
      refuse_will = λ who b k its. led (RefuseWill who ∷ []) b (tt, tt);
      alone = λ who part b k its is. led (At who part ∷ []) b (tt, tt);
      closes = λ keeps_will l b k its on. led (closing keeps_will l b) b (tt, closing_within keeps_will b.now l.session b.records (after (Gone l.number) b));
      ends = λ s b k its among may. led (end_session s) b (end_within s s.queue b);
      resumes = λ l c s b k its none came taken own is prepared. led (At (whose s) (Resume (expiry_of c) (will_of c)) ∷ greet l c s.birth ∷ []) b (tt, (takes l c its none came, tt));
      begins = λ l c b k its none came taken name is room prepared. led (begin_named (is_empty c.client_identifier) l c b.records) b (begin_within (is_empty c.client_identifier) l c b.records b (takes l c its none came));
      grants = λ w s b k its asked granted. led (sub.granted_filter env (sub.next_number b.records) s w (brought_to w s b) b).deeds b (grants_within env w s b);
      pumps = λ l s b k its is there. led (pump_deeds l b s) b (good_flat Grant (turn_deeds b.now l.number s) (turn_within b.now l.number s) (pump_turns l b s) b);
      turns = λ a t l s b k its own there is e. led (turn_deeds b.now l.number s t) b (turn_within b.now l.number s t b);
      lapses = λ s b k among. led (lapse_deeds b.now s) b (leaves_within s (lapses b.now s) b);
      stale = λ x b k among. led (Forget x.place ∷ []) b (tt, tt);
      links = λ b k can. led (Link (suc b.given) ∷ []) b (tt, tt);
      hears = λ m b k its. led (On m Hear ∷ []) b (tt, tt);
      sets = λ m alias topic b k its said. led (On m (SetAlias alias topic) ∷ []) b (tt, tt);
      sends = λ m x b k its. led (Send m x ∷ []) b (tt, tt);
    }

  -- ---- calls and openings

  all_lines : Line → Type 0
  all_lines l = ⊤

  -- without a CONNECT
  law_without : (env : Env) → Law env (on_lines (λ l. ⊤) IsNoConnect) Any Grant
  law_without env = law_within (λ l. ⊤) IsNoConnect (λ birth l b e. tt) (λ l c its none came here. absurd came) env

  -- with one on the line k
  abbrev CameOn : ℕ → Line → Type 0
  CameOn k l = l.session ≡ None → l.number ≡ k

  connected : (k birth : ℕ) (l : Line) (b : Broker) → line_of birth b ≡ Some l → CameOn k l
  connected k birth l b e none =
      let on : is_of l.session birth ≡ true = found_passes (λ (x : Line). is_of x.session birth) l b.lines e in
      let clash : is_of None birth ≡ true = subst (λ (o : Option ℕ). is_of o birth ≡ true) none on in
      absurd cc

  law_on : (k : ℕ) (env : Env) → Law env (on_lines (CameOn k) (λ x. TakesWithin n most (Input k x))) Any Grant
  law_on k env = law_within (CameOn k) (λ x. TakesWithin n most (Input k x)) (connected k)
      (λ l c its none came here. came (subst (λ (m : ℕ). nat_eq m n ≡ true) (its none) here)) env

  -- a call greets the client whose CONNECT it brings, on its line, as one that is told as many topics as it takes at most
  pub call_grants : (env : Env) (call : Call) (b : Broker) → TakesWithin n most call → AreGood (Grants n most) (deeds_of env call b) b
  call_grants env NewLine b h = (leads_call env (on_lines (λ l. ⊤) IsNoConnect) Any Grant (law_without env) NewLine b tt tt).0
  call_grants env (Input k x) b h =
      (leads_call env (on_lines (CameOn k) (λ y. TakesWithin n most (Input k y))) Any Grant (law_on k env) (Input k x) b tt ((λ l e none. found_number k l b.lines e), h)).0
  call_grants env (BadInput k is_connect code) b h =
      (leads_call env (on_lines (λ l. ⊤) IsNoConnect) Any Grant (law_without env) (BadInput k is_connect code) b tt (λ l e. tt)).0
  call_grants env (Lost k) b h = (leads_call env (on_lines (λ l. ⊤) IsNoConnect) Any Grant (law_without env) (Lost k) b tt (λ l e. tt)).0
  call_grants env (Pump k) b h = (leads_call env (on_lines (λ l. ⊤) IsNoConnect) Any Grant (law_without env) (Pump k) b tt (λ l e. tt)).0
  call_grants env Tick b h =
      (leads_call env (on_lines (λ l. ⊤) IsNoConnect) Any Grant (law_without env) Tick b tt (record { silent = λ l e. tt; wills = λ s e. tt; ends = λ s e. tt })).0

  -- an opening greets nobody
  pub opening_grants : (env : Env) (b : Broker) → AreGood (Grants n most) (opening env b) b
  opening_grants env b =
      (leads_opening env (on_lines (λ l. ⊤) IsNoConnect) Any Grant (law_without env) (λ s c k is. led (At (whose s) (Close c.now) ∷ []) c (tt, tt)) (λ birth. tt) b tt).0

  -- ---- what is asked where packets go out in forms

  -- such deeds grant the client on the line no more, if each PUBLISH that they send names its topic
  pub grants_within_most : (ds : List Deed) (b : Broker) → AllName ds → AreGood (Grants n most) ds b → GrantsWithin n most ds
  grants_within_most [] b h q = tt
  grants_within_most (On k (Greet birth keep_alive window largest granted) ∷ ds) b h q =
      (q.0, grants_within_most ds (after (On k (Greet birth keep_alive window largest granted)) b) h.1 q.1)
  grants_within_most (Send k x ∷ ds) b h q = (topic_said x h.0, grants_within_most ds (after (Send k x) b) h.1 q.1)
  grants_within_most (d ∷ ds) b h q = grants_within_most ds (after d b) h.1 q.1

-- nor any, if it takes none
pub grants_none : (n : ℕ) (ds : List Deed) (b : Broker) → AreGood (Grants n 0) ds b → GrantsNone n ds
grants_none n [] b q = tt
grants_none n (On k (Greet birth keep_alive window largest granted) ∷ ds) b q =
    ((λ here. let few = q.0 here in omega (arith, few)), grants_none n ds (after (On k (Greet birth keep_alive window largest granted)) b) q.1)
grants_none n (d ∷ ds) b q = grants_none n ds (after d b) q.1
