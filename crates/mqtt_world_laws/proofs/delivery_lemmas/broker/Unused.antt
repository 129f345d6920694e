-- If nobody is connected on a line, no copy went out on it, after each call and each opening: a copy goes out only as the broker
-- sends on a session's line, and no line loses its session before it goes (MQTT 5.0, 3.1, 3.1.4).
use Rattle.std.proofs.Common.{◌≡◌, ℕ, suc, ◌≤◌, Bool, true, false, cond, not, ◌⊎◌, List, [], ◌∷◌, ◌++◌, filter, map, Option, Some, None, nat_eq, refl, sym, ap, subst, ◌∙◌, arith, inl, inr}
use Rattle.std.specs.Prelude.{⊤, find, flat_map, is_some, length, nat_lt}
use Rattle.std.specs.List.{AllByRecursion}
use Rattle.std.proofs.lemmas.Bool.{cases_Bool, eqb-true}
use Rattle.mqtt_base.specs.Codes.{protocol_error, quota_exceeded, success}
use Rattle.mqtt_base.specs.declared.session.Ending.TheVariants.{SessionEnded}
use Rattle.mqtt_packet.specs.declared.codec.packet.Packet.{Packet}
use Rattle.mqtt_packet.specs.declared.codec.packet.Packet.TheVariants as packets
use Rattle.mqtt_packet.specs.declared.connect.connect.Connect.{Connect as Greeting}
use Rattle.mqtt_flow.specs.outbound.Outbound.{due_from, way_made}
use Rattle.mqtt_flow.specs.outbound.Outbound as rules
use Rattle.mqtt_flow.specs.outbound.Queue.{holder, next_order}
use Rattle.mqtt_flow.specs.declared.outbound.entry.Turn.{Turn}
use Rattle.mqtt_flow.specs.declared.outbound.entry.Turn.TheVariants as turns
use Rattle.mqtt_flow.specs.inbound.Identifiers.{ids_without}
use Rattle.mqtt_world_model.proofs.model_lemmas.others.Lists.{all_find}
use Rattle.mqtt_world_model.proofs.model_lemmas.seats.Seeing.{done_lines}
use Rattle.mqtt_records.specs.declared.messages.message.MessageCopy.{MessageCopy}
use Rattle.mqtt_records.specs.declared.messages.message.RetainedMessage.{RetainedMessage}
use Rattle.mqtt_records.specs.state.Session.{copy_place}
use Rattle.mqtt_records.specs.declared.state.records.Records.{Records}
use Rattle.mqtt_records.specs.declared.state.session.Session.{Session}
use Rattle.mqtt_records.specs.lists.Order.{row_at}
use Rattle.mqtt_rules.proofs.step_lemmas.acts.Acts.{About as Whom, IsAnswer, IsCallOf, Law, brought_to, closing, closing_on, closing_session, leads_call, leads_drop, leads_opening, leads_prepare, leads_refused}
use Rattle.mqtt_rules.proofs.step_lemmas.acts.OnLines.{IsOn, found_on, stays_on}
use Rattle.mqtt_rules.proofs.step_lemmas.flight.FlightRows.{all_found, all_more, found_key}
use Rattle.mqtt_rules.proofs.step_lemmas.acts.Goods.{AreGood, GoodAct, after_append, good_acts, good_append, good_flat, good_map, good_of_entry, good_series, good_with_session}
use Rattle.mqtt_rules.proofs.step_lemmas.acts.Leads.{Leads, found_among, leads_good}
use Rattle.mqtt_rules.proofs.step_lemmas.numbers.NumberBirths.{below_found}
use Rattle.mqtt_rules.specs.step.Closing.{drop_line, end_session}
use Rattle.mqtt_rules.specs.step.Connect.{begin_named, connect_by, joins, largest_of, on_connect, prepare, refusal, refused, resume, window_of}
use Rattle.mqtt_rules.specs.step.Deeds.{At, Close, Count, Deed, Enter, Finish, Forget, FromClient, Gone, Greet, Hear, Leave, LinePart, Link, Message, On, Open, Origin, Part, RefuseWill, Send, SetAlias, Went, after, after_all, always, fresh_line, given_after, line_after, lines_after, lines_at, on_line, rows_of_all, series, whose, with_line, with_session, without_place}
use Rattle.mqtt_rules.specs.step.Deeds as deeds
use Rattle.mqtt_rules.proofs.step_lemmas.acts.Offers.{of_offer_if}
use Rattle.mqtt_rules.specs.step.Fitting.{has_form, pump_turns}
use Rattle.mqtt_rules.specs.step.Inbound.{pump_deeds}
use Rattle.mqtt_rules.specs.step.Lines.{HasUniqueLines, line_number}
use Rattle.mqtt_rules.specs.step.Outbound.{all_turn_deeds, enter_deeds, leave_deeds, queue_limits, since, turn_deeds}
use Rattle.mqtt_rules.specs.step.Packets.{publish_of, pubrel}
use Rattle.mqtt_rules.specs.step.Routing.{CopyTo, deliver, deliver_by, forgets, is_queued, next_publication, publish, retain_by, retained_of}
use Rattle.mqtt_rules.specs.step.State.{Line, Broker, Env, MemberChoice, is_of, line_at, line_of, queue_on, session_at, session_named}
use Rattle.mqtt_rules.specs.step.Step.{Call, NewLine, Input, BadInput, Lost, Pump, Tick, at_moment, deeds_of, env_of, next_packet, on_packet, opened, opening, stepped, unopened}
use Rattle.mqtt_rules.specs.step.Step as step
use Rattle.mqtt_rules.specs.step.Subscribe as sub
use Rattle.mqtt_rules.specs.step.Tick.{is_silent, lapse_deeds, lapses}
use Rattle.mqtt_rules.specs.declared.step.Capacity.{Capacity}
use Rattle.mqtt_topic.specs.names.Names.{is_empty}
use Rattle.mqtt_world_laws.proofs.receiver_lemmas.own.Answering.{IsReply, IsReplyTurn, reply_puback, reply_pubcomp, reply_pubrec}
use Rattle.mqtt_world_laws.specs.delivery.Alone.{HaveSentNothing, IsKept, IsUnused}

abbrev IsNoConnect : Packet → Type 0
IsNoConnect (packets.Connect c) = ⊥
IsNoConnect packet = ⊤

-- an answer to a receiver's packet sends no copy
replies : (a : rules.Answer) (l : Line) (s : Session) → IsAnswer a l s → IsReply a
replies a l s is =
    let queue = queue_on l.went s in
    elim is [
      | inl it ↦ subst IsReply (sym it.2) (reply_puback it.1 (holder it.0 queue))
      | inr more ↦ elim more [
        | inl it ↦ subst IsReply (sym it.2) (reply_pubrec it.0 it.1 (next_order queue) (holder it.0 queue))
        | inr it ↦ subst IsReply (sym it.1) (reply_pubcomp (holder it.0 queue))
      ]
    ]

-- ---- while sessions are connected on the lines of these numbers, and on no others

module _ (joined : ℕ → Bool) where
  record AsWas (number : ℕ) (session : Option ℕ) (went : List ℕ) : Type 0 where
    pub same : is_some session ≡ joined number
    pub unused : session ≡ None → went ≡ []

  abbrev IsAsWas : Line → Type 0
  IsAsWas l = AsWas l.number l.session l.went

  abbrev Lines : List Line → Type 0
  Lines ls = AllByRecursion IsAsWas ls

  record Keep (b : Broker) : Type 0 where
    pub lines : AllByRecursion IsAsWas b.lines
    pub given : (n : ℕ) → joined n ≡ true → n ≤ b.given

  -- ---- deeds that connect nobody, and by which copies go out on those lines only

  abbrev IsSafePart : ℕ → LinePart → Type 0
  IsSafePart m Hear = ⊤
  IsSafePart m (Greet birth keep_alive window largest most) = ⊥
  IsSafePart m (SetAlias alias topic) = ⊤
  IsSafePart m (Went place) = joined m ≡ true

  abbrev IsSafe : Deed → Broker → Type 0
  IsSafe (Link m) b = (joined m ≡ false) × (b.given ≤ m)
  IsSafe (On m part) b = IsSafePart m part
  IsSafe d b = ⊤

  part_as : (now m : ℕ) (part : LinePart) (l : Line) → l.number ≡ m → IsSafePart m part → IsAsWas l → IsAsWas (line_after now part l)
  part_as now m Hear l is q h = h
  part_as now m (Greet birth keep_alive window largest most) l is q h = absurd q
  part_as now m (SetAlias alias topic) l is q h = h
  part_as now m (Went place) l is q h = record {
    same = h.same;
    unused = λ none. let clash : false ≡ true = sym (ap is_some none) ∙ (h.same ∙ (ap joined is ∙ q)) in absurd cc;
  }

  on_as : (now m : ℕ) (part : LinePart) (ls : List Line) → IsSafePart m part → Lines ls → Lines (on_line now m part ls)
  on_as now m part [] q h = tt
  on_as now m part (l ∷ ls) q h = elim (cases_Bool (nat_eq l.number m)) [
    | inl this ↦ rw this (part_as now m part l (eqb-true l.number m this) q h.0, h.1)
    | inr other ↦ rw other (h.0, on_as now m part ls q h.1)
  ]

  link_as : (m now : ℕ) (ls : List Line) → joined m ≡ false → Lines ls → Lines (ls ++ fresh_line m now ∷ [])
  link_as m now [] q h = (record { same = sym q; unused = λ none. refl }, tt)
  link_as m now (l ∷ ls) q h = (h.0, link_as m now ls q h.1)

  gone_as : (m : ℕ) (ls : List Line) → Lines ls → Lines (filter (λ (l : Line). not (nat_eq l.number m)) ls)
  gone_as m [] h = tt
  gone_as m (l ∷ ls) h = elim (cases_Bool (nat_eq l.number m)) [
    | inl goes ↦ rw goes (gone_as m ls h.1)
    | inr stays ↦ rw stays (h.0, gone_as m ls h.1)
  ]

  place_as : (k place : ℕ) (ls : List Line) → Lines ls → Lines (map (without_place k place) ls)
  place_as k place [] h = tt
  place_as k place (l ∷ ls) h = elim (cases_Bool (is_of l.session k)) [
    | inl its ↦ rw its (record { same = h.0.same; unused = λ none. ap (ids_without place) (h.0.unused none) }, place_as k place ls h.1)
    | inr other ↦ rw other (h.0, place_as k place ls h.1)
  ]

  at_as : (k : ℕ) (part : Part) (ls : List Line) → Lines ls → Lines (lines_at k part ls)
  at_as k (Leave e ending) ls h = place_as k e.place ls h
  at_as k part ls h = h

  lines_as : (d : Deed) (b : Broker) → IsSafe d b → Lines b.lines → Lines (lines_after b.now d b.lines)
  lines_as (Link m) b q h = link_as m b.now b.lines q.0 h
  lines_as (On m part) b q h = on_as b.now m part b.lines q h
  lines_as (Gone m) b q h = gone_as m b.lines h
  lines_as (At who part) b q h = at_as who.birth part b.lines h
  lines_as d b q h = h

  given_as : (d : Deed) (b : Broker) → IsSafe d b → ((n : ℕ) → joined n ≡ true → n ≤ b.given) → (n : ℕ) → joined n ≡ true → n ≤ given_after d b.given
  given_as (Link m) b q h = λ n one. let low = h n one in let up = q.1 in omega (arith, low, up)
  given_as d b q h = h

  safe_keeps : (d : Deed) (b : Broker) → Keep b → IsSafe d b → Keep (after d b)
  safe_keeps d b k q = record { lines = lines_as d b q k.lines; given = given_as d b q k.given }

  led : (ds : List Deed) (b : Broker) → Keep b → AreGood IsSafe ds b → Leads Keep IsSafe ds b
  led ds b k q = leads_good Keep IsSafe safe_keeps ds b k q

  -- ---- units of deeds

  safe_leave : (s : Session) (t : Turn) (b : Broker) → AreGood IsSafe (leave_deeds s t) b
  safe_leave s (turns.Leave place ending) b = good_of_entry IsSafe (row_at copy_place place s.queue) (λ e. At (whose s) (Leave e ending) ∷ []) b (λ e. (tt, tt))
  safe_leave s t b = tt

  safe_turn : (now line : ℕ) (s : Session) (t : Turn) (b : Broker) → joined line ≡ true → AreGood IsSafe (turn_deeds now line s t) b
  safe_turn now line s (turns.Send place id) b q = good_of_entry IsSafe (row_at copy_place place s.queue) _ b (λ e. (tt, (q, (tt, tt))))
  safe_turn now line s (turns.Resend place id) b q = good_of_entry IsSafe (row_at copy_place place s.queue) _ b (λ e. (q, (tt, tt)))
  safe_turn now line s (turns.Release place id order) b q = (tt, (tt, tt))
  safe_turn now line s (turns.Outgrow place id order) b q = (tt, (tt, tt))
  safe_turn now line s (turns.Repeat id) b q = (tt, tt)
  safe_turn now line s (turns.Unknown id) b q = (tt, tt)
  safe_turn now line s (turns.Leave place ending) b q = safe_leave s (turns.Leave place ending) b

  safe_reply : (now line : ℕ) (s : Session) (t : Turn) (b : Broker) → IsReplyTurn t → AreGood IsSafe (turn_deeds now line s t) b
  safe_reply now line s (turns.Send place id) b q = absurd q
  safe_reply now line s (turns.Resend place id) b q = absurd q
  safe_reply now line s (turns.Release place id order) b q = (tt, (tt, tt))
  safe_reply now line s (turns.Outgrow place id order) b q = absurd q
  safe_reply now line s (turns.Repeat id) b q = (tt, tt)
  safe_reply now line s (turns.Unknown id) b q = (tt, tt)
  safe_reply now line s (turns.Leave place ending) b q = safe_leave s (turns.Leave place ending) b

  safe_enter : (env : Env) (copy : MessageCopy) (s : Session) (b : Broker) → AreGood IsSafe (enter_deeds env copy s) b
  safe_enter env copy s b =
      let ts = way_made (queue_limits env) (since env s) (queue_on [] s) in
      good_append IsSafe (flat_map (leave_deeds s) ts) (At (whose s) (Enter copy) ∷ []) b (good_flat IsSafe (leave_deeds s) (safe_leave s) ts b) (tt, tt)

  safe_deliver_by : (t : Bool) (env : Env) (d : CopyTo) (b : Broker) → AreGood IsSafe (deliver_by t env d b) b
  safe_deliver_by true env d b = good_with_session IsSafe (session_at d.birth b.records) (λ s. always (enter_deeds env d.copy s)) b (λ s e. safe_enter env d.copy s b)
  safe_deliver_by false env d b =
      of_offer_if (λ (ds : List Deed). AreGood IsSafe ds b) (has_form d.copy b) (line_of d.birth b) (publish_of b.now false 0 d.copy) tt (λ l there. (tt, tt))

  safe_deliver : (env : Env) (d : CopyTo) → GoodAct IsSafe (deliver env d)
  safe_deliver env d b = safe_deliver_by (is_queued d) env d b

  safe_forgets : (o : Option RetainedMessage) (b : Broker) → AreGood IsSafe (forgets o) b
  safe_forgets None b = tt
  safe_forgets (Some x) b = (tt, tt)

  safe_retain : (retain empty : Bool) (number : ℕ) (m : Message) → GoodAct IsSafe (retain_by retain empty number m)
  safe_retain false empty number m b = tt
  safe_retain true true number m b = safe_forgets (retained_of m.topic b.records) b
  safe_retain true false number m b = (tt, tt)

  safe_publish : (env : Env) (origin : Origin) (m : Message) (ds : List CopyTo) (b : Broker) → AreGood IsSafe (publish env origin m ds b) b
  safe_publish env origin m ds b =
      let number = next_publication b.records in
      good_series IsSafe (always (deeds.Accept number origin m ∷ []) ∷ retain_by m.retain (is_empty m.payload) number m ∷ map (deliver env) ds)
      ((λ x. (tt, tt)), (safe_retain m.retain (is_empty m.payload) number m, good_acts IsSafe (deliver env) (safe_deliver env) ds)) b

  safe_grants : (env : Env) (w : sub.Wish) (s : Session) (b : Broker) → AreGood IsSafe (sub.granted_filter env (sub.next_number b.records) s w (brought_to w s b) b).deeds b
  safe_grants env w s b =
      let number = sub.next_number b.records in
      let queued = filter is_queued (brought_to w s b) in
      let first : List Deed = Count number ∷ At (whose s) (deeds.Subscribe (sub.subscription number s w)) ∷ [] in
      let c = after_all first b in
      good_append IsSafe first (series (map (deliver env) queued) c) b (tt, (tt, tt)) (good_series IsSafe (map (deliver env) queued) (good_acts IsSafe (deliver env) (safe_deliver env) queued) c)

  safe_closed : (keeps_will : Bool) (now : ℕ) (o : Option Session) (b : Broker) → AreGood IsSafe (closing_session keeps_will now o) b
  safe_closed keeps_will now None b = tt
  safe_closed true now (Some s) b = (tt, tt)
  safe_closed false now (Some s) b = (tt, (tt, tt))

  safe_closing : (keeps_will : Bool) (now : ℕ) (session : Option ℕ) (r : Records) (b : Broker) → AreGood IsSafe (closing_on keeps_will now session r) b
  safe_closing keeps_will now None r b = tt
  safe_closing keeps_will now (Some birth) r b = safe_closed keeps_will now (session_at birth r) b

  safe_end : (s : Session) (b : Broker) → AreGood IsSafe (end_session s) b
  safe_end s b =
      good_append IsSafe (map (λ e. At (whose s) (Leave e SessionEnded)) s.queue) (Finish (whose s) ∷ []) b
      (good_map IsSafe (λ e. At (whose s) (Leave e SessionEnded)) (λ e x. tt) s.queue b) (tt, tt)

  -- ---- the law of the induction over acts, of all packets but CONNECT

  abbrev IsWaitingOrJoined : Line → Type 0
  IsWaitingOrJoined l = (l.session ≡ None) ⊎ (joined l.number ≡ true)

  abbrev everyone : Whom
  everyone = record {
    line = IsWaitingOrJoined;
    number = λ m. ⊤;
    session = λ k. ⊤;
    client = λ its b. ⊤;
    packet = IsNoConnect;
    message = λ m. ⊤;
  }

  either : (l : Line) → IsAsWas l → IsWaitingOrJoined l
  either l h = by l.session refl
    where
      by : (o : Option ℕ) → l.session ≡ o → IsWaitingOrJoined l
      by None is = inl is
      by (Some k) is = inr (sym h.same ∙ ap is_some is)

  found_so : (test : Line → Bool) (l : Line) (b : Broker) → Keep b → find test b.lines ≡ Some l → IsWaitingOrJoined l
  found_so test l b k e = either l (all_find IsAsWas test l b.lines k.lines e).0

  sends_there : (l : Line) (birth : ℕ) → IsWaitingOrJoined l → l.session ≡ Some birth → joined l.number ≡ true
  sends_there l birth (inl none) is = let clash : None ≡ Some birth = sym none ∙ is in absurd cc
  sends_there l birth (inr its) is = its

  next_free : (b : Broker) → Keep b → joined (suc b.given) ≡ false
  next_free b k = elim (cases_Bool (joined (suc b.given))) [
    | inl one ↦ let low = k.given (suc b.given) one in absurd (omega (arith, low))
    | inr none ↦ none
  ]

  safe_law : (env : Env) → Law env everyone Keep IsSafe
  safe_law env = record {
    finds = record {
      its_number = λ l its. tt;
      its_session = λ l k its e. tt;
      its_line = λ birth l b k its e. found_so (λ (x : Line). is_of x.session birth) l b k e;
      named = λ its s b k q e. tt;
      admitted = λ c b k came e. tt;
      sent = λ l s p topic b k its came e. tt;
      willed = λ s w b k among e. tt;
    };
    client_stays = λ its ds b k leads q. q;
    publishes = λ origin m ds b k said e. led (publish env origin m ds b) b k (safe_publish env origin m ds b);
    open_id = λ s id m ds b k h its there new is. led (At (whose s) (Open id) ∷ []) (after_all (publish env FromClient m ds b) b) h (tt, tt);
    refuse_will = λ who b k its. led (RefuseWill who ∷ []) b k (tt, tt);
    alone = λ who part b k its is. led (At who part ∷ []) b k (tt, tt);
    closes = λ keeps_will l b k its on. led (closing keeps_will l b) b k (tt, safe_closing keeps_will b.now l.session b.records (after (Gone l.number) b));
    ends = λ s b k its among may. led (end_session s) b k (safe_end s b);
    resumes = λ l c s b k its none came taken own is prepared. absurd came;
    begins = λ l c b k its none came taken name is room prepared. absurd came;
    grants = λ w s b k its asked granted. led (sub.granted_filter env (sub.next_number b.records) s w (brought_to w s b) b).deeds b k (safe_grants env w s b);
    pumps = λ l s b k its is there.
        led (pump_deeds l b s) b k (good_flat IsSafe (turn_deeds b.now l.number s) (λ t x. safe_turn b.now l.number s t x (sends_there l s.birth its is)) (pump_turns l b s) b);
    turns = λ a t l s b k its own there is e. led (turn_deeds b.now l.number s t) b k (safe_reply b.now l.number s t b (subst IsReply e (replies a l s is)));
    lapses = λ s b k among. led (lapse_deeds b.now s) b k (good_flat IsSafe (leave_deeds s) (safe_leave s) (lapses b.now s) b);
    stale = λ x b k among. led (Forget x.place ∷ []) b k (tt, tt);
    links = λ b k can. led (Link (suc b.given) ∷ []) b k ((next_free b k, omega arith), tt);
    hears = λ m b k its. led (On m Hear ∷ []) b k (tt, tt);
    sets = λ m alias topic b k its said. led (On m (SetAlias alias topic) ∷ []) b k (tt, tt);
    sends = λ m packet b k its. led (Send m packet ∷ []) b k (tt, tt);
  }

  abbrev IsPlainCall : Call → Type 0
  IsPlainCall (Input n packet) = IsNoConnect packet
  IsPlainCall call = ⊤

  call_so : (call : Call) (b : Broker) → IsPlainCall call → Keep b → IsCallOf everyone call b
  call_so NewLine b q k = tt
  call_so (Input n packet) b q k = ((λ l e. found_so (λ (x : Line). nat_eq x.number n) l b k e), q)
  call_so (BadInput n is_connect code) b q k = λ l e. found_so (λ (x : Line). nat_eq x.number n) l b k e
  call_so (Lost n) b q k = λ l e. found_so (λ (x : Line). nat_eq x.number n) l b k e
  call_so (Pump n) b q k = λ l e. found_so (λ (x : Line). nat_eq x.number n) l b k e
  call_so Tick b q k = record { silent = λ l e. found_so (λ (x : Line). is_silent b.now x.session x) l b k e; wills = λ s e. tt; ends = λ s e. tt }

  unused_of : (b : Broker) → Keep b → HaveSentNothing b
  unused_of b k = all_more IsAsWas IsUnused b.lines (λ l h. h.unused) k.lines

  plain_call : (env : Env) (call : Call) (b : Broker) → IsPlainCall call → Keep b → HaveSentNothing (after_all (deeds_of env call b) b)
  plain_call env call b q k = unused_of (after_all (deeds_of env call b) b) (leads_call env everyone Keep IsSafe (safe_law env) call b k (call_so call b q k)).1

  -- ---- CONNECT

  greeted : (now m birth keep_alive window largest most : ℕ) (ls : List Line) → AllByRecursion IsUnused ls → AllByRecursion IsUnused (on_line now m (Greet birth keep_alive window largest most) ls)
  greeted now m birth keep_alive window largest most [] h = tt
  greeted now m birth keep_alive window largest most (l ∷ ls) h = elim (cases_Bool (nat_eq l.number m)) [
    | inl this ↦ rw this ((λ none. absurd cc), h.1)
    | inr other ↦ rw other (h.0, greeted now m birth keep_alive window largest most ls h.1)
  ]

  repeated : {X : Type 0} (now line : ℕ) (s : Session) (xs : List X) (id : X → ℕ) (b : Broker) → HaveSentNothing b
      → HaveSentNothing (after_all (all_turn_deeds now line s (map (λ x. turns.Repeat (id x)) xs)) b)
  repeated now line s [] id b h = h
  repeated now line s (x ∷ xs) id b h = repeated now line s xs id (after (Send line (pubrel (id x) success)) b) h

  module _ (env : Env) (l : Line) (c : Greeting) (b : Broker) (k : Keep b) (none : l.session ≡ None) (on : IsOn l.number l.session b.lines) where
    refuses : (code : ℕ) → HaveSentNothing (after_all (refused l c code) b)
    refuses code = unused_of (after_all (refused l c code) b) (leads_refused env everyone Keep IsSafe (safe_law env) l c code b k (inl none) none on).1

    abbrev ready : Broker
    ready = after_all (prepare env c b) b

    waits : HaveSentNothing ready
    waits = unused_of ready (leads_prepare env everyone Keep IsSafe (safe_law env) c b k tt).1

    greets : (birth : ℕ) → AllByRecursion IsUnused (on_line ready.now l.number (Greet birth c.keep_alive (window_of c) (largest_of c) 0) ready.lines)
    greets birth = greeted ready.now l.number birth c.keep_alive (window_of c) (largest_of c) 0 ready.lines waits

    behind : (ds : List Deed) → HaveSentNothing (after_all ds ready) → HaveSentNothing (after_all (prepare env c b ++ ds) b)
    behind ds h = subst HaveSentNothing (sym (after_append (prepare env c b) ds b)) h

    resumes : (s : Session) → HaveSentNothing (after_all (prepare env c b ++ resume l c b.now s) b)
    resumes s = behind (resume l c b.now s)
        (repeated b.now l.number s (due_from [] (queue_on [] s)) (λ d. d.identifier) _ (greets s.birth))

    begins : (t : Bool) → HaveSentNothing (after_all (prepare env c b ++ begin_named t l c ready.records) b)
    begins false = behind (begin_named false l c ready.records) (greets (suc ready.records.births))
    begins true = behind (begin_named true l c ready.records) (greets (suc ready.records.births))

    comes : (room : Bool) → HaveSentNothing (after_all (cond room (prepare env c b ++ begin_named (is_empty c.client_identifier) l c ready.records) (refused l c quota_exceeded)) b)
    comes true = begins (is_empty c.client_identifier)
    comes false = refuses quota_exceeded

    joining : (o : Option Session) → HaveSentNothing (after_all (joins env l c b.now (prepare env c b) ready.records o) b)
    joining (Some s) = resumes s
    joining None = comes (nat_lt (length ready.records.sessions) env.limits.sessions)

    connecting : (o : Option ℕ) → HaveSentNothing (after_all (connect_by o env l c b) b)
    connecting (Some code) = refuses code
    connecting None = joining (session_named c.client_identifier ready.records)

    connects : HaveSentNothing (after_all (on_connect env l c b) b)
    connects = connecting (refusal c b.records)

  shut : (ds : List Deed) (b : Broker) → HaveSentNothing (after_all ds b) → HaveSentNothing (after_all (ds ++ []) b)
  shut ds b h = subst HaveSentNothing (sym (after_append ds [] b)) h

  -- on a line on which somebody is connected it breaks the protocol
  connect_packet : (env : Env) (l : Line) (c : Greeting) (o : Option ℕ) (b : Broker) → Keep b → l.session ≡ o → IsWaitingOrJoined l → IsOn l.number l.session b.lines
      → HaveSentNothing (after_all (on_packet env l (packets.Connect c) o b) b)
  connect_packet env l c None b k is its on = connects env l c b k is on
  connect_packet env l c (Some birth) b k is its on = by (session_at birth b.records)
    where
      by : (o : Option Session) → HaveSentNothing (after_all (with_session o (next_packet env l (packets.Connect c)) b) b)
      by None = unused_of b k
      by (Some s) = unused_of (after_all (drop_line env protocol_error l b) b) (leads_drop env everyone Keep IsSafe (safe_law env) protocol_error l b k its on).1

  connect_call : (env : Env) (n : ℕ) (c : Greeting) (b : Broker) → Keep b → HaveSentNothing (after_all (deeds_of env (Input n (packets.Connect c)) b) b)
  connect_call env n c b k = by (line_at n b) refl
    where
      by : (o : Option Line) → line_at n b ≡ o
          → HaveSentNothing (after_all (with_line o (λ (l : Line). series (always (On n Hear ∷ []) ∷ on_packet env l (packets.Connect c) l.session ∷ [])) b) b)
      by None e = unused_of b k
      by (Some l) e =
          let heard = after (On n Hear) b in
          shut (on_packet env l (packets.Connect c) l.session heard) heard
          (connect_packet env l c l.session heard (safe_keeps (On n Hear) b k tt) refl (found_so (λ (x : Line). nat_eq x.number n) l b k e)
          (stays_on b.now n Hear l.number l.session b.lines refl (found_on l b.lines (found_among (λ (x : Line). nat_eq x.number n) l b.lines e))))

  any_call : (env : Env) (call : Call) (b : Broker) → Keep b → HaveSentNothing (after_all (deeds_of env call b) b)
  any_call env (Input n (packets.Connect c)) b k = connect_call env n c b k
  any_call env (Input n packet) b k = plain_call env (Input n packet) b tt k
  any_call env NewLine b k = plain_call env NewLine b tt k
  any_call env (BadInput n is_connect code) b k = plain_call env (BadInput n is_connect code) b tt k
  any_call env (Lost n) b k = plain_call env (Lost n) b tt k
  any_call env (Pump n) b k = plain_call env (Pump n) b tt k
  any_call env Tick b k = plain_call env Tick b tt k

-- ---- a step, on lines of which each has its own number

abbrev is_joined : Option Line → Bool
is_joined None = false
is_joined (Some l) = is_some l.session

-- the numbers of the lines on which somebody is connected
abbrev joined_in : List Line → ℕ → Bool
joined_in ls n = is_joined (row_at line_number n ls)

begins_as : (all ls : List Line) → AllByRecursion (λ (l : Line). row_at line_number (line_number l) all ≡ Some l) ls → AllByRecursion IsUnused ls → AllByRecursion (IsAsWas (joined_in all)) ls
begins_as all [] f h = tt
begins_as all (l ∷ ls) f h = (record { same = sym (ap is_joined f.0); unused = h.0 }, begins_as all ls f.1 h.1)

joined_given : (b : Broker) (n : ℕ) → HasUniqueLines b → joined_in b.lines n ≡ true → n ≤ b.given
joined_given b n u one = by (row_at line_number n b.lines) refl
  where
    by : (o : Option Line) → row_at line_number n b.lines ≡ o → n ≤ b.given
    by None none = let clash : false ≡ true = sym (ap is_joined none) ∙ one in absurd cc
    by (Some l) is =
        let low = below_found line_number (suc b.given) n l b.lines is u.given in
        let same = found_key line_number n l b.lines is in
        omega (arith, low, same)

-- a step sends nothing on lines without a session
pub step_unused : (limits : Capacity) (choice : MemberChoice) (now : ℕ) (call : Call) (b : Broker) → HasUniqueLines b → HaveSentNothing b → HaveSentNothing (stepped limits choice now call b)
step_unused limits choice now call b u h =
    let first = at_moment now b in
    let ds = step.deeds limits choice now call b in
    let k : Keep (joined_in b.lines) first = record {
      lines = begins_as b.lines b.lines (all_found line_number b.lines u.ascending) h;
      given = λ n one. joined_given b n u one;
    } in
    subst (AllByRecursion IsUnused) (sym (done_lines (rows_of_all ds first.records) (after_all ds first))) (any_call (joined_in b.lines) (env_of limits choice b) call first k)

-- ---- an opening: no line stands

-- nor does an opening
pub opening_unused : (limits : Capacity) (choice : MemberChoice) (now : ℕ) (r : Records) → HaveSentNothing (opened limits choice now r)
opening_unused limits choice now r =
    let b = unopened now r in
    let env = env_of limits choice b in
    let ds = opening env b in
    let nobody : ℕ → Bool = λ n. false in
    let k : Keep nobody b = record { lines = tt; given = λ n one. absurd cc } in
    let led_on = leads_opening env (everyone nobody) (Keep nobody) (IsSafe nobody) (safe_law nobody env) (λ s x g is. led nobody (At (whose s) (Close x.now) ∷ []) x g (tt, tt)) (λ birth. tt) b k in
    subst (AllByRecursion IsUnused) (sym (done_lines (rows_of_all ds b.records) (after_all ds b))) (unused_of nobody (after_all ds b) led_on.1)

-- and that is kept
pub unused_kept : (limits : Capacity) → IsKept limits HaveSentNothing
unused_kept limits = record {
  called = λ choice now call b s unspent h. step_unused limits choice now call b s.lines h;
  reopened = λ choice now b s unspent h. opening_unused limits choice now b.records;
}
