-- In every step a copy that leaves stands in its queue, and so does one whose phase is set.
use Rattle.std.proofs.Common.{◌≡◌, ℕ, suc, ◌≤◌, Bool, true, false, List, [], ◌∷◌, filter, map, Option, Some, None, ap, ◌∙◌, arith}
use Rattle.std.specs.Prelude.{flat_map}
use Rattle.std.specs.List.{AllByRecursion}
use Rattle.mqtt_base.specs.declared.session.Ending.TheVariants.{SessionEnded}
use Rattle.mqtt_packet.specs.declared.connect.connect.Connect.{Connect as Greeting}
use Rattle.mqtt_packet.specs.declared.codec.packet.Packet.{Packet}
use Rattle.mqtt_topic.specs.names.Names.{is_empty}
use Rattle.mqtt_flow.specs.outbound.Outbound.{way_made}
use Rattle.mqtt_records.specs.declared.messages.message.MessageCopy.{MessageCopy}
use Rattle.mqtt_records.specs.declared.messages.message.RetainedMessage.{RetainedMessage}
use Rattle.mqtt_records.specs.messages.Queue.{CopyRow}
use Rattle.mqtt_records.specs.declared.state.session.Session.{Session}
use Rattle.mqtt_records.specs.declared.state.records.Records.{Records}
use Rattle.mqtt_records.specs.lists.Order.{IsAscending, row_at}
use Rattle.mqtt_records.specs.state.Session.{birth_of, copy_place}
use Rattle.mqtt_rules.specs.step.Fitting.{fitted, has_form, size_at}
use Rattle.mqtt_rules.specs.step.State.{Line, Broker, Env, session_at, line_of, told_on, queue_on}
use Rattle.mqtt_rules.specs.step.Deeds.{Whose, whose, Message, Origin, FromClient, Part, Resume, Close, SetExpiry, DropWill, Open, Enter, Mark, Leave, Hear, SetAlias, Deed, Accept, Begin, Name, Count, At, Finish, Keep, Forget, RefuseWill, Link, On, Send, Gone, after, after_all, rows_of, series, always, with_session, offer}
use Rattle.mqtt_rules.specs.step.Deeds as deeds
use Rattle.mqtt_rules.specs.step.Outbound.{leave_deeds, turn_deeds, since, queue_limits, enter_deeds, way_of}
use Rattle.mqtt_rules.specs.step.Packets.{publish_of}
use Rattle.mqtt_rules.specs.step.Routing.{CopyTo, is_queued, deliver_by, deliver, retained_of, forgets, retain_by, next_publication, publish}
use Rattle.mqtt_rules.specs.step.Closing.{end_session}
use Rattle.mqtt_rules.specs.step.Connect.{expiry_of, will_of, greet, begin_named}
use Rattle.mqtt_rules.specs.step.Fitting.{pump_turns}
use Rattle.mqtt_rules.specs.step.Inbound.{pump_deeds}
use Rattle.mqtt_rules.specs.step.Subscribe as sub
use Rattle.mqtt_rules.specs.step.Tick.{lapses, lapse_deeds}
use Rattle.mqtt_rules.specs.step.Step.{Call, deeds_of, opening}
use Rattle.mqtt_rules.specs.step.Laws.{IsAmong, HasTables, IsOrdered}
use Rattle.mqtt_rules.proofs.step_lemmas.acts.Offers.{of_offer, of_offer_if}
use Rattle.mqtt_rules.proofs.step_lemmas.acts.Goods.{AreGood, good_append, good_with_session}
use Rattle.mqtt_rules.proofs.step_lemmas.acts.Leads.{Leads}
use Rattle.mqtt_rules.proofs.step_lemmas.acts.Acts.{anyone, call_of_anyone, finds_anyone, is_alone, closing_session, closing_on, closing, brought_to, Law, leads_call, leads_opening}
use Rattle.mqtt_rules.proofs.step_lemmas.flight.FlightRows.{found_key, all_at, all_found}
use Rattle.mqtt_rules.proofs.step_lemmas.order.Ordered.{changed_all-ordered}
use Rattle.mqtt_rules.proofs.step_lemmas.fit.Turns.{Stands, still_now, stands_turn, stands_turns, stands_leaves, stands_ended}
use Rattle.mqtt_rules.proofs.step_lemmas.fit.TurnLists.{answers_rise, sized_pumps_rise, lapses_rise, drops_rise}
use Rattle.mqtt_rules.proofs.step_lemmas.fit.FitLaw.{all_among}

abbrev pub Orders : Broker → Type 0
Orders b = IsOrdered b.records

-- tables stay in order, whatever is done
pub ordered_all : (ds : List Deed) (b : Broker) → Orders b → Orders (after_all ds b)
ordered_all [] b h = h
ordered_all (d ∷ ds) b h = ordered_all ds (after d b) (changed_all-ordered (rows_of d b.records) b.records h)

led : (ds : List Deed) (b : Broker) → Orders b → AreGood Stands ds b → Leads Orders Stands ds b
led ds b h good = (good, ordered_all ds b h)

-- the places in a queue rise, if the records are in order
pub rising : (s : Session) (b : Broker) → Orders b → session_at s.birth b.records ≡ Some s → IsAscending copy_place s.queue
rising s b h there = (all_at birth_of HasTables s.birth s b.records.sessions h.each there).queue.ascending

own : (birth : ℕ) (s : Session) (b : Broker) → session_at birth b.records ≡ Some s → session_at s.birth b.records ≡ Some s
own birth s b there = ap (λ (n : ℕ). session_at n b.records) (found_key birth_of birth s b.records.sessions there) ∙ there

here : (s : Session) (b : Broker) → Orders b → IsAmong s b.records.sessions → session_at s.birth b.records ≡ Some s
here s b h among = all_among (λ (x : Session). session_at x.birth b.records ≡ Some x) s b.records.sessions (all_found birth_of b.records.sessions h.sessions.ascending) among

-- ---- publications

stands_enter : (env : Env) (copy : MessageCopy) (s : Session) (b : Broker) → Orders b → session_at s.birth b.records ≡ Some s → AreGood Stands (enter_deeds env copy s) b
stands_enter env copy s b h there =
    let ts = way_made (queue_limits env) (since env s) (queue_on [] s) in
    good_append Stands (flat_map (leave_deeds s) ts) (At (whose s) (Enter copy) ∷ []) b
    (stands_leaves 0 0 s ts 0 b (still_now s b there) (drops_rise _ (since env s) s (rising s b h there))) (tt, tt)

stands_offer : (o : Option Line) (packet : Packet) (b : Broker) → AreGood Stands (offer o packet) b
stands_offer o packet b = of_offer (λ (ds : List Deed). AreGood Stands ds b) o packet tt (λ l there. (tt, tt))

stands_deliver : (t : Bool) (env : Env) (d : CopyTo) (b : Broker) → Orders b → AreGood Stands (deliver_by t env d b) b
stands_deliver true env d b h =
    good_with_session Stands (session_at d.birth b.records) (λ s. always (enter_deeds env d.copy s)) b (λ s e. stands_enter env d.copy s b h (own d.birth s b e))
stands_deliver false env d b h =
    of_offer_if (λ (ds : List Deed). AreGood Stands ds b) (has_form d.copy b) (line_of d.birth b) (publish_of b.now false 0 d.copy) tt (λ l there. (tt, tt))

stands_deliveries : (env : Env) (ds : List CopyTo) (b : Broker) → Orders b → AreGood Stands (series (map (deliver env) ds) b) b
stands_deliveries env [] b h = tt
stands_deliveries env (d ∷ ds) b h =
    let first = deliver env d b in
    let c = after_all first b in
    good_append Stands first (series (map (deliver env) ds) c) b (stands_deliver (is_queued d) env d b h) (stands_deliveries env ds c (ordered_all first b h))

stands_forgets : (o : Option RetainedMessage) (b : Broker) → AreGood Stands (forgets o) b
stands_forgets None b = tt
stands_forgets (Some k) b = (tt, tt)

stands_retain : (retain empty : Bool) (number : ℕ) (m : Message) (b : Broker) → AreGood Stands (retain_by retain empty number m b) b
stands_retain false empty number m b = tt
stands_retain true true number m b = stands_forgets (retained_of m.topic b.records) b
stands_retain true false number m b = (tt, tt)

stands_publish : (env : Env) (origin : Origin) (m : Message) (ds : List CopyTo) (b : Broker) → Orders b → AreGood Stands (publish env origin m ds b) b
stands_publish env origin m ds b h =
    let number = next_publication b.records in
    let c = after (Accept number origin m) b in
    let next = retain_by m.retain (is_empty m.payload) number m c in (
      tt,
      good_append Stands next (series (map (deliver env) ds) (after_all next c)) c (stands_retain m.retain (is_empty m.payload) number m c)
          (stands_deliveries env ds (after_all next c) (ordered_all next c (ordered_all (Accept number origin m ∷ []) b h))),
    )

stands_grants : (env : Env) (w : sub.Wish) (s : Session) (b : Broker) → Orders b → AreGood Stands (sub.granted_filter env (sub.next_number b.records) s w (brought_to w s b) b).deeds b
stands_grants env w s b h =
    let number = sub.next_number b.records in
    let first : List Deed = Count number ∷ At (whose s) (deeds.Subscribe (sub.subscription number s w)) ∷ [] in
    let c = after_all first b in
    good_append Stands first (series (map (deliver env) (filter is_queued (brought_to w s b))) c) b (tt, (tt, tt)) (stands_deliveries env (filter is_queued (brought_to w s b)) c (ordered_all first b h))

-- ---- sessions

stands_alone : (who : Whose) (part : Part) (b : Broker) → is_alone part ≡ true → Stands (At who part) b
stands_alone who (Leave e ending) b is = absurd cc
stands_alone who (Mark place phase) b is = absurd cc
stands_alone who part b is = tt

stands_closed : (keeps_will : Bool) (now : ℕ) (o : Option Session) (b : Broker) → AreGood Stands (closing_session keeps_will now o) b
stands_closed keeps_will now None b = tt
stands_closed true now (Some s) b = (tt, tt)
stands_closed false now (Some s) b = (tt, (tt, tt))

stands_closing : (keeps_will : Bool) (now : ℕ) (session : Option ℕ) (r : Records) (b : Broker) → AreGood Stands (closing_on keeps_will now session r) b
stands_closing keeps_will now None r b = tt
stands_closing keeps_will now (Some birth) r b = stands_closed keeps_will now (session_at birth r) b

stands_begin : (t : Bool) (l : Line) (c : Greeting) (b : Broker) → AreGood Stands (begin_named t l c b.records) b
stands_begin false l c b = (tt, (tt, (tt, tt)))
stands_begin true l c b = (tt, (tt, (tt, (tt, tt))))

places : (es : List CopyRow) (s : Session) → AllByRecursion (λ e. row_at copy_place e.place s.queue ≡ Some e) es → AllByRecursion (λ e. (0 ≤ e.place) × (row_at copy_place e.place s.queue ≡ Some e)) es
places [] s h = tt
places (e ∷ es) s h = ((omega arith, h.0), places es s h.1)

stands_end : (s : Session) (b : Broker) → Orders b → session_at s.birth b.records ≡ Some s → AreGood Stands (end_session s) b
stands_end s b h there =
    let up = rising s b h there in
    good_append Stands (map (λ e. At (whose s) (Leave e SessionEnded)) s.queue) (Finish (whose s) ∷ []) b
    (stands_ended 0 0 s s.queue 0 b (still_now s b there) up (places s.queue s (all_found copy_place s.queue up))) (tt, tt)

-- ---- together

-- every deed of every act finds what it speaks of still standing
pub stand_law : (env : Env) → Law env anyone Orders Stands
stand_law env = record {
  finds = finds_anyone Orders;
  client_stays = λ client ds b h led its. tt;
  publishes = λ origin m ds b h said e. led (publish env origin m ds b) b h (stands_publish env origin m ds b h);
  open_id = λ s id m ds b k h its there new is. led (At (whose s) (Open id) ∷ []) (after_all (publish env FromClient m ds b) b) h (tt, tt);
  refuse_will = λ who b h its. led (RefuseWill who ∷ []) b h (tt, tt);
  alone = λ who part b h its is. led (At who part ∷ []) b h (stands_alone who part b is, tt);
  closes = λ keeps_will l b h its on. led (closing keeps_will l b) b h (tt, stands_closing keeps_will b.now l.session b.records (after (Gone l.number) b));
  ends = λ s b h its among may. led (end_session s) b h (stands_end s b h (here s b h among));
  resumes = λ l c s b h its none came taken mine is prepared. led (At (whose s) (Resume (expiry_of c) (will_of c)) ∷ greet l c s.birth ∷ []) b h (tt, (tt, tt));
  begins = λ l c b h its none came taken name is room prepared. led (begin_named (is_empty c.client_identifier) l c b.records) b h (stands_begin (is_empty c.client_identifier) l c b);
  grants = λ w s b h its asked granted. led (sub.granted_filter env (sub.next_number b.records) s w (brought_to w s b) b).deeds b h (stands_grants env w s b h);
  pumps = λ l s b h its is there. led (pump_deeds l b s) b h
      (stands_turns b.now l.number s (pump_turns l b s) 0 b (still_now s b there) (sized_pumps_rise (size_at (fitted l b.now (told_on l.number b.tellings) s.queue)) (way_of l b.now) l.went s (rising s b h there)));
  turns = λ a t l s b h its mine there is e. led (turn_deeds b.now l.number s t) b h
      (stands_turn b.now l.number s t [] 0 b (still_now s b there) (answers_rise a t l s (rising s b h there) is e)).0;
  lapses = λ s b h among. let there = here s b h among in
      led (lapse_deeds b.now s) b h (stands_leaves 0 0 s (lapses b.now s) 0 b (still_now s b there) (lapses_rise b.now s (rising s b h there)));
  stale = λ k b h among. led (Forget k.place ∷ []) b h (tt, tt);
  links = λ b h can. led (Link (suc b.given) ∷ []) b h (tt, tt);
  hears = λ n b h its. led (On n Hear ∷ []) b h (tt, tt);
  sets = λ n alias topic b h its said. led (On n (SetAlias alias topic) ∷ []) b h (tt, tt);
  sends = λ n packet b h its. led (Send n packet ∷ []) b h (tt, tt);
}

-- each deed of a call finds what it speaks of still standing
pub stands_call : (env : Env) (call : Call) (b : Broker) → IsOrdered b.records → AreGood Stands (deeds_of env call b) b
stands_call env call b h = (leads_call env anyone Orders Stands (stand_law env) call b h (call_of_anyone call b)).0

-- each deed of an opening finds what it speaks of still standing
pub stands_opening : (env : Env) (b : Broker) → IsOrdered b.records → AreGood Stands (opening env b) b
stands_opening env b h =
    (leads_opening env anyone Orders Stands (stand_law env) (λ s c g is. led (At (whose s) (Close c.now) ∷ []) c g (tt, tt)) (λ birth. tt) b h).0
