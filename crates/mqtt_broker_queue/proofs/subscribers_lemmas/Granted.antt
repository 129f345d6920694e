-- The deeds of every step and opening subscribe only to what a grant makes.
use Rattle.std.proofs.Common.{◌≡◌, ℕ, ◌≤◌, Bool, true, false, List, [], ◌∷◌, ◌++◌, filter, length, map, Option, Some, None, refl, sym, subst, ◌∙◌, arith}
use Rattle.std.specs.Prelude.{⊤, suc, flat_map, find, ◌<◌}
use Rattle.std.specs.List.{AllByRecursion}
use Rattle.mqtt_base.specs.declared.limits.TheConstants.{SUBSCRIPTION_LIMIT}
use Rattle.mqtt_base.specs.declared.session.Ending.TheVariants.{SessionEnded}
use Rattle.mqtt_packet.specs.declared.connect.connect.Connect.{Connect as Greeting}
use Rattle.mqtt_topic.specs.names.Names.{is_empty}
use Rattle.mqtt_flow.specs.declared.outbound.entry.Turn.{Turn}
use Rattle.mqtt_flow.specs.declared.outbound.entry.Turn.TheVariants as turns
use Rattle.mqtt_flow.specs.outbound.Outbound.{way_made}
use Rattle.mqtt_keep.specs.lawful.Lawful.{IsIdentifier}
use Rattle.mqtt_records.specs.declared.messages.message.MessageCopy.{MessageCopy}
use Rattle.mqtt_records.specs.declared.messages.message.RetainedMessage.{RetainedMessage}
use Rattle.mqtt_records.specs.messages.Queue.{CopyRow}
use Rattle.mqtt_records.specs.declared.state.session.Session.{Session}
use Rattle.mqtt_records.specs.declared.state.subscription.Subscription.{Subscription}
use Rattle.mqtt_records.specs.declared.state.records.Records.{Records}
use Rattle.mqtt_records.specs.state.Session.{birth_of, place_of, copy_place, without_filter}
use Rattle.mqtt_records.specs.lists.Order.{IsBelow, row_at}
use Rattle.mqtt_rules.specs.step.Packets.{publish_of}
use Rattle.mqtt_rules.specs.step.State.{Line, Broker, Env, session_at, line_of, queue_on}
use Rattle.mqtt_rules.specs.step.Deeds.{Whose, whose, Message, Origin, FromClient, Part, Resume, Close, Open, Enter, Leave, LinePart, Hear, SetAlias, Deed, Accept, Count, At, Finish, Forget, RefuseWill, Link, On, Send, after, after_all, series, always}
use Rattle.mqtt_rules.specs.step.Deeds as told
use Rattle.mqtt_rules.specs.step.Outbound.{leave_deeds, turn_deeds, since, queue_limits, enter_deeds}
use Rattle.mqtt_rules.specs.step.Routing.{CopyTo, is_queued, deliver_by, deliver, retained_of, forgets, retain_by, next_publication, publish}
use Rattle.mqtt_rules.specs.step.Closing.{end_session}
use Rattle.mqtt_rules.specs.step.Connect.{expiry_of, will_of, greet, begin_named}
use Rattle.mqtt_rules.specs.step.Contents.{IsAskedFor, IsTaken, TakesLawful}
use Rattle.mqtt_rules.specs.step.Fitting.{has_form, pump_turns}
use Rattle.mqtt_rules.specs.step.Inbound.{pump_deeds}
use Rattle.mqtt_rules.specs.step.Laws.{AreWithin, IsCoherentSession}
use Rattle.mqtt_rules.specs.step.Step.{Call, NewLine, Input, BadInput, Lost, Pump, Tick, deeds_of, opening}
use Rattle.mqtt_rules.specs.step.Subscribe as sub
use Rattle.mqtt_rules.specs.step.Tick.{lapses, lapse_deeds}
use Rattle.mqtt_rules.proofs.step_lemmas.acts.Acts.{About, closing_session, closing_on, closing, is_alone, brought_to, Finds, Law, IsCallOf, leads_call, leads_opening}
use Rattle.mqtt_rules.proofs.step_lemmas.acts.ByDeeds.{by_deeds, turn_law, by_deeds_shuts}
use Rattle.mqtt_rules.proofs.step_lemmas.acts.Offers.{of_offer_if}
use Rattle.mqtt_rules.proofs.step_lemmas.fit.Coherent.{IsFit}
use Rattle.mqtt_rules.proofs.step_lemmas.contents.ContentPackets.{asked_identifier}
use Rattle.mqtt_rules.proofs.step_lemmas.fit.FitLaw.{Keeps, naming, fit_law, fit_mark}
use Rattle.mqtt_rules.proofs.step_lemmas.flight.FlightRows.{all_at}
use Rattle.mqtt_rules.proofs.step_lemmas.acts.Goods.{AreGood, good_append, good_flat, good_of_entry, good_with_session}
use Rattle.mqtt_rules.proofs.step_lemmas.acts.Leads.{Leads}
use Rattle.mqtt_rules.proofs.step_lemmas.numbers.NumberPlaces.{grants_place}
use Rattle.mqtt_broker_queue.specs.subscribers.Following.{IsGranted}

-- ---- deeds that don't subscribe

-- a subscription is such as a grant makes it
abbrev pub IsWell : Deed → Broker → Type 0
IsWell (At who (told.Subscribe x)) b = ((s : Session) → session_at who.birth b.records ≡ Some s → IsGranted x s) × IsAskedFor x
IsWell d b = ⊤

-- so is each of these deeds
abbrev pub AreWell : List Deed → Broker → Type 0
AreWell = AreGood IsWell

leave_well : (s : Session) (t : Turn) (b : Broker) → AreWell (leave_deeds s t) b
leave_well s (turns.Leave place ending) b = good_of_entry IsWell (row_at copy_place place s.queue) (λ e. At (whose s) (Leave e ending) ∷ []) b (λ e. (tt, tt))
leave_well s t b = tt

leaves_well : (s : Session) (ts : List Turn) (b : Broker) → AreWell (flat_map (leave_deeds s) ts) b
leaves_well s ts b = good_flat IsWell (leave_deeds s) (leave_well s) ts b

turn_well : (now line : ℕ) (s : Session) (t : Turn) (b : Broker) → AreWell (turn_deeds now line s t) b
turn_well now line s (turns.Send place id) b = good_of_entry IsWell (row_at copy_place place s.queue) _ b (λ e. (tt, (tt, (tt, tt))))
turn_well now line s (turns.Resend place id) b = good_of_entry IsWell (row_at copy_place place s.queue) _ b (λ e. (tt, (tt, tt)))
turn_well now line s (turns.Release place id order) b = (tt, (tt, tt))
turn_well now line s (turns.Outgrow place id order) b = (tt, (tt, tt))
turn_well now line s (turns.Repeat id) b = (tt, tt)
turn_well now line s (turns.Unknown id) b = (tt, tt)
turn_well now line s (turns.Leave place ending) b = leave_well s (turns.Leave place ending) b

enter_well : (env : Env) (copy : MessageCopy) (s : Session) (b : Broker) → AreWell (enter_deeds env copy s) b
enter_well env copy s b =
    let ts = way_made (queue_limits env) (since env s) (queue_on [] s) in
    good_append IsWell (flat_map (leave_deeds s) ts) (At (whose s) (Enter copy) ∷ []) b (leaves_well s ts b) (tt, tt)

deliver_well : (t : Bool) (env : Env) (d : CopyTo) (b : Broker) → AreWell (deliver_by t env d b) b
deliver_well true env d b =
    good_with_session IsWell (session_at d.birth b.records) (λ s. always (enter_deeds env d.copy s)) b (λ s e. enter_well env d.copy s b)
deliver_well false env d b =
    of_offer_if (λ (ds : List Deed). AreWell ds b) (has_form d.copy b) (line_of d.birth b) (publish_of b.now false 0 d.copy) tt (λ l there. (tt, tt))

deliveries_well : (env : Env) (ds : List CopyTo) (b : Broker) → AreWell (series (map (deliver env) ds) b) b
deliveries_well env [] b = tt
deliveries_well env (d ∷ ds) b =
    let first = deliver env d b in
    let c = after_all first b in
    good_append IsWell first (series (map (deliver env) ds) c) b (deliver_well (is_queued d) env d b) (deliveries_well env ds c)

forgets_well : (o : Option RetainedMessage) (b : Broker) → AreWell (forgets o) b
forgets_well None b = tt
forgets_well (Some k) b = (tt, tt)

retain_well : (retain empty : Bool) (number : ℕ) (m : Message) (b : Broker) → AreWell (retain_by retain empty number m b) b
retain_well false empty number m b = tt
retain_well true true number m b = forgets_well (retained_of m.topic b.records) b
retain_well true false number m b = (tt, tt)

publish_well : (env : Env) (origin : Origin) (m : Message) (ds : List CopyTo) (b : Broker) → AreWell (publish env origin m ds b) b
publish_well env origin m ds b =
    let number = next_publication b.records in
    let c = after (Accept number origin m) b in
    let next = retain_by m.retain (is_empty m.payload) number m c in
    let d = after_all next c in
    (tt, good_append IsWell next (series (map (deliver env) ds) d) c (retain_well m.retain (is_empty m.payload) number m c) (deliveries_well env ds d))

alone_well : (who : Whose) (part : Part) (b : Broker) → is_alone part ≡ true → IsWell (At who part) b
alone_well who (told.Subscribe x) b q = absurd cc
alone_well who part b q = tt

closed_well : (keeps_will : Bool) (now : ℕ) (o : Option Session) (b : Broker) → AreWell (closing_session keeps_will now o) b
closed_well keeps_will now None b = tt
closed_well true now (Some s) b = (tt, tt)
closed_well false now (Some s) b = (tt, (tt, tt))

closing_well : (keeps_will : Bool) (now : ℕ) (session : Option ℕ) (r : Records) (b : Broker) → AreWell (closing_on keeps_will now session r) b
closing_well keeps_will now None r b = tt
closing_well keeps_will now (Some birth) r b = closed_well keeps_will now (session_at birth r) b

end_well : (s : Session) (q : List CopyRow) (b : Broker) → AreWell (map (λ e. At (whose s) (Leave e SessionEnded)) q ++ Finish (whose s) ∷ []) b
end_well s [] b = (tt, tt)
end_well s (e ∷ q) b = (tt, end_well s q (after (At (whose s) (Leave e SessionEnded)) b))

begin_well : (t : Bool) (l : Line) (c : Greeting) (r : Records) (b : Broker) → AreWell (begin_named t l c r) b
begin_well false l c r b = (tt, (tt, (tt, tt)))
begin_well true l c r b = (tt, (tt, (tt, (tt, tt))))

-- ---- a grant

places_below : (number : ℕ) (xs : List Subscription) → AllByRecursion (λ (x : Subscription). suc x.place ≤ suc number) xs → IsBelow place_of (suc number) xs
places_below number [] h = tt
places_below number (x ∷ xs) h = let le = h.0 in (omega (arith, le), places_below number xs h.1)

given_places : (number : ℕ) (xs : List Subscription) → AllByRecursion (λ (x : Subscription). x.place ≤ number) xs → AllByRecursion (λ (x : Subscription). suc x.place ≤ suc number) xs
given_places number [] h = tt
given_places number (x ∷ xs) h = let le = h.0 in (omega (arith, le), given_places number xs h.1)

place_again : (number : ℕ) (o : Option Subscription) → sub.place_of (sub.place_of number o) o ≡ sub.place_of number o
place_again number None = refl
place_again number (Some x) = refl

-- what a grant subscribes to, if there is room for it
granted_is : (number : ℕ) (s : Session) (w : sub.Wish) (autos : ℕ) → IsCoherentSession autos number s
    → length (without_filter w.filter s.subscriptions) < SUBSCRIPTION_LIMIT → IsGranted (sub.subscription (suc number) s w) s
granted_is number s w autos its room = record {
  place = place_again (suc number) (find (sub.is_to w.filter) s.subscriptions);
  last = λ new. subst (λ (n : ℕ). IsBelow place_of n s.subscriptions) (sym (grants_place (suc number) w.filter s.subscriptions new))
      (places_below number s.subscriptions (given_places number s.subscriptions its.1));
  room = room;
}

grant_well : (env : Env) (w : sub.Wish) (s : Session) (b : Broker) → Keeps b → session_at s.birth b.records ≡ Some s → IsAskedFor (sub.subscription (sub.next_number b.records) s w)
    → AreGood IsFit (sub.granted_filter env (sub.next_number b.records) s w (brought_to w s b) b).deeds b
    → AreWell (sub.granted_filter env (sub.next_number b.records) s w (brought_to w s b) b).deeds b
grant_well env w s b k there its fit =
    let r = b.records in
    let coherent = all_at birth_of (IsCoherentSession r.autos r.subscribes) s.birth s r.sessions k.0.sessions there in
    let granted : (t : Session) → session_at s.birth r ≡ Some t → IsGranted (sub.subscription (sub.next_number r) s w) t =
    λ t here.
    let same : Some s ≡ Some t = sym there ∙ here in
    let is : s ≡ t = cc in
    subst (λ (u : Session). IsGranted (sub.subscription (sub.next_number r) s w) u) is (granted_is r.subscribes s w r.autos coherent (fit.1.0 s there).0.1) in
    let queued = filter is_queued (brought_to w s b) in
    (tt, ((granted, its), deliveries_well env queued (after_all (Count (sub.next_number r) ∷ At (whose s) (told.Subscribe (sub.subscription (sub.next_number r) s w)) ∷ []) b)))

-- ---- the law

-- deeds that fit, and are well
abbrev pub AreBoth : Deed → Broker → Type 0
AreBoth d b = IsFit d b × IsWell d b

abbrev going : About
going = record naming { packet = IsTaken }

both : (ds : List Deed) (b : Broker) → AreGood IsFit ds b → AreWell ds b → AreGood AreBoth ds b
both [] b p q = tt
both (d ∷ ds) b p q = ((p.0, q.0), both ds (after d b) p.1 q.1)

fitting : (ds : List Deed) (b : Broker) → AreGood AreBoth ds b → AreGood IsFit ds b
fitting [] b h = tt
fitting (d ∷ ds) b h = (h.0.0, fitting ds (after d b) h.1)

well : (ds : List Deed) (b : Broker) → AreGood AreBoth ds b → AreWell ds b
well [] b h = tt
well (d ∷ ds) b h = (h.0.1, well ds (after d b) h.1)

joined : (ds : List Deed) (b : Broker) → Leads Keeps IsFit ds b → AreWell ds b → Leads Keeps AreBoth ds b
joined ds b p q = (both ds b p.0 q, p.1)

module _ (env : Env) (within : AreWithin env.limits) where
  base : Law env naming Keeps IsFit
  base = by_deeds env naming Keeps IsFit (fit_law env within) (turn_law env naming Keeps IsFit (fit_law env within) fit_mark)

  going_finds : Finds going Keeps
  going_finds = record {
    its_number = base.finds.its_number;
    its_session = base.finds.its_session;
    its_line = base.finds.its_line;
    named = base.finds.named;
    admitted = λ c b k came e. base.finds.admitted c b k tt e;
    sent = λ l s p topic b k its came e. base.finds.sent l s p topic b k its tt e;
    willed = base.finds.willed;
  }

  granting_law : Law env going Keeps AreBoth
  granting_law = record {
    finds = going_finds;
    client_stays = λ client ds b k done its. base.client_stays client ds b k (fitting ds b done.0, done.1) its;
    publishes = λ origin m ds b k said e. joined (publish env origin m ds b) b (base.publishes origin m ds b k said e) (publish_well env origin m ds b);
    open_id = λ s id m ds b k h its there new is. joined (At (whose s) (Open id) ∷ []) (after_all (publish env FromClient m ds b) b) (base.open_id s id m ds b k h its there new is) (tt, tt);
    refuse_will = λ who b k its. joined (RefuseWill who ∷ []) b (base.refuse_will who b k its) (tt, tt);
    alone = λ who part b k its is. joined (At who part ∷ []) b (base.alone who part b k its is) (alone_well who part b is, tt);
    closes = λ keeps_will l b k its on. joined (closing keeps_will l b) b (base.closes keeps_will l b k its on) (tt, closing_well keeps_will b.now l.session b.records (after (told.Gone l.number) b));
    ends = λ s b k its among may. joined (end_session s) b (base.ends s b k its among may) (end_well s s.queue b);
    resumes = λ l c s b k its none came taken own is prepared.
        joined (At (whose s) (Resume (expiry_of c) (will_of c)) ∷ greet l c s.birth ∷ []) b (base.resumes l c s b k its none tt taken own is prepared) (tt, (tt, tt));
    begins = λ l c b k its none came taken name is room prepared.
        joined (begin_named (is_empty c.client_identifier) l c b.records) b (base.begins l c b k its none tt taken name is room prepared) (begin_well (is_empty c.client_identifier) l c b.records b);
    grants = λ w s b k its asked granted.
        let led = base.grants w s b k its (asked.0, tt, asked.2) granted in
        joined (sub.granted_filter env (sub.next_number b.records) s w (brought_to w s b) b).deeds b led
        (grant_well env w s b k granted.session (record { filter = granted.valid; identifier = subst IsIdentifier (sym asked.2) (asked_identifier asked.0 asked.1) }) led.0);
    pumps = λ l s b k its is there. joined (pump_deeds l b s) b (base.pumps l s b k its is there) (good_flat IsWell (turn_deeds b.now l.number s) (turn_well b.now l.number s) (pump_turns l b s) b);
    turns = λ a t l s b k its own there is e. joined (turn_deeds b.now l.number s t) b (base.turns a t l s b k its own there is e) (turn_well b.now l.number s t b);
    lapses = λ s b k among. joined (lapse_deeds b.now s) b (base.lapses s b k among) (leaves_well s (lapses b.now s) b);
    stale = λ x b k among. joined (Forget x.place ∷ []) b (base.stale x b k among) (tt, tt);
    links = λ b k can. joined (Link (suc b.given) ∷ []) b (base.links b k can) (tt, tt);
    hears = λ n b k its. joined (On n Hear ∷ []) b (base.hears n b k its) (tt, tt);
    sets = λ n alias topic b k its said. joined (On n (SetAlias alias topic) ∷ []) b (base.sets n alias topic b k its said) (tt, tt);
    sends = λ n packet b k its. joined (Send n packet ∷ []) b (base.sends n packet b k its) (tt, tt);
  }

  going_call : (call : Call) (b : Broker) → TakesLawful call → IsCallOf going call b
  going_call NewLine b taken = tt
  going_call (Input n packet) b taken = ((λ l e. tt), taken)
  going_call (BadInput n is_connect code) b taken = λ l e. tt
  going_call (Lost n) b taken = λ l e. tt
  going_call (Pump n) b taken = λ l e. tt
  going_call Tick b taken = record { silent = λ l e. tt; wills = λ s e. tt; ends = λ s e. tt }

  -- the deeds of a call that takes what is lawful are such
  pub well_call : (call : Call) (b : Broker) → Keeps b → TakesLawful call → AreWell (deeds_of env call b) b
  well_call call b k taken = well (deeds_of env call b) b (leads_call env going Keeps AreBoth granting_law call b k (going_call call b taken)).0

  -- and those of an opening
  pub well_opening : (b : Broker) → Keeps b → AreWell (opening env b) b
  well_opening b k =
      well (opening env b) b
      (leads_opening env going Keeps AreBoth granting_law
      (λ s c h is. joined (At (whose s) (Close c.now) ∷ []) c (by_deeds_shuts env naming Keeps IsFit (fit_law env within) (λ birth. tt) s c h is) (tt, tt)) (λ birth. tt) b k).0
