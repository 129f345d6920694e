-- Each unit of deeds leaves contents shared: a publication's copies say what it says, under a number that is new, and copies
-- of retained messages say what these say.
use Rattle.std.proofs.Common.{◌≡◌, ◌≤◌, ◌⊎◌, ℕ, suc, Bool, true, false, not, ◌&&◌, List, [], ◌∷◌, ◌++◌, filter, map, Option, Some, None, refl, sym, ap, subst, ◌∙◌, arith, inl, inr}
use Rattle.std.specs.Prelude.{flat_map, option_map}
use Rattle.std.specs.List.{AllByRecursion}
use Rattle.mqtt_base.specs.declared.session.Cause.{Cause}
use Rattle.mqtt_base.specs.declared.session.Cause.TheVariants.{Direct, Share}
use Rattle.mqtt_base.specs.declared.session.Ending.TheVariants.{SessionEnded}
use Rattle.mqtt_topic.specs.names.Names.{is_empty}
use Rattle.mqtt_topic.specs.names.Filters.{begins_share}
use Rattle.mqtt_flow.specs.declared.outbound.entry.Turn.{Turn}
use Rattle.mqtt_flow.specs.declared.outbound.entry.Turn.TheVariants as turns
use Rattle.mqtt_flow.specs.outbound.Outbound.{way_made}
use Rattle.mqtt_routes.specs.declared.routing.retained.Kept.{Kept}
use Rattle.mqtt_routes.specs.routing.Retained.{kept_for}
use Rattle.mqtt_routes.specs.routing.Intended.{Copy}
use Rattle.mqtt_routes.specs.routing.Acceptance.{Routed, copies_in}
use Rattle.mqtt_records.specs.declared.messages.message.MessageCopy.{MessageCopy}
use Rattle.mqtt_records.specs.declared.messages.message.RetainedMessage.{RetainedMessage}
use Rattle.mqtt_records.specs.messages.Queue.{CopyRow}
use Rattle.mqtt_records.specs.declared.state.session.Session.{Session}
use Rattle.mqtt_records.specs.declared.state.records.Records.{Records}
use Rattle.mqtt_records.specs.lists.Order.{row_at}
use Rattle.mqtt_records.specs.state.Session.{copy_place}
use Rattle.mqtt_records.specs.state.Members.{Has}
use Rattle.mqtt_records.specs.state.Contents.{StoredMessage, retained_message, IsMessageOf}
use Rattle.mqtt_rules.specs.step.Packets.{publish_of}
use Rattle.mqtt_packet.specs.declared.connect.connect.Connect.{Connect as Greeting}
use Rattle.mqtt_rules.specs.step.State.{Line, Broker, Env, session_at, line_of, queue_on}
use Rattle.mqtt_rules.specs.step.Deeds.{Whose, whose, Message, Origin, FromClient, Part, Resume, Close, Open, Enter, Leave, Hear, SetAlias, Deed, Accept, Count, At, Finish, Forget, RefuseWill, Link, On, Send, Gone, after, after_all, series, always}
use Rattle.mqtt_rules.specs.step.Deeds as told
use Rattle.mqtt_rules.specs.step.Outbound.{leave_deeds, turn_deeds, since, queue_limits, enter_deeds}
use Rattle.mqtt_rules.specs.step.Routing.{CopyTo, copy_to, served_copies_to, copies_to, next_publication, routing_of, finds_place, accepted_if, accepted_copies, is_queued, deliver_by, deliver, retained_of, forgets, retain_by, publish}
use Rattle.mqtt_rules.specs.step.Closing.{end_session}
use Rattle.mqtt_rules.specs.step.Connect.{expiry_of, will_of, greet, begin_named}
use Rattle.mqtt_rules.specs.step.Fitting.{has_form, pump_turns}
use Rattle.mqtt_rules.specs.step.Inbound.{pump_deeds}
use Rattle.mqtt_rules.specs.step.Subscribe as sub
use Rattle.mqtt_rules.specs.step.Tick.{lapses, lapse_deeds}
use Rattle.mqtt_rules.specs.step.Step.{Call, deeds_of, opening}
use Rattle.mqtt_rules.proofs.step_lemmas.acts.Offers.{of_offer_if}
use Rattle.mqtt_rules.proofs.step_lemmas.acts.Goods.{AreGood, good_append, good_flat, good_of_entry, good_with_session}
use Rattle.mqtt_rules.proofs.step_lemmas.acts.Leads.{Leads}
use Rattle.mqtt_rules.proofs.step_lemmas.acts.Acts.{anyone, finds_anyone, call_of_anyone, closing_session, closing_on, closing, is_alone, brought_to, Law, leads_call, leads_opening}
use Rattle.mqtt_rules.proofs.step_lemmas.numbers.Copies.{each_append, each_filter, each_flat, each_all, each_map, each_more}
use Rattle.mqtt_rules.proofs.sharing_lemmas.Agreement.{message_of, HasFittingRows, Agree, IsOrMayBe, MaySay, deeds_fit}

-- what a copy for a session says
abbrev message_to : CopyTo → StoredMessage
message_to d = message_of d.copy

-- ---- acts whose copies say what may be said

module _ (May : StoredMessage → Type 0) where
  abbrev Say : List Deed → Broker → Type 0
  Say = AreGood (MaySay May)

  abbrev AreSaid : List CopyTo → Type 0
  AreSaid ds = AllByRecursion (λ d. May (message_to d)) ds

  leave_says : (s : Session) (t : Turn) (b : Broker) → Say (leave_deeds s t) b
  leave_says s (turns.Leave place ending) b = good_of_entry (MaySay May) (row_at copy_place place s.queue) (λ e. At (whose s) (Leave e ending) ∷ []) b (λ e. (tt, tt))
  leave_says s t b = tt

  leaves_say : (s : Session) (ts : List Turn) (b : Broker) → Say (flat_map (leave_deeds s) ts) b
  leaves_say s ts b = good_flat (MaySay May) (leave_deeds s) (leave_says s) ts b

  turn_says : (now line : ℕ) (s : Session) (t : Turn) (b : Broker) → Say (turn_deeds now line s t) b
  turn_says now line s (turns.Send place id) b = good_of_entry (MaySay May) (row_at copy_place place s.queue) _ b (λ e. (tt, (tt, (tt, tt))))
  turn_says now line s (turns.Resend place id) b = good_of_entry (MaySay May) (row_at copy_place place s.queue) _ b (λ e. (tt, (tt, tt)))
  turn_says now line s (turns.Release place id order) b = (tt, (tt, tt))
  turn_says now line s (turns.Outgrow place id order) b = (tt, (tt, tt))
  turn_says now line s (turns.Repeat id) b = (tt, tt)
  turn_says now line s (turns.Unknown id) b = (tt, tt)
  turn_says now line s (turns.Leave place ending) b = leave_says s (turns.Leave place ending) b

  enter_says : (env : Env) (copy : MessageCopy) (s : Session) (b : Broker) → May (message_of copy) → Say (enter_deeds env copy s) b
  enter_says env copy s b may =
      let ts = way_made (queue_limits env) (since env s) (queue_on [] s) in
      good_append (MaySay May) (flat_map (leave_deeds s) ts) (At (whose s) (Enter copy) ∷ []) b (leaves_say s ts b) (may, tt)

  deliver_says : (t : Bool) (env : Env) (d : CopyTo) (b : Broker) → May (message_to d) → Say (deliver_by t env d b) b
  deliver_says true env d b may =
      good_with_session (MaySay May) (session_at d.birth b.records) (λ s. always (enter_deeds env d.copy s)) b (λ s e. enter_says env d.copy s b may)
  deliver_says false env d b may =
      of_offer_if (λ (ds : List Deed). Say ds b) (has_form d.copy b) (line_of d.birth b) (publish_of b.now false 0 d.copy) tt (λ l there. (tt, tt))

  -- copies that are handed over say what may be said, if each does
  deliveries_say : (env : Env) (ds : List CopyTo) (b : Broker) → AreSaid ds → Say (series (map (deliver env) ds) b) b
  deliveries_say env [] b may = tt
  deliveries_say env (d ∷ ds) b may =
      let first = deliver env d b in
      let c = after_all first b in
      good_append (MaySay May) first (series (map (deliver env) ds) c) b (deliver_says (is_queued d) env d b may.0) (deliveries_say env ds c may.1)

  forgets_say : (o : Option RetainedMessage) (b : Broker) → Say (forgets o) b
  forgets_say None b = tt
  forgets_say (Some k) b = (tt, tt)

  alone_says : (who : Whose) (part : Part) (b : Broker) → is_alone part ≡ true → MaySay May (At who part) b
  alone_says who (Enter copy) b is = absurd cc
  alone_says who part b is = tt

  closed_says : (keeps_will : Bool) (now : ℕ) (o : Option Session) (b : Broker) → Say (closing_session keeps_will now o) b
  closed_says keeps_will now None b = tt
  closed_says true now (Some s) b = (tt, tt)
  closed_says false now (Some s) b = (tt, (tt, tt))

  closing_says : (keeps_will : Bool) (now : ℕ) (session : Option ℕ) (r : Records) (b : Broker) → Say (closing_on keeps_will now session r) b
  closing_says keeps_will now None r b = tt
  closing_says keeps_will now (Some birth) r b = closed_says keeps_will now (session_at birth r) b

  end_says : (s : Session) (q : List CopyRow) (b : Broker) → Say (map (λ e. At (whose s) (Leave e SessionEnded)) q ++ Finish (whose s) ∷ []) b
  end_says s [] b = (tt, tt)
  end_says s (e ∷ q) b = (tt, end_says s q (after (At (whose s) (Leave e SessionEnded)) b))

  begin_says : (t : Bool) (l : Line) (c : Greeting) (r : Records) (b : Broker) → Say (begin_named t l c r) b
  begin_says false l c r b = (tt, (tt, (tt, tt)))
  begin_says true l c r b = (tt, (tt, (tt, (tt, tt))))

-- ---- between the deeds of an act

-- nothing may be said but what is said
abbrev nothing_more : StoredMessage → Type 0
nothing_more m = ⊥

-- all that is said of one number is the same, and no number is above the last publication's
abbrev pub Keeps : Broker → Type 0
Keeps b = Agree nothing_more b.records

module _ (May : StoredMessage → Type 0) (r : Records) (h : Agree May r) where
  or_may : (m : StoredMessage) → IsOrMayBe nothing_more r m → IsOrMayBe May r m
  or_may m (inl said) = inl said
  or_may m (inr none) = absurd none

  said_agrees : Agree nothing_more r
  said_agrees = record {
    alike = λ m n p q same. h.alike m n (or_may m p) (or_may n q) same;
    within = λ m p. h.within m (or_may m p);
  }

-- deeds that say nothing but what may be said lead on
leads : (May : StoredMessage → Type 0) (ds : List Deed) (b : Broker) → Agree May b.records → AreGood (MaySay May) ds b → Leads Keeps HasFittingRows ds b
leads May ds b h may = let fit = deeds_fit May ds b h may in (fit.0, said_agrees May (after_all ds b).records fit.1)

-- so do deeds that say nothing
plain : (ds : List Deed) (b : Broker) → Keeps b → AreGood (MaySay nothing_more) ds b → Leads Keeps HasFittingRows ds b
plain ds b h may = leads nothing_more ds b h may

-- ---- a publication

-- what all copies of a message say under its number
abbrev published : ℕ → Message → StoredMessage
published number m = record { publication = number; topic = m.topic; properties = m.properties; payload = m.payload }

-- its retained message too
abbrev IsIt : ℕ → Message → StoredMessage → Type 0
IsIt number m n = n ≡ published number m

copies_say_it : (number now : ℕ) (m : Message) (r : Routed) → AreSaid (IsIt number m) (copies_to number now m r)
copies_say_it number now m r =
    each_append (λ d. IsIt number m (message_to d)) (map (copy_to number now m Direct) r.direct) (flat_map (served_copies_to number now m) r.served)
    (of_cause Direct r.direct)
    (each_flat (λ d. IsIt number m (message_to d)) (served_copies_to number now m) (λ s. of_cause (Share s.group) (copies_in s.copy)) r.served)
  where
    of_cause : (cause : Cause) (cs : List Copy) → AreSaid (IsIt number m) (map (copy_to number now m cause) cs)
    of_cause cause cs =
        each_map (λ d. IsIt number m (message_to d)) (copy_to number now m cause) cs
        (each_all (λ c. IsIt number m (message_to (copy_to number now m cause c))) (λ c. refl) cs)

accepted_say_it : (t : Bool) (number now : ℕ) (m : Message) (o : Option Routed) (ds : List CopyTo) → accepted_if t (option_map (copies_to number now m) o) ≡ Some ds → AreSaid (IsIt number m) ds
accepted_say_it false number now m o ds e = absurd cc
accepted_say_it true number now m None ds e = absurd cc
accepted_say_it true number now m (Some r) ds e =
    let same : copies_to number now m r ≡ ds = cc in
    subst (λ (xs : List CopyTo). AreSaid (IsIt number m) xs) same (copies_say_it number now m r)

retain_says : (retain empty : Bool) (number : ℕ) (m : Message) (b : Broker) → AreGood (MaySay (IsIt number m)) (retain_by retain empty number m b) b
retain_says false empty number m b = tt
retain_says true true number m b = forgets_say (IsIt number m) (retained_of m.topic b.records) b
retain_says true false number m b = (refl, tt)

-- its number is above all that stand, so it agrees with all that is said
accepted_agrees : (origin : Origin) (m : Message) (b : Broker) → Keeps b → Agree (IsIt (next_publication b.records) m) (after (Accept (next_publication b.records) origin m) b).records
accepted_agrees origin m b h = record {
  alike = λ x y p q same. both x y p q same;
  within = λ x p. up x p;
}
  where
    number : ℕ
    number = next_publication b.records

    old : (x : StoredMessage) → IsMessageOf b.records x → x.publication ≤ b.records.publications
    old x said = h.within x (inl said)

    its : (x : StoredMessage) → IsIt number m x → x.publication ≡ suc b.records.publications
    its x is = ap (λ (n : StoredMessage). n.publication) is

    up : (x : StoredMessage) → IsMessageOf b.records x ⊎ IsIt number m x → x.publication ≤ suc b.records.publications
    up x (inl said) = let le = old x said in omega (arith, le)
    up x (inr is) = let e = its x is in omega (arith, e)

    both : (x y : StoredMessage) → IsMessageOf b.records x ⊎ IsIt number m x → IsMessageOf b.records y ⊎ IsIt number m y → y.publication ≡ x.publication → y ≡ x
    both x y (inl p) (inl q) same = h.alike x y (inl p) (inl q) same
    both x y (inl p) (inr q) same = let le = old x p in let e = its y q in absurd (omega (arith, le, e, same))
    both x y (inr p) (inl q) same = let le = old y q in let e = its x p in absurd (omega (arith, le, e, same))
    both x y (inr p) (inr q) same = q ∙ sym p

-- an accepted publication, with its retained message and its copies
publication_leads : (env : Env) (origin : Origin) (m : Message) (ds : List CopyTo) (b : Broker) → Keeps b → accepted_copies env m b ≡ Some ds → Leads Keeps HasFittingRows (publish env origin m ds b) b
publication_leads env origin m ds b h e =
    let number = next_publication b.records in
    let c = after (Accept number origin m) b in
    let next = retain_by m.retain (is_empty m.payload) number m c in
    let d = after_all next c in
    let say = good_append (MaySay (IsIt number m)) next (series (map (deliver env) ds) d) c (retain_says m.retain (is_empty m.payload) number m c)
    (deliveries_say (IsIt number m) env ds d (accepted_say_it (finds_place env m b.records) number b.now m (routing_of env m b.records) ds e)) in
    let rest = leads (IsIt number m) (next ++ series (map (deliver env) ds) d) c (accepted_agrees origin m b h) say in
    (((tt, tt), rest.0), rest.1)

-- ---- copies of retained messages

all_of : {X : Type 0} (P : X → Type 0) (xs : List X) → ((x : X) → Has xs x → P x) → AllByRecursion P xs
all_of P [] h = tt
all_of P (x ∷ xs) h = (h x (inl refl), all_of P xs (λ y there. h y (inr there)))

-- they say what the messages say
brought_say : (t : Bool) (now number : ℕ) (s : Session) (w : sub.Wish) (r : Records) → AreSaid (IsMessageOf r) (sub.brought_if t now number s w r.retained)
brought_say false now number s w r = tt
brought_say true now number s w r =
    let ks = r.retained in
    let Said : RetainedMessage → Type 0 = λ k. IsMessageOf r (retained_message k) in
    let tabled = each_map (λ (y : Kept RetainedMessage). Said (sub.message_in y)) sub.kept_of ks (all_of Said ks (λ k there. inr (k, there, refl))) in
    let matched = each_filter (λ (y : Kept RetainedMessage). Said (sub.message_in y)) _ (map sub.kept_of ks) tabled in
    let messages = each_map Said sub.message_in (kept_for w.filter (map sub.kept_of ks)) matched in
    let all = filter (sub.is_brought now s w) (map sub.message_in (kept_for w.filter (map sub.kept_of ks))) in
    let fit = each_filter Said (sub.is_brought now s w) (map sub.message_in (kept_for w.filter (map sub.kept_of ks))) messages in
    each_map (λ d. IsMessageOf r (message_to d)) (sub.retained_copy_to s.birth number w) all
    (each_more Said (λ k. IsMessageOf r (message_to (sub.retained_copy_to s.birth number w k))) (λ k said. said) all fit)

said_again : (r : Records) → Agree nothing_more r → Agree (IsMessageOf r) r
said_again r h = record {
  alike = λ m n p q same. h.alike m n (inl (once m p)) (inl (once n q)) same;
  within = λ m p. h.within m (inl (once m p));
}
  where
    once : (m : StoredMessage) → IsOrMayBe (IsMessageOf r) r m → IsMessageOf r m
    once m (inl said) = said
    once m (inr said) = said

-- a filter that is granted, with the copies that it brings
grant_leads : (env : Env) (w : sub.Wish) (s : Session) (b : Broker) → Keeps b → Leads Keeps HasFittingRows (sub.granted_filter env (sub.next_number b.records) s w (brought_to w s b) b).deeds b
grant_leads env w s b h =
    let number = sub.next_number b.records in
    let queued = filter is_queued (brought_to w s b) in
    let c = after_all (Count number ∷ At (whose s) (told.Subscribe (sub.subscription number s w)) ∷ []) b in
    let copies = brought_say (not (begins_share w.filter) && sub.wants_retained w.options.retain_handling (sub.has_filter w.filter s)) b.now number s w b.records in
    leads (IsMessageOf b.records) (sub.granted_filter env number s w (brought_to w s b) b).deeds b (said_again b.records h)
    (tt, (tt, deliveries_say (IsMessageOf b.records) env queued c (each_filter (λ d. IsMessageOf b.records (message_to d)) is_queued (brought_to w s b) copies)))

-- ---- each unit of deeds

law : (env : Env) → Law env anyone Keeps HasFittingRows
law env = record {
  finds = finds_anyone Keeps;
  client_stays = λ client ds b k done its. tt;
  publishes = λ origin m ds b k said e. publication_leads env origin m ds b k e;
  open_id = λ s id m ds b k h its there new is. plain (At (whose s) (Open id) ∷ []) (after_all (publish env FromClient m ds b) b) h (tt, tt);
  refuse_will = λ who b k its. plain (RefuseWill who ∷ []) b k (tt, tt);
  alone = λ who part b k its is. plain (At who part ∷ []) b k (alone_says nothing_more who part b is, tt);
  closes = λ keeps_will l b k its on. plain (closing keeps_will l b) b k (tt, closing_says nothing_more keeps_will b.now l.session b.records (after (Gone l.number) b));
  ends = λ s b k its among may. plain (end_session s) b k (end_says nothing_more s s.queue b);
  resumes = λ l c s b k its none came taken own is prepared. plain (At (whose s) (Resume (expiry_of c) (will_of c)) ∷ greet l c s.birth ∷ []) b k (tt, (tt, tt));
  begins = λ l c b k its none came taken name is room prepared. plain (begin_named (is_empty c.client_identifier) l c b.records) b k (begin_says nothing_more (is_empty c.client_identifier) l c b.records b);
  grants = λ w s b k its asked granted. grant_leads env w s b k;
  pumps = λ l s b k its is there. plain (pump_deeds l b s) b k (good_flat (MaySay nothing_more) (turn_deeds b.now l.number s) (turn_says nothing_more b.now l.number s) (pump_turns l b s) b);
  turns = λ a t l s b k its own there is e. plain (turn_deeds b.now l.number s t) b k (turn_says nothing_more b.now l.number s t b);
  lapses = λ s b k among. plain (lapse_deeds b.now s) b k (leaves_say nothing_more s (lapses b.now s) b);
  stale = λ x b k among. plain (Forget x.place ∷ []) b k (tt, tt);
  links = λ b k can. plain (Link (suc b.given) ∷ []) b k (tt, tt);
  hears = λ n b k its. plain (On n Hear ∷ []) b k (tt, tt);
  sets = λ n alias topic b k its said. plain (On n (SetAlias alias topic) ∷ []) b k (tt, tt);
  sends = λ n packet b k its. plain (Send n packet ∷ []) b k (tt, tt);
}

-- the deeds of a call write rows that fit, and leave contents shared
pub call_leads : (env : Env) (call : Call) (b : Broker) → Keeps b → Leads Keeps HasFittingRows (deeds_of env call b) b
call_leads env call b h = leads_call env anyone Keeps HasFittingRows (law env) call b h (call_of_anyone call b)

-- so do those of an opening
pub opening_leads : (env : Env) (b : Broker) → Keeps b → Leads Keeps HasFittingRows (opening env b) b
opening_leads env b h = leads_opening env anyone Keeps HasFittingRows (law env) (λ s c k is. plain (At (whose s) (Close c.now) ∷ []) c k (tt, tt)) (λ birth. tt) b h
