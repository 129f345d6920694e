-- Deeds that are traced to what clients asked for: those that send no PUBLISH, those of a publication, and those of a filter that is
-- granted (MQTT 5.0, 3.3.4, 3.8.4).
use Rattle.std.proofs.Common.{◌≡◌, ℕ, Bool, true, false, cond, List, [], ◌∷◌, ◌++◌, filter, map, Option, Some, None, nat_eq, refl, sym, ap, subst, inl, inr}
use Rattle.std.specs.Prelude.{⊤, flat_map, option_map}
use Rattle.std.specs.List.{AllByRecursion}
use Rattle.std.proofs.lemmas.Bool.{eqb-true}
use Rattle.mqtt_base.specs.declared.session.Qos.{Qos}
use Rattle.mqtt_base.specs.declared.session.Qos.TheVariants as qos
use Rattle.mqtt_packet.specs.declared.codec.packet.Packet.{Packet}
use Rattle.mqtt_packet.specs.declared.codec.packet.Packet.TheVariants as packets
use Rattle.mqtt_flow.specs.declared.outbound.entry.Turn.{Turn}
use Rattle.mqtt_flow.specs.declared.outbound.entry.Turn.TheVariants as turns
use Rattle.mqtt_flow.specs.outbound.Outbound.{way_made}
use Rattle.mqtt_records.specs.declared.messages.message.RetainedMessage.{RetainedMessage}
use Rattle.mqtt_records.specs.declared.state.session.Session.{Session}
use Rattle.mqtt_records.specs.lists.Order.{row_at}
use Rattle.mqtt_records.specs.messages.Queue.{CopyRow}
use Rattle.mqtt_records.specs.state.Session.{birth_of, copy_place}
use Rattle.mqtt_topic.specs.names.Names.{is_empty}
use Rattle.mqtt_rules.specs.step.Deeds.{Accept, At, Count, Deed, Enter, Leave, Message, Origin, Send, Subscribe, after, after_all, always, offer, series, whose, with_session}
use Rattle.mqtt_rules.specs.step.Fitting.{has_form, offer_copy}
use Rattle.mqtt_rules.specs.step.Laws.{IsAmong}
use Rattle.mqtt_rules.specs.step.Lines.{session_on}
use Rattle.mqtt_rules.specs.step.Outbound.{enter_deeds, leave_deeds, of_entry, queue_limits, since}
use Rattle.mqtt_rules.specs.step.Packets.{publish_of}
use Rattle.mqtt_rules.specs.step.Routing.{CopyTo, accepted_copies, deliver, deliver_by, forgets, is_queued, is_queued_at, next_publication, publish, retain_by, retained_of}
use Rattle.mqtt_rules.specs.step.State.{Broker, Env, Line, is_of, line_at, line_of, queue_on, session_at}
use Rattle.mqtt_rules.specs.step.Step.{Call}
use Rattle.mqtt_rules.specs.step.Subscribe as sub
use Rattle.mqtt_rules.proofs.step_lemmas.acts.Acts.{brought_to}
use Rattle.mqtt_rules.proofs.step_lemmas.acts.Leads.{found_among, found_passes}
use Rattle.mqtt_rules.proofs.step_lemmas.acts.Offers.{of_offer, of_offer_if}
use Rattle.mqtt_rules.proofs.step_lemmas.fit.StandLaw.{Orders}
use Rattle.mqtt_rules.proofs.step_lemmas.flight.FlightRows.{found_key}
use Rattle.mqtt_rules.proofs.step_lemmas.numbers.Copies.{each_filter, each_flat, each_more}
use Rattle.mqtt_world_laws.specs.acceptance.Entries.{Moment, moment_of, moments_of}
use Rattle.mqtt_world_laws.specs.unasked.Asking.{WasCalledFor}
use Rattle.mqtt_world_laws.specs.unasked.Unasked.{AreTraced, IsOnLine, IsRequested, IsTraced}
use Rattle.mqtt_world_laws.proofs.published_lemmas.Direct.{among_left, among_right}
use Rattle.mqtt_world_laws.proofs.unasked_lemmas.Called.{IsBrought, IsCalled, brought_called, granting, publication_called}

-- ---- who stands on a line

option_is : (o : Option ℕ) (birth : ℕ) → is_of o birth ≡ true → o ≡ Some birth
option_is None birth e = absurd cc
option_is (Some x) birth e = ap (λ (n : ℕ). Some n) (eqb-true x birth e)

-- the line that a session is found on is one on which it is connected
pub on_found_line : (birth : ℕ) (l : Line) (b : Broker) → line_of birth b ≡ Some l → IsOnLine l.number birth b
on_found_line birth l b e = record {
  line = l;
  stands = found_among (λ (x : Line). is_of x.session birth) l b.lines e;
  number = refl;
  session = option_is l.session birth (found_passes (λ (x : Line). is_of x.session birth) l b.lines e);
}

-- so is the line that is found by its number, if the session is the one that is connected there
pub on_its_line : (n birth : ℕ) (b : Broker) → session_on n b ≡ Some (Some birth) → IsOnLine n birth b
on_its_line n birth b e = by (line_at n b) refl e
  where
    by : (o : Option Line) → line_at n b ≡ o → option_map (λ (l : Line). l.session) o ≡ Some (Some birth) → IsOnLine n birth b
    by None is f = absurd cc
    by (Some l) is f = record {
      line = l;
      stands = found_among (λ (x : Line). nat_eq x.number n) l b.lines is;
      number = eqb-true l.number n (found_passes (λ (x : Line). nat_eq x.number n) l b.lines is);
      session = cc;
    }

-- ---- lists of deeds

-- all of these moments are among those
abbrev pub Contains : List Moment → List Moment → Type 0
Contains ms xs = (x : Moment) → IsAmong x xs → IsAmong x ms

module _ (call : Option Call) (env : Env) where
  -- each deed of a list is traced, to these moments
  abbrev pub In : List Moment → List Deed → Broker → Type 0
  In ms ds b = AreTraced call ms (moments_of env ds b)

  -- each deed of a list is traced, to its own deeds and whatever else is done
  abbrev pub Traced : List Deed → Broker → Type 0
  Traced ds b = (ms : List Moment) → Contains ms (moments_of env ds b) → In ms ds b

  -- the moments of two lists, one after the other
  pub moments_append : (xs ys : List Deed) (b : Broker) → moments_of env (xs ++ ys) b ≡ moments_of env xs b ++ moments_of env ys (after_all xs b)
  moments_append [] ys b = refl
  moments_append (x ∷ xs) ys b = ap (λ (ms : List Moment). moment_of env x b ∷ ms) (moments_append xs ys (after x b))

  -- two lists are traced one after the other
  pub in_append : (ms : List Moment) (xs ys : List Deed) (b : Broker) → In ms xs b → In ms ys (after_all xs b) → In ms (xs ++ ys) b
  in_append ms [] ys b p q = q
  in_append ms (x ∷ xs) ys b p q = (p.0, in_append ms xs ys (after x b) p.1 q)

  -- the moments of the first list are among those of both
  pub first_of : (ms : List Moment) (xs ys : List Deed) (b : Broker) → Contains ms (moments_of env (xs ++ ys) b) → Contains ms (moments_of env xs b)
  first_of ms xs ys b h x among = h x (subst (λ (zs : List Moment). IsAmong x zs) (sym (moments_append xs ys b)) (among_left x (moments_of env xs b) (moments_of env ys (after_all xs b)) among))

  -- so are those of the second
  pub second_of : (ms : List Moment) (xs ys : List Deed) (b : Broker) → Contains ms (moments_of env (xs ++ ys) b) → Contains ms (moments_of env ys (after_all xs b))
  second_of ms xs ys b h x among = h x (subst (λ (zs : List Moment). IsAmong x zs) (sym (moments_append xs ys b)) (among_right x (moments_of env xs b) (moments_of env ys (after_all xs b)) among))

  -- two lists, each traced to its own deeds
  pub traced_append : (xs ys : List Deed) (b : Broker) → Traced xs b → Traced ys (after_all xs b) → Traced (xs ++ ys) b
  traced_append xs ys b p q ms h = in_append ms xs ys b (p ms (first_of ms xs ys b h)) (q ms (second_of ms xs ys b h))

  -- two lists, of which the second is traced to the first, too
  pub traced_both : (xs ys : List Deed) (b : Broker) → Traced xs b → ((ms : List Moment) → Contains ms (moments_of env xs b) → In ms ys (after_all xs b)) → Traced (xs ++ ys) b
  traced_both xs ys b p q ms h = let mine = first_of ms xs ys b h in in_append ms xs ys b (p ms mine) (q ms mine)

  -- ---- deeds that send no PUBLISH, let no copy enter and grant no subscription

  -- such a deed
  abbrev pub IsSilent : Deed → Type 0
  IsSilent (Send n (packets.Publish p)) = ⊥
  IsSilent (At who (Enter copy)) = ⊥
  IsSilent (At who (Subscribe x)) = ⊥
  IsSilent d = ⊤

  -- and many
  abbrev pub AreSilent : List Deed → Type 0
  AreSilent ds = AllByRecursion IsSilent ds

  silent_one : (ms : List Moment) (d : Deed) (b : Broker) → IsSilent d → IsTraced call ms d b
  silent_one ms (Send n (packets.Publish p)) b h = absurd h
  silent_one ms (At who (Enter copy)) b h = absurd h
  silent_one ms (At who (Subscribe x)) b h = absurd h
  silent_one ms d b h = tt

  -- such deeds are traced
  pub silent_in : (ms : List Moment) (ds : List Deed) (b : Broker) → AreSilent ds → In ms ds b
  silent_in ms [] b h = tt
  silent_in ms (d ∷ ds) b h = (silent_one ms d b h.0, silent_in ms ds (after d b) h.1)

  -- so is a list of nothing else
  pub silently : (ds : List Deed) (b : Broker) → AreSilent ds → Traced ds b
  silently ds b h ms own = silent_in ms ds b h

  -- a choice between such deeds is such
  pub silent_cond : (t : Bool) (xs ys : List Deed) → AreSilent xs → AreSilent ys → AreSilent (cond t xs ys)
  silent_cond true xs ys p q = p
  silent_cond false xs ys p q = q

  -- a copy that leaves is silent
  pub silent_leave : (s : Session) (t : Turn) → AreSilent (leave_deeds s t)
  silent_leave s (turns.Leave place ending) = by (row_at copy_place place s.queue)
    where
      by : (o : Option CopyRow) → AreSilent (of_entry o (λ e. At (whose s) (Leave e ending) ∷ []))
      by None = tt
      by (Some e) = (tt, tt)
  silent_leave s t = tt

  -- so are many
  pub silent_leaves : (s : Session) (ts : List Turn) → AreSilent (flat_map (leave_deeds s) ts)
  silent_leaves s ts = each_flat IsSilent (leave_deeds s) (silent_leave s) ts

  -- a packet that is no PUBLISH is offered silently
  pub silent_offer : (o : Option Line) (packet : Packet) → IsSilent (Send 0 packet) → AreSilent (offer o packet)
  silent_offer o packet h = of_offer (AreSilent) o packet tt (λ l there. (by l.number packet h, tt))
    where
      by : (n : ℕ) (x : Packet) → IsSilent (Send 0 x) → IsSilent (Send n x)
      by n (packets.Publish q) k = absurd k
      by n x k = tt

  -- ---- copies that were called for

  light : (q : Qos) → is_queued_at q ≡ false → q ≡ qos.AtMostOnce
  light qos.AtMostOnce e = refl
  light qos.AtLeastOnce e = absurd cc
  light qos.ExactlyOnce e = absurd cc

  -- a PUBLISH of QoS 0 that is offered to a line on which its session is connected
  pub offered : (ms : List Moment) (o : Option Line) (d : CopyTo) (b : Broker) → is_queued d ≡ false → IsCalled ms d → ((l : Line) → o ≡ Some l → IsOnLine l.number d.birth b) → In ms (offer_copy o d.copy b) b
  offered ms o d b low called on = of_offer_if (λ (ds : List Deed). In ms ds b) (has_form d.copy b) o (publish_of b.now false 0 d.copy) tt
      (λ l there. (record { birth = d.birth; line = on l there; copy = d.copy; dup = false; id = 0; is = refl; asked = inr (light d.copy.qos low, called) }, tt))

  entering : (ms : List Moment) (d : CopyTo) (s : Session) (b : Broker) → IsCalled ms d → s.birth ≡ d.birth → In ms (enter_deeds env d.copy s) b
  entering ms d s b called its =
      let ts = way_made (queue_limits env) (since env s) (queue_on [] s) in
      let leaves = flat_map (leave_deeds s) ts in
      in_append ms leaves (At (whose s) (Enter d.copy) ∷ []) b (silent_in ms leaves b (silent_leaves s ts)) (subst (λ (n : ℕ). WasCalledFor ms n d.copy) (sym its) called, tt)

  delivered : (ms : List Moment) (t : Bool) (d : CopyTo) (b : Broker) → is_queued d ≡ t → IsCalled ms d → In ms (deliver_by t env d b) b
  delivered ms true d b is called = by (session_at d.birth b.records) refl
    where
      by : (o : Option Session) → session_at d.birth b.records ≡ o → In ms (with_session o (λ s. always (enter_deeds env d.copy s)) b) b
      by None there = tt
      by (Some s) there = entering ms d s b called (found_key birth_of d.birth s b.records.sessions there)
  delivered ms false d b is called = offered ms (line_of d.birth b) d b is called (λ l there. on_found_line d.birth l b there)

  -- the deliveries of copies that were called for
  pub all_delivered : (ms : List Moment) (ds : List CopyTo) (b : Broker) → AllByRecursion (IsCalled ms) ds → In ms (series (map (deliver env) ds) b) b
  all_delivered ms [] b h = tt
  all_delivered ms (d ∷ ds) b h =
      let first = deliver env d b in
      let c = after_all first b in
      in_append ms first (series (map (deliver env) ds) c) b (delivered ms (is_queued d) d b refl h.0) (all_delivered ms ds c h.1)

  -- ---- a publication

  silent_forgets : (o : Option RetainedMessage) → AreSilent (forgets o)
  silent_forgets None = tt
  silent_forgets (Some k) = (tt, tt)

  -- what RETAIN does is silent
  pub silent_retain : (retain empty : Bool) (number : ℕ) (m : Message) (b : Broker) → AreSilent (retain_by retain empty number m b)
  silent_retain false empty number m b = tt
  silent_retain true true number m b = silent_forgets (retained_of m.topic b.records)
  silent_retain true false number m b = (tt, tt)

  -- the deeds of a publication that is accepted
  pub published : (origin : Origin) (m : Message) (ds : List CopyTo) (b : Broker) → Orders b → accepted_copies env m b ≡ Some ds → Traced (publish env origin m ds b) b
  published origin m ds b order e ms own =
      let number = next_publication b.records in
      let c = after (Accept number origin m) b in
      let next = retain_by m.retain (is_empty m.payload) number m c in
      let called = publication_called env origin m b ms order (own (moment_of env (Accept number origin m) b) (inl refl)) ds e in (
        tt,
        in_append ms next (series (map (deliver env) ds) (after_all next c)) c (silent_in ms next c (silent_retain m.retain (is_empty m.payload) number m c)) (all_delivered ms ds (after_all next c) called),
      )

  -- ---- a filter that is granted

  -- its deeds, if the client asked for it
  pub granted : (w : sub.Wish) (s : Session) (b : Broker) → session_at s.birth b.records ≡ Some s
      → IsRequested call (whose s) (sub.subscription (sub.next_number b.records) s w) (after (Count (sub.next_number b.records)) b)
      → Traced (sub.granted_filter env (sub.next_number b.records) s w (brought_to w s b) b).deeds b
  granted w s b there requested ms own =
      let number = sub.next_number b.records in
      let first : List Deed = Count number ∷ At (whose s) (Subscribe (sub.subscription number s w)) ∷ [] in
      let c = after_all first b in
      let at_hand = own (granting env s w b ms there) (inr (inl refl)) in
      let all = brought_called env s w b ms there at_hand in
      let called = each_filter (IsCalled ms) is_queued (brought_to w s b) (each_more (IsBrought env s w b ms there) (IsCalled ms) (λ d h. h.0) (brought_to w s b) all) in
      (tt, (requested, all_delivered ms (filter is_queued (brought_to w s b)) c called))
