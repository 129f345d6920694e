-- For each copy of QoS 0 one PUBLISH goes out at most: those that go out are part of those of the copies, in their order.
use Rattle.std.proofs.Common.{◌≡◌, ℕ, Bool, true, false, cond, not, ◌&&◌, ◌||◌, List, [], ◌∷◌, ◌++◌, filter, length, map, Option, Some, None, refl, sym, ap, subst, ◌∙◌, inl, inr, append_assoc, append-nil}
use Rattle.std.specs.Prelude.{filter_map, flat_map, nat_le, nat_lt}
use Rattle.std.specs.List.{cons_option}
use Rattle.std.proofs.lemmas.List.Elements.{filter_map-append}
use Rattle.mqtt_base.specs.Codes.{identifier_in_use}
use Rattle.mqtt_base.specs.declared.limits.TheConstants.{SUBSCRIPTION_LIMIT}
use Rattle.mqtt_base.specs.declared.session.SubscriptionOptions.{SubscriptionOptions}
use Rattle.mqtt_packet.specs.declared.codec.packet.Packet.{Packet}
use Rattle.mqtt_packet.specs.declared.codec.packet.Packet.TheVariants as packets
use Rattle.mqtt_packet.specs.declared.subscribe.subscribe.Subscribe.{Subscribe as Asking}
use Rattle.mqtt_packet.specs.subscribe.Options.{options_of}
use Rattle.mqtt_packet.specs.subscribe.Subscriptions.{Subscription as Wished}
use Rattle.mqtt_props.specs.declared.table.PropName.TheVariants.{SubscriptionIdentifier}
use Rattle.mqtt_records.specs.declared.state.records.Records.{Records}
use Rattle.mqtt_records.specs.declared.state.session.Session.{Session}
use Rattle.mqtt_records.specs.messages.PassedOn.{number_at}
use Rattle.mqtt_records.specs.state.Session.{birth_of}
use Rattle.mqtt_flow.specs.outbound.Outbound.{way_made}
use Rattle.mqtt_topic.specs.names.Filters.{is_filter}
use Rattle.mqtt_topic.specs.names.Names.{is_empty}
use Rattle.mqtt_rules.specs.declared.step.Capacity.{Capacity}
use Rattle.mqtt_rules.specs.step.Deeds.{Accept, At, Count, Deed, Enter, Message, Origin, Send, Subscribe, after, after_all, always, offer, series, whose, with_session}
use Rattle.mqtt_rules.specs.step.Fitting.{has_form}
use Rattle.mqtt_rules.specs.step.Laws.{IsOrdered}
use Rattle.mqtt_rules.specs.step.Outbound.{enter_deeds, leave_deeds, queue_limits, room, since, turn_deeds}
use Rattle.mqtt_rules.specs.step.Packets.{publish_of, suback}
use Rattle.mqtt_rules.specs.step.Routing.{CopyTo, accepted_copies, deliver, deliver_by, is_queued, next_publication, publish, retain_by}
use Rattle.mqtt_rules.specs.step.State.{Broker, Env, MemberChoice, line_at, line_of, queue_on, session_at}
use Rattle.mqtt_rules.specs.step.Step.{Call, Pump, at_moment, deeds_of, env_of, opening, unopened}
use Rattle.mqtt_rules.specs.step.Subscribe as sub
use Rattle.mqtt_rules.proofs.step_lemmas.acts.Acts.{brought_to}
use Rattle.mqtt_rules.proofs.step_lemmas.acts.Offers.{of_offer_if}
use Rattle.mqtt_rules.proofs.step_lemmas.fit.StandLaw.{Orders}
use Rattle.mqtt_rules.proofs.step_lemmas.flight.FlightRows.{found_key}
use Rattle.mqtt_rules.proofs.step_lemmas.numbers.Counters.{now_stays}
use Rattle.mqtt_world_laws.specs.acceptance.AtOnce.{IsPart}
use Rattle.mqtt_world_laws.specs.acceptance.Entries.{moments_of}
use Rattle.mqtt_world_laws.specs.unasked.Once.{SendsEachOnce, light_at, light_by, light_for, light_if, light_of, publish_in}
use Rattle.mqtt_world_laws.specs.unasked.Unasked.{call_step, open_step}
use Rattle.mqtt_world_laws.proofs.acceptance_lemmas.copies.Lights.{part_all, part_append}
use Rattle.mqtt_world_laws.proofs.unasked_lemmas.EachCall.{SaysSent, call_traced, opening_traced}
use Rattle.mqtt_world_laws.proofs.unasked_lemmas.Pumping.{answers_unsent, silent_turn}
use Rattle.mqtt_world_laws.proofs.unasked_lemmas.Traces.{AreSilent, IsSilent, silent_leaves, silent_offer, silent_retain}

-- ---- parts of lists

-- a part of a part is a part
part_trans : {X : Type 0} (xs ys zs : List X) → IsPart xs ys → IsPart ys zs → IsPart xs zs
part_trans [] ys zs p q = tt
part_trans (x ∷ xs) [] zs p q = absurd p
part_trans (x ∷ xs) (y ∷ ys) [] p q = absurd q
part_trans (x ∷ xs) (y ∷ ys) (z ∷ zs) (inl p) (inl q) = inl (p.0 ∙ q.0, part_trans xs ys zs p.1 q.1)
part_trans (x ∷ xs) (y ∷ ys) (z ∷ zs) (inr p) (inl q) = inr (part_trans (x ∷ xs) ys zs p q.1)
part_trans (x ∷ xs) (y ∷ ys) (z ∷ zs) p (inr q) = inr (part_trans (x ∷ xs) (y ∷ ys) zs p q)

-- a part of a list is one of more
part_before : {X : Type 0} (xs ys zs : List X) → IsPart xs ys → IsPart xs (ys ++ zs)
part_before {X} xs ys zs p = subst (λ (ws : List X). IsPart ws (ys ++ zs)) (append-nil xs) (part_append xs ys [] zs p tt)

-- ---- what deeds send, and what they may

abbrev Packets : Type 0
Packets = List Packet

abbrev sent : List Deed → Packets
sent ds = filter_map publish_in ds

abbrev lights : Env → List Deed → Broker → Packets
lights env ds b = flat_map light_at (moments_of env ds b)

sent_append : (xs ys : List Deed) → sent (xs ++ ys) ≡ sent xs ++ sent ys
sent_append xs ys = filter_map-append publish_in xs ys

lights_append : (env : Env) (xs ys : List Deed) (b : Broker) → lights env (xs ++ ys) b ≡ lights env xs b ++ lights env ys (after_all xs b)
lights_append env [] ys b = refl
lights_append env (x ∷ xs) ys b =
    ap (λ (ps : Packets). light_by env x b ++ ps) (lights_append env xs ys (after x b)) ∙ sym (append_assoc (light_by env x b) (lights env xs (after x b)) (lights env ys (after_all xs (after x b))))

abbrev Parts : Env → List Deed → Broker → Type 0
Parts env ds b = IsPart (sent ds) (lights env ds b)

parts_append : (env : Env) (xs ys : List Deed) (b : Broker) → Parts env xs b → Parts env ys (after_all xs b) → Parts env (xs ++ ys) b
parts_append env xs ys b p q =
    let all = part_append (sent xs) (lights env xs b) (sent ys) (lights env ys (after_all xs b)) p q in
    let put : IsPart (sent (xs ++ ys)) (lights env xs b ++ lights env ys (after_all xs b)) = subst (λ (ps : Packets). IsPart ps (lights env xs b ++ lights env ys (after_all xs b))) (sym (sent_append xs ys)) all in
    subst (IsPart (sent (xs ++ ys))) (sym (lights_append env xs ys b)) put

module _ (call : Option Call) (env : Env) where
  none_sent : (d : Deed) → IsSilent call env d → publish_in d ≡ None
  none_sent (Send n (packets.Publish p)) h = absurd h
  none_sent (At who (Enter copy)) h = absurd h
  none_sent (At who (Subscribe x)) h = absurd h
  none_sent d h = refl

  -- silent deeds send no PUBLISH
  sent_none : (ds : List Deed) → AreSilent call env ds → sent ds ≡ []
  sent_none [] h = refl
  sent_none (d ∷ ds) h = ap (λ (o : Option Packet). cons_option o (sent ds)) (none_sent d h.0) ∙ sent_none ds h.1

  nothing_sent : (ds : List Deed) (b : Broker) → sent ds ≡ [] → Parts env ds b
  nothing_sent ds b none = subst (λ (ps : Packets). IsPart ps (lights env ds b)) (sym none) tt

  -- ---- deliveries

  entering_none : (d : CopyTo) (s : Session) → sent (enter_deeds env d.copy s) ≡ []
  entering_none d s =
      let ts = way_made (queue_limits env) (since env s) (queue_on [] s) in
      let leaves = flat_map (leave_deeds s) ts in
      sent_append leaves (At (whose s) (Enter d.copy) ∷ []) ∙ ap (λ (ps : Packets). ps ++ []) (sent_none leaves (silent_leaves call env s ts))

  queued_none : (d : CopyTo) (b : Broker) → sent (deliver_by true env d b) ≡ []
  queued_none d b = by (session_at d.birth b.records)
    where
      by : (o : Option Session) → sent (with_session o (λ s. always (enter_deeds env d.copy s)) b) ≡ []
      by None = refl
      by (Some s) = entering_none d s

  delivered_once : (t : Bool) (d : CopyTo) (b : Broker) → IsPart (sent (deliver_by t env d b)) (cond t [] (publish_of b.now false 0 d.copy ∷ []))
  delivered_once true d b = subst (λ (ps : Packets). IsPart ps []) (sym (queued_none d b)) tt
  delivered_once false d b = of_offer_if (λ (ds : List Deed). IsPart (sent ds) (publish_of b.now false 0 d.copy ∷ [])) (has_form d.copy b) (line_of d.birth b) (publish_of b.now false 0 d.copy) tt (λ l there. inl (refl, tt))

  all_once : (now : ℕ) (ds : List CopyTo) (b : Broker) → b.now ≡ now → IsPart (sent (series (map (deliver env) ds) b)) (flat_map (light_of now) ds)
  all_once now [] b same = tt
  all_once now (d ∷ ds) b same =
      let first = deliver env d b in
      let c = after_all first b in
      let rest = series (map (deliver env) ds) c in
      let one : IsPart (sent first) (light_of now d) = subst (λ (n : ℕ). IsPart (sent first) (light_of n d)) same (delivered_once (is_queued d) d b) in
      let more : IsPart (sent rest) (flat_map (light_of now) ds) = all_once now ds c (now_stays first b ∙ same) in
      subst (λ (ps : Packets). IsPart ps (light_of now d ++ flat_map (light_of now) ds)) (sym (sent_append first rest)) (part_append (sent first) (light_of now d) (sent rest) (flat_map (light_of now) ds) one more)

  -- ---- a publication

  publishes_once : (origin : Origin) (m : Message) (ds : List CopyTo) (b : Broker) → Orders b → accepted_copies env m b ≡ Some ds → Parts env (publish env origin m ds b) b
  publishes_once origin m ds b order e =
      let number = next_publication b.records in
      let c = after (Accept number origin m) b in
      let next = retain_by m.retain (is_empty m.payload) number m c in
      let d = after_all next c in
      let all = series (map (deliver env) ds) d in
      let quiet : sent next ≡ [] = sent_none next (silent_retain call env m.retain (is_empty m.payload) number m c) in
      let out : sent (next ++ all) ≡ sent all = sent_append next all ∙ ap (λ (ps : Packets). ps ++ sent all) quiet in
      let part : IsPart (sent all) (flat_map (light_of b.now) ds) = all_once b.now ds d (now_stays next c) in
      let its : light_if b.now (accepted_copies env m b) ≡ flat_map (light_of b.now) ds = ap (light_if b.now) e in
      let mine : IsPart (sent all) (light_if b.now (accepted_copies env m b)) = subst (IsPart (sent all)) (sym its) part in
      subst (λ (ps : Packets). IsPart ps (light_if b.now (accepted_copies env m b) ++ lights env (next ++ all) c)) (sym out) (part_before (sent all) (light_if b.now (accepted_copies env m b)) (lights env (next ++ all) c) mine)

  -- ---- a SUBSCRIBE

  -- the PUBLISH of each of these copies
  abbrev packets_of : ℕ → List CopyTo → Packets
  packets_of now ds = map (λ (d : CopyTo). publish_of now false 0 d.copy) ds

  -- filters send nothing, and the copies that go out behind the SUBACK are of what they brought
  record IsLater (ds : List Deed) (late : List CopyTo) (b : Broker) : Type 0 where
    none : sent ds ≡ []
    part : IsPart (packets_of b.now late) (lights env ds b)

  nothing_later : (b : Broker) → IsLater [] [] b
  nothing_later b = record { none = refl; part = tt }

  queued_silent : (ds : List CopyTo) (b : Broker) → sent (series (map (deliver env) (filter is_queued ds)) b) ≡ []
  queued_silent [] b = refl
  queued_silent (d ∷ ds) b = by (is_queued d) refl (λ c. queued_silent ds c)
    where
      by : (t : Bool) → is_queued d ≡ t → ((c : Broker) → sent (series (map (deliver env) (filter is_queued ds)) c) ≡ []) → sent (series (map (deliver env) (cond t (d ∷ filter is_queued ds) (filter is_queued ds))) b) ≡ []
      by true is rest =
          let first = deliver env d b in
          let c = after_all first b in
          let none : sent first ≡ [] = ap (λ (t : Bool). sent (deliver_by t env d b)) is ∙ queued_none d b in
          sent_append first (series (map (deliver env) (filter is_queued ds)) c) ∙ ap (λ (ps : Packets). ps ++ sent (series (map (deliver env) (filter is_queued ds)) c)) none ∙ rest c
      by false is rest = rest b

  later_same : (now : ℕ) (ds : List CopyTo) → packets_of now (filter (λ d. not (is_queued d)) ds) ≡ flat_map (light_of now) ds
  later_same now [] = refl
  later_same now (d ∷ ds) = by (is_queued d) (later_same now ds)
    where
      by : (t : Bool) → packets_of now (filter (λ x. not (is_queued x)) ds) ≡ flat_map (light_of now) ds
          → packets_of now (cond (not t) (d ∷ filter (λ x. not (is_queued x)) ds) (filter (λ x. not (is_queued x)) ds)) ≡ cond t [] (publish_of now false 0 d.copy ∷ []) ++ flat_map (light_of now) ds
      by true rest = rest
      by false rest = ap (λ (ps : Packets). publish_of now false 0 d.copy ∷ ps) rest

  granted_later : (w : sub.Wish) (s : Session) (b : Broker) → session_at s.birth b.records ≡ Some s
      → (let g = sub.granted_filter env (sub.next_number b.records) s w (brought_to w s b) b in IsLater g.deeds g.late b)
  granted_later w s b there =
      let number = sub.next_number b.records in
      let x = sub.subscription number s w in
      let ds = brought_to w s b in
      let late = filter (λ (d : CopyTo). not (is_queued d)) ds in
      let c = after (Count number) b in
      let e = after (At (whose s) (Subscribe x)) c in
      let all = series (map (deliver env) (filter is_queued ds)) e in
      let mine = light_for c x (session_at s.birth c.records) in
      let its : mine ≡ flat_map (light_of b.now) ds = ap (light_for c x) there in
      let same : packets_of b.now late ≡ mine = later_same b.now ds ∙ sym its in
      record {
        none = queued_silent ds e;
        part = part_before (packets_of b.now late) mine (lights env all e) (subst (IsPart (packets_of b.now late)) same (part_all (packets_of b.now late)));
      }

  answered_later : (valid fits : Bool) (w : sub.Wish) (s : Session) (b : Broker) → session_at s.birth b.records ≡ Some s
      → (let g = sub.answer_by valid fits env (sub.next_number b.records) s w (brought_to w s b) b in IsLater g.deeds g.late b)
  answered_later false fits w s b there = nothing_later b
  answered_later true false w s b there = nothing_later b
  answered_later true true w s b there = granted_later w s b there

  filter_later : (identifier : Option ℕ) (text : List ℕ) (o : Option SubscriptionOptions) (birth : ℕ) (b : Broker) (x : Option Session) → session_at birth b.records ≡ x
      → (let g = sub.filter_answer_of env (sub.wish_by text identifier o) b x in IsLater g.deeds g.late b)
  filter_later identifier text None birth b None there = nothing_later b
  filter_later identifier text (Some options) birth b None there = nothing_later b
  filter_later identifier text None birth b (Some s) there = nothing_later b
  filter_later identifier text (Some options) birth b (Some s) there =
      let w : sub.Wish = record { filter = text; options = options; identifier = identifier } in
      answered_later (is_filter text) ((sub.has_filter text s || nat_lt (length s.subscriptions) SUBSCRIPTION_LIMIT) && nat_le (length (filter is_queued (brought_to w s b))) (room env s)) w s b
      (ap (λ (n : ℕ). session_at n b.records) (found_key birth_of birth s b.records.sessions there) ∙ there)

  packets_append : (now : ℕ) (xs ys : List CopyTo) → packets_of now (xs ++ ys) ≡ packets_of now xs ++ packets_of now ys
  packets_append now [] ys = refl
  packets_append now (d ∷ xs) ys = ap (λ (ps : Packets). publish_of now false 0 d.copy ∷ ps) (packets_append now xs ys)

  filters_later : (birth : ℕ) (identifier : Option ℕ) (xs : List Wished) (b : Broker) → (let g = sub.filter_answers env birth identifier xs b in IsLater g.deeds g.late b)
  filters_later birth identifier [] b = nothing_later b
  filters_later birth identifier (a ∷ rest) b =
      let g = sub.filter_answer_of env (sub.wish_of identifier a) b (session_at birth b.records) in
      let c = after_all g.deeds b in
      let x = sub.filter_answers env birth identifier rest c in
      let one = filter_later identifier a.filter (options_of a.options) birth b (session_at birth b.records) refl in
      let more = filters_later birth identifier rest c in
      let later : IsPart (packets_of b.now x.late) (lights env x.deeds c) = subst (λ (n : ℕ). IsPart (packets_of n x.late) (lights env x.deeds c)) (now_stays g.deeds b) more.part in
      let parts = part_append (packets_of b.now g.late) (lights env g.deeds b) (packets_of b.now x.late) (lights env x.deeds c) one.part later in
      record {
        none = sent_append g.deeds x.deeds ∙ ap (λ (ps : Packets). ps ++ sent x.deeds) one.none ∙ more.none;
        part = subst (IsPart (packets_of b.now (g.late ++ x.late))) (sym (lights_append env g.deeds x.deeds b))
            (subst (λ (ps : Packets). IsPart ps (lights env g.deeds b ++ lights env x.deeds c)) (sym (packets_append b.now g.late x.late)) parts);
      }

  late_once : (line now : ℕ) (ds : List CopyTo) (b : Broker) → b.now ≡ now → IsPart (sent (series (map (sub.late_send line) ds) b)) (packets_of now ds)
  late_once line now [] b same = tt
  late_once line now (d ∷ ds) b same =
      let first = sub.late_send line d b in
      let c = after_all first b in
      let rest = series (map (sub.late_send line) ds) c in
      let out : IsPart (sent first) (publish_of b.now false 0 d.copy ∷ []) =
      of_offer_if (λ (xs : List Deed). IsPart (sent xs) (publish_of b.now false 0 d.copy ∷ [])) (has_form d.copy b) (line_at line b) (publish_of b.now false 0 d.copy) tt (λ l there. inl (refl, tt)) in
      let one : IsPart (sent first) (publish_of now false 0 d.copy ∷ []) = subst (λ (n : ℕ). IsPart (sent first) (publish_of n false 0 d.copy ∷ [])) same out in
      let more = late_once line now ds c (now_stays first b ∙ same) in
      subst (λ (ps : Packets). IsPart ps (packets_of now (d ∷ ds))) (sym (sent_append first rest)) (part_append (sent first) (publish_of now false 0 d.copy ∷ []) (sent rest) (packets_of now ds) one more)

  subscribes_once : (line : ℕ) (p : Asking) (t : Bool) (s : Session) (b : Broker) → Parts env (sub.subscribe_by t env line s p b) b
  subscribes_once line p true s b =
      let ack = offer (line_at line b) (suback p.identifier (map (λ (a : Wished). identifier_in_use) p.subscriptions)) in
      nothing_sent ack b (sent_none ack (silent_offer call env (line_at line b) (suback p.identifier (map (λ (a : Wished). identifier_in_use) p.subscriptions)) tt))
  subscribes_once line p false s b =
      let a = sub.filter_answers env s.birth (number_at SubscriptionIdentifier p.properties) p.subscriptions b in
      let ack = offer (line_at line b) (suback p.identifier a.codes) in
      let told = a.deeds ++ ack in
      let c = after_all told b in
      let late = series (map (sub.late_send line) a.late) c in
      let all = filters_later s.birth (number_at SubscriptionIdentifier p.properties) p.subscriptions b in
      let quiet : sent told ≡ [] = sent_append a.deeds ack ∙ ap (λ (ps : Packets). ps ++ sent ack) all.none ∙ sent_none ack (silent_offer call env (line_at line b) (suback p.identifier a.codes) tt) in
      let out : sent (told ++ late) ≡ sent late = sent_append told late ∙ ap (λ (ps : Packets). ps ++ sent late) quiet in
      let first : IsPart (sent late) (lights env a.deeds b) = part_trans (sent late) (packets_of b.now a.late) (lights env a.deeds b) (late_once line b.now a.late c (now_stays told b)) all.part in
      let second : IsPart (sent late) (lights env told b) = subst (IsPart (sent late)) (sym (lights_append env a.deeds ack b)) (part_before (sent late) (lights env a.deeds b) (lights env ack (after_all a.deeds b)) first) in
      let third : IsPart (sent late) (lights env (told ++ late) b) = subst (IsPart (sent late)) (sym (lights_append env told late b)) (part_before (sent late) (lights env told b) (lights env late c) second) in
      subst (λ (ps : Packets). IsPart ps (lights env (told ++ late) b)) (sym out) third

  -- ---- all acts

  -- if it is no turn of sending, what deeds send is part of that
  abbrev pub IsOnce : List Deed → Broker → Type 0
  IsOnce ds b = ((n : ℕ) → call ≡ Some (Pump n) → ⊥) → Parts env ds b

  saying : SaysSent call env IsOnce
  saying = record {
    silent = λ ds b h no. nothing_sent ds b (sent_none ds h);
    next = λ xs ys b p q no. parts_append env xs ys b (p no) (q no);
    publishes = λ origin m ds b order e no. publishes_once origin m ds b order e;
    subscribes = λ line p t s b read on no. subscribes_once line p t s b;
    answers = λ a t l s b order there on is e no. nothing_sent (turn_deeds b.now l.number s t) b (sent_none (turn_deeds b.now l.number s t) (silent_turn call env b.now l.number s t (answers_unsent a t l s is e)));
    pumps = λ n l s b order is there on no. absurd (no n is);
  }

  -- so of a call
  pub once_called : (asked : Call) → call ≡ Some asked → (b : Broker) → Orders b → IsOnce (deeds_of env asked b) b
  once_called asked is b order = call_traced call env IsOnce saying asked is b order

  -- and of an opening
  pub once_opened : (b : Broker) → Orders b → IsOnce (opening env b) b
  once_opened b order = opening_traced call env IsOnce saying b order

-- in a call no more goes out at once than there are copies
pub call_once : (limits : Capacity) (choice : MemberChoice) (now : ℕ) (call : Call) (b : Broker) → IsOrdered b.records → SendsEachOnce (call_step limits choice now call b)
call_once limits choice now call b order = record { once = once_called (Some call) (env_of limits choice b) call refl (at_moment now b) order }

-- nor in an opening
pub open_once : (limits : Capacity) (choice : MemberChoice) (now : ℕ) (r : Records) → IsOrdered r → SendsEachOnce (open_step limits choice now r)
open_once limits choice now r order = let b = unopened now r in record { once = once_opened None (env_of limits choice b) b order }
