-- The broker reads a receiver's SUBSCRIBE, on its line or on the one that it gave up, while its session is connected (MQTT
-- 5.0, 3.3.1.3, 3.8.4, 4.4).
use Rattle.std.proofs.Common.{◌≡◌, ℕ, ◌≤◌, Bool, true, false, cond, List, [], ◌∷◌, ◌++◌, filter, map, Option, Some, None, subst, inl, inr}
use Rattle.std.specs.Prelude.{nat_le}
use Rattle.std.specs.List.{AllByRecursion}
use Rattle.mqtt_base.specs.Codes.{identifier_in_use}
use Rattle.mqtt_base.specs.declared.session.CopyId.{CopyId}
use Rattle.mqtt_packet.specs.subscribe.Subscriptions.{Subscription as Asked}
use Rattle.mqtt_packet.specs.declared.codec.packet.Packet.{Packet}
use Rattle.mqtt_flow.specs.inbound.Identifiers.{is_among}
use Rattle.mqtt_world_model.specs.model.Ends.{Back, Receiver, Wish, asks_for, wire_back}
use Rattle.mqtt_world_model.specs.model.Hops.{IsNoConnect, Own}
use Rattle.mqtt_world_model.specs.model.Run.{read_first}
use Rattle.mqtt_world_model.specs.model.World.{Setting, World, asks, old_to_broker, receiver_named, to_broker}
use Rattle.mqtt_world_model.proofs.model_lemmas.others.Far.{AreFar}
use Rattle.mqtt_world_model.proofs.model_lemmas.others.FarActs.{far_quiet}
use Rattle.mqtt_world_model.proofs.model_lemmas.seats.Mine.{AreMine, mine_append}
use Rattle.mqtt_world_model.proofs.model_lemmas.own.OwnStep.{heard_of}
use Rattle.mqtt_world_model.proofs.model_lemmas.others.Quiet.{quiet_deliveries}
use Rattle.mqtt_records.specs.declared.state.session.Session.{Session}
use Rattle.mqtt_rules.proofs.step_lemmas.acts.Acts.{brought_to}
use Rattle.mqtt_rules.proofs.step_lemmas.numbers.Copies.{each_more}
use Rattle.mqtt_rules.proofs.step_lemmas.numbers.NumberSteps.{step_fell}
use Rattle.mqtt_rules.specs.step.Deeds.{At, Count, Deed, Send, after_all, offer, series, whose}
use Rattle.mqtt_rules.specs.step.Deeds as deeds
use Rattle.mqtt_rules.specs.step.Laws.{IsCoherentMessage}
use Rattle.mqtt_rules.proofs.step_lemmas.acts.Offers.{of_offer_if}
use Rattle.mqtt_rules.specs.step.Fitting.{has_form}
use Rattle.mqtt_rules.specs.step.Packets.{publish_of, size_of, suback}
use Rattle.mqtt_rules.specs.step.Routing.{CopyTo, deliver, is_queued}
use Rattle.mqtt_rules.specs.step.State.{Line as BrokerLine, Broker, Env, MemberChoice, line_at, session_at}
use Rattle.mqtt_rules.specs.step.Step.{Input, env_of, stepped}
use Rattle.mqtt_rules.specs.step.Subscribe as sub
use Rattle.mqtt_rules.specs.declared.step.Capacity.{Capacity}
use Rattle.mqtt_packet.specs.declared.subscribe.subscribe.Subscribe.{Subscribe as Asking}
use Rattle.mqtt_world_laws.specs.acceptance.Fair.{IsSteady}
use Rattle.mqtt_world_laws.specs.acceptance.Spending.{spending}
use Rattle.mqtt_world_laws.specs.receiver.Calls.{turned_back}
use Rattle.mqtt_world_laws.specs.receiver.Handing.{IsListening, receiver_after}
use Rattle.mqtt_world_laws.specs.receiver.Late.{reads_old_wish}
use Rattle.mqtt_world_laws.specs.receiver.Served.{IsTidy}
use Rattle.mqtt_world_laws.proofs.receiver_lemmas.queue.Apart.{apart_brought}
use Rattle.mqtt_world_laws.proofs.receiver_lemmas.own.OwnSubscribes.{AreRetainedApart, asking, old_subscribes_apart, subscribes_apart}
use Rattle.mqtt_world_laws.specs.delivery.Retaining.{AreRetainedOnce}
use Rattle.mqtt_world_laws.specs.delivery.Standing.{IsPlaced, IsSeen, Stands, packet_like}
use Rattle.mqtt_world_laws.proofs.delivery_lemmas.own.Fronts.{IsJoined, front, front_there}
use Rattle.mqtt_world_laws.proofs.delivery_lemmas.own.Heard.{hears, hears_there, placed_after, placed_after_there}
use Rattle.mqtt_world_laws.proofs.delivery_lemmas.others.Outside.{GoesFurther}
use Rattle.mqtt_world_laws.proofs.delivery_lemmas.own.Reading.{first_read, first_read_there}
use Rattle.mqtt_world_laws.proofs.delivery_lemmas.own.Replies.{packet_owns}

-- ---- the session and its line stay its own

module _ (client : List ℕ) (birth n : ℕ) where
  mine_far : (xs : List Deed) → AreFar client birth n xs → AreMine client birth n xs
  mine_far [] q = tt
  mine_far (x ∷ xs) q = (inl q.0, mine_far xs q.1)

  mine_offer : (o : Option BrokerLine) (packet : Packet) → AreMine client birth n (offer o packet)
  mine_offer None packet = tt
  mine_offer (Some l) packet = by (nat_le (size_of packet) l.largest)
    where
      by : (t : Bool) → AreMine client birth n (cond t (Send l.number packet ∷ []) [])
      by true = (inr tt, tt)
      by false = tt

  mine_late : (line : ℕ) (b : Broker) (ds : List CopyTo) → AreMine client birth n (series (map (sub.late_send line) ds) b)
  mine_late line b [] = tt
  mine_late line b (d ∷ ds) =
      let first = sub.late_send line d b in
      let rest = after_all first b in
      mine_append client birth n first (series (map (sub.late_send line) ds) rest)
      (of_offer_if (AreMine client birth n) (has_form d.copy b) (line_at line b) (publish_of b.now false 0 d.copy) tt (λ l there. (inr tt, tt))) (mine_late line rest ds)

  mine_grants : (t u : Bool) (env : Env) (w : sub.Wish) (s : Session) (b : Broker) → AreMine client birth n (sub.answer_by t u env (sub.next_number b.records) s w (brought_to w s b) b).deeds
  mine_grants false u env w s b = tt
  mine_grants true false env w s b = tt
  mine_grants true true env w s b =
      let number = sub.next_number b.records in
      let queued = filter is_queued (brought_to w s b) in
      let first : List Deed = Count number ∷ At (whose s) (deeds.Subscribe (sub.subscription number s w)) ∷ [] in
      let others = series (map (deliver env) queued) (after_all first b) in
      mine_append client birth n first others (inl (inl tt), (inl (inl (inr tt)), tt)) (mine_far others (far_quiet client birth n others (quiet_deliveries birth n env queued (after_all first b))))

  mine_filter : (env : Env) (o : Option sub.Wish) (x : Option Session) (b : Broker) → AreMine client birth n (sub.filter_answer_of env o b x).deeds
  mine_filter env o None b = tt
  mine_filter env None (Some s) b = tt
  mine_filter env (Some w) (Some s) b = mine_grants _ _ env w s b

  mine_filters : (env : Env) (k : ℕ) (identifier : Option ℕ) (asked : List Asked) (b : Broker) → AreMine client birth n (sub.filter_answers env k identifier asked b).deeds
  mine_filters env k identifier [] b = tt
  mine_filters env k identifier (a ∷ rest) b =
      let g = sub.filter_answer_of env (sub.wish_of identifier a) b (session_at k b.records) in
      let more = sub.filter_answers env k identifier rest (after_all g.deeds b) in
      mine_append client birth n g.deeds more.deeds (mine_filter env (sub.wish_of identifier a) (session_at k b.records) b) (mine_filters env k identifier rest (after_all g.deeds b))

  mine_answers : (a : sub.FilterAnswers) (line identifier : ℕ) (b : Broker) → AreMine client birth n a.deeds
      → (let told = a.deeds ++ offer (line_at line b) (suback identifier a.codes) in AreMine client birth n (told ++ series (map (sub.late_send line) a.late) (after_all told b)))
  mine_answers a line identifier b h =
      let tells = offer (line_at line b) (suback identifier a.codes) in
      let c = after_all (a.deeds ++ tells) b in
      mine_append client birth n (a.deeds ++ tells) (series (map (sub.late_send line) a.late) c)
      (mine_append client birth n a.deeds tells h (mine_offer (line_at line b) (suback identifier a.codes))) (mine_late line c a.late)

  mine_subscribe : (t : Bool) (env : Env) (line : ℕ) (s : Session) (p : Asking) (b : Broker) → AreMine client birth n (sub.subscribe_by t env line s p b)
  mine_subscribe true env line s p b = mine_offer (line_at line b) (suback p.identifier (map (λ (x : Asked). identifier_in_use) p.subscriptions))
  mine_subscribe false env line s p b = mine_answers _ line p.identifier b (mine_filters env s.birth _ p.subscriptions b)

  wish_owns : (limits : Capacity) (choice : MemberChoice) (now window aliases : ℕ) (name : List ℕ) (w : Wish) (r : Receiver) (l : BrokerLine) (s : Session) (b : Broker) → IsListening r l s b
      → Own client birth n b → Own client birth n (stepped limits choice now (Input l.number (wire_back name window aliases (asks_for w))) b)
  wish_owns limits choice now window aliases name w r l s b a own =
      packet_owns client birth n limits choice now (wire_back name window aliases (asks_for w)) r l s b a (mine_subscribe (is_among 1 s.inbound) (env_of limits choice b) l.number s _ (heard_of now l.number b)) own

-- ---- retained messages, of which it brings copies

retained_apart : (b : Broker) → IsSteady b → AreRetainedOnce b.records → AreRetainedApart b
retained_apart b steady once = record {
  differ = once;
  upto = each_more (IsCoherentMessage b.records.publications) (λ k. k.publication ≤ b.records.publications) (λ k q. q.0) b.records.retained steady.coherent.retained;
}

-- ---- where it is after it: on its line

wish_placed : (largest : ℕ) (ids : List CopyId) (ns : List ℕ) (limits : Capacity) (choice : MemberChoice) (now : ℕ) (w : Wish) (rest : List Back) (r : Receiver) (b : Broker) (placed : IsPlaced largest ids ns r b) → IsSteady b → IsTidy limits b
    → AreRetainedOnce b.records → IsJoined placed.birth placed.line r.line.number b → r.line.up ≡ asks_for w ∷ rest
    → GoesFurther largest ids ns (receiver_after limits choice now (asking w r placed.line) r b) (stepped limits choice now (asking w r placed.line) b)
wish_placed largest ids ns limits choice now w rest r b placed steady tidy once j up =
    let h = hears largest ids ns limits j.birth r b placed j.own j.there steady j.at in
    let l = h.line in
    let a = h.listens.listening in
    let call = asking w r l.number in
    let x = subscribes_apart largest ids limits choice now j.birth ns w rest r l h.listens.session b h.step a tidy up in
    let more = x.0.more in
    let apart = apart_brought j.birth ids more b.records (stepped limits choice now call b).records placed.told (step_fell limits choice now call b) x.0.new (x.1 (retained_apart b steady once)) in
    let owns = wish_owns r.client j.birth placed.line limits choice now r.window r.aliases r.client w r l h.listens.session b a h.owns in
    let after_ = placed_after largest ids ns limits j.birth r b placed j.own j.there choice now l.number (wire_back r.client r.window r.aliases (asks_for w)) (ids ++ more) h.number owns apart j.at x.0.in_step in
    subst (λ (m : ℕ). GoesFurther largest ids ns (receiver_after limits choice now (asking w r m) r b) (stepped limits choice now (asking w r m) b)) h.number (record { more = more; placed = after_ })

-- ---- on the line that it gave up

old_wish_placed : (largest : ℕ) (ids : List CopyId) (ns : List ℕ) (limits : Capacity) (choice : MemberChoice) (now : ℕ) (w : Wish) (rest : List Back) (r : Receiver) (b : Broker) (placed : IsPlaced largest ids ns r b) → IsSteady b → IsTidy limits b
    → AreRetainedOnce b.records → IsJoined placed.birth placed.line r.line.old_number b → AllByRecursion IsNoConnect (map packet_like r.line.old) → r.line.old ≡ asks_for w ∷ rest
    → GoesFurther largest ids ns (reads_old_wish limits choice now placed.line w r b) (stepped limits choice now (asking w r placed.line) b)
old_wish_placed largest ids ns limits choice now w rest r b placed steady tidy once j calm old =
    let h = hears_there largest ids ns limits j.birth r b placed j.own j.there steady j.at in
    let l = h.line in
    let a = h.listens.listening in
    let call = asking w r l.number in
    let x = old_subscribes_apart largest ids limits choice now j.birth ns w rest r l h.listens.session b h.step a tidy old in
    let more = x.0.more in
    let apart = apart_brought j.birth ids more b.records (stepped limits choice now call b).records placed.told (step_fell limits choice now call b) x.0.new (x.1 (retained_apart b steady once)) in
    let owns = wish_owns r.client j.birth placed.line limits choice now r.window r.aliases r.client w (turned_back r) l h.listens.session b a h.owns in
    let after_ = placed_after_there largest ids ns limits j.birth r b placed j.own j.there choice now l.number (wire_back r.client r.window r.aliases (asks_for w)) (ids ++ more) h.number owns apart j.at calm x.0.in_step in
    subst (λ (m : ℕ). GoesFurther largest ids ns (reads_old_wish limits choice now m w r b) (stepped limits choice now (asking w r m) b)) h.number (record { more = more; placed = after_ })

-- ---- as events

module _ (first : List CopyId) (c : List ℕ) (wish : Wish) (rest : List Back) (largest : ℕ) (set : Setting) (r : Receiver) (w : World) (s : Stands first c largest set.limits w) (e : receiver_named c w ≡ Some r) where
  placed_here : IsPlaced largest s.ids s.ns r w.broker
  placed_here = subst (IsSeen largest s.ids s.ns w.broker) e s.standing.seen

  -- a SUBSCRIBE that is read of its line leaves the receiver standing
  pub wished_stands : r.line.up ≡ asks_for wish ∷ rest → AreRetainedOnce w.broker.records → read_first spending set (to_broker c) w ≡ false → Stands first c largest set.limits (asks set (to_broker c) w)
  wished_stands up once unspent = elim (front placed_here.birth placed_here.line (asks_for wish) rest r w.broker placed_here.seat.present up) [
    | inl j ↦ first_read first c (asks_for wish) rest largest set r w s e placed_here.line j.at up
        (λ after_. wish_placed largest s.ids s.ns set.limits set.choice w.now wish rest r w.broker placed_here s.standing.around.steady s.standing.around.tidy once j up) unspent
    | inr h ↦ let clash = h.1.packet in absurd cc
  ]

  -- a SUBSCRIBE that is read of the line that it gave up leaves the receiver standing
  pub old_wished_stands : r.line.old ≡ asks_for wish ∷ rest → AreRetainedOnce w.broker.records → read_first spending set (old_to_broker c) w ≡ false → Stands first c largest set.limits (asks set (old_to_broker c) w)
  old_wished_stands old once unspent = elim (front_there placed_here.birth placed_here.line (asks_for wish) rest r w.broker placed_here.seat.former old) [
    | inl j ↦ first_read_there first c (asks_for wish) rest largest set r w s e placed_here.line j.0.at old
        (λ after_. old_wish_placed largest s.ids s.ns set.limits set.choice w.now wish rest r w.broker placed_here s.standing.around.steady s.standing.around.tidy once j.0 j.1 old) unspent
    | inr h ↦ let clash = h.packet in absurd cc
  ]
