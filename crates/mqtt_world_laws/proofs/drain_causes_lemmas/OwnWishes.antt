-- A SUBSCRIBE of a client: by it copies enter the client's own queue alone, and only its own make way.
use Rattle.std.proofs.Common.{◌≡◌, ℕ, ◌+◌, ◌-◌, Bool, true, false, cond, ◌&&◌, ◌||◌, List, [], ◌∷◌, ◌++◌, filter, length, map, Option, Some, None, nat_lt, nat_le, refl, sym, ap, subst, ◌∙◌}
use Rattle.std.specs.Prelude.{⊤, flat_map, option_map}
use Rattle.std.specs.List.{AllByRecursion}
use Rattle.mqtt_base.specs.Codes.{identifier_in_use}
use Rattle.mqtt_base.specs.declared.limits.TheConstants.{SUBSCRIPTION_LIMIT}
use Rattle.mqtt_base.specs.declared.session.SubscriptionOptions.{SubscriptionOptions}
use Rattle.mqtt_packet.specs.subscribe.Options.{options_of}
use Rattle.mqtt_flow.specs.outbound.Outbound.{way_made}
use Rattle.mqtt_flow.specs.declared.outbound.entry.Turn.{Turn}
use Rattle.mqtt_flow.specs.declared.outbound.entry.Turn.TheVariants as turns
use Rattle.mqtt_records.specs.messages.Queue.{CopyRow}
use Rattle.mqtt_records.specs.declared.messages.message.MessageCopy.{MessageCopy}
use Rattle.mqtt_records.specs.declared.messages.message.RetainedMessage.{RetainedMessage}
use Rattle.mqtt_props.specs.declared.table.PropName.TheVariants.{SubscriptionIdentifier}
use Rattle.mqtt_records.specs.state.Session.{birth_of, copy_place}
use Rattle.mqtt_records.specs.declared.state.session.Session.{Session}
use Rattle.mqtt_routes.specs.routing.Retained.{kept_for}
use Rattle.mqtt_packet.specs.subscribe.Subscriptions.{Subscription as Wished}
use Rattle.mqtt_packet.specs.declared.subscribe.subscribe.Subscribe.{Subscribe as Asking}
use Rattle.mqtt_topic.specs.names.Filters.{is_filter}
use Rattle.mqtt_rules.specs.step.Deeds.{whose, Enter, Leave, Deed, At, Count, Send, after, after_all, always, series, with_session, offer}
use Rattle.mqtt_rules.specs.step.Deeds as deeds
use Rattle.mqtt_rules.specs.step.Laws.{client_at}
use Rattle.mqtt_records.specs.lists.Order.{row_at}
use Rattle.mqtt_rules.specs.step.Outbound.{of_entry, enter_deeds, leave_deeds, queue_limits, room, since}
use Rattle.mqtt_records.specs.messages.PassedOn.{number_at}
use Rattle.mqtt_rules.proofs.step_lemmas.acts.Offers.{of_offer_if}
use Rattle.mqtt_rules.specs.step.Fitting.{has_form}
use Rattle.mqtt_rules.specs.step.Packets.{publish_of, suback}
use Rattle.mqtt_rules.specs.step.Routing.{CopyTo, deliver, deliver_by, is_queued}
use Rattle.mqtt_rules.specs.step.State.{Broker, Env, line_at, line_of, queue_on, session_at}
use Rattle.mqtt_rules.specs.step.Step.{Call}
use Rattle.mqtt_rules.specs.step.Subscribe as sub
use Rattle.mqtt_rules.proofs.step_lemmas.acts.Acts.{brought_to}
use Rattle.mqtt_rules.proofs.step_lemmas.numbers.Copies.{each_append}
use Rattle.mqtt_rules.proofs.step_lemmas.flight.FlightRows.{found_key}
use Rattle.mqtt_rules.proofs.step_lemmas.acts.LookedUp.{client_at_part}
use Rattle.mqtt_world_laws.specs.drain_causes.DrainEnds.{Subscribes}
use Rattle.mqtt_world_laws.proofs.drain_causes_lemmas.OwnEnds.{AreOwn, AreWell, IsWell, drop_well}
use Rattle.mqtt_world_laws.proofs.drain_causes_lemmas.OwnEnds as own

module _ (large : Type 0) (client : List ℕ) (call : Option Call) (asks : Subscribes call) (birth : ℕ) where
  -- the deeds of a filter that is granted: only these copies leave, and no session begins or ends
  abbrev IsMild : Deed → Type 0
  IsMild (At who (Leave e ending)) = (who.client ≡ client) × own.Ends large client call ending
  IsMild (At who part) = ⊤
  IsMild (Count n) = ⊤
  IsMild (Send n packet) = ⊤
  IsMild d = ⊥

  abbrev AreMild : List Deed → Type 0
  AreMild ds = AllByRecursion IsMild ds

  one_own : (d : Deed) → IsMild d → own.IsOwn large client call d
  one_own (At who (Leave e ending)) h = h
  one_own d h = tt

  all_own : (ds : List Deed) → AreMild ds → AreOwn large client call ds
  all_own [] h = tt
  all_own (d ∷ ds) h = (one_own d h.0, all_own ds h.1)

  -- ---- the session of this birth is the client's

  abbrev Owns : Broker → Type 0
  Owns b = client_at birth b.records ≡ Some client

  owns_one : (d : Deed) (b : Broker) → IsMild d → Owns b → Owns (after d b)
  owns_one (At who part) b h owns = client_at_part who part birth b.records ∙ owns
  owns_one (Count n) b h owns = owns
  owns_one (Send n packet) b h owns = owns
  owns_one (deeds.Accept number origin m) b h owns = absurd h
  owns_one (deeds.Begin row will) b h owns = absurd h
  owns_one (deeds.Name n) b h owns = absurd h
  owns_one (deeds.Finish who) b h owns = absurd h
  owns_one (deeds.Keep kept) b h owns = absurd h
  owns_one (deeds.Forget place) b h owns = absurd h
  owns_one (deeds.RefuseWill who) b h owns = absurd h
  owns_one (deeds.Link n) b h owns = absurd h
  owns_one (deeds.On n part) b h owns = absurd h
  owns_one (deeds.Gone n) b h owns = absurd h

  owns_all : (ds : List Deed) (b : Broker) → AreMild ds → Owns b → Owns (after_all ds b)
  owns_all [] b h owns = owns
  owns_all (d ∷ ds) b h owns = owns_all ds (after d b) h.1 (owns_one d b h.0 owns)

  its_client : (s : Session) (b : Broker) → session_at birth b.records ≡ Some s → Owns b → s.client ≡ client
  its_client s b there owns =
      let both : Some s.client ≡ Some client = sym (ap (option_map (λ (x : Session). x.client)) there) ∙ owns in
      cc

  -- ---- copies enter

  mild_entry : (o : Option CopyRow) (f : CopyRow → List Deed) → ((e : CopyRow) → AreMild (f e)) → AreMild (of_entry o f)
  mild_entry None f h = tt
  mild_entry (Some e) f h = h e

  mild_leave : (s : Session) (t : Turn) → s.client ≡ client → IsWell large client call t → AreMild (leave_deeds s t)
  mild_leave s (turns.Leave place ending) its h = mild_entry (row_at copy_place place s.queue) (λ e. At (whose s) (Leave e ending) ∷ []) (λ e. ((its, h), tt))
  mild_leave s (turns.Send place id) its h = tt
  mild_leave s (turns.Resend place id) its h = tt
  mild_leave s (turns.Release place id order) its h = tt
  mild_leave s (turns.Outgrow place id order) its h = tt
  mild_leave s (turns.Repeat id) its h = tt
  mild_leave s (turns.Unknown id) its h = tt

  mild_leaves : (s : Session) (ts : List Turn) → s.client ≡ client → AreWell large client call ts → AreMild (flat_map (leave_deeds s) ts)
  mild_leaves s [] its h = tt
  mild_leaves s (t ∷ ts) its h = each_append IsMild (leave_deeds s t) (flat_map (leave_deeds s) ts) (mild_leave s t its h.0) (mild_leaves s ts its h.1)

  entering : (env : Env) (copy : MessageCopy) (s : Session) → s.client ≡ client → AreMild (enter_deeds env copy s)
  entering env copy s its =
      let ts = way_made (queue_limits env) (since env s) (queue_on [] s) in
      each_append IsMild (flat_map (leave_deeds s) ts) (At (whose s) (Enter copy) ∷ [])
      (mild_leaves s ts its (drop_well large client call asks (length (queue_on [] s) + 1 - env.limits.queue) (since env s) (queue_on [] s))) (tt, tt)

  abbrev AreFor : List CopyTo → Type 0
  AreFor ds = AllByRecursion (λ (d : CopyTo). d.birth ≡ birth) ds

  delivered_by : (t : Bool) (env : Env) (d : CopyTo) (b : Broker) → d.birth ≡ birth → Owns b → AreMild (deliver_by t env d b)
  delivered_by true env d b mine owns = by (session_at d.birth b.records) refl
    where
      by : (o : Option Session) → session_at d.birth b.records ≡ o → AreMild (with_session o (λ s. always (enter_deeds env d.copy s)) b)
      by None there = tt
      by (Some s) there = entering env d.copy s (its_client s b (subst (λ (n : ℕ). session_at n b.records ≡ Some s) mine there) owns)
  delivered_by false env d b mine owns = of_offer_if AreMild (has_form d.copy b) (line_of d.birth b) (publish_of b.now false 0 d.copy) tt (λ l there. (tt, tt))

  delivered : (env : Env) (ds : List CopyTo) (b : Broker) → AreFor ds → Owns b → AreMild (series (map (deliver env) ds) b)
  delivered env [] b h owns = tt
  delivered env (d ∷ ds) b h owns =
      let first = deliver env d b in
      let mild = delivered_by (is_queued d) env d b h.0 owns in
      each_append IsMild first (series (map (deliver env) ds) (after_all first b)) mild (delivered env ds (after_all first b) h.1 (owns_all first b mild owns))

  -- ---- a filter that is granted brings copies for the session itself

  each_for : (s : Session) (number : ℕ) (w : sub.Wish) (ks : List RetainedMessage) → s.birth ≡ birth → AreFor (filter is_queued (map (sub.retained_copy_to s.birth number w) ks))
  each_for s number w [] mine = tt
  each_for s number w (k ∷ ks) mine = by (is_queued (sub.retained_copy_to s.birth number w k)) (each_for s number w ks mine)
    where
      by : (t : Bool) → AreFor (filter is_queued (map (sub.retained_copy_to s.birth number w) ks))
          → AreFor (cond t (sub.retained_copy_to s.birth number w k ∷ filter is_queued (map (sub.retained_copy_to s.birth number w) ks)) (filter is_queued (map (sub.retained_copy_to s.birth number w) ks)))
      by true more = (mine, more)
      by false more = more

  brought_for : (t : Bool) (now number : ℕ) (s : Session) (w : sub.Wish) (ks : List RetainedMessage) → s.birth ≡ birth → AreFor (filter is_queued (sub.brought_if t now number s w ks))
  brought_for false now number s w ks mine = tt
  brought_for true now number s w ks mine = each_for s number w (filter (sub.is_brought now s w) (map sub.message_in (kept_for w.filter (map sub.kept_of ks)))) mine

  granted : (env : Env) (w : sub.Wish) (s : Session) (b : Broker) → s.birth ≡ birth → Owns b → AreMild (sub.granted_filter env (sub.next_number b.records) s w (brought_to w s b) b).deeds
  granted env w s b mine owns =
      let number = sub.next_number b.records in
      let first : List Deed = Count number ∷ At (whose s) (deeds.Subscribe (sub.subscription number s w)) ∷ [] in
      let ds = filter is_queued (brought_to w s b) in
      each_append IsMild first (series (map (deliver env) ds) (after_all first b)) (tt, (tt, tt))
      (delivered env ds (after_all first b) (brought_for _ b.now number s w b.records.retained mine) (owns_all first b (tt, (tt, tt)) owns))

  answered : (valid room : Bool) (env : Env) (w : sub.Wish) (s : Session) (b : Broker) → s.birth ≡ birth → Owns b → AreMild (sub.answer_by valid room env (sub.next_number b.records) s w (brought_to w s b) b).deeds
  answered false room env w s b mine owns = tt
  answered true false env w s b mine owns = tt
  answered true true env w s b mine owns = granted env w s b mine owns

  filter_mild : (env : Env) (identifier : Option ℕ) (text : List ℕ) (o : Option SubscriptionOptions) (b : Broker) (x : Option Session) → session_at birth b.records ≡ x → Owns b
      → AreMild (sub.filter_answer_of env (sub.wish_by text identifier o) b x).deeds
  filter_mild env identifier text None b None e owns = tt
  filter_mild env identifier text (Some options) b None e owns = tt
  filter_mild env identifier text None b (Some s) e owns = tt
  filter_mild env identifier text (Some options) b (Some s) e owns =
      let w : sub.Wish = record { filter = text; options = options; identifier = identifier } in
      answered (is_filter text) ((sub.has_filter text s || nat_lt (length s.subscriptions) SUBSCRIPTION_LIMIT) && nat_le (length (filter is_queued (brought_to w s b))) (room env s)) env w s b
      (found_key birth_of birth s b.records.sessions e) owns

  filters_mild : (env : Env) (identifier : Option ℕ) (xs : List Wished) (b : Broker) → Owns b → AreMild (sub.filter_answers env birth identifier xs b).deeds
  filters_mild env identifier [] b owns = tt
  filters_mild env identifier (a ∷ rest) b owns =
      let g = sub.filter_answer_of env (sub.wish_of identifier a) b (session_at birth b.records) in
      let mild = filter_mild env identifier a.filter (options_of a.options) b (session_at birth b.records) refl owns in
      each_append IsMild g.deeds (sub.filter_answers env birth identifier rest (after_all g.deeds b)).deeds mild (filters_mild env identifier rest (after_all g.deeds b) (owns_all g.deeds b mild owns))

-- nor do copies of retained messages that go out at once
late_own : (large : Type 0) (client : List ℕ) (call : Option Call) (line : ℕ) (ds : List CopyTo) (b : Broker) → AreOwn large client call (series (map (sub.late_send line) ds) b)
late_own large client call line [] b = tt
late_own large client call line (d ∷ ds) b =
    let first = sub.late_send line d b in
    let rest = after_all first b in
    each_append (own.IsOwn large client call) first (series (map (sub.late_send line) ds) rest)
    (of_offer_if (AreOwn large client call) (has_form d.copy b) (line_at line b) (publish_of b.now false 0 d.copy) tt (λ l there. (tt, tt))) (late_own large client call line ds rest)

-- a subscription ends no copy but by its own session
pub subscribe_own : (large : Type 0) (client : List ℕ) (call : Option Call) → Subscribes call → (t : Bool) (env : Env) (line : ℕ) (s : Session) (p : Asking) (b : Broker) → session_at s.birth b.records ≡ Some s → s.client ≡ client
    → AreOwn large client call (sub.subscribe_by t env line s p b)
subscribe_own large client call asks true env line s p b there its = own.own_offer large client call (line_at line b) (suback p.identifier (map (λ a. identifier_in_use) p.subscriptions))
subscribe_own large client call asks false env line s p b there its =
    let a = sub.filter_answers env s.birth (number_at SubscriptionIdentifier p.properties) p.subscriptions b in
    let told = offer (line_at line b) (suback p.identifier a.codes) in
    let owns : client_at s.birth b.records ≡ Some client = ap (option_map (λ (x : Session). x.client)) there ∙ ap Some its in
    let mild = filters_mild large client call asks s.birth env (number_at SubscriptionIdentifier p.properties) p.subscriptions b owns in
    let c = after_all (a.deeds ++ told) b in
    let front = each_append (own.IsOwn large client call) a.deeds told (all_own large client call asks s.birth a.deeds mild) (own.own_offer large client call (line_at line b) (suback p.identifier a.codes)) in
    each_append (own.IsOwn large client call) (a.deeds ++ told) (series (map (sub.late_send line) a.late) c) front (late_own large client call line a.late c)
