-- The broker reads a SUBSCRIBE of a receiver: nothing enters a queue but copies of retained messages, and if these are no larger
-- than so many bytes its deeds leave the queue's copies so.
use Rattle.std.proofs.Common.{◌≡◌, ℕ, ◌≤◌, Bool, true, false, List, [], ◌∷◌, ◌++◌, filter, map, Option, Some, None, refl, sym, ap, subst}
use Rattle.std.specs.Prelude.{flat_map}
use Rattle.std.specs.List.{AllByRecursion}
use Rattle.mqtt_base.specs.declared.session.SubscriptionOptions.{SubscriptionOptions}
use Rattle.mqtt_packet.specs.subscribe.Options.{options_of}
use Rattle.mqtt_packet.specs.subscribe.Subscriptions.{Subscription as Asked}
use Rattle.mqtt_flow.specs.outbound.Outbound.{way_made}
use Rattle.mqtt_flow.specs.declared.outbound.entry.Turn.{Turn}
use Rattle.mqtt_flow.specs.declared.outbound.entry.Turn.TheVariants as turns
use Rattle.mqtt_props.specs.declared.table.PropName.TheVariants.{SubscriptionIdentifier}
use Rattle.mqtt_records.specs.messages.PassedOn.{number_at}
use Rattle.mqtt_records.specs.messages.Queue.{CopyRow}
use Rattle.mqtt_records.specs.declared.messages.message.MessageCopy.{MessageCopy}
use Rattle.mqtt_records.specs.declared.messages.message.RetainedMessage.{RetainedMessage}
use Rattle.mqtt_records.specs.state.Session.{copy_place}
use Rattle.mqtt_records.specs.declared.state.session.Session.{Session}
use Rattle.mqtt_records.specs.lists.Order.{row_at}
use Rattle.mqtt_routes.specs.routing.Retained.{kept_for}
use Rattle.mqtt_routes.specs.declared.routing.retained.Kept.{Kept}
use Rattle.mqtt_rules.proofs.step_lemmas.acts.Acts.{brought_to}
use Rattle.mqtt_rules.proofs.step_lemmas.acts.Offers.{of_offer, of_offer_if}
use Rattle.mqtt_rules.proofs.step_lemmas.numbers.Copies.{each_append, each_filter, each_map, each_more}
use Rattle.mqtt_rules.specs.step.Deeds.{At, Count, Deed, Enter, Leave, after_all, always, offer, series, whose, with_session}
use Rattle.mqtt_rules.specs.step.Deeds as deeds
use Rattle.mqtt_rules.specs.step.Fitting.{has_form}
use Rattle.mqtt_rules.specs.step.Outbound.{enter_deeds, leave_deeds, of_entry, queue_limits, since}
use Rattle.mqtt_rules.specs.step.Packets.{publish_of, suback}
use Rattle.mqtt_rules.specs.step.Routing.{CopyTo, deliver, deliver_by, is_queued}
use Rattle.mqtt_rules.specs.step.State.{Broker, Env, line_at, line_of, queue_on, queued_copy, session_at}
use Rattle.mqtt_rules.specs.step.Subscribe as sub
use Rattle.mqtt_world_model.specs.model.Ends.{identified}
use Rattle.mqtt_world_laws.specs.receiver.WorldRounds.{BringsNoLarger}
use Rattle.mqtt_world_laws.proofs.receiver_lemmas.drains.RoundFits.{IsFitting}

number_is : (o : Option ℕ) → number_at SubscriptionIdentifier (identified o) ≡ o
number_is None = refl
number_is (Some n) = refl

same_wish : (x y : sub.Wish) → Some x ≡ Some y → x ≡ y
same_wish x y e = cc

module _ (largest : ℕ) where
  abbrev pub AreFitting : List Deed → Type 0
  AreFitting ds = AllByRecursion (IsFitting largest) ds

  abbrev IsToFit : CopyTo → Type 0
  IsToFit d = (queued_copy d.copy).size ≤ largest

  -- ---- copies enter

  leave_fits : (s : Session) (t : Turn) → AreFitting (leave_deeds s t)
  leave_fits s (turns.Leave place ending) = by (row_at copy_place place s.queue)
    where
      by : (o : Option CopyRow) → AreFitting (of_entry o (λ e. At (whose s) (Leave e ending) ∷ []))
      by None = tt
      by (Some e) = (tt, tt)
  leave_fits s t = tt

  leaves_fit : (s : Session) (ts : List Turn) → AreFitting (flat_map (leave_deeds s) ts)
  leaves_fit s [] = tt
  leaves_fit s (t ∷ ts) = each_append (IsFitting largest) (leave_deeds s t) (flat_map (leave_deeds s) ts) (leave_fits s t) (leaves_fit s ts)

  enter_fits : (env : Env) (copy : MessageCopy) (s : Session) → (queued_copy copy).size ≤ largest → AreFitting (enter_deeds env copy s)
  enter_fits env copy s le =
      let ts = way_made (queue_limits env) (since env s) (queue_on [] s) in
      each_append (IsFitting largest) (flat_map (leave_deeds s) ts) (At (whose s) (Enter copy) ∷ []) (leaves_fit s ts) (le, tt)

  enter_there : (o : Option Session) (env : Env) (copy : MessageCopy) (b : Broker) → (queued_copy copy).size ≤ largest → AreFitting (with_session o (λ s. always (enter_deeds env copy s)) b)
  enter_there None env copy b le = tt
  enter_there (Some s) env copy b le = enter_fits env copy s le

  deliver_fits : (t : Bool) (env : Env) (d : CopyTo) (b : Broker) → IsToFit d → AreFitting (deliver_by t env d b)
  deliver_fits true env d b le = enter_there (session_at d.birth b.records) env d.copy b le
  deliver_fits false env d b le = of_offer_if AreFitting (has_form d.copy b) (line_of d.birth b) (publish_of b.now false 0 d.copy) tt (λ l there. (tt, tt))

  deliveries_fit : (env : Env) (ds : List CopyTo) (b : Broker) → AllByRecursion IsToFit ds → AreFitting (series (map (deliver env) ds) b)
  deliveries_fit env [] b h = tt
  deliveries_fit env (d ∷ ds) b h =
      let first = deliver env d b in
      let c = after_all first b in
      each_append (IsFitting largest) first (series (map (deliver env) ds) c) (deliver_fits (is_queued d) env d b h.0) (deliveries_fit env ds c h.1)

  -- ---- a filter is granted, or refused

  abbrev Brings : sub.Wish → RetainedMessage → Type 0
  Brings w k = BringsNoLarger largest w.identifier k

  brought_fit : (t : Bool) (now n : ℕ) (s : Session) (w : sub.Wish) (ks : List RetainedMessage) → AllByRecursion (Brings w) ks → AllByRecursion IsToFit (sub.brought_if t now n s w ks)
  brought_fit false now n s w ks h = tt
  brought_fit true now n s w ks h =
      let tabled = each_map (λ (y : Kept RetainedMessage). Brings w (sub.message_in y)) sub.kept_of ks h in
      let matched = each_filter (λ (y : Kept RetainedMessage). Brings w (sub.message_in y)) _ (map sub.kept_of ks) tabled in
      let messages = each_map (Brings w) sub.message_in (kept_for w.filter (map sub.kept_of ks)) matched in
      let all = filter (sub.is_brought now s w) (map sub.message_in (kept_for w.filter (map sub.kept_of ks))) in
      let fit = each_filter (Brings w) (sub.is_brought now s w) (map sub.message_in (kept_for w.filter (map sub.kept_of ks))) messages in
      each_map IsToFit (sub.retained_copy_to s.birth n w) all (each_more (Brings w) (λ k. IsToFit (sub.retained_copy_to s.birth n w k)) (λ k p. p s.birth n w refl) all fit)

  answer_fits : (t u : Bool) (env : Env) (w : sub.Wish) (s : Session) (b : Broker) → AllByRecursion (Brings w) b.records.retained → AreFitting (sub.answer_by t u env (sub.next_number b.records) s w (brought_to w s b) b).deeds
  answer_fits false u env w s b h = tt
  answer_fits true false env w s b h = tt
  answer_fits true true env w s b h =
      let n = sub.next_number b.records in
      let c = after_all (Count n ∷ At (whose s) (deeds.Subscribe (sub.subscription n s w)) ∷ []) b in
      let all = brought_to w s b in
      (tt, (tt, deliveries_fit env (filter is_queued all) c (each_filter IsToFit is_queued all (brought_fit _ b.now n s w b.records.retained h))))

  filter_fits : (env : Env) (o : Option sub.Wish) (x : Option Session) (b : Broker) → ((w : sub.Wish) → o ≡ Some w → AllByRecursion (Brings w) b.records.retained) → AreFitting (sub.filter_answer_of env o b x).deeds
  filter_fits env o None b h = tt
  filter_fits env None (Some s) b h = tt
  filter_fits env (Some w) (Some s) b h = answer_fits _ _ env w s b (h w refl)

  wish_fits : (text : List ℕ) (identifier : Option ℕ) (o : Option SubscriptionOptions) (ks : List RetainedMessage) → AllByRecursion (BringsNoLarger largest identifier) ks
      → (w : sub.Wish) → sub.wish_by text identifier o ≡ Some w → AllByRecursion (Brings w) ks
  wish_fits text identifier None ks h w e = absurd cc
  wish_fits text identifier (Some options) ks h w e =
      let same = same_wish (record { filter = text; options = options; identifier = identifier }) w e in
      subst (λ (n : Option ℕ). AllByRecursion (BringsNoLarger largest n) ks) (ap (λ (x : sub.Wish). x.identifier) same) h

  -- ---- the packet

  late_fits : (line : ℕ) (b : Broker) (ds : List CopyTo) → AreFitting (series (map (sub.late_send line) ds) b)
  late_fits line b [] = tt
  late_fits line b (d ∷ ds) =
      let first = sub.late_send line d b in
      let one = of_offer_if AreFitting (has_form d.copy b) (line_at line b) (publish_of b.now false 0 d.copy) tt (λ l there. (tt, tt)) in
      each_append (IsFitting largest) first (series (map (sub.late_send line) ds) (after_all first b)) one (late_fits line (after_all first b) ds)

  -- with one filter
  pub subscribe_fits : (t : Bool) (env : Env) (line : ℕ) (s : Session) (o : Option ℕ) (a : Asked) (b : Broker) → AllByRecursion (BringsNoLarger largest o) b.records.retained
      → AreFitting (sub.subscribe_by t env line s (record { identifier = 1; properties = identified o; subscriptions = a ∷ [] }) b)
  subscribe_fits true env line s o a b h = of_offer AreFitting (line_at line b) _ tt (λ l there. (tt, tt))
  subscribe_fits false env line s o a b h =
      let identifier = number_at SubscriptionIdentifier (identified o) in
      let ks = b.records.retained in
      let g = sub.filter_answer_of env (sub.wish_of identifier a) b (session_at s.birth b.records) in
      let all = sub.filter_answers env s.birth identifier (a ∷ []) b in
      let answer = offer (line_at line b) (suback 1 all.codes) in
      let c = after_all (all.deeds ++ answer) b in
      let so : AllByRecursion (BringsNoLarger largest identifier) ks = subst (λ (n : Option ℕ). AllByRecursion (BringsNoLarger largest n) ks) (sym (number_is o)) h in
      let own : AreFitting g.deeds = filter_fits env (sub.wish_of identifier a) (session_at s.birth b.records) b (wish_fits a.filter identifier (options_of a.options) ks so) in
      each_append (IsFitting largest) (all.deeds ++ answer) (series (map (sub.late_send line) all.late) c)
      (each_append (IsFitting largest) all.deeds answer (each_append (IsFitting largest) g.deeds [] own tt) (of_offer AreFitting (line_at line b) (suback 1 all.codes) tt (λ l there. (tt, tt))))
      (late_fits line c all.late)
