-- A receiver that is connected and in step: the broker reads its SUBSCRIBE, and it is so again, with the copies of retained
-- messages that the filter brings.
use Rattle.std.proofs.Common.{◌≡◌, ℕ, suc, ◌+◌, Bool, true, false, List, [], ◌∷◌, ◌++◌, drop, length, map, Option, Some, None, refl, sym, ap, subst, ◌∙◌, arith}
use Rattle.std.specs.Prelude.{◌≢◌, option_map}
use Rattle.std.specs.List.{AllByRecursion}
use Rattle.mqtt_base.specs.declared.session.CopyId.{CopyId}
use Rattle.mqtt_packet.specs.declared.codec.packet.Packet.{Packet}
use Rattle.mqtt_packet.specs.subscribe.Options.{options_byte}
use Rattle.mqtt_packet.specs.subscribe.Subscriptions.{Subscription as Asked}
use Rattle.mqtt_base.specs.Codes.{identifier_in_use}
use Rattle.mqtt_flow.specs.outbound.OutboundWorld.{Lot}
use Rattle.mqtt_flow.specs.inbound.Identifiers.{is_among}
use Rattle.mqtt_world_model.specs.model.Ends.{Back, Receiver, Wish, asks_for, wire_back}
use Rattle.mqtt_world_model.specs.model.Seen.{is_linked}
use Rattle.mqtt_world_model.proofs.model_lemmas.own.OwnStep.{heard_of, input_is}
use Rattle.mqtt_world_model.proofs.model_lemmas.others.Quiet.{session_on}
use Rattle.mqtt_world_model.proofs.model_lemmas.seats.Seeing.{done_lines, linked_is, linked_of}
use Rattle.mqtt_props.specs.declared.table.PropName.TheVariants.{SubscriptionIdentifier}
use Rattle.mqtt_records.specs.declared.state.session.Session.{Session}
use Rattle.mqtt_records.specs.lists.Distinct.{AllDiffer}
use Rattle.mqtt_rules.proofs.step_lemmas.acts.Acts.{brought_to}
use Rattle.mqtt_rules.proofs.step_lemmas.acts.Goods.{AreGood, good_append}
use Rattle.mqtt_rules.proofs.step_lemmas.numbers.Copies.{each_append}
use Rattle.mqtt_rules.proofs.step_lemmas.lines.LineActs.{quiet_grants}
use Rattle.mqtt_rules.proofs.step_lemmas.lines.LineRows.{IsQuiet, leaves, still_quiet}
use Rattle.mqtt_rules.proofs.step_lemmas.acts.Offers.{of_offer, of_offer_if}
use Rattle.mqtt_rules.specs.step.Deeds.{Deed, after_all, offer, rows_of_all, series}
use Rattle.mqtt_rules.specs.step.Fitting.{has_form}
use Rattle.mqtt_records.specs.messages.PassedOn.{number_at}
use Rattle.mqtt_rules.specs.step.Packets.{publish_of, suback}
use Rattle.mqtt_rules.specs.step.Routing.{CopyTo}
use Rattle.mqtt_rules.specs.step.State.{Line as BrokerLine, Broker, Env, MemberChoice, line_at, session_at}
use Rattle.mqtt_rules.specs.step.Step.{Call, Input, at_moment, deeds, env_of, next_packet, stepped}
use Rattle.mqtt_rules.specs.step.Subscribe as sub
use Rattle.mqtt_rules.specs.declared.step.Capacity.{Capacity}
use Rattle.mqtt_packet.specs.declared.subscribe.subscribe.Subscribe.{Subscribe as Asking}
use Rattle.mqtt_world_laws.proofs.acceptance_lemmas.copies.Differ.{AreApart, differ_join}
use Rattle.mqtt_world_laws.specs.receiver.Handing.{IsRun, receiver_after}
use Rattle.mqtt_world_laws.specs.receiver.Own.{IsBroughtCopy}
use Rattle.mqtt_world_laws.specs.receiver.Seen.{Numbering}
use Rattle.mqtt_world_laws.specs.receiver.Served.{IsTidy}
use Rattle.mqtt_world_laws.specs.receiver.Tags.{AreNumbered, id_of}
use Rattle.mqtt_world_laws.specs.receiver.WorldRounds.{AreTold, BringsNoLarger, IsConnected, IsOlder}
use Rattle.mqtt_world_laws.proofs.receiver_lemmas.own.OwnSubscribes.{LotsOn, wished}
use Rattle.mqtt_world_laws.proofs.receiver_lemmas.queue.QueueLengths.{IsUpTo}
use Rattle.mqtt_world_laws.proofs.receiver_lemmas.drains.RoundFits.{IsFitting, call_fits}
use Rattle.mqtt_world_laws.proofs.receiver_lemmas.drains.WishFits.{AreFitting, subscribe_fits}
use Rattle.mqtt_world_laws.proofs.receiver_lemmas.drains.WorldRoundSteps.{called_again, listens_now, stays_up}

-- ---- its deeds connect, close and end nobody

quiet_offer : (o : Option BrokerLine) (packet : Packet) (b : Broker) → AreGood IsQuiet (offer o packet) b
quiet_offer o packet b = of_offer (λ (xs : List Deed). AreGood IsQuiet xs b) o packet tt (λ l there. (tt, tt))

quiet_late : (n : ℕ) (b : Broker) (ds : List CopyTo) → AreGood IsQuiet (series (map (sub.late_send n) ds) b) b
quiet_late n b [] = tt
quiet_late n b (d ∷ ds) =
    let first = sub.late_send n d b in
    let rest = after_all first b in
    good_append IsQuiet first (series (map (sub.late_send n) ds) rest) b
    (of_offer_if (λ (xs : List Deed). AreGood IsQuiet xs b) (has_form d.copy b) (line_at n b) (publish_of b.now false 0 d.copy) tt (λ l there. (tt, tt))) (quiet_late n rest ds)

quiet_answer_by : (t u : Bool) (env : Env) (w : sub.Wish) (s : Session) (b : Broker) → AreGood IsQuiet (sub.answer_by t u env (sub.next_number b.records) s w (brought_to w s b) b).deeds b
quiet_answer_by false u env w s b = tt
quiet_answer_by true false env w s b = tt
quiet_answer_by true true env w s b = quiet_grants env w s b

quiet_filter : (env : Env) (o : Option sub.Wish) (x : Option Session) (b : Broker) → AreGood IsQuiet (sub.filter_answer_of env o b x).deeds b
quiet_filter env o None b = tt
quiet_filter env None (Some s) b = tt
quiet_filter env (Some w) (Some s) b = quiet_answer_by _ _ env w s b

quiet_filters : (env : Env) (birth : ℕ) (identifier : Option ℕ) (xs : List Asked) (b : Broker) → AreGood IsQuiet (sub.filter_answers env birth identifier xs b).deeds b
quiet_filters env birth identifier [] b = tt
quiet_filters env birth identifier (a ∷ rest) b =
    let g = sub.filter_answer_of env (sub.wish_of identifier a) b (session_at birth b.records) in
    good_append IsQuiet g.deeds (sub.filter_answers env birth identifier rest (after_all g.deeds b)).deeds b (quiet_filter env (sub.wish_of identifier a) (session_at birth b.records) b)
    (quiet_filters env birth identifier rest (after_all g.deeds b))

quiet_subscribe : (t : Bool) (env : Env) (line : ℕ) (s : Session) (p : Asking) (b : Broker) → AreGood IsQuiet (sub.subscribe_by t env line s p b) b
quiet_subscribe true env line s p b = quiet_offer (line_at line b) (suback p.identifier (map (λ (a : Asked). identifier_in_use) p.subscriptions)) b
quiet_subscribe false env line s p b =
    let a = sub.filter_answers env s.birth (number_at SubscriptionIdentifier p.properties) p.subscriptions b in
    let answer = offer (line_at line b) (suback p.identifier a.codes) in
    let c = after_all (a.deeds ++ answer) b in
    good_append IsQuiet (a.deeds ++ answer) (series (map (sub.late_send line) a.late) c) b
    (good_append IsQuiet a.deeds answer b (quiet_filters env s.birth (number_at SubscriptionIdentifier p.properties) p.subscriptions b) (quiet_offer (line_at line b) (suback p.identifier a.codes) (after_all a.deeds b)))
    (quiet_late line c a.late)

-- ---- copies that are brought differ from those before them

unlike : (birth subscribes : ℕ) (id : CopyId) (more : List CopyId) → IsOlder subscribes id → AllByRecursion (IsBroughtCopy birth (suc subscribes)) more → AllByRecursion (λ (y : CopyId). id ≢ y) more
unlike birth subscribes id [] older new = tt
unlike birth subscribes id (y ∷ ys) older new =
    ((λ e. let low = older (suc subscribes) (ap (λ (x : CopyId). x.cause) e ∙ new.0.cause_is) in absurd (omega (arith, low))), unlike birth subscribes id ys older new.1)

apart_from : (birth subscribes : ℕ) (ids more : List CopyId) → AllByRecursion (IsOlder subscribes) ids → AllByRecursion (IsBroughtCopy birth (suc subscribes)) more → AreApart ids more
apart_from birth subscribes [] more older new = tt
apart_from birth subscribes (x ∷ ids) more older new = (unlike birth subscribes x more older.0 new, apart_from birth subscribes ids more older.1 new)

-- ---- the step

module _ (number : Numbering) (largest window : ℕ) (ids : List CopyId) (birth : ℕ) (ns : List ℕ) where
  abbrev asking : Receiver → ℕ → Wish → Call
  asking r n w = Input n (wire_back r.client r.window r.aliases (asks_for w))

  -- connected with some copies more, of which no two are one
  pub record HasWished (limits : Capacity) (choice : MemberChoice) (now : ℕ) (w : Wish) (rest : List Back) (n : ℕ) (r : Receiver) (b : Broker) : Type 0 where
    pub more : List CopyId
    pub new : AllByRecursion (IsBroughtCopy birth (suc b.records.subscribes)) more
    pub differ : AllDiffer (ids ++ more)
    pub longer : (most : ℕ) → IsUpTo birth most b → IsUpTo birth (most + length more) (stepped limits choice now (asking r n w) b)
    pub lots : (other : Numbering) (copies : List Lot) → AreNumbered other (ids ++ more) → IsRun other largest copies r b → map id_of copies ≡ ids
        → LotsOn other largest copies (ids ++ more) (receiver_after limits choice now (asking r n w) r b) (stepped limits choice now (asking r n w) b)
    pub connected : IsConnected largest window (ids ++ more) birth ns (receiver_after limits choice now (asking r n w) r b) (stepped limits choice now (asking r n w) b)
    pub up : (receiver_after limits choice now (asking r n w) r b).line.up ≡ rest

  -- a SUBSCRIBE of a connected receiver leaves it connected, with the copies that it brings
  pub wish_at : (limits : Capacity) (choice : MemberChoice) (now : ℕ) (w : Wish) (rest : List Back) (r : Receiver) (b : Broker) (c : IsConnected largest window ids birth ns r b) → IsTidy limits b → AreTold ids b
      → AllByRecursion (BringsNoLarger largest w.identifier) b.records.retained → r.line.up ≡ asks_for w ∷ rest → HasWished limits choice now w rest c.line.number r b
  wish_at limits choice now w rest r b c tidy told no_larger up =
      let l = c.line in
      let n = l.number in
      let call = asking r n w in
      let packet = wire_back r.client r.window r.aliases (asks_for w) in
      let li = listens_now number largest window ids birth ns r b c in
      let s = li.session in
      let first = at_moment now b in
      let heard = heard_of now n b in
      let env = env_of limits choice b in
      let q = receiver_after limits choice now call r b in
      let new = stepped limits choice now call b in
      let x = wished largest ids limits choice now birth ns w rest r l s b c.in_step li.listening tidy up in
      let own : AreGood IsQuiet (next_packet env l packet s heard) heard = quiet_subscribe (is_among 1 s.inbound) env n s _ heard in
      let ds = deeds limits choice now call b in
      let quiet : AreGood IsQuiet ds first =
      subst (λ (zs : List Deed). AreGood IsQuiet zs first) (sym (input_is limits choice now packet l s b li.listening.line li.listening.connected li.listening.session)) (tt, good_append IsQuiet (next_packet env l packet s heard) [] heard own tt) in
      let fitting : AreFitting largest (next_packet env l packet s heard) = subscribe_fits largest (is_among 1 s.inbound) env n s w.identifier (record { filter = w.filter; options = options_byte w.options }) heard no_larger in
      let fit : AreFitting largest ds =
      subst (AreFitting largest) (sym (input_is limits choice now packet l s b li.listening.line li.listening.connected li.listening.session)) (tt, each_append (IsFitting largest) (next_packet env l packet s heard) [] fitting tt) in
      let on : session_on n new.lines ≡ Some (Some birth) =
      ap (session_on n) (done_lines (rows_of_all ds first.records) (after_all ds first))
      ∙ ((leaves ds first (still_quiet ds first quiet)).lines n ∙ (ap (option_map (λ (y : BrokerLine). y.session)) c.there ∙ ap Some c.connected)) in
      let linked : is_linked q.line.number new ≡ true = ap (λ (o : Option ℕ). is_linked o new) c.number ∙ (linked_is n new ∙ ap linked_of on) in
      record {
        more = x.after.more;
        new = x.after.new;
        differ = differ_join ids x.after.more told.differ (x.differ told.retained) (apart_from birth b.records.subscribes ids x.after.more told.older x.after.new);
        longer = x.longer;
        lots = x.lots;
        connected = called_again number largest window ids birth ns limits choice now call r b quiet (ids ++ x.after.more) q c x.after.in_step refl refl linked (call_fits largest birth limits choice now call b fit c.fits);
        up = stays_up number largest window ids birth ns limits choice now call r b quiet (drop 1 r.line.up) ∙ ap (drop 1) up;
      }
