-- SUBSCRIBE and UNSUBSCRIBE, to brokers that are alike.
use Rattle.std.proofs.Common.{◌≡◌, ℕ, Bool, true, false, not, ◌&&◌, ◌||◌, List, [], ◌∷◌, ◌++◌, map, length, Option, Some, None, nat_lt, nat_le, refl, ap, ap₂, subst, subst₂}
use Rattle.std.specs.Prelude.{filter}
use Rattle.mqtt_base.specs.declared.limits.TheConstants.{SUBSCRIPTION_LIMIT}
use Rattle.mqtt_props.specs.declared.table.PropName.TheVariants.{SubscriptionIdentifier}
use Rattle.mqtt_packet.specs.declared.subscribe.subscribe.Subscribe.{Subscribe}
use Rattle.mqtt_packet.specs.declared.subscribe.unsubscribe.Unsubscribe.{Unsubscribe}
use Rattle.mqtt_packet.specs.subscribe.Subscriptions.{Subscription as Asked}
use Rattle.mqtt_topic.specs.names.Filters.{is_filter, begins_share}
use Rattle.mqtt_flow.specs.inbound.Identifiers.{is_among}
use Rattle.mqtt_records.specs.messages.Queue.{CopyRow}
use Rattle.mqtt_records.specs.declared.messages.message.RetainedMessage.{RetainedMessage}
use Rattle.mqtt_records.specs.declared.state.session.Session.{Session}
use Rattle.mqtt_records.specs.messages.PassedOn.{number_at}
use Rattle.mqtt_rules.specs.step.Packets.{suback}
use Rattle.mqtt_rules.specs.step.State.{Broker, Env, session_at, line_at}
use Rattle.mqtt_rules.specs.step.Deeds.{whose, Deed, Count, At, after_all, always, series, offer}
use Rattle.mqtt_rules.specs.step.Deeds as deeds
use Rattle.mqtt_rules.specs.step.Outbound.{room}
use Rattle.mqtt_rules.specs.step.Routing.{CopyTo, is_queued, deliver}
use Rattle.mqtt_rules.specs.step.Subscribe.{Wish, FilterAnswer, FilterAnswers, wants_retained, has_filter, brought_if, brought, subscription, granted_filter, answer_by, next_number, filter_answer, filter_answer_of, wish_of, before, filter_answers, late_send, subscribe_by, on_subscribe, unsubscribe_by, on_unsubscribe}
use Rattle.mqtt_rules.specs.alike.Alike.{Each, AlikeRows, AlikeSessions, AlikeBrokers, AlikeDeeds, with_queue, with_sessions}
use Rattle.mqtt_rules.proofs.alike_lemmas.Pairs.{Both, each_append}
use Rattle.mqtt_rules.proofs.alike_lemmas.States.{by_queue, by_broker, like, broker_put, session_found, all_after_alike}
use Rattle.mqtt_rules.proofs.alike_lemmas.Acts.{AlikeActs, does_on, same_deeds, series_alike, always_same}
use Rattle.mqtt_rules.proofs.alike_lemmas.Queues.{beside, room_same}
use Rattle.mqtt_rules.proofs.alike_lemmas.Closing.{deliver_all_alike}

module _ (P : Type 0) where
  -- the same codes and late copies, and alike deeds
  record SameFilter (g k : FilterAnswer) : Type 0 where
    codes : g.code ≡ k.code
    does : Each (AlikeDeeds P) g.deeds k.deeds
    lates : g.late ≡ k.late

  record SameFilters (a c : FilterAnswers) : Type 0 where
    codes : a.codes ≡ c.codes
    does : Each (AlikeDeeds P) a.deeds c.deeds
    lates : a.late ≡ c.late

  same_filter : (g : FilterAnswer) → SameFilter g g
  same_filter g = record { codes = refl; does = same_deeds P g.deeds; lates = refl }

  brought_same : (t : Bool) (now number : ℕ) (s : Session) (q : List CopyRow) (w : Wish) (ks : List RetainedMessage) → brought_if t now number s w ks ≡ brought_if t now number (with_queue q s) w ks
  brought_same true now number s q w ks = refl
  brought_same false now number s q w ks = refl

  module _ (env : Env) (old : List Session) where
    granted_alike : (number : ℕ) (s : Session) (q : List CopyRow) (w : Wish) (ds : List CopyTo) (b : Broker) (ss : List Session) → Each AlikeSessions b.records.sessions ss
        → SameFilter (granted_filter env number s w ds b) (granted_filter (beside env old) number (with_queue q s) w ds (like ss b))
    granted_alike number s q w ds b ss h = record {
      codes = refl;
      does = (series_alike P (always (Count number ∷ At (whose s) (deeds.Subscribe (subscription number s w)) ∷ []) ∷ map (deliver env) (filter is_queued ds))
          (always (Count number ∷ At (whose s) (deeds.Subscribe (subscription number s w)) ∷ []) ∷ map (deliver (beside env old)) (filter is_queued ds))
          (always_same P (Count number ∷ At (whose s) (deeds.Subscribe (subscription number s w)) ∷ []), deliver_all_alike P env old (filter is_queued ds))).does b ss h;
      lates = refl;
    }

    answer_by_alike : (t u : Bool) (number : ℕ) (s : Session) (q : List CopyRow) (w : Wish) (ds : List CopyTo) (b : Broker) (ss : List Session) → Each AlikeSessions b.records.sessions ss
        → SameFilter (answer_by t u env number s w ds b) (answer_by t u (beside env old) number (with_queue q s) w ds (like ss b))
    answer_by_alike false u number s q w ds b ss h = same_filter _
    answer_by_alike true false number s q w ds b ss h = same_filter _
    answer_by_alike true true number s q w ds b ss h = granted_alike number s q w ds b ss h

    -- the other's answer, by its room and by what a filter brings it
    abbrev granted_beside : Wish → Broker → List Session → Session → List CopyRow → ℕ → List CopyTo → FilterAnswer
    granted_beside w b ss s q n es =
        answer_by (is_filter w.filter)
        ((has_filter w.filter s || nat_lt (length s.subscriptions) SUBSCRIPTION_LIMIT) && nat_le (length (filter is_queued es)) n)
        (beside env old) (next_number b.records) (with_queue q s) w es (like ss b)

    filter_alike : (w : Wish) (b : Broker) (ss : List Session) → Each AlikeSessions b.records.sessions ss → (s : Session) (q : List CopyRow) → Each AlikeRows s.queue q
        → SameFilter (filter_answer env w b s) (filter_answer (beside env old) w (like ss b) (with_queue q s))
    filter_alike w b ss h s q k =
        let number = next_number b.records in
        let ds = brought b.now number s w b.records.retained in
        let mine = has_filter w.filter s || nat_lt (length s.subscriptions) SUBSCRIPTION_LIMIT in
        subst₂ (λ (n : ℕ) (es : List CopyTo). SameFilter (filter_answer env w b s) (granted_beside w b ss s q n es))
        (room_same env old s q k) (brought_same (not (begins_share w.filter) && wants_retained w.options.retain_handling (has_filter w.filter s)) b.now number s q w b.records.retained)
        (answer_by_alike (is_filter w.filter) (mine && nat_le (length (filter is_queued ds)) (room env s)) number s q w ds b ss h)

    filter_of_alike : (o : Option Wish) (b : Broker) (ss : List Session) → Each AlikeSessions b.records.sessions ss → (s t : Option Session) → Both AlikeSessions s t
        → SameFilter (filter_answer_of env o b s) (filter_answer_of (beside env old) o (like ss b) t)
    filter_of_alike o b ss h None None k = same_filter _
    filter_of_alike o b ss h None (Some t) k = absurd k
    filter_of_alike o b ss h (Some s) None k = absurd k
    filter_of_alike None b ss h (Some s) (Some t) k = same_filter _
    filter_of_alike (Some w) b ss h (Some s) (Some t) k =
        by_queue (λ (x : Session). SameFilter (filter_answer env w b s) (filter_answer (beside env old) w (like ss b) x)) s (filter_alike w b ss h s) t k

    before_alike : (g k : FilterAnswer) (a c : FilterAnswers) → SameFilter g k → SameFilters a c → SameFilters (before g a) (before k c)
    before_alike g k a c m n = record {
      codes = ap₂ (λ x xs. x ∷ xs) m.codes n.codes;
      does = each_append (AlikeDeeds P) g.deeds k.deeds a.deeds c.deeds m.does n.does;
      lates = ap₂ (λ xs ys. xs ++ ys) m.lates n.lates;
    }

    filters_alike : (birth : ℕ) (identifier : Option ℕ) (asked : List Asked) (b c : Broker) → AlikeBrokers b c
        → SameFilters (filter_answers env birth identifier asked b) (filter_answers (beside env old) birth identifier asked c)
    filters_alike birth identifier [] b c h = record { codes = refl; does = tt; lates = refl }
    filters_alike birth identifier (a ∷ rest) b c h =
        by_broker (λ (x : Broker). SameFilters (filter_answers env birth identifier (a ∷ rest) b) (filter_answers (beside env old) birth identifier (a ∷ rest) x)) b
        (λ ss i.
        let g = filter_answer_of env (wish_of identifier a) b (session_at birth b.records) in
        let k = filter_answer_of (beside env old) (wish_of identifier a) (like ss b) (session_at birth (with_sessions ss b.records)) in
        let m : SameFilter g k = filter_of_alike (wish_of identifier a) b ss i (session_at birth b.records) (session_at birth (with_sessions ss b.records)) (session_found birth b.records ss i) in
        before_alike g k (filter_answers env birth identifier rest (after_all g.deeds b)) (filter_answers (beside env old) birth identifier rest (after_all k.deeds (like ss b))) m
        (filters_alike birth identifier rest (after_all g.deeds b) (after_all k.deeds (like ss b)) (all_after_alike P g.deeds k.deeds m.does b (like ss b) (broker_put b ss i)))) c h

    -- the SUBACK, and what goes out behind it
    abbrev suback_sent : ℕ → Subscribe → Broker → List ℕ → List Deed
    suback_sent line p b codes = offer (line_at line b) (suback p.identifier codes)

    late_alike : (line : ℕ) (ds : List CopyTo) → Each (AlikeActs P) (map (late_send line) ds) (map (late_send line) ds)
    late_alike line [] = tt
    late_alike line (d ∷ ds) = (record { does = λ b ss h. same_deeds P (late_send line d b) }, late_alike line ds)

    lates_alike : (line : ℕ) (ds es : List CopyTo) → ds ≡ es → (b c : Broker) → AlikeBrokers b c → Each (AlikeDeeds P) (series (map (late_send line) ds) b) (series (map (late_send line) es) c)
    lates_alike line ds es e b c h =
        subst (λ (xs : List CopyTo). Each (AlikeDeeds P) (series (map (late_send line) ds) b) (series (map (late_send line) xs) c)) e
        (does_on P (series_alike P (map (late_send line) ds) (map (late_send line) ds) (late_alike line ds)) b c h)

    subscribe_by_alike : (t : Bool) (line : ℕ) (s : Session) (q : List CopyRow) (p : Subscribe) → AlikeActs P (subscribe_by t env line s p) (subscribe_by t (beside env old) line (with_queue q s) p)
    subscribe_by_alike true line s q p = record { does = λ b ss h. same_deeds P (subscribe_by true env line s p b) }
    subscribe_by_alike false line s q p = record {
      does = λ b ss h.
          let a = filter_answers env s.birth (number_at SubscriptionIdentifier p.properties) p.subscriptions b in
          let c = filter_answers (beside env old) s.birth (number_at SubscriptionIdentifier p.properties) p.subscriptions (like ss b) in
          let k : SameFilters a c = filters_alike s.birth (number_at SubscriptionIdentifier p.properties) p.subscriptions b (like ss b) (broker_put b ss h) in
          let ds = a.deeds ++ suback_sent line p b a.codes in
          let es = c.deeds ++ suback_sent line p b c.codes in
          let told : Each (AlikeDeeds P) ds es = each_append (AlikeDeeds P) a.deeds c.deeds (suback_sent line p b a.codes) (suback_sent line p b c.codes) k.does
          (subst (Each (AlikeDeeds P) (suback_sent line p b a.codes)) (ap (suback_sent line p b) k.codes) (same_deeds P (suback_sent line p b a.codes)))
          in
          each_append (AlikeDeeds P) ds es (series (map (late_send line) a.late) (after_all ds b)) (series (map (late_send line) c.late) (after_all es (like ss b))) told
          (lates_alike line a.late c.late k.lates (after_all ds b) (after_all es (like ss b)) (all_after_alike P ds es told b (like ss b) (broker_put b ss h)));
    }

    -- a SUBSCRIBE does alike
    pub on_subscribe_alike : (line : ℕ) (s : Session) (q : List CopyRow) (p : Subscribe) → AlikeActs P (on_subscribe env line s p) (on_subscribe (beside env old) line (with_queue q s) p)
    on_subscribe_alike line s q p = record { does = (subscribe_by_alike (is_among p.identifier s.inbound) line s q p).does }

  unsubscribe_by_alike : (t : Bool) (line : ℕ) (s : Session) (q : List CopyRow) (p : Unsubscribe) → AlikeActs P (unsubscribe_by t line s p) (unsubscribe_by t line (with_queue q s) p)
  unsubscribe_by_alike true line s q p = record { does = λ b ss h. same_deeds P (unsubscribe_by true line s p b) }
  unsubscribe_by_alike false line s q p = record { does = λ b ss h. same_deeds P (unsubscribe_by false line s p b) }

  -- an UNSUBSCRIBE does alike
  pub on_unsubscribe_alike : (line : ℕ) (s : Session) (q : List CopyRow) (p : Unsubscribe) → AlikeActs P (on_unsubscribe line s p) (on_unsubscribe line (with_queue q s) p)
  on_unsubscribe_alike line s q p = record { does = (unsubscribe_by_alike (is_among p.identifier s.inbound) line s q p).does }
