-- The deeds by which a session is closed or settled: none begins or ends another session, or subscribes.
use Rattle.std.proofs.Common.{◌≡◌, ℕ, Bool, true, false, List, [], ◌∷◌, ◌++◌, map, Option, Some, None, inl, inr}
use Rattle.std.specs.Prelude.{⊤, ◌⊎◌, flat_map}
use Rattle.mqtt_base.specs.declared.session.Ending.TheVariants.{SessionEnded}
use Rattle.mqtt_topic.specs.names.Names.{is_empty}
use Rattle.mqtt_flow.specs.declared.outbound.entry.Turn.{Turn}
use Rattle.mqtt_flow.specs.declared.outbound.entry.Turn.TheVariants as turns
use Rattle.mqtt_flow.specs.outbound.Outbound.{way_made}
use Rattle.mqtt_records.specs.declared.messages.message.MessageCopy.{MessageCopy}
use Rattle.mqtt_records.specs.declared.messages.message.RetainedMessage.{RetainedMessage}
use Rattle.mqtt_records.specs.declared.messages.message.Will.{Will}
use Rattle.mqtt_records.specs.messages.Queue.{CopyRow}
use Rattle.mqtt_records.specs.declared.state.session.Session.{Session}
use Rattle.mqtt_records.specs.state.Session.{birth_of, copy_place}
use Rattle.mqtt_records.specs.lists.Order.{row_at}
use Rattle.mqtt_rules.specs.step.Closing.{end_session, has_due_end, has_due_will, publish_or_refuse, publish_will, settle, will_deeds, will_message}
use Rattle.mqtt_rules.specs.step.Deeds.{Whose, whose, Message, Origin, FromWill, Part, Close, DropWill, Enter, Leave, Deed, Accept, Begin, Name, Count, At, Finish, Keep, Forget, RefuseWill, Link, On, Send, Gone, Act, after, after_all, always, of_session, only_if, series}
use Rattle.mqtt_rules.specs.step.Fitting.{has_form}
use Rattle.mqtt_rules.specs.step.Outbound.{enter_deeds, leave_deeds, queue_limits, since}
use Rattle.mqtt_rules.specs.step.Packets.{publish_of}
use Rattle.mqtt_rules.specs.step.Routing.{CopyTo, accepted_copies, deliver, deliver_by, forgets, is_queued, next_publication, publish, retain_by, retained_of}
use Rattle.mqtt_rules.specs.step.State.{Broker, Env, line_of, queue_on, session_at}
use Rattle.mqtt_rules.proofs.step_lemmas.acts.Offers.{of_offer_if}
use Rattle.mqtt_rules.proofs.step_lemmas.flight.FlightRows.{found_key}
use Rattle.mqtt_rules.proofs.step_lemmas.acts.Goods.{AreGood, good_append, good_flat, good_of_entry, good_two, good_with_session}

-- a copy enters a queue, or leaves it
abbrev pub IsQueued : Part → Type 0
IsQueued (Enter copy) = ⊤
IsQueued (Leave e ending) = ⊤
IsQueued part = ⊥

-- the session is closed, or its Will is gone
abbrev pub IsClosing : Part → Type 0
IsClosing (Close moment) = ⊤
IsClosing DropWill = ⊤
IsClosing part = ⊥

-- a deed by which the session with a birth is closed or settled
abbrev pub IsOwn : ℕ → Deed → Broker → Type 0
IsOwn k (Accept number origin m) b = ⊤
IsOwn k (Begin row will) b = ⊥
IsOwn k (Name n) b = ⊥
IsOwn k (Count n) b = ⊥
IsOwn k (At who part) b = IsQueued part ⊎ ((who.birth ≡ k) × IsClosing part)
IsOwn k (Finish who) b = who.birth ≡ k
IsOwn k (Keep kept) b = ⊤
IsOwn k (Forget place) b = ⊤
IsOwn k (RefuseWill who) b = ⊤
IsOwn k (Link n) b = ⊥
IsOwn k (On n part) b = ⊥
IsOwn k (Send n packet) b = ⊤
IsOwn k (Gone n) b = ⊥

module _ (k : ℕ) where
  -- so is each of these deeds
  abbrev pub AreOwn : List Deed → Broker → Type 0
  AreOwn = AreGood (IsOwn k)

  -- ---- a publication

  leave_own : (s : Session) (t : Turn) (b : Broker) → AreOwn (leave_deeds s t) b
  leave_own s (turns.Leave place ending) b = good_of_entry (IsOwn k) (row_at copy_place place s.queue) (λ e. At (whose s) (Leave e ending) ∷ []) b (λ e. (inl tt, tt))
  leave_own s t b = tt

  enter_own : (env : Env) (copy : MessageCopy) (s : Session) (b : Broker) → AreOwn (enter_deeds env copy s) b
  enter_own env copy s b =
      let ts = way_made (queue_limits env) (since env s) (queue_on [] s) in
      good_append (IsOwn k) (flat_map (leave_deeds s) ts) (At (whose s) (Enter copy) ∷ []) b (good_flat (IsOwn k) (leave_deeds s) (leave_own s) ts b) (inl tt, tt)

  deliver_own : (t : Bool) (env : Env) (d : CopyTo) (b : Broker) → AreOwn (deliver_by t env d b) b
  deliver_own true env d b =
      good_with_session (IsOwn k) (session_at d.birth b.records) (λ s. always (enter_deeds env d.copy s)) b (λ s e. enter_own env d.copy s b)
  deliver_own false env d b =
      of_offer_if (λ (ds : List Deed). AreOwn ds b) (has_form d.copy b) (line_of d.birth b) (publish_of b.now false 0 d.copy) tt (λ l there. (tt, tt))

  deliveries_own : (env : Env) (ds : List CopyTo) (b : Broker) → AreOwn (series (map (deliver env) ds) b) b
  deliveries_own env [] b = tt
  deliveries_own env (d ∷ ds) b =
      let first = deliver env d b in
      let c = after_all first b in
      good_append (IsOwn k) first (series (map (deliver env) ds) c) b (deliver_own (is_queued d) env d b) (deliveries_own env ds c)

  forgets_own : (o : Option RetainedMessage) (b : Broker) → AreOwn (forgets o) b
  forgets_own None b = tt
  forgets_own (Some x) b = (tt, tt)

  retain_own : (retain empty : Bool) (number : ℕ) (m : Message) (b : Broker) → AreOwn (retain_by retain empty number m b) b
  retain_own false empty number m b = tt
  retain_own true true number m b = forgets_own (retained_of m.topic b.records) b
  retain_own true false number m b = (tt, tt)

  publish_own : (env : Env) (origin : Origin) (m : Message) (ds : List CopyTo) (b : Broker) → AreOwn (publish env origin m ds b) b
  publish_own env origin m ds b =
      let number = next_publication b.records in
      let c = after (Accept number origin m) b in
      let next = retain_by m.retain (is_empty m.payload) number m c in
      let d = after_all next c in
      (tt, good_append (IsOwn k) next (series (map (deliver env) ds) d) c (retain_own m.retain (is_empty m.payload) number m c) (deliveries_own env ds d))

  -- ---- a Will, and the session's end

  refuse_own : (env : Env) (who : Whose) (m : Message) (o : Option (List CopyTo)) (b : Broker) → AreOwn (publish_or_refuse env who m o b) b
  refuse_own env who m None b = (tt, tt)
  refuse_own env who m (Some ds) b = publish_own env FromWill m ds b

  will_own : (env : Env) (s : Session) (w : Option Will) (b : Broker) → s.birth ≡ k → AreOwn (will_deeds env (whose s) w b) b
  will_own env s None b its = tt
  will_own env s (Some w) b its =
      let m = will_message s.client w in
      let copies = accepted_copies env m b in
      good_two (IsOwn k) (publish_or_refuse env (whose s) m copies) (always (At (whose s) DropWill ∷ [])) b (refuse_own env (whose s) m copies b) (inr (its, tt), tt)

  end_own : (s : Session) (q : List CopyRow) (b : Broker) → s.birth ≡ k → AreOwn (map (λ e. At (whose s) (Leave e SessionEnded)) q ++ Finish (whose s) ∷ []) b
  end_own s [] b its = (its, tt)
  end_own s (e ∷ q) b its = (inl tt, end_own s q (after (At (whose s) (Leave e SessionEnded)) b) its)

  only_own : (t : Bool) (act : Act) (b : Broker) → AreOwn (act b) b → AreOwn (only_if t act b) b
  only_own true act b h = h
  only_own false act b h = tt

  -- the settling of a session has such deeds alone
  pub settle_own : (env : Env) (b : Broker) → AreOwn (settle env k b) b
  settle_own env b =
      let wills = λ (s : Session). only_if (has_due_will b.now s) (publish_will env s) in
      let ends = λ (s : Session). only_if (has_due_end b.now s) (always (end_session s)) in
      let c = after_all (of_session k wills b) b in
      good_two (IsOwn k) (of_session k wills) (of_session k ends) b
      (good_with_session (IsOwn k) (session_at k b.records) wills b
      (λ s found. only_own (has_due_will b.now s) (publish_will env s) b (will_own env s s.will b (found_key birth_of k s b.records.sessions found))))
      (good_with_session (IsOwn k) (session_at k c.records) ends c
      (λ s found. only_own (has_due_end b.now s) (always (end_session s)) c (end_own s s.queue c (found_key birth_of k s c.records.sessions found))))
