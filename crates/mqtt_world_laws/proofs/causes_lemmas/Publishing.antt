-- Publications and granted filters: if a full queue refuses, their copies enter only if there is room.
use Rattle.std.proofs.Common.{◌≡◌, ℕ, suc, ◌-◌, ◌≤◌, ◌<◌, Bool, true, false, not, ◌&&◌, List, [], ◌∷◌, ◌++◌, length, filter, map, Option, Some, None, nat_eq, refl, sym, ap, subst, ◌∙◌, ◌⊎◌, inl, inr, arith}
use Rattle.std.proofs.lemmas.Bool.{cases_Bool, eqb-true}
use Rattle.std.proofs.lemmas.Cmp.{nat_eq_equiv}
use Rattle.mqtt_base.specs.declared.limits.TheConstants.{QUEUE_LIMIT}
use Rattle.mqtt_flow.specs.declared.outbound.entry.Full.{Full}
use Rattle.mqtt_flow.specs.declared.outbound.entry.Full.TheVariants.{Drop, Refuse}
use Rattle.mqtt_flow.specs.outbound.Outbound.{staying}
use Rattle.mqtt_records.specs.declared.messages.message.MessageCopy.{MessageCopy}
use Rattle.mqtt_records.specs.declared.messages.message.RetainedMessage.{RetainedMessage}
use Rattle.mqtt_records.specs.state.Records.{changed_all}
use Rattle.mqtt_records.specs.state.Session.{birth_of, copy_place, with_copy, with_subscription}
use Rattle.mqtt_records.specs.declared.state.records.Records.{Records}
use Rattle.mqtt_records.specs.declared.state.session.Session.{Session}
use Rattle.mqtt_records.specs.declared.state.subscription.Subscription.{Subscription}
use Rattle.mqtt_routes.specs.routing.Retained.{kept_for}
use Rattle.mqtt_records.specs.lists.Order.{row_at, change_row}
use Rattle.mqtt_topic.specs.names.Filters.{begins_share}
use Rattle.mqtt_topic.specs.names.Names.{is_empty}
use Rattle.mqtt_rules.specs.step.Deeds.{whose, Message, Origin, Subscribe, Enter, Deed, Accept, Count, At, Send, part_rows_of, new_entry, after, after_all, always, series, with_session}
use Rattle.mqtt_rules.specs.step.Fitting.{has_form}
use Rattle.mqtt_rules.specs.step.Outbound.{enter_deeds, room, room_at, since}
use Rattle.mqtt_rules.specs.step.Packets.{publish_of}
use Rattle.mqtt_rules.specs.step.Routing.{CopyTo, accepted_copies, deliver, deliver_by, forgets, is_queued, next_publication, publish, retain_by, retained_of}
use Rattle.mqtt_rules.specs.step.State.{Broker, entry_on, line_of, queue_on, session_at}
use Rattle.mqtt_rules.specs.step.Subscribe as sub
use Rattle.mqtt_rules.proofs.step_lemmas.acts.Acts.{brought_to}
use Rattle.mqtt_rules.proofs.step_lemmas.acts.Offers.{of_offer_if}
use Rattle.mqtt_rules.proofs.step_lemmas.flight.FlightRows.{found_key, change_row-here, change_row-other}
use Rattle.mqtt_rules.proofs.step_lemmas.order.Ordered.{length-filter_le}
use Rattle.mqtt_rules.proofs.step_lemmas.order.OrderedAccepted.{accepted_within, is_to}
use Rattle.mqtt_rules.proofs.step_lemmas.order.OrderedQueues.{length-mapped}
use Rattle.mqtt_rules.proofs.step_lemmas.order.OrderedRoom.{length-put_row_suc}
use Rattle.mqtt_rules.proofs.step_lemmas.fit.StandLaw.{Orders, ordered_all, rising}
use Rattle.mqtt_world_laws.specs.causes.Endings.{Asked}
use Rattle.mqtt_world_laws.proofs.causes_lemmas.Caused.{Caused, AreQuiet, quietly, caused_next}
use Rattle.mqtt_world_laws.proofs.causes_lemmas.Entering.{drop_caused, enter_caused, only_enters}
use Rattle.mqtt_world_laws.proofs.causes_lemmas.Queues.{some_is}

module _ (m : Asked) where
  abbrev pub limit : ℕ
  limit = m.step.env.limits.queue

  -- if a full queue refuses: the copies still to be delivered fit
  abbrev pub Fits : List CopyTo → Records → Type 0
  Fits ds r = m.step.env.limits.full ≡ Refuse → (birth : ℕ) (s : Session) → session_at birth r ≡ Some s → length (filter (is_to birth) ds) ≤ limit - length s.queue

  full_cases : (f : Full) → m.step.env.limits.full ≡ f → ((m.step.env.limits.full ≡ Drop) ⊎ (m.step.env.limits.full ≡ Refuse))
  full_cases Drop is = inl is
  full_cases Refuse is = inr is

  fewer_to : (birth : ℕ) (d : CopyTo) (ds : List CopyTo) → length (filter (is_to birth) ds) ≤ length (filter (is_to birth) (d ∷ ds))
  fewer_to birth d ds = elim (cases_Bool (is_to birth d)) [ inl so ↦ rw so (omega arith) | inr not_so ↦ rw not_so (omega arith) ]

  one_to : (birth : ℕ) (d : CopyTo) (ds : List CopyTo) → is_queued d ≡ true → d.birth ≡ birth → length (filter (is_to birth) (d ∷ ds)) ≡ suc (length (filter (is_to birth) ds))
  one_to birth d ds queued mine =
      let same : nat_eq d.birth birth ≡ true = subst (λ (n : ℕ). nat_eq d.birth n ≡ true) mine (nat_eq_equiv.refl d.birth) in
      rw queued (rw same refl)

  own : (birth : ℕ) (s : Session) (r : Records) → session_at birth r ≡ Some s → session_at s.birth r ≡ Some s
  own birth s r there = ap (λ (n : ℕ). session_at n r) (found_key birth_of birth s r.sessions there) ∙ there

  -- ---- one copy

  -- the sessions after a copy entered
  entered_sessions : (copy : MessageCopy) (s : Session) (b : Broker) → session_at s.birth b.records ≡ Some s
      → (after (At (whose s) (Enter copy)) b).records.sessions ≡ change_row birth_of s.birth (with_copy (new_entry copy s.queue)) b.records.sessions
  entered_sessions copy s b there = ap (λ (o : Option Session). (changed_all (part_rows_of (Enter copy) o) b.records).sessions) there

  fits_entered : (d : CopyTo) (ds : List CopyTo) (s : Session) (b : Broker) → is_queued d ≡ true → d.birth ≡ s.birth → session_at s.birth b.records ≡ Some s
      → Fits (d ∷ ds) b.records → Fits ds (after (At (whose s) (Enter d.copy)) b).records
  fits_entered d ds s b queued mine there fits refuse birth t found = elim (cases_Bool (nat_eq s.birth birth)) [
    | inl same ↦
        let at : s.birth ≡ birth = eqb-true s.birth birth same in
        let n = new_entry d.copy s.queue in
        let new : session_at s.birth (after (At (whose s) (Enter d.copy)) b).records ≡ Some (with_copy n s)
        = ap (row_at birth_of s.birth) (entered_sessions d.copy s b there) ∙ change_row-here birth_of s.birth (with_copy n) s b.records.sessions (λ x. refl) there
        in
        let it : with_copy n s ≡ t = some_is (with_copy n s) t (sym new ∙ ap (λ (k : ℕ). session_at k (after (At (whose s) (Enter d.copy)) b).records) at ∙ found) in
        let long : length t.queue ≤ suc (length s.queue) = subst (λ (x : Session). length x.queue ≤ suc (length s.queue)) it (length-put_row_suc copy_place QUEUE_LIMIT n s.queue) in
        let all = fits refuse birth s (subst (λ (k : ℕ). session_at k b.records ≡ Some s) at there) in
        let one = one_to birth d ds queued (mine ∙ at) in
        omega (arith, long, all, one)
    | inr other ↦
        let same : session_at birth (after (At (whose s) (Enter d.copy)) b).records ≡ session_at birth b.records
        = ap (row_at birth_of birth) (entered_sessions d.copy s b there) ∙ change_row-other birth_of birth s.birth (with_copy (new_entry d.copy s.queue)) b.records.sessions (λ x. refl) other
        in
        let all = fits refuse birth t (sym same ∙ found) in
        let few = fewer_to birth d ds in
        omega (arith, all, few)
  ]

  -- a copy is delivered: each end has its cause, and the rest fit
  abbrev Delivered : List CopyTo → List Deed → Broker → Type 0
  Delivered ds acts b = Caused m acts b × Fits ds (after_all acts b).records

  fits_more : (d : CopyTo) (ds : List CopyTo) (r : Records) → Fits (d ∷ ds) r → Fits ds r
  fits_more d ds r fits refuse birth s found = let all = fits refuse birth s found in let few = fewer_to birth d ds in omega (arith, all, few)

  no_refusal : (ds : List CopyTo) (r : Records) → m.step.env.limits.full ≡ Drop → Fits ds r
  no_refusal ds r drops refuse = let no : Drop ≡ Refuse = sym drops ∙ refuse in absurd cc

  delivered_to : (d : CopyTo) (ds : List CopyTo) (s : Session) (b : Broker) → Orders b → is_queued d ≡ true → d.birth ≡ s.birth → session_at s.birth b.records ≡ Some s → Fits (d ∷ ds) b.records
      → Delivered ds (enter_deeds m.step.env d.copy s) b
  delivered_to d ds s b orders queued mine there fits = elim (full_cases m.step.env.limits.full refl) [
    | inl drops ↦ (drop_caused m d.copy s (rising s b orders there) drops b orders there, no_refusal ds (after_all (enter_deeds m.step.env d.copy s) b).records drops)
    | inr refuse ↦
        let all = fits refuse s.birth s there in
        let one = one_to s.birth d ds queued mine in
        let room : length s.queue < limit = omega (arith, all, one) in (
          enter_caused m d.copy s b room,
          subst (λ (acts : List Deed). Fits ds (after_all acts b).records) (sym (only_enters m d.copy s room)) (fits_entered d ds s b queued mine there fits),
        )
  ]

  delivered_by : (t : Bool) (d : CopyTo) (ds : List CopyTo) (b : Broker) → Orders b → is_queued d ≡ t → Fits (d ∷ ds) b.records → Delivered ds (deliver_by t m.step.env d b) b
  delivered_by true d ds b orders is fits = by (session_at d.birth b.records) refl
    where
      by : (o : Option Session) → session_at d.birth b.records ≡ o → Delivered ds (with_session o (λ s. always (enter_deeds m.step.env d.copy s)) b) b
      by None there = ((λ rest. tt), fits_more d ds b.records fits)
      by (Some s) there = delivered_to d ds s b orders is (sym (found_key birth_of d.birth s b.records.sessions there)) (own d.birth s b.records there) fits
  delivered_by false d ds b orders is fits =
      let packet = publish_of b.now false 0 d.copy in
      let more = fits_more d ds b.records fits in
      of_offer_if (λ (acts : List Deed). Delivered ds acts b) (has_form d.copy b) (line_of d.birth b) packet ((λ rest. tt), more)
      (λ l there. (quietly m (Send l.number packet ∷ []) b (tt, tt), more))

  all_delivered : (ds : List CopyTo) (b : Broker) → Orders b → Fits ds b.records → Caused m (series (map (deliver m.step.env) ds) b) b
  all_delivered [] b orders fits = λ rest. tt
  all_delivered (d ∷ ds) b orders fits =
      let first = deliver m.step.env d b in
      let c = after_all first b in
      let one = delivered_by (is_queued d) d ds b orders refl fits in
      caused_next m first (series (map (deliver m.step.env) ds) c) b one.0 (all_delivered ds c (ordered_all first b orders) one.1)

  -- ---- a publication

  room_refusing : (s : Session) (n : ℕ) → m.step.env.limits.full ≡ Refuse → n ≤ room m.step.env s → n ≤ limit - length s.queue
  room_refusing s n refuse few =
      let same : room m.step.env s ≡ limit - length (queue_on [] s) = ap (λ (f : Full). limit - staying f (since m.step.env s) (queue_on [] s)) refuse in
      let long = length-mapped (entry_on []) s.queue in
      omega (arith, same, long, few)

  accepted_fits : (message : Message) (ds : List CopyTo) (b : Broker) → Orders b → accepted_copies m.step.env message b ≡ Some ds → Fits ds b.records
  accepted_fits message ds b orders is refuse birth s found =
      room_refusing s (length (filter (is_to birth) ds)) refuse
      (subst (λ (o : Option Session). length (filter (is_to birth) ds) ≤ room_at m.step.env o) found (accepted_within m.step.env message b ds birth is orders.sessions.ascending))

  retain_quiet : (retain empty : Bool) (number : ℕ) (message : Message) (b : Broker) → AreQuiet m (retain_by retain empty number message b)
  retain_quiet false empty number message b = tt
  retain_quiet true true number message b = by (retained_of message.topic b.records)
    where
      by : (o : Option RetainedMessage) → AreQuiet m (forgets o)
      by None = tt
      by (Some k) = (tt, tt)
  retain_quiet true false number message b = (tt, tt)

  retain_sessions : (retain empty : Bool) (number : ℕ) (message : Message) (b : Broker) → (after_all (retain_by retain empty number message b) b).records.sessions ≡ b.records.sessions
  retain_sessions false empty number message b = refl
  retain_sessions true true number message b = by (retained_of message.topic b.records)
    where
      by : (o : Option RetainedMessage) → (after_all (forgets o) b).records.sessions ≡ b.records.sessions
      by None = refl
      by (Some k) = refl
  retain_sessions true false number message b = refl

  -- each copy that ends by an accepted publication has its cause
  pub publish_caused : (origin : Origin) (message : Message) (ds : List CopyTo) (b : Broker) → Orders b → accepted_copies m.step.env message b ≡ Some ds → Caused m (publish m.step.env origin message ds b) b
  publish_caused origin message ds b orders is =
      let number = next_publication b.records in
      let first : List Deed = Accept number origin message ∷ [] in
      let c = after_all first b in
      let next = retain_by message.retain (is_empty message.payload) number message c in
      let d = after_all next c in
      let kept : d.records.sessions ≡ b.records.sessions = retain_sessions message.retain (is_empty message.payload) number message c in
      let fits : Fits ds d.records = λ refuse birth s found. accepted_fits message ds b orders is refuse birth s (ap (row_at birth_of birth) (sym kept) ∙ found) in
      let ordered = ordered_all next c (ordered_all first b orders) in
      caused_next m first (next ++ series (map (deliver m.step.env) ds) d) b (quietly m first b (tt, tt))
      (caused_next m next (series (map (deliver m.step.env) ds) d) c (quietly m next c (retain_quiet message.retain (is_empty message.payload) number message c)) (all_delivered ds d ordered fits))

  -- ---- a filter that is granted

  -- the copies of retained messages are for the session itself
  none_to : (birth other number : ℕ) (w : sub.Wish) (ks : List RetainedMessage) → nat_eq birth other ≡ false
      → length (filter (is_to other) (filter is_queued (map (sub.retained_copy_to birth number w) ks))) ≡ 0
  none_to birth other number w [] differ = refl
  none_to birth other number w (k ∷ ks) differ = elim (cases_Bool (is_queued (sub.retained_copy_to birth number w k))) [
    | inl queued ↦ rw queued (rw queued (rw differ (none_to birth other number w ks differ)))
    | inr not_queued ↦ rw not_queued (none_to birth other number w ks differ)
  ]

  none_brought : (t : Bool) (now number : ℕ) (s : Session) (w : sub.Wish) (ks : List RetainedMessage) (other : ℕ) → nat_eq s.birth other ≡ false
      → length (filter (is_to other) (filter is_queued (sub.brought_if t now number s w ks))) ≡ 0
  none_brought false now number s w ks other differ = refl
  none_brought true now number s w ks other differ = none_to s.birth other number w (filter (sub.is_brought now s w) (map sub.message_in (kept_for w.filter (map sub.kept_of ks)))) differ

  granted_fits : (w : sub.Wish) (s : Session) (x : Subscription) (b : Broker) (new : Records) → session_at s.birth b.records ≡ Some s → new.sessions ≡ change_row birth_of s.birth (with_subscription x) b.records.sessions
      → length (filter is_queued (brought_to w s b)) ≤ room m.step.env s → Fits (filter is_queued (brought_to w s b)) new
  granted_fits w s x b new there is few refuse birth t found = elim (cases_Bool (nat_eq s.birth birth)) [
    | inl same ↦
        let at : s.birth ≡ birth = eqb-true s.birth birth same in
        let mine : session_at s.birth new ≡ Some (with_subscription x s) = ap (row_at birth_of s.birth) is ∙ change_row-here birth_of s.birth (with_subscription x) s b.records.sessions (λ y. refl) there in
        let it : with_subscription x s ≡ t = some_is (with_subscription x s) t (sym mine ∙ ap (λ (k : ℕ). session_at k new) at ∙ found) in
        let long : length t.queue ≡ length s.queue = ap (λ (y : Session). length y.queue) (sym it) in
        let less = length-filter_le (is_to birth) (filter is_queued (brought_to w s b)) in
        let all = room_refusing s (length (filter is_queued (brought_to w s b))) refuse few in
        omega (arith, long, less, all)
    | inr other ↦ let none = none_brought (not (begins_share w.filter) && sub.wants_retained w.options.retain_handling (sub.has_filter w.filter s)) b.now (sub.next_number b.records) s w b.records.retained birth other in omega (arith, none)
  ]

  -- each copy that ends by a granted filter has its cause
  pub grant_caused : (w : sub.Wish) (s : Session) (b : Broker) → Orders b → session_at s.birth b.records ≡ Some s → length (filter is_queued (brought_to w s b)) ≤ room m.step.env s
      → Caused m (sub.granted_filter m.step.env (sub.next_number b.records) s w (brought_to w s b) b).deeds b
  grant_caused w s b orders there few =
      let number = sub.next_number b.records in
      let x = sub.subscription number s w in
      let ds = filter is_queued (brought_to w s b) in
      let first : List Deed = Count number ∷ At (whose s) (Subscribe x) ∷ [] in
      let c = after_all first b in
      let is : c.records.sessions ≡ change_row birth_of s.birth (with_subscription x) b.records.sessions
      = ap (λ (o : Option Session). (changed_all (part_rows_of (Subscribe x) o) (after (Count number) b).records).sessions) there
      in
      caused_next m first (series (map (deliver m.step.env) ds) c) b (quietly m first b (tt, (tt, tt)))
      (all_delivered ds c (ordered_all first b orders) (granted_fits w s x b c.records there is few))
