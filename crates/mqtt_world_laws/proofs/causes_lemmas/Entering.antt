-- A copy enters a queue, and those that give way have their cause; and so have the copies of a session that ends.
use Rattle.std.proofs.Common.{◌≡◌, ℕ, zero, suc, ◌+◌, ◌-◌, ◌≤◌, ◌<◌, Bool, true, false, ◌&&◌, List, [], ◌∷◌, ◌++◌, length, map, Option, Some, None, refl, sym, ap, subst, ◌∙◌, ◌⊎◌, inl, inr, arith}
use Rattle.std.specs.Prelude.{⊤, flat_map}
use Rattle.std.proofs.lemmas.Bool.{ltb-true}
use Rattle.mqtt_base.specs.declared.session.Ending.TheVariants as endings
use Rattle.mqtt_base.specs.declared.session.Phase.{Phase}
use Rattle.mqtt_base.specs.declared.session.Phase.TheVariants.{Waiting, Sent, Released, Oversize}
use Rattle.mqtt_packet.specs.declared.connect.connect.Connect.{Connect}
use Rattle.mqtt_packet.specs.declared.codec.packet.Packet.TheVariants as packets
use Rattle.mqtt_flow.specs.outbound.Outbound.{gives_way, dropped, dropped_at, is_waiting}
use Rattle.mqtt_flow.specs.declared.outbound.entry.Full.TheVariants.{Drop}
use Rattle.mqtt_flow.specs.declared.outbound.entry.Turn.{Turn}
use Rattle.mqtt_records.specs.messages.Queue.{CopyRow}
use Rattle.mqtt_records.specs.declared.messages.message.MessageCopy.{MessageCopy}
use Rattle.mqtt_records.specs.state.Session.{copy_place, without_copy}
use Rattle.mqtt_records.specs.declared.state.session.Session.{Session}
use Rattle.mqtt_records.specs.lists.Order.{IsAscending, row_at}
use Rattle.mqtt_rules.specs.step.Closing.{end_due, has_due_end, end_session, is_due}
use Rattle.mqtt_rules.specs.step.Deeds.{whose, Enter, Leave, Deed, At, Finish, after}
use Rattle.mqtt_rules.specs.step.Laws.{IsAmong}
use Rattle.mqtt_rules.specs.step.Outbound.{of_entry, leave_deeds, is_new, since, enter_deeds}
use Rattle.mqtt_rules.specs.step.State.{Broker, entry_on, queue_on, session_at}
use Rattle.mqtt_rules.specs.step.Step.{Input}
use Rattle.mqtt_rules.proofs.step_lemmas.flight.FlightRows.{all_found}
use Rattle.mqtt_rules.proofs.step_lemmas.acts.Leads.{row_among}
use Rattle.mqtt_rules.proofs.step_lemmas.order.OrderedQueues.{length-mapped}
use Rattle.mqtt_rules.proofs.step_lemmas.fit.StandLaw.{Orders, ordered_all, rising}
use Rattle.mqtt_world_laws.specs.causes.Endings.{Asked}
use Rattle.mqtt_world_laws.specs.causes.Causes.{HasGivenWay, HasSessionEnded}
use Rattle.mqtt_world_laws.proofs.causes_lemmas.Caused.{Caused, CausedBefore, quietly}
use Rattle.mqtt_world_laws.proofs.causes_lemmas.Queues.{Same, same_now, same_left, left_there, some_is, one_leaves, is_older, among_last}
use Rattle.mqtt_world_laws.proofs.causes_lemmas.Turning.{AreThere, the_end}

module _ (m : Asked) where
  -- ---- a session ends

  -- CONNECT with Clean Start 1 of this client
  pub record Clears (client : List ℕ) : Type 0 where
    pub number : ℕ
    pub packet : Connect
    pub asked : m.call ≡ Some (Input number (packets.Connect packet))
    pub clean : packet.clean_start ≡ true
    pub named : packet.client_identifier ≡ client

  abbrev pub MayEnd : Session → ℕ → Type 0
  MayEnd s now = (has_due_end now s ≡ true) ⊎ Clears s.client

  -- what is due for a session is due while its copies leave
  still_due : (now : ℕ) (s t : Session) → t.closed ≡ s.closed → t.expiry ≡ s.expiry → has_due_end now s ≡ true → has_due_end now t ≡ true
  still_due now s t closed expiry due =
      ap (λ (c : Option ℕ). is_due now (end_due c t.expiry)) closed ∙ ap (λ (n : ℕ). is_due now (end_due s.closed n)) expiry ∙ due

  ended_for : (s t : Session) (e : CopyRow) (b : Broker) (behind : List Deed) → t.closed ≡ s.closed → t.expiry ≡ s.expiry → IsAmong (Finish (whose s)) behind → MayEnd s b.now
      → HasSessionEnded (the_end m b behind s e endings.SessionEnded) t
  ended_for s t e b behind closed expiry ends may = elim may [
    | inl due ↦ record { why = inl (still_due b.now s t closed expiry due); ends = ends }
    | inr clears ↦ record { why = inr (record { number = clears.number; packet = clears.packet; asked = clears.asked; clean = clears.clean; client = clears.named }); ends = ends }
  ]

  all_end : (s : Session) (es : List CopyRow) (b : Broker) (rest : List Deed) → Same s b.records → MayEnd s b.now
      → CausedBefore m rest (map (λ e. At (whose s) (Leave e endings.SessionEnded)) es ++ Finish (whose s) ∷ []) b
  all_end s [] b rest same may = (tt, tt)
  all_end s (e ∷ es) b rest same may =
      let more = map (λ x. At (whose s) (Leave x endings.SessionEnded)) es in
      let behind = (more ++ Finish (whose s) ∷ []) ++ rest in
      let x = ended_for s same.session e b behind same.closed same.expiry (among_last (Finish (whose s)) more rest) may in
      (record { session = same.session; found = same.there; its = same.its; cause = x }, all_end s es (after (At (whose s) (Leave e endings.SessionEnded)) b) rest (same_left s e endings.SessionEnded b same) may)

  -- the copies of a session that may end have their cause
  pub end_caused : (s : Session) (b : Broker) → session_at s.birth b.records ≡ Some s → MayEnd s b.now → Caused m (end_session s) b
  end_caused s b there may rest = all_end s s.queue b rest (same_now s b.records there) may

  -- ---- copies give way to one that enters

  abbrev limit : ℕ
  limit = m.step.env.limits.queue

  -- the session while they leave: its queue is as long as that
  record Long (s : Session) (long : ℕ) (b : Broker) : Type 0 where
    session : Session
    there : session_at s.birth b.records ≡ Some session
    its : whose session ≡ whose s
    long_is : long ≤ length session.queue

  long_left : (s : Session) (e : CopyRow) (long : ℕ) (b : Broker) → Orders b → (h : Long s (suc long) b) → Long s long (after (At (whose s) (Leave e endings.Dropped)) b)
  long_left s e long b orders h =
      let mine : h.session.birth ≡ s.birth = ap (λ w. w.birth) h.its in
      let own : session_at h.session.birth b.records ≡ Some h.session = ap (λ (n : ℕ). session_at n b.records) mine ∙ h.there in
      let one = one_leaves e.place h.session.queue (rising h.session b orders own) in
      let many = h.long_is in
      record { session = without_copy e.place h.session; there = left_there (whose s) e endings.Dropped h.session b h.there; its = h.its; long_is = omega (arith, one, many) }

  waits : (phase : Phase) → is_waiting phase ≡ true → phase ≡ Waiting
  waits Waiting h = refl
  waits (Sent i) h = absurd cc
  waits (Released i order) h = absurd cc
  waits (Oversize i order) h = absurd cc

  both_true : (x y : Bool) → (x && y) ≡ true → (x ≡ true) × (y ≡ true)
  both_true true y h = (refl, h)
  both_true false y h = absurd cc

  module _ (copy : MessageCopy) (s : Session) (up : IsAscending copy_place s.queue) (drops : m.step.env.limits.full ≡ Drop) where
    abbrev enters : Deed
    enters = At (whose s) (Enter copy)

    -- as many as are above the limit
    abbrev Above : ℕ → Broker → Type 0
    Above zero b = ⊤
    Above (suc k) b = Long s (limit + k) b

    -- so many of these leave, each for its cause
    abbrev Later : List Deed → List CopyRow → ℕ → Type 0
    Later rest es k = (b : Broker) → Orders b → Above k b → CausedBefore m rest (flat_map (leave_deeds s) (dropped k (since m.step.env s) (map (entry_on []) es)) ++ enters ∷ []) b

    all_leave : (es : List CopyRow) (k : ℕ) (b : Broker) (rest : List Deed) → Orders b → Above k b → AreThere m s es
        → CausedBefore m rest (flat_map (leave_deeds s) (dropped k (since m.step.env s) (map (entry_on []) es)) ++ enters ∷ []) b
    all_leave [] k b rest orders h there = (tt, tt)
    all_leave (e ∷ es) zero b rest orders h there = (tt, tt)
    all_leave (e ∷ es) (suc k) b rest orders h there =
        by (gives_way (since m.step.env s) (entry_on [] e)) refl
        (λ c ordered above. all_leave es k c rest ordered above there.1) (all_leave es (suc k) b rest orders h there.1)
      where
        more : List Turn
        more = dropped k (since m.step.env s) (map (entry_on []) es)

        d : Deed
        d = At (whose s) (Leave e endings.Dropped)

        next : (j : ℕ) → k ≡ j → Above k (after d b)
        next zero is = subst (λ (n : ℕ). Above n (after d b)) (sym is) tt
        next (suc j) is =
            subst (λ (n : ℕ). Above n (after d b)) (sym is)
            (long_left s e (limit + j) b orders (record { session = h.session; there = h.there; its = h.its; long_is = let many = h.long_is in omega (arith, many, is) }))

        goes : gives_way (since m.step.env s) (entry_on [] e) ≡ true → Later rest es k → (o : Option CopyRow) → row_at copy_place e.place s.queue ≡ o
            → CausedBefore m rest ((of_entry o (λ x. At (whose s) (Leave x endings.Dropped) ∷ []) ++ flat_map (leave_deeds s) more) ++ enters ∷ []) b
        goes gives later None is = let no : Some e ≡ None = sym there.0 ∙ is in absurd cc
        goes gives later (Some x) is =
            let same : e ≡ x = some_is e x (sym there.0 ∙ is) in
            let both = both_true (is_waiting e.phase) _ gives in
            let leaves = flat_map (leave_deeds s) more in
            let low : e.place < since m.step.env s = ltb-true e.place (since m.step.env s) both.1 in
            let cause : HasGivenWay (the_end m b ((leaves ++ enters ∷ []) ++ rest) s e endings.Dropped) h.session = record {
              waits = waits e.phase both.0;
              older = is_older (λ (y : CopyRow). is_new m.step.env.start y.copy) e s.queue up (row_among copy_place e.place e s.queue there.0) low;
              drops = drops;
              full = let many = h.long_is in omega (arith, many);
              copy = copy;
              enters = among_last enters leaves rest;
            } in
            subst (λ (y : CopyRow). CausedBefore m rest (At (whose s) (Leave y endings.Dropped) ∷ (leaves ++ enters ∷ [])) b) same
            (record { session = h.session; found = h.there; its = h.its; cause = cause }, later (after d b) (ordered_all (d ∷ []) b orders) (next k refl))

        by : (t : Bool) → gives_way (since m.step.env s) (entry_on [] e) ≡ t → Later rest es k
            → CausedBefore m rest (flat_map (leave_deeds s) (dropped (suc k) (since m.step.env s) (map (entry_on []) es)) ++ enters ∷ []) b
            → CausedBefore m rest (flat_map (leave_deeds s) (dropped_at t (entry_on [] e) more (dropped (suc k) (since m.step.env s) (map (entry_on []) es))) ++ enters ∷ []) b
        by true gives later stay = goes gives later (row_at copy_place e.place s.queue) refl
        by false stays later stay = stay

    above_now : (b : Broker) (k : ℕ) → session_at s.birth b.records ≡ Some s → length (queue_on [] s) + 1 - limit ≡ k → Above k b
    above_now b zero there is = tt
    above_now b (suc k) there is =
        let same = length-mapped (entry_on []) s.queue in
        record { session = s; there = there; its = refl; long_is = omega (arith, same, is) }

    -- in a queue that drops, copies that make way have their cause
    pub drop_caused : (b : Broker) → Orders b → session_at s.birth b.records ≡ Some s → Caused m (enter_deeds m.step.env copy s) b
    drop_caused b orders there rest =
        all_leave s.queue (length (queue_on [] s) + 1 - limit) b rest orders (above_now b (length (queue_on [] s) + 1 - limit) there refl) (all_found copy_place s.queue up)

  -- ---- if a full queue refuses, a copy enters only if there is room, and none gives way

  none_dropped : (k first : ℕ) (s : Session) (es : List CopyRow) → k ≡ 0 → dropped k first (map (entry_on []) es) ≡ []
  none_dropped k first s [] none = refl
  none_dropped zero first s (e ∷ es) none = refl
  none_dropped (suc k) first s (e ∷ es) none = absurd cc

  -- in a queue below its limit no copy makes way
  pub only_enters : (copy : MessageCopy) (s : Session) → length s.queue < limit → enter_deeds m.step.env copy s ≡ At (whose s) (Enter copy) ∷ []
  only_enters copy s room =
      let same = length-mapped (entry_on []) s.queue in
      let none : length (queue_on [] s) + 1 - limit ≡ 0 = omega (arith, same, room) in
      ap (λ (ts : List Turn). flat_map (leave_deeds s) ts ++ At (whose s) (Enter copy) ∷ []) (none_dropped (length (queue_on [] s) + 1 - limit) (since m.step.env s) s s.queue none)

  -- a copy that enters a queue below its limit ends none
  pub enter_caused : (copy : MessageCopy) (s : Session) (b : Broker) → length s.queue < limit → Caused m (enter_deeds m.step.env copy s) b
  enter_caused copy s b room = subst (λ (ds : List Deed). Caused m ds b) (sym (only_enters copy s room)) (quietly m (At (whose s) (Enter copy) ∷ []) b (tt, tt))
