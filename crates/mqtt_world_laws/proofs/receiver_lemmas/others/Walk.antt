-- A call of others, unit by unit: what the receiver and its session see of each is a run of their hop.
use Rattle.std.proofs.Common.{◌≡◌, ℕ, suc, ◌+◌, ◌-◌, ◌≤◌, ◌<◌, Bool, true, false, cond, List, [], ◌∷◌, ◌++◌, ◌⊎◌, filter, length, map, Option, Some, None, nat_eq, refl, sym, ap, subst, ◌∙◌, append_assoc, arith, inl, inr}
use Rattle.std.specs.List.{AllByRecursion}
use Rattle.std.specs.Prelude.{⊤, ◌≢◌, flat_map}
use Rattle.std.proofs.lemmas.Bool.{cases_Bool, eqb-true, lt-ltb}
use Rattle.std.proofs.lemmas.Cmp.{nat_eq_equiv}
use Rattle.mqtt_base.specs.declared.limits.TheConstants.{QUEUE_LIMIT}
use Rattle.mqtt_base.specs.declared.session.CopyId.{CopyId}
use Rattle.mqtt_base.specs.declared.session.Qos.{Qos}
use Rattle.mqtt_base.specs.declared.session.Qos.TheVariants as qos
use Rattle.mqtt_packet.specs.declared.codec.packet.Packet.{Packet}
use Rattle.mqtt_packet.specs.declared.codec.packet.Packet.TheVariants as packets
use Rattle.mqtt_packet.specs.declared.codec.publish.Delivery.TheVariants as delivery
use Rattle.mqtt_flow.specs.outbound.Outbound.{staying, way_made}
use Rattle.mqtt_flow.specs.outbound.OutboundWorld.{Lot, is_granted}
use Rattle.mqtt_flow.specs.declared.outbound.entry.Turn.{Turn}
use Rattle.mqtt_flow.specs.declared.outbound.entry.Turn.TheVariants as turns
use Rattle.mqtt_world_model.specs.model.Ends.{Receiver}
use Rattle.mqtt_world_model.specs.model.Hops.{IsOurs}
use Rattle.mqtt_world_model.specs.model.Lines.{is_one_of}
use Rattle.mqtt_records.specs.messages.Queue.{CopyRow}
use Rattle.mqtt_records.specs.declared.messages.message.MessageCopy.{MessageCopy}
use Rattle.mqtt_records.specs.declared.messages.message.RetainedMessage.{RetainedMessage}
use Rattle.mqtt_records.specs.state.Records.{subscribe_in}
use Rattle.mqtt_records.specs.state.Session.{birth_of, copy_place}
use Rattle.mqtt_records.specs.declared.state.session.Session.{Session}
use Rattle.mqtt_routes.specs.routing.Retained.{kept_for}
use Rattle.mqtt_records.specs.lists.Order.{row_at}
use Rattle.mqtt_rules.proofs.step_lemmas.acts.Acts.{brought_to}
use Rattle.mqtt_records.specs.lists.Distinct.{AllDiffer}
use Rattle.mqtt_rules.proofs.step_lemmas.numbers.Copies.{IsNumbered, each_append, each_flat, each_more, routed_numbered}
use Rattle.mqtt_rules.proofs.step_lemmas.fit.FitLaw.{all_among}
use Rattle.mqtt_rules.proofs.step_lemmas.flight.FlightRows.{all_at, all_found, all_more, found_key}
use Rattle.mqtt_rules.proofs.step_lemmas.acts.Goods.{AreGood}
use Rattle.mqtt_rules.proofs.step_lemmas.acts.Leads.{Leads, leads_append}
use Rattle.mqtt_rules.proofs.step_lemmas.order.OrderedAccepted.{accepted_within, is_to}
use Rattle.mqtt_rules.proofs.step_lemmas.order.OrderedEnters.{Entered, ShortQueues, enters, own_stay, still_short}
use Rattle.mqtt_rules.proofs.step_lemmas.order.OrderedQueues.{stay_is}
use Rattle.mqtt_rules.specs.step.Deeds.{Whose, Accept, At, Begin, Count, Deed, Enter, Finish, Forget, FromClient, Gone, Hear, Keep, Leave, Link, Message, Name, On, Open, Origin, RefuseWill, Resume, Send, SetAlias, after, after_all, always, series, whose, with_session}
use Rattle.mqtt_rules.specs.step.Deeds as deeds
use Rattle.mqtt_rules.specs.step.Laws.{HasTables, IsAmong}
use Rattle.mqtt_rules.specs.step.Outbound.{enter_deeds, leave_deeds, of_entry, queue_limits, room, room_at, since}
use Rattle.mqtt_rules.proofs.step_lemmas.acts.Offers.{of_offer_if}
use Rattle.mqtt_rules.specs.step.Fitting.{has_form, offer_copy}
use Rattle.mqtt_rules.specs.step.Packets.{delivery_by, publish_of}
use Rattle.mqtt_rules.specs.step.Routing.{CopyTo, accepted_copies, deliver, deliver_by, forgets, is_queued, is_queued_at, next_publication, publish, retain_by, retained_of}
use Rattle.mqtt_rules.specs.step.State.{Broker, Env, line_of, queue_on, session_at}
use Rattle.mqtt_rules.specs.step.Subscribe as sub
use Rattle.mqtt_rules.specs.step.Tick.{lapse_deeds, lapses}
use Rattle.mqtt_topic.specs.names.Names.{is_empty}
use Rattle.mqtt_world_laws.proofs.acceptance_lemmas.copies.CopiesApart.{accepted_differ}
use Rattle.mqtt_world_laws.proofs.acceptance_lemmas.copies.Differ.{AreApart, differ_filtered, differ_join}
use Rattle.mqtt_world_laws.proofs.acceptance_lemmas.copies.RoutedApart.{id_to}
use Rattle.mqtt_world_laws.specs.receiver.Calls.{IsOnlyAt}
use Rattle.mqtt_world_laws.specs.receiver.Entering.{IsReceiving, MayEnter, RunsWith}
use Rattle.mqtt_world_laws.specs.receiver.Handing.{IsRun}
use Rattle.mqtt_world_laws.specs.receiver.Others.{AreOfOthers, IsWithin}
use Rattle.mqtt_world_laws.specs.receiver.Seen.{Numbering}
use Rattle.mqtt_world_laws.specs.receiver.Served.{HasLines, IsNewCopy, IsOwnLine, IsServed, RunsFor}
use Rattle.mqtt_world_laws.specs.receiver.Tags.{AreNumbered, id_of}
use Rattle.mqtt_world_laws.proofs.receiver_lemmas.queue.Entering.{entering_runs, lapsing_runs, slice_more}
use Rattle.mqtt_world_laws.proofs.receiver_lemmas.others.Carried.{told_runs, told_served}
use Rattle.mqtt_world_laws.proofs.receiver_lemmas.others.Others.{others_leave, others_run}
use Rattle.mqtt_world_laws.proofs.receiver_lemmas.others.Serving.{AreOfQueue, AreTheirs, IsOfQueue, IsTheirs, parts_stay, publications_stay, served_deeds, served_parts}
use Rattle.mqtt_world_laws.proofs.receiver_lemmas.others.Theirs.{IsForeign, theirs_append, theirs_leave, theirs_flat}

-- ---- what a deed tells: nothing of copies on these lines, and it closes none of them

abbrev pub IsUnheard : Packet → Type 0
IsUnheard (packets.Publish p) = p.delivery ≡ delivery.AtMostOnce
IsUnheard packet = ⊥

abbrev pub IsMute : List ℕ → Deed → Type 0
IsMute ns (Send n packet) = (is_one_of (Some n) ns ≡ false) ⊎ IsUnheard packet
IsMute ns (Gone n) = is_one_of (Some n) ns ≡ false
IsMute ns d = ⊤

mute_theirs : (client : List ℕ) (birth : ℕ) (ns : List ℕ) (d : Deed) → IsTheirs client birth ns d → IsMute ns d
mute_theirs client birth ns (Send n packet) q = inl q.0
mute_theirs client birth ns (Gone n) q = q.0
mute_theirs client birth ns d q = tt

of_others : (client : List ℕ) (birth : ℕ) (ns : List ℕ) (ds : List Deed) → AreTheirs client birth ns ds → AreOfOthers client birth ns ds
of_others client birth ns [] q = tt
of_others client birth ns (d ∷ ds) q = (q.0.0, of_others client birth ns ds q.1)

-- ---- deeds of a queue

-- a copy's leaving is of a queue
pub queue_leave : (s : Session) (t : Turn) → AreOfQueue (leave_deeds s t)
queue_leave s (turns.Leave place ending) = by (row_at copy_place place s.queue)
  where
    by : (o : Option CopyRow) → AreOfQueue (of_entry o (λ e. At (whose s) (Leave e ending) ∷ []))
    by None = tt
    by (Some e) = (tt, tt)
queue_leave s (turns.Send place id) = tt
queue_leave s (turns.Resend place id) = tt
queue_leave s (turns.Release place id order) = tt
queue_leave s (turns.Outgrow place id order) = tt
queue_leave s (turns.Repeat id) = tt
queue_leave s (turns.Unknown id) = tt

-- so is that of many
pub queue_leaves : (s : Session) (ts : List Turn) → AreOfQueue (flat_map (leave_deeds s) ts)
queue_leaves s ts = each_flat IsOfQueue (leave_deeds s) (queue_leave s) ts

-- and an entering
pub queue_enter : (env : Env) (copy : MessageCopy) (s : Session) → AreOfQueue (enter_deeds env copy s)
queue_enter env copy s =
    let ts = way_made (queue_limits env) (since env s) (queue_on [] s) in
    each_append IsOfQueue (flat_map (leave_deeds s) ts) (At (whose s) (Enter copy) ∷ []) (queue_leaves s ts) (tt, tt)

abbrev pub IsMuteHere : List ℕ → Deed → Broker → Type 0
IsMuteHere ns d b = IsMute ns d

mute_queue : (ns : List ℕ) (ds : List Deed) (b : Broker) → AreOfQueue ds → AreGood (IsMuteHere ns) ds b
mute_queue ns [] b q = tt
mute_queue ns (At who part ∷ ds) b q = (tt, mute_queue ns ds (after (At who part) b) q.1)
mute_queue ns (d ∷ ds) b q = absurd q.0

-- of a session of this birth
abbrev IsAtOf : ℕ → Deed → Type 0
IsAtOf k (At who part) = who.birth ≡ k
IsAtOf k d = ⊥

abbrev AreAtOf : ℕ → List Deed → Type 0
AreAtOf k ds = AllByRecursion (IsAtOf k) ds

at_leave : (s : Session) (t : Turn) → AreAtOf s.birth (leave_deeds s t)
at_leave s (turns.Leave place ending) = by (row_at copy_place place s.queue)
  where
    by : (o : Option CopyRow) → AreAtOf s.birth (of_entry o (λ e. At (whose s) (Leave e ending) ∷ []))
    by None = tt
    by (Some e) = (refl, tt)
at_leave s (turns.Send place id) = tt
at_leave s (turns.Resend place id) = tt
at_leave s (turns.Release place id order) = tt
at_leave s (turns.Outgrow place id order) = tt
at_leave s (turns.Repeat id) = tt
at_leave s (turns.Unknown id) = tt

at_leaves : (s : Session) (ts : List Turn) → AreAtOf s.birth (flat_map (leave_deeds s) ts)
at_leaves s ts = each_flat (IsAtOf s.birth) (leave_deeds s) (at_leave s) ts

at_enter : (env : Env) (copy : MessageCopy) (s : Session) → AreAtOf s.birth (enter_deeds env copy s)
at_enter env copy s =
    let ts = way_made (queue_limits env) (since env s) (queue_on [] s) in
    each_append (IsAtOf s.birth) (flat_map (leave_deeds s) ts) (At (whose s) (Enter copy) ∷ []) (at_leaves s ts) (refl, tt)

-- ---- numbers: fewer copies have theirs

-- the front of numbered copies is numbered
pub numbered_front : (number : Numbering) (xs ys : List CopyId) → AreNumbered number (xs ++ ys) → AreNumbered number xs
numbered_front number xs ys h = λ n copy at. h n copy (slice_more xs ys n copy at)

granted_of : (q : Qos) → is_queued_at q ≡ true → is_granted q ≡ true
granted_of qos.AtMostOnce h = h
granted_of qos.AtLeastOnce h = refl
granted_of qos.ExactlyOnce h = refl

-- a copy that is not queued goes out at QoS 0
pub unheard_of : (q : Qos) → is_queued_at q ≡ false → delivery_by q false 0 ≡ delivery.AtMostOnce
unheard_of qos.AtMostOnce h = refl
unheard_of qos.AtLeastOnce h = absurd cc
unheard_of qos.ExactlyOnce h = absurd cc

-- ---- lists in which no two are equal

each_drop : {X : Type 0} (P : X → Type 0) (xs : List X) (y : X) (ys : List X) → AllByRecursion P (xs ++ y ∷ ys) → AllByRecursion P (xs ++ ys)
each_drop P [] y ys h = h.1
each_drop P (x ∷ xs) y ys h = (h.0, each_drop P xs y ys h.1)

differ_drop : {X : Type 0} (xs : List X) (y : X) (ys : List X) → AllDiffer (xs ++ y ∷ ys) → AllDiffer (xs ++ ys)
differ_drop [] y ys h = h.1
differ_drop (x ∷ xs) y ys h = (each_drop (λ z. x ≢ z) xs y ys h.0, differ_drop xs y ys h.1)

each_front : {X : Type 0} (P : X → Type 0) (xs ys : List X) → AllByRecursion P (xs ++ ys) → AllByRecursion P xs
each_front P [] ys h = tt
each_front P (x ∷ xs) ys h = (h.0, each_front P xs ys h.1)

differ_front : {X : Type 0} (xs ys : List X) → AllDiffer (xs ++ ys) → AllDiffer xs
differ_front [] ys h = tt
differ_front (x ∷ xs) ys h = (each_front (λ z. x ≢ z) xs ys h.0, differ_front xs ys h.1)

-- ---- what is kept along the way

module _ (largest : ℕ) (env : Env) (small : env.limits.queue ≤ QUEUE_LIMIT) (r : Receiver) (birth : ℕ) (ns : List ℕ) (ids : List CopyId) (has : HasLines ns r) where
  abbrev before : ℕ
  before = env.start.publications

  abbrev IsNew : Broker → CopyId → Type 0
  IsNew b id = IsNewCopy birth before b.records.publications id

  abbrev Short : Broker → Type 0
  Short b = ShortQueues QUEUE_LIMIT b.records

  -- the receiver is served, queues are short, and what it sees of the copies that entered is a run of its hop
  pub record Kept (b : Broker) : Type 0 where
    pub served : IsServed r.client birth ns b
    pub queues : Short b
    pub grown : before ≤ b.records.publications
    pub more : List CopyId
    pub new : AllByRecursion (IsNew b) more
    pub differ : AllDiffer more
    pub runs : RunsFor largest (ids ++ more) birth r b

  within : (s : Session) (b : Broker) → s.birth ≡ birth → IsServed r.client birth ns b → IsWithin ns r s b
  within s b is v = record {
    own = has.own;
    its = subst (λ (k : ℕ). AllByRecursion (IsOnlyAt ns k) b.lines) (sym is) (all_more (IsOwnLine ns birth) (IsOnlyAt ns birth) b.lines (λ l p. p.alone) v.lines);
  }

  its_birth : (t : Session) (b : Broker) → IsServed r.client birth ns b → IsReceiving r t b → t.birth ≡ birth
  its_birth t b v x = (all_at birth_of (IsOurs r.client birth) t.birth t b.records.sessions v.sessions x.session).named x.client

  -- copies that are new stay new when more publications are accepted
  pub new_still : (b c : Broker) (more : List CopyId) → b.records.publications ≤ c.records.publications → AllByRecursion (IsNew b) more → AllByRecursion (IsNew c) more
  new_still b c more le h = all_more (IsNew b) (IsNew c) more (λ id x. record { birth_is = x.birth_is; above = x.above; within = let w = x.within in omega (arith, w, le); cause_is = x.cause_is }) h

  -- deeds of others
  others_kept : (ds : List Deed) (b : Broker) → AreOfOthers r.client birth ns ds → IsServed r.client birth ns (after_all ds b) → Short (after_all ds b)
      → b.records.publications ≤ (after_all ds b).records.publications → Kept b → Kept (after_all ds b)
  others_kept ds b q served queues le k = record {
    served = served;
    queues = queues;
    grown = let g = k.grown in omega (arith, g, le);
    more = k.more;
    new = new_still b (after_all ds b) k.more le k.new;
    differ = k.differ;
    runs = λ number n.
        let h = k.runs number n in
        let its = within h.session b h.birth_is k.served in
        let of = subst (λ (m : ℕ). AreOfOthers r.client m ns ds) (sym h.birth_is) q in
        record {
          after = h.after;
          same = h.same;
          run_is = others_run number largest h.after ns r h.session b ds h.run_is h.receiving its of;
          session = h.session;
          birth_is = h.birth_is;
          receiving = others_leave number largest h.after ns r h.session b ds h.run_is h.receiving its of;
        };
  }

  -- deeds of others tell nothing of copies on the receiver's lines
  pub theirs_good : (ds : List Deed) (b : Broker) → AreTheirs r.client birth ns ds → AreGood (IsMuteHere ns) ds b
  theirs_good [] b q = tt
  theirs_good (d ∷ ds) b q = (mute_theirs r.client birth ns d q.0, theirs_good ds (after d b) q.1)

  abbrev pub Led : List Deed → Broker → Type 0
  Led ds b = Leads Kept (IsMuteHere ns) ds b

  -- deeds of others lead
  pub theirs_led : (ds : List Deed) (b : Broker) → AreTheirs r.client birth ns ds → Short (after_all ds b) → Kept b → Led ds b
  theirs_led ds b q queues k =
      let same = publications_stay r.client birth ns ds b q in
      (theirs_good ds b q, others_kept ds b (of_others r.client birth ns ds q) (served_deeds r.client birth ns ds b q k.served) queues (omega (arith, same)) k)

  -- ---- a copy enters a queue, its own or another

  abbrev Fits : List CopyTo → Broker → Type 0
  Fits rest b = (k : ℕ) (x : Session) → session_at k b.records ≡ Some x → length (filter (is_to k) rest) ≤ env.limits.queue - own_stay env x

  abbrev own_ids : List CopyTo → List CopyId
  own_ids rest = map id_to (filter (is_to birth) rest)

  abbrev IsOfNumber : ℕ → CopyTo → Type 0
  IsOfNumber n d = (d.copy.id.publication ≡ n) × (d.copy.id.birth ≡ d.birth) × (subscribe_in d.copy.id.cause ≡ 0)

  record Ready (rest : List CopyTo) (b : Broker) : Type 0 where
    pub kept : Kept b
    pub fits : Fits rest b
    pub differ : AllDiffer (kept.more ++ own_ids rest)
    pub passed : before < b.records.publications
    pub numbers : AllByRecursion (IsOfNumber b.records.publications) rest

  fewer_ids : (more : List CopyId) (d : CopyTo) (rest : List CopyTo) → AllDiffer (more ++ own_ids (d ∷ rest)) → AllDiffer (more ++ own_ids rest)
  fewer_ids more d rest = by (is_to birth d)
    where
      by : (t : Bool) → AllDiffer (more ++ map id_to (cond t (d ∷ filter (is_to birth) rest) (filter (is_to birth) rest))) → AllDiffer (more ++ own_ids rest)
      by true h = differ_drop more d.copy.id (own_ids rest) h
      by false h = h

  fewer : (d : CopyTo) (rest : List CopyTo) (b : Broker) → Fits (d ∷ rest) b → Fits rest b
  fewer d rest b fits k x at =
      let all = fits k x at in
      let less : length (filter (is_to k) rest) ≤ length (filter (is_to k) (d ∷ rest)) = elim (cases_Bool (is_to k d)) [ inl so ↦ rw so (omega arith) | inr not_so ↦ rw not_so (omega arith) ] in
      omega (arith, all, less)

  some_is : (x y : Session) → Some x ≡ Some y → x ≡ y
  some_is x y e = cc

  room_for : (d : CopyTo) (rest : List CopyTo) (b : Broker) (s : Session) → is_queued d ≡ true → Fits (d ∷ rest) b → session_at d.birth b.records ≡ Some s
      → own_stay env s + suc (length (filter (is_to d.birth) rest)) ≤ env.limits.queue
  room_for d rest b s queued fits at =
      let so : is_to d.birth d ≡ true = rw (queued, nat_eq_equiv.refl d.birth) refl in
      let all = fits d.birth s at in
      let one : length (filter (is_to d.birth) (d ∷ rest)) ≡ suc (length (filter (is_to d.birth) rest)) = rw so refl in
      omega (arith, all, one)

  fits_entered : (d : CopyTo) (rest : List CopyTo) (b : Broker) (s : Session) (new : Broker) → s.birth ≡ d.birth → own_stay env s + suc (length (filter (is_to d.birth) rest)) ≤ env.limits.queue
      → Entered env s b.records.sessions new.records.sessions → Fits (d ∷ rest) b → Fits rest new
  fits_entered d rest b s new is all e fits k x at = elim (cases_Bool (nat_eq s.birth k)) [
    | inl same ↦
        let here : s.birth ≡ k = eqb-true s.birth k same in
        let it : e.mine ≡ x = some_is e.mine x (sym e.found ∙ (ap (λ (m : ℕ). session_at m new.records) here ∙ at)) in
        let to : d.birth ≡ k = sym is ∙ here in
        let stays = e.stays in
        let bound : length (filter (is_to d.birth) rest) ≤ env.limits.queue - own_stay env e.mine = omega (arith, stays, all) in
        let there : length (filter (is_to k) rest) ≤ env.limits.queue - own_stay env e.mine = subst (λ (m : ℕ). length (filter (is_to m) rest) ≤ env.limits.queue - own_stay env e.mine) to bound in
        subst (λ (y : Session). length (filter (is_to k) rest) ≤ env.limits.queue - own_stay env y) it there
    | inr other ↦ fewer d rest b fits k x (sym (e.others k other) ∙ at)
  ]

  -- the receiver's own, with the copies as they are
  pub entered_with : (copy : MessageCopy) (s : Session) (b : Broker) (all : List CopyId) (number : Numbering) (lots : List Lot) → is_queued_at copy.qos ≡ true → own_stay env s < env.limits.queue → map id_of lots ≡ all
      → AreNumbered number (all ++ copy.id ∷ []) → IsRun number largest lots r b → IsReceiving r s b → RunsWith number largest lots copy.id r (after_all (enter_deeds env copy s) b)
  entered_with copy s b all number lots granted free same n run_is receiving =
      let count = stay_is env.limits.full (since env s) s.birth s.queue in
      let may : MayEnter env copy s = record {
        granted = granted_of copy.qos granted;
        room = lt-ltb (staying env.limits.full (since env s) (queue_on [] s)) env.limits.queue (omega (arith, count, free));
        within = small;
      } in
      entering_runs number largest lots env copy r s b run_is receiving may (subst (λ (cs : List CopyId). AreNumbered number (cs ++ copy.id ∷ [])) (sym same) n)

  -- a copy for the receiver's session that enters goes on with its hop
  pub entered_runs : (copy : MessageCopy) (s : Session) (b : Broker) (more : List CopyId) → is_queued_at copy.qos ≡ true → own_stay env s < env.limits.queue → s.birth ≡ birth → session_at s.birth b.records ≡ Some s
      → IsServed r.client birth ns (after_all (enter_deeds env copy s) b) → RunsFor largest (ids ++ more) birth r b → RunsFor largest (ids ++ (more ++ copy.id ∷ [])) birth r (after_all (enter_deeds env copy s) b)
  entered_runs copy s b more granted free is at served runs number n =
      let both : AreNumbered number ((ids ++ more) ++ copy.id ∷ []) = subst (AreNumbered number) (sym (append_assoc ids more (copy.id ∷ []))) n in
      let h = runs number (numbered_front number (ids ++ more) (copy.id ∷ []) both) in
      let its : session_at h.session.birth b.records ≡ Some s = ap (λ (m : ℕ). session_at m b.records) (h.birth_is ∙ sym is) ∙ at in
      let same_session : h.session ≡ s = some_is h.session s (sym h.receiving.session ∙ its) in
      let receiving = subst (λ (y : Session). IsReceiving r y b) same_session h.receiving in
      let e = entered_with copy s b (ids ++ more) number h.after granted free h.same both h.run_is receiving in
      record {
        after = e.after;
        same = e.same ∙ (ap (λ (cs : List CopyId). cs ++ copy.id ∷ []) h.same ∙ append_assoc ids more (copy.id ∷ []));
        run_is = e.run_is;
        session = e.session;
        birth_is = its_birth e.session (after_all (enter_deeds env copy s) b) served e.receiving;
        receiving = e.receiving;
      }

  own_enters : (copy : MessageCopy) (s : Session) (b : Broker) (queues : Short (after_all (enter_deeds env copy s) b)) → is_queued_at copy.qos ≡ true → own_stay env s < env.limits.queue
      → s.birth ≡ birth → session_at s.birth b.records ≡ Some s → (k : Kept b) → IsNew b copy.id → AllDiffer (k.more ++ copy.id ∷ []) → Kept (after_all (enter_deeds env copy s) b)
  own_enters copy s b queues granted free is at k new differ =
      let ds = enter_deeds env copy s in
      let same_numbers = parts_stay ds b (queue_enter env copy s) in
      let served = served_parts r.client birth ns ds b (queue_enter env copy s) k.served in
      record {
        served = served;
        queues = queues;
        grown = let g = k.grown in omega (arith, g, same_numbers);
        more = k.more ++ copy.id ∷ [];
        new = new_still b (after_all ds b) (k.more ++ copy.id ∷ []) (omega (arith, same_numbers)) (each_append (IsNew b) k.more (copy.id ∷ []) k.new (new, tt));
        differ = differ;
        runs = entered_runs copy s b k.more granted free is at served k.runs;
      }

  -- another's
  parts_theirs : (ds : List Deed) (k : ℕ) → nat_eq k birth ≡ false → AreAtOf k ds → AreTheirs r.client birth ns ds
  parts_theirs [] k q h = tt
  parts_theirs (At who part ∷ ds) k q h = ((ap (λ (m : ℕ). nat_eq m birth) h.0 ∙ q, tt), parts_theirs ds k q h.1)
  parts_theirs (d ∷ ds) k q h = absurd h.0

  other_enters : (copy : MessageCopy) (s : Session) (b : Broker) (queues : Short (after_all (enter_deeds env copy s) b)) → nat_eq s.birth birth ≡ false → Kept b → Kept (after_all (enter_deeds env copy s) b)
  other_enters copy s b queues other k =
      let ds = enter_deeds env copy s in
      others_kept ds b (of_others r.client birth ns ds (parts_theirs ds s.birth other (at_enter env copy s))) (served_parts r.client birth ns ds b (queue_enter env copy s) k.served) queues (let same = parts_stay ds b (queue_enter env copy s) in omega (arith, same)) k

  -- ---- deliveries

  record Delivers (rest : List CopyTo) (ds : List Deed) (b : Broker) : Type 0 where
    pub ready : Ready rest (after_all ds b)
    pub mute : AreGood (IsMuteHere ns) ds b

  numbers_still : (b c : Broker) (rest : List CopyTo) → c.records.publications ≡ b.records.publications → AllByRecursion (IsOfNumber b.records.publications) rest → AllByRecursion (IsOfNumber c.records.publications) rest
  numbers_still b c rest same h = subst (λ (n : ℕ). AllByRecursion (IsOfNumber n) rest) (sym same) h

  unmoved : (d : CopyTo) (rest : List CopyTo) (b : Broker) → Ready (d ∷ rest) b → Ready rest b
  unmoved d rest b h = record { kept = h.kept; fits = fewer d rest b h.fits; differ = fewer_ids h.kept.more d rest h.differ; passed = h.passed; numbers = h.numbers.1 }

  -- a packet that goes out moves nothing
  told_ready : (n : ℕ) (packet : Packet) (rest : List CopyTo) (b : Broker) → Ready rest b → Ready rest (after (Send n packet) b)
  told_ready n packet rest b h = record {
    kept = record {
      served = told_served r.client birth ns n packet b h.kept.served;
      queues = h.kept.queues;
      grown = h.kept.grown;
      more = h.kept.more;
      new = h.kept.new;
      differ = h.kept.differ;
      runs = λ number m. told_runs number largest (ids ++ h.kept.more) birth r n packet b (h.kept.runs number m);
    };
    fits = h.fits;
    differ = h.differ;
    passed = h.passed;
    numbers = h.numbers;
  }

  queued_to : (d : CopyTo) (rest : List CopyTo) (b : Broker) (o : Option Session) → is_queued d ≡ true → session_at d.birth b.records ≡ o → Ready (d ∷ rest) b
      → Delivers rest (with_session o (λ s. always (enter_deeds env d.copy s)) b) b
  unfolding own_enters other_enters others_kept
  queued_to d rest b None queued at h = record { ready = unmoved d rest b h; mute = tt }
  queued_to d rest b (Some s) queued at h =
      let ds = enter_deeds env d.copy s in
      let is : s.birth ≡ d.birth = found_key birth_of d.birth s b.records.sessions at in
      let own_at : session_at s.birth b.records ≡ Some s = ap (λ (m : ℕ). session_at m b.records) is ∙ at in
      let all = room_for d rest b s queued h.fits at in
      let tables = all_at birth_of HasTables d.birth s b.records.sessions h.kept.queues.ordered.each at in
      let made = enters QUEUE_LIMIT env d.copy s b small small tables own_at (omega (arith, all)) h.kept.queues in
      let parts = queue_enter env d.copy s in
      let same = parts_stay ds b parts in
      let passed = h.passed in
      let fits = fits_entered d rest b s (after_all ds b) is all made.0 h.fits in
      let numbers = numbers_still b (after_all ds b) rest same h.numbers.1 in
      elim (cases_Bool (nat_eq s.birth birth)) [
        | inl mine ↦
            let here = eqb-true s.birth birth mine in
            let so : is_to birth d ≡ true = rw (queued, ap (λ (k : ℕ). nat_eq k birth) (sym is) ∙ mine) refl in
            let with_it : AllDiffer (h.kept.more ++ d.copy.id ∷ own_ids rest) = subst (λ (t : Bool). AllDiffer (h.kept.more ++ map id_to (cond t (d ∷ filter (is_to birth) rest) (filter (is_to birth) rest)))) so h.differ in
            let one : AllDiffer ((h.kept.more ++ d.copy.id ∷ []) ++ own_ids rest) = subst AllDiffer (sym (append_assoc h.kept.more (d.copy.id ∷ []) (own_ids rest))) with_it in
            let number = h.numbers.0.0 in
            let new : IsNew b d.copy.id = record { birth_is = h.numbers.0.1 ∙ (sym is ∙ here); above = omega (arith, passed, number); within = omega (arith, number); cause_is = h.numbers.0.2 } in
            let k = own_enters d.copy s b made.1 queued (omega (arith, all)) here own_at h.kept new (differ_front (h.kept.more ++ d.copy.id ∷ []) (own_ids rest) one) in
            record { ready = record { kept = k; fits = fits; differ = one; passed = omega (arith, passed, same); numbers = numbers }; mute = mute_queue ns ds b parts }
        | inr other ↦
            let k = other_enters d.copy s b made.1 other h.kept in
            record { ready = record { kept = k; fits = fits; differ = fewer_ids h.kept.more d rest h.differ; passed = omega (arith, passed, same); numbers = numbers }; mute = mute_queue ns ds b parts }
      ]

  offered_to : (d : CopyTo) (rest : List CopyTo) (b : Broker) → is_queued d ≡ false → Ready (d ∷ rest) b → Delivers rest (offer_copy (line_of d.birth b) d.copy b) b
  offered_to d rest b plain h =
      let packet = publish_of b.now false 0 d.copy in
      let same = unmoved d rest b h in
      of_offer_if (λ (ds : List Deed). Delivers rest ds b) (has_form d.copy b) (line_of d.birth b) packet (record { ready = same; mute = tt })
      (λ l there. record { ready = told_ready l.number packet rest b same; mute = (inr (unheard_of d.copy.qos plain), tt) })

  one_delivered : (t : Bool) (d : CopyTo) (rest : List CopyTo) (b : Broker) → is_queued d ≡ t → Ready (d ∷ rest) b → Delivers rest (deliver_by t env d b) b
  one_delivered true d rest b queued h = queued_to d rest b (session_at d.birth b.records) queued refl h
  one_delivered false d rest b queued h = offered_to d rest b queued h

  all_delivered : (ds : List CopyTo) (b : Broker) → Ready ds b → Led (series (map (deliver env) ds) b) b
  all_delivered [] b h = (tt, h.kept)
  all_delivered (d ∷ ds) b h =
      let first = deliver env d b in
      let c = after_all first b in
      let one = one_delivered (is_queued d) d ds b refl h in
      leads_append Kept (IsMuteHere ns) first (series (map (deliver env) ds) c) b (one.mute, one.ready.kept) (λ k. all_delivered ds c one.ready)

  -- ---- a publication

  room_within : (s : Session) (n : ℕ) → n ≤ room env s → n ≤ env.limits.queue - own_stay env s
  room_within s n le = let same = stay_is env.limits.full (since env s) s.birth s.queue in omega (arith, same, le)

  accepted_fits : (m : Message) (b : Broker) (ds : List CopyTo) → Kept b → accepted_copies env m b ≡ Some ds → Fits ds b
  accepted_fits m b ds k e j x at =
      let few = accepted_within env m b ds j e k.queues.ordered.sessions.ascending in
      room_within x (length (filter (is_to j) ds)) (subst (λ (o : Option Session). length (filter (is_to j) ds) ≤ room_at env o) at few)

  retains : (t e : Bool) (n : ℕ) (m : Message) (b : Broker) → AreTheirs r.client birth ns (retain_by t e n m b)
  retains false e n m b = tt
  retains true true n m b = by (retained_of m.topic b.records)
    where
      by : (o : Option RetainedMessage) → AreTheirs r.client birth ns (forgets o)
      by None = tt
      by (Some x) = ((tt, tt), tt)
  retains true false n m b = ((tt, tt), tt)

  retained_sessions : (t e : Bool) (n : ℕ) (m : Message) (b : Broker) → (after_all (retain_by t e n m b) b).records.sessions ≡ b.records.sessions
  retained_sessions false e n m b = refl
  retained_sessions true true n m b = by (retained_of m.topic b.records)
    where
      by : (o : Option RetainedMessage) → (after_all (forgets o) b).records.sessions ≡ b.records.sessions
      by None = refl
      by (Some x) = refl
  retained_sessions true false n m b = refl

  retained_short : (t e : Bool) (n : ℕ) (m : Message) (b : Broker) → Short b → Short (after_all (retain_by t e n m b) b)
  retained_short false e n m b h = h
  retained_short true true n m b h = by (retained_of m.topic b.records)
    where
      by : (o : Option RetainedMessage) → Short (after_all (forgets o) b)
      by None = h
      by (Some x) = still_short QUEUE_LIMIT (Forget x.place) b.records tt h
  retained_short true false n m b h = still_short QUEUE_LIMIT (Keep _) b.records tt h

  retained_numbers : (t e : Bool) (n : ℕ) (m : Message) (b : Broker) → (after_all (retain_by t e n m b) b).records.publications ≡ b.records.publications
  retained_numbers t e n m b = publications_stay r.client birth ns (retain_by t e n m b) b (retains t e n m b)

  apart_new : (more : List CopyId) (n p : ℕ) (ds : List CopyTo) → n ≡ suc p → AllByRecursion (IsNewCopy birth before p) more → AllByRecursion (IsOfNumber n) ds → AreApart more (own_ids ds)
  apart_new more n p ds is new numbers = all_more (IsNewCopy birth before p) (λ x. AllByRecursion (λ y. x ≢ y) (own_ids ds)) more (λ x h. others x h.within ds numbers) new
    where
      others : (x : CopyId) → x.publication ≤ p → (xs : List CopyTo) → AllByRecursion (IsOfNumber n) xs → AllByRecursion (λ y. x ≢ y) (own_ids xs)
      others x le [] h = tt
      others x le (d ∷ xs) h = by (others x le xs h.1) (is_to birth d)
        where
          by : AllByRecursion (λ y. x ≢ y) (own_ids xs) → (t : Bool) → AllByRecursion (λ y. x ≢ y) (map id_to (cond t (d ∷ filter (is_to birth) xs) (filter (is_to birth) xs)))
          by more true = ((λ e. let number = h.0.0 in let same = ap (λ (i : CopyId). i.publication) e in omega (arith, number, same, le, is)), more)
          by more false = more

  -- an accepted publication leads, with the copies that enter for the receiver
  pub publishes_led : (origin : Origin) (m : Message) (ds : List CopyTo) (b : Broker) → Kept b → accepted_copies env m b ≡ Some ds → Led (publish env origin m ds b) b
  unfolding theirs_led others_kept
  publishes_led origin m ds b k e =
      let n = next_publication b.records in
      let first : List Deed = Accept n origin m ∷ [] in
      let c = after_all first b in
      let kept = retain_by m.retain (is_empty m.payload) n m c in
      let short = still_short QUEUE_LIMIT (Accept n origin m) b.records tt k.queues in
      let v = k.served in
      let served : IsServed r.client birth ns c = record { sessions = v.sessions; lines = v.lines; births = v.births; given = v.given } in
      let one = others_kept first b (tt, tt) served short (omega arith) k in
      let d = after_all kept c in
      let sessions : d.records.sessions ≡ b.records.sessions = retained_sessions m.retain (is_empty m.payload) n m c in
      let last : d.records.publications ≡ n = retained_numbers m.retain (is_empty m.payload) n m c in
      let grown = k.grown in
      let numbered = each_more (IsNumbered n b.now) (IsOfNumber n) (λ x h. (h.publication, h.birth, h.cause)) ds (routed_numbered env m b ds e) in
      let own : AllDiffer (own_ids ds) = differ_filtered id_to (is_to birth) ds (accepted_differ env m b ds k.queues.ordered e).differ in
      let two = theirs_led kept c (retains m.retain (is_empty m.payload) n m c) (retained_short m.retain (is_empty m.payload) n m c one.queues) one in
      leads_append Kept (IsMuteHere ns) first (kept ++ series (map (deliver env) ds) d) b ((tt, tt), one)
      (λ h. leads_append Kept (IsMuteHere ns) kept (series (map (deliver env) ds) d) c two
      (λ g. all_delivered ds d (record {
        kept = two.1;
        fits = λ j x at. accepted_fits m b ds k e j x (ap (λ (ss : List Session). row_at birth_of j ss) (sym sessions) ∙ at);
        differ = differ_join k.more (own_ids ds) k.differ own (apart_new k.more n b.records.publications ds refl k.new numbered);
        passed = omega (arith, grown, last);
        numbers = subst (λ (x : ℕ). AllByRecursion (IsOfNumber x) ds) (sym last) numbered;
      })))

  -- ---- copies that expire, of its own session or of another

  stands_at : (s : Session) (b : Broker) → Kept b → IsAmong s b.records.sessions → session_at s.birth b.records ≡ Some s
  stands_at s b k among = all_among (λ (x : Session). session_at x.birth b.records ≡ Some x) s b.records.sessions (all_found birth_of b.records.sessions k.queues.ordered.sessions.ascending) among

  own_lapses : (s : Session) (b : Broker) → s.birth ≡ birth → IsAmong s b.records.sessions → Short (after_all (lapse_deeds b.now s) b) → Kept b → Kept (after_all (lapse_deeds b.now s) b)
  own_lapses s b is among queues k =
      let ds = lapse_deeds b.now s in
      let parts = queue_leaves s (lapses b.now s) in
      let same = parts_stay ds b parts in
      record {
        served = served_parts r.client birth ns ds b parts k.served;
        queues = queues;
        grown = let g = k.grown in omega (arith, g, same);
        more = k.more;
        new = new_still b (after_all ds b) k.more (omega (arith, same)) k.new;
        differ = k.differ;
        runs = λ number n.
            let h = k.runs number n in
            let its : session_at h.session.birth b.records ≡ Some s = ap (λ (m : ℕ). session_at m b.records) (h.birth_is ∙ sym is) ∙ stands_at s b k among in
            let same_session : h.session ≡ s = some_is h.session s (sym h.receiving.session ∙ its) in
            let receiving = subst (λ (y : Session). IsReceiving r y b) same_session h.receiving in
            let e = lapsing_runs number largest h.after b.now r s b h.run_is receiving in
            record {
              after = e.runs.after;
              same = e.runs.same ∙ h.same;
              run_is = e.runs.run_is;
              session = e.session;
              birth_is = its_birth e.session (after_all ds b) (served_parts r.client birth ns ds b parts k.served) e.receiving;
              receiving = e.receiving;
            };
      }

  -- copies of a session that expire lead
  pub lapses_led : (s : Session) (b : Broker) → Kept b → IsAmong s b.records.sessions → Short (after_all (lapse_deeds b.now s) b) → Led (lapse_deeds b.now s) b
  lapses_led s b k among queues = elim (cases_Bool (nat_eq s.birth birth)) [
    | inl same ↦ (mute_queue ns (lapse_deeds b.now s) b (queue_leaves s (lapses b.now s)), own_lapses s b (eqb-true s.birth birth same) among queues k)
    | inr other ↦ theirs_led (lapse_deeds b.now s) b (theirs_flat r.client birth ns (leave_deeds s) (λ t. theirs_leave r.client birth ns s t other) (lapses b.now s)) queues k
  ]

  -- ---- a filter that is granted to another: the retained copies that it brings are for that session

  abbrev IsTo : ℕ → CopyTo → Type 0
  IsTo k d = d.birth ≡ k

  brought_are : (t : Bool) (now n : ℕ) (s : Session) (w : sub.Wish) (ks : List RetainedMessage) → AllByRecursion (IsTo s.birth) (sub.brought_if t now n s w ks)
  brought_are false now n s w ks = tt
  brought_are true now n s w ks = each s.birth (filter (sub.is_brought now s w) (map sub.message_in (kept_for w.filter (map sub.kept_of ks))))
    where
      each : (k : ℕ) (xs : List RetainedMessage) → AllByRecursion (IsTo k) (map (sub.retained_copy_to k n w) xs)
      each k [] = tt
      each k (x ∷ xs) = (refl, each k xs)

  all_queued : (k : ℕ) (ds : List CopyTo) → AllByRecursion (IsTo k) ds → AllByRecursion (λ (d : CopyTo). (d.birth ≡ k) × (is_queued d ≡ true)) (filter is_queued ds)
  all_queued k [] h = tt
  all_queued k (d ∷ ds) h = elim (cases_Bool (is_queued d)) [
    | inl so ↦ rw so ((h.0, so), all_queued k ds h.1)
    | inr not_so ↦ rw not_so (all_queued k ds h.1)
  ]

  entered_theirs : (d : CopyTo) (k : ℕ) (b : Broker) (o : Option Session) → IsForeign r.client birth ns k → d.birth ≡ k → session_at d.birth b.records ≡ o → AreTheirs r.client birth ns (with_session o (λ s. always (enter_deeds env d.copy s)) b)
  entered_theirs d k b None q is at = tt
  entered_theirs d k b (Some s) q is at =
      let of : nat_eq s.birth birth ≡ false = ap (λ (m : ℕ). nat_eq m birth) (found_key birth_of d.birth s b.records.sessions at ∙ is) ∙ q in
      parts_theirs (enter_deeds env d.copy s) s.birth of (at_enter env d.copy s)

  delivered_theirs : (t : Bool) (d : CopyTo) (k : ℕ) (b : Broker) → t ≡ true → IsForeign r.client birth ns k → d.birth ≡ k → AreTheirs r.client birth ns (deliver_by t env d b)
  delivered_theirs true d k b so q is = entered_theirs d k b (session_at d.birth b.records) q is refl
  delivered_theirs false d k b so q is = absurd cc

  deliveries_theirs : (ds : List CopyTo) (k : ℕ) (b : Broker) → IsForeign r.client birth ns k → AllByRecursion (λ (d : CopyTo). (d.birth ≡ k) × (is_queued d ≡ true)) ds → AreTheirs r.client birth ns (series (map (deliver env) ds) b)
  deliveries_theirs [] k b q h = tt
  deliveries_theirs (d ∷ ds) k b q h =
      let first = deliver env d b in
      theirs_append r.client birth ns first (series (map (deliver env) ds) (after_all first b)) (delivered_theirs (is_queued d) d k b h.0.1 q h.0.0) (deliveries_theirs ds k (after_all first b) q h.1)

  -- a filter that is granted to another session is of others
  pub grants_theirs : (w : sub.Wish) (s : Session) (b : Broker) → IsForeign r.client birth ns s.birth → AreTheirs r.client birth ns (sub.granted_filter env (sub.next_number b.records) s w (brought_to w s b) b).deeds
  grants_theirs w s b q =
      let n = sub.next_number b.records in
      let first : List Deed = Count n ∷ At (whose s) (deeds.Subscribe (sub.subscription n s w)) ∷ [] in
      let ds = filter is_queued (brought_to w s b) in
      theirs_append r.client birth ns first (series (map (deliver env) ds) (after_all first b)) ((tt, tt), ((q, tt), tt))
      (deliveries_theirs ds s.birth (after_all first b) q (all_queued s.birth (brought_to w s b) (brought_are _ b.now n s w b.records.retained)))
