-- Over the events of a run: the copies that come to stand in a receiver's queue come in the order in which they enter, and those
-- that it is handed stand in its ledger in that order (MQTT 5.0, 4.6).
use Rattle.std.proofs.Common.{◌≡◌, ℕ, ◌≤◌, Bool, true, false, cond, not, List, [], ◌∷◌, ◌++◌, filter, map, nat_lt, Option, Some, None, refl, sym, ap, subst, ◌∙◌, append_assoc, arith, inl, inr}
use Rattle.std.specs.Prelude.{filter_map, is_none}
use Rattle.std.specs.List.{AllByRecursion}
use Rattle.std.proofs.lemmas.Bool.{cases_Bool, ltb-true}
use Rattle.std.proofs.lemmas.List.Elements.{filter_map-append}
use Rattle.mqtt_base.specs.declared.session.Cause.{Cause}
use Rattle.mqtt_base.specs.declared.session.Cause.TheVariants.{Direct, Retained, Share}
use Rattle.mqtt_base.specs.declared.session.CopyId.{CopyId}
use Rattle.mqtt_flow.specs.outbound.OutboundWorld.{Lot, past, standing}
use Rattle.mqtt_world_model.specs.model.Ends.{Receiver}
use Rattle.mqtt_world_model.specs.model.Laws.{copies_in, count_of, stand_among}
use Rattle.mqtt_world_model.specs.model.Run.{Turn, are_beginnings_clean, begins_clean, deeds_at, deeds_over, entered_in, read_at, run, setting, turned}
use Rattle.mqtt_world_model.specs.model.World.{Setting, World, happens, is_bad, receiver, receiver_named}
use Rattle.mqtt_records.specs.state.Records.{subscribe_in}
use Rattle.mqtt_records.specs.declared.state.session.Session.{Session}
use Rattle.mqtt_rules.proofs.step_lemmas.numbers.Copies.{each_more, kinds}
use Rattle.mqtt_rules.proofs.step_lemmas.flight.FlightRows.{all_more}
use Rattle.mqtt_rules.specs.step.Deeds.{Deed}
use Rattle.mqtt_rules.specs.step.Laws.{IsCoherent, IsCoherentMessage}
use Rattle.mqtt_records.specs.declared.state.records.Records.{Records}
use Rattle.mqtt_rules.specs.step.State.{Broker, session_named}
use Rattle.mqtt_rules.specs.declared.step.Capacity.{Capacity}
use Rattle.mqtt_world_laws.specs.acceptance.Copies.{entered_from}
use Rattle.mqtt_world_laws.specs.acceptance.Fair.{IsFair}
use Rattle.mqtt_world_laws.specs.acceptance.Identities.{is_ahead}
use Rattle.mqtt_world_laws.specs.acceptance.Spending.{run_spends, spending}
use Rattle.mqtt_world_laws.proofs.acceptance_lemmas.copies.Counting.{E}
use Rattle.mqtt_world_laws.proofs.acceptance_lemmas.publishers.Ends.{named_receiver}
use Rattle.mqtt_world_laws.proofs.acceptance_lemmas.copies.Entries.{AreKept, Enters as Counted, U, call_counted, enters_next, opening_counted}
use Rattle.mqtt_world_laws.proofs.acceptance_lemmas.publishers.Runs.{both_true, either}
use Rattle.mqtt_world_laws.proofs.acceptance_lemmas.copies.Walks.{Walk, turn_goes}
use Rattle.mqtt_world_laws.specs.receiver.Apart.{HasCome}
use Rattle.mqtt_world_laws.specs.receiver.Tags.{id_of}
use Rattle.mqtt_world_laws.proofs.receiver_lemmas.drains.DrainRuns.{run_append}
use Rattle.mqtt_world_laws.specs.delivery.Coming.{come_from, come_over, come_with, queue_at}
use Rattle.mqtt_world_laws.specs.delivery.HandedOver.{AreHandedInOrder, is_among, queued_by}
use Rattle.mqtt_world_laws.specs.delivery.Retaining.{AreRetainedOnce}
use Rattle.mqtt_world_laws.specs.delivery.Standing.{IsPlaced, IsSeen, Stands}
use Rattle.mqtt_world_laws.specs.receiver.Connecting.{any_size}
use Rattle.mqtt_world_laws.specs.delivery.Untouched.{IsUntouched}
use Rattle.mqtt_world_laws.proofs.delivery_lemmas.order.Among.{all_come, all_one, counts_once, none_left, others_of, picked_append, picked_stand, picks_same, stand_both, stand_each, stand_more, stand_past, stand_self, stand_trans}
use Rattle.mqtt_world_laws.proofs.delivery_lemmas.others.Asked.{IsFit}
use Rattle.mqtt_world_laws.proofs.delivery_lemmas.whole.EveryRun.{carried_append, fair_run_kept, spent_append}
use Rattle.mqtt_world_laws.proofs.delivery_lemmas.order.Growing.{begin_same}
use Rattle.mqtt_world_laws.proofs.delivery_lemmas.whole.Ledgers.{run_remains}
use Rattle.mqtt_world_laws.proofs.delivery_lemmas.order.QueueEntering.{Enters, enters_walk, queue_enters}
use Rattle.mqtt_world_laws.proofs.delivery_lemmas.order.QueueOrder.{behind_one, part_stands, queue_ids, standing_ids}
use Rattle.mqtt_world_laws.proofs.delivery_lemmas.others.Runs.{IsKept, turn_kept}
use Rattle.mqtt_world_laws.proofs.delivery_lemmas.others.Standings.{handed_in_order, runs_so}

-- ---- a copy that enters in an event is none that entered before

module _ (x : CopyId) where
  abbrev pub Counts : List Deed → Broker → Broker → Type 0
  Counts ds b d = AreKept (kinds b.records) → Counted x ds (kinds b.records) (kinds d.records)

  -- that no copy enters twice is counted off over every run
  pub counts : (limits : Capacity) → Walk limits Counts
  counts limits = record {
    none = λ b k. let zero : E x [] ≡ 0 = refl in record { counted = omega (arith, zero); kept = k };
    next = λ xs ys a b d p q k. let first = p k in enters_next x xs ys (kinds a.records) (kinds b.records) (kinds d.records) first (q first.kept);
    unlink = λ n b d h k. let y = h k in record { counted = y.counted; kept = y.kept };
    link = λ n b d h k. let y = h k in record { counted = y.counted; kept = y.kept };
    call = λ choice now call b s unspent k. call_counted x limits choice now call b s.coherent.ordered k;
    open_again = λ choice now b s unspent k. opening_counted x limits choice now b s.coherent.ordered k;
  }

  not_ahead : (p s : ℕ) → HasCome p s x → is_ahead x.cause x.publication p s ≡ false
  not_ahead p s h = by x.cause h.subscribe
    where
      above : (m n : ℕ) → n ≤ m → nat_lt m n ≡ false
      above m n le = elim (cases_Bool (nat_lt m n)) [ inl less ↦ let more = ltb-true m n less in absurd (omega (arith, le, more)) | inr not_less ↦ not_less ]

      by : (cause : Cause) → subscribe_in cause ≤ s → is_ahead cause x.publication p s ≡ false
      by Direct le = above p x.publication h.publication
      by (Share group) le = above p x.publication h.publication
      by (Retained n) le = above s n le

  not_entered : (ds : List Deed) (b d : Broker) → AreKept (kinds b.records) → Counts ds b d → HasCome b.records.publications b.records.subscribes x → is_among (filter_map entered_in ds) x ≡ true → ⊥
  not_entered ds b d kept counted come in_ =
      let r = b.records in
      let all = (counted kept).counted in
      let none : U x (kinds r) ≡ 0 = ap (λ (t : Bool). cond t 1 0) (not_ahead r.publications r.subscribes come) in
      let some = counts_once x (filter_map entered_in ds) in_ in
      let it : E x ds ≡ count_of x (filter_map entered_in ds) = refl in
      omega (arith, all, none, some, it)

kept_so : (r : Records) → IsCoherent r → AreRetainedOnce r → AreKept (kinds r)
kept_so r coherent once = record { given = each_more (IsCoherentMessage r.publications) (λ k. k.publication ≤ r.publications) (λ k q. q.0) r.retained coherent.retained; differ = once }

any_copy : CopyId
any_copy = record { publication = 0; birth = 0; cause = Direct }

-- ---- what stands of a receiver's copies

lots_stand : (lots : List Lot) → stand_among (standing_ids lots) (map id_of lots) ≡ true
lots_stand [] = refl
lots_stand (standing e m ∷ lots) = stand_both (e.copy.id ∷ []) (standing_ids lots) (e.copy.id ∷ []) (map id_of lots) (stand_self (e.copy.id ∷ [])) (lots_stand lots)
lots_stand (past ending e m ∷ lots) = behind_one (standing_ids lots) e.copy.id (map id_of lots) (lots_stand lots)

module _ (c : List ℕ) (limits : Capacity) where
  queue_stands : (u : World) (s : Stands [] c any_size limits u) (q : Receiver) → receiver_named c u ≡ Some q → stand_among (queue_at c u) s.ids ≡ true
  queue_stands u s q e =
      let x = runs_so c any_size limits s.ids s.ns q u s.standing e in
      let is = queue_ids x.after (session_named q.client u.broker.records) u.broker x.run_is.queue_is ∙ ap (λ (name : List ℕ). queued_by (session_named name u.broker.records)) (named_receiver c q u e) in
      subst (λ (ids : List CopyId). stand_among (queue_at c u) ids ≡ true) x.same (subst (λ (ids : List CopyId). stand_among ids (map id_of x.after) ≡ true) is (lots_stand x.after))

  -- those that have come so far have entered in that order, behind these, and are its copies in that order; and those that stand are
  -- among them
  pub record HaveCome (base come : List CopyId) (v : World) : Type 0 where
    pub stands : Stands [] c any_size limits v
    pub kept : AreKept (kinds v.broker.records)
    pub entered : stand_among come base ≡ true
    pub in_order : stand_among come stands.ids ≡ true
    pub now : AllByRecursion (λ (x : CopyId). is_among come x ≡ true) (queue_at c v)

  -- at first the copies that have come are those that stand in the queue
  pub begins_so : (v : World) (k : IsKept [] c limits v) (q : Receiver) → receiver_named c v ≡ Some q → HaveCome (queue_at c v) (queue_at c v) v
  begins_so v k q e =
      let now = queue_at c v in
      record { stands = k.stands; kept = kept_so v.broker.records k.stands.standing.around.steady.coherent k.fit.once; entered = stand_self now; in_order = queue_stands v k.stands q e; now = stand_each now now (stand_self now) }

  -- ---- some deeds

  module _ (deeds : List Deed) (v u : World) (base come : List CopyId) (h : HaveCome base come v) (q : Receiver) (e : receiver_named c v ≡ Some q) (said : Enters c deeds v.broker u.broker) (count : (x : CopyId) → Counts x deeds v.broker u.broker)
      (goes_on : Stands h.stands.ids c any_size limits u) where
    abbrev s : Stands [] c any_size limits v
    s = h.stands

    abbrev brought : List CopyId
    brought = filter_map entered_in deeds

    abbrev new : List CopyId
    new = others_of come (queue_at c u)

    new_entered : stand_among new brought ≡ true
    new_entered =
        let queue_came = queue_enters c deeds v.broker u.broker s.standing.around.steady.coherent said in
        let others = λ (x : CopyId). not (is_among come x) in
        let picked = part_stands others (queue_at c u) (queue_at c v ++ brought) queue_came in
        let is : filter others (queue_at c v ++ brought) ≡ filter others brought =
        picked_append others (queue_at c v) brought ∙ ap (λ (xs : List CopyId). xs ++ filter others brought) (none_left come (queue_at c v) h.now) in
        stand_trans new (filter others brought) brought (subst (λ (xs : List CopyId). stand_among new xs ≡ true) is picked) (picked_stand others brought)

    none_old : AllByRecursion (λ (x : CopyId). is_among s.ids x ≡ false) new
    none_old = all_more (λ (x : CopyId). is_among brought x ≡ true) (λ (x : CopyId). is_among s.ids x ≡ false) new (λ x in_. elim (cases_Bool (is_among s.ids x)) [
      | inl old ↦
          let placed : IsPlaced any_size s.ids s.ns q v.broker = subst (IsSeen any_size s.ids s.ns v.broker) e s.standing.seen in
          absurd (not_entered x deeds v.broker u.broker h.kept (count x) (all_one (HasCome v.broker.records.publications v.broker.records.subscribes) x s.ids placed.told.come old) in_)
      | inr not_old ↦ not_old
    ]) (stand_each new brought new_entered)

    -- copies that enter by deeds come behind those that came before
    pub come_on : (p : Receiver) → receiver_named c u ≡ Some p → HaveCome (base ++ filter_map entered_in deeds) (come_with come (queue_at c u)) u
    come_on p f =
        let more = goes_on.grown.0 in
        let stands : Stands [] c any_size limits u = record { ids = goes_on.ids; grown = (goes_on.ids, refl); ns = goes_on.ns; standing = goes_on.standing } in
        let there = stand_trans new (queue_at c u) goes_on.ids (picked_stand (λ (x : CopyId). not (is_among come x)) (queue_at c u)) (queue_stands u stands p f) in
        let behind = stand_past new s.ids more none_old (subst (λ (ids : List CopyId). stand_among new ids ≡ true) goes_on.grown.1 there) in
        record {
          stands = stands;
          kept = (count any_copy h.kept).kept;
          entered = stand_both come new base brought h.entered new_entered;
          in_order = subst (λ (ids : List CopyId). stand_among (come ++ new) ids ≡ true) (sym goes_on.grown.1) (stand_both come new s.ids more h.in_order behind);
          now = all_come come (queue_at c u);
        }

  -- ---- an event, and some

  -- after a turn what is asked of the receiver is kept, with the copies that had entered
  pub turn_on : (t : Turn) (v : World) (base come : List CopyId) (h : HaveCome base come v) → IsFit c v → read_at spending (setting limits t) t.event v ≡ false → begins_clean t.event v ≡ true → IsKept h.stands.ids c limits (turned limits t v)
  turn_on t v base come h fit unspent carried =
      turn_kept h.stands.ids c limits t v (record { stands = record { ids = h.stands.ids; grown = begin_same h.stands.ids; ns = h.stands.ns; standing = h.stands.standing }; fit = fit }) carried unspent

  -- the copies that stand after a turn came before, or entered in it behind
  pub turn_comes : (t : Turn) (v : World) (base come : List CopyId) (h : HaveCome base come v) (q p : Receiver) → receiver_named c v ≡ Some q → receiver_named c (turned limits t v) ≡ Some p → IsFit c v → read_at spending (setting limits t) t.event v ≡ false → begins_clean t.event v ≡ true
      → HaveCome (base ++ filter_map entered_in (deeds_at (setting limits t) t.event v)) (come_with come (queue_at c (turned limits t v))) (turned limits t v)
  turn_comes t v base come h q p e f fit unspent carried =
      let around = h.stands.standing.around in
      come_on (deeds_at (setting limits t) t.event v) v (turned limits t v) base come h q e
      (turn_goes (Enters c) limits (enters_walk c limits) t v around.within around.steady unspent).said
      (λ x. (turn_goes (Counts x) limits (counts x limits) t v around.within around.steady unspent).said) (turn_on t v base come h fit unspent carried).stands p f

  all_come_on : (ts : List Turn) (v : World) (base come : List CopyId) → HaveCome base come v → IsFit c v → (q : Receiver) → receiver_named c v ≡ Some q → run_spends limits ts v ≡ false → are_beginnings_clean limits ts v ≡ true
      → HaveCome (base ++ entered_from limits ts v) (come_from c limits ts v come) (run limits ts v)
  all_come_on [] v base come h fit q e unspent carried = record { stands = h.stands; kept = h.kept; entered = stand_more come base [] h.entered; in_order = h.in_order; now = h.now }
  all_come_on (t ∷ ts) v base come h fit q e unspent carried =
      let u = turned limits t v in
      let costs = either (read_at spending (setting limits t) t.event v) (run_spends limits ts u) unspent in
      let clean = both_true (begins_clean t.event v) (are_beginnings_clean limits ts u) carried in
      let stays = run_remains c limits (t ∷ []) v q e in
      let first = turn_comes t v base come h q stays.0 e stays.1 fit costs.0 clean.0 in
      let later = (turn_on t v base come h fit costs.0 clean.0).fit in
      let brought = filter_map entered_in (deeds_at (setting limits t) t.event v) in
      let all = all_come_on ts u (base ++ brought) (come_with come (queue_at c u)) first later stays.0 stays.1 costs.1 clean.1 in
      subst (λ (ids : List CopyId). HaveCome ids (come_from c limits ts u (come_with come (queue_at c u))) (run limits ts u)) (entered_on t ts v base) all
    where
      entered_on : (t : Turn) (ts : List Turn) (v : World) (base : List CopyId) → (base ++ filter_map entered_in (deeds_at (setting limits t) t.event v)) ++ entered_from limits ts (turned limits t v) ≡ base ++ entered_from limits (t ∷ ts) v
      entered_on t ts v base =
          append_assoc base (filter_map entered_in (deeds_at (setting limits t) t.event v)) (entered_from limits ts (turned limits t v))
          ∙ ap (λ (ids : List CopyId). base ++ ids) (sym (filter_map-append entered_in (deeds_at (setting limits t) t.event v) (deeds_over limits ts (turned limits t v))))

-- ---- in a run

module _ (limits : Capacity) (xs ys : List Turn) (w : World) (untouched : IsUntouched limits w) (fair : IsFair limits (xs ++ ys) w) (c : List ℕ) (q : Receiver) (e : receiver_named c (run limits xs w) ≡ Some q) where
  abbrev v : World
  v = run limits xs w

  have_come : HaveCome c limits (queue_at c v ++ entered_from limits ys v) (come_over c limits ys v) (run limits ys v)
  have_come =
      let costs = spent_append limits xs ys w fair.unspent in
      let clean = carried_append limits xs ys w fair.clean in
      let k = fair_run_kept limits xs w untouched (record { within = fair.within; unspent = costs.0; clean = clean.0 }) c in
      let now = queue_at c v in
      all_come_on c limits ys v now now (begins_so c limits v k q e) k.fit q e costs.1 clean.1

  -- the copies that came over a run are among those that stood and entered, in that order
  pub run_enters : stand_among (come_over c limits ys (run limits xs w)) (queue_at c (run limits xs w) ++ entered_from limits ys (run limits xs w)) ≡ true
  run_enters = have_come.entered

  -- copies were handed over in the order in which they came
  pub run_hands_as_come : (r : Receiver) → receiver_named c (run limits (xs ++ ys) w) ≡ Some r → AreHandedInOrder (come_over c limits ys (run limits xs w)) r
  run_hands_as_come r f =
      let h = have_come in
      let s = h.stands in
      let last = run limits ys v in
      let come = come_over c limits ys v in
      let found : receiver_named c last ≡ Some r = sym (ap (receiver_named c) (run_append limits xs ys w)) ∙ f in
      let placed : IsPlaced any_size s.ids s.ns r last.broker = subst (IsSeen any_size s.ids s.ns last.broker) found s.standing.seen in
      let picked = part_stands (is_among come) (copies_in r.ledger) s.ids (handed_in_order c any_size limits s.ids s.ns r last s.standing found) in
      subst (λ (ids : List CopyId). stand_among (filter (is_among come) (copies_in r.ledger)) ids ≡ true) (picks_same come s.ids placed.told.differ h.in_order) picked

  -- of the copies that came, those that were handed over were so in the order in which they stood and entered
  pub run_hands_as_entered : (r : Receiver) → receiver_named c (run limits (xs ++ ys) w) ≡ Some r
      → stand_among (filter (is_among (come_over c limits ys (run limits xs w))) (copies_in r.ledger)) (queue_at c (run limits xs w) ++ entered_from limits ys (run limits xs w)) ≡ true
  run_hands_as_entered r f =
      let come = come_over c limits ys v in
      stand_trans (filter (is_among come) (copies_in r.ledger)) come (queue_at c v ++ entered_from limits ys v) (run_hands_as_come r f) run_enters

-- ---- when a receiver comes, no copies of its name stand

-- a new receiver has no queue
pub none_at_first : (c : List ℕ) (window aliases : ℕ) (set : Setting) (w : World) → is_bad (receiver c window aliases) w ≡ false → begins_clean (receiver c window aliases) w ≡ true → queue_at c (happens set (receiver c window aliases) w) ≡ []
none_at_first c window aliases set w good clean = by (session_named c w.broker.records) clean
  where
    by : (o : Option Session) → is_none o ≡ true → queued_by o ≡ []
    by None e = refl
    by (Some s) e = absurd cc
