-- The broker restarts: its lines are gone, what it opens with is what was stored, and each session that was connected is
-- closed; what a receiver and its session see of it is a run of their hop.
use Rattle.std.proofs.Common.{◌≡◌, ℕ, ◌≤◌, false, List, [], ◌∷◌, ◌++◌, map, Option, Some, None, nat_eq, refl, sym, ap, subst, ◌∙◌, append-nil, arith, inl, inr}
use Rattle.std.specs.List.{AllByRecursion, starts_with}
use Rattle.std.specs.Prelude.{is_some}
use Rattle.std.proofs.lemmas.Bool.{cases_Bool, eqb-true}
use Rattle.mqtt_base.specs.declared.limits.TheConstants.{QUEUE_LIMIT}
use Rattle.mqtt_base.specs.declared.session.CopyId.{CopyId}
use Rattle.mqtt_flow.specs.outbound.OutboundWorld.{Lot, World as Hop, renewed, restart, start, step}
use Rattle.mqtt_flow.specs.inbound.InboundWorld.{World as InboundHop}
use Rattle.mqtt_world_model.specs.model.Ends.{Receiver, new_publisher}
use Rattle.mqtt_world_model.specs.model.Hops.{IsOurs}
use Rattle.mqtt_world_model.specs.model.World.{receiver_restarted}
use Rattle.mqtt_world_model.proofs.model_lemmas.connects.EmptyRestarts.{empty_restart_is_hop}
use Rattle.mqtt_world_model.proofs.model_lemmas.others.Names.{named_is, only_deeds}
use Rattle.mqtt_world_model.proofs.model_lemmas.own.Publishes.{act_none, settles_nothing}
use Rattle.mqtt_records.specs.state.Records.{changed_all}
use Rattle.mqtt_records.specs.state.Session.{auto, birth_of, with_columns}
use Rattle.mqtt_records.specs.declared.state.session.Session.{Session}
use Rattle.mqtt_rules.proofs.step_lemmas.acts.Acts.{leads_settle}
use Rattle.mqtt_rules.proofs.step_lemmas.flight.FlightRows.{all_at, found_key}
use Rattle.mqtt_rules.proofs.step_lemmas.acts.Goods.{after_append}
use Rattle.mqtt_rules.proofs.step_lemmas.numbers.Counters.{Counts, counts_deed}
use Rattle.mqtt_rules.proofs.step_lemmas.fit.RowsFit.{queues_short}
use Rattle.mqtt_rules.proofs.step_lemmas.order.OrderedEnters.{still_short}
use Rattle.mqtt_rules.specs.step.Closing.{end_session, has_due_end, has_due_will, publish_will, settle}
use Rattle.mqtt_rules.specs.step.Deeds.{Act, At, Close, Deed, after, after_all, always, of_session, only_if, part_rows_of, rows_of_all, whose, with_session}
use Rattle.mqtt_rules.specs.step.State.{Broker, Env, MemberChoice, session_at, session_named}
use Rattle.mqtt_rules.specs.step.Step.{connected_in, env_of, opened, opening, settles, settles_all, shuts, shuts_all, unopened}
use Rattle.mqtt_rules.specs.declared.step.Capacity.{Capacity}
use Rattle.mqtt_world_laws.specs.receiver.Entering.{IsReceiving}
use Rattle.mqtt_world_laws.specs.receiver.Handing.{IsRun, RunsOn}
use Rattle.mqtt_world_laws.specs.receiver.Restarts.{reopened}
use Rattle.mqtt_world_laws.specs.receiver.Seen.{AreQueued, Numbering, StandOn, seen, still_standing, went_in}
use Rattle.mqtt_world_laws.specs.receiver.Served.{GoesOn, HasLines, IsNewCopy, IsServed, IsTidy, RunsFor, RunsWithAll}
use Rattle.mqtt_world_laws.specs.receiver.Tags.{AreNumbered, WasTagged}
use Rattle.mqtt_world_laws.proofs.receiver_lemmas.own.Answering.{closed_row, session_closed}
use Rattle.mqtt_world_laws.proofs.receiver_lemmas.others.CallsOfOthers.{done_all, moment_numbers, moment_served, served_law}
use Rattle.mqtt_world_laws.proofs.receiver_lemmas.others.Carried.{linked_on}
use Rattle.mqtt_world_laws.proofs.receiver_lemmas.connects.Refusals.{run_append}
use Rattle.mqtt_world_laws.proofs.receiver_lemmas.connects.Resuming.{renewed_ids, renewed_standing, still_renewed}
use Rattle.mqtt_world_laws.proofs.receiver_lemmas.others.Serving.{kept_part}
use Rattle.mqtt_world_laws.proofs.receiver_lemmas.others.Theirs.{others}
use Rattle.mqtt_world_laws.proofs.receiver_lemmas.queue.Turns.{renewed_lots}
use Rattle.mqtt_world_laws.proofs.receiver_lemmas.others.Walk.{IsMuteHere, Kept, new_still, theirs_led}

-- ---- the lines are gone: what was under way is lost, and what went out on them is not looked at

lost_runs : (number : Numbering) (largest : ℕ) (copies : List Lot) (now : ℕ) (r : Receiver) (s : Session) (b : Broker) → IsRun number largest copies r b → IsReceiving r s b
    → IsRun number largest (map renewed copies) (receiver_restarted r) (unopened now b.records)
lost_runs number largest copies now r s b h x =
    let first = unopened now b.records in
    let ids = renewed_ids copies in
    let named : session_named r.client b.records ≡ Some s = named_is r.client s.birth b.records s x.only x.session x.client in
    let queued : StandOn copies s.queue (went_in s.birth b) = subst (λ (o : Option Session). AreQueued copies o b) named h.queue_is in
    let still : StandOn (map renewed copies) s.queue None = ap (map renewed) (renewed_standing copies s.queue (went_in s.birth b) queued) ∙ renewed_lots [] s.queue in
    record {
      events = h.events ++ restart ∷ [];
      seen_is = ap (λ (v : Hop). step largest v restart) h.seen_is ∙ sym (run_append largest h.events (restart ∷ []) start);
      queue_is = subst (λ (o : Option Session). AreQueued (map renewed copies) o first) (sym named) still;
      numbered = subst (AreNumbered number) (sym ids) h.numbered;
      tagged = record {
        down = tt;
        ledger = subst (λ (xs : List CopyId). AllByRecursion (WasTagged number xs) r.ledger) (sym ids) h.tagged.ledger;
        once = subst (λ (xs : List CopyId). AllByRecursion (WasTagged number xs) r.once) (sym ids) h.tagged.once;
      };
    }

lost_all : (number : Numbering) (largest : ℕ) (all : List CopyId) (birth : ℕ) (r : Receiver) (now : ℕ) (b : Broker) → RunsWithAll number largest all birth r b
    → RunsWithAll number largest all birth (receiver_restarted r) (unopened now b.records)
lost_all number largest all birth r now b h =
    let x = h.receiving in
    record {
      after = map renewed h.after;
      same = renewed_ids h.after ∙ h.same;
      run_is = lost_runs number largest h.after now r h.session b h.run_is x;
      session = h.session;
      birth_is = h.birth_is;
      receiving = record { session = x.session; client = x.client; only = x.only; known = tt };
    }

lost_served : (client : List ℕ) (birth : ℕ) (ns : List ℕ) (now : ℕ) (b : Broker) → IsServed client birth ns b → IsServed client birth [] (unopened now b.records)
lost_served client birth ns now b v = record { sessions = v.sessions; lines = tt; births = v.births; given = λ n inside. absurd cc }

-- behind a restart the receiver has no line
pub lost_lines : (r : Receiver) → HasLines [] (receiver_restarted r)
lost_lines r = record { own = λ n e. absurd cc; old = λ n e. absurd cc }

-- ---- its own session is closed, which has nothing to settle

closed_all : (number : Numbering) (largest : ℕ) (all : List CopyId) (birth : ℕ) (r : Receiver) (x : Session) (b : Broker) → x.birth ≡ birth → RunsWithAll number largest all birth r b
    → RunsWithAll number largest all birth r (after (At (whose x) (Close b.now)) b)
closed_all number largest all birth r x b same h =
    let d = At (whose x) (Close b.now) in
    let c = after d b in
    let s = h.session in
    let y = h.receiving in
    let closed = with_columns (closed_row b.now s) s in
    let stored : session_at s.birth c.records ≡ Some closed =
    ap (λ (n : ℕ). session_at s.birth (changed_all (part_rows_of (Close b.now) (session_at n b.records)) b.records)) (same ∙ sym h.birth_is)
    ∙ session_closed s b.now b.records y.session in
    let only = only_deeds r.client s.birth (d ∷ []) b (tt, tt) y.only in
    let named : session_named r.client c.records ≡ Some closed = named_is r.client s.birth c.records closed only stored y.client in
    let named_first : session_named r.client b.records ≡ Some s = named_is r.client s.birth b.records s y.only y.session y.client in
    let stands : is_some (session_named r.client c.records) ≡ is_some (session_named r.client b.records) = ap is_some named ∙ sym (ap is_some named_first) in
    let linked = linked_on r.line.number b c refl in
    let seen_same : seen number h.after r c ≡ seen number h.after r b = λ i. record (seen number h.after r b) { stands = stands i; linked = linked i } in
    let queued : StandOn h.after s.queue (went_in s.birth b) = subst (λ (o : Option Session). AreQueued h.after o b) named_first h.run_is.queue_is in
    record {
      after = h.after;
      same = h.same;
      run_is = record {
        events = h.run_is.events;
        seen_is = seen_same ∙ h.run_is.seen_is;
        queue_is = subst (λ (o : Option Session). AreQueued h.after o c) (sym named) queued;
        numbered = h.run_is.numbered;
        tagged = h.run_is.tagged;
      };
      session = closed;
      birth_is = h.birth_is;
      receiving = record { session = stored; client = y.client; only = only; known = y.known };
    }

settles_none : (env : Env) (client : List ℕ) (birth : ℕ) (ns : List ℕ) (k : ℕ) (b : Broker) (o : Option Session) → session_at k b.records ≡ o → k ≡ birth → IsServed client birth ns b → settle env k b ≡ []
settles_none env client birth ns k b None e same v =
    let will : Session → Act = λ s. only_if (has_due_will b.now s) (publish_will env s) in
    let ends : Session → Act = λ s. only_if (has_due_end b.now s) (always (end_session s)) in
    act_none (of_session k will) (of_session k ends ∷ []) b (ap (λ (o : Option Session). with_session o will b) e)
    ∙ act_none (of_session k ends) [] b (ap (λ (o : Option Session). with_session o ends b) e)
settles_none env client birth ns k b (Some s) e same v =
    let its = all_at birth_of (IsOurs client birth) k s b.records.sessions v.sessions e in
    let is : s.birth ≡ birth = found_key birth_of k s b.records.sessions e ∙ same in
    settles_nothing env k s b e (its.no_will is) (its.no_end is)

-- ---- each session that was connected is closed, and then settled, its own or another

module _ (largest : ℕ) (env : Env) (small : env.limits.queue ≤ QUEUE_LIMIT) (r : Receiver) (birth : ℕ) (ns : List ℕ) (ids : List CopyId) (has : HasLines ns r) (plain : starts_with nat_eq r.client auto ≡ false) where
  abbrev Stays : Broker → Type 0
  Stays b = Kept largest env small r birth ns ids has b

  -- another session is closed; as it is settled its Will may be published, and bring the receiver a copy, and it may end
  other_shut : (x : Session) (b : Broker) → nat_eq x.birth birth ≡ false → Stays b → Stays (after_all (shuts x b) b)
  other_shut x b q k =
      (theirs_led largest env small r birth ns ids has (shuts x b) b ((q, tt), tt) (still_short QUEUE_LIMIT (At (whose x) (Close b.now)) b.records tt k.queues) k).1

  other_settled : (x : Session) (b : Broker) → nat_eq x.birth birth ≡ false → Stays b → Stays (after_all (settles env x b) b)
  other_settled x b q k =
      (leads_settle env (others r.client birth ns) Stays (IsMuteHere ns) (served_law largest env small r birth ns ids has plain) x.birth b k q).1

  -- its own is closed, and then has nothing to settle
  own_shut : (x : Session) (b : Broker) → x.birth ≡ birth → Stays b → Stays (after_all (shuts x b) b)
  own_shut x b same k =
      let d = At (whose x) (Close b.now) in
      let y = after d b in
      let numbers : y.records.publications ≡ b.records.publications = ap (λ (c : Counts). c.publications) (counts_deed d b.records) in
      record {
        served = kept_part r.client birth ns (whose x) (Close b.now) b tt k.served;
        queues = still_short QUEUE_LIMIT d b.records tt k.queues;
        grown = let g = k.grown in omega (arith, g, numbers);
        more = k.more;
        new = new_still largest env small r birth ns ids has b y k.more (omega (arith, numbers)) k.new;
        differ = k.differ;
        runs = λ number n. closed_all number largest (ids ++ k.more) birth r x b same (k.runs number n);
      }

  own_settled : (x : Session) (b : Broker) → x.birth ≡ birth → Stays b → Stays (after_all (settles env x b) b)
  own_settled x b same k =
      let nothing : settles env x b ≡ [] = settles_none env r.client birth ns x.birth b (session_at x.birth b.records) refl same k.served in
      subst (λ (ds : List Deed). Stays (after_all ds b)) (sym nothing) k

  one_shut : (x : Session) (b : Broker) → Stays b → Stays (after_all (shuts x b) b)
  one_shut x b k = elim (cases_Bool (nat_eq x.birth birth)) [
    | inl same ↦ own_shut x b (eqb-true x.birth birth same) k
    | inr other ↦ other_shut x b other k
  ]

  all_shut : (xs : List Session) (b : Broker) → Stays b → Stays (after_all (shuts_all xs b) b)
  all_shut [] b k = k
  all_shut (x ∷ xs) b k = all_shut xs (after_all (shuts x b) b) (one_shut x b k)

  one_settled : (x : Session) (b : Broker) → Stays b → Stays (after_all (settles env x b) b)
  one_settled x b k = elim (cases_Bool (nat_eq x.birth birth)) [
    | inl same ↦ own_settled x b (eqb-true x.birth birth same) k
    | inr other ↦ other_settled x b other k
  ]

  all_settled : (xs : List Session) (b : Broker) → Stays b → Stays (after_all (settles_all env xs b) b)
  all_settled [] b k = k
  all_settled (x ∷ xs) b k =
      let first = settles env x b in
      let c = after_all first b in
      subst Stays (sym (after_append first (settles_all env xs c) b)) (all_settled xs c (one_settled x b k))

  -- closing the sessions that stood connected, and then settling each, leaves all as the receiver needs it
  pub sessions_closed : (b : Broker) → Stays b → Stays (after_all (opening env b) b)
  sessions_closed b k =
      let ss = connected_in b.records in
      let first = shuts_all ss b in
      let c = after_all first b in
      let second = settles_all env ss c in
      subst Stays (sym (after_append first (second ++ []) b ∙ after_append second [] c)) (all_settled ss c (all_shut ss b k))

-- ---- the restart

-- a restart leaves the hop going on
pub restart_goes_on : (largest : ℕ) (ids : List CopyId) (limits : Capacity) (choice : MemberChoice) (now birth : ℕ) (ns : List ℕ) (r : Receiver) (b : Broker)
    → RunsFor largest ids birth r b → IsServed r.client birth ns b → IsTidy limits b → starts_with nat_eq r.client auto ≡ false
    → GoesOn largest ids birth [] b.records.publications (receiver_restarted r) (reopened limits choice now b)
restart_goes_on largest ids limits choice now birth ns r b f v tidy plain =
    let first = unopened now b.records in
    let env = env_of limits choice first in
    let q = receiver_restarted r in
    let has = lost_lines r in
    let kept : Kept largest env tidy.within q birth [] ids has first = record {
      served = lost_served r.client birth ns now b v;
      queues = record { ordered = tidy.ordered; short = queues_short b.records.sessions tidy.ordered.each };
      grown = omega arith;
      more = [];
      new = tt;
      differ = tt;
      runs = λ number n. lost_all number largest (ids ++ []) birth r now b (subst (λ (all : List CopyId). RunsWithAll number largest all birth r b) (sym (append-nil ids)) (f number (subst (AreNumbered number) (append-nil ids) n)));
    } in
    let ds = opening env first in
    let last = sessions_closed largest env tidy.within q birth [] ids has plain first kept in
    let rows = rows_of_all ds first.records in
    let c = after_all ds first in
    record {
      more = last.more;
      new = subst (λ (n : ℕ). AllByRecursion (IsNewCopy birth b.records.publications n) last.more) (sym (moment_numbers rows c)) last.new;
      differ = last.differ;
      runs = λ number n. done_all number largest (ids ++ last.more) birth q rows c (last.runs number n);
      served = moment_served q.client birth [] rows c last.served;
    }

-- ---- if no session of its name stands, none does after it

no_session : (o : Option Session) → is_some o ≡ false → o ≡ None
no_session None h = refl
no_session (Some s) h = absurd cc

none_opened : (limits : Capacity) (choice : MemberChoice) (now : ℕ) (client : List ℕ) (b : Broker) → session_named client b.records ≡ None → session_named client (opened limits choice now b.records).records ≡ None
none_opened limits choice now client b none =
    let same = ap (λ (w : InboundHop). w.stands) (empty_restart_is_hop limits choice now (new_publisher client) b [] none) in
    no_session (session_named client (opened limits choice now b.records).records) (same ∙ ap is_some none)

-- also if the receiver has no session
pub restart_without : (number : Numbering) (largest : ℕ) (copies : List Lot) (limits : Capacity) (choice : MemberChoice) (now : ℕ) (r : Receiver) (b : Broker)
    → IsRun number largest copies r b → session_named r.client b.records ≡ None
    → RunsOn number largest copies (receiver_restarted r) (reopened limits choice now b) × (session_named r.client (reopened limits choice now b).records ≡ None)
restart_without number largest copies limits choice now r b h none =
    let new = reopened limits choice now b in
    let q = receiver_restarted r in
    let ids = renewed_ids copies in
    let last = none_opened limits choice now r.client b none in
    let w = seen number copies r b in
    let stands : is_some (session_named r.client new.records) ≡ is_some (session_named r.client b.records) = ap is_some last ∙ sym (ap is_some none) in
    let same : seen number (map renewed copies) q new ≡ step largest w restart = λ i. record (step largest w restart) { stands = stands i } in
    let queued : still_standing copies ≡ [] = subst (λ (o : Option Session). AreQueued copies o b) none h.queue_is in
    let still : still_standing (map renewed copies) ≡ [] = still_renewed copies ∙ ap (map renewed) queued in
    let run_is : IsRun number largest (map renewed copies) q new = record {
      events = h.events ++ restart ∷ [];
      seen_is = same ∙ (ap (λ (v : Hop). step largest v restart) h.seen_is ∙ sym (run_append largest h.events (restart ∷ []) start));
      queue_is = subst (λ (o : Option Session). AreQueued (map renewed copies) o new) (sym last) still;
      numbered = subst (AreNumbered number) (sym ids) h.numbered;
      tagged = record {
        down = tt;
        ledger = subst (λ (xs : List CopyId). AllByRecursion (WasTagged number xs) r.ledger) (sym ids) h.tagged.ledger;
        once = subst (λ (xs : List CopyId). AllByRecursion (WasTagged number xs) r.once) (sym ids) h.tagged.once;
      };
    } in
    (record { after = map renewed copies; same = ids; run_is = run_is }, last)
