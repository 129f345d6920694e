-- A drain, turn by turn: in each only copies of its receiver end, for what ends them in a drain.
use Rattle.std.proofs.Common.{◌≡◌, ℕ, zero, suc, Bool, true, false, not, ◌||◌, ◌&&◌, List, [], ◌∷◌, ◌++◌, map, Option, Some, None, bytes_eq, refl, sym, ap, subst, ◌∙◌, append_assoc}
use Rattle.std.specs.Prelude.{⊤, cond, is_some, flat_map, max}
use Rattle.std.specs.List.{AllByRecursion}
use Rattle.std.proofs.lemmas.Slice.Eq.{bytes_eq-Decides}
use Rattle.std.proofs.lemmas.Grind.{flat_map-append}
use Rattle.mqtt_rules.proofs.step_lemmas.numbers.Copies.{each_append}
use Rattle.mqtt_rules.proofs.step_lemmas.acts.Leads.{found_passes}
use Rattle.mqtt_base.specs.declared.session.Phase.{Phase}
use Rattle.mqtt_base.specs.declared.session.Phase.TheVariants.{Waiting, Sent, Released, Oversize}
use Rattle.mqtt_flow.specs.declared.outbound.entry.Entry.{Entry as FlowEntry}
use Rattle.mqtt_rules.specs.step.State.{Broker, MemberChoice, capped, queue_on}
use Rattle.mqtt_rules.specs.step.Deeds.{Deed, after_all, rows_of_all}
use Rattle.mqtt_rules.proofs.step_lemmas.numbers.Counters.{now_stays}
use Rattle.mqtt_records.specs.declared.state.change.Change.{Change}
use Rattle.mqtt_world_model.specs.model.World.{happens as happen}
use Rattle.std.proofs.Math.Nat.{le-max_right, max-eq_left}
use Rattle.mqtt_rules.specs.step.Step.{Call, Input, Pump, at_moment, deeds, done, with_moment}
use Rattle.mqtt_rules.specs.declared.step.Capacity.{Capacity}
use Rattle.mqtt_world_model.specs.model.Ends.{Back, Publisher, Receiver, wire_back}
use Rattle.mqtt_world_model.specs.model.Run.{Turn, are_beginnings_clean, begins_clean, read_at, read_if, read_in, run, setting, turned}
use Rattle.mqtt_world_model.specs.model.World.{Event, Setting, View, World, ask, before, calls, calls_if, input_on, is_bad, pump, pump_on, receiver_named, start, to_broker, to_end, view_by, view_of}
use Rattle.mqtt_world_laws.proofs.acceptance_lemmas.copies.Walks.{counted}
use Rattle.mqtt_world_laws.specs.acceptance.Fair.{IsFair}
use Rattle.mqtt_world_laws.specs.acceptance.Spending.{run_spends, spending}
use Rattle.mqtt_world_laws.specs.acceptance.Steps.{step_called}
use Rattle.mqtt_world_laws.proofs.acceptance_lemmas.publishers.Runs.{either}
use Rattle.mqtt_world_laws.specs.causes.Causes.{HasCause}
use Rattle.mqtt_world_laws.specs.causes.Endings.{Asked, EndAt, asked_over, ends_in, ends_over, the_asked}
use Rattle.mqtt_world_laws.proofs.causes_lemmas.CauseRuns.{run_caused}
use Rattle.mqtt_world_laws.specs.receiver.Drains.{Doing, after_round, all_to_broker, all_to_end, all_turns, drain_by, drain_turns, drains, downs_by, happens, is_bad_drain, is_none_left, copies_left, is_over, line_stands, round_turns, times, turn_of, turns_of, ups_by}
use Rattle.mqtt_world_laws.proofs.receiver_lemmas.drains.DrainRuns.{run_append}
use Rattle.mqtt_world_laws.specs.delivery.Standing.{IsPlaced, IsSeen}
use Rattle.mqtt_world_laws.specs.receiver.Connecting.{any_size}
use Rattle.mqtt_world_laws.specs.delivery.Untouched.{IsUntouched}
use Rattle.mqtt_world_laws.proofs.delivery_lemmas.drains.Drains.{round_carried}
use Rattle.mqtt_world_laws.proofs.delivery_lemmas.whole.EveryRun.{carried_append, fair_run_kept, spent_append}
use Rattle.mqtt_world_laws.proofs.delivery_lemmas.whole.Ledgers.{run_remains}
use Rattle.mqtt_world_laws.proofs.delivery_lemmas.broker.Untouched.{start_untouched}
use Rattle.mqtt_world_laws.proofs.delivery_lemmas.others.Runs.{IsKept, turn_kept}
use Rattle.mqtt_world_laws.specs.drain_causes.DrainEnds.{moment_of, AllDrainsEndSo, AreOfDrain, EndOfDrain, EndWhere, IsOfDrain}
use Rattle.mqtt_world_laws.proofs.drain_causes_lemmas.OwnEnds.{AreFit, AreOwn, IsFitPhase, IsIts, all_its, ends_by}
use Rattle.mqtt_world_laws.proofs.drain_causes_lemmas.OwnCalls.{HasFit, SaysWell, input_own, pump_own}
use Rattle.mqtt_world_laws.proofs.drain_causes_lemmas.Sayings.{AllSay, named_says, none_say, run_say, turned_say}

abbrev pub AreIts : Type 0 → List ℕ → ℕ → List Asked → Type 0
AreIts large client moment xs = AllByRecursion (λ (x : Asked). AllByRecursion (IsIts large client moment) (ends_in x)) xs

both_its : (large : Type 0) (client : List ℕ) (moment : ℕ) (xs ys : List Asked) → AreIts large client moment xs → AreIts large client moment ys → AreIts large client moment (xs ++ ys)
both_its large client moment xs ys p q = each_append (λ (x : Asked). AllByRecursion (IsIts large client moment) (ends_in x)) xs ys p q

-- ---- the moment stands while the broker is asked

moment_stays : (rows : List Change) (b : Broker) → (with_moment rows b).now ≡ b.now
moment_stays [] b = refl
moment_stays (row ∷ rows) b = refl

done_now : (ds : List Deed) (b : Broker) → (done ds b).now ≡ b.now
done_now ds b = moment_stays (rows_of_all ds b.records) (after_all ds b) ∙ now_stays ds b

twice : (m n : ℕ) → max (max m n) n ≡ max m n
twice m n = max-eq_left (le-max_right m n)

call_moment : (set : Setting) (call : Call) (w : World) → moment_of (calls set call w) ≡ moment_of w
call_moment set call w =
    let b = w.broker in
    ap (λ (n : ℕ). max n (capped w.now)) (done_now (deeds set.limits set.choice w.now call b) (at_moment w.now b)) ∙ twice b.now (capped w.now)

if_moment : (set : Setting) (o : Option Call) (w : World) → moment_of (calls_if set o w) ≡ moment_of w
if_moment set None w = refl
if_moment set (Some call) w = call_moment set call w

-- the receiver's copies fit wherever it stands, but if this holds
abbrev pub FitsWherever : Type 0 → List ℕ → Capacity → Type 0
FitsWherever large client limits = (w : World) (r : Receiver) → IsKept [] client limits w → receiver_named client w ≡ Some r → HasFit large r w.broker

-- the receiver stands, is there, and says that all is well
record IsReady (client : List ℕ) (limits : Capacity) (moment : ℕ) (w : World) : Type 0 where
  kept : IsKept [] client limits w
  there : is_some (receiver_named client w) ≡ true
  says : AllSay w
  at : moment_of w ≡ moment

-- two lists of turns ask what both ask
pub asked_append : (limits : Capacity) (xs ys : List Turn) (w : World) → asked_over limits (xs ++ ys) w ≡ asked_over limits xs w ++ asked_over limits ys (run limits xs w)
asked_append limits [] ys w = refl
asked_append limits (t ∷ xs) ys w =
    let first = read_at the_asked (setting limits t) t.event w in
    let v = turned limits t w in
    ap (λ (zs : List Asked). first ++ zs) (asked_append limits xs ys v) ∙ sym (append_assoc first (asked_over limits xs v) (asked_over limits ys (run limits xs v)))

module _ (large : Type 0) (client : List ℕ) (limits : Capacity) (fits : FitsWherever large client limits) (choice : MemberChoice) (moment : ℕ) where
  abbrev set : Setting
  set = record { limits = limits; choice = choice }

  abbrev its : Event → Turn
  its e = turn_of choice e

  -- ---- what is asked of the broker

  call_its : (o : Option Call) (w : World) → moment_of w ≡ moment → ((call : Call) → o ≡ Some call → AreOwn large client (Some call) (deeds limits choice w.now call w.broker)) → AreIts large client moment (read_if the_asked set o w)
  call_its None w at h = tt
  call_its (Some call) w at h =
      let x : Asked = record { call = Some call; step = step_called set call w } in
      (all_its large client x moment x.step.deeds x.step.broker at (h call refl), tt)

  named_client : (r : Receiver) (w : World) → receiver_named client w ≡ Some r → r.client ≡ client
  named_client r w e = (bytes_eq-Decides r.client client).0 (found_passes (λ (q : Receiver). bytes_eq q.client client) r w.receivers e)

  module _ (w : World) (ready : IsReady client limits moment w) (r : Receiver) (e : receiver_named client w ≡ Some r) where
    placed : IsPlaced any_size ready.kept.stands.ids ready.kept.stands.ns r w.broker
    placed = subst (IsSeen any_size ready.kept.stands.ids ready.kept.stands.ns w.broker) e ready.kept.stands.standing.seen

    view : view_of client w ≡ view_by None (Some r)
    view = ap (λ (o : Option Publisher). view_by o (receiver_named client w)) (ready.kept.stands.standing.around.alone (ap is_some e)) ∙ ap (λ (o : Option Receiver). view_by None o) e

    pumped : (number : Option ℕ) → r.line.number ≡ number → (call : Call) → pump_on number ≡ Some call → AreOwn large client (Some call) (deeds limits choice w.now call w.broker)
    pumped None is call asked = absurd cc
    pumped (Some n) is call asked =
        let same : Pump n ≡ call = cc in
        subst (λ (x : Call). AreOwn large client (Some x) (deeds limits choice w.now x w.broker)) same
        (subst (λ (c : List ℕ). AreOwn large c (Some (Pump n)) (deeds limits choice w.now (Pump n) w.broker)) (named_client r w e)
        (pump_own large limits choice w.now r w.broker (fits w r ready.kept e) any_size ready.kept.stands.ids ready.kept.stands.ns placed n is))

    read : (number : Option ℕ) (up : List Back) → r.line.number ≡ number → r.line.up ≡ up → AllByRecursion SaysWell up → (call : Call) → input_on number (map (wire_back r.client r.window r.aliases) up) ≡ Some call
        → AreOwn large client (Some call) (deeds limits choice w.now call w.broker)
    read None up is ups says call asked = absurd cc
    read (Some n) [] is ups says call asked = absurd cc
    read (Some n) (x ∷ rest) is ups says call asked =
        let same : Input n (wire_back r.client r.window r.aliases x) ≡ call = cc in
        subst (λ (y : Call). AreOwn large client (Some y) (deeds limits choice w.now y w.broker)) same
        (subst (λ (c : List ℕ). AreOwn large c (Some (Input n (wire_back r.client r.window r.aliases x))) (deeds limits choice w.now (Input n (wire_back r.client r.window r.aliases x)) w.broker)) (named_client r w e)
        (input_own large limits choice w.now r w.broker (fits w r ready.kept e) any_size ready.kept.stands.ids ready.kept.stands.ns placed n x rest is ups says.0))

    pump_its : AreIts large client moment (read_in the_asked set (ask (pump client)) w)
    pump_its =
        let number : (view_of client w).number ≡ r.line.number = ap (λ (v : View). v.number) view in
        call_its (pump_on (view_of client w).number) w ready.at (λ call asked. pumped r.line.number refl call (ap pump_on (sym number) ∙ asked))

    read_its : AreIts large client moment (read_in the_asked set (ask (to_broker client)) w)
    read_its =
        let v = view_of client w in
        let same : input_on v.number v.up ≡ input_on r.line.number (map (wire_back r.client r.window r.aliases) r.line.up) = ap (λ (x : View). input_on x.number x.up) view in
        call_its (input_on v.number v.up) (before set (to_broker client) w) ready.at (λ call asked. read r.line.number r.line.up refl refl (named_says client r w ready.says e) call (sym same ∙ asked))

  -- ---- a turn

  record IsRight (e : Event) : Type 0 where
    ends : (w : World) → IsReady client limits moment w → AreIts large client moment (read_in the_asked set e w)
    stands : (w : World) → moment_of (happen set e w) ≡ moment_of w

  with_receiver_there : (w : World) → IsReady client limits moment w → (P : Type 0) → ((r : Receiver) → receiver_named client w ≡ Some r → P) → P
  with_receiver_there w ready P h = by (receiver_named client w) refl ready.there
    where
      by : (o : Option Receiver) → receiver_named client w ≡ o → is_some o ≡ true → P
      by None e some = absurd cc
      by (Some r) e some = h r e

  pump_right : IsRight (ask (pump client))
  pump_right = record {
    ends = λ w ready. with_receiver_there w ready (AreIts large client moment (read_in the_asked set (ask (pump client)) w)) (λ r e. pump_its w ready r e);
    stands = λ w. if_moment set (pump_on (view_of client w).number) w;
  }

  read_right : IsRight (ask (to_broker client))
  read_right = record {
    ends = λ w ready. with_receiver_there w ready (AreIts large client moment (read_in the_asked set (ask (to_broker client)) w)) (λ r e. read_its w ready r e);
    stands = λ w. if_moment set (input_on (view_of client w).number (view_of client w).up) (before set (to_broker client) w);
  }

  end_right : IsRight (to_end client)
  end_right = record { ends = λ w ready. tt; stands = λ w. refl }

  turn_its : (e : Event) (w : World) → IsRight e → IsReady client limits moment w → AreIts large client moment (read_at the_asked (setting limits (its e)) e w)
  turn_its e w right ready = by (is_bad e w)
    where
      by : (bad : Bool) → AreIts large client moment (cond bad [] (read_in the_asked set e w))
      by true = tt
      by false = right.ends w ready

  stays_there : (ts : List Turn) (w : World) → is_some (receiver_named client w) ≡ true → is_some (receiver_named client (run limits ts w)) ≡ true
  stays_there ts w there = by (receiver_named client w) refl there
    where
      by : (o : Option Receiver) → receiver_named client w ≡ o → is_some o ≡ true → is_some (receiver_named client (run limits ts w)) ≡ true
      by None e some = absurd cc
      by (Some r) e some = ap is_some (run_remains client limits ts w r e).1

  moment_after : (e : Event) (w : World) → IsRight e → moment_of (turned limits (its e) w) ≡ moment_of w
  moment_after e w right = by (is_bad e w)
    where
      by : (bad : Bool) → moment_of (cond bad w (happen set e w)) ≡ moment_of w
      by true = refl
      by false = right.stands w

  ready_after : (e : Event) (w : World) → IsRight e → begins_clean e w ≡ true → IsReady client limits moment w → run_spends limits (its e ∷ []) w ≡ false → IsReady client limits moment (turned limits (its e) w)
  ready_after e w right clean ready unspent = record {
    kept = turn_kept [] client limits (its e) w ready.kept clean (either (read_at spending (setting limits (its e)) e w) false unspent).0;
    there = stays_there (its e ∷ []) w ready.there;
    says = turned_say limits (its e) w ready.says;
    at = moment_after e w right ∙ ready.at;
  }

  -- ---- some turns, in the end

  -- their ends, and where they come to
  record Goes (ts : List Turn) (w : World) : Type 0 where
    ends : AreIts large client moment (asked_over limits ts w)
    ready : IsReady client limits moment (run limits ts w)

  go_on : (xs ys : List Turn) (w : World) → Goes xs w → Goes ys (run limits xs w) → Goes (xs ++ ys) w
  go_on xs ys w p q = record {
    ends = subst (AreIts large client moment) (sym (asked_append limits xs ys w)) (both_its large client moment (asked_over limits xs w) (asked_over limits ys (run limits xs w)) p.ends q.ends);
    ready = subst (IsReady client limits moment) (sym (run_append limits xs ys w)) q.ready;
  }

  one_goes : (e : Event) (w : World) → IsRight e → ((v : World) → begins_clean e v ≡ true) → IsReady client limits moment w → run_spends limits (its e ∷ []) w ≡ false → Goes (its e ∷ []) w
  one_goes e w right clean ready unspent = record {
    ends = both_its large client moment (read_at the_asked (setting limits (its e)) e w) [] (turn_its e w right ready) tt;
    ready = ready_after e w right (clean w) ready unspent;
  }

  times_go : (n : ℕ) (e : Event) (w : World) → IsRight e → ((v : World) → begins_clean e v ≡ true) → IsReady client limits moment w → run_spends limits (times n (its e)) w ≡ false → Goes (times n (its e)) w
  times_go zero e w right clean ready unspent = record { ends = tt; ready = ready }
  times_go (suc n) e w right clean ready unspent =
      let costs = spent_append limits (its e ∷ []) (times n (its e)) w unspent in
      let first = one_goes e w right clean ready costs.0 in
      go_on (its e ∷ []) (times n (its e)) w first (times_go n e (turned limits (its e) w) right clean first.ready costs.1)

  round_goes : (w : World) → IsReady client limits moment w → run_spends limits (round_turns limits choice client w) w ≡ false
      → Goes (round_turns limits choice client w) w
  round_goes w ready unspent =
      let sends : List Turn = its (ask (pump client)) ∷ [] in
      let sent = run limits sends w in
      let reads = all_to_end choice client sent in
      let then_ = run limits reads sent in
      let answers = all_to_broker choice client then_ in
      let costs = spent_append limits sends (reads ++ answers) w unspent in
      let later = spent_append limits reads answers sent costs.1 in
      let one = one_goes (ask (pump client)) w pump_right (λ v. refl) ready costs.0 in
      let two = times_go (downs_by (receiver_named client sent)) (to_end client) sent end_right (λ v. refl) one.ready later.0 in
      let three = times_go (ups_by (receiver_named client then_)) (ask (to_broker client)) then_ read_right (λ v. refl) two.ready later.1 in
      go_on sends (reads ++ answers) w one (go_on reads answers sent two three)

  -- if a drain goes on its receiver is there
  has_receiver : (w : World) → is_over client w ≡ false → is_some (receiver_named client w) ≡ true
  has_receiver w on = by (receiver_named client w) refl
    where
      none : (t : Bool) → (t || not false) ≡ false → false ≡ true
      none true h = absurd cc
      none false h = absurd cc

      by : (o : Option Receiver) → receiver_named client w ≡ o → is_some o ≡ true
      by (Some r) e = refl
      by None e = none (is_none_left (copies_left client w)) (sym (ap (λ (o : Option Receiver). is_none_left (copies_left client w) || not (line_stands o w)) e) ∙ on)

  -- in a drain that spends no number only the receiver's copies end, for what ends them in a drain
  pub drain_its : (most : ℕ) (w : World) → IsKept [] client limits w → AllSay w → moment_of w ≡ moment → run_spends limits (drain_turns limits choice client most w) w ≡ false
      → AreIts large client moment (asked_over limits (drain_turns limits choice client most w) w)
  drain_its zero w kept says at unspent = tt
  drain_its (suc most) w kept says at unspent = by (is_over client w) refl unspent (λ v k s a u. drain_its most v k s a u)
    where
      by : (over : Bool) → is_over client w ≡ over → run_spends limits (drain_by over (round_turns limits choice client w) (drain_turns limits choice client most (after_round limits choice client w))) w ≡ false
          → ((u : World) → IsKept [] client limits u → AllSay u → moment_of u ≡ moment → run_spends limits (drain_turns limits choice client most u) u ≡ false
          → AreIts large client moment (asked_over limits (drain_turns limits choice client most u) u)) → AreIts large client moment (asked_over limits (drain_by over (round_turns limits choice client w) (drain_turns limits choice client most (after_round limits choice client w))) w)
      by true is u next = tt
      by false is u next =
          let xs = round_turns limits choice client w in
          let v = after_round limits choice client w in
          let ys = drain_turns limits choice client most v in
          let costs = spent_append limits xs ys w u in
          let first = round_goes w (record { kept = kept; there = has_receiver w is; says = says; at = at }) costs.0 in
          subst (AreIts large client moment) (sym (asked_append limits xs ys w)) (both_its large client moment (asked_over limits xs w) (asked_over limits ys v) first.ends (next v first.ready.kept first.ready.says first.ready.at costs.1))

-- ---- whatever their sizes

any_phase : (phase : Phase) → IsFitPhase ⊤ phase
any_phase Waiting = tt
any_phase (Sent i) = tt
any_phase (Released i order) = tt
any_phase (Oversize i order) = tt

all_fit : (largest : ℕ) (es : List FlowEntry) → AreFit ⊤ largest es
all_fit largest [] = tt
all_fit largest (e ∷ es) = (record { released = any_phase e.phase; above = λ h. tt }, all_fit largest es)

any_fit : (client : List ℕ) (limits : Capacity) → FitsWherever ⊤ client limits
any_fit client limits w r kept e n l birth s number at on there its = all_fit l.largest (queue_on l.went s)

-- ---- with their causes

or_none : {b c : Bool} (a : Bool) → (a || b) ≡ false → (b ≡ false → c ≡ false) → (a || c) ≡ false
or_none true h k = h
or_none false h k = k h

spent_joined : (limits : Capacity) (xs ys : List Turn) (w : World) → run_spends limits xs w ≡ false → run_spends limits ys (run limits xs w) ≡ false → run_spends limits (xs ++ ys) w ≡ false
spent_joined limits [] ys w h k = k
spent_joined limits (t ∷ xs) ys w h k = or_none (read_at spending (setting limits t) t.event w) h (λ e. spent_joined limits xs ys (turned limits t w) e k)

both_and : {b c : Bool} (a : Bool) → (a && b) ≡ true → (b ≡ true → c ≡ true) → (a && c) ≡ true
both_and true h k = k h
both_and false h k = absurd cc

clean_joined : (limits : Capacity) (xs ys : List Turn) (w : World) → are_beginnings_clean limits xs w ≡ true → are_beginnings_clean limits ys (run limits xs w) ≡ true → are_beginnings_clean limits (xs ++ ys) w ≡ true
clean_joined limits [] ys w h k = k
clean_joined limits (t ∷ xs) ys w h k = both_and (begins_clean t.event w) h (λ e. clean_joined limits xs ys (turned limits t w) e k)

drain_clean : (limits : Capacity) (choice : MemberChoice) (client : List ℕ) (most : ℕ) (w : World) → are_beginnings_clean limits (drain_turns limits choice client most w) w ≡ true
drain_clean limits choice client zero w = refl
drain_clean limits choice client (suc most) w = by (is_over client w) (drain_clean limits choice client most (after_round limits choice client w))
  where
    by : (over : Bool) → are_beginnings_clean limits (drain_turns limits choice client most (after_round limits choice client w)) (after_round limits choice client w) ≡ true
        → are_beginnings_clean limits (drain_by over (round_turns limits choice client w) (drain_turns limits choice client most (after_round limits choice client w))) w ≡ true
    by true more = refl
    by false more = clean_joined limits (round_turns limits choice client w) (drain_turns limits choice client most (after_round limits choice client w)) w (round_carried client limits choice w) more

last_of : (xs ys : List EndAt) → AllByRecursion HasCause (xs ++ ys) → AllByRecursion HasCause ys
last_of [] ys h = h
last_of (x ∷ xs) ys h = last_of xs ys h.1

-- two lists of turns end the copies of both
pub ends_append : (limits : Capacity) (xs ys : List Turn) (w : World) → ends_over limits (xs ++ ys) w ≡ ends_over limits xs w ++ ends_over limits ys (run limits xs w)
ends_append limits xs ys w = ap (flat_map ends_in) (asked_append limits xs ys w) ∙ flat_map-append ends_in (asked_over limits xs w) (asked_over limits ys (run limits xs w))

-- steps of a drain end copies of the drained session
pub joined_its : (large : Type 0) (client : List ℕ) (moment : ℕ) (xs : List Asked) → AreIts large client moment xs → AllByRecursion (IsIts large client moment) (flat_map ends_in xs)
joined_its large client moment [] h = tt
joined_its large client moment (x ∷ xs) h = each_append (IsIts large client moment) (ends_in x) (flat_map ends_in xs) h.0 (joined_its large client moment xs h.1)

with_causes : (client : List ℕ) (moment : ℕ) (xs : List EndAt) → AllByRecursion (IsIts ⊤ client moment) xs → AllByRecursion HasCause xs → AllByRecursion (IsOfDrain client moment) xs
with_causes client moment [] p q = tt
with_causes client moment (x ∷ xs) p q = let y = p.0 in (record { its = y.its; by = ends_by ⊤ client x.asked.call x.ending y.by; at = y.at; cause = q.0 }, with_causes client moment xs p.1 q.1)

-- in a drain copies end as the definition says
pub drain_ends : (limits : Capacity) (ts : List Turn) (choice : MemberChoice) (client : List ℕ) (most : ℕ) (w : World) → IsUntouched limits w → IsFair limits ts w
    → run_spends limits (drain_turns limits choice client most (run limits ts w)) (run limits ts w) ≡ false → EndOfDrain limits choice client most (run limits ts w)
drain_ends limits ts choice client most w u fair unspent =
    let v = run limits ts w in
    let turns = drain_turns limits choice client most v in
    let all : IsFair limits (ts ++ turns) w = record { within = fair.within; unspent = spent_joined limits ts turns w fair.unspent unspent; clean = clean_joined limits ts turns w fair.clean (drain_clean limits choice client most v) } in
    let caused = run_caused limits (ts ++ turns) w u.new (counted limits (ts ++ turns) w all) in
    let causes = last_of (ends_over limits ts w) (ends_over limits turns v) (subst (AllByRecursion HasCause) (ends_append limits ts turns w) caused) in
    let its = joined_its ⊤ client (moment_of v) (asked_over limits turns v)
    (drain_its ⊤ client limits (any_fit client limits) choice (moment_of v) most v (fair_run_kept limits ts w u fair client) (run_say limits ts w (none_say w u.new.receivers)) refl unspent) in
    with_causes client (moment_of v) (ends_over limits turns v) its causes

-- ---- of scripts

first_fair : (limits : Capacity) (xs ys : List Turn) (w : World) → IsFair limits (xs ++ ys) w → IsFair limits xs w × (run_spends limits ys (run limits xs w) ≡ false)
first_fair limits xs ys w fair =
    let costs = spent_append limits xs ys w fair.unspent in
    (record { within = fair.within; unspent = costs.0; clean = (carried_append limits xs ys w fair.clean).0 }, costs.1)

script_from : (limits : Capacity) (ts : List Turn) (ds : List Doing) (w : World) → IsUntouched limits w → IsFair limits (ts ++ all_turns limits ds (run limits ts w)) w → AllDrainsEndSo limits ds (run limits ts w)
script_from limits ts [] w u fair = tt
script_from limits ts (d ∷ ds) w u fair =
    let v = run limits ts w in
    let turns = turns_of limits d v in
    let more = all_turns limits ds (run limits turns v) in
    let at : run limits (ts ++ turns) w ≡ run limits turns v = run_append limits ts turns w in
    let whole : IsFair limits ((ts ++ turns) ++ all_turns limits ds (run limits (ts ++ turns) w)) w
    = subst (λ (x : World). IsFair limits ((ts ++ turns) ++ all_turns limits ds x) w) (sym at) (subst (λ (xs : List Turn). IsFair limits xs w) (sym (append_assoc ts turns more)) fair)
    in
    let first = first_fair limits ts (turns ++ more) w fair in
    (here d (first.0) (spent_append limits turns more v first.1).0, subst (AllDrainsEndSo limits ds) at (script_from limits (ts ++ turns) ds w u whole))
  where
    here : (d : Doing) → IsFair limits ts w → run_spends limits (turns_of limits d (run limits ts w)) (run limits ts w) ≡ false → EndWhere limits d (run limits ts w)
    here (happens t) f unspent = tt
    here (drains choice client most) f unspent = by (is_bad_drain client (run limits ts w)) unspent
      where
        by : (bad : Bool) → run_spends limits (cond bad [] (drain_turns limits choice client most (run limits ts w))) (run limits ts w) ≡ false
            → AreOfDrain client limits (cond bad [] (drain_turns limits choice client most (run limits ts w))) (run limits ts w)
        by true h = tt
        by false h = drain_ends limits ts choice client most w u f h

-- so in all drains of a script
pub script_ends : (limits : Capacity) (ds : List Doing) (w : World) → IsUntouched limits w → IsFair limits (all_turns limits ds w) w → AllDrainsEndSo limits ds w
script_ends limits ds w u fair = script_from limits [] ds w u fair

-- also from the start
pub start_ends : (limits : Capacity) (ds : List Doing) → IsFair limits (all_turns limits ds start) start → AllDrainsEndSo limits ds start
start_ends limits ds fair = script_ends limits ds start (start_untouched limits fair.within) fair
