-- Every run of the world, by the deeds of its steps: what holds of the deeds of each call and opening holds of all of them.
use Rattle.std.proofs.Common.{◌≡◌, ℕ, zero, suc, Bool, true, false, cond, List, [], ◌∷◌, ◌++◌, Option, Some, None, refl, sym, subst}
use Rattle.std.specs.Prelude.{is_some}
use Rattle.mqtt_rules.specs.declared.step.Capacity.{Capacity}
use Rattle.mqtt_rules.specs.step.State.{Broker, MemberChoice}
use Rattle.mqtt_rules.specs.step.Deeds.{Deed, Link}
use Rattle.mqtt_rules.specs.step.Laws.{AreWithin}
use Rattle.mqtt_rules.specs.step.Step.{Call, NewLine, can_link, env_of, deeds, stepped, opened, opening, unopened, is_step_spent, is_opening_spent}
use Rattle.mqtt_world_model.specs.model.World.{World, Setting, Event, publisher, receiver, connect_end, give_up, publish, subscribe, to_end, clock, ask, restart, stop_before, stop_after, Asking, to_broker, old_to_broker, break, pump, tick, stranger, stranger_named, calls, calls_if, restarts, links, linked_at, comes, next_held, call_of_stranger, answers_rest, held_count, before, call_of, first_step, asks, is_bad, happens}
use Rattle.mqtt_world_model.specs.model.Run.{Turn, setting, turned, run, deeds_at, deeds_over, read_if, read_rest, read_first, read_asked, read_opening, read_in, read_at, the_deeds}
use Rattle.mqtt_world_laws.specs.acceptance.Spending.{run_spends, spending}
use Rattle.mqtt_world_laws.specs.acceptance.Fair.{IsSteady, IsNew, IsCounted, IsFair}
use Rattle.mqtt_world_laws.proofs.acceptance_lemmas.copies.Steady.{steady_step, steady_again, linking_spends_none}
use Rattle.mqtt_world_laws.proofs.acceptance_lemmas.publishers.Runs.{either}

-- what is said of deeds, with the broker before and after them: of none, of some and then others, of each call and opening
pub record Walk (limits : Capacity) (R : List Deed → Broker → Broker → Type 0) : Type 0 where
  pub none : (b : Broker) → R [] b b
  pub next : (xs ys : List Deed) (a b d : Broker) → R xs a b → R ys b d → R (xs ++ ys) a d
  pub unlink : (n : ℕ) (b d : Broker) → R (Link n ∷ []) b d → R [] b d
  pub link : (n : ℕ) (b d : Broker) → R [] b d → R (Link n ∷ []) b d
  pub call : (choice : MemberChoice) (now : ℕ) (call : Call) (b : Broker) → IsSteady b → is_step_spent limits choice now call b ≡ false
      → R (deeds limits choice now call b) b (stepped limits choice now call b)
  pub open_again : (choice : MemberChoice) (now : ℕ) (b : Broker) → IsSteady b → is_opening_spent limits choice now b.records ≡ false
      → R (opening (env_of limits choice (unopened now b.records)) (unopened now b.records)) b (opened limits choice now b.records)

-- from one world to another, by these deeds
pub record Steps (limits : Capacity) (R : List Deed → Broker → Broker → Type 0) (ds : List Deed) (w v : World) : Type 0 where
  pub steady : IsSteady v.broker
  pub said : R ds w.broker v.broker

module _ (R : List Deed → Broker → Broker → Type 0) (set : Setting) (walk : Walk set.limits R) (within : AreWithin set.limits) where
  abbrev pub Goes : List Deed → World → World → Type 0
  Goes ds w v = Steps set.limits R ds w v

  still : (w v : World) → IsSteady w.broker → v.broker ≡ w.broker → Goes [] w v
  still w v s same = subst (λ (b : Broker). Steps set.limits R [] w (record v { broker = b })) (sym same) (record { steady = s; said = walk.none w.broker })

  then_goes : (xs ys : List Deed) (w u v : World) → Goes xs w u → Goes ys u v → Goes (xs ++ ys) w v
  then_goes xs ys w u v p q = record { steady = q.steady; said = walk.next xs ys w.broker u.broker v.broker p.said q.said }

  call_goes : (call : Call) (w : World) → IsSteady w.broker → read_if spending set (Some call) w ≡ false → Goes (deeds set.limits set.choice w.now call w.broker) w (calls set call w)
  call_goes call w s unspent = record { steady = steady_step set.limits set.choice w.now call w.broker within s unspent; said = walk.call set.choice w.now call w.broker s unspent }

  -- a call goes by its deeds
  pub if_goes : (call : Option Call) (w : World) → IsSteady w.broker → read_if spending set call w ≡ false → Goes (read_if the_deeds set call w) w (calls_if set call w)
  if_goes None w s unspent = still w w s refl
  if_goes (Some call) w s unspent = call_goes call w s unspent

  opening_goes : (w : World) → IsSteady w.broker → read_opening spending set w ≡ false → Goes (read_opening the_deeds set w) w (restarts set w)
  opening_goes w s unspent = record { steady = steady_again set.limits set.choice w.now w.broker within s unspent; said = walk.open_again set.choice w.now w.broker s unspent }

  -- a new line
  linking_goes : (w : World) → IsSteady w.broker → Goes [] w (calls set NewLine w)
  linking_goes w s =
      let x = call_goes NewLine w s (linking_spends_none set.limits set.choice w.now w.broker) in
      record { steady = x.steady; said = by (can_link set.limits w.broker) refl x.said }
    where
      new : Broker
      new = stepped set.limits set.choice w.now NewLine w.broker

      by : (t : Bool) → can_link set.limits w.broker ≡ t → R (deeds set.limits set.choice w.now NewLine w.broker) w.broker new → R [] w.broker new
      by false can h = subst (λ (t : Bool). R (cond t (Link (suc w.broker.given) ∷ []) []) w.broker new) can h
      by true can h = walk.unlink (suc w.broker.given) w.broker new (subst (λ (t : Bool). R (cond t (Link (suc w.broker.given) ∷ []) []) w.broker new) can h)

  -- ---- what is asked for

  -- bytes that come on a stranger's line go by no deeds
  pub comes_goes : (name bytes : List ℕ) (w : World) → IsSteady w.broker → Goes [] w (comes set name bytes w)
  comes_goes name bytes w s = by (is_some (stranger_named name w))
    where
      by : (t : Bool) → Goes [] w (linked_at set t name bytes w)
      by true = still w (linked_at set true name bytes w) s refl
      by false = let x = linking_goes w s in record { steady = x.steady; said = x.said }

  -- what comes before a call goes by no deeds
  pub before_goes : (a : Asking) (w : World) → IsSteady w.broker → Goes [] w (before set a w)
  before_goes (to_broker d) w s = still w (before set (to_broker d) w) s refl
  before_goes (old_to_broker d) w s = still w (before set (old_to_broker d) w) s refl
  before_goes (break d) w s = still w w s refl
  before_goes (pump d) w s = still w w s refl
  before_goes tick w s = still w w s refl
  before_goes (stranger name bytes) w s = comes_goes name bytes w s

  -- the first step of what is asked goes by its deeds
  pub first_goes : (a : Asking) (w : World) → IsSteady w.broker → read_first spending set a w ≡ false → Goes (read_first the_deeds set a w) w (first_step set a w)
  first_goes a w s unspent =
      let x = before_goes a w s in
      then_goes [] (read_first the_deeds set a w) w (before set a w) (first_step set a w) x (if_goes (call_of set a w) (before set a w) x.steady unspent)

  -- a call spends the same once the stranger's next packet is held
  pub same_cost : (name : List ℕ) (v : World) (x : Option Call) → read_if spending set x v ≡ false → read_if spending set x (next_held name v) ≡ false
  same_cost name v None e = refl
  same_cost name v (Some x) e = e

  same_deeds : (name : List ℕ) (v : World) (x : Option Call) → Goes (read_if the_deeds set x (next_held name v)) v (calls_if set x (next_held name v)) → Goes (read_if the_deeds set x v) v (calls_if set x (next_held name v))
  same_deeds name v None h = h
  same_deeds name v (Some x) h = h

  rest_goes : (more : ℕ) (name : List ℕ) (v : World) → IsSteady v.broker → read_rest spending set more name v ≡ false → Goes (read_rest the_deeds set more name v) v (answers_rest set more name v)
  rest_goes zero name v s unspent = still v v s refl
  rest_goes (suc more) name v s unspent =
      let call = call_of_stranger (stranger_named name v) in
      let held = next_held name v in
      let u = calls_if set call held in
      let costs = either (read_if spending set call v) (read_rest spending set more name u) unspent in
      let x = if_goes call held s (same_cost name v call costs.0) in
      let first = same_deeds name v call (record { steady = x.steady; said = x.said }) in
      then_goes (read_if the_deeds set call v) (read_rest the_deeds set more name u) v u (answers_rest set more name u) first (rest_goes more name u first.steady costs.1)

  asked_goes : (a : Asking) (w : World) → IsSteady w.broker → read_asked spending set a w ≡ false → Goes (read_asked the_deeds set a w) w (asks set a w)
  asked_goes (to_broker d) w s unspent = first_goes (to_broker d) w s unspent
  asked_goes (old_to_broker d) w s unspent = first_goes (old_to_broker d) w s unspent
  asked_goes (break d) w s unspent = let x = first_goes (break d) w s unspent in record { steady = x.steady; said = x.said }
  asked_goes (pump d) w s unspent = first_goes (pump d) w s unspent
  asked_goes tick w s unspent = first_goes tick w s unspent
  asked_goes (stranger name bytes) w s unspent =
      let v = comes set name bytes w in
      let x = comes_goes name bytes w s in
      let n = held_count (stranger_named name v) in
      then_goes [] (read_rest the_deeds set n name v) w v (answers_rest set n name v) x (rest_goes n name v x.steady unspent)

  -- ---- an event

  joins_goes : (d : List ℕ) (clean : Bool) (w : World) → IsSteady w.broker → Goes (read_if the_deeds set (Some NewLine) w) w (happens set (connect_end d clean) w)
  joins_goes d clean w s = by (can_link set.limits w.broker) refl
    where
      by : (t : Bool) → can_link set.limits w.broker ≡ t → Goes (cond (can_link set.limits w.broker) (Link (suc w.broker.given) ∷ []) []) w (links set (cond (can_link set.limits w.broker) (Some (suc w.broker.given)) None) d clean w)
      by false can = subst (λ (t : Bool). Goes (cond t (Link (suc w.broker.given) ∷ []) []) w (links set (cond t (Some (suc w.broker.given)) None) d clean w)) (sym can) (still w w s refl)
      by true can =
          let x = linking_goes w s in
          subst (λ (t : Bool). Goes (cond t (Link (suc w.broker.given) ∷ []) []) w (links set (cond t (Some (suc w.broker.given)) None) d clean w)) (sym can) (record { steady = x.steady; said = walk.link (suc w.broker.given) w.broker (stepped set.limits set.choice w.now NewLine w.broker) x.said })

  event_goes : (e : Event) (w : World) → IsSteady w.broker → read_in spending set e w ≡ false → Goes (read_in the_deeds set e w) w (happens set e w)
  event_goes (publisher d) w s unspent = record { steady = s; said = walk.none w.broker }
  event_goes (receiver d window aliases) w s unspent = record { steady = s; said = walk.none w.broker }
  event_goes (connect_end d clean) w s unspent = joins_goes d clean w s
  event_goes (give_up d) w s unspent = record { steady = s; said = walk.none w.broker }
  event_goes (publish d x) w s unspent = record { steady = s; said = walk.none w.broker }
  event_goes (subscribe d x) w s unspent = record { steady = s; said = walk.none w.broker }
  event_goes (to_end d) w s unspent = record { steady = s; said = walk.none w.broker }
  event_goes (clock wait) w s unspent = record { steady = s; said = walk.none w.broker }
  event_goes (ask a) w s unspent = asked_goes a w s unspent
  event_goes restart w s unspent = opening_goes w s unspent
  event_goes (stop_before a) w s unspent =
      let x = before_goes a w s in
      let v = before set a w in
      then_goes [] (read_opening the_deeds set v) w v (restarts set v) x (opening_goes v x.steady unspent)
  event_goes (stop_after a) w s unspent =
      let v = first_step set a w in
      let costs = either (read_first spending set a w) (read_opening spending set v) unspent in
      let x = first_goes a w s costs.0 in
      then_goes (read_first the_deeds set a w) (read_opening the_deeds set v) w v (restarts set v) x (opening_goes v x.steady costs.1)

-- ---- a turn, and a run

-- a turn goes as its steps do
pub turn_goes : (R : List Deed → Broker → Broker → Type 0) (limits : Capacity) (walk : Walk limits R) (t : Turn) (w : World) → AreWithin limits → IsSteady w.broker → read_at spending (setting limits t) t.event w ≡ false
    → Steps limits R (deeds_at (setting limits t) t.event w) w (turned limits t w)
turn_goes R limits walk t w within s unspent = by (is_bad t.event w) unspent
  where
    set : Setting
    set = setting limits t

    by : (bad : Bool) → cond bad false (read_in spending set t.event w) ≡ false → Steps limits R (cond bad [] (read_in the_deeds set t.event w)) w (cond bad w (happens set t.event w))
    by true u = record { steady = s; said = walk.none w.broker }
    by false u = event_goes R set walk within t.event w s u

-- what each step does, every run does, from whatever world, if its tables are in order
pub run_goes : (R : List Deed → Broker → Broker → Type 0) (limits : Capacity) (walk : Walk limits R) (ts : List Turn) (w : World) → AreWithin limits → IsSteady w.broker → run_spends limits ts w ≡ false
    → Steps limits R (deeds_over limits ts w) w (run limits ts w)
run_goes R limits walk [] w within s unspent = record { steady = s; said = walk.none w.broker }
run_goes R limits walk (t ∷ ts) w within s unspent =
    let v = turned limits t w in
    let costs = either (read_at spending (setting limits t) t.event w) (run_spends limits ts v) unspent in
    let first = turn_goes R limits walk t w within s costs.0 in
    let rest = run_goes R limits walk ts v within first.steady costs.1 in
    let xs = deeds_at (setting limits t) t.event w in
    let ys = deeds_over limits ts v in
    record { steady = rest.steady; said = walk.next xs ys w.broker v.broker (run limits ts v).broker first.said rest.said }

-- a fair run spends no number
pub counted : (limits : Capacity) (ts : List Turn) (w : World) → IsFair limits ts w → IsCounted limits ts w
counted limits ts w fair = record { within = fair.within; unspent = fair.unspent }

-- what each step keeps, every run keeps that spends no number
pub run_walks : (R : List Deed → Broker → Broker → Type 0) (limits : Capacity) (ts : List Turn) (w : World) → Walk limits R → IsNew w → IsCounted limits ts w → R (deeds_over limits ts w) w.broker (run limits ts w).broker
run_walks R limits ts w walk new fair = (run_goes R limits walk ts w fair.within new.steady fair.unspent).said
