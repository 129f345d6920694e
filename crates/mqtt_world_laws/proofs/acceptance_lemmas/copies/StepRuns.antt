-- Over every run of the world: what is said of each call and each opening on tables in order is said of each of its steps.
use Rattle.std.proofs.Common.{◌≡◌, ℕ, zero, suc, Bool, true, false, cond, List, [], ◌∷◌, ◌++◌, Option, Some, None, refl, sym, ap, ◌∙◌, append-nil}
use Rattle.std.specs.Prelude.{⊤, flat_map}
use Rattle.std.specs.List.{AllByRecursion}
use Rattle.std.proofs.lemmas.Grind.{flat_map-append}
use Rattle.mqtt_base.specs.declared.session.CopyId.{CopyId}
use Rattle.mqtt_rules.specs.declared.step.Capacity.{Capacity}
use Rattle.mqtt_rules.specs.step.State.{Broker, Env}
use Rattle.mqtt_rules.specs.step.Deeds.{Deed}
use Rattle.mqtt_rules.specs.step.Laws.{AreWithin}
use Rattle.mqtt_rules.specs.step.Step.{Call, NewLine, env_of, at_moment, deeds, unopened}
use Rattle.mqtt_rules.proofs.step_lemmas.numbers.Copies.{each_append}
use Rattle.mqtt_rules.proofs.step_lemmas.fit.StandLaw.{Orders}
use Rattle.mqtt_world_model.specs.model.World.{World, Setting, Event, publisher, receiver, connect_end, give_up, publish, subscribe, to_end, clock, ask, restart, stop_before, stop_after, Asking, to_broker, old_to_broker, break, pump, tick, stranger, stranger_named, calls_if, comes, next_held, call_of_stranger, held_count, before, call_of, first_step, is_bad}
use Rattle.mqtt_world_model.specs.model.Run.{Turn, setting, turned, deeds_at, deeds_over, read_if, read_rest, read_first, read_asked, read_opening, read_in, read_at, the_deeds}
use Rattle.mqtt_world_laws.specs.acceptance.Spending.{run_spends, spending}
use Rattle.mqtt_world_laws.specs.acceptance.Fair.{IsSteady, IsNew, IsCounted}
use Rattle.mqtt_world_laws.specs.acceptance.Steps.{Step, step_called, opening_step, steps_over, the_steps}
use Rattle.mqtt_world_laws.specs.acceptance.Entries.{IsEntered, brought_in}
use Rattle.mqtt_world_laws.specs.acceptance.AtOnce.{AllGoOut}
use Rattle.mqtt_world_laws.proofs.acceptance_lemmas.copies.Entering.{Tells, tells_append, still_tells, publish_tells, grant_tells, entered, entered_append}
use Rattle.mqtt_world_laws.proofs.acceptance_lemmas.copies.EachAct.{Says, call_says, opening_says, says_still, whatever}
use Rattle.mqtt_world_laws.proofs.acceptance_lemmas.copies.Lights.{Gives, giving}
use Rattle.mqtt_world_laws.proofs.acceptance_lemmas.copies.Walks.{Walk, before_goes, first_goes, if_goes, same_cost, comes_goes, turn_goes}
use Rattle.mqtt_world_laws.proofs.acceptance_lemmas.publishers.Runs.{either}

-- steps that keep the tables in order, of which nothing else is said
abbrev Any : List Deed → Broker → Broker → Type 0
Any ds b d = ⊤

anything : (limits : Capacity) → Walk limits Any
anything limits = record {
  none = λ b. tt;
  next = λ xs ys a b d p q. tt;
  unlink = λ n b d h. tt;
  link = λ n b d h. tt;
  call = λ choice now call b s unspent. tt;
  open_again = λ choice now b s unspent. tt;
}

-- what is said of deeds on a state in order, by what is said of each publication and each filter that is granted
module _ (R : Env → List Deed → Broker → Type 0) (says : (env : Env) → Says env whatever Orders (R env)) where
  -- these deeds are those of these steps, and it is said of each
  pub record Are (ds : List Deed) (xs : List Step) : Type 0 where
    pub deeds_are : ds ≡ flat_map (λ (x : Step). x.deeds) xs
    pub each : AllByRecursion (λ (x : Step). R x.env x.deeds x.broker) xs

  none_are : Are [] []
  none_are = record { deeds_are = refl; each = tt }

  one_is : (x : Step) → R x.env x.deeds x.broker → Are x.deeds (x ∷ [])
  one_is x h = record { deeds_are = sym (append-nil x.deeds); each = (h, tt) }

  both_are : (ds es : List Deed) (xs ys : List Step) → Are ds xs → Are es ys → Are (ds ++ es) (xs ++ ys)
  both_are ds es xs ys p q = record {
    deeds_are = ap (λ (cs : List Deed). cs ++ es) p.deeds_are ∙ ap (λ (cs : List Deed). flat_map (λ (x : Step). x.deeds) xs ++ cs) q.deeds_are ∙ sym (flat_map-append (λ (x : Step). x.deeds) xs ys);
    each = each_append (λ (x : Step). R x.env x.deeds x.broker) xs ys p.each q.each;
  }

  module _ (set : Setting) (within : AreWithin set.limits) where
    called : (call : Call) (w : World) → IsSteady w.broker → Are (deeds set.limits set.choice w.now call w.broker) (step_called set call w ∷ [])
    called call w s = let env = env_of set.limits set.choice w.broker in one_is (step_called set call w) (call_says env whatever Orders (R env) (says env) call (λ n packet e. tt) (at_moment w.now w.broker) s.coherent.ordered)

    if_called : (call : Option Call) (w : World) → IsSteady w.broker → Are (read_if the_deeds set call w) (read_if the_steps set call w)
    if_called None w s = none_are
    if_called (Some call) w s = called call w s

    opened : (w : World) → IsSteady w.broker → Are (read_opening the_deeds set w) (opening_step set w ∷ [])
    opened w s =
        let b = unopened w.now w.broker.records in
        let env = env_of set.limits set.choice b in
        one_is (opening_step set w) (opening_says env whatever Orders (R env) (says env) b s.coherent.ordered)

    first_called : (a : Asking) (w : World) → IsSteady w.broker → Are (read_first the_deeds set a w) (read_first the_steps set a w)
    first_called a w s = if_called (call_of set a w) (before set a w) (before_goes Any set (anything set.limits) within a w s).steady

    rest_called : (more : ℕ) (name : List ℕ) (v : World) → IsSteady v.broker → read_rest spending set more name v ≡ false → Are (read_rest the_deeds set more name v) (read_rest the_steps set more name v)
    rest_called zero name v s unspent = none_are
    rest_called (suc more) name v s unspent =
        let call = call_of_stranger (stranger_named name v) in
        let held = next_held name v in
        let u = calls_if set call held in
        let costs = either (read_if spending set call v) (read_rest spending set more name u) unspent in
        let x = if_goes Any set (anything set.limits) within call held s (same_cost Any set (anything set.limits) within name v call costs.0) in
        both_are (read_if the_deeds set call v) (read_rest the_deeds set more name u) (read_if the_steps set call v) (read_rest the_steps set more name u) (if_called call v s) (rest_called more name u x.steady costs.1)

    asked : (a : Asking) (w : World) → IsSteady w.broker → read_asked spending set a w ≡ false → Are (read_asked the_deeds set a w) (read_asked the_steps set a w)
    asked (to_broker d) w s unspent = first_called (to_broker d) w s
    asked (old_to_broker d) w s unspent = first_called (old_to_broker d) w s
    asked (break d) w s unspent = first_called (break d) w s
    asked (pump d) w s unspent = first_called (pump d) w s
    asked tick w s unspent = first_called tick w s
    asked (stranger name bytes) w s unspent =
        let v = comes set name bytes w in
        rest_called (held_count (stranger_named name v)) name v (comes_goes Any set (anything set.limits) within name bytes w s).steady unspent

    happened : (e : Event) (w : World) → IsSteady w.broker → read_in spending set e w ≡ false → Are (read_in the_deeds set e w) (read_in the_steps set e w)
    happened (publisher d) w s unspent = none_are
    happened (receiver d window aliases) w s unspent = none_are
    happened (connect_end d clean) w s unspent = if_called (Some NewLine) w s
    happened (give_up d) w s unspent = none_are
    happened (publish d x) w s unspent = none_are
    happened (subscribe d x) w s unspent = none_are
    happened (to_end d) w s unspent = none_are
    happened (clock wait) w s unspent = none_are
    happened (ask a) w s unspent = asked a w s unspent
    happened restart w s unspent = opened w s
    happened (stop_before a) w s unspent = opened (before set a w) (before_goes Any set (anything set.limits) within a w s).steady
    happened (stop_after a) w s unspent =
        let v = first_step set a w in
        let costs = either (read_first spending set a w) (read_opening spending set v) unspent in
        let x = first_goes Any set (anything set.limits) within a w s costs.0 in
        both_are (read_first the_deeds set a w) (read_opening the_deeds set v) (read_first the_steps set a w) (opening_step set v ∷ []) (first_called a w s) (opened v x.steady)

  -- ---- a turn, and a run

  turn_is : (limits : Capacity) (t : Turn) (w : World) → AreWithin limits → IsSteady w.broker → read_at spending (setting limits t) t.event w ≡ false → Are (deeds_at (setting limits t) t.event w) (read_at the_steps (setting limits t) t.event w)
  turn_is limits t w within s unspent = by (is_bad t.event w) unspent
    where
      set : Setting
      set = setting limits t

      by : (bad : Bool) → cond bad false (read_in spending set t.event w) ≡ false → Are (cond bad [] (read_in the_deeds set t.event w)) (cond bad [] (read_in the_steps set t.event w))
      by true u = none_are
      by false u = happened set within t.event w s u

  all_are : (limits : Capacity) (ts : List Turn) (w : World) → AreWithin limits → IsSteady w.broker → run_spends limits ts w ≡ false → Are (deeds_over limits ts w) (steps_over limits ts w)
  all_are limits [] w within s unspent = none_are
  all_are limits (t ∷ ts) w within s unspent =
      let v = turned limits t w in
      let costs = either (read_at spending (setting limits t) t.event w) (run_spends limits ts v) unspent in
      let next = turn_goes Any limits (anything limits) t w within s costs.0 in
      both_are (deeds_at (setting limits t) t.event w) (deeds_over limits ts v) (read_at the_steps (setting limits t) t.event w) (steps_over limits ts v)
      (turn_is limits t w within s costs.0) (all_are limits ts v within next.steady costs.1)

  run_are : (limits : Capacity) (ts : List Turn) (w : World) → IsNew w → IsCounted limits ts w → Are (deeds_over limits ts w) (steps_over limits ts w)
  run_are limits ts w new fair = all_are limits ts w fair.within new.steady fair.unspent

-- ---- exactly the copies that its deeds bring enter

-- each act tells of what enters by it
pub telling : (env : Env) → Says env whatever Orders (Tells env)
telling env = says_still env (Tells env) (still_tells env) (tells_append env) (publish_tells env) (grant_tells env)

-- what enters by steps is what they bring
pub entered_all : (xs : List Step) → AllByRecursion (λ (x : Step). Tells x.env x.deeds x.broker) xs → entered (flat_map (λ (x : Step). x.deeds) xs) ≡ flat_map brought_in xs
entered_all [] h = refl
entered_all (x ∷ xs) h =
    entered_append x.deeds (flat_map (λ (y : Step). y.deeds) xs) ∙ ap (λ (cs : List CopyId). cs ++ entered (flat_map (λ (y : Step). y.deeds) xs)) h.0
    ∙ ap (λ (cs : List CopyId). brought_in x ++ cs) (entered_all xs h.1)

-- in every run that spends no number each copy that is told of entered
pub run_enters : (limits : Capacity) (ts : List Turn) (w : World) → IsNew w → IsCounted limits ts w → IsEntered limits ts w
run_enters limits ts w new fair =
    let x = run_are Tells telling limits ts w new fair in
    ap entered x.deeds_are ∙ entered_all (steps_over limits ts w) x.each

-- ---- and what is due at once goes out

-- and each that is due at once goes out
pub run_goes_out : (limits : Capacity) (ts : List Turn) (w : World) → IsNew w → IsCounted limits ts w → AllGoOut limits ts w
run_goes_out limits ts w new fair = (run_are Gives giving limits ts w new fair).each
