-- Over a run: its acceptances are those of its steps, numbered as its deeds number them, and each comes with the next number on tables in order.
use Rattle.std.proofs.Common.{◌≡◌, ℕ, zero, suc, Bool, true, false, cond, List, [], ◌∷◌, ◌++◌, map, Option, Some, None, refl, sym, ap, ◌∙◌, append-nil}
use Rattle.std.specs.Prelude.{⊤, flat_map, filter_map}
use Rattle.std.specs.List.{AllByRecursion, cons_option}
use Rattle.std.proofs.lemmas.Grind.{flat_map-append}
use Rattle.std.proofs.lemmas.List.{map-append}
use Rattle.std.proofs.lemmas.List.Elements.{filter_map-append}
use Rattle.mqtt_rules.specs.declared.step.Capacity.{Capacity}
use Rattle.mqtt_rules.specs.step.State.{Broker, Env}
use Rattle.mqtt_rules.specs.step.Deeds.{Accept, Deed, Link, Message, after}
use Rattle.mqtt_rules.specs.step.Laws.{AreWithin}
use Rattle.mqtt_rules.specs.step.Numbers.{publication_given}
use Rattle.mqtt_rules.specs.step.Step.{Call, NewLine, can_link, env_of, at_moment, deeds, unopened}
use Rattle.mqtt_rules.proofs.step_lemmas.numbers.Copies.{each_append}
use Rattle.mqtt_world_model.specs.model.World.{World, Setting, Event, publisher, receiver, connect_end, give_up, publish, subscribe, to_end, clock, ask, restart, stop_before, stop_after, Asking, to_broker, old_to_broker, break, pump, tick, stranger, stranger_named, calls_if, comes, next_held, call_of_stranger, held_count, before, call_of, first_step, is_bad}
use Rattle.mqtt_world_model.specs.model.Run.{Turn, setting, turned, deeds_at, deeds_over, read_if, read_rest, read_first, read_asked, read_opening, read_in, read_at, the_deeds, Acceptance, accepted_by, acceptances_of, acceptances_over, the_acceptances}
use Rattle.mqtt_world_laws.specs.acceptance.Spending.{run_spends, spending}
use Rattle.mqtt_world_laws.specs.acceptance.Fair.{IsSteady, IsNew, IsCounted}
use Rattle.mqtt_world_laws.specs.acceptance.Steps.{Step, step_called, opening_step, steps_over, the_steps}
use Rattle.mqtt_world_laws.proofs.acceptance_lemmas.copies.Walks.{Walk, before_goes, first_goes, if_goes, same_cost, comes_goes, turn_goes}
use Rattle.mqtt_world_laws.proofs.acceptance_lemmas.publishers.Runs.{either}
use Rattle.mqtt_world_laws.proofs.routing_lemmas.LinesStand.{IsUnique, call_unique}
use Rattle.mqtt_world_laws.proofs.routing_lemmas.OpeningLines.{opening_lined}
use Rattle.mqtt_world_laws.proofs.routing_lemmas.OwnSteps.{AreNext, call_next, opening_next, numbers_are}

-- steps that keep the tables in order, of which nothing else is said
abbrev pub Any : List Deed → Broker → Broker → Type 0
Any ds b d = ⊤

-- every walk takes such steps
pub anything : (limits : Capacity) → Walk limits Any
anything limits = record {
  none = λ b. tt;
  next = λ xs ys a b d p q. tt;
  unlink = λ n b d h. tt;
  link = λ n b d h. tt;
  call = λ choice now call b s unspent. tt;
  open_again = λ choice now b s unspent. tt;
}

abbrev pub number_of : Acceptance → ℕ
number_of a = a.number

-- a publication with the number that it was given
abbrev pub Said : Type 0
Said = ℕ × Message

abbrev pub said_of : Acceptance → Said
said_of a = (a.number, a.message)

abbrev pub said_in : Deed → Option Said
said_in (Accept number origin m) = Some (number, m)
said_in d = None

-- what the deeds of a step accept is what its acceptances are
said_are : (env : Env) (ds : List Deed) (b : Broker) → filter_map said_in ds ≡ map said_of (acceptances_of env ds b)
said_are env [] b = refl
said_are env (d ∷ ds) b = one d (acceptances_of env ds (after d b)) (said_are env ds (after d b))
  where
    one : (d : Deed) (xs : List Acceptance) → filter_map said_in ds ≡ map said_of xs → cons_option (said_in d) (filter_map said_in ds) ≡ map said_of (cons_option (accepted_by env d b) xs)
    one (Accept number origin m) xs h = ap (λ (ss : List Said). (number, m) ∷ ss) h
    one d xs h = h

abbrev pub accepted_in : Step → List Acceptance
accepted_in x = acceptances_of x.env x.deeds x.broker

-- lines are unique where each publication is accepted
abbrev pub AreLinedUp : List Acceptance → Type 0
AreLinedUp accepted = AllByRecursion IsUnique accepted

-- these deeds are done in these steps, and these are what they accept
pub record Accepts (ds : List Deed) (xs : List Step) (accepted : List Acceptance) : Type 0 where
  pub numbers : filter_map publication_given ds ≡ map number_of accepted
  pub said : filter_map said_in ds ≡ map said_of accepted
  pub accepted_are : accepted ≡ flat_map accepted_in xs
  pub each : AllByRecursion (λ (x : Step). AreNext (accepted_in x)) xs
  pub lined : AreLinedUp accepted

none_accept : Accepts [] [] []
none_accept = record { numbers = refl; said = refl; accepted_are = refl; each = tt; lined = tt }

one_accepts : (x : Step) → AreNext (accepted_in x) → AreLinedUp (accepted_in x) → Accepts x.deeds (x ∷ []) (accepted_in x)
one_accepts x h up = record { numbers = numbers_are x.env x.deeds x.broker; said = said_are x.env x.deeds x.broker; accepted_are = sym (append-nil (accepted_in x)); each = (h, tt); lined = up }

both_accept : (ds es : List Deed) (xs ys : List Step) (accepted cs : List Acceptance) → Accepts ds xs accepted → Accepts es ys cs → Accepts (ds ++ es) (xs ++ ys) (accepted ++ cs)
both_accept ds es xs ys accepted cs p q = record {
  numbers = filter_map-append publication_given ds es ∙ ap (λ (ns : List ℕ). ns ++ filter_map publication_given es) p.numbers ∙ ap (λ (ns : List ℕ). map number_of accepted ++ ns) q.numbers
      ∙ sym (map-append number_of accepted cs);
  said = filter_map-append said_in ds es ∙ ap (λ (ss : List Said). ss ++ filter_map said_in es) p.said ∙ ap (λ (ss : List Said). map said_of accepted ++ ss) q.said
      ∙ sym (map-append said_of accepted cs);
  accepted_are = ap (λ (zs : List Acceptance). zs ++ cs) p.accepted_are ∙ ap (λ (zs : List Acceptance). flat_map accepted_in xs ++ zs) q.accepted_are ∙ sym (flat_map-append accepted_in xs ys);
  each = each_append (λ (x : Step). AreNext (accepted_in x)) xs ys p.each q.each;
  lined = each_append IsUnique accepted cs p.lined q.lined;
}

module _ (set : Setting) (within : AreWithin set.limits) where
  if_accepts : (call : Option Call) (w : World) → IsSteady w.broker → read_if spending set call w ≡ false → Accepts (read_if the_deeds set call w) (read_if the_steps set call w) (read_if the_acceptances set call w)
  if_accepts None w s unspent = none_accept
  if_accepts (Some call) w s unspent =
      one_accepts (step_called set call w) (call_next (env_of set.limits set.choice w.broker) call (at_moment w.now w.broker) s.coherent.ordered)
      (call_unique set.limits set.choice w.now call w.broker within s unspent)

  -- a new line accepts nothing
  line_accepts : (w : World) → Accepts (deeds set.limits set.choice w.now NewLine w.broker) (step_called set NewLine w ∷ []) []
  line_accepts w = by (can_link set.limits w.broker)
    where
      of_deeds : List Deed → Step
      of_deeds ds = record { env = env_of set.limits set.choice w.broker; deeds = ds; broker = at_moment w.now w.broker }

      by : (t : Bool) → Accepts (cond t (Link (suc w.broker.given) ∷ []) []) (of_deeds (cond t (Link (suc w.broker.given) ∷ []) []) ∷ []) []
      by true = record { numbers = refl; said = refl; accepted_are = refl; each = (tt, tt); lined = tt }
      by false = record { numbers = refl; said = refl; accepted_are = refl; each = (tt, tt); lined = tt }

  opening_accepts : (w : World) → IsSteady w.broker → Accepts (read_opening the_deeds set w) (opening_step set w ∷ []) (read_opening the_acceptances set w)
  opening_accepts w s =
      let b = unopened w.now w.broker.records in
      one_accepts (opening_step set w) (opening_next (env_of set.limits set.choice b) b s.coherent.ordered)
      (opening_lined (env_of set.limits set.choice b) b refl)

  first_accepts : (a : Asking) (w : World) → IsSteady w.broker → read_first spending set a w ≡ false → Accepts (read_first the_deeds set a w) (read_first the_steps set a w) (read_first the_acceptances set a w)
  first_accepts a w s unspent = if_accepts (call_of set a w) (before set a w) (before_goes Any set (anything set.limits) within a w s).steady unspent

  rest_accepts : (more : ℕ) (name : List ℕ) (v : World) → IsSteady v.broker → read_rest spending set more name v ≡ false
      → Accepts (read_rest the_deeds set more name v) (read_rest the_steps set more name v) (read_rest the_acceptances set more name v)
  rest_accepts zero name v s unspent = none_accept
  rest_accepts (suc more) name v s unspent =
      let call = call_of_stranger (stranger_named name v) in
      let held = next_held name v in
      let u = calls_if set call held in
      let costs = either (read_if spending set call v) (read_rest spending set more name u) unspent in
      let x = if_goes Any set (anything set.limits) within call held s (same_cost Any set (anything set.limits) within name v call costs.0) in
      both_accept (read_if the_deeds set call v) (read_rest the_deeds set more name u) (read_if the_steps set call v) (read_rest the_steps set more name u) (read_if the_acceptances set call v) (read_rest the_acceptances set more name u)
      (if_accepts call v s costs.0) (rest_accepts more name u x.steady costs.1)

  asked_accepts : (a : Asking) (w : World) → IsSteady w.broker → read_asked spending set a w ≡ false → Accepts (read_asked the_deeds set a w) (read_asked the_steps set a w) (read_asked the_acceptances set a w)
  asked_accepts (to_broker d) w s unspent = first_accepts (to_broker d) w s unspent
  asked_accepts (old_to_broker d) w s unspent = first_accepts (old_to_broker d) w s unspent
  asked_accepts (break d) w s unspent = first_accepts (break d) w s unspent
  asked_accepts (pump d) w s unspent = first_accepts (pump d) w s unspent
  asked_accepts tick w s unspent = first_accepts tick w s unspent
  asked_accepts (stranger name bytes) w s unspent =
      let v = comes set name bytes w in
      rest_accepts (held_count (stranger_named name v)) name v (comes_goes Any set (anything set.limits) within name bytes w s).steady unspent

  event_accepts : (e : Event) (w : World) → IsSteady w.broker → read_in spending set e w ≡ false → Accepts (read_in the_deeds set e w) (read_in the_steps set e w) (read_in the_acceptances set e w)
  event_accepts (publisher d) w s unspent = none_accept
  event_accepts (receiver d window aliases) w s unspent = none_accept
  event_accepts (connect_end d clean) w s unspent = line_accepts w
  event_accepts (give_up d) w s unspent = none_accept
  event_accepts (publish d x) w s unspent = none_accept
  event_accepts (subscribe d x) w s unspent = none_accept
  event_accepts (to_end d) w s unspent = none_accept
  event_accepts (clock wait) w s unspent = none_accept
  event_accepts (ask a) w s unspent = asked_accepts a w s unspent
  event_accepts restart w s unspent = opening_accepts w s
  event_accepts (stop_before a) w s unspent = opening_accepts (before set a w) (before_goes Any set (anything set.limits) within a w s).steady
  event_accepts (stop_after a) w s unspent =
      let v = first_step set a w in
      let costs = either (read_first spending set a w) (read_opening spending set v) unspent in
      let x = first_goes Any set (anything set.limits) within a w s costs.0 in
      both_accept (read_first the_deeds set a w) (read_opening the_deeds set v) (read_first the_steps set a w) (opening_step set v ∷ []) (read_first the_acceptances set a w) (read_opening the_acceptances set v)
      (first_accepts a w s costs.0) (opening_accepts v x.steady)

-- ---- a turn, and a run

turn_accepts : (limits : Capacity) (t : Turn) (w : World) → AreWithin limits → IsSteady w.broker → read_at spending (setting limits t) t.event w ≡ false
    → Accepts (deeds_at (setting limits t) t.event w) (read_at the_steps (setting limits t) t.event w) (read_at the_acceptances (setting limits t) t.event w)
turn_accepts limits t w within s unspent = by (is_bad t.event w) unspent
  where
    set : Setting
    set = setting limits t

    by : (bad : Bool) → cond bad false (read_in spending set t.event w) ≡ false
        → Accepts (cond bad [] (read_in the_deeds set t.event w)) (cond bad [] (read_in the_steps set t.event w)) (cond bad [] (read_in the_acceptances set t.event w))
    by true u = none_accept
    by false u = event_accepts set within t.event w s u

-- from whatever world, if its tables are in order
pub all_accept : (limits : Capacity) (ts : List Turn) (w : World) → AreWithin limits → IsSteady w.broker → run_spends limits ts w ≡ false → Accepts (deeds_over limits ts w) (steps_over limits ts w) (acceptances_over limits ts w)
all_accept limits [] w within s unspent = none_accept
all_accept limits (t ∷ ts) w within s unspent =
    let v = turned limits t w in
    let costs = either (read_at spending (setting limits t) t.event w) (run_spends limits ts v) unspent in
    let next = turn_goes Any limits (anything limits) t w within s costs.0 in
    both_accept (deeds_at (setting limits t) t.event w) (deeds_over limits ts v) (read_at the_steps (setting limits t) t.event w) (steps_over limits ts v)
    (read_at the_acceptances (setting limits t) t.event w) (acceptances_over limits ts v) (turn_accepts limits t w within s costs.0) (all_accept limits ts v within next.steady costs.1)

-- in every run that spends no number what entered is what acceptances meant
pub run_accepts : (limits : Capacity) (ts : List Turn) (w : World) → IsNew w → IsCounted limits ts w → Accepts (deeds_over limits ts w) (steps_over limits ts w) (acceptances_over limits ts w)
run_accepts limits ts w new fair = all_accept limits ts w fair.within new.steady fair.unspent
