-- Over every run of the world: each end of each of its steps has its cause, and these are all its ends.
use Rattle.std.proofs.Common.{◌≡◌, ℕ, zero, suc, Bool, true, false, cond, List, [], ◌∷◌, ◌++◌, map, Option, Some, None, refl, sym, ap, ◌∙◌, append-nil}
use Rattle.std.specs.Prelude.{⊤, flat_map, filter_map}
use Rattle.std.specs.List.{AllByRecursion}
use Rattle.std.proofs.lemmas.Grind.{flat_map-append}
use Rattle.std.proofs.lemmas.List.Elements.{filter_map-append}
use Rattle.mqtt_rules.specs.declared.step.Capacity.{Capacity}
use Rattle.mqtt_rules.specs.step.Deeds.{Deed}
use Rattle.mqtt_rules.specs.step.Laws.{AreWithin}
use Rattle.mqtt_rules.specs.step.State.{Broker}
use Rattle.mqtt_rules.specs.step.Step.{Call, NewLine, deeds}
use Rattle.mqtt_rules.proofs.step_lemmas.numbers.Copies.{each_append}
use Rattle.mqtt_rules.proofs.step_lemmas.fit.StandLaw.{stands_call, stands_opening}
use Rattle.mqtt_world_model.specs.model.World.{World, Setting, Event, publisher, receiver, connect_end, give_up, publish, subscribe, to_end, clock, ask, restart, stop_before, stop_after, Asking, to_broker, old_to_broker, break, pump, tick, stranger, stranger_named, calls_if, comes, next_held, call_of_stranger, held_count, before, call_of, first_step, is_bad}
use Rattle.mqtt_world_model.specs.model.Run.{End, Turn, setting, turned, deeds_over, ended_in, read_if, read_rest, read_first, read_asked, read_opening, read_in, read_at, the_deeds}
use Rattle.mqtt_world_laws.specs.acceptance.Spending.{run_spends, spending}
use Rattle.mqtt_world_laws.specs.acceptance.Fair.{IsSteady, IsNew, IsCounted}
use Rattle.mqtt_world_laws.specs.acceptance.Steps.{step_called, opening_step}
use Rattle.mqtt_world_laws.proofs.acceptance_lemmas.copies.Walks.{Walk, before_goes, first_goes, if_goes, same_cost, comes_goes, turn_goes}
use Rattle.mqtt_world_laws.proofs.acceptance_lemmas.publishers.Runs.{either}
use Rattle.mqtt_world_laws.specs.causes.Endings.{Asked, EndAt, the_asked, asked_over, end_of, ends_in, AreAllEnds}
use Rattle.mqtt_world_laws.specs.causes.Causes.{HasCause, EachHasItsCause}
use Rattle.mqtt_world_laws.proofs.causes_lemmas.Caused.{all_caused, ends_counted}
use Rattle.mqtt_world_laws.proofs.causes_lemmas.EachCall.{call_caused, opening_caused}

-- steps that keep the tables in order, of which nothing else is said
abbrev Any : List Deed → Broker → Broker → Type 0
Any ds b d = ⊤

anything : (limits : Capacity) → Walk limits Any
anything limits = record {
  none = λ b. tt;
  next = λ xs ys a b d p q. tt;
  unlink = λ n b d h. tt;
  link = λ n b d h. tt;
  call = λ choice now call b s unspent. tt;
  open_again = λ choice now b s unspent. tt;
}

-- the ends of some steps have their causes
abbrev pub AreCaused : List Asked → Type 0
AreCaused xs = AllByRecursion (λ (x : Asked). AllByRecursion HasCause (ends_in x)) xs

both_caused : (xs ys : List Asked) → AreCaused xs → AreCaused ys → AreCaused (xs ++ ys)
both_caused xs ys p q = each_append (λ (x : Asked). AllByRecursion HasCause (ends_in x)) xs ys p q

module _ (set : Setting) (within : AreWithin set.limits) where
  called : (call : Call) (w : World) → IsSteady w.broker → AreCaused (read_if the_asked set (Some call) w)
  called call w s =
      let x : Asked = record { call = Some call; step = step_called set call w } in
      (all_caused x x.step.deeds x.step.broker (call_caused x call refl s.coherent.ordered) (stands_call x.step.env call x.step.broker s.coherent.ordered), tt)

  if_called : (call : Option Call) (w : World) → IsSteady w.broker → AreCaused (read_if the_asked set call w)
  if_called None w s = tt
  if_called (Some call) w s = called call w s

  opened : (w : World) → IsSteady w.broker → AreCaused (read_opening the_asked set w)
  opened w s =
      let x : Asked = record { call = None; step = opening_step set w } in
      (all_caused x x.step.deeds x.step.broker (opening_caused x x.step.broker s.coherent.ordered) (stands_opening x.step.env x.step.broker s.coherent.ordered), tt)

  first_called : (a : Asking) (w : World) → IsSteady w.broker → AreCaused (read_first the_asked set a w)
  first_called a w s = if_called (call_of set a w) (before set a w) (before_goes Any set (anything set.limits) within a w s).steady

  rest_called : (more : ℕ) (name : List ℕ) (v : World) → IsSteady v.broker → read_rest spending set more name v ≡ false → AreCaused (read_rest the_asked set more name v)
  rest_called zero name v s unspent = tt
  rest_called (suc more) name v s unspent =
      let call = call_of_stranger (stranger_named name v) in
      let held = next_held name v in
      let u = calls_if set call held in
      let costs = either (read_if spending set call v) (read_rest spending set more name u) unspent in
      let x = if_goes Any set (anything set.limits) within call held s (same_cost Any set (anything set.limits) within name v call costs.0) in
      both_caused (read_if the_asked set call v) (read_rest the_asked set more name u) (if_called call v s) (rest_called more name u x.steady costs.1)

  asked : (a : Asking) (w : World) → IsSteady w.broker → read_asked spending set a w ≡ false → AreCaused (read_asked the_asked set a w)
  asked (to_broker d) w s unspent = first_called (to_broker d) w s
  asked (old_to_broker d) w s unspent = first_called (old_to_broker d) w s
  asked (break d) w s unspent = first_called (break d) w s
  asked (pump d) w s unspent = first_called (pump d) w s
  asked tick w s unspent = first_called tick w s
  asked (stranger name bytes) w s unspent =
      let v = comes set name bytes w in
      rest_called (held_count (stranger_named name v)) name v (comes_goes Any set (anything set.limits) within name bytes w s).steady unspent

  happened : (e : Event) (w : World) → IsSteady w.broker → read_in spending set e w ≡ false → AreCaused (read_in the_asked set e w)
  happened (publisher d) w s unspent = tt
  happened (receiver d window aliases) w s unspent = tt
  happened (connect_end d clean) w s unspent = if_called (Some NewLine) w s
  happened (give_up d) w s unspent = tt
  happened (publish d x) w s unspent = tt
  happened (subscribe d x) w s unspent = tt
  happened (to_end d) w s unspent = tt
  happened (clock wait) w s unspent = tt
  happened (ask a) w s unspent = asked a w s unspent
  happened restart w s unspent = opened w s
  happened (stop_before a) w s unspent = opened (before set a w) (before_goes Any set (anything set.limits) within a w s).steady
  happened (stop_after a) w s unspent =
      let v = first_step set a w in
      let costs = either (read_first spending set a w) (read_opening spending set v) unspent in
      let x = first_goes Any set (anything set.limits) within a w s costs.0 in
      both_caused (read_first the_asked set a w) (read_opening the_asked set v) (first_called a w s) (opened v x.steady)

-- ---- a turn, and a run

turn_caused : (limits : Capacity) (t : Turn) (w : World) → AreWithin limits → IsSteady w.broker → read_at spending (setting limits t) t.event w ≡ false → AreCaused (read_at the_asked (setting limits t) t.event w)
turn_caused limits t w within s unspent = by (is_bad t.event w) unspent
  where
    set : Setting
    set = setting limits t

    by : (bad : Bool) → cond bad false (read_in spending set t.event w) ≡ false → AreCaused (cond bad [] (read_in the_asked set t.event w))
    by true u = tt
    by false u = happened set within t.event w s u

-- from whatever world, if its tables are in order
pub all_steps : (limits : Capacity) (ts : List Turn) (w : World) → AreWithin limits → IsSteady w.broker → run_spends limits ts w ≡ false → AreCaused (asked_over limits ts w)
all_steps limits [] w within s unspent = tt
all_steps limits (t ∷ ts) w within s unspent =
    let v = turned limits t w in
    let costs = either (read_at spending (setting limits t) t.event w) (run_spends limits ts v) unspent in
    let next = turn_goes Any limits (anything limits) t w within s costs.0 in
    both_caused (read_at the_asked (setting limits t) t.event w) (asked_over limits ts v)
    (turn_caused limits t w within s costs.0) (all_steps limits ts v within next.steady costs.1)

-- so each of them has
pub joined : (xs : List Asked) → AreCaused xs → AllByRecursion HasCause (flat_map ends_in xs)
joined [] h = tt
joined (x ∷ xs) h = each_append HasCause (ends_in x) (flat_map ends_in xs) h.0 (joined xs h.1)

-- each end of a run has its cause
pub run_caused : (limits : Capacity) (ts : List Turn) (w : World) → IsNew w → IsCounted limits ts w → EachHasItsCause limits ts w
run_caused limits ts w new fair = joined (asked_over limits ts w) (all_steps limits ts w fair.within new.steady fair.unspent)

-- ---- and these are all ends: the deeds are those of the steps

abbrev pub deeds_in : List Asked → List Deed
deeds_in xs = flat_map (λ (x : Asked). x.step.deeds) xs

same_both : (ds es : List Deed) (xs ys : List Asked) → ds ≡ deeds_in xs → es ≡ deeds_in ys → ds ++ es ≡ deeds_in (xs ++ ys)
same_both ds es xs ys p q = ap (λ (cs : List Deed). cs ++ es) p ∙ ap (λ (cs : List Deed). deeds_in xs ++ cs) q ∙ sym (flat_map-append (λ (x : Asked). x.step.deeds) xs ys)

module _ (set : Setting) where
  if_same : (call : Option Call) (w : World) → read_if the_deeds set call w ≡ deeds_in (read_if the_asked set call w)
  if_same None w = refl
  if_same (Some call) w = sym (append-nil (deeds set.limits set.choice w.now call w.broker))

  opening_same : (w : World) → read_opening the_deeds set w ≡ deeds_in (read_opening the_asked set w)
  opening_same w = sym (append-nil (read_opening the_deeds set w))

  rest_same : (more : ℕ) (name : List ℕ) (v : World) → read_rest the_deeds set more name v ≡ deeds_in (read_rest the_asked set more name v)
  rest_same zero name v = refl
  rest_same (suc more) name v =
      let call = call_of_stranger (stranger_named name v) in
      let u = calls_if set call (next_held name v) in
      same_both (read_if the_deeds set call v) (read_rest the_deeds set more name u) (read_if the_asked set call v) (read_rest the_asked set more name u) (if_same call v) (rest_same more name u)

  first_same : (a : Asking) (w : World) → read_first the_deeds set a w ≡ deeds_in (read_first the_asked set a w)
  first_same a w = if_same (call_of set a w) (before set a w)

  asked_same : (a : Asking) (w : World) → read_asked the_deeds set a w ≡ deeds_in (read_asked the_asked set a w)
  asked_same (to_broker d) w = first_same (to_broker d) w
  asked_same (old_to_broker d) w = first_same (old_to_broker d) w
  asked_same (break d) w = first_same (break d) w
  asked_same (pump d) w = first_same (pump d) w
  asked_same tick w = first_same tick w
  asked_same (stranger name bytes) w = let v = comes set name bytes w in rest_same (held_count (stranger_named name v)) name v

  event_same : (e : Event) (w : World) → read_in the_deeds set e w ≡ deeds_in (read_in the_asked set e w)
  event_same (publisher d) w = refl
  event_same (receiver d window aliases) w = refl
  event_same (connect_end d clean) w = if_same (Some NewLine) w
  event_same (give_up d) w = refl
  event_same (publish d x) w = refl
  event_same (subscribe d x) w = refl
  event_same (to_end d) w = refl
  event_same (clock wait) w = refl
  event_same (ask a) w = asked_same a w
  event_same restart w = opening_same w
  event_same (stop_before a) w = opening_same (before set a w)
  event_same (stop_after a) w =
      let v = first_step set a w in
      same_both (read_first the_deeds set a w) (read_opening the_deeds set v) (read_first the_asked set a w) (read_opening the_asked set v) (first_same a w) (opening_same v)

turn_same : (limits : Capacity) (t : Turn) (w : World) → read_at the_deeds (setting limits t) t.event w ≡ deeds_in (read_at the_asked (setting limits t) t.event w)
turn_same limits t w = by (is_bad t.event w)
  where
    set : Setting
    set = setting limits t

    by : (bad : Bool) → cond bad [] (read_in the_deeds set t.event w) ≡ deeds_in (cond bad [] (read_in the_asked set t.event w))
    by true = refl
    by false = event_same set t.event w

run_same : (limits : Capacity) (ts : List Turn) (w : World) → deeds_over limits ts w ≡ deeds_in (asked_over limits ts w)
run_same limits [] w = refl
run_same limits (t ∷ ts) w =
    let v = turned limits t w in
    same_both (read_at the_deeds (setting limits t) t.event w) (deeds_over limits ts v) (read_at the_asked (setting limits t) t.event w) (asked_over limits ts v) (turn_same limits t w) (run_same limits ts v)

map_both : (xs ys : List EndAt) → map end_of (xs ++ ys) ≡ map end_of xs ++ map end_of ys
map_both [] ys = refl
map_both (x ∷ xs) ys = ap (λ (es : List End). end_of x ∷ es) (map_both xs ys)

-- the ends of steps are those of their deeds
pub counted : (xs : List Asked) → map end_of (flat_map ends_in xs) ≡ filter_map ended_in (deeds_in xs)
counted [] = refl
counted (x ∷ xs) =
    map_both (ends_in x) (flat_map ends_in xs) ∙ ap (λ (es : List End). es ++ map end_of (flat_map ends_in xs)) (ends_counted x x.step.deeds x.step.broker)
    ∙ ap (λ (es : List End). filter_map ended_in x.step.deeds ++ es) (counted xs) ∙ sym (filter_map-append ended_in x.step.deeds (deeds_in xs))

-- in every run each copy ends by its cause
pub all_ends : (limits : Capacity) (ts : List Turn) (w : World) → AreAllEnds limits ts w
all_ends limits ts w = counted (asked_over limits ts w) ∙ ap (λ (ds : List Deed). filter_map ended_in ds) (sym (run_same limits ts w))
