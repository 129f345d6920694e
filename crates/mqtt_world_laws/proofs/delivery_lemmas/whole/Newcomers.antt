-- In a run that begins with nobody, each receiver comes with an event of its own, and so its whole ledger is in the order in which the
-- copies entered over the run (MQTT 5.0, 4.6).
use Rattle.std.proofs.Common.{◌≡◌, ℕ, zero, suc, Bool, true, false, cond, List, [], ◌∷◌, ◌++◌, ◌⊎◌, find, map, Option, Some, None, bytes_eq, refl, sym, ap, subst, ◌∙◌, append_assoc, inl, inr}
use Rattle.std.specs.Prelude.{filter_map, is_some, option_map}
use Rattle.std.proofs.lemmas.Bool.{cases_Bool}
use Rattle.std.proofs.lemmas.List.Elements.{filter_map-append}
use Rattle.std.proofs.lemmas.Slice.Eq.{bytes_eq-Decides}
use Rattle.mqtt_base.specs.declared.session.CopyId.{CopyId}
use Rattle.mqtt_flow.specs.outbound.Receiver.{connect}
use Rattle.mqtt_world_model.specs.model.Ends.{Back, Receiver, answers, new_receiver, receiver_reads}
use Rattle.mqtt_world_model.specs.model.Laws.{copies_in, stand_among}
use Rattle.mqtt_world_model.specs.model.Lines.{Line, gives_up, joined, left, stands}
use Rattle.mqtt_world_model.specs.model.Run.{Turn, are_beginnings_clean, begins_clean, deeds_at, deeds_over, entered_in, run, setting, turned}
use Rattle.mqtt_world_model.specs.model.World.{Asking, Event, Setting, World, answers_rest, ask, asks, asks_wish, before, break, call_of, call_of_stranger, calls, calls_if, clock, comes, connect_end, first_step, give_up, happens, held_count, is_bad, linked_at, links, next_held, next_line, old_to_broker, publish, publisher, pump, receiver, receiver_named, receiver_restarted, receiver_told, restart, restarts, stop_after, stop_before, stranger, stranger_named, subscribe, taken_old, taken_up, tick, to_broker, to_end}
use Rattle.mqtt_rules.specs.step.Step.{Call, NewLine, stepped, told}
use Rattle.mqtt_rules.specs.declared.step.Capacity.{Capacity}
use Rattle.mqtt_world_laws.specs.acceptance.Copies.{entered_from}
use Rattle.mqtt_world_laws.specs.acceptance.Fair.{IsFair}
use Rattle.mqtt_world_laws.proofs.acceptance_lemmas.publishers.Ends.{find_last, find_no_more, find_receiver, only_receiver}
use Rattle.mqtt_world_laws.proofs.acceptance_lemmas.publishers.Runs.{both_true}
use Rattle.mqtt_world_laws.specs.delivery.Coming.{queue_at}
use Rattle.mqtt_world_laws.specs.delivery.Untouched.{IsUntouched}
use Rattle.mqtt_world_laws.specs.ordered.FirstReads.{first_reads}
use Rattle.mqtt_world_laws.proofs.delivery_lemmas.order.Among.{stand_behind}
use Rattle.mqtt_world_laws.proofs.delivery_lemmas.others.Around.{on_back}
use Rattle.mqtt_world_laws.proofs.delivery_lemmas.order.Coming.{none_at_first}
use Rattle.mqtt_world_laws.proofs.delivery_lemmas.others.Like.{moves_reading}
use Rattle.mqtt_world_laws.proofs.delivery_lemmas.order.WholeOrder.{run_hands_whole, run_reads_whole}

-- ---- nobody of a name is there later, if none was

module _ (c : List ℕ) where
  abbrev Stays : World → World → Type 0
  Stays w v = receiver_named c w ≡ None → receiver_named c v ≡ None

  mapped_stays : (w v : World) (f : Receiver → Receiver) → ((r : Receiver) → (f r).client ≡ r.client) → v.receivers ≡ map f w.receivers → Stays w v
  mapped_stays w v f client same e = ap (find (λ (r : Receiver). bytes_eq r.client c)) same ∙ (find_receiver c f client w.receivers ∙ ap (option_map f) e)

  one_stays : (d : List ℕ) (g : Receiver → Receiver) (w v : World) → ((r : Receiver) → (g r).client ≡ r.client) → v.receivers ≡ map (λ r. cond (bytes_eq r.client d) (g r) r) w.receivers → Stays w v
  one_stays d g w v client same = mapped_stays w v (λ r. cond (bytes_eq r.client d) (g r) r) (λ r. only_receiver (bytes_eq r.client d) g r (client r)) same

  line_stays : (d : List ℕ) (g : Line Back → Line Back) (w v : World) → v.receivers ≡ map (λ r. cond (bytes_eq r.client d) (on_back g r) r) w.receivers → Stays w v
  line_stays d g w v same = one_stays d (on_back g) w v (λ r. refl) same

  calls_stay : (set : Setting) (call : Call) (w : World) → Stays w (calls set call w)
  calls_stay set call w = mapped_stays w (calls set call w) (receiver_told (stepped set.limits set.choice w.now call w.broker) (told set.limits set.choice w.now call w.broker)) (λ r. refl) refl

  if_stays : (set : Setting) (o : Option Call) (w : World) → Stays w (calls_if set o w)
  if_stays set None w e = e
  if_stays set (Some call) w e = calls_stay set call w e

  restarts_stay : (set : Setting) (w : World) → Stays w (restarts set w)
  restarts_stay set w = mapped_stays w (restarts set w) receiver_restarted (λ r. refl) refl

  comes_stay : (set : Setting) (name bytes : List ℕ) (w : World) → Stays w (comes set name bytes w)
  comes_stay set name bytes w = by (is_some (stranger_named name w))
    where
      by : (t : Bool) → Stays w (linked_at set t name bytes w)
      by true e = e
      by false e = calls_stay set NewLine w e

  before_stays : (set : Setting) (a : Asking) (w : World) → Stays w (before set a w)
  before_stays set (to_broker d) w e = line_stays d taken_up w (before set (to_broker d) w) refl e
  before_stays set (old_to_broker d) w e = line_stays d taken_old w (before set (old_to_broker d) w) refl e
  before_stays set (break d) w e = e
  before_stays set (pump d) w e = e
  before_stays set tick w e = e
  before_stays set (stranger name bytes) w e = comes_stay set name bytes w e

  first_stays : (set : Setting) (a : Asking) (w : World) → Stays w (first_step set a w)
  first_stays set a w e = if_stays set (call_of set a w) (before set a w) (before_stays set a w e)

  rest_stays : (set : Setting) (more : ℕ) (name : List ℕ) (w : World) → Stays w (answers_rest set more name w)
  rest_stays set zero name w e = e
  rest_stays set (suc more) name w e =
      let held = next_held name w in
      let call = call_of_stranger (stranger_named name w) in
      rest_stays set more name (calls_if set call held) (if_stays set call held e)

  asks_stay : (set : Setting) (a : Asking) (w : World) → Stays w (asks set a w)
  asks_stay set (to_broker d) w e = first_stays set (to_broker d) w e
  asks_stay set (old_to_broker d) w e = first_stays set (old_to_broker d) w e
  asks_stay set (break d) w e = line_stays d left (first_step set (break d) w) (asks set (break d) w) refl (first_stays set (break d) w e)
  asks_stay set (pump d) w e = first_stays set (pump d) w e
  asks_stay set tick w e = first_stays set tick w e
  asks_stay set (stranger name bytes) w e =
      let v = comes set name bytes w in
      rest_stays set (held_count (stranger_named name v)) name v (comes_stay set name bytes w e)

  links_stay : (set : Setting) (o : Option ℕ) (d : List ℕ) (clean : Bool) (w : World) → Stays w (links set o d clean w)
  links_stay set None d clean w e = e
  links_stay set (Some n) d clean w e = line_stays d (λ l. joined (answers (connect clean)) n clean l) (calls set NewLine w) (links set (Some n) d clean w) refl (calls_stay set NewLine w e)

  -- ---- or it comes

  -- it has read nothing, nothing is under way to it, no copies of its name stand, and it is told that it comes now
  pub record IsNewcomer (u : World) : Type 0 where
    pub its : Receiver
    pub named : receiver_named c u ≡ Some its
    pub ledger : its.ledger ≡ []
    pub once : its.once ≡ []
    pub down : its.line.down ≡ []
    pub queue : queue_at c u ≡ []
    pub since : its.since ≡ u.broker.records.births

  event_comes : (set : Setting) (e : Event) (w : World) → is_bad e w ≡ false → begins_clean e w ≡ true → receiver_named c w ≡ None → (receiver_named c (happens set e w) ≡ None) ⊎ IsNewcomer (happens set e w)
  event_comes set (publisher d) w good begins none = inl none
  event_comes set (receiver d window aliases) w good begins none = elim (cases_Bool (bytes_eq d c)) [
    | inl its ↦
        let new = new_receiver d window aliases w.broker.records.births in
        let is : d ≡ c = (bytes_eq-Decides d c).0 its in
        inr (record {
          its = new;
          named = find_last (λ (r : Receiver). bytes_eq r.client c) new w.receivers its none;
          ledger = refl;
          once = refl;
          down = refl;
          queue = subst (λ (x : List ℕ). queue_at x (happens set (receiver d window aliases) w) ≡ []) is (none_at_first d window aliases set w good begins);
          since = refl;
        })
    | inr other ↦ inl (find_no_more (λ (r : Receiver). bytes_eq r.client c) (new_receiver d window aliases w.broker.records.births) w.receivers other ∙ none)
  ]
  event_comes set (connect_end d clean) w good begins none = inl (links_stay set (next_line set.limits w.broker) d clean w none)
  event_comes set (give_up d) w good begins none = inl (line_stays d (λ l. gives_up l.link l) w (happens set (give_up d) w) refl none)
  event_comes set (publish d x) w good begins none = inl none
  event_comes set (subscribe d x) w good begins none = inl (one_stays d (λ r. asks_wish (stands r.line.number w.broker) x r) w (happens set (subscribe d x) w) (λ r. refl) refl none)
  event_comes set (to_end d) w good begins none =
      inl (one_stays d (λ r. receiver_reads (stands r.line.number w.broker) r.line.down r) w (happens set (to_end d) w) (λ r. (moves_reading (stands r.line.number w.broker) r.line.down r).client) refl none)
  event_comes set (clock wait) w good begins none = inl none
  event_comes set (ask a) w good begins none = inl (asks_stay set a w none)
  event_comes set restart w good begins none = inl (restarts_stay set w none)
  event_comes set (stop_before a) w good begins none = inl (restarts_stay set (before set a w) (before_stays set a w none))
  event_comes set (stop_after a) w good begins none = inl (restarts_stay set (first_step set a w) (first_stays set a w none))

  module _ (limits : Capacity) where
    turn_comes : (t : Turn) (w : World) → begins_clean t.event w ≡ true → receiver_named c w ≡ None → (receiver_named c (turned limits t w) ≡ None) ⊎ IsNewcomer (turned limits t w)
    turn_comes t w clean none = by (is_bad t.event w) refl
      where
        by : (bad : Bool) → is_bad t.event w ≡ bad → (receiver_named c (cond bad w (happens (setting limits t) t.event w)) ≡ None) ⊎ IsNewcomer (cond bad w (happens (setting limits t) t.event w))
        by true is = inl none
        by false is = event_comes (setting limits t) t.event w is clean none

    -- ---- the run, before and after it comes

    -- a run cut where the receiver has just come
    pub record Parts (ts : List Turn) (w : World) : Type 0 where
      pub first : List Turn
      pub later : List Turn
      pub are : first ++ later ≡ ts
      pub new : IsNewcomer (run limits first w)

    -- a run in which a receiver comes is cut there
    pub parts : (ts : List Turn) (w : World) (r : Receiver) → are_beginnings_clean limits ts w ≡ true → receiver_named c w ≡ None → receiver_named c (run limits ts w) ≡ Some r → Parts ts w
    parts [] w r clean none e = let clash : None ≡ Some r = sym none ∙ e in absurd cc
    parts (t ∷ ts) w r clean none e = elim (turn_comes t w (both_true (begins_clean t.event w) (are_beginnings_clean limits ts (turned limits t w)) clean).0 none) [
      | inl still ↦ let x = parts ts (turned limits t w) r (both_true (begins_clean t.event w) (are_beginnings_clean limits ts (turned limits t w)) clean).1 still e in record { first = t ∷ x.first; later = x.later; are = ap (λ (zs : List Turn). t ∷ zs) x.are; new = x.new }
      | inr new ↦ record { first = t ∷ []; later = ts; are = refl; new = new }
    ]

entered_parts : (limits : Capacity) (xs ys : List Turn) (w : World) → entered_from limits (xs ++ ys) w ≡ entered_from limits xs w ++ entered_from limits ys (run limits xs w)
entered_parts limits [] ys w = refl
entered_parts limits (t ∷ xs) ys w =
    let u = turned limits t w in
    let ds = deeds_at (setting limits t) t.event w in
    let first = filter_map entered_in ds in
    filter_map-append entered_in ds (deeds_over limits (xs ++ ys) u)
    ∙ (ap (λ (ids : List CopyId). first ++ ids) (entered_parts limits xs ys u)
    ∙ (sym (append_assoc first (entered_from limits xs u) (entered_from limits ys (run limits xs u)))
    ∙ ap (λ (ids : List CopyId). ids ++ entered_from limits ys (run limits xs u)) (sym (filter_map-append entered_in ds (deeds_over limits xs u)))))

-- in every fair run all that a new receiver was handed had entered, in that order
pub run_hands_all : (limits : Capacity) (ts : List Turn) (w : World) → IsUntouched limits w → IsFair limits ts w → (c : List ℕ) (r : Receiver) → receiver_named c (run limits ts w) ≡ Some r → stand_among (copies_in r.ledger) (entered_from limits ts w) ≡ true
run_hands_all limits ts w u fair c r e =
    let nobody : receiver_named c w ≡ None = ap (find (λ (x : Receiver). bytes_eq x.client c)) u.new.receivers in
    let x = parts c limits ts w r fair.clean nobody e in
    let n = x.new in
    let whole = run_hands_whole limits x.first x.later w u (subst (λ (zs : List Turn). IsFair limits zs w) (sym x.are) fair) c n.its r n.named (subst (λ (zs : List Turn). receiver_named c (run limits zs w) ≡ Some r) (sym x.are) e) n.ledger n.down in
    let later = entered_from limits x.later (run limits x.first w) in
    let behind : stand_among (copies_in r.ledger) later ≡ true = subst (λ (ids : List CopyId). stand_among (copies_in r.ledger) (ids ++ later) ≡ true) n.queue whole in
    subst (λ (ids : List CopyId). stand_among (copies_in r.ledger) ids ≡ true) (sym (entered_parts limits x.first x.later w) ∙ ap (λ (zs : List Turn). entered_from limits zs w) x.are) (stand_behind (copies_in r.ledger) (entered_from limits x.first w) later behind)

-- and all that it has read of QoS 1, each copy where it was read first
pub run_reads_all : (limits : Capacity) (ts : List Turn) (w : World) → IsUntouched limits w → IsFair limits ts w → (c : List ℕ) (r : Receiver) → receiver_named c (run limits ts w) ≡ Some r → stand_among (copies_in (first_reads r.once)) (entered_from limits ts w) ≡ true
run_reads_all limits ts w u fair c r e =
    let nobody : receiver_named c w ≡ None = ap (find (λ (x : Receiver). bytes_eq x.client c)) u.new.receivers in
    let x = parts c limits ts w r fair.clean nobody e in
    let n = x.new in
    let firsts = copies_in (first_reads r.once) in
    let whole = run_reads_whole limits x.first x.later w u (subst (λ (zs : List Turn). IsFair limits zs w) (sym x.are) fair) c n.its r n.named (subst (λ (zs : List Turn). receiver_named c (run limits zs w) ≡ Some r) (sym x.are) e) n.ledger n.once n.down in
    let later = entered_from limits x.later (run limits x.first w) in
    let behind : stand_among firsts later ≡ true = subst (λ (ids : List CopyId). stand_among firsts (ids ++ later) ≡ true) n.queue whole in
    subst (λ (ids : List CopyId). stand_among firsts ids ≡ true) (sym (entered_parts limits x.first x.later w) ∙ ap (λ (zs : List Turn). entered_from limits zs w) x.are) (stand_behind firsts (entered_from limits x.first w) later behind)
