-- Over a run: where the later of two messages of a publisher was accepted, the earlier one was before, or is over (MQTT 5.0, 4.3.3, 4.6).
use Rattle.std.proofs.Common.{◌≡◌, ◌⊎◌, ℕ, ◌+◌, ◌<◌, ◌≤◌, Bool, true, false, cond, List, [], ◌∷◌, ◌++◌, map, Option, Some, None, bytes_eq, nat_eq, refl, sym, ap, subst, ◌∙◌, append-nil, append_assoc, arith, inl, inr}
use Rattle.std.specs.Prelude.{count_by, filter_map, find}
use Rattle.std.proofs.lemmas.Bool.{cases_Bool, eqb-true}
use Rattle.std.proofs.lemmas.Cmp.{nat_eq_equiv}
use Rattle.mqtt_records.proofs.lists_lemmas.OrderLemmas.{apart}
use Rattle.mqtt_rules.specs.declared.step.Capacity.{Capacity}
use Rattle.mqtt_rules.specs.step.Deeds.{Deed}
use Rattle.mqtt_world_model.specs.model.Ends.{Publisher}
use Rattle.mqtt_world_model.specs.model.Run.{Turn, accepted_at, accepted_over, are_beginnings_clean, asked_from, begins_clean, client_number, deeds_at, each_of, front_message, front_of_line, front_of_old, message_read, read_at, run, setting, turned}
use Rattle.mqtt_world_model.specs.model.World.{Asking, Event, World, ask, break, clock, connect_end, give_up, happens, is_bad, old_to_broker, publish, publisher, publisher_named, pump, receiver, restart, stop_after, stop_before, stranger, subscribe, tick, to_broker, to_end}
use Rattle.mqtt_world_laws.specs.acceptance.Fair.{IsFair, IsNew}
use Rattle.mqtt_world_laws.specs.acceptance.Spending.{run_spends, spending}
use Rattle.mqtt_world_laws.proofs.acceptance_lemmas.publishers.Around.{Him, Placed, Stays}
use Rattle.mqtt_world_laws.proofs.acceptance_lemmas.publishers.Runs.{both_true, either, new_stays, turn_stays}
use Rattle.mqtt_world_laws.proofs.routing_lemmas.OwnCounts.{counted_append, counted_cons}
use Rattle.mqtt_world_laws.proofs.ordered_lemmas.UnderWay.{IsAhead, IsOver, Stands}
use Rattle.mqtt_world_laws.proofs.ordered_lemmas.Sending.{IsCalm}
use Rattle.mqtt_world_laws.proofs.ordered_lemmas.Calm.{placed_calm}
use Rattle.mqtt_world_laws.proofs.ordered_lemmas.Named.{At, In}
use Rattle.mqtt_world_laws.proofs.ordered_lemmas.Passing.{event_stands, not_first, not_over}

-- ---- how often a message is accepted

abbrev pub times : ℕ → List ℕ → ℕ
times n ks = count_by (nat_eq n) ks

-- one, or none
abbrev pub one_if : Bool → ℕ
one_if t = cond t 1 0

-- another message is not counted
pub other_none : (n k : ℕ) (ks : List ℕ) → nat_eq n k ≡ false → times n (map (λ (j : ℕ). k) ks) ≡ 0
other_none n k [] other = refl
other_none n k (j ∷ ks) other =
    let rest = other_none n k ks other in
    let first = counted_cons (nat_eq n) k (map (λ (i : ℕ). k) ks) in
    let none : one_if (nat_eq n k) ≡ 0 = rw other refl in
    omega (arith, rest, first, none)

not_read_none : (n : ℕ) (o : Option ℕ) (ds : List Deed) → (o ≡ Some n → ⊥) → times n (each_of o ds) ≡ 0
not_read_none n None ds none = refl
not_read_none n (Some k) ds none = other_none n k (filter_map client_number ds) (apart n k (λ same. none (ap Some (sym same))))

-- ---- whose PUBLISH is read

-- nobody's, where there is no publisher
none_asked : (c : List ℕ) (a : Asking) (w : World) → publisher_named c w ≡ None → asked_from c a w ≡ None
none_asked c (to_broker d) w e = ap (λ (o : Option Publisher). cond (bytes_eq d c) (front_of_line o) None) e ∙ by (bytes_eq d c)
  where
    by : (t : Bool) → cond t (front_of_line None) None ≡ None
    by true = refl
    by false = refl
none_asked c (old_to_broker d) w e = ap (λ (o : Option Publisher). cond (bytes_eq d c) (front_of_old o) None) e ∙ by (bytes_eq d c)
  where
    by : (t : Bool) → cond t (front_of_old None) None ≡ None
    by true = refl
    by false = refl
none_asked c (break d) w e = refl
none_asked c (pump d) w e = refl
none_asked c tick w e = refl
none_asked c (stranger name bytes) w e = refl

-- a message that is read is the first on one of the publisher's lines
front_asked : (c : List ℕ) (k : ℕ) (a : Asking) (w : World) (p : Publisher) → publisher_named c w ≡ Some p → asked_from c a w ≡ Some k → (front_message p.line.up ≡ Some k) ⊎ (front_message p.line.old ≡ Some k)
front_asked c k (to_broker d) w p e is = inl (by (bytes_eq d c) (sym (ap (λ (o : Option Publisher). cond (bytes_eq d c) (front_of_line o) None) e) ∙ is))
  where
    by : (t : Bool) → cond t (front_message p.line.up) None ≡ Some k → front_message p.line.up ≡ Some k
    by true is = is
    by false is = absurd cc
front_asked c k (old_to_broker d) w p e is = inr (by (bytes_eq d c) (sym (ap (λ (o : Option Publisher). cond (bytes_eq d c) (front_of_old o) None) e) ∙ is))
  where
    by : (t : Bool) → cond t (front_message p.line.old) None ≡ Some k → front_message p.line.old ≡ Some k
    by true is = is
    by false is = absurd cc
front_asked c k (break d) w p e is = absurd cc
front_asked c k (pump d) w p e is = absurd cc
front_asked c k tick w p e is = absurd cc
front_asked c k (stranger name bytes) w p e is = absurd cc

-- so in an event
pub none_read : (c : List ℕ) (k : ℕ) (e : Event) (w : World) → publisher_named c w ≡ None → message_read c e w ≡ Some k → ⊥
none_read c k (ask a) w none is = let clash : None ≡ Some k = sym (none_asked c a w none) ∙ is in absurd cc
none_read c k (stop_after a) w none is = let clash : None ≡ Some k = sym (none_asked c a w none) ∙ is in absurd cc
none_read c k (publisher d) w none is = absurd cc
none_read c k (receiver d window aliases) w none is = absurd cc
none_read c k (connect_end d clean) w none is = absurd cc
none_read c k (give_up d) w none is = absurd cc
none_read c k (publish d x) w none is = absurd cc
none_read c k (subscribe d x) w none is = absurd cc
none_read c k (to_end d) w none is = absurd cc
none_read c k (clock wait) w none is = absurd cc
none_read c k restart w none is = absurd cc
none_read c k (stop_before a) w none is = absurd cc

-- and it is the first there
pub front_read : (c : List ℕ) (k : ℕ) (e : Event) (w : World) (p : Publisher) → publisher_named c w ≡ Some p → message_read c e w ≡ Some k → (front_message p.line.up ≡ Some k) ⊎ (front_message p.line.old ≡ Some k)
front_read c k (ask a) w p e is = front_asked c k a w p e is
front_read c k (stop_after a) w p e is = front_asked c k a w p e is
front_read c k (publisher d) w p e is = absurd cc
front_read c k (receiver d window aliases) w p e is = absurd cc
front_read c k (connect_end d clean) w p e is = absurd cc
front_read c k (give_up d) w p e is = absurd cc
front_read c k (publish d x) w p e is = absurd cc
front_read c k (subscribe d x) w p e is = absurd cc
front_read c k (to_end d) w p e is = absurd cc
front_read c k (clock wait) w p e is = absurd cc
front_read c k restart w p e is = absurd cc
front_read c k (stop_before a) w p e is = absurd cc

module _ (m n : ℕ) (less : m < n) (c : List ℕ) (limits : Capacity) where
  abbrev pub Where : Type 0 → World → Type 0
  Where A w = In A (Stands m n A) c w

  -- the first was accepted, or it is over, or ahead of the second, which was not accepted
  abbrev pub IsOrdered : List ℕ → World → Type 0
  IsOrdered accepted w = (1 ≤ times m accepted) ⊎ Where (times n accepted ≡ 0) w

  -- ---- what is read of a message that is over, or ahead

  -- a message that is over is not read
  pub over_unread : (e : Event) (w : World) (p : Publisher) → publisher_named c w ≡ Some p → IsOver m p → message_read c e w ≡ Some m → ⊥
  over_unread e w p named o is = elim (front_read c m e w p named is) [
    | inl up ↦ not_over m p.line.up o.up up
    | inr old ↦ not_over m p.line.old o.old old
  ]

  ahead_unread : (e : Event) (w : World) (p : Publisher) → publisher_named c w ≡ Some p → IsAhead m n p w.broker → message_read c e w ≡ Some n → ⊥
  ahead_unread e w p named h is = elim (front_read c n e w p named is) [
    | inl up ↦ not_first m n p.line.up less h.up up
    | inr old ↦ not_first m n p.line.old less h.old old
  ]

  -- ---- a turn

  -- it is over for good, or the second is not read
  record Split (B : Type 0) (e : Event) (w : World) : Type 0 where
    unread : message_read c e w ≡ Some n → ⊥
    place : B → Where B w

  split : (A B : Type 0) (e : Event) (w : World) → Where A w → Where ⊥ w ⊎ (Split B e w × A)
  split A B e w h = by (publisher_named c w) refl h
    where
      by : (o : Option Publisher) → publisher_named c w ≡ o → At A (Stands m n A) o w.broker → Where ⊥ w ⊎ (Split B e w × A)
      by None is a = inr (record { unread = none_read c n e w is; place = λ x. subst (λ (o : Option Publisher). At B (Stands m n B) o w.broker) (sym is) x }, a)
      by (Some p) is (inl o) = inl (subst (λ (x : Option Publisher). At ⊥ (Stands m n ⊥) x w.broker) (sym is) (inl o))
      by (Some p) is (inr h) = inr (record { unread = ahead_unread e w p is h.0; place = λ x. subst (λ (o : Option Publisher). At B (Stands m n B) o w.broker) (sym is) (inr (h.0, x)) }, h.1)

  never : (A : Type 0) (w : World) → Where ⊥ w → Where A w
  never A w h = by (publisher_named c w) h
    where
      by : (o : Option Publisher) → At ⊥ (Stands m n ⊥) o w.broker → At A (Stands m n A) o w.broker
      by None x = absurd x
      by (Some p) (inl o) = inl o
      by (Some p) (inr x) = absurd x.1

  calm : (accepted : List ℕ) (w : World) → Stays c limits accepted w → (p : Publisher) → publisher_named c w ≡ Some p → IsCalm m p w.broker
  calm accepted w s p e =
      let placed : Placed s.his p w.broker accepted = subst (Him s.his w.broker accepted) e s.holds.him in
      placed_calm m s.his accepted p w.broker placed s.holds.around.known

  turned_stands : (A : Type 0) (t : Turn) (accepted : List ℕ) (w : World) → Stays c limits accepted w → (message_read c t.event w ≡ Some m → ⊥) → Where A w → Where A (turned limits t w)
  turned_stands A t accepted w s none h = by (is_bad t.event w)
    where
      by : (bad : Bool) → Where A (cond bad w (happens (setting limits t) t.event w))
      by true = h
      by false = event_stands m n less c A (setting limits t) t.event w (calm accepted w s) none h

  turn_ordered : (t : Turn) (accepted : List ℕ) (w : World) → Stays c limits accepted w
      → (message_read c t.event w ≡ Some m → 1 ≤ times m (accepted ++ accepted_at c (setting limits t) t.event w))
      → IsOrdered accepted w → IsOrdered (accepted ++ accepted_at c (setting limits t) t.event w) (turned limits t w)
  turn_ordered t accepted w s welcome (inl some) =
      let all = counted_append (nat_eq m) accepted (accepted_at c (setting limits t) t.event w) in
      inl (omega (arith, all, some))
  turn_ordered t accepted w s welcome (inr h) = by (message_read c t.event w) refl
    where
      now : List ℕ
      now = accepted_at c (setting limits t) t.event w

      passes : (message_read c t.event w ≡ Some m → ⊥) → IsOrdered (accepted ++ now) (turned limits t w)
      passes none = elim (split (times n accepted ≡ 0) (times n (accepted ++ now) ≡ 0) t.event w h) [
        | inl over ↦ inr (never (times n (accepted ++ now) ≡ 0) (turned limits t w) (turned_stands ⊥ t accepted w s none over))
        | inr ahead ↦
            let all = counted_append (nat_eq n) accepted now in
            let before = ahead.1 in
            let none_now : times n now ≡ 0 = not_read_none n (message_read c t.event w) (deeds_at (setting limits t) t.event w) ahead.0.unread in
            inr (turned_stands (times n (accepted ++ now) ≡ 0) t accepted w s none (ahead.0.place (omega (arith, all, before, none_now))))
      ]

      by : (o : Option ℕ) → message_read c t.event w ≡ o → IsOrdered (accepted ++ now) (turned limits t w)
      by None is = passes (λ e. let clash : None ≡ Some m = sym is ∙ e in absurd cc)
      by (Some k) is = elim (cases_Bool (nat_eq k m)) [
        | inl its ↦ inl (welcome (is ∙ ap Some (eqb-true k m its)))
        | inr other ↦ passes (λ e.
            let clash : Some k ≡ Some m = sym is ∙ e in
            let same : k ≡ m = cc in
            let differ : true ≡ false = sym (nat_eq_equiv.refl m) ∙ (ap (λ (j : ℕ). nat_eq j m) (sym same) ∙ other) in absurd cc)
      ]

  -- ---- a run

  -- where a PUBLISH of the first is read it is accepted by then
  abbrev pub IsWelcome : List ℕ → List Turn → World → Type 0
  IsWelcome accepted ts w =
      (earlier : List Turn) (t : Turn) (later : List Turn) → earlier ++ t ∷ later ≡ ts → message_read c t.event (run limits earlier w) ≡ Some m
      → 1 ≤ times m (accepted ++ accepted_over c limits (earlier ++ t ∷ []) w)

  run_ordered : (ts : List Turn) (accepted : List ℕ) (w : World) → Stays c limits accepted w → run_spends limits ts w ≡ false → are_beginnings_clean limits ts w ≡ true → IsWelcome accepted ts w → IsOrdered accepted w
      → IsOrdered (accepted ++ accepted_over c limits ts w) (run limits ts w)
  run_ordered [] accepted w s unspent clean welcome h = subst (λ (ks : List ℕ). IsOrdered ks w) (sym (append-nil accepted)) h
  run_ordered (t ∷ ts) accepted w s unspent clean welcome h =
      let v = turned limits t w in
      let now = accepted_at c (setting limits t) t.event w in
      let costs = either (read_at spending (setting limits t) t.event w) (run_spends limits ts v) unspent in
      let carried = both_true (begins_clean t.event w) (are_beginnings_clean limits ts v) clean in
      let next = turn_stays t c limits accepted w s carried.0 costs.0 in
      let first = turn_ordered t accepted w s (λ is. subst (λ (ks : List ℕ). 1 ≤ times m (accepted ++ ks)) (append-nil now) (welcome [] t ts refl is)) h in
      subst (λ (ks : List ℕ). IsOrdered ks (run limits (t ∷ ts) w)) (append_assoc accepted now (accepted_over c limits ts v))
      (run_ordered ts (accepted ++ now) v next costs.1 carried.1
      (λ earlier x later are is. subst (λ (ks : List ℕ). 1 ≤ times m ks) (sym (append_assoc accepted now (accepted_over c limits (earlier ++ x ∷ []) v))) (welcome (t ∷ earlier) x later (ap (λ (us : List Turn). t ∷ us) are) is))
      first)

  -- so in every fair run in which the first is welcome
  pub ordered_after : (ts : List Turn) (w : World) → IsNew w → IsFair limits ts w → IsWelcome [] ts w → IsOrdered (accepted_over c limits ts w) (run limits ts w)
  ordered_after ts w new fair welcome = run_ordered ts [] w (new_stays c limits w fair.within new) fair.unspent fair.clean welcome (inr begins)
    where
      none : publisher_named c w ≡ None
      none = ap (find (λ (p : Publisher). bytes_eq p.client c)) new.publishers

      begins : Where (times n [] ≡ 0) w
      begins = subst (λ (o : Option Publisher). At (times n [] ≡ 0) (Stands m n (times n [] ≡ 0)) o w.broker) (sym none) refl
