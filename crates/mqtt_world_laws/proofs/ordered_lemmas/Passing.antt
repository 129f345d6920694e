-- Every event leaves a publisher's earlier message ahead, or over, but one that reads a PUBLISH of it (MQTT 5.0, 4.4, 4.6).
use Rattle.std.proofs.Common.{◌≡◌, ◌⊎◌, ℕ, ◌<◌, Bool, true, false, cond, List, [], ◌∷◌, drop, length, Option, Some, None, bytes_eq, refl, sym, ap, subst, ◌∙◌, arith, inl, inr}
use Rattle.std.proofs.lemmas.Bool.{cases_Bool, eqb-true}
use Rattle.std.proofs.lemmas.Cmp.{nat_eq_equiv}
use Rattle.std.proofs.lemmas.Slice.Eq.{bytes_eq-Decides}
use Rattle.mqtt_records.proofs.lists_lemmas.OrderLemmas.{apart}
use Rattle.mqtt_flow.specs.inbound.Line.{away, live}
use Rattle.mqtt_flow.specs.inbound.Publisher.{CONNECT}
use Rattle.mqtt_rules.specs.step.State.{Broker}
use Rattle.mqtt_rules.specs.step.Step.{Call, NewLine, opened, stepped, told}
use Rattle.mqtt_world_model.specs.model.Lines.{gives_up, is_one_of, joined, left, unless_closed}
use Rattle.mqtt_world_model.specs.model.Ends.{Publisher, Receiver, Sent, message_in, new_publisher, published, publisher_reads, receiver_reads, shake}
use Rattle.mqtt_world_model.specs.model.World.{Asking, Event, Setting, World, ask, asks, before, break, call_of, calls, clock, comes, connect_end, first_step, give_up, happens, held_count, is_open_line, links, next_line, old_to_broker, publish, publisher, publisher_named, publisher_restarted, publisher_told, pump, receiver, restart, restarts, stop_after, stop_before, stranger, stranger_named, subscribe, taken_old, taken_up, tick, to_broker, to_end, with_publisher, with_receiver}
use Rattle.mqtt_world_model.specs.model.Run.{asked_from, front_message, front_of_line, front_of_old, message_read}
use Rattle.mqtt_world_laws.proofs.acceptance_lemmas.copies.Steady.{given_grows}
use Rattle.mqtt_world_laws.proofs.acceptance_lemmas.publishers.Changes.{on_back, on_line}
use Rattle.mqtt_world_laws.proofs.acceptance_lemmas.publishers.Ends.{changed_his, changed_not, find_first, find_last, find_no_more, whose_name}
use Rattle.mqtt_world_laws.proofs.acceptance_lemmas.publishers.Kept.{published_remains, read_remains}
use Rattle.mqtt_world_laws.proofs.ordered_lemmas.Named.{At, In, all_in, comes_in, if_in, one_in, rest_in}
use Rattle.mqtt_world_laws.proofs.ordered_lemmas.Standing.{stood_call}
use Rattle.mqtt_world_laws.proofs.ordered_lemmas.UnderWay.{GoesFirst, Stands, both_false, has_publish, is_number, is_publish_of, waits}
use Rattle.mqtt_world_laws.proofs.ordered_lemmas.Sending.{IsCalm, given_up_stands, joined_stands, left_stands, published_stands, read_stands}

-- ---- packets that the broker takes off a line

number_is : (m : ℕ) (o : Option ℕ) → is_number m o ≡ true → o ≡ Some m
number_is m None h = absurd cc
number_is m (Some k) h = ap Some (eqb-true k m h)

none_dropped : (m : ℕ) (xs : List Sent) → has_publish m xs ≡ false → has_publish m (drop 1 xs) ≡ false
none_dropped m [] h = h
none_dropped m (x ∷ xs) h = (both_false (is_publish_of m x) (has_publish m xs) h).1

first_dropped : (m n : ℕ) (xs : List Sent) → (front_message xs ≡ Some m → ⊥) → GoesFirst m n xs → GoesFirst m n (drop 1 xs)
first_dropped m n [] none h = h
first_dropped m n (x ∷ xs) none (inl is) = absurd (none (number_is m (message_in x) is))
first_dropped m n (x ∷ xs) none (inr h) = h.1

there_dropped : (m : ℕ) (xs : List Sent) → (front_message xs ≡ Some m → ⊥) → has_publish m xs ≡ true → has_publish m (drop 1 xs) ≡ true
there_dropped m [] none h = h
there_dropped m (x ∷ xs) none h = elim (cases_Bool (is_publish_of m x)) [
  | inl is ↦ absurd (none (number_is m (message_in x) is))
  | inr other ↦ rw other at h
]

-- the second is not read before the first
pub not_first : (m n : ℕ) (xs : List Sent) → m < n → GoesFirst m n xs → front_message xs ≡ Some n → ⊥
not_first m n [] less h is = absurd cc
not_first m n (x ∷ xs) less (inl its) is =
    let other : is_publish_of m x ≡ false = ap (is_number m) is ∙ apart n m (λ same. omega (arith, less, same)) in
    let clash : true ≡ false = sym its ∙ other in absurd cc
not_first m n (x ∷ xs) less (inr h) is =
    let its : is_publish_of n x ≡ true = ap (is_number n) is ∙ nat_eq_equiv.refl n in
    let clash : true ≡ false = sym its ∙ h.0 in absurd cc

-- a message that is over is not read
pub not_over : (m : ℕ) (xs : List Sent) → has_publish m xs ≡ false → front_message xs ≡ Some m → ⊥
not_over m [] h is = absurd cc
not_over m (x ∷ xs) h is =
    let its : is_publish_of m x ≡ true = ap (is_number m) is ∙ nat_eq_equiv.refl m in
    let clash : true ≡ false = sym its ∙ (both_false (is_publish_of m x) (has_publish m xs) h).0 in absurd cc

-- whose packet is read
own_front : (c d : List ℕ) (m : ℕ) (x : Option ℕ) → d ≡ c → (cond (bytes_eq d c) x None ≡ Some m → ⊥) → x ≡ Some m → ⊥
own_front c d m x is none e = none (ap (λ (t : Bool). cond t x None) ((bytes_eq-Decides d c).1 is) ∙ e)

module _ (m n : ℕ) (less : m < n) (c : List ℕ) where
  -- ---- what is left of a publisher by a restart: its message is done with, or it is ahead

  abbrev IsDone : Type 0 → Publisher → Broker → Type 0
  IsDone A p b = ((m < length p.fates) × (waits m p.fates ≡ false)) ⊎ A

  done_of : (A : Type 0) (p : Publisher) (b : Broker) → Stands m n A p b → IsDone A p b
  done_of A p b (inl o) = inl (o.out, o.done)
  done_of A p b (inr h) = inr h.1

  done_in : (A : Type 0) (w : World) → In A (Stands m n A) c w → In A (IsDone A) c w
  done_in A w h = by (publisher_named c w) h
    where
      by : (o : Option Publisher) → At A (Stands m n A) o w.broker → At A (IsDone A) o w.broker
      by None x = x
      by (Some p) x = done_of A p w.broker x

  module _ (A : Type 0) (set : Setting) where
    -- ---- a call

    none_closed : (t : Bool) (j : ℕ) (xs : List Sent) → has_publish j xs ≡ false → has_publish j (unless_closed t xs) ≡ false
    none_closed true j xs h = refl
    none_closed false j xs h = h

    first_closed : (t : Bool) (xs : List Sent) → GoesFirst m n xs → GoesFirst m n (unless_closed t xs)
    first_closed true xs h = tt
    first_closed false xs h = h

    call_stands : (call : Call) (now : ℕ) (p : Publisher) (b : Broker) → Stands m n A p b
        → Stands m n A (publisher_told (stepped set.limits set.choice now call b) (told set.limits set.choice now call b) p) (stepped set.limits set.choice now call b)
    call_stands call now p b (inl o) =
        let out = told set.limits set.choice now call b in
        inl (record { out = o.out; done = o.done; up = none_closed (is_one_of p.line.number out.closed) m p.line.up o.up; old = none_closed (is_one_of p.line.old_number out.closed) m p.line.old o.old })
    call_stands call now p b (inr h) =
        let out = told set.limits set.choice now call b in
        let grows = given_grows set.limits set.choice now call b in
        inr (
          record {
            up = first_closed (is_one_of p.line.number out.closed) p.line.up h.0.up;
            old = first_closed (is_one_of p.line.old_number out.closed) p.line.old h.0.old;
            there = λ l o w.
                let stood = stood_call set.limits set.choice now call b p.line.number (h.0.given l) o in
                ap (λ (t : Bool). has_publish m (unless_closed t p.line.up)) stood.1 ∙ h.0.there l stood.0 w;
            given = λ l j is. let le = h.0.given l j is in omega (arith, le, grows);
          },
          h.1,
        )

    call_done : (call : Call) (now : ℕ) (p : Publisher) (b : Broker) → IsDone A p b
        → IsDone A (publisher_told (stepped set.limits set.choice now call b) (told set.limits set.choice now call b) p) (stepped set.limits set.choice now call b)
    call_done call now p b h = h

    -- ---- what is asked for

    up_stands : (p : Publisher) (b : Broker) → (front_message p.line.up ≡ Some m → ⊥) → Stands m n A p b → Stands m n A (on_line taken_up p) b
    up_stands p b none (inl o) = inl (record { out = o.out; done = o.done; up = none_dropped m p.line.up o.up; old = o.old })
    up_stands p b none (inr h) =
        inr (record { up = first_dropped m n p.line.up none h.0.up; old = h.0.old; there = λ l o w. there_dropped m p.line.up none (h.0.there l o w); given = h.0.given }, h.1)

    old_stands : (p : Publisher) (b : Broker) → (front_message p.line.old ≡ Some m → ⊥) → Stands m n A p b → Stands m n A (on_line taken_old p) b
    old_stands p b none (inl o) = inl (record { out = o.out; done = o.done; up = o.up; old = none_dropped m p.line.old o.old })
    old_stands p b none (inr h) = inr (record { up = h.0.up; old = first_dropped m n p.line.old none h.0.old; there = h.0.there; given = h.0.given }, h.1)

    before_stands : (a : Asking) (w : World) → (asked_from c a w ≡ Some m → ⊥) → In A (Stands m n A) c w → In A (Stands m n A) c (before set a w)
    before_stands (to_broker d) w none h = elim (whose_name c d w) [
      | inr not_him ↦ subst (λ (o : Option Publisher). At A (Stands m n A) o w.broker) (sym (changed_not c d (on_line taken_up) (with_receiver d (on_back taken_up) w) (λ p. refl) not_him)) h
      | inl own ↦
          let p = own.0 in
          let s : Stands m n A p w.broker = subst (λ (o : Option Publisher). At A (Stands m n A) o w.broker) own.1 h in
          let free = own_front c d m (front_of_line (publisher_named c w)) own.2 none in
          let next = up_stands p w.broker (λ e. free (ap front_of_line own.1 ∙ e)) s in
          subst (λ (x : List ℕ). In A (Stands m n A) c (before set (to_broker x) w)) (sym own.2)
          (subst (λ (o : Option Publisher). At A (Stands m n A) o w.broker) (sym (changed_his c (on_line taken_up) (with_receiver c (on_back taken_up) w) p (λ q. refl) own.1)) next)
    ]
    before_stands (old_to_broker d) w none h = elim (whose_name c d w) [
      | inr not_him ↦ subst (λ (o : Option Publisher). At A (Stands m n A) o w.broker) (sym (changed_not c d (on_line taken_old) (with_receiver d (on_back taken_old) w) (λ p. refl) not_him)) h
      | inl own ↦
          let p = own.0 in
          let s : Stands m n A p w.broker = subst (λ (o : Option Publisher). At A (Stands m n A) o w.broker) own.1 h in
          let free = own_front c d m (front_of_old (publisher_named c w)) own.2 none in
          let next = old_stands p w.broker (λ e. free (ap front_of_old own.1 ∙ e)) s in
          subst (λ (x : List ℕ). In A (Stands m n A) c (before set (old_to_broker x) w)) (sym own.2)
          (subst (λ (o : Option Publisher). At A (Stands m n A) o w.broker) (sym (changed_his c (on_line taken_old) (with_receiver c (on_back taken_old) w) p (λ q. refl) own.1)) next)
    ]
    before_stands (break d) w none h = h
    before_stands (pump d) w none h = h
    before_stands tick w none h = h
    before_stands (stranger name bytes) w none h = comes_in A (Stands m n A) c set call_stands name bytes w h

    first_stands : (a : Asking) (w : World) → (asked_from c a w ≡ Some m → ⊥) → In A (Stands m n A) c w → In A (Stands m n A) c (first_step set a w)
    first_stands a w none h = if_in A (Stands m n A) c set call_stands (call_of set a w) (before set a w) (before_stands a w none h)

    before_done : (a : Asking) (w : World) → In A (IsDone A) c w → In A (IsDone A) c (before set a w)
    before_done (to_broker d) w h = one_in A (IsDone A) c d (on_line taken_up) w.publishers w.broker (λ p. refl) (λ p x. x) h
    before_done (old_to_broker d) w h = one_in A (IsDone A) c d (on_line taken_old) w.publishers w.broker (λ p. refl) (λ p x. x) h
    before_done (break d) w h = h
    before_done (pump d) w h = h
    before_done tick w h = h
    before_done (stranger name bytes) w h = comes_in A (IsDone A) c set call_done name bytes w h

    first_done : (a : Asking) (w : World) → In A (IsDone A) c w → In A (IsDone A) c (first_step set a w)
    first_done a w h = if_in A (IsDone A) c set call_done (call_of set a w) (before set a w) (before_done a w h)

    asks_stand : (a : Asking) (w : World) → (asked_from c a w ≡ Some m → ⊥) → In A (Stands m n A) c w → In A (Stands m n A) c (asks set a w)
    asks_stand (to_broker d) w none h = first_stands (to_broker d) w none h
    asks_stand (old_to_broker d) w none h = first_stands (old_to_broker d) w none h
    asks_stand (break d) w none h =
        let v = first_step set (break d) w in
        one_in A (Stands m n A) c d (on_line left) v.publishers v.broker (λ p. refl) (λ p x. left_stands m n less A v.broker p (left p.line) refl refl refl x) (first_stands (break d) w none h)
    asks_stand (pump d) w none h = first_stands (pump d) w none h
    asks_stand tick w none h = first_stands tick w none h
    asks_stand (stranger name bytes) w none h =
        let v = comes set name bytes w in
        rest_in A (Stands m n A) c set call_stands (held_count (stranger_named name v)) name v (comes_in A (Stands m n A) c set call_stands name bytes w h)

    -- ---- a restart

    restart_stands : (w : World) → In A (IsDone A) c w → In A (Stands m n A) c (restarts set w)
    restart_stands w h = all_in A (IsDone A) (Stands m n A) c publisher_restarted w.publishers w.broker (opened set.limits set.choice w.now w.broker.records) (λ p. refl) by h
      where
        by : (p : Publisher) → IsDone A p w.broker → Stands m n A (publisher_restarted p) (opened set.limits set.choice w.now w.broker.records)
        by p (inl o) = inl (record { out = o.0; done = o.1; up = refl; old = refl })
        by p (inr a) = inr (record { up = tt; old = tt; there = λ l o w. absurd (let clash : away ≡ live = l in cc); given = λ l. absurd (let clash : away ≡ live = l in cc) }, a)

    -- ---- an event

    comes_ahead : (b : Broker) (d : List ℕ) → A → Stands m n A (new_publisher d) b
    comes_ahead b d a = inr (record { up = tt; old = tt; there = λ l o w. absurd (let clash : away ≡ live = l in cc); given = λ l. absurd (let clash : away ≡ live = l in cc) }, a)

    publisher_comes : (d : List ℕ) (w : World) → In A (Stands m n A) c w → In A (Stands m n A) c (happens set (publisher d) w)
    publisher_comes d w h = by (publisher_named c w) refl h
      where
        by : (o : Option Publisher) → publisher_named c w ≡ o → At A (Stands m n A) o w.broker → In A (Stands m n A) c (happens set (publisher d) w)
        by (Some p) e x = subst (λ (o : Option Publisher). At A (Stands m n A) o w.broker) (sym (find_first (λ (q : Publisher). bytes_eq q.client c) (new_publisher d) p w.publishers e)) x
        by None e x = elim (cases_Bool (bytes_eq d c)) [
          | inl its ↦ subst (λ (o : Option Publisher). At A (Stands m n A) o w.broker) (sym (find_last (λ (q : Publisher). bytes_eq q.client c) (new_publisher d) w.publishers its e)) (comes_ahead w.broker d x)
          | inr other ↦ subst (λ (o : Option Publisher). At A (Stands m n A) o w.broker) (sym (find_no_more (λ (q : Publisher). bytes_eq q.client c) (new_publisher d) w.publishers other ∙ e)) x
        ]

    -- what one does that is its own, if it is calm
    own_stands : (d : List ℕ) (F : Publisher → Publisher) (w : World) → ((p : Publisher) → (F p).client ≡ p.client)
        → ((p : Publisher) → publisher_named c w ≡ Some p → Stands m n A p w.broker → Stands m n A (F p) w.broker) → In A (Stands m n A) c w
        → In A (Stands m n A) c (with_publisher d F w)
    own_stands d F w same does h = elim (whose_name c d w) [
      | inr not_him ↦ subst (λ (o : Option Publisher). At A (Stands m n A) o w.broker) (sym (changed_not c d F w same not_him)) h
      | inl own ↦
          let p = own.0 in
          let s : Stands m n A p w.broker = subst (λ (o : Option Publisher). At A (Stands m n A) o w.broker) own.1 h in
          subst (λ (x : List ℕ). In A (Stands m n A) c (with_publisher x F w)) (sym own.2)
          (subst (λ (o : Option Publisher). At A (Stands m n A) o w.broker) (sym (changed_his c F w p same own.1)) (does p own.1 s))
    ]

    links_stand : (o : Option ℕ) (d : List ℕ) (clean : Bool) (w : World) → In A (Stands m n A) c w → In A (Stands m n A) c (links set o d clean w)
    links_stand None d clean w h = h
    links_stand (Some k) d clean w h =
        let v = calls set NewLine w in
        one_in A (Stands m n A) c d (on_line (joined (shake (CONNECT clean)) k clean)) v.publishers v.broker (λ p. refl) (λ p x. joined_stands m n less A v.broker k clean p x) (if_in A (Stands m n A) c set call_stands (Some NewLine) w h)

    -- whatever happens, if no PUBLISH of the first is read
    pub event_stands : (e : Event) (w : World) → ((p : Publisher) → publisher_named c w ≡ Some p → IsCalm m p w.broker) → (message_read c e w ≡ Some m → ⊥) → In A (Stands m n A) c w → In A (Stands m n A) c (happens set e w)
    event_stands (publisher d) w calm none h = publisher_comes d w h
    event_stands (receiver d window aliases) w calm none h = h
    event_stands (connect_end d clean) w calm none h = links_stand (next_line set.limits w.broker) d clean w h
    event_stands (give_up d) w calm none h =
        one_in A (Stands m n A) c d (λ p. record p { line = gives_up p.line.link p.line }) w.publishers w.broker (λ p. refl) (λ p x. given_up_stands m n less A w.broker p x) h
    event_stands (publish d x) w calm none h =
        own_stands d (λ p. published (is_open_line p.line w) x p) w (λ p. (published_remains (is_open_line p.line w) x p).client)
        (λ p e s. published_stands m n less A w.broker x p (calm p e).late s) h
    event_stands (subscribe d x) w calm none h = h
    event_stands (to_end d) w calm none h =
        let G : Receiver → Receiver = λ r. receiver_reads (is_open_line r.line w) r.line.down r in
        own_stands d (λ p. publisher_reads (is_open_line p.line w) p.line.down p) (with_receiver d G w) (λ p. (read_remains (is_open_line p.line w) p.line.down p).client)
        (λ p e s. read_stands m n less A w.broker p (calm p e) s) h
    event_stands (clock wait) w calm none h = h
    event_stands (ask a) w calm none h = asks_stand a w none h
    event_stands restart w calm none h = restart_stands w (done_in A w h)
    event_stands (stop_before a) w calm none h = restart_stands (before set a w) (before_done a w (done_in A w h))
    event_stands (stop_after a) w calm none h = restart_stands (first_step set a w) (first_done a w (done_in A w h))
