-- After one round of a drain nothing is under way from a receiver, whatever was: its line is closed, or the receiver may be
-- drained (MQTT 5.0, 4.3, 4.4, 4.6).
use Rattle.std.proofs.Common.{◌≡◌, ℕ, zero, suc, ◌+◌, ◌*◌, ◌≤◌, Bool, true, false, cond, not, ◌||◌, ◌⊎◌, List, [], ◌∷◌, ◌++◌, map, length, Option, Some, None, bytes_eq, refl, sym, ap, subst, ◌∙◌, arith, inl, inr}
use Rattle.std.specs.Prelude.{drop, is_some, option_map}
use Rattle.std.specs.List.{AllByRecursion}
use Rattle.mqtt_base.specs.declared.session.CopyId.{CopyId}
use Rattle.mqtt_flow.specs.inbound.Publisher.{CONNECT}
use Rattle.mqtt_world_model.specs.model.Ends.{Back, Receiver, shake}
use Rattle.mqtt_world_model.specs.model.Lines.{stands, unless_closed}
use Rattle.mqtt_world_model.specs.model.Run.{Turn, are_beginnings_clean, begins_clean, run, turned}
use Rattle.mqtt_world_model.specs.model.Seats.{Present, absent, closed, connected_at, joined, waiting}
use Rattle.mqtt_world_model.specs.model.World.{Event, Setting, World, ask, asks, call_of, calls_if, is_end, publisher_named, pump, receiver_named, receiver_told, taken_up, to_broker, to_end}
use Rattle.mqtt_world_model.proofs.model_lemmas.seats.OwnSeats.{line_of_on, not_among}
use Rattle.mqtt_records.specs.lists.Distinct.{AllDiffer}
use Rattle.mqtt_rules.specs.step.Flight.{HasDistinctIdentifiers}
use Rattle.mqtt_rules.specs.step.State.{Line as BrokerLine, Broker, MemberChoice, line_at}
use Rattle.mqtt_rules.specs.step.Step.{Call, stepped, told}
use Rattle.mqtt_rules.specs.declared.step.Capacity.{Capacity}
use Rattle.mqtt_world_laws.proofs.acceptance_lemmas.publishers.Ends.{find_receiver, only_receiver}
use Rattle.mqtt_world_laws.proofs.acceptance_lemmas.publishers.Runs.{both_true}
use Rattle.mqtt_world_laws.specs.receiver.Drains.{after_round, all_to_broker, all_to_end, copies_left, count_by_end, downs_by, drain_by, drain_turns, drained, enough_rounds, is_none_left, is_over, line_stands, round_turns, rounds_taken, times, turn_of, ups_by}
use Rattle.mqtt_world_laws.specs.receiver.WorldRounds.{IsAnswer, IsConnected, MayDrain, QueueFits}
use Rattle.mqtt_world_laws.proofs.receiver_lemmas.drains.DrainRuns.{run_append}
use Rattle.mqtt_world_laws.proofs.receiver_lemmas.drains.WorldRounds.{drain_over_later, drain_within_later}
use Rattle.mqtt_world_laws.specs.delivery.Standing.{GoesAlong, IsPlaced, IsSeen, Stands, StandsWith, line_like, packet_like}
use Rattle.mqtt_world_laws.proofs.delivery_lemmas.others.Around.{changed_its, on_back}
use Rattle.mqtt_world_laws.proofs.delivery_lemmas.others.Like.{closed_stands, none_stands}
use Rattle.mqtt_world_laws.proofs.delivery_lemmas.others.Outside.{named_called}

-- no more than so many are under way from it
abbrev pub HasUp : List ℕ → ℕ → World → Type 0
HasUp c n w = (r : Receiver) → receiver_named c w ≡ Some r → length r.line.up ≤ n

shorter : (t : Bool) (xs : List Back) → length (unless_closed t xs) ≤ length xs
shorter true xs = omega arith
shorter false xs = omega arith

one_less : (n : ℕ) (xs : List Back) → length xs ≤ suc n → length (drop 1 xs) ≤ n
one_less n [] h = omega arith
one_less n (x ∷ xs) h = let le : suc (length xs) ≤ suc n = h in omega (arith, le)

none_up : (xs : List Back) → length xs ≤ 0 → xs ≡ []
none_up [] h = refl
none_up (x ∷ xs) h = let le : suc (length xs) ≤ 0 = h in absurd (omega (arith, le))

-- ---- the broker reads all

module _ (c : List ℕ) (limits : Capacity) (choice : MemberChoice) where
  abbrev set : Setting
  set = record { limits = limits; choice = choice }

  abbrev reads_one : Turn
  reads_one = turn_of choice (ask (to_broker c))

  module _ (w : World) where
    abbrev taken : World
    taken = record w {
      publishers = map (λ p. cond (bytes_eq p.client c) (record p { line = taken_up p.line }) p) w.publishers;
      receivers = map (λ r. cond (bytes_eq r.client c) (on_back taken_up r) r) w.receivers;
    }

    nobody_read : receiver_named c w ≡ None → receiver_named c (asks set (to_broker c) w) ≡ None
    nobody_read e = by (call_of set (to_broker c) w)
      where
        found : receiver_named c taken ≡ None
        found = find_receiver c (λ r. cond (bytes_eq r.client c) (on_back taken_up r) r) (λ r. only_receiver (bytes_eq r.client c) (on_back taken_up) r refl) w.receivers ∙ ap (option_map _) e

        by : (o : Option Call) → receiver_named c (calls_if set o taken) ≡ None
        by None = found
        by (Some call) = named_called c set call taken ∙ ap (option_map _) found

    its_read : (r : Receiver) → receiver_named c w ≡ Some r → (q : Receiver) × (receiver_named c (asks set (to_broker c) w) ≡ Some q) × (length q.line.up ≤ length (drop 1 r.line.up))
    its_read r e = by (call_of set (to_broker c) w)
      where
        q : Receiver
        q = on_back taken_up r

        found : receiver_named c taken ≡ Some q
        found = changed_its c (on_back taken_up) w r (λ z. refl) e

        by : (o : Option Call) → (q : Receiver) × (receiver_named c (calls_if set o taken) ≡ Some q) × (length q.line.up ≤ length (drop 1 r.line.up))
        by None = (q, found, omega arith)
        by (Some call) =
            let new = stepped set.limits set.choice w.now call w.broker in
            let out = told set.limits set.choice w.now call w.broker in
            (receiver_told new out q, named_called c set call taken ∙ ap (option_map (receiver_told new out)) found, shorter _ (drop 1 r.line.up))

  there_is : (w : World) (r : Receiver) → receiver_named c w ≡ Some r → is_end c w ≡ true
  there_is w r e = by (is_some (publisher_named c w))
    where
      by : (t : Bool) → (t || is_some (receiver_named c w)) ≡ true
      by true = refl
      by false = ap is_some e

  one_read : (n : ℕ) (w : World) → HasUp c (suc n) w → HasUp c n (turned limits reads_one w)
  one_read n w h = by (receiver_named c w) refl
    where
      by : (o : Option Receiver) → receiver_named c w ≡ o → HasUp c n (cond (not (is_end c w)) w (asks set (to_broker c) w))
      by None e = none (is_end c w)
        where
          none : (t : Bool) → HasUp c n (cond (not t) w (asks set (to_broker c) w))
          none true q is = let clash : None ≡ Some q = sym (nobody_read w e) ∙ is in absurd cc
          none false q is = let clash : None ≡ Some q = sym e ∙ is in absurd cc
      by (Some r) e = subst (λ (t : Bool). HasUp c n (cond (not t) w (asks set (to_broker c) w))) (sym (there_is w r e)) (λ q is.
          let x = its_read w r e in
          let both : Some x.0 ≡ Some q = sym x.1 ∙ is in
          let same : x.0 ≡ q = cc in
          let less = one_less n r.line.up (h r e) in
          let up = x.2 in
          subst (λ (z : Receiver). length z.line.up ≤ n) same (omega (arith, less, up)))

  all_read : (n : ℕ) (w : World) → HasUp c n w → HasUp c 0 (run limits (times n reads_one) w)
  all_read zero w h = h
  all_read (suc n) w h = all_read n (turned limits reads_one w) (one_read n w h)

  -- ---- a round

  -- after a round nothing is under way from the receiver
  pub none_after : (w : World) → HasUp c 0 (after_round limits choice c w)
  none_after w =
      let sent = turned limits (turn_of choice (ask (pump c))) w in
      let reads = all_to_end choice c sent in
      let read_ = run limits reads sent in
      let many = ups_by (receiver_named c read_) in
      let all = all_read many read_ (λ r e. let same : ups_by (receiver_named c read_) ≡ length r.line.up = ap ups_by e in omega (arith, same)) in
      subst (HasUp c 0) (sym (run_append limits reads (all_to_broker choice c read_) sent)) all

  -- no event of it gives a line up
  carried_times : (n : ℕ) (e : Event) (w : World) → ((v : World) → begins_clean e v ≡ true) → are_beginnings_clean limits (times n (turn_of choice e)) w ≡ true
  carried_times zero e w h = refl
  carried_times (suc n) e w h = rw (h w) (carried_times n e (turned limits (turn_of choice e) w) h)

  carried_append : (xs ys : List Turn) (w : World) → are_beginnings_clean limits xs w ≡ true → are_beginnings_clean limits ys (run limits xs w) ≡ true → are_beginnings_clean limits (xs ++ ys) w ≡ true
  carried_append [] ys w h k = k
  carried_append (t ∷ xs) ys w h k =
      let both = both_true (begins_clean t.event w) (are_beginnings_clean limits xs (turned limits t w)) h in
      rw both.0 (carried_append xs ys (turned limits t w) both.1 k)

  -- a round carries Clean Starts through
  pub round_carried : (w : World) → are_beginnings_clean limits (round_turns limits choice c w) w ≡ true
  round_carried w =
      let sent = turned limits (turn_of choice (ask (pump c))) w in
      let reads = all_to_end choice c sent in
      let read_ = run limits reads sent in
      carried_append reads (all_to_broker choice c read_) sent (carried_times (downs_by (receiver_named c sent)) (to_end c) sent (λ v. refl)) (carried_times (ups_by (receiver_named c read_)) (ask (to_broker c)) read_ (λ v. refl))

-- ---- if nothing is under way from it

-- it may be drained, through some Receive Maximum, with the copies that have entered
pub record MayBeDrained (c : List ℕ) (largest : ℕ) (v : World) : Type 0 where
  pub window : ℕ
  pub room : 1 ≤ window
  pub ids : List CopyId
  pub differ : AllDiffer ids
  pub birth : ℕ
  pub ns : List ℕ
  pub receiver : Receiver
  pub may : MayDrain largest window ids birth ns c receiver v

-- its connected line has this Maximum Packet Size, and a Receive Maximum, and what waits for it is no larger
abbrev pub TakesSome : List ℕ → ℕ → World → Type 0
TakesSome c largest v = (r : Receiver) (n birth : ℕ) (l : BrokerLine) → receiver_named c v ≡ Some r → r.line.number ≡ Some n → line_at n v.broker ≡ Some l → l.session ≡ Some birth → (l.largest ≡ largest) × (1 ≤ l.window) × QueueFits largest birth v.broker

-- a drain is over if one of its two reasons holds
pub over_if : (a b : Bool) → b ≡ false → (a || not b) ≡ true
over_if true b h = refl
over_if false b h = ap not h

-- if its session is connected on its line, through some Receive Maximum
pub record Connection (largest : ℕ) (ids : List CopyId) (birth : ℕ) (ns : List ℕ) (r : Receiver) (b : Broker) : Type 0 where
  pub window : ℕ
  pub room : 1 ≤ window
  pub connected : IsConnected largest window ids birth ns r b

-- a receiver in step has a connection to be drained on
pub connection_of : (c : List ℕ) (largest : ℕ) (limits : Capacity) (ids : List CopyId) (ns : List ℕ) (r : Receiver) (v : World) → StandsWith c largest limits ids ns v → receiver_named c v ≡ Some r → HasDistinctIdentifiers v.broker.records
    → TakesSome c largest v → (placed : IsPlaced largest ids ns r v.broker) (birth : ℕ) → placed.birth ≡ Some birth → r.line.number ≡ Some placed.line → connected_at placed.line v.broker.lines ≡ Some (Some birth)
    → Connection largest ids birth ns r v.broker
connection_of c largest limits ids ns r v s e distinct takes placed birth own at there =
    let x = line_of_on placed.line (Some birth) v.broker there in
    let l = x.0 in
    let number : r.line.number ≡ Some l.number = at ∙ ap Some (sym x.3) in
    let there_ : line_at l.number v.broker ≡ Some l = ap (λ (n : ℕ). line_at n v.broker) x.3 ∙ x.1 in
    let size = takes r l.number birth l e number there_ x.2 in
    record {
      window = l.window;
      room = size.1;
      connected = record {
        in_step = subst (λ (z : Option ℕ). GoesAlong z largest ids ns r v.broker) own placed.along;
        line = l;
        number = number;
        there = there_;
        connected = x.2;
        window_is = refl;
        largest_is = size.0;
        fits = size.2;
        apart = not_among r.line.old_number l.number (λ f. placed.apart l.number number f);
        unique = s.around.steady.lines;
        ordered = s.around.steady.coherent.ordered;
        distinct = distinct;
      };
    }

-- a drain is over, or goes on
pub over_or_drains : (first : List CopyId) (c : List ℕ) (largest : ℕ) (limits : Capacity) (v : World) → Stands first c largest limits v → HasDistinctIdentifiers v.broker.records → TakesSome c largest v → HasUp c 0 v
    → (is_over c v ≡ true) ⊎ MayBeDrained c largest v
over_or_drains first c largest limits v s distinct takes none = by (receiver_named c v) refl
  where
    over : line_stands (receiver_named c v) v ≡ false → is_over c v ≡ true
    over h = over_if (is_none_left (copies_left c v)) (line_stands (receiver_named c v) v) h

    by : (o : Option Receiver) → receiver_named c v ≡ o → (is_over c v ≡ true) ⊎ MayBeDrained c largest v
    by None e = inl (over (ap (λ (o : Option Receiver). line_stands o v) e))
    by (Some r) e = present placed.seat.present
      where
        placed : IsPlaced largest s.ids s.ns r v.broker
        placed = subst (IsSeen largest s.ids s.ns v.broker) e s.standing.seen

        up : r.line.up ≡ []
        up = none_up r.line.up (none r e)

        gone : stands r.line.number v.broker ≡ false → is_over c v ≡ true
        gone h = over (ap (λ (o : Option Receiver). line_stands o v) e ∙ h)

        present : Present placed.birth placed.line (line_like r.line) v.broker → (is_over c v ≡ true) ⊎ MayBeDrained c largest v
        present (absent nothing none_up) = inl (gone (none_stands r.line.number v.broker nothing))
        present (closed n at none_up idle nothing) = inl (gone (closed_stands r.line.number n v.broker at nothing))
        present (waiting n clean at link_is clean_is connects_ down idle there) = let clash : shake (CONNECT clean) ∷ [] ≡ [] = sym connects_ ∙ ap (map packet_like) up in absurd cc
        present (joined birth own at there) =
            let x = connection_of c largest limits s.ids s.ns r v s.standing e distinct takes placed birth own at there in
            inr (record {
              window = x.window;
              room = x.room;
              ids = s.ids;
              differ = placed.told.differ;
              birth = birth;
              ns = s.ns;
              receiver = r;
              may = record {
                named = e;
                alone = s.standing.around.alone (ap is_some e);
                connected = x.connected;
                answering = subst (λ (xs : List Back). AllByRecursion IsAnswer xs) (sym up) tt;
              };
            })

-- ---- so a drain ends

module _ (c : List ℕ) (limits : Capacity) (choice : MemberChoice) where
  none_more : (most : ℕ) (v : World) → is_over c v ≡ true → (rounds_taken limits choice c most v ≡ 0) × (drain_turns limits choice c most v ≡ [])
  none_more zero v over = (refl, refl)
  none_more (suc more) v over = (
    ap (λ (t : Bool). count_by_end t (rounds_taken limits choice c more (after_round limits choice c v))) over,
    ap (λ (t : Bool). drain_by t (round_turns limits choice c v) (drain_turns limits choice c more (after_round limits choice c v))) over,
  )

  few : (t : Bool) (n : ℕ) → n ≡ 0 → count_by_end t n ≤ 1
  few true n none = omega arith
  few false n none = let is : count_by_end false n ≡ suc n = refl in omega (arith, is, none)

  -- a drain takes no more rounds than are enough for the copies left after its first
  pub ends_within : (largest most : ℕ) (w : World) → (is_over c (after_round limits choice c w) ≡ true) ⊎ MayBeDrained c largest (after_round limits choice c w)
      → rounds_taken limits choice c most w ≤ enough_rounds (copies_left c (after_round limits choice c w))
  ends_within largest most w (inr x) = drain_within_later largest x.window x.ids x.birth x.ns limits choice c most x.receiver w x.room x.differ x.may
  ends_within largest zero w (inl over) = omega arith
  ends_within largest (suc more) w (inl over) =
      let one = few (is_over c w) (rounds_taken limits choice c more (after_round limits choice c w)) (none_more more (after_round limits choice c w) over).0 in
      let enough : enough_rounds (copies_left c (after_round limits choice c w)) ≡ 2 * copies_left c (after_round limits choice c w) + 1 = refl in
      let is : rounds_taken limits choice c (suc more) w ≡ count_by_end (is_over c w) (rounds_taken limits choice c more (after_round limits choice c w)) = refl in
      omega (arith, one, enough, is)

  -- a drain is over after as many rounds as are enough for those
  pub ends_over : (largest most : ℕ) (w : World) → (is_over c (after_round limits choice c w) ≡ true) ⊎ MayBeDrained c largest (after_round limits choice c w)
      → enough_rounds (copies_left c (after_round limits choice c w)) ≤ most → is_over c (drained limits choice c most w) ≡ true
  ends_over largest most w (inr x) enough = drain_over_later largest x.window x.ids x.birth x.ns limits choice c most x.receiver w x.room x.differ x.may enough
  ends_over largest zero w (inl over) enough = let le : 2 * copies_left c (after_round limits choice c w) + 1 ≤ 0 = enough in absurd (omega (arith, le))
  ends_over largest (suc more) w (inl over) enough = by (is_over c w) refl
    where
      v : World
      v = after_round limits choice c w

      rest : List Turn
      rest = drain_turns limits choice c more v

      by : (t : Bool) → is_over c w ≡ t → is_over c (run limits (drain_by t (round_turns limits choice c w) rest) w) ≡ true
      by true is = is
      by false is =
          let same : run limits (round_turns limits choice c w ++ rest) w ≡ v = run_append limits (round_turns limits choice c w) rest w ∙ ap (λ (ts : List Turn). run limits ts v) (none_more more v over).1 in
          ap (is_over c) same ∙ over
