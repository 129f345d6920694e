-- Over the events of a run, call by call: each copy that a receiver is handed stood in its queue when it was told of it, so that its
-- whole ledger is in the order in which the copies entered (MQTT 5.0, 4.3.3, 4.6).
use Rattle.std.proofs.Common.{◌≡◌, ℕ, zero, suc, Bool, true, false, cond, ◌||◌, List, [], ◌∷◌, ◌++◌, filter, map, Option, Some, None, bytes_eq, refl, sym, ap, subst, ◌∙◌, append-nil, append_assoc}
use Rattle.std.specs.Prelude.{⊤, filter_map, is_some}
use Rattle.std.specs.List.{AllByRecursion, cons_option}
use Rattle.std.proofs.lemmas.List.Elements.{filter_map-append}
use Rattle.mqtt_base.specs.declared.session.CopyId.{CopyId}
use Rattle.mqtt_flow.specs.inbound.Line.{Link, asked, away, live}
use Rattle.mqtt_world_model.specs.model.Ends.{Back, Entry, Receiver, answers, new_receiver, receiver_reads}
use Rattle.mqtt_flow.specs.outbound.Receiver.{connect}
use Rattle.mqtt_world_model.specs.model.Laws.{copies_in, stand_among}
use Rattle.mqtt_world_model.specs.model.Lines.{Down, Line, gives_up, joined, left, sent_to, stands}
use Rattle.mqtt_world_model.specs.model.Run.{Turn, are_beginnings_clean, begins_clean, deeds_at, deeds_over, entered_in, read_asked, read_at, read_if, read_rest, run, setting, the_deeds, turned}
use Rattle.mqtt_world_model.specs.model.World.{Asking, Event, Setting, World, answers_rest, ask, asks, asks_wish, before, break, bytes_held, bytes_name, call_of, call_of_stranger, calls, calls_if, clock, comes, connect_end, first_step, front_names, give_up, happens, held_after, held_count, is_bad, is_bad_asking, linked_at, links, next_held, next_line, old_to_broker, publish, publisher, pump, receiver, receiver_named, receiver_restarted, receiver_told, restart, restarts, step, stop_after, stop_before, stranger, stranger_named, subscribe, taken_old, taken_up, tick, to_broker, to_end}
use Rattle.mqtt_packet.specs.stream.Front.{first_of}
use Rattle.mqtt_world_laws.proofs.delivery_lemmas.others.Like.{moves_reading}
use Rattle.mqtt_records.specs.lists.Distinct.{AllDiffer}
use Rattle.mqtt_rules.proofs.step_lemmas.numbers.Copies.{each_append}
use Rattle.mqtt_rules.proofs.step_lemmas.flight.FlightRows.{all_more}
use Rattle.mqtt_rules.specs.step.Deeds.{Deed, Link as LinkDeed, output}
use Rattle.mqtt_rules.specs.step.State.{Broker, MemberChoice}
use Rattle.mqtt_rules.specs.step.Step.{Call, NewLine, at_moment, can_link, copy_of, deeds, stepped, told}
use Rattle.mqtt_rules.specs.declared.step.Capacity.{Capacity}
use Rattle.mqtt_world_laws.specs.acceptance.Copies.{entered_from}
use Rattle.mqtt_world_laws.specs.acceptance.Fair.{IsFair}
use Rattle.mqtt_world_laws.specs.acceptance.Spending.{run_spends, spending}
use Rattle.mqtt_world_laws.proofs.acceptance_lemmas.publishers.Ends.{find_first, named_receiver, only_receiver}
use Rattle.mqtt_world_laws.proofs.acceptance_lemmas.publishers.Runs.{both_true, either}
use Rattle.mqtt_world_laws.proofs.acceptance_lemmas.copies.Walks.{comes_goes, if_goes}
use Rattle.mqtt_world_laws.proofs.receiver_lemmas.drains.DrainRuns.{run_append}
use Rattle.mqtt_world_laws.specs.delivery.Coming.{come_with, queue_at}
use Rattle.mqtt_world_laws.specs.delivery.HandedOver.{is_among}
use Rattle.mqtt_world_laws.specs.delivery.Standing.{IsPlaced, IsSeen, Stands, StandsWith}
use Rattle.mqtt_world_laws.specs.receiver.Connecting.{any_size}
use Rattle.mqtt_world_laws.specs.ordered.FirstReads.{first_reads}
use Rattle.mqtt_world_laws.specs.delivery.Untouched.{IsUntouched}
use Rattle.mqtt_world_laws.proofs.delivery_lemmas.order.Among.{all_come, all_one, among_append, others_of, picks_same, stand_trans}
use Rattle.mqtt_world_laws.proofs.delivery_lemmas.order.FirstReads.{first_ones, read_in_order}
use Rattle.mqtt_world_laws.proofs.delivery_lemmas.order.QueueOrder.{part_stands}
use Rattle.mqtt_world_laws.proofs.delivery_lemmas.others.Standings.{handed_in_order}
use Rattle.mqtt_world_laws.proofs.delivery_lemmas.others.Asked.{IsFit}
use Rattle.mqtt_world_laws.proofs.delivery_lemmas.order.Coming.{Counts, HaveCome, begins_so, come_on, counts, turn_comes, turn_on}
use Rattle.mqtt_world_laws.proofs.delivery_lemmas.whole.EveryRun.{carried_append, fair_run_kept, spent_append}
use Rattle.mqtt_world_laws.proofs.delivery_lemmas.order.Growing.{begin_same}
use Rattle.mqtt_world_laws.proofs.delivery_lemmas.whole.Ledgers.{run_remains}
use Rattle.mqtt_world_laws.proofs.delivery_lemmas.others.Outside.{if_stands, if_there}
use Rattle.mqtt_world_laws.proofs.delivery_lemmas.order.QueueEntering.{Enters, enters_walk}
use Rattle.mqtt_world_laws.proofs.acceptance_lemmas.publishers.StrangerBytes.{good_then, held_next, same_cost}
use Rattle.mqtt_world_laws.proofs.delivery_lemmas.others.Strangers.{comes_stands, comes_there, held_stands, next_outside}
use Rattle.mqtt_world_laws.proofs.delivery_lemmas.contents.Telling.{AreOne, AreTold, Each, IsOne, copy_stands, each_mapped, sent_ones, told_reading}

-- ---- told of these, and of more

one_more : (come more : List CopyId) (o : Option CopyId) → IsOne come o → IsOne (come ++ more) o
one_more come more None h = tt
one_more come more (Some x) h = among_append x come more ∙ ap (λ (t : Bool). t || is_among more x) h

told_more : (Unread : Type 0) (come more : List CopyId) (r : Receiver) → AreTold Unread come r → AreTold Unread (come ++ more) r
told_more Unread come more r h = record {
  down = all_more (λ (d : Down). IsOne come d.copy) (λ (d : Down). IsOne (come ++ more) d.copy) r.line.down (λ d one. one_more come more d.copy one) h.down;
  ledger = all_more (λ (e : Entry). IsOne come e.copy) (λ (e : Entry). IsOne (come ++ more) e.copy) r.ledger (λ e one. one_more come more e.copy one) h.ledger;
  once = λ x. all_more (λ (e : Entry). IsOne come e.copy) (λ (e : Entry). IsOne (come ++ more) e.copy) r.once (λ e one. one_more come more e.copy one) (h.once x);
}

-- an event that is no bytes of a stranger is one call at most, or one and a restart
abbrev pub IsSingle : Event → Type 0
IsSingle (ask (stranger name bytes)) = ⊥
IsSingle e = ⊤

-- ---- what happens to a receiver, by what is told of its line then

module _ (Unread : Type 0) (K : List CopyId) (c : List ℕ) where
  -- its line tells of these alone
  abbrev TellsOf : World → Type 0
  TellsOf u = (r : Receiver) → receiver_named c u ≡ Some r → (n id : ℕ) (x : CopyId) → r.line.number ≡ Some n → copy_of n id u.broker ≡ Some x → is_among K x ≡ true

  record IsLed (r : Receiver) : Type 0 where
    ledger : AllByRecursion (λ (e : Entry). IsOne K e.copy) r.ledger
    once : Unread → AllByRecursion (λ (e : Entry). IsOne K e.copy) r.once

  abbrev Told : World → Type 0
  Told w = Each (AreTold Unread K) c w

  abbrev Led : World → Type 0
  Led w = Each IsLed c w

  led_of : (w : World) → Told w → Led w
  led_of w h r e = let k = h r e in record { ledger = k.ledger; once = k.once }

  -- one of a name is changed, and keeps its name
  one_mapped : (P Q : Receiver → Type 0) (d : List ℕ) (g : Receiver → Receiver) (w v : World) → ((r : Receiver) → (g r).client ≡ r.client) → v.receivers ≡ map (λ r. cond (bytes_eq r.client d) (g r) r) w.receivers
      → ((r : Receiver) → P r → Q (g r)) → ((r : Receiver) → P r → Q r) → Each P c w → Each Q c v
  one_mapped P Q d g w v client same changed kept h =
      each_mapped P Q c w v (λ r. cond (bytes_eq r.client d) (g r) r) (λ r. only_receiver (bytes_eq r.client d) g r (client r)) same (λ q e f k. by (bytes_eq q.client d) q k) h
    where
      by : (t : Bool) (q : Receiver) → P q → Q (cond t (g q) q)
      by true q k = changed q k
      by false q k = kept q k

  line_mapped : (d : List ℕ) (g : Line Back → Line Back) (w v : World) → v.receivers ≡ map (λ r. cond (bytes_eq r.client d) (record r { line = g r.line }) r) w.receivers → ((l : Line Back) → AreOne K l.down → AreOne K (g l).down) → Told w → Told v
  line_mapped d g w v same keeps h = one_mapped (AreTold Unread K) (AreTold Unread K) d (λ r. record r { line = g r.line }) w v (λ r. refl) same (λ r k. record { down = keeps r.line k.down; ledger = k.ledger; once = k.once }) (λ r k. k) h

  -- ---- a call

  called_told : (set : Setting) (call : Call) (w : World) → TellsOf (calls set call w) → Told w → Told (calls set call w)
  called_told set call w tells h =
      let new = stepped set.limits set.choice w.now call w.broker in
      let out = told set.limits set.choice w.now call w.broker in
      each_mapped (AreTold Unread K) (AreTold Unread K) c w (calls set call w) (receiver_told new out) (λ r. refl) refl
      (λ q e f k. record {
        down = each_append (λ (d : Down). IsOne K d.copy) q.line.down (sent_to q.line.number new out.outputs) k.down (sent_ones K q.line.number new out.outputs (λ n id x number is. tells (receiver_told new out q) f n id x number is));
        ledger = k.ledger;
        once = k.once;
      }) h

  if_told : (set : Setting) (o : Option Call) (w : World) → TellsOf (calls_if set o w) → Told w → Told (calls_if set o w)
  if_told set None w tells h = h
  if_told set (Some call) w tells h = called_told set call w tells h

  if_led : (set : Setting) (o : Option Call) (w : World) → Led w → Led (calls_if set o w)
  if_led set None w h = h
  if_led set (Some call) w h =
      let new = stepped set.limits set.choice w.now call w.broker in
      let out = told set.limits set.choice w.now call w.broker in
      each_mapped IsLed IsLed c w (calls set call w) (receiver_told new out) (λ r. refl) refl (λ q e f k. record { ledger = k.ledger; once = k.once }) h

  -- a new line tells nothing
  linked_told : (set : Setting) (w : World) → Told w → Told (calls set NewLine w)
  linked_told set w h =
      let new = stepped set.limits set.choice w.now NewLine w.broker in
      let out = told set.limits set.choice w.now NewLine w.broker in
      each_mapped (AreTold Unread K) (AreTold Unread K) c w (calls set NewLine w) (receiver_told new out) (λ r. refl) refl
      (λ q e f k. record {
        down = each_append (λ (d : Down). IsOne K d.copy) q.line.down (sent_to q.line.number new out.outputs) k.down (none (can_link set.limits (at_moment w.now w.broker)) q.line.number new);
        ledger = k.ledger;
        once = k.once;
      }) h
    where
      none : (t : Bool) (o : Option ℕ) (new : Broker) → AreOne K (sent_to o new (filter_map output (cond t (LinkDeed (suc w.broker.given) ∷ []) [])))
      none true None new = tt
      none true (Some n) new = tt
      none false None new = tt
      none false (Some n) new = tt

  restarts_told : (set : Setting) (w : World) → Led w → Told (restarts set w)
  restarts_told set w h = each_mapped IsLed (AreTold Unread K) c w (restarts set w) receiver_restarted (λ r. refl) refl (λ q e f k. record { down = tt; ledger = k.ledger; once = k.once }) h

  -- ---- what is asked for

  comes_told : (set : Setting) (name bytes : List ℕ) (w : World) → Told w → Told (comes set name bytes w)
  comes_told set name bytes w h = by (is_some (stranger_named name w))
    where
      by : (t : Bool) → Told (linked_at set t name bytes w)
      by true = h
      by false = linked_told set w h

  before_told : (set : Setting) (a : Asking) (w : World) → Told w → Told (before set a w)
  before_told set (to_broker d) w h = line_mapped d taken_up w (before set (to_broker d) w) refl (λ l k. k) h
  before_told set (old_to_broker d) w h = line_mapped d taken_old w (before set (old_to_broker d) w) refl (λ l k. k) h
  before_told set (break d) w h = h
  before_told set (pump d) w h = h
  before_told set tick w h = h
  before_told set (stranger name bytes) w h = comes_told set name bytes w h

  first_led : (set : Setting) (a : Asking) (w : World) → Told w → Led (first_step set a w)
  first_led set a w h = if_led set (call_of set a w) (before set a w) (led_of (before set a w) (before_told set a w h))

  -- who is left keeps its ledger, and others are told
  broken_told : (set : Setting) (d : List ℕ) (o : Option Call) (w : World) → TellsOf (record (calls_if set o w) { receivers = map (λ r. cond (bytes_eq r.client d) (record r { line = left r.line }) r) (calls_if set o w).receivers }) → Told w
      → Told (record (calls_if set o w) { receivers = map (λ r. cond (bytes_eq r.client d) (record r { line = left r.line }) r) (calls_if set o w).receivers })
  broken_told set d None w tells h = line_mapped d left w (record w { receivers = map (λ r. cond (bytes_eq r.client d) (record r { line = left r.line }) r) w.receivers }) refl (λ l k. tt) h
  broken_told set d (Some call) w tells h =
      let new = stepped set.limits set.choice w.now call w.broker in
      let out = told set.limits set.choice w.now call w.broker in
      let f = receiver_told new out in
      let g = λ (r : Receiver). cond (bytes_eq r.client d) (record r { line = left r.line }) r in
      let u : World = record (calls set call w) { receivers = map g (calls set call w).receivers } in
      each_mapped (AreTold Unread K) (AreTold Unread K) c w u (λ r. g (f r)) (λ r. only_receiver (bytes_eq r.client d) (λ (q : Receiver). record q { line = left q.line }) (f r) refl) (map_twice f g w.receivers)
      (λ q e named k. each (bytes_eq q.client d) q named k) h
    where
      map_twice : (f g : Receiver → Receiver) (rs : List Receiver) → map g (map f rs) ≡ map (λ r. g (f r)) rs
      map_twice f g [] = refl
      map_twice f g (r ∷ rs) = ap (λ (qs : List Receiver). g (f r) ∷ qs) (map_twice f g rs)

      each : (t : Bool) (q : Receiver)
          → receiver_named c (record (calls set call w) { receivers = map (λ r. cond (bytes_eq r.client d) (record r { line = left r.line }) r) (calls set call w).receivers })
          ≡ Some (cond t (record (receiver_told (stepped set.limits set.choice w.now call w.broker) (told set.limits set.choice w.now call w.broker) q) { line = left (receiver_told (stepped set.limits set.choice w.now call w.broker) (told set.limits set.choice w.now call w.broker) q).line }) (receiver_told (stepped set.limits set.choice w.now call w.broker) (told set.limits set.choice w.now call w.broker) q))
          → AreTold Unread K q
          → AreTold Unread K (cond t (record (receiver_told (stepped set.limits set.choice w.now call w.broker) (told set.limits set.choice w.now call w.broker) q) { line = left (receiver_told (stepped set.limits set.choice w.now call w.broker) (told set.limits set.choice w.now call w.broker) q).line }) (receiver_told (stepped set.limits set.choice w.now call w.broker) (told set.limits set.choice w.now call w.broker) q))
      each true q named k = record { down = tt; ledger = k.ledger; once = k.once }
      each false q named k =
          let new = stepped set.limits set.choice w.now call w.broker in
          let out = told set.limits set.choice w.now call w.broker in
          record {
            down = each_append (λ (x : Down). IsOne K x.copy) q.line.down (sent_to q.line.number new out.outputs) k.down (sent_ones K q.line.number new out.outputs (λ n id x number is. tells (receiver_told new out q) named n id x number is));
            ledger = k.ledger;
            once = k.once;
          }

  -- ---- an event of one call, or none

  links_told : (set : Setting) (o : Option ℕ) (d : List ℕ) (clean : Bool) (w : World) → Told w → Told (links set o d clean w)
  links_told set None d clean w h = h
  links_told set (Some n) d clean w h = line_mapped d (λ l. joined (answers (connect clean)) n clean l) (calls set NewLine w) (links set (Some n) d clean w) refl (λ l k. tt) (linked_told set w h)

  given_up_one : (link : Link) (l : Line Back) → AreOne K l.down → AreOne K (gives_up link l).down
  given_up_one away l k = k
  given_up_one asked l k = tt
  given_up_one live l k = tt

  reads_told : (d : List ℕ) (w v : World) → v.receivers ≡ map (λ r. cond (bytes_eq r.client d) (receiver_reads (stands r.line.number w.broker) r.line.down r) r) w.receivers → Told w → Told v
  reads_told d w v same h =
      one_mapped (AreTold Unread K) (AreTold Unread K) d (λ r. receiver_reads (stands r.line.number w.broker) r.line.down r) w v (λ r. (moves_reading (stands r.line.number w.broker) r.line.down r).client) same
      (λ r k. told_reading Unread K (stands r.line.number w.broker) r.line.down r k.down k) (λ r k. k) h

  -- after an event of one call at most a receiver was told of these copies alone, if its line tells of no others
  pub happens_told : (set : Setting) (e : Event) (w : World) (q : Receiver) → receiver_named c w ≡ Some q → TellsOf (happens set e w) → IsSingle e → Told w → Told (happens set e w)
  happens_told set (publisher d) w q f tells one h = h
  happens_told set (receiver d window aliases) w q f tells one h = λ r e.
      let first = find_first (λ (x : Receiver). bytes_eq x.client c) (new_receiver d window aliases w.broker.records.births) q w.receivers f in
      let both : Some q ≡ Some r = sym first ∙ e in
      let same : q ≡ r = cc in
      subst (AreTold Unread K) same (h q f)
  happens_told set (connect_end d clean) w q f tells one h = links_told set (next_line set.limits w.broker) d clean w h
  happens_told set (give_up d) w q f tells one h = line_mapped d (λ l. gives_up l.link l) w (happens set (give_up d) w) refl (λ l k. given_up_one l.link l k) h
  happens_told set (publish d x) w q f tells one h = h
  happens_told set (subscribe d x) w q f tells one h =
      one_mapped (AreTold Unread K) (AreTold Unread K) d (λ r. asks_wish (stands r.line.number w.broker) x r) w (happens set (subscribe d x) w) (λ r. refl) refl (λ r k. record { down = k.down; ledger = k.ledger; once = k.once }) (λ r k. k) h
  happens_told set (to_end d) w q f tells one h = reads_told d w (happens set (to_end d) w) refl h
  happens_told set (clock wait) w q f tells one h = h
  happens_told set (ask (to_broker d)) w q f tells one h = if_told set (call_of set (to_broker d) w) (before set (to_broker d) w) tells (before_told set (to_broker d) w h)
  happens_told set (ask (old_to_broker d)) w q f tells one h = if_told set (call_of set (old_to_broker d) w) (before set (old_to_broker d) w) tells (before_told set (old_to_broker d) w h)
  happens_told set (ask (break d)) w q f tells one h = broken_told set d (call_of set (break d) w) w tells h
  happens_told set (ask (pump d)) w q f tells one h = if_told set (call_of set (pump d) w) w tells h
  happens_told set (ask tick) w q f tells one h = if_told set (call_of set tick w) w tells h
  happens_told set (ask (stranger name bytes)) w q f tells one h = absurd one
  happens_told set restart w q f tells one h = restarts_told set w (led_of w h)
  happens_told set (stop_before a) w q f tells one h = restarts_told set (before set a w) (led_of (before set a w) (before_told set a w h))
  happens_told set (stop_after a) w q f tells one h = restarts_told set (first_step set a w) (first_led set a w h)

-- ---- call by call

module _ (Unread : Type 0) (c : List ℕ) (limits : Capacity) where
  -- and of no others was it told
  pub record HaveTold (base come : List CopyId) (v : World) : Type 0 where
    pub come_so : HaveCome c limits base come v
    pub told : Each (AreTold Unread come) c v

  -- a line of its tells of what stands in its queue
  tells_queue : (come : List CopyId) (u : World) → Stands [] c any_size limits u → TellsOf Unread (come ++ others_of come (queue_at c u)) c u
  tells_queue come u s r e n id x number is =
      let placed : IsPlaced any_size s.ids s.ns r u.broker = subst (IsSeen any_size s.ids s.ns u.broker) e s.standing.seen in
      all_one (λ (y : CopyId). is_among (come ++ others_of come (queue_at c u)) y ≡ true) x (queue_at c u) (all_come come (queue_at c u))
      (copy_stands any_size s.ids s.ns c r u.broker placed (named_receiver c r u e) n id x number is)

  told_later : (come more : List CopyId) (w : World) → Each (AreTold Unread come) c w → Each (AreTold Unread (come ++ more)) c w
  told_later come more w h r e = told_more Unread come more r (h r e)

  -- some deeds that lead from one world to another
  told_on : (deeds : List Deed) (v u : World) (base come : List CopyId) (h : HaveTold base come v) (q p : Receiver) → receiver_named c v ≡ Some q → receiver_named c u ≡ Some p → Enters c deeds v.broker u.broker → ((x : CopyId) → Counts x deeds v.broker u.broker)
      → Stands h.come_so.stands.ids c any_size limits u
      → (TellsOf Unread (come ++ others_of come (queue_at c u)) c u → Each (AreTold Unread (come ++ others_of come (queue_at c u))) c v → Each (AreTold Unread (come ++ others_of come (queue_at c u))) c u)
      → HaveTold (base ++ filter_map entered_in deeds) (come_with come (queue_at c u)) u
  told_on deeds v u base come h q p e f said count goes_on tells =
      let s : Stands [] c any_size limits u = record { ids = goes_on.ids; grown = (goes_on.ids, refl); ns = goes_on.ns; standing = goes_on.standing } in
      record {
        come_so = come_on c limits deeds v u base come h.come_so q e said count goes_on p f;
        told = tells (tells_queue come u s) (told_later come (others_of come (queue_at c u)) v h.told);
      }

  -- the receiver is there still
  is_there : (v u : World) (q : Receiver) → is_some (receiver_named c u) ≡ is_some (receiver_named c v) → receiver_named c v ≡ Some q → (p : Receiver) × (receiver_named c u ≡ Some p)
  is_there v u q same e = by (receiver_named c u) refl
    where
      by : (o : Option Receiver) → receiver_named c u ≡ o → (p : Receiver) × (receiver_named c u ≡ Some p)
      by None f = let clash : false ≡ true = sym (ap is_some f) ∙ (same ∙ ap is_some e) in absurd cc
      by (Some p) f = (p, f)

  as_first : (v : World) → (s : Stands [] c any_size limits v) → Stands s.ids c any_size limits v
  as_first v s = record { ids = s.ids; grown = begin_same s.ids; ns = s.ns; standing = s.standing }

  -- ---- a stranger's bytes

  -- some copies have come more, and nothing else
  record Further (base : List CopyId) (u : World) : Type 0 where
    come : List CopyId
    have : HaveTold base come u

  module _ (choice : MemberChoice) where
    abbrev set : Setting
    set = record { limits = limits; choice = choice }

    same_deeds : (name : List ℕ) (v : World) (o : Option Call) → read_if the_deeds set o (next_held name v) ≡ read_if the_deeds set o v
    same_deeds name v None = refl
    same_deeds name v (Some call) = refl

    rest_told : (more : ℕ) (name : List ℕ) (w v : World) (base : List CopyId) → (x : Further base v) → (q : Receiver) → receiver_named c v ≡ Some q → is_some (receiver_named c v) ≡ is_some (receiver_named c w)
        → bytes_name more (bytes_held (stranger_named name v)) w ≡ false → read_rest spending set more name v ≡ false → Further (base ++ filter_map entered_in (read_rest the_deeds set more name v)) (answers_rest set more name v)
    rest_told zero name w v base x q e there good unspent = subst (λ (ids : List CopyId). Further ids v) (sym (append-nil base)) x
    rest_told (suc more) name w v base x q e there good unspent =
        let call = call_of_stranger (stranger_named name v) in
        let held = next_held name v in
        let u = calls_if set call held in
        let h = x.have in
        let s = as_first v h.come_so.stands in
        let both = either (front_names (first_of (bytes_held (stranger_named name v))) w) (bytes_name more (held_after (bytes_held (stranger_named name v))) w) good in
        let costs = either (read_if spending set call v) (read_rest spending set more name u) unspent in
        let cost = same_cost set name v call costs.0 in
        let goes_on = if_stands h.come_so.stands.ids c any_size set call held (held_stands h.come_so.stands.ids c any_size limits name v s) cost (next_outside h.come_so.stands.ids c any_size limits name w v s there both.0) in
        let around = h.come_so.stands.standing.around in
        let p = is_there v u q (if_there c set call held) e in
        let ds = read_if the_deeds set call held in
        let next = told_on ds v u base x.come h q p.0 e p.1 (if_goes (Enters c) set (enters_walk c limits) around.within call held around.steady cost).said
        (λ y. (if_goes (Counts y) set (counts y limits) around.within call held around.steady cost).said) goes_on
        (λ tells k. if_told Unread (x.come ++ others_of x.come (queue_at c u)) c set call held tells k) in
        let rest = rest_told more name w u (base ++ filter_map entered_in ds) (record { come = come_with x.come (queue_at c u); have = next }) p.0 p.1 (if_there c set call held ∙ there) (ap (λ (bytes : List ℕ). bytes_name more bytes w) (held_next set name v call) ∙ both.1) costs.1 in
        let first = ap (filter_map entered_in) (same_deeds name v call) in
        let later = filter_map entered_in (read_rest the_deeds set more name u) in
        let same : (base ++ filter_map entered_in ds) ++ later ≡ base ++ filter_map entered_in (read_if the_deeds set call v ++ read_rest the_deeds set more name u) =
        ap (λ (ids : List CopyId). (base ++ ids) ++ later) first
        ∙ (append_assoc base (filter_map entered_in (read_if the_deeds set call v)) later ∙ ap (λ (ids : List CopyId). base ++ ids) (sym (filter_map-append entered_in (read_if the_deeds set call v) (read_rest the_deeds set more name u)))) in
        subst (λ (ids : List CopyId). Further ids (answers_rest set more name u)) same rest

    stranger_told : (name bytes : List ℕ) (v : World) (base come : List CopyId) (h : HaveTold base come v) (q : Receiver) → receiver_named c v ≡ Some q → is_bad_asking (stranger name bytes) v ≡ false → read_asked spending set (stranger name bytes) v ≡ false
        → Further (base ++ filter_map entered_in (read_asked the_deeds set (stranger name bytes) v)) (asks set (stranger name bytes) v)
    stranger_told name bytes v base come h q e good unspent =
        let u = comes set name bytes v in
        let around = h.come_so.stands.standing.around in
        let p = is_there v u q (comes_there c set name bytes v) e in
        let first = told_on [] v u base come h q p.0 e p.1 (comes_goes (Enters c) set (enters_walk c limits) around.within name bytes v around.steady).said
        (λ y. (comes_goes (Counts y) set (counts y limits) around.within name bytes v around.steady).said) (comes_stands h.come_so.stands.ids c any_size set name bytes v (as_first v h.come_so.stands))
        (λ tells k. comes_told Unread (come ++ others_of come (queue_at c u)) c set name bytes v k) in
        let begun : Further base u = subst (λ (ids : List CopyId). Further ids u) (append-nil base) (record { come = come_with come (queue_at c u); have = first }) in
        rest_told (held_count (stranger_named name u)) name v u base begun p.0 p.1 (comes_there c set name bytes v) (good_then set name bytes v good) unspent

  -- ---- an event

  single_told : (t : Turn) (v : World) (base come : List CopyId) (h : HaveTold base come v) → IsFit c v → (q : Receiver) → receiver_named c v ≡ Some q → read_at spending (setting limits t) t.event v ≡ false → begins_clean t.event v ≡ true → IsSingle t.event
      → Further (base ++ filter_map entered_in (deeds_at (setting limits t) t.event v)) (turned limits t v)
  single_told t v base come h fit q e unspent carried one =
      let u = turned limits t v in
      let stays = run_remains c limits (t ∷ []) v q e in
      let goes_on = (turn_on c limits t v base come h.come_so fit unspent carried).stands in
      let s : Stands [] c any_size limits u = record { ids = goes_on.ids; grown = (goes_on.ids, refl); ns = goes_on.ns; standing = goes_on.standing } in
      let more = others_of come (queue_at c u) in
      record {
        come = come_with come (queue_at c u);
        have = record {
          come_so = turn_comes c limits t v base come h.come_so q stays.0 e stays.1 fit unspent carried;
          told = if_good (is_bad t.event v) (come ++ more) (tells_queue come u s) (told_later come more v h.told);
        };
      }
    where
      if_good : (bad : Bool) (K : List CopyId) → TellsOf Unread K c (cond bad v (happens (setting limits t) t.event v)) → Each (AreTold Unread K) c v → Each (AreTold Unread K) c (cond bad v (happens (setting limits t) t.event v))
      if_good true K tells k = k
      if_good false K tells k = happens_told Unread K c (setting limits t) t.event v q e tells one k

  turn_told : (t : Turn) (v : World) (base come : List CopyId) (h : HaveTold base come v) → IsFit c v → (q : Receiver) → receiver_named c v ≡ Some q → read_at spending (setting limits t) t.event v ≡ false → begins_clean t.event v ≡ true
      → Further (base ++ filter_map entered_in (deeds_at (setting limits t) t.event v)) (turned limits t v)
  turn_told t v base come h fit q e unspent carried = by t.event refl unspent
    where
      P : Event → Type 0
      P x = read_at spending (setting limits t) x v ≡ false → Further (base ++ filter_map entered_in (deeds_at (setting limits t) x v)) (step (setting limits t) x v)

      single : (x : Event) → t.event ≡ x → IsSingle x → P x
      single x is one = subst P is (λ u. single_told t v base come h fit q e u carried (subst IsSingle (sym is) one))

      heard : (name bytes : List ℕ) (bad : Bool) → is_bad_asking (stranger name bytes) v ≡ bad → cond bad false (read_asked spending (setting limits t) (stranger name bytes) v) ≡ false
          → Further (base ++ filter_map entered_in (cond bad [] (read_asked the_deeds (setting limits t) (stranger name bytes) v))) (cond bad v (asks (setting limits t) (stranger name bytes) v))
      heard name bytes true is u = subst (λ (ids : List CopyId). Further ids v) (sym (append-nil base)) (record { come = come; have = h })
      heard name bytes false is u = stranger_told t.choice name bytes v base come h q e is u

      by : (x : Event) → t.event ≡ x → P x
      by (publisher d) is = single (publisher d) is tt
      by (receiver d window aliases) is = single (receiver d window aliases) is tt
      by (connect_end d clean) is = single (connect_end d clean) is tt
      by (give_up d) is = single (give_up d) is tt
      by (publish d x) is = single (publish d x) is tt
      by (subscribe d x) is = single (subscribe d x) is tt
      by (to_end d) is = single (to_end d) is tt
      by (clock wait) is = single (clock wait) is tt
      by (ask (to_broker d)) is = single (ask (to_broker d)) is tt
      by (ask (old_to_broker d)) is = single (ask (old_to_broker d)) is tt
      by (ask (break d)) is = single (ask (break d)) is tt
      by (ask (pump d)) is = single (ask (pump d)) is tt
      by (ask tick) is = single (ask tick) is tt
      by (ask (stranger name bytes)) is = λ u. heard name bytes (is_bad_asking (stranger name bytes) v) refl u
      by restart is = single restart is tt
      by (stop_before a) is = single (stop_before a) is tt
      by (stop_after a) is = single (stop_after a) is tt

  all_told : (ts : List Turn) (v : World) (base : List CopyId) → (x : Further base v) → IsFit c v → (q : Receiver) → receiver_named c v ≡ Some q → run_spends limits ts v ≡ false → are_beginnings_clean limits ts v ≡ true
      → Further (base ++ entered_from limits ts v) (run limits ts v)
  all_told [] v base x fit q e unspent carried = subst (λ (ids : List CopyId). Further ids v) (sym (append-nil base)) x
  all_told (t ∷ ts) v base x fit q e unspent carried =
      let u = turned limits t v in
      let costs = either (read_at spending (setting limits t) t.event v) (run_spends limits ts u) unspent in
      let clean = both_true (begins_clean t.event v) (are_beginnings_clean limits ts u) carried in
      let stays = run_remains c limits (t ∷ []) v q e in
      let first = turn_told t v base x.come x.have fit q e costs.0 clean.0 in
      let later = (turn_on c limits t v base x.come x.have.come_so fit costs.0 clean.0).fit in
      let brought = filter_map entered_in (deeds_at (setting limits t) t.event v) in
      let all = all_told ts u (base ++ brought) first later stays.0 stays.1 costs.1 clean.1 in
      let same : (base ++ brought) ++ entered_from limits ts u ≡ base ++ entered_from limits (t ∷ ts) v =
      append_assoc base brought (entered_from limits ts u) ∙ ap (λ (ids : List CopyId). base ++ ids) (sym (filter_map-append entered_in (deeds_at (setting limits t) t.event v) (deeds_over limits ts u))) in
      subst (λ (ids : List CopyId). Further ids (run limits ts u)) same all

-- ---- the whole ledger

-- each entry's copy is one of these
ledger_among : (come : List CopyId) (es : List Entry) → AllByRecursion (λ (e : Entry). IsOne come e.copy) es → AllByRecursion (λ (x : CopyId). is_among come x ≡ true) (copies_in es)
ledger_among come [] h = tt
ledger_among come (e ∷ es) h = by e.copy h.0 (ledger_among come es h.1)
  where
    by : (o : Option CopyId) → IsOne come o → AllByRecursion (λ (x : CopyId). is_among come x ≡ true) (copies_in es) → AllByRecursion (λ (x : CopyId). is_among come x ≡ true) (cons_option o (copies_in es))
    by None one rest = rest
    by (Some x) one rest = (one, rest)

all_picked : (come xs : List CopyId) → AllByRecursion (λ (x : CopyId). is_among come x ≡ true) xs → filter (is_among come) xs ≡ xs
all_picked come [] h = refl
all_picked come (x ∷ xs) h = let its = h.0 in rw its (ap (λ (ids : List CopyId). x ∷ ids) (all_picked come xs h.1))

-- if both stand among all in order, and each of these is one of those
ordered_so : (xs come ids : List CopyId) → AllDiffer ids → stand_among come ids ≡ true → stand_among xs ids ≡ true → AllByRecursion (λ (x : CopyId). is_among come x ≡ true) xs → stand_among xs come ≡ true
ordered_so xs come ids differ h k each =
    let picked : stand_among (filter (is_among come) xs) (filter (is_among come) ids) ≡ true = part_stands (is_among come) xs ids k in
    subst (λ (zs : List CopyId). stand_among zs come ≡ true) (all_picked come xs each) (subst (λ (zs : List CopyId). stand_among (filter (is_among come) xs) zs ≡ true) (picks_same come ids differ h) picked)

module _ (limits : Capacity) (xs ys : List Turn) (w : World) (untouched : IsUntouched limits w) (fair : IsFair limits (xs ++ ys) w) (c : List ℕ) (q r : Receiver) (e : receiver_named c (run limits xs w) ≡ Some q) (f : receiver_named c (run limits (xs ++ ys) w) ≡ Some r) where
  -- what is known in the end, if at the beginning nothing was handed over and nothing was under way
  whole : (Unread : Type 0) → q.ledger ≡ [] → (Unread → q.once ≡ []) → q.line.down ≡ [] → Further Unread c limits (queue_at c (run limits xs w) ++ entered_from limits ys (run limits xs w)) (run limits ys (run limits xs w))
  whole Unread no_ledger none_read no_down =
      let v = run limits xs w in
      let costs = spent_append limits xs ys w fair.unspent in
      let clean = carried_append limits xs ys w fair.clean in
      let k = fair_run_kept limits xs w untouched (record { within = fair.within; unspent = costs.0; clean = clean.0 }) c in
      let now = queue_at c v in
      let begun : Further Unread c limits now v = record {
        come = now;
        have = record {
          come_so = begins_so c limits v k q e;
          told = λ p g.
              let both : Some q ≡ Some p = sym e ∙ g in
              let same : q ≡ p = cc in
              subst (AreTold Unread now) same (record {
                down = subst (λ (ds : List Down). AreOne now ds) (sym no_down) tt;
                ledger = subst (λ (es : List Entry). AllByRecursion (λ (x : Entry). IsOne now x.copy) es) (sym no_ledger) tt;
                once = λ z. subst (λ (es : List Entry). AllByRecursion (λ (x : Entry). IsOne now x.copy) es) (sym (none_read z)) tt;
              });
        };
      } in
      all_told Unread c limits ys v now begun k.fit q e costs.1 clean.1

  -- it is there in the end
  found : receiver_named c (run limits ys (run limits xs w)) ≡ Some r
  found = sym (ap (receiver_named c) (run_append limits xs ys w)) ∙ f

  -- of these entries, each of a copy that it was told of
  among_all : (Unread : Type 0) (es : List Entry) → (z : Further Unread c limits (queue_at c (run limits xs w) ++ entered_from limits ys (run limits xs w)) (run limits ys (run limits xs w)))
      → ((ids : List CopyId) (ns : List ℕ) → StandsWith c any_size limits ids ns (run limits ys (run limits xs w)) → stand_among (copies_in es) ids ≡ true) → AllByRecursion (λ (x : Entry). IsOne z.come x.copy) es
      → stand_among (copies_in es) (queue_at c (run limits xs w) ++ entered_from limits ys (run limits xs w)) ≡ true
  among_all Unread es z ordered each =
      let v = run limits xs w in
      let last = run limits ys v in
      let h = z.have.come_so in
      let s = h.stands in
      let placed : IsPlaced any_size s.ids s.ns r last.broker = subst (IsSeen any_size s.ids s.ns last.broker) found s.standing.seen in
      let in_order = ordered_so (copies_in es) z.come s.ids placed.told.differ h.in_order (ordered s.ids s.ns s.standing) (ledger_among z.come es each) in
      stand_trans (copies_in es) z.come (queue_at c v ++ entered_from limits ys v) in_order h.entered

  -- all that a new receiver was handed stood in its queue or entered, in that order
  pub run_hands_whole : q.ledger ≡ [] → q.line.down ≡ [] → stand_among (copies_in r.ledger) (queue_at c (run limits xs w) ++ entered_from limits ys (run limits xs w)) ≡ true
  run_hands_whole no_ledger no_down =
      let z = whole ⊥ no_ledger (λ x. absurd x) no_down in
      among_all ⊥ r.ledger z (λ ids ns s. handed_in_order c any_size limits ids ns r (run limits ys (run limits xs w)) s found) (z.have.told r found).ledger

  -- and all that it has read of QoS 1, each copy where it was read first
  pub run_reads_whole : q.ledger ≡ [] → q.once ≡ [] → q.line.down ≡ [] → stand_among (copies_in (first_reads r.once)) (queue_at c (run limits xs w) ++ entered_from limits ys (run limits xs w)) ≡ true
  run_reads_whole no_ledger none_read no_down =
      let z = whole ⊤ no_ledger (λ x. none_read) no_down in
      among_all ⊤ (first_reads r.once) z (λ ids ns s. read_in_order c any_size limits ids ns r (run limits ys (run limits xs w)) s found) (first_ones (λ (x : Entry). IsOne z.come x.copy) r.once ((z.have.told r found).once tt))
