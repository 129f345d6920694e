-- Each PUBLISH of a run names its topic, and all that the broker holds does so after it (MQTT 5.0, 3.3.2.1, 3.3.2.3.4).
use Rattle.std.proofs.Common.{ℕ, zero, suc, Bool, true, false, cond, List, [], ◌∷◌, ◌++◌, Option, Some, None}
use Rattle.std.specs.List.{AllByRecursion}
use Rattle.std.specs.Prelude.{is_some}
use Rattle.mqtt_rules.proofs.step_lemmas.numbers.Copies.{each_append}
use Rattle.mqtt_rules.specs.step.Deeds.{Deed}
use Rattle.mqtt_rules.specs.step.State.{Broker}
use Rattle.mqtt_rules.specs.step.Step.{Call, NewLine, at_moment, deeds, env_of, opening_deeds, unopened}
use Rattle.mqtt_rules.specs.declared.step.Capacity.{Capacity}
use Rattle.mqtt_rules.specs.telling.Meaning.{SendsItsTopic}
use Rattle.mqtt_rules.specs.granting.Naming.{NamesTopics}
use Rattle.mqtt_rules.proofs.granting_lemmas.Acts.{call_names, opening_names}
use Rattle.mqtt_rules.proofs.granting_lemmas.Deeds.{AllName, Names, sends_topics}
use Rattle.mqtt_rules.proofs.granting_lemmas.Steps.{opening_named, step_named}
use Rattle.mqtt_world_model.specs.model.Run.{Turn, deeds_over, read_asked, read_at, read_first, read_if, read_in, read_rest, run, setting, the_deeds, turned}
use Rattle.mqtt_world_model.specs.model.World.{Asking, Event, Setting, World, answers_rest, ask, asks, before, break, call_of, call_of_stranger, calls, calls_if, clock, comes, connect_end, first_step, give_up, happens, held_count, is_bad, linked_at, links, next_held, next_line, old_to_broker, publish, publisher, pump, receiver, restart, restarts, start, stop_after, stop_before, stranger, stranger_named, subscribe, tick, to_broker, to_end}

abbrev Holds : World → Type 0
Holds w = NamesTopics w.broker

join : (xs ys : List Deed) → AllName xs → AllName ys → AllName (xs ++ ys)
join = each_append Names

-- ---- event by event: what it sends, and what is held after it

module _ (set : Setting) where
  call_deeds : (call : Call) (w : World) → Holds w → AllName (deeds set.limits set.choice w.now call w.broker)
  call_deeds call w h = call_names (env_of set.limits set.choice w.broker) call (at_moment w.now w.broker) (record { stored = h.stored; lines = h.lines })

  called : (call : Call) (w : World) → Holds w → Holds (calls set call w)
  called call w h = step_named set.limits set.choice w.now call w.broker h

  if_deeds : (o : Option Call) (w : World) → Holds w → AllName (read_if the_deeds set o w)
  if_deeds None w h = tt
  if_deeds (Some call) w h = call_deeds call w h

  if_called : (o : Option Call) (w : World) → Holds w → Holds (calls_if set o w)
  if_called None w h = h
  if_called (Some call) w h = called call w h

  opened_deeds : (w : World) → Holds w → AllName (opening_deeds set.limits set.choice w.now w.broker.records)
  opened_deeds w h =
      let c : Broker = unopened w.now w.broker.records in
      opening_names (env_of set.limits set.choice c) c (record { stored = record { sessions = h.stored.sessions; retained = h.stored.retained }; lines = tt })

  opened_again : (w : World) → Holds w → Holds (restarts set w)
  opened_again w h = opening_named set.limits set.choice w.now w.broker.records h.stored

  come : (name bytes : List ℕ) (w : World) → Holds w → Holds (comes set name bytes w)
  come name bytes w h = by (is_some (stranger_named name w))
    where
      by : (t : Bool) → Holds (linked_at set t name bytes w)
      by true = h
      by false = called NewLine w h

  asked_before : (a : Asking) (w : World) → Holds w → Holds (before set a w)
  asked_before (to_broker d) w h = h
  asked_before (old_to_broker d) w h = h
  asked_before (break d) w h = h
  asked_before (pump d) w h = h
  asked_before tick w h = h
  asked_before (stranger name bytes) w h = come name bytes w h

  first_deeds : (a : Asking) (w : World) → Holds w → AllName (read_first the_deeds set a w)
  first_deeds a w h = if_deeds (call_of set a w) (before set a w) (asked_before a w h)

  first_asked : (a : Asking) (w : World) → Holds w → Holds (first_step set a w)
  first_asked a w h = if_called (call_of set a w) (before set a w) (asked_before a w h)

  rest_deeds : (more : ℕ) (name : List ℕ) (w : World) → Holds w → AllName (read_rest the_deeds set more name w)
  rest_deeds zero name w h = tt
  rest_deeds (suc more) name w h =
      let o = call_of_stranger (stranger_named name w) in
      let u = calls_if set o (next_held name w) in
      join (read_if the_deeds set o w) (read_rest the_deeds set more name u) (if_deeds o w h) (rest_deeds more name u (if_called o (next_held name w) h))

  rest_asked : (more : ℕ) (name : List ℕ) (w : World) → Holds w → Holds (answers_rest set more name w)
  rest_asked zero name w h = h
  rest_asked (suc more) name w h =
      let o = call_of_stranger (stranger_named name w) in
      rest_asked more name (calls_if set o (next_held name w)) (if_called o (next_held name w) h)

  asked_deeds : (a : Asking) (w : World) → Holds w → AllName (read_asked the_deeds set a w)
  asked_deeds (to_broker d) w h = first_deeds (to_broker d) w h
  asked_deeds (old_to_broker d) w h = first_deeds (old_to_broker d) w h
  asked_deeds (break d) w h = first_deeds (break d) w h
  asked_deeds (pump d) w h = first_deeds (pump d) w h
  asked_deeds tick w h = first_deeds tick w h
  asked_deeds (stranger name bytes) w h = let v = comes set name bytes w in rest_deeds (held_count (stranger_named name v)) name v (come name bytes w h)

  asked : (a : Asking) (w : World) → Holds w → Holds (asks set a w)
  asked (to_broker d) w h = first_asked (to_broker d) w h
  asked (old_to_broker d) w h = first_asked (old_to_broker d) w h
  asked (break d) w h = first_asked (break d) w h
  asked (pump d) w h = first_asked (pump d) w h
  asked tick w h = first_asked tick w h
  asked (stranger name bytes) w h = let v = comes set name bytes w in rest_asked (held_count (stranger_named name v)) name v (come name bytes w h)

  linked : (o : Option ℕ) (d : List ℕ) (clean : Bool) (w : World) → Holds w → Holds (links set o d clean w)
  linked None d clean w h = h
  linked (Some n) d clean w h = called NewLine w h

  event_deeds : (e : Event) (w : World) → Holds w → AllName (read_in the_deeds set e w)
  event_deeds (publisher d) w h = tt
  event_deeds (receiver d window aliases) w h = tt
  event_deeds (connect_end d clean) w h = call_deeds NewLine w h
  event_deeds (give_up d) w h = tt
  event_deeds (publish d x) w h = tt
  event_deeds (subscribe d x) w h = tt
  event_deeds (to_end d) w h = tt
  event_deeds (clock wait) w h = tt
  event_deeds (ask a) w h = asked_deeds a w h
  event_deeds restart w h = opened_deeds w h
  event_deeds (stop_before a) w h = opened_deeds (before set a w) (asked_before a w h)
  event_deeds (stop_after a) w h =
      let v = first_step set a w in
      join (read_first the_deeds set a w) (opening_deeds set.limits set.choice v.now v.broker.records) (first_deeds a w h) (opened_deeds v (first_asked a w h))

  happened : (e : Event) (w : World) → Holds w → Holds (happens set e w)
  happened (publisher d) w h = h
  happened (receiver d window aliases) w h = h
  happened (connect_end d clean) w h = linked (next_line set.limits w.broker) d clean w h
  happened (give_up d) w h = h
  happened (publish d x) w h = h
  happened (subscribe d x) w h = h
  happened (to_end d) w h = h
  happened (clock wait) w h = h
  happened (ask a) w h = asked a w h
  happened restart w h = opened_again w h
  happened (stop_before a) w h = opened_again (before set a w) (asked_before a w h)
  happened (stop_after a) w h = opened_again (first_step set a w) (first_asked a w h)

-- ---- turns and runs

turn_deeds : (limits : Capacity) (t : Turn) (w : World) → Holds w → AllName (read_at the_deeds (setting limits t) t.event w)
turn_deeds limits t w h = by (is_bad t.event w)
  where
    by : (bad : Bool) → AllName (cond bad [] (read_in the_deeds (setting limits t) t.event w))
    by true = tt
    by false = event_deeds (setting limits t) t.event w h

turn_holds : (limits : Capacity) (t : Turn) (w : World) → Holds w → Holds (turned limits t w)
turn_holds limits t w h = by (is_bad t.event w)
  where
    by : (bad : Bool) → Holds (cond bad w (happens (setting limits t) t.event w))
    by true = h
    by false = happened (setting limits t) t.event w h

run_deeds : (limits : Capacity) (ts : List Turn) (w : World) → Holds w → AllName (deeds_over limits ts w)
run_deeds limits [] w h = tt
run_deeds limits (t ∷ ts) w h =
    join (read_at the_deeds (setting limits t) t.event w) (deeds_over limits ts (turned limits t w)) (turn_deeds limits t w h)
    (run_deeds limits ts (turned limits t w) (turn_holds limits t w h))

-- a run keeps all topics named
pub run_holds : (limits : Capacity) (ts : List Turn) (w : World) → Holds w → Holds (run limits ts w)
run_holds limits [] w h = h
run_holds limits (t ∷ ts) w h = run_holds limits ts (turned limits t w) (turn_holds limits t w h)

-- its deeds send each PUBLISH with its topic
pub run_topics : (limits : Capacity) (ts : List Turn) (w : World) → Holds w → AllByRecursion SendsItsTopic (deeds_over limits ts w)
run_topics limits ts w h = sends_topics (deeds_over limits ts w) (run_deeds limits ts w h)

-- also from the start
pub start_topics : (limits : Capacity) (ts : List Turn) → AllByRecursion SendsItsTopic (deeds_over limits ts start)
start_topics limits ts = run_topics limits ts start (record { stored = record { sessions = tt; retained = tt }; lines = tt })
