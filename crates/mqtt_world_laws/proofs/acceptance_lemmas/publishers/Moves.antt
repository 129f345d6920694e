-- What each event makes of a publisher: it keeps its name and its messages' contents, and stays numbered.
use Rattle.std.proofs.Common.{◌≡◌, ℕ, zero, suc, Bool, true, false, cond, List, map, Option, Some, None, bytes_eq, refl, sym, subst}
use Rattle.std.specs.Prelude.{option_map, find, is_some}
use Rattle.mqtt_flow.specs.inbound.Publisher.{CONNECT}
use Rattle.mqtt_rules.specs.step.Step.{Call, NewLine, stepped, told}
use Rattle.mqtt_world_model.specs.model.Lines.{left, joined, gives_up}
use Rattle.mqtt_world_model.specs.model.Ends.{shake, Publisher, published, publisher_reads}
use Rattle.mqtt_world_model.specs.model.World.{World, Setting, Event, publisher, receiver, connect_end, give_up, publish, subscribe, to_end, clock, ask, restart, stop_before, stop_after, Asking, to_broker, old_to_broker, break, pump, tick, stranger, stranger_named, publisher_named, calls, calls_if, publisher_told, publisher_restarted, restarts, links, linked_at, comes, next_held, call_of_stranger, answers_rest, held_count, before, call_of, first_step, asks, happens, is_open_line, taken_up, taken_old}
use Rattle.mqtt_world_laws.proofs.acceptance_lemmas.publishers.Ends.{find_publisher}
use Rattle.mqtt_world_laws.proofs.acceptance_lemmas.publishers.Changes.{on_line}
use Rattle.mqtt_world_laws.proofs.acceptance_lemmas.publishers.Numbered.{Moves, unmoved, moves_then, published_moves, read_moves, given_moves, left_moves, joined_moves, restarted_moves, up_moves, old_moves, told_moves}

-- ---- a publisher of this name, before and after

abbrev pub Moved : Option Publisher → Option Publisher → Type 0
Moved None y = y ≡ None
Moved (Some p) y = (q : Publisher) × (y ≡ Some q) × Moves p q

-- who does not move has moved by nothing
pub moved_not : (o : Option Publisher) → Moved o o
moved_not None = refl
moved_not (Some p) = (p, refl, unmoved p)

-- two moves are one
pub moved_then : (x y z : Option Publisher) → Moved x y → Moved y z → Moved x z
moved_then None y z e h = subst (λ (o : Option Publisher). Moved o z) e h
moved_then (Some p) y z h g = (let more = subst (λ (o : Option Publisher). Moved o z) h.1 g in (more.0, more.1, moves_then p h.0 more.0 h.2 more.2))

mapped : (F : Publisher → Publisher) → ((p : Publisher) → Moves p (F p)) → (o : Option Publisher) → Moved o (option_map F o)
mapped F h None = refl
mapped F h (Some p) = (F p, refl, h p)

-- if all may move, so may the publisher
pub all_moved : (c : List ℕ) (F : Publisher → Publisher) (ps : List Publisher) → ((p : Publisher) → Moves p (F p))
    → Moved (find (λ (p : Publisher). bytes_eq p.client c) ps) (find (λ (p : Publisher). bytes_eq p.client c) (map F ps))
all_moved c F ps h =
    let before_ = find (λ (p : Publisher). bytes_eq p.client c) ps in
    subst (Moved before_) (sym (find_publisher c F (λ p. (h p).client) ps)) (mapped F h before_)

if_moves : (t : Bool) (F : Publisher → Publisher) (p : Publisher) → Moves p (F p) → Moves p (cond t (F p) p)
if_moves true F p h = h
if_moves false F p h = unmoved p

-- if one may move, so may the publisher
pub one_moved : (c d : List ℕ) (F : Publisher → Publisher) (ps : List Publisher) → ((p : Publisher) → Moves p (F p))
    → Moved (find (λ (p : Publisher). bytes_eq p.client c) ps) (find (λ (p : Publisher). bytes_eq p.client c) (map (λ p. cond (bytes_eq p.client d) (F p) p) ps))
one_moved c d F ps h = all_moved c (λ p. cond (bytes_eq p.client d) (F p) p) ps (λ p. if_moves (bytes_eq p.client d) F p (h p))

-- ---- calls, and what is asked for

module _ (c : List ℕ) (set : Setting) where
  abbrev His : World → Option Publisher
  His w = publisher_named c w

  -- a call moves a publisher, or leaves it
  pub if_moved : (call : Option Call) (w : World) → Moved (His w) (His (calls_if set call w))
  if_moved None w = moved_not (His w)
  if_moved (Some call) w =
      all_moved c (publisher_told (stepped set.limits set.choice w.now call w.broker) (told set.limits set.choice w.now call w.broker)) w.publishers (λ p. told_moves p (stepped set.limits set.choice w.now call w.broker) (told set.limits set.choice w.now call w.broker))

  comes_moved : (name bytes : List ℕ) (w : World) → Moved (His w) (His (comes set name bytes w))
  comes_moved name bytes w = by (is_some (stranger_named name w))
    where
      by : (t : Bool) → Moved (His w) (His (linked_at set t name bytes w))
      by true = moved_not (His w)
      by false = if_moved (Some NewLine) w

  -- what comes before a call moves a publisher, or leaves it
  pub before_moved : (a : Asking) (w : World) → Moved (His w) (His (before set a w))
  before_moved (to_broker d) w = one_moved c d (on_line taken_up) w.publishers up_moves
  before_moved (old_to_broker d) w = one_moved c d (on_line taken_old) w.publishers old_moves
  before_moved (break d) w = moved_not (His w)
  before_moved (pump d) w = moved_not (His w)
  before_moved tick w = moved_not (His w)
  before_moved (stranger name bytes) w = comes_moved name bytes w

  -- the first step of what is asked moves a publisher, or leaves it
  pub first_moved : (a : Asking) (w : World) → Moved (His w) (His (first_step set a w))
  first_moved a w = moved_then (His w) (His (before set a w)) (His (first_step set a w)) (before_moved a w) (if_moved (call_of set a w) (before set a w))

  rest_moved : (more : ℕ) (name : List ℕ) (w : World) → Moved (His w) (His (answers_rest set more name w))
  rest_moved zero name w = moved_not (His w)
  rest_moved (suc more) name w =
      let call = call_of_stranger (stranger_named name w) in
      let v = calls_if set call (next_held name w) in
      moved_then (His w) (His v) (His (answers_rest set more name v)) (if_moved call (next_held name w)) (rest_moved more name v)

  asked_moved : (a : Asking) (w : World) → Moved (His w) (His (asks set a w))
  asked_moved (to_broker d) w = first_moved (to_broker d) w
  asked_moved (old_to_broker d) w = first_moved (old_to_broker d) w
  asked_moved (break d) w =
      let v = first_step set (break d) w in
      moved_then (His w) (His v) (His (asks set (break d) w)) (first_moved (break d) w) (one_moved c d (on_line left) v.publishers left_moves)
  asked_moved (pump d) w = first_moved (pump d) w
  asked_moved tick w = first_moved tick w
  asked_moved (stranger name bytes) w =
      let v = comes set name bytes w in
      moved_then (His w) (His v) (His (asks set (stranger name bytes) w)) (comes_moved name bytes w) (rest_moved (held_count (stranger_named name v)) name v)

  links_moved : (o : Option ℕ) (d : List ℕ) (clean : Bool) (w : World) → Moved (His w) (His (links set o d clean w))
  links_moved None d clean w = moved_not (His w)
  links_moved (Some n) d clean w =
      let v = calls set NewLine w in
      moved_then (His w) (His v) (His (links set (Some n) d clean w)) (if_moved (Some NewLine) w)
      (one_moved c d (on_line (joined (shake (CONNECT clean)) n clean)) v.publishers (joined_moves n clean))

  restart_moved : (w : World) → Moved (His w) (His (restarts set w))
  restart_moved w = all_moved c publisher_restarted w.publishers restarted_moves

  -- whatever happens, but that a publisher comes
  pub event_moved : (e : Event) (w : World) → ((d : List ℕ) → e ≡ publisher d → ⊥) → Moved (His w) (His (happens set e w))
  event_moved (publisher d) w none = absurd (none d refl)
  event_moved (receiver d window aliases) w none = moved_not (His w)
  event_moved (connect_end d clean) w none = links_moved _ d clean w
  event_moved (give_up d) w none = one_moved c d (λ p. record p { line = gives_up p.line.link p.line }) w.publishers given_moves
  event_moved (publish d x) w none = one_moved c d (λ p. published (is_open_line p.line w) x p) w.publishers (λ p. published_moves (is_open_line p.line w) x p)
  event_moved (subscribe d x) w none = moved_not (His w)
  event_moved (to_end d) w none = one_moved c d (λ p. publisher_reads (is_open_line p.line w) p.line.down p) w.publishers (λ p. read_moves (is_open_line p.line w) p.line.down p)
  event_moved (clock wait) w none = moved_not (His w)
  event_moved (ask a) w none = asked_moved a w
  event_moved restart w none = restart_moved w
  event_moved (stop_before a) w none = moved_then (His w) (His (before set a w)) (His (happens set (stop_before a) w)) (before_moved a w) (restart_moved (before set a w))
  event_moved (stop_after a) w none = moved_then (His w) (His (first_step set a w)) (His (happens set (stop_after a) w)) (first_moved a w) (restart_moved (first_step set a w))
