-- Runs of both worlds over the same turns go alike: event by event.
use Rattle.std.proofs.Common.{◌≡◌, ℕ, zero, suc, ◌<◌, Bool, true, false, cond, List, [], ◌∷◌, ◌++◌, map, bytes_eq, Option, Some, None, refl, sym, ap, subst, arith}
use Rattle.std.specs.Prelude.{is_some}
use Rattle.std.specs.List.{AllByRecursion}
use Rattle.mqtt_topic.specs.names.Aliases.{AliasTable, no_aliases}
use Rattle.mqtt_rules.specs.declared.step.Capacity.{Capacity}
use Rattle.mqtt_rules.specs.step.State.{Broker, Telling}
use Rattle.mqtt_rules.specs.step.Step.{Call, can_link}
use Rattle.mqtt_world_model.specs.model.Lines.{Down, gives_up, left, stands}
use Rattle.mqtt_world_model.specs.model.Ends.{Publisher, Receiver, new_publisher, new_receiver, published, publisher_reads}
use Rattle.mqtt_world_model.specs.model.Ends as meant_end
use Rattle.mqtt_world_model.specs.model.Laws.{fate_of}
use Rattle.mqtt_world_model.specs.model.World.{World, start, Setting, Asking, to_broker, old_to_broker, break, pump, tick, stranger}
use Rattle.mqtt_world_model.specs.model.World.{Event, publisher, receiver, connect_end, give_up, publish, subscribe, to_end, clock, ask, restart, stop_before, stop_after}
use Rattle.mqtt_world_model.specs.model.World.{asks_wish, before, call_of, call_of_stranger, comes, held_count, is_bad, is_open_line, linked_at, links, next_held, next_line, restarts, stranger_named, taken_old, taken_up, with_line}
use Rattle.mqtt_world_model.specs.model.World as meant
use Rattle.mqtt_world_model.specs.model.Run.{Turn, read_asked, read_at, read_first, read_if, read_in, read_opening, read_over, read_rest, setting, the_deeds}
use Rattle.mqtt_world_model.specs.model.Run as meant_run
use Rattle.mqtt_rules.specs.telling.Meaning.{SendsItsTopic}
use Rattle.mqtt_world_laws.specs.telling.Reading.{known_after, receiver_reads}
use Rattle.mqtt_world_laws.specs.telling.AsSent.{AsSent, Most, answers_rest, asks, calls_if, changed_for, first_step, happens, in_world, known_joined, receivers_read, restarted, run, start_as_sent, turned}
use Rattle.mqtt_world_laws.specs.telling.AsSent as sent
use Rattle.mqtt_world_laws.specs.telling.Likewise.{AllPublishersAlike, AllReceiversAlike, AllSendTopics, AllUnderstand, Likewise, ReceiversAlike, WorldsAlike}
use Rattle.mqtt_world_laws.proofs.telling_lemmas.Downs.{DownsAlike}
use Rattle.mqtt_world_laws.proofs.telling_lemmas.Ends.{by_receiver, for_publisher, kept_receiver, publishers_changed, publishers_more, receiver_with, receivers_more}
use Rattle.mqtt_world_laws.proofs.telling_lemmas.Given.{opening_numbered}
use Rattle.mqtt_world_laws.proofs.telling_lemmas.Publishers.{publishes, reads_first}
use Rattle.mqtt_world_laws.proofs.telling_lemmas.Readings.{are_understood, reads_alike}
use Rattle.mqtt_world_laws.proofs.telling_lemmas.Calls.{Goes, OnGiven, by_world, calls_if_alike}
use Rattle.mqtt_world_laws.proofs.telling_lemmas.Bad.{bad_same, call_same, same_fate}
use Rattle.mqtt_world_laws.proofs.telling_lemmas.Worlds.{bytes_come, come_lines, gave_up, joins_alike, left_line, line_more, lines_of, publishers_of, receivers_of, restarts_alike, took_old, took_up}

all_split : {X : Type 0} (P : X → Type 0) (xs ys : List X) → AllByRecursion P (xs ++ ys) → AllByRecursion P xs × AllByRecursion P ys
all_split P [] ys h = (tt, h)
all_split P (x ∷ xs) ys h = let rest = all_split P xs ys h.1 in ((h.0, rest.0), rest.1)

line_given : (limits : Capacity) (b : Broker) (n : ℕ) → next_line limits b ≡ Some n → b.given < n
line_given limits b n e = by (can_link limits b) e
  where
    by : (t : Bool) → cond t (Some (suc b.given)) None ≡ Some n → b.given < n
    by true e = let is : suc b.given ≡ n = cc in omega (arith, is)
    by false e = absurd cc

module _ (most : Most) where
  like_of : (s : AsSent) (x w : World) → WorldsAlike most s.tellings s.known x w → OnGiven x.broker s.tellings → Goes most (in_world x s) w
  like_of s x w a on = record { worlds = a; lines = on }

  -- the world of what is meant, with its lists of ends
  other_like : (s : AsSent) (ms : List Publisher) (vs : List Receiver) → AllPublishersAlike s.world.publishers ms → AllReceiversAlike most s.tellings s.world.receivers s.known vs
      → OnGiven s.world.broker s.tellings → Goes most s (record s.world { publishers = ms; receivers = vs })
  other_like s ms vs hp hr on = record { worlds = record { same = refl; publishers = hp; receivers = hr }; lines = on }

  -- ---- what the broker is asked for

  before_alike : (set : Setting) (a : Asking) (s : AsSent) (w : World) → Goes most s w → Goes most (in_world (before set a s.world) s) (before set a w)
  before_alike set (to_broker client) s w h =
      like_of s (with_line client taken_up taken_up s.world) (with_line client taken_up taken_up w) (lines_of most s.tellings s.known client taken_up taken_up (took_up most s.tellings) s.world w h.worlds) h.lines
  before_alike set (old_to_broker client) s w h =
      like_of s (with_line client taken_old taken_old s.world) (with_line client taken_old taken_old w) (lines_of most s.tellings s.known client taken_old taken_old (took_old most s.tellings) s.world w h.worlds) h.lines
  before_alike set (break client) s w h = h
  before_alike set (pump client) s w h = h
  before_alike set tick s w h = h
  before_alike set (stranger name bytes) s w h =
      by_world most (λ (y : World). Goes most (in_world (comes set name bytes s.world) s) (comes set name bytes y)) s w h.worlds
      (λ ms vs hp hr.
      like_of s (comes set name bytes s.world) (comes set name bytes (record s.world { publishers = ms; receivers = vs }))
      (bytes_come most s.tellings s.known set s.world name bytes (is_some (stranger_named name s.world)) ms vs hp hr)
      (come_lines most s.tellings s.known set s.world name bytes (is_some (stranger_named name s.world)) h.lines))

  first_step_alike : (set : Setting) (a : Asking) (s : AsSent) (w : World) → Goes most s w → AllByRecursion SendsItsTopic (read_first the_deeds set a w) → Goes most (first_step most set a s) (meant.first_step set a w)
  first_step_alike set a s w h order =
      by_world most (λ (y : World). AllByRecursion SendsItsTopic (read_first the_deeds set a y) → Goes most (first_step most set a s) (meant.first_step set a y)) s w h.worlds
      (λ ms vs hp hr.
      let y : World = record s.world { publishers = ms; receivers = vs } in
      subst (λ (o : Option Call). AllByRecursion SendsItsTopic (read_if the_deeds set o (before set a y)) → Goes most (first_step most set a s) (meant.calls_if set o (before set a y)))
      (sym (call_same most s.tellings s.known s.world ms vs hp hr set a))
      (λ asked. calls_if_alike most set (call_of set a s.world) (in_world (before set a s.world) s) (before set a y) (before_alike set a s y (other_like s ms vs hp hr h.lines)) asked))
      order

  -- what a stranger holds is no part of a call
  read_held : (set : Setting) (o : Option Call) (name : List ℕ) (w : World) → read_if the_deeds set o (next_held name w) ≡ read_if the_deeds set o w
  read_held set None name w = refl
  read_held set (Some call) name w = refl

  rest_alike : (set : Setting) (more : ℕ) (name : List ℕ) (s : AsSent) (w : World) → Goes most s w → AllByRecursion SendsItsTopic (read_rest the_deeds set more name w)
      → Goes most (answers_rest most set more name s) (meant.answers_rest set more name w)
  rest_alike set zero name s w h order = h
  rest_alike set (suc more) name s w h order =
      by_world most (λ (y : World). AllByRecursion SendsItsTopic (read_rest the_deeds set (suc more) name y) → Goes most (answers_rest most set (suc more) name s) (meant.answers_rest set (suc more) name y)) s w h.worlds
      (λ ms vs hp hr asked.
      let y : World = record s.world { publishers = ms; receivers = vs } in
      let call = call_of_stranger (stranger_named name s.world) in
      let parts = all_split SendsItsTopic (read_if the_deeds set call y) (read_rest the_deeds set more name (meant.calls_if set call (next_held name y))) asked in
      let held = like_of s (next_held name s.world) (next_held name y) (record { same = refl; publishers = hp; receivers = hr }) h.lines in
      let next = calls_if_alike most set call (in_world (next_held name s.world) s) (next_held name y) held (subst (AllByRecursion SendsItsTopic) (sym (read_held set call name y)) parts.0) in
      rest_alike set more name (calls_if most set call (in_world (next_held name s.world) s)) (meant.calls_if set call (next_held name y)) next parts.1)
      order

  module _ (set : Setting) (name bytes : List ℕ) (s : AsSent) (ms : List Publisher) (vs : List Receiver) (hp : AllPublishersAlike s.world.publishers ms)
      (hr : AllReceiversAlike most s.tellings s.world.receivers s.known vs) (on : OnGiven s.world.broker s.tellings) where
    abbrev Meant : World
    Meant = record s.world { publishers = ms; receivers = vs }

    came : (t : Bool) → Goes most (in_world (linked_at set t name bytes s.world) s) (linked_at set t name bytes Meant)
    came t =
        like_of s (linked_at set t name bytes s.world) (linked_at set t name bytes Meant)
        (bytes_come most s.tellings s.known set s.world name bytes t ms vs hp hr) (come_lines most s.tellings s.known set s.world name bytes t on)

    abbrev Count : Bool → World → ℕ
    Count t x = held_count (stranger_named name (linked_at set t name bytes x))

    same_count : (t : Bool) → Count t Meant ≡ Count t s.world
    same_count true = refl
    same_count false = refl

    stranger_alike : (t : Bool) → AllByRecursion SendsItsTopic (read_rest the_deeds set (Count t Meant) name (linked_at set t name bytes Meant))
        → Goes most (answers_rest most set (Count t s.world) name (in_world (linked_at set t name bytes s.world) s)) (meant.answers_rest set (Count t Meant) name (linked_at set t name bytes Meant))
    stranger_alike t order =
        subst (λ (c : ℕ). Goes most (answers_rest most set c name (in_world (linked_at set t name bytes s.world) s)) (meant.answers_rest set (Count t Meant) name (linked_at set t name bytes Meant)))
        (same_count t)
        (rest_alike set (Count t Meant) name (in_world (linked_at set t name bytes s.world) s) (linked_at set t name bytes Meant) (came t) order)

  asks_alike : (set : Setting) (a : Asking) (s : AsSent) (w : World) → Goes most s w → AllByRecursion SendsItsTopic (read_asked the_deeds set a w) → Goes most (asks most set a s) (meant.asks set a w)
  asks_alike set (to_broker client) s w h order = first_step_alike set (to_broker client) s w h order
  asks_alike set (old_to_broker client) s w h order = first_step_alike set (old_to_broker client) s w h order
  asks_alike set (break client) s w h order =
      let t = first_step most set (break client) s in
      let v = meant.first_step set (break client) w in
      let first = first_step_alike set (break client) s w h order in
      like_of t (with_line client left left t.world) (with_line client left left v) (lines_of most t.tellings t.known client left left (left_line most t.tellings) t.world v first.worlds) first.lines
  asks_alike set (pump client) s w h order = first_step_alike set (pump client) s w h order
  asks_alike set tick s w h order = first_step_alike set tick s w h order
  asks_alike set (stranger name bytes) s w h order =
      by_world most (λ (y : World). AllByRecursion SendsItsTopic (read_asked the_deeds set (stranger name bytes) y) → Goes most (asks most set (stranger name bytes) s) (meant.asks set (stranger name bytes) y)) s w h.worlds
      (λ ms vs hp hr asked. stranger_alike set name bytes s ms vs hp hr h.lines (is_some (stranger_named name s.world)) asked)
      order

  restarted_alike : (set : Setting) (s : AsSent) (w : World) → Goes most s w → Goes most (restarted set s) (restarts set w)
  restarted_alike set s w h = record { worlds = restarts_alike most s.tellings s.known set s.world w h.worlds; lines = record { unused = λ n less. refl; numbered = opening_numbered set.limits set.choice s.world.now s.world.broker.records } }

  -- ---- what the ends do

  module _ (set : Setting) (client : List ℕ) (clean : Bool) (s : AsSent) (ms : List Publisher) (vs : List Receiver) (hp : AllPublishersAlike s.world.publishers ms)
      (hr : AllReceiversAlike most s.tellings s.world.receivers s.known vs) (on : OnGiven s.world.broker s.tellings) where
    connects_on : (o : Option ℕ) → next_line set.limits s.world.broker ≡ o
        → Goes most (record { world = links set o client clean s.world; tellings = s.tellings; known = known_joined most o client s }) (links set o client clean (record s.world { publishers = ms; receivers = vs }))
    connects_on None is = other_like s ms vs hp hr on
    connects_on (Some n) is =
        let less = line_given set.limits s.world.broker n is in
        record {
          worlds = joins_alike most s.tellings s.known set s.world client clean n (on.unused n less) ms vs hp hr;
          lines = line_more set s.world s.tellings on;
        }

  module _ (ts : List Telling) (client : List ℕ) (x : World) where
    abbrev Reads : Receiver → Receiver
    Reads r = meant_end.receiver_reads (stands r.line.number x.broker) r.line.down r

    reads_one : (r : Receiver) (k : AliasTable) (ms : List Down) → DownsAlike most ts r.line.number k r.line.down ms → (t : Bool)
        → ReceiversAlike most ts (cond t (receiver_reads (is_open_line r.line x) k r.line.down r) r) (cond t (known_after k r.line.down) k) (cond t (Reads (receiver_with ms r)) (receiver_with ms r))
    reads_one r k ms h true = reads_alike most ts k (stands r.line.number x.broker) r r.line.down ms h
    reads_one r k ms h false = kept_receiver most ts r k ms h

    reads_all : (rs : List Receiver) (ks : List AliasTable) (vs : List Receiver) → AllReceiversAlike most ts rs ks vs
        → AllReceiversAlike most ts (receivers_read client x rs ks) (changed_for client (λ r k. known_after k r.line.down) rs ks) (map (λ r. cond (bytes_eq r.client client) (Reads r) r) vs)
    reads_all [] [] [] h = tt
    reads_all (r ∷ rs) (k ∷ ks) (v ∷ vs) h = (
      by_receiver most ts (λ (y : Receiver). ReceiversAlike most ts (cond (bytes_eq r.client client) (receiver_reads (is_open_line r.line x) k r.line.down r) r) (cond (bytes_eq r.client client) (known_after k r.line.down) k) (cond (bytes_eq y.client client) (Reads y) y)) r k v h.0
          (λ ms d. reads_one r k ms d (bytes_eq r.client client)),
      reads_all rs ks vs h.1,
    )
    reads_all [] [] (v ∷ vs) h = absurd h
    reads_all [] (k ∷ ks) vs h = absurd h
    reads_all (r ∷ rs) [] vs h = absurd h
    reads_all (r ∷ rs) (k ∷ ks) [] h = absurd h

  -- ---- what happens

  happens_alike : (set : Setting) (e : Event) (s : AsSent) (w : World) → Goes most s w → AllByRecursion SendsItsTopic (read_in the_deeds set e w) → Goes most (happens most set e s) (meant.happens set e w)
  happens_alike set (publisher client) s w h order = record {
    worlds = record {
      same = ap (meant.happens set (publisher client)) h.worlds.same;
      publishers = publishers_more (new_publisher client) (new_publisher client) (record { same = refl; heard = refl }) s.world.publishers w.publishers h.worlds.publishers;
      receivers = h.worlds.receivers;
    };
    lines = h.lines;
  }
  happens_alike set (receiver client window aliases) s w h order =
      by_world most (λ (y : World). Goes most (happens most set (receiver client window aliases) s) (meant.happens set (receiver client window aliases) y)) s w h.worlds
      (λ ms vs hp hr.
      let new = new_receiver client window aliases s.world.broker.records.births in
      record {
        worlds = record {
          same = refl;
          publishers = hp;
          receivers = receivers_more most s.tellings new (no_aliases 0) new (record { same = refl; means = tt; knows = tt }) s.world.receivers s.known vs hr;
        };
        lines = h.lines;
      })
  happens_alike set (connect_end client clean) s w h order =
      by_world most (λ (y : World). Goes most (happens most set (connect_end client clean) s) (meant.happens set (connect_end client clean) y)) s w h.worlds
      (λ ms vs hp hr. connects_on set client clean s ms vs hp hr h.lines (next_line set.limits s.world.broker) refl)
  happens_alike set (give_up client) s w h order = record {
    worlds = lines_of most s.tellings s.known client (λ l. gives_up l.link l) (λ l. gives_up l.link l) (gave_up most s.tellings) s.world w h.worlds;
    lines = h.lines;
  }
  happens_alike set (publish client d) s w h order =
      by_world most (λ (y : World). Goes most (happens most set (publish client d) s) (meant.happens set (publish client d) y)) s w h.worlds
      (λ ms vs hp hr.
      let f = λ (p : Publisher). published (stands p.line.number s.world.broker) d p in
      record {
        worlds = publishers_of most s.tellings s.known client f f (publishes s.world.broker d) s.world (record s.world { publishers = ms; receivers = vs }) (record { same = refl; publishers = hp; receivers = hr });
        lines = h.lines;
      })
  happens_alike set (subscribe client wish) s w h order =
      by_world most (λ (y : World). Goes most (happens most set (subscribe client wish) s) (meant.happens set (subscribe client wish) y)) s w h.worlds
      (λ ms vs hp hr.
      let f = λ (r : Receiver). asks_wish (stands r.line.number s.world.broker) wish r in
      record {
        worlds = receivers_of most s.tellings s.known client f f (record { each = λ r k downs d. record { same = refl; means = d.means; knows = d.knows } }) s.world (record s.world { publishers = ms; receivers = vs }) (record { same = refl; publishers = hp; receivers = hr });
        lines = h.lines;
      })
  happens_alike set (to_end client) s w h order =
      by_world most (λ (y : World). Goes most (happens most set (to_end client) s) (meant.happens set (to_end client) y)) s w h.worlds
      (λ ms vs hp hr.
      let b = s.world.broker in
      let f = λ (p : Publisher). publisher_reads (stands p.line.number b) p.line.down p in
      record {
        worlds = record {
          same = refl;
          publishers = publishers_changed (λ p. cond (bytes_eq p.client client) (f p) p) (λ p. cond (bytes_eq p.client client) (f p) p) (for_publisher client f f (reads_first b)) s.world.publishers ms hp;
          receivers = reads_all s.tellings client s.world s.world.receivers s.known vs hr;
        };
        lines = h.lines;
      })
  happens_alike set (clock wait) s w h order =
      by_world most (λ (y : World). Goes most (happens most set (clock wait) s) (meant.happens set (clock wait) y)) s w h.worlds
      (λ ms vs hp hr. record { worlds = record { same = refl; publishers = hp; receivers = hr }; lines = h.lines })
  happens_alike set (ask a) s w h order = asks_alike set a s w h order
  happens_alike set restart s w h order = restarted_alike set s w h
  happens_alike set (stop_before a) s w h order = restarted_alike set (in_world (before set a s.world) s) (before set a w) (before_alike set a s w h)
  happens_alike set (stop_after a) s w h order =
      restarted_alike set (first_step most set a s) (meant.first_step set a w) (first_step_alike set a s w h (all_split SendsItsTopic (read_first the_deeds set a w) (read_opening the_deeds set (meant.first_step set a w)) order).0)

  -- ---- runs

  turned_alike : (limits : Capacity) (t : Turn) (s : AsSent) (w : World) → Goes most s w → AllByRecursion SendsItsTopic (read_at the_deeds (setting limits t) t.event w)
      → Goes most (turned most limits t s) (meant_run.turned limits t w)
  turned_alike limits t s w h order =
      by_world most (λ (y : World). AllByRecursion SendsItsTopic (read_at the_deeds (setting limits t) t.event y) → Goes most (turned most limits t s) (meant_run.turned limits t y)) s w h.worlds
      (λ ms vs hp hr.
      let y : World = record s.world { publishers = ms; receivers = vs } in
      let set = setting limits t in
      subst
      (λ (bad : Bool). AllByRecursion SendsItsTopic (cond bad [] (read_in the_deeds set t.event y)) → Goes most (turned most limits t s) (cond bad y (meant.happens set t.event y)))
      (sym (bad_same most s.tellings s.known s.world ms vs hp hr t.event))
      (turn set t.event s y (other_like s ms vs hp hr h.lines) (is_bad t.event s.world)))
      order
    where
      turn : (set : Setting) (e : Event) (s : AsSent) (y : World) → Goes most s y → (bad : Bool) → AllByRecursion SendsItsTopic (cond bad [] (read_in the_deeds set e y))
          → Goes most (cond bad s (happens most set e s)) (cond bad y (meant.happens set e y))
      turn set e s y h true order = h
      turn set e s y h false order = happens_alike set e s y h order

  -- whatever happens, both worlds go alike
  pub run_alike : (limits : Capacity) (ts : List Turn) (s : AsSent) (w : World) → Goes most s w → AllByRecursion SendsItsTopic (read_over the_deeds limits ts w)
      → Goes most (run most limits ts s) (meant_run.run limits ts w)
  run_alike limits [] s w h order = h
  run_alike limits (t ∷ ts) s w h order =
      let parts = all_split SendsItsTopic (read_at the_deeds (setting limits t) t.event w) (read_over the_deeds limits ts (meant_run.turned limits t w)) order in
      run_alike limits ts (turned most limits t s) (meant_run.turned limits t w) (turned_alike limits t s w h parts.0) parts.1

  -- from nothing
  pub likewise : (limits : Capacity) (ts : List Turn) → AllSendTopics limits ts → Likewise most (sent.after most limits ts) (meant_run.after limits ts)
  likewise limits ts order =
      (run_alike limits ts start_as_sent start (record { worlds = record { same = refl; publishers = tt; receivers = tt }; lines = record { unused = λ n less. refl; numbered = tt } }) order).worlds

  -- the broker is the same
  pub brokers : (limits : Capacity) (ts : List Turn) → AllSendTopics limits ts → (sent.after most limits ts).world.broker ≡ (meant_run.after limits ts).broker
  brokers limits ts topics = sym (ap (λ (y : World). y.broker) (likewise limits ts topics).same)

  -- what became of each message is the same
  pub fates : (limits : Capacity) (ts : List Turn) (client : List ℕ) (n : ℕ) → AllSendTopics limits ts → fate_of client n (sent.after most limits ts).world ≡ fate_of client n (meant_run.after limits ts)
  fates limits ts client n topics =
      let s = sent.after most limits ts in
      by_world most (λ (y : World). fate_of client n s.world ≡ fate_of client n y) s (meant_run.after limits ts) (likewise limits ts topics)
      (λ ms vs hp hr. sym (same_fate most s.tellings s.known s.world ms vs hp hr client n))

  all_understand : (ts : List Telling) (rs : List Receiver) (ks : List AliasTable) (vs : List Receiver) → AllReceiversAlike most ts rs ks vs → AllUnderstand rs ks
  all_understand ts [] ks vs h = tt
  all_understand ts (r ∷ rs) (k ∷ ks) (v ∷ vs) h = (are_understood k r.line.down v.line.down h.0.means, all_understand ts rs ks vs h.1)
  all_understand ts (r ∷ rs) [] vs h = absurd h
  all_understand ts (r ∷ rs) (k ∷ ks) [] h = absurd h

  -- what is under way is understood
  pub understand : (limits : Capacity) (ts : List Turn) → AllSendTopics limits ts → AllUnderstand (sent.after most limits ts).world.receivers (sent.after most limits ts).known
  understand limits ts order =
      let s = sent.after most limits ts in
      let w = meant_run.after limits ts in
      all_understand s.tellings s.world.receivers s.known w.receivers (likewise limits ts order).receivers
