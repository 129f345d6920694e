-- A drain, from what its turns make of the broker and its ends (MQTT 5.0, 4.3, 4.4, 4.6).
use Rattle.std.proofs.Common.{◌≡◌, ℕ, suc, ◌+◌, Bool, true, false, not, length, List, Option, Some, None, option_map, append-nil, arith, refl, sym, ap, subst, ◌∙◌}
use Rattle.std.specs.Prelude.{OnOk, Ok, Err, Result, unwrap_or}
use Rattle.mqtt_keep.specs.declared.keeping.keep.Keep.{Ghosts}
use Rattle.mqtt_world_model.specs.model.Ends.{Receiver}
use Rattle.mqtt_world_model.specs.model.Lines.{stands}
use Rattle.mqtt_world_model.specs.model.Tellings.{Telling, silent}
use Rattle.mqtt_world_model.specs.model.World.{Event, Stranger, World, ask, pump, receiver_named, to_broker, to_end}
use Rattle.mqtt_world_laws.specs.receiver.Drains.{copies_left, downs_by, is_bad_drain, is_none_left, is_over, line_stands, ups_by}
use Rattle.mqtt_broker.specs.engine.Serving.{Serving}
use Rattle.mqtt_broker.specs.stored.Running.{Running}
use Rattle.mqtt_rules.specs.declared.step.Capacity.{Capacity}
use Rattle.mqtt_world.specs.clients.Ends.{Ends, in_world}
use Rattle.mqtt_world_laws.specs.knowing.Knowing.{HasKnowingEnds}
use Rattle.mqtt_world.proofs.scene_lemmas.StayKnowing.{repeats_knowing, rounds_knowing, turn_knowing}
use Rattle.mqtt_world.specs.declared.scene.over.Over.{Over}
use Rattle.mqtt_world.specs.script_laws.Drains.{IsRound, Repeats}
use Rattle.mqtt_world.specs.script_laws.Scripted.{Happens}
use Rattle.mqtt_world.specs.script_laws.Turns.{IsTurn, both_tell}
use Rattle.mqtt_world.proofs.script_laws_lemmas.Drained.{a_round_more}
use Rattle.mqtt_world.proofs.script_laws_lemmas.Repeated.{once_more}
use Rattle.mqtt_world.specs.scene.Draining.{Drains, GoesOn, all_rounds, answers_all, once, one_round, reads_all, so_many_rounds, so_often}
use Rattle.mqtt_world.specs.scene.Events.{Does, IsReached, SpellsAll, played, world_of}
use Rattle.mqtt_world.specs.scene.Scenes.{IsPlayable, Played}
use Rattle.mqtt_world.proofs.scene_lemmas.Heard.{none_tells, tells_after}
use Rattle.mqtt_world.proofs.scene_lemmas.Unasked.{or_first, or_second}

-- ---- what is looked at

downs_of : (o : Option Receiver) → unwrap_or (option_map (λ r. length r.line.down) o) 0 ≡ downs_by o
downs_of None = refl
downs_of (Some r) = refl

ups_of : (o : Option Receiver) → unwrap_or (option_map (λ r. length r.line.up) o) 0 ≡ ups_by o
ups_of None = refl
ups_of (Some r) = refl

bad_some : (o : Option Receiver) (w : World) (b : Bool) → Some b ≡ option_map (λ r. stands r.line.number w.broker) o → not b ≡ not (line_stands o w)
bad_some None w b is = absurd (cc)
bad_some (Some r) w b is = let same : b ≡ stands r.line.number w.broker = cc in ap not same

bad_none : (o : Option Receiver) (w : World) → None ≡ option_map (λ r. stands r.line.number w.broker) o → true ≡ not (line_stands o w)
bad_none None w is = refl
bad_none (Some r) w is = absurd (cc)

-- what is seen of the ends is seen in the world
looked : {A : Type 0} (f : World → A) {K : Type 0} (s : Played K) (E : Serving K) (O : Ends) (t : A) → played E O ≡ s → ((w : World) → t ≡ f (in_world O w))
    → (now : ℕ) (ss : List Stranger) → t ≡ f (world_of now ss s)
looked f s E O t view tells now ss = tells (world_of now ss (played E O)) ∙ ap (λ (x : Played _). f (world_of now ss x)) view

module _ {K : Type 0} (client : List ℕ) (s : Played K) (E : Serving K) (O : Ends) where
  -- what is seen of a receiver's line says how many packets are under way to it
  pub packets_to : (d : Option ℕ) (n : ℕ) → played E O ≡ s → ((w : World) → d ≡ option_map (λ r. length r.line.down) (receiver_named client (in_world O w)))
      → n ≡ unwrap_or d 0 → (now : ℕ) (ss : List Stranger) → n ≡ downs_by (receiver_named client (world_of now ss s))
  packets_to d n view tells is now ss =
      is
      ∙ (ap (λ (o : Option ℕ). unwrap_or o 0) (looked (λ (w : World). option_map (λ r. length r.line.down) (receiver_named client w)) s E O d view tells now ss)
      ∙ downs_of (receiver_named client (world_of now ss s)))

  -- and how many are under way from it
  pub packets_from : (d : Option ℕ) (n : ℕ) → played E O ≡ s → ((w : World) → d ≡ option_map (λ r. length r.line.up) (receiver_named client (in_world O w)))
      → n ≡ unwrap_or d 0 → (now : ℕ) (ss : List Stranger) → n ≡ ups_by (receiver_named client (world_of now ss s))
  packets_from d n view tells is now ss =
      is
      ∙ (ap (λ (o : Option ℕ). unwrap_or o 0) (looked (λ (w : World). option_map (λ r. length r.line.up) (receiver_named client w)) s E O d view tells now ss)
      ∙ ups_of (receiver_named client (world_of now ss s)))

  line_of : (o : Option Bool) → played E O ≡ s
      → ((w : World) → o ≡ option_map (λ r. stands r.line.number E.running.broker) (receiver_named client (in_world O w)))
      → (now : ℕ) (ss : List Stranger) → o ≡ option_map (λ r. stands r.line.number s.engine.running.broker) (receiver_named client (world_of now ss s))
  line_of o view tells now ss =
      tells (world_of now ss (played E O))
      ∙ ap (λ (x : Played K). option_map (λ r. stands r.line.number x.engine.running.broker) (receiver_named client (world_of now ss x))) view

  -- a receiver that is there can be drained exactly if its line stands
  pub bad_where_some : (o : Option Bool) (b : Bool) → played E O ≡ s
      → ((w : World) → o ≡ option_map (λ r. stands r.line.number E.running.broker) (receiver_named client (in_world O w)))
      → o ≡ Some b → (now : ℕ) (ss : List Stranger) → not b ≡ is_bad_drain client (world_of now ss s)
  bad_where_some o b view tells is now ss =
      let w = world_of now ss s in
      bad_some (receiver_named client w) w b (sym is ∙ line_of o view tells now ss)

  -- a line stands as it does by the engine without the bytes of its lines
  pub stands_by : (o : Option Bool) (r : Running K) → r ≡ E.running
      → ((w : World) → o ≡ option_map (λ x. stands x.line.number r.broker) (receiver_named client (in_world O w)))
      → (w : World) → o ≡ option_map (λ x. stands x.line.number E.running.broker) (receiver_named client (in_world O w))
  stands_by o r inner tells w =
      subst (λ (x : Running K). o ≡ option_map (λ y. stands y.line.number x.broker) (receiver_named client (in_world O w))) inner (tells w)

  -- if no receiver has this name, it can't be drained
  pub bad_where_none : (o : Option Bool) → played E O ≡ s
      → ((w : World) → o ≡ option_map (λ r. stands r.line.number E.running.broker) (receiver_named client (in_world O w)))
      → o ≡ None → (now : ℕ) (ss : List Stranger) → true ≡ is_bad_drain client (world_of now ss s)
  bad_where_none o view tells is now ss =
      let w = world_of now ss s in
      bad_none (receiver_named client w) w (sym is ∙ line_of o view tells now ss)

-- by no copies, or by its line
pub over_by_copies : (none : Bool) (client : List ℕ) (w : World) → none ≡ true → none ≡ is_none_left (copies_left client w)
    → none ≡ is_over client w
over_by_copies none client w is same = or_first (is_none_left (copies_left client w)) (is_bad_drain client w) none same is

-- if copies are left, a drain is over exactly if the receiver's line doesn't stand
pub over_by_line : (none bad : Bool) (client : List ℕ) (w : World) → none ≡ false → none ≡ is_none_left (copies_left client w)
    → bad ≡ is_bad_drain client w → bad ≡ is_over client w
over_by_line none bad client w is same line = or_second (is_none_left (copies_left client w)) (is_bad_drain client w) bad (sym same ∙ is) line

-- ---- what is told

nothing_behind : (t : Telling) → t ≡ both_tell t silent
nothing_behind t =
    let same : t.out + 0 ≡ t.out = omega arith in
    sym (ap (λ rs. record { reports = rs; out = t.out + 0 }) (append-nil t.reports) ∙ ap (λ (n : ℕ). record { reports = t.reports; out = n }) same)

-- ---- what happens behind what happened

module _ {K : Type 0} (g : Ghosts K) (now : ℕ) where
  goes_none : (P : Capacity → Telling → World → World → Type 0) (s : Played K) (told : Telling) → IsPlayable g s
      → ((limits : Capacity) (w : World) → P limits silent w w) → GoesOn g now P s told told s
  goes_none P s told playable none = record {
    playable = playable;
    limits = refl;
    sound = λ sound. sound;
    reached = λ sound reached. reached;
    t = silent;
    told = nothing_behind told;
    done = λ sound spells reached ss knowing. none s.engine.running.limits (world_of now ss s);
  }

  -- the same, said in other words of these worlds
  pub goes_as : (P Q : Capacity → Telling → World → World → Type 0) (old new : Played K) (before after : Telling)
      → ((limits : Capacity) (t : Telling) (ss : List Stranger) → P limits t (world_of now ss old) (world_of now ss new)
      → Q limits t (world_of now ss old) (world_of now ss new))
      → GoesOn g now P old before after new → GoesOn g now Q old before after new
  goes_as P Q old new before after says x = record {
    playable = x.playable;
    limits = x.limits;
    sound = x.sound;
    reached = x.reached;
    t = x.t;
    told = x.told;
    done = λ sound spells reached ss knowing. says old.engine.running.limits x.t ss (x.done sound spells reached ss knowing);
  }

  goes_behind : (P Q R : Capacity → Telling → World → World → Type 0) (old mid new : Played K) (before between after : Telling)
      → ((limits : Capacity) (t : Telling) (w v : World) → P limits t w v → HasKnowingEnds w → HasKnowingEnds v)
      → ((limits : Capacity) (t u : Telling) (w v x : World) → P limits t w v → Q limits u v x → R limits (both_tell t u) w x)
      → GoesOn g now P old before between mid → GoesOn g now Q mid between after new → GoesOn g now R old before after new
  goes_behind P Q R old mid new before between after keeps joins x y =
      let limits = old.engine.running.limits in
      record {
        playable = y.playable;
        limits = y.limits ∙ x.limits;
        sound = λ sound. x.sound (y.sound sound);
        reached = λ sound reached.
            subst (λ (l : Capacity). IsReached l new.engine.running.broker) x.limits
            (y.reached sound (subst (λ (l : Capacity). IsReached l mid.engine.running.broker) (sym x.limits) (x.reached (y.sound sound) reached)));
        t = both_tell x.t y.t;
        told = y.told ∙ (ap (λ (z : Telling). both_tell z y.t) x.told ∙ tells_after before x.t y.t);
        done = λ sound spells reached ss knowing.
            let was = y.sound sound in
            let first = x.done was spells reached ss knowing in
            joins limits x.t y.t (world_of now ss old) (world_of now ss mid) (world_of now ss new) first
            (subst (λ (l : Capacity). Q l y.t (world_of now ss mid) (world_of now ss new)) x.limits
            (y.done sound (subst SpellsAll (sym x.limits) spells)
            (subst (λ (l : Capacity). IsReached l mid.engine.running.broker) (sym x.limits) (x.reached was reached)) ss (keeps limits x.t (world_of now ss old) (world_of now ss mid) first knowing)));
      }

  -- ---- one turn

  goes_once : (e : Event) (old new : Played K) (t before after : Telling)
      → ((limits : Capacity) (u : Telling) (w v : World) → Happens limits e u w v → IsTurn limits e u w v)
      → Does g now e old (Some t) new → after ≡ both_tell before t → GoesOn g now (once e) old before after new
  goes_once e old new t before after turns does told = record {
    playable = does.playable;
    limits = does.limits;
    sound = does.sound;
    reached = does.reached;
    t = t;
    told = told;
    done = λ sound spells reached ss knowing. turns old.engine.running.limits t (world_of now ss old) (world_of now ss new) (does.done sound spells reached ss knowing);
  }

  -- if what is told was added
  pub goes_added : {U : Type 0} (e : Event) (old new : Played K) (more : Option Telling) (before after : Telling) (r : Result U Over)
      → ((limits : Capacity) (u : Telling) (w v : World) → Happens limits e u w v → IsTurn limits e u w v) → Does g now e old more new
      → OnOk r ((t : Telling) × (more ≡ Some t) × (after ≡ both_tell before t)) → OnOk r (GoesOn g now (once e) old before after new)
  goes_added e old new more before after (Ok u) turns does (t, some, told) =
      goes_once e old new t before after turns (subst (λ (o : Option Telling). Does g now e old o new) some does) told
  goes_added e old new more before after (Err f) turns does told = tt

  -- ---- turns of one event, one after the other

  -- before an event comes for the first time nothing changed, and nothing was told
  pub none_yet : (e : Event) (s : Played K) (told : Telling) → IsPlayable g s → GoesOn g now (so_often 0 e) s told told s
  none_yet e s told playable = goes_none (so_often 0 e) s told playable (λ limits w. (refl, refl))

  -- if it comes once behind so many times, it came once more, and tells that behind the rest
  pub one_more : (n m : ℕ) (e : Event) (old mid new : Played K) (before between after : Telling) → m ≡ suc n
      → GoesOn g now (so_often n e) old before between mid → GoesOn g now (once e) mid between after new
      → GoesOn g now (so_often m e) old before after new
  one_more n m e old mid new before between after is x y =
      subst (λ (k : ℕ). GoesOn g now (so_often k e) old before after new) (sym is)
      (goes_behind (so_often n e) (once e) (so_often (suc n) e) old mid new before between after
      (λ limits t w v does h. repeats_knowing limits n e t w v does h)
      (λ limits t u w v z h does. once_more limits n e t u w v z h does) x y)

  -- if a receiver read as often as packets were under way to it, it read all of them
  pub all_read : (client : List ℕ) (n m : ℕ) (old new : Played K) (before after : Telling) → n ≡ m
      → ((ss : List Stranger) → m ≡ downs_by (receiver_named client (world_of now ss old)))
      → GoesOn g now (so_often n (to_end client)) old before after new → GoesOn g now (reads_all client) old before after new
  all_read client n m old new before after is all x =
      goes_as (so_often n (to_end client)) (reads_all client) old new before after
      (λ limits t ss h. subst (λ (k : ℕ). Repeats limits k (to_end client) t (world_of now ss old) (world_of now ss new)) (is ∙ all ss) h) x

  -- if the broker read as often as packets were under way from a receiver, it read all of them
  pub all_answered : (client : List ℕ) (n m : ℕ) (old new : Played K) (before after : Telling) → n ≡ m
      → ((ss : List Stranger) → m ≡ ups_by (receiver_named client (world_of now ss old)))
      → GoesOn g now (so_often n (ask (to_broker client))) old before after new → GoesOn g now (answers_all client) old before after new
  all_answered client n m old new before after is all x =
      goes_as (so_often n (ask (to_broker client))) (answers_all client) old new before after
      (λ limits t ss h. subst (λ (k : ℕ). Repeats limits k (ask (to_broker client)) t (world_of now ss old) (world_of now ss new)) (is ∙ all ss) h) x

  -- ---- a round

  abbrev reads_and_answers : List ℕ → Capacity → Telling → World → World → Type 0
  reads_and_answers client limits t w after =
      (second : Telling) × (third : Telling) × (read : World) × reads_all client limits second w read × answers_all client limits third read after
      × (t ≡ both_tell second third)

  round_is : (client : List ℕ) (limits : Capacity) (t u : Telling) (w v after : World) → once (ask (pump client)) limits t w v
      → reads_and_answers client limits u v after → IsRound limits client (both_tell t u) w after
  round_is client limits t u w v after sends (second, third, read, reads, answers, told) = record {
    first = t;
    second = second;
    third = third;
    sent = v;
    read = read;
    sends = sends;
    reads = reads;
    answers = answers;
    told = ap (both_tell t) told;
  }

  -- packets that are sent, then all read, then all answered, are one round
  pub goes_round : {U : Type 0} (client : List ℕ) (old sent read new : Played K) (a b c d : Telling) (r : Result U Over)
      → GoesOn g now (once (ask (pump client))) old a b sent → GoesOn g now (reads_all client) sent b c read
      → OnOk r (GoesOn g now (answers_all client) read c d new) → OnOk r (GoesOn g now (one_round client) old a d new)
  goes_round client old sent read new a b c d (Ok x) sends reads answers =
      goes_behind (once (ask (pump client))) (reads_and_answers client) (one_round client) old sent new a b d (λ limits t w v does h. turn_knowing limits (ask (pump client)) t w v does h) (round_is client) sends
      (goes_behind (reads_all client) (answers_all client) (reads_and_answers client) sent read new b c d
      (λ limits t w v does h. repeats_knowing limits (downs_by (receiver_named client w)) (to_end client) t w v does h)
      (λ limits t u w v after first then. (t, u, v, first, then, refl)) reads answers)
  goes_round client old sent read new a b c d (Err f) sends reads answers = tt

  -- ---- rounds

  -- before the first round nothing changed, and nothing was told
  pub no_round_yet : (client : List ℕ) (s : Played K) (told : Telling) → IsPlayable g s → GoesOn g now (so_many_rounds client 0) s told told s
  no_round_yet client s told playable = goes_none (so_many_rounds client 0) s told playable (λ limits w. (refl, refl))

  abbrev going_round : List ℕ → Capacity → Telling → World → World → Type 0
  going_round client limits t w after = (is_over client w ≡ false) × IsRound limits client t w after

  -- if the drain was not over yet, a round behind so many is one more
  pub one_round_more : (client : List ℕ) (n m : ℕ) (old mid new : Played K) (before between after : Telling) (over : Bool) → m ≡ suc n
      → ((ss : List Stranger) → over ≡ is_over client (world_of now ss mid)) → over ≡ false
      → GoesOn g now (so_many_rounds client n) old before between mid → GoesOn g now (one_round client) mid between after new
      → GoesOn g now (so_many_rounds client m) old before after new
  one_round_more client n m old mid new before between after over is looks on x y =
      subst (λ (k : ℕ). GoesOn g now (so_many_rounds client k) old before after new) (sym is)
      (goes_behind (so_many_rounds client n) (going_round client) (so_many_rounds client (suc n)) old mid new before between after
      (λ limits t w v does h. rounds_knowing limits client n t w v does h)
      (λ limits t u w v z made goes. a_round_more limits client n t u w v z made goes.0 goes.1) x
      (goes_as (one_round client) (going_round client) mid new between after (λ limits t ss h. (sym (looks ss) ∙ on, h)) y))

  -- if the drain is over behind so many rounds, those are all
  pub rounds_over : (client : List ℕ) (n : ℕ) (old new : Played K) (before after : Telling) (over : Bool)
      → ((ss : List Stranger) → over ≡ is_over client (world_of now ss new)) → over ≡ true
      → GoesOn g now (so_many_rounds client n) old before after new → GoesOn g now (all_rounds client n) old before after new
  rounds_over client n old new before after over looks is x =
      goes_as (so_many_rounds client n) (all_rounds client n) old new before after (λ limits t ss h. (h, sym (looks ss) ∙ is)) x

  -- ---- a drain

  -- if a drain can't happen, nothing changes
  pub no_drain : (client : List ℕ) (s : Played K) (bad : Bool) → IsPlayable g s → ((ss : List Stranger) → bad ≡ is_bad_drain client (world_of now ss s))
      → bad ≡ true → Drains g now client s None s
  no_drain client s bad playable looks is = record {
    playable = playable;
    limits = refl;
    sound = λ sound. sound;
    reached = λ sound reached. reached;
    done = λ sound spells reached ss knowing. (sym (looks ss) ∙ is, refl);
  }

  -- if it can, it is all its rounds, and tells what they told
  pub drain_done : (client : List ℕ) (n : ℕ) (old new : Played K) (nothing told : Telling) (bad : Bool) → nothing ≡ silent
      → ((ss : List Stranger) → bad ≡ is_bad_drain client (world_of now ss old)) → bad ≡ false
      → GoesOn g now (all_rounds client n) old nothing told new → Drains g now client old (Some (told, n)) new
  drain_done client n old new nothing told bad is looks good x =
      let same : told ≡ x.t = x.told ∙ (ap (λ (t : Telling). both_tell t x.t) is ∙ sym (none_tells x.t)) in
      subst (λ (t : Telling). Drains g now client old (Some (t, n)) new) (sym same) (record {
        playable = x.playable;
        limits = x.limits;
        sound = x.sound;
        reached = x.reached;
        done = λ sound spells reached ss knowing.
            let made = x.done sound spells reached ss knowing in
            (record { good = sym (looks ss) ∙ good; rounds = n; made = made.0; over = made.1 }, refl);
      })

-- ---- whatever the moment

module _ {K : Type 0} (g : Ghosts K) where
  -- an event that is done at any moment is one turn there, if what it tells is told behind the rest
  pub goes_added_ever : {U : Type 0} (e : Event) (old new : Played K) (more : Option Telling) (before after : Telling) (r : Result U Over)
      → ((limits : Capacity) (u : Telling) (w v : World) → Happens limits e u w v → IsTurn limits e u w v) → ((now : ℕ) → Does g now e old more new)
      → OnOk r ((t : Telling) × (more ≡ Some t) × (after ≡ both_tell before t)) → OnOk r ((now : ℕ) → GoesOn g now (once e) old before after new)
  goes_added_ever {U} e old new more before after (Ok u) turns does told = λ now.
      let r : Result U Over = Ok u in
      goes_added g now e old new more before after r turns (does now) told
  goes_added_ever e old new more before after (Err f) turns does told = tt
