-- What is seen of a world that stands, from what is seen of its broker and its ends (MQTT 5.0, 4.1 to 4.4).
use Rattle.std.proofs.Common.{◌≡◌, ℕ, Bool, true, false, cond, length, List, Option, Some, None, option_map, refl, sym, ap, subst, ◌∙◌}
use Rattle.std.specs.Prelude.{Err, IfOk, Ok, Result, count_by, is_some}
use Rattle.mqtt_records.specs.declared.state.session.Session.{Session}
use Rattle.mqtt_world_model.specs.model.Ends.{Publisher}
use Rattle.mqtt_world_model.specs.model.Tellings.{queue_length}
use Rattle.mqtt_world_model.specs.model.World.{Stranger, World, is_end, publisher_named}
use Rattle.mqtt_script.specs.declared.event.Event.{Event}
use Rattle.mqtt_broker.specs.engine.Serving.{Serving}
use Rattle.mqtt_rules.specs.step.State.{session_named}
use Rattle.mqtt_rules.specs.declared.step.Capacity.{Capacity}
use Rattle.mqtt_world.specs.clients.Ends.{Ends}
use Rattle.mqtt_world.specs.scene.Events.{played, world_of}
use Rattle.mqtt_world.specs.scene.Scenes.{Played}
use Rattle.mqtt_world.specs.world.Stages.{Staged, world_at}
use Rattle.mqtt_world.specs.world.Worlds.{is_publish_of, queue_in, sent_in}

-- a stage that is taken apart, and its scene too
pub seen_from : {K : Type 0} (P : World → Type 0) (E : Serving K) (O : Ends) (S : Played K) (ss : List Stranger) (now : ℕ) (limits : Capacity) (s : Staged K)
    → played E O ≡ S → record { played = S; strangers = ss; now = now; limits = limits } ≡ s → P (world_of now ss (played E O)) → P (world_at s)
seen_from {K} P E O S ss now limits s scene stage h =
    subst (λ (x : Staged K). P (world_at x)) stage (subst (λ (x : Played K). P (world_of now ss x)) scene h)

-- what is answered holds in each world, so in this one
pub ok_at : {A E : Type 0} (P : A → World → Type 0) (r : Result A E) (w : World) → IfOk r (λ x. (v : World) → P x v) → IfOk r (λ x. P x w)
ok_at P (Ok x) w h = h w
ok_at P (Err e) w h = tt

-- ---- what a publisher sent

nothing_sent : (o : Option Publisher) (is : Bool) (n : ℕ) → is ≡ is_some o → is ≡ false → None ≡ option_map (λ p. n) o
nothing_sent None is n same none = refl
nothing_sent (Some p) is n same none = absurd cc

so_many_sent : (o : Option Publisher) (is : Bool) (n : ℕ) → is ≡ is_some o → is ≡ true → Some n ≡ option_map (λ p. n) o
so_many_sent None is n same there = absurd cc
so_many_sent (Some p) is n same there = refl

-- if no publisher has this name, there is no number of messages to tell
pub no_publisher : (is : Bool) (client : List ℕ) (es : List Event) (w : World) → is ≡ is_some (publisher_named client w) → is ≡ false → None ≡ sent_in client es w
no_publisher is client es w same none = nothing_sent (publisher_named client w) is (count_by (is_publish_of client) es) same none

-- if one has, it was given as many messages as the kept events say
pub its_messages : (is : Bool) (client : List ℕ) (es : List Event) (w : World) (n : ℕ) → is ≡ is_some (publisher_named client w) → is ≡ true
    → n ≡ count_by (is_publish_of client) es → Some n ≡ sent_in client es w
its_messages is client es w n same there count = ap Some count ∙ so_many_sent (publisher_named client w) is (count_by (is_publish_of client) es) same there

-- ---- the queue of an end

abbrev its : List ℕ → World → Bool → Option ℕ
its client w is = cond is (Some (queue_length (session_named client w.broker.records))) None

-- if no end has this name, there is no queue to tell of
pub no_queue : (is : Bool) (client : List ℕ) (w : World) → is ≡ is_end client w → is ≡ false → None ≡ queue_in client w
no_queue is client w same none = ap (its client w) (sym none ∙ same)

-- if one has, its queue is as long as its session's
pub its_queue : (is : Bool) (client : List ℕ) (w : World) (n : ℕ) → is ≡ is_end client w → is ≡ true
    → n ≡ queue_length (session_named client w.broker.records) → Some n ≡ queue_in client w
its_queue is client w n same there len = ap Some len ∙ ap (its client w) (sym there ∙ same)

-- if a queue of some length was seen, that is the length of the session's queue
pub length_some : (n : ℕ) (o : Option Session) → Some n ≡ option_map (λ s. length s.queue) o → n ≡ queue_length o
length_some n None h = cc
length_some n (Some s) h = cc

-- if no session was seen, its queue counts as empty
pub length_none : (o : Option Session) → None ≡ option_map (λ s. length s.queue) o → 0 ≡ queue_length o
length_none None h = refl
length_none (Some s) h = cc
