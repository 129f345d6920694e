-- Runs in forms and runs of what packets mean have the same course at the broker, and accept the same from each publisher.
use Rattle.std.proofs.Common.{◌≡◌, ℕ, List, [], ◌∷◌, ◌++◌, refl, sym, ap, ap₂, ◌∙◌}
use Rattle.mqtt_rules.specs.step.Deeds.{Deed}
use Rattle.mqtt_rules.specs.step.State.{Broker}
use Rattle.mqtt_rules.specs.declared.step.Capacity.{Capacity}
use Rattle.mqtt_world_model.specs.model.Run.{Acceptance, From, Reading, Turn, accepted_at, deeds_at, each_from, each_of, message_read, read_at, setting, the_acceptances, the_deeds}
use Rattle.mqtt_world_model.specs.model.Run as meant
use Rattle.mqtt_world_model.specs.model.World.{World}
use Rattle.mqtt_world_laws.specs.acceptance.Steps.{Step, the_steps}
use Rattle.mqtt_world_laws.specs.causes.Endings.{Asked, the_asked}
use Rattle.mqtt_world_laws.specs.telling.AsSent.{AsSent, Most, run, turned}
use Rattle.mqtt_world_laws.proofs.telling_lemmas.Calls.{by_world}
use Rattle.mqtt_world_laws.specs.headline_in_forms.Reading.{Course, accepted_over, course, from_over, read_over}
use Rattle.mqtt_world_laws.proofs.headline_in_forms_lemmas.Pairs.{Pair, pair_run, pair_turn}
use Rattle.mqtt_world_laws.proofs.headline_in_forms_lemmas.Readings.{LooksAtNone, acceptances_none, asked_none, deeds_none, message_same, read_same, steps_none}

-- the course of a run of what packets mean
abbrev pub meant_course : Capacity → List Turn → World → Course
meant_course limits ts w = record {
  begin = w.broker;
  end = (meant.run limits ts w).broker;
  deeds = meant.read_over the_deeds limits ts w;
  acceptances = meant.read_over the_acceptances limits ts w;
  steps = meant.read_over the_steps limits ts w;
  asked = meant.read_over the_asked limits ts w;
}

module _ (most : Most) (limits : Capacity) where
  -- the broker is the same
  pub same_broker : (s : AsSent) (w : World) → Pair most s w → s.world.broker ≡ w.broker
  same_broker s w p = sym (ap (λ (y : World). y.broker) p.goes.worlds.same)

  -- what is read off a turn
  at_same : {X : Type 0} (r : Reading X) → LooksAtNone r → (t : Turn) (s : AsSent) (w : World) → Pair most s w
      → read_at r (setting limits t) t.event s.world ≡ read_at r (setting limits t) t.event w
  at_same r none t s w p =
      by_world most (λ (y : World). read_at r (setting limits t) t.event s.world ≡ read_at r (setting limits t) t.event y) s w p.goes.worlds
      (λ ms vs hp hr. sym (read_same r none (setting limits t) most s.tellings s.known s.world ms vs hp hr t.event))

  -- and off a run
  pub over_same : {X : Type 0} (r : Reading X) → LooksAtNone r → (ts : List Turn) (s : AsSent) (w : World) → Pair most s w
      → read_over r most limits ts s ≡ meant.read_over r limits ts w
  over_same r none [] s w p = refl
  over_same r none (t ∷ ts) s w p =
      ap₂ r.join (at_same r none t s w p) (over_same r none ts (turned most limits t s) (meant.turned limits t w) (pair_turn most limits t s w p))

  message_at : (client : List ℕ) (t : Turn) (s : AsSent) (w : World) → Pair most s w → message_read client t.event s.world ≡ message_read client t.event w
  message_at client t s w p =
      by_world most (λ (y : World). message_read client t.event s.world ≡ message_read client t.event y) s w p.goes.worlds
      (λ ms vs hp hr. message_same s.world ms vs hp client t.event)

  -- the messages of a publisher that are accepted
  pub accepted_same : (client : List ℕ) (ts : List Turn) (s : AsSent) (w : World) → Pair most s w
      → accepted_over client most limits ts s ≡ meant.accepted_over client limits ts w
  accepted_same client [] s w p = refl
  accepted_same client (t ∷ ts) s w p =
      let first : accepted_at client (setting limits t) t.event s.world ≡ accepted_at client (setting limits t) t.event w =
      ap₂ each_of (message_at client t s w p) (at_same the_deeds deeds_none t s w p)
      in
      ap₂ (λ (xs ys : List ℕ). xs ++ ys) first (accepted_same client ts (turned most limits t s) (meant.turned limits t w) (pair_turn most limits t s w p))

  -- and what of them
  pub from_same : (client : List ℕ) (ts : List Turn) (s : AsSent) (w : World) → Pair most s w
      → from_over client most limits ts s ≡ meant.from_over client limits ts w
  from_same client [] s w p = refl
  from_same client (t ∷ ts) s w p =
      let first : each_from (message_read client t.event s.world) (deeds_at (setting limits t) t.event s.world) ≡ each_from (message_read client t.event w) (deeds_at (setting limits t) t.event w) =
      ap₂ each_from (message_at client t s w p) (at_same the_deeds deeds_none t s w p)
      in
      ap₂ (λ (xs ys : List From). xs ++ ys) first (from_same client ts (turned most limits t s) (meant.turned limits t w) (pair_turn most limits t s w p))

  -- ---- the course

  abbrev course_of : Broker → Broker → List Deed → List Acceptance → List Step → List Asked → Course
  course_of a b ds cs ss qs = record { begin = a; end = b; deeds = ds; acceptances = cs; steps = ss; asked = qs }

  -- at the broker
  pub course_same : (ts : List Turn) (s : AsSent) (w : World) → Pair most s w → course most limits ts s ≡ meant_course limits ts w
  course_same ts s w p =
      let v = meant.run limits ts w in
      let t = run most limits ts s in
      let d = over_same the_deeds deeds_none ts s w p in
      let a = over_same the_acceptances acceptances_none ts s w p in
      let x = over_same the_steps steps_none ts s w p in
      let q = over_same the_asked asked_none ts s w p in
      ap (λ (b : Broker). course_of b t.world.broker (read_over the_deeds most limits ts s) (read_over the_acceptances most limits ts s) (read_over the_steps most limits ts s) (read_over the_asked most limits ts s)) (same_broker s w p)
      ∙ (ap (λ (b : Broker). course_of w.broker b (read_over the_deeds most limits ts s) (read_over the_acceptances most limits ts s) (read_over the_steps most limits ts s) (read_over the_asked most limits ts s)) (same_broker t v (pair_run most limits ts s w p))
      ∙ (ap (λ (ds : List Deed). course_of w.broker v.broker ds (read_over the_acceptances most limits ts s) (read_over the_steps most limits ts s) (read_over the_asked most limits ts s)) d
      ∙ (ap (λ (cs : List Acceptance). course_of w.broker v.broker (meant.read_over the_deeds limits ts w) cs (read_over the_steps most limits ts s) (read_over the_asked most limits ts s)) a
      ∙ (ap (λ (ss : List Step). course_of w.broker v.broker (meant.read_over the_deeds limits ts w) (meant.read_over the_acceptances limits ts w) ss (read_over the_asked most limits ts s)) x
      ∙ ap (λ (qs : List Asked). course_of w.broker v.broker (meant.read_over the_deeds limits ts w) (meant.read_over the_acceptances limits ts w) (meant.read_over the_steps limits ts w) qs) q))))

  -- the deeds are the same
  pub deeds_same : (ts : List Turn) (s : AsSent) (w : World) → Pair most s w → (course most limits ts s).deeds ≡ meant.deeds_over limits ts w
  deeds_same ts s w p = over_same the_deeds deeds_none ts s w p
