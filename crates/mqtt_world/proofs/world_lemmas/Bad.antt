-- What is answered as bad is bad by the definitions, and what is bad is answered so.
use Rattle.std.proofs.Common.{◌≡◌, ◌+◌, ℕ, suc, true, List, [], ◌∷◌, ◌++◌, length, Option, None, Some, IfErr, IfOk, append-nil, length-append, sym, ap, subst, ◌∙◌, arith, true≢false}
use Rattle.std.specs.Prelude.{Result, Ok, Err}
use Rattle.mqtt_keep.specs.declared.keeping.keep.Keep.{Ghosts}
use Rattle.mqtt_rules.specs.declared.step.Capacity.{Capacity}
use Rattle.mqtt_rules.specs.spelling.Sending.{SendsWell}
use Rattle.mqtt_script.specs.declared.event.Event.{Event}
use Rattle.mqtt_script.specs.declared.event.Event.TheVariants.{Drain}
use Rattle.mqtt_world.specs.script_laws.Scripted.{IsBad, Passes, as_drain, as_event, bad_as_drain, bad_as_event, event_of}
use Rattle.mqtt_world_model.specs.model.Tellings.{Telling}
use Rattle.mqtt_world_model.specs.model.World as world
use Rattle.mqtt_world_model.specs.model.World.{World, is_bad}
use Rattle.mqtt_world_ends.specs.declared.peers.told.RunFault.{RunFault}
use Rattle.mqtt_world_ends.specs.declared.peers.told.RunFault.TheVariants as fault
use Rattle.mqtt_world_laws.specs.reading.UnderWay.{IsUninhabited}
use Rattle.mqtt_world_laws.specs.receiver.Drains.{is_bad_drain}
use Rattle.mqtt_world.specs.declared.scene.over.Over.{Over}
use Rattle.mqtt_world.specs.declared.scene.over.Over.TheVariants as over
use Rattle.mqtt_world.specs.world.Stages.{IsSoundAt, Staged, world_at}
use Rattle.mqtt_world.specs.world.Worlds.{Happen, HappenDrained, HasCome, Lasting, Refuses, Stops, StopsAtBad, TellsBad, TellsFirstBad}
use Rattle.mqtt_world.proofs.world_lemmas.Course.{come_on, ok_is, ok_no_err}

-- ---- what happens is not bad

not_some : {A : Type 0} (o : Option A) (x : A) → o ≡ None → o ≡ Some x → ⊥
not_some o x none some = absurd (cc)

one_event : (o : Option world.Event) (x y : world.Event) → o ≡ Some x → o ≡ Some y → x ≡ y
one_event o x y is same = cc

one_client : (e : Event) (a b : List ℕ) → e ≡ Drain a → e ≡ Drain b → a ≡ b
one_client e a b is same = cc

-- an event that passes is not bad there
passed_is_good : (limits : Capacity) (e : Event) (t : Telling) (w after : World) → Passes limits e t w after → IsBad e w → ⊥
passed_is_good limits e t w after (as_event x is h) (bad_as_event y same bad) =
    true≢false (sym bad ∙ (ap (λ (z : world.Event). is_bad z w) (sym (one_event (event_of e) x y is same)) ∙ h.good))
passed_is_good limits e t w after (as_event x is h) (bad_as_drain client same bad) = not_some (event_of e) x (ap event_of same) is
passed_is_good limits e t w after (as_drain client is h) (bad_as_event y same bad) = not_some (event_of e) y (ap event_of is) same
passed_is_good limits e t w after (as_drain client is h) (bad_as_drain other same bad) =
    true≢false (sym bad ∙ (ap (λ (c : List ℕ). is_bad_drain c w) (sym (one_client e client other is same)) ∙ h.good))

-- nor is there a number of events that has one more than itself
too_many : (old before rest new es : List Event) (e : Event) → new ≡ old ++ es → new ≡ old ++ before → es ≡ before ++ e ∷ rest → ⊥
too_many old before rest new es e all front are =
    let more : length es ≡ length before + suc (length rest) = ap length are ∙ length-append before (e ∷ rest) in
    let whole : length new ≡ length old + length es = ap length all ∙ length-append old es in
    let part : length new ≡ length old + length before = ap length front ∙ length-append old before in
    absurd (omega (arith, more, whole, part))

no_ok : {P : Type 0} {A E : Type 0} (x : A) (e : E) → ◌≡◌ {A = Result A E} (Ok x) (Err e) → P
no_ok x e is = absurd (cc)

module _ {K : Type 0} (g : Ghosts K) where
  -- an event that happened is not bad where it came
  happened_is_good : (start : World) (e : Event) (t : Telling) (old new : Lasting K) → HasCome g start old → (h : Happen g (e ∷ []) (t ∷ []) old new)
      → IsSoundAt g h.to → IsBad e (world_at h.from) → ⊥
  happened_is_good start e t old new come h sound bad =
      let c = come h.from h.was (h.runs.sound sound) in
      let (mid, passes, rest) = h.runs.runs sound c.reached c.knowing in
      passed_is_good h.from.limits e t (world_at h.from) mid passes bad

  -- ---- one event

  -- an answer to one event says of it that it is bad exactly if it is
  tells_bad : {T : Type 0} (start : World) (e : Event) (r : Result T RunFault) (old new : Lasting K)
      → IfOk r (λ (x : T). (t : Telling) × Happen g (e ∷ []) (t ∷ []) old new) → IfErr r (λ (f : RunFault). Refuses g e f old new)
      → HasCome g start old → TellsBad g start e r old new
  tells_bad start e (Ok x) old new (t, h) refused come = λ from to was is sound nobody sends.
      let ends : h.to ≡ to = ok_is new.stage h.to to h.is is in
      let begins : h.from ≡ from = ok_is old.stage h.from from h.was was in
      let here : IsSoundAt g h.to = subst (λ (s : Staged K). IsSoundAt g s) (sym ends) sound in (
        λ told. no_ok x (fault.BadEvent (length old.events)) told,
        λ bad. absurd (happened_is_good start e t old new come h here (subst (λ (s : Staged K). IsBad e (world_at s)) (sym begins) bad)),
      )
  tells_bad start e (Err fault.Memory) old new h refused come = λ from to was is sound nobody sends.
      ok_no_err new.stage to over.Memory is (ap (λ (w : Lasting K). w.stage) refused)
  tells_bad start e (Err fault.Store) old new h refused come = λ from to was is sound nobody sends.
      ok_no_err new.stage to over.Store is (ap (λ (w : Lasting K). w.stage) refused)
  tells_bad start e (Err (fault.BadEvent place)) old new h refused come = λ from to was is sound nobody sends.
      let cant = refused.0 in
      let n = cant.nothing in
      let ends : n.to ≡ to = ok_is new.stage n.to to n.is is in
      let begins : n.from ≡ from = ok_is old.stage n.from from n.was was in
      let here : IsSoundAt g n.to = subst (λ (s : Staged K). IsSoundAt g s) (sym ends) sound in (
        λ told. subst (λ (s : Staged K). IsBad e (world_at s)) begins (cant.is_bad start come here nobody sends),
        λ bad. ap (λ (p : ℕ). Err (fault.BadEvent p)) refused.1,
      )

  -- an event that happened or was refused is answered as bad exactly if it is
  pub one_tells_bad : (start : World) (e : Event) (r : Result Telling RunFault) (old new : Lasting K)
      → IfOk r (λ (t : Telling). Happen g (e ∷ []) (t ∷ []) old new) → IfErr r (λ (f : RunFault). Refuses g e f old new)
      → HasCome g start old → TellsBad g start e r old new
  one_tells_bad start e (Ok t) old new h refused come = tells_bad start e (Ok t) old new (t, h) refused come
  one_tells_bad start e (Err f) old new h refused come = tells_bad start e (Err f) old new tt refused come

  -- so is a drain
  pub drain_tells_bad : (start : World) (client : List ℕ) (r : Result ℕ RunFault) (old new : Lasting K)
      → IfOk r (λ (n : ℕ). HappenDrained g client n old new) → IfErr r (λ (f : RunFault). Refuses g (Drain client) f old new)
      → HasCome g start old → TellsBad g start (Drain client) r old new
  drain_tells_bad start client (Ok n) old new h refused come = tells_bad start (Drain client) (Ok n) old new (h.t, h.happened) refused come
  drain_tells_bad start client (Err f) old new h refused come = tells_bad start (Drain client) (Err f) old new tt refused come

  -- a world that is over is asked for nothing
  pub over_tells_bad : {T : Type 0} (start : World) (e : Event) (r : Result T RunFault) (o : Over) (old new : Lasting K) → old.stage ≡ Err o
      → TellsBad g start e r old new
  over_tells_bad start e r o old new ended = λ from to was is sound nobody sends. ok_no_err old.stage from o was ended

  -- ---- a run

  -- if a run stopped its events are kept, but for the one at which it did, and that one is bad
  stopped_at_bad : (start : World) (es : List Event) (place : ℕ) (old new : Lasting K) → (s : Stops g es (fault.BadEvent place) old new)
      → HasCome g start old → (to : Staged K) → new.stage ≡ Ok to → IsSoundAt g to → IsUninhabited start → SendsWell start.broker
      → StopsAtBad es old new (world_at to) × (place ≡ length new.events)
  stopped_at_bad start es place old new s come to is sound nobody sends =
      let cant = s.refused.0 in
      let n = cant.nothing in
      let ends : n.to ≡ to = ok_is new.stage n.to to n.is is in
      let here : IsSoundAt g n.to = subst (λ (x : Staged K). IsSoundAt g x) (sym ends) sound in
      let mid : HasCome g start s.mid = come_on g start s.before s.tells old s.mid s.happened come in
      let same : new.events ≡ s.mid.events = n.kept ∙ append-nil s.mid.events in
      let came = mid n.from n.was (n.runs.sound here) in
      let stays : world_at n.to ≡ world_at n.from = (n.runs.runs here came.reached came.knowing).1 in
      let at : world_at n.from ≡ world_at to = sym stays ∙ ap (λ (x : Staged K). world_at x) ends in (
        record {
          before = s.before;
          event = s.event;
          rest = s.rest;
          are = s.are;
          kept = same ∙ s.happened.kept;
          bad = subst (λ (w : World). IsBad s.event w) at (cant.is_bad start mid here nobody sends);
        },
        s.refused.1 ∙ ap length (sym same),
      )

  -- a run that stopped tells that an event is bad exactly if it stopped at one
  pub stops_tells_bad : {T : Type 0} (start : World) (es : List Event) (f : RunFault) (old new : Lasting K) → Stops g es f old new → HasCome g start old
      → TellsFirstBad {T = T} g start es (Err f) old new
  stops_tells_bad start es fault.Memory old new s come = λ from to was is sound nobody sends.
      ok_no_err new.stage to over.Memory is (ap (λ (w : Lasting K). w.stage) s.refused)
  stops_tells_bad start es fault.Store old new s come = λ from to was is sound nobody sends.
      ok_no_err new.stage to over.Store is (ap (λ (w : Lasting K). w.stage) s.refused)
  stops_tells_bad start es (fault.BadEvent place) old new s come = λ from to was is sound nobody sends.
      let stopped = stopped_at_bad start es place old new s come to is sound nobody sends in
      (λ told. stopped.0, λ bad. ap (λ (p : ℕ). Err (fault.BadEvent p)) stopped.1)

  -- if all events happened, the run stopped at none that is bad
  pub ran_tells_bad : {T : Type 0} (start : World) (es : List Event) (x : T) (ts : List Telling) (old new : Lasting K) → Happen g es ts old new
      → TellsFirstBad g start es (Ok x) old new
  ran_tells_bad start es x ts old new h = λ from to was is sound nobody sends. (
    λ told. no_ok x (fault.BadEvent (length new.events)) told,
    λ bad. absurd (too_many old.events bad.before bad.rest new.events es bad.event h.kept bad.kept bad.are),
  )

  -- of a world that is over no event is run
  pub over_tells_none : {T : Type 0} (start : World) (es : List Event) (r : Result T RunFault) (o : Over) (old new : Lasting K) → old.stage ≡ Err o
      → TellsFirstBad g start es r old new
  over_tells_none start es r o old new ended = λ from to was is sound nobody sends. ok_no_err old.stage from o was ended
