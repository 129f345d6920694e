-- An engine that has had a turn has not stopped.
use Rattle.std.proofs.Common.{◌≡◌, ℕ, Bool, true, false, List, ◌<◌, max, Result, Ok, Err, sym, ap, subst, ◌∙◌, inl, inr, arith}
use Rattle.mqtt_keep.specs.declared.keeping.keep.Keep.{Ghosts}
use Rattle.mqtt_broker_step.specs.declared.call.EngineError.{EngineError}
use Rattle.mqtt_broker_step.specs.declared.call.EngineError.TheVariants.{Memory, Stopped, Spent}
use Rattle.mqtt_rules.specs.step.Step.{Tick}
use Rattle.mqtt_broker.specs.declared.stored.outcome.Outcome.{Outcome}
use Rattle.mqtt_broker.specs.engine.Serving.{Served, Serving}
use Rattle.mqtt_serve.specs.declared.turns.turn.TheConstants.{TICK_LIMIT}
use Rattle.mqtt_serve.specs.turns.Settled.{IsStoredOrPutOff, Stretches, no_stretch, stretch_after}
use Rattle.mqtt_serve.specs.turns.Turns.{HasTurn, Hosting, IsTicked, Server, TickedSoFar, Ticks, TicksBy, TurnsBy, enough_ticks, last_tick, no_tick, no_turn, server, tick_after, turn_after}
use Rattle.mqtt_serve.proofs.turns_lemmas.Constants.{tick_limit}

module _ {K : Type 0} (g : Ghosts K) where
  tick_runs : (now : ℕ) (again : Bool) (a b : Server (Serving K)) → IsTicked g now again a b → b.engine.running.stopped ≡ false
  tick_runs now again a b h = by h.answer h.called h.told
    where
      by : (answer : Result Outcome EngineError) → Served g now Tick a.engine answer b.engine → TicksBy answer a.wires b.wires
          → b.engine.running.stopped ≡ false
      by (Ok out) called told = called.called.runs (λ e. cc)
      by (Err Memory) called told = called.called.runs (λ e. cc)
      by (Err Stopped) called told = absurd told
      by (Err Spent) called told = absurd told

  ticked_runs : (now : ℕ) (a : Server (Serving K)) (count : ℕ) (b : Server (Serving K)) → TickedSoFar g now a count b → 0 < count
      → b.engine.running.stopped ≡ false
  ticked_runs now a count b no_tick some = absurd (omega (arith, some))
  ticked_runs now a count b (tick_after {mid} before tick) some = tick_runs now true mid b tick

  ticks_run : (now : ℕ) (a b : Server (Serving K)) → Ticks g now TICK_LIMIT a b → b.engine.running.stopped ≡ false
  ticks_run now a b (last_tick {mid} before within tick) = tick_runs now false mid b tick
  ticks_run now a b (enough_ticks {n} before is) = ticked_runs now a n b before (subst (λ (k : ℕ). 0 < k) (sym (is ∙ tick_limit)) (omega arith))

  -- the clock's last turn was answered
  pub turn_runs : (now : ℕ) (busy : Bool) (h i : Hosting (Serving K)) → HasTurn g now busy h i → i.engine.running.stopped ≡ false
  turn_runs now busy h i has =
      let turn = has.turn in
      let serves = turn.serves in
      ap (λ (s : Server (Serving K)). s.engine.running.stopped) turn.drops ∙ ap (λ (s : Serving K). s.running.stopped) serves.same
      ∙ ticks_run now serves.served serves.ticked serves.ticks

  stored_runs : (went : Bool) (a b : Server (Serving K)) → IsStoredOrPutOff g went a b → b.engine.running.stopped ≡ false
  stored_runs went a b (inl stores) = stores.called.called.runs (λ e. cc)
  stored_runs went a b (inr off) = off.called.called.runs (λ e. cc)

  -- so was the storing of a stretch: an engine that runs before stretches runs after them
  pub stretches_run : (begin : ℕ) (moments : List ℕ) (at : ℕ) (old new : Hosting (Serving K)) → Stretches g begin moments at old new
      → old.engine.running.stopped ≡ false → new.engine.running.stopped ≡ false
  stretches_run begin moments at old new no_stretch runs = runs
  stretches_run begin moments at old new (stretch_after j before it _) runs =
      stored_runs it.went (server it.served.engine it.served.links.wires) (server j.engine j.links.wires) it.stores

  -- so after any number of turns
  module _ (turn : ℕ → Bool → Hosting (Serving K) → Hosting (Serving K) → Type 0)
      (runs_on : (now : ℕ) (busy : Bool) (h i : Hosting (Serving K)) → turn now busy h i → i.engine.running.stopped ≡ false) where
    -- an engine that runs before turns runs after them
    pub turns_run : (begin : ℕ) (moments : List ℕ) (at : ℕ) (old new : Hosting (Serving K)) → TurnsBy turn begin moments at old new
        → old.engine.running.stopped ≡ false → new.engine.running.stopped ≡ false
    turns_run begin moments at old new no_turn runs = runs
    turns_run begin moments at old new (turn_after {last} now {busy} {i} j turns has) runs = runs_on (max last now) busy i j has
