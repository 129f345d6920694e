-- Of each refusal that ends a world there is a cause (MQTT 5.0, 4.1).
use Rattle.std.proofs.Common.{◌≡◌, ◌≢◌, ◌⊎◌, ℕ, List, Option, None, Some, inl, inr, refl, sym, subst}
use Rattle.std.specs.Prelude.{IfErr, Result, Ok, Err}
use Rattle.mqtt_keep.specs.declared.keeping.keep.Keep.{Ghosts}
use Rattle.mqtt_keep.specs.declared.keeping.keep.KeepError.{KeepError}
use Rattle.mqtt_keep.specs.declared.keeping.keep.KeepError.TheVariants as refusal
use Rattle.mqtt_rules.specs.step.Step.{Call}
use Rattle.mqtt_rules.specs.declared.step.Capacity.{Capacity}
use Rattle.mqtt_world_ends.specs.declared.peers.told.RunFault.{RunFault}
use Rattle.mqtt_broker_step.specs.declared.call.EngineError.{EngineError}
use Rattle.mqtt_broker_step.specs.declared.call.EngineError.TheVariants.{Memory, Stopped, Spent}
use Rattle.mqtt_broker.specs.declared.stored.outcome.Outcome.{Outcome}
use Rattle.mqtt_broker.specs.stored.Opening.{IsRefused}
use Rattle.mqtt_broker.specs.engine.Opening.{running_in}
use Rattle.mqtt_broker.specs.engine.Piece.{IsSpentBy, PieceCalled, call_by}
use Rattle.mqtt_broker.specs.engine.Serving.{Served, Serving}
use Rattle.mqtt_world.specs.clients.Ends.{Ends}
use Rattle.mqtt_world.specs.scene.Halting.{IsErrorDue, IsLeftRefused, IsNoStart, IsStoreDue, IsUnbegun, by_call, by_piece, device_lied, fault_of, not_opened, numbers_spent, over_for, store_failed}
use Rattle.mqtt_world.specs.scene.Scenes.{IsPlayable, Played}
use Rattle.mqtt_world.specs.declared.scene.over.Over.{Over}
use Rattle.mqtt_world.specs.declared.scene.over.Over.TheVariants as over

-- ---- errors by their kinds

-- an error of the store but for want of memory is another
pub no_memory : (e : KeepError) → (e ≡ refusal.Disk) ⊎ (e ≡ refusal.Size) ⊎ (e ≡ refusal.Corrupt) ⊎ (e ≡ refusal.Schema) → e ≢ refusal.Memory
no_memory e (inl is) memory = absurd (cc)
no_memory e (inr (inl is)) memory = absurd (cc)
no_memory e (inr (inr (inl is))) memory = absurd (cc)
no_memory e (inr (inr (inr is))) memory = absurd (cc)

module _ {K : Type 0} (g : Ghosts K) where
  -- an error of a call but for want of memory has a cause
  pub error_due : (e : EngineError) → (e ≡ Stopped) ⊎ (e ≡ Spent) → IsErrorDue g e → IsStoreDue g
  error_due e (inl is) due = subst (IsErrorDue g) is due
  error_due e (inr is) due = subst (IsErrorDue g) is due

  abbrev scene_of : Serving K → Ends → Played K
  scene_of engine ends = record { engine = engine; ends = ends }

  -- a store that failed in a call is a cause, and a device that isn't sound after it
  stopped_due : (s : Played K) (left : Serving K) → IsPlayable g s → IsLeftRefused g s.engine Stopped left
      → (g.counted left.running.keep ≢ g.counted s.engine.running.keep) ⊎ (g.is_sound left.running.keep → ⊥) → IsStoreDue g
  stopped_due s left playable refused (inl failed) = store_failed s left playable refused failed
  stopped_due s left playable refused (inr lied) = device_lied s Stopped left playable refused lied

  -- ---- a call of the broker

  call_due_at : (s : Played K) (now : ℕ) (call : Call) (error : EngineError) (mid : Serving K) → IsPlayable g s
      → Served g now call s.engine (Err error) mid → IsErrorDue g error
  call_due_at s now call Memory mid playable served = tt
  call_due_at s now call Stopped mid playable served =
      stopped_due s mid playable (by_call now call served) (served.called.cause refl playable.runs)
  call_due_at s now call Spent mid playable served =
      numbers_spent s mid now call playable (by_call now call served) (λ sound. (served.called.truly sound).spent refl)

  -- as a scene is seen
  pub call_due : (now : ℕ) (call : Call) (old : Played K) (engine mid : Serving K) (ends : Ends) (error : EngineError) (result : Result Outcome EngineError)
      → old ≡ record { engine = engine; ends = ends } → IsPlayable g old → result ≡ Err error → Served g now call engine result mid → IsErrorDue g error
  call_due now call old engine mid ends error result view playable is served =
      call_due_at (scene_of engine ends) now call error mid (subst (IsPlayable g) view playable)
      (subst (λ (r : Result Outcome EngineError). Served g now call engine r mid) is served)

  -- ---- a piece

  -- if nothing was asked no number was spent, so the device is not sound
  spent_due : (s : Played K) (left : Serving K) (now : ℕ) (call : Option Call) → IsPlayable g s → IsLeftRefused g s.engine Spent left
      → (g.is_sound left.running.keep → IsSpentBy s.engine.running.limits s.engine.running.broker now call) → IsStoreDue g
  spent_due s left now None playable refused spent = device_lied s Spent left playable refused spent
  spent_due s left now (Some call) playable refused spent = numbers_spent s left now call playable refused spent

  piece_due_at : (s : Played K) (now line : ℕ) (piece : List ℕ) (error : EngineError) (mid : Serving K) → IsPlayable g s
      → PieceCalled g now line piece s.engine (Err error) mid → IsErrorDue g error
  piece_due_at s now line piece Memory mid playable called = tt
  piece_due_at s now line piece Stopped mid playable called =
      stopped_due s mid playable (by_piece now line piece called) (called.cause refl playable.runs)
  piece_due_at s now line piece Spent mid playable called =
      spent_due s mid now (call_by line piece s.engine) playable (by_piece now line piece called) (λ sound. (called.truly sound).spent refl)

  -- if a piece of bytes is answered with an error, there is a cause for it
  pub piece_due : (now line : ℕ) (piece : List ℕ) (old : Played K) (engine mid : Serving K) (ends : Ends) (error : EngineError) (result : Result Outcome EngineError)
      → old ≡ record { engine = engine; ends = ends } → IsPlayable g old → result ≡ Err error → PieceCalled g now line piece engine result mid
      → IsErrorDue g error
  piece_due now line piece old engine mid ends error result view playable is called =
      piece_due_at (scene_of engine ends) now line piece error mid (subst (IsPlayable g) view playable)
      (subst (λ (r : Result Outcome EngineError). PieceCalled g now line piece engine r mid) is called)

  -- ---- an opening

  refused_so : (limits : Capacity) (now : ℕ) (keep : K) (e : K × KeepError) (result : Result (Serving K) (K × KeepError)) → result ≡ Err e
      → IfErr (running_in result) (λ x. IsRefused g limits now keep x.1 x.0) → IsRefused g limits now keep e.1 e.0
  refused_so limits now keep e result is refused =
      subst (λ (r : Result (Serving K) (K × KeepError)). IfErr (running_in r) (λ x. IsRefused g limits now keep x.1 x.0)) is refused

  -- if an opening is refused, but not for want of memory, there is a cause to answer Store
  pub opening_due : (limits : Capacity) (now : ℕ) (keep : K) (e : K × KeepError) (result : Result (Serving K) (K × KeepError)) → result ≡ Err e
      → IfErr (running_in result) (λ x. IsRefused g limits now keep x.1 x.0) → e.1 ≢ refusal.Memory → IsStoreDue g
  opening_due limits now keep e result is refused other =
      not_opened limits now keep
      (record { error = e.1; left = e.0; refused = refused_so limits now keep e result is refused; not_memory = other })

  unbegun_by : (limits : Capacity) (now : ℕ) (keep : K) (error : KeepError) (left : K) → IsRefused g limits now keep error left
      → IsUnbegun g limits now keep (over_for error)
  unbegun_by limits now keep refusal.Memory left refused = (left, refused)
  unbegun_by limits now keep refusal.Disk left refused =
      record { error = refusal.Disk; left = left; refused = refused; not_memory = λ (is : refusal.Disk ≡ refusal.Memory). absurd (cc) }
  unbegun_by limits now keep refusal.Size left refused =
      record { error = refusal.Size; left = left; refused = refused; not_memory = λ (is : refusal.Size ≡ refusal.Memory). absurd (cc) }
  unbegun_by limits now keep refusal.Corrupt left refused =
      record { error = refusal.Corrupt; left = left; refused = refused; not_memory = λ (is : refusal.Corrupt ≡ refusal.Memory). absurd (cc) }
  unbegun_by limits now keep refusal.Schema left refused =
      record { error = refusal.Schema; left = left; refused = refused; not_memory = λ (is : refusal.Schema ≡ refusal.Memory). absurd (cc) }

  -- the opening was refused
  pub unbegun : (limits : Capacity) (now moment : ℕ) (keep : K) (e : K × KeepError) (o : Over) (result : Result (Serving K) (K × KeepError))
      → moment ≡ now → result ≡ Err e → IfErr (running_in result) (λ x. IsRefused g limits moment keep x.1 x.0) → o ≡ over_for e.1
      → IsUnbegun g limits now keep o
  unbegun limits now moment keep e o result at is refused is_for =
      subst (IsUnbegun g limits now keep) (sym is_for)
      (unbegun_by limits now keep e.1 e.0
      (subst (λ (n : ℕ). IsRefused g limits n keep e.1 e.0) at (refused_so limits moment keep e result is refused)))

  -- ---- what is answered

  no_start_by : (limits : Capacity) (now : ℕ) (keep : K) (o : Over) → IsUnbegun g limits now keep o → IsNoStart g limits now keep (fault_of o)
  no_start_by limits now keep over.Memory unbegun = unbegun
  no_start_by limits now keep over.Store unbegun = unbegun

  -- if the opening was refused, what is answered has the cause of that
  pub no_start : (limits : Capacity) (now moment : ℕ) (keep : K) (o : Over) (f : RunFault) → moment ≡ now → IsUnbegun g limits moment keep o → f ≡ fault_of o
      → IsNoStart g limits now keep f
  no_start limits now moment keep o f at unbegun is =
      subst (IsNoStart g limits now keep) (sym is)
      (no_start_by limits now keep o (subst (λ (n : ℕ). IsUnbegun g limits n keep o) at unbegun))
