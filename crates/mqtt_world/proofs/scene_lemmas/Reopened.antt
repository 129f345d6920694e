-- An opening of the engine is one of the world, at whatever moment (MQTT 5.0, 4.1).
use Rattle.std.proofs.Common.{◌≡◌, ℕ, min, max, List, [], map, IfOk, refl, sym, ap, subst, ◌∙◌}
use Rattle.std.specs.Prelude.{Err, Ok, Result}
use Rattle.mqtt_base.specs.declared.limits.TheConstants.{LAST_NUMBER}
use Rattle.mqtt_keep.specs.declared.keeping.keep.Keep.{Ghosts}
use Rattle.mqtt_records.specs.declared.state.records.Records.{Records}
use Rattle.mqtt_world_model.specs.model.Ends.{Publisher, Receiver}
use Rattle.mqtt_world_model.specs.model.World.{publisher_restarted, receiver_restarted}
use Rattle.mqtt_broker.specs.stored.Opening.{IsOpened}
use Rattle.mqtt_broker.specs.engine.Opening.{running_in}
use Rattle.mqtt_broker.specs.engine.Serving.{Serving}
use Rattle.mqtt_rules.specs.step.State.{Broker, MemberChoice, capped}
use Rattle.mqtt_rules.specs.step.Step.{done, env_of, is_opening_spent, is_spent, opened, opening, rows_written, unopened}
use Rattle.mqtt_rules.specs.declared.step.Capacity.{Capacity}
use Rattle.mqtt_world.specs.clients.Ends.{Ends}
use Rattle.mqtt_world.specs.scene.Openings.{Begins, Opens, Reopens, ends_restarted, no_ends}
use Rattle.mqtt_world.specs.scene.Scenes.{HoldNone, IsPlayable, Played}
use Rattle.mqtt_world.proofs.scene_lemmas.Answered.{min_twice}

-- ---- moments

unopened_capped : (now : ℕ) (r : Records) → unopened (min now LAST_NUMBER) r ≡ unopened now r
unopened_capped now r =
    ap (λ (n : ℕ). record (unopened now r) { now = max (capped r.moment) n }) (min_twice now LAST_NUMBER)

opened_capped : (limits : Capacity) (choice : MemberChoice) (now : ℕ) (r : Records)
    → opened limits choice (min now LAST_NUMBER) r ≡ opened limits choice now r
opened_capped limits choice now r =
    ap (λ (b : Broker). done (opening (env_of limits choice b) b) b) (unopened_capped now r)

spent_capped : (limits : Capacity) (choice : MemberChoice) (now : ℕ) (r : Records)
    → is_opening_spent limits choice (min now LAST_NUMBER) r ≡ is_opening_spent limits choice now r
spent_capped limits choice now r =
    ap (λ (b : Broker). is_spent (rows_written (opening (env_of limits choice b) b) b)) (unopened_capped now r)

-- ---- an opening

opens : {K : Type 0} (g : Ghosts K) (limits : Capacity) (now : ℕ) (keep : K) (s : Played K)
    → (o : IsOpened g limits (min now LAST_NUMBER) keep s.engine.running) → s.engine.held ≡ [] → Opens g limits now o.records s
opens g limits now keep s o none =
    let choice = o.opening.choice in
    record {
      choice = choice;
      unspent = sym (spent_capped limits choice now o.records) ∙ o.opening.unspent;
      broker = λ sound. o.whole sound ∙ o.opening.new_is ∙ opened_capped limits choice now o.records;
      limits_are = o.limits_are;
      playable = record { runs = o.runs; stored = o.holds; clear = subst HoldNone (sym none) tt };
    }

at_moment_of : {K E : Type 0} (g : Ghosts K) (limits : Capacity) (now moment : ℕ) (keep : K) (engine : Serving K)
    (result : Result (Serving K) E) → moment ≡ min now LAST_NUMBER → result ≡ Ok engine
    → IfOk (running_in result) (λ running. IsOpened g limits moment keep running)
    → IsOpened g limits (min now LAST_NUMBER) keep engine.running
at_moment_of {K} {E} g limits now moment keep engine result moment_is is begun =
    subst (λ (n : ℕ). IsOpened g limits n keep engine.running) moment_is
    (subst (λ (x : Result (Serving K) E). IfOk (running_in x) (λ running. IsOpened g limits moment keep running)) is begun)

none_held : {K E : Type 0} (engine : Serving K) (result : Result (Serving K) E) → result ≡ Ok engine
    → IfOk result (λ e. e.held ≡ []) → engine.held ≡ []
none_held {K} {E} engine result is held = subst (λ (x : Result (Serving K) E). IfOk x (λ e. e.held ≡ [])) is held

-- the first time
pub begins : {K E : Type 0} (g : Ghosts K) (limits : Capacity) (now moment : ℕ) (keep : K) (engine : Serving K) (ends : Ends)
    (result : Result (Serving K) E) → moment ≡ min now LAST_NUMBER → result ≡ Ok engine
    → IfOk (running_in result) (λ running. IsOpened g limits moment keep running)
    → IfOk result (λ e. e.held ≡ []) → ends ≡ no_ends
    → Begins g limits now keep (record { engine = engine; ends = ends })
begins g limits now moment keep engine ends result moment_is is begun held none =
    let o = at_moment_of g limits now moment keep engine result moment_is is begun in
    record {
      loaded = o.loaded;
      records = o.records;
      load = o.load;
      sound = o.sound;
      lawful = o.lawful;
      passed = o.passed;
      identifiers = o.identifiers;
      opens = opens g limits now keep (record { engine = engine; ends = ends }) o (none_held engine result is held);
      ends = none;
    }

-- and again
pub reopens : {K E : Type 0} (g : Ghosts K) (limits : Capacity) (now moment : ℕ) (old : Played K) (before engine : Serving K) (was ends : Ends)
    (keep : K) (result : Result (Serving K) E) → old ≡ record { engine = before; ends = was } → IsPlayable g old
    → keep ≡ before.running.keep → moment ≡ min now LAST_NUMBER → result ≡ Ok engine
    → IfOk (running_in result) (λ running. IsOpened g limits moment keep running)
    → IfOk result (λ e. e.held ≡ []) → ends.publishers ≡ map publisher_restarted was.publishers
    → ends.receivers ≡ map receiver_restarted was.receivers
    → Reopens g limits now old (record { engine = engine; ends = ends })
reopens {K} g limits now moment old before engine was ends keep result view playable same moment_is is begun held publishers_are receivers_are =
    let new : Played K = record { engine = engine; ends = ends } in
    let o = at_moment_of g limits now moment keep engine result moment_is is begun in
    let first = subst (IsPlayable g) view playable in
    let was_sound : g.is_sound engine.running.keep → g.is_sound before.running.keep = λ sound. subst (λ (k : K). g.is_sound k) same (o.load.sound (o.sound sound)) in
    let stored : g.is_sound engine.running.keep → g.holds keep before.running.broker.records =
    λ sound. subst (λ (k : K). g.holds k before.running.broker.records) (sym same) (first.stored (was_sound sound)) in
    let again = opens g limits now keep new o (none_held engine result is held) in
    subst (λ (s : Played K). Reopens g limits now s new) (sym view) (record {
      playable = again.playable;
      limits_are = again.limits_are;
      sound = was_sound;
      opens = λ sound. subst (λ (r : Records). Opens g limits now r new) (o.load.exact before.running.broker.records (stored sound) (o.sound sound)) again;
      ends = ap (λ (ps : List Publisher). record { publishers = ps; receivers = ends.receivers }) publishers_are
          ∙ ap (λ (rs : List Receiver). record (ends_restarted was) { receivers = rs }) receivers_are;
    })
