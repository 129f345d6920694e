-- What a call of the engine answered is what the call is in the world, at whatever moment (MQTT 5.0, 4.1).
use Rattle.std.proofs.Common.{◌≡◌, ℕ, min, max, length, Bool, true, false, cond, not, List, [], ◌∷◌, filter, filter_map, suc, IfOk, OnOk, refl, sym, ap, subst, ◌∙◌, arith}
use Rattle.std.specs.Prelude.{Result, Ok, Err}
use Rattle.mqtt_base.specs.declared.limits.TheConstants.{LAST_NUMBER}
use Rattle.mqtt_keep.specs.declared.keeping.keep.Keep.{Ghosts}
use Rattle.mqtt_world_model.specs.model.Tellings.{Telling, telling}
use Rattle.mqtt_broker.specs.stored.Calling.{IsTrulyCalled, Tells}
use Rattle.mqtt_broker.specs.declared.stored.outcome.Outcome.{Outcome}
use Rattle.mqtt_rules.specs.step.Deeds.{Deed, Send, after, output, report, wires}
use Rattle.mqtt_rules.specs.step.State.{Broker, MemberChoice}
use Rattle.mqtt_rules.specs.step.Step.{Call, at_moment, deeds, deeds_of, done, env_of, is_spent, is_step_spent, outcome_of, rows_written, stepped, told, Outcome as Answer}
use Rattle.mqtt_rules.specs.declared.step.Capacity.{Capacity}
use Rattle.mqtt_broker_step.specs.declared.call.EngineError.{EngineError}
use Rattle.mqtt_broker.specs.engine.Serving.{Serving, Served, has_closed}
use Rattle.mqtt_broker.specs.engine.Framers.{HeldLine}
use Rattle.mqtt_world.specs.declared.scene.over.Over.{Over}
use Rattle.mqtt_world.specs.clients.Ends.{Ends}
use Rattle.mqtt_world_laws.specs.knowing.Knowing.{AllIsUnderstood}
use Rattle.mqtt_world.specs.clients.Telling.{AreSpelled, ends_told}
use Rattle.mqtt_world.specs.scene.Scenes.{Calls, HoldNone, HoldsNone, IsPlayable, IsTrulyCall, Played}

-- ---- moments

-- a number that was capped stays as it is at the same cap
pub min_twice : (n l : ℕ) → min (min n l) l ≡ min n l
min_twice n l = omega arith

-- a broker is at the same moment, whether that was capped before or not
pub at_capped : (now : ℕ) (b : Broker) → at_moment (min now LAST_NUMBER) b ≡ at_moment now b
at_capped now b = ap (λ (n : ℕ). record b { now = max b.now n }) (min_twice now LAST_NUMBER)

-- a step at the capped moment leads to the same broker
pub stepped_capped : (limits : Capacity) (choice : MemberChoice) (now : ℕ) (call : Call) (b : Broker) → stepped limits choice (min now LAST_NUMBER) call b ≡ stepped limits choice now call b
stepped_capped limits choice now call b = ap (λ x. done (deeds_of (env_of limits choice b) call x) x) (at_capped now b)

-- and it does the same deeds
pub deeds_capped : (limits : Capacity) (choice : MemberChoice) (now : ℕ) (call : Call) (b : Broker) → deeds limits choice (min now LAST_NUMBER) call b ≡ deeds limits choice now call b
deeds_capped limits choice now call b = ap (deeds_of (env_of limits choice b) call) (at_capped now b)

-- and tells the same
pub told_capped : (limits : Capacity) (choice : MemberChoice) (now : ℕ) (call : Call) (b : Broker) → told limits choice (min now LAST_NUMBER) call b ≡ told limits choice now call b
told_capped limits choice now call b = ap (λ x. outcome_of call (deeds_of (env_of limits choice b) call x) x) (at_capped now b)

-- as many packets go out as are meant
wires_count : (ds : List Deed) (b : Broker) → length (wires ds b) ≡ length (filter_map output ds)
wires_count [] b = refl
wires_count (Send n packet ∷ ds) b = ap suc (wires_count ds (after (Send n packet) b))
wires_count (d ∷ ds) b = wires_count ds (after d b)

-- so the one or the other may be told
pub told_count : (limits : Capacity) (choice : MemberChoice) (now : ℕ) (call : Call) (b : Broker) → let t = told limits choice now call b in
    record { reports = t.reports; out = length t.wires } ≡ telling (deeds limits choice now call b)
told_count limits choice now call b =
    let ds = deeds limits choice now call b in
    ap (λ (n : ℕ). record { reports = filter_map report ds; out = n }) (wires_count ds (at_moment now b))

-- and it is out of numbers exactly if it is at the moment itself
pub spent_capped : (limits : Capacity) (choice : MemberChoice) (now : ℕ) (call : Call) (b : Broker) → is_step_spent limits choice (min now LAST_NUMBER) call b ≡ is_step_spent limits choice now call b
spent_capped limits choice now call b = ap (λ x. is_spent (rows_written (deeds_of (env_of limits choice b) call x) x)) (at_capped now b)

-- ---- what lines hold

-- if no line holds anything, none does whether the first is kept or not
pub kept_none : (t : Bool) (x : HeldLine) (rest : List HeldLine) → HoldsNone x → HoldNone rest → HoldNone (cond t (x ∷ rest) rest)
kept_none true x rest h k = (h, k)
kept_none false x rest h k = k

-- if no line holds anything, none of those that are kept does
pub none_held : (keeps : HeldLine → Bool) (held : List HeldLine) → HoldNone held → HoldNone (filter keeps held)
none_held keeps [] h = tt
none_held keeps (x ∷ held) h = kept_none (keeps x) x (filter keeps held) h.0 (none_held keeps held h.1)

-- ---- a call

module _ {K : Type 0} (g : Ghosts K) (now : ℕ) (call : Call) (old new : Played K) (out : Outcome) where
  -- a step of the engine is one of the scene, if its ends are told of it
  truly_called : (t : Telling) → IsTrulyCalled g (min now LAST_NUMBER) call old.engine.running (Ok out) new.engine.running
      → ((answer : Answer) → Tells answer out → AreSpelled answer → AllIsUnderstood answer old.ends.publishers old.ends.receivers → new.ends ≡ ends_told new.engine.running.broker answer old.ends)
      → ((answer : Answer) → Tells answer out → t ≡ record { reports = answer.reports; out = length answer.wires })
      → IsTrulyCall now call old t new
  truly_called t truly ends tells =
      let a = truly.step in
      let limits = old.engine.running.limits in
      let b = old.engine.running.broker in
      let choice = a.step.choice in
      let answer_is : a.told ≡ told limits choice now call b = a.step.out_is ∙ told_capped limits choice now call b in
      let broker_is : new.engine.running.broker ≡ stepped limits choice now call b = a.step.new_is ∙ stepped_capped limits choice now call b in
      record {
        choice = choice;
        unspent = sym (spent_capped limits choice now call b) ∙ a.step.unspent;
        broker = broker_is;
        ends = λ spelled goes.
            let is = ends a.told a.tells (subst AreSpelled (sym answer_is) spelled) (subst (λ (x : Answer). AllIsUnderstood x old.ends.publishers old.ends.receivers) (sym answer_is) goes) in
            is ∙ ap (λ x. ends_told x a.told old.ends) broker_is ∙ ap (λ x. ends_told (stepped limits choice now call b) x old.ends) answer_is;
        told_is = tells a.told a.tells ∙ ap (λ (x : Answer). record { reports = x.reports; out = length x.wires }) answer_is
            ∙ told_count limits choice now call b;
      }

  -- what the engine answered to a call is that call of the scene, if its ends are told of it
  pub called : (r : Result Telling Over) → IsPlayable g old → Served g (min now LAST_NUMBER) call old.engine (Ok out) new.engine
      → ((answer : Answer) → Tells answer out → AreSpelled answer → AllIsUnderstood answer old.ends.publishers old.ends.receivers → OnOk r (new.ends ≡ ends_told new.engine.running.broker answer old.ends))
      → ((answer : Answer) → Tells answer out → IfOk r (λ (t : Telling). t ≡ record { reports = answer.reports; out = length answer.wires }))
      → IfOk r (λ (t : Telling). Calls g now call old t new)
  called (Err fault) playable served ends tells = tt
  called (Ok t) playable served ends tells = record {
    truly = λ sound. truly_called t (served.called.truly sound) ends tells;
    limits = served.called.limits;
    sound = served.called.sound;
    playable = record {
      runs = served.called.runs (λ stops. absurd (cc));
      stored = λ sound. (served.called.truly sound).stored;
      clear = subst HoldNone (sym served.held) (none_held (λ h. not (has_closed out.closed.items h.line)) old.engine.held playable.clear);
    };
  }

-- the same, as a call of the engine and the telling behind it say it
pub answered : {K : Type 0} (g : Ghosts K) (now moment : ℕ) (call : Call) (old new : Played K) (mid : Serving K) (out : Outcome) (result : Result Outcome EngineError) (r : Result Telling Over)
    → IsPlayable g old → moment ≡ min now LAST_NUMBER → result ≡ Ok out → Served g moment call old.engine result mid → new.engine ≡ mid
    → ((answer : Answer) → Tells answer out → AreSpelled answer → AllIsUnderstood answer old.ends.publishers old.ends.receivers → OnOk r (new.ends ≡ ends_told mid.running.broker answer old.ends))
    → ((answer : Answer) → Tells answer out → IfOk r (λ (t : Telling). t ≡ record { reports = answer.reports; out = length answer.wires }))
    → IfOk r (λ (t : Telling). Calls g now call old t new)
answered {K} g now moment call old new mid out result r playable moment_is is served same ends tells =
    let at : Served g (min now LAST_NUMBER) call old.engine (Ok out) new.engine =
    subst (λ (e : Serving K). Served g (min now LAST_NUMBER) call old.engine (Ok out) e) (sym same)
    (subst (λ (x : Result Outcome EngineError). Served g (min now LAST_NUMBER) call old.engine x mid) is
    (subst (λ (n : ℕ). Served g n call old.engine result mid) moment_is served)) in
    called g now call old new out r playable at
    (subst (λ (e : Serving K). (answer : Answer) → Tells answer out → AreSpelled answer → AllIsUnderstood answer old.ends.publishers old.ends.receivers → OnOk r (new.ends ≡ ends_told e.running.broker answer old.ends)) (sym same) ends)
    tells

-- and of a scene as it is seen
pub answered_in : {K : Type 0} (g : Ghosts K) (now moment : ℕ) (call : Call) (old new : Played K) (engine mid : Serving K) (ends : Ends) (out : Outcome) (result : Result Outcome EngineError) (r : Result Telling Over)
    → old ≡ record { engine = engine; ends = ends }
    → IsPlayable g old → moment ≡ min now LAST_NUMBER → result ≡ Ok out → Served g moment call engine result mid → new.engine ≡ mid
    → ((answer : Answer) → Tells answer out → AreSpelled answer → AllIsUnderstood answer ends.publishers ends.receivers → OnOk r (new.ends ≡ ends_told mid.running.broker answer ends))
    → ((answer : Answer) → Tells answer out → IfOk r (λ (t : Telling). t ≡ record { reports = answer.reports; out = length answer.wires }))
    → IfOk r (λ (t : Telling). Calls g now call old t new)
answered_in {K} g now moment call old new engine mid ends out result r view playable moment_is is served same reached tells =
    subst (λ (o : Played K). IfOk r (λ (t : Telling). Calls g now call o t new)) (sym view)
    (answered g now moment call (record { engine = engine; ends = ends }) new mid out result r (subst (IsPlayable g) view playable) moment_is is served same reached tells)
