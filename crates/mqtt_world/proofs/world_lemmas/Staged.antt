-- What becomes of a world that stands, by what becomes of its broker and ends (MQTT 5.0, 4.1 to 4.4).
use Rattle.std.proofs.Common.{◌≡◌, ℕ, false, List, map, Option, Some, None, refl, sym, ap, subst, ◌∙◌}
use Rattle.std.specs.Prelude.{Err, IfOk, Ok, Result}
use Rattle.mqtt_keep.specs.declared.keeping.keep.Keep.{Ghosts}
use Rattle.mqtt_world_model.specs.model.Tellings.{Telling, silent}
use Rattle.mqtt_world_model.specs.model.World.{Asking, Event, Stranger, World, ask, clock, restart, restarts, stop_after, stop_before, unlinked}
use Rattle.mqtt_broker.specs.engine.Serving.{Serving}
use Rattle.mqtt_rules.specs.step.Laws.{AreWithin}
use Rattle.mqtt_rules.specs.step.State.{later}
use Rattle.mqtt_rules.specs.step.Step.{is_opening_spent}
use Rattle.mqtt_rules.specs.declared.step.Capacity.{Capacity}
use Rattle.mqtt_world.specs.declared.scene.over.Over.{Over}
use Rattle.mqtt_world.specs.script_laws.Scripted.{IsBadEvent}
use Rattle.mqtt_world.specs.script_laws.Turns.{IsPlain, IsReopened, by_choice}
use Rattle.mqtt_world.proofs.script_laws_lemmas.Single.{quiet, reopens, stops_before}
use Rattle.mqtt_world.specs.scene.Events.{Does, IsDone, IsReached, SpellsAll, world_of}
use Rattle.mqtt_world.specs.scene.Openings.{Reopens}
use Rattle.mqtt_world.specs.scene.Scenes.{HoldNone, IsPlayable, Played}
use Rattle.mqtt_world.specs.world.Stages.{IsSoundAt, IsStanding, Plays, Restages, Staged, broker_of, world_at}
use Rattle.mqtt_world.specs.scene.Stopping.{IsTakenOff, TakesOff}
use Rattle.mqtt_world.proofs.scene_lemmas.Eventful.{any_choice}
use Rattle.mqtt_world.proofs.world_lemmas.Stopped.{reached_again, reopened, stops_behind}

abbrev pub staged : {K : Type 0} → Played K → List Stranger → ℕ → Capacity → Staged K
staged s strangers now limits = record { played = s; strangers = strangers; now = now; limits = limits }

-- if one thing leads to another, it does so of whatever was answered
pub ok_as : {X E : Type 0} (P Q : X → Type 0) (r : Result X E) → ((x : X) → P x → Q x) → IfOk r P → IfOk r Q
ok_as P Q (Ok x) leads h = leads x h
ok_as P Q (Err e) leads h = tt

-- what holds of whatever is answered holds of this answer
pub ok_is : {X E : Type 0} (P : X → Type 0) (r : Result X E) (x : X) → r ≡ Ok x → IfOk r P → P x
ok_is {X} {E} P r x is h = subst (λ (y : Result X E). IfOk y P) is h

-- ---- an event that leaves strangers and the moment alone

module _ {K : Type 0} (g : Ghosts K) where
  -- a stage that can go on has a scene that can
  pub playable_in : (S : Played K) (ss : List Stranger) (now : ℕ) (limits : Capacity) (s : Staged K) → staged S ss now limits ≡ s
      → IsStanding g s → IsPlayable g S
  playable_in S ss now limits s view stands = (subst (IsStanding g) (sym view) stands).playable

  -- a stage that can go on has limits within those of the tables
  pub within_in : (S : Played K) (ss : List Stranger) (now : ℕ) (limits : Capacity) (s : Staged K) → staged S ss now limits ≡ s
      → IsStanding g s → AreWithin limits
  within_in S ss now limits s view stands = (subst (IsStanding g) (sym view) stands).within

  plays : (e : Event) (S P : Played K) (ss : List Stranger) (now : ℕ) (limits : Capacity) (t : Option Telling)
      → IsStanding g (staged S ss now limits) → Does g now e S t P → Plays g e (staged S ss now limits) t (staged P ss now limits)
  plays e S P ss now limits t stands does =
      let here : limits ≡ S.engine.running.limits = stands.limits in
      record {
        standing = record { playable = does.playable; limits = here ∙ sym does.limits; within = stands.within };
        limits = refl;
        sound = does.sound;
        reached = λ sound reached.
            subst (λ (l : Capacity). IsReached l P.engine.running.broker) (sym here)
            (does.reached sound (subst (λ (l : Capacity). IsReached l S.engine.running.broker) here reached));
        done = λ sound spells reached knowing.
            subst (λ (l : Capacity). IsDone l e t (world_of now ss S) (world_of now ss P)) (sym here)
            (does.done sound (subst SpellsAll here spells) (subst (λ (l : Capacity). IsReached l S.engine.running.broker) here reached) ss knowing);
      }

  -- what an event makes of the scene it makes of the stage, whose strangers and moment it leaves alone
  pub plays_in : (e : Event) (S P : Played K) (ss : List Stranger) (now : ℕ) (limits : Capacity) (s : Staged K) (t : Option Telling)
      → staged S ss now limits ≡ s → IsStanding g s → Does g now e S t P → Plays g e s t (staged P ss now limits)
  plays_in e S P ss now limits s t view stands does =
      subst (λ (x : Staged K). Plays g e x t (staged P ss now limits)) view
      (plays e S P ss now limits t (subst (IsStanding g) (sym view) stands) does)

  -- whatever is answered
  pub all_play : (e : Event) (S P : Played K) (ss : List Stranger) (now : ℕ) (limits : Capacity) (s : Staged K)
      (r : Result (Option Telling) Over) → staged S ss now limits ≡ s → IsStanding g s → IfOk r (λ t. Does g now e S t P)
      → IfOk r (λ t. Plays g e s t (staged P ss now limits))
  all_play e S P ss now limits s r view stands h =
      ok_as (λ (t : Option Telling). Does g now e S t P) (λ (t : Option Telling). Plays g e s t (staged P ss now limits)) r
      (λ t does. plays_in e S P ss now limits s t view stands does) h

  -- ---- time passes

  clock_plays : (wait : ℕ) (S : Played K) (ss : List Stranger) (now after : ℕ) (limits : Capacity) → IsStanding g (staged S ss now limits)
      → after ≡ later now wait → Plays g (clock wait) (staged S ss now limits) (Some silent) (staged S ss after limits)
  clock_plays wait S ss now after limits stands is = record {
    standing = record { playable = stands.playable; limits = stands.limits; within = stands.within };
    limits = refl;
    sound = λ sound. sound;
    reached = λ sound reached. reached;
    done = λ sound spells reached knowing.
        quiet limits any_choice (clock wait) (world_of now ss S) (world_of after ss S) tt refl (ap (λ (n : ℕ). world_of n ss S) is);
  }

  -- if time passes, the moment is later, nothing else changes, and nothing is told
  pub clock_plays_in : (wait : ℕ) (S : Played K) (ss : List Stranger) (now after : ℕ) (limits : Capacity) (s : Staged K) (t : Telling)
      → staged S ss now limits ≡ s → IsStanding g s → after ≡ later now wait → t ≡ silent
      → Plays g (clock wait) s (Some t) (staged S ss after limits)
  clock_plays_in wait S ss now after limits s t view stands is told =
      subst (λ (x : Telling). Plays g (clock wait) s (Some x) (staged S ss after limits)) (sym told)
      (subst (λ (x : Staged K). Plays g (clock wait) x (Some silent) (staged S ss after limits)) view
      (clock_plays wait S ss now after limits (subst (IsStanding g) (sym view) stands) is))

  -- ---- the broker is opened again

  -- if the scene's broker is opened again and strangers have no lines, so is the stage's, and nothing is told
  pub restages : (S P : Played K) (ss rs : List Stranger) (now : ℕ) (limits : Capacity) (s : Staged K) (t : Telling)
      → staged S ss now limits ≡ s → Reopens g limits now S P → rs ≡ map unlinked ss → t ≡ silent
      → Restages g s (Some t) (staged P rs now limits)
  restages S P ss rs now limits s t view again is told =
      subst (λ (x : Staged K). Restages g x (Some t) (staged P rs now limits)) view
      (record { reopens = again; strangers = is; now = refl; limits = refl; told = ap (λ (x : Telling). Some x) told })

  -- if a stage can go on, it can once its broker is opened again
  pub standing_again : (mid new : Staged K) (t : Option Telling) → IsStanding g mid → Restages g mid t new → IsStanding g new
  standing_again mid new t stands r = record {
    playable = r.reopens.playable;
    limits = r.limits ∙ sym r.reopens.limits_are;
    within = subst AreWithin (sym r.limits) stands.within;
  }

  world_after : (mid new : Staged K) (t : Option Telling) → Restages g mid t new
      → world_at new ≡ world_of mid.now (map unlinked mid.strangers) new.played
  world_after mid new t r =
      ap (λ (n : ℕ). world_of n new.strangers new.played) r.now
      ∙ ap (λ (ss : List Stranger). world_of mid.now ss new.played) r.strangers

  -- if the store's device is sound, the stage's world is the old one, opened again
  pub reopened_at : (mid new : Staged K) (t : Option Telling) → Restages g mid t new → IsSoundAt g new
      → IsReopened mid.limits (world_at mid) (world_at new)
  reopened_at mid new t r sound =
      subst (λ (w : World). IsReopened mid.limits (world_at mid) w) (sym (world_after mid new t r))
      (reopened g mid.now mid.limits mid.played new.played mid.strangers r.reopens sound)

  -- if the old broker can come to be, so can the one that is opened again on a sound device
  pub reached_at : (mid new : Staged K) (t : Option Telling) → Restages g mid t new → IsSoundAt g new
      → IsReached mid.limits (broker_of mid) → IsReached mid.limits (broker_of new)
  reached_at mid new t r sound reached = reached_again g mid.now mid.limits mid.played new.played r.reopens sound reached

  -- it is a restart
  pub restart_plays : (old new : Staged K) (t : Option Telling) → IsStanding g old → Restages g old t new → Plays g restart old t new
  restart_plays old new t stands r =
      subst (λ (x : Option Telling). Plays g restart old x new) (sym r.told) (record {
        standing = standing_again old new t stands r;
        limits = r.limits;
        sound = r.reopens.sound;
        reached = reached_at old new t r;
        done = λ sound spells reached knowing. reopens old.limits (world_at old) (world_at new) (reopened_at old new t r sound);
      })

  -- behind what was asked it is a stop
  pub stop_after_plays : (a : Asking) (old mid new : Staged K) (u : Telling) (t : Option Telling) → IsPlain a
      → Plays g (ask a) old (Some u) mid → Restages g mid t new → Plays g (stop_after a) old t new
  stop_after_plays a old mid new u t plain asked r =
      subst (λ (x : Option Telling). Plays g (stop_after a) old x new) (sym r.told) (record {
        standing = standing_again mid new t asked.standing r;
        limits = r.limits ∙ asked.limits;
        sound = λ sound. asked.sound (r.reopens.sound sound);
        reached = λ sound reached.
            subst (λ (l : Capacity). IsReached l (broker_of new)) asked.limits
            (reached_at mid new t r sound
            (subst (λ (l : Capacity). IsReached l (broker_of mid)) (sym asked.limits) (asked.reached (r.reopens.sound sound) reached)));
        done = λ sound spells reached knowing.
            stops_behind old.limits a u (world_at old) (world_at mid) (world_at new) plain (asked.done (r.reopens.sound sound) spells reached knowing)
            (subst (λ (l : Capacity). IsReopened l (world_at mid) (world_at new)) asked.limits (reopened_at mid new t r sound));
      })

  -- what can't be asked can't be stopped after
  pub stop_after_bad : (a : Asking) (old new : Staged K) → Plays g (ask a) old None new → Plays g (stop_after a) old None new
  stop_after_bad a old new asked =
      record { standing = asked.standing; limits = asked.limits; sound = asked.sound; reached = asked.reached; done = asked.done }

  -- ---- a stop before the commit

  off_stands : (a : Asking) (old : Staged K) (M : Played K) → IsStanding g old → IsTakenOff a old.played M
      → IsStanding g (record old { played = M })
  off_stands a old M stands off = record {
    playable = record {
      runs = ap (λ (e : Serving K). e.running.stopped) off.engine ∙ stands.playable.runs;
      stored = subst (λ (e : Serving K). g.is_sound e.running.keep → g.holds e.running.keep e.running.broker.records) (sym off.engine) stands.playable.stored;
      clear = subst (λ (e : Serving K). HoldNone e.held) (sym off.engine) stands.playable.clear;
    };
    limits = stands.limits ∙ sym (ap (λ (e : Serving K). e.running.limits) off.engine);
    within = stands.within;
  }

  -- if something is taken off it can go on
  pub off_standing : (a : Asking) (old mid : Staged K) → IsStanding g old → mid ≡ record old { played = mid.played }
      → IsTakenOff a old.played mid.played → IsStanding g mid
  off_standing a old mid stands same off = subst (IsStanding g) (sym same) (off_stands a old mid.played stands off)

  off_plays : (a : Asking) (old new : Staged K) (M : Played K) (t : Option Telling) → IsStanding g old → IsTakenOff a old.played M
      → Restages g (record old { played = M }) t new → Plays g (stop_before a) old t new
  off_plays a old new M t stands off r =
      let mid : Staged K = record old { played = M } in
      subst (λ (x : Option Telling). Plays g (stop_before a) old x new) (sym r.told) (record {
        standing = standing_again mid new t (off_stands a old M stands off) r;
        limits = r.limits;
        sound = λ sound. subst (λ (e : Serving K). g.is_sound e.running.keep) off.engine (r.reopens.sound sound);
        reached = λ sound reached.
            reached_at mid new t r sound
            (subst (λ (e : Serving K). IsReached old.limits e.running.broker) (sym off.engine) reached);
        done = λ sound spells reached knowing.
            let o = reopened_at mid new t r sound in
            let is = off.is (by_choice old.limits o.choice) old.now old.strangers in
            stops_before old.limits o.choice a (world_at old) (world_at new) (off.good old.now old.strangers)
            (subst (λ (w : World). is_opening_spent old.limits o.choice w.now w.broker.records ≡ false) is o.unspent)
            (o.is ∙ ap (restarts (by_choice old.limits o.choice)) is);
      })

  -- a packet that is taken off, and the broker opened again behind it, are a stop before the commit
  pub stop_before_plays : (a : Asking) (old mid new : Staged K) (t : Option Telling) → IsStanding g old
      → mid ≡ record old { played = mid.played } → IsTakenOff a old.played mid.played → Restages g mid t new
      → Plays g (stop_before a) old t new
  stop_before_plays a old mid new t stands same off r =
      off_plays a old new mid.played t stands off (subst (λ (x : Staged K). Restages g x t new) same r)

  bad_plays : (e : Event) (old : Staged K) (M : Played K) → IsStanding g old → M ≡ old.played
      → IsBadEvent e (world_at old) → Plays g e old None (record old { played = M })
  bad_plays e old M stands same is =
      subst (λ (x : Played K). Plays g e old None (record old { played = x })) (sym same) (record {
        standing = record { playable = stands.playable; limits = stands.limits; within = stands.within };
        limits = refl;
        sound = λ sound. sound;
        reached = λ sound reached. reached;
        done = λ sound spells reached knowing. (is, refl);
      })

  -- what can't be asked can't be stopped before
  pub stop_before_bad : (a : Asking) (old new : Staged K) → IsStanding g old → new ≡ record old { played = new.played }
      → TakesOff a false old.played new.played → Plays g (stop_before a) old None new
  stop_before_bad a old new stands same bad =
      subst (λ (x : Staged K). Plays g (stop_before a) old None x) (sym same)
      (bad_plays (stop_before a) old new.played stands bad.1 (bad.0 old.now old.strangers))

  -- ---- whatever is answered

  -- if the opening answered a scene, the stage is opened again with it
  pub all_restages : (S P : Played K) (ss rs : List Stranger) (now : ℕ) (limits : Capacity) (s : Staged K) (r : Result (Played K) Over) (t : Telling)
      → staged S ss now limits ≡ s → r ≡ Ok P → IfOk r (λ x. Reopens g limits now S x) → rs ≡ map unlinked ss → t ≡ silent
      → Restages g s (Some t) (staged P rs now limits)
  all_restages S P ss rs now limits s r t view ok h is told =
      restages S P ss rs now limits s t view (ok_is (λ (x : Played K). Reopens g limits now S x) r P ok h) is told

  -- what was asked, and the broker opened again behind it, are a stop after the commit, whatever is answered
  pub all_stop_after : (a : Asking) (old mid : Staged K) (u : Telling) (r : Result (Staged K × Option Telling) Over) → IsPlain a
      → Plays g (ask a) old (Some u) mid → IfOk r (λ x. Restages g mid x.1 x.0) → IfOk r (λ x. Plays g (stop_after a) old x.1 x.0)
  all_stop_after a old mid u r plain asked h =
      ok_as (λ (x : Staged K × Option Telling). Restages g mid x.1 x.0) (λ (x : Staged K × Option Telling). Plays g (stop_after a) old x.1 x.0) r
      (λ x again. stop_after_plays a old mid x.0 u x.1 plain asked again) h

  -- a packet taken off, and the broker opened again, are a stop before the commit, whatever is answered
  pub all_stop_before : (a : Asking) (old mid : Staged K) (r : Result (Staged K × Option Telling) Over) → IsStanding g old
      → mid ≡ record old { played = mid.played } → IsTakenOff a old.played mid.played → IfOk r (λ x. Restages g mid x.1 x.0)
      → IfOk r (λ x. Plays g (stop_before a) old x.1 x.0)
  all_stop_before a old mid r stands same off h =
      ok_as (λ (x : Staged K × Option Telling). Restages g mid x.1 x.0) (λ (x : Staged K × Option Telling). Plays g (stop_before a) old x.1 x.0) r
      (λ x again. stop_before_plays a old mid x.0 x.1 stands same off again) h
