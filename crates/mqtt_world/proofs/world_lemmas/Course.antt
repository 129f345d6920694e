-- What events come to in a world that runs, one after the other, and that all it keeps is a run of the definitions' world.
use Rattle.std.proofs.Common.{◌≡◌, List, [], ◌∷◌, ◌++◌, IfErr, IfOk, OnOk, Option, None, Some, append-nil, append_assoc, refl, sym, ap, subst, ◌∙◌}
use Rattle.std.specs.Prelude.{ℕ, length, Result, Ok, Err}
use Rattle.mqtt_keep.specs.declared.keeping.keep.Keep.{Ghosts}
use Rattle.mqtt_world_model.specs.model.Tellings.{Telling}
use Rattle.mqtt_world_model.specs.model.World.{World}
use Rattle.mqtt_world_ends.specs.declared.peers.told.RunFault.{RunFault}
use Rattle.mqtt_world_ends.specs.declared.peers.told.RunFault.TheVariants as fault
use Rattle.mqtt_script.specs.declared.event.Event.{Event}
use Rattle.mqtt_script.specs.declared.event.Event.TheVariants.{Drain}
use Rattle.mqtt_world.specs.script_laws.Scripted.{IsBad, IsBadHere, RunsTo, as_drain, as_event, bad_drain, bad_event}
use Rattle.mqtt_world.specs.script_laws.Drains.{DrainHappens}
use Rattle.mqtt_world.specs.script_drains.Done.{IsEmptied}
use Rattle.mqtt_world.proofs.script_drains_lemmas.Done.{delivers_once, script_empties}
use Rattle.mqtt_world.proofs.script_laws_lemmas.Fronts.{script_refuses}
use Rattle.mqtt_world.proofs.script_laws_lemmas.Scripts.{runs_join}
use Rattle.mqtt_rules.specs.step.Laws.{AreWithin}
use Rattle.mqtt_rules.specs.declared.step.Capacity.{Capacity}
use Rattle.mqtt_world.specs.scene.Events.{IsReached}
use Rattle.mqtt_world.specs.scene.Halting.{fault_of}
use Rattle.mqtt_world.specs.world.Stages.{IsSoundAt, IsStanding, PlaysDrain, Staged, broker_of, world_at}
use Rattle.mqtt_world.specs.world.Worlds.{Came, CantHappen, DrainEmpties, Happen, HappenDrained, HasCome, HasDelivered, IfBegunWell, IfSound, Lasting, Performs, Refuses, Runs, Stops, over_by, performs_drain, performs_event, with_stage}
use Rattle.mqtt_world.specs.declared.scene.over.Over.{Over}
use Rattle.mqtt_world.specs.declared.scene.over.Over.TheVariants as over
use Rattle.mqtt_world_laws.specs.knowing.Knowing.{HasKnowingEnds}
use Rattle.mqtt_world.proofs.scene_lemmas.StayKnowing.{runs_knowing}
use Rattle.mqtt_world.proofs.scene_lemmas.ReadAsSent.{spells_all}

-- ---- results

-- one result has one value
pub ok_is : {A E : Type 0} (r : Result A E) (a b : A) → r ≡ Ok a → r ≡ Ok b → a ≡ b
ok_is r a b is same = cc

-- a result that is a value is no error
pub ok_no_err : {P : Type 0} {A E : Type 0} (r : Result A E) (a : A) (e : E) → r ≡ Ok a → r ≡ Err e → P
ok_no_err r a e is bad = absurd (cc)

none_of : {A : Type 0} (xs : List A) → length xs ≡ 0 → xs ≡ []
none_of [] is = refl
none_of (x ∷ xs) is = absurd (cc)

module _ {K : Type 0} (g : Ghosts K) where
  -- ---- on the stage

  -- if no event comes, the stage stays as it is
  pub runs_none : (s : Staged K) → Runs g [] s [] s
  runs_none s = record { limits = refl; sound = λ sound. sound; reached = λ sound reached knowing. reached; runs = λ sound reached knowing. (refl, refl) }

  reached_on : (es : List Event) (old : Staged K) (ts : List Telling) (new : Staged K) → Runs g es old ts new → IsSoundAt g new
      → IsReached old.limits (broker_of old) → HasKnowingEnds (world_at old) → IsReached new.limits (broker_of new)
  reached_on es old ts new r sound reached knowing = subst (λ (l : Capacity). IsReached l (broker_of new)) (sym r.limits) (r.reached sound reached knowing)

  -- the ends know what they were told by what ran
  knowing_on : (es : List Event) (old : Staged K) (ts : List Telling) (new : Staged K) → Runs g es old ts new → IsSoundAt g new
      → IsReached old.limits (broker_of old) → HasKnowingEnds (world_at old) → HasKnowingEnds (world_at new)
  knowing_on es old ts new r sound reached knowing = runs_knowing old.limits es ts (world_at old) (world_at new) (r.runs sound reached knowing) knowing

  -- events that ran, and more that ran from there, ran one after the other
  pub runs_joined : (es more : List Event) (ts us : List Telling) (old mid new : Staged K) → Runs g es old ts mid → Runs g more mid us new
      → Runs g (es ++ more) old (ts ++ us) new
  runs_joined es more ts us old mid new a b = record {
    limits = b.limits ∙ a.limits;
    sound = λ sound. a.sound (b.sound sound);
    reached = λ sound reached knowing.
        subst (λ (l : Capacity). IsReached l (broker_of new)) a.limits
        (b.reached sound (reached_on es old ts mid a (b.sound sound) reached knowing) (knowing_on es old ts mid a (b.sound sound) reached knowing));
    runs = λ sound reached knowing.
        runs_join old.limits es more ts us (world_at old) (world_at mid) (world_at new) (a.runs (b.sound sound) reached knowing)
        (subst (λ (l : Capacity). RunsTo l more us (world_at mid) (world_at new)) a.limits
        (b.runs sound (reached_on es old ts mid a (b.sound sound) reached knowing) (knowing_on es old ts mid a (b.sound sound) reached knowing)));
  }

  -- whatever it comes to, what stands can go on
  pub performs_stands : (e : Event) (old : Staged K) (t : Option Telling) (new : Staged K) → Performs g e old t new → IsStanding g new
  performs_stands e old t new (performs_event x is p) = p.standing
  performs_stands e old t new (performs_drain client is (x, told, p)) = p.standing

  -- one event that happened
  pub played_one : (e : Event) (old : Staged K) (t : Telling) (new : Staged K) → Performs g e old (Some t) new → Runs g (e ∷ []) old (t ∷ []) new
  played_one e old t new (performs_event x is p) = record {
    limits = p.limits;
    sound = p.sound;
    reached = λ sound reached knowing. p.reached sound reached;
    runs = λ sound reached knowing. (world_at new, as_event x is (p.done sound (spells_all old.limits) reached knowing), (refl, refl));
  }
  played_one e old t new (performs_drain client is (None, told, p)) = absurd (cc)
  played_one e old t new (performs_drain client is (Some x, told, p)) = record {
    limits = p.limits;
    sound = p.sound;
    reached = λ sound reached knowing. p.reached sound reached;
    runs = λ sound reached knowing.
        let happens : DrainHappens old.limits client x.0 (world_at old) (world_at new) = (p.done sound (spells_all old.limits) reached knowing).0 in
        let same : t ≡ x.0 = cc in
        (world_at new, as_drain client is (subst (λ (u : Telling). DrainHappens old.limits client u (world_at old) (world_at new)) (sym same) happens), (refl, refl));
  }

  -- and one that can't
  played_none : (e : Event) (old new : Staged K) → Performs g e old None new → Runs g [] old [] new
  played_none e old new (performs_event x is p) = record {
    limits = p.limits;
    sound = p.sound;
    reached = λ sound reached knowing. p.reached sound reached;
    runs = λ sound reached knowing. (refl, (p.done sound (spells_all old.limits) reached knowing).1);
  }
  played_none e old new (performs_drain client is (None, told, p)) = record {
    limits = p.limits;
    sound = p.sound;
    reached = λ sound reached knowing. p.reached sound reached;
    runs = λ sound reached knowing. (refl, (p.done sound (spells_all old.limits) reached knowing).1);
  }
  played_none e old new (performs_drain client is (Some x, told, p)) = absurd (cc)

  played_bad : (e : Event) (old new : Staged K) → Performs g e old None new → IfSound g old new (IsBadHere e (world_at old))
  played_bad e old new (performs_event x is p) = λ sound reached knowing. bad_event x is (p.done sound (spells_all old.limits) reached knowing).0
  played_bad e old new (performs_drain client is (None, told, p)) = λ sound reached knowing. bad_drain client is (p.done sound (spells_all old.limits) reached knowing).0
  played_bad e old new (performs_drain client is (Some x, told, p)) = absurd (cc)

  -- where the kept events have led, it is bad by the definitions alone
  bad_after : (start : World) (e : Event) (s n : Staged K) (w : Lasting K) → Performs g e s None n
      → HasCome g start (with_stage s w) → IfBegunWell g start n (IsBad e (world_at s))
  bad_after start e s n w p come = λ sound nobody sends.
      let c = come s refl ((played_none e s n p).sound sound) in
      script_refuses s.limits w.events c.tells start (world_at s) nobody sends c.runs e (played_bad e s n p sound c.reached c.knowing)

  -- ---- in the world

  -- if nothing happens, a world that stands stays as it is
  pub happen_none : (s : Staged K) (w : Lasting K) → w.stage ≡ Ok s → Happen g [] [] w w
  happen_none s w is = record { from = s; to = s; was = is; is = is; runs = runs_none s; kept = sym (append-nil w.events) }

  -- what happened, and what happened behind it, happened one after the other, and the world keeps both
  pub happen_more : (es more : List Event) (ts us : List Telling) (old mid new : Lasting K) → Happen g es ts old mid → Happen g more us mid new
      → Happen g (es ++ more) (ts ++ us) old new
  happen_more es more ts us old mid new a b =
      let same : b.from ≡ a.to = ok_is mid.stage b.from a.to b.was a.is in
      record {
        from = a.from;
        to = b.to;
        was = a.was;
        is = b.is;
        runs = runs_joined es more ts us a.from a.to b.to a.runs (subst (λ (s : Staged K). Runs g more s us b.to) same b.runs);
        kept = b.kept ∙ (ap (λ (xs : List Event). xs ++ more) a.kept ∙ append_assoc old.events es more);
      }

  -- an event that was performed on the stage has happened, and the world keeps it behind those before
  pub happened_one : (e : Event) (s n : Staged K) (t : Telling) (w new : Lasting K) → Performs g e s (Some t) n → new.stage ≡ Ok n
      → new.events ≡ w.events ++ e ∷ [] → Happen g (e ∷ []) (t ∷ []) (with_stage s w) new
  happened_one e s n t w new p is kept = record { from = s; to = n; was = refl; is = is; runs = played_one e s t n p; kept = kept }

  -- an event that could not be performed on the stage can't happen, and the world keeps nothing of it
  pub cant_happen : (e : Event) (s n : Staged K) (w : Lasting K) → Performs g e s None n
      → CantHappen g e (with_stage s w) (with_stage n w)
  cant_happen e s n w p = record {
    nothing = record {
      from = s;
      to = n;
      was = refl;
      is = refl;
      runs = played_none e s n p;
      kept = sym (append-nil w.events);
    };
    bad = played_bad e s n p;
    is_bad = λ start come. bad_after start e s n w p come;
  }

  -- a world that is over
  pub refused_over : (e : Event) (o : Over) (w : Lasting K) → Refuses g e (fault_of o) w (over_by o w)
  refused_over e over.Memory w = refl
  refused_over e over.Store w = refl

  -- ---- all that it keeps

  came_on : (start : World) (es more : List Event) (us : List Telling) (s n : Staged K) → IsSoundAt g n → Came start es s → Runs g more s us n
      → Came start (es ++ more) n
  came_on start es more us s n sound c r = record {
    within = subst (λ (l : Capacity). AreWithin l) (sym r.limits) c.within;
    reached = reached_on more s us n r sound c.reached c.knowing;
    knowing = knowing_on more s us n r sound c.reached c.knowing;
    tells = c.tells ++ us;
    runs = subst (λ (l : Capacity). RunsTo l (es ++ more) (c.tells ++ us) start (world_at n)) (sym r.limits)
        (runs_join s.limits es more c.tells us start (world_at s) (world_at n) c.runs (r.runs sound c.reached c.knowing));
  }

  -- if the kept events led to a world, they lead on with those that happened since
  pub come_on : (start : World) (es : List Event) (ts : List Telling) (old new : Lasting K) → Happen g es ts old new → HasCome g start old
      → HasCome g start new
  come_on start es ts old new h come = λ s is sound.
      let same : h.to ≡ s = ok_is new.stage h.to s h.is is in
      let here : IsSoundAt g h.to = subst (λ (x : Staged K). IsSoundAt g x) (sym same) sound in
      subst (λ (x : Staged K). Came start new.events x) same
      (subst (λ (xs : List Event). Came start xs h.to) (sym h.kept)
      (came_on start old.events es ts h.from h.to here (come h.from h.was (h.runs.sound here)) h.runs))

  come_over : (start : World) (o : Over) (old new : Lasting K) → new ≡ over_by o old → HasCome g start new
  come_over start o old new is = λ s stands sound. ok_no_err new.stage s o stands (ap (λ (w : Lasting K). w.stage) is)

  -- if an event is refused, the kept events still lead to what stands
  pub come_refused : (start : World) (e : Event) (f : RunFault) (old new : Lasting K) → Refuses g e f old new → HasCome g start old
      → HasCome g start new
  come_refused start e fault.Memory old new r come = come_over start over.Memory old new r
  come_refused start e fault.Store old new r come = come_over start over.Store old new r
  come_refused start e (fault.BadEvent place) old new r come = come_on start [] [] old new r.0.nothing come

  -- so they do if a run stops at an event: those before it are kept, and it is not
  pub come_stopped : (start : World) (es : List Event) (f : RunFault) (old new : Lasting K) → Stops g es f old new → HasCome g start old
      → HasCome g start new
  come_stopped start es f old new s come =
      come_refused start s.event f s.mid new s.refused (come_on start s.before s.tells old s.mid s.happened come)

  -- ---- a result of many events, or of one

  -- one event
  pub one_comes : (start : World) (e : Event) (r : Result Telling RunFault) (old new : Lasting K)
      → IfOk r (λ (t : Telling). Happen g (e ∷ []) (t ∷ []) old new) → IfErr r (λ (f : RunFault). Refuses g e f old new)
      → HasCome g start old → HasCome g start new
  one_comes start e (Ok t) old new h r come = come_on start (e ∷ []) (t ∷ []) old new h come
  one_comes start e (Err f) old new h r come = come_refused start e f old new r come

-- if the events that a world keeps led to it, their messages were delivered exactly once
pub delivered : {K : Type 0} (g : Ghosts K) (start : World) (w : Lasting K) → HasCome g start w → HasDelivered g start w
delivered {K} g start w come = λ s is sound begins.
    let c = come s is sound in
    delivers_once s.limits w.events c.tells start (world_at s) begins c.runs

module _ {K : Type 0} (g : Ghosts K) where
  -- ---- what a step of the world comes to

  -- what happened is kept
  pub kept_happens : (e : Event) (s n : Staged K) (told : Telling) (w new : Lasting K) (r : Result Telling RunFault) → Performs g e s (Some told) n
      → IfOk r (λ (t : Telling). t ≡ told) → IfOk r (λ (t : Telling). new ≡ record { stage = Ok n; events = w.events ++ e ∷ [] })
      → IfOk r (λ (t : Telling). Happen g (e ∷ []) (t ∷ []) (with_stage s w) new)
  kept_happens e s n told w new (Ok t) p told_is is =
      subst (λ (x : Telling). Happen g (e ∷ []) (x ∷ []) (with_stage s w) new) (sym told_is)
      (happened_one g e s n told w new p (ap (λ (x : Lasting K). x.stage) is) (ap (λ (x : Lasting K). x.events) is))
  kept_happens e s n told w new (Err f) p told_is is = tt

  -- what can't happen is not
  pub refused_here : (e : Event) (s n : Staged K) (w new : Lasting K) (r : Result Telling RunFault)
      → Performs g e s None n → r ≡ Err (fault.BadEvent (length w.events)) → new ≡ with_stage n w
      → IfErr r (λ (f : RunFault). Refuses g e f (with_stage s w) new)
  refused_here e s n w new r p is same =
      subst (λ (x : Result Telling RunFault). IfErr x (λ (f : RunFault). Refuses g e f (with_stage s w) new)) (sym is)
      (subst (λ (x : Lasting K). CantHappen g e (with_stage s w) x) (sym same) (cant_happen g e s n w p), refl)

  -- ---- what a drain comes to

  -- a drain that was played and is kept has happened, in as many rounds as it took
  pub kept_drain : (e : Event) (client : List ℕ) (rounds : ℕ) (s n : Staged K) (told : Telling) (w new : Lasting K) (r : Result Telling RunFault) → e ≡ Drain client
      → PlaysDrain g client s (Some (told, rounds)) n
      → IfOk r (λ (t : Telling). new ≡ record { stage = Ok n; events = w.events ++ e ∷ [] })
      → IfOk r (λ (t : Telling). HappenDrained g client rounds (with_stage s w) new)
  kept_drain e client rounds s n told w new (Ok t) is p kept =
      let stage : new.stage ≡ Ok n = ap (λ (x : Lasting K). x.stage) kept in
      record {
        t = told;
        happened =
            happened_one g (Drain client) s n told w new (performs_drain client refl (Some (told, rounds), refl, p)) stage
            (ap (λ (x : Lasting K). x.events) kept ∙ ap (λ (x : Event). w.events ++ x ∷ []) is);
        drained = λ from to was goes.
            let begins : s ≡ from = ok_is {E = Over} (Ok s) s from refl was in
            let ends : n ≡ to = ok_is new.stage n to stage goes in
            subst (λ (x : Staged K). IfSound g x to ((h : DrainHappens x.limits client told (world_at x) (world_at to)) × (h.rounds ≡ rounds))) begins
            (subst (λ (x : Staged K). IfSound g s x ((h : DrainHappens s.limits client told (world_at s) (world_at x)) × (h.rounds ≡ rounds))) ends
            (λ sound reached knowing. p.done sound (spells_all s.limits) reached knowing));
      }
  kept_drain e client rounds s n told w new (Err f) is p kept = tt

  -- a drain that can't happen is refused, with its place behind the events that are kept
  pub drain_refused : (client : List ℕ) (s n : Staged K) (w new : Lasting K) (f : RunFault) → PlaysDrain g client s None n
      → f ≡ fault.BadEvent (length w.events) → new ≡ with_stage n w → Refuses g (Drain client) f (with_stage s w) new
  drain_refused client s n w new f p is same =
      subst (λ (x : RunFault). Refuses g (Drain client) x (with_stage s w) new) (sym is) (
        subst (λ (x : Lasting K). CantHappen g (Drain client) (with_stage s w) x) (sym same)
            (cant_happen g (Drain client) s n w (performs_drain client refl (None, refl, p))),
        refl,
      )

  -- what ends the world refuses it
  pub kept_none : {U : Type 0} (e : Event) (s : Staged K) (w new : Lasting K) (r : Result U RunFault)
      → IfErr r (λ (f : RunFault). (f ≡ fault.Memory) × (new ≡ over_by over.Memory w)) → IfErr r (λ (f : RunFault). Refuses g e f (with_stage s w) new)
  kept_none e s w new (Ok u) h = tt
  kept_none e s w new (Err f) h = subst (λ (x : RunFault). Refuses g e x (with_stage s w) new) (sym h.0) h.1

  -- if the world ended, the event was refused for what ended it
  pub ended : (e : Event) (o : Over) (s : Staged K) (w new : Lasting K) (f : RunFault) → f ≡ fault_of o → new ≡ over_by o w → Refuses g e f (with_stage s w) new
  ended e o s w new f is over =
      subst (λ (x : RunFault). Refuses g e x (with_stage s w) new) (sym is)
      (subst (λ (x : Lasting K). Refuses g e (fault_of o) (with_stage s w) x) (sym over) (refused_over g e o (with_stage s w)))

  -- the same client, and the same world
  pub drained_as : (name client : List ℕ) (s : Staged K) (mid w new : Lasting K) (r : Result ℕ RunFault) → name ≡ client → mid ≡ w
      → IfOk r (λ (n : ℕ). HappenDrained g name n (with_stage s mid) new) → IfOk r (λ (n : ℕ). HappenDrained g client n (with_stage s w) new)
  drained_as name client s mid w new r same is h =
      subst (λ (x : List ℕ). IfOk r (λ (n : ℕ). HappenDrained g x n (with_stage s w) new)) same
      (subst (λ (x : Lasting K). IfOk r (λ (n : ℕ). HappenDrained g name n (with_stage s x) new)) is h)

  -- if client and world are the same, the same drain is refused
  pub drain_refused_as : (name client : List ℕ) (s : Staged K) (mid w new : Lasting K) (r : Result ℕ RunFault) → name ≡ client → mid ≡ w
      → IfErr r (λ (f : RunFault). Refuses g (Drain name) f (with_stage s mid) new) → IfErr r (λ (f : RunFault). Refuses g (Drain client) f (with_stage s w) new)
  drain_refused_as name client s mid w new r same is h =
      subst (λ (x : List ℕ). IfErr r (λ (f : RunFault). Refuses g (Drain x) f (with_stage s w) new)) same
      (subst (λ (x : Lasting K). IfErr r (λ (f : RunFault). Refuses g (Drain name) f (with_stage s x) new)) is h)

  -- a world that stands, and one that is over, taken apart
  abbrev lasting : Result (Staged K) Over → List Event → Lasting K
  lasting stage es = record { stage = stage; events = es }

  -- a world is its stage, as it was found to be, with the events that it keeps
  pub lasting_as : (stage at : Result (Staged K) Over) (es : List Event) (w : Lasting K) → lasting stage es ≡ w → stage ≡ at → lasting at es ≡ w
  lasting_as stage at es w view is = ap (λ (x : Result (Staged K) Over). lasting x es) (sym is) ∙ view

  -- and its stage is what it was found to be
  pub stage_as : (stage at : Result (Staged K) Over) (es : List Event) (w : Lasting K) → lasting stage es ≡ w → stage ≡ at → w.stage ≡ at
  stage_as stage at es w view is = ap (λ (x : Lasting K). x.stage) (sym view) ∙ is

  -- what drained a receiver in a world taken apart drained it in that world as a whole
  pub drained_at : (client : List ℕ) (w0 w new : Lasting K) (r : Result ℕ RunFault) → w0 ≡ w → IfOk r (λ (n : ℕ). HappenDrained g client n w0 new)
      → IfOk r (λ (n : ℕ). HappenDrained g client n w new)
  drained_at client w0 w new r same h = subst (λ (x : Lasting K). IfOk r (λ (n : ℕ). HappenDrained g client n x new)) same h

  -- and a drain refused in a world taken apart is refused in that world as a whole
  pub drain_refused_at : (client : List ℕ) (w0 w new : Lasting K) (r : Result ℕ RunFault) → w0 ≡ w → IfErr r (λ (f : RunFault). Refuses g (Drain client) f w0 new)
      → IfErr r (λ (f : RunFault). Refuses g (Drain client) f w new)
  drain_refused_at client w0 w new r same h = subst (λ (x : Lasting K). IfErr r (λ (f : RunFault). Refuses g (Drain client) f x new)) same h

  -- a world that stands is not over
  pub none_over : {P : Type 0} (s : Staged K) (es : List Event) (w : Lasting K) → lasting (Ok s) es ≡ w → (o : Over) → w.stage ≡ Err o → P
  none_over s es w view o is = ok_no_err w.stage s o (ap (λ (x : Lasting K). x.stage) (sym view)) is

  -- a world that is over refuses each event for what ended it, and stays over
  pub still_over : (e : Event) (o : Over) (es : List Event) (w new : Lasting K) (f : RunFault) → f ≡ fault_of o → new ≡ lasting (Err o) es → lasting (Err o) es ≡ w
      → Refuses g e f w new
  still_over e o es w new f is over view =
      subst (λ (x : RunFault). Refuses g e x w new) (sym is)
      (subst (λ (x : Lasting K). Refuses g e (fault_of o) w x) (sym over)
      (subst (λ (x : Lasting K). Refuses g e (fault_of o) x (lasting (Err o) es)) view (refused_over g e o (lasting (Err o) es))))

  -- a world that is over answers why it ended, and stays as it is
  pub answers_why : {T : Type 0} (o : Over) (es : List Event) (w new : Lasting K) (f : RunFault) → f ≡ fault_of o → new ≡ lasting (Err o) es → lasting (Err o) es ≡ w
      → (p : Over) → w.stage ≡ Err p → (◌≡◌ {A = Result T RunFault} (Err f) (Err (fault_of p))) × (new ≡ w)
  answers_why {T} o es w new f is over view p at =
      let stage : w.stage ≡ Err o = ap (λ (x : Lasting K). x.stage) (sym view) in
      let same : o ≡ p = cc in
      (ap (λ (x : RunFault). Err x) (is ∙ ap fault_of same), over ∙ view)

  -- if a world is over, nothing stands to which its events had to lead
  pub over_comes : (start : World) (o : Over) (es : List Event) (new : Lasting K) → new ≡ lasting (Err o) es → HasCome g start new
  over_comes start o es new is = come_over g start o (lasting (Err o) es) new is

  -- all that a world keeps after it
  pub drain_comes : (start : World) (client : List ℕ) (r : Result ℕ RunFault) (old new : Lasting K)
      → IfOk r (λ (n : ℕ). HappenDrained g client n old new) → IfErr r (λ (f : RunFault). Refuses g (Drain client) f old new)
      → HasCome g start old → HasCome g start new
  drain_comes start client (Ok n) old new h r come = come_on g start (Drain client ∷ []) (h.t ∷ []) old new h.happened come
  drain_comes start client (Err f) old new h r come = come_refused g start (Drain client) f old new r come

  -- and what it leaves of the queue
  pub drain_empties : (start : World) (client : List ℕ) (r : Result ℕ RunFault) (old new : Lasting K)
      → IfOk r (λ (n : ℕ). HappenDrained g client n old new) → HasCome g start old
      → IfOk r (λ (n : ℕ). DrainEmpties g start client n old new)
  drain_empties start client (Ok n) old new h come = λ from to was is sound untouched fairly.
      let ends : h.happened.to ≡ to = ok_is new.stage h.happened.to to h.happened.is is in
      let begins : h.happened.from ≡ from = ok_is old.stage h.happened.from from h.happened.was was in
      let here : IsSoundAt g h.happened.to = subst (λ (x : Staged K). IsSoundAt g x) (sym ends) sound in
      let c = come from was (subst (λ (x : Staged K). IsSoundAt g x) begins (h.happened.runs.sound here)) in
      let d = h.drained from to was is sound c.reached c.knowing in
      subst (λ (k : ℕ). IsEmptied from.limits client k (world_at from) (world_at to)) d.1
      (script_empties from.limits old.events client start (world_at from) untouched fairly h.t (world_at to) d.0)
  drain_empties start client (Err f) old new h come = tt

  -- ---- what a run comes to

  -- the first of the events happened, with what they tell, and these are left
  pub data IsSoFar (es : List Event) (old : Lasting K) (ts : List Telling) (rest : List Event) (new : Lasting K) : Type 0 where
    so_far : (done : List Event) → es ≡ done ++ rest → Happen g done ts old new → IsSoFar es old ts rest new

  -- at first no event has happened, and all are left
  pub so_far_none : (es : List Event) (s : Staged K) (w : Lasting K) (ts : List Telling) → w.stage ≡ Ok s → ts ≡ [] → IsSoFar es w ts es w
  so_far_none es s w ts is none = so_far [] refl (subst (λ (xs : List Telling). Happen g [] xs w w) (sym none) (happen_none g s w is))

  -- if the first that is left happens, it is one of those that did, and those behind it are left
  pub so_far_more : (es : List Event) (old : Lasting K) (ts us : List Telling) (rest after : List Event) (e : Event) (t : Telling) (mid new : Lasting K)
      → IsSoFar es old ts rest mid → rest ≡ e ∷ after → us ≡ ts ++ t ∷ [] → Happen g (e ∷ []) (t ∷ []) mid new → IsSoFar es old us after new
  so_far_more es old ts us rest after e t mid new (so_far done are happened) first told next =
      so_far (done ++ e ∷ [])
      (are ∙ (ap (λ (xs : List Event). done ++ xs) first ∙ sym (append_assoc done (e ∷ []) after)))
      (subst (λ (xs : List Telling). Happen g (done ++ e ∷ []) xs old new) (sym told)
      (happen_more g done (e ∷ []) ts (t ∷ []) old mid new happened next))

  -- if the first that is left is refused, the run stops at it
  pub so_far_stops : (es : List Event) (old : Lasting K) (ts : List Telling) (rest after : List Event) (e : Event) (f : RunFault) (mid new : Lasting K)
      → IsSoFar es old ts rest mid → rest ≡ e ∷ after → Refuses g e f mid new → Stops g es f old new
  so_far_stops es old ts rest after e f mid new (so_far done are happened) first refused = record {
    before = done;
    event = e;
    rest = after;
    are = are ∙ ap (λ (xs : List Event). done ++ xs) first;
    tells = ts;
    mid = mid;
    happened = happened;
    refused = refused;
  }

  -- if none is left, all have happened
  pub so_far_all : (es : List Event) (old : Lasting K) (ts : List Telling) (rest : List Event) (new : Lasting K) → IsSoFar es old ts rest new → length rest ≡ 0
      → Happen g es ts old new
  so_far_all es old ts rest new (so_far done are happened) none =
      subst (λ (xs : List Event). Happen g xs ts old new)
      (sym (are ∙ (ap (λ (xs : List Event). done ++ xs) (none_of rest none) ∙ append-nil done))) happened

  -- all that a world keeps after a run
  pub run_comes : {U : Type 0} (start : World) (es : List Event) (ts : List Telling) (r : Result U RunFault) (old new : Lasting K)
      → OnOk r (Happen g es ts old new) → IfErr r (λ (f : RunFault). Stops g es f old new) → HasCome g start old → HasCome g start new
  run_comes start es ts (Ok u) old new h s come = come_on g start es ts old new h come
  run_comes start es ts (Err f) old new h s come = come_stopped g start es f old new s come
