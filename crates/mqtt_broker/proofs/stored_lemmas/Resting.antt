-- An engine at rest: it refuses a call before a step begins, time goes on, or a line is linked.
use Rattle.std.proofs.Common.{◌≡◌, ℕ, suc, Bool, true, false, cond, [], ◌∷◌, Some, None, map, arith, refl, ap, sym, subst, ◌∙◌, inl}
use Rattle.std.specs.Prelude.{Result, Ok, Err}
use Rattle.mqtt_flow.specs.ring.AtHand.{content_at, nothing_waits}
use Rattle.mqtt_records.specs.messages.Content.{CopyContent}
use Rattle.mqtt_records.specs.messages.Filling.{Fillings}
use Rattle.mqtt_keep.specs.declared.keeping.keep.Keep.{Ghosts}
use Rattle.mqtt_records.specs.declared.state.records.Records.{Records}
use Rattle.mqtt_records.specs.state.Telling.{AreTold}
use Rattle.mqtt_rules.specs.declared.step.Capacity.{Capacity}
use Rattle.mqtt_rules.specs.step.Deeds.{Link, after_all}
use Rattle.mqtt_rules.specs.step.Routing.{subscribers}
use Rattle.mqtt_rules.specs.step.State.{Broker, line_at}
use Rattle.mqtt_rules.specs.step.Step.{Call, NewLine, at_moment, can_link, nothing_told, stepped}
use Rattle.mqtt_rules.proofs.step_lemmas.fit.RowsFit.{moment_last}
use Rattle.mqtt_rules.specs.alike.Alike.{AlikeBrokers, with_records, with_sessions}
use Rattle.mqtt_rules.specs.alike.Slim.{slim_broker, slim_session}
use Rattle.mqtt_rules.proofs.alike_lemmas.Steps.{step_alike}
use Rattle.mqtt_rules.specs.filling.Filling.{filled}
use Rattle.mqtt_rules.proofs.filling_lemmas.Equivalence.{slim_through}
use Rattle.mqtt_rules.proofs.filling_lemmas.SlimAgain.{broker_once}
use Rattle.mqtt_rules.proofs.filling_lemmas.Steps.{moment_alike}
use Rattle.mqtt_broker_looks.specs.at_hand.Hand.{Hand, SayWhatIsStored, at_hand_of}
use Rattle.mqtt_broker_step.specs.declared.call.EngineError.{EngineError}
use Rattle.mqtt_broker_step.specs.declared.call.EngineError.TheVariants.{Memory, Stopped}
use Rattle.mqtt_broker_step.specs.Doing.{after_act, links}
use Rattle.mqtt_broker_step.specs.Stepping.{Stepping, at_rest}
use Rattle.mqtt_broker_acts.specs.clock.Quiet.{AreQuietBefore}
use Rattle.mqtt_broker_queue.specs.subscribers.Indexing.{Serves}
use Rattle.mqtt_broker_acts.specs.calls.Sound.{IsSound}
use Rattle.mqtt_broker_acts.proofs.calls_lemmas.SoundLaw.{step_sound}
use Rattle.mqtt_broker.specs.declared.stored.outcome.Outcome.{Outcome}
use Rattle.mqtt_broker.specs.stored.Calling.{Called, IsAnswered, IsOn, Tells}
use Rattle.mqtt_broker.specs.stored.Running.{Running}
use Rattle.mqtt_broker.proofs.stored_lemmas.Called.{answered_for_lines}
use Rattle.mqtt_broker.proofs.stored_lemmas.Linked.{first_members, link_records, link_unspent, linked_step, passed_over}
use Rattle.mqtt_broker.specs.stored.Finishing.{GoesAlong, HasWhole, HoldsWhole, IsAtRest}
use Rattle.mqtt_broker.specs.stored.Viewing.{viewed}
use Rattle.mqtt_broker.specs.declared.stored.parts.EngineParts.{EngineParts}
use Rattle.mqtt_broker.proofs.stored_lemmas.Finished.{goes_slim, view_is}
use Rattle.mqtt_broker.proofs.stored_lemmas.Reading.{read_refused}

-- ---- refusals before a step

-- an engine that has stopped answers so, and stays as it is
pub called_stopped : {K : Type 0} (g : Ghosts K) (now : ℕ) (call : Call) (old : Running K) (result : Result Outcome EngineError) (e : EngineError) → result ≡ Err e → e ≡ Stopped → old.stopped ≡ true
    → Called g now call old result old
called_stopped g now call old result e gives is stopped = subst (λ (r : Result Outcome EngineError). Called g now call old r old) (sym gives) (record {
  truly = λ sound. record {
    step = tt;
    stored = tt;
    same = λ not. refl;
    kept = λ not. absurd (not (ap Err is));
    spent = λ spent. absurd cc;
    crash = λ runs. absurd cc;
  };
  answered = tt;
  lines = (refl, refl);
  runs = λ not. absurd (not (ap Err is));
  limits = refl;
  stopped = λ same. stopped;
  cause = λ same runs. absurd cc;
  still = λ was. (ap Err is, refl);
  sound = λ sound. sound;
})

module _ {K : Type 0} (g : Ghosts K)
    (tells : (keep : K) (r : Records) → g.is_sound keep → g.is_loaded keep → g.holds keep r → AreTold (g.fillings keep) r)
    (now : ℕ) (call : Call) (p : EngineParts K) (rest : IsAtRest g p) where
  -- for want of memory nothing changed
  pub called_stale : (old : Running K) (result : Result Outcome EngineError) (e : EngineError) → result ≡ Err e → e ≡ Memory → viewed g p ≡ old → old.stopped ≡ false
      → Called g now call old result (viewed g p)
  called_stale old result e gives is same running =
      let runs : p.stopped ≡ false = ap (λ (r : Running _). r.stopped) same ∙ running in
      let h = rest.its runs in
      subst (λ (r : Running _). Called g now call r result (viewed g p)) same
      (subst (λ (r : Result Outcome EngineError). Called g now call (viewed g p) r (viewed g p)) (sym (gives ∙ ap Err is))
      (subst (λ (t : Bool). Called g now call (record { keep = p.keep; limits = p.step.limits; broker = filled (g.fillings p.keep) p.step.broker; stopped = t }) (Err Memory)
      (record { keep = p.keep; limits = p.step.limits; broker = filled (g.fillings p.keep) p.step.broker; stopped = t })) (sym runs)
      (read_refused g tells now call p.keep p.keep p.hand p.step.limits p.step.broker h (λ sound. sound) (λ r left holds may. inl may) h.its)))

  -- ---- a call that does nothing: time goes on

  abbrev later : EngineParts K
  later = record p { step = at_rest p.step.limits (at_moment now p.step.broker) }

  rested_here : (out : Outcome) → p.stopped ≡ false → IsAnswered p.step.limits (viewed g p).broker now call out (at_moment now (viewed g p).broker)
      → Called g now call (viewed g p) (Ok out) (viewed g later)
  rested_here out runs its =
      let h = rest.its runs in
      let b = (viewed g p).broker in
      record {
        truly = λ sound.
            let view = view_is g tells p.keep p.step.limits p.step.broker h.whole h.its sound in
            record {
              step = its;
              stored = subst (λ (x : Broker). g.holds p.keep x.records) (sym view) h.its.holds;
              same = λ not. tt;
              kept = λ not. tt;
              spent = λ is. absurd cc;
              crash = λ was left may. inl may;
            };
        answered = answered_for_lines p.step.limits b now call out (at_moment now b) its;
        lines = tt;
        runs = λ not. runs;
        limits = refl;
        stopped = λ is. absurd cc;
        cause = λ is was. absurd cc;
        still = λ was. let r = runs in absurd cc;
        sound = λ sound. sound;
      }

  -- a call that is answered by nothing does nothing but that its moment comes
  pub rested : (old : Running K) (out : Outcome) (t : Stepping) → viewed g p ≡ old → old.stopped ≡ false → IsAnswered old.limits old.broker now call out (at_moment now old.broker)
      → t ≡ at_rest p.step.limits (at_moment now p.step.broker) → Called g now call old (Ok out) (viewed g (record p { step = t }))
  rested old out t same running its is =
      subst (λ (x : Stepping). Called g now call old (Ok out) (viewed g (record p { step = x }))) (sym is)
      (subst (λ (r : Running _). Called g now call r (Ok out) (viewed g later)) same
      (rested_here out (ap (λ (r : Running _). r.stopped) same ∙ running)
      (subst (λ (r : Running _). IsAnswered r.limits r.broker now call out (at_moment now r.broker)) (sym same) its)))

  -- so does one on a line that is not linked
  pub skipped : (line : ℕ) (old : Running K) (out : Outcome) (t : Stepping) → viewed g p ≡ old → old.stopped ≡ false → line_at line old.broker ≡ None → Tells nothing_told out → IsOn line call
      → t ≡ at_rest p.step.limits (at_moment now p.step.broker) → Called g now call old (Ok out) (viewed g (record p { step = t }))
  skipped line old out t same running none tells_nothing on is =
      rested old out t same running (passed_over old.limits now line old.broker (at_moment now old.broker) out none refl tells_nothing call on) is

-- ---- at rest still

-- a later moment alone leaves a sound broker sound
sound_at : (limits : Capacity) (now : ℕ) (b : Broker) → IsSound limits b → IsSound limits (at_moment now b)
sound_at limits now b h = record {
  limited = h.limited;
  coherent = h.coherent;
  timed = omega (arith, h.timed);
  last = moment_last b now h.last;
  accepted = h.accepted;
  shared = h.shared;
  flight = h.flight;
  orders = h.orders;
  filters = h.filters;
  lines = record { ascending = h.lines.ascending; given = h.lines.given; once = h.lines.once; stands = h.lines.stands; connected = h.lines.connected };
  contents = record { stored = h.contents.stored; lines = h.contents.lines };
}

goes_kept : {K : Type 0} (b c : Broker) (p : EngineParts K) (t : Stepping) → c.records ≡ b.records → GoesAlong b p → GoesAlong c (record p { step = t })
goes_kept b c p t kept goes = record {
  serves = λ fresh. subst (λ (r : Records). Serves p.index.sessions (subscribers r)) (sym kept) (goes.serves fresh);
  quiet = subst (λ (r : Records). AreQuietBefore p.quiet r) (sym kept) goes.quiet;
}

module _ {K : Type 0} (g : Ghosts K) (now : ℕ) (p : EngineParts K) (rest : IsAtRest g p) where
  -- when time has gone on
  later_its : HasWhole g p.keep p.hand p.step.limits p.step.broker → HasWhole g p.keep p.hand p.step.limits (at_moment now p.step.broker)
  later_its h = record {
    whole = at_moment now h.whole;
    its = record {
      alike = moment_alike now p.step.broker h.whole h.its.alike;
      sound = sound_at p.step.limits now h.whole h.its.sound;
      loaded = h.its.loaded;
      holds = h.its.holds;
    };
    at_hand = h.at_hand;
  }

  -- the engine is at rest at a later moment
  pub later_rest : (t : Stepping) → t ≡ at_rest p.step.limits (at_moment now p.step.broker) → IsAtRest g (record p { step = t })
  later_rest t is = subst (λ (x : Stepping). IsAtRest g (record p { step = x })) (sym is) (record {
    rest = refl;
    slim = ap (at_moment now) rest.slim;
    sound = record {
      whole = at_moment now rest.sound.whole;
      alike = moment_alike now p.step.broker rest.sound.whole rest.sound.alike;
      sound = sound_at p.step.limits now rest.sound.whole rest.sound.sound;
    };
    its = λ runs. later_its (rest.its runs);
    goes = goes_kept p.step.broker (at_moment now p.step.broker) p (at_rest p.step.limits (at_moment now p.step.broker)) refl rest.goes;
  })

-- ---- a line is linked

abbrev after_link : Capacity → ℕ → Broker → Broker
after_link limits now b = after_act (links limits) (at_moment now b)

-- a line is linked in a filled broker as in its own
pub link_fills : (limits : Capacity) (fillings : Fillings) (now : ℕ) (b : Broker) → filled fillings (after_link limits now b) ≡ after_link limits now (filled fillings b)
link_fills limits fillings now b = by (can_link limits (at_moment now b))
  where
    by : (may : Bool) → filled fillings (after_all (cond may (Link (suc b.given) ∷ []) []) (at_moment now b)) ≡ after_all (cond may (Link (suc b.given) ∷ []) []) (at_moment now (filled fillings b))
    by true = refl
    by false = refl

-- rows stay slim
slim_stays : (limits : Capacity) (now : ℕ) (b : Broker) → slim_broker b ≡ b → slim_broker (after_link limits now b) ≡ after_link limits now b
slim_stays limits now b slim =
    let c = after_link limits now b in
    let kept : c.records ≡ b.records = link_records limits now b in
    ap (λ (r : Records). with_records r c)
    (ap (λ (r : Records). with_sessions (map slim_session r.sessions) r) kept ∙ (ap (λ (x : Broker). x.records) slim ∙ sym kept))

module _ {K : Type 0} (g : Ghosts K) (now : ℕ) (p : EngineParts K) (rest : IsAtRest g p) where
  next_alike : (whole : Broker) → AlikeBrokers p.step.broker whole → AlikeBrokers (after_link p.step.limits now p.step.broker) (stepped p.step.limits first_members now NewLine whole)
  next_alike whole alike =
      subst (λ (b : Broker). AlikeBrokers b (stepped p.step.limits first_members now NewLine whole)) (sym (linked_step p.step.limits now p.step.broker))
      (step_alike p.step.limits first_members now NewLine p.step.broker whole alike)

  next_sound : (whole : Broker) → IsSound p.step.limits whole → IsSound p.step.limits (stepped p.step.limits first_members now NewLine whole)
  next_sound whole sound = step_sound p.step.limits first_members now NewLine whole (link_unspent p.step.limits now whole) tt sound

  next_records : (whole : Broker) → (stepped p.step.limits first_members now NewLine whole).records ≡ whole.records
  next_records whole = ap (λ (b : Broker). b.records) (sym (linked_step p.step.limits now whole)) ∙ link_records p.step.limits now whole

  next_its : HasWhole g p.keep p.hand p.step.limits p.step.broker → HasWhole g p.keep p.hand p.step.limits (after_link p.step.limits now p.step.broker)
  next_its h = record {
    whole = stepped p.step.limits first_members now NewLine h.whole;
    its = record {
      alike = next_alike h.whole h.its.alike;
      sound = next_sound h.whole h.its.sound;
      loaded = h.its.loaded;
      holds = subst (λ (r : Records). g.holds p.keep r) (sym (next_records h.whole)) h.its.holds;
    };
    at_hand = λ sound. subst (λ (r : Records). SayWhatIsStored p.hand r) (sym (next_records h.whole)) (h.at_hand sound);
  }

  -- with a line linked it is at rest still
  pub link_rest : (t : Stepping) → t ≡ at_rest p.step.limits (after_link p.step.limits now p.step.broker) → IsAtRest g (record p { step = t })
  link_rest t is = subst (λ (x : Stepping). IsAtRest g (record p { step = x })) (sym is) (record {
    rest = refl;
    slim = slim_stays p.step.limits now p.step.broker rest.slim;
    sound = record {
      whole = stepped p.step.limits first_members now NewLine rest.sound.whole;
      alike = next_alike rest.sound.whole rest.sound.alike;
      sound = next_sound rest.sound.whole rest.sound.sound;
    };
    its = λ runs. next_its (rest.its runs);
    goes = goes_kept p.step.broker (after_link p.step.limits now p.step.broker) p (at_rest p.step.limits (after_link p.step.limits now p.step.broker)) (link_records p.step.limits now p.step.broker) rest.goes;
  })

-- ---- an engine that begins, whose rows become slim

-- nothing is at hand, so it says what is stored
nothing_says : (hand : Hand) (r : Records) → ((birth : ℕ) → at_hand_of birth hand ≡ nothing_waits) → SayWhatIsStored hand r
nothing_says hand r empty birth place content is =
    let no : content_at {X = CopyContent} place nothing_waits ≡ Some content = ap (content_at place) (sym (empty birth)) ∙ is in
    absurd cc

-- it is at rest
pub over_rest : {K : Type 0} (g : Ghosts K) (p : EngineParts K) (limits : Capacity) (b whole : Broker) → HoldsWhole g p.keep limits b whole → Serves p.index.sessions (subscribers b.records) → p.quiet ≡ 0
    → ((birth : ℕ) → at_hand_of birth p.hand ≡ nothing_waits) → p.step ≡ at_rest limits (slim_broker b) → IsAtRest g p
over_rest g p limits b whole h serves zero empty is =
    let alike = slim_through b whole h.alike in
    let goes = goes_slim b p (record { serves = λ fresh. serves; quiet = λ now before. absurd (omega (arith, before, zero)) }) in
    subst (λ (t : Stepping). IsAtRest g (record p { step = t })) (sym is) (record {
      rest = refl;
      slim = broker_once b;
      sound = record { whole = whole; alike = alike; sound = h.sound };
      its = λ runs. record { whole = whole; its = record { alike = alike; sound = h.sound; loaded = h.loaded; holds = h.holds }; at_hand = λ device. nothing_says p.hand whole.records empty };
      goes = record { serves = goes.serves; quiet = goes.quiet };
    })
