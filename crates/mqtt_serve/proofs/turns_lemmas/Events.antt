-- Calls of the broker are events that lead from broker to broker.
use Rattle.std.proofs.Common.{◌≡◌, ◌⊎◌, ℕ, Bool, true, false, List, [], ◌∷◌, ◌++◌, Option, Some, None, Ok, Err, refl, sym, ap, subst, ◌∙◌, inl, inr}
use Rattle.mqtt_keep.specs.declared.keeping.keep.Keep.{Ghosts}
use Rattle.mqtt_rules.specs.declared.step.Capacity.{Capacity}
use Rattle.mqtt_rules.specs.step.Deeds.{Deed}
use Rattle.mqtt_rules.specs.step.Laws.{AreWithin, Asked, Event, after_event, after_events}
use Rattle.mqtt_rules.specs.step.Piece.{Pieced, is_spent_if, stepped_if, told_if}
use Rattle.mqtt_rules.specs.step.State.{Broker, MemberChoice}
use Rattle.mqtt_rules.specs.step.Step.{Call, NewLine, at_moment, bytes_out, outcome_of, is_step_spent, stepped, Outcome as Told}
use Rattle.mqtt_broker.specs.declared.stored.outcome.Outcome.{Outcome}
use Rattle.mqtt_broker.specs.engine.Piece.{call_by}
use Rattle.mqtt_broker.specs.engine.Serving.{Serving}
use Rattle.mqtt_broker.specs.stored.Running.{Running}
use Rattle.mqtt_world_laws.specs.of_calls.Calls.{BeginsInOrder, SpendNone}
use Rattle.mqtt_world_laws.proofs.of_calls_lemmas.Ending.{still_in_order}
use Rattle.mqtt_world_laws.proofs.of_calls_lemmas.Keeping.{keeps_all}
use Rattle.mqtt_world_laws.proofs.of_calls_lemmas.Leaving.{moment_alone}
use Rattle.mqtt_serve.specs.turns.Events.{AreOfCalls, IsOfAnswer, IsOfCall, KeepAll}
use Rattle.mqtt_serve.specs.turns.Leaving.{AreCalls, IsCalled, call_after, line_linked, no_call, piece_came, was_asked, was_told}

-- ---- events one after the other

-- some events, and then others, lead where the others lead from where the first led
pub after_both : (xs ys : List Event) (b : Broker) → after_events (xs ++ ys) b ≡ after_events ys (after_events xs b)
after_both [] ys b = refl
after_both (x ∷ xs) ys b = after_both xs ys (after_event x b)

-- and spend no number if neither do
pub spend_both : (xs ys : List Event) (b : Broker) → SpendNone xs b → SpendNone ys (after_events xs b) → SpendNone (xs ++ ys) b
spend_both [] ys b p q = q
spend_both (x ∷ xs) ys b p q = (p.0, spend_both xs ys (after_event x b) p.1 q)

-- ---- events from one broker to another

-- events of which P holds, and which lead so
pub record Lead (P : List Event → Type 0) (old new : Broker) : Type 0 where
  pub events : List Event
  pub are : P events
  pub fair : SpendNone events old
  pub lead : after_events events old ≡ new

-- one event
one_leads : (P : List Event → Type 0) (limits : Capacity) (choice : MemberChoice) (now : ℕ) (call : Call) (old new : Broker) → AreWithin limits
    → is_step_spent limits choice now call old ≡ false → stepped limits choice now call old ≡ new → P (Asked limits choice now call ∷ []) → Lead P old new
one_leads P limits choice now call old new within unspent is its =
    record { events = Asked limits choice now call ∷ []; are = its; fair = ((within, unspent), tt); lead = is }

-- none
none_leads : (P : List Event → Type 0) (old new : Broker) → old ≡ new → P [] → Lead P old new
none_leads P old new same its = record { events = []; are = its; fair = tt; lead = same }

-- what is answered Ok is one event: what was asked, or the moment alone
answer_leads : (asks : Option Call) (limits : Capacity) (choice : MemberChoice) (now : ℕ) (old new : Broker) (out : Outcome) → AreWithin limits
    → BeginsInOrder old → is_spent_if limits choice now asks old ≡ false → new ≡ stepped_if limits choice now asks old
    → out.outputs.items ≡ bytes_out (told_if limits choice now asks old) → out.closed.items ≡ (told_if limits choice now asks old).closed
    → Lead (IsOfAnswer limits now old (Ok out) asks) old new
answer_leads (Some call) limits choice now old new out within begins unspent is outputs closed =
    one_leads (IsOfAnswer limits now old (Ok out) (Some call)) limits choice now call old new within unspent (sym is)
    (record { choice = choice; by = record { is = refl; outputs = outputs; closed = closed } })
answer_leads None limits choice now old new out within begins unspent is outputs closed =
    let m = moment_alone limits choice now old begins in
    let none = m.1.nothing in
    one_leads (IsOfAnswer limits now old (Ok out) None) limits choice now m.0 old new within m.1.unspent (m.1.moment ∙ sym is)
    (record {
      choice = choice;
      call = m.0;
      alone = m.1;
      by = record {
        is = refl;
        outputs = outputs ∙ sym (ap (λ (ds : List Deed). bytes_out (outcome_of m.0 ds (at_moment now old))) none);
        closed = closed ∙ sym (ap (λ (ds : List Deed). (outcome_of m.0 ds (at_moment now old)).closed) none);
      };
    })

module _ {K : Type 0} (g : Ghosts K) where
  -- ---- what stays over a call

  -- a device that is sound after a call was sound before it
  pub sound_before : (a b : Serving K) → IsCalled g a b → g.is_sound b.running.keep → g.is_sound a.running.keep
  sound_before a b (line_linked now result called) sound = subst (λ (r : Running K). g.is_sound r.keep) called.same sound
  sound_before a b (piece_came now number piece result called) sound = called.sound sound
  sound_before a b (was_asked now call result called) sound = called.called.sound sound
  sound_before a b (was_told result called) sound = called.called.sound sound

  -- an engine has stopped, or runs
  pub running_or_not : (s : Bool) → (s ≡ true) ⊎ (s ≡ false)
  running_or_not true = inl refl
  running_or_not false = inr refl

  not_both : (s : Bool) → s ≡ true → s ≡ false → ⊥
  not_both true is not = cc
  not_both false is not = cc

  -- an engine that runs after a call ran before it
  pub ran_before : (a b : Serving K) → IsCalled g a b → b.running.stopped ≡ false → a.running.stopped ≡ false
  ran_before a b call runs = elim (running_or_not a.running.stopped) [
    | inl stopped ↦ absurd (not_both b.running.stopped (stays a b call stopped) runs)
    | inr not ↦ not
  ]
    where
      stays : (a b : Serving K) → IsCalled g a b → a.running.stopped ≡ true → b.running.stopped ≡ true
      stays a b (line_linked now result called) stopped = ap (λ (r : Running K). r.stopped) called.same ∙ stopped
      stays a b (piece_came now number piece result called) stopped = ap (λ (s : Serving K). s.running.stopped) (called.still stopped).1 ∙ stopped
      stays a b (was_asked now call result called) stopped = ap (λ (r : Running K). r.stopped) (called.called.still stopped).1 ∙ stopped
      stays a b (was_told result called) stopped = ap (λ (r : Running K). r.stopped) (called.called.still stopped).1 ∙ stopped

  -- its limits stay
  pub limits_stay : (a b : Serving K) → IsCalled g a b → b.running.limits ≡ a.running.limits
  limits_stay a b (line_linked now result called) = ap (λ (r : Running K). r.limits) called.same
  limits_stay a b (piece_came now number piece result called) = called.limits
  limits_stay a b (was_asked now call result called) = called.called.limits
  limits_stay a b (was_told result called) = called.called.limits

  -- ---- one call

  call_leads : (a b : Serving K) (call : IsCalled g a b) → AreWithin a.running.limits → BeginsInOrder a.running.broker → g.is_sound b.running.keep
      → b.running.stopped ≡ false → Lead (IsOfCall call) a.running.broker b.running.broker
  call_leads a b (line_linked now result called) within begins sound runs =
      one_leads _ a.running.limits called.step.choice now NewLine a.running.broker b.running.broker within
      called.step.unspent (sym called.step.new_is) (record { choice = called.step.choice; is = refl })
  call_leads a b (piece_came now number piece (Ok out) called) within begins sound runs =
      let its = (called.truly sound).step in
      let that = answer_leads (call_by number piece a) a.running.limits its.step.choice now a.running.broker b.running.broker out within begins its.step.unspent
      (its.broker ∙ ap (λ (p : Pieced). p.broker) its.step.is)
      (its.tells.outputs ∙ ap (λ (p : Pieced). bytes_out p.out) its.step.is)
      (its.tells.closed ∙ ap (λ (p : Pieced). p.out.closed) its.step.is) in
      record { events = that.events; are = that.are; fair = that.fair; lead = that.lead }
  call_leads a b (piece_came now number piece (Err error) called) within begins sound runs =
      none_leads _ a.running.broker b.running.broker
      (sym ((called.truly sound).same (λ is. not_both b.running.stopped (called.stopped is) runs))) refl
  call_leads a b (was_asked now call (Ok out) called) within begins sound runs =
      let its = (called.called.truly sound).step in
      let that = answer_leads (Some call) a.running.limits its.step.choice now a.running.broker b.running.broker out within begins
      its.step.unspent its.step.new_is
      (its.tells.outputs ∙ ap bytes_out its.step.out_is)
      (its.tells.closed ∙ ap (λ (o : Told). o.closed) its.step.out_is) in
      record { events = that.events; are = that.are; fair = that.fair; lead = that.lead }
  call_leads a b (was_asked now call (Err error) called) within begins sound runs =
      none_leads _ a.running.broker b.running.broker
      (sym ((called.called.truly sound).same (λ is. not_both b.running.stopped (called.called.stopped is) runs))) refl
  call_leads a b (was_told result called) within begins sound runs =
      none_leads _ a.running.broker b.running.broker
      (sym ((called.called.truly sound).broker (λ is. not_both b.running.stopped (called.called.stopped is) runs))) refl

  -- ---- calls one after the other

  -- a device that is sound after them was sound before them
  pub sound_over : (a b : Serving K) → AreCalls g a b → g.is_sound b.running.keep → g.is_sound a.running.keep
  sound_over a b no_call sound = sound
  sound_over a b (call_after {t} calls call) sound = sound_over a t calls (sound_before t b call sound)

  -- limits stay over them
  pub limits_stay_over : (a b : Serving K) → AreCalls g a b → b.running.limits ≡ a.running.limits
  limits_stay_over a b no_call = refl
  limits_stay_over a b (call_after {t} calls call) = limits_stay t b call ∙ limits_stay_over a t calls

  -- calls lead from broker to broker
  pub calls_lead : (a b : Serving K) (calls : AreCalls g a b) → AreWithin a.running.limits → BeginsInOrder a.running.broker → g.is_sound b.running.keep
      → b.running.stopped ≡ false → Lead (AreOfCalls calls) a.running.broker b.running.broker
  calls_lead a b no_call within begins sound runs = none_leads _ a.running.broker a.running.broker refl refl
  calls_lead a b (call_after {t} calls call) within begins sound runs =
      let before = calls_lead a t calls within begins (sound_before t b call sound) (ran_before t b call runs) in
      let there = subst BeginsInOrder before.lead (still_in_order before.events a.running.broker begins before.fair) in
      let behind = call_leads t b call (subst AreWithin (sym (limits_stay_over a t calls)) within) there sound runs in
      record {
        events = before.events ++ behind.events;
        are = record { before = before.events; behind = behind.events; first = before.are; next = behind.are; is = refl };
        fair = spend_both before.events behind.events a.running.broker before.fair
            (subst (SpendNone behind.events) (sym before.lead) behind.fair);
        lead = after_both before.events behind.events a.running.broker ∙ ap (after_events behind.events) before.lead ∙ behind.lead;
      }

  -- so they keep all
  pub calls_keep : (a b : Serving K) (calls : AreCalls g a b) → AreWithin a.running.limits → BeginsInOrder a.running.broker → g.is_sound b.running.keep
      → b.running.stopped ≡ false → KeepAll calls
  calls_keep a b calls within begins sound runs =
      let its = calls_lead a b calls within begins sound runs in
      record {
        events = its.events;
        of_calls = its.are;
        fair = its.fair;
        lead = its.lead;
        keep = keeps_all its.events a.running.broker begins its.fair;
        in_order = subst BeginsInOrder its.lead (still_in_order its.events a.running.broker begins its.fair);
      }
