-- What starts of the server leave is stored after their calls of the broker.
use Rattle.std.proofs.Common.{◌≡◌, ◌⊎◌, ℕ, true, false, List, [], ◌∷◌, ◌++◌, Option, Some, None, refl, sym, ap, subst, ◌∙◌, inl, inr}
use Rattle.std.specs.Prelude.{Result, Ok, Err}
use Rattle.mqtt_keep.specs.declared.keeping.keep.Keep.{Ghosts}
use Rattle.mqtt_keep.specs.declared.keeping.keep.KeepError.{KeepError}
use Rattle.mqtt_records.specs.declared.state.records.Records.{Records}
use Rattle.mqtt_rules.specs.declared.step.Capacity.{Capacity}
use Rattle.mqtt_rules.specs.step.Laws.{AreWithin, Asked, Event, Reopened, after_events, blank}
use Rattle.mqtt_rules.specs.step.State.{Broker, MemberChoice, stored}
use Rattle.mqtt_rules.specs.step.Step.{Call, is_opening_spent, opened}
use Rattle.mqtt_broker.specs.engine.Piece.{IsLeftByAny, call_by}
use Rattle.mqtt_broker.specs.engine.Serving.{Serving}
use Rattle.mqtt_broker.specs.stored.Calling.{IsLeftBy}
use Rattle.mqtt_broker.specs.stored.Closing.{IsStoredAfter}
use Rattle.mqtt_broker.specs.stored.Opening.{IsStoredOpening, Opened}
use Rattle.mqtt_broker.specs.stored.Running.{Running}
use Rattle.mqtt_world_laws.specs.of_calls.Calls.{BeginsInOrder, SpendNone}
use Rattle.mqtt_world_laws.proofs.of_calls_lemmas.Ending.{still_in_order}
use Rattle.mqtt_world_laws.proofs.of_calls_lemmas.Keeping.{blank_in_order, keeps_from_nothing}
use Rattle.mqtt_serve.specs.turns.Events.{AreOfCalls, IsBoth}
use Rattle.mqtt_serve.specs.turns.Leaving.{AreCalls, IsCalled, call_after, line_linked, no_call, piece_came, was_asked, was_told}
use Rattle.mqtt_serve.specs.turns.Settled.{Runs}
use Rattle.mqtt_serve.specs.turns.Starts.{AreOfStarts, AreStarts, HasStarted, IsLeftByStep, IsLeftOf, IsLeftWithin, KeepAllLeft, KeepAllSoFar, WasOpening, WasServed, no_start, only_opened, served, store_behind}
use Rattle.mqtt_serve.proofs.turns_lemmas.Events.{Lead, after_both, calls_lead, limits_stay_over, running_or_not, sound_before, sound_over, spend_both}
use Rattle.mqtt_serve.proofs.turns_lemmas.Lasting.{stretches_run}
use Rattle.mqtt_serve.proofs.turns_lemmas.Saying.{stretches_say}

-- ---- events after which something is stored

-- events of which P holds, after which these records are stored
pub record Leave (P : List Event → Type 0) (old : Broker) (left : Records) : Type 0 where
  pub events : List Event
  pub are : P events
  pub fair : SpendNone events old
  pub leave : stored (after_events events old) ≡ left

-- what leads, and then leaves
lead_leave : (P Q : List Event → Type 0) (a b : Broker) (left : Records) → Lead P a b → Leave Q b left → Leave (IsBoth P Q) a left
lead_leave P Q a b left led leaves = record {
  events = led.events ++ leaves.events;
  are = record { before = led.events; behind = leaves.events; first = led.are; next = leaves.are; is = refl };
  fair = spend_both led.events leaves.events a led.fair (subst (SpendNone leaves.events) (sym led.lead) leaves.fair);
  leave = ap stored (after_both led.events leaves.events a) ∙ ap (λ (c : Broker). stored (after_events leaves.events c)) led.lead ∙ leaves.leave;
}

-- which is of something else too
leave_as : (P Q : List Event → Type 0) (b : Broker) (left : Records) → ((es : List Event) → P es → Q es) → Leave P b left → Leave Q b left
leave_as P Q b left f leaves = record { events = leaves.events; are = f leaves.events leaves.are; fair = leaves.fair; leave = leaves.leave }

-- ---- what a crash leaves of a call

step_leaves : (limits : Capacity) (b : Broker) (now : ℕ) (call : Call) (r : Records) → AreWithin limits → IsLeftBy limits b now call r
    → Leave (IsLeftByStep limits now b (Some call) r) b r
step_leaves limits b now call r within (inl is) = record { events = []; are = inl (refl, is); fair = tt; leave = sym is }
step_leaves limits b now call r within (inr next) = record {
  events = Asked limits next.choice now call ∷ [];
  are = inr (next, refl);
  fair = ((within, next.unspent), tt);
  leave = sym next.is;
}

any_leaves : (asks : Option Call) (limits : Capacity) (b : Broker) (now : ℕ) (r : Records) → AreWithin limits → IsLeftByAny limits b now asks r
    → Leave (IsLeftByStep limits now b asks r) b r
any_leaves None limits b now r within is = record { events = []; are = (refl, is); fair = tt; leave = sym is }
any_leaves (Some call) limits b now r within by = step_leaves limits b now call r within by

module _ {K : Type 0} (g : Ghosts K) where
  -- whatever a crash leaves is stored after the calls, as far as they go
  abbrev CallsLeave : (a b : Serving K) → AreCalls g a b → Type 0
  CallsLeave a b calls = (left : Records) → g.leaves b.running.keep left → Leave (IsLeftOf calls left) a.running.broker left

  -- before a call, or with its step
  either : (a t b : Serving K) (calls : AreCalls g a t) (call : IsCalled g t b) (left : Records) → CallsLeave a t calls
      → Lead (AreOfCalls calls) a.running.broker t.running.broker
      → g.leaves t.running.keep left ⊎ Leave (IsLeftWithin call left) t.running.broker left
      → Leave (IsLeftOf (call_after calls call) left) a.running.broker left
  either a t b calls call left before led (inl may) =
      leave_as (IsLeftOf calls left) (IsLeftOf (call_after calls call) left) a.running.broker left (λ es of. inl of) (before left may)
  either a t b calls call left before led (inr by) =
      leave_as (IsBoth (AreOfCalls calls) (IsLeftWithin call left)) (IsLeftOf (call_after calls call) left) a.running.broker left (λ es of. inr of)
      (lead_leave (AreOfCalls calls) (IsLeftWithin call left) a.running.broker t.running.broker left led by)

  -- an engine that had stopped: its store stays
  still_leaves : (a b : Serving K) → IsCalled g a b → a.running.stopped ≡ true → (left : Records) → g.leaves b.running.keep left
      → g.leaves a.running.keep left
  still_leaves a b (line_linked now result called) stopped left may = subst (λ (r : Running K). g.leaves r.keep left) called.same may
  still_leaves a b (piece_came now number piece result called) stopped left may =
      subst (λ (s : Serving K). g.leaves s.running.keep left) (called.still stopped).1 may
  still_leaves a b (was_asked now call result called) stopped left may =
      subst (λ (r : Running K). g.leaves r.keep left) (called.called.still stopped).1 may
  still_leaves a b (was_told result called) stopped left may = subst (λ (r : Running K). g.leaves r.keep left) (called.called.still stopped).1 may

  -- one that runs: what could be left before, or what was stored before the call, or after it
  call_leaves : (a b : Serving K) (call : IsCalled g a b) → a.running.stopped ≡ false → g.is_sound b.running.keep → AreWithin a.running.limits
      → (left : Records) → g.leaves b.running.keep left → g.leaves a.running.keep left ⊎ Leave (IsLeftWithin call left) a.running.broker left
  call_leaves a b (line_linked now result called) runs sound within left may = inl (subst (λ (r : Running K). g.leaves r.keep left) called.same may)
  call_leaves a b (piece_came now number piece result called) runs sound within left may = elim ((called.truly sound).crash runs left may) [
    | inl before ↦ inl before
    | inr by ↦
        let that = any_leaves (call_by number piece a) a.running.limits a.running.broker now left within by in
        inr (record { events = that.events; are = that.are; fair = that.fair; leave = that.leave })
  ]
  call_leaves a b (was_asked now call result called) runs sound within left may = elim ((called.called.truly sound).crash runs left may) [
    | inl before ↦ inl before
    | inr by ↦
        let that = step_leaves a.running.limits a.running.broker now call left within by in
        inr (record { events = that.events; are = that.are; fair = that.fair; leave = that.leave })
  ]
  call_leaves a b (was_told result called) runs sound within left may = elim ((called.called.truly sound).crash runs left may) [
    | inl before ↦ inl before
    | inr is ↦ inr (record { events = []; are = (refl, is); fair = tt; leave = sym is })
  ]

  -- ---- calls one after the other

  -- whatever a crash leaves of them is stored after some of them
  pub calls_leave : (a b : Serving K) (calls : AreCalls g a b) → AreWithin a.running.limits → BeginsInOrder a.running.broker
      → ((left : Records) → g.leaves a.running.keep left → left ≡ stored a.running.broker) → g.is_sound b.running.keep → CallsLeave a b calls
  calls_leave a b no_call within begins all sound left may =
      record { events = []; are = (refl, all left may); fair = tt; leave = sym (all left may) }
  calls_leave a b (call_after {t} calls call) within begins all sound left may =
      let there = sound_before g t b call sound in
      let before = calls_leave a t calls within begins all there in
      elim (running_or_not g t.running.stopped) [
        | inl stopped ↦
            leave_as (IsLeftOf calls left) (IsLeftOf (call_after calls call) left) a.running.broker left (λ es of. inl of)
            (before left (still_leaves t b call stopped left may))
        | inr runs ↦
            either a t b calls call left before (calls_lead g a t calls within begins there runs)
            (call_leaves t b call runs sound (subst AreWithin (sym (limits_stay_over g a t calls)) within) left may)
      ]

  -- ---- a start

  module _ (leaves_held : (keep : K) (left r : Records) → g.is_settled keep → g.holds keep r → g.leaves keep left → left ≡ r)
      (limits : Capacity) (r : Records) (last : Serving K) (started : HasStarted g limits r last) (within : AreWithin limits)
      (P : List Event → Type 0) (found : Leave P blank r) (sound : g.is_sound last.running.keep) where
    abbrev start : Serving K
    start = started.start

    abbrev first : Serving K
    first = started.first

    abbrev its_choice : MemberChoice
    its_choice = started.begins.opening.choice

    abbrev opens : Broker
    opens = opened limits its_choice started.begin r

    sound_first : g.is_sound first.running.keep
    sound_first = sound_over g first last started.calls sound

    sound_start : g.is_sound start.running.keep
    sound_start = started.settles.called.sound sound_first

    unspent : is_opening_spent limits its_choice started.begin r ≡ false
    unspent = subst (λ (q : Records). is_opening_spent limits its_choice started.begin q ≡ false) started.finds started.begins.opening.unspent

    -- the opening of what it found
    broker_is : first.running.broker ≡ opens
    broker_is =
        (started.settles.called.truly sound_first).broker (λ e. cc) ∙ started.begins.whole sound_start ∙ started.begins.opening.new_is
        ∙ ap (opened limits its_choice started.begin) started.finds

    within_first : AreWithin first.running.limits
    within_first = subst AreWithin (sym (started.settles.called.limits ∙ started.begins.limits_are)) within

    -- the opening, and more, behind the events before it
    abbrev whole : List Event → List Event
    whole since = found.events ++ Reopened limits its_choice started.begin ∷ since

    whole_fair : (since : List Event) → SpendNone since opens → SpendNone (whole since) blank
    whole_fair since fair = spend_both found.events (Reopened limits its_choice started.begin ∷ since) blank found.fair (
      (within, subst (λ (q : Records). is_opening_spent limits its_choice started.begin q ≡ false) (sym found.leave) unspent),
      subst (λ (q : Records). SpendNone since (opened limits its_choice started.begin q)) (sym found.leave) fair,
    )

    whole_lead : (since : List Event) → after_events (whole since) blank ≡ after_events since opens
    whole_lead since =
        after_both found.events (Reopened limits its_choice started.begin ∷ since) blank
        ∙ ap (λ (q : Records). after_events since (opened limits its_choice started.begin q)) found.leave

    in_order : BeginsInOrder first.running.broker
    in_order = subst BeginsInOrder (whole_lead [] ∙ sym broker_is) (still_in_order (whole []) blank blank_in_order (whole_fair [] tt))

    -- all is stored as the calls begin
    all_stored : (left : Records) → g.leaves first.running.keep left → left ≡ stored first.running.broker
    all_stored left may =
        let truly = started.settles.called.truly sound_first in
        leaves_held first.running.keep left start.running.broker.records started.settles.called.settled (truly.holds (λ e. cc)) may
        ∙ sym (ap stored (truly.broker (λ e. cc)))

    -- whenever it is stopped, what it leaves is stored after its calls, as far as they go
    pub start_leaves : (left : Records) → g.leaves last.running.keep left → Leave (IsLeftOf started.calls left) opens left
    start_leaves left may =
        let its = calls_leave first last started.calls within_first in_order all_stored sound left may in
        record {
          events = its.events;
          are = its.are;
          fair = subst (SpendNone its.events) broker_is its.fair;
          leave = ap (λ (b : Broker). stored (after_events its.events b)) (sym broker_is) ∙ its.leave;
        }

    -- while it runs its calls lead to its broker
    pub start_leads : last.running.stopped ≡ false → Lead (AreOfCalls started.calls) opens last.running.broker
    start_leads runs =
        let its = calls_lead g first last started.calls within_first in_order sound runs in
        record {
          events = its.events;
          are = its.are;
          fair = subst (SpendNone its.events) broker_is its.fair;
          lead = ap (after_events its.events) (sym broker_is) ∙ its.lead;
        }

  -- ---- a store is served

  -- what is served and given back has started so
  pub runs_started : (limits : Capacity) (begin turns : ℕ) (keep given : K) → Runs g limits begin turns keep given → WasServed g limits keep given
  runs_started limits begin turns keep given runs =
      let ran = runs.ran.ran in
      let on = ran.is_so.1 in
      let calls = (stretches_say g begin ran.read on.0 _ _ on.1).calls in
      let sound_then : g.is_sound given → g.is_sound runs.start.running.keep =
      (λ sound. runs.settles.called.sound (sound_over g runs.first runs.stop calls (subst g.is_sound runs.closed sound))) in
      record {
        found = runs.begins.records;
        last = runs.stop;
        started = record {
          keep = keep;
          begin = begin;
          start = runs.start;
          first = runs.first;
          begins = runs.begins;
          finds = refl;
          settles = runs.settles;
          calls = calls;
        };
        its = refl;
        exact = λ held has sound. runs.begins.exact held has (sound_then sound);
        leaves = λ sound. runs.begins.found (sound_then sound);
        runs = stretches_run g begin ran.read on.0 _ _ on.1 (runs.settles.called.runs (λ e. cc));
        given_is = runs.closed;
      }

  -- ---- one start after the other

  module _ (leaves_held : (keep : K) (left r : Records) → g.is_settled keep → g.holds keep r → g.leaves keep left → left ≡ r) where
    -- what a crash leaves of an opening: what there was, or what is stored after it
    crash_leaves : (limits : Capacity) (now : ℕ) (keep : K) (result : Result (Running K) (K × KeepError)) (left : Records) → Opened g limits now keep result
        → g.is_sound (store_behind result) → g.leaves (store_behind result) left → g.leaves keep left ⊎ IsStoredOpening g limits now keep left
    crash_leaves limits now keep (Ok engine) left opened sound may = opened.opened.crash left may sound
    crash_leaves limits now keep (Err e) left opened sound may = opened.refused.crash left may sound

    opening_leaves : (limits : Capacity) (now : ℕ) (r left : Records) → WasOpening g limits now r left → (left ≡ r) ⊎ IsStoredAfter limits now r left
    opening_leaves limits now r left was = elim (crash_leaves limits now was.keep was.result left was.opened was.sound was.leaves) [
      | inl before ↦ inl (leaves_held was.keep left r was.settled was.has before)
      | inr after ↦ inr (subst (λ (q : Records). IsStoredAfter limits now q left) (after.load.exact r was.has after.sound) after.is)
    ]

    leave_all : (r : Records) (starts : AreStarts g r) → Leave (AreOfStarts starts) blank r
    leave_all r no_start = record { events = []; are = refl; fair = tt; leave = refl }
    leave_all at (served {r} limits left within before stop) =
        let found = leave_all r before in
        let P = AreOfStarts before in
        let last = stop.last in
        let its = start_leaves leaves_held limits r last stop.started within P found stop.sound left stop.leaves in
        record {
          events = whole leaves_held limits r last stop.started within P found stop.sound its.events;
          are = record {
            before = found.events;
            choice = stop.started.begins.opening.choice;
            since = its.events;
            are_before = found.are;
            are_since = its.are;
            is = refl;
          };
          fair = whole_fair leaves_held limits r last stop.started within P found stop.sound its.events its.fair;
          leave = ap stored (whole_lead leaves_held limits r last stop.started within P found stop.sound its.events) ∙ its.leave;
        }
    leave_all at (only_opened {r} limits now left within before opening) =
        let found = leave_all r before in
        elim (opening_leaves limits now r left opening) [
          | inl same ↦ record { events = found.events; are = inl (found.are, same); fair = found.fair; leave = found.leave ∙ sym same }
          | inr after ↦
              let again = Reopened limits after.choice now ∷ [] in
              record {
                events = found.events ++ again;
                are = inr (record { before = found.events; behind = again; first = found.are; next = record { after = after; is = refl }; is = refl });
                fair = spend_both found.events again blank found.fair
                    ((within, subst (λ (q : Records). is_opening_spent limits after.choice now q ≡ false) (sym found.leave) after.unspent), tt);
                leave = ap stored (after_both found.events again blank) ∙ ap (λ (q : Records). stored (opened limits after.choice now q)) found.leave ∙ sym after.is;
              }
        ]

    -- what they left keeps all
    pub starts_keep : (r : Records) (starts : AreStarts g r) → KeepAllLeft starts
    starts_keep r starts =
        let its = leave_all r starts in
        record { events = its.events; of_starts = its.are; fair = its.fair; is = its.leave; keep = keeps_from_nothing its.events its.fair }

    -- and so does all that was called so far
    pub so_far_keep : (limits : Capacity) (r : Records) (last : Serving K) (starts : AreStarts g r) (started : HasStarted g limits r last) → AreWithin limits
        → g.is_sound last.running.keep → last.running.stopped ≡ false → KeepAllSoFar starts started
    so_far_keep limits r last starts started within sound runs =
        let found = leave_all r starts in
        let P = AreOfStarts starts in
        let its = start_leads leaves_held limits r last started within P found sound runs in
        let all = whole leaves_held limits r last started within P found sound its.events in
        let fair = whole_fair leaves_held limits r last started within P found sound its.events its.fair in
        record {
          before = found.events;
          choice = started.begins.opening.choice;
          since = its.events;
          of_starts = found.are;
          of_calls = its.are;
          events = all;
          events_are = refl;
          fair = fair;
          lead = whole_lead leaves_held limits r last started within P found sound its.events ∙ its.lead;
          keep = keeps_from_nothing all fair;
        }
