-- A step that did the deeds of a call is the broker's step of that call.
use Rattle.std.proofs.Common.{◌≡◌, ℕ, Bool, false, List, refl, ap, sym, ◌∙◌}
use Rattle.mqtt_rules.specs.declared.step.Capacity.{Capacity}
use Rattle.mqtt_rules.specs.step.Deeds.{Deed, rows_of_all, after_all}
use Rattle.mqtt_rules.specs.step.State.{Broker}
use Rattle.mqtt_rules.specs.step.Step.{Call, at_moment, deeds, is_spent, is_step_spent, rows_written, stamped, stepped, with_moment}
use Rattle.mqtt_rules.proofs.step_lemmas.numbers.Copies.{each_more}
use Rattle.mqtt_rules.proofs.step_lemmas.numbers.Counters.{moment_stays, now_stays}
use Rattle.mqtt_broker_step.specs.Stepping.{Stepping, with_stamp}
use Rattle.mqtt_broker_step.specs.Undoing.{moment_of}
use Rattle.mqtt_broker_queue.specs.subscribers.Following.{CanBeIndexed, HasAsked}
use Rattle.mqtt_broker.specs.declared.stored.outcome.Outcome.{Outcome}
use Rattle.mqtt_broker.specs.stored.Calling.{IsAnswered, IsAnsweredForLines}
use Rattle.mqtt_broker_acts.specs.calls.Doing.{DidCall}
use Rattle.mqtt_broker_acts.specs.calls.Ready.{HasLawfulSources, IsReady}

-- what a broker that is ready has stored can be indexed
pub ready_indexed : (limits : Capacity) (b : Broker) → IsReady limits b → CanBeIndexed b.records
ready_indexed limits b ready = record {
  ordered = ready.coherent.ordered;
  filters = ready.filters;
  asked = each_more HasLawfulSources HasAsked (λ s its. its.subscriptions) b.records.sessions ready.sources.stored.sessions;
}

-- what is answered for a broker is answered for its lines
pub answered_for_lines : (limits : Capacity) (old : Broker) (now : ℕ) (call : Call) (out : Outcome) (new : Broker) → IsAnswered limits old now call out new
    → IsAnsweredForLines limits old now call out new
answered_for_lines limits old now call out new h = record { before = old; after = new; begins = (refl, refl); answered = h; ends = (refl, refl) }

-- ---- a step that did the deeds of a call, with its moment

module _ (now : ℕ) (call : Call) (again : Bool) (s : Stepping) (h : DidCall now call again s) where
  abbrev its : List Deed
  its = deeds s.limits h.choice now call s.start

  -- with its moment it has the rows of the call's deeds
  pub rows_are : (with_stamp s).rows ≡ rows_written its (at_moment now s.start)
  rows_are =
      let before = at_moment now s.start in
      let rows = rows_of_all its s.start.records in
      ap (λ (t : Stepping). stamped (moment_of t.broker) t.broker.records.moment t.rows) h.is
      ∙ ap (λ n. stamped n (after_all its before).records.moment rows) (now_stays its before)
      ∙ ap (λ m. stamped before.now m rows) (moment_stays its before)

  -- and its broker is the one after the call's step
  pub broker_is : (with_stamp s).broker ≡ stepped s.limits h.choice now call s.start
  broker_is = ap (λ (t : Stepping). with_moment t.rows t.broker) h.is

  -- if its rows spend no number the call's step doesn't
  pub call_unspent : is_spent (with_stamp s).rows ≡ false → is_step_spent s.limits h.choice now call s.start ≡ false
  call_unspent e = ap is_spent (sym rows_are) ∙ e
