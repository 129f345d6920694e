-- What holds of the broker alone holds after every event of the world and in every run, if each call and each opening keeps it.
use Rattle.std.proofs.Common.{◌≡◌, Bool, false, cond, List, subst, sym}
use Rattle.mqtt_world_model.specs.model.Run.{Turn, read_in, run}
use Rattle.mqtt_world_model.specs.model.World.{Event, Setting, World, happens, is_bad}
use Rattle.mqtt_rules.proofs.step_lemmas.flight.FlightStep.{opening_keeps, step_keeps}
use Rattle.mqtt_rules.specs.step.Flight.{HasDistinctIdentifiers}
use Rattle.mqtt_rules.specs.step.Laws.{AreWithin}
use Rattle.mqtt_rules.specs.step.State.{Broker}
use Rattle.mqtt_rules.specs.declared.step.Capacity.{Capacity}
use Rattle.mqtt_world_laws.specs.acceptance.Fair.{IsFair, IsNew, IsSteady}
use Rattle.mqtt_world_laws.specs.acceptance.Spending.{spending}
use Rattle.mqtt_world_laws.proofs.acceptance_lemmas.copies.Walks.{Walk, run_walks, turn_goes, counted}
use Rattle.mqtt_world_laws.specs.delivery.Alone.{Carries, IsKept}

-- what each step keeps is carried along a run
pub carrying : (P : Broker → Type 0) (limits : Capacity) → IsKept limits P → Walk limits (Carries P)
carrying P limits k = record {
  none = λ b h. h;
  next = λ xs ys a b d p q h. q (p h);
  unlink = λ n b d p. p;
  link = λ n b d p. p;
  call = λ choice now call b s unspent h. k.called choice now call b s unspent h;
  open_again = λ choice now b s unspent h. k.reopened choice now b s unspent h;
}

-- an event keeps it
pub event_keeps : (P : Broker → Type 0) (e : Event) (set : Setting) (w : World) → IsKept set.limits P → AreWithin set.limits → IsSteady w.broker
    → is_bad e w ≡ false → read_in spending set e w ≡ false → P w.broker → P (happens set e w).broker
event_keeps P e set w k within s good unspent h =
    let t : Turn = record { event = e; choice = set.choice } in
    let cheap = subst (λ (bad : Bool). cond bad false (read_in spending set e w) ≡ false) (sym good) unspent in
    let goes = turn_goes (Carries P) set.limits (carrying P set.limits k) t w within s cheap in
    subst (λ (bad : Bool). P (cond bad w (happens set e w)).broker) good (goes.said h)

-- so does a run
pub run_keeps : (P : Broker → Type 0) (limits : Capacity) (ts : List Turn) (w : World) → IsKept limits P → IsNew w → IsFair limits ts w
    → P w.broker → P (run limits ts w).broker
run_keeps P limits ts w k new fair h = run_walks (Carries P) limits ts w (carrying P limits k) new (counted limits ts w fair) h

-- ---- packet identifiers

abbrev pub Distinct : Broker → Type 0
Distinct b = HasDistinctIdentifiers b.records

-- identifiers in flight stay apart
pub distinct_kept : (limits : Capacity) → IsKept limits Distinct
distinct_kept limits = record {
  called = λ choice now call b s unspent h. step_keeps limits choice now call b h;
  reopened = λ choice now b s unspent h. opening_keeps limits choice now b.records h;
}
