-- After a step, done or taken back, all rows are slim: those that it put, and those that a pump filled before it.
use Rattle.std.proofs.Common.{◌≡◌, ℕ, List, [], sym, ap, subst, ◌∙◌}
use Rattle.mqtt_records.specs.declared.state.records.Records.{Records}
use Rattle.mqtt_records.specs.state.Records.{changed_all}
use Rattle.mqtt_records.specs.state.Slim.{all_slim}
use Rattle.mqtt_keep.specs.by_name.Slimming.{slim_entered, slim_places}
use Rattle.mqtt_rules.specs.declared.step.Capacity.{Capacity}
use Rattle.mqtt_rules.specs.step.Laws.{IsOrdered}
use Rattle.mqtt_rules.specs.step.State.{Broker}
use Rattle.mqtt_rules.specs.alike.Slim.{slim_broker}
use Rattle.mqtt_rules.specs.filling.Entered.{AreSlimBut}
use Rattle.mqtt_rules.proofs.filling_lemmas.Entered.{entered_first, slim_any}
use Rattle.mqtt_broker_step.specs.Stepping.{Stepping, at_rest, with_entered_slim}
use Rattle.mqtt_broker_step.specs.Undoing.{with_records}

-- a step at rest is at rest under its own limits
pub rests : (limits : Capacity) (b : Broker) (t : Stepping) → t ≡ at_rest limits b → t ≡ at_rest t.limits t.broker
rests limits b t is = is ∙ ap (λ (x : Stepping). at_rest x.limits x.broker) (sym is)

-- no row of the broker says anything but its topic, so none of any session does, wherever it stands
pub slim_none : (b : Broker) → slim_broker b ≡ b → AreSlimBut 0 [] b.records
slim_none b slim = slim_any 0 [] b.records (ap (λ (x : Broker). x.records) slim)

module _ (birth : ℕ) (places : List ℕ) where
  abbrev made_slim : Stepping → Stepping
  made_slim t = at_rest t.limits (with_records (slim_places birth places t.broker.records) t.broker)

  -- the step is done
  pub slim_done : (s mid : Stepping) → AreSlimBut birth places s.start.records → changed_all s.rows s.start.records ≡ s.broker.records → IsOrdered s.broker.records
      → mid ≡ at_rest s.limits (with_entered_slim s) → made_slim mid ≡ at_rest s.limits (slim_broker s.broker)
  slim_done s mid but made ordered is =
      let up : IsOrdered (changed_all s.rows s.start.records) = subst IsOrdered (sym made) ordered in
      let all : slim_places birth places (slim_entered s.rows s.broker.records) ≡ all_slim s.broker.records =
      subst (λ (r : Records). slim_places birth places (slim_entered s.rows r) ≡ all_slim r) made (entered_first s.rows birth places s.start.records but up) in
      ap made_slim is ∙ ap (λ (r : Records). at_rest s.limits (with_records r s.broker)) all

  -- it is taken back
  pub slim_back : (s mid : Stepping) → AreSlimBut birth places s.start.records → IsOrdered s.start.records → mid ≡ at_rest s.limits s.start → made_slim mid ≡ at_rest s.limits (slim_broker s.start)
  slim_back s mid but ordered is =
      let all : slim_places birth places s.start.records ≡ all_slim s.start.records = entered_first [] birth places s.start.records but ordered in
      ap made_slim is ∙ ap (λ (r : Records). at_rest s.limits (with_records r s.start)) all
