-- A broker that is opened has no line, and no line holds bytes.
use Rattle.std.proofs.Common.{◌≡◌, ℕ, List, [], map, sym, subst, ap, ◌∙◌}
use Rattle.mqtt_keep.specs.declared.keeping.keep.Keep.{Ghosts}
use Rattle.mqtt_records.specs.declared.state.records.Records.{Records}
use Rattle.mqtt_rules.specs.declared.step.Capacity.{Capacity}
use Rattle.mqtt_rules.specs.step.Deeds.{after_all, rows_of_all}
use Rattle.mqtt_rules.specs.step.Lines.{line_number}
use Rattle.mqtt_rules.specs.step.State.{Broker}
use Rattle.mqtt_rules.specs.step.Step.{BrokerOpening, env_of, opening_deeds, unopened}
use Rattle.mqtt_broker.specs.engine.Framers.{HeldLine}
use Rattle.mqtt_broker.specs.stored.Running.{Running}
use Rattle.mqtt_broker.specs.stored.Opening.{IsOpened}
use Rattle.mqtt_broker.specs.engine.Serving.{IsOfLines}
use Rattle.mqtt_broker.proofs.engine_lemmas.Left.{moment_lines, numbers_all}
use Rattle.mqtt_broker.proofs.engine_lemmas.Serving.{of_lines_kept}
use Rattle.mqtt_broker.proofs.engine_lemmas.Unlinked.{un_opening}

-- of a broker that was just opened no line is linked
pub of_lines_opened : (limits : Capacity) (now : ℕ) (r : Records) (new : Broker) → BrokerOpening limits r now new → IsOfLines [] new
of_lines_opened limits now r new o =
    let b = unopened now r in
    let ds = opening_deeds limits o.choice now r in
    record {
      linked = sym (
          ap (λ (x : Broker). map line_number x.lines) o.new_is
          ∙ ap (map line_number) (moment_lines (rows_of_all ds b.records) (after_all ds b))
          ∙ numbers_all ds b (un_opening (env_of limits o.choice b) b));
      given = tt;
    }

-- so it is where an engine begins
pub of_lines_begun : {K : Type 0} (g : Ghosts K) (limits : Capacity) (now : ℕ) (keep : K) (engine : Running K) (held : List HeldLine) → held ≡ [] → IsOpened g limits now keep engine → IsOfLines held engine.broker
of_lines_begun g limits now keep engine held none o =
    subst (λ (hs : List HeldLine). IsOfLines hs engine.broker) (sym none)
    (of_lines_kept [] o.after engine.broker o.lines (of_lines_opened limits now o.records o.after o.opening))
