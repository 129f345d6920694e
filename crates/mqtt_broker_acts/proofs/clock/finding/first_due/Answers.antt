-- Before that moment nothing that is stored is due.
use Rattle.std.proofs.Common.{◌≡◌, ◌∷◌, ◌<◌, ℕ, rules, sym, ap, ◌∙◌}
use Rattle.std.specs.Prelude.{Option, None, option_map}
use Rattle.mqtt_broker_acts.specs.declared.clock.finding.Due.{Due}
use Rattle.mqtt_broker_acts.specs.declared.clock.finding.Due.TheVariants.{Silence}
use Rattle.mqtt_broker_acts.specs.clock.Ticking.{first_of, silent_number_in, stored_in}
use Rattle.mqtt_broker_acts.proofs.clock_lemmas.Quiets.{none_stored}
use Rattle.mqtt_broker_acts.proofs.clock.finding.first_due.Goals as goal

pub returns-then-moment-quiet : goal.returns-then-moment-quiet
returns-then-moment-quiet c =
    let b = c.args.step.now.broker in
    let silent : silent_number_in b ≡ None = search rules in
    let before : b.now < c.args.quiet = search rules in
    sym (ap (λ (o : Option ℕ). first_of (option_map Silence o ∷ stored_in b.now b.records)) silent ∙ none_stored b.now b.records (c.requires b.now before))
