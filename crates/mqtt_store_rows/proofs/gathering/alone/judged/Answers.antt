use Rattle.mqtt_store_rows.proofs.gathering_lemmas.AloneLemmas.{lawful_alone, lawful_of_alone}
use Rattle.mqtt_store_rows.proofs.gathering.alone.judged.Goals as goal

pub returns-in-Some-clause-exact : goal.returns-in-Some-clause-exact
returns-in-Some-clause-exact c =
    let numbers = c.args.numbers in
    let s = c.args.session in
    let says = rw c.in_ok-records.ensures at c.in_ok-lawful.ensures in
    ((λ is. lawful_of_alone numbers s (says.0 is)), (λ h. says.1 (lawful_alone numbers s c.requires.numbers c.requires.shared h)))
