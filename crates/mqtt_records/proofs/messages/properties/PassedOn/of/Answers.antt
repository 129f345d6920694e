use Rattle.std.proofs.Common.{◌≡◌}
use Rattle.mqtt_records.specs.messages.PassedOn.{passed_on}
use Rattle.mqtt_records.proofs.messages_lemmas.PassedLemmas.{passed_on-rises}
use Rattle.mqtt_records.proofs.messages.properties.PassedOn.of.Goals as goal

pub invariant_of-result : goal.invariant_of-result
invariant_of-result c =
    let made : c.push_passed.new.list ≡ passed_on c.args.props.now = rw c.new-list.ensures at c.in-Ok.ensures in
    rw made (passed_on-rises c.args.props.now)
