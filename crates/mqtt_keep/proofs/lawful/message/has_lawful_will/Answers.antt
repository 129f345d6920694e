use Rattle.mqtt_keep.proofs.lawful.message.has_lawful_will.Goals as goal

pub returns-in-Some : goal.returns-in-Some
returns-in-Some c = rw c.in-Some.is (rw c.lend.ensures at c.is_message.ensures)
