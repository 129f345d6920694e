use Rattle.mqtt_rules.proofs.step_lemmas.contents.LawfulContents.{lawful_contents}
use Rattle.mqtt_rules.proofs.step_lemmas.fit.LawfulRecords.{lawful_coherent, lawful_accepted}
use Rattle.mqtt_rules.proofs.step.lawful_laws.lawful_records_may_be_opened.Goals as goal

pub returns-clause-coherent : goal.returns-clause-coherent
returns-clause-coherent c = lawful_coherent

pub returns-clause-accepted : goal.returns-clause-accepted
returns-clause-accepted c = lawful_accepted

pub returns-clause-contents : goal.returns-clause-contents
returns-clause-contents c = lawful_contents
