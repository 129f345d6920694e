-- In order, they leave what is in order; an opening is an event like others, and a moment alone a call on no line.
use Rattle.mqtt_world_laws.proofs.of_calls_lemmas.Ending.{still_in_order}
use Rattle.mqtt_world_laws.proofs.of_calls_lemmas.Keeping.{blank_in_order}
use Rattle.mqtt_world_laws.proofs.of_calls_lemmas.Leaving.{left_again, left_opens, moment_alone}
use Rattle.mqtt_world_laws.proofs.of_calls.laws.what_calls_leave_may_be_opened.Goals as goal

pub returns-clause-begins : goal.returns-clause-begins
returns-clause-begins c = blank_in_order

pub returns-clause-goes_on : goal.returns-clause-goes_on
returns-clause-goes_on c = still_in_order

pub returns-clause-opens : goal.returns-clause-opens
returns-clause-opens c = left_opens

pub returns-clause-leaves : goal.returns-clause-leaves
returns-clause-leaves c = λ limits choice now r es left within unspent fair. left_again limits choice now r left within unspent es fair

pub returns-clause-waits : goal.returns-clause-waits
returns-clause-waits c = moment_alone
