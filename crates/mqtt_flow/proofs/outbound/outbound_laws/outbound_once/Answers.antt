use Rattle.mqtt_flow.specs.outbound.OutboundWorld.{run, start}
use Rattle.mqtt_flow.proofs.outbound_lemmas.outbound.HopLaw.{good_run, once_of, taken_of, released_of, expired_of, dropped_of, in_order_of, read_of, carried_run, course_run, grow_run, for_good_run, alone_of, heard_of}
use Rattle.mqtt_flow.proofs.outbound.outbound_laws.outbound_once.Goals as goal

pub returns-clause-once : goal.returns-clause-once
returns-clause-once c = λ largest events. once_of (run largest events start) (good_run largest events)

pub returns-clause-taken : goal.returns-clause-taken
returns-clause-taken c = λ largest events. taken_of (run largest events start) (good_run largest events)

pub returns-clause-released : goal.returns-clause-released
returns-clause-released c = λ largest events. released_of (run largest events start) (good_run largest events)

pub returns-clause-expired : goal.returns-clause-expired
returns-clause-expired c = λ largest events. expired_of (run largest events start) (good_run largest events)

pub returns-clause-dropped : goal.returns-clause-dropped
returns-clause-dropped c = λ largest events. dropped_of (run largest events start) (good_run largest events)

pub returns-clause-in_order : goal.returns-clause-in_order
returns-clause-in_order c = λ largest events. in_order_of (run largest events start) (good_run largest events)

pub returns-clause-carried : goal.returns-clause-carried
returns-clause-carried c = carried_run

pub returns-clause-read : goal.returns-clause-read
returns-clause-read c = λ largest events. read_of (run largest events start) (good_run largest events)

pub returns-clause-course : goal.returns-clause-course
returns-clause-course c = course_run

pub returns-clause-grows : goal.returns-clause-grows
returns-clause-grows c = grow_run

pub returns-clause-for_good : goal.returns-clause-for_good
returns-clause-for_good c = for_good_run

pub returns-clause-alone : goal.returns-clause-alone
returns-clause-alone c = λ largest events. alone_of (run largest events start) (good_run largest events)

pub returns-clause-heard : goal.returns-clause-heard
returns-clause-heard c = λ largest events. heard_of (run largest events start) (good_run largest events)
