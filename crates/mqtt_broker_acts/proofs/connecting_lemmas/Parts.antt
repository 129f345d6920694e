-- An act of two parts, of which the first or the second may be refused.
use Rattle.std.proofs.Common.{◌≡◌}
use Rattle.mqtt_rules.specs.step.Deeds.{Act, then}
use Rattle.mqtt_broker_step.specs.declared.fault.StepFault.{StepFault}
use Rattle.mqtt_broker_step.specs.Stepping.{Stepping, Did, IsLeft}
use Rattle.mqtt_broker_step.proofs.Then.{same_act, same_left, did_then, left_first, left_then}

-- the two parts are the whole
abbrev pub AreWhole : Act → Act → Act → Stepping → Type 0
AreWhole f g whole s = then (f s.broker) g s.broker ≡ whole s.broker

-- two parts that are done are the whole
pub both_done : (f g whole : Act) (s s1 s2 : Stepping) → AreWhole f g whole s → Did f s s1 → Did g s1 s2 → Did whole s s2
both_done f g whole s s1 s2 are first second = same_act (λ b. then (f b) g b) whole s s2 are (did_then f g s s1 s2 first second)

-- the whole may be refused at its first part
pub first_left : (f g whole : Act) (fault : StepFault) (s new : Stepping) → AreWhole f g whole s → IsLeft f fault s new → IsLeft whole fault s new
first_left f g whole fault s new are left = same_left (λ b. then (f b) g b) whole fault s new are (left_first f g fault s new left)

-- or at its second
pub second_left : (f g whole : Act) (fault : StepFault) (s s1 new : Stepping) → AreWhole f g whole s → Did f s s1 → IsLeft g fault s1 new → IsLeft whole fault s new
second_left f g whole fault s s1 new are first left = same_left (λ b. then (f b) g b) whole fault s new are (left_then f g fault s s1 new first left)
