use Rattle.std.proofs.Common.{◌≡◌, drop}
use Rattle.mqtt_flow.specs.ring.AtHand.{content_in}
use Rattle.mqtt_flow.proofs.ring.ring.find_among.Given as goal

-- what is found among the rest is what is found among all
abbrev pub invariant-loop-entry : goal.invariant-loop-entry
invariant-loop-entry g l = content_in l.place (drop l.entry-index l.entries) ≡ content_in l.place l.entries
