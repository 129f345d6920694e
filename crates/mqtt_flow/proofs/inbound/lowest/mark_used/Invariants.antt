use Rattle.std.proofs.Common.{◌≡◌, ℕ, ◌<◌, ◌||◌, false, length, drop, get_or}
use Rattle.mqtt_flow.specs.inbound.Identifiers.{is_among}
use Rattle.mqtt_flow.proofs.inbound.lowest.mark_used.Given as goal

abbrev pub invariant-loop-identifier : goal.invariant-loop-identifier
invariant-loop-identifier l = record {
  len : length l.flags ≡ length l.fn.flags;
  marked : (i : ℕ) → i < length l.fn.flags → (get_or l.flags i false || is_among i (drop l.identifier-index l.used)) ≡ (get_or l.fn.flags i false || is_among i l.used);
}
