-- How many copies a pump sends.
use Rattle.std.proofs.Common.{◌≡◌, ℕ, zero, suc, ◌≤◌, List, [], ◌∷◌, length, Option, Some, None, refl, arith}
use Rattle.std.specs.Prelude.{filter_map, map}
use Rattle.mqtt_base.specs.declared.limits.TheConstants.{PUMP_LIMIT}
use Rattle.mqtt_base.specs.declared.session.Phase.{Phase}
use Rattle.mqtt_flow.specs.declared.outbound.entry.Entry.{Entry as FlowEntry}
use Rattle.mqtt_flow.specs.declared.outbound.entry.Turn.{Turn}
use Rattle.mqtt_flow.specs.declared.outbound.entry.Turn.TheVariants as turns
use Rattle.mqtt_flow.specs.declared.outbound.entry.Way.{Way}
use Rattle.mqtt_flow.specs.outbound.Pacing.{Pacing}
use Rattle.mqtt_flow.specs.outbound.Outbound.{Verdict, pass, end, outgrow, send, resend, in_room, step_by, then_on, paced, verdict, pump_from, pace}
use Rattle.mqtt_flow.specs.inbound.Identifiers.{free_identifier}
use Rattle.mqtt_records.specs.declared.state.session.Session.{Session}
use Rattle.mqtt_rules.specs.step.Fitting.{fitted, size_at, sized}
use Rattle.mqtt_rules.specs.step.Outbound.{way_of}
use Rattle.mqtt_rules.specs.step.State.{Line, Broker, line_at, told_on}
use Rattle.mqtt_rules.specs.filling.Pumped.{place_sent, turns_on_line, served_on, sent_places}

abbrev sent : List Turn → ℕ
sent ts = length (filter_map place_sent ts)

module _ (place : ℕ) (phase : Phase) (rest : Pacing → List Turn) (few : (p : Pacing) → sent (rest p) ≤ p.left) where
  send_few : (room i k : ℕ) (p : Pacing) → p.left ≡ suc k → sent (then_on (in_room room (turns.Send place i)) phase p rest) ≤ suc k
  send_few zero i k p e = omega arith
  send_few (suc room) i k p e = let all = few (paced (turns.Send place i) phase p) in omega (arith, e, all)

  resend_few : (room i k : ℕ) (p : Pacing) → p.left ≡ suc k → sent (then_on (in_room room (turns.Resend place i)) phase p rest) ≤ suc k
  resend_few zero i k p e = omega arith
  resend_few (suc room) i k p e = let all = few (paced (turns.Resend place i) phase p) in omega (arith, e, all)

  -- a step sends no more than is left, and then as many fewer are left
  step_few : (v : Verdict) (k : ℕ) (p : Pacing) → p.left ≡ k → sent (then_on (step_by k v place p) phase p rest) ≤ k
  step_few v zero p e = omega arith
  step_few pass (suc k) p e = let all = few p in omega (arith, e, all)
  step_few (end ending) (suc k) p e = let all = few (paced (turns.Leave place ending) phase p) in omega (arith, e, all)
  step_few (outgrow i) (suc k) p e = let all = few (paced (turns.Outgrow place i p.order) phase p) in omega (arith, e, all)
  step_few send (suc k) p e = send_few p.room (free_identifier p.used) k p e
  step_few (resend i) (suc k) p e = resend_few p.room i k p e

from_few : (way : Way) (es : List FlowEntry) (p : Pacing) → sent (pump_from way es p) ≤ p.left
from_few way [] p = omega arith
from_few way (e ∷ es) p = step_few e.place e.phase (pump_from way es) (from_few way es) (verdict way e) p.left p refl

turns_few : (o : Option Line) (b : Broker) (s : Option Session) → sent (turns_on_line o b s) ≤ PUMP_LIMIT
turns_few None b s = omega arith
turns_few (Some l) b None = omega arith
turns_few (Some l) b (Some s) =
    let queue = map (sized (size_at (fitted l b.now (told_on l.number b.tellings) s.queue)) l.went) s.queue in
    from_few (way_of l b.now) queue (pace (way_of l b.now) queue)

-- a pump sends no more copies than it may
pub few_sent : (line : ℕ) (b : Broker) → length (sent_places line b) ≤ PUMP_LIMIT
few_sent line b = turns_few (line_at line b) b (served_on line b)
