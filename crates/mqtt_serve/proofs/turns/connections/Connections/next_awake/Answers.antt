use Rattle.std.proofs.Common.{◌≤◌, length, take, drop, ◌-◌, Some, None, rules}
use Rattle.memchr.specs.Find.{IsFirstByte, is_byte}
use Rattle.mqtt_serve.specs.declared.turns.connections.TheConstants.{AWAKE}
use Rattle.mqtt_serve.proofs.turns_lemmas.Noted.{next_none, next_some}
use Rattle.mqtt_serve.proofs.turns.connections.Connections.next_awake.Goals as goal

pub returns-in-Some : goal.returns-in-Some
returns-in-Some g c =
    let within : c.args.from ≤ length c.self.inside.all.items = search rules in
    let awake = c.self.inside.awake.items in
    let first : IsFirstByte (is_byte AWAKE) (take (length awake - c.args.from) (drop c.args.from awake)) (Some c.in-Some.behind) = search rules in
    rw (← c.self.view_is) (next_some _ awake _ c.args.from c.in-Some.behind within c.self.invariant.0 first)

pub returns-in-None : goal.returns-in-None
returns-in-None g c =
    let within : c.args.from ≤ length c.self.inside.all.items = search rules in
    let awake = c.self.inside.awake.items in
    let first : IsFirstByte (is_byte AWAKE) (take (length awake - c.args.from) (drop c.args.from awake)) None = search rules in
    rw (← c.self.view_is) (next_none _ awake _ c.args.from within c.self.invariant.0 first)
