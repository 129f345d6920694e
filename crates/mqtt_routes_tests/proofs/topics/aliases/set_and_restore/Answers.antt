use Rattle.std.proofs.Common.{◌≡◌, ◌∙◌, ap, arith}
use Rattle.mqtt_topic.specs.names.Aliases.{AliasTable, KeptAliases}
use Rattle.mqtt_routes_tests.proofs.topics.aliases.set_and_restore.Goals as goal

pub set-before-requires-clause-range : goal.set-before-requires-clause-range
set-before-requires-clause-range g c =
    let ten : c.make_room-made.new.self.table.max ≡ 10 = ap (λ (t : AliasTable). t.max) c.make_room-made.ensures.same ∙ ap (λ (t : AliasTable). t.max) c.new-aliases.ensures in
    record { above = omega arith; within = omega (arith, ten) }
