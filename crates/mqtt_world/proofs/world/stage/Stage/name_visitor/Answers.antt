-- By who is there.
use Rattle.std.proofs.Common.{◌≡◌, ◌∙◌, rules, sym}
use Rattle.mqtt_world.proofs.world_lemmas.Calling.{none_in, there_in}
use Rattle.mqtt_world.proofs.world_lemmas.Visited.{named_before, named_first}
use Rattle.mqtt_world.proofs.world.stage.Stage.name_visitor.Goals as goal

pub returns-then-has : goal.returns-then-has
returns-then-has g c =
    let s = c.self.inside in
    named_before g.K.Keep c.args.name.now c.args.self.now c.requires
    (there_in s.scene s.strangers s.now s.limits c.args.self.now c.self.view_is c.args.name.now c.as_str.result.now c.as_str.ensures.value c.has.result
    c.has.ensures.found c.if-has.true)

pub begin-requires : goal.begin-requires
begin-requires g c =
    let s = c.self.inside in
    let same : c.in_ok-name.name ≡ c.args.name.now = search rules in
    none_in s.scene s.strangers s.now s.limits c.args.self.now c.self.view_is c.in_ok-name.name c.as_str.result.now (c.as_str.ensures.value ∙ sym same) c.has.result
    c.has.ensures.found c.if-has.false

pub returns : goal.returns
returns g c =
    let s = c.self.inside in
    let same : c.in_ok-name.name ≡ c.args.name.now = search rules in
    named_first g.K.Keep c.args.name.now c.args.self.now s.scene s.strangers c.begin.new.self c.in_ok-name.name s.now s.limits c.self.view_is c.requires
    (none_in s.scene s.strangers s.now s.limits c.args.self.now c.self.view_is c.args.name.now c.as_str.result.now c.as_str.ensures.value c.has.result
    c.has.ensures.found c.if-has.false)
    same c.in_ok-begin.ensures.ok
