-- By who is there.
use Rattle.std.proofs.Common.{◌≡◌, ◌∙◌, refl, rules, sym}
use Rattle.mqtt_world.proofs.world_lemmas.Calling.{alike_in, none_in, staged, there_in, waits_in, welcome_again, welcome_first}
use Rattle.mqtt_world.proofs.world.stage.Stage.welcome.Goals as goal

pub returns-then-has : goal.returns-then-has
returns-then-has g c =
    let s = c.self.inside in
    let there = there_in s.scene s.strangers s.now s.limits c.args.self.now c.self.view_is c.args.name.now c.as_str.result.now c.as_str.ensures.value c.has.result
    c.has.ensures.found c.if-has.true in
    welcome_again g.K.Keep c.args.name.now c.args.self.now c.requires there
    (alike_in s.scene s.strangers s.now s.limits c.args.self.now c.self.view_is c.args.name.now c.as_str.result.now c.as_str.ensures.value c.has.ensures.alike)
    (waits_in s.scene s.strangers s.now s.limits c.args.self.now c.self.view_is c.args.name.now c.as_str.result.now c.as_str.ensures.value c.has.ensures.waits)

pub begin-requires : goal.begin-requires
begin-requires g c =
    let s = c.self.inside in
    let same : c.in_ok-name.name ≡ c.args.name.now = search rules in
    none_in s.scene s.strangers s.now s.limits c.args.self.now c.self.view_is c.in_ok-name.name c.as_str.result.now (c.as_str.ensures.value ∙ sym same) c.has.result
    c.has.ensures.found c.if-has.false

pub returns : goal.returns
returns g c =
    let s = c.self.inside in
    let same : c.in_ok-name.name ≡ c.args.name.now = search rules in
    let none = none_in s.scene s.strangers s.now s.limits c.args.self.now c.self.view_is c.args.name.now c.as_str.result.now c.as_str.ensures.value c.has.result
    c.has.ensures.found c.if-has.false in
    welcome_first g.K.Keep c.args.name.now s.now s.limits c.args.self.now s.scene c.link-line.new.self s.strangers c.begin.new.self c.in_ok-name.name c.link-line.result
    c.self.view_is c.requires none
    (alike_in s.scene s.strangers s.now s.limits (staged s.scene s.strangers s.now s.limits) refl c.args.name.now c.as_str.result.now c.as_str.ensures.value c.has.ensures.alike)
    c.link-line.ensures.line c.link-line.ensures.calls same c.in_ok-begin.ensures.ok
