-- By the packet in front.
use Rattle.std.proofs.Common.{sym, ap, option_map, ◌∙◌}
use Rattle.mqtt_world.specs.clients.Ends.{input_of}
use Rattle.mqtt_world.proofs.scene_lemmas.TakenOff.{none_in_front, some_in_front}
use Rattle.mqtt_world.proofs.scene.scene.Scene.is_front_taken.Goals as goal

pub returns-in-Some : goal.returns-in-Some
returns-in-Some g c =
    let s = c.self.inside in
    some_in_front c.args.old c.args.client.now s.engine s.clients c.args.self.now c.self.view_is c.in-Some._line c.in-Some.packet
    c.is_input-is.result (λ set w. ap (option_map input_of) (sym c.in-Some.is) ∙ c.in_ok-_line.ensures set w) c.is_input-is.ensures.taken

pub returns-in-None : goal.returns-in-None
returns-in-None g c =
    let s = c.self.inside in
    none_in_front c.args.old c.args.client.now s.engine s.clients c.args.self.now c.self.view_is
    (λ set w. ap (option_map input_of) (sym c.in-None.is) ∙ c.in_ok-_line.ensures set w)
