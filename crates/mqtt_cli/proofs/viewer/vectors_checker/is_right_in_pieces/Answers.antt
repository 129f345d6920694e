use Rattle.mqtt_cli.proofs.viewer_lemmas.RightVectors.{shown_right}
use Rattle.mqtt_cli.proofs.viewer.vectors_checker.is_right_in_pieces.Goals as goal

pub returns-in-Ok-Some : goal.returns-in-Ok-Some
returns-in-Ok-Some c =
    shown_right c.args.vector.now.frame.now c.args.vector.now.gives c.in-Ok-Some.packet c.is_shown-is_shown.result
    (rw c.in-Ok-Some.field-0-is at c.in-Ok-Some.ensures) c.is_shown-is_shown.ensures
