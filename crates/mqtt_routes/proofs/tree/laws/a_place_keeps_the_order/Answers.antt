use Rattle.mqtt_routes.proofs.tree_lemmas.PlaceLemmas.{put_ordered}
use Rattle.mqtt_routes.proofs.tree.laws.a_place_keeps_the_order.Goals as goal

pub returns : goal.returns
returns c = λ texts filter place o is. put_ordered texts filter place o is
