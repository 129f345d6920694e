use Rattle.std.proofs.Common.{◌≡◌, ℕ, Bool, true, false, if◌then◌else◌, List, insert, map, subst, sym, ap, ◌∙◌}
use Rattle.std.specs.Result.{is_ok}
use Rattle.mqtt_topic.specs.names.Filters.{matching_part_of}
use Rattle.mqtt_routes.specs.tree.Tree.{AreOrdered, IsPlace}
use Rattle.mqtt_routes.proofs.tree_lemmas.PlaceLemmas.{put_ordered, map_insert}
use Rattle.mqtt_routes_tests.proofs.tree.shelf.Shelf.put.Goals as goal

put_by : (b : Bool) (filters : List (List ℕ)) (filter : List ℕ) (place : ℕ) → AreOrdered (map matching_part_of filters) → IsPlace (map matching_part_of filters) (matching_part_of filter) place →
    AreOrdered (map matching_part_of (if b then insert filters place filter else filters))
put_by true filters filter place ordered is = subst AreOrdered (sym (map_insert matching_part_of filters place filter)) (put_ordered (map matching_part_of filters) (matching_part_of filter) place ordered is)
put_by false filters filter place ordered is = ordered

pub invariant_of-self : goal.invariant_of-self
invariant_of-self c =
    let filters = c.self.inside.filters.items in
    let is = subst (λ texts. IsPlace texts (matching_part_of c.args.filter) c.place-number.result) (sym c.self.view_is) c.place-number.ensures in
    subst (λ items. AreOrdered (map matching_part_of items)) (sym c.insert.ensures.items) (put_by (is_ok c.insert.result) filters c.args.filter c.place-number.result c.self.invariant is)
