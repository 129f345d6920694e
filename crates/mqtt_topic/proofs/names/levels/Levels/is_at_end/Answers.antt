use Rattle.std.proofs.Common.{◌≡◌, ℕ, List, Bool, true, false, not, sym, ◌∙◌, ap, refl, Option, Some, None, Bor, is_some}
use Rattle.mqtt_topic.specs.names.Levels.{levels_left, is_none_left}
use Rattle.mqtt_topic.proofs.names_lemmas.LevelLemmas.{is_none_left-levels}
use Rattle.mqtt_topic.proofs.names.levels.Levels.is_at_end.Goals as goal

at_end : (r : Bool) (o : Option (Bor (List ℕ))) → is_some o ≡ not r → r ≡ is_none_left (levels_left o)
at_end true None e = refl
at_end true (Some t) e = sym (ap not e) ∙ sym (is_none_left-levels t.now)
at_end false None e = sym (ap not e)
at_end false (Some t) e = sym (is_none_left-levels t.now)

pub returns : goal.returns
returns c = at_end c.is_none.result c.self.inside.rest c.is_none.ensures ∙ ap is_none_left c.self.view_is
