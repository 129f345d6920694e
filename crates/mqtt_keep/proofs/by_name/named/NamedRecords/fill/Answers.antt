-- When one copy is filled, the others can be filled still.
use Rattle.std.proofs.Common.{◌≡◌, ◌∷◌, List, rules, ap, sym, subst, ◌∙◌}
use Rattle.mqtt_records.specs.messages.Content.{CopyContent}
use Rattle.mqtt_keep.specs.by_name.Slimming.{whole_places, TakesAll}
use Rattle.mqtt_keep.proofs.by_name_lemmas.FilledRows.{others_stand}
use Rattle.mqtt_keep.proofs.by_name.named.NamedRecords.fill.Goals as goal

pub loop-content-preserved : goal.loop-content-preserved
loop-content-preserved c =
    let steps : c.loop-content.content-iterator.rest.items ≡ c.in-Some.content ∷ c.next.new.self.rest.items = search rules in
    let rest = c.next.new.self.rest.items in
    let these = subst (λ (cs : List CopyContent). TakesAll c.args.birth cs c.loop-content.self) steps c.loop-content.invariant.left in
    record {
      whole = ap (whole_places c.args.birth rest) c.take_in.ensures
          ∙ (ap (λ (cs : List CopyContent). whole_places c.args.birth cs c.loop-content.self) (sym steps) ∙ c.loop-content.invariant.whole);
      left = subst (TakesAll c.args.birth rest) (sym c.take_in.ensures) (others_stand c.args.birth c.in-Some.content rest c.loop-content.self these.0 these.1);
    }
