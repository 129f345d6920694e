-- The copies of a lawful message, as the index routes it, have PUBLISH that have spellings.
use Rattle.std.proofs.Common.{◌≡◌, ℕ, List, [], ◌∷◌, map}
use Rattle.std.specs.Prelude.{Some, flat_map}
use Rattle.std.specs.List.{AllByRecursion}
use Rattle.mqtt_base.specs.declared.session.Cause.{Cause}
use Rattle.mqtt_base.specs.declared.session.Cause.TheVariants.{Direct, Share}
use Rattle.mqtt_records.specs.messages.Queue.{IsSpelled}
use Rattle.mqtt_routes.specs.routing.Subscriptions.{Subscriber}
use Rattle.mqtt_routes.specs.routing.Intended.{Answers, Copy, Publication}
use Rattle.mqtt_routes.specs.routing.Acceptance.{Routed, Served, copies_in, routed}
use Rattle.mqtt_rules.specs.step.Deeds.{Message}
use Rattle.mqtt_rules.specs.step.Contents.{of_rows}
use Rattle.mqtt_rules.proofs.step_lemmas.contents.ContentCopies.{routed_identified}
use Rattle.mqtt_rules.proofs.step_lemmas.contents.ContentCopies as copies
use Rattle.mqtt_rules.proofs.step_lemmas.numbers.Copies.{each_append}
use Rattle.mqtt_rules.proofs.step_lemmas.contents.SpelledContents.{copy_spelled, rows_are}
use Rattle.mqtt_broker_queue.specs.publications.Choosing.{IsLawfulMessage}
use Rattle.mqtt_broker_queue.specs.subscribers.Indexing.{IsLawful, all_copied, copied, served_copied}

abbrev AreNumbered : Subscriber → Type 0
AreNumbered = copies.AreNumbered of_rows rows_are

abbrev IsIdentified : Copy → Type 0
IsIdentified = copies.IsIdentified of_rows rows_are

abbrev IsRoutedWell : Routed → Type 0
IsRoutedWell = copies.IsRoutedWell of_rows rows_are

numbered : (xs : List Subscriber) → AllByRecursion IsLawful xs → AllByRecursion AreNumbered xs
numbered [] h = tt
numbered (x ∷ xs) h = ((h.0.identifiers, h.0.few), numbered xs h.1)

routed_well : (at : Answers) (p : Publication) (choices : List ℕ) (table : List Subscriber) (r : Routed) → AllByRecursion IsLawful table → routed at p choices table ≡ Some r → IsRoutedWell r
routed_well at p choices table r h is = routed_identified of_rows rows_are at p choices table r (numbered table h) is

module _ (number moment : ℕ) (m : Message) (lawful : IsLawfulMessage m) where
  one_spelled : (cause : Cause) (c : Copy) → IsIdentified c → IsSpelled (copied number moment m cause c)
  one_spelled cause c h = copy_spelled of_rows rows_are (copied number moment m cause c) (record { content = lawful; identifiers = h })

  some_spelled : (cause : Cause) (cs : List Copy) → AllByRecursion IsIdentified cs → AllByRecursion IsSpelled (map (copied number moment m cause) cs)
  some_spelled cause [] h = tt
  some_spelled cause (c ∷ cs) h = (one_spelled cause c h.0, some_spelled cause cs h.1)

  served_spelled : (ss : List Served) → AllByRecursion (λ s. AllByRecursion IsIdentified (copies_in s.copy)) ss → AllByRecursion IsSpelled (flat_map (served_copied number moment m) ss)
  served_spelled [] h = tt
  served_spelled (s ∷ ss) h =
      each_append IsSpelled (served_copied number moment m s) (flat_map (served_copied number moment m) ss)
      (some_spelled (Share s.group) (copies_in s.copy) h.0) (served_spelled ss h.1)

  -- all copies of a lawful message that a lawful table routes have a spelling
  pub all_spelled : (at : Answers) (p : Publication) (choices : List ℕ) (table : List Subscriber) (r : Routed) → AllByRecursion IsLawful table → routed at p choices table ≡ Some r
      → AllByRecursion IsSpelled (all_copied number moment m r)
  all_spelled at p choices table r h is =
      let well = routed_well at p choices table r h is in
      each_append IsSpelled (map (copied number moment m Direct) r.direct) (flat_map (served_copied number moment m) r.served)
      (some_spelled Direct r.direct well.direct) (served_spelled r.served well.served)
