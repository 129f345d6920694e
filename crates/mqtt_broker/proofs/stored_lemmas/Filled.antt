-- Copies are filled before a pump: what changes, and what the rows say then.
use Rattle.std.proofs.Common.{◌≡◌, ◌↔◌, ℕ, Bool, true, false, List, ap, sym, subst, ◌∙◌, inl, inr}
use Rattle.std.specs.Prelude.{IsTrue}
use Rattle.std.proofs.lemmas.Bool.{cases_Bool}
use Rattle.mqtt_records.specs.messages.Content.{CopyContent}
use Rattle.mqtt_records.specs.messages.Filling.{Fillings}
use Rattle.mqtt_records.specs.declared.state.records.Records.{Records}
use Rattle.mqtt_keep.specs.by_name.Slimming.{TakesAll, whole_places}
use Rattle.mqtt_rules.specs.step.Contents.{HasLawfulContents}
use Rattle.mqtt_rules.specs.step.State.{Broker}
use Rattle.mqtt_rules.specs.alike.Alike.{AlikeBrokers, AlikeRecords}
use Rattle.mqtt_rules.specs.alike.Slim.{slim_broker}
use Rattle.mqtt_rules.specs.filling.Entered.{AreSlimBut, places_of}
use Rattle.mqtt_rules.specs.filling.Filling.{AreFilledBy}
use Rattle.mqtt_rules.proofs.filling_lemmas.Entered.{filled_but, slim_any}
use Rattle.mqtt_rules.proofs.filling_lemmas.Equivalence.{broker_itself}
use Rattle.mqtt_broker_looks.specs.at_hand.Hand.{contents_at}
use Rattle.mqtt_broker_step.specs.Stepping.{Stepping, at_rest}
use Rattle.mqtt_broker_step.specs.Undoing.{with_records}
use Rattle.mqtt_broker.specs.stored.Pumping.{AreFilledAt}
use Rattle.mqtt_broker.proofs.stored_lemmas.ReadRows.{read_alike, stored_filled, stored_takes}

module _ (birth : ℕ) (contents : List CopyContent) (old new : Stepping) where
  -- the broker whose rows say this
  abbrev read : Broker
  read = with_records (whole_places birth contents old.broker.records) old.broker

  abbrev IsTaken : Bool → Type 0
  IsTaken t = IsTrue t → new ≡ at_rest old.limits read

  abbrev IsKept : Bool → Type 0
  IsKept t = t ≡ false → new ≡ old

  module _ (t : Bool) where
    -- no step is under way after filling
    pub fill_rest : old ≡ at_rest old.limits old.broker → IsTaken t → IsKept t → new ≡ at_rest old.limits new.broker
    fill_rest rest ok err = elim (cases_Bool t) [
      | inl taken ↦ let is = ok taken in is ∙ ap (λ (x : Stepping). at_rest old.limits x.broker) (sym is)
      | inr kept ↦ let is = err kept in is ∙ (rest ∙ ap (λ (x : Stepping). at_rest old.limits x.broker) (sym is))
    ]

    -- filled rows are alike to those before
    pub fill_alike : IsTrue t ↔ TakesAll birth contents old.broker.records → IsTaken t → IsKept t → AlikeBrokers new.broker old.broker
    fill_alike exact ok err = elim (cases_Bool t) [
      | inl taken ↦ subst (λ (x : Stepping). AlikeBrokers x.broker old.broker) (sym (ok taken)) (read_alike birth contents old.broker (exact.0 taken))
      | inr kept ↦ subst (λ (x : Stepping). AlikeBrokers x.broker old.broker) (sym (err kept)) (broker_itself old.broker)
    ]

    -- all rows stay slim but those that were filled
    pub fill_slim : IsTaken t → IsKept t → slim_broker old.broker ≡ old.broker → AreSlimBut birth (places_of contents) new.broker.records
    fill_slim ok err slim =
        let all = ap (λ (x : Broker). x.records) slim in
        elim (cases_Bool t) [
          | inl taken ↦ subst (λ (x : Stepping). AreSlimBut birth (places_of contents) x.broker.records) (sym (ok taken)) (filled_but birth contents old.broker.records all)
          | inr kept ↦ subst (λ (x : Stepping). AreSlimBut birth (places_of contents) x.broker.records) (sym (err kept)) (slim_any birth (places_of contents) old.broker.records all)
        ]

    -- what is stored is taken in, and said then
    pub fill_says : IsTrue t ↔ TakesAll birth contents old.broker.records → IsTaken t → (fillings : Fillings) (places : List ℕ) (r : Records) → AlikeRecords old.broker.records r
        → AreFilledBy fillings r → HasLawfulContents r → contents ≡ contents_at birth places r → (t ≡ true) × AreFilledAt fillings birth places new.broker.records
    fill_says exact ok fillings places r alike says lawful is =
        let takes : TakesAll birth contents old.broker.records = subst (λ (cs : List CopyContent). TakesAll birth cs old.broker.records) (sym is) (stored_takes birth old.broker.records r alike lawful places) in
        let all : t ≡ true = exact.1 takes in
        let filled : AreFilledAt fillings birth places (whole_places birth contents old.broker.records) =
        subst (λ (cs : List CopyContent). AreFilledAt fillings birth places (whole_places birth cs old.broker.records)) (sym is) (stored_filled fillings birth old.broker.records r alike says places) in
        (all, subst (λ (x : Stepping). AreFilledAt fillings birth places x.broker.records) (sym (ok all)) filled)
