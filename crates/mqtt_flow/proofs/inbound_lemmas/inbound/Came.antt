-- A packet that comes tells the stage of its identifier.
use Rattle.std.proofs.Common.{◌≡◌, ℕ, ◌≤◌, Bool, true, false, List, [], ◌∷◌, refl, ◌∙◌}
use Rattle.mqtt_base.specs.Codes.{is_success}
use Rattle.mqtt_flow.specs.inbound.Identifiers.{is_among}
use Rattle.mqtt_flow.specs.inbound.Publisher.{Fate, FromPublisher, PUBLISH_1, PUBLISH_2, PUBREL, ToPublisher, PUBACK, PUBREC, PUBCOMP}
use Rattle.mqtt_flow.specs.inbound.InboundWorld.{count_of}
use Rattle.mqtt_flow.proofs.inbound_lemmas.Identifiers.{same_id}
use Rattle.mqtt_flow.proofs.inbound_lemmas.inbound.Stages.{ups, downs, Mark, held, Stage, held_of, up_of, down_of, open_of, Fits, AtMost, At, at_most_none, at_head, for_puback, for_pubrec, for_pubcomp, free, publishing_1, acknowledging, publishing, receiving, releasing, completing}

-- a packet of the publisher comes: one stage has it, and no other packet about i is under way
pub record UpCame (i n : ℕ) (mark : Mark) (fates : List Fate) (rest : List FromPublisher) (down : List ToPublisher) : Type 0 where
  pub holds : held i 0 fates ≡ (n, mark) ∷ []
  pub of_rest : ups i rest ≡ []
  pub of_down : downs i down ≡ []

publish_1_at : (i n : ℕ) (dup : Bool) (fates : List Fate) (rest : List FromPublisher) (down : List ToPublisher) (s : Stage) → held i 0 fates ≡ held_of s → PUBLISH_1 i n dup ∷ ups i rest ≡ up_of i s → AtMost (downs i down) (down_of i s) → UpCame i n for_puback fates rest down × (open_of s ≡ false)
publish_1_at i n dup fates rest down free h e d = absurd (cc)
publish_1_at i n dup fates rest down (publishing_1 m dup') h e d = (record { holds = cc; of_rest = cc; of_down = at_most_none d }, refl)
publish_1_at i n dup fates rest down (acknowledging m code) h e d = absurd (cc)
publish_1_at i n dup fates rest down (publishing m dup' o) h e d = absurd (cc)
publish_1_at i n dup fates rest down (receiving m code) h e d = absurd (cc)
publish_1_at i n dup fates rest down (releasing m o) h e d = absurd (cc)
publish_1_at i n dup fates rest down (completing m code) h e d = absurd (cc)

-- a PUBLISH of QoS 1 that comes is of a message that waits for its PUBACK, whose identifier is not open
pub publish_1_came : {i n : ℕ} {dup : Bool} {fates : List Fate} {old rest : List FromPublisher} {down : List ToPublisher} {ids acc : List ℕ} (s : Stage) → At i fates old (PUBLISH_1 i n dup ∷ rest) down ids acc s → UpCame i n for_puback fates rest down × (is_among i ids ≡ false)
publish_1_came {i} {n} {dup} {fates} {old} {rest} {down} s at =
    let k = same_id i in
    let c = publish_1_at i n dup fates rest down s at.holds (at_head (rw k at at.of_up)) at.of_down in
    (c.0, at.open_is ∙ c.1)

publish_2_at : (i n : ℕ) (dup : Bool) (fates : List Fate) (rest : List FromPublisher) (down : List ToPublisher) (s : Stage) → held i 0 fates ≡ held_of s → PUBLISH_2 i n dup ∷ ups i rest ≡ up_of i s → AtMost (downs i down) (down_of i s) → UpCame i n for_pubrec fates rest down
publish_2_at i n dup fates rest down free h e d = absurd (cc)
publish_2_at i n dup fates rest down (publishing_1 m dup') h e d = absurd (cc)
publish_2_at i n dup fates rest down (acknowledging m code) h e d = absurd (cc)
publish_2_at i n dup fates rest down (publishing m dup' o) h e d = record { holds = cc; of_rest = cc; of_down = at_most_none d }
publish_2_at i n dup fates rest down (receiving m code) h e d = absurd (cc)
publish_2_at i n dup fates rest down (releasing m o) h e d = absurd (cc)
publish_2_at i n dup fates rest down (completing m code) h e d = absurd (cc)

-- a PUBLISH of QoS 2 that comes is of a message that waits for its PUBREC
pub publish_2_came : {i n : ℕ} {dup : Bool} {fates : List Fate} {old rest : List FromPublisher} {down : List ToPublisher} {ids acc : List ℕ} (s : Stage) → At i fates old (PUBLISH_2 i n dup ∷ rest) down ids acc s → UpCame i n for_pubrec fates rest down
publish_2_came {i} {n} {dup} {fates} {old} {rest} {down} s at =
    let k = same_id i in publish_2_at i n dup fates rest down s at.holds (at_head (rw k at at.of_up)) at.of_down

pubrel_at : (i : ℕ) (fates : List Fate) (rest : List FromPublisher) (down : List ToPublisher) (s : Stage) → held i 0 fates ≡ held_of s → PUBREL i ∷ ups i rest ≡ up_of i s → AtMost (downs i down) (down_of i s) → (n : ℕ) × UpCame i n for_pubcomp fates rest down
pubrel_at i fates rest down free h e d = absurd (cc)
pubrel_at i fates rest down (publishing_1 m dup') h e d = absurd (cc)
pubrel_at i fates rest down (acknowledging m code) h e d = absurd (cc)
pubrel_at i fates rest down (publishing m dup' o) h e d = absurd (cc)
pubrel_at i fates rest down (receiving m code) h e d = absurd (cc)
pubrel_at i fates rest down (releasing m o) h e d = (m, record { holds = h; of_rest = cc; of_down = at_most_none d })
pubrel_at i fates rest down (completing m code) h e d = absurd (cc)

-- a PUBREL that comes is of a message that waits for its PUBCOMP
pub pubrel_came : {i : ℕ} {fates : List Fate} {old rest : List FromPublisher} {down : List ToPublisher} {ids acc : List ℕ} (s : Stage) → At i fates old (PUBREL i ∷ rest) down ids acc s → (n : ℕ) × UpCame i n for_pubcomp fates rest down
pubrel_came {i} {fates} {old} {rest} {down} s at =
    let k = same_id i in pubrel_at i fates rest down s at.holds (at_head (rw k at at.of_up)) at.of_down

-- a packet comes to the publisher, likewise
pub record DownCame (i n : ℕ) (mark : Mark) (fates : List Fate) (old up : List FromPublisher) (rest : List ToPublisher) : Type 0 where
  pub holds : held i 0 fates ≡ (n, mark) ∷ []
  pub of_old : ups i old ≡ []
  pub of_up : ups i up ≡ []
  pub of_rest : downs i rest ≡ []

puback_at : (i code : ℕ) (fates : List Fate) (old up : List FromPublisher) (rest : List ToPublisher) (ids acc : List ℕ) (s : Stage) → held i 0 fates ≡ held_of s → PUBACK i code ∷ downs i rest ≡ down_of i s → AtMost (ups i old) (up_of i s) → AtMost (ups i up) (up_of i s) → is_among i ids ≡ open_of s → Fits acc s → (n : ℕ) × DownCame i n for_puback fates old up rest × (is_among i ids ≡ false) × (is_success code ≡ true → 1 ≤ count_of n acc)
puback_at i code fates old up rest ids acc free h e a b o z = absurd (cc)
puback_at i code fates old up rest ids acc (publishing_1 m dup) h e a b o z = absurd (cc)
puback_at i code fates old up rest ids acc (acknowledging m c) h e a b o z =
    let q : code ≡ c = cc in
    (m, record { holds = h; of_old = at_most_none a; of_up = at_most_none b; of_rest = cc }, o, rw q z)
puback_at i code fates old up rest ids acc (publishing m dup p) h e a b o z = absurd (cc)
puback_at i code fates old up rest ids acc (receiving m c) h e a b o z = absurd (cc)
puback_at i code fates old up rest ids acc (releasing m p) h e a b o z = absurd (cc)
puback_at i code fates old up rest ids acc (completing m c) h e a b o z = absurd (cc)

-- a PUBACK that comes is of a message that waits for it, and that was accepted if the code says so
pub puback_came : {i code : ℕ} {fates : List Fate} {old up : List FromPublisher} {rest : List ToPublisher} {ids acc : List ℕ} (s : Stage) → At i fates old up (PUBACK i code ∷ rest) ids acc s → (n : ℕ) × DownCame i n for_puback fates old up rest × (is_among i ids ≡ false) × (is_success code ≡ true → 1 ≤ count_of n acc)
puback_came {i} {code} {fates} {old} {up} {rest} {ids} {acc} s at =
    let k = same_id i in puback_at i code fates old up rest ids acc s at.holds (at_head (rw k at at.of_down)) at.of_old at.of_up at.open_is at.fits

pubrec_at : (i code : ℕ) (fates : List Fate) (old up : List FromPublisher) (rest : List ToPublisher) (ids : List ℕ) (s : Stage) → held i 0 fates ≡ held_of s → PUBREC i code ∷ downs i rest ≡ down_of i s → AtMost (ups i old) (up_of i s) → AtMost (ups i up) (up_of i s) → is_among i ids ≡ open_of s → (n : ℕ) × DownCame i n for_pubrec fates old up rest × (is_among i ids ≡ is_success code)
pubrec_at i code fates old up rest ids free h e a b o = absurd (cc)
pubrec_at i code fates old up rest ids (publishing_1 m dup) h e a b o = absurd (cc)
pubrec_at i code fates old up rest ids (acknowledging m c) h e a b o = absurd (cc)
pubrec_at i code fates old up rest ids (publishing m dup p) h e a b o = absurd (cc)
pubrec_at i code fates old up rest ids (receiving m c) h e a b o =
    let q : code ≡ c = cc in
    (m, record { holds = h; of_old = at_most_none a; of_up = at_most_none b; of_rest = cc }, rw q o)
pubrec_at i code fates old up rest ids (releasing m p) h e a b o = absurd (cc)
pubrec_at i code fates old up rest ids (completing m c) h e a b o = absurd (cc)

-- a PUBREC that comes is of a message that waits for it, whose identifier is open if the code says so
pub pubrec_came : {i code : ℕ} {fates : List Fate} {old up : List FromPublisher} {rest : List ToPublisher} {ids acc : List ℕ} (s : Stage) → At i fates old up (PUBREC i code ∷ rest) ids acc s → (n : ℕ) × DownCame i n for_pubrec fates old up rest × (is_among i ids ≡ is_success code)
pubrec_came {i} {code} {fates} {old} {up} {rest} {ids} s at =
    let k = same_id i in pubrec_at i code fates old up rest ids s at.holds (at_head (rw k at at.of_down)) at.of_old at.of_up at.open_is

pubcomp_at : (i code : ℕ) (fates : List Fate) (old up : List FromPublisher) (rest : List ToPublisher) (ids : List ℕ) (s : Stage) → held i 0 fates ≡ held_of s → PUBCOMP i code ∷ downs i rest ≡ down_of i s → AtMost (ups i old) (up_of i s) → AtMost (ups i up) (up_of i s) → is_among i ids ≡ open_of s → (n : ℕ) × DownCame i n for_pubcomp fates old up rest × (is_among i ids ≡ false)
pubcomp_at i code fates old up rest ids free h e a b o = absurd (cc)
pubcomp_at i code fates old up rest ids (publishing_1 m dup) h e a b o = absurd (cc)
pubcomp_at i code fates old up rest ids (acknowledging m c) h e a b o = absurd (cc)
pubcomp_at i code fates old up rest ids (publishing m dup p) h e a b o = absurd (cc)
pubcomp_at i code fates old up rest ids (receiving m c) h e a b o = absurd (cc)
pubcomp_at i code fates old up rest ids (releasing m p) h e a b o = absurd (cc)
pubcomp_at i code fates old up rest ids (completing m c) h e a b o = (m, record { holds = h; of_old = at_most_none a; of_up = at_most_none b; of_rest = cc }, o)

-- a PUBCOMP that comes is of a message that waits for it, whose identifier is not open
pub pubcomp_came : {i code : ℕ} {fates : List Fate} {old up : List FromPublisher} {rest : List ToPublisher} {ids acc : List ℕ} (s : Stage) → At i fates old up (PUBCOMP i code ∷ rest) ids acc s → (n : ℕ) × DownCame i n for_pubcomp fates old up rest × (is_among i ids ≡ false)
pubcomp_came {i} {code} {fates} {old} {up} {rest} {ids} s at =
    let k = same_id i in pubcomp_at i code fates old up rest ids s at.holds (at_head (rw k at at.of_down)) at.of_old at.of_up at.open_is
