-- Of the copies that stand in a receiver's queue at some moment, those that it was handed by a later one stand in its ledger in
-- the order of the queue (MQTT 5.0, 4.6).
use Rattle.std.proofs.Common.{◌≡◌, ℕ, Bool, true, false, ◌||◌, List, [], ◌∷◌, ◌++◌, filter, map, Option, Some, None, refl, sym, ap, subst, ◌∙◌, inl, inr}
use Rattle.std.specs.Prelude.{◌≢◌}
use Rattle.std.specs.List.{AllByRecursion}
use Rattle.std.proofs.lemmas.Bool.{cases_Bool}
use Rattle.mqtt_base.specs.declared.session.CopyId.{CopyId}
use Rattle.mqtt_flow.specs.outbound.OutboundWorld.{Lot, past, standing}
use Rattle.mqtt_records.specs.messages.Queue.{CopyRow}
use Rattle.mqtt_world_model.specs.model.Ends.{Receiver}
use Rattle.mqtt_world_model.specs.model.Laws.{copies_in, is_copy, stand_among, standing_in}
use Rattle.mqtt_records.specs.declared.state.session.Session.{Session}
use Rattle.mqtt_records.specs.lists.Distinct.{AllDiffer}
use Rattle.mqtt_rules.specs.step.State.{Broker}
use Rattle.mqtt_world_laws.specs.receiver.Seen.{AreQueued, StandOn, lot_on, still_standing, went_in}
use Rattle.mqtt_world_laws.specs.receiver.Tags.{id_of}
use Rattle.mqtt_world_laws.proofs.receiver_lemmas.queue.Handed.{copy_is, copy_itself}
use Rattle.mqtt_world_laws.proofs.receiver_lemmas.connects.Resuming.{renewed_ids}
use Rattle.mqtt_world_laws.specs.delivery.HandedOver.{AreHandedInOrder, is_among, queued_by}

-- ---- of what stands in order a part stands in the order of that part

-- nothing stands in any list
pub none_first : (ys : List CopyId) → stand_among [] ys ≡ true
none_first [] = refl
none_first (y ∷ ys) = refl

-- without the first
without : (x : CopyId) (xs ys : List CopyId) → stand_among (x ∷ xs) ys ≡ true → stand_among xs ys ≡ true
without x xs [] h = absurd cc
without x [] (y ∷ ys) h = refl
without x (v ∷ vs) (y ∷ ys) h =
    let behind : stand_among (v ∷ vs) ys ≡ true = elim (cases_Bool (is_copy x y)) [
      | inl here ↦ rw here at h
      | inr further ↦ without x (v ∷ vs) ys (rw further at h)
    ] in
    elim (cases_Bool (is_copy v y)) [
      | inl its ↦ rw its (without v vs ys behind)
      | inr other ↦ rw other behind
    ]

-- what stands in a list stands behind one more
pub behind_one : (xs : List CopyId) (y : CopyId) (ys : List CopyId) → stand_among xs ys ≡ true → stand_among xs (y ∷ ys) ≡ true
behind_one [] y ys h = refl
behind_one (x ∷ xs) y ys h = elim (cases_Bool (is_copy x y)) [
  | inl its ↦ rw its (without x xs ys h)
  | inr other ↦ rw other h
]

-- what is picked from both still stands
pub part_stands : (p : CopyId → Bool) (xs ys : List CopyId) → stand_among xs ys ≡ true → stand_among (filter p xs) (filter p ys) ≡ true
part_stands p [] ys h = none_first (filter p ys)
part_stands p (x ∷ xs) [] h = absurd cc
part_stands p (x ∷ xs) (y ∷ ys) h = elim (cases_Bool (is_copy x y)) [
  | inl its ↦
      let rest = part_stands p xs ys (rw its at h) in
      let same : p x ≡ p y = ap p (copy_is x y its) in
      elim (cases_Bool (p y)) [
        | inl in_ ↦ let also = same ∙ in_ in rw (also, in_, its) rest
        | inr out ↦ let also = same ∙ out in rw (also, out) rest
      ]
  | inr other ↦
      let rest = part_stands p (x ∷ xs) ys (rw other at h) in
      elim (cases_Bool (p y)) [
        | inl in_ ↦ rw in_ (behind_one (filter p (x ∷ xs)) y (filter p ys) rest)
        | inr out ↦ rw out rest
      ]
]

-- ---- what stands of the copies that have entered, picked among all that enter

abbrev pub standing_ids : List Lot → List CopyId
standing_ids lots = map id_of (still_standing lots)

-- copies that differ are not the same
pub other_copy : (c d : CopyId) → c ≢ d → is_copy c d ≡ false
other_copy c d differ = elim (cases_Bool (is_copy c d)) [ inl same ↦ absurd (differ (copy_is c d same)) | inr other ↦ other ]

not_standing : (c : CopyId) (lots : List Lot) (more : List CopyId) → AllByRecursion (λ (d : CopyId). c ≢ d) (map id_of lots ++ more) → is_among (standing_ids lots) c ≡ false
not_standing c [] more h = refl
not_standing c (standing e m ∷ lots) more h = rw (other_copy c e.copy.id h.0) (not_standing c lots more h.1)
not_standing c (past ending e m ∷ lots) more h = not_standing c lots more h.1

-- of those that fail a test none is kept
pub none_kept : (keep : CopyId → Bool) (more : List CopyId) → AllByRecursion (λ (c : CopyId). keep c ≡ false) more → filter keep more ≡ []
none_kept keep [] h = refl
none_kept keep (c ∷ more) h = rw h.0 (none_kept keep more h.1)

others_agree : (keep : CopyId → Bool) (d : CopyId) (ids rest : List CopyId) → AllByRecursion (λ (c : CopyId). d ≢ c) rest → AllByRecursion (λ (c : CopyId). keep c ≡ is_among (d ∷ ids) c) rest
    → AllByRecursion (λ (c : CopyId). keep c ≡ is_among ids c) rest
others_agree keep d ids [] p h = tt
others_agree keep d ids (c ∷ rest) p h = (
  h.0 ∙ ap (λ (t : Bool). t || is_among ids c) (other_copy c d (λ e. p.0 (sym e))),
  others_agree keep d ids rest p.1 h.1,
)

picks : (keep : CopyId → Bool) (lots : List Lot) (more : List CopyId) → AllDiffer (map id_of lots ++ more) → AllByRecursion (λ (c : CopyId). keep c ≡ is_among (standing_ids lots) c) (map id_of lots ++ more)
    → filter keep (map id_of lots ++ more) ≡ standing_ids lots
picks keep [] more differ h = none_kept keep more h
picks keep (standing e m ∷ lots) more differ h =
    let c = e.copy.id in
    let its : keep c ≡ true = h.0 ∙ ap (λ (t : Bool). t || is_among (standing_ids lots) c) (copy_itself c) in
    rw its (ap (λ (ids : List CopyId). c ∷ ids) (picks keep lots more differ.1 (others_agree keep c (standing_ids lots) (map id_of lots ++ more) differ.0 h.1)))
picks keep (past ending e m ∷ lots) more differ h =
    let off : keep e.copy.id ≡ false = h.0 ∙ not_standing e.copy.id lots more differ.0 in
    rw off (picks keep lots more differ.1 h.1)

-- ---- those that stand are the queue

lots_ids : (went : List ℕ) (queue : List CopyRow) → map id_of (map (lot_on went) queue) ≡ map (λ (e : CopyRow). e.copy.id) queue
lots_ids went [] = refl
lots_ids went (e ∷ queue) = ap (λ (ids : List CopyId). e.copy.id ∷ ids) (lots_ids went queue)

-- the copies that stand are those of the queue
pub queue_ids : (lots : List Lot) (o : Option Session) (b : Broker) → AreQueued lots o b → standing_ids lots ≡ queued_by o
queue_ids lots None b h = ap (map id_of) h
queue_ids lots (Some s) b h = by (went_in s.birth b) h
  where
    by : (went : Option (List ℕ)) → StandOn lots s.queue went → standing_ids lots ≡ standing_in s
    by None stand = sym (renewed_ids (still_standing lots)) ∙ (ap (map id_of) stand ∙ lots_ids [] s.queue)
    by (Some went) stand = ap (map id_of) stand ∙ lots_ids went s.queue

-- ---- so those that were handed over

all_so : (P : CopyId → Type 0) (ids : List CopyId) → ((c : CopyId) → P c) → AllByRecursion P ids
all_so P [] h = tt
all_so P (c ∷ ids) h = (h c, all_so P ids h)

-- copies are handed over in the order of the queue
pub handed_in_queue_order : (lots : List Lot) (more : List CopyId) (o : Option Session) (b : Broker) (r : Receiver) → AreQueued lots o b → AllDiffer (map id_of lots ++ more) → stand_among (copies_in r.ledger) (map id_of lots ++ more) ≡ true
    → AreHandedInOrder (queued_by o) r
handed_in_queue_order lots more o b r queued differ stand =
    let is = queue_ids lots o b queued in
    let keep = is_among (queued_by o) in
    let picked = picks keep lots more differ (all_so (λ (c : CopyId). keep c ≡ is_among (standing_ids lots) c) (map id_of lots ++ more) (λ c. ap (λ (ids : List CopyId). is_among ids c) (sym is))) in
    subst (λ (ids : List CopyId). stand_among (filter keep (copies_in r.ledger)) ids ≡ true) (picked ∙ is) (part_stands keep (copies_in r.ledger) (map id_of lots ++ more) stand)
