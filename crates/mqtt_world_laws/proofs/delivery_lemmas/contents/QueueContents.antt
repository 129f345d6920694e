-- What a receiver has read of the copies that stand in its queue carries their topic and payload (MQTT 5.0, 3.3.2, 3.3.3).
use Rattle.std.proofs.Common.{◌≡◌, ℕ, zero, suc, List, [], ◌∷◌, map, Option, Some, None, slice_get, refl, sym, ap, subst, ◌∙◌}
use Rattle.std.specs.Prelude.{option_map}
use Rattle.std.specs.List.{AllByRecursion}
use Rattle.mqtt_base.specs.declared.session.CopyId.{CopyId}
use Rattle.mqtt_flow.specs.outbound.OutboundCourse.{carried_by}
use Rattle.mqtt_flow.specs.outbound.OutboundWorld.{Lot, TopicAndPayload, past, renewed, standing}
use Rattle.mqtt_flow.specs.outbound.Receiver.{Body}
use Rattle.mqtt_records.specs.messages.Queue.{CopyRow}
use Rattle.mqtt_world_model.specs.model.Ends.{Entry}
use Rattle.mqtt_records.specs.declared.state.session.Session.{Session}
use Rattle.mqtt_rules.proofs.step_lemmas.flight.FlightRows.{all_more}
use Rattle.mqtt_rules.specs.step.State.{Broker}
use Rattle.mqtt_world_laws.specs.receiver.Handing.{IsOf}
use Rattle.mqtt_world_laws.specs.receiver.Seen.{AreQueued, Numbering, StandOn, content_of, lot_on, still_standing, went_in}
use Rattle.mqtt_world_laws.specs.receiver.Tags.{AreNumbered, id_of}
use Rattle.mqtt_world_laws.specs.delivery.HandedOver.{CarriesCopy, CarryQueued}

-- which copy it is, and what it carries
record Kind : Type 0 where
  id : CopyId
  content : TopicAndPayload

abbrev kind_of : Lot → Kind
kind_of (standing e m) = record { id = e.copy.id; content = m }
kind_of (past ending e m) = record { id = e.copy.id; content = m }

abbrev kind_in : CopyRow → Kind
kind_in e = record { id = e.copy.id; content = content_of e.copy }

lots_kinds : (went : List ℕ) (queue : List CopyRow) → map kind_of (map (lot_on went) queue) ≡ map kind_in queue
lots_kinds went [] = refl
lots_kinds went (e ∷ queue) = ap (λ (ks : List Kind). kind_in e ∷ ks) (lots_kinds went queue)

renewed_kinds : (lots : List Lot) → map kind_of (map renewed lots) ≡ map kind_of lots
renewed_kinds [] = refl
renewed_kinds (standing e m ∷ lots) = ap (λ (ks : List Kind). kind_of (standing e m) ∷ ks) (renewed_kinds lots)
renewed_kinds (past ending e m ∷ lots) = ap (λ (ks : List Kind). kind_of (past ending e m) ∷ ks) (renewed_kinds lots)

queue_kinds : (lots : List Lot) (s : Session) (went : Option (List ℕ)) → StandOn lots s.queue went → map kind_of (still_standing lots) ≡ map kind_in s.queue
queue_kinds lots s None stand = sym (renewed_kinds (still_standing lots)) ∙ (ap (map kind_of) stand ∙ lots_kinds [] s.queue)
queue_kinds lots s (Some went) stand = ap (map kind_of) stand ∙ lots_kinds went s.queue

-- ---- each that stands has its place

-- one of this kind is among the lots
record HasPlace (lots : List Lot) (k : Kind) : Type 0 where
  place : ℕ
  lot : Lot
  found : slice_get lots place ≡ Some lot
  kind : kind_of lot ≡ k

one_further : (l : Lot) (lots : List Lot) (k : Kind) → HasPlace lots k → HasPlace (l ∷ lots) k
one_further l lots k h = record { place = suc h.place; lot = h.lot; found = h.found; kind = h.kind }

places : (lots : List Lot) → AllByRecursion (HasPlace lots) (map kind_of (still_standing lots))
places [] = tt
places (standing e m ∷ lots) =
    (record { place = 0; lot = standing e m; found = refl; kind = refl }, all_more (HasPlace lots) (HasPlace (standing e m ∷ lots)) (map kind_of (still_standing lots)) (λ k h. one_further (standing e m) lots k h) (places lots))
places (past ending e m ∷ lots) = all_more (HasPlace lots) (HasPlace (past ending e m ∷ lots)) (map kind_of (still_standing lots)) (λ k h. one_further (past ending e m) lots k h) (places lots)

unmapped : (lots : List Lot) (queue : List CopyRow) → AllByRecursion (HasPlace lots) (map kind_in queue) → AllByRecursion (λ (e : CopyRow). HasPlace lots (kind_in e)) queue
unmapped lots [] h = tt
unmapped lots (e ∷ queue) h = (h.0, unmapped lots queue h.1)

-- ---- what was read

place_mapped : (lots : List Lot) (n : ℕ) → slice_get (map id_of lots) n ≡ option_map id_of (slice_get lots n)
place_mapped [] n = refl
place_mapped (l ∷ lots) zero = refl
place_mapped (l ∷ lots) (suc n) = place_mapped lots n

its_id : (l : Lot) → id_of l ≡ (kind_of l).id
its_id (standing e m) = refl
its_id (past ending e m) = refl

its_body : (l : Lot) → ((carried_by l).topic ≡ (kind_of l).content.topic) × ((carried_by l).payload ≡ (kind_of l).content.payload)
its_body (standing e m) = (refl, refl)
its_body (past ending e m) = (refl, refl)

module _ (number : Numbering) (lots : List Lot) (numbered : AreNumbered number (map id_of lots)) where
  carries_row : (row : CopyRow) (e : Entry) → HasPlace lots (kind_in row) → IsOf number lots e → CarriesCopy row.copy e
  carries_row row e h x its =
      let both : Some x.0 ≡ Some row.copy.id = sym x.1 ∙ its in
      let copy_is : x.0 ≡ row.copy.id = cc in
      let id_is : id_of h.lot ≡ row.copy.id = its_id h.lot ∙ ap (λ (k : Kind). k.id) h.kind in
      let at : slice_get (map id_of lots) h.place ≡ Some row.copy.id = place_mapped lots h.place ∙ (ap (option_map id_of) h.found ∙ ap Some id_is) in
      let place_is : number x.0 ≡ h.place = ap number copy_is ∙ numbered h.place row.copy.id at in
      let bodies : Some (carried_by h.lot) ≡ Some e.body = sym (ap (λ (n : ℕ). option_map carried_by (slice_get lots n)) place_is ∙ ap (option_map carried_by) h.found) ∙ x.2 in
      let same : carried_by h.lot ≡ e.body = cc in
      let body = its_body h.lot in (
        ap (λ (z : Body). z.topic) (sym same) ∙ (body.0 ∙ ap (λ (k : Kind). k.content.topic) h.kind),
        ap (λ (z : Body). z.payload) (sym same) ∙ (body.1 ∙ ap (λ (k : Kind). k.content.payload) h.kind),
      )

  carries_all : (row : CopyRow) (es : List Entry) → HasPlace lots (kind_in row) → AllByRecursion (IsOf number lots) es → AllByRecursion (CarriesCopy row.copy) es
  carries_all row es h all = all_more (IsOf number lots) (CarriesCopy row.copy) es (λ e x. carries_row row e h x) all

  -- what the receiver has read of the copies in its queue carries what they do
  pub carry_queued : (o : Option Session) (b : Broker) (es : List Entry) → AreQueued lots o b → AllByRecursion (IsOf number lots) es → CarryQueued o es
  carry_queued None b es queued all = tt
  carry_queued (Some s) b es queued all =
      let there = unmapped lots s.queue (subst (λ (ks : List Kind). AllByRecursion (HasPlace lots) ks) (queue_kinds lots s (went_in s.birth b) queued) (places lots)) in
      all_more (λ (row : CopyRow). HasPlace lots (kind_in row)) (λ (row : CopyRow). AllByRecursion (CarriesCopy row.copy) es) s.queue (λ row h. carries_all row es h all) there
