-- A receiver reads its copies of QoS 1 first in the order in which they entered (MQTT 5.0, 4.3.2, 4.6).
use Rattle.std.proofs.Common.{◌≡◌, ℕ, Bool, true, false, not, List, [], ◌∷◌, filter, map, Option, Some, None, nat_eq, refl, sym, ap, subst, ◌∙◌, inl, inr}
use Rattle.std.specs.List.{AllByRecursion}
use Rattle.std.proofs.lemmas.Bool.{cases_Bool}
use Rattle.mqtt_base.specs.declared.session.CopyId.{CopyId}
use Rattle.mqtt_flow.specs.outbound.OutboundWorld.{Lot, World as Hop}
use Rattle.mqtt_flow.specs.outbound.Receiver.{Rising}
use Rattle.mqtt_rules.specs.declared.step.Capacity.{Capacity}
use Rattle.mqtt_rules.specs.step.State.{Broker}
use Rattle.mqtt_world_model.specs.model.Ends.{Entry, Receiver}
use Rattle.mqtt_world_model.specs.model.Laws.{copies_in, stand_among}
use Rattle.mqtt_world_model.specs.model.World.{World, receiver_named}
use Rattle.mqtt_world_laws.specs.receiver.Handing.{IsRun}
use Rattle.mqtt_world_laws.specs.receiver.Seen.{Numbering, handed_in, number_of}
use Rattle.mqtt_world_laws.specs.receiver.Tags.{Names, WasTagged, id_of}
use Rattle.mqtt_world_laws.specs.delivery.Standing.{StandsWith}
use Rattle.mqtt_world_laws.specs.ordered.FirstReads.{are_same, first_reads}
use Rattle.mqtt_world_laws.proofs.receiver_lemmas.queue.Handed.{rises_in_order, told_apart}
use Rattle.mqtt_world_laws.proofs.delivery_lemmas.order.FirstHanded.{first_handed, is_other}
use Rattle.mqtt_world_laws.proofs.delivery_lemmas.order.HopReads.{first_run}
use Rattle.mqtt_world_laws.proofs.delivery_lemmas.others.Standings.{runs_so}

-- ---- what holds of all that was read holds of what was read first

all_kept : (P : Entry → Type 0) (p : Entry → Bool) (es : List Entry) → AllByRecursion P es → AllByRecursion P (filter p es)
all_kept P p [] h = tt
all_kept P p (e ∷ es) h = elim (cases_Bool (p e)) [
  | inl in_ ↦ rw in_ (h.0, all_kept P p es h.1)
  | inr out ↦ rw out (all_kept P p es h.1)
]

-- and of each that was read first
pub first_ones : (P : Entry → Type 0) (es : List Entry) → AllByRecursion P es → AllByRecursion P (first_reads es)
first_ones P [] h = tt
first_ones P (e ∷ es) h = (h.0, all_kept P (λ (d : Entry). not (are_same d.copy e.copy)) (first_reads es) (first_ones P es h.1))

-- ---- seen as a hop

module _ (number : Numbering) (ids : List CopyId) where
  same_numbers : (o p : Option CopyId) → Names number ids o → Names number ids p → are_same o p ≡ nat_eq (number_of number o) (number_of number p)
  same_numbers None p none other = absurd none
  same_numbers (Some c) None its none = absurd none
  same_numbers (Some c) (Some d) its other = told_apart number ids c d its other

  kept_mapped : (e : Entry) (es : List Entry) → WasTagged number ids e → AllByRecursion (WasTagged number ids) es
      → map (handed_in number) (filter (λ (d : Entry). not (are_same d.copy e.copy)) es) ≡ filter (is_other (handed_in number e)) (map (handed_in number) es)
  kept_mapped e [] its h = refl
  kept_mapped e (d ∷ es) its h =
      let same = ap not (same_numbers d.copy e.copy h.0 its) in
      let rest = kept_mapped e es its h.1 in
      elim (cases_Bool (not (are_same d.copy e.copy))) [
        | inl in_ ↦ let there : is_other (handed_in number e) (handed_in number d) ≡ true = sym same ∙ in_ in rw (in_, there) (ap (λ xs. handed_in number d ∷ xs) rest)
        | inr out ↦ let gone : is_other (handed_in number e) (handed_in number d) ≡ false = sym same ∙ out in rw (out, gone) rest
      ]

  first_mapped : (es : List Entry) → AllByRecursion (WasTagged number ids) es → map (handed_in number) (first_reads es) ≡ first_handed (map (handed_in number) es)
  first_mapped [] h = refl
  first_mapped (e ∷ es) h =
      ap (λ xs. handed_in number e ∷ xs) (kept_mapped e (first_reads es) h.0 (first_ones (WasTagged number ids) es h.1) ∙ ap (λ xs. filter (is_other (handed_in number e)) xs) (first_mapped es h.1))

module _ (number : Numbering) (largest : ℕ) (copies : List Lot) (r : Receiver) (b : Broker) (h : IsRun number largest copies r b) where
  first_in_order : stand_among (copies_in (first_reads r.once)) (map id_of copies) ≡ true
  first_in_order =
      let law : Rising (first_handed (map (handed_in number) r.once)) = subst (λ (w : Hop). Rising (first_handed w.reads)) (sym h.seen_is) (first_run largest h.events) in
      rises_in_order number largest copies r b h (first_reads r.once) (first_ones (WasTagged number (map id_of copies)) r.once h.tagged.once) (subst Rising (sym (first_mapped number (map id_of copies) r.once h.tagged.once)) law)

-- copies of QoS 1 were read first in the order in which they entered
pub read_in_order : (c : List ℕ) (largest : ℕ) (limits : Capacity) (ids : List CopyId) (ns : List ℕ) (r : Receiver) (w : World) → StandsWith c largest limits ids ns w → receiver_named c w ≡ Some r → stand_among (copies_in (first_reads r.once)) ids ≡ true
read_in_order c largest limits ids ns r w h e =
    let x = runs_so c largest limits ids ns r w h e in
    subst (λ (all : List CopyId). stand_among (copies_in (first_reads r.once)) all ≡ true) x.same (first_in_order _ largest x.after r w.broker x.run_is)
