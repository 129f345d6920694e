-- Those who get copies, with what the copies have in common, are the copies as a publication was routed.
use Rattle.std.proofs.Common.{◌≡◌, ℕ, List, [], ◌∷◌, ◌++◌, map, refl, ap, sym, ◌∙◌}
use Rattle.std.specs.Prelude.{flat_map}
use Rattle.std.proofs.lemmas.List.{append-nil, map-append}
use Rattle.mqtt_base.specs.declared.session.Cause.{Cause}
use Rattle.mqtt_base.specs.declared.session.Cause.TheVariants.{Direct, Share}
use Rattle.mqtt_records.specs.declared.messages.message.Content.{Content}
use Rattle.mqtt_records.specs.declared.messages.message.MessageCopy.{MessageCopy}
use Rattle.mqtt_routes.specs.routing.Intended.{Copy}
use Rattle.mqtt_routes.specs.routing.Acceptance.{Routed, Served, copies_in}
use Rattle.mqtt_rules.specs.step.Deeds.{Message}
use Rattle.mqtt_broker_queue.specs.declared.publications.copies.Addressee.{Addressee}
use Rattle.mqtt_broker_queue.specs.publications.Copies.{InCommon, addressee, copy_for, copies_for}
use Rattle.mqtt_broker_queue.specs.subscribers.Indexing.{served_addressees, addressees, all_copied, copied, served_copied}

abbrev in_common : ℕ → ℕ → Message → InCommon
in_common number moment m = record { number = number; content = record { topic = m.topic; properties = m.properties; payload = m.payload; arrived = moment } }

module _ (number moment : ℕ) (m : Message) where
  some_are : (cause : Cause) (cs : List Copy) → copies_for (in_common number moment m) (map (addressee cause) cs) ≡ map (copied number moment m cause) cs
  some_are cause [] = refl
  some_are cause (c ∷ cs) = ap (λ zs. copied number moment m cause c ∷ zs) (some_are cause cs)

  served_are : (ss : List Served) → copies_for (in_common number moment m) (flat_map served_addressees ss) ≡ flat_map (served_copied number moment m) ss
  served_are [] = refl
  served_are (s ∷ ss) =
      map-append (copy_for (in_common number moment m)) (served_addressees s) (flat_map served_addressees ss)
      ∙ (ap (λ (zs : List MessageCopy). zs ++ copies_for (in_common number moment m) (flat_map served_addressees ss)) (some_are (Share s.group) (copies_in s.copy))
      ∙ ap (λ (zs : List MessageCopy). served_copied number moment m s ++ zs) (served_are ss))

  all_are : (r : Routed) → copies_for (in_common number moment m) (addressees r) ≡ all_copied number moment m r
  all_are r =
      map-append (copy_for (in_common number moment m)) (map (addressee Direct) r.direct) (flat_map served_addressees r.served)
      ∙ (ap (λ (zs : List MessageCopy). zs ++ copies_for (in_common number moment m) (flat_map served_addressees r.served)) (some_are Direct r.direct)
      ∙ ap (λ (zs : List MessageCopy). map (copied number moment m Direct) r.direct ++ zs) (served_are r.served))

-- the copies of a message for those to whom it was routed are its copies as it was routed
pub copied_are : (number moment : ℕ) (m : Message) (r : Routed) (content : Content) (all : List Addressee) → content ≡ (in_common number moment m).content → all ≡ addressees r
    → copies_for (record { number = number; content = content }) all ≡ all_copied number moment m r
copied_are number moment m r content all content_is all_are_is =
    ap (λ (k : Content). copies_for (record { number = number; content = k }) all) content_is
    ∙ (ap (copies_for (in_common number moment m)) all_are_is ∙ all_are number moment m r)

-- where no group gets one, those for the sessions to which it was routed directly are all
pub direct_are : (number moment : ℕ) (m : Message) (r : Routed) (content : Content) → content ≡ (in_common number moment m).content → r.served ≡ []
    → copies_for (record { number = number; content = content }) (map (addressee Direct) r.direct) ≡ all_copied number moment m r
direct_are number moment m r content content_is none =
    let all : map (addressee Direct) r.direct ≡ addressees r =
    sym (ap (λ ss. map (addressee Direct) r.direct ++ flat_map served_addressees ss) none ∙ append-nil (map (addressee Direct) r.direct)) in
    copied_are number moment m r content (map (addressee Direct) r.direct) content_is all
