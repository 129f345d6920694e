-- A subscription that is read is the subscription that was written, and what was written is read again.
use Rattle.std.proofs.Common.{◌≡◌, ℕ, cond, ltb, List, [], ◌∷◌, ◌++◌, Ok, Err, refl, ap, subst, ◌∙◌, append_assoc, arith}
use Rattle.std.proofs.lemmas.Bool.{ltb-true, lt-ltb}
use Rattle.std.proofs.lemmas.List.{length-append}
use Rattle.mqtt_base.specs.Values.{blob}
use Rattle.mqtt_base.specs.Reading.{◌>>=◌, u8_at, text_at}
use Rattle.mqtt_base.proofs.Steps.{IsBytes, bind_ok, when_ok, ok_is, Takes, Takes-then}
use Rattle.mqtt_base.proofs.Fields.{byte_takes, text_takes, text_again}
use Rattle.mqtt_base.proofs.Items.{Reads}
use Rattle.mqtt_packet.specs.declared.parts.fault.Fault.TheVariants.{Malformed}
use Rattle.mqtt_packet.specs.subscribe.Subscriptions.{Subscription, subscription, IsSubscription}
use Rattle.mqtt_packet.specs.parts.Reading.{malformed}
use Rattle.mqtt_packet.specs.subscribe.Subscriptions.{subscription_at}
use Rattle.mqtt_packet.proofs.parts_lemmas.Parts.{malformed_ok}

subscription_takes : (bytes : List ℕ) (x : Subscription × List ℕ) → IsBytes bytes → subscription_at bytes ≡ Ok x → Takes bytes (subscription x.0) x.1 × IsSubscription x.0
unfolding subscription_at
subscription_takes bytes x fits e =
    let a = bind_ok (malformed (text_at bytes)) (λ t. malformed (u8_at t.1) >>= λ o. cond (ltb o.0 64) (Ok (record { filter = t.0; options = o.0 }, o.1)) (Err Malformed)) x e in
    let b = bind_ok (malformed (u8_at a.0.1)) (λ o. cond (ltb o.0 64) (Ok (record { filter = a.0.0; options = o.0 }, o.1)) (Err Malformed)) x a.2 in
    let made : Subscription × List ℕ = (record { filter = a.0.0; options = b.0.0 }, b.0.1) in
    let g = when_ok (ltb b.0.0 64) Malformed (Ok made) x b.2 in
    let t = text_takes bytes a.0 fits (malformed_ok (text_at bytes) a.0 a.1) in
    let o = byte_takes a.0.1 b.0 t.0.rest_fits (malformed_ok (u8_at a.0.1) b.0 b.1) in
    subst (λ (y : Subscription × List ℕ). Takes bytes (subscription y.0) y.1 × IsSubscription y.0) (ok_is made x g.1)
    (Takes-then bytes (blob a.0.0) a.0.1 (b.0.0 ∷ []) b.0.1 t.0 o.0, ((t.1, t.2), ltb-true b.0.0 64 g.0))

subscription_again : (f : Subscription) (rest : List ℕ) → IsSubscription f → subscription_at (subscription f ++ rest) ≡ Ok (f, rest)
unfolding subscription_at
subscription_again f rest h =
    ap subscription_at (append_assoc (blob f.filter) (f.options ∷ []) rest) ∙ rw (text_again f.filter (f.options ∷ rest) h.0.0 h.0.1, lt-ltb f.options 64 h.1) refl

-- a subscription is read as it is written
pub subscription_reads : Reads subscription_at subscription IsSubscription
subscription_reads = record {
  takes = subscription_takes;
  again = subscription_again;
  some = λ f. omega (arith, length-append (blob f.filter) (f.options ∷ []));
}
