-- The options of a subscription: a byte that is read is the byte that was written, and what was written is read again.
use Rattle.std.proofs.Common.{◌≡◌, ℕ, zero, suc, ◌<◌, Bool, true, false, ◌&&◌, eqb, Option, Some, None, inl, inr, refl, subst, arith}
use Rattle.std.proofs.lemmas.Bool.{cases_lt, eqb-true}
use Rattle.mqtt_base.specs.declared.session.Qos.{Qos}
use Rattle.mqtt_base.specs.declared.session.Qos.TheVariants as qos
use Rattle.mqtt_base.specs.declared.session.RetainHandling.{RetainHandling}
use Rattle.mqtt_base.specs.declared.session.RetainHandling.TheVariants.{SendAlways, SendIfNew, DoNotSend}
use Rattle.mqtt_base.specs.declared.session.SubscriptionOptions.{SubscriptionOptions}
use Rattle.mqtt_packet.specs.subscribe.Options.{options_of, options_byte}
use Rattle.mqtt_packet.proofs.parts_lemmas.Parts.{both_true}

-- what the byte n says is spelled by n
abbrev agree : ℕ → Option SubscriptionOptions → Bool
agree n None = true
agree n (Some o) = eqb n (options_byte o)

abbrev agrees : ℕ → Bool
agrees n = agree n (options_of n)

abbrev all_agree : ℕ → Bool
all_agree zero = true
all_agree (suc k) = agrees k && all_agree k

all_bytes_agree : all_agree 256 ≡ true
all_bytes_agree = refl

agrees_below : (k n : ℕ) → all_agree k ≡ true → n < k → agrees n ≡ true
agrees_below zero n all lt = absurd (omega (arith, lt))
agrees_below (suc k) n all lt =
    let both = both_true (agrees k) (all_agree k) all in
    elim (cases_lt n k) [
      | inl less ↦ agrees_below k n both.1 less
      | inr more ↦
          let same : k ≡ n = omega (arith, lt, more) in
          subst (λ (m : ℕ). agrees m ≡ true) same both.0
    ]

-- options that are read are those of the byte
pub options_is : (n : ℕ) (o : SubscriptionOptions) → n < 256 → options_of n ≡ Some o → n ≡ options_byte o
options_is n o lt e =
    let t : agree n (options_of n) ≡ true = agrees_below 256 n all_bytes_agree lt in
    let u : agree n (Some o) ≡ true = subst (λ (x : Option SubscriptionOptions). agree n x ≡ true) e t in
    eqb-true n (options_byte o) u

abbrev made : Qos → Bool → Bool → RetainHandling → SubscriptionOptions
made q local published handling = record { qos = q; no_local = local; retain_as_published = published; retain_handling = handling }

options_made : (q : Qos) (local published : Bool) (h : RetainHandling) → options_of (options_byte (made q local published h)) ≡ Some (made q local published h)
options_made qos.AtMostOnce true true SendAlways = refl
options_made qos.AtMostOnce true true SendIfNew = refl
options_made qos.AtMostOnce true true DoNotSend = refl
options_made qos.AtMostOnce true false SendAlways = refl
options_made qos.AtMostOnce true false SendIfNew = refl
options_made qos.AtMostOnce true false DoNotSend = refl
options_made qos.AtMostOnce false true SendAlways = refl
options_made qos.AtMostOnce false true SendIfNew = refl
options_made qos.AtMostOnce false true DoNotSend = refl
options_made qos.AtMostOnce false false SendAlways = refl
options_made qos.AtMostOnce false false SendIfNew = refl
options_made qos.AtMostOnce false false DoNotSend = refl
options_made qos.AtLeastOnce true true SendAlways = refl
options_made qos.AtLeastOnce true true SendIfNew = refl
options_made qos.AtLeastOnce true true DoNotSend = refl
options_made qos.AtLeastOnce true false SendAlways = refl
options_made qos.AtLeastOnce true false SendIfNew = refl
options_made qos.AtLeastOnce true false DoNotSend = refl
options_made qos.AtLeastOnce false true SendAlways = refl
options_made qos.AtLeastOnce false true SendIfNew = refl
options_made qos.AtLeastOnce false true DoNotSend = refl
options_made qos.AtLeastOnce false false SendAlways = refl
options_made qos.AtLeastOnce false false SendIfNew = refl
options_made qos.AtLeastOnce false false DoNotSend = refl
options_made qos.ExactlyOnce true true SendAlways = refl
options_made qos.ExactlyOnce true true SendIfNew = refl
options_made qos.ExactlyOnce true true DoNotSend = refl
options_made qos.ExactlyOnce true false SendAlways = refl
options_made qos.ExactlyOnce true false SendIfNew = refl
options_made qos.ExactlyOnce true false DoNotSend = refl
options_made qos.ExactlyOnce false true SendAlways = refl
options_made qos.ExactlyOnce false true SendIfNew = refl
options_made qos.ExactlyOnce false true DoNotSend = refl
options_made qos.ExactlyOnce false false SendAlways = refl
options_made qos.ExactlyOnce false false SendIfNew = refl
options_made qos.ExactlyOnce false false DoNotSend = refl

-- options that were written are read back
pub options_again : (o : SubscriptionOptions) → options_of (options_byte o) ≡ Some o
options_again o = options_made o.qos o.no_local o.retain_as_published o.retain_handling
