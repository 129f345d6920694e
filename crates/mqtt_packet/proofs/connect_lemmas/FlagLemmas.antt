-- The flags of a CONNECT: a byte that is read is the byte that was written, and what was written is read again.
use Rattle.std.proofs.Common.{◌≡◌, ℕ, zero, suc, ◌<◌, Bool, true, false, ◌&&◌, eqb, Option, Some, None, inl, inr, refl, subst, arith}
use Rattle.std.proofs.lemmas.Bool.{cases_lt, eqb-true}
use Rattle.mqtt_base.specs.declared.session.Qos.{Qos}
use Rattle.mqtt_base.specs.declared.session.Qos.TheVariants as qos
use Rattle.mqtt_packet.specs.declared.connect.connect_flags.Flags.{Flags}
use Rattle.mqtt_packet.specs.declared.connect.connect_flags.WillFlags.{WillFlags}
use Rattle.mqtt_packet.specs.connect.ConnectFlags.{flags_of, flags_byte}
use Rattle.mqtt_packet.proofs.parts_lemmas.Parts.{both_true}

-- what the byte n says is spelled by n
abbrev agree : ℕ → Option Flags → Bool
agree n None = true
agree n (Some f) = eqb n (flags_byte f)

abbrev agrees : ℕ → Bool
agrees n = agree n (flags_of n)

abbrev all_agree : ℕ → Bool
all_agree zero = true
all_agree (suc k) = agrees k && all_agree k

all_bytes_agree : all_agree 256 ≡ true
all_bytes_agree = refl

agrees_below : (k n : ℕ) → all_agree k ≡ true → n < k → agrees n ≡ true
agrees_below zero n all lt = absurd (omega (arith, lt))
agrees_below (suc k) n all lt =
    let both = both_true (agrees k) (all_agree k) all in
    elim (cases_lt n k) [
      | inl less ↦ agrees_below k n both.1 less
      | inr more ↦
          let same : k ≡ n = omega (arith, lt, more) in
          subst (λ (m : ℕ). agrees m ≡ true) same both.0
    ]

-- flags that are read are those of the byte
pub flags_is : (n : ℕ) (f : Flags) → n < 256 → flags_of n ≡ Some f → n ≡ flags_byte f
flags_is n f lt e =
    let t : agree n (flags_of n) ≡ true = agrees_below 256 n all_bytes_agree lt in
    let u : agree n (Some f) ≡ true = subst (λ (o : Option Flags). agree n o ≡ true) e t in
    eqb-true n (flags_byte f) u

-- each setting of the flags
abbrev made : Bool → Option WillFlags → Bool → Bool → Flags
made clean will user password = record { clean_start = clean; will = will; user_name = user; password = password }

flags_willed : (clean : Bool) (q : Qos) (retain user password : Bool) → flags_of (flags_byte (made clean (Some (record { qos = q; retain = retain })) user password)) ≡ Some (made clean (Some (record { qos = q; retain = retain })) user password)
flags_willed true qos.AtMostOnce true true true = refl
flags_willed true qos.AtMostOnce true true false = refl
flags_willed true qos.AtMostOnce true false true = refl
flags_willed true qos.AtMostOnce true false false = refl
flags_willed false qos.AtMostOnce true true true = refl
flags_willed false qos.AtMostOnce true true false = refl
flags_willed false qos.AtMostOnce true false true = refl
flags_willed false qos.AtMostOnce true false false = refl
flags_willed true qos.AtMostOnce false true true = refl
flags_willed true qos.AtMostOnce false true false = refl
flags_willed true qos.AtMostOnce false false true = refl
flags_willed true qos.AtMostOnce false false false = refl
flags_willed false qos.AtMostOnce false true true = refl
flags_willed false qos.AtMostOnce false true false = refl
flags_willed false qos.AtMostOnce false false true = refl
flags_willed false qos.AtMostOnce false false false = refl
flags_willed true qos.AtLeastOnce true true true = refl
flags_willed true qos.AtLeastOnce true true false = refl
flags_willed true qos.AtLeastOnce true false true = refl
flags_willed true qos.AtLeastOnce true false false = refl
flags_willed false qos.AtLeastOnce true true true = refl
flags_willed false qos.AtLeastOnce true true false = refl
flags_willed false qos.AtLeastOnce true false true = refl
flags_willed false qos.AtLeastOnce true false false = refl
flags_willed true qos.AtLeastOnce false true true = refl
flags_willed true qos.AtLeastOnce false true false = refl
flags_willed true qos.AtLeastOnce false false true = refl
flags_willed true qos.AtLeastOnce false false false = refl
flags_willed false qos.AtLeastOnce false true true = refl
flags_willed false qos.AtLeastOnce false true false = refl
flags_willed false qos.AtLeastOnce false false true = refl
flags_willed false qos.AtLeastOnce false false false = refl
flags_willed true qos.ExactlyOnce true true true = refl
flags_willed true qos.ExactlyOnce true true false = refl
flags_willed true qos.ExactlyOnce true false true = refl
flags_willed true qos.ExactlyOnce true false false = refl
flags_willed false qos.ExactlyOnce true true true = refl
flags_willed false qos.ExactlyOnce true true false = refl
flags_willed false qos.ExactlyOnce true false true = refl
flags_willed false qos.ExactlyOnce true false false = refl
flags_willed true qos.ExactlyOnce false true true = refl
flags_willed true qos.ExactlyOnce false true false = refl
flags_willed true qos.ExactlyOnce false false true = refl
flags_willed true qos.ExactlyOnce false false false = refl
flags_willed false qos.ExactlyOnce false true true = refl
flags_willed false qos.ExactlyOnce false true false = refl
flags_willed false qos.ExactlyOnce false false true = refl
flags_willed false qos.ExactlyOnce false false false = refl

flags_made : (clean : Bool) (will : Option WillFlags) (user password : Bool) → flags_of (flags_byte (made clean will user password)) ≡ Some (made clean will user password)
flags_made true None true true = refl
flags_made true None true false = refl
flags_made true None false true = refl
flags_made true None false false = refl
flags_made false None true true = refl
flags_made false None true false = refl
flags_made false None false true = refl
flags_made false None false false = refl
flags_made clean (Some w) user password = flags_willed clean w.qos w.retain user password

-- flags that were written are read back
pub flags_again : (f : Flags) → flags_of (flags_byte f) ≡ Some f
flags_again f = flags_made f.clean_start f.will f.user_name f.password
