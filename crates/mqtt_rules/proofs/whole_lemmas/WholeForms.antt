-- A copy that fits with its whole topic goes out in some form that fits.
use Rattle.mqtt_records.specs.messages.Queue.{IsSpelled}
use Rattle.mqtt_records.specs.declared.messages.message.MessageCopy.{MessageCopy}
use Rattle.mqtt_rules.specs.step.Fitting.{fitted_size, form_of}
use Rattle.mqtt_rules.specs.step.State.{queued_copy}
use Rattle.mqtt_rules.proofs.fitting_lemmas.Decided.{large_if_none}
use Rattle.mqtt_topic.specs.sending.Told.{ToldTopics}
use Rattle.mqtt_topic.specs.declared.sending.form.Form.{Form}
use Rattle.mqtt_rules.proofs.whole_lemmas.Large.{is_large}
use Rattle.mqtt_rules.specs.whole.Whole.{HasFormWithin}
use Rattle.std.proofs.Common.{None, Option, Some, arith, false, inl, inr, nat_lt, refl, sym, ℕ, ◌∙◌, ◌≡◌, ◌≤◌}
use Rattle.std.proofs.lemmas.Bool.{cases_Bool, le-ltb, ltb-false}
use Rattle.std.specs.Prelude.{is_none}

-- by the bytes that it goes by it is no larger than the client takes, if it is so with its whole topic
pub told_fits : (largest : ℕ) (told : ToldTopics) (copy : MessageCopy) → (queued_copy copy).size ≤ largest → fitted_size (form_of largest told copy) copy ≤ largest
told_fits largest told copy le =
    let size = fitted_size (form_of largest told copy) copy in
    elim (cases_Bool (nat_lt largest size)) [
      | inl above ↦ let whole = (is_large largest told copy above).whole in absurd (omega (arith, le, whole))
      | inr within ↦ ltb-false largest size within
    ]

-- a copy with a spelling that fits with its whole topic goes out in some form, whatever was told
pub goes_out : (largest : ℕ) (told : ToldTopics) (copy : MessageCopy) → IsSpelled copy → (queued_copy copy).size ≤ largest → HasFormWithin largest told copy
goes_out largest told copy spelled le =
    let fits = told_fits largest told copy le in
    let size = fitted_size (form_of largest told copy) copy in
    by (form_of largest told copy) refl (sym (large_if_none largest told copy spelled) ∙ le-ltb largest size fits) fits
  where
    by : (o : Option Form) → form_of largest told copy ≡ o → is_none o ≡ false → fitted_size o copy ≤ largest → HasFormWithin largest told copy
    by None is none within = absurd cc
    by (Some form) is none within = record { form = form; found = is; within = within }
