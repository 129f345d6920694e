use Rattle.std.proofs.Common.{◌≡◌, ap, sym, subst}
use Rattle.std.specs.Prelude.{Err}
use Rattle.mqtt_records.specs.state.Session.{columns_of}
use Rattle.mqtt_keep.specs.declared.keeping.keep.KeepError.{KeepError}
use Rattle.mqtt_store_rows.specs.values.Ones.{one_number}
use Rattle.mqtt_store_rows.specs.values.Rows.{SaysWill, SaysSubscription, SaysOpen, SaysCopy}
use Rattle.mqtt_store_rows.specs.values.Gives.{Parts, list_of, TakesParts}
use Rattle.mqtt_store_rows.proofs.values_lemmas.PartLemmas.{moved}
use Rattle.mqtt_store_rows.proofs.values.sessions.session_of.Goals as goal

pub returns-in-Err-clause-err : goal.returns-in-Err-clause-err
returns-in-Err-clause-err c e s rest says takes ends within =
    let same : c.in-Err.fault ≡ KeepError.Corrupt = cc in
    c.in-Err.ensures.err (ap Err same) (columns_of s) says

pub returns-in-Err-wishes_of-clause-err : goal.returns-in-Err-wishes_of-clause-err
returns-in-Err-wishes_of-clause-err c e s rest says takes ends within =
    let same : c.in-Err-wishes_of.fault ≡ KeepError.Corrupt = cc in
    let birth : s.birth ≡ c.in-Ok.columns.birth = one_number _ _ _ says.birth c.in-Ok.ensures.ok.birth in
    let mine = subst (λ (p : Parts). TakesParts s p rest) (sym c.parts.view_is) takes in
    c.in-Err-wishes_of.ensures.err (ap Err same) s.will s.subscriptions rest.wills rest.subscriptions
    (moved SaysWill s.birth c.in-Ok.columns.birth (list_of s.will) _ rest.wills birth mine.will ends.will)
    (moved SaysSubscription s.birth c.in-Ok.columns.birth s.subscriptions _ rest.subscriptions birth mine.subscriptions ends.subscription)
    within.subscriptions

pub returns-in-Err-flights_of-clause-err : goal.returns-in-Err-flights_of-clause-err
returns-in-Err-flights_of-clause-err c e s rest says takes ends within =
    let same : c.in-Err-flights_of.fault ≡ KeepError.Corrupt = cc in
    let birth : s.birth ≡ c.in-Ok.columns.birth = one_number _ _ _ says.birth c.in-Ok.ensures.ok.birth in
    let mine = subst (λ (p : Parts). TakesParts s p rest) (sym c.parts.view_is) takes in
    c.in-Err-flights_of.ensures.err (ap Err same) s.inbound s.queue rest.inbound rest.copies
    (moved SaysOpen s.birth c.in-Ok.columns.birth s.inbound _ rest.inbound birth mine.inbound ends.identifier)
    within.inbound
    (moved SaysCopy s.birth c.in-Ok.columns.birth s.queue _ rest.copies birth mine.queue ends.copy)
    within.queue
