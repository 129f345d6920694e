-- The whole has a spelling if the identifiers have one and all is short (MQTT 5.0, 2.2.2, 3.3.2.3).
use Rattle.std.proofs.Common.{◌^◌, ◌<◌, ◌+◌, length, map, arith}
use Rattle.mqtt_props.specs.Properties.{props}
use Rattle.mqtt_records.specs.messages.PassedOn.{identified}
use Rattle.mqtt_records.proofs.messages_lemmas.SentSizes.{own-fits, sent-fits, first-length}
use Rattle.mqtt_records.proofs.messages.sizes.sent_len.Goals as goal

pub returns-in_default-clause-value : goal.returns-in_default-clause-value
returns-in_default-clause-value c =
    λ fits. c.in_default.ensures.value (own-fits c.args.identifiers.now c.args.list.now c.pairs_len-pairs.ensures.fits.each fits)

pub returns-then-len-clause-value : goal.returns-then-len-clause-value
returns-then-len-clause-value c =
    let sum = first-length c.args.identifiers.now c.args.list.now c.pairs_len-pairs.ensures.fits.each in
    omega (arith, sum, c.in-Some.ensures.value, c.pairs_len-pairs.ensures.value)

pub returns-then-len-clause-fits : goal.returns-then-len-clause-fits
returns-then-len-clause-fits c =
    let few : length (props c.args.list.now) + length (props (map identified c.args.identifiers.now)) < 2 ^ 28 =
    omega (arith, c.in-Some.ensures.value, c.pairs_len-pairs.ensures.value, c.if-len.true) in
    sent-fits c.args.identifiers.now c.args.list.now c.pairs_len-pairs.ensures.fits.each c.in-Some.ensures.fits few

pub returns-else-len-clause-value : goal.returns-else-len-clause-value
returns-else-len-clause-value c =
    let sum = first-length c.args.identifiers.now c.args.list.now c.pairs_len-pairs.ensures.fits.each in
    λ fits. let short = fits.short in omega (arith, sum, short, c.in-Some.ensures.value, c.pairs_len-pairs.ensures.value, c.if-len.false)
