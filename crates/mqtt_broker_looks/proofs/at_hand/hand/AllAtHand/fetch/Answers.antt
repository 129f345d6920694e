use Rattle.std.proofs.Common.{◌≡◌, suc, ◌+◌, ◌∷◌, arith, drop, drop-cons, length, rules, subst, sym}
use Rattle.std.specs.Prelude.{Err, IfErr, slice_index}
use Rattle.mqtt_keep.specs.declared.keeping.keep.KeepError.TheVariants.{Memory}
use Rattle.mqtt_broker_looks.specs.at_hand.Reading.{HasFailed}
use Rattle.mqtt_broker_looks.proofs.at_hand_lemmas.Reading.{asked_then, fails_then, first_next, wants_memory}
use Rattle.mqtt_broker_looks.proofs.at_hand.hand.AllAtHand.fetch.Goals as goal

pub returns-in_err-one-clause-err : goal.returns-in_err-one-clause-err
returns-in_err-one-clause-err g c =
    let fault = c.in_err-one.field-0.0 in
    let less = c.loop-place-test.true in
    let is : c.from_residual-in_err-one.result ≡ Err fault = search rules in
    subst (λ o. IfErr o (λ f. HasFailed g.K.Keep (length c.args.places.now) c.args.keep.now c.fetch_one.new.keep f)) (sym is)
    (fails_then g.K.Keep c.loop-place.place-index 1 (length c.args.places.now) c.args.keep.now c.loop-place.keep c.fetch_one.new.keep fault c.loop-place.invariant.asked c.in_err-one.ensures.err (omega (arith, less)))

pub loop-place-preserved : goal.loop-place-preserved
loop-place-preserved g c =
    let i = c.loop-place.place-index in
    let places = c.args.places.now in
    let front : drop i places ≡ slice_index places i ∷ drop (suc i) places = drop-cons places i 0 c.loop-place-test.true in
    first_next g.K.Keep c.args.birth places c.args.keep.now c.args.self.now i (i + 1) (slice_index places i) c.loop-place.keep c.loop-place.self c.loop-place.all.items c.loop-place.invariant (omega arith) front
    c.fetch_one.new.keep c.fetch_one.new.self c.fetch_one.ensures.at_hand c.in_ok-one.one c.add.new.all.items c.in_ok-one.ensures.ok c.in_ok-add.ensures

pub returns-in_err-add-clause-err : goal.returns-in_err-add-clause-err
returns-in_err-add-clause-err g c =
    let i = c.loop-place.place-index in
    let less = c.loop-place-test.true in
    let all = length c.args.places.now in
    let is : c.from_residual-in_err-add.result ≡ Err Memory = search rules in
    subst (λ o. IfErr o (λ f. HasFailed g.K.Keep all c.args.keep.now c.fetch_one.new.keep f)) (sym is)
    (wants_memory g.K.Keep (i + 1) all c.args.keep.now c.fetch_one.new.keep
    (asked_then g.K.Keep i 1 (i + 1) c.args.keep.now c.loop-place.keep c.fetch_one.new.keep c.loop-place.invariant.asked c.in_ok-one.ensures.ok.asked (omega arith))
    (omega (arith, less)))

pub returns-in_err-add-clause-stored : goal.returns-in_err-add-clause-stored
returns-in_err-add-clause-stored g c = λ r holds order says sound.
    let so_far = c.loop-place.invariant in
    let one = c.in_ok-one.ensures.ok in
    one.stored r (so_far.asked.same r holds) order (so_far.stored r holds order says (one.asked.sound sound)) sound
