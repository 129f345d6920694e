use Rattle.std.proofs.Common.{◌≡◌, false, ap, sym, ◌∙◌}
use Rattle.std.specs.Prelude.{Some}
use Rattle.mqtt_packet.specs.codec.Packets.{shortest_of}
use Rattle.mqtt_rules.specs.step.Forms.{published_of}
use Rattle.mqtt_rules.specs.step.Packets.{publish_of}
use Rattle.mqtt_rules.specs.step.State.{line_at, line_of}
use Rattle.mqtt_broker_step.specs.Tellings.{takes_aliases}
use Rattle.mqtt_broker_step.specs.Undoing.{moment_of}
use Rattle.mqtt_broker_step.proofs.Doing.{on_ok, if_err}
use Rattle.mqtt_broker_queue.specs.publications.Copies.{copy_for}
use Rattle.mqtt_broker_queue.proofs.publications_lemmas.Offered.{offered, offer_left, whole_offered, whole_left}
use Rattle.mqtt_broker_queue.proofs.publications.offering.offer_copy.Goals as goal

pub returns-then-takes_aliases-clause-ok : goal.returns-then-takes_aliases-clause-ok
returns-then-takes_aliases-clause-ok g c =
    let s = c.args.step.now in
    let to = g.T.Addressed.addressee c.args.to.now in
    let l = c.in-Some.line.now in
    let found : line_of to.birth s.broker ≡ Some l = sym (c.in-Some.ensures.line ∙ ap (λ n. line_of n s.broker) c.birth.ensures) in
    let own : line_at c.number-number.result s.broker ≡ Some l = ap (λ n. line_at n s.broker) c.number-number.ensures ∙ c.in-Some.ensures.own l (sym c.in-Some.ensures.line) in
    on_ok c.offer_told.result
    (offered to.birth c.number-number.result (copy_for c.args.common.now to) l s c.offer_told.new.step found own)
    c.offer_told.ensures.ok

pub returns-then-takes_aliases-clause-left : goal.returns-then-takes_aliases-clause-left
returns-then-takes_aliases-clause-left g c =
    let s = c.args.step.now in
    let to = g.T.Addressed.addressee c.args.to.now in
    let l = c.in-Some.line.now in
    let found : line_of to.birth s.broker ≡ Some l = sym (c.in-Some.ensures.line ∙ ap (λ n. line_of n s.broker) c.birth.ensures) in
    let own : line_at c.number-number.result s.broker ≡ Some l = ap (λ n. line_at n s.broker) c.number-number.ensures ∙ c.in-Some.ensures.own l (sym c.in-Some.ensures.line) in
    if_err c.offer_told.result
    (λ fault. offer_left to.birth c.number-number.result (copy_for c.args.common.now to) l fault s c.offer_told.new.step found own)
    c.offer_told.ensures.left

pub returns-in-Ok-clause-ok : goal.returns-in-Ok-clause-ok
returns-in-Ok-clause-ok g c =
    let s = c.args.step.now in
    let to = g.T.Addressed.addressee c.args.to.now in
    let l = c.in-Some.line.now in
    let copy = copy_for c.args.common.now to in
    let p = published_of (moment_of s.broker) false 0 copy in
    let packet = publish_of (moment_of s.broker) false 0 copy in
    let found : line_of to.birth s.broker ≡ Some l = sym (c.in-Some.ensures.line ∙ ap (λ n. line_of n s.broker) c.birth.ensures) in
    let none : takes_aliases l.number s.broker ≡ false = ap (λ n. takes_aliases n s.broker) (sym c.number-number.ensures) ∙ (sym c.takes_aliases.ensures.exact ∙ c.if-takes_aliases.false) in
    let bytes : c.in-Ok.bytes ≡ shortest_of packet = c.in-Ok.ensures.bytes ∙ ap (λ t. shortest_of (publish_of t false 0 copy)) c.moment.ensures in
    on_ok c.send_within.result
    (whole_offered to.birth copy l s c.send_within.new.step found c.requires.spelled none)
    (c.send_within.ensures.ok l p (sym c.number-number.ensures) (sym c.largest-largest.ensures) (c.takes_aliases.ensures.plain c.if-takes_aliases.false p) bytes)

pub returns-in-Ok-clause-left : goal.returns-in-Ok-clause-left
returns-in-Ok-clause-left g c =
    let s = c.args.step.now in
    let to = g.T.Addressed.addressee c.args.to.now in
    let l = c.in-Some.line.now in
    let copy = copy_for c.args.common.now to in
    let packet = publish_of (moment_of s.broker) false 0 copy in
    let found : line_of to.birth s.broker ≡ Some l = sym (c.in-Some.ensures.line ∙ ap (λ n. line_of n s.broker) c.birth.ensures) in
    let none : takes_aliases l.number s.broker ≡ false = ap (λ n. takes_aliases n s.broker) (sym c.number-number.ensures) ∙ (sym c.takes_aliases.ensures.exact ∙ c.if-takes_aliases.false) in
    let bytes : c.in-Ok.bytes ≡ shortest_of packet = c.in-Ok.ensures.bytes ∙ ap (λ t. shortest_of (publish_of t false 0 copy)) c.moment.ensures in
    if_err c.send_within.result
    (λ fault. whole_left to.birth copy l fault s c.send_within.new.step found c.requires.spelled none)
    (c.send_within.ensures.left l packet (sym c.number-number.ensures) (sym c.largest-largest.ensures) bytes)
