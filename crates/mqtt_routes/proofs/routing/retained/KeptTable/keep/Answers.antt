use Rattle.std.proofs.Common.{◌≡◌, ◌+◌, ◌&&◌, false, not, nat_lt, if◌then◌else◌, length, sym, ◌∙◌, ap, is_some, arith}
use Rattle.std.proofs.lemmas.Result.{err_from_is_err_and}
use Rattle.mqtt_routes.specs.routing.Retained.{keep, has_topic}
use Rattle.mqtt_routes.proofs.routing_lemmas.KeptLemmas.{keep-replace_key, find-has, fits, fits-new}
use Rattle.mqtt_routes.proofs.routing.retained.KeptTable.keep.Goals as goal

pub returns-in_err-replace-clause-refused : goal.returns-in_err-replace-clause-refused
returns-in_err-replace-clause-refused g c =
    let now = c.args.self.now.messages in
    let limit = c.args.self.now.limit in
    let room = sym (c.is_full.ensures ∙ ap (λ t. not (nat_lt (length now) limit) && not (has_topic t now)) c.as_str.ensures.value) ∙ c.if-is_full.false in
    let absent : has_topic c.args.topic now ≡ false = ap (λ h. has_topic c.args.topic h.messages) (sym c.self.view_is) ∙ c.in_err-replace.ensures.absent in
    let p = err_from_is_err_and c.from_residual.result c.from_residual.ensures.1 in
    rw (p.1, p.2) (absent, fits-new (length now) limit (has_topic c.args.topic now) room absent)

pub invariant_of-self-2 : goal.invariant_of-self-2
invariant_of-self-2 g c =
    let keys = c.self.inside.slots.keys in
    let now = c.args.self.now in
    let full = c.is_full.ensures ∙ ap (λ t. not (nat_lt (length now.messages) now.limit) && not (has_topic t now.messages)) c.as_str.ensures.value in
    let room = ap (λ h. not (nat_lt (length h.messages) h.limit) && not (has_topic c.args.topic h.messages)) c.self.view_is ∙ sym full ∙ c.if-is_full.false in
    let old = ap is_some c.in_ok-replace.ensures.old ∙ find-has c.args.topic keys in
    let count = c.in_ok-replace.ensures.len ∙ ap (λ b. length keys + (if b then 0 else 1)) old in
    omega (arith, count, fits (length keys) c.self.inside.limit (has_topic c.args.topic keys) room c.self.invariant)

pub returns-clause-ok : goal.returns-clause-ok
returns-clause-ok g c = c.in_ok-replace.ensures.keys ∙ keep-replace_key c.args.topic c.args.message c.self.inside.slots.keys ∙ ap (λ h. keep c.args.topic c.args.message h.messages) c.self.view_is
