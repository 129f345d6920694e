use Rattle.std.proofs.Common.{◌≡◌, ℕ, ◌+◌, ◌≤◌, suc, List, length, take, get_or, sym, ap, subst, ◌∙◌, arith}
use Rattle.mqtt_base.specs.declared.limits.TheConstants.{SESSION_LIMIT}
use Rattle.mqtt_records.specs.lists.Order.{IsAscending, put_row}
use Rattle.mqtt_records.specs.declared.state.session.Session.{Session}
use Rattle.mqtt_records.specs.state.Session.{birth_of}
use Rattle.mqtt_keep.specs.declared.by_name.digest.DigestRow.{DigestRow}
use Rattle.mqtt_keep.specs.by_name.Digests.{digest_row, digest_rows, digest_birth}
use Rattle.mqtt_keep.proofs.by_name_lemmas.Making.{digest_more}
use Rattle.mqtt_keep.proofs.by_name.named.digests_of.Goals as goal

pub loop-session-preserved : goal.loop-session-preserved
loop-session-preserved c =
    let ss : List Session = c.as_slice-session-items.result.now in
    let i : ℕ = c.loop-session.session-index in
    let s : Session = c.session-item.result in
    let told = c.as_slice-session-items.ensures in
    let up : IsAscending birth_of ss = subst (λ (xs : List Session). IsAscending birth_of xs) (sym told.rows) told.order in
    let few : length ss ≤ SESSION_LIMIT = subst (λ (xs : List Session). length xs ≤ SESSION_LIMIT) (sym told.rows) told.few in
    let next : suc i ≡ i + 1 = omega arith in
    c.put.ensures
    ∙ (ap (λ (row : DigestRow). put_row digest_birth SESSION_LIMIT row c.loop-session.digests) (c.digest_row.ensures ∙ ap digest_row (c.get.ensures ∙ c.session-item.is))
    ∙ (ap (λ (rows : List DigestRow). put_row digest_birth SESSION_LIMIT (digest_row (get_or ss i s)) rows) c.loop-session.invariant
    ∙ (digest_more i s ss up few c.loop-session-test.true ∙ ap (λ (n : ℕ). digest_rows (take n ss)) next)))
