use Rattle.std.proofs.Common.{Bool, cond, ap, ◌∙◌}
use Rattle.std.specs.Prelude.{None}
use Rattle.std.proofs.lemmas.Cmp.{nat_eq_equiv}
use Rattle.mqtt_records.specs.lists.Order.{row_at}
use Rattle.mqtt_records.specs.state.Session.{birth_of}
use Rattle.mqtt_records.proofs.lists_lemmas.OrderLemmas.{apart}
use Rattle.mqtt_records.proofs.lists_lemmas.LookUps.{row_at-remove_row}
use Rattle.mqtt_records.proofs.state.laws.ended_session_leaves_nothing.Goals as goal

pub returns-clause-gone : goal.returns-clause-gone
returns-clause-gone c birth r =
    row_at-remove_row birth_of birth birth r.sessions
    ∙ ap (λ (b : Bool). cond b None (row_at birth_of birth r.sessions)) (nat_eq_equiv.refl birth)

pub returns-clause-others : goal.returns-clause-others
returns-clause-others c birth other r differ =
    row_at-remove_row birth_of other birth r.sessions
    ∙ ap (λ (b : Bool). cond b None (row_at birth_of other r.sessions)) (apart birth other differ)
