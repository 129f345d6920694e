use Rattle.mqtt_rules.proofs.step_lemmas.fit.RowsFit.{step_fits, step_coherent, step_last, opening_fits, opening_coherent, opened_last, nothing_coherent}
use Rattle.mqtt_rules.proofs.step.fit_laws.rows_always_fit.Goals as goal

pub returns-clause-nothing : goal.returns-clause-nothing
returns-clause-nothing c = nothing_coherent

pub returns-clause-step : goal.returns-clause-step
returns-clause-step c = step_fits

pub returns-clause-coherent : goal.returns-clause-coherent
returns-clause-coherent c = step_coherent

pub returns-clause-moment : goal.returns-clause-moment
returns-clause-moment c = step_last

pub returns-clause-opening : goal.returns-clause-opening
returns-clause-opening c = opening_fits

pub returns-clause-opened_coherent : goal.returns-clause-opened_coherent
returns-clause-opened_coherent c = opening_coherent

pub returns-clause-opened_moment : goal.returns-clause-opened_moment
returns-clause-opened_moment c = opened_last
