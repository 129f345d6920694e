-- By the law of what packets mean, since both worlds go alike.
use Rattle.mqtt_world_laws.proofs.headline_in_forms_lemmas.Begins.{forms_deliver, forms_fit, nothing_delivers}
use Rattle.mqtt_world_laws.proofs.headline_in_forms.laws.messages_in_forms_are_delivered_exactly_once.Goals as goal

pub returns-clause-delivers : goal.returns-clause-delivers
returns-clause-delivers c = forms_deliver

pub returns-clause-fits : goal.returns-clause-fits
returns-clause-fits c = forms_fit

pub returns-clause-from_nothing : goal.returns-clause-from_nothing
returns-clause-from_nothing c = nothing_delivers
