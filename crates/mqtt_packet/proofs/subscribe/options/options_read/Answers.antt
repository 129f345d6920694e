use Rattle.std.proofs.Common.{ap, ◌∙◌}
use Rattle.mqtt_packet.specs.subscribe.Options.{options_of}
use Rattle.mqtt_packet.proofs.subscribe_lemmas.OptionLemmas.{options_again}
use Rattle.mqtt_packet.proofs.subscribe.options.options_read.Goals as goal

pub returns-clause-only : goal.returns-clause-only
returns-clause-only c = λ o e. c.options_of.ensures ∙ ap options_of e ∙ options_again o
