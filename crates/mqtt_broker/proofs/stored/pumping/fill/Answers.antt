use Rattle.mqtt_broker.proofs.stored_lemmas.Filled.{fill_alike, fill_rest, fill_says, fill_slim}
use Rattle.mqtt_broker.proofs.stored.pumping.fill.Goals as goal

pub returns-clause-rest : goal.returns-clause-rest
returns-clause-rest c = fill_rest c.args.birth c.args.contents.items c.args.step.now c.fill.new.self c.fill.result c.requires.rest c.fill.ensures.ok c.fill.ensures.err

pub returns-clause-alike : goal.returns-clause-alike
returns-clause-alike c = fill_alike c.args.birth c.args.contents.items c.args.step.now c.fill.new.self c.fill.result c.fill.ensures.exact c.fill.ensures.ok c.fill.ensures.err

pub returns-clause-slim : goal.returns-clause-slim
returns-clause-slim c = fill_slim c.args.birth c.args.contents.items c.args.step.now c.fill.new.self c.fill.result c.fill.ensures.ok c.fill.ensures.err

pub returns-clause-exact : goal.returns-clause-exact
returns-clause-exact c = fill_says c.args.birth c.args.contents.items c.args.step.now c.fill.new.self c.fill.result c.fill.ensures.exact c.fill.ensures.ok
