use Rattle.mqtt_cli.proofs.command.values.address_read.Goals as goal

pub returns-in-Err-clause-only : goal.returns-in-Err-clause-only
returns-in-Err-clause-only c = λ address is. c.in-Err.ensures.value address is.written
