use Rattle.std.proofs.lemmas.Str.{IsUtf8-from_ascii}
use Rattle.mqtt_script.proofs.Events.{reads_line, refuses_line, not_ascii}
use Rattle.mqtt_script.proofs.reading.event_of.Goals as goal

pub returns-in_default-clause-refused : goal.returns-in_default-clause-refused
returns-in_default-clause-refused c =
    λ other e is. absurd (c.in_default.ensures.cases.0 (IsUtf8-from_ascii c.args.line.now is.ascii))

pub returns-then-ascii-clause-read : goal.returns-then-ascii-clause-read
returns-then-ascii-clause-read c =
    reads_line c.args.line.now c.in-Ok.text.now c.in-Ok.ensures.cases.0 c.is_ascii-ascii.result c.if-ascii.true
    c.is_ascii-ascii.ensures.cases c.text_read.result c.text_read.ensures

pub returns-then-ascii-clause-refused : goal.returns-then-ascii-clause-refused
returns-then-ascii-clause-refused c =
    refuses_line c.args.line.now c.in-Ok.text.now c.in-Ok.ensures.cases.0 c.text_read.result c.text_read.ensures

pub returns-else-ascii-clause-refused : goal.returns-else-ascii-clause-refused
returns-else-ascii-clause-refused c =
    λ other. not_ascii c.args.line.now c.in-Ok.text.now c.is_ascii-ascii.result c.in-Ok.ensures.cases.0 c.if-ascii.false
    c.is_ascii-ascii.ensures.cases
