use Rattle.std.proofs.Common.{ap, sym, ◌∙◌}
use Rattle.mqtt_script.specs.Reading.{is_led}
use Rattle.mqtt_script.proofs.Numbers.{led_is_none, not_parsed, parsed_is_read}
use Rattle.mqtt_script.proofs.words.number_read.Goals as goal

pub returns-then-led : goal.returns-then-led
returns-then-led c =
    let is = ap is_led (sym c.as_bytes.ensures.value) ∙ sym c.is_led-led.ensures ∙ c.if-led.true in
    (tt, λ not. led_is_none c.args.word.now is)

pub returns-in-Ok : goal.returns-in-Ok
returns-in-Ok c =
    let is = ap is_led (sym c.as_bytes.ensures.value) ∙ sym c.is_led-led.ensures ∙ c.if-led.false in
    let read = c.in-Ok.ensures.value.0 in
    (parsed_is_read c.args.word.now c.in-Ok.number is read.0 read.1, tt)

pub returns-in-Err : goal.returns-in-Err
returns-in-Err c =
    (tt, λ not. not_parsed c.args.word.now c.parse.result c.in-Err.field-0 c.parse.ensures.value.0 c.in-Err.is)
