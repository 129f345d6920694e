use Rattle.std.proofs.Common.{◌≡◌, subst, ◌∙◌}
use Rattle.mqtt_keep.specs.lawful.Lawful.{IsUpTo}
use Rattle.mqtt_keep.proofs.lawful_lemmas.NumeralLemmas.{numeral_is_text, numeral_is_read, shortest_says, numeral_is_shortest}
use Rattle.mqtt_keep.proofs.lawful.client.is_numeral.Goals as goal

pub returns-in_default : goal.returns-in_default
returns-in_default c =
    (λ t. absurd cc, λ h. absurd (c.in_default.ensures.cases.0 (numeral_is_text c.args.last c.args.text.now c.ranges.last.fits h)))

pub returns-in_default-parse : goal.returns-in_default-parse
returns-in_default-parse c = (
  λ t. absurd cc,
  λ h. absurd (
      let read = numeral_is_read c.args.last c.args.text.now c.in-Ok.digits.now c.parse.result c.ranges.last.fits c.in-Ok.ensures.cases.0 c.parse.ensures.value.0 h in
      let not = c.in_default-parse.is in
      cc),
)

pub returns-then-is_shortest : goal.returns-then-is_shortest
returns-then-is_shortest c =
    let same = c.in-Ok.ensures.cases.0 in
    let number = c.in-Ok-parse.number in
    let up = c.is_up_to.ensures in
    let is = shortest_says number c.args.text.now c.in-Ok.digits.now c.as_str.result.now c.eq-is_shortest.result same (c.as_str.ensures.value ∙ c.in_ok-shortest.ensures.ok) c.eq-is_shortest.ensures c.if-is_shortest.true in (
      λ t. (number, up.0 t, is),
      λ h.
          let read = numeral_is_read c.args.last c.args.text.now c.in-Ok.digits.now c.parse.result c.ranges.last.fits same c.parse.ensures.value.0 h in
          let was = c.in-Ok-parse.is in
          let n : h.0 ≡ number = cc in
          up.1 (subst (IsUpTo c.args.last) n h.1),
    )

pub returns-else-is_shortest : goal.returns-else-is_shortest
returns-else-is_shortest c =
    let same = c.in-Ok.ensures.cases.0 in
    let number = c.in-Ok-parse.number in (
      λ t. absurd (let no = c.if-is_shortest.false in cc),
      λ h.
          let read = numeral_is_read c.args.last c.args.text.now c.in-Ok.digits.now c.parse.result c.ranges.last.fits same c.parse.ensures.value.0 h in
          let was = c.in-Ok-parse.is in
          let n : h.0 ≡ number = cc in
          numeral_is_shortest c.args.last number c.args.text.now c.in-Ok.digits.now c.as_str.result.now c.eq-is_shortest.result same (c.as_str.ensures.value ∙ c.in_ok-shortest.ensures.ok) c.eq-is_shortest.ensures h n,
    )
