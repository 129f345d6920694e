use Rattle.std.proofs.Common.{◌≡◌, ◌≤◌, length, get_or, eqb, false, subst, arith}
use Rattle.std.specs.List.{All}
use Rattle.std.proofs.lemmas.Bool.{ne_eqb}
use Rattle.std.proofs.lemmas.List.{take_all}
use Rattle.mqtt_routes.proofs.tree_lemmas.TextLemmas.{no_slash_more, first_found, all_first}
use Rattle.mqtt_routes.proofs.tree.level.first_level.Goals as goal

pub returns-then-byte-eq47 : goal.returns-then-byte-eq47
returns-then-byte-eq47 c = first_found c.args.text.now c.loop-i.i c.loop-i-test.true c.loop-i.invariant c.if-byte-eq47.true

pub loop-i-preserved : goal.loop-i-preserved
loop-i-preserved c = no_slash_more c.args.text.now c.loop-i.i c.loop-i-test.true c.loop-i.invariant (ne_eqb (get_or c.args.text.now c.loop-i.i 0) 47 c.if-byte-eq47.false)

pub returns : goal.returns
returns c =
    let whole : length c.args.text.now ≤ c.loop-i.i = omega (arith, c.loop-i-test.false) in
    all_first c.args.text.now (subst (All (λ d. eqb d 47 ≡ false)) (take_all c.loop-i.i c.args.text.now whole) c.loop-i.invariant)
