use Rattle.std.proofs.Common.{◌≡◌, arith}
use Rattle.mqtt_store_rows.proofs.values_lemmas.ListLemmas.{two_wills, one_will}
use Rattle.mqtt_store_rows.proofs.values.lists.will_part.Goals as goal

pub returns-then-count-gt1-clause-err : goal.returns-then-count-gt1-clause-err
returns-then-count-gt1-clause-err c e will rest taken =
    let found = c.front_of-count.ensures in
    two_wills c.args.birth c.front_of-count.result c.args.rows.now rest will taken found.within found.mine found.rest c.if-count-gt1.true

pub returns-in-Ok-clause-ok : goal.returns-in-Ok-clause-ok
returns-in-Ok-clause-ok c =
    let found = c.front_of-count.ensures in
    let some = c.if-count-eq0.false in
    let few = c.if-count-gt1.false in
    let one : c.front_of-count.result ≡ 1 = omega (arith, some, few) in
    one_will c.args.birth c.front_of-count.result c.args.rows.now c.index-rows-0.result c.in-Ok.will one found.within found.mine found.rest c.index-rows-0.is c.in-Ok.ensures.ok
