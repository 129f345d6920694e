use Rattle.std.proofs.Common.{◌≡◌, ◌++◌, ◌∷◌, [], List, Bool, IsTrue, rules}
use Rattle.std.proofs.lemmas.Result.{IfOk-weaker}
use Rattle.sqlite.specs.Values.{bound}
use Rattle.mqtt_store_tables.specs.together.Together.{Coming, coming_row, coming_rows}
use Rattle.mqtt_store_database.specs.committing.Together.{PutsFurther, PutFurther}
use Rattle.mqtt_store_database.proofs.committing_lemmas.Further.{four_added}
use Rattle.mqtt_store_database.proofs.committing.together.push_four.Goals as goal

pub returns : goal.returns
returns c =
    let known = c.args.known in
    let w = c.args.one.now in
    let x = c.args.two.now in
    let y = c.args.three.now in
    let z = c.args.four.now in
    let old = bound c.args.out.now.items in
    let p = bound c.push_further.new.out.items in
    let q = bound c.push_further-else-not-branch.new.out.items in
    let r = bound c.push_further-2.new.out.items in
    let new = bound c.push_further-3.new.out.items in
    let first : IsTrue c.in_ok-push_further.field-0 = search rules in
    let second : IsTrue c.in_ok-push_further-2.field-0 = search rules in
    let third : IsTrue c.in_ok-push_further-3.field-0 = search rules in
    IfOk-weaker c.push_further-3.result (λ (done : Bool). IsTrue done → (it : Coming) × PutsFurther known z it × (new ≡ r ++ coming_row it)) (λ (done : Bool). IsTrue done → (cs : List Coming) × PutFurther known (w ∷ x ∷ y ∷ z ∷ []) cs × (new ≡ old ++ coming_rows cs))
    (λ done h did. four_added known w x y z old p q r new (c.in_ok-push_further.ensures first) (c.in_ok-push_further-2.ensures second) (c.in_ok-push_further-3.ensures third) (h did)) c.push_further-3.ensures
