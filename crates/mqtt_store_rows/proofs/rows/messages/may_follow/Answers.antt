use Rattle.std.proofs.Common.{◌≡◌, ◌+◌, ◌<◌, [], ◌∷◌, ◌++◌, length, length-append, sym, ◌∙◌, arith}
use Rattle.std.specs.Prelude.{Some}
use Rattle.std.proofs.lemmas.Bool.Decides.{nat_tests}
use Rattle.mqtt_records.specs.lists.Order.{last_row}
use Rattle.mqtt_records.proofs.lists_lemmas.OrderLemmas.{last-read}
use Rattle.mqtt_store_rows.specs.rows.Joins.{publication_of}
use Rattle.mqtt_store_rows.proofs.rows_lemmas.FollowLemmas.{above_last, follows_last}
use Rattle.mqtt_store_rows.proofs.rows.messages.may_follow.Goals as goal

pub returns-in-Some : goal.returns-in-Some
returns-in-Some c =
    let ms = c.args.messages.now in
    let m = c.args.message.now in
    let l = c.in-Some.last.now in
    let short = c.if-messages-ge-MESSAGE_LIMIT.false in
    let last : last_row publication_of ms ≡ Some l = sym (c.in-Some.ensures.value ∙ last-read publication_of ms) in
    let count : length (ms ++ m ∷ []) ≡ length ms + 1 = length-append ms (m ∷ []) in
    let low = c.key.ensures in
    let high = c.key-in-Some.ensures in (
      (λ yes. let less : publication_of l < publication_of m = grind (arith, nat_tests, yes, low, high) in record { ascending = follows_last publication_of ms l m c.requires last less; within = omega (arith, short, count) }),
      (λ table. let less = above_last publication_of ms l m last table.ascending in grind (arith, nat_tests, less, low, high)),
    )
