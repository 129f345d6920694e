-- The pairs by the length of the block (MQTT 5.0, 2.2.2.1).
use Rattle.std.proofs.Common.{◌≡◌, ℕ, List, length, arith, ◌∙◌}
use Rattle.std.proofs.lemmas.List.{length-append}
use Rattle.mqtt_base.specs.Values.{varint}
use Rattle.mqtt_props.specs.Properties.{Prop, props, block}
use Rattle.mqtt_records.proofs.messages_lemmas.SentSizes.{IsPairsOf, pairs_of_block}
use Rattle.mqtt_records.proofs.messages.sizes.pairs_len.Goals as goal

pairs : (ps : List Prop) (len : ℕ) → len ≡ length (block ps) → IsPairsOf (length (props ps)) len
pairs ps len is = pairs_of_block (length (props ps)) len (is ∙ length-append (varint (length (props ps))) (props ps))

pub overflow_sub-result : goal.overflow_sub-result
overflow_sub-result c =
    let is = pairs c.args.list.now c.block_len-block.result c.block_len-block.ensures.exact in
    let first = is.first c.if-block-le128.true in
    omega (arith, first)

pub returns-then-block-le128-clause-value : goal.returns-then-block-le128-clause-value
returns-then-block-le128-clause-value c =
    let is = pairs c.args.list.now c.block_len-block.result c.block_len-block.ensures.exact in
    let first = is.first c.if-block-le128.true in
    omega (arith, first)

pub returns-then-block-le16385-clause-value : goal.returns-then-block-le16385-clause-value
returns-then-block-le16385-clause-value c =
    let is = pairs c.args.list.now c.block_len-block.result c.block_len-block.ensures.exact in
    let second = is.second (omega arith) c.if-block-le16385.true in
    omega (arith, second)

pub returns-then-block-le2097154-clause-value : goal.returns-then-block-le2097154-clause-value
returns-then-block-le2097154-clause-value c =
    let is = pairs c.args.list.now c.block_len-block.result c.block_len-block.ensures.exact in
    let third = is.third (omega arith) c.if-block-le2097154.true in
    omega (arith, third)

pub returns-else-block-le2097154-clause-value : goal.returns-else-block-le2097154-clause-value
returns-else-block-le2097154-clause-value c =
    let is = pairs c.args.list.now c.block_len-block.result c.block_len-block.ensures.exact in
    let fourth = is.fourth (omega arith) in
    omega (arith, fourth)
