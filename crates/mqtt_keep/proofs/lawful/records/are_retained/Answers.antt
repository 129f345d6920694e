use Rattle.mqtt_keep.proofs.lawful.records.are_retained.Goals as goal

pub returns-else-branch : goal.returns-else-branch
returns-else-branch c =
    (λ t. absurd (let no = c.if-branch.false in cc), λ h. c.in_ok-are_named_apart.ensures.1 (rw c.as_slice-rows.ensures.rows h.topics))
