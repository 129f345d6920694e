use Rattle.mqtt_keep.proofs.lawful.records.are_sessions.Goals.{then-branch+in_ok-apart-2, else-branch}
use Rattle.mqtt_keep.proofs.lawful.records.are_sessions.Goals as goal

pub returns-else-apart : goal.returns-else-apart
returns-else-apart c = (
  λ t. absurd (let no = c.if-apart.false in cc),
  λ h.
      elim c.if-branch.branch [
        | then-branch+in_ok-apart-2 w ↦ rw w.apart-is (w.in_ok-apart-2.ensures.1 (rw c.as_slice-rows.ensures.rows h.places))
        | else-branch w ↦ rw w.apart-is (c.in_ok-apart.ensures.1 (rw c.as_slice-rows.ensures.rows h.clients))
      ],
)
