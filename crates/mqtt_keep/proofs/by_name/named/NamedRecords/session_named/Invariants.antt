-- Who is named stands among the sessions that are left, or nowhere.
use Rattle.std.proofs.Common.{◌≡◌, drop}
use Rattle.std.specs.Prelude.{bytes_eq, find}
use Rattle.mqtt_keep.proofs.by_name.named.NamedRecords.session_named.Given as goal

abbrev pub invariant-loop-place : goal.invariant-loop-place
invariant-loop-place l = find (λ s. bytes_eq s.client l.client) (drop l.place l.sessions) ≡ find (λ s. bytes_eq s.client l.client) l.self.sessions
