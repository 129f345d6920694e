-- What deeds make of the counters, the stored moment among them, and of the moment.
use Rattle.std.proofs.Common.{◌≡◌, ℕ, List, [], ◌∷◌, Option, Some, None, refl, ap, subst}
use Rattle.mqtt_records.specs.declared.state.session.Session.{Session}
use Rattle.mqtt_records.specs.declared.state.records.Records.{Records}
use Rattle.mqtt_records.specs.state.Records.{changed_all}
use Rattle.mqtt_rules.specs.step.State.{Broker, session_at}
use Rattle.mqtt_rules.specs.step.Deeds.{Part, Resume, Deed, Accept, Begin, Name, Count, At, part_rows, part_rows_of, stored_after, after, after_all}

-- the counters alone
pub record Counts : Type 0 where
  pub births : ℕ
  pub publications : ℕ
  pub subscribes : ℕ
  pub autos : ℕ
  pub moment : ℕ

abbrev pub counts : Records → Counts
counts r = record { births = r.births; publications = r.publications; subscribes = r.subscribes; autos = r.autos; moment = r.moment }

abbrev pub counts_after : Deed → Counts → Counts
counts_after (Accept number origin m) c = record c { publications = number }
counts_after (Begin row will) c = record c { births = row.birth }
counts_after (Name n) c = record c { autos = n }
counts_after (Count n) c = record c { subscribes = n }
counts_after d c = c

-- nothing that happens to a session changes a counter
counts_part : (part : Part) (s : Session) (r : Records) → counts (changed_all (part_rows part s) r) ≡ counts r
counts_part (Resume expiry None) s r = refl
counts_part (Resume expiry (Some will)) s r = refl
counts_part part s r = refl

counts_part_of : (part : Part) (o : Option Session) (r : Records) → counts (changed_all (part_rows_of part o) r) ≡ counts r
counts_part_of part None r = refl
counts_part_of part (Some s) r = counts_part part s r

-- what a deed makes of the counters depends on the counters alone
pub counts_deed : (d : Deed) (r : Records) → counts (stored_after d r) ≡ counts_after d (counts r)
counts_deed (Begin row None) r = refl
counts_deed (Begin row (Some will)) r = refl
counts_deed (At who part) r = counts_part_of part (session_at who.birth r) r
counts_deed d r = refl

-- the stored moment and the moment stay, deed by deed
pub moment_stays : (ds : List Deed) (b : Broker) → (after_all ds b).records.moment ≡ b.records.moment
moment_stays [] b = refl
moment_stays (Begin row None ∷ ds) b = moment_stays ds (after (Begin row None) b)
moment_stays (Begin row (Some will) ∷ ds) b = moment_stays ds (after (Begin row (Some will)) b)
moment_stays (d ∷ ds) b = subst (λ (i : ℕ). (after_all ds (after d b)).records.moment ≡ i) (ap (λ (c : Counts). c.moment) (counts_deed d b.records)) (moment_stays ds (after d b))

-- deeds leave the moment
pub now_stays : (ds : List Deed) (b : Broker) → (after_all ds b).now ≡ b.now
now_stays [] b = refl
now_stays (d ∷ ds) b = now_stays ds (after d b)
