-- The rows of every step and opening can be followed, and records that may be opened can be indexed.
use Rattle.std.proofs.lemmas.Bool.{cases_Bool}
use Rattle.std.proofs.Common.{◌≡◌, ℕ, List, [], ◌∷◌, ◌++◌, Option, Some, None, refl, sym, subst, nat_eq, inl, inr}
use Rattle.std.proofs.Math.Nat.{max-le, min-le_right}
use Rattle.mqtt_base.specs.declared.limits.TheConstants.{LAST_NUMBER}
use Rattle.mqtt_keep.specs.lawful.Lawful.{IsLawful, IsLawfulSession, last_of}
use Rattle.mqtt_records.specs.declared.messages.message.Will.{Will}
use Rattle.mqtt_records.specs.state.Records.{HasSome, IsNumber, changed, changed_all}
use Rattle.mqtt_records.specs.declared.state.change.Change.{Change}
use Rattle.mqtt_records.specs.declared.state.change.Change.TheVariants.{SetCounter}
use Rattle.mqtt_records.specs.declared.state.change.Counter.TheVariants.{Moment}
use Rattle.mqtt_records.specs.declared.state.records.Records.{Records}
use Rattle.mqtt_records.specs.declared.state.session.Session.{Session}
use Rattle.mqtt_records.specs.declared.state.subscription.Subscription.{Subscription}
use Rattle.mqtt_records.specs.state.Session.{birth_of}
use Rattle.mqtt_rules.specs.step.Contents.{HasContents, HasLawfulContents, TakesLawful}
use Rattle.mqtt_rules.specs.declared.step.Capacity.{Capacity}
use Rattle.mqtt_rules.specs.step.Deeds.{Whose, Part, Resume, Close, SetExpiry, DropWill, Subscribe, Unsubscribe, Open, Release, Enter, Mark, Leave, Deed, Accept, Begin, Name, Count, At, Finish, Keep, Forget, RefuseWill, Link, On, Send, Gone, will_row, part_rows, part_rows_of, rows_of, rows_of_all, stored_after, after}
use Rattle.mqtt_rules.specs.step.Laws.{AreWithin, IsCoherent, IsOrdered}
use Rattle.mqtt_rules.specs.step.State.{Broker, MemberChoice, session_at, stored}
use Rattle.mqtt_rules.specs.step.Step.{Call, at_moment, deeds, env_of, opening_deeds, rows_written, stamp_of, stamped, unopened}
use Rattle.mqtt_rules.proofs.step_lemmas.numbers.Copies.{each_more}
use Rattle.mqtt_rules.proofs.step_lemmas.flight.FlightRows.{found_key}
use Rattle.mqtt_rules.proofs.step_lemmas.contents.LawfulContents.{lawful_contents}
use Rattle.mqtt_rules.proofs.step_lemmas.fit.LawfulRecords.{lawful_coherent}
use Rattle.mqtt_rules.proofs.step_lemmas.fit.RowsFit.{made_of, moment_last}
use Rattle.mqtt_broker_step.specs.Subscribing.{HasEachFilterOnce, HaveFiltersOnce}
use Rattle.mqtt_broker_queue.specs.subscribers.Following.{HasAsked, CanBeIndexed, IsGranted, CanAllBeFollowed}
use Rattle.mqtt_broker_queue.proofs.subscribers_lemmas.Granted.{IsWell, AreWell, well_call, well_opening}

-- ---- rows of deeds

follow_append : (xs ys : List Change) (r : Records) → CanAllBeFollowed xs r → CanAllBeFollowed ys (changed_all xs r) → CanAllBeFollowed (xs ++ ys) r
follow_append [] ys r p q = q
follow_append (x ∷ xs) ys r p q = (p.0, follow_append xs ys (changed x r) p.1 q)

follow_will : (birth : ℕ) (will : Option Will) (r : Records) → CanAllBeFollowed (will_row birth will ∷ []) r
follow_will birth None r = (tt, tt)
follow_will birth (Some w) r = (tt, tt)

has_granted : (x : Subscription) (o : Option Session) (s : Session) → o ≡ Some s → IsGranted x s → HasSome o (IsGranted x)
has_granted x o s is p = subst (λ (q : Option Session). HasSome q (IsGranted x)) (sym is) p

follow_part : (who : Whose) (part : Part) (s : Session) (b : Broker) → session_at who.birth b.records ≡ Some s → IsWell (At who part) b → CanAllBeFollowed (part_rows part s) b.records
follow_part who (Resume expiry will) s b there well = (tt, follow_will s.birth will _)
follow_part who (Close moment) s b there well = (tt, tt)
follow_part who (SetExpiry expiry) s b there well = (tt, tt)
follow_part who DropWill s b there well = (tt, tt)
follow_part who (Subscribe x) s b there well =
    let same : s.birth ≡ who.birth = found_key birth_of who.birth s b.records.sessions there in
    let found : session_at s.birth b.records ≡ Some s = subst (λ (n : ℕ). session_at n b.records ≡ Some s) (sym same) there in
    ((has_granted x (session_at s.birth b.records) s found (well.0 s there), well.1), tt)
follow_part who (Unsubscribe text) s b there well = (tt, tt)
follow_part who (Open id) s b there well = (tt, tt)
follow_part who (Release id) s b there well = (tt, tt)
follow_part who (Enter copy) s b there well = (tt, tt)
follow_part who (Mark place phase) s b there well = (tt, tt)
follow_part who (Leave e ending) s b there well = (tt, tt)

follow_part_of : (who : Whose) (part : Part) (o : Option Session) (b : Broker) → session_at who.birth b.records ≡ o → IsWell (At who part) b → CanAllBeFollowed (part_rows_of part o) b.records
follow_part_of who part None b there well = tt
follow_part_of who part (Some s) b there well = follow_part who part s b there well

follow_deed : (d : Deed) (b : Broker) → IsWell d b → CanAllBeFollowed (rows_of d b.records) b.records
follow_deed (Accept number origin m) b well = (tt, tt)
follow_deed (Begin row None) b well = (tt, (tt, tt))
follow_deed (Begin row (Some will)) b well = (tt, (tt, (tt, tt)))
follow_deed (Name n) b well = (tt, tt)
follow_deed (Count n) b well = (tt, tt)
follow_deed (At who part) b well = follow_part_of who part (session_at who.birth b.records) b refl well
follow_deed (Finish who) b well = (tt, tt)
follow_deed (Keep kept) b well = (tt, tt)
follow_deed (Forget place) b well = (tt, tt)
follow_deed (RefuseWill who) b well = tt
follow_deed (Link n) b well = tt
follow_deed (On n part) b well = tt
follow_deed (Send n packet) b well = tt
follow_deed (Gone n) b well = tt

follow_deeds : (ds : List Deed) (b : Broker) → AreWell ds b → CanAllBeFollowed (rows_of_all ds b.records) b.records
follow_deeds [] b well = tt
follow_deeds (d ∷ ds) b well =
    follow_append (rows_of d b.records) (rows_of_all ds (stored_after d b.records)) b.records (follow_deed d b well.0) (follow_deeds ds (after d b) well.1)

follow_stamp : (now was : ℕ) (r : Records) → CanAllBeFollowed (stamp_of now was) r
follow_stamp now was r = elim (cases_Bool (nat_eq now was)) [
  | inl same ↦ rw same tt
  | inr other ↦ rw other (tt, tt)
]

follow_stamped : (now was : ℕ) (rows : List Change) (r : Records) → CanAllBeFollowed rows r → CanAllBeFollowed (stamped now was rows) r
follow_stamped now was [] r h = tt
follow_stamped now was (x ∷ rows) r h = follow_append (x ∷ rows) (stamp_of now was) r h (follow_stamp now was (changed_all (x ∷ rows) r))

-- ---- steps and openings

-- an index can follow the rows of a call's deeds
pub deeds_followed : (limits : Capacity) (choice : MemberChoice) (now : ℕ) (call : Call) (b : Broker) → AreWithin limits → IsCoherent (stored b) → IsNumber b.now → TakesLawful call
    → CanAllBeFollowed (rows_of_all (deeds limits choice now call b) (stored b)) (stored b)
deeds_followed limits choice now call b within h last taken =
    let c = at_moment now b in
    follow_deeds (deeds limits choice now call b) c (well_call (env_of limits choice b) within call c (made_of b.records h, moment_last b now last) taken)

-- and those of the whole step, with its moment
pub step_followed : (limits : Capacity) (choice : MemberChoice) (now : ℕ) (call : Call) (b : Broker) → AreWithin limits → IsCoherent (stored b) → IsNumber b.now → TakesLawful call
    → CanAllBeFollowed (rows_written (deeds limits choice now call b) (at_moment now b)) (stored b)
step_followed limits choice now call b within h last taken =
    follow_stamped (at_moment now b).now b.records.moment (rows_of_all (deeds limits choice now call b) (stored b)) (stored b) (deeds_followed limits choice now call b within h last taken)

opening_last : (r : Records) (now : ℕ) → IsNumber (unopened now r).now
opening_last r now = max-le (min-le_right r.moment LAST_NUMBER) (min-le_right now LAST_NUMBER)

-- and those of an opening
pub opening_followed : (limits : Capacity) (choice : MemberChoice) (now : ℕ) (r : Records) → AreWithin limits → IsCoherent r
    → CanAllBeFollowed (rows_written (opening_deeds limits choice now r) (unopened now r)) r
opening_followed limits choice now r within h =
    let c = unopened now r in
    let env = env_of limits choice c in
    let ds = opening_deeds limits choice now r in
    follow_stamped c.now r.moment (rows_of_all ds r) r (follow_deeds ds c (well_opening env within c (made_of r h, opening_last r now)))

-- ---- what records have

-- records in order, with each filter once and lawful contents, can be indexed
pub indexed_of : (r : Records) → IsOrdered r → HaveFiltersOnce r → HasLawfulContents r → CanBeIndexed r
indexed_of r ordered once contents = record {
  ordered = ordered;
  filters = once;
  asked = each_more HasContents HasAsked (λ s h. h.subscriptions) r.sessions contents.sessions;
}

-- so can lawful records
pub indexed_lawful : (r : Records) → IsLawful r → CanBeIndexed r
indexed_lawful r lawful =
    indexed_of r (lawful_coherent r lawful).ordered
    (each_more (IsLawfulSession (last_of r)) HasEachFilterOnce (λ s h. record { differ = h.subscriptions.filters }) r.sessions lawful.sessions.each)
    (lawful_contents r lawful)
