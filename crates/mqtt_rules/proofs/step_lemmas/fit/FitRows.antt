-- The rows of deeds that fit, if room is, and what leaves or is marked stands, and no number is spent.
use Rattle.std.proofs.Common.{◌≡◌, ℕ, zero, suc, ◌<◌, Bool, true, false, ◌||◌, List, [], ◌∷◌, ◌++◌, length, Option, Some, None, nat_lt, refl, sym, ap, subst, ◌∙◌, arith, inl, inr}
use Rattle.std.specs.Prelude.{slice_index_or, is_some, option_map}
use Rattle.std.specs.List.{All}
use Rattle.std.proofs.lemmas.Bool.{lt-ltb, ltb-false}
use Rattle.std.proofs.lemmas.Cmp.{nat_eq_equiv}
use Rattle.mqtt_base.specs.declared.limits.TheConstants.{LAST_NUMBER, OPEN_LIMIT, QUEUE_LIMIT, SESSION_LIMIT}
use Rattle.mqtt_records.specs.declared.messages.message.RetainedMessage.{RetainedMessage}
use Rattle.mqtt_records.specs.declared.messages.message.Will.{Will}
use Rattle.mqtt_records.specs.declared.state.session.Columns.{Columns}
use Rattle.mqtt_records.specs.declared.state.session.Session.{Session}
use Rattle.mqtt_records.specs.declared.state.records.Records.{Records}
use Rattle.mqtt_records.specs.declared.state.change.Change.{Change}
use Rattle.mqtt_records.specs.declared.state.change.Counter.TheVariants.{Births, Publications, Subscribes, Autos}
use Rattle.mqtt_records.specs.declared.state.change.Change.TheVariants.{SetCounter, PutSession, SetSession, PutWill, PutSubscription, PutCopy, SetCopy, PutRetained}
use Rattle.mqtt_records.specs.lists.Order.{HasRoomFor, row_at, has_row, put_row}
use Rattle.mqtt_records.proofs.lists_lemmas.LookUps.{row_at-put_row}
use Rattle.mqtt_records.specs.state.Session.{birth_of, copy_place, number_of, fresh, with_columns, without_filter}
use Rattle.mqtt_records.specs.state.Records.{kept_place, put_session, changed, changed_all, HasSome, TakesSubscription, Fits, FitAll, IsNumber, IsMoment}
use Rattle.mqtt_rules.specs.step.State.{Broker, session_at}
use Rattle.mqtt_rules.specs.step.Deeds.{Whose, Part, Resume, Close, SetExpiry, DropWill, Subscribe, Unsubscribe, Open, Release, Enter, Mark, Leave, Deed, Accept, Begin, Name, Count, At, Finish, Keep, Forget, RefuseWill, Link, On, Send, Gone, will_row, new_entry, part_rows, part_rows_of, rows_of, rows_of_all, stored_after, after, after_all}
use Rattle.mqtt_rules.specs.step.Step.{number_given, is_spent}
use Rattle.mqtt_rules.specs.step.Laws.{IsAmong, IsCoherentSession}
use Rattle.mqtt_rules.proofs.step_lemmas.acts.Goods.{AreGood}
use Rattle.mqtt_rules.proofs.step_lemmas.flight.FlightRows.{found_key, all_found, all_at, change_row-here}
use Rattle.mqtt_rules.proofs.step_lemmas.numbers.NumberBirths.{below_none}
use Rattle.mqtt_rules.proofs.step_lemmas.numbers.Counters.{Counts, counts, counts_after, counts_deed}
use Rattle.mqtt_rules.proofs.step_lemmas.order.OrderedEnters.{RoomToEnter}
use Rattle.mqtt_rules.proofs.step_lemmas.fit.Turns.{Stands}
use Rattle.mqtt_rules.proofs.step_lemmas.fit.Coherent.{IsFitRow, IsFitPart, IsFit, Coheres, coheres_deed}
use Rattle.mqtt_rules.proofs.step_lemmas.fit.FitLaw.{all_among}

-- ---- numbers that are not spent

or_false : (x y : Bool) → (x || y) ≡ false → (x ≡ false) × (y ≡ false)
or_false true y e = absurd cc
or_false false y e = (refl, e)

unspent_one : (x : Change) (xs : List Change) → is_spent (x ∷ xs) ≡ false → IsNumber (number_given x) × (is_spent xs ≡ false)
unspent_one x xs e =
    let both = or_false (nat_lt LAST_NUMBER (number_given x)) (is_spent xs) e in
    (ltb-false LAST_NUMBER (number_given x) both.0, both.1)

-- no number is spent in two lists of rows if none is in both together
pub unspent_append : (xs ys : List Change) → is_spent (xs ++ ys) ≡ false → (is_spent xs ≡ false) × (is_spent ys ≡ false)
unspent_append [] ys e = (refl, e)
unspent_append (x ∷ xs) ys e =
    let both = or_false (nat_lt LAST_NUMBER (number_given x)) (is_spent (xs ++ ys)) e in
    let rest = unspent_append xs ys both.1 in
    (joined (nat_lt LAST_NUMBER (number_given x)) (is_spent xs) both.0 rest.0, rest.1)
  where
    joined : (a b : Bool) → a ≡ false → b ≡ false → (a || b) ≡ false
    joined true b p q = p
    joined false b p q = q

-- the counters of given numbers
pub record AreNumbers (c : Counts) : Type 0 where
  pub births : IsNumber c.births
  pub publications : IsNumber c.publications
  pub subscribes : IsNumber c.subscribes
  pub autos : IsNumber c.autos

numbers_deed : (d : Deed) (r : Records) → is_spent (rows_of d r) ≡ false → AreNumbers (counts r) → AreNumbers (counts_after d (counts r))
numbers_deed (Accept number origin m) r e n = record { births = n.births; publications = (unspent_one (SetCounter Publications number) [] e).0; subscribes = n.subscribes; autos = n.autos }
numbers_deed (Begin row None) r e n =
    let rest = (unspent_one (PutSession row) (SetCounter Births row.birth ∷ []) e).0 in
    record { births = rest; publications = n.publications; subscribes = n.subscribes; autos = n.autos }
numbers_deed (Begin row (Some will)) r e n = record { births = (unspent_one (PutSession row) (SetCounter Births row.birth ∷ PutWill row.birth will ∷ []) e).0; publications = n.publications; subscribes = n.subscribes; autos = n.autos }
numbers_deed (Name k) r e n = record { births = n.births; publications = n.publications; subscribes = n.subscribes; autos = (unspent_one (SetCounter Autos k) [] e).0 }
numbers_deed (Count k) r e n = record { births = n.births; publications = n.publications; subscribes = (unspent_one (SetCounter Subscribes k) [] e).0; autos = n.autos }
numbers_deed (At who part) r e n = n
numbers_deed (Finish who) r e n = n
numbers_deed (Keep kept) r e n = n
numbers_deed (Forget place) r e n = n
numbers_deed (RefuseWill who) r e n = n
numbers_deed (Link k) r e n = n
numbers_deed (On k part) r e n = n
numbers_deed (Send k packet) r e n = n
numbers_deed (Gone k) r e n = n

-- ---- lists and options

has_some : {X : Type 0} (P : X → Type 0) (o : Option X) (x : X) → o ≡ Some x → P x → HasSome o P
has_some {X = X} P o x is p = subst (λ (q : Option X). HasSome q P) (sym is) p

index_among : {X : Type 0} (xs : List X) (k : ℕ) (d : X) → k < length xs → IsAmong (slice_index_or xs k d) xs
index_among [] k d less = absurd (omega (arith, less))
index_among (x ∷ xs) zero d less = inl refl
index_among (x ∷ xs) (suc k) d less = inr (index_among xs k d (omega (arith, less)))

all_from : {X : Type 0} (P : X → Type 0) (xs : List X) → ((x : X) → IsAmong x xs → P x) → All P xs
all_from P xs h k d less = h (slice_index_or xs k d) (index_among xs k d less)

or_right : (x y : Bool) → y ≡ true → (x || y) ≡ true
or_right true y is = refl
or_right false y is = is

-- two lists of rows fit one behind the other if the second fits what the first leaves
pub fit_append : (xs ys : List Change) (r : Records) → FitAll xs r → FitAll ys (changed_all xs r) → FitAll (xs ++ ys) r
fit_append [] ys r p q = q
fit_append (x ∷ xs) ys r p q = (p.0, fit_append xs ys (changed x r) p.1 q)

-- ---- what happens to a session

fits_will : (birth : ℕ) (will : Option Will) (s : Session) (r : Records) → session_at birth r ≡ Some s → FitAll (will_row birth will ∷ []) r
fits_will birth None s r there = (tt, tt)
fits_will birth (Some w) s r there = (has_some (λ (x : Session). Unit {0}) (session_at birth r) s there tt, tt)

fits_part : (part : Part) (s : Session) (b : Broker) → session_at s.birth b.records ≡ Some s → Coheres b.records → IsFitPart s.birth part b.records → RoomToEnter (At (record { birth = s.birth; client = s.client }) part) b
    → Stands (At (record { birth = s.birth; client = s.client }) part) b → AreNumbers (counts b.records) → is_spent (part_rows part s) ≡ false → FitAll (part_rows part s) b.records
fits_part (Resume expiry will) s b there h fit room stands n e =
    let r = b.records in
    let row : Columns = record { birth = s.birth; client = s.client; expiry = expiry; closed = None } in (
      (has_some (λ (x : Session). x.client ≡ s.client) (session_at s.birth r) s there refl, tt),
      fits_will s.birth will (with_columns row s) (changed (SetSession row) r) (change_row-here birth_of s.birth (with_columns row) s r.sessions (λ x. refl) there),
    )
fits_part (Close moment) s b there h fit room stands n e = ((has_some (λ (x : Session). x.client ≡ s.client) (session_at s.birth b.records) s there refl, fit), tt)
fits_part (SetExpiry expiry) s b there h fit room stands n e = (
  (
    has_some (λ (x : Session). x.client ≡ s.client) (session_at s.birth b.records) s there refl,
    (all_at birth_of (IsCoherentSession b.records.autos b.records.subscribes) s.birth s b.records.sessions h.sessions there).2,
  ),
  tt,
)
fits_part DropWill s b there h fit room stands n e = (tt, tt)
fits_part (Subscribe x) s b there h fit room stands n e =
    ((has_some (λ (t : Session). TakesSubscription x (without_filter x.filter t.subscriptions)) (session_at s.birth b.records) s there (fit s there).0, (unspent_one (PutSubscription s.birth x) [] e).0), tt)
fits_part (Unsubscribe text) s b there h fit room stands n e = (tt, tt)
fits_part (Open id) s b there h fit room stands n e = (has_some (λ (t : Session). HasRoomFor number_of OPEN_LIMIT id t.inbound) (session_at s.birth b.records) s there (fit s there), tt)
fits_part (Release id) s b there h fit room stands n e = (tt, tt)
fits_part (Enter copy) s b there h fit room stands n e =
    let row = new_entry copy s.queue in
    let less = room s there in
    let up = fit.publication in
    let granted = fit.subscribe in
    let last = n.publications in
    let least = n.subscribes in (
      (
        has_some (λ (x : Session). HasRoomFor copy_place QUEUE_LIMIT row.place x.queue) (session_at s.birth b.records) s there
            (or_right (has_row copy_place row.place s.queue) (nat_lt (length s.queue) QUEUE_LIMIT) (lt-ltb (length s.queue) QUEUE_LIMIT less)),
        record {
          session = fit.its_birth;
          place = (unspent_one (PutCopy s.birth row) [] e).0;
          publication = omega (arith, up, last);
          subscribe = omega (arith, granted, least);
          arrived = fit.arrived;
          order = omega arith;
        },
      ),
      tt,
    )
fits_part (Mark place phase) s b there h fit room stands n e =
    ((has_some (λ (x : Session). has_row copy_place place x.queue ≡ true) (session_at s.birth b.records) s there (stands s there), (unspent_one (SetCopy s.birth place phase) [] e).0), tt)
fits_part (Leave x ending) s b there h fit room stands n e = (tt, tt)

fits_part_of : (who : Whose) (part : Part) (o : Option Session) (b : Broker) → session_at who.birth b.records ≡ o → Coheres b.records → IsFitPart who.birth part b.records → RoomToEnter (At who part) b
    → Stands (At who part) b → AreNumbers (counts b.records) → is_spent (part_rows_of part o) ≡ false → FitAll (part_rows_of part o) b.records
fits_part_of who part None b there h fit room stands n e = tt
fits_part_of who part (Some s) b there h fit room stands n e =
    let same : s.birth ≡ who.birth = found_key birth_of who.birth s b.records.sessions there in
    fits_part part s b (ap (λ (k : ℕ). session_at k b.records) same ∙ there) h
    (subst (λ (k : ℕ). IsFitPart k part b.records) (sym same) fit)
    (subst (λ (k : ℕ). RoomToEnter (At (record { birth = k; client = s.client }) part) b) (sym same) (room_of who s.client part b room))
    (subst (λ (k : ℕ). Stands (At (record { birth = k; client = s.client }) part) b) (sym same) stands) n e
  where
    room_of : (w : Whose) (client : List ℕ) (p : Part) (c : Broker) → RoomToEnter (At w p) c → RoomToEnter (At (record { birth = w.birth; client = client }) p) c
    room_of w client (Enter copy) c k = k
    room_of w client (Resume expiry will) c k = tt
    room_of w client (Close moment) c k = tt
    room_of w client (SetExpiry expiry) c k = tt
    room_of w client DropWill c k = tt
    room_of w client (Subscribe x) c k = tt
    room_of w client (Unsubscribe text) c k = tt
    room_of w client (Open id) c k = tt
    room_of w client (Release id) c k = tt
    room_of w client (Mark place phase) c k = tt
    room_of w client (Leave x ending) c k = tt

-- ---- a session begins

fits_row : (row : Columns) (r : Records) → Coheres r → IsFitRow row r → AreNumbers (counts r) → IsNumber row.birth → Fits (PutSession row) r
fits_row row r h fit n birth = (
  or_right (has_row birth_of row.birth r.sessions) (nat_lt (length r.sessions) SESSION_LIMIT) fit.room,
  all_from (λ (s : Session). s.client ≡ row.client → s.birth ≡ row.birth) r.sessions (λ s among same.
      let here : session_at s.birth r ≡ Some s = all_among (λ (x : Session). session_at x.birth r ≡ Some x) s r.sessions (all_found birth_of r.sessions h.ordered.sessions.ascending) among in
      absurd (fit.new n.autos s.birth (ap (option_map (λ (x : Session). x.client)) here ∙ ap Some same))),
  birth,
  subst IsMoment (sym fit.connected) tt,
)

begun : (row : Columns) (r : Records) → Coheres r → IsFitRow row r → session_at row.birth (changed (PutSession row) r) ≡ Some (fresh row)
begun row r h fit =
    let new : session_at row.birth r ≡ None = subst (λ (k : ℕ). session_at k r ≡ None) (sym fit.next) (below_none birth_of (suc r.births) r.sessions h.births) in
    let room : HasRoomFor birth_of SESSION_LIMIT row.birth r.sessions = or_right (has_row birth_of row.birth r.sessions) (nat_lt (length r.sessions) SESSION_LIMIT) fit.room in
    put new room
  where
    put : session_at row.birth r ≡ None → HasRoomFor birth_of SESSION_LIMIT row.birth r.sessions → session_at row.birth (changed (PutSession row) r) ≡ Some (fresh row)
    put new room =
        let not_there : has_row birth_of row.birth r.sessions ≡ false = ap is_some new in
        let is : put_session row r.sessions ≡ put_row birth_of SESSION_LIMIT (fresh row) r.sessions = rw not_there refl in
        ap (row_at birth_of row.birth) is
        ∙ row_at-put_row birth_of SESSION_LIMIT row.birth (fresh row) r.sessions room
        ∙ rw (nat_eq_equiv.refl row.birth) refl

-- ---- deed by deed

fits_deed : (d : Deed) (b : Broker) → Coheres b.records → IsFit d b → RoomToEnter d b → Stands d b → AreNumbers (counts b.records) → is_spent (rows_of d b.records) ≡ false → FitAll (rows_of d b.records) b.records
fits_deed (Accept number origin m) b h fit room stands n e = ((omega (arith, fit), (unspent_one (SetCounter Publications number) [] e).0), tt)
fits_deed (Begin row None) b h fit room stands n e =
    let one = unspent_one (PutSession row) (SetCounter Births row.birth ∷ []) e in
    let next = fit.next in
    (fits_row row b.records h fit n one.0, ((omega (arith, next), one.0), tt))
fits_deed (Begin row (Some will)) b h fit room stands n e =
    let one = unspent_one (PutSession row) (SetCounter Births row.birth ∷ PutWill row.birth will ∷ []) e in
    let next = fit.next in
    let r = b.records in (
      fits_row row r h fit n one.0,
      (
        (omega (arith, next), one.0),
        (has_some (λ (x : Session). Unit {0}) (session_at row.birth (changed (PutSession row) r)) (fresh row) (begun row r h fit) tt, tt),
      ),
    )
fits_deed (Name k) b h fit room stands n e = ((omega (arith, fit), (unspent_one (SetCounter Autos k) [] e).0), tt)
fits_deed (Count k) b h fit room stands n e = ((omega (arith, fit), (unspent_one (SetCounter Subscribes k) [] e).0), tt)
fits_deed (At who part) b h fit room stands n e = fits_part_of who part (session_at who.birth b.records) b refl h fit room stands n e
fits_deed (Finish who) b h fit room stands n e = (tt, tt)
fits_deed (Keep kept) b h fit room stands n e =
    let up = fit.publication in
    let last = n.publications in
    let r = b.records in (
      (
        fit.room,
        all_from (λ (k : RetainedMessage). k.content.topic ≡ kept.content.topic → k.place ≡ kept.place) r.retained (λ k among same.
            let here : row_at kept_place k.place r.retained ≡ Some k = all_among (λ (x : RetainedMessage). row_at kept_place x.place r.retained ≡ Some x) k r.retained (all_found kept_place r.retained h.ordered.retained.ascending) among in
            fit.topic k.place (ap (option_map (λ (x : RetainedMessage). x.content.topic)) here ∙ ap Some same)),
        record { place = (unspent_one (PutRetained kept) [] e).0; publication = omega (arith, up, last); arrived = fit.arrived },
      ),
      tt,
    )
fits_deed (Forget place) b h fit room stands n e = (tt, tt)
fits_deed (RefuseWill who) b h fit room stands n e = tt
fits_deed (Link k) b h fit room stands n e = tt
fits_deed (On k part) b h fit room stands n e = tt
fits_deed (Send k packet) b h fit room stands n e = tt
fits_deed (Gone k) b h fit room stands n e = tt

-- all deeds, each on what the ones before it left
pub fits_all : (ds : List Deed) (b : Broker) → Coheres b.records → AreGood IsFit ds b → AreGood RoomToEnter ds b → AreGood Stands ds b → AreNumbers (counts b.records) → is_spent (rows_of_all ds b.records) ≡ false
    → FitAll (rows_of_all ds b.records) b.records × Coheres (after_all ds b).records × AreNumbers (counts (after_all ds b).records)
fits_all [] b h fit room stands n e = (tt, h, n)
fits_all (d ∷ ds) b h fit room stands n e =
    let cut = unspent_append (rows_of d b.records) (rows_of_all ds (stored_after d b.records)) e in
    let first = fits_deed d b h fit.0 room.0 stands.0 n cut.0 in
    let next : AreNumbers (counts (after d b).records) = subst AreNumbers (sym (counts_deed d b.records)) (numbers_deed d b.records cut.0 n) in
    let rest = fits_all ds (after d b) (coheres_deed d b fit.0 h) fit.1 room.1 stands.1 next cut.1 in
    (fit_append (rows_of d b.records) (rows_of_all ds (stored_after d b.records)) b.records first rest.0, rest.1, rest.2)
