-- Alike records take the same changes.
use Rattle.std.proofs.Common.{◌≡◌, ℕ, ◌≤◌, Bool, true, List, [], ◌∷◌, ◌||◌, nat_lt, Option, Some, None, refl, sym, ap₂, subst, ◌∙◌}
use Rattle.std.specs.List.{AllByRecursion}
use Rattle.std.proofs.lemmas.List.Elements.{All-from_recursion, recursion_from_All}
use Rattle.mqtt_base.specs.declared.limits.TheConstants.{SESSION_LIMIT, QUEUE_LIMIT}
use Rattle.mqtt_records.specs.messages.Queue.{CopyRow}
use Rattle.mqtt_records.specs.lists.Order.{HasRoomFor, row_at, has_row}
use Rattle.mqtt_records.specs.state.Records.{changed, counter_of, HasSome, HasSession, Fits, FitAll}
use Rattle.mqtt_records.specs.state.Session.{birth_of, copy_place}
use Rattle.mqtt_records.specs.declared.state.change.Change.{Change}
use Rattle.mqtt_records.specs.declared.state.change.Change.TheVariants as change
use Rattle.mqtt_records.specs.declared.state.change.Counter.{Counter}
use Rattle.mqtt_records.specs.declared.state.change.Counter.TheVariants.{Births, Publications, Subscribes, Autos, Moment}
use Rattle.mqtt_records.specs.declared.state.records.Records.{Records}
use Rattle.mqtt_records.specs.declared.state.session.Session.{Session}
use Rattle.mqtt_rules.specs.alike.Alike.{Each, AlikeRows, AlikeSessions, AlikeRecords, with_queue, with_sessions}
use Rattle.mqtt_rules.proofs.alike_lemmas.Pairs.{Both, each_length, has_same}
use Rattle.mqtt_rules.proofs.alike_lemmas.States.{by_queue, by_sessions, birth_same, place_same, session_found, changed_alike}

counter_same : (counter : Counter) (r : Records) (ss : List Session) → counter_of counter r ≡ counter_of counter (with_sessions ss r)
counter_same Births r ss = refl
counter_same Publications r ss = refl
counter_same Subscribes r ss = refl
counter_same Autos r ss = refl
counter_same Moment r ss = refl

-- lists with alike rows have room for the same keys
room_alike : {X : Type 0} (R : X → X → Type 0) (key : X → ℕ) → ((x y : X) → R x y → key x ≡ key y) → (limit n : ℕ) (xs ys : List X) → Each R xs ys → HasRoomFor key limit n xs → HasRoomFor key limit n ys
room_alike R key same limit n xs ys h k =
    ap₂ (λ (t : Bool) (m : ℕ). t || nat_lt m limit) (sym (has_same R key same n xs ys h)) (sym (each_length R xs ys h)) ∙ k

-- what a change asks of a session is asked of what is alike to it
asked : (P : Session → Type 0) → ((s : Session) (q : List CopyRow) → Each AlikeRows s.queue q → P s → P (with_queue q s)) → (o p : Option Session) → Both AlikeSessions o p → HasSome o P → HasSome p P
asked P k None None h g = g
asked P k None (Some t) h g = absurd h
asked P k (Some s) None h g = absurd h
asked P k (Some s) (Some t) h g = by_queue (λ (x : Session). P s → P x) s (k s) t h g

module _ (r : Records) (ss : List Session) (h : Each AlikeSessions r.sessions ss) where
  abbrev other : Records
  other = with_sessions ss r

  session_asked : (birth : ℕ) (P : Session → Type 0) → ((s : Session) (q : List CopyRow) → Each AlikeRows s.queue q → P s → P (with_queue q s)) → HasSession birth P r → HasSession birth P other
  session_asked birth P k = asked P k (row_at birth_of birth r.sessions) (row_at birth_of birth ss) (session_found birth r ss h)

  -- what fits one fits the other
  fits_alike : (c : Change) → Fits c r → Fits c other
  fits_alike (change.SetCounter counter value) k = (subst (λ (n : ℕ). n ≤ value) (counter_same counter r ss) k.0, k.1)
  fits_alike (change.PutSession row) k = (
    room_alike AlikeSessions birth_of birth_same SESSION_LIMIT row.birth r.sessions ss h k.0,
    All-from_recursion IsApart ss (names r.sessions ss h (recursion_from_All IsApart r.sessions k.1)),
    k.2,
    k.3,
  )
    where
      IsApart : Session → Type 0
      IsApart session = session.client ≡ row.client → session.birth ≡ row.birth

      names : (xs ys : List Session) → Each AlikeSessions xs ys → AllByRecursion IsApart xs → AllByRecursion IsApart ys
      names [] [] a g = tt
      names [] (y ∷ ys) a g = absurd a
      names (x ∷ xs) [] a g = absurd a
      names (x ∷ xs) (y ∷ ys) a g = (by_queue (λ (s : Session). IsApart x → IsApart s) x (λ q i j. j) y a.0 g.0, names xs ys a.1 g.1)
  fits_alike (change.SetSession row) k = (session_asked row.birth _ (λ s q i g. g) k.0, k.1)
  fits_alike (change.RemoveSession birth) k = k
  fits_alike (change.PutWill birth will) k = session_asked birth _ (λ s q i g. g) k
  fits_alike (change.RemoveWill birth) k = k
  fits_alike (change.PutSubscription birth sub) k = (session_asked birth _ (λ s q i g. g) k.0, k.1)
  fits_alike (change.RemoveSubscription birth text) k = k
  fits_alike (change.PutInbound birth id) k = session_asked birth _ (λ s q i g. g) k
  fits_alike (change.RemoveInbound birth id) k = k
  fits_alike (change.PutCopy birth row) k =
      (session_asked birth (λ s. HasRoomFor copy_place QUEUE_LIMIT row.place s.queue) (λ s q i g. room_alike AlikeRows copy_place place_same QUEUE_LIMIT row.place s.queue q i g) k.0, k.1)
  fits_alike (change.SetCopy birth place phase) k =
      (session_asked birth (λ s. has_row copy_place place s.queue ≡ true) (λ s q i g. sym (has_same AlikeRows copy_place place_same place s.queue q i) ∙ g) k.0, k.1)
  fits_alike (change.RemoveCopy birth place) k = k
  fits_alike (change.PutRetained kept) k = k
  fits_alike (change.RemoveRetained place) k = k

-- changes that fit, one after the other, fit alike records
pub all_fit : (cs : List Change) (r o : Records) → AlikeRecords r o → FitAll cs r → FitAll cs o
all_fit [] r o h k = k
all_fit (c ∷ cs) r o h k = (
  by_sessions (λ (x : Records). Fits c r → Fits c x) r (λ ss i. fits_alike r ss i c) o h k.0,
  all_fit cs (changed c r) (changed c o) (by_sessions (λ (x : Records). AlikeRecords (changed c r) (changed c x)) r (changed_alike c r) o h) k.1,
)
