-- Rows that say what was read of them, beside those of the whole broker.
use Rattle.std.proofs.Common.{◌≡◌, ◌⊎◌, ℕ, ◌+◌, Bool, true, false, cond, List, [], ◌∷◌, length, Option, Some, None, nat_eq, arith, refl, ap, sym, subst, ◌∙◌, inl, inr}
use Rattle.std.specs.Prelude.{⊤, IsSomeAnd, filter_map, option_map}
use Rattle.std.specs.List.{AllByRecursion, cons_option}
use Rattle.std.proofs.lemmas.Bool.{cases_Bool, eqb-true}
use Rattle.std.proofs.lemmas.Cmp.{nat_eq_equiv}
use Rattle.mqtt_topic.specs.declared.sending.sizes.OtherBytes.{OtherBytes}
use Rattle.mqtt_flow.specs.declared.outbound.entry.QueuedCopy.{QueuedCopy}
use Rattle.mqtt_records.specs.messages.Content.{CopyContent}
use Rattle.mqtt_records.specs.messages.Filling.{Filling, Fillings, HasBytesOf, filled_with, said_by}
use Rattle.mqtt_records.specs.messages.Queue.{CopyRow, IsSpelled, identifier_len}
use Rattle.mqtt_records.proofs.messages_lemmas.Filling.{said_slim}
use Rattle.mqtt_records.specs.lists.Order.{change_row, row_at}
use Rattle.mqtt_records.specs.declared.state.records.Records.{Records}
use Rattle.mqtt_records.specs.declared.state.session.Session.{Session}
use Rattle.mqtt_records.specs.state.Session.{HasRowFor, birth_of, copy_place, with_filled}
use Rattle.mqtt_records.specs.state.Slim.{TakesIn, whole_at}
use Rattle.mqtt_records.specs.state.Telling.{copy_content, queue_or_none}
use Rattle.mqtt_keep.specs.by_name.Slimming.{TakesAll, whole_places}
use Rattle.mqtt_keep.proofs.by_name_lemmas.FilledRows.{others_stand, row_at-change_row}
use Rattle.mqtt_rules.specs.step.Contents.{HasContents, HasLawfulContents, IsCopied, of_rows}
use Rattle.mqtt_rules.specs.step.Forms.{other_bytes}
use Rattle.mqtt_rules.specs.step.State.{Broker, queued_copy, session_at}
use Rattle.mqtt_rules.proofs.step_lemmas.contents.SpelledContents.{copy_spelled, rows_are}
use Rattle.mqtt_rules.proofs.step_lemmas.flight.FlightRows.{all_at, found_key}
use Rattle.mqtt_rules.specs.alike.Alike.{AlikeBrokers, AlikeRecords, AlikeRows, AlikeSessions, Each, with_records}
use Rattle.mqtt_rules.proofs.alike_lemmas.Pairs.{Both, both_at, each_refl}
use Rattle.mqtt_rules.proofs.alike_lemmas.SlimRows.{slim_row}
use Rattle.mqtt_rules.proofs.alike_lemmas.States.{birth_same, place_same, row_alike, session_alike}
use Rattle.mqtt_rules.specs.filling.Filling.{AreFilledBy, IsFilledBy, IsSessionFilledBy}
use Rattle.mqtt_rules.specs.filling.Pumped.{IsFilledAt, IsRowFilledBy}
use Rattle.mqtt_rules.proofs.filling_lemmas.Equivalence.{broker_itself, broker_through}
use Rattle.mqtt_broker_looks.specs.at_hand.Hand.{contents_at, stored_content}
use Rattle.mqtt_broker.specs.stored.Pumping.{AreFilledAt}

-- ---- a row that says something else of as many bytes is alike

said_alike : (e : CopyRow) (said : CopyContent) → HasBytesOf e.copy said → AlikeRows (filled_with said e) e
said_alike e said h =
    let new = slim_row (filled_with said e) in
    let old = slim_row e in
    let same = said_slim e said h in
    record {
      place = refl;
      phase = refl;
      copy = record {
        seen = new.copy.seen ∙ (ap (λ (x : CopyRow). queued_copy x.copy) same ∙ sym old.copy.seen);
        retain = refl;
        topic = refl;
        others = new.copy.others ∙ (ap (λ (x : CopyRow). other_bytes x.copy) same ∙ sym old.copy.others);
      };
    }

rows_alike : (said : CopyContent) (place : ℕ) (q : List CopyRow) → IsSomeAnd (row_at copy_place place q) (λ e. HasBytesOf e.copy said)
    → Each AlikeRows (change_row copy_place place (filled_with said) q) q
rows_alike said place [] h = absurd h
rows_alike said place (e ∷ es) h = by (nat_eq e.place place) (rows_alike said place es) h
  where
    by : (t : Bool) → (IsSomeAnd (row_at copy_place place es) (λ x. HasBytesOf x.copy said) → Each AlikeRows (change_row copy_place place (filled_with said) es) es)
        → IsSomeAnd (cond t (Some e) (row_at copy_place place es)) (λ x. HasBytesOf x.copy said)
        → Each AlikeRows (cond t (filled_with said e ∷ es) (e ∷ change_row copy_place place (filled_with said) es)) (e ∷ es)
    by true more k = (said_alike e said k, each_refl AlikeRows row_alike es)
    by false more k = (row_alike e, more k)

sessions_alike : (birth : ℕ) (said : CopyContent) (ss : List Session) → IsSomeAnd (row_at birth_of birth ss) (HasRowFor said)
    → Each AlikeSessions (change_row birth_of birth (with_filled said) ss) ss
sessions_alike birth said [] h = absurd h
sessions_alike birth said (s ∷ ss) h = by (nat_eq s.birth birth) (sessions_alike birth said ss) h
  where
    by : (t : Bool) → (IsSomeAnd (row_at birth_of birth ss) (HasRowFor said) → Each AlikeSessions (change_row birth_of birth (with_filled said) ss) ss)
        → IsSomeAnd (cond t (Some s) (row_at birth_of birth ss)) (HasRowFor said)
        → Each AlikeSessions (cond t (with_filled said s ∷ ss) (s ∷ change_row birth_of birth (with_filled said) ss)) (s ∷ ss)
    by true more k = (record { rest = refl; queue = rows_alike said said.place s.queue k }, each_refl AlikeSessions session_alike ss)
    by false more k = (session_alike s, more k)

-- a broker some of whose rows say something else of as many bytes is alike
pub read_alike : (birth : ℕ) (contents : List CopyContent) (b : Broker) → TakesAll birth contents b.records → AlikeBrokers (with_records (whole_places birth contents b.records) b) b
read_alike birth [] b h = broker_itself b
read_alike birth (said ∷ contents) b h =
    let c = with_records (whole_at birth said b.records) b in
    broker_through (with_records (whole_places birth contents c.records) c) c b (read_alike birth contents c (others_stand birth said contents b.records h.0 h.1))
    (record { rest = refl; records = record { rest = refl; sessions = sessions_alike birth said b.records.sessions h.0 } })

-- ---- what is stored has as many bytes

others_same : (x y : CopyRow) → AlikeRows x y → length x.copy.content.payload ≡ length y.copy.content.payload
others_same x y h =
    let all : identifier_len x.copy.qos + length x.copy.content.payload ≡ identifier_len y.copy.qos + length y.copy.content.payload = ap (λ (o : OtherBytes). o.rest) h.copy.others in
    let same : identifier_len x.copy.qos ≡ identifier_len y.copy.qos = ap (λ (q : QueuedCopy). identifier_len q.qos) h.copy.seen in
    omega (arith, all, same)

row_takes : (e x : CopyRow) → AlikeRows e x → IsSpelled x.copy → HasBytesOf e.copy (copy_content x)
row_takes e x h spelled = record {
  spelled = spelled.properties;
  properties = sym (ap (λ (o : OtherBytes). o.properties) h.copy.others);
  payload = sym (others_same e x h);
  interval = sym (ap (λ (q : QueuedCopy). q.expiry) h.copy.seen);
}

queue_takes : (q w : List CopyRow) (x : CopyRow) → Each AlikeRows q w → IsSpelled x.copy → row_at copy_place x.place w ≡ Some x
    → IsSomeAnd (row_at copy_place x.place q) (λ e. HasBytesOf e.copy (copy_content x))
queue_takes q w x h spelled there = by (row_at copy_place x.place q) (row_at copy_place x.place w) there (both_at AlikeRows copy_place place_same x.place q w h)
  where
    by : (o p : Option CopyRow) → p ≡ Some x → Both AlikeRows o p → IsSomeAnd o (λ e. HasBytesOf e.copy (copy_content x))
    by None None is k = absurd cc
    by None (Some y) is k = absurd k
    by (Some e) None is k = absurd k
    by (Some e) (Some y) is k = let same : y ≡ x = cc in row_takes e x (subst (λ (z : CopyRow). AlikeRows e z) same k) spelled

-- what is said of one, if one is there
abbrev OfSome : {X : Type 0} → (X → Type 0) → Option X → Type 0
OfSome P None = ⊤
OfSome P (Some x) = P x

picked_all : {X : Type 0} (P : X → Type 0) (f : ℕ → Option X) → ((n : ℕ) → OfSome P (f n)) → (ns : List ℕ) → AllByRecursion P (filter_map f ns)
picked_all P f k [] = tt
picked_all {X = X} P f k (n ∷ ns) = by (f n) (k n) (picked_all P f k ns)
  where
    by : (o : Option X) → OfSome P o → AllByRecursion P (filter_map f ns) → AllByRecursion P (cons_option o (filter_map f ns))
    by None h more = more
    by (Some x) h more = (h, more)

session_takes : (s t : Session) (place : ℕ) → AlikeSessions s t → HasContents t → OfSome (λ (said : CopyContent). HasRowFor said s) (option_map copy_content (row_at copy_place place t.queue))
session_takes s t place k contents = by (row_at copy_place place t.queue) refl
  where
    by : (o : Option CopyRow) → row_at copy_place place t.queue ≡ o → OfSome (λ (said : CopyContent). HasRowFor said s) (option_map copy_content o)
    by None there = tt
    by (Some x) there =
        let at : x.place ≡ place = found_key copy_place place x t.queue there in
        let copied : IsCopied x.copy = all_at copy_place (λ (e : CopyRow). IsCopied e.copy) place x t.queue contents.queue there in
        queue_takes s.queue t.queue x k.queue (copy_spelled of_rows rows_are x.copy copied) (ap (λ (n : ℕ). row_at copy_place n t.queue) at ∙ there)

module _ (birth : ℕ) (some r : Records) (alike : AlikeRecords some r) where
  both : Both AlikeSessions (row_at birth_of birth some.sessions) (row_at birth_of birth r.sessions)
  both = both_at AlikeSessions birth_of birth_same birth some.sessions r.sessions alike.sessions

  -- a copy that is stored can be said by the row at its place
  one_takes : HasLawfulContents r → (place : ℕ) → OfSome (λ (said : CopyContent). TakesIn birth said some) (stored_content birth place r)
  one_takes lawful place = by (row_at birth_of birth some.sessions) (row_at birth_of birth r.sessions) refl both
    where
      by : (o p : Option Session) → p ≡ row_at birth_of birth r.sessions → Both AlikeSessions o p
          → OfSome (λ (said : CopyContent). IsSomeAnd o (HasRowFor said)) (option_map copy_content (row_at copy_place place (queue_or_none p)))
      by None None is k = tt
      by None (Some t) is k = absurd k
      by (Some s) None is k = absurd k
      by (Some s) (Some t) is k = session_takes s t place k (all_at birth_of HasContents birth t r.sessions lawful.sessions (sym is))

  -- so can all that is stored at some places
  pub stored_takes : HasLawfulContents r → (places : List ℕ) → TakesAll birth (contents_at birth places r) some
  stored_takes lawful places = picked_all (λ (said : CopyContent). TakesIn birth said some) (λ place. stored_content birth place r) (one_takes lawful) places

-- ---- the rows say then what is stored

row_filled : (fillings : ℕ → Filling) (said : CopyContent) → said_by said ≡ fillings said.place → (place : ℕ) (q : List CopyRow)
    → (nat_eq said.place place ≡ true) ⊎ IsRowFilledBy fillings (row_at copy_place place q) → IsRowFilledBy fillings (row_at copy_place place (change_row copy_place said.place (filled_with said) q))
row_filled fillings said says place q h =
    subst (λ (o : Option CopyRow). IsRowFilledBy fillings o) (sym (row_at-change_row copy_place (filled_with said) (λ e. refl) place said.place q))
    (by (nat_eq said.place place) (row_at copy_place place q) refl refl h)
  where
    by : (t : Bool) (o : Option CopyRow) → nat_eq said.place place ≡ t → row_at copy_place place q ≡ o → (t ≡ true) ⊎ IsRowFilledBy fillings o → IsRowFilledBy fillings (cond t (option_map (filled_with said) o) o)
    by true None same there k = tt
    by true (Some e) same there k = says ∙ ap fillings (eqb-true said.place place same ∙ sym (found_key copy_place place e q there))
    by false o other there (inl k) = absurd cc
    by false o other there (inr k) = k

module _ (fillings : Fillings) (birth : ℕ) where
  -- the row at a place says what there is for it
  abbrev IsFilled : ℕ → Records → Type 0
  IsFilled place r = IsFilledAt fillings (session_at birth r) place

  -- what is told of a copy is what there is for its place
  abbrev IsSaid : CopyContent → Type 0
  IsSaid said = said_by said ≡ fillings birth said.place

  found_there : (said : CopyContent) (ss : List Session) → row_at birth_of birth (change_row birth_of birth (with_filled said) ss) ≡ option_map (with_filled said) (row_at birth_of birth ss)
  found_there said [] = refl
  found_there said (s ∷ ss) = elim (cases_Bool (nat_eq s.birth birth)) [
    | inl is ↦ rw (is, is) refl
    | inr other ↦ rw (other, other) (found_there said ss)
  ]

  one_filled : (said : CopyContent) → IsSaid said → (place : ℕ) (r : Records) → (nat_eq said.place place ≡ true) ⊎ IsFilled place r → IsFilled place (whole_at birth said r)
  one_filled said says place r h =
      subst (λ (o : Option Session). IsFilledAt fillings o place) (sym (found_there said r.sessions)) (by (row_at birth_of birth r.sessions) refl h)
    where
      by : (o : Option Session) → row_at birth_of birth r.sessions ≡ o → (nat_eq said.place place ≡ true) ⊎ IsFilledAt fillings o place → IsFilledAt fillings (option_map (with_filled said) o) place
      by None there k = tt
      by (Some s) there k =
          let same : s.birth ≡ birth = found_key birth_of birth s r.sessions there in
          row_filled (fillings s.birth) said (says ∙ ap (λ (n : ℕ). fillings n said.place) (sym same)) place s.queue k

  -- a row that says it says it still
  all_keep : (contents : List CopyContent) → AllByRecursion IsSaid contents → (place : ℕ) (r : Records) → IsFilled place r → IsFilled place (whole_places birth contents r)
  all_keep [] says place r h = h
  all_keep (said ∷ contents) says place r h = all_keep contents says.1 place (whole_at birth said r) (one_filled said says.0 place r (inr h))

  module _ (f : ℕ → Option CopyContent) (at : (place : ℕ) → OfSome (λ (said : CopyContent). (said.place ≡ place) × IsSaid said) (f place)) where
    said_all : (places : List ℕ) → AllByRecursion IsSaid (filter_map f places)
    said_all places = picked_all IsSaid f (λ place. by place (f place) (at place)) places
      where
        by : (place : ℕ) (o : Option CopyContent) → OfSome (λ (said : CopyContent). (said.place ≡ place) × IsSaid said) o → OfSome IsSaid o
        by place None k = tt
        by place (Some said) k = k.1

    -- where none is told none stands
    abbrev AreBare : Records → Type 0
    AreBare r = (place : ℕ) → f place ≡ None → IsFilled place r

    all_told : (places : List ℕ) (r : Records) → AreBare r → AreFilledAt fillings birth places (whole_places birth (filter_map f places) r)
    all_told [] r bare = tt
    all_told (place ∷ places) r bare = by (f place) refl (at place) (all_told places)
      where
        by : (o : Option CopyContent) → f place ≡ o → OfSome (λ (said : CopyContent). (said.place ≡ place) × IsSaid said) o
            → ((s : Records) → AreBare s → AreFilledAt fillings birth places (whole_places birth (filter_map f places) s))
            → IsFilled place (whole_places birth (cons_option o (filter_map f places)) r) × AreFilledAt fillings birth places (whole_places birth (cons_option o (filter_map f places)) r)
        by None is k more = (all_keep (filter_map f places) (said_all places) place r (bare place is), more r bare)
        by (Some said) is k more =
            let mine : nat_eq said.place place ≡ true = ap (λ (n : ℕ). nat_eq n place) k.0 ∙ nat_eq_equiv.refl place in (
              all_keep (filter_map f places) (said_all places) place (whole_at birth said r) (one_filled said k.1 place r (inl mine)),
              more (whole_at birth said r) (λ other none. one_filled said k.1 other r (inr (bare other none))),
            )

rows_told : (fillings : Fillings) (birth : ℕ) (t : Session) (place : ℕ) → t.birth ≡ birth → IsSessionFilledBy fillings t
    → OfSome (λ (said : CopyContent). (said.place ≡ place) × (said_by said ≡ fillings birth said.place)) (option_map copy_content (row_at copy_place place t.queue))
rows_told fillings birth t place same filled = by (row_at copy_place place t.queue) refl
  where
    by : (o : Option CopyRow) → row_at copy_place place t.queue ≡ o → OfSome (λ (said : CopyContent). (said.place ≡ place) × (said_by said ≡ fillings birth said.place)) (option_map copy_content o)
    by None there = tt
    by (Some x) there = (
      found_key copy_place place x t.queue there,
      all_at copy_place (IsFilledBy (fillings t.birth)) place x t.queue filled there ∙ ap (λ (n : ℕ). fillings n x.place) same,
    )

rows_bare : (fillings : ℕ → Filling) (e x : Option CopyRow) → option_map copy_content x ≡ None → Both AlikeRows e x → IsRowFilledBy fillings e
rows_bare fillings None x is k = tt
rows_bare fillings (Some e) None is k = absurd k
rows_bare fillings (Some e) (Some x) is k = absurd cc

module _ (fillings : Fillings) (birth : ℕ) (some r : Records) (alike : AlikeRecords some r) (says : AreFilledBy fillings r) where
  -- what is stored for a place is what there is for it
  told_at : (place : ℕ) → OfSome (λ (said : CopyContent). (said.place ≡ place) × (said_by said ≡ fillings birth said.place)) (stored_content birth place r)
  told_at place = by (row_at birth_of birth r.sessions) refl
    where
      by : (p : Option Session) → row_at birth_of birth r.sessions ≡ p
          → OfSome (λ (said : CopyContent). (said.place ≡ place) × (said_by said ≡ fillings birth said.place)) (option_map copy_content (row_at copy_place place (queue_or_none p)))
      by None is = tt
      by (Some t) is = rows_told fillings birth t place (found_key birth_of birth t r.sessions is) (all_at birth_of (IsSessionFilledBy fillings) birth t r.sessions says is)

  -- where nothing is stored no row stands
  bare_at : (place : ℕ) → stored_content birth place r ≡ None → IsFilledAt fillings (session_at birth some) place
  bare_at place none = by (row_at birth_of birth some.sessions) (row_at birth_of birth r.sessions) none (both birth some r alike)
    where
      by : (o p : Option Session) → option_map copy_content (row_at copy_place place (queue_or_none p)) ≡ None → Both AlikeSessions o p → IsFilledAt fillings o place
      by None p is k = tt
      by (Some s) None is k = absurd k
      by (Some s) (Some t) is k =
          rows_bare (fillings s.birth) (row_at copy_place place s.queue) (row_at copy_place place t.queue) is (both_at AlikeRows copy_place place_same place s.queue t.queue k.queue)

  -- rows that were filled with what is stored say what is stored
  pub stored_filled : (places : List ℕ) → AreFilledAt fillings birth places (whole_places birth (contents_at birth places r) some)
  stored_filled places = all_told fillings birth (λ place. stored_content birth place r) told_at places some bare_at
