-- The copies and retained messages of records, put one after the other, make them of what is left without.
use Rattle.std.proofs.Common.{◌≡◌, ◌≢◌, ℕ, ◌<◌, ◌≤◌, Bool, true, false, ◌||◌, List, [], ◌∷◌, ◌++◌, map, length, length-append, append_assoc, append-nil, refl, sym, ap, subst, ◌∙◌, arith, inl, inr}
use Rattle.std.specs.Prelude.{Option, flat_map}
use Rattle.std.specs.List.{AllByRecursion}
use Rattle.std.proofs.lemmas.Bool.{lt-ltb}
use Rattle.std.proofs.lemmas.List.Elements.{All-from_recursion}
use Rattle.mqtt_base.specs.declared.limits.TheConstants.{QUEUE_LIMIT, RETAINED_LIMIT}
use Rattle.mqtt_records.specs.declared.messages.message.RetainedMessage.{RetainedMessage}
use Rattle.mqtt_records.specs.messages.Queue.{CopyRow}
use Rattle.mqtt_records.specs.declared.state.change.Change.TheVariants.{PutCopy, PutRetained}
use Rattle.mqtt_records.specs.declared.state.records.Records.{Records}
use Rattle.mqtt_records.specs.declared.state.session.Session.{Session}
use Rattle.mqtt_records.specs.state.Contents.{StoredMessage, IsMessageOf, AgreesWith, SharesContents, copy_message, retained_message}
use Rattle.mqtt_records.specs.state.Members.{Has}
use Rattle.mqtt_records.specs.state.Records.{changed, kept_place, Fits, FitsCopy, FitsRetained, HasSome}
use Rattle.mqtt_records.specs.state.Session.{birth_of, copy_place, with_copy}
use Rattle.mqtt_records.specs.lists.Distinct.{AllDiffer}
use Rattle.mqtt_records.specs.lists.Order.{IsAscending, IsTable, IsBelow, HasRoomFor, has_row}
use Rattle.mqtt_records.proofs.lists_lemmas.LookUps.{put_row-last}
use Rattle.mqtt_store_rows.specs.rows.Gives.{without_queue}
use Rattle.mqtt_store_database.specs.taking_over.Puts.{emptied, queue_puts, puts_of}
use Rattle.mqtt_store_database.proofs.taking_over_lemmas.puts.Made.{AreMade, none_made, one_made, then_made}
use Rattle.mqtt_store_database.proofs.taking_over_lemmas.puts.Rows.{has_middle, of_middle, has_front, below_middle, found_middle, changed_middle}

-- a queue that may be put, copy by copy
pub record IsQueue (birth : ℕ) (queue : List CopyRow) : Type 0 where
  pub table : IsTable copy_place QUEUE_LIMIT queue
  pub each : AllByRecursion (FitsCopy birth) queue

-- so may all queues, and all retained messages
pub record AreRows (r : Records) : Type 0 where
  pub sessions : IsAscending birth_of r.sessions
  pub queues : AllByRecursion (λ (s : Session). IsQueue s.birth s.queue) r.sessions
  pub retained : IsTable kept_place RETAINED_LIMIT r.retained
  pub topics : AllDiffer (map (λ (m : RetainedMessage). m.content.topic) r.retained)
  pub each : AllByRecursion FitsRetained r.retained
  pub shared : SharesContents r

true_behind : (b c : Bool) → c ≡ true → (b || c) ≡ true
true_behind true c is = refl
true_behind false c is = is

-- behind the front of a list that is no longer than the limit there is room
room_behind : {X : Type 0} (key : X → ℕ) (limit : ℕ) (pre : List X) (x : X) (rest : List X) → length (pre ++ x ∷ rest) ≤ limit → length pre < limit
room_behind key limit pre x rest within = omega (arith, within, length-append pre (x ∷ rest))

has_room : {X : Type 0} (key : X → ℕ) (limit k : ℕ) (pre : List X) → length pre < limit → HasRoomFor key limit k pre
has_room key limit k pre less = true_behind (has_row key k pre) _ (lt-ltb (length pre) limit less)

-- what agrees with all that records say agrees with what they have in part
agrees_in_part : (r part : Records) (m : StoredMessage) → SharesContents r → IsMessageOf r m → ((n : StoredMessage) → IsMessageOf part n → IsMessageOf r n) → AgreesWith part m
agrees_in_part r part m shared is within n says same = shared m is n (within n says) same

-- ---- queues

module _ (r : Records) (rows : AreRows r) where
  -- sessions before one have their copies, it has these, and those behind have none
  abbrev with_queue : List Session → Session → List CopyRow → List Session → Records
  with_queue pre s queue rest = record (emptied r) { sessions = pre ++ record s { queue = queue } ∷ map without_queue rest }

  no_copies : (rest : List Session) (t : Session) (x : CopyRow) → Has (map without_queue rest) t → Has t.queue x → ⊥
  no_copies [] t x has there = has
  no_copies (s ∷ rest) t x (inl here) there = subst (λ (u : Session). Has u.queue x) here there
  no_copies (s ∷ rest) t x (inr later) there = no_copies rest t x later there

  -- a copy in part of the queues is one of them all
  abbrev IsOwn : List Session → Session → CopyRow → Type 0
  IsOwn sessions t x = (u : Session) × Has sessions u × (u.birth ≡ t.birth) × Has u.queue x

  own : (pre : List Session) (s : Session) (queue : List CopyRow) (rest : List Session) (t : Session) (x : CopyRow) → ((y : CopyRow) → Has queue y → Has s.queue y)
      → Has (pre ++ record s { queue = queue } ∷ map without_queue rest) t → Has t.queue x → IsOwn (pre ++ s ∷ rest) t x
  own [] s queue rest t x sub (inl here) there = (s, inl refl, ap birth_of (sym here), sub x (subst (λ (u : Session). Has u.queue x) here there))
  own [] s queue rest t x sub (inr later) there = absurd (no_copies rest t x later there)
  own (p ∷ pre) s queue rest t x sub (inl here) there = (t, inl here, refl, there)
  own (p ∷ pre) s queue rest t x sub (inr later) there =
      let it = own pre s queue rest t x sub later there in
      (it.0, inr it.1, it.2, it.3)

  module _ (pre : List Session) (s : Session) (rest : List Session) (split : r.sessions ≡ pre ++ s ∷ rest) where
    abbrev at : List CopyRow → Records
    at queue = with_queue pre s queue rest

    up : IsAscending birth_of (pre ++ s ∷ rest)
    up = subst (IsAscending birth_of) split rows.sessions

    low : IsBelow birth_of s.birth pre
    low = below_middle birth_of pre s rest up

    queue_is : IsQueue s.birth s.queue
    queue_is = of_middle (λ (t : Session). IsQueue t.birth t.queue) pre s rest (subst (AllByRecursion (λ (t : Session). IsQueue t.birth t.queue)) split rows.queues)

    said : (queue : List CopyRow) → ((y : CopyRow) → Has queue y → Has s.queue y) → (n : StoredMessage) → IsMessageOf (at queue) n → IsMessageOf r n
    said queue sub n (inl it) =
        let o = own pre s queue rest it.2.0 it.1 sub it.2.1 it.2.3 in
        inl (it.0, it.1, (o.0, subst (λ (l : List Session). Has l o.0) (sym split) o.1, o.2 ∙ it.2.2, o.3), it.3)
    said queue sub n (inr it) = absurd it.1

    module _ (queue : List CopyRow) (x : CopyRow) (later : List CopyRow) (is : s.queue ≡ queue ++ x ∷ later) where
      x_low : IsBelow copy_place x.place queue
      x_low = below_middle copy_place queue x later (subst (IsAscending copy_place) is queue_is.table.ascending)

      less : length queue < QUEUE_LIMIT
      less = room_behind copy_place QUEUE_LIMIT queue x later (subst (λ (l : List CopyRow). length l ≤ QUEUE_LIMIT) is queue_is.table.within)

      copy_fits : Fits (PutCopy s.birth x) (at queue)
      copy_fits = (
        subst (λ (o : Option Session). HasSome o (λ session. HasRoomFor copy_place QUEUE_LIMIT x.place session.queue))
            (sym (found_middle birth_of pre (record s { queue = queue }) (map without_queue rest) low)) (has_room copy_place QUEUE_LIMIT x.place queue less),
        of_middle (FitsCopy s.birth) queue x later (subst (AllByRecursion (FitsCopy s.birth)) is queue_is.each),
      )

      copy_has : Has s.queue x
      copy_has = subst (λ (l : List CopyRow). Has l x) (sym is) (has_middle queue x later)

      copy_says : IsMessageOf r (copy_message x)
      copy_says = inl (s.birth, x, (s, subst (λ (l : List Session). Has l s) (sym split) (has_middle pre s rest), refl, copy_has), refl)

      copy_agrees : AgreesWith (at queue) (copy_message x)
      copy_agrees = agrees_in_part r (at queue) (copy_message x) rows.shared copy_says
          (said queue (λ y has. subst (λ (l : List CopyRow). Has l y) (sym is) (has_front queue (x ∷ later) y has)))

      copy_ends : changed (PutCopy s.birth x) (at queue) ≡ at (queue ++ x ∷ [])
      copy_ends = ap (λ (l : List Session). record (emptied r) { sessions = l })
          (changed_middle birth_of (with_copy x) pre (record s { queue = queue }) (map without_queue rest) low
          ∙ ap (λ (l : List CopyRow). pre ++ record s { queue = l } ∷ map without_queue rest) (put_row-last copy_place QUEUE_LIMIT x queue x_low less))

    -- the copies of a queue that are left, put one after the other, make it
    queue_made : (queue later : List CopyRow) → s.queue ≡ queue ++ later → AreMade (map (PutCopy s.birth) later) (at queue) (at s.queue)
    queue_made queue [] is = none_made (at queue) (at s.queue) (ap at (sym (append-nil queue) ∙ sym is))
    queue_made queue (x ∷ later) is =
        one_made (PutCopy s.birth x) (map (PutCopy s.birth) later) (at queue) (at (queue ++ x ∷ [])) (at s.queue) (copy_fits queue x later is) (copy_agrees queue x later is) (copy_ends queue x later is)
        (queue_made (queue ++ x ∷ []) later (is ∙ sym (append_assoc queue (x ∷ []) later)))

  -- ---- sessions

  abbrev with_sessions : List Session → Records
  with_sessions l = record r { sessions = l; retained = [] }

  -- the copies of the sessions that are left, put one after the other, make their queues
  sessions_made : (pre rest : List Session) → r.sessions ≡ pre ++ rest → AreMade (flat_map queue_puts rest) (with_sessions (pre ++ map without_queue rest)) (with_sessions r.sessions)
  sessions_made pre [] split = none_made (with_sessions (pre ++ [])) (with_sessions r.sessions) (ap with_sessions (sym split))
  sessions_made pre (s ∷ rest) split =
      let next = sessions_made (pre ++ s ∷ []) rest (split ∙ sym (append_assoc pre (s ∷ []) rest)) in
      then_made (queue_puts s) (flat_map queue_puts rest) (with_sessions (pre ++ map without_queue (s ∷ rest))) (with_sessions (pre ++ s ∷ map without_queue rest)) (with_sessions r.sessions)
      (queue_made pre s rest split [] s.queue refl)
      (subst (λ (l : List Session). AreMade (flat_map queue_puts rest) (with_sessions l) (with_sessions r.sessions)) (append_assoc pre (s ∷ []) (map without_queue rest)) next)

  -- ---- retained messages

  abbrev with_retained : List RetainedMessage → Records
  with_retained l = record r { retained = l }

  abbrev topic_of : RetainedMessage → List ℕ
  topic_of m = m.content.topic

  -- no earlier one has its topic
  topics_before : (pre : List RetainedMessage) (m : RetainedMessage) (rest : List RetainedMessage) → AllDiffer (map topic_of (pre ++ m ∷ rest)) → AllByRecursion (λ (other : RetainedMessage). topic_of other ≡ topic_of m → other.place ≡ m.place) pre
  topics_before [] m rest differ = tt
  topics_before (p ∷ pre) m rest differ = ((λ same. absurd (differs pre m rest differ.0 same)), topics_before pre m rest differ.1)
    where
      differs : (pre : List RetainedMessage) (m : RetainedMessage) (rest : List RetainedMessage) → AllByRecursion (λ (t : List ℕ). topic_of p ≢ t) (map topic_of (pre ++ m ∷ rest)) → topic_of p ≢ topic_of m
      differs [] m rest all = all.0
      differs (q ∷ pre) m rest all = differs pre m rest all.1

  module _ (pre : List RetainedMessage) (m : RetainedMessage) (rest : List RetainedMessage) (split : r.retained ≡ pre ++ m ∷ rest) where
    m_low : IsBelow kept_place m.place pre
    m_low = below_middle kept_place pre m rest (subst (IsAscending kept_place) split rows.retained.ascending)

    m_less : length pre < RETAINED_LIMIT
    m_less = room_behind kept_place RETAINED_LIMIT pre m rest (subst (λ (l : List RetainedMessage). length l ≤ RETAINED_LIMIT) split rows.retained.within)

    kept_fits : Fits (PutRetained m) (with_retained pre)
    kept_fits = (
      has_room kept_place RETAINED_LIMIT m.place pre m_less,
      All-from_recursion _ pre (topics_before pre m rest (subst (λ (l : List RetainedMessage). AllDiffer (map topic_of l)) split rows.topics)),
      of_middle FitsRetained pre m rest (subst (AllByRecursion FitsRetained) split rows.each),
    )

    kept_said : (n : StoredMessage) → IsMessageOf (with_retained pre) n → IsMessageOf r n
    kept_said n (inl it) = inl it
    kept_said n (inr it) = inr (it.0, subst (λ (l : List RetainedMessage). Has l it.0) (sym split) (has_front pre (m ∷ rest) it.0 it.1), it.2)

    kept_says : IsMessageOf r (retained_message m)
    kept_says = inr (m, subst (λ (l : List RetainedMessage). Has l m) (sym split) (has_middle pre m rest), refl)

    kept_agrees : AgreesWith (with_retained pre) (retained_message m)
    kept_agrees = agrees_in_part r (with_retained pre) (retained_message m) rows.shared kept_says kept_said

    kept_ends : changed (PutRetained m) (with_retained pre) ≡ with_retained (pre ++ m ∷ [])
    kept_ends = ap with_retained (put_row-last kept_place RETAINED_LIMIT m pre m_low m_less)

  retained_made : (pre rest : List RetainedMessage) → r.retained ≡ pre ++ rest → AreMade (map PutRetained rest) (with_retained pre) r
  retained_made pre [] split = none_made (with_retained pre) r (ap with_retained (sym (append-nil pre) ∙ sym split))
  retained_made pre (m ∷ rest) split =
      one_made (PutRetained m) (map PutRetained rest) (with_retained pre) (with_retained (pre ++ m ∷ [])) r (kept_fits pre m rest split) (kept_agrees pre m rest split) (kept_ends pre m rest split)
      (retained_made (pre ++ m ∷ []) rest (split ∙ sym (append_assoc pre (m ∷ []) rest)))

  -- all of them, put one after the other, make the records of what is left without
  pub refilled : AreMade (puts_of r) (emptied r) r
  refilled = then_made (flat_map queue_puts r.sessions) (map PutRetained r.retained) (emptied r) (with_sessions r.sessions) r (sessions_made [] r.sessions refl) (retained_made [] r.retained refl)
