-- What is stored of copies after a change, and that what is at hand goes along with it.
use Rattle.std.proofs.Common.{◌≡◌, ◌≢◌, ℕ, zero, suc, ◌≤◌, Bool, true, false, cond, ◌&&◌, List, [], ◌∷◌, ◌++◌, drop, length, nat_eq, nat_lt, refl, sym, ap, subst, ◌∙◌, arith, inl, inr}
use Rattle.std.specs.Prelude.{IsTrue, Option, Some, None, option_map, is_some}
use Rattle.std.proofs.lemmas.Bool.{cases_Bool, eqb-true}
use Rattle.std.proofs.lemmas.Cmp.{nat_eq_equiv}
use Rattle.mqtt_base.specs.declared.limits.TheConstants.{QUEUE_LIMIT, SESSION_LIMIT}
use Rattle.mqtt_base.specs.declared.session.Phase.{Phase}
use Rattle.mqtt_flow.specs.ring.AtHand.{ContentsAtHand, content_at, content_in, entered, has_room, left, nothing_waits, without}
use Rattle.mqtt_flow.proofs.ring_lemmas.LawLemmas.{entered_is_found, entered_others, left_is_gone, left_others}
use Rattle.mqtt_flow.proofs.ring_lemmas.RingLemmas.{content_in-past}
use Rattle.mqtt_records.specs.messages.Content.{CopyContent}
use Rattle.mqtt_records.specs.messages.Queue.{CopyRow}
use Rattle.mqtt_records.specs.lists.Order.{HasRoomFor, change_row, has_row, put_row, remove_row, row_at}
use Rattle.mqtt_records.proofs.lists_lemmas.OrderLemmas.{apart}
use Rattle.mqtt_records.proofs.lists_lemmas.LookUps.{row_at-insert_row, row_at-put_row, row_at-remove_row}
use Rattle.mqtt_records.specs.declared.state.change.Change.{Change}
use Rattle.mqtt_records.specs.declared.state.change.Change.TheVariants.{SetCounter, PutSession, SetSession, RemoveSession, PutWill, RemoveWill, PutSubscription, RemoveSubscription, PutInbound, RemoveInbound, PutCopy, SetCopy, RemoveCopy, PutRetained, RemoveRetained}
use Rattle.mqtt_records.specs.declared.state.change.Counter.{Counter}
use Rattle.mqtt_records.specs.declared.state.change.Counter.TheVariants.{Births, Publications, Subscribes, Autos, Moment}
use Rattle.mqtt_records.specs.declared.state.records.Records.{Records}
use Rattle.mqtt_records.specs.declared.state.session.Columns.{Columns}
use Rattle.mqtt_records.specs.declared.state.session.Session.{Session}
use Rattle.mqtt_records.specs.state.Records.{FitAll, Fits, HasSome, changed, changed_all, in_session, put_session, with_counter}
use Rattle.mqtt_records.specs.state.Session.{birth_of, copy_place, fresh, in_phase, with_columns, with_copy, with_phase, without_copy}
use Rattle.mqtt_records.specs.state.Telling.{copy_content, queue_at, queue_or_none}
use Rattle.mqtt_broker_looks.specs.at_hand.Following.{HasFollowed, HasFollowedAll, copy_put, followed, followed_all}
use Rattle.mqtt_broker_looks.specs.at_hand.Hand.{Hand, SayWhatIsStored, at_hand_of, stored_content}

-- ---- rows that change

module _ {X : Type 0} (key : X → ℕ) where
  -- after a row changes it is found changed by its key, and every other as before
  pub row_at-changed : (k j : ℕ) (f : X → X) (xs : List X) → ((x : X) → key (f x) ≡ key x) → row_at key k (change_row key j f xs) ≡ cond (nat_eq j k) (option_map f (row_at key k xs)) (row_at key k xs)
  row_at-changed k j f [] kept = elim (cases_Bool (nat_eq j k)) [ inl asked ↦ rw asked refl | inr other ↦ rw other refl ]
  row_at-changed k j f (x ∷ xs) kept = elim (cases_Bool (nat_eq (key x) j)) [
    | inl here ↦
        let is : key x ≡ j = eqb-true (key x) j here in
        let same : nat_eq (key x) k ≡ nat_eq j k = ap (λ n. nat_eq n k) is in
        let new : nat_eq (key (f x)) k ≡ nat_eq j k = ap (λ n. nat_eq n k) (kept x) ∙ same in
        elim (cases_Bool (nat_eq j k)) [
          | inl asked ↦ rw (here, new, same, asked) refl
          | inr other ↦ rw (here, new, same, other) refl
        ]
    | inr further ↦
        let rest = row_at-changed k j f xs kept in
        elim (cases_Bool (nat_eq (key x) k)) [
          | inl asked ↦
              let is : key x ≡ k = eqb-true (key x) k asked in
              let not_j : nat_eq j k ≡ false = apart j k (λ same. let both : nat_eq (key x) j ≡ true = ap (nat_eq (key x)) (same ∙ sym is) ∙ nat_eq_equiv.refl (key x) in let no : true ≡ false = sym both ∙ further in cc) in
              rw (further, asked, not_j) refl
          | inr other ↦ rw (further, other) rest
        ]
  ]

-- ---- queues

-- the queue of a session after one of a certain birth changed
queue-in_session : (birth owner : ℕ) (f : Session → Session) (r : Records) → ((s : Session) → birth_of (f s) ≡ birth_of s)
    → queue_at birth (in_session owner f r) ≡ queue_or_none (cond (nat_eq owner birth) (option_map f (row_at birth_of birth r.sessions)) (row_at birth_of birth r.sessions))
queue-in_session birth owner f r births = ap queue_or_none (row_at-changed birth_of birth owner f r.sessions births)

-- a change that leaves the queue
queue_kept : (birth owner : ℕ) (f : Session → Session) (r : Records) → ((s : Session) → birth_of (f s) ≡ birth_of s) → ((s : Session) → (f s).queue ≡ s.queue)
    → queue_at birth (in_session owner f r) ≡ queue_at birth r
queue_kept birth owner f r births same = queue-in_session birth owner f r births ∙ either (nat_eq owner birth) (row_at birth_of birth r.sessions)
  where
    either : (b : Bool) (o : Option Session) → queue_or_none (cond b (option_map f o) o) ≡ queue_or_none o
    either true None = refl
    either true (Some s) = same s
    either false o = refl

-- a change of another session
queue_elsewhere : (birth owner : ℕ) (f : Session → Session) (r : Records) → ((s : Session) → birth_of (f s) ≡ birth_of s) → nat_eq owner birth ≡ false
    → queue_at birth (in_session owner f r) ≡ queue_at birth r
queue_elsewhere birth owner f r births other =
    queue-in_session birth owner f r births
    ∙ ap (λ (b : Bool). queue_or_none (cond b (option_map f (row_at birth_of birth r.sessions)) (row_at birth_of birth r.sessions))) other

-- a change of the queue of this session, if it stands or nothing comes of no queue
queue_here : (birth owner : ℕ) (f : Session → Session) (g : List CopyRow → List CopyRow) (r : Records) → ((s : Session) → birth_of (f s) ≡ birth_of s) → ((s : Session) → (f s).queue ≡ g s.queue)
    → nat_eq owner birth ≡ true → (row_at birth_of birth r.sessions ≡ None → g [] ≡ []) → queue_at birth (in_session owner f r) ≡ g (queue_at birth r)
queue_here birth owner f g r births same here none =
    queue-in_session birth owner f r births
    ∙ ap (λ (b : Bool). queue_or_none (cond b (option_map f (row_at birth_of birth r.sessions)) (row_at birth_of birth r.sessions))) here
    ∙ either (row_at birth_of birth r.sessions) none
  where
    either : (o : Option Session) → (o ≡ None → g [] ≡ []) → queue_or_none (option_map f o) ≡ g (queue_or_none o)
    either None none = sym (none refl)
    either (Some s) none = same s

-- ---- what is at hand of one session

-- it says what is stored
abbrev pub Says : ℕ → ContentsAtHand CopyContent → Records → Type 0
Says birth a r = (place : ℕ) (content : CopyContent) → content_at place a ≡ Some content → stored_content birth place r ≡ Some content

-- nothing at hand says nothing
pub nothing_says : (birth : ℕ) (r : Records) → Says birth nothing_waits r
nothing_says birth r place content is = let no : None ≡ Some content = is in absurd cc

says_same : (birth : ℕ) (a : ContentsAtHand CopyContent) (r q : Records) → queue_at birth q ≡ queue_at birth r → Says birth a r → Says birth a q
says_same birth a r q same says place content is = ap (λ (queue : List CopyRow). option_map copy_content (row_at copy_place place queue)) same ∙ says place content is

-- ---- a copy that is put

-- what is found at the place of a copy that entered anew is what it says
entered_own : (place : ℕ) (x c : CopyContent) (a : ContentsAtHand CopyContent) → content_at place a ≡ None → content_at place (entered place x a) ≡ Some c → x ≡ c
entered_own place x c a none is = elim (cases_Bool (a.reaches_end && has_room place a.entries)) [
  | inl put ↦
      let there : content_in place (a.entries ++ (place, x) ∷ []) ≡ Some c = rw put at is in
      let own : content_in place ((place, x) ∷ []) ≡ Some x = rw (nat_eq_equiv.refl place) refl in
      let both : Some x ≡ Some c = sym (content_in-past place a.entries ((place, x) ∷ []) none ∙ own) ∙ there in
      cc
  | inr dropped ↦
      let there : content_in place a.entries ≡ Some c = rw dropped at is in
      let no : None ≡ Some c = sym none ∙ there in
      absurd cc
]

-- with it what is at hand says what is stored, where there was room for it in the queue
put_says : (place : ℕ) (c : CopyContent) (row : CopyRow) (queue : List CopyRow) (a : ContentsAtHand CopyContent) → HasRoomFor copy_place QUEUE_LIMIT row.place queue
    → (content_at place a ≡ Some c → option_map copy_content (row_at copy_place place queue) ≡ Some c)
    → content_at place (copy_put row a) ≡ Some c → option_map copy_content (row_at copy_place place (put_row copy_place QUEUE_LIMIT row queue)) ≡ Some c
put_says place c row queue a room says is =
    ap (option_map copy_content) (row_at-put_row copy_place QUEUE_LIMIT place row queue room) ∙
    elim (cases_Bool (nat_eq row.place place)) [
      | inl here ↦
          let at : row.place ≡ place = eqb-true row.place place here in
          let own : content_at row.place (copy_put row a) ≡ Some c = subst (λ (n : ℕ). content_at n (copy_put row a) ≡ Some c) (sym at) is in
          rw here (ap Some (entered_own row.place (copy_content row) c (left row.place a) (left_is_gone a row.place) own))
      | inr other ↦
          let differ : place ≢ row.place = λ same. let both : nat_eq row.place place ≡ true = ap (nat_eq row.place) same ∙ nat_eq_equiv.refl row.place in let no : true ≡ false = sym both ∙ other in cc in
          let before : content_at place a ≡ Some c =
          sym (left_others a row.place place differ) ∙ (sym (entered_others (left row.place a) row.place place (copy_content row) differ) ∙ is) in
          rw other (says before)
    ]

-- a copy that left isn't at hand, and the others are what is stored
removed_says : (place gone : ℕ) (c : CopyContent) (queue : List CopyRow) (a : ContentsAtHand CopyContent)
    → (content_at place a ≡ Some c → option_map copy_content (row_at copy_place place queue) ≡ Some c)
    → content_at place (left gone a) ≡ Some c → option_map copy_content (row_at copy_place place (remove_row copy_place gone queue)) ≡ Some c
removed_says place gone c queue a says is =
    ap (option_map copy_content) (row_at-remove_row copy_place place gone queue) ∙
    elim (cases_Bool (nat_eq gone place)) [
      | inl here ↦
          let at : gone ≡ place = eqb-true gone place here in
          let no : None ≡ Some c = sym (left_is_gone a gone) ∙ subst (λ (n : ℕ). content_at n (left gone a) ≡ Some c) (sym at) is in
          absurd cc
      | inr other ↦
          let differ : place ≢ gone = λ same. let both : nat_eq gone place ≡ true = ap (nat_eq gone) same ∙ nat_eq_equiv.refl gone in let no : true ≡ false = sym both ∙ other in cc in
          rw other (says (sym (left_others a gone place differ) ∙ is))
    ]

-- a phase is no part of what a copy says
phase_says : (place at : ℕ) (phase : Phase) (queue : List CopyRow)
    → option_map copy_content (row_at copy_place place (change_row copy_place at (in_phase phase) queue)) ≡ option_map copy_content (row_at copy_place place queue)
phase_says place at phase queue =
    ap (option_map copy_content) (row_at-changed copy_place place at (in_phase phase) queue (λ x. refl)) ∙ either (nat_eq at place) (row_at copy_place place queue)
  where
    either : (b : Bool) (o : Option CopyRow) → option_map copy_content (cond b (option_map (in_phase phase) o) o) ≡ option_map copy_content o
    either true None = refl
    either true (Some x) = refl
    either false o = refl

-- ---- sessions

-- a number that is set leaves the sessions
with_counter-sessions : (counter : Counter) (value : ℕ) (r : Records) → (with_counter counter value r).sessions ≡ r.sessions
with_counter-sessions Births value r = refl
with_counter-sessions Publications value r = refl
with_counter-sessions Subscribes value r = refl
with_counter-sessions Autos value r = refl
with_counter-sessions Moment value r = refl

none_of : (o : Option Session) → is_some o ≡ false → o ≡ None
none_of None is = refl
none_of (Some s) is = absurd cc

-- a session's row leaves the copies of each session that had some
session_says : (birth place : ℕ) (c : CopyContent) (row : Columns) (sessions : List Session)
    → option_map copy_content (row_at copy_place place (queue_or_none (row_at birth_of birth sessions))) ≡ Some c
    → option_map copy_content (row_at copy_place place (queue_or_none (row_at birth_of birth (put_session row sessions)))) ≡ Some c
session_says birth place c row sessions is = elim (cases_Bool (has_row birth_of row.birth sessions)) [
  | inl stands ↦
      let kept : queue_or_none (row_at birth_of birth (change_row birth_of row.birth (with_columns row) sessions)) ≡ queue_or_none (row_at birth_of birth sessions) =
      ap queue_or_none (row_at-changed birth_of birth row.birth (with_columns row) sessions (λ s. refl)) ∙ either (nat_eq row.birth birth) (row_at birth_of birth sessions) in
      rw stands (ap (λ (queue : List CopyRow). option_map copy_content (row_at copy_place place queue)) kept ∙ is)
  | inr new ↦ elim (cases_Bool (nat_lt (length sessions) SESSION_LIMIT)) [
    | inl room ↦ rw (new, room) (
        ap (λ (o : Option Session). option_map copy_content (row_at copy_place place (queue_or_none o))) (row_at-insert_row birth_of birth (fresh row) sessions) ∙
        elim (cases_Bool (nat_eq row.birth birth)) [
          | inl here ↦
              let at : row.birth ≡ birth = eqb-true row.birth birth here in
              let none : row_at birth_of birth sessions ≡ None = subst (λ (n : ℕ). row_at birth_of n sessions ≡ None) at (none_of (row_at birth_of row.birth sessions) new) in
              let no : None ≡ Some c = sym (ap (λ (o : Option Session). option_map copy_content (row_at copy_place place (queue_or_none o))) none) ∙ is in
              absurd cc
          | inr other ↦ rw other is
        ])
    | inr full ↦ rw (new, full) is
  ]
]
  where
    either : (b : Bool) (o : Option Session) → queue_or_none (cond b (option_map (with_columns row) o) o) ≡ queue_or_none o
    either true None = refl
    either true (Some s) = refl
    either false o = refl

-- the other sessions stay where one is removed
removed_session : (birth owner : ℕ) (sessions : List Session) → nat_eq owner birth ≡ false → row_at birth_of birth (remove_row birth_of owner sessions) ≡ row_at birth_of birth sessions
removed_session birth owner sessions other =
    row_at-remove_row birth_of birth owner sessions ∙ ap (λ (b : Bool). cond b None (row_at birth_of birth sessions)) other

-- ---- what is at hand goes along

-- a session that stands has room for the copy
room_in : (birth owner : ℕ) (row : CopyRow) (r : Records) → nat_eq owner birth ≡ true
    → HasSome (row_at birth_of owner r.sessions) (λ (s : Session). HasRoomFor copy_place QUEUE_LIMIT row.place s.queue)
    → HasSome (row_at birth_of birth r.sessions) (λ (s : Session). HasRoomFor copy_place QUEUE_LIMIT row.place s.queue)
room_in birth owner row r here fits = subst (λ (n : ℕ). HasSome (row_at birth_of n r.sessions) (λ (s : Session). HasRoomFor copy_place QUEUE_LIMIT row.place s.queue)) (eqb-true owner birth here) fits

has_queue : (row : CopyRow) (o : Option Session) → HasSome o (λ (s : Session). HasRoomFor copy_place QUEUE_LIMIT row.place s.queue)
    → HasRoomFor copy_place QUEUE_LIMIT row.place (queue_or_none o) × (o ≡ None → ⊥)
has_queue row None fits = absurd fits
has_queue row (Some s) fits = (fits, λ no. absurd cc)

followed_says : (birth : ℕ) (change : Change) (r : Records) (a : ContentsAtHand CopyContent) → Fits change r → Says birth a r → Says birth (followed birth change a) (changed change r)
followed_says birth (SetCounter counter value) r a fits says =
    says_same birth a r (with_counter counter value r) (ap (λ (ss : List Session). queue_or_none (row_at birth_of birth ss)) (with_counter-sessions counter value r)) says
followed_says birth (PutSession row) r a fits says = λ place content is. session_says birth place content row r.sessions (says place content is)
followed_says birth (SetSession row) r a fits says = says_same birth a r (changed (SetSession row) r) (queue_kept birth row.birth (with_columns row) r (λ s. refl) (λ s. refl)) says
followed_says birth (RemoveSession owner) r a fits says = elim (cases_Bool (nat_eq owner birth)) [
  | inl here ↦ rw here (nothing_says birth (changed (RemoveSession owner) r))
  | inr other ↦ rw other (says_same birth a r (changed (RemoveSession owner) r) (ap queue_or_none (removed_session birth owner r.sessions other)) says)
]
followed_says birth (PutWill owner will) r a fits says = says_same birth a r (changed (PutWill owner will) r) (queue_kept birth owner _ r (λ s. refl) (λ s. refl)) says
followed_says birth (RemoveWill owner) r a fits says = says_same birth a r (changed (RemoveWill owner) r) (queue_kept birth owner _ r (λ s. refl) (λ s. refl)) says
followed_says birth (PutSubscription owner subscription) r a fits says = says_same birth a r (changed (PutSubscription owner subscription) r) (queue_kept birth owner _ r (λ s. refl) (λ s. refl)) says
followed_says birth (RemoveSubscription owner text) r a fits says = says_same birth a r (changed (RemoveSubscription owner text) r) (queue_kept birth owner _ r (λ s. refl) (λ s. refl)) says
followed_says birth (PutInbound owner identifier) r a fits says = says_same birth a r (changed (PutInbound owner identifier) r) (queue_kept birth owner _ r (λ s. refl) (λ s. refl)) says
followed_says birth (RemoveInbound owner identifier) r a fits says = says_same birth a r (changed (RemoveInbound owner identifier) r) (queue_kept birth owner _ r (λ s. refl) (λ s. refl)) says
followed_says birth (PutCopy owner row) r a fits says = elim (cases_Bool (nat_eq owner birth)) [
  | inl here ↦
      let stands = has_queue row (row_at birth_of birth r.sessions) (room_in birth owner row r here fits.0) in
      let queue = queue_here birth owner (with_copy row) (put_row copy_place QUEUE_LIMIT row) r (λ s. refl) (λ s. refl) here (λ none. absurd (stands.1 none)) in
      rw here (λ place content is.
      ap (λ (rows : List CopyRow). option_map copy_content (row_at copy_place place rows)) queue
      ∙ put_says place content row (queue_at birth r) a stands.0 (says place content) is)
  | inr other ↦ rw other (says_same birth a r (changed (PutCopy owner row) r) (queue_elsewhere birth owner (with_copy row) r (λ s. refl) other) says)
]
followed_says birth (SetCopy owner at phase) r a fits says = elim (cases_Bool (nat_eq owner birth)) [
  | inl here ↦
      let queue = queue_here birth owner (with_phase at phase) (change_row copy_place at (in_phase phase)) r (λ s. refl) (λ s. refl) here (λ none. refl) in
      λ place content is.
      ap (λ (rows : List CopyRow). option_map copy_content (row_at copy_place place rows)) queue
      ∙ (phase_says place at phase (queue_at birth r) ∙ says place content is)
  | inr other ↦ says_same birth a r (changed (SetCopy owner at phase) r) (queue_elsewhere birth owner (with_phase at phase) r (λ s. refl) other) says
]
followed_says birth (RemoveCopy owner gone) r a fits says = elim (cases_Bool (nat_eq owner birth)) [
  | inl here ↦
      let queue = queue_here birth owner (without_copy gone) (remove_row copy_place gone) r (λ s. refl) (λ s. refl) here (λ none. refl) in
      rw here (λ place content is.
      ap (λ (rows : List CopyRow). option_map copy_content (row_at copy_place place rows)) queue
      ∙ removed_says place gone content (queue_at birth r) a (says place content) is)
  | inr other ↦ rw other (says_same birth a r (changed (RemoveCopy owner gone) r) (queue_elsewhere birth owner (without_copy gone) r (λ s. refl) other) says)
]
followed_says birth (PutRetained kept) r a fits says = says
followed_says birth (RemoveRetained place) r a fits says = says

-- also where something was lost
has_followed_says : (birth : ℕ) (change : Change) (r : Records) (a b : ContentsAtHand CopyContent) → Fits change r → Says birth a r → HasFollowed birth change a b → Says birth b (changed change r)
has_followed_says birth change r a b fits says along = elim along [
  | inl is ↦ subst (λ (x : ContentsAtHand CopyContent). Says birth x (changed change r)) (sym is) (followed_says birth change r a fits says)
  | inr lost ↦ subst (λ (x : ContentsAtHand CopyContent). Says birth x (changed change r)) (sym lost.1) (nothing_says birth (changed change r))
]

-- what is at hand of a session says what is stored after changes that fit
pub all_followed_says : (birth : ℕ) (changes : List Change) (r : Records) (a b : ContentsAtHand CopyContent) → FitAll changes r → Says birth a r → HasFollowedAll birth changes a b → Says birth b (changed_all changes r)
all_followed_says birth [] r a b fits says along = subst (λ (x : ContentsAtHand CopyContent). Says birth x r) (sym along) says
all_followed_says birth (change ∷ changes) r a b fits says along =
    all_followed_says birth changes (changed change r) along.0 b fits.1 (has_followed_says birth change r a along.0 fits.0 says along.1) along.2

-- and so does all that is at hand
pub hand_says : (hand after : Hand) (changes : List Change) (r : Records) → SayWhatIsStored hand r → FitAll changes r
    → ((birth : ℕ) → HasFollowedAll birth changes (at_hand_of birth hand) (at_hand_of birth after)) → SayWhatIsStored after (changed_all changes r)
hand_says hand after changes r says fits along birth = all_followed_says birth changes r (at_hand_of birth hand) (at_hand_of birth after) fits (says birth) (along birth)

-- ---- one change after the other

-- what becomes of the rest of the changes becomes of all
abbrev pub GoesAlong : ℕ → List Change → List Change → Bool → ContentsAtHand CopyContent → ContentsAtHand CopyContent → Type 0
GoesAlong birth all rest whole start a =
    (IsTrue whole → followed_all birth rest a ≡ followed_all birth all start)
    × ((b : ContentsAtHand CopyContent) → HasFollowedAll birth rest a b → HasFollowedAll birth all start b)

-- one more
pub goes_on : (birth : ℕ) (all rest later : List Change) (change : Change) (before now : Bool) (start a b : ContentsAtHand CopyContent) → rest ≡ change ∷ later
    → (IsTrue now → IsTrue before × (b ≡ followed birth change a)) → HasFollowed birth change a b → GoesAlong birth all rest before start a → GoesAlong birth all later now start b
goes_on birth all rest later change before now start a b front truth each along = (
  λ t.
      let parts = truth t in
      ap (followed_all birth later) parts.1 ∙ (sym (ap (λ (l : List Change). followed_all birth l a) front) ∙ along.0 parts.0),
  λ c more. along.1 c (subst (λ (l : List Change). HasFollowedAll birth l a c) (sym front) (b, each, more)),
)

-- none is left behind the last
pub drop_past : (changes : List Change) (i : ℕ) → length changes ≤ i → drop i changes ≡ []
drop_past [] zero past = refl
drop_past [] (suc i) past = refl
drop_past (change ∷ changes) zero past = absurd (omega (arith, past))
drop_past (change ∷ changes) (suc i) past = drop_past changes i (omega (arith, past))

-- all of them
pub gone_along : (birth : ℕ) (all rest : List Change) (whole : Bool) (start a : ContentsAtHand CopyContent) → rest ≡ [] → GoesAlong birth all rest whole start a
    → (IsTrue whole → a ≡ followed_all birth all start) × HasFollowedAll birth all start a
gone_along birth all rest whole start a none along = (
  λ t. sym (ap (λ (l : List Change). followed_all birth l a) none) ∙ along.0 t,
  along.1 a (subst (λ (l : List Change). HasFollowedAll birth l a a) (sym none) refl),
)

-- a copy that is put at the end of a queue that is at hand to its end, where there is room
pub newest_found : (birth : ℕ) (row : CopyRow) (a : ContentsAtHand CopyContent) → a.reaches_end ≡ true → has_room row.place (without row.place a.entries) ≡ true
    → content_at row.place (followed birth (PutCopy birth row) a) ≡ Some (copy_content row)
newest_found birth row a ends room = rw (nat_eq_equiv.refl birth) (entered_is_found (left row.place a) row.place (copy_content row) ends room)
