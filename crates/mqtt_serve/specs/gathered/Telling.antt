-- What a store that gathers changes tells of waiting copies: what they put, and else what its store tells (MQTT 5.0, 3.3, 4.1).
use Rattle.std.proofs.Common.{◌≡◌, ℕ, Bool, true, false, cond, ◌&&◌, List, [], ◌∷◌, length, nat_eq, nat_lt, refl, sym, ap, subst, ◌∙◌, inl, inr}
use Rattle.std.specs.Prelude.{Option, Some, None, option_map}
use Rattle.std.proofs.lemmas.Bool.{cases_Bool, eqb-true}
use Rattle.std.proofs.lemmas.Cmp.{nat_eq_equiv}
use Rattle.mqtt_base.specs.declared.limits.TheConstants.{QUEUE_LIMIT, SESSION_LIMIT}
use Rattle.mqtt_base.specs.declared.session.Phase.{Phase}
use Rattle.mqtt_records.specs.messages.Filling.{Fillings, filling_of}
use Rattle.mqtt_records.specs.messages.Queue.{CopyRow}
use Rattle.mqtt_records.specs.lists.Order.{HasRoomFor, change_row, has_row, insert_row, put_row, remove_row, row_at}
use Rattle.mqtt_records.proofs.lists_lemmas.OrderLemmas.{apart}
use Rattle.mqtt_records.proofs.lists_lemmas.LookUps.{row_at-insert_row, row_at-put_row, row_at-remove_row}
use Rattle.mqtt_records.specs.declared.state.change.Change.{Change}
use Rattle.mqtt_records.specs.declared.state.change.Change.TheVariants.{SetCounter, PutSession, SetSession, RemoveSession, PutWill, RemoveWill, PutSubscription, RemoveSubscription, PutInbound, RemoveInbound, PutCopy, SetCopy, RemoveCopy, PutRetained, RemoveRetained}
use Rattle.mqtt_records.specs.declared.state.change.Counter.{Counter}
use Rattle.mqtt_records.specs.declared.state.change.Counter.TheVariants.{Births, Publications, Subscribes, Autos, Moment}
use Rattle.mqtt_records.specs.declared.state.records.Records.{Records}
use Rattle.mqtt_records.specs.declared.state.session.Columns.{Columns}
use Rattle.mqtt_records.specs.declared.state.session.Session.{Session}
use Rattle.mqtt_records.specs.state.Records.{FitAll, Fits, HasSome, changed, changed_all, in_session, put_session, with_counter}
use Rattle.mqtt_records.specs.state.Session.{birth_of, copy_place, fresh, in_phase, with_columns, with_copy, with_phase, without_copy}
use Rattle.mqtt_records.specs.state.Telling.{AreTold, queue_at, queue_or_none}
use Rattle.mqtt_serve.specs.declared.gathered.counts.Counts.{Counts}
use Rattle.mqtt_serve.specs.gathered.Gathering.{Holding}

-- ---- what is told

-- a copy that is put says what it says, and each other what it said
abbrev pub told_after : Change → Fillings → Fillings
told_after (PutCopy owner row) f = λ birth place. cond (nat_eq owner birth && nat_eq row.place place) (filling_of row.copy) (f birth place)
told_after change f = f

-- one after the other
abbrev pub told_after_all : List Change → Fillings → Fillings
told_after_all [] f = f
told_after_all (change ∷ changes) f = told_after_all changes (told_after change f)

-- ---- rows that change

module _ {X : Type 0} (key : X → ℕ) where
  -- after a row changes it is found changed by its key, and every other as before
  pub row_at-changed : (k j : ℕ) (f : X → X) (xs : List X) → ((x : X) → key (f x) ≡ key x) → row_at key k (change_row key j f xs) ≡ cond (nat_eq j k) (option_map f (row_at key k xs)) (row_at key k xs)
  row_at-changed k j f [] kept = elim (cases_Bool (nat_eq j k)) [ inl asked ↦ rw asked refl | inr other ↦ rw other refl ]
  row_at-changed k j f (x ∷ xs) kept = elim (cases_Bool (nat_eq (key x) j)) [
    | inl here ↦
        let is : key x ≡ j = eqb-true (key x) j here in
        let same : nat_eq (key x) k ≡ nat_eq j k = ap (λ n. nat_eq n k) is in
        let new : nat_eq (key (f x)) k ≡ nat_eq j k = ap (λ n. nat_eq n k) (kept x) ∙ same in
        elim (cases_Bool (nat_eq j k)) [
          | inl asked ↦ rw (here, new, same, asked) refl
          | inr other ↦ rw (here, new, same, other) refl
        ]
    | inr further ↦
        let rest = row_at-changed k j f xs kept in
        elim (cases_Bool (nat_eq (key x) k)) [
          | inl asked ↦
              let is : key x ≡ k = eqb-true (key x) k asked in
              let not_j : nat_eq j k ≡ false = apart j k (λ same. let both : nat_eq (key x) j ≡ true = ap (nat_eq (key x)) (same ∙ sym is) ∙ nat_eq_equiv.refl (key x) in let no : true ≡ false = sym both ∙ further in cc) in
              rw (further, asked, not_j) refl
          | inr other ↦ rw (further, other) rest
        ]
  ]

-- ---- queues

queue-in_session : (birth owner : ℕ) (f : Session → Session) (r : Records) → ((s : Session) → birth_of (f s) ≡ birth_of s)
    → queue_at birth (in_session owner f r) ≡ queue_or_none (cond (nat_eq owner birth) (option_map f (row_at birth_of birth r.sessions)) (row_at birth_of birth r.sessions))
queue-in_session birth owner f r births = ap queue_or_none (row_at-changed birth_of birth owner f r.sessions births)

queue_kept : (birth owner : ℕ) (f : Session → Session) (r : Records) → ((s : Session) → birth_of (f s) ≡ birth_of s) → ((s : Session) → (f s).queue ≡ s.queue)
    → queue_at birth (in_session owner f r) ≡ queue_at birth r
queue_kept birth owner f r births same = queue-in_session birth owner f r births ∙ either (nat_eq owner birth) (row_at birth_of birth r.sessions)
  where
    either : (b : Bool) (o : Option Session) → queue_or_none (cond b (option_map f o) o) ≡ queue_or_none o
    either true None = refl
    either true (Some s) = same s
    either false o = refl

queue_elsewhere : (birth owner : ℕ) (f : Session → Session) (r : Records) → ((s : Session) → birth_of (f s) ≡ birth_of s) → nat_eq owner birth ≡ false
    → queue_at birth (in_session owner f r) ≡ queue_at birth r
queue_elsewhere birth owner f r births other =
    queue-in_session birth owner f r births
    ∙ ap (λ (b : Bool). queue_or_none (cond b (option_map f (row_at birth_of birth r.sessions)) (row_at birth_of birth r.sessions))) other

queue_here : (birth owner : ℕ) (f : Session → Session) (g : List CopyRow → List CopyRow) (r : Records) → ((s : Session) → birth_of (f s) ≡ birth_of s) → ((s : Session) → (f s).queue ≡ g s.queue)
    → nat_eq owner birth ≡ true → (row_at birth_of birth r.sessions ≡ None → g [] ≡ []) → queue_at birth (in_session owner f r) ≡ g (queue_at birth r)
queue_here birth owner f g r births same here none =
    queue-in_session birth owner f r births
    ∙ ap (λ (b : Bool). queue_or_none (cond b (option_map f (row_at birth_of birth r.sessions)) (row_at birth_of birth r.sessions))) here
    ∙ either (row_at birth_of birth r.sessions) none
  where
    either : (o : Option Session) → (o ≡ None → g [] ≡ []) → queue_or_none (option_map f o) ≡ g (queue_or_none o)
    either None none = sym (none refl)
    either (Some s) none = same s

with_counter-sessions : (counter : Counter) (value : ℕ) (r : Records) → (with_counter counter value r).sessions ≡ r.sessions
with_counter-sessions Births value r = refl
with_counter-sessions Publications value r = refl
with_counter-sessions Subscribes value r = refl
with_counter-sessions Autos value r = refl
with_counter-sessions Moment value r = refl

-- ---- what is told goes along

-- it is told of each copy in a queue
abbrev Told : Fillings → ℕ → List CopyRow → Type 0
Told f birth queue = (place : ℕ) (e : CopyRow) → row_at copy_place place queue ≡ Some e → f birth place ≡ filling_of e.copy

told_in : (f : Fillings) (birth : ℕ) (r : Records) → AreTold f r → Told f birth (queue_at birth r)
told_in f birth r told place e at = told birth place e at

told_same : (f : Fillings) (birth : ℕ) (one other : List CopyRow) → other ≡ one → Told f birth one → Told f birth other
told_same f birth one other same told = subst (Told f birth) (sym same) told

nothing_told : (f : Fillings) (birth : ℕ) (queue : List CopyRow) → queue ≡ [] → Told f birth queue
nothing_told f birth queue none place e at = let no : None ≡ Some e = sym (ap (row_at copy_place place) none) ∙ at in absurd cc

-- a phase is no part of what is told
told_phase : (f : Fillings) (birth at : ℕ) (phase : Phase) (queue : List CopyRow) → Told f birth queue → Told f birth (change_row copy_place at (in_phase phase) queue)
told_phase f birth at phase queue told place e found =
    by (nat_eq at place) (row_at copy_place place queue) (λ x is. told place x is) (sym (row_at-changed copy_place place at (in_phase phase) queue (λ x. refl)) ∙ found)
  where
    by : (b : Bool) (o : Option CopyRow) → ((x : CopyRow) → o ≡ Some x → f birth place ≡ filling_of x.copy) → cond b (option_map (in_phase phase) o) o ≡ Some e → f birth place ≡ filling_of e.copy
    by true None says is = absurd cc
    by true (Some x) says is = let same : in_phase phase x ≡ e = cc in says x refl ∙ ap (λ (y : CopyRow). filling_of y.copy) same
    by false o says is = says e is

-- a copy that is removed isn't told of any more
told_removed : (f : Fillings) (birth gone : ℕ) (queue : List CopyRow) → Told f birth queue → Told f birth (remove_row copy_place gone queue)
told_removed f birth gone queue told place e found =
    by (nat_eq gone place) (sym (row_at-remove_row copy_place place gone queue) ∙ found)
  where
    by : (b : Bool) → cond b None (row_at copy_place place queue) ≡ Some e → f birth place ≡ filling_of e.copy
    by true is = absurd cc
    by false is = told place e is

-- a copy that is put is told of
told_put : (f : Fillings) (birth owner : ℕ) (row : CopyRow) (queue : List CopyRow) → nat_eq owner birth ≡ true → HasRoomFor copy_place QUEUE_LIMIT row.place queue
    → Told f birth queue → Told (told_after (PutCopy owner row) f) birth (put_row copy_place QUEUE_LIMIT row queue)
told_put f birth owner row queue here room told place e found =
    rw here (by (nat_eq row.place place) (sym (row_at-put_row copy_place QUEUE_LIMIT place row queue room) ∙ found))
  where
    by : (b : Bool) → cond b (Some row) (row_at copy_place place queue) ≡ Some e → cond b (filling_of row.copy) (f birth place) ≡ filling_of e.copy
    by true is = let same : row ≡ e = cc in ap (λ (y : CopyRow). filling_of y.copy) same
    by false is = told place e is

told_elsewhere : (f : Fillings) (birth owner : ℕ) (row : CopyRow) (queue : List CopyRow) → nat_eq owner birth ≡ false → Told f birth queue → Told (told_after (PutCopy owner row) f) birth queue
told_elsewhere f birth owner row queue other told place e found = rw other (told place e found)

has_queue : (row : CopyRow) (o : Option Session) → HasSome o (λ (s : Session). HasRoomFor copy_place QUEUE_LIMIT row.place s.queue)
    → HasRoomFor copy_place QUEUE_LIMIT row.place (queue_or_none o) × (o ≡ None → ⊥)
has_queue row None fits = absurd fits
has_queue row (Some s) fits = (fits, λ no. absurd cc)

-- a session's own row leaves the copies of each session that had some
told_session : (f : Fillings) (birth : ℕ) (row : Columns) (sessions : List Session) → Told f birth (queue_or_none (row_at birth_of birth sessions)) → Told f birth (queue_or_none (row_at birth_of birth (put_session row sessions)))
told_session f birth row sessions told = elim (cases_Bool (has_row birth_of row.birth sessions)) [
  | inl stands ↦
      let kept : queue_or_none (row_at birth_of birth (change_row birth_of row.birth (with_columns row) sessions)) ≡ queue_or_none (row_at birth_of birth sessions) =
      ap queue_or_none (row_at-changed birth_of birth row.birth (with_columns row) sessions (λ s. refl)) ∙ either (nat_eq row.birth birth) (row_at birth_of birth sessions) in
      rw stands (told_same f birth (queue_or_none (row_at birth_of birth sessions)) _ kept told)
  | inr new ↦ elim (cases_Bool (nat_lt (length sessions) SESSION_LIMIT)) [
    | inl room ↦
        let found : row_at birth_of birth (insert_row birth_of (fresh row) sessions) ≡ cond (nat_eq row.birth birth) (Some (fresh row)) (row_at birth_of birth sessions) = row_at-insert_row birth_of birth (fresh row) sessions in
        rw (new, room) (elim (cases_Bool (nat_eq row.birth birth)) [
          | inl here ↦ nothing_told f birth (queue_or_none (row_at birth_of birth (insert_row birth_of (fresh row) sessions)))
              (ap queue_or_none (found ∙ ap (λ (b : Bool). cond b (Some (fresh row)) (row_at birth_of birth sessions)) here))
          | inr other ↦ told_same f birth (queue_or_none (row_at birth_of birth sessions)) _
              (ap queue_or_none (found ∙ ap (λ (b : Bool). cond b (Some (fresh row)) (row_at birth_of birth sessions)) other)) told
        ])
    | inr full ↦ rw (new, full) told
  ]
]
  where
    either : (b : Bool) (o : Option Session) → queue_or_none (cond b (option_map (with_columns row) o) o) ≡ queue_or_none o
    either true None = refl
    either true (Some s) = refl
    either false o = refl

told_without_session : (f : Fillings) (birth owner : ℕ) (sessions : List Session) → Told f birth (queue_or_none (row_at birth_of birth sessions)) → Told f birth (queue_or_none (row_at birth_of birth (remove_row birth_of owner sessions)))
told_without_session f birth owner sessions told =
    told_same f birth (queue_or_none (cond (nat_eq owner birth) None (row_at birth_of birth sessions))) _ (ap queue_or_none (row_at-remove_row birth_of birth owner sessions)) (by (nat_eq owner birth))
  where
    by : (b : Bool) → Told f birth (queue_or_none (cond b None (row_at birth_of birth sessions)))
    by true = nothing_told f birth [] refl
    by false = told

-- each change
told_changed : (change : Change) (r : Records) (f : Fillings) → Fits change r → AreTold f r → (birth : ℕ) → Told (told_after change f) birth (queue_at birth (changed change r))
told_changed (SetCounter counter value) r f fits told birth =
    told_same f birth (queue_at birth r) _ (ap (λ (ss : List Session). queue_or_none (row_at birth_of birth ss)) (with_counter-sessions counter value r)) (told_in f birth r told)
told_changed (PutSession row) r f fits told birth = told_session f birth row r.sessions (told_in f birth r told)
told_changed (SetSession row) r f fits told birth = told_same f birth (queue_at birth r) _ (queue_kept birth row.birth (with_columns row) r (λ s. refl) (λ s. refl)) (told_in f birth r told)
told_changed (RemoveSession owner) r f fits told birth = told_without_session f birth owner r.sessions (told_in f birth r told)
told_changed (PutWill owner will) r f fits told birth = told_same f birth (queue_at birth r) _ (queue_kept birth owner _ r (λ s. refl) (λ s. refl)) (told_in f birth r told)
told_changed (RemoveWill owner) r f fits told birth = told_same f birth (queue_at birth r) _ (queue_kept birth owner _ r (λ s. refl) (λ s. refl)) (told_in f birth r told)
told_changed (PutSubscription owner subscription) r f fits told birth = told_same f birth (queue_at birth r) _ (queue_kept birth owner _ r (λ s. refl) (λ s. refl)) (told_in f birth r told)
told_changed (RemoveSubscription owner text) r f fits told birth = told_same f birth (queue_at birth r) _ (queue_kept birth owner _ r (λ s. refl) (λ s. refl)) (told_in f birth r told)
told_changed (PutInbound owner identifier) r f fits told birth = told_same f birth (queue_at birth r) _ (queue_kept birth owner _ r (λ s. refl) (λ s. refl)) (told_in f birth r told)
told_changed (RemoveInbound owner identifier) r f fits told birth = told_same f birth (queue_at birth r) _ (queue_kept birth owner _ r (λ s. refl) (λ s. refl)) (told_in f birth r told)
told_changed (PutCopy owner row) r f fits told birth = elim (cases_Bool (nat_eq owner birth)) [
  | inl here ↦
      let there = subst (λ (n : ℕ). HasSome (row_at birth_of n r.sessions) (λ (s : Session). HasRoomFor copy_place QUEUE_LIMIT row.place s.queue)) (eqb-true owner birth here) fits.0 in
      let stands = has_queue row (row_at birth_of birth r.sessions) there in
      let queue = queue_here birth owner (with_copy row) (put_row copy_place QUEUE_LIMIT row) r (λ s. refl) (λ s. refl) here (λ none. absurd (stands.1 none)) in
      told_same (told_after (PutCopy owner row) f) birth (put_row copy_place QUEUE_LIMIT row (queue_at birth r)) _ queue (told_put f birth owner row (queue_at birth r) here stands.0 (told_in f birth r told))
  | inr other ↦
      told_same (told_after (PutCopy owner row) f) birth (queue_at birth r) _ (queue_elsewhere birth owner (with_copy row) r (λ s. refl) other) (told_elsewhere f birth owner row (queue_at birth r) other (told_in f birth r told))
]
told_changed (SetCopy owner at phase) r f fits told birth = elim (cases_Bool (nat_eq owner birth)) [
  | inl here ↦ told_same f birth (change_row copy_place at (in_phase phase) (queue_at birth r)) _ (queue_here birth owner (with_phase at phase) (change_row copy_place at (in_phase phase)) r (λ s. refl) (λ s. refl) here (λ none. refl))
      (told_phase f birth at phase (queue_at birth r) (told_in f birth r told))
  | inr other ↦ told_same f birth (queue_at birth r) _ (queue_elsewhere birth owner (with_phase at phase) r (λ s. refl) other) (told_in f birth r told)
]
told_changed (RemoveCopy owner gone) r f fits told birth = elim (cases_Bool (nat_eq owner birth)) [
  | inl here ↦ told_same f birth (remove_row copy_place gone (queue_at birth r)) _ (queue_here birth owner (without_copy gone) (remove_row copy_place gone) r (λ s. refl) (λ s. refl) here (λ none. refl))
      (told_removed f birth gone (queue_at birth r) (told_in f birth r told))
  | inr other ↦ told_same f birth (queue_at birth r) _ (queue_elsewhere birth owner (without_copy gone) r (λ s. refl) other) (told_in f birth r told)
]
told_changed (PutRetained kept) r f fits told birth = told_in f birth r told
told_changed (RemoveRetained place) r f fits told birth = told_in f birth r told

-- all of them
told_changed_all : (changes : List Change) (r : Records) (f : Fillings) → FitAll changes r → AreTold f r → AreTold (told_after_all changes f) (changed_all changes r)
told_changed_all [] r f fits told = told
told_changed_all (change ∷ changes) r f fits told = told_changed_all changes (changed change r) (told_after change f) fits.1 (told_changed change r f fits.0 told)

-- what a store tells that gathers changes, its copies say: counters have no part in it
pub gathered_tells : {K : Type 0} (holds : K → Records → Type 0) (keep : K) (f : Fillings) (changes : List Change) (counts : Counts) (r : Records)
    → ((start : Records) → holds keep start → AreTold f start) → Holding holds keep changes counts r → AreTold (told_after_all changes f) r
gathered_tells holds keep f changes counts r told h =
    subst (AreTold (told_after_all changes f)) (sym h.made) (told_changed_all changes h.start f h.fit (told h.start h.has))
