-- A copy's phase is set before other changes, or behind them.
use Rattle.std.proofs.Common.{◌≡◌, ℕ, Bool, true, false, cond, not, ◌&&◌, List, [], ◌∷◌, nat_eq, refl, sym, ap, subst, ◌∙◌, inl, inr}
use Rattle.std.specs.Prelude.{Option, Some, None, option_map}
use Rattle.std.proofs.lemmas.Bool.{eqb-true}
use Rattle.std.proofs.lemmas.Cmp.{nat_eq_equiv}
use Rattle.mqtt_base.specs.declared.limits.TheConstants.{OPEN_LIMIT, QUEUE_LIMIT}
use Rattle.mqtt_base.specs.declared.session.Phase.{Phase}
use Rattle.mqtt_base.specs.Phases.{order_of}
use Rattle.mqtt_keep.proofs.contents_lemmas.Lists.{changed_has}
use Rattle.mqtt_records.proofs.lists_lemmas.OrderLemmas.{apart}
use Rattle.mqtt_records.specs.declared.state.change.Change.{Change}
use Rattle.mqtt_records.specs.declared.state.change.Change.TheVariants.{SetCounter, PutSession, SetSession, RemoveSession, PutWill, RemoveWill, PutSubscription, RemoveSubscription, PutInbound, RemoveInbound, PutCopy, SetCopy, RemoveCopy, PutRetained, RemoveRetained}
use Rattle.mqtt_records.specs.declared.state.change.Counter.TheVariants.{Births, Publications, Subscribes, Autos, Moment}
use Rattle.mqtt_records.specs.declared.state.records.Records.{Records}
use Rattle.mqtt_records.specs.declared.state.session.Session.{Session}
use Rattle.mqtt_records.specs.lists.Order.{HasRoomFor, change_row, has_row, row_at}
use Rattle.mqtt_records.specs.messages.Queue.{CopyRow}
use Rattle.mqtt_records.specs.state.Contents.{FitContents, FitsContents, IsMessageOf, StoredMessage, copy_message}
use Rattle.mqtt_records.specs.state.Members.{Has}
use Rattle.mqtt_records.specs.state.Records.{FitAll, Fits, HasSession, HasSome, IsNumber, TakesSubscription, changed, changed_all, in_session}
use Rattle.mqtt_records.specs.state.Session.{birth_of, copy_place, in_phase, number_of, with_columns, with_copy, with_open, with_phase, with_subscription, with_will, without_copy, without_filter, without_open, without_subscription}
use Rattle.mqtt_serve.specs.gathered.Joining.{AllApart, is_apart}
use Rattle.mqtt_serve.specs.gathered.Telling.{row_at-changed}
use Rattle.mqtt_serve.proofs.gathered_lemmas.Edits.{change-change, change-twice, has_row-change, put-change, put-then, remove-change, room-change}

turned : (m n : ℕ) → nat_eq m n ≡ false → nat_eq n m ≡ false
turned m n differ = apart n m (λ e. let both : true ≡ false = sym (nat_eq_equiv.refl m) ∙ (ap (nat_eq m) (sym e) ∙ differ) in absurd cc)

-- a copy that is put and then comes into a phase is put in it
put_sent_there : (birth : ℕ) (phase : Phase) (row : CopyRow) (r : Records) → Fits (PutCopy birth row) r
    → changed (SetCopy birth row.place phase) (changed (PutCopy birth row) r) ≡ changed (PutCopy birth (in_phase phase row)) r
put_sent_there birth phase row r fits =
    let room = λ (s : Session) (found : row_at birth_of birth r.sessions ≡ Some s). subst (λ (o : Option Session). HasSome o (λ (session : Session). HasRoomFor copy_place QUEUE_LIMIT row.place session.queue)) found fits.0 in
    ap (λ (ss : List Session). record r { sessions = ss })
    (change-twice birth_of birth (with_phase row.place phase) (with_copy row) (with_copy (in_phase phase row)) r.sessions (λ s. refl)
    (λ s found. ap (λ (q : List CopyRow). record s { queue = q }) (put-then copy_place QUEUE_LIMIT row (in_phase phase) s.queue refl (room s found))))

module _ (birth place : ℕ) (phase : Phase) where
  -- a copy that is put and then comes into a phase is put in it
  pub put_sent : (row : CopyRow) (r : Records) → row.place ≡ place → Fits (PutCopy birth row) r
      → changed (SetCopy birth place phase) (changed (PutCopy birth row) r) ≡ changed (PutCopy birth (in_phase phase row)) r
  put_sent row r is fits = subst (λ (n : ℕ). changed (SetCopy birth n phase) (changed (PutCopy birth row) r) ≡ changed (PutCopy birth (in_phase phase row)) r) is (put_sent_there birth phase row r fits)

  -- where a copy can be put it can be put in a phase
  pub put_sent_fits : (row : CopyRow) (r : Records) → Fits (PutCopy birth row) r → IsNumber (order_of phase) → Fits (PutCopy birth (in_phase phase row)) r
  put_sent_fits row r fits number = (
    fits.0,
    record {
      session = fits.1.session;
      place = fits.1.place;
      publication = fits.1.publication;
      subscribe = fits.1.subscribe;
      arrived = fits.1.arrived;
      order = number;
    },
  )

  -- ---- one change that has no part in the copy

  -- it is of another place, if it is of the same session
  other_place : (owner at : ℕ) → not (nat_eq owner birth && nat_eq at place) ≡ true → nat_eq birth owner ≡ true → nat_eq at place ≡ false
  other_place owner at a one =
      let is : birth ≡ owner = eqb-true birth owner one in
      let self : nat_eq owner birth ≡ true = ap (nat_eq owner) is ∙ nat_eq_equiv.refl owner in
      by (nat_eq at place) (ap (λ (b : Bool). not (b && nat_eq at place)) (sym self) ∙ a)
    where
      by : (b : Bool) → not (true && b) ≡ true → b ≡ false
      by true h = absurd cc
      by false h = refl

  session_passes : (owner : ℕ) (g : Session → Session) (r : Records) → ((s : Session) → birth_of (g s) ≡ birth_of s) → (nat_eq birth owner ≡ true → (s : Session) → with_phase place phase (g s) ≡ g (with_phase place phase s))
      → in_session birth (with_phase place phase) (in_session owner g r) ≡ in_session owner g (in_session birth (with_phase place phase) r)
  session_passes owner g r keeps alike =
      ap (λ (ss : List Session). record r { sessions = ss }) (change-change birth_of birth owner (with_phase place phase) g r.sessions (λ s. refl) keeps alike)

  -- the phase is set before it or behind it
  passes : (c : Change) (r : Records) → is_apart birth place c ≡ true → changed (SetCopy birth place phase) (changed c r) ≡ changed c (changed (SetCopy birth place phase) r)
  passes (SetCounter Births value) r a = refl
  passes (SetCounter Publications value) r a = refl
  passes (SetCounter Subscribes value) r a = refl
  passes (SetCounter Autos value) r a = refl
  passes (SetCounter Moment value) r a = refl
  passes (PutSession row) r a = absurd cc
  passes (SetSession row) r a = session_passes row.birth (with_columns row) r (λ s. refl) (λ one s. refl)
  passes (RemoveSession owner) r a = absurd cc
  passes (PutWill owner will) r a = session_passes owner (with_will (Some will)) r (λ s. refl) (λ one s. refl)
  passes (RemoveWill owner) r a = session_passes owner (with_will None) r (λ s. refl) (λ one s. refl)
  passes (PutSubscription owner put) r a = session_passes owner (with_subscription put) r (λ s. refl) (λ one s. refl)
  passes (RemoveSubscription owner text) r a = session_passes owner (without_subscription text) r (λ s. refl) (λ one s. refl)
  passes (PutInbound owner identifier) r a = session_passes owner (with_open identifier) r (λ s. refl) (λ one s. refl)
  passes (RemoveInbound owner identifier) r a = session_passes owner (without_open identifier) r (λ s. refl) (λ one s. refl)
  passes (PutCopy owner row) r a = session_passes owner (with_copy row) r (λ s. refl)
      (λ one s. ap (λ (q : List CopyRow). record s { queue = q }) (sym (put-change copy_place QUEUE_LIMIT row place (in_phase phase) s.queue (λ x. refl) (other_place owner row.place a one))))
  passes (SetCopy owner at other) r a = session_passes owner (with_phase at other) r (λ s. refl)
      (λ one s. ap (λ (q : List CopyRow). record s { queue = q }) (change-change copy_place place at (in_phase phase) (in_phase other) s.queue (λ x. refl) (λ x. refl)
      (λ same x. let no : true ≡ false = sym same ∙ turned at place (other_place owner at a one) in absurd cc)))
  passes (RemoveCopy owner gone) r a = session_passes owner (without_copy gone) r (λ s. refl)
      (λ one s. ap (λ (q : List CopyRow). record s { queue = q }) (sym (remove-change copy_place gone place (in_phase phase) s.queue (λ x. refl) (turned gone place (other_place owner gone a one)))))
  passes (PutRetained kept) r a = refl
  passes (RemoveRetained at) r a = refl

  -- a session that has something has it whatever a copy's phase
  still_has : (owner : ℕ) (P : Session → Type 0) (r : Records) → ((s : Session) → P s → P (with_phase place phase s)) → HasSession owner P r → HasSession owner P (changed (SetCopy birth place phase) r)
  still_has owner P r keeps has =
      subst (λ (o : Option Session). HasSome o P) (sym (row_at-changed birth_of owner birth (with_phase place phase) r.sessions (λ s. refl))) (either (nat_eq birth owner) (row_at birth_of owner r.sessions) has)
    where
      either : (b : Bool) (o : Option Session) → HasSome o P → HasSome (cond b (option_map (with_phase place phase) o) o) P
      either true None h = absurd h
      either true (Some s) h = keeps s h
      either false o h = h

  -- it fits behind the phase as before
  still_fits : (c : Change) (r : Records) → is_apart birth place c ≡ true → Fits c r → Fits c (changed (SetCopy birth place phase) r)
  still_fits (SetCounter Births value) r a fits = fits
  still_fits (SetCounter Publications value) r a fits = fits
  still_fits (SetCounter Subscribes value) r a fits = fits
  still_fits (SetCounter Autos value) r a fits = fits
  still_fits (SetCounter Moment value) r a fits = fits
  still_fits (PutSession row) r a fits = absurd cc
  still_fits (SetSession row) r a fits = (still_has row.birth (λ session. session.client ≡ row.client) r (λ s h. h) fits.0, fits.1)
  still_fits (RemoveSession owner) r a fits = tt
  still_fits (PutWill owner will) r a fits = still_has owner (λ session. Unit {0}) r (λ s h. h) fits
  still_fits (RemoveWill owner) r a fits = tt
  still_fits (PutSubscription owner put) r a fits =
      (still_has owner (λ session. TakesSubscription put (without_filter put.filter session.subscriptions)) r (λ s h. h) fits.0, fits.1)
  still_fits (RemoveSubscription owner text) r a fits = tt
  still_fits (PutInbound owner identifier) r a fits = still_has owner (λ session. HasRoomFor number_of OPEN_LIMIT identifier session.inbound) r (λ s h. h) fits
  still_fits (RemoveInbound owner identifier) r a fits = tt
  still_fits (PutCopy owner row) r a fits =
      (still_has owner (λ session. HasRoomFor copy_place QUEUE_LIMIT row.place session.queue) r (λ s h. room-change copy_place QUEUE_LIMIT row.place place (in_phase phase) s.queue (λ x. refl) ∙ h) fits.0, fits.1)
  still_fits (SetCopy owner at other) r a fits =
      (still_has owner (λ session. has_row copy_place at session.queue ≡ true) r (λ s h. has_row-change copy_place at place (in_phase phase) s.queue (λ x. refl) ∙ h) fits.0, fits.1)
  still_fits (RemoveCopy owner gone) r a fits = tt
  still_fits (PutRetained kept) r a fits = fits
  still_fits (RemoveRetained at) r a fits = tt

  -- what is said behind the phase was said before
  said_before : (r : Records) (m : StoredMessage) → IsMessageOf (changed (SetCopy birth place phase) r) m → IsMessageOf r m
  said_before r m (inr it) = inr it
  said_before r m (inl it) = elim (changed_has birth_of birth (with_phase place phase) r.sessions it.2.0 it.2.1) [
    | inl was ↦ inl (it.0, it.1, (it.2.0, was, it.2.2, it.2.3), it.3)
    | inr of ↦
        let there : Has (change_row copy_place place (in_phase phase) of.0.queue) it.1 = subst (λ (t : Session). Has t.queue it.1) of.2 it.2.3 in
        let its : of.0.birth ≡ it.0 = sym (ap birth_of of.2) ∙ it.2.2 in
        elim (changed_has copy_place place (in_phase phase) of.0.queue it.1 there) [
          | inl same ↦ inl (it.0, it.1, (of.0, of.1, its, same), it.3)
          | inr row ↦ inl (it.0, row.0, (of.0, of.1, its, row.1), it.3 ∙ ap copy_message row.2)
        ]
  ]

  -- so it says what is said under its number
  still_said : (c : Change) (r : Records) → FitsContents c r → FitsContents c (changed (SetCopy birth place phase) r)
  still_said (SetCounter counter value) r says = tt
  still_said (PutSession row) r says = tt
  still_said (SetSession row) r says = tt
  still_said (RemoveSession owner) r says = tt
  still_said (PutWill owner will) r says = tt
  still_said (RemoveWill owner) r says = tt
  still_said (PutSubscription owner put) r says = tt
  still_said (RemoveSubscription owner text) r says = tt
  still_said (PutInbound owner identifier) r says = tt
  still_said (RemoveInbound owner identifier) r says = tt
  still_said (PutCopy owner row) r says = λ n is. says n (said_before r n is)
  still_said (SetCopy owner at other) r says = tt
  still_said (RemoveCopy owner gone) r says = tt
  still_said (PutRetained kept) r says = λ n is. says n (said_before r n is)
  still_said (RemoveRetained at) r says = tt

  -- ---- all of them

  -- the phase is set before them or behind them
  pub all_pass : (cs : List Change) (r : Records) → AllApart birth place cs → changed (SetCopy birth place phase) (changed_all cs r) ≡ changed_all cs (changed (SetCopy birth place phase) r)
  all_pass [] r a = refl
  all_pass (c ∷ cs) r a = all_pass cs (changed c r) a.1 ∙ ap (changed_all cs) (passes c r a.0)

  -- behind it they fit
  pub all_fit : (cs : List Change) (r : Records) → AllApart birth place cs → FitAll cs r → FitAll cs (changed (SetCopy birth place phase) r)
  all_fit [] r a fit = tt
  all_fit (c ∷ cs) r a fit = (still_fits c r a.0 fit.0, subst (FitAll cs) (passes c r a.0) (all_fit cs (changed c r) a.1 fit.1))

  -- and say what is said under their numbers
  pub all_said : (cs : List Change) (r : Records) → AllApart birth place cs → FitContents cs r → FitContents cs (changed (SetCopy birth place phase) r)
  all_said [] r a says = tt
  all_said (c ∷ cs) r a says = (still_said c r says.0, subst (FitContents cs) (passes c r a.0) (all_said cs (changed c r) a.1 says.1))
