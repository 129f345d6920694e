-- Contents stay shared by rows and deeds that put nothing but what may be said: what is said agrees with all of that.
use Rattle.std.proofs.Common.{◌≡◌, ◌≤◌, ◌⊎◌, List, [], ◌∷◌, Option, Some, None, refl, arith, inl, inr}
use Rattle.std.specs.Prelude.{⊤}
use Rattle.mqtt_records.specs.declared.messages.message.MessageCopy.{MessageCopy}
use Rattle.mqtt_records.specs.declared.state.session.Session.{Session}
use Rattle.mqtt_records.specs.declared.state.change.Change.{Change}
use Rattle.mqtt_records.specs.declared.state.change.Change.TheVariants.{SetCounter, PutCopy, PutRetained}
use Rattle.mqtt_records.specs.declared.state.change.Counter.TheVariants.{Births, Publications, Subscribes, Autos, Moment}
use Rattle.mqtt_records.specs.declared.state.records.Records.{Records}
use Rattle.mqtt_records.specs.state.Records.{changed, changed_all}
use Rattle.mqtt_records.specs.state.Contents.{StoredMessage, stored_message, copy_message, retained_message, IsMessageOf, FitsContents, FitContents}
use Rattle.mqtt_rules.specs.step.State.{Broker, session_at}
use Rattle.mqtt_rules.specs.step.Deeds.{Whose, Part, Resume, Enter, Deed, Accept, Begin, Name, Count, At, Finish, Keep, Forget, part_rows_of, rows_of, after, after_all}
use Rattle.mqtt_rules.proofs.step_lemmas.acts.Goods.{AreGood}
use Rattle.mqtt_rules.proofs.sharing_lemmas.Said.{IsPut, said_after}

-- what a copy says
abbrev pub message_of : MessageCopy → StoredMessage
message_of copy = stored_message copy.id.publication copy.content

-- what the rows of a deed put says what is said under its number
abbrev pub HasFittingRows : Deed → Broker → Type 0
HasFittingRows d b = FitContents (rows_of d b.records) b.records

-- what may be said beside what is said
module _ (May : StoredMessage → Type 0) where
  abbrev pub IsOrMayBe : Records → StoredMessage → Type 0
  IsOrMayBe r m = IsMessageOf r m ⊎ May m

  -- all that is said or may be said of one number is the same, and no number is above the last publication's
  pub record Agree (r : Records) : Type 0 where
    pub alike : (m n : StoredMessage) → IsOrMayBe r m → IsOrMayBe r n → n.publication ≡ m.publication → n ≡ m
    pub within : (m : StoredMessage) → IsOrMayBe r m → m.publication ≤ r.publications

  -- ---- rows

  -- a row puts nothing but what may be said, and accepts no publication
  abbrev pub RowMay : Change → Type 0
  RowMay (SetCounter Publications value) = ⊥
  RowMay (PutCopy birth row) = May (copy_message row)
  RowMay (PutRetained kept) = May (retained_message kept)
  RowMay change = ⊤

  abbrev pub RowsMay : List Change → Type 0
  RowsMay [] = ⊤
  RowsMay (change ∷ changes) = RowMay change × RowsMay changes

  put_may : (change : Change) (m : StoredMessage) → RowMay change → IsPut change m → May m
  put_may (PutCopy birth row) m may is = rw is may
  put_may (PutRetained kept) m may is = rw is may
  put_may change m may is = absurd is

  same_publications : (change : Change) (r : Records) → RowMay change → (changed change r).publications ≡ r.publications
  same_publications (SetCounter Births value) r may = refl
  same_publications (SetCounter Publications value) r may = absurd may
  same_publications (SetCounter Subscribes value) r may = refl
  same_publications (SetCounter Autos value) r may = refl
  same_publications (SetCounter Moment value) r may = refl
  same_publications change r may = refl

  -- what is said behind such a row was said, or may be
  stays : (change : Change) (r : Records) (m : StoredMessage) → RowMay change → IsOrMayBe (changed change r) m → IsOrMayBe r m
  stays change r m may (inl said) = elim (said_after change r m said) [
    | inl before ↦ inl before
    | inr is ↦ inr (put_may change m may is)
  ]
  stays change r m may (inr other) = inr other

  agree_row : (change : Change) (r : Records) → RowMay change → Agree r → Agree (changed change r)
  agree_row change r may h = record {
    alike = λ m n p q same. h.alike m n (stays change r m may p) (stays change r n may q) same;
    within = λ m p. let up = h.within m (stays change r m may p) in let last = same_publications change r may in omega (arith, up, last);
  }

  fits_row : (change : Change) (r : Records) → RowMay change → Agree r → FitsContents change r
  fits_row (PutCopy birth row) r may h = λ n said same. h.alike (copy_message row) n (inr may) (inl said) same
  fits_row (PutRetained kept) r may h = λ n said same. h.alike (retained_message kept) n (inr may) (inl said) same
  fits_row change r may h = tt

  agree_rows : (changes : List Change) (r : Records) → RowsMay changes → Agree r → Agree (changed_all changes r)
  agree_rows [] r may h = h
  agree_rows (change ∷ changes) r may h = agree_rows changes (changed change r) may.1 (agree_row change r may.0 h)

  fit_rows : (changes : List Change) (r : Records) → RowsMay changes → Agree r → FitContents changes r
  fit_rows [] r may h = tt
  fit_rows (change ∷ changes) r may h = (fits_row change r may.0 h, fit_rows changes (changed change r) may.1 (agree_row change r may.0 h))

  -- ---- deeds

  -- a copy that enters, and a message that is retained, says what may be said
  abbrev pub MaySay : Deed → Broker → Type 0
  MaySay (Accept number origin m) b = ⊥
  MaySay (At who (Enter copy)) b = May (message_of copy)
  MaySay (Keep kept) b = May (retained_message kept)
  MaySay d b = ⊤

  part_may : (who : Whose) (part : Part) (o : Option Session) (b : Broker) → MaySay (At who part) b → RowsMay (part_rows_of part o)
  part_may who part None b q = tt
  part_may who (Resume expiry None) (Some s) b q = (tt, (tt, tt))
  part_may who (Resume expiry (Some will)) (Some s) b q = (tt, (tt, tt))
  part_may who (Enter copy) (Some s) b q = (q, tt)
  part_may who part (Some s) b q = (tt, tt)

  rows_may : (d : Deed) (b : Broker) → MaySay d b → RowsMay (rows_of d b.records)
  rows_may (Accept number origin m) b q = absurd q
  rows_may (Begin row None) b q = (tt, (tt, tt))
  rows_may (Begin row (Some will)) b q = (tt, (tt, (tt, tt)))
  rows_may (Name n) b q = (tt, tt)
  rows_may (Count n) b q = (tt, tt)
  rows_may (At who part) b q = part_may who part (session_at who.birth b.records) b q
  rows_may (Finish who) b q = (tt, tt)
  rows_may (Keep kept) b q = (q, tt)
  rows_may (Forget place) b q = (tt, tt)
  rows_may d b q = tt

  -- rows of deeds that say nothing but what may be said fit, and all agrees behind them
  pub deeds_fit : (ds : List Deed) (b : Broker) → Agree b.records → AreGood MaySay ds b → AreGood HasFittingRows ds b × Agree (after_all ds b).records
  deeds_fit [] b h may = (tt, h)
  deeds_fit (d ∷ ds) b h may =
      let rows = rows_may d b may.0 in
      let rest = deeds_fit ds (after d b) (agree_rows (rows_of d b.records) b.records rows h) may.1 in
      ((fit_rows (rows_of d b.records) b.records rows h, rest.0), rest.1)
