-- The words of what the broker is asked for.
use Rattle.std.proofs.Common.{◌≡◌, refl, ap, subst, ◌∙◌, ℕ, true, false, List, [], ◌∷◌, codes, Some}
use Rattle.std.proofs.lemmas.Slice.Eq.{bytes_eq-Decides}
use Rattle.mqtt_script.specs.declared.event.Asking.{Asking}
use Rattle.mqtt_script.specs.declared.event.Asking.TheVariants.{ToBroker, Break, Pump, Tick, Stranger}
use Rattle.mqtt_script.specs.Lines.{asking_word, IsOneName, AskingFollows, IsAsking}
use Rattle.mqtt_script.specs.Reading.{◌>>=◌, name_at, bytes_at, one_name_in, late_in, to_broker_in, stranger_in, tick_in, asking_named, asking_in}
use Rattle.mqtt_script.proofs.Cases.{same_some, decided, bound, named, nothing}
use Rattle.mqtt_script.proofs.Meanings.{name_says, name_is_read, bytes_say, bytes_are_read}

-- ---- a single name

-- words that are read as one name say that name
pub one_name_says : (words : List (List ℕ)) (client : List ℕ) → one_name_in words ≡ Some client → IsOneName client words
unfolding one_name_in
one_name_says [] client e = cc
one_name_says (word ∷ []) client e =
    let is = name_says word client e in (ap (λ (w : List ℕ). w ∷ []) is.0, is.1)
one_name_says (word ∷ next ∷ more) client e = cc

-- words that say one name are read so
pub one_name_is_read : (words : List (List ℕ)) (client : List ℕ) → IsOneName client words
    → one_name_in words ≡ Some client
unfolding one_name_in
one_name_is_read words client is = rw is.0 (name_is_read client is.1)

-- ---- what is read

-- this first word and those behind it say it
abbrev pub Says : List ℕ → List (List ℕ) → Asking → Type 0
Says first more a = (first ≡ asking_word a) × AskingFollows a more

-- its only word behind the first is a name
pub by_name : {X : Type 0} (f : List ℕ → X) (words : List (List ℕ)) (P : X → Type 0) (x : X)
    → (one_name_in words >>= (λ name. Some (f name))) ≡ Some x
    → ((client : List ℕ) → IsOneName client words → P (f client)) → P x
by_name f words P x e each =
    let name = bound (one_name_in words) (λ name. Some (f name)) x e in
    subst P (same_some (f name.0) x name.2) (each name.0 (one_name_says words name.0 name.1))

late_says : (client old : List ℕ) (a : Asking) → late_in client old ≡ Some a
    → Says (codes "tobroker") (client ∷ old ∷ []) a
unfolding late_in
late_says client old a e =
    let test = decided _ (bytes_eq-Decides old (codes "old")) (name_at client >>= (λ name. Some (ToBroker name true))) a e in
    let name = bound (name_at client) (λ name. Some (ToBroker name true)) a test.1 in
    let is = name_says client name.0 name.1 in
    let is_old : old ≡ codes "old" = test.0 in
    subst (λ (a : Asking). Says (codes "tobroker") (client ∷ old ∷ []) a) (same_some (ToBroker name.0 true) a name.2)
    (refl, (ap (λ (w : List ℕ). w ∷ old ∷ []) is.0 ∙ ap (λ (w : List ℕ). name.0 ∷ w ∷ []) is_old, is.1))

to_broker_says : (words : List (List ℕ)) (a : Asking) → to_broker_in words ≡ Some a → Says (codes "tobroker") words a
unfolding to_broker_in
to_broker_says [] a e = cc
to_broker_says (client ∷ []) a e =
    let name = bound (name_at client) (λ name. Some (ToBroker name false)) a e in
    let is = name_says client name.0 name.1 in
    subst (λ (a : Asking). Says (codes "tobroker") (client ∷ []) a) (same_some (ToBroker name.0 false) a name.2)
    (refl, (ap (λ (w : List ℕ). w ∷ []) is.0, is.1))
to_broker_says (client ∷ old ∷ []) a e = late_says client old a e
to_broker_says (client ∷ old ∷ next ∷ more) a e = cc

stranger_says : (words : List (List ℕ)) (a : Asking) → stranger_in words ≡ Some a → Says (codes "stranger") words a
unfolding stranger_in
stranger_says [] a e = cc
stranger_says (name ∷ []) a e = cc
stranger_says (name ∷ hex ∷ []) a e =
    let n = bound (name_at name) (λ n. bytes_at hex >>= (λ b. Some (Stranger n b))) a e in
    let b = bound (bytes_at hex) (λ b. Some (Stranger n.0 b)) a n.2 in
    let is = name_says name n.0 n.1 in
    subst (λ (a : Asking). Says (codes "stranger") (name ∷ hex ∷ []) a) (same_some (Stranger n.0 b.0) a b.2)
    (refl, (hex, ap (λ (w : List ℕ). w ∷ hex ∷ []) is.0, is.1, bytes_say hex b.0 b.1))
stranger_says (name ∷ hex ∷ next ∷ more) a e = cc

tick_says : (words : List (List ℕ)) (a : Asking) → tick_in words ≡ Some a → Says (codes "tick") words a
unfolding tick_in
tick_says [] a e = subst (λ (a : Asking). Says (codes "tick") [] a) (same_some Tick a e) (refl, refl)
tick_says (word ∷ more) a e = cc

-- words behind a question's word that are read say that question
pub asking_named_says : (first : List ℕ) (more : List (List ℕ)) (a : Asking) → asking_named first more ≡ Some a
    → Says first more a
unfolding asking_named
asking_named_says first more a e =
    named (λ w. Says w more a) first (codes "tobroker") _ _ a e (to_broker_says more a) (λ e.
    named (λ w. Says w more a) first (codes "break") _ _ a e
    (λ e. by_name Break more (Says (codes "break") more) a e (λ c is. (refl, is))) (λ e.
    named (λ w. Says w more a) first (codes "pump") _ _ a e
    (λ e. by_name Pump more (Says (codes "pump") more) a e (λ c is. (refl, is))) (λ e.
    named (λ w. Says w more a) first (codes "tick") _ _ a e (tick_says more a) (λ e.
    named (λ w. Says w more a) first (codes "stranger") _ _ a e (stranger_says more a) (λ e.
    nothing (Says first more a) a e)))))

-- words that are read as a question say it
pub asking_says : (words : List (List ℕ)) (a : Asking) → asking_in words ≡ Some a → IsAsking a words
unfolding asking_in
asking_says [] a e = cc
asking_says (first ∷ more) a e =
    let is = asking_named_says first more a e in (more, ap (λ (w : List ℕ). w ∷ more) is.0, is.1)

-- ---- what can be read

-- words behind a question's word that say it are read so
pub asking_named_is_read : (a : Asking) (more : List (List ℕ)) → AskingFollows a more
    → asking_named (asking_word a) more ≡ Some a
unfolding asking_named to_broker_in late_in stranger_in tick_in
asking_named_is_read (ToBroker client false) more is = rw (is.0, name_is_read client is.1)
asking_named_is_read (ToBroker client true) more is = rw (is.0, name_is_read client is.1)
asking_named_is_read (Break client) more is = rw (one_name_is_read more client is)
asking_named_is_read (Pump client) more is = rw (one_name_is_read more client is)
asking_named_is_read Tick more is = rw is
asking_named_is_read (Stranger name bytes) more (hex, is, is_name, is_hex) =
    rw (is, name_is_read name is_name, bytes_are_read hex bytes is_hex)

-- words that say a question are read so
pub asking_is_read : (a : Asking) (words : List (List ℕ)) → IsAsking a words → asking_in words ≡ Some a
unfolding asking_in
asking_is_read a words (more, is, follows) = rw is (asking_named_is_read a more follows)
