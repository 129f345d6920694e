-- What a client is told, and what takes that back.
use Rattle.std.proofs.Common.{◌≡◌, ℕ, ◌≤◌, List, [], ◌∷◌, length, take, refl, ap, ◌∙◌}
use Rattle.std.specs.Prelude.{Option, Some, None}
use Rattle.mqtt_base.specs.declared.limits.TheConstants.{LINE_LIMIT}
use Rattle.mqtt_records.specs.lists.Order.{IsAscending, row_at, put_row, remove_row, change_row}
use Rattle.mqtt_topic.specs.sending.Told.{ToldTopics, next_alias, shortened, told_if}
use Rattle.mqtt_topic.proofs.sending_lemmas.FormLemmas.{taken_back}
use Rattle.mqtt_rules.specs.step.State.{Telling, told_line}
use Rattle.mqtt_broker_step.specs.Backs.{TakesTellingBack}
use Rattle.mqtt_broker_step.specs.Tellings.{telling_cut, telling_more}
use Rattle.mqtt_broker_step.proofs.AliasDeeds.{changed_put}
use Rattle.mqtt_broker_step.proofs.Inverse.{change_back, removed_back}

all_taken : (topics : List (List ℕ)) → take (length topics) topics ≡ topics
all_taken [] = refl
all_taken (t ∷ ts) = ap (λ (xs : List (List ℕ)). t ∷ xs) (all_taken ts)

-- a topic that was told is forgotten by the number of those before
more_back : (topic : List ℕ) (told : ToldTopics) → shortened (length told.topics) (told_if (next_alias told) topic told) ≡ told
more_back topic told = by (next_alias told)
  where
    by : (next : Option ℕ) → shortened (length told.topics) (told_if next topic told) ≡ told
    by None = ap (λ (ts : List (List ℕ)). let x : ToldTopics = record { max = told.max; topics = ts } in x) (all_taken told.topics)
    by (Some alias) = taken_back topic told

-- to take the telling of a line out, tell a topic and put it in again is to change it in its place
pub told_is : (n : ℕ) (topic : List ℕ) (x t : Telling) (xs taken new : List Telling) → IsAscending told_line xs → length xs ≤ LINE_LIMIT → row_at told_line n xs ≡ Some x
    → taken ≡ remove_row told_line n xs → t ≡ telling_more topic x → new ≡ put_row told_line LINE_LIMIT t taken → new ≡ change_row told_line n (telling_more topic) xs
told_is n topic x t xs taken new up few found rest told put =
    put ∙ (ap (λ (ys : List Telling). put_row told_line LINE_LIMIT t ys) rest
    ∙ (ap (λ (y : Telling). put_row told_line LINE_LIMIT y (remove_row told_line n xs)) told
    ∙ changed_put told_line LINE_LIMIT n (telling_more topic) x xs (λ y. refl) up found few))

-- to take it out and put it in again as it was changes nothing
pub untold_is : (n : ℕ) (x t : Telling) (xs taken new : List Telling) → IsAscending told_line xs → length xs ≤ LINE_LIMIT → row_at told_line n xs ≡ Some x
    → taken ≡ remove_row told_line n xs → t ≡ x → new ≡ put_row told_line LINE_LIMIT t taken → new ≡ xs
untold_is n x t xs taken new up few found rest same put =
    put ∙ (ap (λ (ys : List Telling). put_row told_line LINE_LIMIT t ys) rest
    ∙ (ap (λ (y : Telling). put_row told_line LINE_LIMIT y (remove_row told_line n xs)) same
    ∙ removed_back told_line LINE_LIMIT n x xs up found few))

-- that the topics are as many as before makes of the tellings what they were
pub told_back : (n count : ℕ) (topic : List ℕ) (x : Telling) (xs new : List Telling) → count ≡ length x.topics.topics
    → row_at told_line n xs ≡ Some x → new ≡ change_row told_line n (telling_more topic) xs → TakesTellingBack n xs new (Some count)
told_back n count topic x xs new is found told =
    ap (change_row told_line n (telling_cut count)) told
    ∙ change_back told_line n (telling_more topic) (telling_cut count) x xs (λ y. refl) found
    (ap (λ (k : ℕ). telling_cut k (telling_more topic x)) is
    ∙ ap (λ (topics : ToldTopics). let y : Telling = record x { topics = topics } in y) (more_back topic x.topics))
