-- Lemmas on the table of topic aliases (MQTT 5.0, 3.3.2.3.4).
use Rattle.std.proofs.Common.{◌≡◌, ℕ, Bool, arith, true, false, cond, List, [], ◌∷◌, length, refl, sym, ap, subst, ◌∙◌, eqb, nat_eq, Option, Some, None, Result, Ok, Err, is_ok, is_some, OnOk, OnErr, IfOk, IfErr}
use Rattle.std.proofs.lemmas.Bool.Decides.{nat_tests}
use Rattle.std.specs.Map.{lookup, remove_entry}
use Rattle.indexmap.specs.IndexMap.{insert_entry}
use Rattle.mqtt_topic.specs.declared.names.fault.TopicFault.{TopicFault}
use Rattle.mqtt_topic.specs.declared.names.fault.TopicFault.TheVariants.{Memory}
use Rattle.mqtt_topic.specs.names.Aliases.{AliasTable, topic_of, with_topic, without_topic, restored, after_resolve, RefusesTopic}

-- the look-up and the entry of the map are the table's
pub topic_of-lookup : (alias : ℕ) (topics : List (ℕ × List ℕ)) → lookup (nat_eq alias) topics ≡ topic_of alias topics
topic_of-lookup alias [] = refl
topic_of-lookup alias (e ∷ es) = ap (cond (nat_eq alias e.0) (Some e.1)) (topic_of-lookup alias es)

-- the table's entry is the definition's
pub with_topic-entry : (alias : ℕ) (topic : List ℕ) (topics : List (ℕ × List ℕ)) → insert_entry nat_eq topics alias topic ≡ with_topic alias topic topics
with_topic-entry alias topic [] = refl
with_topic-entry alias topic (e ∷ es) = ap (λ (rest : List (ℕ × List ℕ)). cond (nat_eq alias e.0) ((e.0, topic) ∷ es) (e ∷ rest)) (with_topic-entry alias topic es)

-- a topic beside an alias is entered
pub after_resolve-text : (table : AliasTable) (topic : List ℕ) (alias : ℕ) → eqb (length topic) 0 ≡ false → after_resolve table topic (Some alias) ≡ record { max = table.max; topics = with_topic alias topic table.topics }
after_resolve-text table [] alias e = cc
after_resolve-text table (c ∷ cs) alias e = refl

-- what holds behind an Ok holds behind this one
pub fact_at_ok : {X E : Type 0} (P : Type 0) (r : Result X E) → is_ok r ≡ true → OnOk r P → P
fact_at_ok P (Ok x) e h = h
fact_at_ok P (Err x) e h = cc

-- a copy of the topic that an alias stands for
pub copy_is_known : (o : Option (List ℕ)) (known : List ℕ) (r : Result (List ℕ) TopicFault) → o ≡ Some known → IfOk r (λ name. name ≡ known) → IfOk r (λ name. o ≡ Some name)
copy_is_known o known (Ok name) e h = e ∙ ap Some (sym h)
copy_is_known o known (Err fault) e h = tt

-- an alias that is known is refused for want of memory alone
pub refuses_copy : (table : AliasTable) (alias : ℕ) (known : List ℕ) (r : Result (List ℕ) TopicFault) → topic_of alias table.topics ≡ Some known → IfErr r (λ fault. fault ≡ Memory) → IfErr r (RefusesTopic table [] alias)
refuses_copy table alias known (Ok name) e h = tt
refuses_copy table alias known (Err fault) e h = subst (RefusesTopic table [] alias) (sym h) (known, e)

-- what the map leaves
pub without_topic-entry : (alias : ℕ) (topics : List (ℕ × List ℕ)) → remove_entry (nat_eq alias) topics ≡ without_topic alias topics
without_topic-entry alias [] = refl
without_topic-entry alias (e ∷ es) = ap (λ (rest : List (ℕ × List ℕ)). cond (nat_eq alias e.0) es (e ∷ rest)) (without_topic-entry alias es)

-- what is there is put again without memory
pub ok_where_there : {X E Y : Type 0} (r : Result X E) (o : Option Y) → is_some o ≡ true → OnErr r (o ≡ None) → is_ok r ≡ true
ok_where_there (Ok x) o some absent = refl
ok_where_there (Err x) o some absent = let none : is_some o ≡ false = ap is_some absent in cc

-- the value of an answer that is there
pub value_at_ok : {X E : Type 0} (P : X → Type 0) (r : Result X E) (x : X) → r ≡ Ok x → IfOk r P → P x
value_at_ok P (Ok y) x e h = let same : y ≡ x = cc in subst P same h
value_at_ok P (Err y) x e h = cc

back_by : (b : Bool) (alias : ℕ) (topic : List ℕ) (e : ℕ × List ℕ) (es : List (ℕ × List ℕ)) → nat_eq alias e.0 ≡ b → restored alias (topic_of alias es) (with_topic alias topic es) ≡ es
    → restored alias (cond b (Some e.1) (topic_of alias es)) (cond b ((e.0, topic) ∷ es) (e ∷ with_topic alias topic es)) ≡ e ∷ es
back_by true alias topic e es at more = rw at refl
back_by false alias topic e es at more = back_later (topic_of alias es) more
  where
    back_later : (o : Option (List ℕ)) → restored alias o (with_topic alias topic es) ≡ es → restored alias o (e ∷ with_topic alias topic es) ≡ e ∷ es
    back_later None h = rw at (ap (λ (rest : List (ℕ × List ℕ)). e ∷ rest) h)
    back_later (Some before) h = rw at (ap (λ (rest : List (ℕ × List ℕ)). e ∷ rest) h)

own : (n : ℕ) → nat_eq n n ≡ true
own n = grind (arith, nat_tests)

-- a topic that was set, taken back
pub restored-with_topic : (alias : ℕ) (topic : List ℕ) (topics : List (ℕ × List ℕ)) → restored alias (topic_of alias topics) (with_topic alias topic topics) ≡ topics
restored-with_topic alias topic [] = rw (own alias) refl
restored-with_topic alias topic (e ∷ es) = back_by (nat_eq alias e.0) alias topic e es refl (restored-with_topic alias topic es)

stands_by : (b : Bool) (alias : ℕ) (topic : List ℕ) (e : ℕ × List ℕ) (es : List (ℕ × List ℕ)) → nat_eq alias e.0 ≡ b → topic_of alias (with_topic alias topic es) ≡ Some topic
    → topic_of alias (cond b ((e.0, topic) ∷ es) (e ∷ with_topic alias topic es)) ≡ Some topic
stands_by true alias topic e es at more = rw at refl
stands_by false alias topic e es at more = rw at more

-- what an alias stands for once it is set
pub topic_of-with_topic : (alias : ℕ) (topic : List ℕ) (topics : List (ℕ × List ℕ)) → topic_of alias (with_topic alias topic topics) ≡ Some topic
topic_of-with_topic alias topic [] = rw (own alias) refl
topic_of-with_topic alias topic (e ∷ es) = stands_by (nat_eq alias e.0) alias topic e es refl (topic_of-with_topic alias topic es)
