-- What a PUBLISH means, beside the words of mqtt_topic on names and aliases.
use Rattle.std.proofs.Common.{◌≡◌, ◌≢◌, ℕ, Bool, true, false, cond, not, ◌&&◌, List, [], ◌∷◌, Option, Some, None, refl, sym, ap, ◌∙◌}
use Rattle.std.proofs.lemmas.Bool.{and_from, ltb-true, leb-true, lt-ltb, le-leb, false_from_ne_true}
use Rattle.mqtt_base.specs.Codes.{protocol_error, topic_name_invalid, topic_alias_invalid}
use Rattle.mqtt_topic.specs.declared.names.fault.TopicFault.{TopicFault}
use Rattle.mqtt_topic.specs.declared.names.fault.TopicFault.TheVariants.{Empty, WildcardInName, WildcardPlace, Share, AliasRange, AliasUnknown, Memory, NotText}
use Rattle.mqtt_topic.specs.names.Names.{has_wildcard, IsTopicName, RefusesName}
use Rattle.mqtt_topic.specs.names.Aliases.{AliasTable, IsInRange, Resolves, RefusesTopic, RefusesAlias, topic_of}
use Rattle.mqtt_rules.specs.step.Inbound.{Meaning, Means, Wrong, named, known, named_by, is_in_range, resolved, topic_code}

-- ---- a topic of its own

named_means : (topic name : List ℕ) → name ≡ topic → IsTopicName topic → named topic ≡ Means name
named_means [] name e is = absurd (is.some refl)
named_means (c ∷ cs) name e is =
    ap (λ w. cond (not w) (Means (c ∷ cs)) (Wrong topic_name_invalid)) is.plain ∙ ap Means (sym e)

named_only : (topic name : List ℕ) → named topic ≡ Means name → (name ≡ topic) × IsTopicName topic
named_only [] name e = absurd (cc)
named_only (c ∷ cs) name e = by_plain (has_wildcard (c ∷ cs)) refl e
  where
    by_plain : (w : Bool) → has_wildcard (c ∷ cs) ≡ w → cond (not w) (Means (c ∷ cs)) (Wrong topic_name_invalid) ≡ Means name
        → (name ≡ c ∷ cs) × IsTopicName (c ∷ cs)
    by_plain true h f = absurd (cc)
    by_plain false h f = let same : (c ∷ cs) ≡ name = cc in (sym same, record { some = λ none. absurd (cc); plain = h })

named_refused : (topic : List ℕ) (fault : TopicFault) → fault ≢ Memory → fault ≢ NotText → RefusesName topic fault → named topic ≡ Wrong (topic_code fault)
named_refused topic Empty some fits r = ap named r
named_refused [] WildcardInName some fits r = absurd (r.0 refl)
named_refused (c ∷ cs) WildcardInName some fits r = ap (λ w. cond (not w) (Means (c ∷ cs)) (Wrong topic_name_invalid)) r.1
named_refused topic WildcardPlace some fits r = absurd r
named_refused topic Share some fits r = absurd r
named_refused topic AliasRange some fits r = absurd r
named_refused topic AliasUnknown some fits r = absurd r
named_refused topic Memory some fits r = absurd (some refl)
named_refused topic NotText some fits r = absurd (fits refl)

-- ---- with an alias

both : (x y : Bool) → (x && y) ≡ true → (x ≡ true) × (y ≡ true)
both true y e = (refl, e)
both false y e = absurd (cc)

in_range : (max alias : ℕ) → IsInRange max alias → is_in_range max alias ≡ true
in_range max alias r = and_from _ _ (lt-ltb 0 alias r.above) (le-leb alias max r.within)

in_range_only : (max alias : ℕ) → is_in_range max alias ≡ true → IsInRange max alias
in_range_only max alias e =
    let parts = both _ _ e in
    record { above = ltb-true 0 alias parts.0; within = leb-true alias max parts.1 }

out_of_range : (max alias : ℕ) → (IsInRange max alias → ⊥) → is_in_range max alias ≡ false
out_of_range max alias none = false_from_ne_true (is_in_range max alias) (λ e. none (in_range_only max alias e))

known_only : (o : Option (List ℕ)) (name : List ℕ) → known o ≡ Means name → o ≡ Some name
known_only None name e = absurd (cc)
known_only (Some topic) name e = cc

by_refused : (table : AliasTable) (topic : List ℕ) (alias : ℕ) (fault : TopicFault) → fault ≢ Memory → fault ≢ NotText → RefusesTopic table topic alias fault
    → named_by table topic alias ≡ Wrong (topic_code fault)
by_refused table [] alias Empty some fits r = absurd r
by_refused table [] alias WildcardInName some fits r = absurd r
by_refused table [] alias WildcardPlace some fits r = absurd r
by_refused table [] alias Share some fits r = absurd r
by_refused table [] alias AliasRange some fits r = absurd r
by_refused table [] alias AliasUnknown some fits r = ap known r
by_refused table [] alias Memory some fits r = absurd (some refl)
by_refused table [] alias NotText some fits r = absurd r
by_refused table (c ∷ cs) alias fault some fits r = named_refused (c ∷ cs) fault some fits r

-- ---- both

-- a topic that resolves has the meaning that it resolves to
pub resolved_means : (table : AliasTable) (topic : List ℕ) (alias : Option ℕ) (name : List ℕ) → Resolves table topic alias name → resolved table topic alias ≡ Means name
resolved_means table topic None name r = named_means topic name r.0 r.1
resolved_means table [] (Some alias) name r =
    ap (λ t. cond t (known (topic_of alias table.topics)) (Wrong topic_alias_invalid)) (in_range table.max alias r.0) ∙ ap known r.1
resolved_means table (c ∷ cs) (Some alias) name r =
    ap (λ t. cond t (named (c ∷ cs)) (Wrong topic_alias_invalid)) (in_range table.max alias r.0) ∙ named_means (c ∷ cs) name r.1 r.2

within : (t : Bool) (x : Meaning) (name : List ℕ) → cond t x (Wrong topic_alias_invalid) ≡ Means name → (t ≡ true) × (x ≡ Means name)
within true x name e = (refl, e)
within false x name e = absurd (cc)

-- and the meaning comes from resolving alone
pub resolved_only : (table : AliasTable) (topic : List ℕ) (alias : Option ℕ) (name : List ℕ) → resolved table topic alias ≡ Means name → Resolves table topic alias name
resolved_only table topic None name e = named_only topic name e
resolved_only table [] (Some alias) name e =
    let parts = within (is_in_range table.max alias) (known (topic_of alias table.topics)) name e in
    (in_range_only table.max alias parts.0, known_only (topic_of alias table.topics) name parts.1)
resolved_only table (c ∷ cs) (Some alias) name e =
    let parts = within (is_in_range table.max alias) (named (c ∷ cs)) name e in
    let own = named_only (c ∷ cs) name parts.1 in
    (in_range_only table.max alias parts.0, own.0, own.1)

beyond : (table : AliasTable) (topic : List ℕ) (alias : ℕ) (fault : TopicFault) → fault ≢ Memory → fault ≢ NotText
    → IsInRange table.max alias × RefusesTopic table topic alias fault → resolved table topic (Some alias) ≡ Wrong (topic_code fault)
beyond table topic alias fault some fits r =
    ap (λ t. cond t (named_by table topic alias) (Wrong topic_alias_invalid)) (in_range table.max alias r.0)
    ∙ by_refused table topic alias fault some fits r.1

-- an alias that is refused has no meaning, but a reason code
pub resolved_refused : (table : AliasTable) (topic : List ℕ) (alias : Option ℕ) (fault : TopicFault) → fault ≢ Memory → fault ≢ NotText → RefusesAlias table topic alias fault
    → resolved table topic alias ≡ Wrong (topic_code fault)
resolved_refused table topic None fault some fits r = named_refused topic fault some fits r
resolved_refused table topic (Some alias) AliasRange some fits r =
    ap (λ t. cond t (named_by table topic alias) (Wrong topic_alias_invalid)) (out_of_range table.max alias r)
resolved_refused table topic (Some alias) Empty some fits r = beyond table topic alias Empty some fits r
resolved_refused table topic (Some alias) WildcardInName some fits r = beyond table topic alias WildcardInName some fits r
resolved_refused table topic (Some alias) WildcardPlace some fits r = beyond table topic alias WildcardPlace some fits r
resolved_refused table topic (Some alias) Share some fits r = beyond table topic alias Share some fits r
resolved_refused table topic (Some alias) AliasUnknown some fits r = beyond table topic alias AliasUnknown some fits r
resolved_refused table topic (Some alias) Memory some fits r = absurd (some refl)
resolved_refused table topic (Some alias) NotText some fits r = absurd (fits refl)

-- ---- a Subscription Identifier comes first

-- a PUBLISH without a Subscription Identifier is read on
pub unless_identified : (t : Bool) (x : Meaning) → t ≡ false → cond t (Wrong protocol_error) x ≡ x
unless_identified t x e = ap (λ b. cond b (Wrong protocol_error) x) e

-- one with a Subscription Identifier is a protocol error
pub if_identified : (t : Bool) (x : Meaning) → t ≡ true → cond t (Wrong protocol_error) x ≡ Wrong protocol_error
if_identified t x e = ap (λ b. cond b (Wrong protocol_error) x) e

-- a PUBLISH that has a meaning has no Subscription Identifier
pub identified_only : (t : Bool) (x : Meaning) (name : List ℕ) → cond t (Wrong protocol_error) x ≡ Means name → x ≡ Means name
identified_only true x name e = absurd (cc)
identified_only false x name e = e
