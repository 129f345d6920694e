-- Worked rows of names, filters and matching, by computing (MQTT 5.0, 4.7 and 4.8.2).
use Rattle.std.proofs.Common.{◌≡◌, true, false, refl, codes, [], ◌∷◌, Some}
use Rattle.mqtt_topic.specs.names.Levels.{levels}
use Rattle.mqtt_topic.specs.names.Filters.{is_filter, group_of, share_name_of, matching_part_of}
use Rattle.mqtt_topic.specs.names.Matching.{is_match}
use Rattle.mqtt_topic.specs.names.Aliases.{topic_of, with_topic}

a_slash_makes_two_levels : levels (codes "/") ≡ [] ∷ [] ∷ []
a_slash_makes_two_levels = refl

finance_by_a_plus : is_match (codes "/+") (codes "/finance") ≡ true
finance_by_a_plus = refl

finance_by_two : is_match (codes "+/+") (codes "/finance") ≡ true
finance_by_two = refl

finance_not_by_one : is_match (codes "+") (codes "/finance") ≡ false
finance_not_by_one = refl

sport_by_its_children : is_match (codes "sport/#") (codes "sport") ≡ true
sport_by_its_children = refl

sys_by_its_own : is_match (codes "$SYS/#") (codes "$SYS/x") ≡ true
sys_by_its_own = refl

sys_not_by_all : is_match (codes "#") (codes "$SYS/x") ≡ false
sys_not_by_all = refl

a_hash_stands_last : is_filter (codes "sport/#/x") ≡ false
a_hash_stands_last = refl

a_plus_stands_alone : is_filter (codes "sport+") ≡ false
a_plus_stands_alone = refl

a_share_needs_a_name : is_filter (codes "$share//a") ≡ false
a_share_needs_a_name = refl

a_share_needs_a_filter : is_filter (codes "$share/g") ≡ false
a_share_needs_a_filter = refl

a_shared_filter : is_filter (codes "$share/g/a/#") ≡ true
a_shared_filter = refl

its_group : group_of (codes "$share/g/a/#") ≡ codes "g/a/#"
its_group = refl

its_name : share_name_of (codes "$share/g/a/#") ≡ codes "g"
its_name = refl

its_filter : matching_part_of (codes "$share/g/a/#") ≡ codes "a/#"
its_filter = refl

a_plain_part : matching_part_of (codes "a/#") ≡ codes "a/#"
a_plain_part = refl

the_last_topic_counts : topic_of 3 (with_topic 3 (codes "b") (with_topic 3 (codes "a") [])) ≡ Some (codes "b")
the_last_topic_counts = refl
