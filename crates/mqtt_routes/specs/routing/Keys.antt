-- That subscriptions are told apart by their filters, and retained messages by their topics.
use Rattle.std.proofs.Common.{Bool, ◌∙◌}
use Rattle.std.specs.Cmp.{IsEquivalence}
use Rattle.std.specs.Cmp.Lexicographic.{nat_list_eq_equiv}
use Rattle.mqtt_routes.specs.declared.routing.subscription.Subscription.{Subscription}
use Rattle.mqtt_routes.specs.declared.routing.retained.Kept.{Kept}
use Rattle.mqtt_routes.specs.routing.Subscriptions.{is_to}
use Rattle.mqtt_routes.specs.routing.Retained.{is_of}

-- the second is to the filter of the first
abbrev pub same_filter : Subscription → Subscription → Bool
same_filter x y = is_to x.filter y

pub same_filter_equiv : IsEquivalence same_filter
same_filter_equiv = record {
  refl = λ x. nat_list_eq_equiv.refl x.filter;
  symm = λ x y. nat_list_eq_equiv.symm y.filter x.filter;
  congr = λ x y z h. nat_list_eq_equiv.symm z.filter x.filter ∙ nat_list_eq_equiv.congr x.filter y.filter z.filter (nat_list_eq_equiv.symm x.filter y.filter ∙ h) ∙ nat_list_eq_equiv.symm y.filter z.filter;
}

-- the second is of the topic of the first
abbrev pub same_topic : {M : Type 0} → Kept M → Kept M → Bool
same_topic x y = is_of x.topic y

pub same_topic_equiv : {M : Type 0} → IsEquivalence (same_topic {M = M})
same_topic_equiv = record {
  refl = λ x. nat_list_eq_equiv.refl x.topic;
  symm = λ x y. nat_list_eq_equiv.symm y.topic x.topic;
  congr = λ x y z h. nat_list_eq_equiv.symm z.topic x.topic ∙ nat_list_eq_equiv.congr x.topic y.topic z.topic (nat_list_eq_equiv.symm x.topic y.topic ∙ h) ∙ nat_list_eq_equiv.symm y.topic z.topic;
}
