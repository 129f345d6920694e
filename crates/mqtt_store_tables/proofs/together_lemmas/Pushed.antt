-- Values that are pushed as parameters.
use Rattle.std.proofs.Common.{◌≡◌, List, ◌++◌, Result, OnOk, ap, ◌∙◌}
use Rattle.std.proofs.lemmas.List.{map-append}
use Rattle.std.proofs.lemmas.Result.{on_ok_weaker}
use Rattle.sqlite_value.specs.declared.value.ValueRef.{ValueRef}
use Rattle.sqlite_value.specs.Value.{owned}
use Rattle.sqlite_value.specs.Order.{Row}
use Rattle.sqlite.specs.Values.{bound, bound_value}

-- what was pushed is bound as the row that it is equal to
pub pushed : {A E : Type 0} (old new : List ValueRef) (r : Result A E) (row : Row) (values : List ValueRef) → OnOk r (new ≡ old ++ values) → bound values ≡ row → OnOk r (bound new ≡ bound old ++ row)
pushed old new r row values h is = on_ok_weaker r (λ done. ap bound done ∙ (map-append (λ v. bound_value (owned v)) old values ∙ ap (λ (rest : Row). bound old ++ rest) is)) h
