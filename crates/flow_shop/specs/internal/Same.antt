-- That instances are the same is an equivalence, as `==` has to be.
use Rattle.std.specs.Cmp.{IsEquivalence, and_equiv, on_equiv, nat_eq_equiv}
use Rattle.std.specs.Cmp.Lexicographic.{nat_list_eq_equiv}
use Rattle.flow_shop.specs.Shop.{is_same_shop}

-- it is reflexive, symmetric and transitive
pub is_same_shop-equiv : IsEquivalence is_same_shop
is_same_shop-equiv =
    and_equiv
    (and_equiv (on_equiv (λ shop. shop.jobs) nat_eq_equiv) (on_equiv (λ shop. shop.machines) nat_eq_equiv))
    (on_equiv (λ shop. shop.times) nat_list_eq_equiv)
