-- The order of spots: by the text's bytes, and then by the number.
use Rattle.std.specs.Prelude.{◌≡◌, ℕ, List}
use Rattle.std.proofs.Common.{ap, ◌∙◌}
use Rattle.std.specs.declared.cmp.Ordering.{Ordering}
use Rattle.std.specs.Cmp.{IsTotalOrder}
use Rattle.std.specs.Cmp.Lexicographic.{slice_cmp}
use Rattle.std.specs.Ordering.{nat_cmp, on, then_cmp}
use Rattle.std.proofs.lemmas.Cmp.{nat_cmp_total, nat_list_cmp_total, on_total, then_total}
use Rattle.rank_list.specs.Exact.{IsExact, IsExact-nat_cmp, IsExact-slice_cmp, Equal-from_then}
use Rattle.rank_bench.specs.declared.spot.Spot.{Spot}

abbrev pub spot_order : Spot → Spot → Ordering
spot_order = then_cmp (on (λ s. s.text) (slice_cmp nat_cmp)) (on (λ s. s.number) nat_cmp)

pub spot_order_total : IsTotalOrder spot_order
spot_order_total = then_total (on_total (λ s. s.text) nat_list_cmp_total) (on_total (λ s. s.number) nat_cmp_total)

pub spot_order_exact : IsExact spot_order
spot_order_exact x y tie =
    let both = Equal-from_then (slice_cmp nat_cmp x.text y.text) (nat_cmp x.number y.number) tie in
    let texts : x.text ≡ y.text = IsExact-slice_cmp nat_cmp IsExact-nat_cmp x.text y.text both.0 in
    let numbers : x.number ≡ y.number = IsExact-nat_cmp x.number y.number both.1 in
    let spot : List ℕ → ℕ → Spot = λ t n. record { text = t; number = n } in
    ap (λ t. spot t x.number) texts ∙ ap (λ n. spot y.text n) numbers
