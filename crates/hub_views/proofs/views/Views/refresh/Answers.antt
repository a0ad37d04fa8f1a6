use Rattle.std.proofs.Common.{◌≡◌, ◌++◌, List, IsPermutation, ℕ, length, refl, ap, ◌∙◌, subst, arith}
use Rattle.hub_views.specs.Refreshing.{HasRoom, losses}
use Rattle.hub_views.proofs.Losses.{are_losses, refreshed_views}
use Rattle.hub_views.proofs.views.Views.refresh.Goals as goal

pub refresh_each-requires : goal.refresh_each-requires
unfolding HasRoom
refresh_each-requires g c = omega (arith, c.requires.1, ap length c.requires.0)

pub returns-clause-lost : goal.returns-clause-lost
unfolding HasRoom
returns-clause-lost g c = λ was past h.
    let before = c.args.self.now in
    let ws = c.refresh_each.new.views.items in
    let names : c.refresh_each.new.lost.items ≡ losses before.items.items ws = c.refresh_each.ensures.lost ∙ ap (λ l. l ++ losses before.items.items ws) c.requires.0 in
    rw c.from_vec.ensures
    (are_losses before ws was past c.sort_unstable.new.self.items h
    (subst (λ (l : List (ℕ × ℕ)). IsPermutation l c.sort_unstable.new.self.items) names c.sort_unstable.ensures.permutation) c.sort_unstable.ensures.sorted)

pub returns-clause-holds : goal.returns-clause-holds
unfolding HasRoom
returns-clause-holds g c = λ was steps past h number session n at port seq request table table_now.
    let before = c.args.self.now in
    let ws = c.refresh_each.new.views.items in
    let names : c.refresh_each.new.lost.items ≡ losses before.items.items ws = c.refresh_each.ensures.lost ∙ ap (λ l. l ++ losses before.items.items ws) c.requires.0 in
    let moved : IsPermutation (losses before.items.items ws) c.sort_unstable.new.self.items =
    subst (λ (l : List (ℕ × ℕ)). IsPermutation l c.sort_unstable.new.self.items) names c.sort_unstable.ensures.permutation in
    refreshed_views before _ past was c.args.table.now c.args.changes.now number c.args.version session n at port seq request _ h c.refresh_each.ensures.refreshed refl
    (rw c.from_vec.ensures moved) steps table table_now
