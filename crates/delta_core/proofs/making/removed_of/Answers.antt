use Rattle.std.proofs.Common.{◌∙◌, sym, subst, not, ◌&&◌}
use Rattle.plain_data.specs.Distinct.{AreDistinct}
use Rattle.view_types.specs.contracts.key.ViewKeyOrd.TheImpl.{ghosts}
use Rattle.view_types.specs.contracts.key.ViewKeyOrd.TheImpl.Laws.{total-law}
use Rattle.std.specs.Map.{keys_of}
use Rattle.delta_core.specs.Rows.{has_row}
use Rattle.delta_core.proofs.DistinctRows.{AreDistinct-filter, AreDistinct-from_ascending}
use Rattle.delta_core.proofs.making.removed_of.Goals as goal

pub from_listed-requires : goal.from_listed-requires
from_listed-requires g c =
    let keys = c.args.keys.now.entries in
    let rows = (g.V.ShownNow.shown c.args.view.now).rows in
    subst (λ ks. AreDistinct ks) (sym (c.from_vec.ensures ∙ c.in_ok-removed.ensures))
    (AreDistinct-filter (λ e. e.0) (λ e. e.1.was_shown && not (has_row e.0 rows)) keys (AreDistinct-from_ascending ghosts.cmp total-law (keys_of keys) c.len-ascending.ensures.ordered))
