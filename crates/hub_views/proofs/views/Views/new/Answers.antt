use Rattle.std.proofs.Common.{map, refl, sym, ap, ◌∙◌, subst}
use Rattle.std.proofs.lemmas.List.{get_or-replicate}
use Rattle.frame_types.specs.Limits.{sessions}
use Rattle.hub_spec.specs.HeldViews.{opened_count}
use Rattle.hub_views.specs.Keeping.{AreNumbered, HoldsViews, kept_view}
use Rattle.hub_views.specs.Live.{view_data}
use Rattle.hub_views.proofs.views.Views.new.Goals as goal

pub returns : goal.returns
unfolding HoldsViews
returns c = λ t past h. (
  record {
    made = h.made;
    views = ap (map view_data) c.new.ensures.items ∙ sym (ap (map (kept_view past)) h.views);
    size = refl;
    opened = λ session lt. get_or-replicate sessions session 0 0 lt ∙ sym (h.opened session);
    numbered = subst (AreNumbered (opened_count past)) (sym h.views) tt;
  },
  rw (c.new.ensures.items, h.views) tt,
)
