use Rattle.std.proofs.Common.{ap, sym, ◌∙◌}
use Rattle.key_map.specs.Keyed.{index_of}
use Rattle.live_list.specs.Live.{live_key}
use Rattle.live_list.proofs.Indexed.{place_told}
use Rattle.live_list.proofs.list.LiveList.position.Goals as goal

pub returns : goal.returns
returns g c =
    place_told c.self.inside.rows c.self.inside.places c.args.key.now c.in_ok-place.place.now c.self.invariant c.len-count.ensures.ascending (sym c.in_ok-place.ensures)
    c.place_of.result c.place_of.ensures.there c.place_of.ensures.found
    ∙ ap (index_of live_key c.args.key.now) c.self.view_is
