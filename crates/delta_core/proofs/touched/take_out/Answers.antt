use Rattle.std.proofs.Common.{sym, ap, ◌∙◌, map, ◌∷◌, []}
use Rattle.std.proofs.lemmas.List.{map-append}
use Rattle.delta_core.specs.DirtySets.{without}
use Rattle.delta_core.proofs.TakenOut.{removed_by, without-push}
use Rattle.delta_core.proofs.touched.take_out.Goals as goal

pub loop-key-preserved : goal.loop-key-preserved
loop-key-preserved c =
    let es = c.loop-key.keys.entries in
    let k = c.in-Some.key in
    let rest = map (λ k. k.now) c.pop.new.self.items in
    ap (without rest) (c.remove.ensures.entries ∙ removed_by k.now es)
    ∙ sym (without-push rest k.now es)
    ∙ ap (λ ks. without ks es) (sym (ap (map (λ k. k.now)) c.in-Some.ensures.items ∙ map-append (λ k. k.now) c.pop.new.self.items (k ∷ [])))
    ∙ c.loop-key.invariant
