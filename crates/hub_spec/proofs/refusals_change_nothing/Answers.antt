use Rattle.std.proofs.Common.{◌+◌, cond, refl, ap}
use Rattle.std.proofs.lemmas.Bool.{eq-eqb}
use Rattle.hub_spec.specs.Past.{entries_of}
use Rattle.hub_spec.specs.Bases.{placed_in, shown_in}
use Rattle.hub_spec.proofs.Folding.{same_folded, touches_nothing, touches_no_header}
use Rattle.hub_spec.proofs.refusals_change_nothing.Goals as goal

pub returns : goal.returns
returns c past session n version request why = record {
  schema = refl;
  ports = refl;
  accepted = λ port. refl;
  closed = λ port. refl;
  taken = λ port. refl;
  waiting = λ port. refl;
  applied = refl;
  version = refl;
  store = refl;
  views = refl;
  opened = λ other. refl;
  base = λ s number. refl;
  dirty = λ s number. touches_nothing past (placed_in past s number) s number;
  head_dirty = λ s number. touches_no_header past (shown_in past s number) s number;
  folded = λ s number. same_folded past session n version s number request why;
  own_count = ap (λ own. cond own (entries_of past session + 1) (entries_of past session)) (eq-eqb session session refl);
  other_counts = λ other apart. ap (λ own. cond own (entries_of past other + 1) (entries_of past other)) apart;
}
