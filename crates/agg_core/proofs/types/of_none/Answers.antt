use Rattle.std.proofs.Common.{[], refl, sym, ap, ◌∙◌}
use mathlib.Core.Logic.{⊎_elim}
use Rattle.agg_core.specs.Aggregates.{aggregate}
use Rattle.agg_core.proofs.Fractions.{mean-none}
use Rattle.agg_core.proofs.types.of_none.Goals as goal

pub returns-in-Mean : goal.returns-in-Mean
returns-in-Mean c =
    ⊎_elim (λ is. mean-none [] 0 refl refl ∙ sym (ap (λ name. aggregate name []) is)) (λ is. mean-none [] 0 refl refl ∙ sym (ap (λ name. aggregate name []) is)) c.in-Mean.is
