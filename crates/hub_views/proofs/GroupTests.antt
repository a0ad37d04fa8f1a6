-- Why a group is not opened or closed, and why a plan is not taken.
use Rattle.std.proofs.Common.{◌≡◌, ℕ, true, false, eqb, leb, List, [], ◌∷◌, length, Option, Result, Ok, Err, inl, inr, refl, sym, ap, ◌∙◌, subst, Bool}
use Rattle.std.specs.Prelude.{not}
use Rattle.std.specs.Result.{IsErr, IsErrAnd}
use Rattle.cell_core.specs.RawData.{RawData}
use Rattle.cell_core.specs.Schemas.{SchemaData}
use Rattle.cell_core.specs.declared.cell.Cell.{Cell}
use Rattle.frame_types.specs.Refusals.{no_row, not_a_group, too_many_open}
use Rattle.frame_types.specs.declared.reply.Refusal.{Refusal}
use Rattle.table_core.specs.Tables.{TableData}
use Rattle.view_spec.specs.Views.{Side}
use Rattle.view_shape.specs.Singles.{other_singles}
use Rattle.hub_spec.specs.Answers.{faulty_plan, first_of, refused_if}
use Rattle.hub_spec.specs.Limits.{max_singles}
use Rattle.hub_spec.specs.Plans.{plan_asked}
use Rattle.hub_views.specs.Changing.{AnswersChange, IsGroupChecked, IsNotMade, opened_to, replanned}
use Rattle.hub_views.specs.declared.live.LiveView.{LiveView}
use Rattle.hub_views.proofs.AskedPlans.{not_wanted}

-- what is tested of a group once it is shown, and once it has groups below it
abbrev whole_tests : List Cell → Side → LiveView → List (Option Refusal)
whole_tests path s live = refused_if (eqb (length path) (length s.plan.group_by)) not_a_group ∷ refused_if (leb max_singles (other_singles live.opening path)) too_many_open ∷ []

abbrev open_tests : List Cell → LiveView → List (Option Refusal)
open_tests path live = refused_if (leb max_singles (other_singles live.opening path)) too_many_open ∷ []

pub not_opened : (path : List Cell) (opened : Bool) (t : TableData) (live : LiveView) (r : Result ℕ Refusal) (why : Refusal) → IsErr r × IsErrAnd r (λ e. e ≡ why)
    → IsGroupChecked path live.rows (Err why) → AnswersChange (opened_to path opened) t live live r
not_opened path opened t live (Ok edit) why h checked = absurd (let wrong : false ≡ true = h.0 in cc)
not_opened path opened t live (Err w) why h (inl missing) =
    subst (λ x. IsNotMade (opened_to path opened) t live live x) (sym (h.1 ∙ missing.1)) (record {
      still = refl;
      cause = inl (λ s stood of. record { first = λ granted. ap (λ b. first_of (refused_if (not b) no_row ∷ whole_tests path s live) granted) missing.0; unnamed = refl });
    })
not_opened path opened t live (Err w) why h (inr (inl whole)) =
    subst (λ x. IsNotMade (opened_to path opened) t live live x) (sym (h.1 ∙ whole.2)) (record {
      still = refl;
      cause = inl (λ s stood of. record {
        first = λ granted. ap (λ b. first_of (refused_if (not b) no_row ∷ whole_tests path s live) granted) whole.0
            ∙ ap (λ b. first_of (refused_if b not_a_group ∷ open_tests path live) granted) (whole.1 s stood);
        unnamed = refl;
      });
    })
not_opened path opened t live (Err w) why h (inr (inr want)) = record { still = refl; cause = inr (h.1 ∙ want) }

pub no_plan : (schema : SchemaData) (asked : RawData) (t : TableData) (live : LiveView) (r : Result ℕ Refusal) (why : Refusal) → IsErr r × IsErrAnd r (λ e. e ≡ why)
    → plan_asked schema asked ≡ Err why → AnswersChange (replanned schema.columns (plan_asked schema asked)) t live live r
no_plan schema asked t live (Ok edit) why h is = absurd (let wrong : false ≡ true = h.0 in cc)
no_plan schema asked t live (Err w) why h is =
    subst (λ x. IsNotMade (replanned schema.columns (plan_asked schema asked)) t live live x) (sym h.1) (record {
      still = refl;
      cause = inl (λ s stood of. record { first = λ granted. ap (λ x. first_of (faulty_plan x ∷ []) granted) is; unnamed = not_wanted schema asked why is });
    })
