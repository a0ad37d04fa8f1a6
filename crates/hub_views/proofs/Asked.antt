-- The requests that ask for a change of a view.
use Rattle.std.proofs.Common.{◌≡◌, ℕ, ◌+◌, false, List, [], ◌∷◌, map, Option, Some, None, Result, Ok, Err, refl, ap, ◌∙◌}
use Rattle.std.specs.Prelude.{is_none, not, option_map, position, unwrap_or}
use Rattle.cell_core.specs.RawData.{RawData}
use Rattle.cell_core.specs.RawViews.{raw_view}
use Rattle.cell_core.specs.Schemas.{SchemaData}
use Rattle.cell_core.specs.declared.cell.Cell.{Cell}
use Rattle.delta_core.specs.Rows.{has_row}
use Rattle.frame_types.specs.Asks.{Ask}
use Rattle.frame_types.specs.Asks as ask
use Rattle.frame_types.specs.Refusals.{no_row, no_table, no_view}
use Rattle.frame_types.specs.declared.reply.Body.TheVariants as body
use Rattle.frame_types.specs.declared.reply.Refusal.{Refusal}
use Rattle.plan_types.specs.declared.plan.Plan.{Plan}
use Rattle.table_core.specs.Tables.{TableData}
use Rattle.view_types.specs.declared.key.ViewKey.TheVariants.{Group}
use Rattle.hub_spec.specs.Past.{PastStep}
use Rattle.hub_spec.specs.Answers.{edited_answer, faulty_plan, first_of, full_of_singles, group_checks, lost_view, refused_if, view_checks, whole_path, without_view}
use Rattle.hub_spec.specs.Bases.{shown_by}
use Rattle.hub_spec.specs.Giving.{Gives, plain_in}
use Rattle.hub_spec.specs.HeldViews.{HeldView, changed_at, held_view, shown, views, with_edited}
use Rattle.hub_spec.specs.Ports as history
use Rattle.hub_spec.specs.Plans.{plan_asked}
use Rattle.hub_spec.specs.Rows.{no_schema, schema_or_none}
use Rattle.hub_views.specs.Changing.{Pass, asked_by, effect_of, group_tests, replanned}
use Rattle.hub_views.specs.Keeping.{HoldsViews, asked_at, is_kept}
use Rattle.hub_views.specs.Keeping as keeping
use Rattle.hub_views.specs.Live.{view_data}
use Rattle.hub_views.specs.Tables.{HoldsTable}
use Rattle.hub_views.specs.declared.change.Change.{Change}
use Rattle.hub_views.specs.declared.change.Change.TheVariants as change
use Rattle.hub_views.specs.declared.view.View.{View}
use Rattle.hub_views.specs.declared.views.Views.{Views}
use Rattle.hub_views.proofs.Asking.{unasked_refused}
use Rattle.hub_views.proofs.Changes.{IsAsking, change_step, made_by}
use Rattle.hub_views.proofs.Lists.{none_placed}
use Rattle.hub_views.proofs.Standing.{data_asked_err}

-- ---- the tests of each, where a table was made

abbrev edit_tests : List PastStep → RawData → Option HeldView → List (Option Refusal)
edit_tests past asked o = refused_if (is_none o) no_view ∷ lost_view o ∷ faulty_plan (plan_asked (schema_or_none past) asked) ∷ []

edit_plain : (past : List PastStep) (session number : ℕ) (asked : RawData) → is_none (history.schema past) ≡ false
    → plain_in past session (ask.edit_view number asked) ≡ first_of (edit_tests past asked (held_view past session number)) (edited_answer number (held_view past session number))
edit_plain past session number asked made =
    let o = held_view past session number in
    ap (λ b. first_of (refused_if b no_table ∷ edit_tests past asked o) (edited_answer number o)) made

abbrev depth_tests : Option HeldView → List (Option Refusal)
depth_tests o = refused_if (is_none o) no_view ∷ lost_view o ∷ []

depth_plain : (past : List PastStep) (session number : ℕ) → is_none (history.schema past) ≡ false
    → first_of (view_checks past session number) (edited_answer number (held_view past session number))
    ≡ first_of (depth_tests (held_view past session number)) (edited_answer number (held_view past session number))
depth_plain past session number made =
    let o = held_view past session number in
    ap (λ b. first_of (refused_if b no_table ∷ depth_tests o) (edited_answer number o)) made

abbrev path_tests : List PastStep → List Cell → Option HeldView → List (Option Refusal)
path_tests past path o =
    refused_if (is_none o) no_view ∷ lost_view o ∷ refused_if (not (has_row (Group path) (shown_by past o).rows)) no_row ∷ whole_path o path ∷ full_of_singles o path ∷ []

group_plain : (past : List PastStep) (session number : ℕ) (path : List Cell) → is_none (history.schema past) ≡ false
    → first_of (group_checks past session number path) (edited_answer number (held_view past session number))
    ≡ first_of (path_tests past path (held_view past session number)) (edited_answer number (held_view past session number))
group_plain past session number path made =
    let o = held_view past session number in
    ap (λ b. first_of (refused_if b no_table ∷ path_tests past path o) (edited_answer number o)) made

-- ---- each asks for its change

schema_is : (t : TableData) (version : ℕ) (past : List PastStep) → HoldsTable t version past → schema_or_none past ≡ t.schema
schema_is t version past h = ap (λ (o : Option SchemaData). unwrap_or o no_schema) h.schema

replanned_views : (past : List PastStep) (session number n at edit : ℕ) (asked : RawData) (schema : SchemaData) (r : Result Plan Refusal) → schema_or_none past ≡ schema
    → plan_asked schema asked ≡ r → Pass (faulty_plan r ∷ [])
    → views (change_step session number (ask.edit_view number asked) n at edit ∷ past) ≡ map (changed_at session number (made_by (replanned schema.columns r))) (views past)
replanned_views past session number n at edit asked schema (Err why) same is passed = absurd (let wrong : body.Refused why ≡ body.Table = passed body.Table in cc)
replanned_views past session number n at edit asked schema (Ok plan) same is passed =
    ap (λ (s : SchemaData). with_edited s.columns session number (plan_asked s asked) (views past)) same
    ∙ ap (λ r. with_edited schema.columns session number r (views past)) is

asks_plan : (past : List PastStep) (session number : ℕ) (asked : RawData) (schema : SchemaData) → schema_or_none past ≡ schema
    → is_none (history.schema past) ≡ false
    → IsAsking past session number (ask.edit_view number asked) (replanned schema.columns (plan_asked schema asked))
asks_plan past session number asked schema same made = record {
  plain = λ v found. edit_plain past session number asked made ∙ ap (λ o. first_of (edit_tests past asked o) (edited_answer number o)) found
      ∙ ap (λ (s : SchemaData). first_of (lost_view (Some v) ∷ faulty_plan (plan_asked s asked) ∷ []) (body.Edited (v.edit + 1) number)) same;
  are = λ v found passed n at edit. replanned_views past session number n at edit asked schema (plan_asked schema asked) same refl passed;
  takes = refl;
}

path_found : (past : List PastStep) (session number : ℕ) (path : List Cell) (v : HeldView) → is_none (history.schema past) ≡ false → held_view past session number ≡ Some v
    → first_of (group_checks past session number path) (edited_answer number (held_view past session number))
    ≡ first_of (lost_view (Some v) ∷ group_tests path (shown past v) v.plan v.opening) (body.Edited (v.edit + 1) number)
path_found past session number path v made found =
    group_plain past session number path made ∙ ap (λ o. first_of (path_tests past path o) (edited_answer number o)) found

pub asks_change : (past : List PastStep) (session number version : ℕ) (c : Change) (t : TableData) → HoldsTable t version past
    → is_none (history.schema past) ≡ false → IsAsking past session number (asked_by number c) (effect_of t.schema c)
asks_change past session number version (change.Plan asked) t table made =
    asks_plan past session number (raw_view asked) t.schema (schema_is t version past table) made
asks_change past session number version (change.Depth depth) t table made = record {
  plain = λ v found. depth_plain past session number made ∙ ap (λ o. first_of (depth_tests o) (edited_answer number o)) found;
  are = λ v found passed n at edit. refl;
  takes = refl;
}
asks_change past session number version (change.Expand path) t table made = record {
  plain = λ v found. path_found past session number path v made found;
  are = λ v found passed n at edit. refl;
  takes = refl;
}
asks_change past session number version (change.Collapse path) t table made = record {
  plain = λ v found. path_found past session number path v made found;
  are = λ v found passed n at edit. refl;
  takes = refl;
}

-- ---- no view of that number

record IsOfView (past : List PastStep) (session number : ℕ) (request : Ask) : Type 0 where
  rest : List (Option Refusal)
  plain : plain_in past session request ≡ first_of (without_view past session number ∷ lost_view (held_view past session number) ∷ rest) (edited_answer number (held_view past session number))

of_path : (past : List PastStep) (session number : ℕ) (request : Ask) (path : List Cell) → is_none (history.schema past) ≡ false
    → plain_in past session request ≡ first_of (group_checks past session number path) (edited_answer number (held_view past session number))
    → IsOfView past session number request
of_path past session number request path made is = record {
  rest = refused_if (not (has_row (Group path) (shown_by past (held_view past session number)).rows)) no_row
      ∷ whole_path (held_view past session number) path ∷ full_of_singles (held_view past session number) path ∷ [];
  plain = is ∙ group_plain past session number path made;
}

of_view : (past : List PastStep) (session number : ℕ) (c : Change) → is_none (history.schema past) ≡ false → IsOfView past session number (asked_by number c)
of_view past session number (change.Plan asked) made = record {
  rest = faulty_plan (plan_asked (schema_or_none past) (raw_view asked)) ∷ [];
  plain = edit_plain past session number (raw_view asked) made;
}
of_view past session number (change.Depth depth) made = record { rest = []; plain = depth_plain past session number made }
of_view past session number (change.Expand path) made = of_path past session number (ask.expand number path) path made refl
of_view past session number (change.Collapse path) made = of_path past session number (ask.collapse number path) path made refl

pub change_finds_none : (v : Views) (t : TableData) (past : List PastStep) (session number : ℕ) (c : Change) → HoldsViews v t past
    → position (is_kept session number) v.items.items ≡ None → Gives past session (asked_by number c) (body.Refused no_view) (HoldsViews v t)
unfolding HoldsViews
change_finds_none v t past session number c h none =
    let us : List View = v.items.items in
    let missing : asked_at session number us ≡ Err no_view = ap (λ o. keeping.asked (option_map (λ (u : View). u.state) o)) (none_placed (is_kept session number) us none) in
    let of = of_view past session number c h.0.made in
    let kept_data = unasked_refused (map view_data us) v.opened past session number (asked_by number c) of.rest
    (edited_answer number (held_view past session number)) no_view h.0 (data_asked_err session number us no_view missing) of.plain in
    record { given = kept_data.given; holds = λ n at. (kept_data.holds n at, h.1) }
