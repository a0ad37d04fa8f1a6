-- The views that sessions hold, and what they show.
use Rattle.std.specs.Prelude.{ℕ, ◌+◌, ◌==◌, List, [], ◌∷◌, ◌++◌, filter, map, length, find, Bool, true, false, not, ◌&&◌, Option, Some, None, is_none, Result, Ok, Err, if◌then◌else◌}
use Rattle.std.specs.List.{list_any}
use Rattle.std.specs.Str.{bytes_eq}
use Rattle.cell_core.specs.declared.schema.Column.{Column}
use Rattle.frame_types.specs.Asks.{Ask}
use Rattle.frame_types.specs.Asks as ask
use Rattle.frame_types.specs.declared.reply.Body.{Body}
use Rattle.frame_types.specs.declared.reply.Body.TheVariants as body
use Rattle.frame_types.specs.declared.reply.Refusal.{Refusal}
use Rattle.plan_types.specs.declared.plan.Plan.{Plan}
use Rattle.view_types.specs.declared.shown.Shown.{Shown}
use Rattle.view_spec.specs.Columns.{column_at}
use Rattle.view_spec.specs.Openings.{Opening, first_opening}
use Rattle.view_spec.specs.Views.{Side, view}
use Rattle.view_shape.specs.Singles.{with_single}
use Rattle.hub_spec.specs.Past.{PastStep, times}
use Rattle.hub_spec.specs.Plans.{plan_asked}
use Rattle.hub_spec.specs.Ports.{version_after}
use Rattle.hub_spec.specs.Rows.{schema_or_none, rows}

-- a view that a session holds
pub record HeldView : Type 0 where
  pub session : ℕ
  pub number : ℕ
  pub plan : Plan
  pub opening : Opening
  -- the most keys that may be touched since the view's base before all that it shows is sent anew
  pub bound : ℕ
  -- how many edits of its plan or its opening were answered
  pub edit : ℕ
  -- the version at which an update of the view found no memory
  pub lost : Option ℕ

abbrev pub is_opened_in : ℕ → PastStep → Bool
is_opened_in session d = is_opened d.reply.body && d.session == session
  where
    is_opened : Body → Bool
    is_opened (body.Opened edit seen view) = true
    is_opened _ = false

-- how many views the session has opened; they are numbered from 0
abbrev pub opened_count : List PastStep → ℕ → ℕ
opened_count past session = times (is_opened_in session) past

abbrev pub is_view : ℕ → ℕ → HeldView → Bool
is_view session number v = v.session == session && v.number == number

abbrev pub lost_at : ℕ → List (ℕ × ℕ) → HeldView → HeldView
lost_at at lost v = if list_any (λ (w : ℕ × ℕ). is_view w.0 w.1 v) lost then record v { lost = Some at } else v

abbrev pub opened_view : ℕ → ℕ → Plan → ℕ → HeldView
opened_view session number plan bound = record {
  session = session;
  number = number;
  plan = plan;
  opening = first_opening plan;
  bound = bound;
  edit = 0;
  lost = None;
}

-- one more, where its plan could be read
abbrev pub with_opened : ℕ → ℕ → ℕ → Result Plan Refusal → List HeldView → List HeldView
with_opened session number bound (Ok plan) all = all ++ opened_view session number plan bound ∷ []
with_opened session number bound (Err why) all = all

-- ---- edits

-- the names of the columns by which a plan groups, in order
abbrev pub group_names : List Column → Plan → List (List ℕ)
group_names columns plan = map (λ i. (column_at columns plan i).name) plan.group_by

abbrev pub same_names : List (List ℕ) → List (List ℕ) → Bool
same_names [] [] = true
same_names [] (m ∷ ms) = false
same_names (n ∷ ns) [] = false
same_names (n ∷ ns) (m ∷ ms) = bytes_eq n m && same_names ns ms

-- an opening stays where the plan groups by columns of the same names in the same order, and is else that of a new view
abbrev pub opening_after : List Column → Plan → Plan → Opening → Opening
opening_after columns before after opening = if same_names (group_names columns before) (group_names columns after) then opening else first_opening after

abbrev pub edited : List Column → Plan → HeldView → HeldView
edited columns plan v = record v { plan = plan; opening = opening_after columns v.plan plan v.opening; edit = v.edit + 1 }

-- all groups whose paths are shorter are open, and the others are not
abbrev pub to_depth : ℕ → Opening → Opening
to_depth depth opening = record { depth = depth; singles = [] }

abbrev pub reopened : (Opening → Opening) → HeldView → HeldView
reopened change v = record v { opening = change v.opening; edit = v.edit + 1 }

-- the view of that number is changed, and the others stay
abbrev pub changed_at : ℕ → ℕ → (HeldView → HeldView) → HeldView → HeldView
changed_at session number change v = if is_view session number v then change v else v

abbrev pub with_changed : ℕ → ℕ → (HeldView → HeldView) → List HeldView → List HeldView
with_changed session number change all = map (changed_at session number change) all

abbrev pub with_edited : List Column → ℕ → ℕ → Result Plan Refusal → List HeldView → List HeldView
with_edited columns session number (Ok plan) all = with_changed session number (edited columns plan) all
with_edited columns session number (Err why) all = all

-- ---- the views that are held

abbrev pub with_view : List PastStep → ℕ → Body → Ask → List HeldView → List HeldView
with_view past session (body.Opened edit seen view) (ask.open_view plan bound) all = with_opened session view bound (plan_asked (schema_or_none past) plan) all
with_view past session (body.Edited edit view) (ask.edit_view number plan) all = with_edited (schema_or_none past).columns session number (plan_asked (schema_or_none past) plan) all
with_view past session (body.Edited edit view) (ask.depth number depth) all = with_changed session number (reopened (to_depth depth)) all
with_view past session (body.Edited edit view) (ask.expand number path) all = with_changed session number (reopened (λ o. with_single o path true)) all
with_view past session (body.Edited edit view) (ask.collapse number path) all = with_changed session number (reopened (λ o. with_single o path false)) all
with_view past session (body.AppliedLosing lost port seq) request all = map (lost_at (version_after past (body.AppliedLosing lost port seq)) lost) all
with_view past session (body.Closed view) request all = filter (λ v. not (is_view session view v)) all
with_view past session (body.Left closed) request all = filter (λ v. not (v.session == session)) all
with_view past session _ request all = all

-- the views that are held, in the order in which they were opened
abbrev pub views : List PastStep → List HeldView
views [] = []
views (d ∷ past) = with_view past d.session d.reply.body d.request (views past)

abbrev pub held_view : List PastStep → ℕ → ℕ → Option HeldView
held_view past session number = find (is_view session number) (views past)

-- how many views the session holds
abbrev pub held_by : List PastStep → ℕ → ℕ
held_by past session = length (filter (λ v. v.session == session) (views past))

-- a view that is held and not lost
abbrev pub is_live : List PastStep → ℕ × ℕ → Bool
is_live past w = list_any (λ v. is_view w.0 w.1 v && is_none v.lost) (views past)

-- the table's columns and rows, as a view sees them
abbrev pub side : List PastStep → HeldView → Side
side past v = record { columns = (schema_or_none past).columns; plan = v.plan; opening = v.opening; pairs = rows past }

-- what a view shows, computed from the rows
abbrev pub shown : List PastStep → HeldView → Shown
shown past v = view (side past v)
