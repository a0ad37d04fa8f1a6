-- What a client was last told of a view, and what was touched since.
--
-- The base of a view is the last step that opened it, or that was answered by a delta or a resynchronisation of it.
use Rattle.std.specs.Prelude.{ℕ, ◌==◌, List, [], ◌∷◌, Bool, false, not, ◌&&◌, ◌||◌, Option, Some, None, is_none, option_and_then, unwrap_or, if◌then◌else◌}
use Rattle.view_types.specs.declared.key.ViewKey.{ViewKey}
use Rattle.view_types.specs.declared.shown.Shown.{Shown}
use Rattle.delta_core.specs.Deltas.{delta_of, marked}
use Rattle.delta_core.specs.Folding.{fold_fault, folded}
use Rattle.delta_core.specs.KeySets.{with_keys}
use Rattle.delta_core.specs.declared.delta.Delta.{Delta}
use Rattle.delta_core.specs.declared.delta.Mark.{Mark}
use Rattle.delta_core.specs.declared.folding.Held.{Held}
use Rattle.frame_types.specs.declared.reply.Body.{Body}
use Rattle.frame_types.specs.declared.reply.Body.TheVariants as body
use Rattle.view_types.specs.Same.{same_header}
use Rattle.view_spec.specs.Touching.{touched_keys}
use Rattle.view_spec.specs.Views.{placed}
use Rattle.view_spec.specs.declared.placed.PlacedRow.{PlacedRow}
use Rattle.hub_spec.specs.Past.{PastStep}
use Rattle.hub_spec.specs.HeldViews.{HeldView, held_view, shown, side}
use Rattle.hub_spec.specs.Ports.{version}

-- ---- what a view shows, and since when

abbrev pub nothing_shown : Shown
nothing_shown = record { header = []; rows = [] }

abbrev pub shown_by : List PastStep → Option HeldView → Shown
shown_by past None = nothing_shown
shown_by past (Some v) = shown past v

abbrev pub shown_in : List PastStep → ℕ → ℕ → Shown
shown_in past session number = shown_by past (held_view past session number)

abbrev pub placed_by : List PastStep → Option HeldView → List PlacedRow
placed_by past None = []
placed_by past (Some v) = placed (side past v)

-- its rows with the places by which they are sorted
abbrev pub placed_in : List PastStep → ℕ → ℕ → List PlacedRow
placed_in past session number = placed_by past (held_view past session number)

-- one header is not the other
abbrev pub header_differs : Shown → Shown → Bool
header_differs before after = not (same_header before.header after.header)

abbrev pub edit_by : Option HeldView → ℕ
edit_by None = 0
edit_by (Some v) = v.edit

-- how many batches were applied, and how many edits of the view were answered
abbrev pub mark_in : List PastStep → ℕ → ℕ → Mark
mark_in past session number = record { version = version past; edit = edit_by (held_view past session number) }

-- ---- the base

-- the answer opens the view of that number, or is a delta or a resynchronisation of it
abbrev pub tells_of : ℕ → Body → Bool
tells_of number (body.Opened edit seen view) = view == number
tells_of number (body.Delta delta view) = view == number
tells_of number (body.Resync bound edit seen view) = view == number
tells_of number _ = false

abbrev pub is_base : ℕ → ℕ → PastStep → Bool
is_base session number d = tells_of number d.reply.body && d.session == session

-- what the view showed at its base, and its mark there
abbrev pub base : List PastStep → ℕ → ℕ → Option Held
base [] session number = None
base (d ∷ past) session number =
    if is_base session number d then Some (record { shown = shown_in (d ∷ past) session number; mark = mark_in (d ∷ past) session number })
    else base past session number

abbrev pub no_base : Held
no_base = record { shown = nothing_shown; mark = record { version = 0; edit = 0 } }

abbrev pub base_or_none : List PastStep → ℕ → ℕ → Held
base_or_none past session number = unwrap_or (base past session number) no_base

-- ---- what was touched since the base

-- all keys that a step since the base touched
abbrev pub dirty : List PastStep → ℕ → ℕ → List ViewKey
dirty [] session number = []
dirty (d ∷ past) session number =
    if is_base session number d then []
    else with_keys (dirty past session number) (touched_keys (placed_in past session number) (placed_in (d ∷ past) session number))

-- whether one of these steps touched the header
abbrev pub head_dirty : List PastStep → ℕ → ℕ → Bool
head_dirty [] session number = false
head_dirty (d ∷ past) session number =
    if is_base session number d then false
    else head_dirty past session number || header_differs (shown_in past session number) (shown_in (d ∷ past) session number)

-- from what was shown at the base to what is shown now, by the dirty keys
abbrev pub delta_in : List PastStep → ℕ → ℕ → Delta
delta_in past session number =
    let was = base_or_none past session number in
    delta_of (marked was.shown.rows (dirty past session number)) (head_dirty past session number) (shown_in past session number)
    was.mark (mark_in past session number)

-- ---- what a client holds that folds each delta

abbrev pub fold_in : Delta → Held → Option Held
fold_in delta was = if is_none (fold_fault was delta) then Some (folded was delta) else None

abbrev pub folded_after : ℕ → ℕ → Body → Option Held → Option Held
folded_after number at (body.Opened edit seen view) was =
    if view == number then Some (record { shown = seen; mark = record { version = at; edit = edit } }) else was
folded_after number at (body.Delta delta view) was = if view == number then option_and_then (fold_in delta) was else was
folded_after number at (body.Resync bound edit seen view) was =
    if view == number then Some (record { shown = seen; mark = record { version = at; edit = edit } }) else was
folded_after number at _ was = was

-- the last opening or resynchronisation of the view, with the deltas after it folded in; none before it was
-- opened, or where a delta can't be folded
abbrev pub folded_in : List PastStep → ℕ → ℕ → Option Held
folded_in [] session number = None
folded_in (d ∷ past) session number =
    if d.session == session then folded_after number d.reply.version d.reply.body (folded_in past session number)
    else folded_in past session number
