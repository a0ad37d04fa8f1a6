-- A request as data: `Request` with each JSON value that is judged later as its data.
use Rattle.std.specs.Prelude.{ℕ, ℤ, Bool, List, Option}
use Rattle.cell_core.specs.RawData.{RawData}
use Rattle.cell_core.specs.RawViews.{raw_view}
use Rattle.cell_core.specs.declared.cell.Cell.{Cell}
use Rattle.cell_core.specs.declared.schema.ColumnWords.{ColumnWords}
use Rattle.frame_types.specs.declared.request.FrameCause.{FrameCause}
use Rattle.frame_types.specs.declared.request.Request.{Request}
use Rattle.frame_types.specs.declared.request.Request.TheVariants as request
use Rattle.frame_types.specs.declared.request.Asked.{Asked}

pub data Ask : Type 0 where
  table : List ColumnWords → Option (List ℕ) → Option ℤ → Ask
  port : Ask
  leave : Ask
  info : Ask
  update : ℕ → RawData → Ask
  replace : ℕ → RawData → Ask
  csv : ℕ → List ℕ → Ask
  remove : ℕ → RawData → Ask
  clear : ℕ → Ask
  close_port : ℕ → Ask
  apply : ℕ → Ask
  open_view : RawData → ℕ → Ask
  edit_view : ℕ → RawData → Ask
  depth : ℕ → ℕ → Ask
  expand : ℕ → List Cell → Ask
  collapse : ℕ → List Cell → Ask
  take : ℕ → Bool → Ask
  rows : ℕ → ℕ → ℕ → Ask
  close : ℕ → Ask
  unread : FrameCause → Ask

abbrev pub request_view : Request → Ask
request_view (request.Table columns index limit) = table columns index limit
request_view request.Port = port
request_view request.Leave = leave
request_view request.Info = info
request_view (request.Update p r) = update p (raw_view r)
request_view (request.Replace p r) = replace p (raw_view r)
request_view (request.Csv p t) = csv p t
request_view (request.Remove p keys) = remove p (raw_view keys)
request_view (request.Clear p) = clear p
request_view (request.ClosePort p) = close_port p
request_view (request.Apply p) = apply p
request_view (request.Open plan bound) = open_view (raw_view plan) bound
request_view (request.Edit view plan) = edit_view view (raw_view plan)
request_view (request.Depth view to) = depth view to
request_view (request.Expand view path) = expand view path
request_view (request.Collapse view path) = collapse view path
request_view (request.Take view wait) = take view wait
request_view (request.Rows view first end) = rows view first end
request_view (request.Close view) = close view
request_view (request.Unread cause) = unread cause

-- a request and the session that asks it
abbrev pub asked_view : Asked → ℕ × Ask
asked_view a = (a.session, request_view a.request)
