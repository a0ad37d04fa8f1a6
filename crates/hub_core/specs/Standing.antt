-- Which histories a hub stands for.
use Rattle.std.specs.Prelude.{◌≡◌, ℕ, ◌<◌, ◌^◌, List, length, slice_index}
use Rattle.frame_types.specs.Limits.{sessions}
use Rattle.hub_spec.specs.Past.{entries_of}
use Rattle.hub_spec.specs.Histories.{Entry, past_of, IsLegal}
use Rattle.hub_core.specs.Holding.{Holds}
use Rattle.hub_core.specs.declared.hub.Hub.{Hub}

pub record Stands (hub : Hub) (h : List Entry) : Type 0 where
  pub small : hub.limit < 2 ^ 53
  pub legal : IsLegal hub.limit h
  pub entries : hub.entries ≡ length h
  pub size : length hub.counts ≡ sessions
  pub counts : (session : ℕ) → session < sessions → slice_index hub.counts session ≡ entries_of (past_of hub.limit h) session
  pub machine : Holds hub.machine (past_of hub.limit h)

-- the hub has what this history leaves: its count of steps, each session's count, the table with its
-- rows, the batches that wait on each port, and the views that are held
unfoldable pub StandsFor : Hub → List Entry → Type 0
StandsFor hub h = Stands hub h

-- how many requests the hub answers
unfoldable pub limit_of : Hub → ℕ
limit_of hub = hub.limit
