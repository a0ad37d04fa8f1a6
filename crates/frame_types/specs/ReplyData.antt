-- A reply as its parts, and what its type keeps.
use Rattle.std.specs.Prelude.{◌≡◌, ℕ, ⊤}
use Rattle.frame_types.specs.declared.reply.Body.{Body}
use Rattle.frame_types.specs.declared.reply.Body.TheVariants as body

pub record ReplyData : Type 0 where
  pub n : ℕ
  pub version : ℕ
  pub body : Body

-- a delta ends at that version
abbrev pub EndsAt : ℕ → Body → Type 0
EndsAt version (body.Delta delta view) = delta.to.version ≡ version
EndsAt version other = ⊤
