-- What notices do to hooks, one after the other.
use Rattle.std.specs.Prelude.{◌≡◌, List, [], ◌∷◌, map}
use Rattle.update_hooks.specs.declared.hook.TalliedHook.{TalliedHook}
use Rattle.update_hooks.specs.declared.hooks.Hooks.{Hooks}
use Rattle.update_hooks.specs.declared.notice.Notice.{Notice}
use Rattle.update_hooks.specs.Heard.{heard}

-- a hook that heard the notices in order
abbrev pub after : {H : Type 0} → (Notice → H → H) → List Notice → TalliedHook H → TalliedHook H
after step [] told = told
after step (n ∷ ns) told = after step ns (heard (step n) told)

-- each hook heard the notices, and no view ended
pub record HaveHeard {H J : Type 0} (step : Notice → H → H) (notices : List Notice) (old new : Hooks H J) : Type 0 where
  pub hooks : new.hooks.items ≡ map (after step notices) old.hooks.items
  pub jobs : new.jobs.items ≡ old.jobs.items
  pub ended : new.ended.items ≡ old.ended.items
