-- What one call of the line reader gives, of what was held and what came.
use Rattle.std.specs.Prelude.{◌≡◌, ℕ, ◌+◌, ◌-◌, ◌^◌, ◌<◌, ◌≤◌, Bool, true, List, [], ◌∷◌, ◌++◌, length, take, Option, Result, Ok, Err, MatchBool}
use Rattle.std.specs.Io.KnownBytes.{Consumes}
use Rattle.io_ends.specs.Lines.{lines, NoEnd}
use Rattle.io_ends.specs.declared.line.Line.{Line}
use Rattle.io_ends.specs.declared.line.Line.TheVariants.{Words, Long, End}
use Rattle.io_ends.specs.declared.line.LineFault.{LineFault}
use Rattle.io_ends.specs.declared.line.LineFault.TheVariants.{Read, TooMany, Memory}

-- what a contract sees of a line reader
pub record ReaderState : Type 0 where
  -- the bytes that were given to it and not handed out yet
  pub held : List ℕ
  -- how many bytes it was given since it was made
  pub given : ℕ
  -- how many bytes a line has at most
  pub longest : ℕ
  -- whether a read has given the end
  pub ended : Bool
  -- whether a call has failed
  pub failed : Bool

-- text is the first line of the bytes and rest is what follows it: up to the first byte 10, or at the end all there is
abbrev pub IsFirst : List ℕ → List ℕ → List ℕ → Bool → Type 0
IsFirst bytes text rest ended = NoEnd text × MatchBool ended ((bytes ≡ text) × (rest ≡ []) × (0 < length text)) (bytes ≡ text ++ 10 ∷ rest)

-- the answer is the first line of the bytes, kept where it has at most `longest` of them; nothing at all is the end
abbrev pub Gives : ℕ → List ℕ → Line → List ℕ → Bool → Type 0
Gives longest bytes (Words text) rest ended = (length text ≤ longest) × IsFirst bytes text rest ended
Gives longest bytes Long rest ended = (text : List ℕ) × (longest < length text) × IsFirst bytes text rest ended
Gives longest bytes End rest ended = (bytes ≡ []) × (rest ≡ []) × (ended ≡ true)

-- of the same in a few words: the answer is the next of the lines of what is ahead, and the other lines are those of the rest
abbrev pub NextOf : ℕ → List ℕ → Line → List ℕ → Type 0
NextOf longest ahead (Words text) rest = (length text ≤ longest) × (lines ahead ≡ text ∷ lines rest)
NextOf longest ahead Long rest = (text : List ℕ) × (longest < length text) × (lines ahead ≡ text ∷ lines rest)
NextOf longest ahead End rest = (ahead ≡ []) × (rest ≡ [])

-- after a fault of the source no line ends in what was held and what came, as far as the limit goes
abbrev pub LeavesNone : LineFault → List ℕ → ℕ → List ℕ → Type 0
LeavesNone Read held given came = NoEnd (held ++ take (2 ^ 30 - given) came)
LeavesNone TooMany held given came = NoEnd (held ++ take (2 ^ 30 - given) came)
LeavesNone Memory held given came = Unit {0}

-- the bytes that came in the call: the source lost them, they were counted, and they have this fact
abbrev pub Came : Option (List ℕ) → Option (List ℕ) → ℕ → ℕ → (List ℕ → Type 0) → Type 0
Came before after given now P = (came : List ℕ) × Consumes before after came × (now ≡ given + length came) × P came

-- the answer is `TooMany` exactly where more than 2^30 bytes were given
abbrev pub IsWithin : {T : Type 0} → Result T LineFault → ℕ → Type 0
IsWithin (Ok answer) given = given ≤ 2 ^ 30
IsWithin (Err Read) given = given ≤ 2 ^ 30
IsWithin (Err TooMany) given = given ≡ 2 ^ 30 + 1
IsWithin (Err Memory) given = given ≤ 2 ^ 30

-- a line takes at least one byte of what is held and still may come
abbrev pub Takes : Line → ReaderState → ReaderState → Type 0
Takes (Words text) old new = old.given + length new.held < new.given + length old.held
Takes Long old new = old.given + length new.held < new.given + length old.held
Takes End old new = Unit {0}
