-- How a text is cut into tokens.
use Rattle.std.specs.Prelude.{ℕ, zero, suc, ◌+◌, ◌-◌, ◌*◌, ◌==◌, ◌||◌, pos, Bool, true, false, List, [], ◌∷◌, take, drop, fold, codes, Option, Some, None, option_map, if◌then◌else◌, nat_le, slice_index}
use Rattle.std.specs.List.{prefix_len}
use Rattle.std.specs.Str.{bytes_eq}
use Rattle.std.specs.Char.{is_ascii_digit, is_ascii_alphabetic, is_ascii_alphanumeric}
use Rattle.plan_types.specs.declared.tree.BinaryOp.TheVariants as op
use Rattle.expr_parse.specs.declared.token.Kind.{Kind}
use Rattle.expr_parse.specs.declared.token.Kind.TheVariants as kind
use Rattle.expr_parse.specs.declared.token.Token.{Token}
use Rattle.expr_parse.specs.declared.token.Lexeme.{Lexeme}
use Rattle.expr_parse.specs.Grammar.{token}

-- a token of that kind and of so many bytes
abbrev pub lexeme : Kind → ℕ → Lexeme
lexeme k n = record { kind = k; length = n }

-- a space, a tab, a line feed or a carriage return
abbrev pub is_blank : ℕ → Bool
is_blank b = b == 32 || b == 9 || b == 10 || b == 13

-- an underscore is a letter
abbrev pub begins_word : ℕ → Bool
begins_word b = is_ascii_alphabetic b || b == 95

-- what may stand behind a word's first letter
abbrev pub goes_on_word : ℕ → Bool
goes_on_word b = is_ascii_alphanumeric b || b == 95

-- ---- numbers

-- the number that digits spell; 48 is `0`
abbrev pub decimal : List ℕ → ℕ
decimal digits = fold (λ n d. n * 10 + (d - 48)) 0 digits

-- a number up to 2^53-1
unfoldable pub number_kind : List ℕ → Kind
number_kind digits = if nat_le (decimal digits) 9007199254740991 then kind.Number (pos (decimal digits)) else kind.TooLarge

-- ---- words

-- five words are their own tokens, and any other names a function
unfoldable pub word_kind : List ℕ → Kind
word_kind w =
    if bytes_eq w (codes "or") then kind.Operator op.Or else
    (if bytes_eq w (codes "and") then kind.Operator op.And else
    (if bytes_eq w (codes "not") then kind.Not else
    (if bytes_eq w (codes "true") then kind.Truth true else
    (if bytes_eq w (codes "false") then kind.Truth false else kind.Name w))))

-- ---- columns and texts; a backslash is 92

-- The place of the closing quote, where the bytes begin at that place. There is none where it isn't closed, and where a
-- backslash stands before another byte than that quote or a backslash.
unfoldable pub closing_quote : ℕ → Bool → ℕ → List ℕ → Option ℕ
closing_quote quote escaped at [] = None
closing_quote quote true at (b ∷ bs) = if b == quote || b == 92 then closing_quote quote false (at + 1) bs else None
closing_quote quote false at (b ∷ bs) = if b == quote then Some at else closing_quote quote (b == 92) (at + 1) bs

-- what stands between the quotes, each backslash dropped that makes the next byte stand for itself
unfoldable pub plain : Bool → List ℕ → List ℕ
plain escaped [] = []
plain true (b ∷ bs) = b ∷ plain false bs
plain false (b ∷ bs) = if b == 92 then plain true bs else b ∷ plain false bs

-- what the bytes behind an opening quote stand for, and how many bytes the quotes take with all between them
unfoldable pub quoted : ℕ → List ℕ → Option (List ℕ × ℕ)
quoted quote bs = option_map (λ n. (plain false (take n bs), n + 2)) (closing_quote quote false 0 bs)

-- quotes that don't close are a bad token at the opening one
abbrev pub quoted_token : (List ℕ → Kind) → Option (List ℕ × ℕ) → Lexeme
quoted_token make None = lexeme kind.Bad 1
quoted_token make (Some q) = lexeme (make q.0) q.1

-- ---- all tokens

-- the longest that begins with these two bytes
unfoldable pub symbol : ℕ → ℕ → Lexeme
symbol b next =
    if b == 40 then lexeme kind.Open 1 else  -- (
    (if b == 41 then lexeme kind.Close 1 else  -- )
    (if b == 44 then lexeme kind.Comma 1 else  -- ,
    (if b == 43 then lexeme (kind.Operator op.Plus) 1 else  -- +
    (if b == 45 then lexeme (kind.Operator op.Minus) 1 else  -- -
    (if b == 42 then lexeme (kind.Operator op.Times) 1 else  -- *
    (if b == 47 then lexeme (kind.Operator op.Quotient) 1 else  -- /
    (if b == 37 then lexeme (kind.Operator op.Rest) 1 else  -- %
    (if b == 61 then (if next == 61 then lexeme (kind.Operator op.Equal) 2 else lexeme kind.Bad 1) else  -- ==
    (if b == 33 then (if next == 61 then lexeme (kind.Operator op.Unequal) 2 else lexeme kind.Bad 1) else  -- !=
    (if b == 60 then (if next == 61 then lexeme (kind.Operator op.AtMost) 2 else lexeme (kind.Operator op.Less) 1) else  -- <= <
    (if b == 62 then (if next == 61 then lexeme (kind.Operator op.AtLeast) 2 else lexeme (kind.Operator op.Greater) 1) else  -- >= >
    lexeme kind.Bad 1)))))))))))

-- the longest token at the front of the bytes, of which b is the first
unfoldable pub front_token : ℕ → List ℕ → Lexeme
front_token b bs =
    if is_ascii_digit b then lexeme (number_kind (take (prefix_len is_ascii_digit bs) bs)) (prefix_len is_ascii_digit bs) else
    (if begins_word b then lexeme (word_kind (take (prefix_len goes_on_word bs) bs)) (prefix_len goes_on_word bs) else
    (if b == 34 then quoted_token kind.Column (quoted 34 (drop 1 bs)) else
    (if b == 39 then quoted_token kind.Words (quoted 39 (drop 1 bs)) else
    symbol b (slice_index bs 1))))

-- The tokens of bytes that stand from a place on, of which so many still belong to the token before them.
abbrev pub tokens_from : ℕ → ℕ → List ℕ → List Token
tokens_from at skipped [] = []
tokens_from at (suc n) (b ∷ bs) = tokens_from (at + 1) n bs
tokens_from at zero (b ∷ bs) =
    let t = front_token b (b ∷ bs) in
    if is_blank b then tokens_from (at + 1) 0 bs else token at t.kind ∷ tokens_from (at + 1) (t.length - 1) bs

-- the tokens of a text
abbrev pub tokens : List ℕ → List Token
tokens text = tokens_from 0 0 text
