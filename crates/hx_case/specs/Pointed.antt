-- What is shown of a source: the line of a place, and below it a mark at its column.
use Rattle.std.specs.Prelude.{ℕ, zero, suc, ◌-◌, Bool, not, ◌&&◌, ◌||◌, ◌==◌, if◌then◌else◌, List, [], ◌∷◌, ◌++◌, take, map, flat_map, nat_lt, nat_le, Option, Some, None}
use Rattle.std.specs.List.{prefix_len}
use Rattle.hx_tree.specs.declared.token.Pos.{Pos}

-- what stands behind the first so many line feeds
abbrev pub behind_feeds : ℕ → List ℕ → List ℕ
behind_feeds zero bytes = bytes
behind_feeds (suc n) [] = []
behind_feeds (suc n) (b ∷ bs) = if b == 10 then behind_feeds n bs else behind_feeds (suc n) bs

abbrev pub is_in_line : ℕ → Bool
is_in_line b = not (b == 10)

-- the bytes before the first line feed
abbrev pub first_line : List ℕ → List ℕ
first_line bytes = take (prefix_len is_in_line bytes) bytes

-- the line of this number, counted from 1
abbrev pub line_at : ℕ → List ℕ → List ℕ
line_at n source = first_line (behind_feeds (n - 1) source)

-- a byte as it is shown: in place of one that prints nothing, other than a tab, stands a blank
abbrev pub shown : ℕ → ℕ
shown b = if (nat_lt b 32 && not (b == 9)) || b == 127 then 32 else b

-- what stands below a byte: a tab below a tab, nothing below a byte that goes on with a character, and else a blank
abbrev pub blank_below : ℕ → List ℕ
blank_below b = if b == 9 then 9 ∷ [] else (if nat_le 128 b && nat_lt b 192 then [] else 32 ∷ [])

-- the mark `^`, below the byte behind these
abbrev pub mark_below : List ℕ → List ℕ
mark_below bytes = flat_map blank_below bytes ++ 94 ∷ []

-- THE two lines, each with its end
abbrev pub pointed_at : List ℕ → Pos → List ℕ
pointed_at source p = (map shown (line_at p.line source) ++ 10 ∷ []) ++ (mark_below (take (p.col - 1) (line_at p.line source)) ++ 10 ∷ [])

-- nothing, where there is no place
abbrev pub pointed : List ℕ → Option Pos → List ℕ
pointed source None = []
pointed source (Some p) = pointed_at source p
