-- Lines and columns. Lines end with LF and are counted from 1; columns count characters from 1.
use Rattle.std.specs.Prelude.{ℕ, ◌+◌, Bool, not, List, [], ◌∷◌, take, nat_le, nat_lt, ◌&&◌, cond}
use Rattle.std.specs.Char.{is_newline}
use Rattle.std.specs.List.{count_by, suffix_len}
use Rattle.std.specs.Str.{chars}
use Rattle.fsl_token.specs.declared.places.Place.{Place}

-- the place behind these characters: one line more than they have LFs, and one column more than there are characters behind the last LF
abbrev pub place_behind : List ℕ → Place
place_behind cs = record { line = 1 + count_by is_newline cs; col = 1 + suffix_len (λ c. not (is_newline c)) cs }

-- the place of the byte `at` of a text
abbrev pub place_of : List ℕ → ℕ → Place
place_of bytes at = place_behind (chars (take at bytes))

-- the bytes of a character behind its first one
abbrev pub is_continuation : ℕ → Bool
is_continuation b = nat_le 0x80 b && nat_lt b 0xc0

-- the same by bytes, of which only the first of each character counts
abbrev pub next_line : Place → Place
next_line p = record { line = p.line + 1; col = 1 }

abbrev pub next_col : Place → Place
next_col p = record { line = p.line; col = p.col + 1 }

abbrev pub after_byte : Place → ℕ → Place
after_byte p b = cond (is_newline b) (next_line p) (cond (is_continuation b) p (next_col p))

abbrev pub walk_bytes : Place → List ℕ → Place
walk_bytes p [] = p
walk_bytes p (b ∷ bs) = walk_bytes (after_byte p b) bs

-- the place of the byte `at` of any bytes; in a text it is `place_of`, where a character begins there
abbrev pub place_at : List ℕ → ℕ → Place
place_at bytes at = walk_bytes (record { line = 1; col = 1 }) (take at bytes)
